-- Each test of a rule decides that rule.
use Rattle.std.proofs.Common.{◌≡◌, ℕ, zero, suc, ◌≤◌, Bool, true, false, ◌&&◌, leb, List, [], ◌∷◌, length, Decides, sym, refl, subst, inl, inr}
use Rattle.std.proofs.lemmas.Bool.{leb-true, le-leb, or_cases, or_left, or_right, both_ways}
use Rattle.std.proofs.lemmas.Bool.Decides.{Decides-and, Decides-or, Decides-ltb, Decides-eqb, Decides-not}
use Rattle.code.specs.declared.table.Edge.{Edge}
use Rattle.code.specs.declared.table.Entry.{Entry}
use Rattle.code.specs.declared.table.Header.{Header}
use Rattle.code.specs.Admission.{between, header_fits, short, edge_fits, entry_fits, edge_before, entry_before, any, same_pair, has_edge, has_entry, lone_edge}
use Rattle.code.specs.Places.{NumbersFit, Unfit}
use Rattle.code.specs.Rules.{Between, HeaderFits, EdgeFits, EntryFits, EdgeBefore, EntryBefore, Stands, HasEdge, HasEntry}
use Rattle.code.proofs.Least.{some_none}

pub decides_leb : (a b : ℕ) → Decides (leb a b) (a ≤ b)
decides_leb a b = (leb-true a b, le-leb a b)

pub decides_between : (low x high : ℕ) → Decides (between low x high) (Between low x high)
decides_between low x high = Decides-and _ _ (decides_leb low x) (decides_leb x high)

decides_header : (h : Header) → Decides (header_fits h) (HeaderFits h)
decides_header h =
    let d = Decides-and _ _ (Decides-and _ _ (Decides-and _ _ (Decides-and _ _ (Decides-and _ _ (decides_between 2 h.order 64) (decides_between 2 h.columns 256)) (decides_between 1 h.rows 128)) (Decides-ltb h.rows h.columns)) (decides_between 1 h.ceiling 1023)) (decides_between 1 h.limit 200) in (
      (λ e. let p = d.0 e in record { order = p.0.0.0.0.0; columns = p.0.0.0.0.1; rows = p.0.0.0.1; fewer = p.0.0.1; ceiling = p.0.1; limit = p.1 }),
      (λ r. d.1 (((((r.order, r.columns), r.rows), r.fewer), r.ceiling), r.limit)),
    )

pub decides_numbers : (h : Header) (es : List Edge) (ks : List Entry) → Decides (header_fits h && short es && short ks) (NumbersFit h es ks)
decides_numbers h es ks =
    let d = Decides-and _ _ (Decides-and _ _ (decides_header h) (decides_leb (length es) 1024)) (decides_leb (length ks) 1024) in
    ((λ e. let p = d.0 e in (p.0.0, p.0.1, p.1)), (λ r. d.1 ((r.0, r.1), r.2)))

pub decides_edge : (h : Header) (e : Edge) → Decides (edge_fits h e) (EdgeFits h e)
decides_edge h e =
    let d = Decides-and _ _ (Decides-and _ _ (Decides-and _ _ (Decides-ltb e.row h.rows) (Decides-ltb e.column h.columns)) (decides_leb 1 e.coefficient)) (Decides-ltb e.coefficient h.order) in (
      (λ t. let p = d.0 t in record { row = p.0.0.0; column = p.0.0.1; coefficient = p.0.1; code = p.1 }),
      (λ r. d.1 (((r.row, r.column), r.coefficient), r.code)),
    )

pub decides_entry : (h : Header) (x : Entry) → Decides (entry_fits h x) (EntryFits h x)
decides_entry h x =
    let d = Decides-and _ _ (Decides-ltb x.column h.columns) (Decides-ltb x.row h.rows) in
    ((λ t. let p = d.0 t in record { column = p.0; row = p.1 }), (λ r. d.1 (r.column, r.row)))

pub decides_edge_before : (a b : Edge) → Decides (edge_before a b) (EdgeBefore a b)
decides_edge_before a b = Decides-or _ _ (Decides-ltb a.row b.row) (Decides-and _ _ (Decides-eqb a.row b.row) (Decides-ltb a.column b.column))

pub decides_entry_before : (a b : Entry) → Decides (entry_before a b) (EntryBefore a b)
decides_entry_before a b = Decides-or _ _ (Decides-ltb a.column b.column) (Decides-and _ _ (Decides-eqb a.column b.column) (Decides-ltb a.row b.row))

-- some element of a list passes
module _ {A : Type 0} (t : A → Bool) where
  abbrev Passing : List A → Type 0
  Passing xs = (k : ℕ) × ((x : A) × ((Stands xs k x) × (t x ≡ true)))

  any_passing : (xs : List A) → any t xs ≡ true → Passing xs
  any_passing [] e = absurd (both_ways false refl e)
  any_passing (y ∷ ys) e =
      elim (or_cases (t y) (any t ys) e) [
        | inl h ↦ (0, (y, (refl, h)))
        | inr h ↦ let s = any_passing ys h in (suc s.0, (s.1.0, (s.1.1.0, s.1.1.1)))
      ]

  passing_any : (xs : List A) (k : ℕ) (x : A) → Stands xs k x → t x ≡ true → any t xs ≡ true
  passing_any [] k x s e = absurd (some_none x (sym s))
  passing_any (y ∷ ys) zero x s e = let h : y ≡ x = cc in or_left (t y) (any t ys) (subst (λ v. t v ≡ true) (sym h) e)
  passing_any (y ∷ ys) (suc k) x s e = or_right (t y) (any t ys) (passing_any ys k x s e)

decides_pair : (e : Edge) (x : Entry) → Decides (same_pair e x) ((e.row ≡ x.row) × (e.column ≡ x.column))
decides_pair e x = Decides-and _ _ (Decides-eqb e.row x.row) (Decides-eqb e.column x.column)

pub decides_has_edge : (es : List Edge) (x : Entry) → Decides (has_edge es x) (HasEdge es x.row x.column)
decides_has_edge es x = (
  (λ t. let s = any_passing (λ e. same_pair e x) es t in let p = (decides_pair s.1.0 x).0 s.1.1.1 in (s.0, (s.1.0, (s.1.1.0, p.0, p.1)))),
  (λ s. passing_any (λ e. same_pair e x) es s.0 s.1.0 s.1.1.0 ((decides_pair s.1.0 x).1 (s.1.1.1, s.1.1.2))),
)

pub decides_has_entry : (ks : List Entry) (e : Edge) → Decides (has_entry ks e) (HasEntry ks e.row e.column)
decides_has_entry ks e = (
  (λ t. let s = any_passing (same_pair e) ks t in let p = (decides_pair e s.1.0).0 s.1.1.1 in (s.0, (s.1.0, (s.1.1.0, sym p.0, sym p.1)))),
  (λ s. passing_any (same_pair e) ks s.0 s.1.0 s.1.1.0 ((decides_pair e s.1.0).1 (sym s.1.1.1, sym s.1.1.2))),
)

pub decides_lone_edge : (es : List Edge) (ks : List Entry) → Decides (any (lone_edge ks) es) ((k : ℕ) × Unfit (λ e. HasEntry ks e.row e.column) es k)
decides_lone_edge es ks =
    let d : (e : Edge) → Decides (lone_edge ks e) (HasEntry ks e.row e.column → ⊥) = λ e. Decides-not (has_entry ks e) (decides_has_entry ks e) in (
      (λ t. let s = any_passing (lone_edge ks) es t in (s.0, (s.1.0, (s.1.1.0, (d s.1.0).0 s.1.1.1)))),
      (λ s. passing_any (lone_edge ks) es s.0 s.1.0 s.1.1.0 ((d s.1.0).1 s.1.1.1)),
    )
