-- What a line that is read as a record looks like.
use Rattle.std.proofs.Common.{◌≡◌, ℕ, Bool, true, false, cond, eqb, List, [], ◌∷◌, ◌++◌, length, get_or, Some, None, Ok, decimal, Option, sym, refl, ap, ◌∙◌, subst, arith}
use Rattle.std.proofs.lemmas.Bool.{eqb-true, false≢true}
use Rattle.code.specs.declared.table.Edge.{Edge}
use Rattle.code.specs.declared.table.Entry.{Entry}
use Rattle.code.specs.declared.table.Header.{Header}
use Rattle.sheet.specs.declared.fault.Place.{Place}
use Rattle.sheet.specs.declared.token.Kind.{Kind}
use Rattle.sheet.specs.declared.token.Kind.TheVariants as kind
use Rattle.sheet.specs.declared.line.Due.{Due}
use Rattle.sheet.specs.declared.line.Due.TheVariants as due
use Rattle.sheet.specs.declared.line.Record.{Record}
use Rattle.sheet.specs.declared.line.Record.TheVariants as rec
use Rattle.sheet.specs.Pieces.{split, fields}
use Rattle.sheet.specs.Lines.{cell, numeral, ceiling_of, ranged, arity, is_due, kind_due, header_of, edge_of, entry_of, header_from, edge_from, entry_from, header_line, record_line, by_kind}
use Rattle.sheet.specs.Grammar.{header_text, edge_text, entry_text, end_text, Spelled}
use Rattle.sheet.proofs.Tests.{ok_same, passed, Begins, begins, one_letter}
use Rattle.sheet.proofs.Spelling.{one_byte, numeral_spelled, ceiling_spelled}
use Rattle.sheet.proofs.Glue.{glue, glue_split}

letter_of : Kind → ℕ
letter_of kind.Header = 67
letter_of kind.Edge = 69
letter_of kind.Entry = 75
letter_of kind.End = 90

letter_cond : (s t u v : Bool) (b : ℕ) (k : Kind) → eqb b 67 ≡ s → eqb b 69 ≡ t → eqb b 75 ≡ u → eqb b 90 ≡ v → cond {A = Option Kind} s (Some kind.Header) (cond t (Some kind.Edge) (cond u (Some kind.Entry) (cond v (Some kind.End) None))) ≡ Some k → b ≡ letter_of k
unfolding letter_of
letter_cond true t u v b k g₁ g₂ g₃ g₄ e = let same : kind.Header ≡ k = cc in eqb-true b 67 g₁ ∙ ap letter_of same
letter_cond false true u v b k g₁ g₂ g₃ g₄ e = let same : kind.Edge ≡ k = cc in eqb-true b 69 g₂ ∙ ap letter_of same
letter_cond false false true v b k g₁ g₂ g₃ g₄ e = let same : kind.Entry ≡ k = cc in eqb-true b 75 g₃ ∙ ap letter_of same
letter_cond false false false true b k g₁ g₂ g₃ g₄ e = let same : kind.End ≡ k = cc in eqb-true b 90 g₄ ∙ ap letter_of same
letter_cond false false false false b k g₁ g₂ g₃ g₄ e = absurd (let z : ◌≡◌ {A = ℕ} 0 1 = cc in omega arith)

-- the first field is the letter of the kind
letter_field : (d : Due) (k : Kind) (fs : List (List ℕ)) → Begins d k fs → get_or fs 0 [] ≡ letter_of k ∷ []
letter_field d k fs b =
    let o = one_letter (get_or fs 0 []) k b.kind in
    let x = get_or (get_or fs 0 []) 0 0 in
    one_byte (get_or fs 0 []) (letter_of k) o.0 (letter_cond (eqb x 67) (eqb x 69) (eqb x 75) (eqb x 90) x k refl refl refl refl o.1)

list_1 : (fs : List (List ℕ)) → length fs ≡ 1 → fs ≡ get_or fs 0 [] ∷ []
list_1 [] h = absurd (omega arith)
list_1 (a ∷ []) h = refl
list_1 (a ∷ (b ∷ r)) h = absurd (omega arith)

list_3 : (fs : List (List ℕ)) → length fs ≡ 3 → fs ≡ get_or fs 0 [] ∷ get_or fs 1 [] ∷ get_or fs 2 [] ∷ []
list_3 [] h = absurd (omega arith)
list_3 (a ∷ []) h = absurd (omega arith)
list_3 (a ∷ (b ∷ [])) h = absurd (omega arith)
list_3 (a ∷ (b ∷ (c ∷ []))) h = refl
list_3 (a ∷ (b ∷ (c ∷ (d ∷ r)))) h = absurd (omega arith)

list_4 : (fs : List (List ℕ)) → length fs ≡ 4 → fs ≡ get_or fs 0 [] ∷ get_or fs 1 [] ∷ get_or fs 2 [] ∷ get_or fs 3 [] ∷ []
list_4 [] h = absurd (omega arith)
list_4 (a ∷ r) h = ap (λ t. a ∷ t) (list_3 r (omega arith))

list_6 : (fs : List (List ℕ)) → length fs ≡ 6 → fs ≡ get_or fs 0 [] ∷ get_or fs 1 [] ∷ get_or fs 2 [] ∷ get_or fs 3 [] ∷ get_or fs 4 [] ∷ get_or fs 5 [] ∷ []
list_6 [] h = absurd (omega arith)
list_6 (a ∷ []) h = absurd (omega arith)
list_6 (a ∷ (b ∷ r)) h = ap (λ t. a ∷ b ∷ t) (list_4 r (omega arith))

-- a line whose fields are known
whole_line : (l : List ℕ) (fs : List (List ℕ)) → split 9 l ≡ fs → l ++ (10 ∷ []) ≡ glue 9 fs ++ (10 ∷ [])
whole_line l fs e = ap (λ t. t ++ (10 ∷ [])) (glue_split 9 l ∙ ap (glue 9) e)

record_kind_is : (d : Due) (h : Header) (p : Place) (fs : List (List ℕ)) (r : Record) → record_line d h p fs ≡ Ok r → (k : Kind) × Begins d k fs × (by_kind k h p fs ≡ Ok r)
unfolding record_line
record_kind_is d h p fs r e = let s = passed (kind_due d p fs) _ r e in (s.0, begins d p fs s.0 s.1, s.2)

-- ---- edges

edge_kind : (k : Kind) (h : Header) (p : Place) (fs : List (List ℕ)) (x : Edge) → by_kind k h p fs ≡ Ok (rec.Edge x) → (k ≡ kind.Edge) × (edge_from h p fs ≡ Ok x)
edge_kind kind.Header h p fs x e = absurd (let z : ◌≡◌ {A = ℕ} 0 1 = cc in omega arith)
edge_kind kind.Edge h p fs x e = let s = passed (edge_from h p fs) _ (rec.Edge x) e in let f : Ok (rec.Edge s.0) ≡ Ok (rec.Edge x) = s.2 in let same : s.0 ≡ x = cc f in (refl, s.1 ∙ ap Ok same)
edge_kind kind.Entry h p fs x e = let s = passed (entry_from h p fs) _ (rec.Edge x) e in let f : Ok (rec.Entry s.0) ≡ Ok (rec.Edge x) = s.2 in absurd (let z : ◌≡◌ {A = ℕ} 0 1 = cc f in omega arith)
edge_kind kind.End h p fs x e = absurd (let z : ◌≡◌ {A = ℕ} 0 1 = cc in omega arith)

edge_fields : (h : Header) (p : Place) (fs : List (List ℕ)) (x : Edge) → edge_from h p fs ≡ Ok x → (get_or fs 1 [] ≡ decimal x.row) × (get_or fs 2 [] ≡ decimal x.column) × (get_or fs 3 [] ≡ decimal x.coefficient)
unfolding edge_of
edge_fields h p fs x e =
    let a = passed (numeral (cell p fs 1)) _ x e in
    let b = passed (numeral (cell p fs 2)) _ x a.2 in
    let c = passed (numeral (cell p fs 3)) _ x b.2 in
    let r = passed (ranged (cell p fs 1) 0 h.rows a.0) _ x c.2 in
    let s = passed (ranged (cell p fs 2) 0 h.columns b.0) _ x r.2 in
    let t = passed (ranged (cell p fs 3) 1 h.order c.0) _ x s.2 in
    let same : record { row = a.0; column = b.0; coefficient = c.0 } ≡ x = ok_same _ x t.2 in
    (numeral_spelled p fs 1 a.0 a.1 ∙ ap (λ (v : Edge). decimal v.row) same, numeral_spelled p fs 2 b.0 b.1 ∙ ap (λ (v : Edge). decimal v.column) same, numeral_spelled p fs 3 c.0 c.1 ∙ ap (λ (v : Edge). decimal v.coefficient) same)

pub edge_line : (d : Due) (h : Header) (p : Place) (l : List ℕ) (x : Edge) → record_line d h p (fields l) ≡ Ok (rec.Edge x) → (is_due d kind.Edge ≡ true) × (l ++ (10 ∷ []) ≡ edge_text x)
unfolding letter_of
edge_line d h p l x e =
    let s = record_kind_is d h p (fields l) (rec.Edge x) e in
    let k = edge_kind s.0 h p (fields l) x s.2 in
    let f = edge_fields h p (fields l) x k.1 in
    let b = s.1 in
    let c = letter_field d s.0 (fields l) b ∙ ap (λ j. letter_of j ∷ []) k.0 in
    (ap (is_due d) (sym k.0) ∙ b.due, whole_line l _ (list_4 (fields l) (b.count ∙ ap arity k.0) ∙ (λ i. c i ∷ f.0 i ∷ f.1 i ∷ f.2 i ∷ [])))

-- ---- entries

entry_kind : (k : Kind) (h : Header) (p : Place) (fs : List (List ℕ)) (x : Entry) → by_kind k h p fs ≡ Ok (rec.Entry x) → (k ≡ kind.Entry) × (entry_from h p fs ≡ Ok x)
entry_kind kind.Header h p fs x e = absurd (let z : ◌≡◌ {A = ℕ} 0 1 = cc in omega arith)
entry_kind kind.Edge h p fs x e = let s = passed (edge_from h p fs) _ (rec.Entry x) e in let f : Ok (rec.Edge s.0) ≡ Ok (rec.Entry x) = s.2 in absurd (let z : ◌≡◌ {A = ℕ} 0 1 = cc f in omega arith)
entry_kind kind.Entry h p fs x e = let s = passed (entry_from h p fs) _ (rec.Entry x) e in let f : Ok (rec.Entry s.0) ≡ Ok (rec.Entry x) = s.2 in let same : s.0 ≡ x = cc f in (refl, s.1 ∙ ap Ok same)
entry_kind kind.End h p fs x e = absurd (let z : ◌≡◌ {A = ℕ} 0 1 = cc in omega arith)

entry_fields : (h : Header) (p : Place) (fs : List (List ℕ)) (x : Entry) → entry_from h p fs ≡ Ok x → (get_or fs 1 [] ≡ decimal x.column) × (get_or fs 2 [] ≡ decimal x.row)
unfolding entry_of
entry_fields h p fs x e =
    let a = passed (numeral (cell p fs 1)) _ x e in
    let b = passed (numeral (cell p fs 2)) _ x a.2 in
    let r = passed (ranged (cell p fs 1) 0 h.columns a.0) _ x b.2 in
    let s = passed (ranged (cell p fs 2) 0 h.rows b.0) _ x r.2 in
    let same : record { column = a.0; row = b.0 } ≡ x = ok_same _ x s.2 in
    (numeral_spelled p fs 1 a.0 a.1 ∙ ap (λ (v : Entry). decimal v.column) same, numeral_spelled p fs 2 b.0 b.1 ∙ ap (λ (v : Entry). decimal v.row) same)

pub entry_line : (d : Due) (h : Header) (p : Place) (l : List ℕ) (x : Entry) → record_line d h p (fields l) ≡ Ok (rec.Entry x) → (is_due d kind.Entry ≡ true) × (l ++ (10 ∷ []) ≡ entry_text x)
unfolding letter_of
entry_line d h p l x e =
    let s = record_kind_is d h p (fields l) (rec.Entry x) e in
    let k = entry_kind s.0 h p (fields l) x s.2 in
    let f = entry_fields h p (fields l) x k.1 in
    let b = s.1 in
    let c = letter_field d s.0 (fields l) b ∙ ap (λ j. letter_of j ∷ []) k.0 in
    (ap (is_due d) (sym k.0) ∙ b.due, whole_line l _ (list_3 (fields l) (b.count ∙ ap arity k.0) ∙ (λ i. c i ∷ f.0 i ∷ f.1 i ∷ [])))

-- ---- the end

end_kind : (k : Kind) (h : Header) (p : Place) (fs : List (List ℕ)) → by_kind k h p fs ≡ Ok rec.End → k ≡ kind.End
end_kind kind.Header h p fs e = absurd (let z : ◌≡◌ {A = ℕ} 0 1 = cc in omega arith)
end_kind kind.Edge h p fs e = let s = passed (edge_from h p fs) _ rec.End e in let f : Ok (rec.Edge s.0) ≡ Ok rec.End = s.2 in absurd (let z : ◌≡◌ {A = ℕ} 0 1 = cc f in omega arith)
end_kind kind.Entry h p fs e = let s = passed (entry_from h p fs) _ rec.End e in let f : Ok (rec.Entry s.0) ≡ Ok rec.End = s.2 in absurd (let z : ◌≡◌ {A = ℕ} 0 1 = cc f in omega arith)
end_kind kind.End h p fs e = refl

pub end_line : (d : Due) (h : Header) (p : Place) (l : List ℕ) → record_line d h p (fields l) ≡ Ok rec.End → (is_due d kind.End ≡ true) × (l ++ (10 ∷ []) ≡ end_text)
unfolding letter_of
end_line d h p l e =
    let s = record_kind_is d h p (fields l) rec.End e in
    let k = end_kind s.0 h p (fields l) s.2 in
    let b = s.1 in
    let c = letter_field d s.0 (fields l) b ∙ ap (λ j. letter_of j ∷ []) k in
    (ap (is_due d) (sym k) ∙ b.due, whole_line l _ (list_1 (fields l) (b.count ∙ ap arity k) ∙ (λ i. c i ∷ [])))

-- ---- the header

header_due : (k : Kind) (fs : List (List ℕ)) → Begins due.Header k fs → k ≡ kind.Header
header_due kind.Header fs b = refl
header_due kind.Edge fs b = absurd (false≢true b.due)
header_due kind.Entry fs b = absurd (false≢true b.due)
header_due kind.End fs b = absurd (false≢true b.due)

pub record HeaderFields (h : Header) (fs : List (List ℕ)) : Type 0 where
  pub order : get_or fs 1 [] ≡ decimal h.order
  pub columns : get_or fs 2 [] ≡ decimal h.columns
  pub rows : get_or fs 3 [] ≡ decimal h.rows
  pub ceiling : Spelled h.ceiling (get_or fs 4 [])
  pub limit : get_or fs 5 [] ≡ decimal h.limit

header_fields : (p : Place) (fs : List (List ℕ)) (h : Header) → header_from p fs ≡ Ok h → HeaderFields h fs
unfolding header_of
header_fields p fs h e =
    let a = passed (numeral (cell p fs 1)) _ h e in
    let b = passed (numeral (cell p fs 2)) _ h a.2 in
    let c = passed (numeral (cell p fs 3)) _ h b.2 in
    let d = passed (ceiling_of (cell p fs 4)) _ h c.2 in
    let l = passed (numeral (cell p fs 5)) _ h d.2 in
    let r1 = passed (ranged (cell p fs 1) 2 65 a.0) _ h l.2 in
    let r2 = passed (ranged (cell p fs 2) 2 257 b.0) _ h r1.2 in
    let r3 = passed (ranged (cell p fs 3) 1 129 c.0) _ h r2.2 in
    let r4 = passed (ranged (cell p fs 3) 1 b.0 c.0) _ h r3.2 in
    let r5 = passed (ranged (cell p fs 4) 1 1024 d.0) _ h r4.2 in
    let r6 = passed (ranged (cell p fs 5) 1 201 l.0) _ h r5.2 in
    let same : record { order = a.0; columns = b.0; rows = c.0; ceiling = d.0; limit = l.0 } ≡ h = ok_same _ h r6.2 in
    record {
      order = numeral_spelled p fs 1 a.0 a.1 ∙ ap (λ (v : Header). decimal v.order) same;
      columns = numeral_spelled p fs 2 b.0 b.1 ∙ ap (λ (v : Header). decimal v.columns) same;
      rows = numeral_spelled p fs 3 c.0 c.1 ∙ ap (λ (v : Header). decimal v.rows) same;
      ceiling = subst (λ (v : Header). Spelled v.ceiling (get_or fs 4 [])) same (ceiling_spelled p fs 4 d.0 d.1);
      limit = numeral_spelled p fs 5 l.0 l.1 ∙ ap (λ (v : Header). decimal v.limit) same;
    }

pub header_line_is : (p : Place) (l : List ℕ) (h : Header) → header_line p (fields l) ≡ Ok h → (c : List ℕ) × Spelled h.ceiling c × (l ++ (10 ∷ []) ≡ header_text h c)
unfolding header_line letter_of
header_line_is p l h e =
    let fs = fields l in
    let s = passed (kind_due due.Header p fs) _ h e in
    let b = begins due.Header p fs s.0 s.1 in
    let k = header_due s.0 fs b in
    let f = header_fields p fs h s.2 in
    let c = letter_field due.Header s.0 fs b ∙ ap (λ j. letter_of j ∷ []) k in
    (get_or fs 4 [], f.ceiling, whole_line l _ (list_6 fs (b.count ∙ ap arity k) ∙ (λ i. c i ∷ f.order i ∷ f.columns i ∷ f.rows i ∷ get_or fs 4 [] ∷ f.limit i ∷ [])))
