-- What the shared words mean, and the law of the from-check cost. Assumes nothing.
use Rattle.std.proofs.Common.{◌≡◌, ℕ, zero, suc, ◌+◌, ◌<◌, ◌≤◌, max, Bool, true, false, cond, not, ◌&&◌, eqb, ltb, ◌≢◌, ◌⊎◌, ◌↔◌, List, [], ◌∷◌, length, get_or, Some, sym, refl, ap, ◌∙◌, subst, ap₂, inl, inr, true≢false, arith}
use native.Mathlib.Decide.{dec_le}
use Rattle.std.specs.List.{slice_get}
use Rattle.std.proofs.lemmas.Bool.{cases_eq, eq-eqb, ne_eqb, eqb-true, ltb-true, ltb-false, cond_both, and_from, and_parts}
use Rattle.code.specs.declared.table.Edge.{Edge}
use Rattle.code.specs.Rules.{Stands}
use Rattle.code.specs.Views.{View}
use Rattle.tree.specs.Over.{over, total, greatest, least_to, lowest_to}
use Rattle.tree.specs.Places.{width, no_edge, edge_at, row_of, column_of, coefficient_of, at_column, at_edge, arms, others, Arm, Other}
use Rattle.tree.specs.Tree.{lower}
use Rattle.tree.specs.Statement.{FromStands, WordsOf, SumsAre, WordsStand}
use Rattle.tree.proofs.Laws.{laws_of}
use Rattle.tree.proofs.Facts.{facts, stands}
use Rattle.tree.proofs.Folds.{over_tests, greatest_within, least_reached, least_under, below_suc}
use Rattle.tree.proofs.Best.{products, another, from_hit, from_under}

pub nth_at : {A : Type 0} (xs : List A) (i : ℕ) (d x : A) → slice_get xs i ≡ Some x → (i < length xs) × (get_or xs i d ≡ x)
nth_at [] i d x e = absurd (let z : ◌≡◌ {A = ℕ} 0 1 = cc in let w : ⊥ = omega arith in w)
nth_at (y ∷ ys) zero d x e = (omega arith, cc)
nth_at (y ∷ ys) (suc i) d x e = let r = nth_at ys i d x e in (omega (arith, r.0), r.1)

and_all : (b : Bool) → b ≡ (b && not false)
and_all true = refl
and_all false = refl

and_none : (b : Bool) → (b && not true) ≡ false
and_none true = refl
and_none false = refl

not_is : (b : Bool) → not b ≡ true → b ≡ false
not_is true e = absurd (true≢false (sym e))
not_is false e = refl

-- ---- edges around an edge
module _ (K : View) where
  edge_is : (x : ℕ) (d : Edge) → Stands K.edges x d → (x < width K) × (row_of K x ≡ d.row) × (column_of K x ≡ d.column) × (coefficient_of K x ≡ d.coefficient)
  edge_is x d s = let r = nth_at K.edges x no_edge d s in (r.0, ap (λ y. y.row) r.1, ap (λ y. y.column) r.1, ap (λ y. y.coefficient) r.1)

  apart : (x e : ℕ) → not (eqb x e) ≡ true → x ≢ e
  apart x e t s = true≢false (sym (eq-eqb x e s) ∙ not_is (eqb x e) t)

  pub words_of : WordsOf K
  unfolding arms others lower
  words_of = record {
    edge = edge_is;
    arm_of_column = of_column;
    arm_of_edge = of_edge;
    other = of_row;
    lowered = λ e v. (λ h. omega arith, λ h. omega arith);
    not_lowered = λ c v. refl;
  }
    where
      of_column : (c x : ℕ) → Arm K (at_column c) x ↔ ((d : Edge) × (Stands K.edges x d × (d.column ≡ c)))
      of_column c x = (
        λ a. (edge_at K x, (stands K x a.within, eqb-true (column_of K x) c a.passes)),
        λ w. let r = edge_is x w.0 w.1.0 in record { within = r.0; passes = eq-eqb (column_of K x) c (r.2 ∙ w.1.1) },
      )

      of_edge : (e x : ℕ) (g : Edge) → Stands K.edges e g → Arm K (at_edge e) x ↔ ((d : Edge) × (Stands K.edges x d × (d.column ≡ g.column) × (x ≢ e)))
      of_edge e x g s =
          let q = edge_is e g s in (
            λ a. let p = and_parts (eqb (column_of K x) (column_of K e)) (not (eqb x e)) a.passes in
                (edge_at K x, (stands K x a.within, eqb-true (column_of K x) (column_of K e) p.0 ∙ q.2, apart x e p.1)),
            λ w. let r = edge_is x w.0 w.1.0 in record {
              within = r.0;
              passes = and_from (eqb (column_of K x) (column_of K e)) (not (eqb x e)) (eq-eqb (column_of K x) (column_of K e) (r.2 ∙ w.1.1 ∙ sym q.2)) (ap not (ne_eqb x e w.1.2));
            },
          )

      of_row : (e x : ℕ) (g : Edge) → Stands K.edges e g → Other K e x ↔ ((d : Edge) × (Stands K.edges x d × (d.row ≡ g.row) × (x ≢ e)))
      of_row e x g s =
          let q = edge_is e g s in (
            λ a. let p = and_parts (eqb (row_of K x) (row_of K e)) (not (eqb x e)) a.passes in
                (edge_at K x, (stands K x a.within, eqb-true (row_of K x) (row_of K e) p.0 ∙ q.1, apart x e p.1)),
            λ w. let r = edge_is x w.0 w.1.0 in record {
              within = r.0;
              passes = and_from (eqb (row_of K x) (row_of K e)) (not (eqb x e)) (eq-eqb (row_of K x) (row_of K e) (r.1 ∙ w.1.1 ∙ sym q.1)) (ap not (ne_eqb x e w.1.2));
            },
          )

-- ---- sums and greatest
pub over_none : (op : ℕ → ℕ → ℕ) (u n : ℕ) (test : ℕ → Bool) (f : ℕ → ℕ) → ((x : ℕ) → x < n → test x ≡ true → ⊥) → over op u n test f ≡ u
unfolding over
over_none op u zero test f h = refl
over_none op u (suc n) test f h = cond_both (test n) (op (f n) (over op u n test f)) (over op u n test f) (λ z. z ≡ u)
    (λ e. absurd (h n (omega arith) e)) (λ e. over_none op u n test f (λ x l. h x (omega arith)))

-- a total less one of its parts
pub except : (n : ℕ) (test : ℕ → Bool) (f : ℕ → ℕ) (x : ℕ) → x < n → test x ≡ true → total n test f ≡ f x + total n (λ y. test y && not (eqb y x)) f
unfolding over
except zero test f x h t = absurd (let z : ⊥ = omega arith in z)
except (suc n) test f x h t = go (λ k. except n test f x k t) (cases_eq n x)
  where
    rest : ℕ
    rest = total n (λ y. test y && not (eqb y x)) f

    go : (x < n → total n test f ≡ f x + rest) → (n ≡ x) ⊎ (n ≡ x → ⊥) →
        cond (test n) (f n + total n test f) (total n test f) ≡ f x + cond (test n && not (eqb n x)) (f n + rest) rest
    go ih (inl e) =
        let tn : test n ≡ true = ap test e ∙ t in
        let same : total n test f ≡ rest = over_tests ◌+◌ 0 n test (λ y. test y && not (eqb y x)) f (λ y l. and_all (test y) ∙ ap (λ b. test y && not b) (sym (ne_eqb y x (λ z. absurd (let w : ⊥ = omega arith in w))))) in
        let a : cond (test n) (f n + total n test f) (total n test f) ≡ f n + total n test f = ap (λ b. cond b (f n + total n test f) (total n test f)) tn in
        let b : cond (test n && not (eqb n x)) (f n + rest) rest ≡ rest = ap (λ b. cond b (f n + rest) rest) (ap (λ b. test n && not b) (eq-eqb n x e) ∙ and_none (test n)) in
        a ∙ ap₂ ◌+◌ (ap f e) same ∙ ap (λ z. f x + z) (sym b)
    go ih (inr m) =
        let k : x < n = below m in
        let i = ih k in
        let b : (test n && not (eqb n x)) ≡ test n = ap (λ b. test n && not b) (ne_eqb n x m) ∙ sym (and_all (test n)) in
        pick (test n) i ∙ ap (λ b. f x + cond b (f n + rest) rest) (sym b)
      where
        below : (n ≡ x → ⊥) → x < n
        below m = let ne : n ≢ x = m in omega arith

        pick : (b : Bool) → total n test f ≡ f x + rest → cond b (f n + total n test f) (total n test f) ≡ f x + cond b (f n + rest) rest
        pick true e = omega arith
        pick false e = e

pub greatest_above : (n : ℕ) (test : ℕ → Bool) (f : ℕ → ℕ) (x : ℕ) → x < n → test x ≡ true → f x ≤ greatest n test f
unfolding over
greatest_above zero test f x h t = absurd (let z : ⊥ = omega arith in z)
greatest_above (suc n) test f x h t =
    below_suc (λ x. test x ≡ true → f x ≤ cond (test n) (max (f n) (greatest n test f)) (greatest n test f)) n
    (λ y l ty. let ih = greatest_above n test f y l ty in cond_both (test n) (max (f n) (greatest n test f)) (greatest n test f) (λ z. f y ≤ z) (λ e. omega arith) (λ e. ih))
    (λ tn. rw tn (omega arith)) x h t

Hits : (n : ℕ) (test : ℕ → Bool) (f : ℕ → ℕ) (v : ℕ) → Type 0
Hits n test f v = (y : ℕ) × (y < n) × (test y ≡ true) × (f y ≡ v)

-- none passes, or the greatest is reached
greatest_or : (n : ℕ) (test : ℕ → Bool) (f : ℕ → ℕ) → ((x : ℕ) → x < n → test x ≡ true → ⊥) ⊎ Hits n test f (greatest n test f)
unfolding over Hits
greatest_or zero test f = inl (λ x h t. omega arith)
greatest_or (suc n) test f = go (greatest_or n test f) (test n) refl (dec_le (greatest n test f) (f n))
  where
    go : ((x : ℕ) → x < n → test x ≡ true → ⊥) ⊎ Hits n test f (greatest n test f) → (b : Bool) → test n ≡ b → Dec (greatest n test f ≤ f n) →
        ((x : ℕ) → x < suc n → test x ≡ true → ⊥) ⊎ Hits (suc n) test f (cond b (max (f n) (greatest n test f)) (greatest n test f))
    go (inl h) true e d = inr (n, omega arith, e, (let z : greatest n test f ≡ 0 = over_none max 0 n test f h in omega arith))
    go (inl h) false e d = inl (below_suc (λ x. test x ≡ true → ⊥) n h (λ t. true≢false (sym t ∙ e)))
    go (inr w) true e (yes k) = inr (n, omega arith, e, omega arith)
    go (inr w) true e (no k) = inr (w.0, omega (arith, w.1), w.2, omega (arith, w.3))
    go (inr w) false e d = inr (w.0, omega (arith, w.1), w.2, w.3)

pub greatest_hit : (n : ℕ) (test : ℕ → Bool) (f : ℕ → ℕ) (x : ℕ) → x < n → test x ≡ true → (y : ℕ) × (y < n) × (test y ≡ true) × (f y ≡ greatest n test f)
unfolding Hits
greatest_hit n test f x h t = go (greatest_or n test f)
  where
    go : ((x : ℕ) → x < n → test x ≡ true → ⊥) ⊎ Hits n test f (greatest n test f) → (y : ℕ) × (y < n) × (test y ≡ true) × (f y ≡ greatest n test f)
    go (inl k) = absurd (k x h t)
    go (inr w) = w

-- ---- the lowest code of least cost
pub lowest_low : (n : ℕ) (f : ℕ → ℕ) → lowest_to n f ≤ n
unfolding lowest_to
lowest_low zero f = omega arith
lowest_low (suc n) f = cond_both (ltb (f (suc n)) (f (lowest_to n f))) (suc n) (lowest_to n f) (λ x. x ≤ suc n) (λ e. omega arith) (λ e. omega (arith, lowest_low n f))

pub lowest_under : (n : ℕ) (f : ℕ → ℕ) (b : ℕ) → b ≤ n → f (lowest_to n f) ≤ f b
unfolding lowest_to
lowest_under zero f b h = subst (λ x. f 0 ≤ f x) (let e : 0 ≡ b = omega arith in e) (omega arith)
lowest_under (suc n) f b h = go (λ x k. lowest_under n f x k) (ltb (f (suc n)) (f (lowest_to n f))) refl (dec_le b n)
  where
    go : ((x : ℕ) → x ≤ n → f (lowest_to n f) ≤ f x) → (t : Bool) → ltb (f (suc n)) (f (lowest_to n f)) ≡ t → Dec (b ≤ n) → f (cond t (suc n) (lowest_to n f)) ≤ f b
    go ih true e (yes k) = omega (arith, ih b k, ltb-true (f (suc n)) (f (lowest_to n f)) e)
    go ih true e (no k) = subst (λ x. f (suc n) ≤ f x) (let q : suc n ≡ b = omega arith in q) (omega arith)
    go ih false e (yes k) = ih b k
    go ih false e (no k) = subst (λ x. f (lowest_to n f) ≤ f x) (let q : suc n ≡ b = omega arith in q) (ltb-false (f (suc n)) (f (lowest_to n f)) e)

pub lowest_lowest : (n : ℕ) (f : ℕ → ℕ) (b : ℕ) → b ≤ n → f b ≡ f (lowest_to n f) → lowest_to n f ≤ b
unfolding lowest_to
lowest_lowest zero f b h e = omega arith
lowest_lowest (suc n) f b h e = go (λ x k. lowest_lowest n f x k) (ltb (f (suc n)) (f (lowest_to n f))) refl e (dec_le b n)
  where
    go : ((x : ℕ) → x ≤ n → f x ≡ f (lowest_to n f) → lowest_to n f ≤ x) → (t : Bool) → ltb (f (suc n)) (f (lowest_to n f)) ≡ t → f b ≡ f (cond t (suc n) (lowest_to n f)) → Dec (b ≤ n) → cond t (suc n) (lowest_to n f) ≤ b
    go ih true t e (yes k) = absurd (let z : ⊥ = omega (arith, lowest_under n f b k, ltb-true (f (suc n)) (f (lowest_to n f)) t) in z)
    go ih true t e (no k) = omega arith
    go ih false t e (yes k) = ih b k e
    go ih false t e (no k) = omega (arith, lowest_low n f)

pub lowest_least : (n : ℕ) (f : ℕ → ℕ) → f (lowest_to n f) ≡ least_to n f
lowest_least n f =
    let r = least_reached n f in
    let one = lowest_under n f r.0 r.1 in
    let two = least_under n f (lowest_to n f) (lowest_low n f) in
    omega (arith, r.2)

sums_are : SumsAre
sums_are = record {
  none = λ n test f h. (over_none ◌+◌ 0 n test f h, over_none max 0 n test f h);
  one_more = except;
  above = greatest_above;
  hit = greatest_hit;
  least = λ n f. (least_reached n f, least_under n f);
  lowest = λ n f. (lowest_low n f, lowest_least n f, λ b h e. lowest_lowest n f b h (e ∙ sym (lowest_least n f)));
}

pub words_theorem : WordsStand
words_theorem = (words_of, sums_are)

-- ---- the from-check cost
pub from_theorem : FromStands
unfolding products
from_theorem F L K R orders costs low e a h l =
    let Q = laws_of F L K.header.order orders in
    let A = facts K R in
    let H = from_hit F K Q A costs low e a h l in
    let w = another F K Q A costs e h in
    let g = greatest_hit (width K) (others K e) (λ x. costs x (H.at x)) w.0 w.1 w.2 in
    record {
      symbols = H.at;
      fitting = record { codes = λ x o. H.codes x o.within o.passes; satisfied = H.fits };
      reached = record {
        over_all = λ x o. let u = greatest_above (width K) (others K e) (λ x. costs x (H.at x)) x o.within o.passes in omega (arith, H.is);
        at_one = (g.0, (record { within = g.1; passes = g.2 }, g.3 ∙ H.is));
      };
      under = λ s f w G.
          let u = from_under F K Q A costs e a h l s f.codes f.satisfied in
          let v = greatest_within (width K) (others K e) (λ x. costs x (s x)) w (λ x k t. G.over_all x (record { within = k; passes = t })) in
          omega arith;
    }
