-- The order of floats that are numbers not below zero is the order of their fractions.
use Rattle.std.proofs.Common.{◌≡◌, ℕ, ◌*◌, ◌<◌, ◌≤◌, true, false, ◌&&◌, ◌||◌, eqb, ltb, leb, sym, refl, ap, ◌∙◌, inl, inr, true≢false, arith, lit<}
use lib.Ieee.{Float, nan, inf, fin, up, down, le, lt, eq}
use lib.Ieee.Fits.{down_pos}
use lib.Ieee.Order.{transfer}
use Rattle.std.proofs.lemmas.Bool.{le-leb, lt-leb, lt-ltb, le-ltb, eq-eqb, ne_eqb, cases_lt, cases_order}
use Rattle.sampling.specs.Exact.{Fraction, at_most, size, sized}

leb_same : (x y u v : ℕ) → (x ≤ y → u ≤ v) → (u ≤ v → x ≤ y) → leb x y ≡ leb u v
leb_same x y u v f g =
    elim (cases_lt y x) [
      | inl h ↦ (elim (cases_lt v u) [ inl k ↦ lt-leb x y h ∙ sym (lt-leb u v k) | inr k ↦ absurd (let z = g k in omega arith) ])
      | inr h ↦ le-leb x y h ∙ sym (le-leb u v (f h))
    ]

le_is : (x y : ℕ) → (ltb x y || (eqb x y && true)) ≡ leb x y
le_is x y =
    elim (cases_order x y) [
      | inl e ↦ ap (λ b. b || (eqb x y && true)) (le-ltb x y (omega arith)) ∙ ap (λ b. b && true) (eq-eqb x y e) ∙ sym (le-leb x y (omega arith))
      | inr (inl h) ↦ ap (λ b. b || (eqb x y && true)) (lt-ltb x y h) ∙ sym (le-leb x y (omega arith))
      | inr (inr h) ↦ ap (λ b. b || (eqb x y && true)) (le-ltb x y (omega arith)) ∙ ap (λ b. b && true) (ne_eqb x y (λ e. omega arith)) ∙ sym (lt-leb x y h)
    ]

pub le_sized : (x y : Float) → sized x ≡ true → sized y ≡ true → le x y ≡ at_most (size x) (size y)
unfolding le lt eq
le_sized nan y p q = absurd (true≢false (sym p))
le_sized (inf s) y p q = absurd (true≢false (sym p))
le_sized (fin true m e) y p q = absurd (true≢false (sym p))
le_sized (fin false m e) nan p q = absurd (true≢false (sym q))
le_sized (fin false m e) (inf t) p q = absurd (true≢false (sym q))
le_sized (fin false m e) (fin true n d) p q = absurd (true≢false (sym q))
le_sized (fin false m e) (fin false n d) p q = le_is (m * up e * down d) (n * up d * down e)

pub under_pos : (x : Float) → 0 < (size x).under
under_pos nan = lit< tt
under_pos (inf s) = lit< tt
under_pos (fin s m e) = down_pos e

-- two fractions of one value compare alike
pub same_left : (x y m : Fraction) → 0 < x.under → 0 < y.under → 0 < m.under → x.over * y.under ≡ y.over * x.under → at_most x m ≡ at_most y m
same_left x y m X Y M e =
    leb_same (x.over * m.under) (m.over * x.under) (y.over * m.under) (m.over * y.under)
    (transfer y.over m.over y.under m.under x.over m.over x.under m.under X M (sym e) refl)
    (transfer x.over m.over x.under m.under y.over m.over y.under m.under Y M e refl)
