-- The eleven powers of two, as floats and as fractions.
use Rattle.std.proofs.Common.{List, [], ◌∷◌, ap₂, ◌≡◌, ℕ, zero, suc, ◌+◌, ◌*◌, ◌^◌, ◌<◌, ◌≤◌, Bool, true, false, ◌&&◌, ◌||◌, eqb, pos, negsuc, sym, refl, ap, ◌∙◌, inl, inr, true≢false, one-mul, arith}
use lib.Ieee.{Float, nan, inf, fin, up, down, eq}
use Rattle.std.specs.List.{list_any}
use lib.Ieee.Fits.{down_pos}
use Rattle.std.proofs.lemmas.Bool.{and_parts, and_from, eqb-true, eq-eqb, ne_eqb, or_cases, or_left, or_right, cases_order}
use Rattle.sampling.specs.Exact.{size, sized}
use Rattle.sampling.specs.Receiver.{is_power, among, is_step, Power, StepLaw}

-- the float 2 ^ -j
abbrev pub power : ℕ → Float
power zero = fin false 1 (pos 0)
power (suc j) = fin false 1 (negsuc j)

-- the test on floats is the test on fractions
negative_off : (a b : ℕ) → 0 < b → (eqb a b && eqb a 0) ≡ false
negative_off a b h =
    elim (cases_order a b) [
      | inl e ↦ ap (λ t. eqb a b && t) (ne_eqb a 0 (λ z. omega arith)) ∙ both (eqb a b)
      | inr (inl l) ↦ ap (λ t. t && eqb a 0) (ne_eqb a b (λ z. omega arith))
      | inr (inr l) ↦ ap (λ t. t && eqb a 0) (ne_eqb a b (λ z. omega arith))
    ]
  where
    both : (t : Bool) → (t && false) ≡ false
    both true = refl
    both false = refl

and_true : (t : Bool) → (t && true) ≡ t
and_true true = refl
and_true false = refl

pub eq_power : (j : ℕ) (x : Float) → eq x (power j) ≡ is_power j x
unfolding eq
eq_power zero nan = refl
eq_power zero (inf s) = refl
eq_power zero (fin true m e) = negative_off (m * up e * 1) (1 * down e) (omega (arith, down_pos e))
eq_power zero (fin false m e) = and_true (eqb (m * up e * 1) (1 * down e)) ∙ ap (λ n. eqb (m * up e * 1) n) (one-mul (down e))
eq_power (suc j) nan = refl
eq_power (suc j) (inf s) = refl
eq_power (suc j) (fin true m e) = negative_off (m * up e * 2 ^ suc j) (1 * down e) (omega (arith, down_pos e))
eq_power (suc j) (fin false m e) = and_true (eqb (m * up e * 2 ^ suc j) (1 * down e)) ∙ ap (λ n. eqb (m * up e * 2 ^ suc j) n) (one-mul (down e))

pub step_is : (x : Float) → is_step x ≡ among 11 0 x
unfolding is_step
step_is x = refl

abbrev pub powers : ℕ → ℕ → List Float
powers zero j = []
powers (suc n) j = power j ∷ powers n (suc j)

any_power : (n j : ℕ) (x : Float) → list_any (λ y. eq x y) (powers n j) ≡ among n j x
any_power zero j x = refl
any_power (suc n) j x = ap₂ ◌||◌ (eq_power j x) (any_power n (suc j) x)

-- the test by a list of the eleven floats
pub in_steps : (xs : List Float) (x : Float) → xs ≡ powers 11 0 → list_any (λ y. eq x y) xs ≡ is_step x
in_steps xs x e = ap (list_any (λ y. eq x y)) e ∙ any_power 11 0 x ∙ sym (step_is x)

-- the law: a step is one of the powers, and each power is a step
to_power : (j : ℕ) (x : Float) → is_power j x ≡ true → Power j x
to_power j x e =
    let p = and_parts (sized x) (eqb ((size x).over * 2 ^ j) (size x).under) e in
    record { finite = p.0; value = eqb-true ((size x).over * 2 ^ j) (size x).under p.1 }

from_power : (j : ℕ) (x : Float) → Power j x → is_power j x ≡ true
from_power j x p = and_from (sized x) (eqb ((size x).over * 2 ^ j) (size x).under) p.finite (eq-eqb ((size x).over * 2 ^ j) (size x).under p.value)

among_power : (n j : ℕ) (x : Float) → among n j x ≡ true → (i : ℕ) × (i < j + n) × Power i x
among_power zero j x e = absurd (true≢false (sym e))
among_power (suc n) j x e =
    elim (or_cases (is_power j x) (among n (suc j) x) e) [
      | inl t ↦ (j, omega arith, to_power j x t)
      | inr t ↦ let r = among_power n (suc j) x t in (r.0, omega (arith, r.1), r.2)
    ]

power_among : (n j d : ℕ) (x : Float) → d < n → Power (j + d) x → among n j x ≡ true
power_among zero j d x h p = absurd (omega arith)
power_among (suc n) j zero x h p = or_left (is_power j x) (among n (suc j) x) (from_power j x (let e : j + 0 ≡ j = omega arith in rw e at p))
power_among (suc n) j (suc d) x h p =
    or_right (is_power j x) (among n (suc j) x) (power_among n (suc j) d x (omega arith) (let e : j + suc d ≡ suc j + d = omega arith in rw e at p))

pub power_of : (x : Float) → is_step x ≡ true → (j : ℕ) × (j ≤ 10) × Power j x
power_of x e = let r = among_power 11 0 x (sym (step_is x) ∙ e) in (r.0, omega (arith, r.1), r.2)

pub step_law : StepLaw
step_law = record {
  power = power_of;
  step = λ x j h p. step_is x ∙ power_among 11 0 j x (omega arith) (let e : j ≡ 0 + j = omega arith in rw e at p);
}
