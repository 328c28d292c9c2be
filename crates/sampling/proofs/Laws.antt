-- The laws of sampling.
use Rattle.std.proofs.Common.{◌≡◌, ℕ, zero, suc, ◌+◌, ◌*◌, ◌/◌, ◌%◌, ◌^◌, ◌<◌, Bool, true, false, cond, eqb, ◌⊎◌, List, [], ◌∷◌, length, get_or, sym, refl, ap, ◌∙◌, inl, inr, le_refl, le_of_lt, mod-lt, mod-eq_of_lt, add_comm, one-mul, zero-add, zero-mul, arith, lit<}
use mathlib.Core.Bool.{beq}
use native.Mathlib.Nat.{mod-one}
use lib.Pow.{mod-pow-add}
use lib.Ieee.{Float, nan, inf, fin}
use Rattle.std.proofs.lemmas.List.FromFn.{get_or-map-range_with_len}
use Rattle.std.proofs.lemmas.Bool.{cond_both, leb-true, leb-false}
use Rattle.sampling.specs.Exact.{Fraction, AtMost, at_most, lesser, size}
use Rattle.sampling.specs.Receiver.{is_step}
use Rattle.sampling.specs.Levels.{magnitude, level_at}
use Rattle.sampling.specs.Costs.{bit_of, bit_at, level_of, shares_from, cost_of}
use Rattle.sampling.specs.Laws.{MagnitudeLaw, CostLaw, Example, SamplingLaw, bit_sum}
use Rattle.sampling.specs.declared.receiver.Settings.{Settings}
use Rattle.sampling.specs.declared.samples.Sample.{Sample}
use Rattle.sampling.specs.declared.samples.Sample.TheVariants.{Lost}
use Rattle.sampling.proofs.Steps.{step_law}
use Rattle.sampling.proofs.Rule.{level_law}

-- ---- magnitudes

lesser_right : (x y : Fraction) → AtMost (lesser x y) y
lesser_right x y = cond_both (at_most x y) x y (λ z. AtMost z y) (λ e. leb-true _ _ e) (λ _. le_refl (y.over * y.under))

lesser_left : (x y : Fraction) → AtMost (lesser x y) x
lesser_left x y = cond_both (at_most x y) x y (λ z. AtMost z x) (λ _. le_refl (x.over * x.under)) (λ e. le_of_lt (leb-false _ _ e))

lesser_either : (x y : Fraction) → (lesser x y ≡ x) ⊎ (lesser x y ≡ y)
lesser_either x y = cond_both (at_most x y) x y (λ z. (z ≡ x) ⊎ (z ≡ y)) (λ _. inl refl) (λ _. inr refl)

scaled_is : (x : Float) (m : Fraction) → AtMost (magnitude x m) m
scaled_is nan m = le_refl (m.over * m.under)
scaled_is (inf s) m = le_refl (m.over * m.under)
scaled_is (fin s n e) m = lesser_right (size (fin s n e)) m

magnitude_law : MagnitudeLaw
magnitude_law = record {
  infinite = λ s m. refl;
  scaled = scaled_is;
  own = λ s n e m. lesser_left (size (fin s n e)) m;
  either = λ s n e m. lesser_either (size (fin s n e)) m;
}

-- ---- costs

-- a bit that is told by a remainder
weighed : (n w : ℕ) → n < 2 → cond (eqb n 1) w 0 ≡ n * w
weighed zero w h = sym (zero-mul w)
weighed (suc zero) w h = sym (one-mul w)
weighed (suc (suc n)) w h = absurd (omega arith)

bits_mod : (p a : ℕ) → bit_sum p a ≡ a % 2 ^ p
bits_mod zero a = sym (mod-one a)
bits_mod (suc p) a =
    ap (λ n. n + cond (bit_at p a) (2 ^ p) 0) (bits_mod p a)
    ∙ ap (λ n. a % 2 ^ p + n) (weighed (a / 2 ^ p % 2) (2 ^ p) (mod-lt (a / 2 ^ p) (lit< tt)))
    ∙ add_comm (a % 2 ^ p) (a / 2 ^ p % 2 * 2 ^ p)
    ∙ sym (mod-pow-add a 1 p)
    ∙ (let e : 1 + p ≡ suc p = omega arith in ap (λ n. a % 2 ^ n) e)

beq_same : (a b : Bool) → a ≡ b → beq a b ≡ true
beq_same true true e = refl
beq_same false false e = refl
beq_same true false e = sym e
beq_same false true e = e

shares_none : (s : Settings) (c a i : ℕ) (xs : List Sample) → ((j : ℕ) → j < length xs → bit_at (i + j) a ≡ bit_of (get_or xs j Lost)) → shares_from s c a i xs ≡ 0
shares_none s c a i [] f = refl
shares_none s c a i (x ∷ xs) f =
    let here : bit_at i a ≡ bit_of x = (let e : i ≡ i + 0 = omega arith in ap (λ n. bit_at n a) e) ∙ f 0 (omega arith) in
    ap (λ b. cond b 0 (level_of s c x) + shares_from s c a (suc i) xs) (beq_same (bit_at i a) (bit_of x) here)
    ∙ zero-add (shares_from s c a (suc i) xs)
    ∙ shares_none s c a (suc i) xs (λ j h. (let e : suc i + j ≡ i + suc j = omega arith in ap (λ n. bit_at n a) e) ∙ f (suc j) (omega arith))

agrees_free : (s : Settings) (c : ℕ) (xs : List Sample) (a : ℕ) → ((i : ℕ) → i < length xs → bit_at i a ≡ bit_of (get_or xs i Lost)) → cost_of s c xs a ≡ 0
unfolding cost_of
agrees_free s c xs a f = shares_none s c a 0 xs (λ j h. ap (λ n. bit_at n a) (zero-add j) ∙ f j h)

cost_law : CostLaw
cost_law = record {
  bits = λ p a h. bits_mod p a ∙ mod-eq_of_lt h;
  entry = λ s c xs a h. get_or-map-range_with_len (cost_of s c xs) 0 (2 ^ length xs) a a 0 h (zero-add a);
  agrees = agrees_free;
}

example : Example
unfolding is_step level_at cost_of
example = record { holds = refl; costs = refl }

pub sampling_law : SamplingLaw
sampling_law = record { steps = step_law; magnitudes = magnitude_law; levels = level_law; sums = cost_law; worked = example }
