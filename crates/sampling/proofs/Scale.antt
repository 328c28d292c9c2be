-- What the tests on a full scale say in exact terms, and the lesser of a magnitude and the full scale.
use Rattle.std.proofs.Common.{◌≡◌, ℕ, zero, suc, ◌*◌, ◌^◌, ◌<◌, Bool, true, false, cond, ◌&&◌, ◌||◌, eqb, sym, refl, ap, ◌∙◌, true≢false, mul-pos, zero-mul, arith}
use lib.Ieee.{Float, nan, inf, fin, up, down, le, lt, eq, is_nan}
use lib.Ieee.Fits.{down_pos}
use Rattle.std.specs.Float.{float_is_finite, float_with_sign, float_min}
use Rattle.std.proofs.lemmas.Bool.{ne_eqb, cond_both}
use Rattle.sampling.specs.Exact.{size, sized, at_most}
use Rattle.sampling.specs.Receiver.{is_step, Power}
use Rattle.sampling.specs.Levels.{magnitude}
use Rattle.sampling.proofs.Order.{le_sized}
use Rattle.sampling.proofs.Steps.{power_of}

-- a power is above zero
over_pos : (w a b : ℕ) → a * w ≡ b → 0 < b → 0 < a
over_pos w zero b e h = absurd (omega (arith, zero-mul w))
over_pos w (suc a) b e h = omega arith

off : (t : Bool) (a : ℕ) → 0 < a → (t && eqb a 0) ≡ false
off t a h = ap (λ b. t && b) (ne_eqb a 0 (λ z. omega arith)) ∙ both t
  where
    both : (t : Bool) → (t && false) ≡ false
    both true = refl
    both false = refl

at_scale : (x y : Float) (j : ℕ) → Power j x → float_is_finite y ≡ true → le x y ≡ (sized y && at_most (size x) (size y))
unfolding float_is_finite le lt eq
at_scale nan y j p f = absurd (true≢false (sym p.finite))
at_scale (inf s) y j p f = absurd (true≢false (sym p.finite))
at_scale (fin true m e) y j p f = absurd (true≢false (sym p.finite))
at_scale (fin false m e) nan j p f = absurd (true≢false (sym f))
at_scale (fin false m e) (inf t) j p f = absurd (true≢false (sym f))
at_scale (fin false m e) (fin true n d) j p f =
    off (eqb (m * up e * down d) (n * up d * down e)) (m * up e * down d) (mul-pos (over_pos (2 ^ j) (m * up e) (down e) p.value (down_pos e)) (down_pos d))
at_scale (fin false m e) (fin false n d) j p f = le_sized (fin false m e) (fin false n d) refl refl

-- a step is at most a finite full scale: in floats, exactly if that has no sign and is at least the step
pub le_scale : (x y : Float) → is_step x ≡ true → float_is_finite y ≡ true → le x y ≡ (sized y && at_most (size x) (size y))
le_scale x y s f = let r = power_of x s in at_scale x y r.0 r.2 f

pub not_finite : (x y : Float) → float_is_finite y ≡ false → (sized y && at_most (size x) (size y)) ≡ false
unfolding float_is_finite
not_finite x nan f = refl
not_finite x (inf s) f = refl
not_finite x (fin s m e) f = absurd (true≢false f)

-- ---- the lesser of a magnitude and the full scale

pub least_sized : (x y : Float) → is_nan x ≡ false → sized y ≡ true → sized (float_min (float_with_sign false x) y) ≡ true
unfolding is_nan float_with_sign le lt eq
least_sized nan y n f = absurd (true≢false n)
least_sized (inf s) nan n f = absurd (true≢false (sym f))
least_sized (inf s) (inf t) n f = absurd (true≢false (sym f))
least_sized (inf s) (fin t m e) n f = f
least_sized (fin s m e) y n f = cond_both (le (fin false m e) y || is_nan y) (fin false m e) y (λ v. sized v ≡ true) (λ _. refl) (λ _. f)

or_false : (t : Bool) → (t || false) ≡ t
or_false true = refl
or_false false = refl

size_cond : (b : Bool) (x y : Float) → size (cond b x y) ≡ cond b (size x) (size y)
size_cond true x y = refl
size_cond false x y = refl

pub least_size : (x y : Float) → is_nan x ≡ false → sized y ≡ true → size (float_min (float_with_sign false x) y) ≡ magnitude x (size y)
unfolding is_nan float_with_sign le lt eq
least_size nan y n f = absurd (true≢false n)
least_size (inf s) nan n f = absurd (true≢false (sym f))
least_size (inf s) (inf t) n f = absurd (true≢false (sym f))
least_size (inf s) (fin t m e) n f = refl
least_size (fin s m e) nan n f = absurd (true≢false (sym f))
least_size (fin s m e) (inf t) n f = absurd (true≢false (sym f))
least_size (fin s m e) (fin t k d) n f =
    size_cond (le (fin false m e) (fin t k d) || false) (fin false m e) (fin t k d)
    ∙ ap (λ b. cond b (size (fin s m e)) (size (fin t k d))) (or_false (le (fin false m e) (fin t k d)) ∙ le_sized (fin false m e) (fin t k d) refl f)
