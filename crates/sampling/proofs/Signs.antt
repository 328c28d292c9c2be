-- The test for a bit: below zero, as floats and as numbers.
use Rattle.std.proofs.Common.{◌≡◌, ℕ, zero, suc, ◌+◌, ◌*◌, ◌<◌, true, false, not, sym, refl, ap, ◌∙◌, mul-pos, zero-mul, mul-one, arith}
use lib.Dec.{eqb-suc-zero}
use lib.Ieee.{Float, nan, inf, fin, binary32, up, down, lt, of_bits}
use lib.Ieee.Fits.{up_pos}
use Rattle.std.proofs.lemmas.Bool.{lt-ltb, le-ltb}
use Rattle.sampling.specs.Exact.{negative}

first : (m : ℕ) → 0 < suc m
first m = omega arith

pub below_zero : (x : Float) → lt x (of_bits binary32 0) ≡ negative x
unfolding lt of_bits
below_zero nan = refl
below_zero (inf true) = refl
below_zero (inf false) = refl
below_zero (fin false m e) = le-ltb (m * up e * 1) (0 * 1 * down e) (simp zero-mul (omega arith))
below_zero (fin true zero e) = le-ltb 0 (0 * up e * 1 + 0 * 1 * down e) (simp zero-mul (omega arith))
below_zero (fin true (suc m) e) =
    lt-ltb 0 (suc m * up e * 1 + 0 * 1 * down e) (let p = mul-pos (first m) (up_pos e) in simp (zero-mul, mul-one) (omega arith))
    ∙ ap not (sym (eqb-suc-zero m))
