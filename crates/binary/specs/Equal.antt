-- Polynomials equal up to a multiple of another. Assumes nothing.
use Rattle.std.specs.Prelude.{◌≡◌, ℕ, ◌^◌, ◌<◌, bit_xor}
use Rattle.std.proofs.Common.{sym, ap, ap₂, subst, ◌∙◌}
use Rattle.std.proofs.lemmas.Nat.{xor_comm, xor_lt}
use Rattle.std.specs.Int.Bits.{xor_self}
use Rattle.binary.specs.Polynomials.{carryless}
use Rattle.binary.specs.Sums.{xor_same, xor_drop}
use Rattle.binary.specs.Carryless.{carry_l, carry_r, carry_zero, carry_comm, carry_assoc}
use Rattle.binary.specs.Degrees.{Degree, low_multiple}

abbrev pub Equal : ℕ → ℕ → ℕ → Type 0
Equal m x y = (k : ℕ) × (bit_xor x y ≡ carryless m k)

pub equal_refl : (m x : ℕ) → Equal m x x
equal_refl m x = (0, xor_self x ∙ sym (carry_zero m))

pub equal_sym : (m x y : ℕ) → Equal m x y → Equal m y x
equal_sym m x y e = (e.0, xor_comm y x ∙ e.1)

pub equal_trans : (m x y z : ℕ) → Equal m x y → Equal m y z → Equal m x z
equal_trans m x y z e f = (
  bit_xor e.0 f.0,
  sym (xor_drop y x z) ∙ ap₂ bit_xor (xor_comm y x ∙ e.1) f.1 ∙ sym (carry_r m e.0 f.0),
)

-- the same added to both
pub equal_add : (m x y z : ℕ) → Equal m x y → Equal m (bit_xor z x) (bit_xor z y)
equal_add m x y z e = (e.0, xor_drop z x y ∙ e.1)

-- both times the same
pub equal_times : (m x y z : ℕ) → Equal m x y → Equal m (carryless x z) (carryless y z)
equal_times m x y z e =
    (carryless e.0 z, sym (carry_l z x y) ∙ ap (λ (w : ℕ). carryless w z) e.1 ∙ carry_assoc m e.0 z)

pub equal_times_r : (m x y z : ℕ) → Equal m x y → Equal m (carryless z x) (carryless z y)
equal_times_r m x y z e =
    subst (λ (w : ℕ). Equal m w (carryless z y)) (carry_comm x z) (subst (λ (w : ℕ). Equal m (carryless x z) w) (carry_comm y z) (equal_times m x y z e))

-- of equal polynomials below the degree of m there is one
pub equal_low : (m p x y : ℕ) → Degree m p → x < 2 ^ p → y < 2 ^ p → Equal m x y → x ≡ y
equal_low m p x y d hx hy e =
    xor_same x y (e.1 ∙ low_multiple m p e.0 d (subst (λ (w : ℕ). w < 2 ^ p) e.1 (xor_lt p x y hx hy)))
