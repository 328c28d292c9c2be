-- The turns of the loops: a product by the powers of a factor, and a division by the powers of the quotient. Assumes nothing.
use Rattle.std.proofs.Common.{◌≡◌, ℕ, zero, suc, ◌+◌, ◌-◌, ◌*◌, ◌/◌, ◌%◌, ◌^◌, ◌<◌, ◌≤◌, Bool, true, false, cond, eqb, sym, ap, ◌∙◌, subst, ap₂, inl, inr, ⊎_elim, add-zero, add-suc, mod-lt, pow-suc, div-add-mod', div-one, arith, pow_pos, shr-shr}
use native.Mathlib.Nat.{div-eq_of_lt, div-eq_of_lt-le}
use lib.Count.{count_leading_zeros}
use lib.Bits.{bit_xor, xor_comm, xor_assoc, xor_zero_r, xor_lt, xor_shr, xor_shifted}
use Rattle.std.proofs.lemmas.Nat.{leading_top}
use Rattle.std.proofs.lemmas.Bool.{cases_lt}
use Rattle.binary.specs.Polynomials.{has_power, carryless, Divided}
use Rattle.binary.specs.Fields.{doubled_by, product_by}
use Rattle.binary.specs.Sums.{xor_back}
use Rattle.binary.specs.Carryless.{carry_r, carry_zero, carry_power, carry_shift, carry_comm, one_carry}
use Rattle.binary.specs.Degrees.{Degree, top_gone, top_or, degree_bounds, below_top, divided}
use Rattle.binary.specs.Equal.{Equal, equal_refl, equal_trans, equal_add, equal_times}
use Rattle.binary.specs.Products.{product_is}

-- the first power of b apart from the others
low_power : (a b : ℕ) → carryless a b ≡ bit_xor (cond (eqb (b % 2) 1) a 0) (carryless (a * 2) (b / 2))
low_power a b =
    ap (carryless a) (sym (xor_shifted (b / 2) 1 (b % 2) (mod-lt b (omega arith)) ∙ div-add-mod' b 2))
    ∙ carry_r a (b / 2 * 2) (b % 2) ∙ xor_comm (carryless a (b / 2 * 2)) (carryless a (b % 2))
    ∙ ap₂ bit_xor (bit (b % 2) (mod-lt b (omega arith))) (carry_shift 1 a (b / 2) ∙ sym (double a (b / 2)))
  where
    bit : (v : ℕ) → v < 2 → carryless a v ≡ cond (eqb v 1) a 0
    bit zero h = carry_zero a
    bit (suc zero) h = carry_comm a 1 ∙ one_carry a
    bit (suc (suc v)) h = absurd (omega arith)

    double : (a c : ℕ) → carryless (a * 2) c ≡ carryless a c * 2
    double a c = carry_comm (a * 2) c ∙ carry_shift 1 c a ∙ ap (λ (x : ℕ). x * 2) (carry_comm c a)

-- of a number below 2 ^ (p + 1) and its sum with m, the one without the power p is the smaller
doubled_is : (p m a : ℕ) → Degree m p → a < 2 ^ p → (doubled_by m a < 2 ^ p) × Equal m (a * 2) (doubled_by m a)
doubled_is p m a d h = elim (cases_lt (a * 2) (2 ^ p)) [ inl l ↦ kept l | inr l ↦ reduced l ]
  where
    kept : a * 2 < 2 ^ p → (doubled_by m a < 2 ^ p) × Equal m (a * 2) (doubled_by m a)
    kept low =
        let top : Degree (bit_xor (a * 2) m) p = xor_shr (a * 2) m p ∙ ap₂ bit_xor (div-eq_of_lt low) d in
        let high : 2 ^ p ≤ bit_xor (a * 2) m = (degree_bounds (bit_xor (a * 2) m) p top).0 in
        let e : a * 2 ≡ doubled_by m a = omega arith in
        (omega arith, subst (Equal m (a * 2)) e (equal_refl m (a * 2)))

    reduced : 2 ^ p ≤ a * 2 → (doubled_by m a < 2 ^ p) × Equal m (a * 2) (doubled_by m a)
    reduced high =
        let top : Degree (a * 2) p = div-eq_of_lt-le {k = 1} (2 ^ p) (omega arith) (omega arith) in
        let low : bit_xor (a * 2) m < 2 ^ p = below_top p (bit_xor (a * 2) m) (xor_shr (a * 2) m p ∙ ap₂ bit_xor top d) in
        let e : bit_xor (a * 2) m ≡ doubled_by m a = omega arith in
        (omega arith, subst (Equal m (a * 2)) e (1, xor_back (a * 2) m ∙ sym (carry_comm m 1 ∙ one_carry m)))

-- s is the sum for the powers of b below i, and t is a shifted by i
pub record Added (p m a b i s t : ℕ) : Type 0 where
  pub sum : s < 2 ^ p
  pub shifted : t < 2 ^ p
  pub equal : Equal m (carryless a b) (bit_xor s (carryless t (b / 2 ^ i)))

pub added_none : (p m a b : ℕ) → a < 2 ^ p → Added p m a b 0 0 a
added_none p m a b h = record {
  sum = pow_pos p;
  shifted = h;
  equal = subst (λ (x : ℕ). Equal m (carryless a b) (carryless a x)) (sym (div-one b)) (equal_refl m (carryless a b));
}

pub added_more : (p m a b i s t u v : ℕ) → Degree m p → Added p m a b i s t → u ≡ bit_xor s (cond (has_power b i) t 0) → v ≡ doubled_by m t → Added p m a b (i + 1) u v
added_more p m a b i s t u v d h eu ev =
    let c : ℕ = b / 2 ^ i in
    let x : ℕ = cond (has_power b i) t 0 in
    let dt = doubled_is p m t d h.shifted in
    let half : b / 2 ^ (i + 1) ≡ c / 2 = sym (shr-shr b i 1) in
    let lows : bit_xor s (carryless t c) ≡ bit_xor (bit_xor s x) (carryless (t * 2) (c / 2)) = ap (bit_xor s) (low_power t c) ∙ sym (xor_assoc s x (carryless (t * 2) (c / 2))) in
    let e : Equal m (carryless a b) (bit_xor (bit_xor s x) (carryless (doubled_by m t) (c / 2))) =
    equal_trans m (carryless a b) (bit_xor (bit_xor s x) (carryless (t * 2) (c / 2))) _ (subst (Equal m (carryless a b)) lows h.equal)
    (equal_add m (carryless (t * 2) (c / 2)) (carryless (doubled_by m t) (c / 2)) (bit_xor s x) (equal_times m (t * 2) (doubled_by m t) (c / 2) dt.1)) in
    record {
      sum = subst (λ (y : ℕ). y < 2 ^ p) (sym eu) (xor_lt p s x h.sum (part (has_power b i)));
      shifted = subst (λ (y : ℕ). y < 2 ^ p) (sym ev) dt.0;
      equal = subst (Equal m (carryless a b)) (sym (ap₂ bit_xor eu (ap₂ carryless ev half))) e;
    }
  where
    part : (w : Bool) → cond w t 0 < 2 ^ p
    part true = h.shifted
    part false = pow_pos p

pub added_all : (p m a b s t : ℕ) → Degree m p → a < 2 ^ p → b < 2 ^ p → Added p m a b p s t → s ≡ product_by p m a b
added_all p m a b s t d ha hb h =
    sym (product_is m p a b s d ha hb h.sum
    (subst (Equal m (carryless a b)) (ap (bit_xor s) (ap (carryless t) (div-eq_of_lt hb) ∙ carry_zero t) ∙ xor_zero_r s) h.equal))

-- the degree by the leading zeros
pub degree_by : (d : ℕ) → 0 < d → d < 256 → Degree d (7 - count_leading_zeros 8 d)
degree_by d p h =
    let r = leading_top 8 d p h in
    let j : ℕ = r.0 in
    let e : j ≡ 7 - count_leading_zeros 8 d = (let z = r.1 in omega arith) in
    let two : 2 ^ suc j ≡ 2 ^ j * 2 = pow-suc 2 j in
    subst (Degree d) e (div-eq_of_lt-le {k = 1} (2 ^ j) (let l = r.2 in omega arith) (let u = r.3 in omega arith))

-- k is the quotient of x by d for the powers from n on, and r what is left
pub record Dividing (x d i n k r : ℕ) : Type 0 where
  pub low : r < 2 ^ (i + n)
  pub equal : bit_xor x (carryless d k) ≡ r

pub dividing_none : (x d i n : ℕ) → i + n ≡ 8 → x < 256 → Dividing x d i n 0 x
dividing_none x d i n e h = record {
  low = subst (λ (j : ℕ). x < 2 ^ j) (sym e) h;
  equal = ap (bit_xor x) (carry_zero d) ∙ xor_zero_r x;
}

pub dividing_take : (x d i n k r : ℕ) → Degree d i → Dividing x d i (suc n) k r → Degree r (i + n) → Dividing x d i n (bit_xor k (2 ^ n)) (bit_xor r (d * 2 ^ n))
dividing_take x d i n k r g h t = record {
  low = top_gone d i n r g t;
  equal =
      ap (bit_xor x) (carry_r d k (2 ^ n)) ∙ sym (xor_assoc x (carryless d k) (carryless d (2 ^ n)))
      ∙ ap₂ bit_xor h.equal (carry_power n d);
}

pub dividing_skip : (x d i n k r : ℕ) → Dividing x d i (suc n) k r → (Degree r (i + n) → ⊥) → Dividing x d i n k r
dividing_skip x d i n k r h t = record {
  low = ⊎_elim (λ e. absurd (t e)) (λ l. l) (top_or (i + n) r (subst (λ (j : ℕ). r < 2 ^ j) (add-suc i n) h.low));
  equal = h.equal;
}

pub dividing_all : (x d i k r : ℕ) → Degree d i → Dividing x d i 0 k r → Divided x d k r
dividing_all x d i k r g h = divided x d i k r g h.equal (subst (λ (j : ℕ). r < 2 ^ j) (add-zero i) h.low)
