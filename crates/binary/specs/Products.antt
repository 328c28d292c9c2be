-- The product of codes is the one code that is equal to the product of the polynomials. Assumes nothing.
use Rattle.std.specs.Prelude.{◌≡◌, ℕ, suc, ◌+◌, ◌^◌, ◌<◌, ◌≤◌, Bool, true, false, T, Some, bit_xor, nat_eq, refl}
use Rattle.std.proofs.Common.{sym, subst, arith, pow_mono, eqb-true, eq-eqb}
use Rattle.std.proofs.Math.Logic.{∥∥₁_elim}
use Rattle.std.proofs.Math.Nat.{ℕ_set}
use Rattle.field.proofs.First.{first_found}
use Rattle.field.proofs.Tested.{some_below_at, some_below_true}
use Rattle.field.specs.Tables.{first}
use Rattle.binary.specs.Polynomials.{carryless}
use Rattle.binary.specs.Fields.{equal_up_to, product_by, TheProduct}
use Rattle.binary.specs.Sums.{xor_back, below_pow}
use Rattle.binary.specs.Degrees.{Degree, carry_below, divide}
use Rattle.binary.specs.Equal.{Equal, equal_sym, equal_trans, equal_low}

-- each polynomial is equal to a code
pub code_of : (m p x : ℕ) → Degree m p → (c : ℕ) × (c < 2 ^ p) × Equal m x c
code_of m p x d =
    let r = divide m p x x d (let w : 2 ^ x ≤ 2 ^ (p + x) = pow_mono (omega arith) in let b = below_pow x in omega arith) in
    (bit_xor x (carryless m r.0), r.2, (r.0, xor_back x (carryless m r.0)))

is_true : (b : Bool) → T b → b ≡ true
is_true true h = refl
is_true false h = absurd h

-- the least code that is equal by a factor below n is the code that is equal
first_code : (m p n x c : ℕ) → Degree m p → c < 2 ^ p → (k : ℕ) → k < n → bit_xor x c ≡ carryless m k → first (equal_up_to n m x) 0 (2 ^ p) ≡ Some c
first_code m p n x c d hc k hk e =
    first_found (equal_up_to n m x) 0 (2 ^ p) c (omega arith) (omega arith)
    (subst T (sym (some_below_true (λ k. nat_eq (bit_xor x c) (carryless m k)) n k hk (eq-eqb (bit_xor x c) (carryless m k) e))) tt)
    (λ b lo hi t.
    let r = some_below_at (λ k. nat_eq (bit_xor x b) (carryless m k)) n (is_true _ t) in
    let s : b ≡ c = equal_low m p b c d (omega arith) hc (equal_trans m b x c (equal_sym m x b (r.0, eqb-true (bit_xor x b) (carryless m r.0) r.2)) (k, e)) in
    omega arith)

pub product_is : (m p a b c : ℕ) → Degree m p → a < 2 ^ p → b < 2 ^ p → c < 2 ^ p → Equal m (carryless a b) c → product_by p m a b ≡ c
unfolding product_by
product_is m p a b c d ha hb hc e =
    let x : ℕ = carryless a b in
    let bound : x < 2 ^ (p + p) = carry_below p p a b (let w : 2 ^ p ≤ 2 ^ suc p = pow_mono (omega arith) in omega arith) hb in
    let r = divide m p p x d bound in
    let c' : ℕ = bit_xor x (carryless m r.0) in
    let e' : bit_xor x c' ≡ carryless m r.0 = xor_back x (carryless m r.0) in
    let s : c' ≡ c = equal_low m p c' c d r.2 hc (equal_trans m c' x c (equal_sym m x c' (r.0, e')) e) in
    rw (first_code m p (2 ^ p) x c' d r.2 r.0 r.1 e') s

pub product_made : (m p a b : ℕ) → Degree m p → a < 2 ^ p → b < 2 ^ p → (product_by p m a b < 2 ^ p) × Equal m (carryless a b) (product_by p m a b)
product_made m p a b d ha hb =
    let r = code_of m p (carryless a b) d in
    let e : r.0 ≡ product_by p m a b = sym (product_is m p a b r.0 d ha hb r.1 r.2) in
    (subst (λ (c : ℕ). c < 2 ^ p) e r.1, subst (Equal m (carryless a b)) e r.2)

pub the_product : (m p a b : ℕ) → Degree m p → a < 2 ^ p → b < 2 ^ p → TheProduct p m a b (product_by p m a b)
the_product m p a b d ha hb =
    let r = product_made m p a b d ha hb in
    record {
      code = r.0;
      equal = ∣ r.1 ∣₁;
      only = λ c hc e. ∥∥₁_elim e (ℕ_set _ _) (λ w. sym (product_is m p a b c d ha hb hc w));
    }
