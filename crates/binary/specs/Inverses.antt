-- Where the polynomial has no factors, each code but 0 has an inverse: each rest of the polynomial has a lower degree. Assumes nothing.
use Rattle.std.specs.Prelude.{◌≡◌, ℕ, zero, suc, ◌+◌, ◌^◌, ◌<◌, ◌≤◌, bit_xor}
use Rattle.std.proofs.Common.{sym, ap, subst, ◌∙◌, inl, inr, arith, pow_mono, eq-eqb}
use Rattle.std.proofs.lemmas.Nat.{xor_comm, xor_lt}
use Rattle.std.proofs.lemmas.Bool.{cases_eq}
use Rattle.binary.specs.Polynomials.{carryless, Divided}
use Rattle.binary.specs.Fields.{product_by}
use Rattle.binary.specs.Sums.{xor_same, xor_back}
use Rattle.binary.specs.Carryless.{carry_comm, carry_assoc, one_carry}
use Rattle.binary.specs.Degrees.{Degree, degree_bounds, degree_of, degree_up, quotient_below, division}
use Rattle.binary.specs.Equal.{Equal, equal_refl, equal_sym, equal_trans, equal_times, equal_times_r}
use Rattle.binary.specs.Factors.{Whole}
use Rattle.binary.specs.Products.{code_of, product_is, product_made}

-- m divided by a, which is above 1: the quotient is a code, and the rest is not 0 and has a lower degree than a
pub record Rest (p m a k r : ℕ) : Type 0 where
  pub quotient : k < 2 ^ p
  pub some : 0 < r
  pub equal : Equal m (carryless a k) r

pub rest_of : (p m a i k r : ℕ) → Degree m p → Whole p m → 1 < a → Degree a i → i < p → Divided m a k r → Rest p m a k r
rest_of p m a i k r d w up da hi v =
    let pos : 0 < i = degree_up a i up da in
    let same : carryless a k ≡ bit_xor m r = sym (xor_back m (carryless a k)) ∙ ap (bit_xor m) v.equal in
    let big : r < 2 ^ suc p = (let l : r < 2 ^ i = v.lower i (eq-eqb _ 1 da) in let u : 2 ^ i ≤ 2 ^ suc p = pow_mono (omega arith) in omega arith) in
    let wide : 2 ^ suc p ≤ 2 ^ (i + p) = pow_mono (omega arith) in
    let high : carryless a k < 2 ^ suc p = subst (λ (x : ℕ). x < 2 ^ suc p) (sym same) (xor_lt (suc p) m r (degree_bounds m p d).1 big) in
    let hq : k < 2 ^ p = quotient_below a i k p da (omega arith) in
    let ha : a < 2 ^ p = (let u = (degree_bounds a i da).1 in let t : 2 ^ suc i ≤ 2 ^ p = pow_mono (omega arith) in omega arith) in
    record {
      quotient = hq;
      some = go r v.equal ha hq;
      equal = (1, ap (λ (x : ℕ). bit_xor x r) same ∙ xor_comm (bit_xor m r) r ∙ ap (bit_xor r) (xor_comm m r) ∙ xor_back r m ∙ sym (carry_comm m 1 ∙ one_carry m));
    }
  where
    go : (r : ℕ) → bit_xor m (carryless a k) ≡ r → a < 2 ^ p → k < 2 ^ p → 0 < r
    go zero e ha hq = absurd (w a k ha hq (sym (xor_same m (carryless a k) e)))
    go (suc r) e ha hq = omega arith

-- a times k is r, and r times s is c
pub through : (m a k r s c : ℕ) → Equal m (carryless a k) r → Equal m (carryless r s) c → Equal m (carryless a (carryless k s)) c
through m a k r s c e f =
    equal_trans m (carryless a (carryless k s)) (carryless r s) c
    (subst (λ (x : ℕ). Equal m x (carryless r s)) (carry_assoc a k s) (equal_times m (carryless a k) r s e)) f

inverse_below : (p m : ℕ) → Degree m p → Whole p m → (n : ℕ) → n ≤ p → (a : ℕ) → 0 < a → a < 2 ^ n → (s : ℕ) × Equal m (carryless a s) 1
inverse_below p m d w zero hn a lo hi = absurd (omega arith)
inverse_below p m d w (suc n) hn a lo hi =
    let down = inverse_below p m d w n (omega arith) in
    elim (cases_eq a 1) [ inl e ↦ one e | inr e ↦ more (omega arith) (degree_of (suc n) a lo hi) down ]
  where
    one : a ≡ 1 → (s : ℕ) × Equal m (carryless a s) 1
    one e = (1, subst (λ (x : ℕ). Equal m x 1) (sym (ap (λ (x : ℕ). carryless x 1) e ∙ one_carry 1)) (equal_refl m 1))

    more : 1 < a → (i : ℕ) × (i < suc n) × Degree a i → ((r : ℕ) → 0 < r → r < 2 ^ n → (s : ℕ) × Equal m (carryless r s) 1) → (s : ℕ) × Equal m (carryless a s) 1
    more h g down =
        let v = division m a (omega arith) in
        let k : ℕ = v.0 in
        let r : ℕ = v.1 in
        let t = rest_of p m a g.0 k r d w h g.2 (omega arith) v.2 in
        let low : r < 2 ^ n = (let l : r < 2 ^ g.0 = v.2.lower g.0 (eq-eqb _ 1 g.2) in let u : 2 ^ g.0 ≤ 2 ^ n = pow_mono (omega arith) in omega arith) in
        let s = down r t.some low in
        (carryless k s.0, through m a k r s.0 1 t.equal s.1)

one_code : (p : ℕ) → 0 < p → 1 < 2 ^ p
one_code p hp = let v : 2 ^ 1 ≤ 2 ^ p = pow_mono hp in omega arith

pub inverse_of_is : (p m : ℕ) → 0 < p → Degree m p → Whole p m → (a : ℕ) → 0 < a → a < 2 ^ p → (b : ℕ) × (b < 2 ^ p) × (product_by p m a b ≡ 1)
inverse_of_is p m hp d w a lo hi =
    let s = inverse_below p m d w p (omega arith) a lo hi in
    let c = code_of m p s.0 d in
    let one : 1 < 2 ^ p = one_code p hp in (
      c.0,
      c.1,
      product_is m p a c.0 1 d hi c.1 one
          (equal_trans m (carryless a c.0) (carryless a s.0) 1 (equal_times_r m c.0 s.0 a (equal_sym m s.0 c.0 c.2)) s.1),
    )

-- a times s is equal to the rest r, which is not 0
pub record Inverting (p m a s r : ℕ) : Type 0 where
  pub code : s < 2 ^ p
  pub some : 0 < r
  pub low : r < 2 ^ p
  pub equal : Equal m (carryless a s) r

pub inverting_none : (p m a : ℕ) → 0 < p → 0 < a → a < 2 ^ p → Inverting p m a 1 a
inverting_none p m a hp lo hi = record {
  code = one_code p hp;
  some = lo;
  low = hi;
  equal = subst (λ (x : ℕ). Equal m x a) (sym (carry_comm a 1 ∙ one_carry a)) (equal_refl m a);
}

-- one more division: the quotient is a code, and the new rest is less
pub record Step (p m a s r k t : ℕ) : Type 0 where
  pub quotient : k < 2 ^ p
  pub less : t < r
  pub next : Inverting p m a (product_by p m s k) t

pub inverting_more : (p m a s r k t : ℕ) → Degree m p → Whole p m → 1 < r → Inverting p m a s r → Divided m r k t → Step p m a s r k t
inverting_more p m a s r k t d w h v q =
    let g = degree_of p r v.some v.low in
    let i : ℕ = g.0 in
    let x = rest_of p m r i k t d w h g.2 g.1 q in
    let lower : t < 2 ^ i = q.lower i (eq-eqb _ 1 g.2) in
    let bound : 2 ^ i ≤ r = (degree_bounds r i g.2).0 in
    let y = product_made m p s k d v.code x.quotient in
    record {
      quotient = x.quotient;
      less = omega arith;
      next = record {
        code = y.0;
        some = x.some;
        low = (let l = v.low in omega arith);
        equal = equal_trans m (carryless a (product_by p m s k)) (carryless a (carryless s k)) t
            (equal_times_r m (product_by p m s k) (carryless s k) a (equal_sym m (carryless s k) (product_by p m s k) y.1))
            (through m a s r k t v.equal x.equal);
      };
    }

pub inverting_all : (p m a s r : ℕ) → Degree m p → a < 2 ^ p → r ≤ 1 → Inverting p m a s r → product_by p m a s ≡ 1
inverting_all p m a s r d ha h v =
    let e : r ≡ 1 = (let z = v.some in omega arith) in
    product_is m p a s 1 d ha v.code (subst (λ (x : ℕ). x < 2 ^ p) e v.low) (subst (Equal m (carryless a s)) e v.equal)
