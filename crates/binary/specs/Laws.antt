-- The laws of a binary field. Assumes nothing.
use Rattle.std.specs.Prelude.{◌≡◌, ℕ, suc, ◌/◌, ◌^◌, ◌<◌, ◌≤◌, true, not, bit_xor, nat_le}
use Rattle.std.proofs.Common.{sym, subst, arith, pow_mono, leb-true, eqb-true}
use Rattle.std.proofs.lemmas.Nat.{xor_comm, xor_lt}
use Rattle.std.specs.Int.Bits.{xor_assoc, xor_self, xor_zero_l}
use Rattle.std.proofs.lemmas.Bool.{and_parts, not-true}
use Rattle.field.specs.Tables.{Lawful}
use Rattle.binary.specs.Polynomials.{carryless, has_degree, reducible}
use Rattle.binary.specs.Fields.{product_by, binary_tables, is_binary, Meant}
use Rattle.binary.specs.Carryless.{carry_r, carry_power, carry_comm, carry_assoc, one_carry}
use Rattle.binary.specs.Degrees.{Degree, degree_bounds}
use Rattle.binary.specs.Equal.{Equal, equal_refl, equal_sym, equal_trans, equal_add, equal_times, equal_times_r}
use Rattle.binary.specs.Factors.{Whole, whole_of, factors_of, reducible_of}
use Rattle.binary.specs.Products.{product_is, product_made, the_product}
use Rattle.binary.specs.Inverses.{inverse_of_is}

-- what the invariant of a binary field says
pub record Made (p m : ℕ) : Type 0 where
  pub low : 1 ≤ p
  pub high : p ≤ 6
  pub degree : Degree m p
  pub whole : Whole p m
  pub order : 2 ^ p ≤ 64
  pub short : m < 128

pub made_of : (p m : ℕ) → is_binary p m ≡ true → Made p m
unfolding is_binary
made_of p m h =
    let a = and_parts (nat_le 1 p) _ h in
    let b = and_parts (nat_le p 6) _ a.1 in
    let c = and_parts (has_degree m p) (not (reducible p m)) b.1 in
    let hi : p ≤ 6 = leb-true p 6 b.0 in
    let d : Degree m p = eqb-true (m / 2 ^ p) 1 c.0 in
    let q : 2 ^ p ≤ 2 ^ 6 = pow_mono hi in
    let s : 2 ^ suc p ≤ 2 ^ 7 = pow_mono {i = suc p} {j = 7} (omega arith) in
    record {
      low = leb-true 1 p a.0;
      high = hi;
      degree = d;
      whole = whole_of p m (not-true (reducible p m) c.1);
      order = q;
      short = (let u = (degree_bounds m p d).1 in omega arith);
    }

module _ (p m : ℕ) (d : Degree m p) where
  abbrev times : ℕ → ℕ → ℕ
  times = product_by p m

  code : (a b : ℕ) → a < 2 ^ p → b < 2 ^ p → times a b < 2 ^ p
  code a b ha hb = (product_made m p a b d ha hb).0

  equal : (a b : ℕ) → a < 2 ^ p → b < 2 ^ p → Equal m (carryless a b) (times a b)
  equal a b ha hb = (product_made m p a b d ha hb).1

  comm : (a b : ℕ) → a < 2 ^ p → b < 2 ^ p → times a b ≡ times b a
  comm a b ha hb = product_is m p a b (times b a) d ha hb (code b a hb ha) (subst (λ (x : ℕ). Equal m x (times b a)) (carry_comm b a) (equal b a hb ha))

  assoc : (a b c : ℕ) → a < 2 ^ p → b < 2 ^ p → c < 2 ^ p → times (times a b) c ≡ times a (times b c)
  assoc a b c ha hb hc =
      let ab : ℕ = times a b in
      let bc : ℕ = times b c in
      product_is m p ab c (times a bc) d (code a b ha hb) hc (code a bc ha (code b c hb hc))
      (equal_trans m (carryless ab c) (carryless (carryless a b) c) (times a bc)
      (equal_times m ab (carryless a b) c (equal_sym m (carryless a b) ab (equal a b ha hb)))
      (equal_trans m (carryless (carryless a b) c) (carryless a bc) (times a bc)
      (subst (λ (x : ℕ). Equal m x (carryless a bc)) (sym (carry_assoc a b c)) (equal_times_r m (carryless b c) bc a (equal b c hb hc)))
      (equal a bc ha (code b c hb hc))))

  one_times : 1 < 2 ^ p → (a : ℕ) → a < 2 ^ p → times 1 a ≡ a
  one_times h a ha = product_is m p 1 a a d h ha ha (subst (λ (x : ℕ). Equal m x a) (sym (one_carry a)) (equal_refl m a))

  spread : (a b c : ℕ) → a < 2 ^ p → b < 2 ^ p → c < 2 ^ p → times a (bit_xor b c) ≡ bit_xor (times a b) (times a c)
  spread a b c ha hb hc =
      let ab : ℕ = times a b in
      let ac : ℕ = times a c in
      product_is m p a (bit_xor b c) (bit_xor ab ac) d ha (xor_lt p b c hb hc) (xor_lt p ab ac (code a b ha hb) (code a c ha hc))
      (subst (λ (x : ℕ). Equal m x (bit_xor ab ac)) (sym (carry_r a b c))
      (equal_trans m (bit_xor (carryless a b) (carryless a c)) (bit_xor (carryless a b) ac) (bit_xor ab ac)
      (equal_add m (carryless a c) ac (carryless a b) (equal a c ha hc))
      (subst (λ (x : ℕ). Equal m x (bit_xor ab ac)) (xor_comm ac (carryless a b))
      (subst (Equal m (bit_xor ac (carryless a b))) (xor_comm ac ab) (equal_add m (carryless a b) ab ac (equal a b ha hb))))))

pub binary_laws : (p m : ℕ) → is_binary p m ≡ true → Lawful (binary_tables p m)
binary_laws p m h =
    let s = made_of p m h in
    let d : Degree m p = s.degree in
    let two : 2 ^ 1 ≤ 2 ^ p = pow_mono s.low in
    record {
      low = two;
      high = s.order;
      sum_code = xor_lt p;
      product_code = code p m d;
      sum_comm = λ a b ha hb. xor_comm a b;
      product_comm = comm p m d;
      sum_assoc = λ a b c ha hb hc. xor_assoc a b c;
      product_assoc = assoc p m d;
      zero_sum = λ a ha. xor_zero_l a;
      one_product = one_times p m d two;
      opposite = λ a ha. ∣ (a, ha, xor_self a) ∣₁;
      inverse = λ a pa ha. ∣ inverse_of_is p m s.low d s.whole a pa ha ∣₁;
      spread = spread p m d;
    }

pub meant : (p m : ℕ) → Meant p m
meant p m = record {
  multiplies = record { power = λ a i. carry_power i a; comm = carry_comm; spread = carry_r };
  split = λ d t. ∣ factors_of p m d t ∣₁;
  whole = reducible_of p m;
  products = λ d a b ha hb. the_product m p a b (eqb-true (m / 2 ^ p) 1 d) ha hb;
}
