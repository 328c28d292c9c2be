-- The laws of a prime field. Assumes nothing.
use Rattle.std.specs.Prelude.{◌≡◌, ℕ, zero, suc, ◌+◌, ◌-◌, ◌*◌, ◌/◌, ◌%◌, ◌<◌, ◌≤◌, Bool, true, ◌&&◌, ◌||◌, List, [], ◌∷◌, ◌==◌, nat_eq, nat_le, refl}
use Rattle.std.proofs.Common.{sym, ap, subst, ◌∙◌, inl, inr, add_comm, add_assoc, mul_comm, mul_assoc, mul-add, add-mul, one-mul, mul_right_comm, zero-add, mod-lt, mod-eq_of_lt, arith, leb-true, eqb-true}
use Rattle.std.proofs.Math.Nat.{mod_self, mod-add-mod, add-mod-mod, mod-add-div', add-mul-mod_self_right}
use Rattle.field.specs.Tables.{Lawful}
use Rattle.field.specs.Every.{every_below, some_below, every_of}
use Rattle.field.proofs.Tested.{and_true, or_true, every_below_at, some_below_at}
use Rattle.prime.specs.Primes.{primes, member, is_prime, prime_tables}

every_member : (p : ℕ → Bool) (xs : List ℕ) (q : ℕ) → every_of p xs ≡ true → member q xs ≡ true → p q ≡ true
every_member p [] q t m = absurd (let z : ◌≡◌ {A = ℕ} 0 1 = cc in omega arith)
every_member p (x ∷ xs) q t m =
    let ts : (p x ≡ true) × (every_of p xs ≡ true) = and_true (p x) (every_of p xs) t in
    let rec : member q xs ≡ true → p q ≡ true = every_member p xs q ts.1 in
    elim (or_true (q == x) (member q xs) m) [ inl e ↦ subst (λ (y : ℕ). p y ≡ true) (sym (eqb-true q x e)) ts.0 | inr l ↦ rec l ]

-- what antt computes at each of the primes: the order's range, and an inverse of each code but 0
abbrev sound : ℕ → Bool
sound q = nat_le 2 q && (nat_le q 64 && every_below (λ a. (a == 0) || some_below (λ b. nat_eq ((a * b) % q) 1) q) q)

sound_at : (q : ℕ) → is_prime q ≡ true → sound q ≡ true
unfolding is_prime
sound_at q h = every_member sound primes q refl h

mod_mul : (a b m : ℕ) → ((a % m) * b) % m ≡ (a * b) % m
mod_mul a b m = sym (ap (λ (x : ℕ). (x * b) % m) (sym (mod-add-div' a m)) ∙ ap (λ (x : ℕ). x % m) (add-mul (a % m) (a / m * m) b ∙ ap (λ (x : ℕ). a % m * b + x) (mul_right_comm (a / m) m b)) ∙ add-mul-mod_self_right (a % m * b) (a / m * b) m)

mul_mod : (a b m : ℕ) → (a * (b % m)) % m ≡ (a * b) % m
mul_mod a b m = ap (λ (x : ℕ). x % m) (mul_comm a (b % m)) ∙ mod_mul b a m ∙ ap (λ (x : ℕ). x % m) (mul_comm b a)

opposite_of_is : (q a : ℕ) → a < q → (b : ℕ) × (b < q) × ((a + b) % q ≡ 0)
opposite_of_is q zero h = (0, h, ap (λ (x : ℕ). x % q) (zero-add 0) ∙ mod-eq_of_lt h)
opposite_of_is q (suc a) h = let e : suc a + (q - suc a) ≡ q = omega arith in (q - suc a, omega arith, ap (λ (x : ℕ). x % q) e ∙ mod_self q)

pub prime_laws : (q : ℕ) → is_prime q ≡ true → Lawful (prime_tables q)
prime_laws q h =
    let s = and_true (nat_le 2 q) _ (sound_at q h) in
    let s' = and_true (nat_le q 64) _ s.1 in
    let lo : 2 ≤ q = leb-true 2 q s.0 in
    let hi : q ≤ 64 = leb-true q 64 s'.0 in
    let pos : 0 < q = omega arith in
    record {
      low = lo;
      high = hi;
      sum_code = λ a b ha hb. mod-lt (a + b) pos;
      product_code = λ a b ha hb. mod-lt (a * b) pos;
      sum_comm = λ a b ha hb. ap (λ (x : ℕ). x % q) (add_comm a b);
      product_comm = λ a b ha hb. ap (λ (x : ℕ). x % q) (mul_comm a b);
      sum_assoc = λ a b c ha hb hc. mod-add-mod (a + b) q c ∙ ap (λ (x : ℕ). x % q) (add_assoc a b c) ∙ sym (add-mod-mod a (b + c) q);
      product_assoc = λ a b c ha hb hc. mod_mul (a * b) c q ∙ ap (λ (x : ℕ). x % q) (mul_assoc a b c) ∙ sym (mul_mod a (b * c) q);
      zero_sum = λ a ha. ap (λ (x : ℕ). x % q) (zero-add a) ∙ mod-eq_of_lt ha;
      one_product = λ a ha. ap (λ (x : ℕ). x % q) (one-mul a) ∙ mod-eq_of_lt ha;
      opposite = λ a ha. ∣ opposite_of_is q a ha ∣₁;
      inverse = λ a pa ha. ∣ inverse_of_is a pa ha (every_below_at _ q a s'.1 ha) ∣₁;
      spread = λ a b c ha hb hc. mul_mod a (b + c) q ∙ ap (λ (x : ℕ). x % q) (mul-add a b c) ∙ sym (mod-add-mod (a * b) q ((a * c) % q) ∙ add-mod-mod (a * b) (a * c) q);
    }
  where
    inverse_of_is : (a : ℕ) → 0 < a → a < q → (a == 0 || some_below (λ b. nat_eq ((a * b) % q) 1) q) ≡ true → (b : ℕ) × (b < q) × ((a * b) % q ≡ 1)
    inverse_of_is a pa ha t =
        elim (or_true (a == 0) _ t) [
          | inl e ↦ let z : a ≡ 0 = eqb-true a 0 e in absurd (omega arith)
          | inr e ↦ let r = some_below_at (λ b. nat_eq ((a * b) % q) 1) q e in (r.0, r.1, eqb-true _ 1 r.2)
        ]
