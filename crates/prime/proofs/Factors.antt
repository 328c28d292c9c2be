-- The listed primes are the prime numbers up to 64, by one computed test. Assumes nothing.
use Rattle.std.proofs.Common.{◌≡◌, ℕ, zero, suc, ◌*◌, ◌/◌, ◌%◌, ◌<◌, ◌≤◌, Bool, true, false, not, ◌&&◌, eqb, leb, sym, refl, ap, ◌∙◌, mul-le-mul_left, mul-zero, mul-one, arith, eq-eqb, eqb-true, leb-true}
use native.Mathlib.Nat.{mul-mod_right, div-add-mod}
use Rattle.std.proofs.lemmas.Bool.{le-leb, and_from, true≢false}
use Rattle.field.specs.Every.{some_below}
use Rattle.field.proofs.Tested.{and_true, every_below_at, some_below_true, some_below_none}
use Rattle.prime.specs.Primes.{is_prime, PrimeNumber}

-- a number from 2 on, below q, that divides q
abbrev divides : ℕ → ℕ → Bool
divides q a = leb 2 a && eqb (q % a) 0

abbrev same : Bool → Bool → Bool
same true b = b
same false b = not b

same_eq : (a b : Bool) → same a b ≡ true → a ≡ b
same_eq true true h = refl
same_eq true false h = sym h
same_eq false true h = h
same_eq false false h = refl

abbrev undivided : ℕ → Bool
undivided q = leb 2 q && not (some_below (divides q) q)

-- what antt computes at each number up to 64
listed_is : (q : ℕ) → q ≤ 64 → is_prime q ≡ undivided q
unfolding is_prime
listed_is q h = same_eq (is_prime q) (undivided q) (every_below_at (λ q. same (is_prime q) (undivided q)) 65 q refl (omega arith))

-- a product of two numbers above 1 has a divisor below it
split : (q a b : ℕ) → 2 ≤ a → 2 ≤ b → a * b ≡ q → some_below (divides q) q ≡ true
split q a b ha hb e =
    let k : a * 2 ≤ a * b = mul-le-mul_left a hb in
    some_below_true (divides q) q a (omega arith) (and_from (leb 2 a) (eqb (q % a) 0) (le-leb 2 a ha) (eq-eqb (q % a) 0 (ap (λ (x : ℕ). x % a) (sym e) ∙ mul-mod_right a b)))

-- and a divisor below q leaves another factor above 1
factors : (q a : ℕ) → 2 ≤ q → a < q → divides q a ≡ true → (2 ≤ a) × (2 ≤ q / a) × (a * (q / a) ≡ q)
factors q a hq h t =
    let ts = and_true (leb 2 a) (eqb (q % a) 0) t in
    let ha : 2 ≤ a = leb-true 2 a ts.0 in
    let z : q % a ≡ 0 = eqb-true (q % a) 0 ts.1 in
    let whole : a * (q / a) ≡ q = (let w = div-add-mod q a in omega arith) in
    (ha, above (q / a) whole, whole)
  where
    above : (b : ℕ) → a * b ≡ q → 2 ≤ b
    above zero e = absurd (let z = mul-zero a in omega arith)
    above (suc zero) e = absurd (let z = mul-one a in omega arith)
    above (suc (suc b)) e = omega arith

pub primes_listed : (q : ℕ) → q ≤ 64 → (is_prime q ≡ true → PrimeNumber q) × (PrimeNumber q → is_prime q ≡ true)
primes_listed q h = (forth, back)
  where
    forth : is_prime q ≡ true → PrimeNumber q
    forth p =
        let ts = and_true (leb 2 q) (not (some_below (divides q) q)) (sym (listed_is q h) ∙ p) in
        record {
          above = leb-true 2 q ts.0;
          whole = λ a b ha hb e. let s = split q a b ha hb e in true≢false (sym ts.1 ∙ ap not s);
        }

    back : PrimeNumber q → is_prime q ≡ true
    back p =
        listed_is q h ∙ and_from (leb 2 q) (not (some_below (divides q) q)) (le-leb 2 q p.above)
        (ap not (some_below_none (divides q) q (λ k hk t. let w = factors q k p.above hk t in p.whole k (q / k) w.0 w.1 w.2)))
