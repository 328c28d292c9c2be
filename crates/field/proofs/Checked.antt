-- Lawful tables, by one computed test. Assumes nothing.
use Rattle.std.proofs.Common.{◌≡◌, ℕ, ◌<◌, Bool, true, ◌&&◌, ◌||◌, eqb, ltb, leb, inl, inr, arith, ltb-true, eqb-true, leb-true}
use Rattle.field.specs.Tables.{Tables, Lawful}
use Rattle.field.specs.Every.{every_below, some_below}
use Rattle.field.proofs.Tested.{and_true, or_true, every_below_at, some_below_at}

abbrev pub every2 : ℕ → (ℕ → ℕ → Bool) → Bool
every2 q p = every_below (λ a. every_below (p a) q) q

abbrev pub every3 : ℕ → (ℕ → ℕ → ℕ → Bool) → Bool
every3 q p = every_below (λ a. every_below (λ b. every_below (p a b) q) q) q

pub every2_at : (q : ℕ) (p : ℕ → ℕ → Bool) → every2 q p ≡ true → (a b : ℕ) → a < q → b < q → p a b ≡ true
every2_at q p t a b ha hb = every_below_at (p a) q b (every_below_at (λ a. every_below (p a) q) q a t ha) hb

pub every3_at : (q : ℕ) (p : ℕ → ℕ → ℕ → Bool) → every3 q p ≡ true → (a b c : ℕ) → a < q → b < q → c < q → p a b c ≡ true
every3_at q p t a b c ha hb hc =
    every_below_at (p a b) q c (every2_at q (λ a b. every_below (p a b) q) t a b ha hb) hc

abbrev pub sums_test : ℕ → (ℕ → ℕ → ℕ) → ℕ → Bool
sums_test q s e = every2 q (λ a b. ltb (s a b) q && eqb (s a b) (s b a)) && (every_below (λ a. eqb (s e a) a) q && every3 q (λ a b c. eqb (s (s a b) c) (s a (s b c))))

abbrev pub whole_test : Tables → Bool
whole_test t =
    (leb 2 t.order && leb t.order 64)
    && ((sums_test t.order t.sum 0 && sums_test t.order t.product 1)
    && ((every_below (λ a. some_below (λ b. eqb (t.sum a b) 0) t.order) t.order && every_below (λ a. eqb a 0 || some_below (λ b. eqb (t.product a b) 1) t.order) t.order)
    && every3 t.order (λ a b c. eqb (t.product a (t.sum b c)) (t.sum (t.product a b) (t.product a c)))))

record Half (q : ℕ) (s : ℕ → ℕ → ℕ) (e : ℕ) : Type 0 where
  code : (a b : ℕ) → a < q → b < q → s a b < q
  comm : (a b : ℕ) → a < q → b < q → s a b ≡ s b a
  neutral : (a : ℕ) → a < q → s e a ≡ a
  assoc : (a b c : ℕ) → a < q → b < q → c < q → s (s a b) c ≡ s a (s b c)

half : (q : ℕ) (s : ℕ → ℕ → ℕ) (e : ℕ) → sums_test q s e ≡ true → Half q s e
half q s e t =
    let x = and_true (every2 q (λ a b. ltb (s a b) q && eqb (s a b) (s b a))) _ t in
    let y = and_true (every_below (λ a. eqb (s e a) a) q) _ x.1 in
    let cc2 : (a b : ℕ) → a < q → b < q → (ltb (s a b) q ≡ true) × (eqb (s a b) (s b a) ≡ true) =
    λ a b ha hb. and_true (ltb (s a b) q) (eqb (s a b) (s b a)) (every2_at q (λ a b. ltb (s a b) q && eqb (s a b) (s b a)) x.0 a b ha hb) in
    record {
      code = λ a b ha hb. ltb-true (s a b) q (cc2 a b ha hb).0;
      comm = λ a b ha hb. eqb-true (s a b) (s b a) (cc2 a b ha hb).1;
      neutral = λ a ha. eqb-true (s e a) a (every_below_at (λ a. eqb (s e a) a) q a y.0 ha);
      assoc = λ a b c ha hb hc. eqb-true (s (s a b) c) (s a (s b c)) (every3_at q (λ a b c. eqb (s (s a b) c) (s a (s b c))) y.1 a b c ha hb hc);
    }

pub checked : (t : Tables) → whole_test t ≡ true → Lawful t
checked t h =
    let q : ℕ = t.order in
    let x = and_true (leb 2 q && leb q 64) _ h in
    let o = and_true (leb 2 q) (leb q 64) x.0 in
    let y = and_true (sums_test q t.sum 0 && sums_test q t.product 1) _ x.1 in
    let h2 = and_true (sums_test q t.sum 0) (sums_test q t.product 1) y.0 in
    let z = and_true (every_below (λ a. some_below (λ b. eqb (t.sum a b) 0) q) q && every_below (λ a. eqb a 0 || some_below (λ b. eqb (t.product a b) 1) q) q) _ y.1 in
    let i2 = and_true (every_below (λ a. some_below (λ b. eqb (t.sum a b) 0) q) q) _ z.0 in
    let s = half q t.sum 0 h2.0 in
    let p = half q t.product 1 h2.1 in
    record {
      low = leb-true 2 q o.0;
      high = leb-true q 64 o.1;
      sum_code = s.code;
      product_code = p.code;
      sum_comm = s.comm;
      product_comm = p.comm;
      sum_assoc = s.assoc;
      product_assoc = p.assoc;
      zero_sum = s.neutral;
      one_product = p.neutral;
      opposite = λ a ha. ∣ (let r = some_below_at (λ b. eqb (t.sum a b) 0) q (every_below_at _ q a i2.0 ha) in (r.0, r.1, eqb-true _ 0 r.2)) ∣₁;
      inverse = λ a pa ha. ∣ inverse_of_is a pa (every_below_at (λ a. eqb a 0 || some_below (λ b. eqb (t.product a b) 1) q) q a i2.1 ha) ∣₁;
      spread = λ a b c ha hb hc. eqb-true _ _ (every3_at q (λ a b c. eqb (t.product a (t.sum b c)) (t.sum (t.product a b) (t.product a c))) z.1 a b c ha hb hc);
    }
  where
    inverse_of_is : (a : ℕ) → 0 < a → (eqb a 0 || some_below (λ b. eqb (t.product a b) 1) t.order) ≡ true → (b : ℕ) × (b < t.order) × (t.product a b ≡ 1)
    inverse_of_is a pa w =
        elim (or_true (eqb a 0) _ w) [
          | inl e ↦ let z : a ≡ 0 = eqb-true a 0 e in absurd (omega arith)
          | inr e ↦ let r = some_below_at (λ b. eqb (t.product a b) 1) t.order e in (r.0, r.1, eqb-true _ 1 r.2)
        ]
