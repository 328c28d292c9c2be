-- Sums and products over lawful tables cancel, and have one solution. Assumes nothing.
use Rattle.std.proofs.Common.{◌≡◌, ℕ, zero, suc, ◌<◌, sym, refl, ap, ◌∙◌, ap₂, arith}
use Rattle.field.specs.Tables.{Tables, Lawful}
use Rattle.field.proofs.Derived.{opposite_at, inverse_at}

module _ (t : Tables) (l : Lawful t) where
  pub zero_code : 0 < t.order
  zero_code = let h = l.low in omega arith

  pub one_code : 1 < t.order
  one_code = l.low

  pub sum_zero : (a : ℕ) → a < t.order → t.sum a 0 ≡ a
  sum_zero a ha = l.sum_comm a 0 ha zero_code ∙ l.zero_sum a ha

  pub product_one : (a : ℕ) → a < t.order → t.product a 1 ≡ a
  product_one a ha = l.product_comm a 1 ha one_code ∙ l.one_product a ha

  -- products spread over sums on the right too
  pub spread_right : (a b c : ℕ) → a < t.order → b < t.order → c < t.order → t.product (t.sum a b) c ≡ t.sum (t.product a c) (t.product b c)
  spread_right a b c ha hb hc =
      l.product_comm (t.sum a b) c (l.sum_code a b ha hb) hc ∙ l.spread c a b hc ha hb
      ∙ ap₂ t.sum (l.product_comm c a hc ha) (l.product_comm c b hc hb)

  -- what stands first in a sum of three may stand second
  pub sum_left : (a b c : ℕ) → a < t.order → b < t.order → c < t.order → t.sum a (t.sum b c) ≡ t.sum b (t.sum a c)
  sum_left a b c ha hb hc =
      sym (l.sum_assoc a b c ha hb hc) ∙ ap (λ (x : ℕ). t.sum x c) (l.sum_comm a b ha hb) ∙ l.sum_assoc b a c hb ha hc

  pub product_left : (a b c : ℕ) → a < t.order → b < t.order → c < t.order → t.product a (t.product b c) ≡ t.product b (t.product a c)
  product_left a b c ha hb hc =
      sym (l.product_assoc a b c ha hb hc) ∙ ap (λ (x : ℕ). t.product x c) (l.product_comm a b ha hb) ∙ l.product_assoc b a c hb ha hc

  -- a code and its opposite vanish before a sum
  pub sum_back : (a b x : ℕ) → a < t.order → b < t.order → x < t.order → t.sum a b ≡ 0 → t.sum b (t.sum a x) ≡ x
  sum_back a b x ha hb hx e =
      sym (l.sum_assoc b a x hb ha hx) ∙ ap (λ (y : ℕ). t.sum y x) (l.sum_comm b a hb ha ∙ e) ∙ l.zero_sum x hx

  -- a code and its inverse vanish before a product
  pub product_back : (a b x : ℕ) → a < t.order → b < t.order → x < t.order → t.product a b ≡ 1 → t.product b (t.product a x) ≡ x
  product_back a b x ha hb hx e =
      sym (l.product_assoc b a x hb ha hx) ∙ ap (λ (y : ℕ). t.product y x) (l.product_comm b a hb ha ∙ e) ∙ l.one_product x hx

  pub sum_cancel : (a b c : ℕ) → a < t.order → b < t.order → c < t.order → t.sum a b ≡ t.sum a c → b ≡ c
  sum_cancel a b c ha hb hc e =
      let w = opposite_at t l a ha in
      sym (sum_back a w.0 b ha w.1 hb w.2) ∙ ap (t.sum w.0) e ∙ sum_back a w.0 c ha w.1 hc w.2

  pub product_cancel : (a b c : ℕ) → 0 < a → a < t.order → b < t.order → c < t.order → t.product a b ≡ t.product a c → b ≡ c
  product_cancel a b c pa ha hb hc e =
      let w = inverse_at t l a pa ha in
      sym (product_back a w.0 b ha w.1 hb w.2) ∙ ap (t.product w.0) e ∙ product_back a w.0 c ha w.1 hc w.2

  pub product_zero : (a : ℕ) → a < t.order → t.product a 0 ≡ 0
  product_zero a ha =
      let p = l.product_code a 0 ha zero_code in
      sum_cancel (t.product a 0) (t.product a 0) 0 p p zero_code
      (sym (l.spread a 0 0 ha zero_code zero_code) ∙ ap (t.product a) (l.zero_sum 0 zero_code) ∙ sym (sum_zero (t.product a 0) p))

  pub zero_product : (a : ℕ) → a < t.order → t.product 0 a ≡ 0
  zero_product a ha = l.product_comm 0 a zero_code ha ∙ product_zero a ha

  -- a product is 0 only if a factor is
  pub product_nonzero : (a b : ℕ) → 0 < a → 0 < b → a < t.order → b < t.order → 0 < t.product a b
  product_nonzero a b pa pb ha hb = go (t.product a b) refl
    where
      go : (x : ℕ) → t.product a b ≡ x → 0 < x
      go zero e = let z : b ≡ 0 = product_cancel a b 0 pa ha hb zero_code (e ∙ sym (product_zero a ha)) in absurd (omega arith)
      go (suc x) e = omega arith

  -- each code has one opposite at most, and one inverse
  pub opposite_only : (a b c : ℕ) → a < t.order → b < t.order → c < t.order → t.sum a b ≡ 0 → t.sum a c ≡ 0 → b ≡ c
  opposite_only a b c ha hb hc e f = sum_cancel a b c ha hb hc (e ∙ sym f)

  pub inverse_positive : (a b : ℕ) → a < t.order → b < t.order → t.product a b ≡ 1 → 0 < a
  inverse_positive zero b ha hb e = let z : ◌≡◌ {A = ℕ} 1 0 = sym e ∙ zero_product b hb in absurd (omega arith)
  inverse_positive (suc a) b ha hb e = omega arith

  pub inverse_only : (a b c : ℕ) → a < t.order → b < t.order → c < t.order → t.product a b ≡ 1 → t.product a c ≡ 1 → b ≡ c
  inverse_only a b c ha hb hc e f = product_cancel a b c (inverse_positive a b ha hb e) ha hb hc (e ∙ sym f)

  -- the opposite of a product is the product with the opposite
  pub product_opposite : (a b c : ℕ) → a < t.order → b < t.order → c < t.order → t.sum b c ≡ 0 → t.sum (t.product a b) (t.product a c) ≡ 0
  product_opposite a b c ha hb hc e = sym (l.spread a b c ha hb hc) ∙ ap (t.product a) e ∙ product_zero a ha
