-- One sum tells the opposite, and one product the inverse. Assumes nothing.
use Rattle.std.proofs.Common.{◌≡◌, ℕ, zero, suc, ◌<◌, ◌≤◌, false, eqb, Some, None, Option, sym, refl, ap, ◌∙◌, inl, inr, arith, le-ltb, lt-ltb, ne_eqb}
use Rattle.std.specs.Option.{option_eq}
use Rattle.std.proofs.lemmas.Bool.{cases_lt}
use Rattle.std.proofs.lemmas.Bool.Decides.{same_from_decides, Decides-eqb, Decides-like}
use Rattle.field.specs.Tables.{Tables, Lawful, least, at_both, sum_of, product_of, opposite_of, inverse_of}
use Rattle.field.specs.Only.{TheOne, is_answer}
use Rattle.field.proofs.Unique.{least_out, opposites, inverses, inverse_of_zero}
use Rattle.field.proofs.Cancel.{zero_product}

-- what `== Some(v)` answers
pub compared : (o : Option ℕ) (v : ℕ) → option_eq eqb o (Some v) ≡ is_answer o v
compared (Some x) v = refl
compared None v = refl

-- where the answer is the one code with f a b = v, the entry v tells it
tells : (q : ℕ) (f : ℕ → ℕ → ℕ) (a v b : ℕ) → a < q → TheOne q (f a) v (least q f a v) → is_answer (at_both q f a b) v ≡ is_answer (least q f a v) b
tells q f a v b ha one = elim (cases_lt b q) [ inl hb ↦ code hb | inr hb ↦ outside hb ]
  where
    code : b < q → is_answer (at_both q f a b) v ≡ is_answer (least q f a v) b
    code hb = let e : at_both q f a b ≡ Some (f a b) = rw (lt-ltb a q ha, lt-ltb b q hb) in ap (λ (o : Option ℕ). is_answer o v) e ∙ go (least q f a v) refl
      where
        go : (o : Option ℕ) → least q f a v ≡ o → eqb (f a b) v ≡ is_answer o b
        go (Some w) e =
            same_from_decides (eqb (f a b) v) (eqb w b) (Decides-eqb (f a b) v)
            (Decides-like (eqb w b) (λ z. ap (f a) (sym z) ∙ (one.told w e).1) (λ h. let s = one.only b hb h in cc) (Decides-eqb w b))
        go None e = ne_eqb (f a b) v (λ h. let s = one.only b hb h in let z : ◌≡◌ {A = ℕ} 0 1 = cc in omega arith)

    outside : q ≤ b → is_answer (at_both q f a b) v ≡ is_answer (least q f a v) b
    outside hb = let e : at_both q f a b ≡ None = rw (lt-ltb a q ha, le-ltb b q hb) in ap (λ (o : Option ℕ). is_answer o v) e ∙ go (least q f a v) refl
      where
        go : (o : Option ℕ) → least q f a v ≡ o → false ≡ is_answer o b
        go (Some w) e = sym (ne_eqb w b (λ z. let h = (one.told w e).0 in omega arith))
        go None e = refl

tells_out : (q : ℕ) (f : ℕ → ℕ → ℕ) (a v b : ℕ) → q ≤ a → is_answer (at_both q f a b) v ≡ is_answer (least q f a v) b
tells_out q f a v b h =
    let e : at_both q f a b ≡ None = rw (le-ltb a q h) in ap (λ (o : Option ℕ). is_answer o v) e ∙ ap (λ (o : Option ℕ). is_answer o b) (sym (least_out q f a v h))

module _ (t : Tables) (l : Lawful t) where
  pub sum_tells : (a b : ℕ) → is_answer (sum_of t a b) 0 ≡ is_answer (opposite_of t a) b
  sum_tells a b = elim (cases_lt a t.order) [
    | inl ha ↦ tells t.order t.sum a 0 b ha ((opposites t l).one a ha)
    | inr h ↦ tells_out t.order t.sum a 0 b h
  ]

  zero_one : TheOne t.order (t.product 0) 1 (inverse_of t 0)
  zero_one = record {
    told = λ b s. let n = inverse_of_zero t l in let z : ◌≡◌ {A = ℕ} 0 1 = cc in absurd (omega arith);
    only = λ b hb e. let z : ◌≡◌ {A = ℕ} 1 0 = sym e ∙ zero_product t l b hb in absurd (omega arith);
  }

  pub product_tells : (a b : ℕ) → is_answer (product_of t a b) 1 ≡ is_answer (inverse_of t a) b
  product_tells a b = elim (cases_lt a t.order) [
    | inl ha ↦ tells t.order t.product a 1 b ha (one a ha)
    | inr h ↦ tells_out t.order t.product a 1 b h
  ]
    where
      one : (a : ℕ) → a < t.order → TheOne t.order (t.product a) 1 (inverse_of t a)
      one zero h = zero_one
      one (suc a) h = (inverses t l).one (suc a) (omega arith) h
