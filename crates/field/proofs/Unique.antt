-- What `opposite_of` and `inverse_of` answer over lawful tables: the one code, or nothing. Assumes nothing.
use Rattle.std.proofs.Common.{◌≡◌, ℕ, zero, suc, ◌<◌, ◌≤◌, ◌⊎◌, Some, None, Option, sym, refl, ap, ◌∙◌, subst, inl, inr, arith, le-ltb, lt-ltb}
use Rattle.std.proofs.lemmas.Bool.{cases_lt}
use Rattle.field.specs.Tables.{Tables, Lawful, least, opposite_of, inverse_of}
use Rattle.field.specs.Only.{TheOne, Opposites, Inverses}
use Rattle.field.proofs.Least.{both, at_both_is, found, none}
use Rattle.field.proofs.Derived.{opposite_at, inverse_at}
use Rattle.field.proofs.Cancel.{zero_product, opposite_only, inverse_only}

-- the least code is the only one
pub least_is : (q : ℕ) (f : ℕ → ℕ → ℕ) (a v b : ℕ) → a < q → b < q → f a b ≡ v → ((c : ℕ) → c < q → f a c ≡ v → c ≡ b) → least q f a v ≡ Some b
least_is q f a v b ha hb e one =
    sym (found q f a b v (at_both_is q f a b (lt-ltb a q ha) (lt-ltb b q hb) ∙ ap Some e)
    (λ k hk s. let s' = both q f a k v s in let z : k ≡ b = one k (omega arith) s'.is in omega arith))

pub least_out : (q : ℕ) (f : ℕ → ℕ → ℕ) (a v : ℕ) → q ≤ a → least q f a v ≡ None
unfolding least
least_out q f a v h = rw (le-ltb a q h)

-- an answer that is some code is no other, and not nothing
the_one : (q : ℕ) (f : ℕ → ℕ → ℕ) (a v c : ℕ) → c < q → f a c ≡ v → ((b : ℕ) → b < q → f a b ≡ v → least q f a v ≡ Some b) → TheOne q (f a) v (least q f a v)
the_one q f a v c hc e is = record {
  told = λ b s. let z : c ≡ b = cc (is c hc e) in (subst (λ (x : ℕ). x < q) z hc, ap (f a) (sym z) ∙ e);
  only = is;
}

some_none : (b : ℕ) (o : Option ℕ) → o ≡ Some b → o ≡ None → ⊥
some_none b o s n = let z : ◌≡◌ {A = ℕ} 0 1 = cc in omega arith

module _ (t : Tables) (l : Lawful t) where
  pub opposite_is : (a b : ℕ) → a < t.order → b < t.order → t.sum a b ≡ 0 → opposite_of t a ≡ Some b
  opposite_is a b ha hb e = least_is t.order t.sum a 0 b ha hb e (λ c hc f. opposite_only t l a c b ha hc hb f e)

  pub inverse_is : (a b : ℕ) → a < t.order → b < t.order → t.product a b ≡ 1 → inverse_of t a ≡ Some b
  inverse_is a b ha hb e = least_is t.order t.product a 1 b ha hb e (λ c hc f. inverse_only t l a c b ha hc hb f e)

  pub inverse_of_zero : inverse_of t 0 ≡ None
  inverse_of_zero =
      sym (none t.order t.product 0 1
      (λ k hk s. let s' = both t.order t.product 0 k 1 s in let z : ◌≡◌ {A = ℕ} 1 0 = sym s'.is ∙ zero_product t l k hk in omega arith))

  pub opposites : Opposites t
  opposites = record {
    one = λ a ha. let w = opposite_at t l a ha in
        the_one t.order t.sum a 0 w.0 w.1 w.2 (λ b hb e. opposite_is a b ha hb e);
    none = λ a n. elim (cases_lt a t.order) [
      | inl ha ↦ let w = opposite_at t l a ha in absurd (some_none w.0 (opposite_of t a) (opposite_is a w.0 ha w.1 w.2) n)
      | inr h ↦ h
    ];
    refused = λ a h. least_out t.order t.sum a 0 h;
  }

  pub inverses : Inverses t
  inverses = record {
    one = λ a pa ha. let w = inverse_at t l a pa ha in
        the_one t.order t.product a 1 w.0 w.1 w.2 (λ b hb e. inverse_is a b ha hb e);
    none = inverse_none;
    refused = λ a h. elim h [
      | inl z ↦ ap (inverse_of t) z ∙ inverse_of_zero
      | inr k ↦ least_out t.order t.product a 1 k
    ];
  }
    where
      inverse_none : (a : ℕ) → inverse_of t a ≡ None → (a ≡ 0) ⊎ (t.order ≤ a)
      inverse_none zero n = inl refl
      inverse_none (suc a) n = elim (cases_lt (suc a) t.order) [
        | inl ha ↦ let w = inverse_at t l (suc a) (omega arith) ha in absurd (some_none w.0 (inverse_of t (suc a)) (inverse_is (suc a) w.0 ha w.1 w.2) n)
        | inr h ↦ inr h
      ]
