-- The opposite and the inverse of a code, as codes. Assumes nothing.
use Rattle.std.proofs.Common.{◌≡◌, ℕ, ◌<◌, Some, Option, sym, ap, ◌∙◌, subst}
use Rattle.field.specs.Tables.{Tables, Lawful, opposite_of, inverse_of}
use Rattle.field.proofs.Derived.{opposite_at, inverse_at}
use Rattle.field.proofs.Unique.{opposite_is, inverse_is}
use Rattle.tree.specs.Rows.{code_in}
use Rattle.frame.specs.Vectors.{minus, over_one}

pub record Code (q : ℕ) (f : ℕ → ℕ) (v : ℕ) (o : Option ℕ) (c : ℕ) : Type 0 where
  pub answer : o ≡ Some c
  pub below : c < q
  pub is : f c ≡ v

module _ (t : Tables) (L : Lawful t) (a : ℕ) (h : a < t.order) where
  pub opposite_found : Code t.order (t.sum a) 0 (opposite_of t a) (minus t a)
  opposite_found =
      let w = opposite_at t L a h in
      let e = opposite_is t L a w.0 h w.1 w.2 in
      let z : w.0 ≡ code_in (opposite_of t a) = sym (ap code_in e) in
      record { answer = e ∙ ap Some z; below = subst (λ (x : ℕ). x < t.order) z w.1; is = ap (t.sum a) (sym z) ∙ w.2 }

  pub inverse_found : 0 < a → Code t.order (t.product a) 1 (inverse_of t a) (over_one t a)
  inverse_found p =
      let w = inverse_at t L a p h in
      let e = inverse_is t L a w.0 h w.1 w.2 in
      let z : w.0 ≡ code_in (inverse_of t a) = sym (ap code_in e) in
      record { answer = e ∙ ap Some z; below = subst (λ (x : ℕ). x < t.order) z w.1; is = ap (t.product a) (sym z) ∙ w.2 }
