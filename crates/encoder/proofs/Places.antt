-- One entry of a row more. Assumes nothing.
use Rattle.std.proofs.Common.{◌≡◌, ℕ, suc, ◌+◌, ◌*◌, ◌/◌, ◌%◌, ◌<◌, ◌≤◌, ◌⊎◌, List, length, get_or, set, sym, refl, ap, ◌∙◌, subst, ap₂, inl, inr, arith, get_or-set_other, get_or-set_same}
use lib.Arith.{digits_lt, digits_div, digits_mod}
use Rattle.field.specs.Tables.{Tables}
use Rattle.linear.specs.Words.{Matrix}
use Rattle.linear.specs.Elimination.{Added}
use Rattle.encoder.specs.Bytes.{laid}
use Rattle.linear.proofs.Tests.{last}

pub room_at : (s : List ℕ) (m n r j : ℕ) → m * n ≤ length s → r < m → j < n → r * n + j < length s
room_at s m n r j h a b = let d : r * n + j < m * n = digits_lt a b in omega arith

-- two places of one number are one
pub same_place : (n x j r k : ℕ) → j < n → k < n → x * n + j ≡ r * n + k → (x ≡ r) × (j ≡ k)
same_place n x j r k a b e = (sym (digits_div x a) ∙ ap (λ (y : ℕ). y / n) e ∙ digits_div r b, sym (digits_mod x a) ∙ ap (λ (y : ℕ). y % n) e ∙ digits_mod r b)

pub added_none : (t : Tables) (R : Matrix) (r i h : ℕ) → Added t R R r i h 0
added_none t R r i h = record { done = λ j l. absurd (let z : ⊥ = omega arith in z); rest = λ x j a b c. refl }

module _ (t : Tables) (s₀ s : List ℕ) (m n r i h k : ℕ) (room : m * n ≤ length s) (hr : r < m) (hi : i < m) (ne : r ≡ i → ⊥) (hk : k < n)
    (inv : Added t (laid s₀ m n) (laid s m n) r i h k) where
  pub source_kept : get_or s (i * n + k) 0 ≡ get_or s₀ (i * n + k) 0
  source_kept = inv.rest i k hi hk (inl (λ e. ne (sym e)))

  pub target_kept : get_or s (r * n + k) 0 ≡ get_or s₀ (r * n + k) 0
  target_kept = inv.rest r k hr hk (inr (omega arith))

  pub added_more : (v k' : ℕ) → k' ≡ suc k → v ≡ t.sum (get_or s (r * n + k) 0) (t.product h (get_or s (i * n + k) 0)) → Added t (laid s₀ m n) (laid (set s (r * n + k) v) m n) r i h k'
  added_more v k' ek e = record {
    done = λ j l. done_at j (last k j (omega arith));
    rest = λ x j a b c. off x j a b (λ q. let p = same_place n x j r k b hk q in differ x j c p.0 p.1) ∙ inv.rest x j a b (weaker x j c);
  }
    where
      in_range_is : r * n + k < length s
      in_range_is = room_at s m n r k room hr hk

      off : (x j : ℕ) → x < m → j < n → ¬ (x * n + j ≡ r * n + k) → get_or (set s (r * n + k) v) (x * n + j) 0 ≡ get_or s (x * n + j) 0
      off x j a b d = rw get_or-set_other

      differ : (x j : ℕ) → (¬ (x ≡ r)) ⊎ (k' ≤ j) → x ≡ r → j ≡ k → ⊥
      differ x j (inl d) p q = d p
      differ x j (inr d) p q = omega arith

      weaker : (x j : ℕ) → (¬ (x ≡ r)) ⊎ (k' ≤ j) → (¬ (x ≡ r)) ⊎ (k ≤ j)
      weaker x j (inl d) = inl d
      weaker x j (inr d) = inr (omega arith)

      done_at : (j : ℕ) → (k ≡ j) ⊎ (j < k) → get_or (set s (r * n + k) v) (r * n + j) 0 ≡ t.sum (get_or s₀ (r * n + j) 0) (t.product h (get_or s₀ (i * n + j) 0))
      done_at j (inl p) = subst (λ (y : ℕ). get_or (set s (r * n + k) v) (r * n + y) 0 ≡ t.sum (get_or s₀ (r * n + y) 0) (t.product h (get_or s₀ (i * n + y) 0))) p
          ((rw (get_or-set_same, in_range_is)) ∙ e ∙ ap₂ (λ (a b : ℕ). t.sum a (t.product h b)) target_kept source_kept)
      done_at j (inr l) = off r j hr (omega arith) (λ q. let p : j ≡ k = (same_place n r j r k (omega arith) hk q).1 in omega arith) ∙ inv.done j l
