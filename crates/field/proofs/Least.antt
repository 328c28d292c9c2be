-- The least search over codes, from the answers of a table. Assumes nothing.
use Rattle.std.proofs.Common.{◌≡◌, ℕ, ◌<◌, ◌≤◌, Bool, true, false, cond, T, eqb, ltb, Some, None, Option, sym, refl, ap, ◌∙◌, subst, arith, eqb→eq, ltb→lt, lt-ltb, eq-eqb}
use Rattle.std.specs.Option.{MatchOption}
use Rattle.field.specs.Tables.{first, least, at_both}
use Rattle.field.proofs.First.{first_found, first_none}

-- a table's answer Some v is one of codes, and v is the entry
pub record Both (q : ℕ) (f : ℕ → ℕ → ℕ) (a b v : ℕ) : Type 0 where
  pub left : ltb a q ≡ true
  pub right : ltb b q ≡ true
  pub is : f a b ≡ v

pub both : (q : ℕ) (f : ℕ → ℕ → ℕ) (a b v : ℕ) → at_both q f a b ≡ Some v → Both q f a b v
both q f a b v e = go (ltb a q) (ltb b q) refl refl e
  where
    go : (x y : Bool) → ltb a q ≡ x → ltb b q ≡ y → cond x (cond y (Some (f a b)) None) None ≡ Some v → Both q f a b v
    go true true p r h = record { left = p; right = r; is = cc }
    go true false p r h = let z : ◌≡◌ {A = ℕ} 0 1 = cc in absurd (omega arith)
    go false y p r h = let z : ◌≡◌ {A = ℕ} 0 1 = cc in absurd (omega arith)

pub at_both_is : (q : ℕ) (f : ℕ → ℕ → ℕ) (a b : ℕ) → ltb a q ≡ true → ltb b q ≡ true → at_both q f a b ≡ Some (f a b)
at_both_is q f a b p r = rw (p, r)

pub found : (q : ℕ) (f : ℕ → ℕ → ℕ) (a b v : ℕ) → at_both q f a b ≡ Some v → ((k : ℕ) → k < b → at_both q f a k ≡ Some v → ⊥) → Some b ≡ least q f a v
unfolding least
found q f a b v e un =
    let h : Both q f a b v = both q f a b v e in
    let lt : b < q = ltb→lt b q (subst T (sym h.right) tt) in
    let here : T (eqb (f a b) v) = subst T (sym (eq-eqb (f a b) v h.is)) tt in
    let before : (k : ℕ) → 0 ≤ k → k < b → T (eqb (f a k) v) → ⊥ = λ k lo hi t. un k hi (at_both_is q f a k h.left (lt-ltb k q (omega arith)) ∙ ap Some (eqb→eq (f a k) v t)) in
    sym (rw h.left (first_found (λ x. eqb (f a x) v) 0 q b (omega arith) (omega arith) here before))

pub none : (q : ℕ) (f : ℕ → ℕ → ℕ) (a v : ℕ) → ((k : ℕ) → k < q → at_both q f a k ≡ Some v → ⊥) → None ≡ least q f a v
unfolding least
none q f a v un = go (ltb a q) refl
  where
    go : (x : Bool) → ltb a q ≡ x → None ≡ cond x (first (λ b. eqb (f a b) v) 0 q) None
    go true p = sym (first_none (λ x. eqb (f a x) v) 0 q (λ k lo hi t. un k (omega arith) (at_both_is q f a k p (lt-ltb k q (omega arith)) ∙ ap Some (eqb→eq (f a k) v t))))
    go false p = refl

-- what a search over the codes in turn answers
pub searched : (q n : ℕ) (f : ℕ → ℕ → ℕ) (a v : ℕ) (r : Option ℕ) → n ≡ q
    → MatchOption r ((k : ℕ) → 0 ≤ k → k < n → at_both q f a k ≡ Some v → ⊥)
    (λ b. (0 ≤ b) × (b < n) × (at_both q f a b ≡ Some v) × ((k : ℕ) → 0 ≤ k → k < b → at_both q f a k ≡ Some v → ⊥))
    → r ≡ least q f a v
searched q n f a v None e m = none q f a v (λ k h. m k (omega arith) (omega arith))
searched q n f a v (Some b) e m = found q f a b v m.2 (λ k h. m.3 k (omega arith) h)

-- the same of a search along the row of a code
pub searched_row : (q : ℕ) (f : ℕ → ℕ → ℕ) (a v : ℕ) (r : Option ℕ) → a < q
    → MatchOption r ((k : ℕ) → 0 ≤ k → k < q → f a k ≡ v → ⊥) (λ b. (0 ≤ b) × (b < q) × (f a b ≡ v) × ((k : ℕ) → 0 ≤ k → k < b → f a k ≡ v → ⊥))
    → r ≡ least q f a v
searched_row q f a v None code m = none q f a v (λ k h s. m k (omega arith) h (both q f a k v s).is)
searched_row q f a v (Some b) code m =
    found q f a b v (at_both_is q f a b (lt-ltb a q code) (lt-ltb b q m.1) ∙ ap Some m.2) (λ k h s. m.3 k (omega arith) h (both q f a k v s).is)
