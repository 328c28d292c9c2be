-- The first code in a row of a table, and the rows of two tables that agree. Assumes nothing.
use Rattle.std.proofs.Common.{◌≡◌, ℕ, zero, suc, ◌+◌, ◌<◌, ◌≤◌, Bool, true, false, cond, eqb, ltb, List, map, Some, None, Option, unwrap_or, sym, refl, ap, ◌∙◌, inl, inr, arith, lt-ltb}
use Rattle.std.specs.List.{range_with_len}
use Rattle.std.proofs.lemmas.Bool.{cases_lt}
use Rattle.field.specs.Tables.{first, least}
use Rattle.field.proofs.Least.{both, at_both_is, found, none}
use Rattle.field.proofs.Unique.{least_out}
use Rattle.field.specs.Grids.{entry, grid, solution, solutions}
use Rattle.field.proofs.Grids.{lookup}

pub solved : (q : ℕ) (f : ℕ → ℕ → ℕ) (a b v : ℕ) → a < q → b < q → f a b ≡ v → ((k : ℕ) → k < b → f a k ≡ v → ⊥) → Some b ≡ least q f a v
solved q f a b v ha hb e un =
    found q f a b v (at_both_is q f a b (lt-ltb a q ha) (lt-ltb b q hb) ∙ ap Some e) (λ k hk s. un k hk (both q f a k v s).is)

pub unsolved : (q : ℕ) (f : ℕ → ℕ → ℕ) (a v : ℕ) → ((k : ℕ) → k < q → f a k ≡ v → ⊥) → None ≡ least q f a v
unsolved q f a v un = none q f a v (λ k hk s. un k hk (both q f a k v s).is)

first_same : (p r : ℕ → Bool) (i n : ℕ) → ((k : ℕ) → i ≤ k → k < i + n → p k ≡ r k) → first p i n ≡ first r i n
first_same p r i zero e = refl
first_same p r i (suc n) e =
    ap (λ (b : Bool). elim b as (λ _. Option ℕ) [ true ↦ Some i | false ↦ first p (suc i) n ]) (e i (omega arith) (omega arith))
    ∙ ap (λ (o : Option ℕ). elim (r i) as (λ _. Option ℕ) [ true ↦ Some i | false ↦ o ]) (first_same p r (suc i) n (λ k l h. e k (omega arith) (omega arith)))

same_code : (q : ℕ) (f g : ℕ → ℕ → ℕ) (v a : ℕ) → a < q → ((a b : ℕ) → a < q → b < q → f a b ≡ g a b) → least q f a v ≡ least q g a v
unfolding least
same_code q f g v a h e =
    ap (λ (o : Option ℕ). cond (ltb a q) o None)
    (first_same (λ b. eqb (f a b) v) (λ b. eqb (g a b) v) 0 q (λ k l hk. ap (λ (x : ℕ). eqb x v) (e a k h (omega arith))))

-- tables that agree on codes have the same solutions
pub least_same : (q : ℕ) (f g : ℕ → ℕ → ℕ) (v a : ℕ) → ((a b : ℕ) → a < q → b < q → f a b ≡ g a b) → least q f a v ≡ least q g a v
least_same q f g v a e =
    elim (cases_lt a q) [ inl h ↦ same_code q f g v a h e | inr h ↦ least_out q f a v h ∙ sym (least_out q g a v h) ]

pub solutions_same : (q : ℕ) (f : ℕ → ℕ → ℕ) (v : ℕ) (xs : List ℕ) → q ≤ 64 → xs ≡ grid 64 q f → solutions q (entry 64 xs) v ≡ solutions q f v
unfolding solutions
solutions_same q f v xs fit e =
    let same : (a : ℕ) → solution q (entry 64 xs) v a ≡ solution q f v a =
    λ a. ap (λ (o : Option ℕ). unwrap_or o 0) (least_same q (entry 64 xs) f v a (λ x y hx hy. ap (λ (ys : List ℕ). entry 64 ys x y) e ∙ lookup 64 q f x y fit hx hy)) in
    λ i. map (λ a. same a i) (range_with_len 0 64)
