-- Bytes that hold a table, and what they hold. Assumes nothing.
use Rattle.std.proofs.Common.{◌≡◌, ℕ, ◌+◌, ◌*◌, ◌<◌, ◌≤◌, Bool, true, false, ltb, ltb-true, List, get_or, Some, Option, unwrap_or, sym, refl, ap, ◌∙◌, ap₂, zero-add, arith, lt-ltb}
use Rattle.std.proofs.lemmas.Nat.{mul-add-lt, div-mul-add, mod-mul-add}
use Rattle.std.proofs.lemmas.List.FromFn.{get_or-map-range_with_len}
use Rattle.field.specs.Tables.{at_both, least}
use Rattle.field.proofs.Least.{at_both_is}
use Rattle.field.specs.Grids.{entry, cell, grid, solution, solutions}

-- the entries of a grid are those of the table
pub lookup : (w q : ℕ) (f : ℕ → ℕ → ℕ) (a b : ℕ) → q ≤ w → a < q → b < q → entry w (grid w q f) a b ≡ f a b
unfolding grid
lookup w q f a b fit ha hb =
    let ha' : a < w = omega arith in
    let hb' : b < w = omega arith in
    get_or-map-range_with_len (cell w q f) 0 (w * w) (a * w + b) (a * w + b) 0 (mul-add-lt a w b w ha' hb') (zero-add (a * w + b))
    ∙ ap₂ (λ (x y : ℕ). unwrap_or (at_both q f x y) 0) (div-mul-add a w b hb') (mod-mul-add a w b hb')
    ∙ ap (λ (o : Option ℕ). unwrap_or o 0) (at_both_is q f a b (lt-ltb a q ha) (lt-ltb b q hb))

pub looked_up : (q : ℕ) (f : ℕ → ℕ → ℕ) (v a : ℕ) → a < 64 → get_or (solutions q f v) a 0 ≡ solution q f v a
unfolding solutions
looked_up q f v a h = get_or-map-range_with_len (solution q f v) 0 64 a a 0 h (zero-add a)

-- what a field's own tables answer
pub read : (q : ℕ) (f : ℕ → ℕ → ℕ) (xs : List ℕ) (a b : ℕ) → q ≤ 64 → a < q → b < q → xs ≡ grid 64 q f → entry 64 xs a b ≡ f a b
read q f xs a b fit ha hb e = ap (λ (ys : List ℕ). entry 64 ys a b) e ∙ lookup 64 q f a b fit ha hb

pub read_both : (q n : ℕ) (f : ℕ → ℕ → ℕ) (xs : List ℕ) (a b : ℕ) → q ≡ n → q ≤ 64 → xs ≡ grid 64 q f → at_both q (entry 64 xs) a b ≡ at_both n f a b
read_both q n f xs a b same fit e = go (ltb a q) (ltb b q) refl refl ∙ ap (λ (m : ℕ). at_both m f a b) same
  where
    go : (x y : Bool) → ltb a q ≡ x → ltb b q ≡ y → at_both q (entry 64 xs) a b ≡ at_both q f a b
    go true true p r = rw (p, r) (ap Some (read q f xs a b fit (ltb-true a q p) (ltb-true b q r) e))
    go true false p r = rw (p, r)
    go false y p r = rw p

pub read_one : (q n : ℕ) (f : ℕ → ℕ → ℕ) (v : ℕ) (xs : List ℕ) (a b : ℕ) → q ≡ n → a < 64 → xs ≡ solutions q f v → least n f a v ≡ Some b → Some (get_or xs a 0) ≡ least n f a v
read_one q n f v xs a b same fit e is =
    let there : least q f a v ≡ Some b = ap (λ (m : ℕ). least m f a v) same ∙ is in
    ap Some (ap (λ (ys : List ℕ). get_or ys a 0) e ∙ looked_up q f v a fit ∙ ap (λ (o : Option ℕ). unwrap_or o 0) there) ∙ sym is
