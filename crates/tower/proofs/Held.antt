-- What a tower's own tables answer. Assumes nothing.
use Rattle.std.proofs.Common.{◌≡◌, ℕ, ◌<◌, ◌≤◌, ◌⊎◌, Some, None, get_or, sym, inl, inr, arith}
use Rattle.field.specs.Tables.{at_both, opposite_of, inverse_of, sum_of, product_of}
use Rattle.field.specs.Grids.{entry}
use Rattle.field.proofs.Derived.{opposite_at, inverse_at}
use Rattle.field.proofs.Grids.{read_both, read_one}
use Rattle.field.proofs.Unique.{opposite_is, inverse_is, opposites, inverses}
use Rattle.tower.specs.declared.extension.Tower.{Tower}
use Rattle.tower.specs.Made.{meaning_of}
use Rattle.tower.specs.Whole.{tower_lawful}

pub sums_held : (f : Tower) (a b : ℕ) → at_both f.q (entry 64 f.sums) a b ≡ sum_of (meaning_of f) a b
sums_held f a b = read_both f.q _ _ f.sums a b f.square f.small f.summed

pub products_held : (f : Tower) (a b : ℕ) → at_both f.q (entry 64 f.products) a b ≡ product_of (meaning_of f) a b
products_held f a b = read_both f.q _ _ f.products a b f.square f.small f.multiplied

pub opposite_held : (f : Tower) (a : ℕ) → a < f.q → opposite_of (meaning_of f) a ≡ Some (get_or f.opposites a 0)
opposite_held f a code =
    let l = tower_lawful f in
    let w = opposite_at (meaning_of f) l a (omega (arith, f.square)) in
    sym (read_one f.q _ _ 0 f.opposites a w.0 f.square (omega (arith, f.small)) f.opposed
    (opposite_is (meaning_of f) l a w.0 (omega (arith, f.square)) w.1 w.2))

pub inverse_held : (f : Tower) (a : ℕ) → 0 < a → a < f.q → inverse_of (meaning_of f) a ≡ Some (get_or f.inverses a 0)
inverse_held f a some code =
    let l = tower_lawful f in
    let w = inverse_at (meaning_of f) l a some (omega (arith, f.square)) in
    sym (read_one f.q _ _ 1 f.inverses a w.0 f.square (omega (arith, f.small)) f.inverted
    (inverse_is (meaning_of f) l a w.0 (omega (arith, f.square)) w.1 w.2))

pub no_opposite : (f : Tower) (a : ℕ) → f.q ≤ a → opposite_of (meaning_of f) a ≡ None
no_opposite f a h = (opposites (meaning_of f) (tower_lawful f)).refused a (omega (arith, f.square))

pub no_inverse : (f : Tower) (a : ℕ) → (a ≡ 0) ⊎ (f.q ≤ a) → inverse_of (meaning_of f) a ≡ None
no_inverse f a (inl z) = (inverses (meaning_of f) (tower_lawful f)).refused a (inl z)
no_inverse f a (inr h) = (inverses (meaning_of f) (tower_lawful f)).refused a (inr (omega (arith, f.square)))
