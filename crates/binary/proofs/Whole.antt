-- A rule's invariant bounds the order; what has no inverse, and that each code is its own opposite.
-- Assumes nothing.
use Rattle.std.proofs.Common.{◌≡◌, ℕ, ◌^◌, ◌<◌, ◌≤◌, true, ◌⊎◌, Some, None, sym, subst, get_or, arith}
use lib.Bits.{xor_self}
use Rattle.field.specs.Tables.{opposite_of, inverse_of}
use Rattle.field.specs.Grids.{entry}
use Rattle.field.proofs.Derived.{inverse_at}
use Rattle.field.proofs.Grids.{read, read_one}
use Rattle.field.proofs.Unique.{opposite_is, inverse_is, inverses}
use Rattle.binary.specs.declared.rule.Rule.{Rule}
use Rattle.binary.specs.declared.codes.Binary.{Binary}
use Rattle.binary.specs.Fields.{is_binary, binary_tables, product_by}
use Rattle.binary.specs.Laws.{made_of, binary_laws}

pub order_fits : (f : Rule) → f.q ≤ 64
order_fits f = subst (λ (n : ℕ). n ≤ 64) (sym f.sized) (made_of f.p f.polynomial f.admitted).order

pub own_opposite : (p m a : ℕ) → is_binary p m ≡ true → a < 2 ^ p → opposite_of (binary_tables p m) a ≡ Some a
own_opposite p m a h code = opposite_is (binary_tables p m) (binary_laws p m h) a a code code (xor_self a)

pub no_inverse : (p m a : ℕ) → is_binary p m ≡ true → (a ≡ 0) ⊎ (2 ^ p ≤ a) → inverse_of (binary_tables p m) a ≡ None
no_inverse p m a h = (inverses (binary_tables p m) (binary_laws p m h)).refused a

-- what the tables hold
pub product_held : (f : Binary) (a b : ℕ) → a < f.q → b < f.q → entry 64 f.products a b ≡ product_by f.p f.polynomial a b
product_held f a b ha hb = read f.q _ f.products a b f.small ha hb f.multiplied

pub inverse_held : (f : Binary) (a : ℕ) → 0 < a → a < f.q → inverse_of (binary_tables f.p f.polynomial) a ≡ Some (get_or f.inverses a 0)
inverse_held f a some code =
    let t = binary_tables f.p f.polynomial in
    let l = binary_laws f.p f.polynomial f.admitted in
    let w = inverse_at t l a some (omega (arith, f.sized)) in
    sym (read_one f.q _ _ 1 f.inverses a w.0 f.sized (omega (arith, f.small)) f.inverted (inverse_is t l a w.0 (omega (arith, f.sized)) w.1 w.2))
