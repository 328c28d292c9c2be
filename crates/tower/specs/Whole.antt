-- A tower's invariant makes it a field. Assumes nothing.
use Rattle.std.proofs.Math.Logic.{∥∥₁_elim}
use Rattle.std.specs.Prelude.{◌≤◌}
use Rattle.field.specs.Tables.{Lawful}
use Rattle.field.proofs.Prop.{lawful_prop}
use Rattle.tower.specs.Copies.{tables_of}
use Rattle.tower.specs.Made.{meaning_of}
use Rattle.tower.specs.declared.extension.Tower.{Tower}
use Rattle.tower.specs.Refusal.{square_small}
use Rattle.tower.specs.Laws.{tower_laws}

pub tower_lawful : (f : Tower) → Lawful (meaning_of f)
tower_lawful f =
    ∥∥₁_elim f.pairs.base.laws (lawful_prop (meaning_of f))
    (λ l. tower_laws (tables_of f.pairs.base) l (f.pairs.u, f.pairs.codes.0) (f.pairs.v, f.pairs.codes.1) (square_small f.pairs.base.r f.pairs.base.small) f.rootless)

pub order_fits : (f : Tower) → f.q ≤ 64
order_fits f = f.small
