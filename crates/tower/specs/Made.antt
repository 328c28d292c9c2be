-- What a tower holds and means, and what its maker answers, as numbers. Assumes nothing.
use Rattle.std.specs.Prelude.{ℕ, Ok, Err, Result}
use Rattle.field.specs.Tables.{Tables}
use Rattle.field.specs.declared.FieldRefusal.{FieldRefusal}
use Rattle.field.specs.Refusals.{number_of}
use Rattle.tower.specs.Towers.{Parts, meaning_from}
use Rattle.tower.specs.declared.extension.Tower.{Tower}

-- what a tower stands on; its own tables follow from it by its invariant
abbrev pub parts_of : Tower → Parts
parts_of t = record { r = t.pairs.base.r; u = t.pairs.u; v = t.pairs.v; sums = t.pairs.base.sums; products = t.pairs.base.products }

-- the field that a tower is
abbrev pub meaning_of : Tower → Tables
meaning_of t = meaning_from (parts_of t)

-- the number of the refusal, or 0
abbrev pub refusal_of : Result (Unit {0}) FieldRefusal → ℕ
refusal_of (Ok x) = 0
refusal_of (Err e) = number_of e
