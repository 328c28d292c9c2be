-- A field of any kind is a field. Assumes nothing.
use Rattle.field.specs.Tables.{Lawful}
use Rattle.prime.specs.Laws.{prime_laws}
use Rattle.binary.specs.Laws.{binary_laws}
use Rattle.tower.specs.Whole.{tower_lawful}
use Rattle.anyfield.specs.declared.any.AnyField.{AnyField}
use Rattle.anyfield.specs.declared.any.AnyField.TheVariants as kind
use Rattle.anyfield.specs.Fields.{made_of, tables_of}

pub any_lawful : (f : AnyField) → Lawful (tables_of (made_of f))
any_lawful (kind.Prime f) = prime_laws f.q f.prime
any_lawful (kind.Binary f) = binary_laws f.p f.polynomial f.admitted
any_lawful (kind.Tower t) = tower_lawful t
