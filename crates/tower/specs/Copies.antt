-- The field that copied tables hold. Assumes nothing.
use Rattle.field.specs.Tables.{Tables}
use Rattle.tower.specs.Towers.{copied}
use Rattle.tower.specs.declared.base.Base.{Base}

abbrev pub tables_of : Base → Tables
tables_of b = copied b.r b.sums b.products
