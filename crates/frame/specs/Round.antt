-- What the body of a round needs of the area, and what it leaves there. Assumes nothing.
use Rattle.std.specs.Prelude.{◌≡◌, ℕ, ◌≤◌, List, length, take, drop}
use Rattle.field.specs.Tables.{Tables}
use Rattle.code.specs.declared.table.Edge.{Edge}
use Rattle.code.specs.declared.table.Entry.{Entry}
use Rattle.code.specs.declared.table.Header.{Header}
use Rattle.code.specs.Views.{View}
use Rattle.tree.specs.Places.{Admitted}
use Rattle.tree.specs.Statement.{Loaded, Within}
use Rattle.tree.specs.Rows.{PairsRule}
use Rattle.tree.specs.Frame.{held_words, area_words, parts_of, laid, rounds, next_parts}

-- a code by its parts
abbrev pub code_of : Header → List Edge → List Entry → View
code_of h es ks = record { header = h; edges = es; entries = ks }

-- the code is admitted, the area has its words, and no channel or to-check cost exceeds the ceiling
pub record Ready (K : View) (area : List ℕ) : Type 0 where
  pub admitted : Admitted K
  pub room : area_words K ≤ length area
  pub channel : Loaded K (parts_of K area).channel
  pub to_check : Within K (parts_of K area).to_check

-- the four parts are those after a round, and the surplus is as it was
pub record Moved (F : Tables) (K : View) (pairs : PairsRule) (before after : List ℕ) : Type 0 where
  pub held : take (held_words K) after ≡ laid K (next_parts F K (rounds pairs) (parts_of K before))
  pub surplus : drop (area_words K) after ≡ drop (area_words K) before
