-- What holds once a call has passed its opening tests. Assumes nothing.
use Rattle.std.specs.Prelude.{◌≡◌, ℕ, ◌*◌, ◌≤◌, List}
use Rattle.code.specs.declared.code.Code.{Code}
use Rattle.field.specs.Tables.{Tables}
use Rattle.encoder.specs.Answers.{information_length}
use Rattle.encoder.specs.Bytes.{Below}

pub record Opened (t : Tables) (c : Code) (symbols scratch word : ℕ) (given : List ℕ) : Type 0 where
  pub order : t.order ≡ c.header.order
  pub room : c.header.rows * c.header.columns ≤ scratch
  pub many : symbols ≡ information_length c
  pub long : word ≡ c.header.columns
  pub codes : Below t.order given
