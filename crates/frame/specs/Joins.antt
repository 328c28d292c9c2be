-- What one step does to the area. Assumes nothing.
use Rattle.std.specs.Prelude.{ℕ, ◌+◌, ◌≤◌, List}
use Rattle.field.specs.Tables.{Tables}
use Rattle.tree.specs.Rows.{joined, gathered}
use Rattle.frame.specs.Blocks.{block, blocks, put}

-- block j made from block i
abbrev pub turned : Tables → ℕ → ℕ → ℕ → List ℕ → List ℕ
turned t k i j area = put t.order j (gathered t k (block t.order i area)) area

-- block k made from blocks i and j
abbrev pub stepped : Tables → ℕ → ℕ → ℕ → List ℕ → List ℕ
stepped t i j k area = put t.order k (joined t (block t.order i area) (block t.order j area)) area

-- the area has the 36 blocks of scratch, from block s on
abbrev pub HasScratch : Tables → ℕ → List ℕ → Type 0
HasScratch t s area = s + 36 ≤ blocks t.order area
