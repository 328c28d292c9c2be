-- Tables of codes as bytes. Assumes nothing.
use Rattle.std.specs.Prelude.{◌≡◌, ℕ, ◌+◌, ◌*◌, ◌/◌, ◌%◌, ◌<◌, List, Option, map, slice_index}
use Rattle.std.specs.List.{range_with_len}
use Rattle.std.specs.Option.{unwrap_or}
use Rattle.field.specs.Tables.{at_both, least}

-- row a, column b of a table with w bytes a row
abbrev pub entry : ℕ → List ℕ → ℕ → ℕ → ℕ
entry w xs a b = slice_index xs (a * w + b)

-- byte k of the table of f over the codes below q, 0 where there is no code
abbrev pub cell : ℕ → ℕ → (ℕ → ℕ → ℕ) → ℕ → ℕ
cell w q f k = unwrap_or (at_both q f (k / w) (k % w)) 0

-- the w × w bytes that hold the table of f over the codes below q
unfoldable pub grid : ℕ → ℕ → (ℕ → ℕ → ℕ) → List ℕ
grid w q f = map (cell w q f) (range_with_len 0 (w * w))

-- the code b at which f a b is v, 0 where there is none
abbrev pub solution : ℕ → (ℕ → ℕ → ℕ) → ℕ → ℕ → ℕ
solution q f v a = unwrap_or (least q f a v) 0

-- the 64 bytes that hold the solutions of all codes
unfoldable pub solutions : ℕ → (ℕ → ℕ → ℕ) → ℕ → List ℕ
solutions q f v = map (solution q f v) (range_with_len 0 64)

-- where each call at a place k below n answers g k, the n bytes hold g, and 0 where g gives nothing
abbrev pub Fills : (ℕ → Option ℕ → Type 0) → ℕ → List ℕ → Type 0
Fills gives n xs = (g : ℕ → Option ℕ) → ((k : ℕ) (r : Option ℕ) → k < n → gives k r → r ≡ g k) → xs ≡ map (λ k. unwrap_or (g k) 0) (range_with_len 0 n)
