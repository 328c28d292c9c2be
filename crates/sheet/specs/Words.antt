-- What a field says: a letter, a number or a dash. Assumes nothing.
use Rattle.std.specs.Prelude.{ℕ, ◌+◌, ◌-◌, ◌*◌, Bool, true, cond, not, ◌&&◌, List, [], ◌∷◌, length, Some, None, Option, ◌==◌, nat_le, slice_index}
use Rattle.sheet.specs.declared.token.Token.{Token}
use Rattle.sheet.specs.declared.token.Token.TheVariants.{Letter, Number, Dash}
use Rattle.sheet.specs.declared.token.Part.{Part}
use Rattle.sheet.specs.declared.token.Kind.{Kind}
use Rattle.sheet.specs.declared.token.Kind.TheVariants.{Header, Edge, Entry, End}

-- a token as plain values
pub data Word : Type 0 where
  letter number dash : List ℕ → Word

abbrev pub word : Token → Word
word (Letter s) = letter s.now
word (Number s) = number s.now
word (Dash s) = dash s.now

abbrev pub bytes_of : Word → List ℕ
bytes_of (letter bs) = bs
bytes_of (number bs) = bs
bytes_of (dash bs) = bs

-- one dash, one capital letter, or else a number, however it is written
unfoldable pub word_of : List ℕ → Word
word_of bs =
    cond (length bs == 1 && slice_index bs 0 == 45) (dash bs)
    (cond (length bs == 1 && (nat_le 65 (slice_index bs 0) && nat_le (slice_index bs 0) 90)) (letter bs) (number bs))

-- a field with its line and its byte
pub record Cell : Type 0 where
  pub word : Word
  pub line : ℕ
  pub byte : ℕ

abbrev pub seen : Part → Cell
seen p = record { word = word p.token; line = p.place.line; byte = p.place.byte }

abbrev pub digit : ℕ → Bool
digit b = nat_le 48 b && nat_le b 57

abbrev pub digits : List ℕ → Bool
digits [] = true
digits (b ∷ bs) = digit b && digits bs

-- the number that digits write after v
abbrev pub value : ℕ → List ℕ → ℕ
value v [] = v
value v (b ∷ bs) = value (v * 10 + (b - 48)) bs

-- one to four digits, and no 0 before another digit
abbrev pub written : List ℕ → Bool
written bs = nat_le 1 (length bs) && (nat_le (length bs) 4 && (digits bs && not (slice_index bs 0 == 48 && nat_le 2 (length bs))))

unfoldable pub decimal_of : List ℕ → Option ℕ
decimal_of bs = cond (written bs) (Some (value 0 bs)) None

abbrev pub kind_of : ℕ → Option Kind
kind_of b = cond (b == 67) (Some Header) (cond (b == 69) (Some Edge) (cond (b == 75) (Some Entry) (cond (b == 90) (Some End) None)))

-- the record that a letter begins
abbrev pub record_kind : Word → Option Kind
record_kind (letter bs) = kind_of (slice_index bs 0)
record_kind (number bs) = None
record_kind (dash bs) = None
