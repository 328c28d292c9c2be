-- The worked example: a code of four columns and two rows over the sums and products modulo 3, its loads, and what they come to. Assumes nothing.
use Rattle.std.specs.Prelude.{◌≡◌, ℕ, ◌+◌, ◌*◌, ◌%◌, List, [], ◌∷◌, map}
use Rattle.std.specs.List.{range_with_len}
use Rattle.field.specs.Tables.{Tables, Lawful}
use Rattle.code.specs.declared.table.Edge.{Edge}
use Rattle.code.specs.declared.table.Entry.{Entry}
use Rattle.code.specs.Views.{View}
use Rattle.tree.specs.Places.{Admitted}
use Rattle.tree.specs.Rows.{PairsRule}
use Rattle.tree.specs.Frame.{no_slip, running, numbers_of, Frame, Call, opens, loads, starts, rounds, reads, concludes, column_told, round_told, word_told, Outcome, granted, refused, outcome, obey}
use Rattle.tree.specs.Run.{History, next_history, Run}

unfoldable pub three : Tables
three = record { order = 3; sum = λ a b. (a + b) % 3; product = λ a b. (a * b) % 3 }

abbrev pub edge : ℕ → ℕ → ℕ → Edge
edge r c h = record { row = r; column = c; coefficient = h }

abbrev pub entry : ℕ → ℕ → Entry
entry c r = record { column = c; row = r }

unfoldable pub code_A : View
code_A = record {
  header = record { order = 3; columns = 4; rows = 2; ceiling = 31; limit = 20 };
  edges = edge 0 0 1 ∷ edge 0 1 1 ∷ edge 0 2 1 ∷ edge 1 1 1 ∷ edge 1 2 2 ∷ edge 1 3 1 ∷ [];
  entries = entry 0 0 ∷ entry 1 0 ∷ entry 1 1 ∷ entry 2 0 ∷ entry 2 1 ∷ entry 3 1 ∷ [];
}

-- the frame and the history that some granted calls leave, one after another
abbrev pub obey_all : Tables → View → List Call → Frame → Frame
obey_all F K [] f = f
obey_all F K (call ∷ calls) f = obey_all F K calls (obey F K call f)

abbrev pub history_all : Tables → View → List Call → History → History
history_all F K [] h = h
history_all F K (call ∷ calls) h = history_all F K calls (next_history F K call h)

-- an area of some words, and no slip
unfoldable pub begun : Frame
begun = record { area = map (λ i. 7 + i) (range_with_len 0 170); slip = no_slip }

abbrev pub loading_calls : List Call
loading_calls =
    opens ∷ loads 0 (0 ∷ 5 ∷ 9 ∷ []) ∷ loads 1 (4 ∷ 0 ∷ 7 ∷ []) ∷ loads 2 (0 ∷ 6 ∷ 8 ∷ []) ∷ loads 3 (0 ∷ 3 ∷ 10 ∷ []) ∷ starts ∷ []

unfoldable pub started : Frame
started = obey_all three code_A loading_calls begun

-- after a round of a joiner with these pairs
unfoldable pub turned : PairsRule → Frame
turned pairs = obey three code_A (rounds pairs) started

unfoldable pub recalled : PairsRule → History → History
recalled pairs h = next_history three code_A (rounds pairs) (history_all three code_A loading_calls h)

-- the full joiner's rule
abbrev pub full_pairs : PairsRule
full_pairs q top left right = q * q

-- the pairs of the six joins of a round: of each row the two from either end, and the one around its second edge
abbrev pub six_joins : PairsRule → ℕ
six_joins pairs =
    pairs 3 31 (4 ∷ 0 ∷ 7 ∷ []) (0 ∷ 6 ∷ 8 ∷ []) + pairs 3 31 (0 ∷ 5 ∷ 9 ∷ []) (4 ∷ 0 ∷ 7 ∷ []) + pairs 3 31 (0 ∷ 5 ∷ 9 ∷ []) (0 ∷ 6 ∷ 8 ∷ [])
    + pairs 3 31 (0 ∷ 8 ∷ 6 ∷ []) (0 ∷ 3 ∷ 10 ∷ []) + pairs 3 31 (4 ∷ 0 ∷ 7 ∷ []) (0 ∷ 8 ∷ 6 ∷ []) + pairs 3 31 (4 ∷ 0 ∷ 7 ∷ []) (0 ∷ 3 ∷ 10 ∷ [])

abbrev pub asked : Call → Frame → Outcome
asked call f = outcome three code_A call f.area f.slip

pub record WorkedExample : Type 0 where
  pub lawful : Lawful three
  pub admitted : Admitted code_A
  -- at 0 rounds a row fails
  pub not_yet : asked (concludes 4) started ≡ refused 24
  -- one round: no failing row, and the pairs of six joins, 54 with the full joiner
  pub any_round : (pairs : PairsRule) → asked (rounds pairs) started ≡ granted (round_told 1 0 (six_joins pairs))
  pub one_round : asked (rounds full_pairs) started ≡ granted (round_told 1 0 54)
  pub column_0 : (pairs : PairsRule) → asked (reads 0 3) (turned pairs) ≡ granted (column_told (0 ∷ 7 ∷ 5 ∷ []) 0)
  pub column_1 : (pairs : PairsRule) → asked (reads 1 3) (turned pairs) ≡ granted (column_told (0 ∷ 8 ∷ 11 ∷ []) 0)
  pub column_2 : (pairs : PairsRule) → asked (reads 2 3) (turned pairs) ≡ granted (column_told (0 ∷ 3 ∷ 3 ∷ []) 0)
  pub column_3 : (pairs : PairsRule) → asked (reads 3 3) (turned pairs) ≡ granted (column_told (0 ∷ 5 ∷ 6 ∷ []) 0)
  pub word : (pairs : PairsRule) → asked (concludes 4) (turned pairs) ≡ granted (word_told (0 ∷ 0 ∷ 0 ∷ 0 ∷ []) 1)
  -- and this is a run, of any joiner, with a running slip after one round
  pub run : (pairs : PairsRule) (h : History) → Run (turned pairs) (recalled pairs h)
  pub slip : (pairs : PairsRule) → (turned pairs).slip ≡ running (numbers_of code_A) 1
  pub rounds_made : (pairs : PairsRule) (h : History) → (recalled pairs h).rounds_made ≡ 1
