-- A frame: its area of words and its slip; what each call answers, and what it leaves. Assumes nothing.
use Rattle.std.specs.Prelude.{◌≡◌, ℕ, suc, pred, ◌+◌, ◌-◌, ◌*◌, ◌/◌, ◌%◌, ◌<◌, min, Bool, true, false, cond, not, ◌&&◌, leb, List, ◌++◌, map, length, take, drop, ◌==◌, nat_eq, nat_le, nat_lt, slice_index}
use Rattle.std.specs.List.{range_with_len}
use Rattle.field.specs.Tables.{Tables}
use Rattle.code.specs.Views.{View}
use Rattle.tree.specs.Over.{over, count, least_to, lowest_to, every}
use Rattle.tree.specs.Places.{width, row_of, column_of, coefficient_of}
use Rattle.tree.specs.Decoder.{from_check_cost, round_to, round_distance}
use Rattle.tree.specs.Rows.{PairsRule, tabled, round_pairs}

-- ---- slips and areas
-- the numbers of a slip: q, N, M, W, C and L
pub record Numbers : Type 0 where
  pub order : ℕ
  pub columns : ℕ
  pub rows : ℕ
  pub width : ℕ
  pub ceiling : ℕ
  pub limit : ℕ

abbrev pub numbers_of : View → Numbers
numbers_of K = record {
  order = K.header.order;
  columns = K.header.columns;
  rows = K.header.rows;
  width = width K;
  ceiling = K.header.ceiling;
  limit = K.header.limit;
}

unfoldable pub same_numbers : Numbers → Numbers → Bool
same_numbers m n =
    (m.order == n.order) && m.columns == n.columns && m.rows == n.rows &&
    (m.width == n.width) && m.ceiling == n.ceiling && m.limit == n.limit

-- a running slip has the rounds made too
pub data Slip : Type 0 where
  no_slip : Slip
  loading : Numbers → Slip
  running : Numbers → ℕ → Slip

pub record Frame : Type 0 where
  pub area : List ℕ
  pub slip : Slip

-- each word has 16 bits
abbrev pub Words : List ℕ → Type 0
Words area = (i : ℕ) → slice_index area i < 65536

-- the words of the four parts, and the words that an area has at least
abbrev pub held_words : View → ℕ
held_words K = (2 * K.header.columns + 2 * width K) * K.header.order

abbrev pub area_words : View → ℕ
area_words K = (2 * K.header.columns + 2 * width K + 36) * K.header.order

-- the four parts: channel costs and distances by column and symbol, to-check and from-check costs by edge and symbol
pub record Parts : Type 0 where
  pub channel : ℕ → ℕ → ℕ
  pub distances : ℕ → ℕ → ℕ
  pub to_check : ℕ → ℕ → ℕ
  pub from_check : ℕ → ℕ → ℕ

unfoldable pub parts_of : View → List ℕ → Parts
parts_of K area = record {
  channel = λ c a. slice_index area (c * K.header.order + a);
  distances = λ c a. slice_index area ((K.header.columns + c) * K.header.order + a);
  to_check = λ e a. slice_index area ((2 * K.header.columns + e) * K.header.order + a);
  from_check = λ e a. slice_index area ((2 * K.header.columns + width K + e) * K.header.order + a);
}

-- word a of the block of q words at j
unfoldable pub block : View → Parts → ℕ → ℕ → ℕ
block K P j a =
    cond (nat_lt j K.header.columns) (P.channel j a)
    (cond (nat_lt j (2 * K.header.columns)) (P.distances (j - K.header.columns) a)
    (cond (nat_lt j (2 * K.header.columns + width K)) (P.to_check (j - 2 * K.header.columns) a)
    (P.from_check (j - (2 * K.header.columns + width K)) a)))

-- the four parts as words
unfoldable pub laid : View → Parts → List ℕ
laid K P = map (λ i. block K P (i / K.header.order) (i % K.header.order)) (range_with_len 0 (held_words K))

-- ---- calls
-- a load brings a column and values, a round its joiner's rule, a read a column and a target's length, a conclude a target's length
pub data Call : Type 0 where
  opens : Call
  loads : ℕ → List ℕ → Call
  starts : Call
  rounds : PairsRule → Call
  reads : ℕ → ℕ → Call
  concludes : ℕ → Call

-- what a load stores: each value less the least value given, lowered to the ceiling
unfoldable pub stores : View → List ℕ → ℕ → ℕ
stores K values a = min (slice_index values a - least_to (pred K.header.order) (λ b. slice_index values b)) K.header.ceiling

-- no cost of the first n vectors exceeds the ceiling
unfoldable pub within : View → ℕ → (ℕ → ℕ → ℕ) → Bool
within K n costs = every n (λ c. every K.header.order (λ a. leb (costs c a) K.header.ceiling))

-- the decided symbol of a column: the lowest code of least distance
unfoldable pub decided : View → Parts → ℕ → ℕ
decided K P c = lowest_to (pred K.header.order) (P.distances c)

-- a row's coefficients times the symbols of its columns, summed
unfoldable pub row_sum : Tables → View → (ℕ → ℕ) → ℕ → ℕ
row_sum F K word r = over F.sum 0 (width K) (λ e. nat_eq (row_of K e) r) (λ e. F.product (coefficient_of K e) (word (column_of K e)))

-- how many rows fail
unfoldable pub failing : Tables → View → (ℕ → ℕ) → ℕ
failing F K word = count K.header.rows (λ r. not (row_sum F K word r == 0))

-- what read copies, and what conclude writes
unfoldable pub told : View → Parts → ℕ → List ℕ
told K P c = tabled K.header.order (P.distances c)

unfoldable pub word_of : View → Parts → List ℕ
word_of K P = tabled K.header.columns (decided K P)

-- what a granted call leaves in the four parts
unfoldable pub next_parts : Tables → View → Call → Parts → Parts
next_parts F K opens P = record { channel = λ c a. 0; distances = λ c a. 0; to_check = λ e a. 0; from_check = λ e a. 0 }
next_parts F K (loads c values) P = record { channel = λ x a. cond (x == c) (stores K values a) (P.channel x a); distances = P.distances; to_check = P.to_check; from_check = P.from_check }
next_parts F K starts P = record { channel = P.channel; distances = P.channel; to_check = λ e a. P.channel (column_of K e) a; from_check = P.from_check }
next_parts F K (rounds pairs) P = record {
  channel = P.channel;
  distances = round_distance F K P.channel P.to_check;
  to_check = round_to F K P.channel P.to_check;
  from_check = from_check_cost F K P.to_check;
}
next_parts F K (reads c size) P = P
next_parts F K (concludes size) P = P

-- and which slip
unfoldable pub next_slip : View → Call → Slip → Slip
next_slip K opens s = loading (numbers_of K)
next_slip K (loads c values) s = s
next_slip K starts s = running (numbers_of K) 0
next_slip K (rounds pairs) no_slip = no_slip
next_slip K (rounds pairs) (loading n) = loading n
next_slip K (rounds pairs) (running n r) = running n (suc r)
next_slip K (reads c size) s = s
next_slip K (concludes size) s = no_slip

-- ---- outcomes
-- what a granted call answers: nothing; a slip; rounds made, failing rows and pairs; distances and decided symbol; word and rounds made
pub data Reply : Type 0 where
  done : Reply
  slip_given : Slip → Reply
  round_told : ℕ → ℕ → ℕ → Reply
  column_told : List ℕ → ℕ → Reply
  word_told : List ℕ → ℕ → Reply

-- a call is granted or refused with a number; with a slip of another kind it can't be made
pub data Outcome : Type 0 where
  granted : Reply → Outcome
  refused : ℕ → Outcome
  no_call : Outcome

abbrev pub grants : Outcome → Bool
grants (granted reply) = true
grants (refused n) = false
grants no_call = false

-- the outcome goes on where the test passes, else the call is refused with the number
abbrev pub want : Bool → ℕ → Outcome → Outcome
want true n o = o
want false n o = refused n

-- the tests that calls share: the field's order, the slip's numbers, the area's length, the column, the length of what is lent
abbrev pub want_order : Tables → View → Outcome → Outcome
want_order F K o = want (F.order == K.header.order) 18 o

abbrev pub want_numbers : View → Numbers → Outcome → Outcome
want_numbers K n o = want (same_numbers n (numbers_of K)) 19 o

abbrev pub want_area : View → List ℕ → Outcome → Outcome
want_area K area o = want (nat_le (area_words K) (length area)) 20 o

abbrev pub want_column : View → ℕ → Outcome → Outcome
want_column K c o = want (nat_lt c K.header.columns) 21 o

abbrev pub want_length : ℕ → ℕ → Outcome → Outcome
want_length size due o = want (size == due) 7 o

unfoldable pub outcome : Tables → View → Call → List ℕ → Slip → Outcome
outcome F K opens area s = want_order F K (want_area K area (granted (slip_given (loading (numbers_of K)))))
outcome F K (loads c values) area no_slip = no_call
outcome F K (loads c values) area (running n r) = no_call
outcome F K (loads c values) area (loading n) =
    want_numbers K n (want_area K area (want_column K c (want_length (length values) K.header.order (granted done))))
outcome F K starts area no_slip = no_call
outcome F K starts area (running n r) = no_call
outcome F K starts area (loading n) =
    want_numbers K n (want_area K area (want (within K K.header.columns (parts_of K area).channel) 22 (granted (slip_given (running (numbers_of K) 0)))))
outcome F K (rounds pairs) area no_slip = no_call
outcome F K (rounds pairs) area (loading n) = no_call
outcome F K (rounds pairs) area (running n r) =
    want_order F K (want_numbers K n (want_area K area
    (want (within K K.header.columns (parts_of K area).channel && within K (width K) (parts_of K area).to_check) 22
    (want (nat_lt r K.header.limit) 23
    (granted (round_told (suc r) (failing F K (decided K (next_parts F K (rounds pairs) (parts_of K area)))) (round_pairs pairs F K (parts_of K area).to_check)))))))
outcome F K (reads c size) area no_slip = no_call
outcome F K (reads c size) area (loading n) = no_call
outcome F K (reads c size) area (running n r) =
    want_numbers K n (want_area K area (want_column K c (want_length size K.header.order
    (granted (column_told (told K (parts_of K area) c) (decided K (parts_of K area) c))))))
outcome F K (concludes size) area no_slip = no_call
outcome F K (concludes size) area (loading n) = no_call
outcome F K (concludes size) area (running n r) =
    want_order F K (want_numbers K n (want_area K area (want_length size K.header.columns
    (want (failing F K (decided K (parts_of K area)) == 0) 24
    (granted (word_told (word_of K (parts_of K area)) r))))))

-- ---- what a call leaves
-- in the words of the four parts: what a granted call lays down, else what was there
unfoldable pub held_after : Tables → View → Call → List ℕ → Slip → List ℕ
held_after F K call area s = cond (grants (outcome F K call area s)) (laid K (next_parts F K call (parts_of K area))) (take (held_words K) area)

-- what a granted call does to a frame: the scratch is left open
pub record Effect (F : Tables) (K : View) (call : Call) (before after : Frame) : Type 0 where
  pub slip : after.slip ≡ next_slip K call before.slip
  pub as_long : length after.area ≡ length before.area
  pub held : take (held_words K) after.area ≡ laid K (next_parts F K call (parts_of K before.area))
  pub surplus : drop (area_words K) after.area ≡ drop (area_words K) before.area
  pub words : Words after.area

-- the frame that a granted call leaves where the scratch stays as it was
unfoldable pub obey : Tables → View → Call → Frame → Frame
obey F K call f = record { area = laid K (next_parts F K call (parts_of K f.area)) ++ drop (held_words K) f.area; slip = next_slip K call f.slip }
