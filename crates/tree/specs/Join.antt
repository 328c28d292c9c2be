-- What a join gives, and a row's joins from either end. Assumes nothing.
use Rattle.std.specs.Prelude.{◌≡◌, ℕ, suc, pred, ◌<◌, ◌≤◌, max, Bool, ◌&&◌, ◌==◌, nat_le}
use Rattle.field.specs.Tables.{Tables, Lawful}
use Rattle.code.specs.Views.{View}
use Rattle.tree.specs.Places.{Admitted, width, row_of, coefficient_of}
use Rattle.tree.specs.Decoder.{from_check_cost}
use Rattle.tree.specs.Statement.{Within}

-- over the codes below q, entry a is the least, over all codes b and c with b + c = a, of the greater of left b and right c
pub record Joined (F : Tables) (q : ℕ) (left right third : ℕ → ℕ) : Type 0 where
  pub reached : (a : ℕ) → a < q → (b c : ℕ) × (b < q) × (c < q) × (F.sum b c ≡ a) × (max (left b) (right c) ≡ third a)
  pub under : (b c : ℕ) → b < q → c < q → third (F.sum b c) ≤ max (left b) (right c)

-- the positions from i to j
abbrev pub between : ℕ → ℕ → ℕ → Bool
between i j x = nat_le i x && nat_le x j

-- The joins of a row whose edges stand at the positions from first to last: P holds an edge's costs at its coefficient's products,
-- forth and back are the joins from either end, around is what an edge reads.
pub record RowJoins (F : Tables) (K : View) (costs : ℕ → ℕ → ℕ) (r first last : ℕ) (P forth back around : ℕ → ℕ → ℕ) : Type 0 where
  pub two : first < last
  pub fits : last < width K
  pub edges : (x : ℕ) → x < width K → (row_of K x == r) ≡ between first last x
  pub placed : (x a : ℕ) → first ≤ x → x ≤ last → a < K.header.order → P x (F.product (coefficient_of K x) a) ≡ costs x a
  pub forth_first : forth first ≡ P first
  pub forth_next : (x : ℕ) → first ≤ x → suc x < last → Joined F K.header.order (forth x) (P (suc x)) (forth (suc x))
  pub back_last : back last ≡ P last
  pub back_next : (x : ℕ) → first < x → x < last → Joined F K.header.order (P x) (back (suc x)) (back x)
  pub around_first : around first ≡ back (suc first)
  pub around_last : around last ≡ forth (pred last)
  pub around_between : (x : ℕ) → first < x → x < last → Joined F K.header.order (forth (pred x)) (back (suc x)) (around x)

-- read at the opposite of its product, the joins around an edge are its from-check cost
abbrev pub JoinsStand : Type 0
JoinsStand =
    (F : Tables) → Lawful F → (K : View) → Admitted K → F.order ≡ K.header.order →
    (costs : ℕ → ℕ → ℕ) → Within K costs →
    (r first last : ℕ) (P forth back around : ℕ → ℕ → ℕ) → RowJoins F K costs r first last P forth back around →
    (e a o : ℕ) → first ≤ e → e ≤ last → a < K.header.order → o < K.header.order → F.sum (F.product (coefficient_of K e) a) o ≡ 0 →
    around e o ≡ from_check_cost F K costs e a
