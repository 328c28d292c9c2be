-- The tree theorem, the law of the from-check cost, and what the words that both use mean. Assumes nothing.
use Rattle.std.specs.Prelude.{◌≡◌, ℕ, ◌+◌, ◌<◌, ◌≤◌, Bool, true, not, ◌&&◌, ◌≢◌, ◌↔◌, ◌==◌}
use Rattle.field.specs.Tables.{Tables, Lawful}
use Rattle.code.specs.declared.table.Edge.{Edge}
use Rattle.code.specs.Rules.{Stands}
use Rattle.code.specs.Views.{View}
use Rattle.tree.specs.Over.{total, greatest, least_to, lowest_to}
use Rattle.tree.specs.Places.{Admitted, width, row_of, column_of, coefficient_of, at_column, at_edge, Arm, Other}
use Rattle.tree.specs.Tree.{Satisfied, lower, Cheapest}
use Rattle.tree.specs.Decoder.{from_check_cost, distance}

-- no channel cost, or no cost of an edge, exceeds the ceiling
abbrev pub Loaded : View → (ℕ → ℕ → ℕ) → Type 0
Loaded K channel = (c a : ℕ) → c < K.header.columns → a < K.header.order → channel c a ≤ K.header.ceiling

abbrev pub Within : View → (ℕ → ℕ → ℕ) → Type 0
Within K costs = (e b : ℕ) → e < width K → b < K.header.order → costs e b ≤ K.header.ceiling

-- after k rounds a column's distance at a is what the cheapest filling of depth k costs that has a at its root
abbrev pub TreeStands : Type 0
TreeStands =
    (F : Tables) → Lawful F → (K : View) → Admitted K → F.order ≡ K.header.order →
    (channel : ℕ → ℕ → ℕ) → Loaded K channel →
    (k c a : ℕ) → c < K.header.columns → a < K.header.order →
    Cheapest F K channel k c a (distance F K channel k c a)

-- v is the greatest of the costs of the symbols at the row's other edges
pub record GreatestOf (K : View) (costs : ℕ → ℕ → ℕ) (e : ℕ) (symbols : ℕ → ℕ) (v : ℕ) : Type 0 where
  pub over_all : (x : ℕ) → Other K e x → costs x (symbols x) ≤ v
  pub at_one : (x : ℕ) × (Other K e x × (costs x (symbols x) ≡ v))

-- codes for the row's other edges that satisfy the check with a at the edge e
pub record Fitting (F : Tables) (K : View) (e a : ℕ) (symbols : ℕ → ℕ) : Type 0 where
  pub codes : (x : ℕ) → Other K e x → symbols x < K.header.order
  pub satisfied : Satisfied F K e a symbols

-- v is the least, over such symbols, of the greatest of their costs
pub record LeastGreatest (F : Tables) (K : View) (costs : ℕ → ℕ → ℕ) (e a v : ℕ) : Type 0 where
  pub symbols : ℕ → ℕ
  pub fitting : Fitting F K e a symbols
  pub reached : GreatestOf K costs e symbols v
  pub under : (s : ℕ → ℕ) → Fitting F K e a s → (w : ℕ) → GreatestOf K costs e s w → v ≤ w

abbrev pub FromStands : Type 0
FromStands =
    (F : Tables) → Lawful F → (K : View) → Admitted K → F.order ≡ K.header.order →
    (costs : ℕ → ℕ → ℕ) → Within K costs →
    (e a : ℕ) → e < width K → a < K.header.order →
    LeastGreatest F K costs e a (from_check_cost F K costs e a)

-- what the words mean that the tree and the decoder share
pub record WordsOf (K : View) : Type 0 where
  -- an edge's numbers are those that stand in the row table
  pub edge : (x : ℕ) (d : Edge) → Stands K.edges x d → (x < width K) × (row_of K x ≡ d.row) × (column_of K x ≡ d.column) × (coefficient_of K x ≡ d.coefficient)
  -- an arm of a column is an edge that stands in the row table with that column
  pub arm_of_column : (c x : ℕ) → Arm K (at_column c) x ↔ ((d : Edge) × (Stands K.edges x d × (d.column ≡ c)))
  -- an arm of an edge is another edge of its column
  pub arm_of_edge : (e x : ℕ) (g : Edge) → Stands K.edges e g → Arm K (at_edge e) x ↔ ((d : Edge) × (Stands K.edges x d × (d.column ≡ g.column) × (x ≢ e)))
  -- an other of an edge is another edge of its row
  pub other : (e x : ℕ) (g : Edge) → Stands K.edges e g → Other K e x ↔ ((d : Edge) × (Stands K.edges x d × (d.row ≡ g.row) × (x ≢ e)))
  -- a cost above the ceiling is lowered to it at an edge, and at a column no cost is
  pub lowered : (e v : ℕ) → (v ≤ K.header.ceiling → lower K (at_edge e) v ≡ v) × (K.header.ceiling ≤ v → lower K (at_edge e) v ≡ K.header.ceiling)
  pub not_lowered : (c v : ℕ) → lower K (at_column c) v ≡ v

-- a total has its parts, and nothing else; the least is reached and undercut by none, and `lowest_to` is the lowest place that reaches it
pub record SumsAre : Type 0 where
  pub none : (n : ℕ) (test : ℕ → Bool) (f : ℕ → ℕ) → ((x : ℕ) → x < n → test x ≢ true) → (total n test f ≡ 0) × (greatest n test f ≡ 0)
  pub one_more : (n : ℕ) (test : ℕ → Bool) (f : ℕ → ℕ) (x : ℕ) → x < n → test x ≡ true → total n test f ≡ f x + total n (λ y. test y && not (y == x)) f
  pub above : (n : ℕ) (test : ℕ → Bool) (f : ℕ → ℕ) (x : ℕ) → x < n → test x ≡ true → f x ≤ greatest n test f
  pub hit : (n : ℕ) (test : ℕ → Bool) (f : ℕ → ℕ) (x : ℕ) → x < n → test x ≡ true → (y : ℕ) × (y < n) × (test y ≡ true) × (f y ≡ greatest n test f)
  pub least : (n : ℕ) (f : ℕ → ℕ) → ((b : ℕ) × (b ≤ n) × (f b ≡ least_to n f)) × ((b : ℕ) → b ≤ n → least_to n f ≤ f b)
  pub lowest : (n : ℕ) (f : ℕ → ℕ) → (lowest_to n f ≤ n) × (f (lowest_to n f) ≡ least_to n f) × ((b : ℕ) → b ≤ n → f b ≡ least_to n f → lowest_to n f ≤ b)

abbrev pub WordsStand : Type 0
WordsStand = ((K : View) → WordsOf K) × SumsAre
