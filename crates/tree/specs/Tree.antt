-- The unrolled tree: its fillings, which of them satisfy the checks, and what each costs. Assumes nothing.
use Rattle.std.specs.Prelude.{◌≡◌, ℕ, zero, suc, ◌+◌, ◌-◌, ◌<◌, ◌≤◌, min}
use Rattle.tree.specs.Over.{over, total, greatest}
use Rattle.field.specs.Tables.{Tables}
use Rattle.code.specs.Views.{View}
use Rattle.tree.specs.Places.{Place, at_column, at_edge, place_column, width, coefficient_of, arms, others, Arm, Other}

-- A filling of depth 0 is a symbol. A deeper one is a symbol and, for each edge of the column (the first number) and each
-- other edge of that edge's row (the second), a filling one less deep. What stands at other numbers has no meaning.
pub data Filling : ℕ → Type 0 where
  leaf : ℕ → Filling zero
  grow : {k : ℕ} → ℕ → (ℕ → ℕ → Filling k) → Filling (suc k)

unfoldable pub symbol : {k : ℕ} → Filling k → ℕ
symbol (leaf a) = a
symbol (grow a parts) = a

unfoldable pub part : {k : ℕ} → Filling (suc k) → ℕ → ℕ → Filling k
part (grow a parts) = parts

-- coefficients times symbols sum to 0 on the row of the edge e: a at e, and `at x` at each other edge x of the row
abbrev pub Satisfied : Tables → View → ℕ → ℕ → (ℕ → ℕ) → Type 0
Satisfied F K e a at = F.sum (F.product (coefficient_of K e) a) (over F.sum 0 (width K) (others K e) (λ x. F.product (coefficient_of K x) (at x))) ≡ 0

-- the symbols are codes, and satisfy the check on each row that the tree goes on along
pub record Fits (F : Tables) (K : View) {k : ℕ} (inner : Place → Filling k → Type 0) (p : Place) (f : Filling (suc k)) : Type 0 where
  pub code : symbol f < K.header.order
  pub satisfied : (e : ℕ) → Arm K p e → Satisfied F K e (symbol f) (λ x. symbol (part f e x))
  pub parts : (e : ℕ) → Arm K p e → (x : ℕ) → Other K e x → inner (at_edge x) (part f e x)

unfoldable pub Valid : Tables → View → (k : ℕ) → Place → Filling k → Type 0
Valid F K zero p f = symbol f < K.header.order
Valid F K (suc k) p f = Fits F K (Valid F K k) p f

-- the raw cost, where `cost` tells what fillings one less deep cost
pub record Raw (K : View) (channel : ℕ → ℕ → ℕ) {k : ℕ} (cost : Place → Filling k → ℕ → Type 0) (p : Place) (f : Filling (suc k)) (v : ℕ) : Type 0 where
  pub part_cost : ℕ → ℕ → ℕ
  pub each : (e : ℕ) → Arm K p e → (x : ℕ) → Other K e x → cost (at_edge x) (part f e x) (part_cost e x)
  pub is : v ≡ channel (place_column K p) (symbol f) + total (width K) (arms K p) (λ e. greatest (width K) (others K e) (part_cost e))

-- m is the least of what the valid fillings have
pub record Least {k : ℕ} (valid : Filling k → Type 0) (has : Filling k → ℕ → Type 0) (m : ℕ) : Type 0 where
  pub one : Filling k
  pub one_valid : valid one
  pub one_has : has one m
  pub under : (f : Filling k) → valid f → (v : ℕ) → has f v → m ≤ v

unfoldable pub lower : View → Place → ℕ → ℕ
lower K (at_column c) v = v
lower K (at_edge e) v = min v K.header.ceiling

-- the raw cost less the least raw cost, lowered to the ceiling at an edge
pub record Normal (K : View) (p : Place) {k : ℕ} (valid : Filling k → Type 0) (raw : Filling k → ℕ → Type 0) (f : Filling k) (v : ℕ) : Type 0 where
  pub own : ℕ
  pub own_raw : raw f own
  pub least : ℕ
  pub least_raw : Least valid raw least
  pub is : v ≡ lower K p (own - least)

unfoldable pub Cost : Tables → View → (ℕ → ℕ → ℕ) → (k : ℕ) → Place → Filling k → ℕ → Type 0
Cost F K channel zero p f v = v ≡ channel (place_column K p) (symbol f)
Cost F K channel (suc k) p f v = Normal K p (Valid F K (suc k) p) (Raw K channel (Cost F K channel k) p) f v

-- d is what the cheapest filling costs that has the symbol a at the root of the column c's tree of depth k
pub record Cheapest (F : Tables) (K : View) (channel : ℕ → ℕ → ℕ) (k c a d : ℕ) : Type 0 where
  pub filling : Filling k
  pub root : symbol filling ≡ a
  pub valid : Valid F K k (at_column c) filling
  pub cost : Cost F K channel k (at_column c) filling d
  pub costs_something : (f : Filling k) → Valid F K k (at_column c) f → (v : ℕ) × Cost F K channel k (at_column c) f v
  pub costs_once : (f : Filling k) (v w : ℕ) → Cost F K channel k (at_column c) f v → Cost F K channel k (at_column c) f w → v ≡ w
  pub under : (f : Filling k) → Valid F K k (at_column c) f → symbol f ≡ a → (v : ℕ) → Cost F K channel k (at_column c) f v → d ≤ v
