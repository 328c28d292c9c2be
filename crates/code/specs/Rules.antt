-- The rules that a code keeps, as plain facts of its header and its two tables. Assumes nothing.
use Rattle.std.specs.Prelude.{◌≡◌, ℕ, ◌<◌, ◌≤◌, ◌⊎◌, List, length, Some}
use Rattle.std.specs.List.{slice_get}
use Rattle.code.specs.declared.table.Edge.{Edge}
use Rattle.code.specs.declared.table.Entry.{Entry}
use Rattle.code.specs.declared.table.Header.{Header}
use Rattle.code.specs.Admission.{row_degree, column_degree}

abbrev pub Between : ℕ → ℕ → ℕ → Type 0
Between low x high = (low ≤ x) × (x ≤ high)

pub record HeaderFits (h : Header) : Type 0 where
  pub order : Between 2 h.order 64
  pub columns : Between 2 h.columns 256
  pub rows : Between 1 h.rows 128
  pub fewer : h.rows < h.columns
  pub ceiling : Between 1 h.ceiling 1023
  pub limit : Between 1 h.limit 200

pub record EdgeFits (h : Header) (e : Edge) : Type 0 where
  pub row : e.row < h.rows
  pub column : e.column < h.columns
  pub coefficient : 1 ≤ e.coefficient
  pub code : e.coefficient < h.order

pub record EntryFits (h : Header) (x : Entry) : Type 0 where
  pub column : x.column < h.columns
  pub row : x.row < h.rows

abbrev pub EdgeBefore : Edge → Edge → Type 0
EdgeBefore a b = (a.row < b.row) ⊎ ((a.row ≡ b.row) × (a.column < b.column))

abbrev pub EntryBefore : Entry → Entry → Type 0
EntryBefore a b = (a.column < b.column) ⊎ ((a.column ≡ b.column) × (a.row < b.row))

-- x stands at k in the list
abbrev pub Stands : {A : Type 0} → List A → ℕ → A → Type 0
Stands xs k x = slice_get xs k ≡ Some x

-- some edge, or some entry, names row i and column j
abbrev pub HasEdge : List Edge → ℕ → ℕ → Type 0
HasEdge es i j = (k : ℕ) × ((e : Edge) × (Stands es k e × (e.row ≡ i) × (e.column ≡ j)))

abbrev pub HasEntry : List Entry → ℕ → ℕ → Type 0
HasEntry ks i j = (k : ℕ) × ((x : Entry) × (Stands ks k x × (x.row ≡ i) × (x.column ≡ j)))

pub record Rules (h : Header) (es : List Edge) (ks : List Entry) : Type 0 where
  pub header : HeaderFits h
  pub few_edges : length es ≤ 1024
  pub few_entries : length ks ≤ 1024
  pub edges_fit : (k : ℕ) (e : Edge) → Stands es k e → EdgeFits h e
  pub entries_fit : (k : ℕ) (x : Entry) → Stands ks k x → EntryFits h x
  pub edges_rise : (i k : ℕ) (a b : Edge) → i < k → Stands es i a → Stands es k b → EdgeBefore a b
  pub entries_rise : (i k : ℕ) (a b : Entry) → i < k → Stands ks i a → Stands ks k b → EntryBefore a b
  pub row_degrees : (i : ℕ) → i < h.rows → Between 2 (row_degree es i) 16
  pub column_degrees : (j : ℕ) → j < h.columns → Between 1 (column_degree es j) 8
  pub edge_has_entry : (i j : ℕ) → HasEdge es i j → HasEntry ks i j
  pub entry_has_edge : (i j : ℕ) → HasEntry ks i j → HasEdge es i j
