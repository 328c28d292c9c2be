-- Where a code breaks a rule: what each fault says of its place, in plain facts. Assumes nothing.
use Rattle.std.specs.Prelude.{◌≡◌, ℕ, ◌+◌, ◌<◌, ◌≤◌, ◌⊎◌, List, length}
use Rattle.code.specs.declared.table.Edge.{Edge}
use Rattle.code.specs.declared.table.Entry.{Entry}
use Rattle.code.specs.declared.table.Header.{Header}
use Rattle.code.specs.declared.fault.CodeFault.{CodeFault}
use Rattle.code.specs.declared.fault.CodeFault.TheVariants.{OutOfRange, NotRising, Degree, Unmatched}
use Rattle.code.specs.Admission.{row_degree, column_degree}
use Rattle.code.specs.Faults.{Earlier}
use Rattle.code.specs.Rules.{Between, HeaderFits, EdgeFits, EntryFits, EdgeBefore, EntryBefore, Stands, HasEdge, HasEntry}

-- P holds n places before p
abbrev pub Past : ℕ → (ℕ → Type 0) → ℕ → Type 0
Past n P p = (k : ℕ) × ((p ≡ n + k) × P k)

-- what stands at the place does not keep P
abbrev pub Unfit : {A : Type 0} → (A → Type 0) → List A → ℕ → Type 0
Unfit {A} P xs p = (x : A) × ((Stands xs p x) × (P x → ⊥))

-- what stands at the place does not come after what stands just before it
abbrev pub Falls : {A : Type 0} → (A → A → Type 0) → List A → ℕ → Type 0
Falls {A} Before xs p = (k : ℕ) × ((p ≡ k + 1) × ((a : A) × ((b : A) × ((Stands xs k a) × (Stands xs p b) × (Before a b → ⊥)))))

abbrev pub NumbersFit : Header → List Edge → List Entry → Type 0
NumbersFit h es ks = HeaderFits h × (length es ≤ 1024) × (length ks ≤ 1024)

abbrev pub Bad : Header → List Edge → List Entry → CodeFault → Type 0
Bad h es ks (OutOfRange p) =
    ((p ≡ 0) × (NumbersFit h es ks → ⊥))
    ⊎ (Unfit (EdgeFits h) es p ⊎ Past (length es) (Unfit (EntryFits h) ks) p)
Bad h es ks (NotRising p) = Falls EdgeBefore es p ⊎ Past (length es) (Falls EntryBefore ks) p
Bad h es ks (Degree p) =
    ((p < h.rows) × (Between 2 (row_degree es p) 16 → ⊥))
    ⊎ Past h.rows (λ j. (j < h.columns) × (Between 1 (column_degree es j) 8 → ⊥)) p
Bad h es ks (Unmatched p) =
    Unfit (λ x. HasEdge es x.row x.column) ks p
    ⊎ ((p ≡ length ks) × ((k : ℕ) × Unfit (λ e. HasEntry ks e.row e.column) es k))

-- bad there, and nothing bad before
abbrev pub FirstBad : Header → List Edge → List Entry → CodeFault → Type 0
FirstBad h es ks f = Bad h es ks f × ((g : CodeFault) → Earlier g f → Bad h es ks g → ⊥)
