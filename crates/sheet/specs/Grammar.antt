-- What a sheet is: the text that writes a header and two tables. And what reading has to do with it. Assumes nothing.
use Rattle.std.specs.Prelude.{◌≡◌, ℕ, ◌<◌, ◌≤◌, ◌⊎◌, List, [], ◌∷◌, ◌++◌, length, None, Ok, decimal}
use Rattle.std.specs.List.{flat_map}
use Rattle.code.specs.declared.table.Edge.{Edge}
use Rattle.code.specs.declared.table.Entry.{Entry}
use Rattle.code.specs.declared.table.Header.{Header}
use Rattle.code.specs.Admission.{admission}
use Rattle.code.specs.declared.numbers.Numbers.{Numbers}
use Rattle.sheet.specs.Reading.{reading, numbers, answer}

-- each field behind a tab
abbrev pub tabbed : List (List ℕ) → List ℕ
tabbed [] = []
tabbed (f ∷ fs) = 9 ∷ (f ++ tabbed fs)

-- a line: its letter, its fields, a line feed
abbrev pub line : ℕ → List (List ℕ) → List ℕ
line letter fs = (letter ∷ tabbed fs) ++ (10 ∷ [])

-- C, E, K and Z are 67, 69, 75 and 90
abbrev pub header_text : Header → List ℕ → List ℕ
header_text h ceiling = line 67 (decimal h.order ∷ decimal h.columns ∷ decimal h.rows ∷ ceiling ∷ decimal h.limit ∷ [])

abbrev pub edge_text : Edge → List ℕ
edge_text e = line 69 (decimal e.row ∷ decimal e.column ∷ decimal e.coefficient ∷ [])

abbrev pub entry_text : Entry → List ℕ
entry_text k = line 75 (decimal k.column ∷ decimal k.row ∷ [])

abbrev pub end_text : List ℕ
end_text = line 90 []

-- a ceiling is spelled out, or is a dash where it is 31
abbrev pub Spelled : ℕ → List ℕ → Type 0
Spelled c bs = (bs ≡ decimal c) ⊎ ((c ≡ 31) × (bs ≡ 45 ∷ []))

-- the text is a sheet of the header and the tables
pub record Sheet (text : List ℕ) (h : Header) (es : List Edge) (ks : List Entry) : Type 0 where
  pub ceiling : List ℕ
  pub spelled : Spelled h.ceiling ceiling
  pub some_edges : 0 < length es
  pub some_entries : 0 < length ks
  pub lines : text ≡ header_text h ceiling ++ (flat_map edge_text es ++ (flat_map entry_text ks ++ end_text))

-- a sheet of an admitted code is read as that code, where the tables have room
abbrev pub ReadsBack : Type 0
ReadsBack =
    (text : List ℕ) (e k : ℕ) (h : Header) (es : List Edge) (ks : List Entry) → admission h es ks ≡ None → Sheet text h es ks → length es ≤ e → length ks ≤ k →
    (answer (reading e k text) ≡ Ok (numbers h es)) × ((reading e k text).edges ≡ es) × ((reading e k text).entries ≡ ks)

-- a text that is read without a fault is a sheet of the admitted code that was read
pub record Whole (text : List ℕ) (n : Numbers) (es : List Edge) (ks : List Entry) : Type 0 where
  pub header : Header
  pub sheet : Sheet text header es ks
  pub admitted : admission header es ks ≡ None
  pub told : n ≡ numbers header es

abbrev pub OnlySheets : Type 0
OnlySheets = (text : List ℕ) (e k : ℕ) (n : Numbers) → answer (reading e k text) ≡ Ok n → Whole text n (reading e k text).edges (reading e k text).entries

-- reading undoes writing, and reads nothing else
pub record Inverts : Type 0 where
  pub back : ReadsBack
  pub only : OnlySheets
