-- The line behind a line's first field, and what its fields are.
use Rattle.std.proofs.Common.{◌≡◌, ℕ, suc, ◌+◌, ◌<◌, ◌≤◌, Bool, true, false, cond, ◌&&◌, eqb, leb, List, [], ◌∷◌, length, get_or, drop, sym, refl, ap, ◌∙◌, ⊎_elim, arith}
use Rattle.std.proofs.lemmas.Bool.{cases_lt}
use Rattle.sheet.specs.declared.fault.Place.{Place}
use Rattle.sheet.specs.Pieces.{first, start, fields}
use Rattle.sheet.specs.Words.{letter, number, dash, bytes_of, word_of, Cell}
use Rattle.sheet.specs.Lines.{cell, cell_at}
use Rattle.sheet.proofs.Splits.{split_some, split_rest, split_last}

-- how many bytes a field has
bytes_cond : (s t : Bool) (bs : List ℕ) → bytes_of (cond s (dash bs) (cond t (letter bs) (number bs))) ≡ bs
bytes_cond true t bs = refl
bytes_cond false true bs = refl
bytes_cond false false bs = refl

bytes_word : (bs : List ℕ) → bytes_of (word_of bs) ≡ bs
unfolding word_of
bytes_word bs = bytes_cond (eqb (length bs) 1 && eqb (get_or bs 0 0) 45) (eqb (length bs) 1 && (leb 65 (get_or bs 0 0) && leb (get_or bs 0 0) 90)) bs

pub size_is : (p : Place) (l : List ℕ) (at n : ℕ) (w : Cell) → w ≡ cell_at p l at → n ≡ length (bytes_of w.word) → n ≡ length (first 9 (drop at l))
size_is p l at n w e h = h ∙ ap (λ (v : Cell). length (bytes_of v.word)) e ∙ ap length (bytes_word (first 9 (drop at l)))

-- the first field ends before the line does
ends_before : (l : List ℕ) → 1 < length (fields l) → length (first 9 l) < length l
ends_before l h =
    ⊎_elim (λ k. k)
    (λ k. absurd (omega (arith, h, ap length (split_some 9 l), ap length (split_last 9 l k))))
    (cases_lt (length (first 9 l)) (length l))

pub next_inside : (p : Place) (l : List ℕ) (n : ℕ) (w : Cell) → w ≡ cell_at p l 0 → n ≡ length (bytes_of w.word) → 1 < length (fields l) → n + 1 ≤ length l
next_inside p l n w e h more = omega (arith, size_is p l 0 n w e h, ends_before l more)

module _ (l rest : List ℕ) (n : ℕ) (size : n ≡ length (first 9 l)) (more : 1 < length (fields l)) (is : rest ≡ drop (n + 1) l) where
  behind : fields l ≡ first 9 l ∷ fields rest
  behind = split_some 9 l ∙ ap (λ ps. first 9 l ∷ ps) (split_rest 9 l (ends_before l more) ∙ ap (λ m. fields (drop (m + 1) l)) (sym size) ∙ ap fields (sym is))

  pub count_behind : length (fields rest) + 1 ≡ length (fields l)
  count_behind = omega (arith, ap length behind)

  pub cell_behind : (p : Place) (i : ℕ) → cell (record { line = p.line; byte = p.byte + (n + 1) }) (fields rest) i ≡ cell p (fields l) (i + 1)
  cell_behind p i =
      let on : suc i ≡ i + 1 = omega arith in
      let byte : p.byte + (n + 1) + start i (fields rest) ≡ p.byte + start (suc i) (first 9 l ∷ fields rest) = omega (arith, size) in
      (λ j. record { word = word_of (get_or (fields rest) i []); line = p.line; byte = byte j }) ∙ (λ j. cell p (sym behind j) (on j))
