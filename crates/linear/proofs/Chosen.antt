-- The one codeword that carries the symbols is the first that does. Assumes nothing.
use Rattle.std.proofs.Common.{◌≡◌, ℕ, zero, suc, ◌+◌, ◌<◌, ◌≤◌, Bool, true, false, cond, ◌&&◌, eqb, List, ◌∷◌, get_or, sym, refl, ap, ◌∙◌, ap₂, le_of_suc-le-suc, not-suc-le-zero, arith, eq-eqb, eqb-true}
use Rattle.field.specs.Tables.{Tables}
use Rattle.field.specs.Every.{every_below}
use Rattle.field.proofs.Tested.{some_below_at, every_below_at, and_true}
use Rattle.linear.specs.Columns.{combined, Carries}
use Rattle.linear.specs.Count.{count}
use Rattle.linear.specs.Encoded.{carrying, the_word, Encoded}
use Rattle.linear.specs.Search.{some_word, least_from, first_word}
use Rattle.linear.specs.Words.{Codes, Matrix, Codeword, row_sum}
use Rattle.linear.proofs.Tests.{no_both}
use Rattle.linear.proofs.Search.{some_word_true, every_true}

record Got (p : ℕ → Bool) (b : ℕ) (q : ℕ) : Type 0 where
  below : b < q
  passes : p b ≡ true

least_got : (p : ℕ → Bool) (i n k : ℕ) → i ≤ k → k < i + n → p k ≡ true → Got p (least_from p i n) (i + n)
least_got p i zero k a b e = absurd (let z : ⊥ = omega arith in z)
least_got p i (suc n) k a b e = go (p i) refl (λ lo. least_got p (suc i) n k lo (omega arith) e)
  where
    go : (v : Bool) → p i ≡ v → (suc i ≤ k → Got p (least_from p (suc i) n) (suc i + n)) → Got p (cond v i (least_from p (suc i) n)) (i + suc n)
    go true q ih = record { below = omega arith; passes = q }
    go false q ih =
        let g = ih (let d : ¬ (i ≡ k) = λ z. no_both e (ap p (sym z) ∙ q) in omega arith) in
        record { below = (let h = g.below in omega arith); passes = g.passes }

record First (q n : ℕ) (p : List ℕ → Bool) (w : List ℕ) : Type 0 where
  codes : Codes q n w
  passes : p w ≡ true

first_word_is : (q n : ℕ) (p : List ℕ → Bool) → some_word q n p ≡ true → First q n p (first_word q n p)
unfolding first_word
first_word_is q zero p e = record { codes = record { long = refl; below = λ i l. absurd (not-suc-le-zero l) }; passes = e }
first_word_is q (suc n) p e =
    let k = some_below_at (λ x. some_word q n (λ w. p (x ∷ w))) q e in
    let a = least_from (λ x. some_word q n (λ w. p (x ∷ w))) 0 q in
    let g = least_got (λ x. some_word q n (λ w. p (x ∷ w))) 0 q k.0 (omega arith) (let h = k.1 in omega arith) k.2 in
    let f = first_word_is q n (λ w. p (a ∷ w)) g.passes in
    record { codes = record { long = ap suc f.codes.long; below = at a (first_word q n (λ w. p (a ∷ w))) (let h = g.below in omega arith) f.codes.below }; passes = f.passes }
  where
    at : (a : ℕ) (w : List ℕ) → a < q → ((i : ℕ) → i < n → get_or w i 0 < q) → (i : ℕ) → i < suc n → get_or (a ∷ w) i 0 < q
    at a w h b zero l = h
    at a w h b (suc i) l = b i (le_of_suc-le-suc l)

module _ (t : Tables) (H : Matrix) (s w : List ℕ) where
  column : ℕ → Bool
  column c = cond (combined t H c) (eqb (get_or w c 0) (get_or s (count c (combined t H)) 0)) true

  yes_carrying : Codeword t H w → Carries t H w s → carrying t H s w ≡ true
  unfolding column
  yes_carrying k e = ap₂ ◌&&◌
      (every_true (λ r. eqb (row_sum t H w r) 0) H.rows (λ r h. eq-eqb (row_sum t H w r) 0 (k.holds r h)))
      (every_true column H.columns (λ c h. go c (combined t H c) refl (e c h)))
    where
      go : (c : ℕ) (b : Bool) → combined t H c ≡ b → (combined t H c ≡ true → get_or w c 0 ≡ get_or s (count c (combined t H)) 0) → cond b (eqb (get_or w c 0) (get_or s (count c (combined t H)) 0)) true ≡ true
      go c true q f = eq-eqb (get_or w c 0) (get_or s (count c (combined t H)) 0) (f q)
      go c false q f = refl

  carrying_word : Codes t.order H.columns w → carrying t H s w ≡ true → Codeword t H w
  unfolding column
  carrying_word k e = record { codes = k; holds = λ r h. eqb-true (row_sum t H w r) 0 (every_below_at (λ r. eqb (row_sum t H w r) 0) H.rows r (and_true (every_below (λ r. eqb (row_sum t H w r) 0) H.rows) (every_below column H.columns) e).0 h) }

  carrying_carries : carrying t H s w ≡ true → Carries t H w s
  unfolding column
  carrying_carries e c h o = go (combined t H c) o (every_below_at column H.columns c (and_true (every_below (λ r. eqb (row_sum t H w r) 0) H.rows) (every_below column H.columns) e).1 h)
    where
      go : (b : Bool) → b ≡ true → cond b (eqb (get_or w c 0) (get_or s (count c (combined t H)) 0)) true ≡ true → get_or w c 0 ≡ get_or s (count c (combined t H)) 0
      go true q f = eqb-true (get_or w c 0) (get_or s (count c (combined t H)) 0) f
      go false q f = absurd (no_both q refl)

pub encoded_is : (t : Tables) (H : Matrix) (s w : List ℕ) → Encoded t H s w → w ≡ the_word t H s
encoded_is t H s w e =
    let some : some_word t.order H.columns (carrying t H s) ≡ true = some_word_true t.order H.columns (carrying t H s) w e.codeword.codes (yes_carrying t H s w e.codeword e.carries) in
    let f = first_word_is t.order H.columns (carrying t H s) some in
    sym (e.alone (the_word t H s) (carrying_word t H s (the_word t H s) f.codes f.passes) (carrying_carries t H s (the_word t H s) f.passes))
