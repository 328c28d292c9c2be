-- One block written, and the others as they were. Assumes nothing.
use Rattle.std.proofs.Common.{◌≡◌, ℕ, suc, ◌+◌, ◌-◌, ◌*◌, ◌/◌, ◌<◌, ◌≤◌, ◌≢◌, ◌⊎◌, List, ◌++◌, length, take, drop, sym, ap, ◌∙◌, subst, inl, inr, arith, length-drop, rules}
use Rattle.std.proofs.lemmas.List.{places, same_lists, length-take-le, append_assoc}
use Rattle.std.proofs.lemmas.Nat.{mul-le, div-add-mod'}
use Rattle.std.proofs.lemmas.Bool.{cases_order}
use Rattle.std.specs.List.{copy_within}
use native.Mathlib.Nat.{sub-zero}
use Rattle.frame.specs.Blocks.{block, put}

pub room : (q j n : ℕ) → j < n / q → j * q + q ≤ n
room q j n h = omega (arith, mul-le (suc j) q (n / q) q h (omega arith), div-add-mod' n q)

-- what copying a block asks, where q is the order s
pub room_at : (q s j n : ℕ) → q ≡ s → s ≤ 64 → j < n / s → (q ≤ 64) × (j * q + q ≤ n)
room_at q s j n e h k = (omega arith, subst (λ x. j * x + x ≤ n) (sym e) (room s j n k))

before : (a b q : ℕ) (v area : List ℕ) → a + q ≤ b → b + q ≤ length area → length v ≡ q → take q (drop a (take b area ++ (v ++ drop (b + q) area))) ≡ take q (drop a area)
before a b q v area h k e = same_lists _ _ (search (rules, places)) (λ x d l. grind (arith, places))

past : (a b q : ℕ) (v area : List ℕ) → b + q ≤ a → b + q ≤ length area → length v ≡ q → take q (drop a (take b area ++ (v ++ drop (b + q) area))) ≡ take q (drop a area)
past a b q v area h k e = same_lists _ _ (search (rules, places)) (λ x d l. grind (arith, places))

module _ (q j : ℕ) (v area : List ℕ) (long : length v ≡ q) (fits : j * q + q ≤ length area) where
  pub block_put_same : block q j (put q j v area) ≡ v
  unfolding put block
  block_put_same = same_lists _ _ (search (rules, places)) (λ x d l. grind (arith, places))

  pub block_put_other : (i : ℕ) → i ≢ j → block q i (put q j v area) ≡ block q i area
  unfolding put block
  block_put_other i ne = go (cases_order i j)
    where
      go : (i ≡ j) ⊎ ((i < j) ⊎ (j < i)) → take q (drop (i * q) (take (j * q) area ++ (v ++ drop (j * q + q) area))) ≡ take q (drop (i * q) area)
      go (inl e) = absurd (ne e)
      go (inr (inl h)) = before (i * q) (j * q) q v area (omega (arith, mul-le (suc i) q j q h (omega arith))) fits long
      go (inr (inr h)) = past (i * q) (j * q) q v area (omega (arith, mul-le (suc j) q i q h (omega arith))) fits long

-- a block as a part that is lent, and the area with it written back
pub part_is : (q j : ℕ) (area : List ℕ) → take (j * q + q - j * q) (drop (j * q) area) ≡ block q j area
unfolding block
part_is q j area = ap (λ n. take n (drop (j * q) area)) (let z : j * q + q - j * q ≡ q = omega arith in z)

-- ---- blocks copied
pub block_copied : (q i j : ℕ) (area : List ℕ) → copy_within area (i * q) (i * q + q) (j * q) ≡ put q j (block q i area) area
unfolding put block
block_copied q i j area =
    append_assoc (take (j * q) area) (take (i * q + q - i * q) (drop (i * q) area)) (drop (j * q + (i * q + q - i * q)) area)
    ∙ ap (λ n. take (j * q) area ++ (take n (drop (i * q) area) ++ drop (j * q + n) area)) (let z : i * q + q - i * q ≡ q = omega arith in z)

-- the first k words, copied to the k after them
pub front_copied : (k : ℕ) (area : List ℕ) → copy_within area 0 k k ≡ take k area ++ (take k area ++ drop (k + k) area)
front_copied k area =
    append_assoc (take k area) (take (k - 0) area) (drop (k + (k - 0)) area)
    ∙ ap (λ n. take k area ++ (take n area ++ drop (k + n) area)) (sub-zero k)

module _ (a k q : ℕ) (area : List ℕ) (fits : k + k ≤ length area) where
  pub copied_there : a + q ≤ k → take q (drop (k + a) (take k area ++ (take k area ++ drop (k + k) area))) ≡ take q (drop a area)
  copied_there h = same_lists _ _ (search (rules, places)) (λ x d l. grind (arith, places))

  pub copied_under : a + q ≤ k → take q (drop a (take k area ++ (take k area ++ drop (k + k) area))) ≡ take q (drop a area)
  copied_under h = same_lists _ _ (search (rules, places)) (λ x d l. grind (arith, places))

  pub copied_over : k + k ≤ a → take q (drop a (take k area ++ (take k area ++ drop (k + k) area))) ≡ take q (drop a area)
  copied_over h = same_lists _ _ (search (rules, places)) (λ x d l. grind (arith, places))

pub length_block : (q j : ℕ) (area : List ℕ) → j * q + q ≤ length area → length (block q j area) ≡ q
unfolding block
length_block q j area h = let d = length-drop (j * q) area in length-take-le q (drop (j * q) area) (omega arith)
