-- The cost of a code by one sample more, and how large a cost can be.
use Rattle.std.proofs.Common.{◌≡◌, ℕ, zero, suc, ◌+◌, ◌-◌, ◌*◌, ◌^◌, ◌<◌, ◌≤◌, Bool, true, false, cond, List, [], ◌∷◌, ◌++◌, length, get_or, take, set, sym, refl, ap, ◌∙◌, subst, inl, inr, le_trans, le_of_eq, add-zero, add_assoc, suc-mul, zero-add, arith, pow-add}
use mathlib.Core.Bool.{beq}
use Rattle.std.proofs.lemmas.Nat.{mul-le}
use Rattle.std.proofs.lemmas.List.FromFn.{fill_by_all}
use Rattle.std.proofs.lemmas.List.{take_more, take_all, length-take-le}
use Rattle.std.proofs.lemmas.Bool.{cond_both, cases_lt}
use Rattle.sampling.specs.Costs.{bit_at, level_of, share_of, shares_from, cost_of, costs_of}
use Rattle.sampling.specs.declared.receiver.Settings.{Settings}
use Rattle.sampling.specs.declared.samples.Sample.{Sample}
use Rattle.sampling.specs.declared.samples.Sample.TheVariants.{Lost, Known, Measured}
use Rattle.sampling.proofs.Rule.{level_le}
use Rattle.sampling.proofs.Bits.{bit_low, bit_high, bit_same}

-- ---- what a sample adds, as the code forms it

pub low_is : (b : Bool) (n : ℕ) → cond b n 0 ≡ cond (beq false b) 0 n
low_is true n = refl
low_is false n = refl

-- ---- bounds

level_of_le : (s : Settings) (c : ℕ) (x : Sample) → level_of s c x ≤ c
level_of_le s c Lost = omega arith
level_of_le s c (Known b) = omega arith
level_of_le s c (Measured x) = level_le _ _ c

pub share_le : (s : Settings) (c : ℕ) (b : Bool) (x : Sample) → share_of s c b x ≤ c
share_le s c b x = cond_both (beq b _) 0 (level_of s c x) (λ n. n ≤ c) (λ _. omega arith) (λ _. level_of_le s c x)

shares_le : (s : Settings) (c a i : ℕ) (xs : List Sample) → shares_from s c a i xs ≤ length xs * c
shares_le s c a i [] = omega arith
shares_le s c a i (x ∷ xs) = omega (arith, share_le s c (bit_at i a) x, shares_le s c a (suc i) xs, suc-mul (length xs) c)

-- ---- one sample more

shares_push : (s : Settings) (c a i : ℕ) (xs : List Sample) (x : Sample) → shares_from s c a i (xs ++ x ∷ []) ≡ shares_from s c a i xs + share_of s c (bit_at (i + length xs) a) x
shares_push s c a i [] x =
    add-zero (share_of s c (bit_at i a) x) ∙ ap (λ j. share_of s c (bit_at j a) x) (sym (add-zero i)) ∙ sym (zero-add _)
shares_push s c a i (y ∷ xs) x =
    let e : suc i + length xs ≡ i + suc (length xs) = omega arith in
    ap (λ n. share_of s c (bit_at i a) y + n) (shares_push s c a (suc i) xs x ∙ ap (λ j. shares_from s c a (suc i) xs + share_of s c (bit_at j a) x) e)
    ∙ sym (add_assoc (share_of s c (bit_at i a) y) (shares_from s c a (suc i) xs) (share_of s c (bit_at (i + suc (length xs)) a) x))

-- codes with the same bits below n cost the same by n samples
shares_same : (s : Settings) (c a b n i : ℕ) (xs : List Sample) → ((j : ℕ) → j < n → bit_at j a ≡ bit_at j b) → i + length xs ≤ n → shares_from s c a i xs ≡ shares_from s c b i xs
shares_same s c a b n i [] f h = refl
shares_same s c a b n i (x ∷ xs) f h =
    ap (λ t. share_of s c t x + shares_from s c a (suc i) xs) (f i (omega arith))
    ∙ ap (λ m. share_of s c (bit_at i b) x + m) (shares_same s c a b n (suc i) xs f (omega arith))

cost_more : (s : Settings) (c : ℕ) (xs : List Sample) (i a : ℕ) (d : Sample) → i < length xs → cost_of s c (take (i + 1) xs) a ≡ cost_of s c (take i xs) a + share_of s c (bit_at i a) (get_or xs i d)
unfolding cost_of
cost_more s c xs i a d h =
    let e : 0 + length (take i xs) ≡ i = zero-add _ ∙ length-take-le i xs (omega arith) in
    ap (shares_from s c a 0) (take_more xs i d h)
    ∙ shares_push s c a 0 (take i xs) (get_or xs i d)
    ∙ ap (λ j. shares_from s c a 0 (take i xs) + share_of s c (bit_at j a) (get_or xs i d)) e

cost_above : (s : Settings) (c : ℕ) (xs : List Sample) (i a : ℕ) → i ≤ length xs → cost_of s c (take i xs) (2 ^ i + a) ≡ cost_of s c (take i xs) a
unfolding cost_of
cost_above s c xs i a h =
    shares_same s c (2 ^ i + a) a i 0 (take i xs) (λ j l. bit_same i j a l) (omega (arith, length-take-le i xs h))

pub cost_le : (s : Settings) (c : ℕ) (xs : List Sample) (i a : ℕ) → i < length xs → length xs ≤ 6 → c ≤ 1023 → cost_of s c (take i xs) a ≤ 5115
unfolding cost_of
cost_le s c xs i a h few small =
    le_trans (shares_le s c a 0 (take i xs))
    (le_trans (le_of_eq (ap (λ n. n * c) (length-take-le i xs (omega arith)))) (mul-le i c 5 1023 (omega arith) small))

-- without samples every code is free
pub none_costs : (s : Settings) (c : ℕ) (xs : List Sample) (old : List ℕ) → 0 < length old → (a : ℕ) → a < 1 → get_or (set old 0 0) a 0 ≡ cost_of s c (take 0 xs) a
unfolding cost_of
none_costs s c xs [] h a l = absurd (omega arith)
none_costs s c xs (x ∷ old) h zero l = refl
none_costs s c xs (x ∷ old) h (suc a) l = absurd (omega arith)

pub all_costs : (s : Settings) (c : ℕ) (xs : List Sample) (i : ℕ) (new : List ℕ) → length xs ≤ i → i ≤ length xs → length new ≡ 2 ^ length xs
    → ((a : ℕ) → a < 2 ^ i → get_or new a 0 ≡ cost_of s c (take i xs) a) → new ≡ costs_of s c xs
all_costs s c xs i new h l n inv =
    let e : i ≡ length xs = omega arith in
    fill_by_all (cost_of s c xs) new (2 ^ length xs) 0 n
    (λ k b. inv k (subst (λ m. k < 2 ^ m) (sym e) b) ∙ ap (λ ys. cost_of s c ys k) (take_all i xs h))

-- a spread of the costs by i samples has the costs by one more
pub spread_costs : (s : Settings) (c : ℕ) (xs : List Sample) (i : ℕ) (d : Sample) (old new : List ℕ) (half low high : ℕ)
    → i < length xs
    → half ≡ 2 ^ i
    → (low ≡ share_of s c false (get_or xs i d)) × (high ≡ share_of s c true (get_or xs i d))
    → ((a : ℕ) → a < 2 ^ i → get_or old a 0 ≡ cost_of s c (take i xs) a)
    → ((a : ℕ) → a < half → get_or new a 0 ≡ get_or old a 0 + low)
    → ((a : ℕ) → a < half → get_or new (half + a) 0 ≡ get_or old a 0 + high)
    → (a : ℕ) → a < 2 ^ (i + 1) → get_or new a 0 ≡ cost_of s c (take (i + 1) xs) a
spread_costs s c xs i d old new half low high h w e inv L H a b =
    let share : Bool → ℕ = λ t. share_of s c t (get_or xs i d) in
    elim (cases_lt a (2 ^ i)) [
      | inl k ↦
          L a (omega arith)
          ∙ ap (λ n. n + low) (inv a k)
          ∙ ap (λ n. cost_of s c (take i xs) a + n) (e.0 ∙ ap share (sym (bit_low i a k)))
          ∙ sym (cost_more s c xs i a d h)
      | inr k ↦
          let r = a - 2 ^ i in
          let k' : r < 2 ^ i = omega (arith, pow-add 2 i 1) in
          let back : 2 ^ i + r ≡ a = omega arith in
          let from : half + r ≡ a = omega arith in
          ap (λ n. get_or new n 0) (sym from)
          ∙ H r (omega arith)
          ∙ ap (λ n. n + high) (inv r k' ∙ sym (cost_above s c xs i r (omega arith)))
          ∙ ap (λ n. cost_of s c (take i xs) (2 ^ i + r) + n) (e.1 ∙ ap share (sym (bit_high i r k')))
          ∙ sym (cost_more s c xs i (2 ^ i + r) d h)
          ∙ ap (cost_of s c (take (i + 1) xs)) back
    ]
