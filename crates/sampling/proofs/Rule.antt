-- What the rule from magnitude to level gives: levels grow with what they reach, and the level is the only one that the law tells.
use Rattle.std.proofs.Common.{◌≡◌, ℕ, ◌+◌, ◌*◌, ◌<◌, ◌≤◌, true, false, sym, ◌∙◌, inl, inr, true≢false, le_trans, mul-le-mul_right, zero-mul, arith}
use Rattle.std.proofs.lemmas.Bool.{le-leb, lt-leb, leb-true, leb-false, cases_lt, cases_eq, cases_Bool}
use Rattle.sampling.specs.Exact.{Fraction}
use Rattle.sampling.specs.Levels.{reaches, level_at, IsLevel, LevelLaw}
use Rattle.sampling.proofs.Search.{largest_le, largest_above, largest_passes}

-- what reaches a level reaches each below it
reaches_less : (step m : Fraction) (j k : ℕ) → j ≤ k → reaches step m k ≡ true → reaches step m j ≡ true
reaches_less step m j k h e =
    le-leb (j * step.over * m.under) (m.over * step.under)
    (le_trans (mul-le-mul_right m.under (mul-le-mul_right step.over h)) (leb-true (k * step.over * m.under) (m.over * step.under) e))

reaches_zero : (step m : Fraction) → reaches step m 0 ≡ true
reaches_zero step m = le-leb (0 * step.over * m.under) (m.over * step.under) (simp zero-mul (omega arith))

pub level_le : (step m : Fraction) (c : ℕ) → level_at step m c ≤ c
unfolding level_at
level_le step m c = largest_le (reaches step m) c

-- the two ways to halve: a level that m reaches is at most the level, and one that it does not is above it
pub level_from : (step m : Fraction) (c k : ℕ) → k ≤ c → reaches step m k ≡ true → k ≤ level_at step m c
unfolding level_at
level_from step m c k h e = largest_above (reaches step m) c k h e

level_reached : (step m : Fraction) (c : ℕ) → reaches step m (level_at step m c) ≡ true
unfolding level_at
level_reached step m c = largest_passes (reaches step m) c (reaches_zero step m)

pub level_under : (step m : Fraction) (c k : ℕ) → reaches step m k ≡ false → level_at step m c < k
level_under step m c k e =
    elim (cases_lt (level_at step m c) k) [
      | inl h ↦ h
      | inr h ↦ absurd (true≢false (sym (reaches_less step m k (level_at step m c) h (level_reached step m c)) ∙ e))
    ]

-- the law, for every step and magnitude
is_level : (step m : Fraction) (c : ℕ) → IsLevel step m c (level_at step m c)
is_level step m c = record {
  within = level_le step m c;
  reached = leb-true _ _ (level_reached step m c);
  last = elim (cases_eq (level_at step m c) c) [
    | inl e ↦ inl e
    | inr n ↦ inr (leb-false _ _ (elim (cases_Bool (reaches step m (level_at step m c + 1))) [
      | inl e ↦ absurd (let a = level_le step m c in let b = level_from step m c (level_at step m c + 1) (omega arith) e in omega arith)
      | inr e ↦ e
    ]))
  ];
}

only_level : (step m : Fraction) (c k : ℕ) → IsLevel step m c k → k ≡ level_at step m c
only_level step m c k l =
    let a = level_from step m c k l.within (le-leb _ _ l.reached) in
    elim l.last [
      | inl e ↦ (let b = level_le step m c in omega arith)
      | inr h ↦ (let b = level_under step m c (k + 1) (lt-leb _ _ h) in omega arith)
    ]

pub level_law : LevelLaw
level_law = record {
  level = λ s c x _ _. is_level _ _ c;
  only = λ s c k x _ _ l. only_level _ _ c k l;
}
