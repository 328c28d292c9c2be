use Rattle.std.proofs.Common.{◌≡◌, ℕ, ◌+◌, ◌-◌, ◌<◌, ◌≤◌, Bool, true, false, sym, arith, rules}
use Rattle.std.specs.Bool.{MatchBool}
use Rattle.field.specs.Every.{some_below}
use Rattle.field.proofs.Ranges.{any_from_Range}
use Rattle.field.proofs.Tested.{some_below_true, some_below_none}
use Rattle.tower.specs.Towers.{is_root, has_root}
use Rattle.tower.specs.Copies.{tables_of}
use Rattle.tower.proofs.base.pairs.Pairs.has_root.Goals as goal

-- the codes in turn tell whether some code below n passes
told : (p : ℕ → Bool) (n : ℕ) (r : Bool) → MatchBool r ((k : ℕ) × (0 ≤ k) × (k < 0 + (n - 0)) × (p k ≡ true)) ((k : ℕ) → 0 ≤ k → k < 0 + (n - 0) → p k ≡ true → ⊥) → r ≡ some_below p n
told p n true w = sym (some_below_true p n w.0 (omega (arith, w.2)) w.3)
told p n false w = sym (some_below_none p n (λ k h. w k (omega arith) (omega arith)))

pub returns : goal.returns
unfolding has_root
returns c =
    let s = c.args.self.now in
    let p : ℕ → Bool = is_root (tables_of s.base) s.u s.v in
    told p s.base.r c.any.result
    (any_from_Range _ _ _ c.any.result (λ k. p k ≡ true) (λ k. p k ≡ true → ⊥) c.any.ensures.ran (λ x q k. search rules) (λ x q k. search rules))
