-- What `any` over a range tells, said of the numbers in it and not of a list. Assumes nothing.
use Rattle.std.proofs.Common.{◌≡◌, ℕ, ◌+◌, ◌-◌, ◌<◌, ◌≤◌, Bool, true, false, List, length, Option, refl, subst, ◌∙◌, arith}
use denote.Param.Members.{Mut}
use Rattle.std.specs.declared.ops.Range.{Range}
use Rattle.std.proofs.iter.Yields.{nat_range_steps}
use Rattle.std.specs.Bool.{MatchBool}
use Rattle.std.specs.Fn.{Called}
use Rattle.std.specs.Iterator.{YieldsThen}
use Rattle.std.specs.List.{range_with_len, FoldsTo, AllWithin, HoldsAt}
use Rattle.std.specs.Option.{MatchOption}
use Rattle.std.proofs.lemmas.Iterator.{cases_from_any, YieldsList-from_range}
use Rattle.std.proofs.lemmas.List.FromFn.{length-range_with_len, get_or-range_with_len}

numbers : (a n : ℕ) (r : Bool) (Yes No : ℕ → Type 0)
    → MatchBool r ((k : ℕ) × (k < length (range_with_len a n)) × HoldsAt Yes (range_with_len a n) k) (AllWithin No (range_with_len a n) 0 (length (range_with_len a n)))
    → MatchBool r ((k : ℕ) × (a ≤ k) × (k < a + n) × Yes k) ((k : ℕ) → a ≤ k → k < a + n → No k)
numbers a n true Yes No m =
    let h : m.0 < n = omega (arith, m.1, length-range_with_len a n) in
    (a + m.0, omega arith, omega arith, subst Yes (get_or-range_with_len a n m.0 0 h) (m.2 0))
numbers a n false Yes No m = λ k lo hi.
    let h : k - a < n = omega arith in
    let e : a + (k - a) ≡ k = omega arith in
    subst No (get_or-range_with_len a n (k - a) 0 h ∙ e) (m (k - a) 0 (omega arith) (omega (arith, length-range_with_len a n)))

pub any_from_Range : {F : Type 0} {g : Mut F (ℕ × Unit {0}) Bool} (s u : Range ℕ) (f : F) (r : Bool) (Yes No : ℕ → Type 0)
    → (xs : List ℕ) × (o : Option ℕ) × (j : F) × YieldsThen nat_range_steps s xs o u × FoldsTo (λ p x q. Called g p (x, tt) false q) f xs j
    × MatchOption o (r ≡ false) (λ x. (r ≡ true) × ((h : F) × Called g j (x, tt) true h))
    → ((x : ℕ) (q : F) → Called g f (x, tt) true q → Yes x)
    → ((x : ℕ) (q : F) → Called g f (x, tt) false q → (q ≡ f) × No x)
    → MatchBool r ((k : ℕ) × (s.start ≤ k) × (k < s.start + (s.end - s.start)) × Yes k) ((k : ℕ) → s.start ≤ k → k < s.start + (s.end - s.start) → No k)
any_from_Range s u f r Yes No ran hit miss =
    numbers s.start (s.end - s.start) r Yes No (cases_from_any u f r Yes No ran (YieldsList-from_range s.start s.end (s.end - s.start) refl refl) hit miss)
