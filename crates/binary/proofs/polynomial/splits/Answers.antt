use Rattle.std.proofs.Common.{◌≡◌, ℕ, suc, ◌+◌, ◌-◌, ◌*◌, ◌/◌, ◌%◌, ◌^◌, ◌<◌, ◌≤◌, Bool, true, false, sym, refl, ap, ◌∙◌, inl, inr, arith, rules, pow_mono, eqb-true}
use native.Mathlib.Nat.{pow-succ'}
use Rattle.std.specs.Bool.{MatchBool}
use Rattle.std.proofs.lemmas.Nat.{shl_whole}
use Rattle.std.proofs.lemmas.Bool.{cases_eq}
use Rattle.field.proofs.Ranges.{any_from_Range}
use Rattle.binary.specs.Polynomials.{has_degree, reducible, Divided}
use Rattle.binary.specs.Factors.{no_factor, factor_found, whole_half, reducible_none}
use Rattle.binary.proofs.polynomial.splits.Goals as goal

-- where the range ends
end : (p : ℕ) → p < 7 → (2 * 2 ^ (p / 2)) % 256 ≡ 2 ^ suc (p / 2)
end p h = shl_whole 2 2 (p / 2) 8 (omega arith) (omega arith) ∙ sym (pow-succ' 2 (p / 2))

-- a polynomial of the range is below 2 ^ p
in_range_is : (p d : ℕ) → p < 7 → 2 ≤ d → d < 2 ^ suc (p / 2) → d < 2 ^ p
in_range_is p d h lo hi =
    elim (cases_eq p 0) [
      | inl z ↦ let e : 2 ^ suc (p / 2) ≡ 2 = ap (λ (n : ℕ). 2 ^ suc (n / 2)) z in absurd (omega arith)
      | inr n ↦ let l : suc (p / 2) ≤ p = omega arith in let w : 2 ^ suc (p / 2) ≤ 2 ^ p = pow_mono l in omega arith
    ]

-- d leaves a rest of m
abbrev Leaves : ℕ → ℕ → Type 0
Leaves m d = (k : ℕ) × (r : ℕ) × Divided m d k r × (r ≡ 0 → ⊥)

-- the polynomials of the range tell
told : (p m n : ℕ) (r : Bool) → p < 7 → has_degree m p ≡ true → n ≡ 2 ^ suc (p / 2)
    → MatchBool r ((d : ℕ) × (2 ≤ d) × (d < 2 + (n - 2)) × ((k : ℕ) × Divided m d k 0)) ((d : ℕ) → 2 ≤ d → d < 2 + (n - 2) → Leaves m d)
    → r ≡ reducible p m
told p m n true h degree e w =
    let lo : 2 ≤ w.0 = w.1 in
    sym (factor_found p m w.0 w.3.0 0 (eqb-true _ 1 degree) (omega arith) (in_range_is p w.0 h lo (omega arith)) w.3.1 refl)
told p m n false h degree e w =
    sym (reducible_none p m (whole_half p m (p / 2) (eqb-true _ 1 degree) (omega arith) (λ d lo hi. let v = w d lo (omega arith) in no_factor m d v.0 v.1 (omega arith) v.2 v.3)))

pub returns : goal.returns
returns c =
    let m = c.args.m in
    told c.args.p m _ c.any.result c.requires.0 c.requires.1 (end c.args.p c.requires.0)
    (any_from_Range _ _ _ c.any.result (λ d. (k : ℕ) × Divided m d k 0) (Leaves m) c.any.ensures.ran (λ x q k. search rules) (λ x q k. search rules))
