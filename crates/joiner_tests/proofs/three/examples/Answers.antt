use Rattle.std.proofs.Common.{◌≡◌, ℕ, List, Ok, refl, ◌∙◌}
use Rattle.joiner.specs.Answers.{told, refusal_of}
use Rattle.joiner.specs.Costs.{within}
use Rattle.joiner.specs.Joined.{least_of, least, pairs_below, pairs_to, joined_at, joined_of}
use Rattle.joiner.specs.Level.{count, chosen, first_from, level_of, selective_pairs}
use Rattle.joiner.proofs.Granted.{told_pairs}
use Rattle.joiner_tests.specs.declared.outcome.Outcome.{Outcome}
use Rattle.joiner_tests.specs.Worked.{worked}
use Rattle.joiner_tests.proofs.three.examples.Goals as goal

outcome : (o : Outcome) (n : ℕ) (third : List ℕ) → told o.pairs ≡ Ok n → o.third ≡ third → o ≡ record { pairs = Ok n; third = third }
outcome o n third p e = λ i. record { pairs = told_pairs n o.pairs p i; third = e i }

pub returns : goal.returns
unfolding refusal_of within least_of least pairs_below pairs_to joined_at joined_of count chosen first_from level_of selective_pairs
returns c =
    let a : c.over_three.result ≡ worked.full = outcome c.over_three.result 9 worked.full.third (c.over_three.ensures.answer ∙ refl) (c.over_three.ensures.joined ∙ refl) in
    let b : c.over_three-2.result ≡ worked.selective = outcome c.over_three-2.result 4 worked.selective.third (c.over_three-2.ensures.answer ∙ refl) (c.over_three-2.ensures.joined ∙ refl) in
    let d : c.over_three-3.result ≡ worked.high = outcome c.over_three-3.result 1 worked.high.third (c.over_three-3.ensures.answer ∙ refl) (c.over_three-3.ensures.joined ∙ refl) in
    (λ i. record { full = a i; selective = b i; high = d i })
