use Rattle.std.proofs.Common.{◌≡◌, subst, rules}
use Rattle.code.specs.Laws.{RefusedAtTheFirst}
use Rattle.code.proofs.code.admit.admit.Goals as goal

pub returns-in_err-judged-clause-place : goal.returns-in_err-judged-clause-place
returns-in_err-judged-clause-place c =
    let same : c.judged.result ≡ c.from_residual.result = search rules in
    subst (RefusedAtTheFirst c.args.header c.args.edges.now c.args.entries.now) same c.judged.ensures.place
