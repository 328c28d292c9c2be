use Rattle.std.proofs.Common.{rules}
use Rattle.std.proofs.lemmas.Fn.{always_returns_same}
use Rattle.frame.specs.Columns.{before}
use Rattle.frame.proofs.Places.{before_part, place_found}
use Rattle.frame.proofs.find.edge_at.Goals as goal

pub returns : goal.returns
returns c =
    let E = c.args.edges.now in let row = c.args.row in let column = c.args.column in
    let f = place_found E row column c.requires.there c.requires.rising c.partition_point.result
    (c.partition_point.ensures.partitioned (λ e. before e row column) (always_returns_same _ _ _ (λ a r f h. search rules)) (before_part E c.requires.rising row column)) in
    record { answer = f.1; within = f.0 }
