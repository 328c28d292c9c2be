use Rattle.std.proofs.Common.{◌+◌, ◌<◌, ◌≤◌, length, sym, ◌∙◌, subst, arith}
use Rattle.joiner.specs.Costs.{Low}
use Rattle.tree.specs.Places.{arms}
use Rattle.tree.specs.Columns.{height}
use Rattle.tree.specs.Columns as tree
use Rattle.tree.proofs.Rows.{rows_rise}
use Rattle.tree.proofs.Columns.{entry_edge, column_total}
use Rattle.frame.specs.Blocks.{block, blocks}
use Rattle.frame.specs.Round.{code_of}
use Rattle.frame.proofs.Turns.{same_blocks}
use Rattle.frame.proofs.Bodies.{A, room_blocks, low_costs, wide, same_pairs, low_begun, low_two, moved}
use Rattle.frame.proofs.body.body.Goals as goal

pub rows-pairs-requires : goal.rows-pairs-requires
rows-pairs-requires g c =
    let F = g.F.Field.meaning c.args.field.now in let L = g.met.F.Field.lawful c.args.field.now in
    let K = code_of c.args.header c.args.edges.now c.args.entries.now in
    let o = c.requires.order in let a0 = c.args.area.now in let R = c.requires.ready in
    let f = A F L K o a0 R in let b = room_blocks F L K o a0 R in
    let N = c.args.header.columns in let W = length c.args.edges.now in
    record {
      count = f.rows_high;
      room = (subst (λ q. N + N + W + W + 36 ≤ blocks q a0) (sym o) b, (omega arith, omega arith));
      rising = rows_rise K f;
      rows = f.row_below;
      wide = wide F L K o a0 R;
      coefficients = λ i h. (f.coefficient_low i h, omega (arith, f.coefficient_high i h, o));
      low = λ i h. subst (λ q. Low c.args.header.ceiling (block q (N + N + i) a0)) (sym o) (low_costs F L K o a0 R i h);
    }

pub begin-requires : goal.begin-requires
begin-requires g c =
    let F = g.F.Field.meaning c.args.field.now in let L = g.met.F.Field.lawful c.args.field.now in
    let K = code_of c.args.header c.args.edges.now c.args.entries.now in
    let o = c.requires.order in let a0 = c.args.area.now in let R = c.requires.ready in
    let f = A F L K o a0 R in let b = room_blocks F L K o a0 R in
    let N = c.args.header.columns in
    let z = same_blocks c.args.header.order a0 c.rows-pairs.new.area c.rows-pairs.auto.area (N + N) (omega arith) in
    z

pub sums-requires : goal.sums-requires
unfolding arms
sums-requires g c =
    let F = g.F.Field.meaning c.args.field.now in let L = g.met.F.Field.lawful c.args.field.now in
    let K = code_of c.args.header c.args.edges.now c.args.entries.now in
    let o = c.requires.order in let a0 = c.args.area.now in let R = c.requires.ready in
    let f = A F L K o a0 R in let b = room_blocks F L K o a0 R in
    let N = c.args.header.columns in let W = length c.args.edges.now in
    let a1 = c.rows-pairs.new.area in let a2 = c.begin.new.area in
    let S1 = c.rows-pairs.ensures.area in let S2 = c.begin.ensures in
    let z = same_blocks c.args.header.order a0 a2 (c.begin.auto.area ∙ c.rows-pairs.auto.area) (N + N + W + W) (omega arith) in
    record {
      room = (z, f.width_high);
      rising = f.rising;
      entries = λ k h. let w = entry_edge K R.admitted k h in
          (subst (λ n. n < N) w.2 (f.column_below (tree.edge_of K k) w.0), (tree.edge_of K k, record { within = w.0; row = w.1; column = w.2 }));
      few = λ j h. subst (λ n. n ≤ 8) (column_total K R.admitted j (λ x. 1)) (f.column_high j h);
      low = (λ j h a. omega (arith, low_begun F L K o a0 R a1 S1 a2 S2 j h a, f.ceiling_high), λ x h a. omega (arith, low_two F L K o a0 R a1 S1 a2 S2 x h a, f.ceiling_high));
    }

pub costs-requires : goal.costs-requires
costs-requires g c =
    let F = g.F.Field.meaning c.args.field.now in let L = g.met.F.Field.lawful c.args.field.now in
    let K = code_of c.args.header c.args.edges.now c.args.entries.now in
    let o = c.requires.order in let a0 = c.args.area.now in let R = c.requires.ready in
    let f = A F L K o a0 R in let b = room_blocks F L K o a0 R in
    let N = c.args.header.columns in let W = length c.args.edges.now in
    let a1 = c.rows-pairs.new.area in let a2 = c.begin.new.area in let a3 = c.sums.new.area in
    let S1 = c.rows-pairs.ensures.area in let S2 = c.begin.ensures in let S3 = c.sums.ensures in
    let z = same_blocks c.args.header.order a0 a3 (c.sums.auto.area ∙ c.begin.auto.area ∙ c.rows-pairs.auto.area) (N + N + W + W) (omega arith) in
    record {
      room = (z, f.width_high);
      edges = f.column_below;
    }

pub settle-requires : goal.settle-requires
settle-requires g c =
    let F = g.F.Field.meaning c.args.field.now in let L = g.met.F.Field.lawful c.args.field.now in
    let K = code_of c.args.header c.args.edges.now c.args.entries.now in
    let o = c.requires.order in let a0 = c.args.area.now in let R = c.requires.ready in
    let f = A F L K o a0 R in let b = room_blocks F L K o a0 R in
    let N = c.args.header.columns in
    let z = same_blocks c.args.header.order a0 c.costs.new.area (c.costs.auto.area ∙ c.sums.auto.area ∙ c.begin.auto.area ∙ c.rows-pairs.auto.area) (N + N) (omega arith) in
    z

pub returns : goal.returns
returns g c =
    let F = g.F.Field.meaning c.args.field.now in let L = g.met.F.Field.lawful c.args.field.now in
    let J = g.J.Joiner.pairs c.args.joiner.now in
    let K = code_of c.args.header c.args.edges.now c.args.entries.now in
    let o = c.requires.order in let a0 = c.args.area.now in let R = c.requires.ready in
    let a1 = c.rows-pairs.new.area in let a2 = c.begin.new.area in let a3 = c.sums.new.area in
    let S1 = c.rows-pairs.ensures.area in let S2 = c.begin.ensures in let S3 = c.sums.ensures in
    record {
      pairs = c.rows-pairs.ensures.pairs ∙ same_pairs F L K o a0 R J c.args.header.rows (omega arith);
      area = moved F L K o a0 R a1 S1 a2 S2 a3 S3 J c.costs.new.area c.settle.new.area
          (c.settle.auto.area ∙ c.costs.auto.area ∙ c.sums.auto.area ∙ c.begin.auto.area ∙ c.rows-pairs.auto.area) c.costs.ensures c.settle.ensures;
    }
