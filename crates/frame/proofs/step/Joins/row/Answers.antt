use Rattle.std.proofs.Common.{◌≡◌, suc, ◌+◌, ◌-◌, ◌≤◌, length, ◌∙◌, arith}
use Rattle.frame.specs.Blocks.{blocks}
use Rattle.frame.specs.Row.{coefficient_at}
use Rattle.frame.proofs.Turns.{turned_wrote, same_blocks}
use Rattle.frame.proofs.Phases.{begun, low_spread, low_kept, low_around, row_done, row_pairs_is}
use Rattle.frame.proofs.step.Joins.row.Goals as goal

pub backward-backs-requires : goal.backward-backs-requires
backward-backs-requires g c =
    let t = g.F.Field.meaning c.args.self.now.field.now in let L = g.met.F.Field.lawful c.args.self.now.field.now in let J = g.J.Joiner.pairs c.args.self.now.joiner.now in
    let top = c.args.self.now.ceiling in let s = c.args.self.now.scratch in let to = c.args.to in let d = length c.args.edges.now in let last = length c.args.edges.now - 1 in
    let h = coefficient_at c.args.edges.now in let a0 = c.args.area.now in let a1 = c.spread.new.area in
    let n : s + 36 ≤ blocks t.order a1 = same_blocks t.order a0 a1 c.spread.auto.area (s + 36) c.requires.room.0 in
    let W = turned_wrote t c.inverted-k.result (to + last) (s + 16) a1 c.turn.new.area (omega arith) c.turn.ensures in
    let count : d ≡ suc last = omega arith in
    record {
      room = same_blocks t.order a0 c.turn.new.area (c.turn.auto.area ∙ c.spread.auto.area) (s + 36) c.requires.room.0;
      last = (omega arith, omega arith);
      begun = begun J t L top h to c.args.from s d last a0 count (omega arith) (omega arith) (omega arith) (omega arith) c.requires.low a1 c.turn.new.area c.inverted-k.result c.spread.ensures W c.inverted-k.ensures.is;
      low = low_spread J t L top h to c.args.from s d last a0 count (omega arith) (omega arith) (omega arith) (omega arith) c.requires.low a1 c.turn.new.area c.inverted-k.result c.spread.ensures W c.inverted-k.ensures.is;
    }

pub forward-forths-requires : goal.forward-forths-requires
forward-forths-requires g c =
    let t = g.F.Field.meaning c.args.self.now.field.now in let L = g.met.F.Field.lawful c.args.self.now.field.now in let J = g.J.Joiner.pairs c.args.self.now.joiner.now in
    let top = c.args.self.now.ceiling in let s = c.args.self.now.scratch in let to = c.args.to in let d = length c.args.edges.now in let last = length c.args.edges.now - 1 in
    let h = coefficient_at c.args.edges.now in let a0 = c.args.area.now in let a1 = c.spread.new.area in let a2 = c.turn.new.area in let a3 = c.backward-backs.new.area in
    let n : s + 36 ≤ blocks t.order a1 = same_blocks t.order a0 a1 c.spread.auto.area (s + 36) c.requires.room.0 in
    let W = turned_wrote t c.inverted-k.result (to + last) (s + 16) a1 a2 (omega arith) c.turn.ensures in
    let count : d ≡ suc last = omega arith in
    record {
      room = same_blocks t.order a0 a3 (c.backward-backs.auto.area ∙ c.turn.auto.area ∙ c.spread.auto.area) (s + 36) c.requires.room.0;
      last = (omega arith, omega arith);
      low = low_kept J t L top h to c.args.from s d last a0 count (omega arith) (omega arith) (omega arith) (omega arith) c.requires.low a1 a2 c.inverted-k.result c.spread.ensures W c.inverted-k.ensures.is a3 c.backward-backs.ensures.area;
    }

pub around-arounds-requires : goal.around-arounds-requires
around-arounds-requires g c =
    let t = g.F.Field.meaning c.args.self.now.field.now in let L = g.met.F.Field.lawful c.args.self.now.field.now in let J = g.J.Joiner.pairs c.args.self.now.joiner.now in
    let top = c.args.self.now.ceiling in let s = c.args.self.now.scratch in let to = c.args.to in let d = length c.args.edges.now in let last = length c.args.edges.now - 1 in
    let h = coefficient_at c.args.edges.now in let a0 = c.args.area.now in let a1 = c.spread.new.area in let a2 = c.turn.new.area in let a3 = c.backward-backs.new.area in let a4 = c.forward-forths.new.area in
    let n : s + 36 ≤ blocks t.order a1 = same_blocks t.order a0 a1 c.spread.auto.area (s + 36) c.requires.room.0 in
    let W = turned_wrote t c.inverted-k.result (to + last) (s + 16) a1 a2 (omega arith) c.turn.ensures in
    let count : d ≡ suc last = omega arith in
    record {
      room = (same_blocks t.order a0 a4 (c.forward-forths.auto.area ∙ c.backward-backs.auto.area ∙ c.turn.auto.area ∙ c.spread.auto.area) (s + 36) c.requires.room.0, omega arith);
      edges = (omega arith, (omega arith, λ i l. (c.requires.coefficients i l).1));
      low = low_around J t L top h to c.args.from s d last a0 count (omega arith) (omega arith) (omega arith) (omega arith) c.requires.low a1 a2 c.inverted-k.result c.spread.ensures W c.inverted-k.ensures.is a3 c.backward-backs.ensures.area a4 c.forward-forths.ensures.area;
    }

pub returns : goal.returns
returns g c =
    let t = g.F.Field.meaning c.args.self.now.field.now in let L = g.met.F.Field.lawful c.args.self.now.field.now in let J = g.J.Joiner.pairs c.args.self.now.joiner.now in
    let top = c.args.self.now.ceiling in let s = c.args.self.now.scratch in let to = c.args.to in let d = length c.args.edges.now in let last = length c.args.edges.now - 1 in
    let h = coefficient_at c.args.edges.now in let a0 = c.args.area.now in let a1 = c.spread.new.area in let a2 = c.turn.new.area in let a3 = c.backward-backs.new.area in let a4 = c.forward-forths.new.area in
    let n : s + 36 ≤ blocks t.order a1 = same_blocks t.order a0 a1 c.spread.auto.area (s + 36) c.requires.room.0 in
    let W = turned_wrote t c.inverted-k.result (to + last) (s + 16) a1 a2 (omega arith) c.turn.ensures in
    let count : d ≡ suc last = omega arith in
    record {
      pairs = row_pairs_is J t L top h to c.args.from s d last a0 count (omega arith) (omega arith) (omega arith) (omega arith) c.requires.low a1 a2 c.inverted-k.result c.spread.ensures W c.inverted-k.ensures.is a3 c.backward-backs.ensures.area a4 c.forward-forths.ensures.area c.around-arounds.new.area c.around-arounds.ensures.area _ _ _ c.backward-backs.ensures.pairs c.forward-forths.ensures.pairs c.around-arounds.ensures.pairs;
      few = omega (arith, c.backward-backs.ensures.few, c.forward-forths.ensures.few, c.around-arounds.ensures.few);
      area = row_done J t L top h to c.args.from s d last a0 count (omega arith) (omega arith) (omega arith) (omega arith) c.requires.low a1 a2 c.inverted-k.result c.spread.ensures W c.inverted-k.ensures.is a3 c.backward-backs.ensures.area a4 c.forward-forths.ensures.area c.around-arounds.new.area c.around-arounds.ensures.area;
    }
