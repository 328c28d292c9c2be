use Rattle.tree.specs.Rows.{joined}
use Rattle.std.proofs.Common.{◌≡◌, ◌+◌, ◌-◌, ◌≤◌, sym, ap, ◌∙◌, subst, ap₂, arith}
use Rattle.tree.specs.Rows.{gathered}
use Rattle.joiner.specs.Costs.{Low}
use Rattle.frame.specs.Blocks.{block, blocks, from_on}
use Rattle.frame.proofs.Turns.{turned_wrote, stepped_wrote, wrote_as, wrote_again, same_blocks, around_first, around_last, around_between, pair_first, pair_last, pair_between}
use Rattle.frame.proofs.step.Joins.around_one.Goals as goal

pub returns-then-i-eq0 : goal.returns-then-i-eq0
returns-then-i-eq0 g c =
    let t = g.F.Field.meaning c.args.self.now.field.now in let J = g.J.Joiner.pairs c.args.self.now.joiner.now in
    let top = c.args.self.now.ceiling in let s = c.args.self.now.scratch in let last = c.args.last in let i = c.args.i in let area = c.args.area.now in
    let F = from_on t.order s area in let B = from_on t.order (s + 16) area in
    let W = turned_wrote t c.negated-o.result (s + 15 + last) c.args.k area c.turn.new.area (omega arith) c.turn.ensures in
    let z : s + 15 + last ≡ s + 16 + (last - 1) = omega arith in
    record {
      pairs = sym (pair_first J t top F B last i c.if-i-eq0.true);
      area = wrote_as _ _ _ _ _ _ W (ap₂ (gathered t) c.negated-o.ensures.is (ap (λ y. block t.order y area) z ∙ sym (around_first J t top F B last i c.if-i-eq0.true)));
    }

pub returns-then-i-last : goal.returns-then-i-last
returns-then-i-last g c =
    let t = g.F.Field.meaning c.args.self.now.field.now in let J = g.J.Joiner.pairs c.args.self.now.joiner.now in
    let top = c.args.self.now.ceiling in let s = c.args.self.now.scratch in let last = c.args.last in let i = c.args.i in let area = c.args.area.now in
    let F = from_on t.order s area in let B = from_on t.order (s + 16) area in
    let W = turned_wrote t c.negated-o.result (s + last - 1) c.args.k area c.turn-then-i-last.new.area (omega arith) c.turn-then-i-last.ensures in
    let z : s + last - 1 ≡ s + (last - 1) = omega arith in
    record {
      pairs = sym (pair_last J t top F B last i c.if-i-eq0.false c.if-i-last.true);
      area = wrote_as _ _ _ _ _ _ W (ap₂ (gathered t) c.negated-o.ensures.is (ap (λ y. block t.order y area) z ∙ sym (around_last J t top F B last i c.if-i-eq0.false c.if-i-last.true)));
    }

pub step-pairs-requires : goal.step-pairs-requires
step-pairs-requires g c =
    let t = g.F.Field.meaning c.args.self.now.field.now in
    let top = c.args.self.now.ceiling in let s = c.args.self.now.scratch in let last = c.args.last in let i = c.args.i in let area = c.args.area.now in
    let x : s + i - 1 ≡ s + (i - 1) = omega arith in
    let y : s + 15 + last - i ≡ s + 16 + (last - 1 - i) = omega arith in
    record {
      i = omega arith;
      j = omega arith;
      k = omega arith;
      left = subst (λ n. Low top (block t.order n area)) (sym x) (c.requires.low (i - 1) (omega arith)).0;
      right = subst (λ n. Low top (block t.order n area)) (sym y) (c.requires.low (last - 1 - i) (omega arith)).1;
    }

pub returns : goal.returns
returns g c =
    let t = g.F.Field.meaning c.args.self.now.field.now in let J = g.J.Joiner.pairs c.args.self.now.joiner.now in
    let top = c.args.self.now.ceiling in let s = c.args.self.now.scratch in let last = c.args.last in let i = c.args.i in let k = c.args.k in let area = c.args.area.now in
    let F = from_on t.order s area in let B = from_on t.order (s + 16) area in
    let x : s + i - 1 ≡ s + (i - 1) = omega arith in
    let y : s + 15 + last - i ≡ s + 16 + (last - 1 - i) = omega arith in
    let n : s + 36 ≤ blocks t.order c.step-pairs.new.area = same_blocks t.order area c.step-pairs.new.area c.step-pairs.auto.area (s + 36) c.requires.room.0 in
    let V = stepped_wrote t (s + i - 1) (s + 15 + last - i) k area c.step-pairs.new.area (omega arith) c.step-pairs.ensures.area in
    let W = turned_wrote t c.negated-o.result k k c.step-pairs.new.area c.turn-2.new.area (omega arith) c.turn-2.ensures in
    let l = ap (λ z. block t.order z area) x in
    let r = ap (λ z. block t.order z area) y in
    record {
      pairs = c.step-pairs.ensures.pairs ∙ ap₂ (J t.order top) l r ∙ sym (pair_between J t top F B last i c.if-i-eq0.false c.if-i-last.false);
      area = wrote_as _ _ _ _ _ _ (wrote_again _ _ _ _ _ _ _ V W) (ap₂ (gathered t) c.negated-o.ensures.is (V.here ∙ ap₂ (joined t) l r ∙ sym (around_between J t top F B last i c.if-i-eq0.false c.if-i-last.false)));
    }
