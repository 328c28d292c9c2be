use Rattle.std.proofs.Common.{◌≡◌, ◌*◌, length, replicate, sym, refl, ap₂, ◌∙◌, subst, arith}
use Rattle.std.specs.List.{range_with_len}
use Rattle.joiner.specs.Joined.{joined_of, IsJoin}
use Rattle.joiner.specs.Loops.{combined}
use Rattle.joiner.proofs.Combining.{whole}
use Rattle.joiner.proofs.Granted.{granted}
use Rattle.joiner.proofs.Joining.{joined_is}
use Rattle.joiner.proofs.Rows.{all_long, below_all, pairs_are}
use Rattle.joiner.proofs.full.join_whole.Goals as goal

pub invariant_of-lefts : goal.invariant_of-lefts
invariant_of-lefts g c =
    let o = c.args.operands.now in let q = (g.F.Field.meaning o.field.now).order in
    record { few = omega (arith, (granted q o.ceiling o.left.now o.right.now q o.admitted).left_long, (g.met.F.Field.lawful o.field.now).high) }

pub invariant_of-rights : goal.invariant_of-rights
invariant_of-rights g c =
    let o = c.args.operands.now in let q = (g.F.Field.meaning o.field.now).order in
    record { few = omega (arith, (granted q o.ceiling o.left.now o.right.now q o.admitted).right_long, (g.met.F.Field.lawful o.field.now).high) }

pub combine-requires-clause-lefts : goal.combine-requires-clause-lefts
combine-requires-clause-lefts g c =
    let o = c.args.operands.now in let q = (g.F.Field.meaning o.field.now).order in
    below_all q o.left.now (granted q o.ceiling o.left.now o.right.now q o.admitted).left_long (g.met.F.Field.lawful o.field.now).high

pub combine-requires-clause-rights : goal.combine-requires-clause-rights
combine-requires-clause-rights g c =
    let o = c.args.operands.now in let q = (g.F.Field.meaning o.field.now).order in
    below_all q o.right.now (granted q o.ceiling o.left.now o.right.now q o.admitted).right_long (g.met.F.Field.lawful o.field.now).high

pub returns : goal.returns
returns g c =
    let o = c.args.operands.now in let t = g.F.Field.meaning o.field.now in let q = t.order in
    let laws = g.met.F.Field.lawful o.field.now in
    let l = o.left.now in let r = o.right.now in let n = length c.args.joined.now in
    let G = granted q o.ceiling l r q o.admitted in
    let codes = range_with_len 0 q in
    let wrote : c.combine.new.joined ≡ joined_of t l r =
    whole t laws o.ceiling l r G.left_low G.right_low (replicate n o.ceiling) c.combine.new.joined n c.requires refl
    (c.combine.ensures.joined ∙ pairs_are t l r (range_with_len 0 (length l)) (range_with_len 0 (length r)) (replicate n o.ceiling)
    ∙ ap₂ (λ x y. combined t l r (range_with_len 0 x) (range_with_len 0 y) (replicate n o.ceiling)) G.left_long G.right_long) in
    record {
      count = c.combine.ensures.count ∙ ap₂ ◌*◌ (all_long l (length l) ∙ G.left_long) (all_long r (length r) ∙ G.right_long);
      joined = wrote;
      law = subst (IsJoin t l r) (sym wrote) (joined_is t l r laws);
    }
