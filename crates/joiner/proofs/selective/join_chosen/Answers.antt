use Rattle.std.proofs.Common.{◌≡◌, ◌*◌, length, replicate, sym, refl, ap, ap₂, ◌∙◌, subst, arith}
use Rattle.joiner.specs.Joined.{joined_of, IsJoin}
use Rattle.joiner.specs.Level.{is_chosen, chosen, level_of, selective_pairs}
use Rattle.joiner.specs.Loops.{listed, entries_of, Below, pairs_of}
use Rattle.joiner.proofs.Granted.{granted}
use Rattle.joiner.proofs.Joining.{joined_is}
use Rattle.joiner.proofs.Rows.{below_chosen, chosen_long, pairs_are}
use Rattle.joiner.proofs.Selecting.{selected}
use Rattle.joiner.proofs.selective.join_chosen.Goals as goal

pub choose-requires : goal.choose-requires
choose-requires g c =
    let o = c.args.operands.now in let q = (g.F.Field.meaning o.field.now).order in
    omega (arith, (granted q o.ceiling o.left.now o.right.now q o.admitted).left_long, (g.met.F.Field.lawful o.field.now).high)

pub choose-requires-2 : goal.choose-requires-2
choose-requires-2 g c =
    let o = c.args.operands.now in let q = (g.F.Field.meaning o.field.now).order in
    omega (arith, (granted q o.ceiling o.left.now o.right.now q o.admitted).right_long, (g.met.F.Field.lawful o.field.now).high)

pub combine-requires-clause-lefts : goal.combine-requires-clause-lefts
combine-requires-clause-lefts g c =
    let o = c.args.operands.now in let q = (g.F.Field.meaning o.field.now).order in
    subst (Below q) (sym c.choose.ensures)
    (below_chosen q o.left.now c.level_of-level.result (granted q o.ceiling o.left.now o.right.now q o.admitted).left_long (g.met.F.Field.lawful o.field.now).high)

pub combine-requires-clause-rights : goal.combine-requires-clause-rights
combine-requires-clause-rights g c =
    let o = c.args.operands.now in let q = (g.F.Field.meaning o.field.now).order in
    subst (Below q) (sym c.choose-2.ensures)
    (below_chosen q o.right.now c.level_of-level.result (granted q o.ceiling o.left.now o.right.now q o.admitted).right_long (g.met.F.Field.lawful o.field.now).high)

pub returns : goal.returns
unfolding selective_pairs
returns g c =
    let o = c.args.operands.now in let t = g.F.Field.meaning o.field.now in let q = t.order in
    let laws = g.met.F.Field.lawful o.field.now in
    let l = o.left.now in let r = o.right.now in let n = length c.args.joined.now in let top = o.ceiling in
    let G = granted q top l r q o.admitted in
    let level = c.level_of-level.result in
    let e : level ≡ level_of q top l r = c.level_of-level.ensures.answer in
    let wrote : c.combine.new.joined ≡ joined_of t l r =
    selected t laws top level l r (replicate n top) c.combine.new.joined n G.low G.left_low G.right_low c.requires e refl
    (c.combine.ensures.joined ∙ ap₂ (λ x y. pairs_of t x y (replicate n top)) (c.choose.ensures ∙ ap (λ m. entries_of l (listed (is_chosen l level) m)) G.left_long) (c.choose-2.ensures ∙ ap (λ m. entries_of r (listed (is_chosen r level) m)) G.right_long)
    ∙ pairs_are t l r (listed (is_chosen l level) q) (listed (is_chosen r level) q) (replicate n top)) in
    record {
      count =
          c.combine.ensures.count
          ∙ ap₂ ◌*◌ (ap length c.choose.ensures ∙ chosen_long q l level G.left_long) (ap length c.choose-2.ensures ∙ chosen_long q r level G.right_long)
          ∙ ap (λ v. chosen q l v * chosen q r v) e;
      joined = wrote;
      law = subst (IsJoin t l r) (sym wrote) (joined_is t l r laws);
    }
