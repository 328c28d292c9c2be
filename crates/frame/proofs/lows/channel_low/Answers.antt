use Rattle.std.proofs.Common.{◌+◌, ◌*◌, ◌≤◌, length, sym, ap, ◌∙◌, subst, arith}
use Rattle.std.proofs.lemmas.Nat.{mul-le}
use Rattle.code.proofs.Lawfully.{rules_of}
use Rattle.code.specs.Views.{view}
use Rattle.frame.specs.Words.{low_blocks}
use Rattle.frame.proofs.Wants.{channel_within}
use Rattle.frame.proofs.lows.channel_low.Goals as goal

pub blocks_within-requires : goal.blocks_within-requires
blocks_within-requires c =
    let R = rules_of _ _ _ c.args.code.now.admitted in
    let K = view c.args.code.now in
    let e = sym c.header-header.ensures.answer in
    let m = mul-le (0 + K.header.columns) K.header.order (2 * K.header.columns + 2 * length K.edges + 36) K.header.order (omega arith) (omega arith) in
    let r : (0 + K.header.columns) * K.header.order ≤ length c.args.area.now = omega (arith, c.requires) in
    record {
      q = (subst (λ h. h.order ≤ 64) e R.header.order.1, (omega arith, subst (λ h. h.columns ≤ 4096) e (omega (arith, R.header.columns.1))));
      room = subst (λ h. (0 + h.columns) * h.order ≤ length c.args.area.now) e r;
    }

pub returns : goal.returns
returns c =
    c.blocks_within.ensures ∙ ap (λ h. low_blocks h.order 0 h.columns h.ceiling c.args.area.now) c.header-header.ensures.answer ∙ channel_within (view c.args.code.now) c.args.area.now
