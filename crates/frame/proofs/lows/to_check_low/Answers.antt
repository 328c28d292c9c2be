use Rattle.std.proofs.Common.{◌≡◌, ◌+◌, ◌*◌, ◌≤◌, length, sym, ap, ◌∙◌, subst, ap₂, arith}
use Rattle.std.proofs.lemmas.Nat.{mul-le}
use Rattle.code.proofs.Lawfully.{rules_of}
use Rattle.code.specs.Views.{view}
use Rattle.frame.specs.Words.{low_blocks}
use Rattle.frame.proofs.Wants.{checks_within}
use Rattle.frame.proofs.lows.to_check_low.Goals as goal

pub blocks_within-requires : goal.blocks_within-requires
blocks_within-requires c =
    let R = rules_of _ _ _ c.args.code.now.admitted in
    let K = view c.args.code.now in
    let e = sym c.header-header.ensures.answer in
    let w : length c.edges.result.now ≡ length K.edges = ap length c.edges.ensures.answer in
    let m = mul-le (2 * K.header.columns + length K.edges) K.header.order (2 * K.header.columns + 2 * length K.edges + 36) K.header.order (omega arith) (omega arith) in
    let r : (2 * K.header.columns + length K.edges) * K.header.order ≤ length c.args.area.now = omega (arith, c.requires) in
    record {
      q = (subst (λ h. h.order ≤ 64) e R.header.order.1, (subst (λ h. 2 * h.columns ≤ 4096) e (omega (arith, R.header.columns.1)), omega (arith, R.few_edges)));
      room = subst (λ h. (2 * h.columns + length c.edges.result.now) * h.order ≤ length c.args.area.now) e (subst (λ n. (2 * K.header.columns + n) * K.header.order ≤ length c.args.area.now) (sym w) r);
    }

pub returns : goal.returns
returns c =
    let K = view c.args.code.now in
    c.blocks_within.ensures ∙ ap₂ (λ h n. low_blocks h.order (2 * h.columns) n h.ceiling c.args.area.now) c.header-header.ensures.answer (ap length c.edges.ensures.answer) ∙ checks_within K c.args.area.now
