use Rattle.std.proofs.Common.{◌+◌, ◌∙◌, arith}
use Rattle.tree.proofs.Rows.{tabled_is}
use Rattle.frame.specs.Words.{symbol_at}
use Rattle.frame.proofs.Scans.{block_lowest, set_below}
use Rattle.frame.proofs.decide.decide.Goals as goal

pub loop-c-preserved : goal.loop-c-preserved
loop-c-preserved c =
    let n = c.args.sizes.n in let q = c.args.sizes.q in let x = c.loop-c.c in let area = c.args.area.now in
    set_below x _ c.loop-c.word (symbol_at q n area) (omega arith) c.loop-c.invariant
    (c.lowest.ensures.is ∙ block_lowest area _ q (n + x) c.block_at.ensures.is c.block_at.ensures.long (omega arith))

pub returns : goal.returns
returns c = tabled_is c.args.sizes.n (symbol_at c.args.sizes.q c.args.sizes.n c.args.area.now) c.loop-c.word (c.loop-c.auto.word ∙ c.requires.room.1) (λ a h. c.loop-c.invariant a (omega arith))
