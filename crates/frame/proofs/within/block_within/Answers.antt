use Rattle.std.proofs.Common.{leb, ◌∙◌, ap, arith}
use Rattle.std.specs.List.{list_all}
use Rattle.frame.proofs.Scans.{block_room, low_block}
use Rattle.frame.proofs.within.block_within.Goals as goal

pub block_at-requires : goal.block_at-requires
block_at-requires c = block_room c.args.j c.args.m c.args.q _ (omega arith) c.requires.room

pub returns : goal.returns
returns c =
    let q = c.args.q in let j = c.args.j in let area = c.args.area.now in let top = c.args.ceiling in
    c.within.ensures ∙ ap (list_all (λ x. leb x top)) c.block_at.ensures.is
    ∙ low_block area q j top (block_room j c.args.m q _ (omega arith) c.requires.room)
