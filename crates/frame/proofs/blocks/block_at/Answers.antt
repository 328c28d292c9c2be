use Rattle.std.proofs.Common.{◌≡◌, ◌+◌, ◌-◌, ◌*◌, length, take, drop, ap, ◌∙◌, arith}
use Rattle.frame.specs.Blocks.{block}
use Rattle.frame.proofs.Written.{length_block}
use Rattle.frame.proofs.blocks.block_at.Goals as goal

pub returns : goal.returns
unfolding block
returns c =
    let q = c.args.q in let j = c.args.j in let area = c.args.area.now in
    let span : j * q + q - j * q ≡ q = omega arith in
    let is : _ ≡ block q j area = ap (λ n. take n (drop (j * q) area)) span in
    record { is = is; long = ap length is ∙ length_block q j area c.requires }
