use Rattle.std.proofs.Common.{◌≡◌, ◌+◌, ◌-◌, ◌*◌, length, take, drop, ap, ◌∙◌, arith}
use Rattle.std.proofs.lemmas.List.{take_at}
use Rattle.frame.specs.Blocks.{block}
use Rattle.frame.proofs.Written.{length_block}
use Rattle.frame.proofs.blocks.copied.Goals as goal

pub returns : goal.returns
unfolding block
returns c =
    let q = c.args.q in let j = c.args.j in let area = c.args.area.now in
    let span : j * q + q - j * q ≡ q = omega arith in
    let is : c.copy_from_slice.new.self ≡ take q (drop (j * q) area) = c.copy_from_slice.ensures.after ∙ ap (λ n. take n (drop (j * q) area)) span in
    take_at _ _ q (ap length is ∙ length_block q j area c.requires.1) ∙ is
