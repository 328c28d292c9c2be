use Rattle.std.proofs.Common.{◌≡◌, ℕ, length, get_or, replicate, ap, ◌∙◌, rules, arith}
use Rattle.std.proofs.lemmas.Slice.{overwrites}
use Rattle.std.proofs.lemmas.List.{get_or-replicate}
use Rattle.frame.specs.Blocks.{block, put}
use Rattle.frame.specs.Columns.{lowered}
use Rattle.frame.proofs.Written.{room, length_block, part_is}
use Rattle.frame.proofs.Summed.{lowered_from}
use Rattle.frame.proofs.costs.reduce_block.Goals as goal

pub returns : goal.returns
unfolding put
returns c =
    let q = c.args.sizes.q in let j = c.args.j in let area = c.args.area.now in
    let p = part_is q j area in
    let long = ap length p ∙ length_block q j area (room q j (length area) c.requires.j) in
    let e : c.reduce.new.values ≡ lowered q 65535 (block q j area) (replicate {A = ℕ} q 0) = c.reduce.ensures
    ∙ lowered_from q 65535 (block q j area) (replicate {A = ℕ} q 0) _ (omega arith) long (λ a h. let z : get_or (replicate {A = ℕ} q 0) a 0 ≡ 0 = get_or-replicate q a 0 0 h in omega (arith, ap (λ v. get_or v a 0) p)) in
    search (rules, overwrites)
