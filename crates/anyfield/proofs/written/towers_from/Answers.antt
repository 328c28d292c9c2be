use Rattle.std.proofs.Common.{◌≡◌, ◌+◌, ◌-◌, Ok, sym, ap, ◌∙◌, arith}
use Rattle.std.proofs.lemmas.Result.{err_from_is_err_and}
use Rattle.notation.specs.Pieces.{pieces_of}
use Rattle.anyfield.specs.Fields.{made_of}
use Rattle.anyfield.specs.Written.{raises}
use Rattle.anyfield.proofs.Raised.{raises_fault, raises_none, raises_less}
use Rattle.anyfield.proofs.written.towers_from.Goals as goal

pub returns-in_err-field : goal.returns-in_err-field
returns-in_err-field c =
    let p = err_from_is_err_and c.from_residual.result c.from_residual.ensures.1 in
    let k = c.args.towers - (c.loop-level._level + 1) in
    rw (p.1, p.2) (sym (raises_fault k _) ∙ ap (raises k) c.in_err-field.ensures ∙ sym (raises_less c.args.towers c.loop-level._level _ c.loop-level-test.true) ∙ c.loop-level.invariant)

pub loop-level-preserved : goal.loop-level-preserved
loop-level-preserved c =
    ap (raises (c.args.towers - (c.loop-level._level + 1))) c.in_ok-field.ensures ∙ sym (raises_less c.args.towers c.loop-level._level _ c.loop-level-test.true) ∙ c.loop-level.invariant

pub returns : goal.returns
returns c =
    let x = Ok (made_of c.loop-level.field, pieces_of c.loop-level.parts) in
    let z : 0 ≡ c.args.towers - c.loop-level._level = omega arith in
    sym (raises_none x) ∙ ap (λ k. raises k x) z ∙ c.loop-level.invariant
