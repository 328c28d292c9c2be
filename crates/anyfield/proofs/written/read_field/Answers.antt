use Rattle.std.proofs.Common.{length, sym, ap, ◌∙◌, arith}
use Rattle.std.proofs.lemmas.Result.{err_from_is_err_and}
use Rattle.std.specs.Option.{option_map}
use Rattle.notation.specs.Pieces.{pieces_of}
use Rattle.anyfield.specs.Written.{base_from, raises, whole}
use Rattle.anyfield.proofs.Raised.{pieces_few, raises_fault, read_by}
use Rattle.anyfield.proofs.written.read_field.Goals as goal

pub towers_in_front-towers-requires : goal.towers_in_front-towers-requires
towers_in_front-towers-requires c = omega (arith, ap length c.new-parts.ensures, pieces_few 58 c.args.text.now)

pub returns-in_err-base : goal.returns-in_err-base
returns-in_err-base c =
    let p = err_from_is_err_and c.from_residual.result c.from_residual.ensures.1 in
    let n = c.towers_in_front-towers.result.0 in
    let ps = pieces_of c.towers_in_front-towers.new.parts in
    record {
      answer = rw (p.1, p.2)
          (sym (ap whole (raises_fault n _))
          ∙ ap (λ x. whole (raises n x)) c.in_err-base.ensures
          ∙ read_by c.args.text.now (pieces_of c.new-parts.result) n (base_from (option_map (λ x. x.now) c.towers_in_front-towers.result.1) ps) c.new-parts.ensures c.towers_in_front-towers.ensures);
    }
