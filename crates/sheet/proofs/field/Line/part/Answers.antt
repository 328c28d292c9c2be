use Rattle.std.proofs.Common.{◌+◌, ap, ◌∙◌}
use Rattle.std.proofs.lemmas.List.{take_rest}
use Rattle.sheet.specs.Words.{word_of, Word, Cell}
use Rattle.sheet.proofs.Splits.{front}
use Rattle.sheet.proofs.field.Line.part.Goals as goal

pub returns : goal.returns
returns c =
    let e = c.token.ensures ∙ ap word_of (front 9 _ _ _ (take_rest c.args.self.bytes.now c.args.from) c.until-n.ensures.value) in
    ap (λ (w : Word). let p : Cell = record { word = w; line = c.args.self.place.line; byte = c.args.self.place.byte + c.args.from } in p) e
