use Rattle.std.proofs.Common.{ap, ◌∙◌}
use Rattle.std.specs.Option.{ok_or}
use Rattle.sheet.specs.declared.fault.SheetFault.TheVariants.{NotWritten}
use Rattle.sheet.specs.Lines.{numeral}
use Rattle.sheet.proofs.Tests.{written_or}
use Rattle.sheet.proofs.token.Part.number.Goals as goal

pub returns : goal.returns
unfolding numeral
returns c = c.ok_or.ensures.value ∙ ap (λ o. ok_or o (NotWritten c.args.self.now.place)) c.plain.ensures ∙ written_or _ _
