use Rattle.tree.proofs.decoding_stands.Goals as goal
use Rattle.tree.proofs.Decodings.{decoding_theorem}

pub returns : goal.returns
returns c = record { law = decoding_theorem }
