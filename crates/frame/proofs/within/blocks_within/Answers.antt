use Rattle.std.proofs.Common.{ℕ, ◌+◌, ◌*◌, Bool, leb, get_or, refl, ◌∙◌, arith, rules, tests}
use Rattle.std.proofs.lemmas.Iterator.{YieldsList-from_range}
use Rattle.std.proofs.lemmas.Iterator.Search.{all_from_yields_List}
use Rattle.tree.specs.Over.{every}
use Rattle.frame.proofs.Scans.{all_from}
use Rattle.frame.proofs.within.blocks_within.Goals as goal

pub returns : goal.returns
returns c =
    let q = c.args.q in let s = c.args.s in let n = c.args.n in let area = c.args.area.now in let top = c.args.ceiling in
    let low : ℕ → Bool = λ j. every q (λ a. leb (get_or area (j * q + a) 0) top) in
    all_from_yields_List low _ _ c.all.result c.all.ensures.ran (YieldsList-from_range s (s + n) n refl (omega arith)) (λ x b k e. search (rules, tests))
    ∙ all_from low s n
