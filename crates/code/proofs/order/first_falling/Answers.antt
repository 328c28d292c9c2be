use Rattle.std.proofs.Common.{◌≡◌, ◌-◌, length, true, false, rules, tests, refl}
use Rattle.std.proofs.lemmas.Iterator.{first_from_Range}
use Rattle.code.specs.Admission.{after}
use Rattle.code.proofs.Searches.{Found, found_first, found_within}
use Rattle.code.proofs.order.first_falling.Goals as goal

pub returns : goal.returns
returns g c =
    let xs = c.args.items.now in
    let t = after g.T.Record.before xs in
    let found : Found t 1 (length xs) c.find.result = first_from_Range _ _ _ c.find.result (λ i. t i ≡ false) (λ i. t i ≡ true) c.find.ensures.ran (λ x q k. search (rules, tests)) (λ x q k. search (rules, tests)) in
    record { answer = found_first t 1 (length xs) (length xs - 1) c.find.result refl found; within = found_within t 1 (length xs) c.find.result found }
