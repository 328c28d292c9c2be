use Rattle.std.proofs.Common.{◌≡◌, sym, ◌∙◌, subst, rules}
use Rattle.code.specs.Laws.{GrantedByTheRules, RefusedAtTheFirst}
use Rattle.code.specs.Views.{verdict}
use Rattle.code.proofs.Lawfully.{answer_at, law_at, place_at}
use Rattle.code.proofs.code.admit.judged.Goals as goal

pub returns : goal.returns
returns c =
    let h = c.args.header in
    let es = c.args.edges.now in
    let ks = c.args.entries.now in
    let o = c.fault_of.result in
    let e = c.fault_of.ensures.answer in
    let told : verdict o ≡ c.map_or.result = search rules in
    record {
      answer = sym told ∙ answer_at h es ks o e;
      law = subst (GrantedByTheRules h es ks) told (law_at h es ks o e);
      place = subst (RefusedAtTheFirst h es ks) told (place_at h es ks o e);
    }
