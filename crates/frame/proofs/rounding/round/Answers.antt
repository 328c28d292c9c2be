use Rattle.std.proofs.Common.{◌≡◌, suc, ◌≤◌, min, cond, sym, ap, ◌∙◌, subst, ap₂, arith}
use Rattle.code.proofs.Lawfully.{rules_of}
use Rattle.code.specs.Views.{view}
use Rattle.tree.specs.Frame.{rounds, running, granted, grants, area_words, parts_of, next_slip, round_told, decided}
use Rattle.frame.specs.Slips.{running_of}
use Rattle.due.specs.Numbers.{numbers_in}
use Rattle.frame.proofs.Wants.{area_refused, area_granted}
use Rattle.tree.specs.Rows.{round_pairs}
use Rattle.tree.specs.Frame.{failing, next_parts}
use Rattle.tree.proofs.Words.{from_theorem}
use Rattle.frame.specs.Round.{code_of, Ready, Moved}
use Rattle.frame.proofs.Passed.{round_passed}
use Rattle.frame.proofs.Rounded.{same_failing}
use Rattle.frame.proofs.rounding.round.Goals as goal

pub returns-in_err-grant-clause-area : goal.returns-in_err-grant-clause-area
returns-in_err-grant-clause-area g c =
    let J = g.J.Joiner.pairs c.args.joiner.now in
    area_refused (g.F.Field.meaning c.args.field.now) (view c.args.code.now) (rounds J) (running_of c.args.slip.now) c.args.area.now _ (c.in_err-grant.ensures J)

pub returns-in_err-grant-clause-law : goal.returns-in_err-grant-clause-law
returns-in_err-grant-clause-law g c = from_theorem

pub body-pairs-requires : goal.body-pairs-requires
body-pairs-requires g c =
    let F = g.F.Field.meaning c.args.field.now in let J = g.J.Joiner.pairs c.args.joiner.now in let K = view c.args.code.now in
    let R = rules_of _ _ _ c.args.code.now.admitted in
    let p = round_passed F K c.args.area.now _ c.args.slip.now.made J _ (c.in_ok-grant.ensures J) in
    let r : Ready K c.args.area.now = record { admitted = R; room = p.room; channel = p.channel; to_check = p.to_check } in
    record {
      order = p.order ∙ sym (ap (λ h. h.order) c.header.ensures.answer);
      ready = subst (λ h. Ready (code_of h c.edges.result.now c.entries.result.now) c.args.area.now) (sym c.header.ensures.answer)
          (subst (λ E. Ready (code_of K.header E c.entries.result.now) c.args.area.now) (sym c.edges.ensures.answer)
          (subst (λ S. Ready (code_of K.header K.edges S) c.args.area.now) (sym c.entries.ensures.answer) r));
    }

pub failing_rows-failing-requires : goal.failing_rows-failing-requires
failing_rows-failing-requires g c =
    let F = g.F.Field.meaning c.args.field.now in let J = g.J.Joiner.pairs c.args.joiner.now in let K = view c.args.code.now in
    let p = round_passed F K c.args.area.now _ c.args.slip.now.made J _ (c.in_ok-grant.ensures J) in
    record { order = p.order; room = subst (λ n. area_words K ≤ n) (sym c.body-pairs.auto.area) p.room }

pub returns : goal.returns
unfolding next_slip
returns g c =
    let F = g.F.Field.meaning c.args.field.now in let J = g.J.Joiner.pairs c.args.joiner.now in let K = view c.args.code.now in
    let R = rules_of _ _ _ c.args.code.now.admitted in
    let s = running_of c.args.slip.now in let before = c.args.area.now in let after = c.body-pairs.new.area in
    let M : Moved F K J before after =
    subst (λ S. Moved F (code_of K.header K.edges S) J before after) c.entries.ensures.answer
    (subst (λ E. Moved F (code_of K.header E c.entries.result.now) J before after) c.edges.ensures.answer
    (subst (λ h. Moved F (code_of h c.edges.result.now c.entries.result.now) J before after) c.header.ensures.answer c.body-pairs.ensures.area)) in
    let n : c.body-pairs.result ≡ round_pairs J F K (parts_of K before).to_check =
    c.body-pairs.ensures.pairs
    ∙ ap (λ h. round_pairs J F (code_of h c.edges.result.now c.entries.result.now) (parts_of (code_of h c.edges.result.now c.entries.result.now) before).to_check) c.header.ensures.answer
    ∙ ap (λ E. round_pairs J F (code_of K.header E c.entries.result.now) (parts_of (code_of K.header E c.entries.result.now) before).to_check) c.edges.ensures.answer
    ∙ ap (λ S. round_pairs J F (code_of K.header K.edges S) (parts_of (code_of K.header K.edges S) before).to_check) c.entries.ensures.answer in
    let f : c.failing_rows-failing.result ≡ failing F K (decided K (next_parts F K (rounds J) (parts_of K before))) = c.failing_rows-failing.ensures ∙ same_failing F K R J before after M.held in
    let o = c.in_ok-grant.ensures J in
    let p = round_passed F K before _ c.args.slip.now.made J _ o in
    let few : min (suc c.args.slip.now.made) 65535 ≡ suc c.args.slip.now.made = omega (arith, p.left, R.header.limit.1) in
    let more : c.one_more-made.result ≡ suc c.args.slip.now.made = c.one_more-made.ensures ∙ few in
    record {
      answer = ap (λ t. granted (round_told t.rounds t.failing t.pairs)) c.told_of.ensures ∙ ap (λ x. granted (round_told x c.failing_rows-failing.result c.body-pairs.result)) more ∙ ap₂ (λ x y. granted (round_told (suc c.args.slip.now.made) x y)) f n ∙ sym o;
      slip = ap (running (numbers_in c.args.slip.now.numbers)) more ∙ sym (ap (λ o. cond (grants o) (next_slip K (rounds J) s) s) o);
      area = area_granted F K (rounds J) s before after _ o M.held M.surplus;
      law = from_theorem;
    }
