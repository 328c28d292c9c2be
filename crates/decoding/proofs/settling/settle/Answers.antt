use Rattle.std.proofs.Common.{◌≡◌, suc, cond, Some, Err, sym, refl, ap, ◌∙◌, subst, rules, arith}
use Rattle.std.proofs.lemmas.Result.{err_from_is_err_and}
use Rattle.code.proofs.Lawfully.{rules_of}
use Rattle.code.specs.Views.{view}
use Rattle.due.specs.Numbers.{numbers_in}
use Rattle.due.specs.Refusals.{number_of}
use Rattle.tree.specs.Frame.{Outcome, running, rounds, round_told, granted, refused, grants, outcome, next_slip}
use Rattle.frame.specs.Slips.{running_of, rounded}
use Rattle.decoding.specs.Ends.{frame_of, Settled}
use Rattle.tree.proofs.Decodings.{round_passed}
use Rattle.decoding.proofs.Reaching.{first, carried, again, settled_whole, settled_refused, before_ok, before_err}
use Rattle.decoding.proofs.settling.settle.Goals as goal

pub loop-told-init : goal.loop-told-init
loop-told-init g c =
    let s = c.args.slip.now in
    first (g.F.Field.meaning c.args.field.now) (view c.args.code.now) (g.J.Joiner.pairs c.args.joiner.now) (frame_of c.args.area.now s)
    c.args.area.now (numbers_in s.numbers) s.made refl c.requires

pub returns-in_err-told : goal.returns-in_err-told
returns-in_err-told g c =
    let F = g.F.Field.meaning c.args.field.now in let J = g.J.Joiner.pairs c.args.joiner.now in let K = view c.args.code.now in
    let s = c.loop-told.slip in let stop = c.in_err-told.field-0.0 in
    let p = err_from_is_err_and c.from_residual.result c.from_residual.ensures.1 in
    let q = before_err _ _ _ stop c.map_err.ensures.cases c.in_err-told.was in
    let o : outcome F K (rounds J) c.loop-told.area (running_of s) ≡ refused (number_of q.0) = sym c.round.ensures.answer ∙ ap rounded q.1 in
    let is : stop ≡ record { refusal = q.0; failing = c.loop-told.failing } = let h = q.2 in search rules in
    let end : c.from_residual.result ≡ Err (record { refusal = q.0; failing = c.loop-told.failing }) = p.1 ∙ ap Err (p.2 ∙ is) in
    subst (λ e. Settled F K J (frame_of c.args.area.now c.args.slip.now) c.round.new.area (running_of c.round.new.slip) e) (sym end)
    (settled_refused F K (rules_of _ _ _ c.args.code.now.admitted) J (frame_of c.args.area.now c.args.slip.now)
    c.loop-told.area c.round.new.area (numbers_in s.numbers) s.made c.loop-told.failing (running_of c.round.new.slip) q.0 c.loop-told.invariant o
    (c.round.ensures.area.kept (ap grants o))
    (c.round.ensures.slip ∙ ap (λ (x : Outcome). cond (grants x) (next_slip K (rounds J) (running_of s)) (running_of s)) o)
    (λ i. (c.type_inv.area i).fits))

pub returns-then-none_fails : goal.returns-then-none_fails
unfolding next_slip
returns-then-none_fails g c =
    let F = g.F.Field.meaning c.args.field.now in let J = g.J.Joiner.pairs c.args.joiner.now in let K = view c.args.code.now in
    let s = c.loop-told.slip in let t = c.in_ok-told.told in
    let o : outcome F K (rounds J) c.loop-told.area (running_of s) ≡ granted (round_told t.rounds t.failing t.pairs) =
    sym c.round.ensures.answer ∙ ap rounded (before_ok _ _ _ _ c.map_err.ensures.cases c.in_ok-told.was) in
    settled_whole F K (rules_of _ _ _ c.args.code.now.admitted) J (frame_of c.args.area.now c.args.slip.now)
    c.loop-told.area c.round.new.area (numbers_in s.numbers) s.made t.rounds t.failing t.pairs c.loop-told.failing (running_of c.round.new.slip) c.loop-told.invariant o
    c.round.ensures.area c.round.auto.area
    (c.round.ensures.slip ∙ ap (λ (x : Outcome). cond (grants x) (next_slip K (rounds J) (running_of s)) (running_of s)) o)
    (λ i. (c.type_inv.area i).fits)
    (sym c.none_fails.ensures ∙ c.if-none_fails.true)

pub loop-told-smaller : goal.loop-told-smaller
unfolding next_slip
loop-told-smaller g c =
    let F = g.F.Field.meaning c.args.field.now in let J = g.J.Joiner.pairs c.args.joiner.now in let K = view c.args.code.now in
    let s = c.loop-told.slip in let t = c.in_ok-told.told in
    let o : outcome F K (rounds J) c.loop-told.area (running_of s) ≡ granted (round_told t.rounds t.failing t.pairs) =
    sym c.round.ensures.answer ∙ ap rounded (before_ok _ _ _ _ c.map_err.ensures.cases c.in_ok-told.was) in
    let e : running_of c.round.new.slip ≡ running (numbers_in s.numbers) (suc s.made) =
    c.round.ensures.slip ∙ ap (λ (x : Outcome). cond (grants x) (next_slip K (rounds J) (running_of s)) (running_of s)) o in
    let more : c.round.new.slip.made ≡ suc s.made = cc in
    let p = round_passed F K J c.loop-told.area (numbers_in s.numbers) s.made (ap grants o) in
    omega (arith, p.left, more)

pub loop-told-preserved : goal.loop-told-preserved
unfolding next_slip
loop-told-preserved g c =
    let F = g.F.Field.meaning c.args.field.now in let J = g.J.Joiner.pairs c.args.joiner.now in let K = view c.args.code.now in
    let f = frame_of c.args.area.now c.args.slip.now in
    let s = c.loop-told.slip in let t = c.in_ok-told.told in let q = c.round.new.slip in
    let o : outcome F K (rounds J) c.loop-told.area (running_of s) ≡ granted (round_told t.rounds t.failing t.pairs) =
    sym c.round.ensures.answer ∙ ap rounded (before_ok _ _ _ _ c.map_err.ensures.cases c.in_ok-told.was) in
    let e : running_of q ≡ running (numbers_in s.numbers) (suc s.made) =
    c.round.ensures.slip ∙ ap (λ (x : Outcome). cond (grants x) (next_slip K (rounds J) (running_of s)) (running_of s)) o in
    carried F K J f c.round.new.area (numbers_in s.numbers) (numbers_in q.numbers) (suc s.made) q.made (Some t.failing) (sym e)
    (again F K (rules_of _ _ _ c.args.code.now.admitted) J f
    c.loop-told.area c.round.new.area (numbers_in s.numbers) s.made t.rounds t.failing t.pairs c.loop-told.failing c.loop-told.invariant o
    c.round.ensures.area c.round.auto.area (sym c.none_fails.ensures ∙ c.if-none_fails.false))
