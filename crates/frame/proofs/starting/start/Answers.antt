use Rattle.std.proofs.Common.{◌≡◌, ℕ, ◌+◌, ◌<◌, ◌≤◌, cond, length, Some, None, sym, refl, ap, ◌∙◌, subst, arith}
use Rattle.code.proofs.Lawfully.{rules_of}
use Rattle.code.specs.Views.{view}
use Rattle.tree.specs.Frame.{starts, running, slip_given, granted, grants, outcome, numbers_of}
use Rattle.frame.specs.Slips.{loading_of}
use Rattle.frame.proofs.Wants.{area_granted, area_err, before_ok}
use Rattle.field.specs.Tables.{Tables}
use Rattle.frame.specs.Blocks.{block, blocks, Filled}
use Rattle.frame.specs.Columns.{column_at}
use Rattle.tree.proofs.Facts.{facts}
use Rattle.frame.proofs.Turns.{same_blocks}
use Rattle.frame.proofs.Passed.{start_passed, started_held, started_surplus, room_blocks}
use Rattle.frame.proofs.starting.start.Goals as goal

any : Tables
any = record { order = 0; sum = λ a b. 0; product = λ a b. 0 }

pub returns-in_err-map_err-clause-area : goal.returns-in_err-map_err-clause-area
returns-in_err-map_err-clause-area c = λ F. area_err F (view c.args.code.now) _ _ c.args.area.now _ _ _ _ (c.grant.ensures F) c.map_err.ensures.variant c.in_err-map_err.was

pub invariant_of-sizes : goal.invariant_of-sizes
invariant_of-sizes c =
    let K = view c.args.code.now in let R = rules_of _ _ _ c.args.code.now.admitted in
    let p = start_passed any K c.args.area.now _ _ (before_ok any K _ _ _ _ _ _ _ (c.grant.ensures any) c.map_err.ensures.variant c.in_ok-map_err.was) in
    record { fits = (subst (λ n. 1 ≤ n.order) (sym p.0) (omega (arith, R.header.order.0)), (subst (λ n. n.order ≤ 64) (sym p.0) R.header.order.1, subst (λ n. n.columns ≤ 256) (sym p.0) R.header.columns.1)) }

pub begin-requires : goal.begin-requires
begin-requires c =
    let K = view c.args.code.now in let R = rules_of _ _ _ c.args.code.now.admitted in
    let before = c.args.area.now in
    let p = start_passed any K before _ _ (before_ok any K _ _ _ _ _ _ _ (c.grant.ensures any) c.map_err.ensures.variant c.in_ok-map_err.was) in
    let b = room_blocks K R before before p.1 refl in
    let r : K.header.columns + K.header.columns ≤ blocks K.header.order before = omega arith in
    subst (λ n. n.columns + n.columns ≤ blocks n.order before) (sym p.0) r

pub to_checks-requires : goal.to_checks-requires
to_checks-requires c =
    let K = view c.args.code.now in let R = rules_of _ _ _ c.args.code.now.admitted in
    let before = c.args.area.now in let middle = c.begin.new.area in
    let p = start_passed any K before _ _ (before_ok any K _ _ _ _ _ _ _ (c.grant.ensures any) c.map_err.ensures.variant c.in_ok-map_err.was) in
    let e = sym c.edges.ensures.answer in
    let b = same_blocks K.header.order before middle c.begin.auto.area (K.header.columns + K.header.columns + length K.edges) (room_blocks K R before before p.1 refl) in
    let r : c.args.slip.numbers.columns + c.args.slip.numbers.columns + length K.edges ≤ blocks c.args.slip.numbers.order middle = subst (λ n. n.columns + n.columns + length K.edges ≤ blocks n.order middle) (sym p.0) b in
    record {
      room = (subst (λ E. c.args.slip.numbers.columns + c.args.slip.numbers.columns + length E ≤ blocks c.args.slip.numbers.order middle) e r, subst (λ E. length E ≤ 1024) e R.few_edges);
      edges = subst (λ E. (x : ℕ) → x < length E → column_at E x < c.args.slip.numbers.columns) e (subst (λ n. (x : ℕ) → x < length K.edges → column_at K.edges x < n.columns) (sym p.0) (facts K R).column_below);
    }

pub returns : goal.returns
returns c =
    let K = view c.args.code.now in let R = rules_of _ _ _ c.args.code.now.admitted in
    let before = c.args.area.now in let middle = c.begin.new.area in let after = c.to_checks.new.area in
    let p = start_passed any K before _ _ (before_ok any K _ _ _ _ _ _ _ (c.grant.ensures any) c.map_err.ensures.variant c.in_ok-map_err.was) in
    let e = c.edges.ensures.answer in
    let S1 : Filled K.header.order K.header.columns K.header.columns (λ x. block K.header.order x before) before middle =
    subst (λ n. Filled n.order n.columns n.columns (λ x. block n.order x before) before middle) p.0 c.begin.ensures in
    let S2 : Filled K.header.order (K.header.columns + K.header.columns) (length K.edges) (λ x. block K.header.order (column_at K.edges x) middle) middle after =
    subst (λ n. Filled n.order (n.columns + n.columns) (length K.edges) (λ x. block n.order (column_at K.edges x) middle) middle after) p.0
    (subst (λ E. Filled c.args.slip.numbers.order (c.args.slip.numbers.columns + c.args.slip.numbers.columns) (length E) (λ x. block c.args.slip.numbers.order (column_at E x) middle) middle after) e c.to_checks.ensures) in
    let long = c.to_checks.auto.area ∙ c.begin.auto.area in
    let o : (F : Tables) → outcome F K starts before (loading_of c.args.slip) ≡ granted (slip_given (running (numbers_of K) 0)) =
    λ F. before_ok F K _ _ _ _ _ _ _ (c.grant.ensures F) c.map_err.ensures.variant c.in_ok-map_err.was in
    record {
      answer = λ F. ap (λ s. granted (slip_given s)) c.begun.ensures ∙ ap (λ n. granted (slip_given (running n 0))) p.0 ∙ sym (o F);
      back = λ F. sym (ap (λ o. cond (grants o) None (Some (loading_of c.args.slip))) (o F));
      area = λ F. area_granted F K starts _ before after _ (o F) (started_held K R before after p.1 long F middle S1 S2) (started_surplus K R before after p.1 long F middle S1 S2);
    }
