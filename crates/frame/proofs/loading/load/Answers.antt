use Rattle.std.proofs.Common.{◌+◌, ◌*◌, ◌≤◌, length, sym, subst, arith}
use Rattle.code.proofs.Lawfully.{rules_of}
use Rattle.code.specs.Views.{view}
use Rattle.frame.proofs.Wants.{area_refused, area_granted}
use Rattle.field.specs.Tables.{Tables}
use Rattle.frame.specs.Words.{Written, store_at}
use Rattle.frame.proofs.Scans.{block_room}
use Rattle.frame.proofs.Passed.{load_passed, loaded_held, loaded_surplus}
use Rattle.frame.proofs.loading.load.Goals as goal

any : Tables
any = record { order = 0; sum = λ a b. 0; product = λ a b. 0 }

pub returns-in_err-grant-clause-area : goal.returns-in_err-grant-clause-area
returns-in_err-grant-clause-area c = λ F. area_refused F (view c.args.code.now) _ _ c.args.area.now _ (c.in_err-grant.ensures F)

pub store-requires : goal.store-requires
store-requires c =
    let K = view c.args.code.now in let R = rules_of _ _ _ c.args.code.now.admitted in
    let p = load_passed any K c.args.area.now _ c.args.column c.args.values.now _ (c.in_ok-grant.ensures any) in
    let b = block_room c.args.column (2 * K.header.columns + 2 * length K.edges + 36) K.header.order (length c.args.area.now) (omega (arith, p.column)) p.room in
    let r : c.args.column * K.header.order + length c.args.values.now ≤ length c.args.area.now = omega (arith, p.long) in
    (omega (arith, p.long, R.header.order.0), subst (λ h. c.args.column * h.order + length c.args.values.now ≤ length c.args.area.now) (sym c.header-header.ensures.answer) r)

pub returns : goal.returns
returns c =
    let K = view c.args.code.now in let R = rules_of _ _ _ c.args.code.now.admitted in
    let before = c.args.area.now in let after = c.store.new.area in
    let column = c.args.column in let values = c.args.values.now in
    let p = load_passed any K before _ column values _ (c.in_ok-grant.ensures any) in
    let Z : Written (column * K.header.order) (column * K.header.order + length values) (store_at values K.header.ceiling) before after =
    subst (λ h. Written (column * h.order) (column * h.order + length values) (store_at values h.ceiling) before after) c.header-header.ensures.answer c.store.ensures in
    record {
      answer = λ F. sym (c.in_ok-grant.ensures F);
      area = λ F. area_granted F K _ _ before after _ (c.in_ok-grant.ensures F) (loaded_held K R before after p.room c.store.auto.area F column values p.column p.long Z) (loaded_surplus K R before after p.room c.store.auto.area F column values p.column p.long Z);
    }
