use Rattle.std.proofs.Common.{◌≡◌, true, sym, ap, ◌∙◌, arith}
use Rattle.field.specs.Tables.{Tables}
use Rattle.field.specs.Grids.{grid}
use Rattle.tower.specs.Towers.{parts_for}
use Rattle.tower.specs.Made.{parts_of}
use Rattle.tower.specs.declared.base.pairs.Pairs.{Pairs}
use Rattle.tower.specs.declared.extension.Tower.{Tower}
use Rattle.tower.specs.Refusal.{too_big, root_is}
use Rattle.tower.proofs.Only.{one_tower}
use Rattle.tower.proofs.Made.{refused, root_of_copy, made}
use Rattle.tower.proofs.extension.make.make_tower.Goals as goal

parts_are : (t : Tables) (f : Tower) (p : Pairs) → f.pairs ≡ p
    → p.base.r ≡ t.order → p.base.sums ≡ grid 8 t.order t.sum → p.base.products ≡ grid 8 t.order t.product → parts_of f ≡ parts_for t p.u p.v
parts_are t f p e er es ep =
    let r : f.pairs.base.r ≡ t.order = ap (λ (x : Pairs). x.base.r) e ∙ er in
    let s : f.pairs.base.sums ≡ grid 8 t.order t.sum = ap (λ (x : Pairs). x.base.sums) e ∙ es in
    let o : f.pairs.base.products ≡ grid 8 t.order t.product = ap (λ (x : Pairs). x.base.products) e ∙ ep in
    λ i. record { r = r i; u = (e i).u; v = (e i).v; sums = s i; products = o i }

pub returns-then-r-gt8 : goal.returns-then-r-gt8
returns-then-r-gt8 g c =
    let t = g.F.Field.meaning c.args.base.now in
    let w = refused t c.args.u c.args.v 1 (parts_of c.args.tower.now) (omega arith) (too_big t c.args.u c.args.v (omega arith)) in
    record { answer = w.answer; tower = w.tower; agrees = w.agrees; law = w.law; only = one_tower }

pub returns-then-u-r-clause-only : goal.returns-then-u-r-clause-only
returns-then-u-r-clause-only g c = one_tower

pub returns-then-has_root : goal.returns-then-has_root
returns-then-has_root g c =
    let t = g.F.Field.meaning c.args.base.now in
    let l = g.met.F.Field.lawful c.args.base.now in
    let b = c.copy.result in
    let h = root_of_copy t c.args.u c.args.v b.r b.sums b.products c.copy.ensures.order c.copy.ensures.sums c.copy.ensures.products (omega arith) l (omega arith) (omega arith) in
    let e = root_is t c.args.u c.args.v (omega arith) true (omega arith) (omega arith) (sym h ∙ sym c.if-has_root.ensures) in
    let w = refused t c.args.u c.args.v 6 (parts_of c.args.tower.now) (omega arith) e in
    record { answer = w.answer; tower = w.tower; agrees = w.agrees; law = w.law; only = one_tower }

pub returns : goal.returns
returns g c =
    let t = g.F.Field.meaning c.args.base.now in
    let l = g.met.F.Field.lawful c.args.base.now in
    let b = c.copy.result in
    let h = root_of_copy t c.args.u c.args.v b.r b.sums b.products c.copy.ensures.order c.copy.ensures.sums c.copy.ensures.products (omega arith) l (omega arith) (omega arith) in
    let p = parts_are t c.raise.result _ c.raise.ensures c.copy.ensures.order c.copy.ensures.sums c.copy.ensures.products in
    let w = made t c.args.u c.args.v (parts_of c.args.tower.now) (parts_of c.raise.result) l (omega arith) (omega arith) (omega arith) (sym h ∙ sym c.if-has_root.ensures) p in
    record { answer = w.answer; tower = w.tower; agrees = w.agrees; law = w.law; only = one_tower }
