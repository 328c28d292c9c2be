use Rattle.std.proofs.Common.{◌≡◌, ℕ, pred, ◌+◌, ◌-◌, ◌*◌, ◌≤◌, cond, length, get_or, take, drop, sym, ap, ◌∙◌, subst, ap₂, arith}
use Rattle.code.proofs.Lawfully.{rules_of}
use Rattle.code.specs.Views.{view}
use Rattle.tree.specs.Frame.{granted, grants, parts_of, column_told, told, decided}
use Rattle.field.specs.Tables.{Tables}
use Rattle.std.proofs.lemmas.List.Edits.{length-between}
use Rattle.tree.specs.Over.{lowest_to}
use Rattle.tree.proofs.Rows.{tabled_block}
use Rattle.frame.proofs.Scans.{block_room, part_lowest}
use Rattle.frame.proofs.Passed.{read_passed}
use Rattle.frame.proofs.reading.read.Goals as goal

any : Tables
any = record { order = 0; sum = λ a b. 0; product = λ a b. 0 }

pub slice_bounds-copy_from_slice-end : goal.slice_bounds-copy_from_slice-end
slice_bounds-copy_from_slice-end c =
    let K = view c.args.code.now in let area = c.args.area.now in
    let p = read_passed any K area _ c.args.slip.now.made c.args.column _ _ (c.in_ok-grant.ensures any) in
    let b = block_room (K.header.columns + c.args.column) (2 * K.header.columns + 2 * length K.edges + 36) K.header.order (length area) (omega (arith, p.column)) p.room in
    let r = subst (λ h. (h.columns + c.args.column) * h.order + h.order ≤ length area) (sym c.header-header.ensures.answer) b in
    omega arith

pub copy_from_slice-requires : goal.copy_from_slice-requires
copy_from_slice-requires c =
    let K = view c.args.code.now in let area = c.args.area.now in let h = c.header-header.result in
    let p = read_passed any K area _ c.args.slip.now.made c.args.column _ _ (c.in_ok-grant.ensures any) in
    let b = block_room (K.header.columns + c.args.column) (2 * K.header.columns + 2 * length K.edges + 36) K.header.order (length area) (omega (arith, p.column)) p.room in
    let s = subst (λ h. (h.columns + c.args.column) * h.order + h.order ≤ length area) (sym c.header-header.ensures.answer) b in
    let at : ℕ = c.distances_at-at.result in
    let r : at + h.order ≤ length area = subst (λ n. n + h.order ≤ length area) (sym c.distances_at-at.ensures) s in
    let z : h.order ≡ at + h.order - at = omega arith in
    p.long ∙ sym (ap (λ h. h.order) c.header-header.ensures.answer) ∙ z ∙ sym (length-between area at (at + h.order) r)

pub lowest-requires : goal.lowest-requires
lowest-requires c =
    let K = view c.args.code.now in let R = rules_of _ _ _ c.args.code.now.admitted in
    let p = read_passed any K c.args.area.now _ c.args.slip.now.made c.args.column _ _ (c.in_ok-grant.ensures any) in
    let l : length c.copy_from_slice.new.self ≡ K.header.order = c.copy_from_slice.ensures.len ∙ p.long in
    (omega (arith, R.header.order.0), omega (arith, R.header.order.1))

pub returns : goal.returns
unfolding told decided parts_of
returns c =
    let K = view c.args.code.now in let area = c.args.area.now in let R = rules_of _ _ _ c.args.code.now.admitted in
    let p = read_passed any K area _ c.args.slip.now.made c.args.column _ _ (c.in_ok-grant.ensures any) in
    let q : ℕ = K.header.order in
    let j : ℕ = K.header.columns + c.args.column in
    let b = block_room j (2 * K.header.columns + 2 * length K.edges + 36) q (length area) (omega (arith, p.column)) p.room in
    let z : j * q + q - j * q ≡ q = omega arith in
    let part : c.copy_from_slice.new.self ≡ take (j * q + q - j * q) (drop (j * q) area) =
    subst (λ h. c.copy_from_slice.new.self ≡ take ((h.columns + c.args.column) * h.order + h.order - (h.columns + c.args.column) * h.order) (drop ((h.columns + c.args.column) * h.order) area)) c.header-header.ensures.answer
    (subst (λ n. c.copy_from_slice.new.self ≡ take (n + c.header-header.result.order - n) (drop n area)) c.distances_at-at.ensures c.copy_from_slice.ensures.after) in
    let new : c.copy_from_slice.new.self ≡ told K (parts_of K area) c.args.column = part ∙ ap (λ n. take n (drop (j * q) area)) z ∙ tabled_block q j area b in
    let d : c.lowest.result ≡ decided K (parts_of K area) c.args.column =
    c.lowest.ensures.is ∙ ap (λ v. lowest_to (pred (length v)) (λ a. get_or v a 0)) part ∙ part_lowest area (j * q) q b (omega (arith, R.header.order.0)) in
    record {
      answer = λ F. ap₂ (λ w x. granted (column_told w x)) new d ∙ sym (c.in_ok-grant.ensures F);
      target = λ F. new ∙ sym (ap (λ o. cond (grants o) (told K (parts_of K area) c.args.column) c.args.target.now) (c.in_ok-grant.ensures F));
    }
