-- What the words of an area mean. Assumes nothing.
use Rattle.std.proofs.Common.{◌≡◌, ℕ, suc, pred, ◌+◌, ◌-◌, ◌*◌, ◌<◌, ◌≤◌, min, Bool, true, ◌&&◌, eqb, List, length, get_or, take, drop, sym, refl, subst, mul-le-mul_right, arith}
use Rattle.std.proofs.lemmas.Bool.{and_parts, eqb-true}
use Rattle.code.specs.Views.{View}
use Rattle.tree.specs.Places.{width}
use Rattle.tree.specs.Frame.{Numbers, same_numbers, held_words, Parts, parts_of, laid, stores, told}
use Rattle.tree.specs.Areas.{Holds, AreasStand}
use Rattle.tree.specs.Over.{least_to}
use Rattle.tree.proofs.Folds.{least_reached, least_under}
use Rattle.tree.proofs.Rows.{tabled_block}
use Rattle.tree.proofs.Ranges.{after_channel, after_distances, after_to, after_from}
use Rattle.tree.proofs.Outcomes.{numbers_same, within_is, within_made}
use Rattle.tree.proofs.Follow.{held_is}

pub numbers_are : (m n : Numbers) → same_numbers m n ≡ true → m ≡ n
unfolding same_numbers
numbers_are m n t =
    let o : Bool = eqb m.order n.order in
    let c : Bool = eqb m.columns n.columns in
    let r : Bool = eqb m.rows n.rows in
    let w : Bool = eqb m.width n.width in
    let h : Bool = eqb m.ceiling n.ceiling in
    let l : Bool = eqb m.limit n.limit in
    let p1 = and_parts (o && c && r && w && h) l t in
    let p2 = and_parts (o && c && r && w) h p1.0 in
    let p3 = and_parts (o && c && r) w p2.0 in
    let p4 = and_parts (o && c) r p3.0 in
    let p5 = and_parts o c p4.0 in
    let e1 = eqb-true m.order n.order p5.0 in
    let e2 = eqb-true m.columns n.columns p5.1 in
    let e3 = eqb-true m.rows n.rows p4.1 in
    let e4 = eqb-true m.width n.width p3.1 in
    let e5 = eqb-true m.ceiling n.ceiling p2.1 in
    let e6 = eqb-true m.limit n.limit p1.1 in
    λ i. record { order = e1 i; columns = e2 i; rows = e3 i; width = e4 i; ceiling = e5 i; limit = e6 i }

pub holds_is : (K : View) (area : List ℕ) (P : Parts) → take (held_words K) area ≡ laid K P → Holds K area P
holds_is K area P e = record {
  channel = after_channel K P area e;
  distances = after_distances K P area e;
  to_check = after_to K P area e;
  from_check = after_from K P area e;
}

pub told_is : (K : View) (area : List ℕ) (c : ℕ) → c < K.header.columns → held_words K ≤ length area →
    told K (parts_of K area) c ≡ take K.header.order (drop ((K.header.columns + c) * K.header.order) area)
unfolding told parts_of
told_is K area c h room =
    let j : ℕ = K.header.columns + c in
    let m : suc j * K.header.order ≤ held_words K = mul-le-mul_right K.header.order (let z : suc j ≤ 2 * K.header.columns + 2 * width K = omega arith in z) in
    sym (tabled_block K.header.order j area (omega arith))

pub stored_is : (K : View) (values : List ℕ) → 1 ≤ K.header.order →
    (m : ℕ) × (((b : ℕ) × (b < K.header.order) × (get_or values b 0 ≡ m)) × ((b : ℕ) → b < K.header.order → m ≤ get_or values b 0) × ((a : ℕ) → stores K values a ≡ min (get_or values a 0 - m) K.header.ceiling))
unfolding stores
stored_is K values one =
    let f : ℕ → ℕ = λ b. get_or values b 0 in
    let w = least_reached (pred K.header.order) f in
    (least_to (pred K.header.order) f, ((w.0, omega (arith, w.1), w.2), λ b h. least_under (pred K.header.order) f b (omega arith), λ a. refl))

pub areas_theorem : AreasStand
areas_theorem = record {
  numbers = λ m n. (numbers_are m n, λ e. subst (λ x. same_numbers m x ≡ true) e (numbers_same m));
  holds = λ K area P one room. (holds_is K area P, held_is K area P one room);
  told_words = told_is;
  stored = stored_is;
  costs = λ K n costs. (λ t c a h l. within_is K n costs t c a h l, within_made K n costs);
}
