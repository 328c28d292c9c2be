-- What making a tower answers and leaves, case by case. Assumes nothing.
use Rattle.std.proofs.Common.{◌≡◌, ℕ, ◌<◌, ◌≤◌, Bool, false, cond, eqb, List, sym, ap, ◌∙◌, subst, arith, ne_eqb}
use Rattle.field.specs.Tables.{Tables, Lawful}
use Rattle.field.specs.Grids.{grid}
use Rattle.tower.specs.Towers.{Parts, copied, has_root, parts_for, tower_refusal, tower_tables, meaning_from}
use Rattle.tower.specs.Raised.{Agree, Raised}
use Rattle.tower.proofs.Copies.{copies_root}
use Rattle.tower.specs.Refusal.{square_small, root_is}
use Rattle.tower.specs.Laws.{tower_laws, stands}
use Rattle.tower.proofs.Agrees.{agrees, raised_by}

-- the clauses of a call that answers n and leaves a tower of the parts p
pub record Left (t : Tables) (u v n : ℕ) (before p : Parts) : Type 0 where
  pub answer : n ≡ tower_refusal t u v
  pub tower : p ≡ cond (eqb (tower_refusal t u v) 0) (parts_for t u v) before
  pub agrees : tower_refusal t u v ≡ 0 → Agree (meaning_from p) (tower_tables t u v)
  pub law : tower_refusal t u v ≡ 0 → Raised t u v (meaning_from p)

pub refused : (t : Tables) (u v n : ℕ) (before : Parts) → 0 < n → tower_refusal t u v ≡ n → Left t u v n before before
refused t u v n before pos e = record {
  answer = sym e;
  tower = sym (ap (λ (b : Bool). cond b (parts_for t u v) before) (not_zero (tower_refusal t u v) (omega arith)));
  agrees = λ z. absurd (omega arith);
  law = λ z. absurd (omega arith);
}
  where
    not_zero : (m : ℕ) → 0 < m → eqb m 0 ≡ false
    not_zero m h = ne_eqb m 0 (λ z. omega arith)

-- a root of the copy is one of the base
pub root_of_copy : (t : Tables) (u v r : ℕ) (s p : List ℕ) → r ≡ t.order → s ≡ grid 8 t.order t.sum → p ≡ grid 8 t.order t.product
    → t.order ≤ 8 → Lawful t → u < t.order → v < t.order → has_root (copied r s p) u v ≡ has_root t u v
root_of_copy t u v r s p er es ep fit l hu hv = rw (er, es, ep) (copies_root t u v fit l hu hv)

pub made : (t : Tables) (u v : ℕ) (before p : Parts) → Lawful t → t.order ≤ 8 → u < t.order → v < t.order → has_root t u v ≡ false → p ≡ parts_for t u v → Left t u v 0 before p
made t u v before p l fit hu hv h e =
    let z : tower_refusal t u v ≡ 0 = root_is t u v fit false hu hv h in
    let same : Agree (meaning_from p) (tower_tables t u v) = subst (λ (x : Parts). Agree (meaning_from x) (tower_tables t u v)) (sym e) (agrees t l fit u v hu hv) in
    let small = square_small t.order fit in
    record {
      answer = sym z;
      tower = e ∙ sym (ap (λ (n : ℕ). cond (eqb n 0) (parts_for t u v) before) z);
      agrees = λ _. same;
      law = λ _. raised_by t u v (meaning_from p) l.low hu hv (tower_laws t l (u, hu) (v, hv) small h) same (stands t l (u, hu) (v, hv));
    }
