use Rattle.std.proofs.Common.{◌≡◌, ℕ, Iter, ◌+◌, true, false, not, length, drop, sym, ap, ◌∙◌, arith}
use Rattle.linear.specs.Count.{count}
use Rattle.linear.specs.Filling.{free_of, owned_by}
use Rattle.linear.proofs.Tests.{no_both}
use Rattle.linear.proofs.Counts.{count_below}
use Rattle.linear.proofs.Placing.{count_owned, count_free, count_none, placed_none, placed_more}
use Rattle.encoder.proofs.Tested.{next_is, next_stands}
use Rattle.encoder.proofs.owners.place.Goals as goal
use Rattle.encoder.proofs.owners.place.Goals.{then-owned, else-owned}

pub loop-c-init : goal.loop-c-init
loop-c-init c = (c.iter-rest.ensures.rest ∙ sym (ap (λ (k : ℕ). drop k c.args.symbols.now) (count_none (free_of c.args.owners.now (length c.args.owners.now)))), placed_none _ _ _ _)

pub loop-c-preserved : goal.loop-c-preserved
loop-c-preserved c =
    elim c.if-owned.branch [
      | then-owned w ↦ (
          let o : owned_by c.args.owners.now (length c.args.owners.now) c.loop-c.c ≡ true = sym c.owned.ensures ∙ w.if-owned.true in
          let e = count_owned c.args.owners.now (length c.args.owners.now) c.loop-c.c o in (
            ap (λ (i : Iter ℕ). i.rest.now) w.rest-is ∙ c.loop-c.invariant.0 ∙ ap (λ (k : ℕ). drop k c.args.symbols.now) (sym e),
            placed_more (length c.args.owners.now) c.args.owners.now c.args.symbols.now c.loop-c.word c.loop-c.c c.if-owned.place (c.loop-c.c + 1) (omega arith) (omega arith) c.loop-c.invariant.1
                (λ x. w.place-is) (λ x. absurd (no_both o x)),
          ))
      | else-owned w ↦ (
          let o : owned_by c.args.owners.now (length c.args.owners.now) c.loop-c.c ≡ false = sym c.owned.ensures ∙ w.if-owned.false in
          let e = count_free c.args.owners.now (length c.args.owners.now) c.loop-c.c o in
          let b = count_below (length c.args.word.now) c.loop-c.c (free_of c.args.owners.now (length c.args.owners.now)) c.loop-c-test.true (ap not o) in
          let n = next_is c.loop-c.rest.rest.now w.next.new.self.rest.now c.args.symbols.now (count c.loop-c.c (free_of c.args.owners.now (length c.args.owners.now))) w.next.result _ c.loop-c.invariant.0 w.next.ensures.steps (omega arith) w.unwrap.result w.unwrap.ensures in (
            ap (λ (i : Iter ℕ). i.rest.now) w.rest-is ∙ n.0 ∙ ap (λ (k : ℕ). drop k c.args.symbols.now) (sym e),
            placed_more (length c.args.owners.now) c.args.owners.now c.args.symbols.now c.loop-c.word c.loop-c.c c.if-owned.place (c.loop-c.c + 1) (omega arith) (omega arith) c.loop-c.invariant.1
                (λ x. absurd (no_both x o)) (λ x. w.place-is ∙ n.1),
          ))
    ]

pub unwrap-requires : goal.unwrap-requires
unwrap-requires c =
    let free = free_of c.args.owners.now (length c.args.owners.now) in
    let o : owned_by c.args.owners.now (length c.args.owners.now) c.loop-c.c ≡ false = sym c.owned.ensures ∙ c.if-owned.false in
    let b = count_below (length c.args.word.now) c.loop-c.c free c.loop-c-test.true (ap not o) in
    next_stands c.loop-c.rest.rest.now c.next.new.self.rest.now c.args.symbols.now (count c.loop-c.c free) c.next.result _ c.loop-c.invariant.0 (omega arith) c.next.ensures.steps
