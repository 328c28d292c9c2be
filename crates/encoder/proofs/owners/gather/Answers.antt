use Rattle.std.proofs.Common.{◌≡◌, ℕ, ◌+◌, true, false, not, List, length, sym, ap, ◌∙◌, subst, arith, rules}
use Rattle.linear.specs.Filling.{free_of, Gathered, owned_by}
use Rattle.linear.proofs.Counts.{count_below, count_most}
use Rattle.linear.proofs.Placing.{count_owned, count_free, count_none, gathered_none, gathered_skip, gathered_more}
use Rattle.encoder.proofs.owners.gather.Goals as goal
use Rattle.encoder.proofs.owners.gather.Goals.{then-not-owned, else-not-owned}

pub loop-c-init : goal.loop-c-init
loop-c-init c = (sym (count_none _), gathered_none _ _ _ _)

pub bounds-symbols-k : goal.bounds-symbols-k
bounds-symbols-k c =
    let b = count_below (length c.args.word.now) c.loop-c.c (free_of c.args.owners.now (length c.args.owners.now)) c.loop-c-test.true (ap not (sym c.owned.ensures ∙ c.if-not-owned.true)) in
    omega arith

pub overflow_add-k : goal.overflow_add-k
overflow_add-k c =
    let q = count_most c.loop-c.c (free_of c.args.owners.now (length c.args.owners.now)) in
    search rules

pub loop-c-preserved : goal.loop-c-preserved
loop-c-preserved c =
    elim c.if-not-owned.branch [
      | then-not-owned w ↦ (
          let o : owned_by c.args.owners.now (length c.args.owners.now) c.loop-c.c ≡ false = sym c.owned.ensures ∙ w.if-not-owned.true in
          let e = count_free c.args.owners.now (length c.args.owners.now) c.loop-c.c o in
          let b = count_below (length c.args.word.now) c.loop-c.c (free_of c.args.owners.now (length c.args.owners.now)) c.loop-c-test.true (ap not o) in (
            omega arith,
            subst (λ (x : List ℕ). Gathered (length c.args.owners.now) c.args.owners.now c.args.word.now x (c.loop-c.c + 1)) (sym w.symbols-is)
                (gathered_more (length c.args.owners.now) c.args.owners.now c.args.word.now c.loop-c.symbols c.loop-c.c (c.loop-c.c + 1) (omega arith) c.loop-c.invariant.1 c.loop-c.k c.loop-c.invariant.0 (omega arith)),
          ))
      | else-not-owned w ↦ (
          let o : owned_by c.args.owners.now (length c.args.owners.now) c.loop-c.c ≡ true = sym c.owned.ensures ∙ w.if-not-owned.false in
          let e = count_owned c.args.owners.now (length c.args.owners.now) c.loop-c.c o in (
            omega arith,
            subst (λ (x : List ℕ). Gathered (length c.args.owners.now) c.args.owners.now c.args.word.now x (c.loop-c.c + 1)) (sym w.symbols-is)
                (gathered_skip (length c.args.owners.now) c.args.owners.now c.args.word.now c.loop-c.symbols c.loop-c.c (c.loop-c.c + 1) (omega arith) c.loop-c.invariant.1 o),
          ))
    ]
