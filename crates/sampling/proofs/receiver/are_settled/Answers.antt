use Rattle.std.proofs.Common.{◌≡◌, Bool, true, ◌&&◌, sym, ap, ◌∙◌, true≢false}
use Rattle.std.specs.Float.{float_is_finite}
use Rattle.std.proofs.lemmas.Bool.{and_left, and_right}
use Rattle.sampling.specs.Exact.{sized, size, at_most}
use Rattle.sampling.specs.Receiver.{is_step}
use Rattle.sampling.proofs.Laws.{sampling_law}
use Rattle.sampling.proofs.Scale.{le_scale, not_finite}
use Rattle.sampling.proofs.receiver.are_settled.Goals as goal
use Rattle.sampling.proofs.receiver.are_settled.Goals.{then-is_step, else-is_step}

pub returns-then-is_finite : goal.returns-then-is_finite
returns-then-is_finite c =
    let s = c.args.settings in
    record {
      answer = elim c.if-is_step.branch [
        | then-is_step w ↦ (
            let step : is_step s.step ≡ true = sym c.is_step.ensures ∙ w.if-is_step.true in
            let finite : float_is_finite s.scale ≡ true = sym w.is_finite.ensures.value ∙ sym w.value-is ∙ c.if-is_finite.true in
            le_scale s.step s.scale step finite ∙ ap (λ (b : Bool). b && (sized s.scale && at_most (size s.step) (size s.scale))) (sym step)
            )
        | else-is_step w ↦ absurd (true≢false (sym c.if-is_finite.true ∙ w.value-is ∙ w.if-is_step.false))
      ];
      law = sampling_law;
    }

pub returns-else-is_finite : goal.returns-else-is_finite
returns-else-is_finite c =
    let s = c.args.settings in
    let rest = sized s.scale && at_most (size s.step) (size s.scale) in
    record {
      answer = c.if-is_finite.false ∙ sym (elim c.if-is_step.branch [
        | then-is_step w ↦ and_right (is_step s.step) rest (not_finite s.step s.scale (sym w.is_finite.ensures.value ∙ sym w.value-is ∙ c.if-is_finite.false))
        | else-is_step w ↦ and_left (is_step s.step) rest (sym c.is_step.ensures ∙ w.if-is_step.false)
      ]);
      law = sampling_law;
    }
