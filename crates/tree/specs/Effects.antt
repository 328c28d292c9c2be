-- Every granted call has an effect in words of 16 bits. Assumes nothing.
use Rattle.std.specs.Prelude.{◌≡◌}
use Rattle.field.specs.Tables.{Tables, Lawful}
use Rattle.code.specs.Views.{View}
use Rattle.tree.specs.Places.{Admitted}
use Rattle.tree.specs.Frame.{Frame, Words, parts_of, laid, Call, Reply, outcome, granted, next_parts, Effect, obey}

-- what is laid down has 16 bits a word, and laying it down is the call's effect
pub record Followed (F : Tables) (K : View) (call : Call) (f : Frame) : Type 0 where
  pub laid_words : Words (laid K (next_parts F K call (parts_of K f.area)))
  pub effect : Effect F K call f (obey F K call f)

abbrev pub EffectsStand : Type 0
EffectsStand =
    (F : Tables) → Lawful F → (K : View) → Admitted K → (call : Call) (f : Frame) → Words f.area → (reply : Reply) →
    outcome F K call f.area f.slip ≡ granted reply → Followed F K call f
