use Rattle.std.proofs.Common.{◌≡◌, true, false, cond, ◌||◌, sym, refl, ap, ◌∙◌}
use lib.Ieee.{Float, nan, inf, fin, le, is_nan}
use Rattle.std.specs.Float.{float_min, float_with_sign}
use Rattle.sampling.specs.Exact.{sized, size}
use Rattle.sampling.proofs.Scale.{least_sized, least_size}
use Rattle.sampling.proofs.level.scaled.Goals as goal

-- the lesser is the magnitude where that is no more than the scale, and else the scale
lesser_first : (v s : Float) → le v s ≡ true → float_min v s ≡ v
lesser_first v s h = rw h

number : (y : Float) → sized y ≡ true → is_nan y ≡ false
unfolding is_nan
number nan h = sym h
number (inf s) h = refl
number (fin s m e) h = refl

lesser_last : (v s : Float) → le v s ≡ false → is_nan s ≡ false → float_min v s ≡ s
lesser_last v s h n = ap (λ b. cond (b || is_nan s) v s) h ∙ ap (λ b. cond b v s) n

first : (c : goal.Then-magnitude-scale) → c.abs-magnitude.result ≡ float_min (float_with_sign false c.args.x) c.args.scale
first c = sym (lesser_first c.abs-magnitude.result c.args.scale c.if-magnitude-scale.true) ∙ ap (λ (v : Float). float_min v c.args.scale) c.abs-magnitude.ensures.value

pub returns-then-magnitude-scale-clause-finite : goal.returns-then-magnitude-scale-clause-finite
returns-then-magnitude-scale-clause-finite c = ap sized (first c) ∙ least_sized c.args.x c.args.scale c.requires.0 c.requires.1

pub returns-then-magnitude-scale-clause-value : goal.returns-then-magnitude-scale-clause-value
returns-then-magnitude-scale-clause-value c = ap size (first c) ∙ least_size c.args.x c.args.scale c.requires.0 c.requires.1

pub returns-else-magnitude-scale-clause-value : goal.returns-else-magnitude-scale-clause-value
returns-else-magnitude-scale-clause-value c =
    let v = float_with_sign false c.args.x in
    let h : le v c.args.scale ≡ false = ap (λ (w : Float). le w c.args.scale) (sym c.abs-magnitude.ensures.value) ∙ c.if-magnitude-scale.false in
    ap size (sym (lesser_last v c.args.scale h (number c.args.scale c.requires.1))) ∙ least_size c.args.x c.args.scale c.requires.0 c.requires.1
