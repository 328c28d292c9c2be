-- Scratch is free: a frame after a run may hold any words there. Assumes nothing.
use Rattle.std.proofs.Common.{◌≡◌, ℕ, List, sym, refl, ◌∙◌, subst, arith}
use Rattle.field.specs.Tables.{Tables}
use Rattle.code.specs.Views.{View}
use Rattle.tree.specs.Frame.{Numbers, Slip, running, Frame, Words, Call, opens, loads, starts, rounds, reads, concludes, next_slip, Effect}
use Rattle.tree.specs.Run.{History, next_history, Brings, Run, new, obeyed, turned_down}
use Rattle.tree.specs.Decoding.{Alike}

-- a call that leaves a running slip brings the code of the history
own_code : (call : Call) (F : Tables) (K : View) (h : History) (s : Slip) (n : Numbers) (r : ℕ) → Brings call F K h → next_slip K call s ≡ running n r → (next_history F K call h).code ≡ K
unfolding Brings next_slip next_history
own_code opens F K h s n r b e = refl
own_code (loads c values) F K h s n r b e = sym b.code
own_code starts F K h s n r b e = sym b.code
own_code (rounds pairs) F K h s n r b e = sym b.code
own_code (reads c size) F K h s n r b e = sym b.code
own_code (concludes size) F K h s n r b e = absurd (let z : ◌≡◌ {A = ℕ} 0 1 = cc in let y : ⊥ = omega arith in y)

-- another scratch after a granted call
effect_alike : (F : Tables) (K : View) (call : Call) (before after : Frame) (area : List ℕ) → Effect F K call before after → Alike K area after.area → Words area → Effect F K call before (record { area = area; slip = after.slip })
effect_alike F K call before after area e same w =
    record { slip = e.slip; as_long = same.as_long ∙ e.as_long; held = same.held ∙ e.held; surplus = same.surplus ∙ e.surplus; words = w }

pub scratch_free : {f : Frame} {h : History} → Run f h → (n : Numbers) (r : ℕ) → f.slip ≡ running n r → (area : List ℕ) → Alike h.code area f.area → Words area → Run (record { area = area; slip = f.slip }) h
scratch_free (new a h v) n r s area same w = absurd (let z : ◌≡◌ {A = ℕ} 0 1 = cc in let y : ⊥ = omega arith in y)
scratch_free (obeyed {before = b} {after = f} {h = h} run F K call x o g e) n r s area same w =
    let is : (next_history F K call h).code ≡ K = own_code call F K h b.slip n r o (sym e.slip ∙ s) in
    obeyed run F K call x o g (effect_alike F K call b f area e (subst (λ k. Alike k area f.area) is same) w)
scratch_free (turned_down run F K call a slip k e) n r s area same w = turned_down (scratch_free run n r s area same w) F K call a slip k e
