-- What a call leaves in the area by its tests, and the costs that are tested. Assumes nothing.
use Rattle.std.proofs.Common.{◌≡◌, ℕ, ◌+◌, ◌*◌, true, false, cond, leb, List, get_or, take, drop, Ok, Err, Result, sym, refl, ap, ◌∙◌, arith}
use Rattle.std.specs.Result.{is_ok}
use Rattle.field.specs.Tables.{Tables}
use Rattle.code.specs.Views.{View}
use Rattle.tree.specs.Over.{every}
use Rattle.tree.specs.Places.{width}
use Rattle.tree.specs.Frame.{Slip, Call, Reply, granted, refused, grants, outcome, held_words, area_words, parts_of, laid, next_parts, held_after, within}
use Rattle.frame.specs.Words.{low_blocks}
use Rattle.due.specs.declared.refusal.FrameRefusal.{FrameRefusal}
use Rattle.due.specs.Refusals.{number_of}
use Rattle.frame.specs.Calls.{AreaAfter, verdict_of}
use Rattle.frame.proofs.Scans.{every_same}

-- ---- what is left in the area
pub area_refused : (F : Tables) (K : View) (call : Call) (s : Slip) (before : List ℕ) (n : ℕ) → outcome F K call before s ≡ refused n → AreaAfter F K call s before before
unfolding held_after
area_refused F K call s before n e = record {
  held = sym (ap (λ o. cond (grants o) (laid K (next_parts F K call (parts_of K before))) (take (held_words K) before)) e);
  surplus = refl;
  kept = λ h. refl;
}

pub area_granted : (F : Tables) (K : View) (call : Call) (s : Slip) (before after : List ℕ) (reply : Reply) → outcome F K call before s ≡ granted reply →
    take (held_words K) after ≡ laid K (next_parts F K call (parts_of K before)) → drop (area_words K) after ≡ drop (area_words K) before → AreaAfter F K call s before after
unfolding held_after
area_granted F K call s before after reply e held surplus = record {
  held = held ∙ sym (ap (λ o. cond (grants o) (laid K (next_parts F K call (parts_of K before))) (take (held_words K) before)) e);
  surplus = surplus;
  kept = λ h. absurd (let z : true ≡ false = sym (ap grants e) ∙ h in let y : ◌≡◌ {A = ℕ} 0 1 = cc in let x : ⊥ = omega arith in x);
}

-- where a refusal goes on under another error, the tests before it tell what they told
pub before_ok : {D : Type 0} (F : Tables) (K : View) (call : Call) (s : Slip) (before : List ℕ) (reply : Reply) (r : Result (Unit {0}) FrameRefusal) (m : Result (Unit {0}) D) (x : Unit {0}) → outcome F K call before s ≡ verdict_of r reply →
    is_ok m ≡ is_ok r → m ≡ Ok x → outcome F K call before s ≡ granted reply
before_ok F K call s before reply (Ok y) m x o v w = o
before_ok F K call s before reply (Err e) m x o v w = absurd (let z : true ≡ false = sym (ap is_ok w) ∙ v in let y : ◌≡◌ {A = ℕ} 0 1 = cc in omega arith)

pub area_err : {D : Type 0} (F : Tables) (K : View) (call : Call) (s : Slip) (before : List ℕ) (reply : Reply) (r : Result (Unit {0}) FrameRefusal) (m : Result (Unit {0}) D) (d : D) → outcome F K call before s ≡ verdict_of r reply →
    is_ok m ≡ is_ok r → m ≡ Err d → AreaAfter F K call s before before
area_err F K call s before reply (Err e) m d o v w = area_refused F K call s before (number_of e) o
area_err F K call s before reply (Ok x) m d o v w = absurd (let z : true ≡ false = sym v ∙ ap is_ok w in let y : ◌≡◌ {A = ℕ} 0 1 = cc in omega arith)

-- ---- the costs that are tested
pub channel_within : (K : View) (area : List ℕ) → low_blocks K.header.order 0 K.header.columns K.header.ceiling area ≡ within K K.header.columns (parts_of K area).channel
unfolding within parts_of
channel_within K area =
    every_same K.header.columns K.header.columns _ _ refl (λ c h. ap (λ n. every K.header.order (λ a. leb (get_or area (n * K.header.order + a) 0) K.header.ceiling)) (let z : 0 + c ≡ c = omega arith in z))

pub checks_within : (K : View) (area : List ℕ) → low_blocks K.header.order (2 * K.header.columns) (width K) K.header.ceiling area ≡ within K (width K) (parts_of K area).to_check
unfolding within parts_of
checks_within K area = refl
