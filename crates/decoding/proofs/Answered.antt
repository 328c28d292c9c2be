-- What decoding answers on each of its ways. Assumes nothing.
use Rattle.std.proofs.Common.{◌≡◌, ℕ, Bool, true, false, cond, eqb, List, Some, None, Ok, Err, Option, sym, refl, ap, ◌∙◌, subst, ap₂, arith}
use Rattle.std.proofs.lemmas.Bool.{eqb-true}
use Rattle.field.specs.Tables.{Tables, Lawful}
use Rattle.code.specs.Views.{View}
use Rattle.due.specs.declared.refusal.FrameRefusal.{FrameRefusal}
use Rattle.due.specs.Refusals.{number_of}
use Rattle.tree.specs.Places.{Admitted}
use Rattle.tree.specs.Rows.{PairsRule}
use Rattle.tree.specs.Run.{Run}
use Rattle.tree.specs.Frame.{Numbers, Slip, running, Frame, Words, parts_of, word_of, concludes, word_told, Outcome, granted, refused, grants, outcome}
use Rattle.tree.specs.Decoding.{Alike, fails, round_on, conclude_on, at_end, rounds_to, stopped, ended, decoding, later, OwnRun}
use Rattle.tree.proofs.Decodings.{own_run}
use Rattle.tree.proofs.Alike.{alike_conclude}
use Rattle.decoding.specs.Ends.{last_failing, AreaAtEnd, Settled}
use Rattle.decoding.specs.declared.settling.Stop.{Stop}
use Rattle.decoding.proofs.Reaching.{at_once, row_told}

module _ (F : Tables) (K : View) (pairs : PairsRule) where
  pub record Answered (size : ℕ) (f : Frame) (after word written : List ℕ) (o : Outcome) (given : Option Slip) (last : Option ℕ) : Type 0 where
    pub answer : o ≡ decoding F K pairs size f
    pub back : given ≡ cond (grants (decoding F K pairs size f)) None (Some (at_end F K pairs size f).slip)
    pub failing : last ≡ cond (grants (decoding F K pairs size f)) None (last_failing (rounds_to F K pairs size f) (fails F K (at_end F K pairs size f)))
    pub area : AreaAtEnd F K pairs size f after
    pub run : OwnRun F K pairs size f after
    pub written_word : written ≡ cond (grants (decoding F K pairs size f)) (word_of K (parts_of K after)) word

  same_none : (b : Bool) → ◌≡◌ {A = Option ℕ} None (cond b None None)
  same_none true = refl
  same_none false = refl

  -- conclude tells no row: nothing else is done
  pub told_at_once : (size : ℕ) (area : List ℕ) (n : Numbers) (r : ℕ) (word written : List ℕ) (o : Outcome) (given : Option Slip) → o ≡ outcome F K (concludes size) area (running n r) → (o ≡ refused 24 → ⊥) →
      written ≡ cond (grants (outcome F K (concludes size) area (running n r))) (word_of K (parts_of K area)) word →
      given ≡ cond (grants (outcome F K (concludes size) area (running n r))) None (Some (running n r)) →
      Answered size (record { area = area; slip = running n r }) area word written o given None
  unfolding later
  told_at_once size area n r word written o given e other w b =
      let f : Frame = record { area = area; slip = running n r } in
      let a = at_once F K pairs size area n r o e other in
      let is : outcome F K (concludes size) area (running n r) ≡ decoding F K pairs size f = sym e ∙ sym a.answer in
      record {
        answer = sym a.answer;
        back = b ∙ ap₂ (λ x g. cond (grants x) None (Some g.slip)) is (sym a.end);
        failing = same_none (grants (decoding F K pairs size f)) ∙ sym (ap (λ k. cond (grants (decoding F K pairs size f)) None (last_failing k (fails F K (at_end F K pairs size f)))) a.none);
        area = record { alike = subst (λ g. Alike K area g.area) (sym a.end) (record { as_long = refl; held = refl; surplus = refl }); kept = λ z. refl };
        run = λ h m q s run own. subst (λ g. Run (record { area = area; slip = g.slip }) (later F K pairs (rounds_to F K pairs size f) h)) (sym a.end) (subst (λ k. Run f (later F K pairs k h)) (sym a.none) run);
        written_word = w ∙ ap (λ x. cond (grants x) (word_of K (parts_of K area)) word) is;
      }

  -- where conclude tells a row, the word has N places
  pub long_of : (size : ℕ) (area : List ℕ) (n : Numbers) (r : ℕ) → outcome F K (concludes size) area (running n r) ≡ refused 24 → K.header.columns ≡ size
  long_of size area n r e = sym (eqb-true size K.header.columns (row_told F K size area n r e).0.long)

  -- where conclude tells a row, the slip and the word are as they were
  pub record RowTold (size : ℕ) (area : List ℕ) (lent back : Slip) (kept written : List ℕ) : Type 0 where
    pub told : outcome F K (concludes size) area lent ≡ refused 24
    pub slip : back ≡ lent
    pub word : written ≡ kept
    pub long : K.header.columns ≡ size

  pub row_is : (size : ℕ) (area : List ℕ) (n : Numbers) (r : ℕ) (e : FrameRefusal) (back : Slip) (word written : List ℕ) → refused (number_of e) ≡ outcome F K (concludes size) area (running n r) → eqb (number_of e) 24 ≡ true →
      Some back ≡ cond (grants (outcome F K (concludes size) area (running n r))) None (Some (running n r)) →
      written ≡ cond (grants (outcome F K (concludes size) area (running n r))) (word_of K (parts_of K area)) word → RowTold size area (running n r) back word written
  row_is size area n r e back word written o row b w =
      let told : outcome F K (concludes size) area (running n r) ≡ refused 24 = sym o ∙ ap refused (eqb-true (number_of e) 24 row) in
      let given : Some back ≡ Some (running n r) = b ∙ ap (λ (x : Outcome). cond (grants x) None (Some (running n r))) told in
      record {
        told = told;
        slip = cc;
        word = w ∙ ap (λ (x : Outcome). cond (grants x) (word_of K (parts_of K area)) word) told;
        long = long_of size area n r told;
      }

  -- the rounds stopped while a row fails
  pub told_refused : (size : ℕ) (f : Frame) (after word written : List ℕ) (left : Slip) (stop : Stop) (x : ℕ) → Lawful F → Admitted K → Words after → K.header.columns ≡ size → Settled F K pairs f after left (Err stop) →
      refused x ≡ stopped (refused (number_of stop.refusal)) → written ≡ word → Answered size f after word written (refused x) (Some left) stop.failing
  unfolding decoding
  told_refused size f after word written left stop x law R w long s is same = go size long
    where
      N : ℕ
      N = K.header.columns

      answer : refused x ≡ ended (conclude_on F K N (at_end F K pairs N f)) (round_on F K pairs (at_end F K pairs N f))
      answer = is ∙ sym s.why.1 ∙ sym (ap (λ o. ended o (round_on F K pairs (at_end F K pairs N f))) s.why.0)

      go : (m : ℕ) → N ≡ m → Answered m f after word written (refused x) (Some left) stop.failing
      go m l = subst (λ k. Answered k f after word written (refused x) (Some left) stop.failing) l (record {
        answer = answer;
        back = ap Some s.slip ∙ ap (λ o. cond (grants o) None (Some (at_end F K pairs N f).slip)) answer;
        failing = s.failing ∙ ap (λ o. cond (grants o) None (last_failing (rounds_to F K pairs N f) (fails F K (at_end F K pairs N f)))) answer;
        area = s.area;
        run = own_run F law K R pairs N f after s.area.alike w;
        written_word = same ∙ ap (λ o. cond (grants o) (word_of K (parts_of K after)) word) answer;
      })

  -- conclude on the area at the end is conclude on the defined one
  conclude_end : (size : ℕ) (f : Frame) (after : List ℕ) (left : Slip) → Admitted K → Settled F K pairs f after left (Ok tt) → outcome F K (concludes size) after left ≡ conclude_on F K size (at_end F K pairs K.header.columns f)
  conclude_end size f after left R s =
      alike_conclude K R after (at_end F K pairs K.header.columns f).area s.area.alike F size left ∙ ap (λ l. outcome F K (concludes size) (at_end F K pairs K.header.columns f).area l) s.slip

  -- no row fails any more: the word is written
  pub told_whole : (size : ℕ) (f : Frame) (after word written : List ℕ) (left : Slip) (made : ℕ) → Lawful F → Admitted K → Words after → K.header.columns ≡ size → Settled F K pairs f after left (Ok tt) →
      granted (word_told written made) ≡ outcome F K (concludes size) after left → written ≡ cond (grants (outcome F K (concludes size) after left)) (word_of K (parts_of K after)) word →
      Answered size f after word written (granted (word_told written made)) None None
  unfolding decoding
  told_whole size f after word written left made law R typed long s o w = go size long o w
    where
      N : ℕ
      N = K.header.columns

      go : (m : ℕ) → N ≡ m → granted (word_told written made) ≡ outcome F K (concludes m) after left → written ≡ cond (grants (outcome F K (concludes m) after left)) (word_of K (parts_of K after)) word →
          Answered m f after word written (granted (word_told written made)) None None
      go m l o w = subst (λ k. Answered k f after word written (granted (word_told written made)) None None) l (
          let at_n : granted (word_told written made) ≡ conclude_on F K N (at_end F K pairs N f) = o ∙ ap (λ k. outcome F K (concludes k) after left) (sym l) ∙ conclude_end N f after left R s in
          let answer : granted (word_told written made) ≡ ended (conclude_on F K N (at_end F K pairs N f)) (round_on F K pairs (at_end F K pairs N f)) =
          ap (λ x. ended x (round_on F K pairs (at_end F K pairs N f))) at_n in
          record {
            answer = answer;
            back = ap (λ x. cond (grants x) None (Some (at_end F K pairs N f).slip)) answer;
            failing = ap (λ x. cond (grants x) None (last_failing (rounds_to F K pairs N f) (fails F K (at_end F K pairs N f)))) answer;
            run = own_run F law K R pairs N f after s.area.alike typed;
            area = s.area;
            written_word = w ∙ ap (λ x. cond (grants x) (word_of K (parts_of K after)) word) (sym o ∙ answer);
          })

  -- so conclude is not refused
  pub not_refused : (size : ℕ) (f : Frame) (after : List ℕ) (left : Slip) (x : ℕ) → Admitted K → K.header.columns ≡ size → Settled F K pairs f after left (Ok tt) →
      refused x ≡ outcome F K (concludes size) after left → ⊥
  not_refused size f after left x R long s o =
      let N = K.header.columns in
      let g : grants (conclude_on F K N (at_end F K pairs N f)) ≡ true = s.why in
      let e : refused x ≡ conclude_on F K N (at_end F K pairs N f) = o ∙ ap (λ k. outcome F K (concludes k) after left) (sym long) ∙ conclude_end N f after left R s in
      let z : false ≡ true = ap grants e ∙ g in
      let y : ◌≡◌ {A = ℕ} 0 1 = cc in omega arith
