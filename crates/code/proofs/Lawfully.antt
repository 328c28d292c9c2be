-- The two laws of admitting, and the rules of an admitted code.
use Rattle.std.proofs.Common.{◌≡◌, ℕ, true, false, List, [], ◌∷◌, Some, None, Ok, Err, Option, sym, refl, ap, ◌∙◌, subst, inl, inr, arith}
use Rattle.std.proofs.lemmas.Bool.{both_ways, cases_order}
use Rattle.code.specs.declared.table.Edge.{Edge}
use Rattle.code.specs.declared.table.Entry.{Entry}
use Rattle.code.specs.declared.table.Header.{Header}
use Rattle.code.specs.declared.fault.CodeFault.{CodeFault}
use Rattle.code.specs.declared.fault.CodeFault.TheVariants.{OutOfRange, NotRising, Degree, Unmatched}
use Rattle.code.specs.Admission.{admission, granted, earliest, told, range_place, order_place, degree_place, pair_place}
use Rattle.code.specs.Faults.{number, place, Earlier}
use Rattle.code.specs.Laws.{Exactly, GrantedByTheRules, RefusedAtTheFirst}
use Rattle.code.specs.Places.{Bad, FirstBad}
use Rattle.code.specs.Rules.{Rules}
use Rattle.code.specs.Views.{verdict}
use Rattle.code.proofs.Kept.{rules_from, rules_good}
use Rattle.code.proofs.Least.{some_none}
use Rattle.code.proofs.Told.{least_range, least_order, least_degrees, least_pairs}

abbrev chosen : Option ℕ → Option ℕ → Option ℕ → Option ℕ → Option CodeFault
chosen a b c d = earliest (told OutOfRange a ∷ told NotRising b ∷ told Degree c ∷ told Unmatched d ∷ [])

abbrev Chosen : Option ℕ → Option ℕ → Option ℕ → Option ℕ → CodeFault → Type 0
Chosen a b c d (OutOfRange p) = a ≡ Some p
Chosen a b c d (NotRising p) = (a ≡ None) × (b ≡ Some p)
Chosen a b c d (Degree p) = (a ≡ None) × (b ≡ None) × (c ≡ Some p)
Chosen a b c d (Unmatched p) = (a ≡ None) × (b ≡ None) × (c ≡ None) × (d ≡ Some p)

chosen_some : (a b c d : Option ℕ) (f : CodeFault) → chosen a b c d ≡ Some f → Chosen a b c d f
chosen_some (Some p) b c d f e = let h : OutOfRange p ≡ f = cc in subst (Chosen (Some p) b c d) h refl
chosen_some None (Some p) c d f e = let h : NotRising p ≡ f = cc in subst (Chosen None (Some p) c d) h (refl, refl)
chosen_some None None (Some p) d f e = let h : Degree p ≡ f = cc in subst (Chosen None None (Some p) d) h (refl, refl, refl)
chosen_some None None None (Some p) f e = let h : Unmatched p ≡ f = cc in subst (Chosen None None None (Some p)) h (refl, refl, refl, refl)
chosen_some None None None None f e = absurd (some_none f (sym e))

chosen_none : (a b c d : Option ℕ) → chosen a b c d ≡ None → (a ≡ None) × (b ≡ None) × (c ≡ None) × (d ≡ None)
chosen_none (Some p) b c d e = absurd (some_none (OutOfRange p) e)
chosen_none None (Some p) c d e = absurd (some_none (NotRising p) e)
chosen_none None None (Some p) d e = absurd (some_none (Degree p) e)
chosen_none None None None (Some p) e = absurd (some_none (Unmatched p) e)
chosen_none None None None None e = (refl, refl, refl, refl)

same_fault : (f g : CodeFault) → number f ≡ number g → place f ≡ place g → f ≡ g
same_fault (OutOfRange p) (OutOfRange q) n e = ap OutOfRange e
same_fault (OutOfRange p) (NotRising q) n e = absurd (omega arith)
same_fault (OutOfRange p) (Degree q) n e = absurd (omega arith)
same_fault (OutOfRange p) (Unmatched q) n e = absurd (omega arith)
same_fault (NotRising p) (OutOfRange q) n e = absurd (omega arith)
same_fault (NotRising p) (NotRising q) n e = ap NotRising e
same_fault (NotRising p) (Degree q) n e = absurd (omega arith)
same_fault (NotRising p) (Unmatched q) n e = absurd (omega arith)
same_fault (Degree p) (OutOfRange q) n e = absurd (omega arith)
same_fault (Degree p) (NotRising q) n e = absurd (omega arith)
same_fault (Degree p) (Degree q) n e = ap Degree e
same_fault (Degree p) (Unmatched q) n e = absurd (omega arith)
same_fault (Unmatched p) (OutOfRange q) n e = absurd (omega arith)
same_fault (Unmatched p) (NotRising q) n e = absurd (omega arith)
same_fault (Unmatched p) (Degree q) n e = absurd (omega arith)
same_fault (Unmatched p) (Unmatched q) n e = ap Unmatched e

module _ (h : Header) (es : List Edge) (ks : List Entry) where
  abbrev a : Option ℕ
  a = range_place h es ks

  abbrev b : Option ℕ
  b = order_place es ks

  abbrev c : Option ℕ
  c = degree_place h es

  abbrev d : Option ℕ
  d = pair_place es ks

  -- nothing of a kind is bad before the place that is told, and nothing at all if none is told
  before : (f : CodeFault) → Chosen a b c d f → (g : CodeFault) → Earlier g f → Bad h es ks g → ⊥
  before (OutOfRange p) t (OutOfRange j) (inl x) bad = omega arith
  before (OutOfRange p) t (OutOfRange j) (inr x) bad = ((least_range h es ks).some p t).1 j x.1 bad
  before (OutOfRange p) t (NotRising j) (inl x) bad = omega arith
  before (OutOfRange p) t (NotRising j) (inr x) bad = omega (arith, x.0)
  before (OutOfRange p) t (Degree j) (inl x) bad = omega arith
  before (OutOfRange p) t (Degree j) (inr x) bad = omega (arith, x.0)
  before (OutOfRange p) t (Unmatched j) (inl x) bad = omega arith
  before (OutOfRange p) t (Unmatched j) (inr x) bad = omega (arith, x.0)
  before (NotRising p) t (OutOfRange j) e bad = (least_range h es ks).none t.0 j bad
  before (NotRising p) t (NotRising j) (inl x) bad = omega arith
  before (NotRising p) t (NotRising j) (inr x) bad = ((least_order h es ks).some p t.1).1 j x.1 bad
  before (NotRising p) t (Degree j) (inl x) bad = omega arith
  before (NotRising p) t (Degree j) (inr x) bad = omega (arith, x.0)
  before (NotRising p) t (Unmatched j) (inl x) bad = omega arith
  before (NotRising p) t (Unmatched j) (inr x) bad = omega (arith, x.0)
  before (Degree p) t (OutOfRange j) e bad = (least_range h es ks).none t.0 j bad
  before (Degree p) t (NotRising j) e bad = (least_order h es ks).none t.1 j bad
  before (Degree p) t (Degree j) (inl x) bad = omega arith
  before (Degree p) t (Degree j) (inr x) bad = ((least_degrees h es ks).some p t.2).1 j x.1 bad
  before (Degree p) t (Unmatched j) (inl x) bad = omega arith
  before (Degree p) t (Unmatched j) (inr x) bad = omega (arith, x.0)
  before (Unmatched p) t (OutOfRange j) e bad = (least_range h es ks).none t.0 j bad
  before (Unmatched p) t (NotRising j) e bad = (least_order h es ks).none t.1 j bad
  before (Unmatched p) t (Degree j) e bad = (least_degrees h es ks).none t.2 j bad
  before (Unmatched p) t (Unmatched j) (inl x) bad = omega arith
  before (Unmatched p) t (Unmatched j) (inr x) bad = ((least_pairs h es ks).some p t.3).1 j x.1 bad

  there : (f : CodeFault) → Chosen a b c d f → Bad h es ks f
  there (OutOfRange p) t = ((least_range h es ks).some p t).0
  there (NotRising p) t = ((least_order h es ks).some p t.1).0
  there (Degree p) t = ((least_degrees h es ks).some p t.2).0
  there (Unmatched p) t = ((least_pairs h es ks).some p t.3).0

  nothing : (a ≡ None) × (b ≡ None) × (c ≡ None) × (d ≡ None) → (f : CodeFault) → Bad h es ks f → ⊥
  nothing t (OutOfRange p) bad = (least_range h es ks).none t.0 p bad
  nothing t (NotRising p) bad = (least_order h es ks).none t.1 p bad
  nothing t (Degree p) bad = (least_degrees h es ks).none t.2 p bad
  nothing t (Unmatched p) bad = (least_pairs h es ks).none t.3 p bad

  none_bad : admission h es ks ≡ None → (f : CodeFault) → Bad h es ks f → ⊥
  unfolding admission
  none_bad e = nothing (chosen_none a b c d e)

  refused_first : (f : CodeFault) → admission h es ks ≡ Some f → FirstBad h es ks f
  unfolding admission
  refused_first f e = let t = chosen_some a b c d f e in (there f t, before f t)

  one_first : (f g : CodeFault) → FirstBad h es ks f → FirstBad h es ks g → f ≡ g
  one_first f g x y =
      elim (cases_order (number f) (number g)) [
        | inl n ↦ elim (cases_order (place f) (place g)) [
          | inl p ↦ same_fault f g n p
          | inr (inl p) ↦ absurd (y.1 f (inr (n, p)) x.0)
          | inr (inr p) ↦ absurd (x.1 g (inr (sym n, p)) y.0)
        ]
        | inr (inl n) ↦ absurd (y.1 f (inl n) x.0)
        | inr (inr n) ↦ absurd (x.1 g (inl n) y.0)
      ]

  settled : (o : Option CodeFault) → admission h es ks ≡ o → (f : CodeFault) → FirstBad h es ks f → o ≡ Some f
  settled None e f x = absurd (none_bad e f x.0)
  settled (Some g) e f x = ap Some (one_first g f (refused_first g e) x)

  granted_by : (o : Option CodeFault) → admission h es ks ≡ o → Rules h es ks → o ≡ None
  granted_by None e r = refl
  granted_by (Some f) e r = absurd (rules_good h es ks r f (refused_first f e).0)

  none_from : (o : Option CodeFault) → granted o ≡ true → o ≡ None
  none_from None e = refl
  none_from (Some f) e = absurd (both_ways false refl e)

  -- the rules, from the invariant of a code
  pub rules_of : granted (admission h es ks) ≡ true → Rules h es ks
  rules_of e = rules_from h es ks (none_bad (none_from _ e))

  pub admitted_exactly : Exactly (admission h es ks ≡ None) (Rules h es ks)
  admitted_exactly = ((λ e. rules_from h es ks (none_bad e)), granted_by (admission h es ks) refl)

  pub refused_exactly : (f : CodeFault) → Exactly (admission h es ks ≡ Some f) (FirstBad h es ks f)
  refused_exactly f = (refused_first f, settled (admission h es ks) refl f)

  -- the same of the answer that is given
  verdict_ok : (o : Option CodeFault) → verdict o ≡ Ok tt → o ≡ None
  verdict_ok None e = refl
  verdict_ok (Some f) e = absurd (let z : ◌≡◌ {A = ℕ} 0 1 = cc in omega arith)

  verdict_err : (o : Option CodeFault) (f : CodeFault) → verdict o ≡ Err f → o ≡ Some f
  verdict_err None f e = absurd (let z : ◌≡◌ {A = ℕ} 0 1 = cc in omega arith)
  verdict_err (Some g) f e = cc

  module _ (o : Option CodeFault) (e : o ≡ admission h es ks) where
    pub answer_at : verdict o ≡ verdict (admission h es ks)
    answer_at = ap verdict e

    pub law_at : GrantedByTheRules h es ks (verdict o)
    law_at = ((λ k. admitted_exactly.0 (sym e ∙ verdict_ok o k)), (λ u. answer_at ∙ ap verdict (admitted_exactly.1 u)))

    pub place_at : RefusedAtTheFirst h es ks (verdict o)
    place_at f = ((λ k. (refused_exactly f).0 (sym e ∙ verdict_err o f k)), (λ u. answer_at ∙ ap verdict ((refused_exactly f).1 u)))
