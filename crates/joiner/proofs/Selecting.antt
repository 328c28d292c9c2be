-- The entries up to the level give the whole join. Assumes nothing.
use Rattle.std.proofs.Common.{◌≡◌, ℕ, ◌+◌, ◌-◌, ◌<◌, ◌≤◌, ◌⊎◌, List, get_or, replicate, sym, refl, ap, ◌∙◌, subst, inl, inr, arith}
use Rattle.std.proofs.lemmas.Bool.{cases_lt, le-leb, leb-true}
use Rattle.field.specs.Tables.{Tables, Lawful}
use Rattle.joiner.specs.Costs.{Low}
use Rattle.joiner.specs.Joined.{joined_at, joined_of, Reaches}
use Rattle.joiner.specs.Level.{is_chosen, chosen, level_of}
use Rattle.joiner.specs.Loops.{listed, combined}
use Rattle.joiner.proofs.Joining.{joined_under, joined_reached, joined_by}
use Rattle.joiner.proofs.Combining.{Fit, fit_none, fit, under, settled}
use Rattle.joiner.specs.Counts.{all_listed, in_listed, level_is}
use Rattle.joiner.proofs.Pigeon.{pigeon}

module _ (t : Tables) (laws : Lawful t) (top level : ℕ) (one : 1 ≤ top) (l r : List ℕ) (hl : Low top l) (hr : Low top r)
    (enough : (level ≡ top - 1) ⊎ (t.order + 1 ≤ chosen t.order l level + chosen t.order r level)) where
  -- a join at or below the level comes of a chosen pair; above it there is none but the ceiling
  chosen_or_top : (a : ℕ) → a < t.order → (w : Reaches t l r a (joined_at t l r a)) → ((get_or l w.0 0 ≤ level) × (get_or r w.1 0 ≤ level)) ⊎ (top ≤ joined_at t l r a)
  unfolding chosen
  chosen_or_top a h w = go (cases_lt level (joined_at t l r a)) enough
    where
      go : (level < joined_at t l r a) ⊎ (joined_at t l r a ≤ level) → (level ≡ top - 1) ⊎ (t.order + 1 ≤ chosen t.order l level + chosen t.order r level) →
          ((get_or l w.0 0 ≤ level) × (get_or r w.1 0 ≤ level)) ⊎ (top ≤ joined_at t l r a)
      go (inr k) e = inl (omega (arith, w.5), omega (arith, w.5))
      go (inl k) (inl e) = inr (omega arith)
      go (inl k) (inr e) =
          let p = pigeon t.order t laws refl (is_chosen l level) (is_chosen r level) e a h in
          let x = leb-true (get_or l p.0 0) level p.5 in
          let y = leb-true (get_or r p.1 0) level p.6 in
          let u = joined_under t l r a p.0 p.1 p.2 p.3 p.4 in
          absurd (let z : ⊥ = omega arith in z)

  abbrev lefts : List ℕ
  lefts = listed (is_chosen l level) t.order

  abbrev rights : List ℕ
  rights = listed (is_chosen r level) t.order

  selected_by : (n : ℕ) → n ≡ t.order → combined t l r lefts rights (replicate n top) ≡ joined_of t l r
  selected_by n e = joined_by t l r third F.long (λ a h. settled t laws top l r hl hr third F a h (low a h (joined_reached t l r laws a h)))
    where
      third : List ℕ
      third = combined t l r lefts rights (replicate n top)

      F : Fit t laws top l r (combined t l r lefts rights (replicate n top))
      F = fit t laws top l r rights (all_listed (is_chosen r level) t.order) lefts (replicate n top) (all_listed (is_chosen l level) t.order) (fit_none t laws top l r n e)

      low : (a : ℕ) → a < t.order → Reaches t l r a (joined_at t l r a) → (get_or (combined t l r lefts rights (replicate n top)) a 0 ≤ joined_at t l r a) ⊎ (top ≤ joined_at t l r a)
      low a h w = go (chosen_or_top a h w)
        where
          go : ((get_or l w.0 0 ≤ level) × (get_or r w.1 0 ≤ level)) ⊎ (top ≤ joined_at t l r a) → (get_or (combined t l r lefts rights (replicate n top)) a 0 ≤ joined_at t l r a) ⊎ (top ≤ joined_at t l r a)
          go (inr k) = inr k
          go (inl k) =
              let u = under t laws top l r rights (all_listed (is_chosen r level) t.order) lefts (replicate n top) (all_listed (is_chosen l level) t.order) (fit_none t laws top l r n e) w.0 w.1
              (in_listed (is_chosen l level) t.order w.0 w.2 (le-leb (get_or l w.0 0) level k.0)) (in_listed (is_chosen r level) t.order w.1 w.3 (le-leb (get_or r w.1 0) level k.1)) in
              inl (subst (λ x. get_or (combined t l r lefts rights (replicate n top)) x 0 ≤ joined_at t l r a) w.4 (subst (λ v. get_or (combined t l r lefts rights (replicate n top)) (t.sum w.0 w.1) 0 ≤ v) w.5 u))

-- what is combined up to the level, from a target full of the ceiling, is the join
pub selected : (t : Tables) → Lawful t → (top level : ℕ) (l r blank last : List ℕ) (n : ℕ) → 1 ≤ top → Low top l → Low top r → n ≡ t.order → level ≡ level_of t.order top l r →
    blank ≡ replicate n top → last ≡ combined t l r (listed (is_chosen l level) t.order) (listed (is_chosen r level) t.order) blank → last ≡ joined_of t l r
selected t laws top level l r blank last n one hl hr en el eb e =
    e ∙ ap (combined t l r (listed (is_chosen l level) t.order) (listed (is_chosen r level) t.order)) eb
    ∙ selected_by t laws top level one l r hl hr (subst (λ v. (v ≡ top - 1) ⊎ (t.order + 1 ≤ chosen t.order l v + chosen t.order r v)) (sym el) (level_is t.order top l r).enough) n en
