-- The whole of encoding: reduce, place, finish. Assumes nothing.
use Rattle.std.proofs.Common.{◌≡◌, ℕ, ◌<◌, ◌≤◌, Bool, true, false, not, List, length, get_or, Option, sym, refl, ap, ◌∙◌, arith}
use Rattle.field.specs.Tables.{Tables, Lawful}
use Rattle.linear.specs.Columns.{combined, information_columns, Carries}
use Rattle.linear.specs.Count.{count}
use Rattle.linear.specs.Elimination.{Reduced, Filled}
use Rattle.linear.specs.Encoded.{Encoded}
use Rattle.linear.specs.Filling.{owned_by, free_of, Placed, FilledTo, Gathered}
use Rattle.linear.specs.Words.{Codes, Entries}
use Rattle.linear.proofs.Tests.{no_both}
use Rattle.linear.proofs.Counts.{count_same}
use Rattle.linear.proofs.Reduce.{mx}
use Rattle.linear.proofs.Filled.{filled_codeword}
use Rattle.linear.proofs.Placing.{combined_is, owned_yes, owned_none, placed_code}
use Rattle.linear.proofs.Encoding.{encoding_stands}

module _ (t : Tables) (l : Lawful t) (m n : ℕ) (G R : ℕ → ℕ → ℕ) (E : Entries t.order (mx m n G)) (owner : List (Option ℕ)) (red : Reduced t (mx m n G) (mx m n R) 0 owner) where
  free_same : (c : ℕ) → c ≤ n → count c (combined t (mx m n G)) ≡ count c (free_of owner m)
  free_same c h = count_same c (combined t (mx m n G)) (free_of owner m) (λ x k. combined_is t l m n G R E owner red x (omega arith))

  pub how_many : information_columns t (mx m n G) ≡ count n (free_of owner m)
  how_many = free_same n (omega arith)

  module _ (s b w : List ℕ) (codes : (i : ℕ) → i < length s → get_or s i 0 < t.order) (enough : length s ≡ count n (free_of owner m)) (long : length b ≡ n)
      (placed : Placed m owner s b n) (done : FilledTo t (mx m n R) owner b w m) where
    pub b_codes : Codes t.order n b
    b_codes = placed_code t.order m owner s b n (let h = l.low in omega arith) long placed codes enough

    whole_filled : Filled t (mx m n R) owner b w
    whole_filled = record {
      rest = λ j h f. done.rest j h f;
      asked = λ r p h o. (placed.owned p (red.owned r p h o).high (owned_yes owner m p r h o), done.asked r p h o);
    }

    carried : Carries t (mx m n G) w s
    carried c h e = go (owned_by owner m c) refl
      where
        free : free_of owner m c ≡ true
        free = sym (combined_is t l m n G R E owner red c h) ∙ e

        go : (x : Bool) → owned_by owner m c ≡ x → get_or w c 0 ≡ get_or s (count c (combined t (mx m n G))) 0
        go true o = absurd (no_both free (ap not o))
        go false o = done.rest c h (owned_none owner m c o) ∙ placed.free c h o ∙ ap (λ (k : ℕ). get_or s k 0) (sym (free_same c (omega arith)))

    pub whole : Encoded t (mx m n G) s w
    whole =
        let w₀ = encoding_stands t l (mx m n G) E s (record { long = enough ∙ sym how_many; below = λ i h. codes i (let q = enough in let r = how_many in omega arith) }) in
        let word = filled_codeword t l m n G E R owner red b w b_codes done.codes whole_filled in
        record {
          codeword = word;
          carries = carried;
          alone = λ v cv sv. w₀.1.alone v cv sv ∙ sym (w₀.1.alone w word carried);
        }

  pub gathered_carries : (s w : List ℕ) → Gathered m owner w s n → Carries t (mx m n G) w s
  gathered_carries s w g c h e = go (owned_by owner m c) refl
    where
      free : free_of owner m c ≡ true
      free = sym (combined_is t l m n G R E owner red c h) ∙ e

      go : (x : Bool) → owned_by owner m c ≡ x → get_or w c 0 ≡ get_or s (count c (combined t (mx m n G))) 0
      go true o = absurd (no_both free (ap not o))
      go false o = g.symbol c h o ∙ ap (λ (k : ℕ). get_or s k 0) (sym (free_same c (omega arith)))
