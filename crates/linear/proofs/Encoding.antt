-- The theorems on every matrix, from those over any field. Assumes nothing.
use Rattle.std.proofs.Common.{◌≡◌, ℕ, ◌<◌, ◌≤◌, Bool, true, false, cond, ltb, List, map, get_or, sym, refl, ap, ◌∙◌, subst, ap₂, arith}
use native.Mathlib.Decide.{dec_lt}
use Rattle.std.specs.List.{range_with_len}
use Rattle.std.proofs.lemmas.List.FromFn.{length-map-range_with_len, get_or-map-range_with_len, fill_by_all}
use Rattle.field.specs.Tables.{Tables, Lawful}
use Rattle.linear.specs.Columns.{higher_sum, combined, check_columns, information_columns}
use Rattle.linear.specs.Count.{count}
use Rattle.linear.specs.Encoded.{Encoded}
use Rattle.linear.specs.Laws.{Counted}
use Rattle.linear.specs.Rank.{Vanishing, Independent, Rank}
use Rattle.linear.specs.Rows.{rows_sum, Dependent}
use Rattle.linear.specs.Words.{Codes, Matrix, Entries, Codeword, row_sum}
use Rattle.linear.proofs.Tests.{no_both}
use Rattle.linear.proofs.Counts.{count_below, count_both}
use Rattle.linear.proofs.Sums.{sum, dot}
use Rattle.linear.proofs.Words as words
use Rattle.linear.proofs.Words.{Solves, Tells, some_word_is, alone}
use Rattle.linear.proofs.Higher.{word, factors, combined_leads, leads_combined}
use Rattle.linear.proofs.Rank.{Apart, apart_few, rank_reached, checks_most, all_apart, all_checks}
use Rattle.linear.proofs.Coded.{Below, below_path, times, nought, codes_field, code, code_is, total_is}
use Rattle.linear.proofs.Search.{columns_told, rows_told}
use Rattle.linear.proofs.RankFound.{rank_value}

module _ (t : Tables) (l : Lawful t) where
  -- a list and a word over the field that are the same
  abbrev pub As : ℕ → List ℕ → (ℕ → Below t.order) → Type 0
  As n v w = (c : ℕ) → c < n → get_or v c 0 ≡ (w c).0

  pub held : List ℕ → ℕ → Below t.order
  held v c = code t l (get_or v c 0)

  pub listed : ℕ → (ℕ → Below t.order) → List ℕ
  listed n w = map (λ j. (w j).0) (range_with_len 0 n)

  pub as_held : (n : ℕ) (v : List ℕ) → Codes t.order n v → As n v (held v)
  unfolding held
  as_held n v k c h = sym (code_is t l (get_or v c 0) (k.below c h))

  pub as_listed : (n : ℕ) (w : ℕ → Below t.order) → As n (listed n w) w
  unfolding listed
  as_listed n w c h = get_or-map-range_with_len (λ j. (w j).0) 0 n c c 0 h (omega arith)

  pub codes_listed : (n : ℕ) (w : ℕ → Below t.order) → Codes t.order n (listed n w)
  unfolding listed
  codes_listed n w = record { long = length-map-range_with_len (λ j. (w j).0) 0 n; below = λ i h. subst (λ (x : ℕ). x < t.order) (sym (as_listed n w i h)) (w i).1 }

  module _ (H : Matrix) (E : Entries t.order H) where
    pub coded : ℕ → ℕ → Below t.order
    coded r c = code t l (H.entry r c)

    pub coded_is : (r c : ℕ) → r < H.rows → c < H.columns → H.entry r c ≡ (coded r c).0
    unfolding coded
    coded_is r c h k = sym (code_is t l (H.entry r c) (E.below r c h k))

    pub row_as : (v : List ℕ) (w : ℕ → Below t.order) → As H.columns v w → (r : ℕ) → r < H.rows → row_sum t H v r ≡ (dot (codes_field t l) H.columns (coded r) w).0
    row_as v w a r h = total_is t l H.columns (λ c. t.product (H.entry r c) (get_or v c 0)) (λ c. times t l (coded r c) (w c)) (λ c k. ap₂ t.product (coded_is r c h k) (a c k))

    rows_as : (v : List ℕ) (w : ℕ → Below t.order) → As H.rows v w → (c : ℕ) → c < H.columns → rows_sum t H v c ≡ (dot (codes_field t l) H.rows (λ r. coded r c) w).0
    rows_as v w a c h = total_is t l H.rows (λ r. t.product (get_or v r 0) (H.entry r c)) (λ r. times t l (coded r c) (w r))
        (λ r k. ap₂ t.product (a r k) (coded_is r c k h) ∙ l.product_comm (w r).0 (coded r c).0 (w r).1 (coded r c).1)

    higher_as : (v : List ℕ) (w : ℕ → Below t.order) → As H.columns v w → (c r : ℕ) → r < H.rows →
        higher_sum t H v c r ≡ (sum (codes_field t l) H.columns (λ j. cond (ltb c j) (times t l (w j) (coded r j)) (nought t l))).0
    higher_as v w a c r h = total_is t l H.columns (λ j. cond (ltb c j) (t.product (get_or v j 0) (H.entry r j)) 0) (λ j. cond (ltb c j) (times t l (w j) (coded r j)) (nought t l))
        (λ j k. at (ltb c j) (t.product (get_or v j 0) (H.entry r j)) (times t l (w j) (coded r j)) (ap₂ t.product (a j k) (coded_is r j h k)))
      where
        at : (b : Bool) (x : ℕ) (y : Below t.order) → x ≡ y.0 → cond b x 0 ≡ (cond b y (nought t l)).0
        at true x y e = e
        at false x y e = refl

    pub told : Tells (codes_field t l) coded H.rows H.columns (combined t H)
    told = record {
      leads = λ c h e.
          let f = (columns_told t H c).combination e in (
            word (codes_field t l) coded H.rows H.columns c h (held f.0),
            combined_leads (codes_field t l) coded H.rows H.columns c h (held f.0)
                (λ r k. below_path (coded r c) _ (sym (coded_is r c k h) ∙ f.1.equal r k ∙ higher_as f.0 (held f.0) (as_held H.columns f.0 f.1.codes) c r k)),
          );
      none = λ c h e led.
          let f = factors (codes_field t l) coded H.rows H.columns c h led.0 in
          let g = listed H.columns f in
          (columns_told t H c).none e g (record {
            codes = codes_listed H.columns f;
            equal = λ r k.
                coded_is r c k h ∙ ap (λ (x : Below t.order). x.0) (leads_combined (codes_field t l) coded H.rows H.columns c h led.0 led.1 r k)
                ∙ sym (higher_as g f (as_listed H.columns f) c r k);
          });
    }

    pub codeword_solves : (v : List ℕ) → Codeword t H v → Solves (codes_field t l) coded H.rows H.columns (held v)
    codeword_solves v w r h = below_path (dot (codes_field t l) H.columns (coded r) (held v)) (nought t l) (sym (row_as v (held v) (as_held H.columns v w.codes) r h) ∙ w.holds r h)

    pub solves_codeword : (w : ℕ → Below t.order) → Solves (codes_field t l) coded H.rows H.columns w → Codeword t H (listed H.columns w)
    solves_codeword w s = record { codes = codes_listed H.columns w; holds = λ r h. row_as (listed H.columns w) w (as_listed H.columns w) r h ∙ ap (λ (x : Below t.order). x.0) (s r h) }

    pub solves_held : (v : List ℕ) → Codes t.order H.columns v → Solves (codes_field t l) coded H.rows H.columns (held v) → Codeword t H v
    solves_held v k s = record { codes = k; holds = λ r h. row_as v (held v) (as_held H.columns v k) r h ∙ ap (λ (x : Below t.order). x.0) (s r h) }

    apart_independent : (chosen : ℕ → Bool) → Apart (codes_field t l) coded H.rows H.columns chosen → Independent t H chosen
    apart_independent chosen a g v r h =
        as_held H.rows g v.codes r h ∙ ap (λ (x : Below t.order). x.0) (a (held g)
        (λ c k. below_path (dot (codes_field t l) H.rows (λ r. coded r c) (held g)) (nought t l) (sym (rows_as g (held g) (as_held H.rows g v.codes) c k) ∙ v.zero_row c k))
        (λ x k e. below_path (held g x) (nought t l) (sym (as_held H.rows g v.codes x k) ∙ v.within x k e)) r h)

    vanishing : (chosen : ℕ → Bool) (g : ℕ → Below t.order) → Solves (codes_field t l) (λ c r. coded r c) H.columns H.rows g → ((r : ℕ) → r < H.rows → chosen r ≡ false → g r ≡ nought t l) →
        Vanishing t H chosen (listed H.rows g)
    vanishing chosen g s z = record {
      codes = codes_listed H.rows g;
      within = λ r h e. as_listed H.rows g r h ∙ ap (λ (x : Below t.order). x.0) (z r h e);
      zero_row = λ c h. rows_as (listed H.rows g) g (as_listed H.rows g) c h ∙ ap (λ (x : Below t.order). x.0) (s c h);
    }

    independent_apart : (chosen : ℕ → Bool) → Independent t H chosen → Apart (codes_field t l) coded H.rows H.columns chosen
    independent_apart chosen i g s z r h =
        below_path (g r) (nought t l) (sym (as_listed H.rows g r h) ∙ i (listed H.rows g) (vanishing chosen g s z) r h)

    encoded : (s : List ℕ) → Codes t.order (information_columns t H) s → (w : List ℕ) × Encoded t H s w
    unfolding listed
    encoded s k = (
      listed H.columns w.0,
      record {
        codeword = solves_codeword w.0 w.1.solves;
        carries = λ c h e. as_listed H.columns w.0 c h ∙ ap (λ (x : Below t.order). x.0) (w.1.carries c h e) ∙ symbol c h e;
        alone = λ v cv sv. fill_by_all (λ j. (w.0 j).0) v H.columns 0 cv.codes.long (λ c h.
            as_held H.columns v cv.codes c h ∙ ap (λ (x : Below t.order). x.0)
            (alone (codes_field t l) coded H.rows H.columns (combined t H) told (held v) w.0 (codeword_solves v cv) w.1.solves
            (λ j i e. below_path (held v j) (w.0 j) (sym (as_held H.columns v cv.codes j i) ∙ sv j i e ∙ sym (symbol j i e) ∙ ap (λ (x : Below t.order). x.0) (sym (w.1.carries j i e)))) c h));
      },
    )
      where
        σ : ℕ → Below t.order
        σ c = code t l (get_or s (count c (combined t H)) 0)

        symbol : (c : ℕ) → c < H.columns → combined t H c ≡ true → (σ c).0 ≡ get_or s (count c (combined t H)) 0
        symbol c h e = code_is t l (get_or s (count c (combined t H)) 0) (k.below (count c (combined t H)) (count_below H.columns c (combined t H) h e))

        w : (u : ℕ → Below t.order) × words.Carries (codes_field t l) coded H.rows H.columns (combined t H) told σ H.columns u
        w = some_word_is (codes_field t l) coded H.rows H.columns (combined t H) told σ

pub encoding_stands : (t : Tables) → Lawful t → (H : Matrix) → Entries t.order H → (s : List ℕ) → Codes t.order (information_columns t H) s → (w : List ℕ) × Encoded t H s w
encoding_stands t l H E s k = encoded t l H E s k

abbrev turned : Matrix → Matrix
turned H = record { rows = H.columns; columns = H.rows; entry = λ c r. H.entry r c }

turned_told : (t : Tables) (l : Lawful t) (H : Matrix) (E : Entries t.order H) →
    Tells (codes_field t l) (λ c r. coded t l H E r c) H.columns H.rows (combined t (turned H))
unfolding coded
turned_told t l H E = told t l (turned H) (record { below = λ c r h k. E.below r c k h })

module _ (t : Tables) (l : Lawful t) (H : Matrix) (E : Entries t.order H) where
  reached : (chosen : ℕ → Bool) × (count H.rows chosen ≡ check_columns t H) × Apart (codes_field t l) (coded t l H E) H.rows H.columns chosen
  reached = rank_reached (codes_field t l) (coded t l H E) H.rows H.columns (combined t H) (combined t (turned H)) (told t l H E) (turned_told t l H E)

  rank_is : Rank t H (check_columns t H)
  rank_is = record {
    chosen = reached.0;
    many = reached.1;
    independent = apart_independent t l H E reached.0 reached.2;
    most = λ other i. apart_few (codes_field t l) (coded t l H E) H.rows H.columns (combined t H) (told t l H E) other (independent_apart t l H E other i);
  }

  not_more : check_columns t H ≤ H.rows
  not_more = checks_most (codes_field t l) (coded t l H E) H.rows H.columns (combined t H) (combined t (turned H)) (told t l H E) (turned_told t l H E)

  fewer_checks : Dependent t H → check_columns t H < H.rows
  fewer_checks d = go (dec_lt (check_columns t H) H.rows)
    where
      go : Dec (check_columns t H < H.rows) → check_columns t H < H.rows
      go (yes h) = h
      go (no h) =
          let n = not_more in
          let e : check_columns t H ≡ H.rows = omega arith in
          absurd (d.not_zero (apart_independent t l H E (λ r. true)
          (all_checks (codes_field t l) (coded t l H E) H.rows H.columns (combined t H) (combined t (turned H)) (told t l H E) (turned_told t l H E) e)
          d.factors (record { codes = d.codes; within = λ r h e. absurd (no_both refl e); zero_row = d.zero_row }) d.row d.row_below))

  equal_checks : (Dependent t H → ⊥) → check_columns t H ≡ H.rows
  equal_checks n =
      all_apart (codes_field t l) (coded t l H E) H.rows H.columns (combined t H) (combined t (turned H)) (told t l H E) (turned_told t l H E)
      (λ g s z r h. go g s z r h ((codes_field t l).same (g r) (nought t l)))
    where
      go : (g : ℕ → Below t.order) → Solves (codes_field t l) (λ c r. coded t l H E r c) H.columns H.rows g → ((r : ℕ) → r < H.rows → true ≡ false → g r ≡ nought t l) →
          (r : ℕ) → r < H.rows → Dec (g r ≡ nought t l) → g r ≡ nought t l
      go g s z r h (yes e) = e
      go g s z r h (no d) = absurd (n (record {
        factors = listed t l H.rows g;
        codes = (vanishing t l H E (λ r. true) g s z).codes;
        zero_row = (vanishing t l H E (λ r. true) g s z).zero_row;
        row = r;
        row_below = h;
        not_zero = λ e. d (below_path (g r) (nought t l) (sym (as_listed t l H.rows g r h) ∙ e));
      }))

pub counted_stands : (t : Tables) → Lawful t → (H : Matrix) → Entries t.order H → Counted t H
counted_stands t l H E = record {
  all = count_both H.columns (combined t H);
  rank = rank_is t l H E;
  rank_value = rank_value t H (check_columns t H) (rank_is t l H E);
  fewer = λ e. fewer_checks t l H E ((rows_told t H).some e);
  equal = λ e. equal_checks t l H E ((rows_told t H).none e);
}
