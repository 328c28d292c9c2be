-- Entries of codes: how they combine, and that their codes are below q. Assumes nothing.
use Rattle.std.proofs.Common.{◌≡◌, ℕ, Bool, ◌+◌, ◌*◌, ◌<◌, ◌≤◌, Some, List, [], ◌∷◌, map, length, get_or, set, take, All, ◌≢◌, ◌⊎◌, inl, inr, refl, sym, ap, ap₂, ◌∙◌, subst, add-mul, one-mul, arith}
use Rattle.std.specs.List.{range_with_len, slice_get, fold}
use Rattle.std.proofs.lemmas.List.{get_or-map, length-map, length-take, length-take-le, get_or-take, get_or-set_same, get_or-set_other, take-set}
use Rattle.std.proofs.lemmas.List.FromFn.{fill_by_all, length-range_with_len, length-map-range_with_len, get_or-map-range_with_len}
use Rattle.std.proofs.lemmas.List.Sums.{fold_more}
use Rattle.std.proofs.lemmas.List.Elements.{All-map}
use Rattle.std.proofs.lemmas.Option.{slice_get_within, slice_get-get_or, get_or_from_slice_get}
use Rattle.std.proofs.lemmas.Bool.{cases_lt}
use Rattle.field.specs.Tables.{Tables}
use Rattle.joiner.specs.Loops.{listed, Picked, entries_in, rowed, combined, entries_of, Below, lowered_by, row_of, pairs_of}
use Rattle.joiner.specs.declared.entry.Entry.{Entry}
use Rattle.joiner.specs.Level.{is_chosen, chosen}
use Rattle.joiner.specs.Counts.{number_chosen, count_le, length_listed, all_listed}
use Rattle.joiner.specs.Members.{all_codes}

-- ---- which entries
abbrev at_code : List ℕ → ℕ → Entry
at_code costs c = record { code = c; cost = get_or costs c 0 }

pub below : (q : ℕ) (costs codes : List ℕ) → length codes ≤ 64 → All (λ c. c < q) codes → Below q (entries_of costs codes)
below q costs codes few h = (omega (arith, length-map codes (at_code costs)), All-map (λ (e : Entry). e.code < q) (at_code costs) codes h)

module _ (f : ℕ → Entry) (n : ℕ) where
  pub made_long : length (map f (range_with_len 0 n)) ≡ n
  made_long = length-map-range_with_len f 0 n

  pub made_at : (k : ℕ) → k < n → slice_get (map f (range_with_len 0 n)) k ≡ Some (f k)
  made_at k h =
      slice_get-get_or (map f (range_with_len 0 n)) k (f k) (omega (arith, made_long))
      ∙ ap Some (get_or-map-range_with_len f 0 n k k (f k) h (omega arith))

pub all_long : (costs : List ℕ) (n : ℕ) → length (entries_of costs (range_with_len 0 n)) ≡ n
all_long costs n = made_long (at_code costs) n

pub all_at : (costs : List ℕ) (n k : ℕ) → k < n → slice_get (entries_of costs (range_with_len 0 n)) k ≡ Some (at_code costs k)
all_at costs n k h = made_at (at_code costs) n k h

-- codes beside their costs are entries of those codes
abbrev pub in_place : List ℕ → List ℕ → ℕ → Entry
in_place codes picked k = record { code = get_or codes k 0; cost = get_or picked k 0 }

pub picked_are : (costs codes picked : List ℕ) (n : ℕ) → n ≤ length codes → Picked costs (take n codes) picked → entries_in codes picked n ≡ entries_of costs (take n codes)
picked_are costs codes picked n h p = sym (fill_by_all (in_place codes picked) (entries_of costs (take n codes)) n none long same)
  where
    none : Entry
    none = record { code = 0; cost = 0 }

    long : length (entries_of costs (take n codes)) ≡ n
    long = length-map (take n codes) (at_code costs) ∙ length-take-le n codes h

    same : (k : ℕ) → k < n → get_or (entries_of costs (take n codes)) k none ≡ in_place codes picked k
    same k l =
        let m : k < length (take n codes) = omega (arith, length-take-le n codes h) in
        get_or-map (at_code costs) (take n codes) k 0 none m
        ∙ ap₂ (λ (a x : ℕ). let e : Entry = record { code = a; cost = x } in e) (get_or-take n codes k 0 l) (sym (p k m))

-- what is picked of the codes in front, one code more
pub picked_more : (costs codes picked : List ℕ) (n a : ℕ) → n < length codes → n < length picked → Picked costs (take n codes) picked →
    Picked costs (take (n + 1) (set codes n a)) (set picked n (get_or costs a 0))
picked_more costs codes picked n a h m p k l = go (cases_lt k n)
  where
    short : k < n + 1
    short = omega (arith, l, length-take (n + 1) (set codes n a))

    go : (k < n) ⊎ (n ≤ k) → get_or (set picked n (get_or costs a 0)) k 0 ≡ get_or costs (get_or (take (n + 1) (set codes n a)) k 0) 0
    go (inl b) =
        get_or-set_other picked n k _ 0 (let ne : k ≢ n = omega arith in ne)
        ∙ p k (omega (arith, length-take-le n codes (omega arith)))
        ∙ ap (λ c. get_or costs c 0) (get_or-take n codes k 0 b ∙ sym (get_or-take (n + 1) (set codes n a) k 0 short ∙ get_or-set_other codes n k a 0 (let ne : k ≢ n = omega arith in ne)))
    go (inr b) =
        subst (λ j. get_or (set picked n (get_or costs a 0)) j 0 ≡ get_or costs (get_or (take (n + 1) (set codes n a)) j 0) 0) (let e : n ≡ k = omega (arith, short) in e)
        (get_or-set_same picked n (get_or costs a 0) 0 m ∙ ap (λ c. get_or costs c 0) (sym (get_or-take (n + 1) (set codes n a) n 0 (omega arith) ∙ get_or-set_same codes n a 0 h)))

-- and no more where the code is not chosen
pub picked_same : (costs codes picked : List ℕ) (n a x : ℕ) → Picked costs (take n codes) picked → Picked costs (take n (set codes n a)) (set picked n x)
picked_same costs codes picked n a x p k l =
    let short : k < n = omega (arith, l, length-take n (set codes n a)) in
    let ne : k ≢ n = omega arith in
    get_or-set_other picked n k x 0 ne ∙ p k (omega (arith, l, ap length (take-set codes n a))) ∙ ap (λ cs. get_or costs (get_or cs k 0) 0) (sym (take-set codes n a))

-- all entries of a vector of q costs, and those that are not above a level
pub below_all : (q : ℕ) (costs : List ℕ) → length costs ≡ q → q ≤ 64 → Below q (entries_of costs (range_with_len 0 (length costs)))
below_all q costs e h =
    subst (λ n. Below q (entries_of costs (range_with_len 0 n))) (sym e) (below q costs (range_with_len 0 q) (omega (arith, length-range_with_len 0 q)) (all_codes q))

pub below_chosen : (q : ℕ) (costs : List ℕ) (level : ℕ) → length costs ≡ q → q ≤ 64 → Below q (entries_of costs (listed (is_chosen costs level) (length costs)))
below_chosen q costs level e h =
    let test : ℕ → Bool = is_chosen costs level in
    subst (λ n. Below q (entries_of costs (listed test n))) (sym e) (below q costs (listed test q) (omega (arith, length_listed test q, count_le q test)) (all_listed test q))

pub chosen_long : (q : ℕ) (costs : List ℕ) (level : ℕ) → length costs ≡ q → length (entries_of costs (listed (is_chosen costs level) (length costs))) ≡ chosen q costs level
chosen_long q costs level e =
    let codes = listed (is_chosen costs level) (length costs) in
    length-map codes (at_code costs) ∙ number_chosen costs level q codes (ap (listed (is_chosen costs level)) e)

-- ---- one turn of a loop over entries
pub turn : {X Y : Type 0} (f : Y → X → Y) (first here next : Y) (xs : List X) (k : ℕ) (x : X) → slice_get xs k ≡ Some x → here ≡ fold f first (take k xs) → next ≡ f here x → next ≡ fold f first (take (k + 1) xs)
turn f first here next xs k x s inv e =
    e ∙ ap (λ y. f y x) inv ∙ ap (f (fold f first (take k xs))) (sym (get_or_from_slice_get xs k x x s)) ∙ sym (fold_more f first xs k x (slice_get_within xs k x s))

-- one row's pairs more
pub pairs_more : (i n pairs row : ℕ) → pairs ≡ i * n → row ≡ n → pairs + row ≡ (i + 1) * n
pairs_more i n pairs row e k = ap₂ ◌+◌ e (k ∙ sym (one-mul n)) ∙ sym (add-mul i 1 n)

-- ---- the pairs of entries are those of their codes
module _ (t : Tables) (left right : List ℕ) where
  row_is : (b : ℕ) (cs third : List ℕ) → row_of t (at_code left b) (entries_of right cs) third ≡ rowed t left right b cs third
  unfolding rowed
  row_is b [] third = refl
  row_is b (c ∷ cs) third = row_is b cs (lowered_by t (at_code left b) third (at_code right c))

  pub pairs_are : (bs cs third : List ℕ) → pairs_of t (entries_of left bs) (entries_of right cs) third ≡ combined t left right bs cs third
  unfolding combined
  pairs_are [] cs third = refl
  pairs_are (b ∷ bs) cs third = pairs_are bs cs (row_of t (at_code left b) (entries_of right cs) third) ∙ ap (combined t left right bs cs) (row_is b cs third)
