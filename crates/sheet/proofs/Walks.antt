-- One line of a walk over the text, and the tables that are filled so far.
use Rattle.std.proofs.Common.{◌≡◌, ℕ, suc, ◌+◌, ◌-◌, ◌<◌, ◌≤◌, Bool, true, false, eqb, List, [], ◌∷◌, ◌++◌, length, get_or, take, drop, set, Ok, Err, Result, sym, refl, ap, ◌∙◌, arith}
use Rattle.std.proofs.lemmas.List.{append-nil, append_assoc, take-append-drop, drop-drop, length-drop, length-append, length-take-le, take_at, take_more_set, drop-set-lt, at_drop_all, length-set}
use Rattle.code.specs.declared.table.Edge.{Edge}
use Rattle.code.specs.declared.table.Entry.{Entry}
use Rattle.code.specs.declared.table.Header.{Header}
use Rattle.sheet.specs.declared.fault.Place.{Place}
use Rattle.sheet.specs.declared.fault.SheetFault.{SheetFault}
use Rattle.sheet.specs.declared.fault.SheetFault.TheVariants.{Ends, Full}
use Rattle.sheet.specs.declared.line.Due.{Due}
use Rattle.sheet.specs.declared.line.Due.TheVariants as due
use Rattle.sheet.specs.declared.line.Record.TheVariants as rec
use Rattle.sheet.specs.Pieces.{cut, split, first, lines, fields}
use Rattle.sheet.specs.Lines.{header_line, record_line}
use Rattle.sheet.specs.declared.read.Filled.{Filled}
use Rattle.sheet.specs.Reading.{Reading, ended, with_edge, with_entry, below, closing, step, walk, tables, onward, top, from, reading, filled, counted, filled_of}
use Rattle.sheet.proofs.Splits.{first_is, split_some, split_rest, split_last}

-- a line with others below it
pub walk_cons : (l : List ℕ) (ls : List (List ℕ)) (h : Header) (d : Due) (p : Place) (e k : ℕ) → ls ≡ get_or ls 0 [] ∷ drop 1 ls → walk (l ∷ ls) h d p e k ≡ step (record_line d h p (fields l)) p e k (closing ls h (below l p)) (λ d' e' k'. walk ls h d' (below l p) e' k')
unfolding walk
walk_cons l [] h d p e k s = absurd (let z : ◌≡◌ {A = ℕ} 0 1 = cc in omega arith)
walk_cons l (m ∷ ms) h d p e k s = refl

-- the line at byte b of the text, which ends at byte end
module _ (text : List ℕ) (h : Header) (d : Due) (p : Place) (e k b end : ℕ) (line : List ℕ) (next : Place) where
  -- what is known of such a line
  pub record Line : Type 0 where
    pub at : b ≡ p.byte
    pub stop : end ≡ b + length (first 10 (drop b text))
    pub inside : end < length text
    pub bytes : line ≡ take (end - b) (drop b text)
    pub below_line : next.line ≡ p.line + 1
    pub below_byte : next.byte ≡ end + 1

  line_is : Line → line ≡ first 10 (drop b text)
  line_is x =
      let n : end - b ≡ length (first 10 (drop b text)) = omega (arith, x.stop) in
      x.bytes ∙ ap (λ m. take m (drop b text)) n ∙ first_is 10 (drop b text)

  next_is : Line → below line p ≡ next
  next_is x =
      let one : p.line + 1 ≡ next.line = sym x.below_line in
      let two : p.byte + length line + 1 ≡ next.byte = omega (arith, x.at, x.stop, x.below_byte, ap length (line_is x)) in
      λ i. record { line = one i; byte = two i }

  pieces_are : Line → split 10 (drop b text) ≡ line ∷ split 10 (drop (end + 1) text)
  pieces_are x =
      let q = first 10 (drop b text) in
      let short : length q < length (drop b text) = omega (arith, x.stop, x.inside, length-drop b text) in
      let to : b + (length q + 1) ≡ end + 1 = omega (arith, x.stop) in
      split_some 10 (drop b text) ∙ (λ i. sym (line_is x) i ∷ split_rest 10 (drop b text) short i) ∙ ap (λ r. line ∷ split 10 r) (drop-drop (length q + 1) b text ∙ ap (λ m. drop m text) to)

  pub turn : Line → walk (split 10 (drop b text)) h d p e k ≡ step (record_line d h p (fields line)) p e k (closing (split 10 (drop (end + 1) text)) h next) (λ d' e' k'. walk (split 10 (drop (end + 1) text)) h d' next e' k')
  turn x =
      let ls = split 10 (drop (end + 1) text) in
      ap (λ ps. walk ps h d p e k) (pieces_are x) ∙ walk_cons line ls h d p e k (split_some 10 (drop (end + 1) text)) ∙ ap (λ n. step (record_line d h p (fields line)) p e k (closing ls h n) (λ d' e' k'. walk ls h d' n e' k')) (next_is x)

  pub turn_bad : Line → (f : SheetFault) → Err f ≡ record_line d h p (fields line) → walk (split 10 (drop b text)) h d p e k ≡ ended (Err f)
  turn_bad x f r = turn x ∙ ap (λ v. step v p e k (closing (split 10 (drop (end + 1) text)) h next) (λ d' e' k'. walk (split 10 (drop (end + 1) text)) h d' next e' k')) (sym r)

  pub turn_edge : Line → (a : Edge) (m : ℕ) → Ok (rec.Edge a) ≡ record_line d h p (fields line) → e ≡ suc m → walk (split 10 (drop b text)) h d p e k ≡ with_edge a (walk (split 10 (drop (end + 1) text)) h due.EdgeOrEntry next m k)
  turn_edge x a m r g = turn x ∙ (λ i. step (sym r i) p (g i) k (closing (split 10 (drop (end + 1) text)) h next) (λ d' e' k'. walk (split 10 (drop (end + 1) text)) h d' next e' k'))

  pub turn_entry : Line → (a : Entry) (m : ℕ) → Ok (rec.Entry a) ≡ record_line d h p (fields line) → k ≡ suc m → walk (split 10 (drop b text)) h d p e k ≡ with_entry a (walk (split 10 (drop (end + 1) text)) h due.EntryOrEnd next e m)
  turn_entry x a m r g = turn x ∙ (λ i. step (sym r i) p e (g i) (closing (split 10 (drop (end + 1) text)) h next) (λ d' e' k'. walk (split 10 (drop (end + 1) text)) h d' next e' k'))

  pub full_edge : Line → (a : Edge) → Ok (rec.Edge a) ≡ record_line d h p (fields line) → e ≡ 0 → walk (split 10 (drop b text)) h d p e k ≡ ended (Err (Full p))
  full_edge x a r g = turn x ∙ (λ i. step (sym r i) p (g i) k (closing (split 10 (drop (end + 1) text)) h next) (λ d' e' k'. walk (split 10 (drop (end + 1) text)) h d' next e' k'))

  pub full_entry : Line → (a : Entry) → Ok (rec.Entry a) ≡ record_line d h p (fields line) → k ≡ 0 → walk (split 10 (drop b text)) h d p e k ≡ ended (Err (Full p))
  full_entry x a r g = turn x ∙ (λ i. step (sym r i) p e (g i) (closing (split 10 (drop (end + 1) text)) h next) (λ d' e' k'. walk (split 10 (drop (end + 1) text)) h d' next e' k'))

  pub turn_end : Line → Ok rec.End ≡ record_line d h p (fields line) → walk (split 10 (drop b text)) h d p e k ≡ closing (split 10 (drop (end + 1) text)) h next
  turn_end x r = turn x ∙ (λ i. step (sym r i) p e k (closing (split 10 (drop (end + 1) text)) h next) (λ d' e' k'. walk (split 10 (drop (end + 1) text)) h d' next e' k'))

-- a last line with no line feed
pub turn_ends : (text : List ℕ) (h : Header) (d : Due) (p : Place) (e k b : ℕ) → length text ≤ b + length (first 10 (drop b text)) → walk (split 10 (drop b text)) h d p e k ≡ ended (Err (Ends p))
unfolding walk
turn_ends text h d p e k b far =
    let long : length (drop b text) ≤ length (first 10 (drop b text)) = omega (arith, length-drop b text) in
    ap (λ ps. walk ps h d p e k) (split_some 10 (drop b text)) ∙ ap (λ ps. walk (first 10 (drop b text) ∷ ps) h d p e k) (split_last 10 (drop b text) long)

closing_cut : (t : Bool) (b : ℕ) (ps : List (List ℕ)) (h : Header) (p : Place) → ps ≡ get_or ps 0 [] ∷ drop 1 ps → closing (cut t b ps) h p ≡ ended (Err (Ends p))
closing_cut true b [] h p s = absurd (let z : ◌≡◌ {A = ℕ} 0 1 = cc in omega arith)
closing_cut true b (q ∷ ps) h p s = refl
closing_cut false b [] h p s = refl
closing_cut false b (q ∷ ps) h p s = refl

-- text after the last line, and none
pub closing_more : (bs : List ℕ) (h : Header) (p : Place) → 0 < length bs → closing (split 10 bs) h p ≡ ended (Err (Ends p))
unfolding split
closing_more [] h p s = absurd (omega arith)
closing_more (b ∷ bs) h p s = closing_cut (eqb b 10) b (split 10 bs) h p (split_some 10 bs)

pub closing_end : (text : List ℕ) (b : ℕ) (h : Header) (p : Place) → length text ≤ b → closing (split 10 (drop b text)) h p ≡ ended (Ok h)
unfolding split
closing_end text b h p far = at_drop_all (λ bs. closing (split 10 bs) h p) text b far

-- records that were read before a reading
abbrev pub onto : List Edge → List Entry → Reading → Reading
onto es ks r = record { told = r.told; edges = es ++ r.edges; entries = ks ++ r.entries }

-- how far reading has come: w edges and k entries are in the tables, and the line at a place is next
pub record Reached (text : List ℕ) (h : Header) (start : Place) (es₀ : List Edge) (ks₀ : List Entry) (d : Due) (p : Place) (w k : ℕ) (es : List Edge) (ks : List Entry) : Type 0 where
  pub byte : p.byte ≤ length text
  pub few : p.line ≤ p.byte + 1
  pub edges : w ≤ length es₀
  pub entries : k ≤ length ks₀
  pub same_edges : length es ≡ length es₀
  pub same_entries : length ks ≡ length ks₀
  pub rest_edges : drop w es ≡ drop w es₀
  pub rest_entries : drop k ks ≡ drop k ks₀
  pub walked : tables text h start (length es₀) (length ks₀) ≡ onto (take w es) (take k ks) (walk (lines (drop p.byte text)) h d p (length es₀ - w) (length ks₀ - k))

-- a table whose first w places are filled
pub kept_filled : {A : Type 0} (w : ℕ) (xs xs₀ : List A) → w ≤ length xs → drop w xs ≡ drop w xs₀ → xs ≡ filled (take w xs ++ []) xs₀
kept_filled w xs xs₀ h e =
    let n : length (take w xs ++ []) ≡ w = ap length (append-nil (take w xs)) ∙ length-take-le w xs h in
    sym (take-append-drop w xs) ∙ (λ i. sym (append-nil (take w xs)) i ++ e i) ∙ ap (λ m. (take w xs ++ []) ++ drop m xs₀) (sym n)

-- the answer and the tables where reading ends
pub record Final (text : List ℕ) (h : Header) (start : Place) (es₀ : List Edge) (ks₀ : List Entry) (es : List Edge) (ks : List Entry) (a : Result Filled SheetFault) : Type 0 where
  pub answer : a ≡ filled_of (tables text h start (length es₀) (length ks₀))
  pub edges : es ≡ filled (tables text h start (length es₀) (length ks₀)).edges es₀
  pub entries : ks ≡ filled (tables text h start (length es₀) (length ks₀)).entries ks₀

length_front : {A : Type 0} (w : ℕ) (xs : List A) → w ≤ length xs → w ≡ length (take w xs ++ [])
length_front w xs h = sym (ap length (append-nil (take w xs)) ∙ length-take-le w xs h)

module _ (text : List ℕ) (h : Header) (start : Place) (es₀ : List Edge) (ks₀ : List Entry) (d : Due) (p : Place) (w k : ℕ) (es : List Edge) (ks : List Entry) (r : Reached text h start es₀ ks₀ d p w k es ks) where
  ending : (t : Result Header SheetFault) → walk (lines (drop p.byte text)) h d p (length es₀ - w) (length ks₀ - k) ≡ ended t → Final text h start es₀ ks₀ es ks (counted t w k)
  ending t last =
      let whole : tables text h start (length es₀) (length ks₀) ≡ onto (take w es) (take k ks) (ended t) = r.walked ∙ ap (onto (take w es) (take k ks)) last in
      let we : w ≤ length es = omega (arith, r.edges, r.same_edges) in
      let ke : k ≤ length ks = omega (arith, r.entries, r.same_entries) in
      record {
        answer = (λ i. counted t (length_front w es we i) (length_front k ks ke i)) ∙ ap filled_of (sym whole);
        edges = kept_filled w es es₀ we r.rest_edges ∙ ap (λ (v : Reading). filled v.edges es₀) (sym whole);
        entries = kept_filled k ks ks₀ ke r.rest_entries ∙ ap (λ (v : Reading). filled v.entries ks₀) (sym whole);
      }

  pub final_ends : length text ≤ p.byte + length (first 10 (drop p.byte text)) → Final text h start es₀ ks₀ es ks (Err (Ends p))
  final_ends far = ending (Err (Ends p)) (turn_ends text h d p (length es₀ - w) (length ks₀ - k) p.byte far)

take_one_more : {A : Type 0} (w : ℕ) (xs ys : List A) (a : A) → w < length xs → take w xs ++ (a ∷ ys) ≡ take (w + 1) (set xs w a) ++ ys
take_one_more w xs ys a h = sym (append_assoc (take w xs) (a ∷ []) ys) ∙ ap (λ v. v ++ ys) (sym (take_more_set xs w a h))

drop_one_more : {A : Type 0} (w : ℕ) (xs xs₀ : List A) (a : A) → drop w xs ≡ drop w xs₀ → drop (w + 1) (set xs w a) ≡ drop (w + 1) xs₀
drop_one_more w xs xs₀ a e = drop-set-lt (w + 1) xs w a (omega arith) ∙ sym (drop-drop 1 w xs) ∙ ap (drop 1) e ∙ drop-drop 1 w xs₀

-- one line more
module _ (text : List ℕ) (h : Header) (start : Place) (es₀ : List Edge) (ks₀ : List Entry) (d : Due) (p : Place) (w k : ℕ) (es : List Edge) (ks : List Entry) (r : Reached text h start es₀ ks₀ d p w k es ks) (end : ℕ) (line : List ℕ) (next : Place) (x : Line text h d p (length es₀ - w) (length ks₀ - k) p.byte end line next) where
  pub final_bad : (f : SheetFault) → Err f ≡ record_line d h p (fields line) → Final text h start es₀ ks₀ es ks (Err f)
  final_bad f g = ending text h start es₀ ks₀ d p w k es ks r (Err f) (turn_bad text h d p (length es₀ - w) (length ks₀ - k) p.byte end line next x f g)

  pub final_edge : (a : Edge) → Ok (rec.Edge a) ≡ record_line d h p (fields line) → length es ≤ w → Final text h start es₀ ks₀ es ks (Err (Full p))
  final_edge a g far =
      let none : length es₀ - w ≡ 0 = omega (arith, r.same_edges) in
      ending text h start es₀ ks₀ d p w k es ks r (Err (Full p)) (full_edge text h d p (length es₀ - w) (length ks₀ - k) p.byte end line next x a g none)

  pub final_entry : (a : Entry) → Ok (rec.Entry a) ≡ record_line d h p (fields line) → length ks ≤ k → Final text h start es₀ ks₀ es ks (Err (Full p))
  final_entry a g far =
      let none : length ks₀ - k ≡ 0 = omega (arith, r.same_entries) in
      ending text h start es₀ ks₀ d p w k es ks r (Err (Full p)) (full_entry text h d p (length es₀ - w) (length ks₀ - k) p.byte end line next x a g none)

  pub final_more : Ok rec.End ≡ record_line d h p (fields line) → next.byte < length text → Final text h start es₀ ks₀ es ks (Err (Ends next))
  final_more g lt =
      let some : 0 < length (drop (end + 1) text) = omega (arith, x.below_byte, length-drop (end + 1) text) in
      ending text h start es₀ ks₀ d p w k es ks r (Err (Ends next)) (turn_end text h d p (length es₀ - w) (length ks₀ - k) p.byte end line next x g ∙ closing_more (drop (end + 1) text) h next some)

  pub final_end : Ok rec.End ≡ record_line d h p (fields line) → length text ≤ next.byte → Final text h start es₀ ks₀ es ks (Ok (record { header = h; edges = w; entries = k }))
  final_end g far = ending text h start es₀ ks₀ d p w k es ks r (Ok h) (turn_end text h d p (length es₀ - w) (length ks₀ - k) p.byte end line next x g ∙ closing_end text (end + 1) h next (omega (arith, x.below_byte)))

  pub reached_edge : (a : Edge) → Ok (rec.Edge a) ≡ record_line d h p (fields line) → w < length es → Reached text h start es₀ ks₀ due.EdgeOrEntry next (w + 1) k (set es w a) ks
  reached_edge a g lt =
      let room : length es₀ - w ≡ suc (length es₀ - (w + 1)) = omega (arith, r.same_edges) in
      let go = turn_edge text h d p (length es₀ - w) (length ks₀ - k) p.byte end line next x a (length es₀ - (w + 1)) g room in
      let to : end + 1 ≡ next.byte = sym x.below_byte in
      let rest = walk (lines (drop next.byte text)) h due.EdgeOrEntry next (length es₀ - (w + 1)) (length ks₀ - k) in
      record {
        byte = omega (arith, x.inside, x.below_byte);
        few = omega (arith, r.few, x.at, x.stop, x.below_line, x.below_byte);
        edges = omega (arith, r.same_edges);
        entries = r.entries;
        same_edges = length-set es w a ∙ r.same_edges;
        same_entries = r.same_entries;
        rest_edges = drop_one_more w es es₀ a r.rest_edges;
        rest_entries = r.rest_entries;
        walked = r.walked ∙ ap (onto (take w es) (take k ks)) go ∙ ap (λ n. onto (take w es) (take k ks) (with_edge a (walk (lines (drop n text)) h due.EdgeOrEntry next (length es₀ - (w + 1)) (length ks₀ - k)))) to ∙ (λ i. record { told = rest.told; edges = take_one_more w es rest.edges a lt i; entries = take k ks ++ rest.entries });
      }

  pub reached_entry : (a : Entry) → Ok (rec.Entry a) ≡ record_line d h p (fields line) → k < length ks → Reached text h start es₀ ks₀ due.EntryOrEnd next w (k + 1) es (set ks k a)
  reached_entry a g lt =
      let room : length ks₀ - k ≡ suc (length ks₀ - (k + 1)) = omega (arith, r.same_entries) in
      let go = turn_entry text h d p (length es₀ - w) (length ks₀ - k) p.byte end line next x a (length ks₀ - (k + 1)) g room in
      let to : end + 1 ≡ next.byte = sym x.below_byte in
      let rest = walk (lines (drop next.byte text)) h due.EntryOrEnd next (length es₀ - w) (length ks₀ - (k + 1)) in
      record {
        byte = omega (arith, x.inside, x.below_byte);
        few = omega (arith, r.few, x.at, x.stop, x.below_line, x.below_byte);
        edges = r.edges;
        entries = omega (arith, r.same_entries);
        same_edges = r.same_edges;
        same_entries = length-set ks k a ∙ r.same_entries;
        rest_edges = r.rest_edges;
        rest_entries = drop_one_more k ks ks₀ a r.rest_entries;
        walked = r.walked ∙ ap (onto (take w es) (take k ks)) go ∙ ap (λ n. onto (take w es) (take k ks) (with_entry a (walk (lines (drop n text)) h due.EntryOrEnd next (length es₀ - w) (length ks₀ - (k + 1))))) to ∙ (λ i. record { told = rest.told; edges = take w es ++ rest.edges; entries = take_one_more k ks rest.entries a lt i });
      }

-- the line at a place
pub here : (text : List ℕ) (h : Header) (d : Due) (p : Place) (e k end : ℕ) (next : Place) → next.line ≡ p.line + 1 → next.byte ≡ end + 1 → (end ≡ p.byte + length (first 10 (drop p.byte text))) × (end < length text) → Line text h d p e k p.byte end (take (end - p.byte) (drop p.byte text)) next
here text h d p e k end next a b c =
    record { at = refl; stop = c.0; inside = c.1; bytes = refl; below_line = a; below_byte = b }

pub from_cons : (l : List ℕ) (ls : List (List ℕ)) (e k : ℕ) → ls ≡ get_or ls 0 [] ∷ drop 1 ls → from (l ∷ ls) e k ≡ onward (header_line top (fields l)) ls (below l top) e k
from_cons l [] e k s = absurd (let z : ◌≡◌ {A = ℕ} 0 1 = cc in omega arith)
from_cons l (m ∷ ms) e k s = refl

-- the first line of a text
pub reading_ends : (text : List ℕ) (e k : ℕ) → length text ≤ 0 + length (first 10 text) → reading e k text ≡ ended (Err (Ends top))
unfolding reading
reading_ends text e k far =
    let long : length text ≤ length (first 10 text) = omega arith in
    ap (λ ps. from ps e k) (split_some 10 text) ∙ ap (λ ps. from (first 10 text ∷ ps) e k) (split_last 10 text long)

module _ (text : List ℕ) (e k end : ℕ) (c : (end ≡ 0 + length (first 10 text)) × (end < length text)) where
  first_line : take (end - 0) text ≡ first 10 text
  first_line = let n : end - 0 ≡ length (first 10 text) = omega (arith, c.0) in ap (λ m. take m text) n ∙ first_is 10 text

  reading_line : reading e k text ≡ onward (header_line top (fields (take (end - 0) text))) (split 10 (drop (end + 1) text)) (record { line = 2; byte = end + 1 }) e k
  unfolding reading
  reading_line =
      let short : length (first 10 text) < length text = omega (arith, c.0, c.1) in
      let to : length (first 10 text) + 1 ≡ end + 1 = omega (arith, c.0) in
      let two : 1 + 1 ≡ 2 = refl in
      let byte : 0 + length (first 10 text) + 1 ≡ end + 1 = omega (arith, c.0) in
      ap (λ ps. from ps e k) (split_some 10 text ∙ ap (λ ps. first 10 text ∷ ps) (split_rest 10 text short ∙ ap (λ m. split 10 (drop m text)) to)) ∙ from_cons (first 10 text) (split 10 (drop (end + 1) text)) e k (split_some 10 (drop (end + 1) text)) ∙ (λ i. onward (header_line top (fields (sym first_line i))) (split 10 (drop (end + 1) text)) (record { line = 2; byte = byte i }) e k)

  pub reading_bad : (f : SheetFault) → Err f ≡ header_line top (fields (take (end - 0) text)) → reading e k text ≡ ended (Err f)
  reading_bad f g = reading_line ∙ ap (λ v. onward v (split 10 (drop (end + 1) text)) (record { line = 2; byte = end + 1 }) e k) (sym g)

  pub reading_on : (h : Header) → Ok h ≡ header_line top (fields (take (end - 0) text)) → reading e k text ≡ tables text h (record { line = 2; byte = end + 1 }) e k
  reading_on h g = reading_line ∙ ap (λ v. onward v (split 10 (drop (end + 1) text)) (record { line = 2; byte = end + 1 }) e k) (sym g)

-- what a filling that succeeded tells
pub counted_ok : (t : Result Header SheetFault) (w k : ℕ) (f : Filled) → counted t w k ≡ Ok f → (t ≡ Ok f.header) × (f.edges ≡ w) × (f.entries ≡ k)
counted_ok (Err g) w k f e = absurd (let z : ◌≡◌ {A = ℕ} 0 1 = cc in omega arith)
counted_ok (Ok h) w k f e = let same : record { header = h; edges = w; entries = k } ≡ f = cc in (ap (λ (v : Filled). Ok v.header) same, sym (ap (λ (v : Filled). v.edges) same), sym (ap (λ (v : Filled). v.entries) same))

pub filled_part : {A : Type 0} (xs table now : List A) (w : ℕ) → now ≡ filled xs table → w ≡ length xs → take w now ≡ xs
filled_part xs table now w e n = (λ i. take w (e i)) ∙ take_at xs (drop (length xs) table) w (sym n)

pub filled_fits : {A : Type 0} (xs table now : List A) (w : ℕ) → now ≡ filled xs table → w ≡ length xs → w ≤ length now
filled_fits xs table now w e n = omega (arith, ap length e, length-append xs (drop (length xs) table))

pub counted_err : (t : Result Header SheetFault) (w k : ℕ) (f : SheetFault) → Err f ≡ counted t w k → Err f ≡ t
counted_err (Err g) w k f e = cc
counted_err (Ok h) w k f e = absurd (let z : ◌≡◌ {A = ℕ} 0 1 = cc in omega arith)

pub same_place : (text : List ℕ) (h : Header) (p : Place) (l b e k : ℕ) → p.line ≡ l → p.byte ≡ b → tables text h p e k ≡ tables text h (record { line = l; byte = b }) e k
same_place text h p l b e k x y = λ i. tables text h (record { line = x i; byte = y i }) e k
