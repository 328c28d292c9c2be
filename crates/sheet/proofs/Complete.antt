-- A sheet of an admitted code is read as that code.
use Rattle.std.proofs.Common.{◌≡◌, ℕ, zero, suc, ◌<◌, ◌≤◌, true, List, [], ◌∷◌, ◌++◌, length, Some, Ok, decimal, sym, refl, ap, ◌∙◌, subst, ⊎_elim, arith}
use Rattle.std.specs.List.{flat_map, slice_get}
use Rattle.std.proofs.lemmas.List.{append_assoc}
use Rattle.std.proofs.lemmas.Fmt.{digits_decimal}
use Rattle.code.specs.declared.table.Edge.{Edge}
use Rattle.code.specs.declared.table.Entry.{Entry}
use Rattle.code.specs.declared.table.Header.{Header}
use Rattle.code.proofs.Lawfully.{admitted_exactly}
use Rattle.code.specs.Rules.{Rules, HeaderFits, EdgeFits, EntryFits}
use Rattle.sheet.specs.declared.fault.Place.{Place}
use Rattle.sheet.specs.declared.token.Kind.TheVariants as kind
use Rattle.sheet.specs.declared.line.Due.{Due}
use Rattle.sheet.specs.declared.line.Due.TheVariants as due
use Rattle.sheet.specs.declared.line.Record.TheVariants as rec
use Rattle.sheet.specs.Pieces.{split}
use Rattle.sheet.specs.Words.{word_of}
use Rattle.sheet.specs.Lines.{◌>>=◌, cell, is_due, kind_due, header_of, edge_of, entry_of, header_from, edge_from, entry_from, header_line, record_line}
use Rattle.sheet.specs.Reading.{Reading, ended, with_edge, with_entry, below, closing, step, walk, onward, top, from, reading, admitted, answer}
use Rattle.sheet.specs.Grammar.{tabbed, header_text, edge_text, entry_text, end_text, Spelled, Sheet, ReadsBack, Inverts}
use Rattle.sheet.proofs.Tests.{on, due_ok}
use Rattle.sheet.proofs.Splits.{split_some}
use Rattle.sheet.proofs.Spelling.{own, numeral_read, ceiling_read, ranged_read}
use Rattle.sheet.proofs.Glue.{Free, AllFree, split_front, split_tabs, free_tabs, free_digits}
use Rattle.sheet.proofs.Sound.{only_sheets}
use Rattle.sheet.proofs.Walks.{walk_cons, from_cons}

free_decimal : (c n : ℕ) → c < 48 → n < 10000 → Free c (decimal n)
free_decimal c n h k = free_digits c (decimal n) h (digits_decimal own n (omega arith))

free_spelled : (c n : ℕ) (bs : List ℕ) → c < 45 → n < 10000 → Spelled n bs → Free c bs
free_spelled c n bs h k s = ⊎_elim (λ e. subst (Free c) (sym e) (free_decimal c n (omega arith) k)) (λ e. subst (Free c) (sym e.1) ((λ g. omega (arith, g)), tt)) s

-- the fields of an edge, of an entry and of a header
edge_fields : Edge → List (List ℕ)
edge_fields x = decimal x.row ∷ decimal x.column ∷ decimal x.coefficient ∷ []

entry_fields : Entry → List (List ℕ)
entry_fields x = decimal x.column ∷ decimal x.row ∷ []

header_fields : Header → List ℕ → List (List ℕ)
header_fields h c = decimal h.order ∷ decimal h.columns ∷ decimal h.rows ∷ c ∷ decimal h.limit ∷ []

module _ (h : Header) (H : HeaderFits h) where
  edge_free : (c : ℕ) (x : Edge) → c < 48 → EdgeFits h x → AllFree c (edge_fields x)
  unfolding edge_fields
  edge_free c x l f = (free_decimal c x.row l (omega (arith, f.row, H.rows)), (free_decimal c x.column l (omega (arith, f.column, H.columns)), (free_decimal c x.coefficient l (omega (arith, f.code, H.order)), tt)))

  entry_free : (c : ℕ) (x : Entry) → c < 48 → EntryFits h x → AllFree c (entry_fields x)
  unfolding entry_fields
  entry_free c x l f = (free_decimal c x.column l (omega (arith, f.column, H.columns)), (free_decimal c x.row l (omega (arith, f.row, H.rows)), tt))

  header_free : (c : ℕ) (bs : List ℕ) → c < 45 → Spelled h.ceiling bs → AllFree c (header_fields h bs)
  unfolding header_fields
  header_free c bs l s = (free_decimal c h.order (omega arith) (omega (arith, H.order)), (free_decimal c h.columns (omega arith) (omega (arith, H.columns)), (free_decimal c h.rows (omega arith) (omega (arith, H.rows)), (free_spelled c h.ceiling bs l (omega (arith, H.ceiling)) s, (free_decimal c h.limit (omega arith) (omega (arith, H.limit)), tt)))))

  edge_from_is : (p : Place) (x : Edge) → EdgeFits h x → Ok x ≡ edge_from h p ((69 ∷ []) ∷ edge_fields x)
  unfolding edge_fields edge_of
  edge_from_is p x f =
      let fs = (69 ∷ []) ∷ edge_fields x in
      on _ (numeral_read p fs 1 x.row (omega (arith, f.row, H.rows)) refl)
      (on _ (numeral_read p fs 2 x.column (omega (arith, f.column, H.columns)) refl)
      (on _ (numeral_read p fs 3 x.coefficient (omega (arith, f.code, H.order)) refl)
      (on _ (ranged_read (cell p fs 1) 0 h.rows x.row (omega arith) f.row)
      (on _ (ranged_read (cell p fs 2) 0 h.columns x.column (omega arith) f.column) (on _ (ranged_read (cell p fs 3) 1 h.order x.coefficient f.coefficient f.code) refl)))))

  entry_from_is : (p : Place) (x : Entry) → EntryFits h x → Ok x ≡ entry_from h p ((75 ∷ []) ∷ entry_fields x)
  unfolding entry_fields entry_of
  entry_from_is p x f =
      let fs = (75 ∷ []) ∷ entry_fields x in
      on _ (numeral_read p fs 1 x.column (omega (arith, f.column, H.columns)) refl)
      (on _ (numeral_read p fs 2 x.row (omega (arith, f.row, H.rows)) refl)
      (on _ (ranged_read (cell p fs 1) 0 h.columns x.column (omega arith) f.column) (on _ (ranged_read (cell p fs 2) 0 h.rows x.row (omega arith) f.row) refl)))

  header_from_is : (p : Place) (bs : List ℕ) → Spelled h.ceiling bs → Ok h ≡ header_from p ((67 ∷ []) ∷ header_fields h bs)
  unfolding header_fields header_of
  header_from_is p bs s =
      let fs = (67 ∷ []) ∷ header_fields h bs in
      on _ (numeral_read p fs 1 h.order (omega (arith, H.order)) refl)
      (on _ (numeral_read p fs 2 h.columns (omega (arith, H.columns)) refl)
      (on _ (numeral_read p fs 3 h.rows (omega (arith, H.rows)) refl)
      (on _ (ceiling_read p fs 4 h.ceiling (omega (arith, H.ceiling)) s)
      (on _ (numeral_read p fs 5 h.limit (omega (arith, H.limit)) refl)
      (on _ (ranged_read (cell p fs 1) 2 65 h.order H.order.0 (omega (arith, H.order)))
      (on _ (ranged_read (cell p fs 2) 2 257 h.columns H.columns.0 (omega (arith, H.columns)))
      (on _ (ranged_read (cell p fs 3) 1 129 h.rows H.rows.0 (omega (arith, H.rows)))
      (on _ (ranged_read (cell p fs 3) 1 h.columns h.rows H.rows.0 H.fewer)
      (on _ (ranged_read (cell p fs 4) 1 1024 h.ceiling H.ceiling.0 (omega (arith, H.ceiling))) (on _ (ranged_read (cell p fs 5) 1 201 h.limit H.limit.0 (omega (arith, H.limit))) refl))))))))))

  -- each line is read as its record, where that is due
  edge_record : (d : Due) (p : Place) (x : Edge) → is_due d kind.Edge ≡ true → EdgeFits h x → Ok (rec.Edge x) ≡ record_line d h p (split 9 (69 ∷ tabbed (edge_fields x)))
  unfolding record_line kind_due word_of edge_fields
  edge_record d p x g f =
      let fs = (69 ∷ []) ∷ edge_fields x in
      let cuts : split 9 (69 ∷ tabbed (edge_fields x)) ≡ fs = split_tabs (69 ∷ []) (edge_fields x) ((λ e. omega (arith, e)), tt) (edge_free 9 x (omega arith) f) in
      let read : Ok (rec.Edge x) ≡ record_line d h p fs = on _ (due_ok d p kind.Edge 4 (Some kind.Edge) refl g refl) (on _ (edge_from_is p x f) refl) in
      read ∙ ap (record_line d h p) (sym cuts)

  entry_record : (d : Due) (p : Place) (x : Entry) → is_due d kind.Entry ≡ true → EntryFits h x → Ok (rec.Entry x) ≡ record_line d h p (split 9 (75 ∷ tabbed (entry_fields x)))
  unfolding record_line kind_due word_of entry_fields
  entry_record d p x g f =
      let fs = (75 ∷ []) ∷ entry_fields x in
      let cuts : split 9 (75 ∷ tabbed (entry_fields x)) ≡ fs = split_tabs (75 ∷ []) (entry_fields x) ((λ e. omega (arith, e)), tt) (entry_free 9 x (omega arith) f) in
      let read : Ok (rec.Entry x) ≡ record_line d h p fs = on _ (due_ok d p kind.Entry 3 (Some kind.Entry) refl g refl) (on _ (entry_from_is p x f) refl) in
      read ∙ ap (record_line d h p) (sym cuts)

  header_record : (p : Place) (bs : List ℕ) → Spelled h.ceiling bs → Ok h ≡ header_line p (split 9 (67 ∷ tabbed (header_fields h bs)))
  unfolding header_line kind_due word_of header_fields
  header_record p bs s =
      let fs = (67 ∷ []) ∷ header_fields h bs in
      let cuts : split 9 (67 ∷ tabbed (header_fields h bs)) ≡ fs = split_tabs (67 ∷ []) (header_fields h bs) ((λ e. omega (arith, e)), tt) (header_free 9 bs (omega arith) s) in
      let read : Ok h ≡ header_line p fs = on _ (due_ok due.Header p kind.Header 6 (Some kind.Header) refl refl refl) (header_from_is p bs s) in
      read ∙ ap (header_line p) (sym cuts)

  -- a line cut off from the text
  cut_line : (l rest : List ℕ) → Free 10 l → split 10 ((l ++ (10 ∷ [])) ++ rest) ≡ l ∷ split 10 rest
  cut_line l rest f = ap (split 10) (append_assoc l (10 ∷ []) rest) ∙ split_front 10 l rest f

  edge_step : (d : Due) (p : Place) (e k : ℕ) (x : Edge) (rest : List ℕ) → is_due d kind.Edge ≡ true → EdgeFits h x → walk (split 10 (edge_text x ++ rest)) h d p (suc e) k ≡ with_edge x (walk (split 10 rest) h due.EdgeOrEntry (below (69 ∷ tabbed (edge_fields x)) p) e k)
  unfolding edge_fields
  edge_step d p e k x rest g f =
      let l = 69 ∷ tabbed (edge_fields x) in
      let free : Free 10 l = ((λ e. omega (arith, e)), free_tabs (edge_fields x) (edge_free 10 x (omega arith) f)) in
      ap (λ ps. walk ps h d p (suc e) k) (cut_line l rest free) ∙ walk_cons l (split 10 rest) h d p (suc e) k (split_some 10 rest) ∙ ap (λ r. step r p (suc e) k (closing (split 10 rest) h (below l p)) (λ d' e' k'. walk (split 10 rest) h d' (below l p) e' k')) (sym (edge_record d p x g f))

  entry_step : (d : Due) (p : Place) (e k : ℕ) (x : Entry) (rest : List ℕ) → is_due d kind.Entry ≡ true → EntryFits h x → walk (split 10 (entry_text x ++ rest)) h d p e (suc k) ≡ with_entry x (walk (split 10 rest) h due.EntryOrEnd (below (75 ∷ tabbed (entry_fields x)) p) e k)
  unfolding entry_fields
  entry_step d p e k x rest g f =
      let l = 75 ∷ tabbed (entry_fields x) in
      let free : Free 10 l = ((λ e. omega (arith, e)), free_tabs (entry_fields x) (entry_free 10 x (omega arith) f)) in
      ap (λ ps. walk ps h d p e (suc k)) (cut_line l rest free) ∙ walk_cons l (split 10 rest) h d p e (suc k) (split_some 10 rest) ∙ ap (λ r. step r p e (suc k) (closing (split 10 rest) h (below l p)) (λ d' e' k'. walk (split 10 rest) h d' (below l p) e' k')) (sym (entry_record d p x g f))

  end_step : (p : Place) (e k : ℕ) → walk (split 10 end_text) h due.EntryOrEnd p e k ≡ ended (Ok h)
  unfolding split walk record_line kind_due word_of ◌>>=◌
  end_step p e k = refl

  header_step : (e k : ℕ) (bs rest : List ℕ) → Spelled h.ceiling bs → from (split 10 (header_text h bs ++ rest)) e k ≡ walk (split 10 rest) h due.Edge (below (67 ∷ tabbed (header_fields h bs)) top) e k
  unfolding header_fields
  header_step e k bs rest s =
      let l = 67 ∷ tabbed (header_fields h bs) in
      let free : Free 10 l = ((λ e. omega (arith, e)), free_tabs (header_fields h bs) (header_free 10 bs (omega arith) s)) in
      ap (λ ps. from ps e k) (cut_line l rest free) ∙ from_cons l (split 10 rest) e k (split_some 10 rest) ∙ ap (λ r. onward r (split 10 rest) (below l top) e k) (sym (header_record top bs s))

-- every edge, and every entry, fits
abbrev Edges : Header → List Edge → Type 0
Edges h [] = Unit {0}
Edges h (x ∷ xs) = EdgeFits h x × Edges h xs

abbrev Entries : Header → List Entry → Type 0
Entries h [] = Unit {0}
Entries h (x ∷ xs) = EntryFits h x × Entries h xs

abbrev done : Header → List Edge → List Entry → Reading
done h es ks = record { told = Ok h; edges = es; entries = ks }

read_entries : (ks : List Entry) (h : Header) (H : HeaderFits h) (p : Place) (e k : ℕ) → Entries h ks → length ks ≤ k → walk (split 10 (flat_map entry_text ks ++ end_text)) h due.EntryOrEnd p e k ≡ done h [] ks
read_entries [] h H p e k f n = end_step h H p e k
read_entries (x ∷ ks) h H p e zero f n = absurd (omega arith)
read_entries (x ∷ ks) h H p e (suc k) f n =
    ap (λ t. walk (split 10 t) h due.EntryOrEnd p e (suc k)) (append_assoc (entry_text x) (flat_map entry_text ks) end_text) ∙ entry_step h H due.EntryOrEnd p e k x (flat_map entry_text ks ++ end_text) refl f.0 ∙ ap (with_entry x) (read_entries ks h H _ e k f.1 (omega arith))

read_first_entry : (ks : List Entry) (h : Header) (H : HeaderFits h) (p : Place) (e k : ℕ) → Entries h ks → 0 < length ks → length ks ≤ k → walk (split 10 (flat_map entry_text ks ++ end_text)) h due.EdgeOrEntry p e k ≡ done h [] ks
read_first_entry [] h H p e k f s n = absurd (omega arith)
read_first_entry (x ∷ ks) h H p e zero f s n = absurd (omega arith)
read_first_entry (x ∷ ks) h H p e (suc k) f s n =
    ap (λ t. walk (split 10 t) h due.EdgeOrEntry p e (suc k)) (append_assoc (entry_text x) (flat_map entry_text ks) end_text) ∙ entry_step h H due.EdgeOrEntry p e k x (flat_map entry_text ks ++ end_text) refl f.0 ∙ ap (with_entry x) (read_entries ks h H _ e k f.1 (omega arith))

read_edges : (es : List Edge) (ks : List Entry) (h : Header) (H : HeaderFits h) (p : Place) (e k : ℕ) → Edges h es → Entries h ks → 0 < length ks → length es ≤ e → length ks ≤ k → walk (split 10 (flat_map edge_text es ++ (flat_map entry_text ks ++ end_text))) h due.EdgeOrEntry p e k ≡ done h es ks
read_edges [] ks h H p e k f g s m n = read_first_entry ks h H p e k g s n
read_edges (x ∷ es) ks h H p zero k f g s m n = absurd (omega arith)
read_edges (x ∷ es) ks h H p (suc e) k f g s m n =
    ap (λ t. walk (split 10 t) h due.EdgeOrEntry p (suc e) k) (append_assoc (edge_text x) (flat_map edge_text es) (flat_map entry_text ks ++ end_text)) ∙ edge_step h H due.EdgeOrEntry p e k x (flat_map edge_text es ++ (flat_map entry_text ks ++ end_text)) refl f.0 ∙ ap (with_edge x) (read_edges es ks h H _ e k f.1 g s (omega arith) n)

read_first_edge : (es : List Edge) (ks : List Entry) (h : Header) (H : HeaderFits h) (p : Place) (e k : ℕ) → Edges h es → Entries h ks → 0 < length es → 0 < length ks → length es ≤ e → length ks ≤ k → walk (split 10 (flat_map edge_text es ++ (flat_map entry_text ks ++ end_text))) h due.Edge p e k ≡ done h es ks
read_first_edge [] ks h H p e k f g r s m n = absurd (omega arith)
read_first_edge (x ∷ es) ks h H p zero k f g r s m n = absurd (omega arith)
read_first_edge (x ∷ es) ks h H p (suc e) k f g r s m n =
    ap (λ t. walk (split 10 t) h due.Edge p (suc e) k) (append_assoc (edge_text x) (flat_map edge_text es) (flat_map entry_text ks ++ end_text)) ∙ edge_step h H due.Edge p e k x (flat_map edge_text es ++ (flat_map entry_text ks ++ end_text)) refl f.0 ∙ ap (with_edge x) (read_edges es ks h H _ e k f.1 g s (omega arith) n)

all_edges : (h : Header) (es : List Edge) → ((k : ℕ) (x : Edge) → slice_get es k ≡ Some x → EdgeFits h x) → Edges h es
all_edges h [] f = tt
all_edges h (x ∷ es) f = (f 0 x refl, all_edges h es (λ k y e. f (suc k) y e))

all_entries : (h : Header) (ks : List Entry) → ((k : ℕ) (x : Entry) → slice_get ks k ≡ Some x → EntryFits h x) → Entries h ks
all_entries h [] f = tt
all_entries h (x ∷ ks) f = (f 0 x refl, all_entries h ks (λ k y e. f (suc k) y e))

-- a sheet of a code that keeps the rules
pub read_back : (text : List ℕ) (e k : ℕ) (h : Header) (es : List Edge) (ks : List Entry) → Rules h es ks → Sheet text h es ks → length es ≤ e → length ks ≤ k → reading e k text ≡ done h es ks
unfolding reading
read_back text e k h es ks r s m n =
    ap (λ t. from (split 10 t) e k) s.lines ∙ header_step h r.header e k s.ceiling (flat_map edge_text es ++ (flat_map entry_text ks ++ end_text)) s.spelled ∙ read_first_edge es ks h r.header _ e k (all_edges h es r.edges_fit) (all_entries h ks r.entries_fit) s.some_edges s.some_entries m n

reads_back : ReadsBack
reads_back text e k h es ks a s m n =
    let b = read_back text e k h es ks ((admitted_exactly h es ks).0 a) s m n in
    (ap answer b ∙ ap (λ o. admitted o h es) a, ap (λ (v : Reading). v.edges) b, ap (λ (v : Reading). v.entries) b)

-- the law
pub inverts : Inverts
inverts = record { back = reads_back; only = only_sheets }
