-- A text that is read without a fault is a sheet.
use Rattle.std.proofs.Common.{◌≡◌, ℕ, zero, suc, ◌<◌, true, List, [], ◌∷◌, ◌++◌, length, Some, None, Ok, Err, Option, Result, sym, refl, ap, ◌∙◌, subst, arith}
use Rattle.std.specs.List.{flat_map}
use Rattle.std.proofs.lemmas.List.{append_assoc}
use Rattle.std.proofs.lemmas.Bool.{false≢true}
use Rattle.code.specs.declared.table.Edge.{Edge}
use Rattle.code.specs.declared.table.Entry.{Entry}
use Rattle.code.specs.declared.table.Header.{Header}
use Rattle.code.specs.declared.fault.CodeFault.{CodeFault}
use Rattle.code.specs.Admission.{admission}
use Rattle.sheet.specs.declared.fault.Place.{Place}
use Rattle.sheet.specs.declared.fault.SheetFault.{SheetFault}
use Rattle.sheet.specs.declared.token.Kind.TheVariants as kind
use Rattle.sheet.specs.declared.line.Due.{Due}
use Rattle.sheet.specs.declared.line.Due.TheVariants as due
use Rattle.sheet.specs.declared.line.Record.{Record}
use Rattle.sheet.specs.declared.line.Record.TheVariants as rec
use Rattle.code.specs.declared.numbers.Numbers.{Numbers}
use Rattle.sheet.specs.Pieces.{lines, fields}
use Rattle.sheet.specs.Lines.{is_due, header_line, record_line}
use Rattle.sheet.specs.Reading.{Reading, below, closing, step, walk, onward, top, from, reading, numbers, admitted, judged}
use Rattle.sheet.specs.Grammar.{header_text, edge_text, entry_text, end_text, Sheet, OnlySheets}
use Rattle.sheet.proofs.Tests.{ok_same}
use Rattle.sheet.proofs.Glue.{glue, glue_split}
use Rattle.sheet.proofs.Inverse.{edge_line, entry_line, end_line, header_line_is}

-- what is left to come, by what is due
abbrev Extra : Due → List Edge → List Entry → Type 0
Extra due.Header es ks = Unit {0}
Extra due.Edge es ks = (0 < length es) × (0 < length ks)
Extra due.EdgeOrEntry es ks = 0 < length ks
Extra due.EntryOrEnd es ks = es ≡ []

extra_edge : (d : Due) (x : Edge) (es : List Edge) (ks : List Entry) → is_due d kind.Edge ≡ true → 0 < length ks → Extra d (x ∷ es) ks
extra_edge due.Header x es ks h g = tt
extra_edge due.Edge x es ks h g = (omega arith, g)
extra_edge due.EdgeOrEntry x es ks h g = g
extra_edge due.EntryOrEnd x es ks h g = absurd (false≢true h)

extra_entry : (d : Due) (x : Entry) (es : List Edge) (ks : List Entry) → is_due d kind.Entry ≡ true → es ≡ [] → Extra d es (x ∷ ks)
extra_entry due.Header x es ks h g = tt
extra_entry due.Edge x es ks h g = absurd (false≢true h)
extra_entry due.EdgeOrEntry x es ks h g = omega arith
extra_entry due.EntryOrEnd x es ks h g = g

extra_end : (d : Due) → is_due d kind.End ≡ true → Extra d [] []
extra_end due.Header h = tt
extra_end due.Edge h = absurd (false≢true h)
extra_end due.EdgeOrEntry h = absurd (false≢true h)
extra_end due.EntryOrEnd h = refl

-- the lines below the header are those of the records that were read
record Tail (d : Due) (ls : List (List ℕ)) (h h' : Header) (r : Reading) : Type 0 where
  same : h ≡ h'
  text : glue 10 ls ≡ flat_map edge_text r.edges ++ (flat_map entry_text r.entries ++ end_text)
  extra : Extra d r.edges r.entries

regroup : (l t g : List ℕ) → l ++ (10 ∷ []) ≡ t → l ++ (10 ∷ g) ≡ t ++ g
regroup l t g e = sym (append_assoc l (10 ∷ []) g) ∙ ap (λ v. v ++ g) e

no_edges : (x : Entry) (es : List Edge) (ks : List Entry) → es ≡ [] → entry_text x ++ (flat_map edge_text es ++ (flat_map entry_text ks ++ end_text)) ≡ flat_map edge_text es ++ (flat_map entry_text (x ∷ ks) ++ end_text)
no_edges x [] ks e = sym (append_assoc (entry_text x) (flat_map entry_text ks) end_text)
no_edges x (a ∷ es) ks e = absurd (let z : ◌≡◌ {A = ℕ} 0 1 = cc in omega arith)

module _ (l m : List ℕ) (ms : List (List ℕ)) (h h' : Header) (d : Due) (p : Place) (ih : (d' : Due) (e k : ℕ) → (walk (m ∷ ms) h d' (below l p) e k).told ≡ Ok h' → Tail d' (m ∷ ms) h h' (walk (m ∷ ms) h d' (below l p) e k)) where
  tail_edge : (x : Edge) (e k : ℕ) → record_line d h p (fields l) ≡ Ok (rec.Edge x) → (step (Ok (rec.Edge x)) p e k (closing (m ∷ ms) h (below l p)) (λ d' e' k'. walk (m ∷ ms) h d' (below l p) e' k')).told ≡ Ok h' → Tail d (l ∷ (m ∷ ms)) h h' (step (Ok (rec.Edge x)) p e k (closing (m ∷ ms) h (below l p)) (λ d' e' k'. walk (m ∷ ms) h d' (below l p) e' k'))
  tail_edge x zero k r t = absurd (let z : ◌≡◌ {A = ℕ} 0 1 = cc t in omega arith)
  tail_edge x (suc e) k r t =
      let T = ih due.EdgeOrEntry e k t in
      let R = walk (m ∷ ms) h due.EdgeOrEntry (below l p) e k in
      let f = edge_line d h p l x r in
      record { same = T.same; text = regroup l (edge_text x) (glue 10 (m ∷ ms)) f.1 ∙ ap (λ g. edge_text x ++ g) T.text ∙ sym (append_assoc (edge_text x) (flat_map edge_text R.edges) (flat_map entry_text R.entries ++ end_text)); extra = extra_edge d x R.edges R.entries f.0 T.extra }

  tail_entry : (x : Entry) (e k : ℕ) → record_line d h p (fields l) ≡ Ok (rec.Entry x) → (step (Ok (rec.Entry x)) p e k (closing (m ∷ ms) h (below l p)) (λ d' e' k'. walk (m ∷ ms) h d' (below l p) e' k')).told ≡ Ok h' → Tail d (l ∷ (m ∷ ms)) h h' (step (Ok (rec.Entry x)) p e k (closing (m ∷ ms) h (below l p)) (λ d' e' k'. walk (m ∷ ms) h d' (below l p) e' k'))
  tail_entry x e zero r t = absurd (let z : ◌≡◌ {A = ℕ} 0 1 = cc t in omega arith)
  tail_entry x e (suc k) r t =
      let T = ih due.EntryOrEnd e k t in
      let R = walk (m ∷ ms) h due.EntryOrEnd (below l p) e k in
      let f = entry_line d h p l x r in
      record { same = T.same; text = regroup l (entry_text x) (glue 10 (m ∷ ms)) f.1 ∙ ap (λ g. entry_text x ++ g) T.text ∙ no_edges x R.edges R.entries T.extra; extra = extra_entry d x R.edges R.entries f.0 T.extra }

tail_end : (l m : List ℕ) (ms : List (List ℕ)) (h h' : Header) (d : Due) (p q : Place) → record_line d h p (fields l) ≡ Ok rec.End → (closing (m ∷ ms) h q).told ≡ Ok h' → Tail d (l ∷ (m ∷ ms)) h h' (closing (m ∷ ms) h q)
tail_end l [] [] h h' d p q r t = let f = end_line d h p l r in record { same = ok_same h h' t; text = f.1; extra = extra_end d f.0 }
tail_end l [] (n ∷ ns) h h' d p q r t = absurd (let z : ◌≡◌ {A = ℕ} 0 1 = cc t in omega arith)
tail_end l (b ∷ bs) ns h h' d p q r t = absurd (let z : ◌≡◌ {A = ℕ} 0 1 = cc t in omega arith)

tail_step : (r : Result Record SheetFault) (l m : List ℕ) (ms : List (List ℕ)) (h h' : Header) (d : Due) (p : Place) (e k : ℕ) → record_line d h p (fields l) ≡ r → ((d' : Due) (e' k' : ℕ) → (walk (m ∷ ms) h d' (below l p) e' k').told ≡ Ok h' → Tail d' (m ∷ ms) h h' (walk (m ∷ ms) h d' (below l p) e' k')) → (step r p e k (closing (m ∷ ms) h (below l p)) (λ d' e' k'. walk (m ∷ ms) h d' (below l p) e' k')).told ≡ Ok h' → Tail d (l ∷ (m ∷ ms)) h h' (step r p e k (closing (m ∷ ms) h (below l p)) (λ d' e' k'. walk (m ∷ ms) h d' (below l p) e' k'))
tail_step (Err f) l m ms h h' d p e k r ih t = absurd (let z : ◌≡◌ {A = ℕ} 0 1 = cc t in omega arith)
tail_step (Ok (rec.Edge x)) l m ms h h' d p e k r ih t = tail_edge l m ms h h' d p ih x e k r t
tail_step (Ok (rec.Entry x)) l m ms h h' d p e k r ih t = tail_entry l m ms h h' d p ih x e k r t
tail_step (Ok rec.End) l m ms h h' d p e k r ih t = tail_end l m ms h h' d p (below l p) r t

tail_of : (ls : List (List ℕ)) (h h' : Header) (d : Due) (p : Place) (e k : ℕ) → (walk ls h d p e k).told ≡ Ok h' → Tail d ls h h' (walk ls h d p e k)
unfolding walk
tail_of [] h h' d p e k t = absurd (let z : ◌≡◌ {A = ℕ} 0 1 = cc t in omega arith)
tail_of (l ∷ []) h h' d p e k t = absurd (let z : ◌≡◌ {A = ℕ} 0 1 = cc t in omega arith)
tail_of (l ∷ (m ∷ ms)) h h' d p e k t = tail_step (record_line d h p (fields l)) l m ms h h' d p e k refl (λ d' e' k'. tail_of (m ∷ ms) h h' d' (below l p) e' k') t

-- a whole text
head_of : (r : Result Header SheetFault) (l m : List ℕ) (ms : List (List ℕ)) (h : Header) (p : Place) (e k : ℕ) → header_line top (fields l) ≡ r → (onward r (m ∷ ms) p e k).told ≡ Ok h → Sheet (glue 10 (l ∷ (m ∷ ms))) h (onward r (m ∷ ms) p e k).edges (onward r (m ∷ ms) p e k).entries
head_of (Err f) l m ms h p e k g t = absurd (let z : ◌≡◌ {A = ℕ} 0 1 = cc t in omega arith)
head_of (Ok h₀) l m ms h p e k g t =
    let T = tail_of (m ∷ ms) h₀ h due.Edge p e k t in
    let f = header_line_is top l h₀ g in
    let R = walk (m ∷ ms) h₀ due.Edge p e k in
    let S : Sheet (glue 10 (l ∷ (m ∷ ms))) h₀ R.edges R.entries =
    record { ceiling = f.0; spelled = f.1; some_edges = T.extra.0; some_entries = T.extra.1; lines = regroup l (header_text h₀ f.0) (glue 10 (m ∷ ms)) f.2 ∙ ap (λ v. header_text h₀ f.0 ++ v) T.text } in
    subst (λ v. Sheet (glue 10 (l ∷ (m ∷ ms))) v R.edges R.entries) T.same S

sheet_from : (ls : List (List ℕ)) (h : Header) (e k : ℕ) → (from ls e k).told ≡ Ok h → Sheet (glue 10 ls) h (from ls e k).edges (from ls e k).entries
sheet_from [] h e k t = absurd (let z : ◌≡◌ {A = ℕ} 0 1 = cc t in omega arith)
sheet_from (l ∷ []) h e k t = absurd (let z : ◌≡◌ {A = ℕ} 0 1 = cc t in omega arith)
sheet_from (l ∷ (m ∷ ms)) h e k t = head_of (header_line top (fields l)) l m ms h (below l top) e k refl t

sheet_of : (text : List ℕ) (h : Header) (e k : ℕ) → (reading e k text).told ≡ Ok h → Sheet text h (reading e k text).edges (reading e k text).entries
unfolding reading
sheet_of text h e k t = subst (λ v. Sheet v h (from (lines text) e k).edges (from (lines text) e k).entries) (sym (glue_split 10 text)) (sheet_from (lines text) h e k t)

admitted_ok : (o : Option CodeFault) (h : Header) (es : List Edge) (n : Numbers) → admitted o h es ≡ Ok n → (o ≡ None) × (n ≡ numbers h es)
admitted_ok None h es n t = (refl, sym (ok_same (numbers h es) n t))
admitted_ok (Some f) h es n t = absurd (let z : ◌≡◌ {A = ℕ} 0 1 = cc t in omega arith)

judged_ok : (r : Result Header SheetFault) (es : List Edge) (ks : List Entry) (n : Numbers) → judged r es ks ≡ Ok n → (h : Header) × (r ≡ Ok h) × (admission h es ks ≡ None) × (n ≡ numbers h es)
judged_ok (Err f) es ks n t = absurd (let z : ◌≡◌ {A = ℕ} 0 1 = cc t in omega arith)
judged_ok (Ok h) es ks n t = let a = admitted_ok (admission h es ks) h es n t in (h, refl, a.0, a.1)

pub only_sheets : OnlySheets
only_sheets text e k n t =
    let j = judged_ok (reading e k text).told (reading e k text).edges (reading e k text).entries n t in
    record { header = j.0; sheet = sheet_of text j.0 e k j.1; admitted = j.2; told = j.3 }
