-- Pieces put together again, and cut apart again.
use Rattle.std.proofs.Common.{◌≡◌, ℕ, ◌<◌, Bool, true, false, eqb, leb, List, [], ◌∷◌, ◌++◌, get_or, drop, refl, ap, ◌∙◌, arith}
use Rattle.std.proofs.lemmas.List.{append-nil}
use Rattle.std.proofs.lemmas.Bool.{eqb-true, eq-eqb, ne_eqb, and_parts, leb-true}
use Rattle.sheet.specs.Pieces.{cut, split}
use Rattle.sheet.specs.Words.{digit, digits}
use Rattle.sheet.specs.Grammar.{tabbed}
use Rattle.sheet.proofs.Splits.{split_some}

-- each piece behind the byte c
abbrev pub behind : ℕ → List (List ℕ) → List ℕ
behind c [] = []
behind c (f ∷ fs) = c ∷ (f ++ behind c fs)

abbrev pub glue : ℕ → List (List ℕ) → List ℕ
glue c [] = []
glue c (f ∷ fs) = f ++ behind c fs

glue_cut : (t : Bool) (c b : ℕ) (bs : List ℕ) (ps : List (List ℕ)) → eqb b c ≡ t → ps ≡ get_or ps 0 [] ∷ drop 1 ps → bs ≡ glue c ps → b ∷ bs ≡ glue c (cut t b ps)
glue_cut true c b bs [] g s e = absurd (let z : ◌≡◌ {A = ℕ} 0 1 = cc in omega arith)
glue_cut true c b bs (p ∷ ps) g s e = λ i. eqb-true b c g i ∷ e i
glue_cut false c b bs [] g s e = absurd (let z : ◌≡◌ {A = ℕ} 0 1 = cc in omega arith)
glue_cut false c b bs (p ∷ ps) g s e = ap (λ r. b ∷ r) e

-- the pieces of a text make the text
pub glue_split : (c : ℕ) (bs : List ℕ) → bs ≡ glue c (split c bs)
unfolding split
glue_split c [] = refl
glue_split c (b ∷ bs) = glue_cut (eqb b c) c b bs (split c bs) refl (split_some c bs) (glue_split c bs)

-- no byte of it is c
abbrev pub Free : ℕ → List ℕ → Type 0
Free c [] = Unit {0}
Free c (b ∷ bs) = (b ≡ c → ⊥) × Free c bs

abbrev pub AllFree : ℕ → List (List ℕ) → Type 0
AllFree c [] = Unit {0}
AllFree c (f ∷ fs) = Free c f × AllFree c fs

pub split_free : (c : ℕ) (f : List ℕ) → Free c f → split c f ≡ f ∷ []
unfolding split
split_free c [] h = refl
split_free c (b ∷ bs) h = ap (λ t. cut t b (split c bs)) (ne_eqb b c h.0) ∙ ap (cut false b) (split_free c bs h.1)

pub split_front : (c : ℕ) (f rest : List ℕ) → Free c f → split c (f ++ (c ∷ rest)) ≡ f ∷ split c rest
unfolding split
split_front c [] rest h = ap (λ t. cut t c (split c rest)) (eq-eqb c c refl)
split_front c (b ∷ bs) rest h = ap (λ t. cut t b (split c (bs ++ (c ∷ rest)))) (ne_eqb b c h.0) ∙ ap (cut false b) (split_front c bs rest h.1)

-- the fields of a line
pub split_tabs : (f : List ℕ) (fs : List (List ℕ)) → Free 9 f → AllFree 9 fs → split 9 (f ++ tabbed fs) ≡ f ∷ fs
split_tabs f [] h a = ap (split 9) (append-nil f) ∙ split_free 9 f h
split_tabs f (g ∷ gs) h a = split_front 9 f (g ++ tabbed gs) h ∙ ap (λ ps. f ∷ ps) (split_tabs g gs a.0 a.1)

free_append : (c : ℕ) (f g : List ℕ) → Free c f → Free c g → Free c (f ++ g)
free_append c [] g h k = k
free_append c (b ∷ bs) g h k = (h.0, free_append c bs g h.1 k)

-- a line has no line feed where its fields have none
pub free_tabs : (fs : List (List ℕ)) → AllFree 10 fs → Free 10 (tabbed fs)
free_tabs [] a = tt
free_tabs (f ∷ fs) a = ((λ e. omega (arith, e)), free_append 10 f (tabbed fs) a.0 (free_tabs fs a.1))

-- digits are neither tab nor line feed
pub free_digits : (c : ℕ) (bs : List ℕ) → c < 48 → digits bs ≡ true → Free c bs
free_digits c [] h e = tt
free_digits c (b ∷ bs) h e =
    let both = and_parts (digit b) (digits bs) e in
    let low = leb-true 48 b (and_parts (leb 48 b) (leb b 57) both.0).0 in
    ((λ g. omega (arith, g, low)), free_digits c bs h both.1)
