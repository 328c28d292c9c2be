-- Lemmas on `over` and `least_to`, and a choice at each position. Assumes nothing.
use Rattle.std.proofs.Common.{◌≡◌, ℕ, zero, suc, ◌+◌, ◌<◌, ◌≤◌, min, max, Bool, true, false, cond, not, ◌&&◌, T, eqb, refl, subst, ap₂, arith, eqb→eq}
use native.Mathlib.Decide.{dec_le, dec_lt}
use lib.Dec.{eqb_refl}
use Rattle.tree.specs.Over.{over, total, greatest, count, least_to}

pub cond_related : (R : ℕ → ℕ → Type 0) (b : Bool) (x y z w : ℕ) → (b ≡ true → R x z) → R y w → R (cond b x y) (cond b z w)
cond_related R true x y z w h k = h refl
cond_related R false x y z w h k = k

-- what relates the values at each position relates what is made of them
pub over_related : (R : ℕ → ℕ → Type 0) (op po : ℕ → ℕ → ℕ) (u v : ℕ) → R u v → ((a b c d : ℕ) → R a c → R b d → R (op a b) (po c d)) →
    (n : ℕ) (test : ℕ → Bool) (f g : ℕ → ℕ) → ((x : ℕ) → x < n → test x ≡ true → R (f x) (g x)) → R (over op u n test f) (over po v n test g)
unfolding over
over_related R op po u v z s zero test f g h = z
over_related R op po u v z s (suc n) test f g h =
    let ih = over_related R op po u v z s n test f g (λ x l t. h x (omega arith) t) in
    cond_related R (test n) (op (f n) (over op u n test f)) (over op u n test f) (po (g n) (over po v n test g)) (over po v n test g)
    (λ e. s (f n) (over op u n test f) (g n) (over po v n test g) (h n (omega arith) e) ih) ih

pub over_same : (op : ℕ → ℕ → ℕ) (u n : ℕ) (test : ℕ → Bool) (f g : ℕ → ℕ) → ((x : ℕ) → x < n → test x ≡ true → f x ≡ g x) → over op u n test f ≡ over op u n test g
over_same op u n test f g h = over_related ◌≡◌ op op u u refl (λ a b c d p q. ap₂ op p q) n test f g h

pub total_mono : (n : ℕ) (test : ℕ → Bool) (f g : ℕ → ℕ) → ((x : ℕ) → x < n → test x ≡ true → f x ≤ g x) → total n test f ≤ total n test g
total_mono n test f g h = over_related ◌≤◌ ◌+◌ ◌+◌ 0 0 (omega arith) (λ a b c d p q. omega arith) n test f g h

pub greatest_mono : (n : ℕ) (test : ℕ → Bool) (f g : ℕ → ℕ) → ((x : ℕ) → x < n → test x ≡ true → f x ≤ g x) → greatest n test f ≤ greatest n test g
greatest_mono n test f g h = over_related ◌≤◌ max max 0 0 (omega arith) (λ a b c d p q. omega arith) n test f g h

pub greatest_within : (n : ℕ) (test : ℕ → Bool) (f : ℕ → ℕ) (top : ℕ) → ((x : ℕ) → x < n → test x ≡ true → f x ≤ top) → greatest n test f ≤ top
greatest_within n test f top h = over_related (λ a b. a ≤ top) max max 0 0 (omega arith) (λ a b c d p q. omega arith) n test f f h

pub least_reached : (n : ℕ) (f : ℕ → ℕ) → (b : ℕ) × (b ≤ n) × (f b ≡ least_to n f)
unfolding least_to
least_reached zero f = (0, omega arith, refl)
least_reached (suc n) f = go (least_reached n f) (dec_le (least_to n f) (f (suc n)))
  where
    go : (b : ℕ) × (b ≤ n) × (f b ≡ least_to n f) → Dec (least_to n f ≤ f (suc n)) → (b : ℕ) × (b ≤ suc n) × (f b ≡ min (least_to n f) (f (suc n)))
    go w (yes h) = (w.0, omega arith, omega arith)
    go w (no h) = (suc n, omega arith, omega arith)

pub least_under : (n : ℕ) (f : ℕ → ℕ) (b : ℕ) → b ≤ n → least_to n f ≤ f b
unfolding least_to
least_under zero f b h = subst (λ x. f 0 ≤ f x) (let e : 0 ≡ b = omega arith in e) (omega arith)
least_under (suc n) f b h = go (λ k. least_under n f b k) (dec_le b n)
  where
    go : (b ≤ n → least_to n f ≤ f b) → Dec (b ≤ n) → min (least_to n f) (f (suc n)) ≤ f b
    go ih (yes k) = omega (arith, ih k)
    go ih (no k) = subst (λ x. min (least_to n f) (f (suc n)) ≤ f x) (let e : suc n ≡ b = omega arith in e) (omega arith)

-- a choice at each position that passes, made into a function
pub choose : {B : Type 0} (D : ℕ → Type 0) → ((x : ℕ) → Dec (D x)) → B → (Q : ℕ → B → Type 0) → ((x : ℕ) → D x → (y : B) × Q x y) →
    (f : ℕ → B) × ((x : ℕ) → D x → Q x (f x))
choose {B} D dec other Q w = (λ x. pick x (dec x), λ x d. right x (dec x) d)
  where
    pick : (x : ℕ) → Dec (D x) → B
    pick x (yes d) = (w x d).0
    pick x (no n) = other

    right : (x : ℕ) (z : Dec (D x)) → D x → Q x (pick x z)
    right x (yes d) e = (w x d).1
    right x (no n) e = absurd (n e)

-- a function changed at one position
unfoldable pub update : (ℕ → ℕ) → ℕ → ℕ → ℕ → ℕ
update s n b x = cond (eqb x n) b (s x)

pub TIs : (b : Bool) → T b → b ≡ true
TIs true t = refl
TIs false t = elim t [ ]

pub is_T : (b : Bool) → b ≡ true → T b
is_T true e = tt
is_T false e = let z : ◌≡◌ {A = ℕ} 0 1 = cc in omega arith

pub eqb_same : (n : ℕ) → eqb n n ≡ true
eqb_same n = TIs (eqb n n) (eqb_refl n)

pub eqb_is : (m n : ℕ) → eqb m n ≡ true → m ≡ n
eqb_is m n e = eqb→eq m n (is_T (eqb m n) e)

pub eqb_not : (m n : ℕ) → ¬ (m ≡ n) → eqb m n ≡ false
eqb_not m n h = go (eqb m n) refl
  where
    go : (b : Bool) → eqb m n ≡ b → b ≡ false
    go true e = absurd (h (eqb_is m n e))
    go false e = refl

pub update_same : (s : ℕ → ℕ) (n b : ℕ) → update s n b n ≡ b
unfolding update
update_same s n b = rw (eqb_same n)

pub update_below : (s : ℕ → ℕ) (n b x : ℕ) → x < n → update s n b x ≡ s x
unfolding update
update_below s n b x h = let e : eqb x n ≡ false = eqb_not x n (omega arith) in rw e

-- some position passes where some are counted
pub counted : (n : ℕ) (test : ℕ → Bool) → 1 ≤ count n test → (x : ℕ) × (x < n) × (test x ≡ true)
unfolding over
counted zero test h = absurd (let z : ⊥ = omega arith in z)
counted (suc n) test h = go (λ k. counted n test k) (test n) refl h
  where
    go : (1 ≤ count n test → (x : ℕ) × (x < n) × (test x ≡ true)) → (b : Bool) → test n ≡ b → 1 ≤ cond b (1 + count n test) (count n test) → (x : ℕ) × (x < suc n) × (test x ≡ true)
    go ih true e k = (n, omega arith, e)
    go ih false e k = let w = ih k in (w.0, omega arith, w.2)

pub over_tests : (op : ℕ → ℕ → ℕ) (u n : ℕ) (test tset : ℕ → Bool) (f : ℕ → ℕ) → ((x : ℕ) → x < n → test x ≡ tset x) → over op u n test f ≡ over op u n tset f
unfolding over
over_tests op u zero test tset f h = refl
over_tests op u (suc n) test tset f h =
    let ih = over_tests op u n test tset f (λ x l. h x (omega arith)) in
    let e = h n (omega arith) in
    cc

and_not : (b : Bool) → b ≡ b && not false
and_not true = refl
and_not false = refl

-- all but one of those that are counted
pub count_others : (n : ℕ) (test : ℕ → Bool) (e : ℕ) → count n test ≤ suc (count n (λ x. test x && not (eqb x e)))
unfolding over
count_others zero test e = omega arith
count_others (suc n) test e = go (count_others n test e) (eqb n e) refl (test n)
  where
    rest : ℕ
    rest = count n (λ x. test x && not (eqb x e))

    go : count n test ≤ suc rest → (b : Bool) → eqb n e ≡ b → (t : Bool) → cond t (1 + count n test) (count n test) ≤ suc (cond (t && not b) (1 + rest) rest)
    go ih true p true =
        let same : count n test ≡ rest = over_tests ◌+◌ 0 n test (λ x. test x && not (eqb x e)) (λ x. 1)
        (λ x l. rw (eqb_not x e (let q = eqb_is n e p in omega arith)) (and_not (test x))) in
        omega arith
    go ih true p false = ih
    go ih false p true = omega arith
    go ih false p false = ih

pub below_suc : (P : ℕ → Type 0) (n : ℕ) → ((x : ℕ) → x < n → P x) → P n → (x : ℕ) → x < suc n → P x
below_suc P n below here x h = go (dec_lt x n)
  where
    go : Dec (x < n) → P x
    go (yes k) = below x k
    go (no k) = subst P (let e : n ≡ x = omega arith in e) here
