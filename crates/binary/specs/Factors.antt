-- A polynomial of degree p is reducible exactly if two polynomials of lower degree have it as their product. Assumes nothing.
use Rattle.std.specs.Prelude.{◌≡◌, ℕ, zero, suc, ◌+◌, ◌^◌, ◌<◌, ◌≤◌, true, false, ◌≢◌, bit_xor, nat_eq}
use Rattle.std.proofs.Common.{sym, ap, subst, ◌∙◌, inl, inr, arith, pow_pos, pow_mono, eqb-true, eq-eqb}
use Rattle.std.proofs.lemmas.Bool.{both_ways, cases_lt}
use Rattle.field.specs.Every.{some_below}
use Rattle.field.proofs.Tested.{some_below_at, some_below_true, some_below_none}
use Rattle.binary.specs.Polynomials.{carryless, has_degree, reducible, Factors, Divided}
use Rattle.binary.specs.Sums.{xor_same, below_pow}
use Rattle.binary.specs.Carryless.{carry_r, carry_zero, carry_comm}
use Rattle.binary.specs.Degrees.{Degree, degree_bounds, degree_of, degree_up, degree_one, degrees_add, low_multiple, quotient_below}

-- m is no product of polynomials below 2 ^ p
abbrev pub Whole : ℕ → ℕ → Type 0
Whole p m = (a b : ℕ) → a < 2 ^ p → b < 2 ^ p → carryless a b ≢ m

pub reducible_by : (p m a b : ℕ) → a < 2 ^ p → b < 2 ^ p → carryless a b ≡ m → reducible p m ≡ true
unfolding reducible
reducible_by p m a b ha hb e =
    some_below_true (λ a. some_below (λ b. nat_eq (carryless a b) m) (2 ^ p)) (2 ^ p) a ha
    (some_below_true (λ b. nat_eq (carryless a b) m) (2 ^ p) b hb (eq-eqb (carryless a b) m e))

pub reducible_none : (p m : ℕ) → Whole p m → reducible p m ≡ false
unfolding reducible
reducible_none p m w =
    some_below_none (λ a. some_below (λ b. nat_eq (carryless a b) m) (2 ^ p)) (2 ^ p)
    (λ a ha t. let r = some_below_at (λ b. nat_eq (carryless a b) m) (2 ^ p) t in w a r.0 ha r.1 (eqb-true (carryless a r.0) m r.2))

pub whole_of : (p m : ℕ) → reducible p m ≡ false → Whole p m
whole_of p m e a b ha hb f = both_ways (reducible p m) e (reducible_by p m a b ha hb f)

parts : (p m : ℕ) → reducible p m ≡ true → (a : ℕ) × (b : ℕ) × (a < 2 ^ p) × (b < 2 ^ p) × (carryless a b ≡ m)
unfolding reducible
parts p m t =
    let r = some_below_at (λ a. some_below (λ b. nat_eq (carryless a b) m) (2 ^ p)) (2 ^ p) t in
    let s = some_below_at (λ b. nat_eq (carryless r.0 b) m) (2 ^ p) r.2 in
    (r.0, s.0, r.1, s.1, eqb-true (carryless r.0 s.0) m s.2)

zero_left : (b : ℕ) → carryless 0 b ≡ 0
zero_left b = carry_comm 0 b ∙ carry_zero b

positive : (m a b : ℕ) → 0 < m → carryless a b ≡ m → (0 < a) × (0 < b)
positive m zero b h e = let z : 0 ≡ m = sym (zero_left b) ∙ e in absurd (omega arith)
positive m (suc a) zero h e = let z : 0 ≡ m = sym (carry_zero (suc a)) ∙ e in absurd (omega arith)
positive m (suc a) (suc b) h e = (omega arith, omega arith)

pub factors_of : (p m : ℕ) → has_degree m p ≡ true → reducible p m ≡ true → Factors p m
factors_of p m d t =
    let low : 2 ^ p ≤ m = (degree_bounds m p (eqb-true _ 1 d)).0 in
    let r = parts p m t in
    let s = positive m r.0 r.1 (let h = pow_pos p in omega arith) r.4 in
    let i = degree_of p r.0 s.0 r.2 in
    let j = degree_of p r.1 s.1 r.3 in
    record {
      left = r.0;
      right = r.1;
      left_degree = i.0;
      right_degree = j.0;
      left_low = i.1;
      right_low = j.1;
      left_has = eq-eqb _ 1 i.2;
      right_has = eq-eqb _ 1 j.2;
      product = r.4;
    }

below : (p a i : ℕ) → i < p → has_degree a i ≡ true → a < 2 ^ p
below p a i h d =
    let hi : a < 2 ^ suc i = (degree_bounds a i (eqb-true _ 1 d)).1 in
    let w : 2 ^ suc i ≤ 2 ^ p = pow_mono (omega arith) in
    omega arith

pub reducible_of : (p m : ℕ) → Factors p m → reducible p m ≡ true
reducible_of p m f =
    reducible_by p m f.left f.right (below p f.left f.left_degree f.left_low f.left_has)
    (below p f.right f.right_degree f.right_low f.right_has) f.product

-- a rest that is not 0 shows that d is no factor
pub no_factor : (m d k r : ℕ) → 0 < d → Divided m d k r → (r ≢ 0) → (b : ℕ) → carryless d b ≢ m
no_factor m d k r h v un b e =
    let g = degree_of d d h (below_pow d) in
    let same : carryless d (bit_xor b k) ≡ r = carry_r d b k ∙ ap (λ (x : ℕ). bit_xor x (carryless d k)) e ∙ v.equal in
    let low : r < 2 ^ g.0 = v.lower g.0 (eq-eqb _ 1 g.2) in
    un (sym same ∙ low_multiple d g.0 (bit_xor b k) g.2 (subst (λ (x : ℕ). x < 2 ^ g.0) (sym same) low))

-- a rest of 0 shows that d is a factor
pub factor_found : (p m d k r : ℕ) → Degree m p → 1 < d → d < 2 ^ p → Divided m d k r → r ≡ 0 → reducible p m ≡ true
factor_found p m d k r dm h hd v z =
    let g = degree_of p d (omega arith) hd in
    let up : 0 < g.0 = degree_up d g.0 h g.2 in
    let same : carryless d k ≡ m = sym (xor_same m (carryless d k) (v.equal ∙ z)) in
    let wide : 2 ^ suc p ≤ 2 ^ (g.0 + p) = pow_mono (omega arith) in
    let high : m < 2 ^ suc p = (degree_bounds m p dm).1 in
    reducible_by p m d k hd (quotient_below d g.0 k p g.2 (subst (λ (x : ℕ). x < 2 ^ (g.0 + p)) (sym same) (omega arith))) same

-- of two factors one has at most half the degree
pub whole_half : (p m h : ℕ) → Degree m p → p ≤ h + suc h → ((d : ℕ) → 2 ≤ d → d < 2 ^ suc h → (b : ℕ) → carryless d b ≢ m) → Whole p m
whole_half p m h dm half un a b ha hb e =
    let low : 2 ^ p ≤ m = (degree_bounds m p dm).0 in
    let s = positive m a b (let z = pow_pos p in omega arith) e in
    let i = degree_of p a s.0 ha in
    let j = degree_of p b s.1 hb in
    let sum : p ≡ i.0 + j.0 = degree_one m p (i.0 + j.0) dm (subst (λ (x : ℕ). Degree x (i.0 + j.0)) e (degrees_add a i.0 b j.0 i.2 j.2)) in
    elim (cases_lt h i.0) [
      | inr l ↦ half_of a i.0 i.2 (let z = j.1 in omega arith) l (λ lo hi. un a lo hi b e)
      | inl l ↦ half_of b j.0 j.2 (let z = i.1 in omega arith) (omega arith) (λ lo hi. un b lo hi a (carry_comm b a ∙ e))
    ]
  where
    half_of : (c i : ℕ) → Degree c i → 0 < i → i ≤ h → (2 ≤ c → c < 2 ^ suc h → ⊥) → ⊥
    half_of c i d up l no' =
        let bs = degree_bounds c i d in
        let u : 2 ^ 1 ≤ 2 ^ i = pow_mono up in
        let v : 2 ^ suc i ≤ 2 ^ suc h = pow_mono (omega arith) in
        no' (let x = bs.0 in omega arith) (let x = bs.1 in omega arith)
