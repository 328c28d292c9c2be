-- A search answers the least bad place, and nothing if no place is bad.
use Rattle.std.proofs.Common.{◌≡◌, ℕ, zero, suc, ◌+◌, ◌<◌, ◌≤◌, Bool, true, false, cond, ◌⊎◌, Some, None, Decides, Option, sym, refl, subst, inl, inr, arith}
use Rattle.std.proofs.lemmas.Bool.{both_ways, cases_eq}
use Rattle.std.proofs.lemmas.Bool.Decides.{not_from_Decides}
use Rattle.code.specs.Admission.{first, past, or_else}
use Rattle.code.specs.Places.{Past}

pub record Least (S : ℕ → Type 0) (o : Option ℕ) : Type 0 where
  pub none : o ≡ None → (p : ℕ) → S p → ⊥
  pub some : (p : ℕ) → o ≡ Some p → S p × ((j : ℕ) → j < p → S j → ⊥)

pub some_none : {A : Type 0} (x : A) → Some x ≡ None → ⊥
some_none x e = let z : ◌≡◌ {A = ℕ} 0 1 = cc in omega arith

-- the test passes from k on, below n
abbrev Passes : (ℕ → Bool) → ℕ → ℕ → Type 0
Passes t k n = (j : ℕ) → k ≤ j → j < n → t j ≡ true

passes_more : (t : ℕ → Bool) (k n m : ℕ) → m ≤ n → t k ≡ true → Passes t (k + 1) n → Passes t k m
passes_more t k n m in' here rest j le lt =
    elim (cases_eq j k) [ inl e ↦ subst (λ v. t v ≡ true) (sym e) here | inr ne ↦ rest j (omega arith) (omega arith) ]

none_by : (t : ℕ → Bool) (k n : ℕ) (b : Bool) → t k ≡ b → cond b (first t (k + 1) n) (Some k) ≡ None → (first t (k + 1) n ≡ None → Passes t (k + 1) (k + 1 + n)) → Passes t k (k + suc n)
none_by t k n true here e rest = passes_more t k (k + 1 + n) (k + suc n) (omega arith) here (rest e)
none_by t k n false here e rest = absurd (some_none k e)

first_none : (t : ℕ → Bool) (k n : ℕ) → first t k n ≡ None → Passes t k (k + n)
first_none t k zero e = λ j le lt. absurd (omega arith)
first_none t k (suc n) e = none_by t k n (t k) refl e (first_none t (k + 1) n)

record Found (t : ℕ → Bool) (k n p : ℕ) : Type 0 where
  bad : t p ≡ false
  low : k ≤ p
  high : p < k + n
  before : Passes t k p

some_by : (t : ℕ → Bool) (k n p : ℕ) (b : Bool) → t k ≡ b → cond b (first t (k + 1) n) (Some k) ≡ Some p → (first t (k + 1) n ≡ Some p → Found t (k + 1) n p) → Found t k (suc n) p
some_by t k n p true here e rest =
    let f = rest e in
    record { bad = f.bad; low = omega arith; high = omega arith; before = passes_more t k p p (omega arith) here f.before }
some_by t k n p false here e rest =
    let h : k ≡ p = cc in
    record { bad = subst (λ v. t v ≡ false) h here; low = omega arith; high = omega arith; before = λ j le lt. absurd (omega arith) }

first_some : (t : ℕ → Bool) (k n p : ℕ) → first t k n ≡ Some p → Found t k n p
first_some t k zero p e = absurd (some_none p (sym e))
first_some t k (suc n) p e = some_by t k n p (t k) refl e (first_some t (k + 1) n p)

-- a search by a test that fails exactly at the bad places
pub least_first : (t : ℕ → Bool) (k n : ℕ) (S : ℕ → Type 0) → ((p : ℕ) → k ≤ p → p < k + n → t p ≡ false → S p) → ((p : ℕ) → S p → (k ≤ p) × (p < k + n) × (t p ≡ false)) → Least S (first t k n)
least_first t k n S sound complete = record {
  none = λ e p s. let c = complete p s in both_ways (t p) c.2 (first_none t k n e p c.0 c.1);
  some = λ p e.
      let f = first_some t k n p e in
      (sound p f.low f.high f.bad, λ j lt s. let c = complete j s in both_ways (t j) c.2 (f.before j c.0 lt));
}

-- a place told by one test alone
pub least_unless : (b : Bool) (P : Type 0) (n : ℕ) → Decides b P → Least (λ p. (p ≡ n) × (P → ⊥)) (cond b None (Some n))
least_unless true P n d = record { none = λ e p s. s.1 (d.0 refl); some = λ p e. absurd (some_none p (sym e)) }
least_unless false P n d = record {
  none = λ e. absurd (some_none n e);
  some = λ p e. let h : p ≡ n = cc in ((h, not_from_Decides false d refl), λ j lt s. let i = s.0 in omega arith);
}

pub least_when : (b : Bool) (P : Type 0) (n : ℕ) → Decides b P → Least (λ p. (p ≡ n) × P) (cond b (Some n) None)
least_when true P n d = record {
  none = λ e. absurd (some_none n e);
  some = λ p e. let h : p ≡ n = cc in ((h, d.0 refl), λ j lt s. let i = s.0 in omega arith);
}
least_when false P n d = record { none = λ e p s. not_from_Decides false d refl s.1; some = λ p e. absurd (some_none p (sym e)) }

pub least_past : (n : ℕ) (S : ℕ → Type 0) (o : Option ℕ) → Least S o → Least (Past n S) (past n o)
least_past n S None l = record { none = λ e p s. l.none refl s.0 s.1.1; some = λ p e. absurd (some_none p (sym e)) }
least_past n S (Some k) l = record {
  none = λ e. absurd (some_none (n + k) e);
  some = λ p e.
      let h : p ≡ n + k = cc in
      let f = l.some k refl in
      ((k, (h, f.0)), λ j lt s. let i = s.1.0 in f.1 s.0 (omega arith) s.1.1);
}

-- the earlier of two, where no bad place of the second lies before one of the first
pub least_or : (S R : ℕ → Type 0) (o q : Option ℕ) → Least S o → Least R q → ((i j : ℕ) → S i → R j → i ≤ j) → Least (λ p. S p ⊎ R p) (or_else o q)
least_or S R None q l m apart = record {
  none = λ e p s. elim s [ inl x ↦ l.none refl p x | inr y ↦ m.none e p y ];
  some = λ p e.
      let f = m.some p e in
      (inr f.0, λ j lt s. elim s [ inl x ↦ l.none refl j x | inr y ↦ f.1 j lt y ]);
}
least_or S R (Some k) q l m apart = record {
  none = λ e. absurd (some_none k e);
  some = λ p e.
      let f = l.some p e in
      (inl f.0, λ j lt s. elim s [ inl x ↦ f.1 j lt x | inr y ↦ let a = apart p j f.0 y in omega arith ]);
}

pub least_last : (S : ℕ → Type 0) (o : Option ℕ) → Least S o → Least S (or_else o None)
least_last S None l = l
least_last S (Some k) l = l
