-- The opening tests, passed or not, and what follows them. Assumes nothing.
use Rattle.std.proofs.Common.{◌≡◌, ℕ, ◌*◌, Bool, true, false, not, eqb, ltb, List, length, get_or, Ok, Err, refl, ap, ◌∙◌, arith, ltb-false, ltb-true, eq-eqb}
use Rattle.code.specs.declared.code.Code.{Code}
use Rattle.field.proofs.Tested.{every_below_at}
use Rattle.field.specs.Tables.{Tables}
use Rattle.linear.proofs.Tests.{eqb_is, no_both}
use Rattle.encoder.specs.Answers.{Answer, refuse, information_length, are_codes, opening}
use Rattle.encoder.specs.Bytes.{Below}
use Rattle.encoder.specs.Opened.{Opened}
use Rattle.encoder.specs.declared.refusal.CoderRefusal.{CoderRefusal}

pub refused : (b : Bool) (r : CoderRefusal) (rest : Answer) → b ≡ true → refuse b r rest ≡ Err r
refused true r rest e = refl
refused false r rest e = absurd (no_both e refl)

pub passed : (b : Bool) (r : CoderRefusal) (rest : Answer) → b ≡ false → refuse b r rest ≡ rest
passed true r rest e = absurd (no_both refl e)
passed false r rest e = refl

pub same_no : (a b : ℕ) → a ≡ b → not (eqb a b) ≡ false
same_no a b e = ap not (eq-eqb a b e)

not_false : (b : Bool) → not b ≡ false → b ≡ true
not_false true e = refl
not_false false e = absurd (no_both refl e)

pub test_same : (a b : ℕ) → not (eqb a b) ≡ false → a ≡ b
test_same a b e = eqb_is a b (not_false (eqb a b) e)

pub codes_are : (q : ℕ) (w : List ℕ) → are_codes q w ≡ true → Below q w
codes_are q w e i l = ltb-true (get_or w i 0) q (every_below_at (λ i. ltb (get_or w i 0) q) (length w) i e l)

-- five tests passed, or one not, with anything after them
module _ (r₁ r₂ r₃ r₄ r₅ : CoderRefusal) where
  chain : Bool → Bool → Bool → Bool → Bool → Answer → Answer
  chain a b c d e rest = refuse a r₁ (refuse b r₂ (refuse c r₃ (refuse d r₄ (refuse e r₅ rest))))

  record Passes (a b c d e : Bool) : Type 0 where
    one : a ≡ false
    two : b ≡ false
    three : c ≡ false
    four : d ≡ false
    five : e ≡ false

  all_passed : (a b c d e : Bool) → chain a b c d e (Ok tt) ≡ Ok tt → Passes a b c d e
  unfolding chain
  all_passed true b c d e h = absurd (let z : ◌≡◌ {A = ℕ} 0 1 = cc in omega arith)
  all_passed false true c d e h = absurd (let z : ◌≡◌ {A = ℕ} 0 1 = cc in omega arith)
  all_passed false false true d e h = absurd (let z : ◌≡◌ {A = ℕ} 0 1 = cc in omega arith)
  all_passed false false false true e h = absurd (let z : ◌≡◌ {A = ℕ} 0 1 = cc in omega arith)
  all_passed false false false false true h = absurd (let z : ◌≡◌ {A = ℕ} 0 1 = cc in omega arith)
  all_passed false false false false false h = record { one = refl; two = refl; three = refl; four = refl; five = refl }

  chain_rest : (a b c d e : Bool) → chain a b c d e (Ok tt) ≡ Ok tt → (rest : Answer) → chain a b c d e rest ≡ rest
  unfolding chain
  chain_rest a b c d e h rest =
      let p = all_passed a b c d e h in
      passed a r₁ _ p.one ∙ passed b r₂ _ p.two ∙ passed c r₃ _ p.three ∙ passed d r₄ _ p.four ∙ passed e r₅ rest p.five

  chain_stops : (a b c d e : Bool) (x : CoderRefusal) → chain a b c d e (Ok tt) ≡ Err x → (rest : Answer) → chain a b c d e rest ≡ Err x
  unfolding chain
  chain_stops true b c d e x h rest = h
  chain_stops false true c d e x h rest = h
  chain_stops false false true d e x h rest = h
  chain_stops false false false true e x h rest = h
  chain_stops false false false false true x h rest = h
  chain_stops false false false false false x h rest = absurd (let z : ◌≡◌ {A = ℕ} 0 1 = cc in omega arith)

module _ (t : Tables) (c : Code) (symbols scratch word : ℕ) (given : List ℕ) where
  pub opened : opening t c symbols scratch word given (Ok tt) ≡ Ok tt → Opened t c symbols scratch word given
  unfolding chain
  opened h =
      let p = all_passed _ _ _ _ _ (not (eqb t.order c.header.order)) (ltb scratch (c.header.rows * c.header.columns)) (not (eqb symbols (information_length c))) (not (eqb word c.header.columns)) (not (are_codes t.order given)) h in
      record {
        order = eqb_is t.order c.header.order (not_false _ p.one);
        room = ltb-false scratch (c.header.rows * c.header.columns) p.two;
        many = eqb_is symbols (information_length c) (not_false _ p.three);
        long = eqb_is word c.header.columns (not_false _ p.four);
        codes = codes_are t.order given (not_false _ p.five);
      }

  pub opening_rest : opening t c symbols scratch word given (Ok tt) ≡ Ok tt → (rest : Answer) → opening t c symbols scratch word given rest ≡ rest
  unfolding chain
  opening_rest h rest = chain_rest _ _ _ _ _ (not (eqb t.order c.header.order)) (ltb scratch (c.header.rows * c.header.columns)) (not (eqb symbols (information_length c))) (not (eqb word c.header.columns)) (not (are_codes t.order given)) h rest

  pub opening_stops : (x : CoderRefusal) → opening t c symbols scratch word given (Ok tt) ≡ Err x → (rest : Answer) → opening t c symbols scratch word given rest ≡ Err x
  unfolding chain
  opening_stops x h rest = chain_stops _ _ _ _ _ (not (eqb t.order c.header.order)) (ltb scratch (c.header.rows * c.header.columns)) (not (eqb symbols (information_length c))) (not (eqb word c.header.columns)) (not (are_codes t.order given)) x h rest
