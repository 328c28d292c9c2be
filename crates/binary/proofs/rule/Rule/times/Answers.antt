use Rattle.std.proofs.Common.{◌≡◌, ℕ, ◌/◌, ◌%◌, ◌^◌, cond, sym, ap, ◌∙◌, subst, arith, eq-eqb, ne_eqb}
use lib.Bits.{bit_xor, xor_zero_r, and_mask}
use Rattle.std.proofs.lemmas.Bool.{cond-true, cond-false}
use Rattle.binary.specs.Polynomials.{has_power}
use Rattle.binary.specs.Laws.{made_of}
use Rattle.binary.proofs.Turns.{Added, added_none, added_more, added_all}
use Rattle.binary.proofs.rule.Rule.times.Goals as goal
use Rattle.binary.proofs.rule.Rule.times.Goals.{then-powers-i-eq1, else-powers-i-eq1}

pub loop-i-init : goal.loop-i-init
loop-i-init c = let s = c.args.self.now in added_none s.p s.polynomial c.args.a c.args.b c.requires.left

pub overflow_shr-powers : goal.overflow_shr-powers
overflow_shr-powers c = let s = c.args.self.now in let h = (made_of s.p s.polynomial s.admitted).high in omega arith

pub doubled-shifted-requires : goal.doubled-shifted-requires
doubled-shifted-requires c =
    let s = c.args.self.now in
    let q = (made_of s.p s.polynomial s.admitted).order in
    let h = c.loop-i.invariant.shifted in
    omega arith

pub loop-i-preserved : goal.loop-i-preserved
loop-i-preserved c =
    let s = c.args.self.now in
    let b : ℕ = c.args.b in
    let i : ℕ = c.loop-i.i in
    let t : ℕ = c.loop-i.shifted in
    let low = and_mask (b / 2 ^ i) 1 in
    let add : c.if-powers-i-eq1.product ≡ bit_xor c.loop-i.product (cond (has_power b i) t 0) =
    elim c.if-powers-i-eq1.branch [
      | then-powers-i-eq1 w ↦ w.product-is ∙ ap (bit_xor c.loop-i.product) (sym (cond-true (has_power b i) t 0 (eq-eqb (b / 2 ^ i % 2) 1 (sym low ∙ w.if-powers-i-eq1.true))))
      | else-powers-i-eq1 w ↦ w.product-is ∙ sym (ap (bit_xor c.loop-i.product) (cond-false (has_power b i) t 0 (ne_eqb (b / 2 ^ i % 2) 1 (λ e. w.if-powers-i-eq1.false (low ∙ e)))) ∙ xor_zero_r c.loop-i.product)
    ] in
    added_more s.p s.polynomial c.args.a b i c.loop-i.product t c.if-powers-i-eq1.product c.doubled-shifted.result
    (made_of s.p s.polynomial s.admitted).degree c.loop-i.invariant add c.doubled-shifted.ensures

pub returns : goal.returns
returns c =
    let s = c.args.self.now in
    let e : c.loop-i.i ≡ s.p = omega arith in
    added_all s.p s.polynomial c.args.a c.args.b c.loop-i.product c.loop-i.shifted
    (made_of s.p s.polynomial s.admitted).degree c.requires.left c.requires.right
    (subst (λ (n : ℕ). Added s.p s.polynomial c.args.a c.args.b n c.loop-i.product c.loop-i.shifted) e c.loop-i.invariant)

pub overflow_cast-result : goal.overflow_cast-result
overflow_cast-result c =
    let s = c.args.self.now in
    let q = (made_of s.p s.polynomial s.admitted).order in
    let h = c.loop-i.invariant.sum in
    record { fits = omega arith }
