use Rattle.std.proofs.Common.{ℕ, ◌<◌, sym, subst}
use Rattle.field.proofs.Unique.{inverse_is}
use Rattle.binary.specs.Polynomials.{Divided}
use Rattle.binary.specs.declared.rule.Rule.{Rule}
use Rattle.binary.specs.Fields.{binary_tables}
use Rattle.binary.specs.Laws.{made_of, binary_laws}
use Rattle.binary.specs.Inverses.{Inverting, Step, inverting_none, inverting_more, inverting_all}
use Rattle.binary.proofs.rule.Rule.inverted.Goals as goal

pub loop-rest-init : goal.loop-rest-init
loop-rest-init c =
    let s = c.args.self.now in
    inverting_none s.p s.polynomial c.args.a (made_of s.p s.polynomial s.admitted).low c.requires.some c.requires.code

-- a turn's division, and what comes of it
turn : (f : Rule) (a s r k t : ℕ) → 1 < r → Inverting f.p f.polynomial a s r → Divided f.polynomial r k t → Step f.p f.polynomial a s r k t
turn f a s r k t =
    let h = made_of f.p f.polynomial f.admitted in
    inverting_more f.p f.polynomial a s r k t h.degree h.whole

pub times-inverse-requires : goal.times-inverse-requires
times-inverse-requires c = record {
  left = c.loop-rest.invariant.code;
  right = (turn c.args.self.now c.args.a _ _ _ _ c.loop-rest-test.true c.loop-rest.invariant c.divide-division.ensures).quotient;
}

pub loop-rest-smaller : goal.loop-rest-smaller
loop-rest-smaller c = (turn c.args.self.now c.args.a _ _ _ _ c.loop-rest-test.true c.loop-rest.invariant c.divide-division.ensures).less

pub loop-rest-preserved : goal.loop-rest-preserved
loop-rest-preserved c =
    let s = c.args.self.now in
    subst (λ (x : ℕ). Inverting s.p s.polynomial c.args.a x c.divide-division.result.rest) (sym c.times-inverse.ensures)
    (turn s c.args.a _ _ _ _ c.loop-rest-test.true c.loop-rest.invariant c.divide-division.ensures).next

pub returns : goal.returns
returns c =
    let s = c.args.self.now in
    sym (inverse_is (binary_tables s.p s.polynomial) (binary_laws s.p s.polynomial s.admitted) c.args.a c.loop-rest.inverse c.requires.code c.loop-rest.invariant.code
    (inverting_all s.p s.polynomial c.args.a c.loop-rest.inverse c.loop-rest.rest (made_of s.p s.polynomial s.admitted).degree c.requires.code c.loop-rest-test.false c.loop-rest.invariant))
