use Rattle.std.proofs.Common.{◌≡◌, ℕ, ◌+◌, ◌-◌, ◌<◌, List, length, replicate, get_or, take, ap, ap₂, ◌∙◌, arith}
use Rattle.std.proofs.lemmas.List.{get_or-take, length-take, get_or-replicate, length-replicate}
use Rattle.joiner.specs.Level.{first_from}
use Rattle.joiner.specs.Loops.{number, passes}
use Rattle.joiner.specs.Counts.{tallied_one, number_le, scanned}
use Rattle.joiner.proofs.Granted.{granted}
use Rattle.joiner.proofs.level.level_with.Goals as goal

abbrev zeros : ℕ → List ℕ
zeros n = replicate n 0

long_zeros : (n : ℕ) → length (zeros n) ≡ n
long_zeros n = let z : ℕ = 0 in length-replicate n z

blank : (n k : ℕ) → k < length (zeros n) → get_or (zeros n) k 0 ≡ 0
blank n k h = get_or-replicate n k 0 0 (omega (arith, long_zeros n))

pub whole_as_slice-counts : goal.whole_as_slice-counts
whole_as_slice-counts g c = omega (arith, c.requires.1)

pub tally-requires : goal.tally-requires
tally-requires g c =
    let o = c.args.operands.now in let q = (g.F.Field.meaning o.field.now).order in
    let G = granted q o.ceiling o.left.now o.right.now q o.admitted in
    record {
      few = omega (arith, G.left_long, (g.met.F.Field.lawful o.field.now).high);
      room = λ a. omega (arith, G.left_low a, c.requires.0, long_zeros g.row.N);
      small = λ k h. omega (arith, blank g.row.N k h);
    }

pub tally-requires-2 : goal.tally-requires-2
tally-requires-2 g c =
    let o = c.args.operands.now in let q = (g.F.Field.meaning o.field.now).order in
    let high = (g.met.F.Field.lawful o.field.now).high in
    let G = granted q o.ceiling o.left.now o.right.now q o.admitted in
    let l = o.left.now in
    let long : length c.tally.new.counts ≡ length (zeros g.row.N) = c.tally.auto.counts in
    record {
      few = omega (arith, G.right_long, high);
      room = λ a. omega (arith, G.right_low a, c.requires.0, long_zeros g.row.N);
      small = λ k h. omega (arith, tallied_one (zeros g.row.N) c.tally.new.counts l (blank g.row.N) c.tally.ensures k (omega arith), number_le l (length l) k, G.left_long, high);
    }

pub overflow_sub-last : goal.overflow_sub-last
overflow_sub-last g c =
    let o = c.args.operands.now in let q = (g.F.Field.meaning o.field.now).order in
    (granted q o.ceiling o.left.now o.right.now q o.admitted).low

pub scan-requires : goal.scan-requires
scan-requires g c =
    let o = c.args.operands.now in let q = (g.F.Field.meaning o.field.now).order in
    let G = granted q o.ceiling o.left.now o.right.now q o.admitted in
    let n = c.enough.ensures.answer in
    record { room = (omega (arith, length-take (o.ceiling - 1 - 0) c.tally-2.new.counts, G.high), (omega arith, omega (arith, c.order.ensures, (g.met.F.Field.lawful o.field.now).high))) }

pub returns : goal.returns
returns g c =
    let o = c.args.operands.now in let q = (g.F.Field.meaning o.field.now).order in
    let l = o.left.now in let r = o.right.now in let top = o.ceiling in
    let G = granted q top l r q o.admitted in
    let none = zeros g.row.N in
    let long : length c.tally.new.counts ≡ length none = c.tally.auto.counts in
    let long2 : length c.tally-2.new.counts ≡ length c.tally.new.counts = c.tally-2.auto.counts in
    let room : top < length none = omega (arith, c.requires.0, long_zeros g.row.N) in
    let front = take (top - 1 - 0) c.tally-2.new.counts in
    let end : length front ≡ top - 1 = omega (arith, length-take (top - 1 - 0) c.tally-2.new.counts, room) in
    scanned q top c.scan.result l r front
    (λ k h. get_or-take (top - 1 - 0) c.tally-2.new.counts k 0 (omega arith) ∙ c.tally-2.ensures k (omega (arith, room))
    ∙ ap (λ n. n + number r (length r) k) (tallied_one none c.tally.new.counts l (blank g.row.N) c.tally.ensures k (omega (arith, room)))
    ∙ ap₂ (λ n m. number l n k + number r m k) G.left_long G.right_long)
    (c.scan.ensures ∙ ap₂ (λ n m. first_from (passes front n) 0 m) (c.enough.ensures.answer ∙ ap (λ n. n + 1) c.order.ensures) end)
