use Rattle.std.proofs.Common.{◌≡◌, ℕ, ◌-◌, length, take, replicate, sym, ap, ◌∙◌}
use Rattle.joiner.specs.Answers.{or_old, told}
use Rattle.tree.specs.Rows.{joined}
use Rattle.joiner.specs.Joined.{joined_of}
use Rattle.frame.proofs.Joined.{joined_same}
use Rattle.frame.specs.Blocks.{block}
use Rattle.frame.proofs.Written.{room_at}
use Rattle.frame.proofs.Steps.{front_is, front_long, clear, ok_told, told_is}
use Rattle.frame.proofs.step.Joins.step.Goals as goal

pub unwrap-pairs-requires : goal.unwrap-pairs-requires
unwrap-pairs-requires g c =
    let t = g.F.Field.meaning c.args.self.now.field.now in
    let area = c.args.area.now in
    let long : length (take (c.order-q.result - 0) (replicate {A = ℕ} 64 0)) ≡ t.order = front_long c.order-q.result (room_at _ _ _ _ c.order-q.ensures (g.met.F.Field.lawful c.args.self.now.field.now).high c.requires.k).0 ∙ c.order-q.ensures in
    let l = front_is _ _ c.args.i c.copied-left.result area c.order-q.ensures c.copied-left.ensures in
    let r = front_is _ _ c.args.j c.copied-right.result area c.order-q.ensures c.copied-right.ensures in
    ok_told c.join.result _ _ (clear t.order c.args.self.now.ceiling c.args.i c.args.j _ area _ _ l r long c.requires.i c.requires.j (c.args.self.now.fits.0, c.args.self.now.fits.1.0) c.requires.left c.requires.right) c.join.ensures.answer

pub returns : goal.returns
returns g c =
    let t = g.F.Field.meaning c.args.self.now.field.now in
    let area = c.args.area.now in
    let q = c.order-q.result in
    let o : q ≡ t.order = c.order-q.ensures in
    let long : length (take (c.order-q.result - 0) (replicate {A = ℕ} 64 0)) ≡ t.order = front_long c.order-q.result (room_at _ _ _ _ c.order-q.ensures (g.met.F.Field.lawful c.args.self.now.field.now).high c.requires.k).0 ∙ c.order-q.ensures in
    let l : take (q - 0) c.copied-left.result ≡ block t.order c.args.i area = front_is _ _ c.args.i c.copied-left.result area o c.copied-left.ensures in
    let r : take (q - 0) c.copied-right.result ≡ block t.order c.args.j area = front_is _ _ c.args.j c.copied-right.result area o c.copied-right.ensures in
    let free = clear t.order c.args.self.now.ceiling c.args.i c.args.j (length (take (q - 0) (replicate {A = ℕ} 64 0))) area _ _ l r long c.requires.i c.requires.j (c.args.self.now.fits.0, c.args.self.now.fits.1.0) c.requires.left c.requires.right in
    let told = told_is _ _ _ free (ap told (sym c.unwrap-pairs.ensures) ∙ c.join.ensures.answer) in
    let out : c.join.new.joined ≡ joined t (take (q - 0) c.copied-left.result) (take (q - 0) c.copied-right.result) = c.join.ensures.joined ∙ ap (λ x. or_old x (joined_of t (take (q - 0) c.copied-left.result) (take (q - 0) c.copied-right.result)) (take (q - 0) (replicate {A = ℕ} 64 0))) free ∙ joined_same t _ _ (g.met.F.Field.lawful c.args.self.now.field.now) in
    let p = c.put_back.ensures in
    record { pairs = cc; area = cc }
