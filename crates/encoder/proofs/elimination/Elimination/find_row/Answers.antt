use Rattle.std.proofs.Common.{◌≡◌, ℕ, ◌+◌, ◌*◌, ◌<◌, ◌≤◌, get_or, None, Some, Option, MatchOption, arith, rules, tests}
use Rattle.std.proofs.lemmas.Iterator.{first_from_Range}
use Rattle.encoder.specs.Bytes.{Idle}
use Rattle.encoder.proofs.elimination.Elimination.find_row.Goals as goal

pub returns : goal.returns
returns g c =
    ends c.find.result (first_from_Range _ _ _ c.find.result idle busy c.find.ensures.ran (λ x q k. search (rules, tests)) (λ x q k. search (rules, tests)))
  where
    n : ℕ
    n = c.args.self.now.columns

    idle : ℕ → Type 0
    idle r = (get_or c.args.owners.now r None ≡ None) × ¬ (get_or c.args.matrix.now (r * n + c.args.c) 0 ≡ 0)

    busy : ℕ → Type 0
    busy r = get_or c.args.owners.now r None ≡ None → get_or c.args.matrix.now (r * n + c.args.c) 0 ≡ 0

    ends : (o : Option ℕ) → MatchOption o ((r : ℕ) → 0 ≤ r → r < c.args.self.now.rows → busy r) (λ r. (0 ≤ r) × (r < c.args.self.now.rows) × idle r × ((k : ℕ) → 0 ≤ k → k < r → busy k))
        → MatchOption o ((r : ℕ) → r < c.args.self.now.rows → busy r) (λ r. (r < c.args.self.now.rows) × Idle c.args.matrix.now n c.args.owners.now c.args.c r)
    ends None h = λ r l. h r (omega arith) l
    ends (Some r) h = (h.1, record { free = h.2.0; entry = h.2.1 })
