-- The worked examples of all layers together: what making fields answers, products, joins, an encoded word, a frame's calls. Assumes nothing.
use Rattle.std.specs.Prelude.{◌≡◌, ℕ, List, [], ◌∷◌, replicate, Ok, Err}
use Rattle.prime.specs.Primes.{prime_tables}
use Rattle.kinds.specs.Examples as fields
use Rattle.joiner.specs.Answers.{answer_of, third_of}
use Rattle.joiner.specs.Level.{selective_pairs}
use Rattle.tree.specs.Worked.{three, full_pairs}
use Rattle.encoder.specs.Examples.{ExampleA}
use Rattle.frame_tests.specs.Example.{FrameExample}

-- two vectors of three costs over the prime field of 3
abbrev pub left : List ℕ
left = 0 ∷ 5 ∷ 9 ∷ []

abbrev pub right : List ℕ
right = 0 ∷ 6 ∷ 8 ∷ []

abbrev pub twin : List ℕ
twin = 0 ∷ 8 ∷ 8 ∷ []

pub record JoinExamples : Type 0 where
  -- at the ceiling 31 the full joiner tells 9 pairs, the selective one 4, and both write 0 5 6
  pub full : answer_of (prime_tables 3) full_pairs 31 left right 3 ≡ Ok 9
  pub selective : answer_of (prime_tables 3) selective_pairs 31 left right 3 ≡ Ok 4
  pub joined : third_of (prime_tables 3) 31 left right (replicate 3 0) ≡ 0 ∷ 5 ∷ 6 ∷ []
  -- at the ceiling 8 the selective joiner tells 1
  pub high : answer_of (prime_tables 3) selective_pairs 8 twin twin 3 ≡ Ok 1
  pub joined_high : third_of (prime_tables 3) 8 twin twin (replicate 3 0) ≡ 0 ∷ 8 ∷ 8 ∷ []
  -- at the ceiling 7 the entry 8 is refused
  pub low : answer_of (prime_tables 3) full_pairs 7 twin twin 3 ≡ Err 8

pub record WorkedExamples : Type 0 where
  pub fields : fields.Examples
  pub joins : JoinExamples
  pub encoder : ExampleA
  pub frame : FrameExample
  -- the encoder's and the frame's field of three codes is the prime one
  pub three : three ≡ prime_tables 3
