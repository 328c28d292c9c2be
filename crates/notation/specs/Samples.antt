-- A sample as text. Assumes nothing.
use Rattle.std.specs.Prelude.{◌≡◌, ℕ, true, false, cond, List, drop, Some, None, codes, Option, ◌≢◌, slice_index, slice_index_or}
use Rattle.std.specs.Str.{bytes_eq}
use Rattle.sampling.specs.declared.samples.Sample.{Sample}
use Rattle.sampling.specs.declared.samples.Sample.TheVariants.{Lost, Known, Measured}
use Rattle.notation.specs.Floats.{FloatRead}

-- a lost or a known sample
abbrev pub plain_of : List ℕ → Option Sample
plain_of bs =
    cond (bytes_eq bs (codes "lost")) (Some Lost)
    (cond (bytes_eq bs (codes "0")) (Some (Known false))
    (cond (bytes_eq bs (codes "1")) (Some (Known true)) None))

-- a measured sample: its float is read from the text
abbrev pub Measures : List ℕ → Option Sample → Type 0
Measures bs None = FloatRead bs None
Measures bs (Some Lost) = ⊥
Measures bs (Some (Known b)) = ⊥
Measures bs (Some (Measured x)) = FloatRead bs (Some x)

-- behind a tilde stands what was measured
pub record SampleRead (bs : List ℕ) (r : Option Sample) : Type 0 where
  pub measured : slice_index_or bs 0 0 ≡ 126 → Measures (drop 1 bs) r
  pub plain : (slice_index bs 0 ≢ 126) → r ≡ plain_of bs
