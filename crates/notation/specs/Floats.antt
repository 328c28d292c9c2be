-- A float as text. What a text says is the standard library's rule. Assumes nothing.
use Rattle.std.specs.Prelude.{◌≡◌, ℕ, false, List, Some, None, Ok, IsUtf8, Option, Float}
use Rattle.std.specs.Float.{binary32}
use Rattle.std.specs.Float.Parse.{is_float_text, ParsesFloat}

-- none only if the text is no float's; else the float that is read from it
abbrev pub FloatRead : List ℕ → Option Float → Type 0
FloatRead bs None = IsUtf8 bs → is_float_text bs ≡ false
FloatRead bs (Some x) = ParsesFloat {E = Unit {0}} binary32 32 bs (Ok x)
