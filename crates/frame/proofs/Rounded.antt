-- The rows that fail after a round, by the area that it leaves. Assumes nothing.
use Rattle.std.proofs.Common.{◌≡◌, ℕ, List, take}
use Rattle.field.specs.Tables.{Tables}
use Rattle.code.specs.Views.{View}
use Rattle.tree.specs.Places.{Admitted}
use Rattle.tree.specs.Rows.{PairsRule}
use Rattle.tree.specs.Frame.{held_words, parts_of, laid, rounds, next_parts, decided, failing}
use Rattle.tree.proofs.Alike.{failing_same}
use Rattle.tree.proofs.Areas.{holds_is}

pub same_failing : (F : Tables) (K : View) → Admitted K → (pairs : PairsRule) (before after : List ℕ) → take (held_words K) after ≡ laid K (next_parts F K (rounds pairs) (parts_of K before)) →
    failing F K (decided K (parts_of K after)) ≡ failing F K (decided K (next_parts F K (rounds pairs) (parts_of K before)))
same_failing F K R pairs before after held =
    failing_same F K R (parts_of K after) (next_parts F K (rounds pairs) (parts_of K before)) (holds_is K after (next_parts F K (rounds pairs) (parts_of K before)) held).distances
