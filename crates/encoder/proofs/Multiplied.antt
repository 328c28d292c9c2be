-- A table of all products, filled row by row. Assumes nothing.
use Rattle.std.proofs.Common.{◌≡◌, ℕ, ◌+◌, ◌-◌, ◌*◌, ◌++◌, map, sym, ap, ◌/◌, ◌%◌, ◌<◌, ◌≤◌, List, length, length-append, length-drop, take, drop, get_or, Option, unwrap_or, ◌∙◌, subst, ap₂, mul-le-mul, zero-add, inl, inr, arith, lt-ltb}
use Rattle.std.specs.List.{range_with_len}
use Rattle.std.proofs.lemmas.Bool.{cases_lt}
use Rattle.std.proofs.lemmas.List.FromFn.{get_or-map-range_with_len, length-range_with_len}
use Rattle.std.proofs.Math.ListN.{get_or-append}
use Rattle.std.proofs.lemmas.List.{length-map, length-take-le, get_or-take, get_or-append_right}
use lib.Arith.{digits_lt, digits_div, digits_mod}
use Rattle.field.specs.Tables.{Tables, product_of}
use Rattle.field.proofs.Least.{at_both_is}
use Rattle.encoder.specs.Bytes.{ProductsTo, Products}

pub square : (q : ℕ) → q ≤ 64 → q * q ≤ 4096
square q h = mul-le-mul h h

-- row a ends within the table
pub row_ends : (q a : ℕ) → q ≤ 64 → a < q → a * q + q ≤ 4096
row_ends q a h k =
    let s = square q h in
    let w : (a + 1) * q ≤ q * q = mul-le-mul (let z : a + 1 ≤ q = omega arith in z) (let z : q ≤ q = omega arith in z) in
    omega arith

pub products_all : (t : Tables) → (ps : List ℕ) → t.order * t.order ≤ length ps → ProductsTo t ps (t.order * t.order) → Products t ps
products_all t ps room inv a b ha hb =
    let lt : a * t.order + b < t.order * t.order = digits_lt ha hb in
    (omega arith, inv (a * t.order + b) lt ∙ ap₂ t.product (digits_div a hb) (digits_mod a hb))

-- row a, filled between the rows before it and the rest
module _ (t : Tables) (q a n : ℕ) (ps row rest : List ℕ) (same : q ≡ t.order) (high : a < q) (room : a * q ≤ length ps) (long : q ≤ n) (e : row ≡ map (λ b. unwrap_or (product_of t a b) 0) (range_with_len 0 n)) where
  starts : a * q ≡ a * t.order
  starts = ap (λ (x : ℕ). a * x) same

  front : length (take (a * q) ps) ≡ a * t.order
  front = length-take-le (a * q) ps room ∙ starts

  size : length row ≡ n
  size = ap length e ∙ length-map (range_with_len 0 n) (λ b. unwrap_or (product_of t a b) 0) ∙ length-range_with_len 0 n

  -- the table keeps its length
  pub row_keeps : (k : ℕ) → k ≡ n → a * q + n ≤ length ps → rest ≡ drop k (drop (a * q) ps) → length (take (a * q) ps ++ (row ++ rest)) ≡ length ps
  row_keeps k i h r =
      let s = size in
      let f = length-take-le (a * q) ps room in
      let d : length rest ≡ length ps - a * q - k = ap length r ∙ length-drop k (drop (a * q) ps) ∙ ap (λ (x : ℕ). x - k) (length-drop (a * q) ps) in
      length-append (take (a * q) ps) (row ++ rest) ∙ ap (λ (x : ℕ). length (take (a * q) ps) + x) (length-append row rest) ∙ (let z : length (take (a * q) ps) + (length row + length rest) ≡ length ps = omega arith in z)

  in_row : (b : ℕ) → b < t.order → get_or row b 0 ≡ t.product a b
  in_row b h =
      ap (λ (xs : List ℕ). get_or xs b 0) e
      ∙ get_or-map-range_with_len (λ c. unwrap_or (product_of t a c) 0) 0 n b b 0 (omega arith) (zero-add b)
      ∙ ap (λ (o : Option ℕ). unwrap_or o 0) (at_both_is t.order t.product a b (lt-ltb a t.order (omega arith)) (lt-ltb b t.order h))

  there : (b : ℕ) → b < t.order → get_or (take (a * q) ps ++ (row ++ rest)) (a * t.order + b) 0 ≡ t.product a b
  there b h =
      let s = size in
      get_or-append_right (take (a * q) ps) (row ++ rest) (a * t.order) (a * t.order + b) 0 front (omega arith)
      ∙ ap (λ (i : ℕ). get_or (row ++ rest) i 0) (let z : a * t.order + b - a * t.order ≡ b = omega arith in z)
      ∙ get_or-append row rest 0 b (omega arith)
      ∙ in_row b h

  pub row_filled : ProductsTo t ps (a * t.order) → ProductsTo t (take (a * q) ps ++ (row ++ rest)) ((a + 1) * t.order)
  row_filled inv x h =
      elim (cases_lt x (a * t.order)) [
        | inl k ↦
            let f = front in
            let s = starts in
            get_or-append (take (a * q) ps) (row ++ rest) 0 x (omega arith) ∙ get_or-take (a * q) ps x 0 (omega arith) ∙ inv x k
        | inr k ↦
            let b = x - a * t.order in
            let is : a * t.order + b ≡ x = omega arith in
            let low : b < t.order = omega arith in
            subst (λ (y : ℕ). get_or (take (a * q) ps ++ (row ++ rest)) y 0 ≡ t.product (y / t.order) (y % t.order)) is
            (there b low ∙ sym (ap₂ t.product (digits_div a low) (digits_mod a low)))
      ]
