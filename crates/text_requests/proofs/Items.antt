-- Laws of a shape's items, read by their index in the shape: one more item, and no more.
use Prim.Native.Nat.{ℕ, ◌+◌, ◌≤◌, ◌<◌}
use mathlib.Core.Path.{◌≡◌}
use mathlib.Core.List.{List}
use native.Mathlib.Numerals.{add-one}
use lib.ListN.{length, get_or, drop, drop_of_length-le}
use lib.Seq.{drop-cons}
use lib.Dec.{eqb}
use Rattle.text_requests.specs.declared.Numbers.{Numbers}
use Rattle.std.specs.Bool.{then_some}
use Rattle.text_requests.specs.Shapes.{item, items, if_fits}

module _ (shape line : List ℕ) (i at : ℕ) (ns : Numbers) where
  pub items_more : i < length shape → items (drop i shape) line at ns ≡ if_fits (item (get_or shape i 0) line at ns) (items (drop (i + 1) shape) line)
  unfolding items
  items_more h = rw (add-one, drop-cons shape i 0 h)

  pub items_end : length shape ≤ i → items (drop i shape) line at ns ≡ then_some (eqb at (length line)) ns
  unfolding items
  items_end h = rw (drop_of_length-le shape h)
