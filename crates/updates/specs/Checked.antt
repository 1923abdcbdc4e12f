-- What the first checks of a route, 3 and 4, have shown once they have passed.
use Rattle.std.specs.Prelude.{ℕ, ◌≤◌, ◌≡◌}
use Rattle.rules.specs.Table.{prefix}

-- one of the 33 lengths, and a prefix with no bit past it
pub record Checked (p L : ℕ) : Type 0 where
  pub high : L ≤ 32
  pub tight : prefix p L ≡ p
