-- What a turn of a search is made of, and what it tests of a slot.
use Rattle.std.specs.Prelude.{ℕ, ◌-◌, ◌^◌, ◌≤◌, ◌<◌, ◌≡◌, Bool, ◌&&◌, List, eqb}
use Rattle.rules.specs.declared.Settings.{Settings}
use Rattle.rules.specs.Table.{prefix, slot_number, mark_at, prefix_at, own}
use Rattle.buckets.specs.declared.Turn.{Turn}

-- L is the longest length whose bit is set in v
pub record Highest (v L : ℕ) : Type 0 where
  pub low : 1 ≤ L
  pub high : L ≤ 32
  pub reached : 2 ^ (L - 1) ≤ v
  pub passed : v < 2 ^ L

-- the turn is at the longest of the lengths, and leaves the others
pub record Turned (t : Settings) (address lengths : ℕ) (turn : Turn) : Type 0 where
  pub longest : Highest lengths turn.length
  pub own : turn.p ≡ prefix address turn.length
  pub from : turn.first ≡ slot_number t turn.p turn.length 0
  pub rest : turn.left ≡ lengths - 2 ^ (turn.length - 1)

-- slot n, by its number, is the party's and holds p
abbrev pub holding : (slots : List ℕ) (party n p : ℕ) → Bool
holding slots party n p = own party (mark_at slots n) && eqb (prefix_at slots n) p
