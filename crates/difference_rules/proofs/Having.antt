-- How a mark is told, and what a table has at a length from 1 up, by the slot that holds the prefix.
use Prim.Native.Nat.{ℕ, ◌+◌, ◌≤◌}
use mathlib.Core.Path.{◌≡◌}
use mathlib.Core.Bool.{true, false}
use mathlib.Core.List.{List}
use mathlib.Core.Option.{some, none}
use native.Mathlib.Omega.{arith}
use borrow.Author.Tests.{ne_eqb}
use Rattle.rules.specs.declared.Settings.{Settings}
use Rattle.rules.specs.Table.{slot_number, mark_at, first_mark, own, mark_of, hop_of, held, loose}
use Rattle.rules.proofs.Marks.{zero_unowned}
use Rattle.difference_rules.specs.Comparing.{told, found_mark, stored_mark, has}

-- a mark of the party's is told as a number from 1 up, and any other as 0
pub told_own : (party mark : ℕ) → own party mark ≡ true → told party mark ≡ hop_of party mark + 1
unfolding told mark_of first_mark
told_own party mark mine = rw mine (omega arith)

pub told_other : (party mark : ℕ) → own party mark ≡ false → told party mark ≡ 0
unfolding told
told_other party mark other = rw other

module _ (t : Settings) (slots : List ℕ) (party p L : ℕ) where
  -- nothing where a bit is set after the length
  pub has_loose : loose p L ≡ true → has t slots party p L ≡ 0
  unfolding has
  has_loose bad = rw bad

  module _ (low : 1 ≤ L) (tight : loose p L ≡ false) where
    -- nothing where no slot holds the prefix
    pub has_none : held t slots party p L ≡ none → has t slots party p L ≡ 0
    unfolding has stored_mark found_mark
    has_none nowhere = rw (tight, ne_eqb L 0 (omega arith), nowhere) (told_other party 0 (zero_unowned party))

    -- the mark of the slot that does
    pub has_held : (s : ℕ) → held t slots party p L ≡ some s → has t slots party p L ≡ told party (mark_at slots (slot_number t p L s))
    unfolding has stored_mark found_mark
    has_held s there = rw (tight, ne_eqb L 0 (omega arith), there)
