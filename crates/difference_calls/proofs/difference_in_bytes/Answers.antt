-- The comparison's two clauses are the two parts of what is given back and left: `as_listed`.
use Prim.Native.Nat.{◌*◌}
use mathlib.Core.Path.{◌≡◌}
use native.Mathlib.Omega.{arith}
use lib.ListN.{length}
use Rattle.rules.specs.Table.{words, bytes_of}
use Rattle.words.specs.Laws.{four_each}
use Rattle.difference_rules.specs.Comparing.{c_difference, difference_words, between}
use Rattle.difference_rules.proofs.Few.{four_words}
use Rattle.difference_calls.proofs.Ends.{as_listed}
use Rattle.difference_calls.proofs.difference_in_bytes.Goals as goal

pub returns : goal.returns
unfolding c_difference
returns c =
    let a = c.args in
    let ds = between a.first (words a.slots.now) a.second (words a.slots2.now) a.party in
    let sixteen : 4 * 4 * length ds ≡ length (bytes_of (difference_words ds)) = omega (arith, four_each (difference_words ds), four_words ds) in
    as_listed _ _ (bytes_of (difference_words ds)) _ _ _ (rw sixteen at c.compare.ensures.refusal) c.compare.ensures.listed
