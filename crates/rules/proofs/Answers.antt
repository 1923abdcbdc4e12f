-- A lookup past its checks, by the vector that was found for it.
use Prim.Native.Nat.{ℕ}
use mathlib.Core.Path.{◌≡◌}
use mathlib.Core.List.{List}
use lib.ListN.{length}
use Rattle.rules.specs.declared.Settings.{Settings}
use Rattle.rules.specs.Table.{lent, vector_of, set_bits, search as searched, place_answer, answer_of, lookup}
use Rattle.rules.proofs.Refusals.{PartyFitted, party_fits}

pub by_vector : (t : Settings) (counters slots : List ℕ) (party address v : ℕ) → PartyFitted t counters slots party → v ≡ vector_of t counters address
    → lookup t (lent counters slots) party address ≡ place_answer t slots party (length (set_bits v)) (searched t slots party address 0 (set_bits v))
unfolding lookup answer_of
by_vector t counters slots party address v fit claimed = rw (party_fits t counters slots party fit 0, ← claimed)
