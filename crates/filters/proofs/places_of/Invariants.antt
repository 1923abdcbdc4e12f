-- The places are those written so far and those that are left: `one_written`.
use Rattle.filters.proofs.Hashing.{Written}
use Rattle.filters.proofs.places_of.Given as goal

abbrev pub invariant-loop-place : goal.invariant-loop-place
invariant-loop-place l = Written l.settings.all l.p l.length.number l.growth l.place-items l.place-index l.g
