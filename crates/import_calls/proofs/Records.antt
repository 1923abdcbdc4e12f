-- What a record did, by what was read of it.
use Prim.Native.Nat.{ℕ}
use mathlib.Core.Path.{◌≡◌, ap, ◌∙◌}
use mathlib.Core.List.{List, [], ◌∷◌}
use native.Mathlib.Omega.{arith}
use Rattle.std.specs.Prelude.{None, Some, Ok, Err}
use Rattle.rules.specs.declared.Settings.{Settings}
use Rattle.rules.specs.declared.Refusal.{Refusal}
use Rattle.rules.specs.Numbers.{refusal_number, number_given}
use Rattle.rules.specs.Table.{lent, left, add}
use Rattle.rules.specs.Calls.{act, each, run}
use Rattle.stream_format.specs.Chunks.{record_done}
use Rattle.stream_format.proofs.Taking.{record_counts, record_ends}
use Rattle.stream_chunks.specs.Work.{work, done}
use Rattle.import_format.specs.declared.ImportCounts.{ImportCounts}
use Rattle.import_format.specs.Importing.{counts_more, importing}
use Rattle.import_readers.specs.declared.RouteRead.{RouteRead}
use Rattle.import_readers.specs.Records.{record_read}
use Rattle.import_readers.proofs.Records.{record_told}

module _ (t : Settings) (party : ℕ) (hops : List ℕ) (earlier : ImportCounts) (counters slots bytes : List ℕ) where
  -- its route was added
  pub route_done : {r : RouteRead} → record_read bytes hops ≡ Ok (Some r) → {number : ℕ} {counters' slots' : List ℕ} → add t (lent counters slots) party r.prefix r.length r.hop ≡ left number counters' slots'
      → {next : ImportCounts} → next ≡ counts_more earlier (number ∷ []) → record_done t (importing party hops) (work earlier counters slots) bytes ≡ done 0 next counters' slots'
  unfolding importing run each act
  route_done is added counted =
      let told = record_told bytes hops is in
      record_counts t (importing party hops) _ bytes (rw told.good) ∙ rw (told.calls party, added, counted)

  -- it has no hop
  pub hopless_done : record_read bytes hops ≡ Ok None → {next : ImportCounts} → next ≡ counts_more earlier []
      → record_done t (importing party hops) (work earlier counters slots) bytes ≡ done 0 next counters slots
  unfolding importing run each
  hopless_done is counted =
      let told = record_told bytes hops is in
      record_counts t (importing party hops) _ bytes (rw told.0) ∙ rw (told.1 party, counted)

  -- it is not well-formed
  pub fault_done : {e : Refusal} → record_read bytes hops ≡ Err e → record_done t (importing party hops) (work earlier counters slots) bytes ≡ done (refusal_number e) earlier counters slots
  unfolding importing record_read
  fault_done is =
      let bad = record_told bytes hops is in
      let number = rw bad at (ap number_given is) in
      record_ends t (importing party hops) _ bytes (rw bad (omega arith)) ∙ rw (bad, ← number)
