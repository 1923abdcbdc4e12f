-- A chunk while its records are done: what is left of it does, from here, what the whole chunk does from its start.
use Prim.Native.Nat.{ℕ, ◌-◌, ◌≤◌, ◌<◌}
use mathlib.Core.Path.{◌≡◌, refl, sym, ◌∙◌}
use mathlib.Core.Bool.{true}
use mathlib.Core.List.{List}
use mathlib.Core.Logic.{◌≢◌}
use native.Mathlib.Omega.{arith}
use lib.ListN.{length, take}
use borrow.Author.Tests.{ne_eqb}
use Rattle.rules.specs.declared.Settings.{Settings}
use Rattle.stream_format.specs.declared.Stage.{Stage}
use Rattle.stream_format.specs.declared.Stage.TheVariants.{Ended}
use Rattle.stream_format.specs.declared.Event.TheVariants.{Nothing, Record, Stepped}
use Rattle.stream_format.specs.Streams.{Stream, stream, unless_ended, completed, chunk_taken}
use Rattle.stream_format.specs.Chunks.{Reading, Work, record_done, record_over, doing}
use Rattle.stream_format.proofs.Cuts.{ended_stays}
use Rattle.stream_records.specs.declared.Next.{Next}
use Rattle.stream_records.specs.Runs.{Sound, completes, GoesFrom}
use Rattle.stream_records.proofs.Taken.{goes_taken, goes_no_further}
use Rattle.stream_chunks.specs.Work.{work, done}
use Rattle.stream_chunks.specs.Grows.{Grows}

-- ---- What is so all along

-- the stream, the counts and the two lists where the rest of a chunk leaves what the whole leaves
pub record Going {C : Type 0} (t : Settings) (r : Reading C) (Low : C → ℕ → Type 0) (chunk : List ℕ) (whole : Stream (Work C)) (stage : Stage) (room : List ℕ) (counts : C) (counters slots rest : List ℕ) : Type 0 where
  pub grows : Grows t r Low
  pub sound : Sound stage
  pub part : length rest ≤ length chunk
  pub low : Low counts (length chunk - length rest)
  pub same : chunk_taken r.kind (doing t r) (stream stage room (work counts counters slots)) rest ≡ whole

-- ---- The records

module _ {C : Type 0} {t : Settings} {r : Reading C} {Low : C → ℕ → Type 0} {chunk : List ℕ} {stage : Stage} {room : List ℕ} {counts : C} {counters slots : List ℕ} where
  -- A chunk begins.
  pub goes : Grows t r Low → Sound stage → Low counts 0
      → Going t r Low chunk (chunk_taken r.kind (doing t r) (stream stage room (work counts counters slots)) chunk) stage room counts counters slots chunk
  goes grows sound low = record { grows = grows; sound = sound; part = omega arith; low = grows.within low (omega arith); same = refl }

  module _ {whole : Stream (Work C)} {rest : List ℕ} (g : Going t r Low chunk whole stage room counts counters slots rest) where
    -- the counts have room for one record more
    pub low_yet : length chunk ≤ 65536 → Low counts 65536
    low_yet short = g.grows.within g.low (omega arith)

    module _ {next : Next} {room' : List ℕ} (n : GoesFrom r.kind stage room rest next room') where
      -- what is complete is done, and the rest follows
      turn : chunk_taken r.kind (doing t r) (completed (doing t r) (work counts counters slots) next.stage room' next.event) next.rest.now ≡ whole
      turn = sym (goes_taken r.kind (doing t r) (work counts counters slots) n) ∙ g.same

      -- a record is complete, so that less is left
      pub goes_less : completes next.event ≡ true → length next.rest.now < length rest
      unfolding completes
      goes_less complete = n.fewer refl complete

      -- No record is complete with what is left.
      pub all_done : next.event ≡ Nothing → whole ≡ stream next.stage room' (work counts counters slots)
      all_done nothing = sym g.same ∙ goes_no_further _ _ _ n nothing

      -- A record is stepped over.
      pub steps : next.event ≡ Stepped → {counts' : C} → counts' ≡ r.counts_over counts → Going t r Low chunk whole next.stage room' counts' counters slots next.rest.now
      unfolding completed unless_ended doing record_over completes
      steps stepped over =
          let fewer = n.fewer refl (rw stepped) in
          record {
            grows = g.grows;
            sound = n.sound;
            part = omega (arith, g.part);
            low = rw over (g.grows.within (g.grows.steps_over g.low) (omega (arith, g.part)));
            same = rw over (rw stepped at turn);
          }

      module _ {size : ℕ} (complete : next.event ≡ Record size) {counts' : C} {counters' slots' : List ℕ} where
        -- A record is read.
        pub goes_on : record_done t r (work counts counters slots) (take size room') ≡ done 0 counts' counters' slots'
            → Going t r Low chunk whole next.stage room' counts' counters' slots' next.rest.now
        unfolding completed unless_ended doing completes
        goes_on did =
            let fewer = n.fewer refl (rw complete) in
            record {
              grows = g.grows;
              sound = n.sound;
              part = omega (arith, g.part);
              low = g.grows.within (rw did at (g.grows.reads (work counts counters slots) (take size room') g.low)) (omega (arith, g.part));
              same = rw (complete, did) at turn;
            }

        -- A record ends the stream.
        pub ends : {number : ℕ} → number ≢ 0 → record_done t r (work counts counters slots) (take size room') ≡ done number counts' counters' slots'
            → whole ≡ stream (Ended number) room' (work counts' counters' slots')
        unfolding completed unless_ended doing
        ends {number} over did = sym (rw (complete, did, ne_eqb number 0 over) at turn) ∙ ended_stays r.kind (doing t r) (stream (Ended number) room' (work counts' counters' slots')) refl next.rest.now
