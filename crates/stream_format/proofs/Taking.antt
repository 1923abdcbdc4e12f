-- A record and a chunk, whatever is read: what is done by whether a record ends the stream, and by which number a chunk is
-- given.
use Prim.Native.Nat.{ℕ, ◌≤◌}
use mathlib.Core.Path.{◌≡◌, refl, sym}
use mathlib.Core.Bool.{Bool, true, false, ◌||◌, false≢true}
use mathlib.Core.List.{List}
use mathlib.Core.Logic.{◌≢◌}
use lib.Dec.{ltb}
use lib.ListN.{length}
use borrow.Table.Steps.{cases}
use borrow.Author.Tests.{ltb-false, ne_eqb}
use Rattle.rules.specs.declared.Settings.{Settings}
use Rattle.rules.specs.Table.{lent, party_refusal}
use Rattle.rules.specs.Calls.{run}
use Rattle.rules.proofs.Refusals.{Fitted, passed, party_passed}
use Rattle.stream_format.specs.declared.Stage.{Stage}
use Rattle.stream_format.specs.declared.Stage.TheVariants.{Ended}
use Rattle.stream_format.specs.Streams.{stream, chunk_taken}
use Rattle.stream_format.specs.Kept.{is_ended, stage_of, words_of}
use Rattle.stream_format.specs.Chunks.{Reading, Work, record_done, doing, chunk_refusal, Chunked, chunked, stage_number, lent_back, taken_up, take_chunk}
use Rattle.stream_format.proofs.Ends.{ended_stage, ended_told}

-- ---- One record

module _ {C : Type 0} (t : Settings) (r : Reading C) (w : Work C) (bytes : List ℕ) where
  -- its calls are made and counted, where it does not end the stream
  pub record_counts : r.ends_with bytes ≡ 0
      → let made = run t w.memory (r.calls bytes) in
      record_done t r w bytes ≡ record { number = 0; leaves = record { counts = r.counts_more w.counts bytes made.answers; memory = made.last } }
  unfolding record_done
  record_counts on = rw on

  -- A record that ends the stream does nothing.
  pub record_ends : r.ends_with bytes ≢ 0 → record_done t r w bytes ≡ record { number = r.ends_with bytes; leaves = w }
  unfolding record_done
  record_ends over = rw (ne_eqb _ _ over)

-- ---- What a chunk that is not refused tells

pub neither : (a b : Bool) → a || b ≡ false → (a ≡ false) × (b ≡ false)
neither true b e = absurd (false≢true (sym e))
neither false b e = (refl, e)

pub record Accepted (t : Settings) (counters slots : List ℕ) (party : ℕ) (high : Bool) (chunk : List ℕ) : Type 0 where
  pub memory : Fitted t counters slots
  pub known : party ≤ 1
  pub low : high ≡ false
  pub short : length chunk ≤ 65536

pub chunk_accepted : (t : Settings) (counters slots : List ℕ) (party : ℕ) (high : Bool) (chunk : List ℕ)
    → chunk_refusal t (lent counters slots) party high chunk ≡ 0 → Accepted t counters slots party high chunk
unfolding chunk_refusal
chunk_accepted t counters slots party high chunk e =
    let first = passed (ltb 65536 (length chunk) || high) 18 (party_refusal t (lent counters slots) party 0) e in
    let both = neither (ltb 65536 (length chunk)) high first.0 in
    let fitted = (party_passed t counters slots party 0 first.1).0 in
    record {
      memory = fitted.memory;
      known = fitted.known;
      low = both.1;
      short = ltb-false _ _ both.0;
    }

-- ---- The three ways that a chunk can go

module _ {C : Type 0} (t : Settings) (r : Reading C) (counters slots counts words room chunk : List ℕ) where
  abbrev its : Chunked
  its = take_chunk t r (lent counters slots) counts words room chunk

  -- why it is not taken, 0 where it is
  abbrev why : ℕ
  why = chunk_refusal t (lent counters slots) r.party (r.counts_high (r.counts_of counts)) chunk

  -- the stage that the words mean
  abbrev begun : Stage
  begun = stage_of r.kind words room

  -- where that is of no end, the words say that the stream goes on
  goes_on : ((number : ℕ) → begun ≡ Ended number → ⊥) → is_ended words ≡ false
  goes_on other = cases (is_ended words) (λ over. absurd (other _ (ended_stage r.kind words room over))) (λ on. on)

  -- After the end it is given the number that ended the stream.
  pub after_end : {number : ℕ} → begun ≡ Ended number → its ≡ chunked number counts words room counters slots
  unfolding take_chunk
  after_end is = let told = ended_told r.kind words room is in rw (told.0, told.1)

  module _ (other : (number : ℕ) → begun ≡ Ended number → ⊥) where
    -- It is refused,
    pub refused : {refusal : ℕ} → refusal ≡ why → (refusal ≡ 0 → ⊥) → its ≡ chunked refusal counts words room counters slots
    unfolding take_chunk
    refused is bad = rw (goes_on other, ← is, ne_eqb _ _ bad)

    -- or its records are all that it does.
    pub taken : why ≡ 0 → {stage : Stage} {room' : List ℕ} {counted : C} {counters' slots' : List ℕ}
        → chunk_taken r.kind (doing t r) (stream begun room (record { counts = r.counts_of counts; memory = lent counters slots })) chunk
        ≡ stream stage room' (record { counts = counted; memory = lent counters' slots' })
        → {number : ℕ} {counts' words' : List ℕ} → number ≡ stage_number stage → counts' ≡ r.counts_words counted → words' ≡ words_of stage
        → its ≡ chunked number counts' words' room' counters' slots'
    unfolding take_chunk lent_back taken_up
    taken good done number_is counts_is words_is = rw (goes_on other, good, done, number_is, counts_is, words_is)
