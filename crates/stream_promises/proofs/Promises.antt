-- What is promised of a chunk after any history. A chunk is its single calls (proofs/Singles.antt), so it only makes the history
-- longer, and all that crates/promises says of lookups and updates holds after it as before. What is said here is what the chunk
-- itself is given, by its party, its bytes, what was kept of those before it, what its records say and the stored routes.
use Prim.Native.Nat.{ℕ, ◌≤◌, ◌<◌}
use mathlib.Core.Path.{◌≡◌, refl, sym, ◌∙◌}
use mathlib.Core.Bool.{Bool, true, false, true≢false, false≢true}
use mathlib.Core.List.{List, ◌++◌, append_cancel_left}
use mathlib.Core.Logic.{◌↔◌}
use native.Mathlib.Omega.{arith}
use lib.Dec.{ltb}
use lib.Pow.{are_bytes}
use borrow.Author.Tests.{ltb-true, ltb-false, lt-ltb, le-ltb}
use Rattle.rules.specs.declared.Settings.{Settings}
use Rattle.rules.specs.Table.{Memory, refuse, party_refusal}
use Rattle.rules.specs.Calls.{Call, run}
use Rattle.stream_format.specs.Kept.{is_ended}
use Rattle.stream_format.specs.Chunks.{Reading, chunk_refusal, Chunked, take_chunk}
use Rattle.promises.specs.History.{Route, stored_by, SingleCalls, History}
use Rattle.promises.specs.Demands.{Reordered, paper, adds}
use Rattle.promises.proofs.Histories.{made_append, history_more, more_answers_on_paper, more_routes_on_paper}
use Rattle.promises.proofs.Promises.{checks_passed, same_numbers}
use Rattle.stream_promises.specs.Noted.{Noted, untaken, taken_records, taken_calls, over_limit, SameGiven}
use Rattle.stream_promises.proofs.Lawful.{Lawful}
use Rattle.stream_promises.proofs.Refused.{chunk_checks, given_refusal, taken_unrefused}
use Rattle.stream_promises.proofs.Singles.{chunk_single, chunk_counted, same_number, same_given}

-- a chain of two checks: the limit, and then the party
first_19 : (over unknown : Bool) → (refuse over 19 (refuse unknown 15 0) ≡ 19) ↔ (over ≡ true)
unfolding refuse
first_19 true unknown = (λ _. refl, λ _. refl)
first_19 false true = (λ e. absurd (omega arith), λ over. absurd (false≢true over))
first_19 false false = (λ e. absurd (omega arith), λ over. absurd (false≢true over))

then_15 : (over unknown : Bool) → (refuse over 19 (refuse unknown 15 0) ≡ 15) ↔ ((over ≡ false) × (unknown ≡ true))
unfolding refuse
then_15 true unknown = (λ e. absurd (omega arith), λ met. absurd (true≢false met.0))
then_15 false true = (λ _. (refl, refl), λ _. refl)
then_15 false false = (λ e. absurd (omega arith), λ met. absurd (false≢true met.1))

else_0 : (over unknown : Bool) → (refuse over 19 (refuse unknown 15 0) ≡ 0) ↔ ((over ≡ false) × (unknown ≡ false))
unfolding refuse
else_0 true unknown = (λ e. absurd (omega arith), λ unmet. absurd (true≢false unmet.0))
else_0 false true = (λ e. absurd (omega arith), λ unmet. absurd (true≢false unmet.1))
else_0 false false = (λ _. (refl, refl), λ _. refl)

-- ---- One chunk more

module _ {C : Type 0} {r : Reading C} {many : ℕ} {counted : C → List Noted → (answers : List ℕ) → C} (law : Lawful r many counted) where
  module _ {t : Settings} {calls : List Call} {answers : List ℕ} {m : Memory} (history : History t calls answers m) (counts words room chunk : List ℕ) where
    -- what it is given back and leaves,
    abbrev its : Chunked
    its = take_chunk t r m counts words room chunk

    -- the records that it does,
    abbrev records : List Noted
    records = taken_records r words room chunk its.number

    -- its single calls, none where it is not taken,
    abbrev done : List Call
    done = taken_calls r words room chunk its.number

    -- and the routes stored before it
    abbrev routes : List Route
    routes = stored_by calls answers

    -- Settings and sizes are not at fault, so that it is refused by its length, the counts and the party alone.
    chunk_checked : chunk_refusal t m r.party (r.counts_high (r.counts_of counts)) chunk ≡ refuse (over_limit many counts chunk) 19 (refuse (ltb 1 r.party) 15 0)
    unfolding party_refusal
    chunk_checked = chunk_checks law t m counts words room chunk ∙ rw (checks_passed history (refuse (ltb 1 r.party) 15 0))

    module _ (on : is_ended words ≡ false) where
      -- Where the stream goes on, it is given 19 exactly if the chunk is too long or a count too high,
      pub refused_over : (its.number ≡ 19) ↔ (over_limit many counts chunk ≡ true)
      unfolding untaken
      refused_over =
          let given = given_refusal law t m counts words room chunk on 19 refl in
          let first = first_19 (over_limit many counts chunk) (ltb 1 r.party) in
          (λ e. first.0 (sym chunk_checked ∙ given.0 e), λ over. given.1 (chunk_checked ∙ first.1 over))

      -- 15 exactly if neither is so and its party is above 1,
      pub refused_unknown : (its.number ≡ 15) ↔ ((over_limit many counts chunk ≡ false) × (1 < r.party))
      unfolding untaken
      refused_unknown =
          let given = given_refusal law t m counts words room chunk on 15 refl in
          let second = then_15 (over_limit many counts chunk) (ltb 1 r.party) in (
            λ e. let met = second.0 (sym chunk_checked ∙ given.0 e) in (met.0, ltb-true 1 r.party met.1),
            λ met. given.1 (chunk_checked ∙ second.1 (met.0, lt-ltb 1 r.party met.1)),
          )

      -- and is taken if neither is so and its party is 0 or 1, as 1 and 2 are never given.
      pub taken_within : (untaken its.number ≡ false) ↔ ((over_limit many counts chunk ≡ false) × (r.party ≤ 1))
      taken_within =
          let given = taken_unrefused law t m counts words room chunk on in
          let none = else_0 (over_limit many counts chunk) (ltb 1 r.party) in (
            λ good. let unmet = none.0 (sym chunk_checked ∙ given.0 good) in (unmet.0, ltb-false 1 r.party unmet.1),
            λ unmet. given.1 (chunk_checked ∙ none.1 (unmet.0, le-ltb 1 r.party unmet.1)),
          )

    module _ (room_bytes : are_bytes room ≡ true) (chunk_bytes_lem : are_bytes chunk ≡ true) where
      -- The history goes on with its single calls.
      pub chunk_history : History t (calls ++ done) (answers ++ (run t m done).answers) its.memory
      chunk_history = history_more history (chunk_single law t m counts words room chunk room_bytes chunk_bytes_lem)

      -- Each of its routes is given the number of the first listed condition that is so of the routes stored by then,
      pub chunk_numbers : (run t m done).answers ≡ (paper t routes done).answers
      chunk_numbers = more_answers_on_paper history (chunk_single law t m counts words room chunk room_bytes chunk_bytes_lem)

      -- the counts are what they come to over its records and these numbers,
      pub chunk_counts : r.counts_of its.counts ≡ counted (r.counts_of counts) records (paper t routes done).answers
      chunk_counts = rw chunk_numbers at (chunk_counted law t m counts words room chunk)

      -- and what is stored after it follows from what was stored before it.
      pub chunk_stores : stored_by (calls ++ done) (answers ++ (run t m done).answers) ≡ (paper t routes done).last
      chunk_stores = more_routes_on_paper history (chunk_single law t m counts words room chunk room_bytes chunk_bytes_lem)

  -- ---- Demand 3, of a table newly cleared under these settings, to which the stored routes are added, in any order

  -- Both were given some more calls since, those of other chunks among them, and now a chunk, with the same counts, words and room.
  module _ {t : Settings} {calls : List Call} {answers : List ℕ} {m : Memory} (history : History t calls answers m)
      {order : List Route} (same : Reordered (stored_by calls answers) order) {new_answers : List ℕ} {new_m : Memory} (anew : History t (adds order) new_answers new_m)
      {more : List Call} {more_answers more_new_answers : List ℕ} {last new_last : Memory}
      (made : SingleCalls t m more more_answers last) (made_anew : SingleCalls t new_m more more_new_answers new_last)
      (counts words room chunk : List ℕ) (room_bytes : are_bytes room ≡ true) (chunk_bytes_lem : are_bytes chunk ≡ true) where
    -- its single calls
    abbrev done_by_both : List Call
    done_by_both = taken_calls r words room chunk (take_chunk t r last counts words room chunk).number

    same_refusal : let high = r.counts_high (r.counts_of counts) in chunk_refusal t new_last r.party high chunk ≡ chunk_refusal t last r.party high chunk
    same_refusal = chunk_checked (history_more anew made_anew) counts words room chunk ∙ sym (chunk_checked (history_more history made) counts words room chunk)

    -- They are the same on both, so that the chunk is then among what both were given, and all this holds of the next one.
    pub both_taken : SingleCalls t m (more ++ done_by_both) (more_answers ++ (run t last done_by_both).answers) (take_chunk t r last counts words room chunk).memory
        × SingleCalls t new_m (more ++ done_by_both) (more_new_answers ++ (run t new_last done_by_both).answers) (take_chunk t r new_last counts words room chunk).memory
    both_taken = (
      made_append made (chunk_single law t last counts words room chunk room_bytes chunk_bytes_lem),
      made_append made_anew (rw (same_number law t counts words room chunk last new_last same_refusal) at (chunk_single law t new_last counts words room chunk room_bytes chunk_bytes_lem)),
    )

    same_answers : (run t new_last done_by_both).answers ≡ (run t last done_by_both).answers
    same_answers = append_cancel_left more_new_answers _ _
        (same_numbers history same anew both_taken.0 both_taken.1 ∙ rw (same_numbers history same anew made made_anew))

    -- Both give it the same number, counts, words and room.
    pub same_chunks : SameGiven (take_chunk t r new_last counts words room chunk) (take_chunk t r last counts words room chunk)
    same_chunks = same_given law t counts words room chunk last new_last same_refusal same_answers
