-- Demand 1 of a chunk and of the end of a stream, on any settings, any lent memory, any words, room and counts. That each call
-- ends and does nothing undefined is what the checks of the crates with the calls prove. The list of conditions is in
-- specs/Noted.antt.
use Prim.Native.Nat.{ℕ}
use mathlib.Core.Path.{◌≡◌, refl, sym, ◌∙◌}
use mathlib.Core.Bool.{cond, true, false, true≢false}
use mathlib.Core.List.{List, [], ◌∷◌, map}
use mathlib.Core.Logic.{◌↔◌, ◌≢◌, ◌⊎◌, inl, inr}
use native.Mathlib.Omega.{arith}
use Rattle.rules.specs.declared.Settings.{Settings}
use Rattle.rules.specs.Tools.{all as every}
use Rattle.rules.specs.Table.{Memory, refuse, party_refusal}
use Rattle.stream_format.specs.declared.Kind.{Kind}
use Rattle.stream_format.specs.declared.Stage.{Stage}
use Rattle.stream_format.specs.declared.Stage.TheVariants.{Header, Body, Over, Ended}
use Rattle.stream_format.specs.Kept.{ended_word, is_ended, ended_number, stage_of, words_of, End, ended_as, end_stream}
use Rattle.stream_format.specs.Chunks.{Reading, chunk_refusal, Chunked, stage_number, lent_back, as_it_was, take_chunk}
use Rattle.stream_format.proofs.Ends.{inside, end_by_stage, end_inside, ended_words, ended_by_end, end_again}
use Rattle.stream_format.proofs.Regular.{Regular}
use Rattle.promises.specs.Demands.{memory_conditions, party_conditions, NoneMet, FirstMet}
use Rattle.promises.proofs.Conditions.{first_met, numbered, party_first, given_exactly, none_exactly}
use Rattle.stream_promises.specs.Noted.{Noted, untaken, over_limit, chunk_conditions}
use Rattle.stream_promises.proofs.Lawful.{Lawful}
use Rattle.stream_promises.proofs.Ways.{Ends, ends_small, given_by_stage, Refused, Taken, by_way, while_on}

-- ---- Why a chunk is not taken

chunk_numbered : (t : Settings) (m : Memory) (party many : ℕ) (counts chunk : List ℕ) → numbered (chunk_conditions t m party many counts chunk) ≡ true
unfolding numbered every chunk_conditions party_conditions memory_conditions
chunk_numbered t m party many counts chunk = refl

-- These are the numbers that it is refused for, in the order of the list.
pub numbers_listed : (t : Settings) (m : Memory) (party many : ℕ) (counts chunk : List ℕ)
    → map (λ c. c.number) (chunk_conditions t m party many counts chunk) ≡ 19 ∷ 1 ∷ 2 ∷ 15 ∷ []
unfolding chunk_conditions party_conditions memory_conditions
numbers_listed t m party many counts chunk = refl

untaken_some : (n : ℕ) → untaken n ≡ true → n ≢ 0
unfolding untaken
untaken_some n bad none = true≢false (sym bad ∙ rw none)

-- ---- Whether a stream has ended

-- by the number that a chunk is given
not_ended : (kind : Kind) (stage : Stage) (room : List ℕ) → Regular Ends kind stage room → stage_number stage ≡ 0 → is_ended (words_of stage) ≡ false
unfolding Regular stage_number words_of is_ended ended_word
not_ended kind (Header read) room its none = refl
not_ended kind (Body read left) room its none = refl
not_ended kind (Over left) room its none = refl
not_ended kind (Ended number) room (inl e) none = absurd (omega arith)
not_ended kind (Ended number) room (inr e) none = absurd (omega arith)

ended_with : (kind : Kind) (stage : Stage) (room : List ℕ) → Regular Ends kind stage room → stage_number stage ≢ 0
    → (is_ended (words_of stage) ≡ true) × (ended_number (words_of stage) ≡ stage_number stage)
unfolding Regular stage_number
ended_with kind (Header read) room its some = absurd (some refl)
ended_with kind (Body read left) room its some = absurd (some refl)
ended_with kind (Over left) room its some = absurd (some refl)
ended_with kind (Ended number) room its some = ended_words number (ends_small number its)

-- ---- A chunk

-- A chunk that comes after the end is given the number that ended the stream, whatever else is wrong, and changes nothing.
pub ended_unchanged : {C : Type 0} (r : Reading C) (t : Settings) (m : Memory) (counts words room chunk : List ℕ) → is_ended words ≡ true
    → take_chunk t r m counts words room chunk ≡ as_it_was (ended_number words) m counts words room
unfolding take_chunk
ended_unchanged r t m counts words room chunk over = rw over

module _ {C : Type 0} {r : Reading C} {many : ℕ} {counted : C → List Noted → (answers : List ℕ) → C} (law : Lawful r many counted) (t : Settings) (m : Memory) (counts words room chunk : List ℕ) where
  -- what it is given back and leaves
  abbrev its : Chunked
  its = take_chunk t r m counts words room chunk

  -- why it is not taken, 0 where it is
  abbrev refusal : ℕ
  refusal = chunk_refusal t m r.party (r.counts_high (r.counts_of counts)) chunk

  -- each check is its condition
  pub chunk_checks : refusal ≡ refuse (over_limit many counts chunk) 19 (party_refusal t m r.party 0)
  unfolding chunk_refusal over_limit
  chunk_checks = rw (law.high counts)

  chunk_first : refusal ≡ first_met (chunk_conditions t m r.party many counts chunk)
  unfolding chunk_conditions first_met
  chunk_first = chunk_checks ∙ rw (party_first t m r.party)

  -- A chunk that is given 19, 1, 2 or 15 leaves table, counts, words and room as they were.
  pub refused_unchanged : untaken its.number ≡ true → its ≡ as_it_was its.number m counts words room
  refused_unchanged bad = by_way law t m counts words room chunk
      (λ way. rw way.left) (λ way. rw way.left) (λ way. absurd (true≢false (sym bad ∙ way.given)))

  module _ (on : is_ended words ≡ false) where
    -- refused or taken
    abbrev either : {A : Type 0} → (Refused law t m counts words room chunk → A) → (Taken law t m counts words room chunk → A) → A
    either = while_on law t m counts words room chunk on

    -- it is given the number of a refusal exactly where that is why it is refused,
    pub given_refusal : (n : ℕ) → untaken n ≡ true → (its.number ≡ n) ↔ (refusal ≡ n)
    given_refusal n bad = either (λ way. rw way.left (λ e. e, λ e. e)) (λ way. (
      λ e. absurd (true≢false (sym bad ∙ rw (← e) way.given)),
      λ e. absurd (untaken_some n bad (sym e ∙ way.good)),
    ))

    -- and is taken exactly where there is no reason
    pub taken_unrefused : (untaken its.number ≡ false) ↔ (refusal ≡ 0)
    taken_unrefused = either
        (λ way. (λ good. absurd (true≢false (sym way.given ∙ good)), λ none. absurd (way.bad none)))
        (λ way. (λ good. way.good, λ none. way.given))

    -- Where the stream goes on, 19, 1, 2 or 15 is given exactly if its condition is met and none is of those before it in the list.
    pub numbers_in_order : (n : ℕ) → untaken n ≡ true → (its.number ≡ n) ↔ FirstMet n (chunk_conditions t m r.party many counts chunk)
    numbers_in_order n bad =
        let same = given_refusal n bad in
        let some = untaken_some n bad in
        let first = given_exactly (chunk_conditions t m r.party many counts chunk) chunk_first n (omega arith) in
        (λ e. first.0 (same.0 e), λ met. same.1 (first.1 met))

    -- The chunk is taken exactly if no condition is met.
    pub taken_exactly : (untaken its.number ≡ false) ↔ NoneMet (chunk_conditions t m r.party many counts chunk)
    taken_exactly =
        let none = none_exactly (chunk_conditions t m r.party many counts chunk) chunk_first (chunk_numbered t m r.party many counts chunk) in
        (λ good. none.0 (taken_unrefused.0 good), λ unmet. taken_unrefused.1 (none.1 unmet))

    -- Then it is given 0, 12 or 14.
    pub taken_numbers : untaken its.number ≡ false → (its.number ≡ 0) ⊎ ((its.number ≡ 12) ⊎ (its.number ≡ 14))
    unfolding lent_back
    taken_numbers good = either (λ way. absurd (true≢false (sym way.given ∙ good))) (λ way. rw way.left (given_by_stage r.kind _ _ way.regular))

    -- With 0 the stream goes on,
    pub goes_on : its.number ≡ 0 → is_ended its.words ≡ false
    unfolding lent_back
    goes_on none = either (λ way. rw way.left on) (λ way. rw way.left (not_ended r.kind _ _ way.regular (rw way.left at none)))

    -- and with 12 or 14 it has ended, by that number.
    pub has_ended : untaken its.number ≡ false → its.number ≢ 0 → (is_ended its.words ≡ true) × (ended_number its.words ≡ its.number)
    unfolding lent_back
    has_ended good some = either
        (λ way. absurd (true≢false (sym way.given ∙ good)))
        (λ way. rw way.left (ended_with r.kind _ _ way.regular (rw way.left at some)))

-- ---- The end

module _ (words : List ℕ) where
  -- what it gives back, and the words as it leaves them
  abbrev end : End
  end = end_stream words

  -- A stream that has ended keeps its number and its words.
  pub end_unchanged : is_ended words ≡ true → end ≡ ended_as (ended_number words) words
  unfolding end_stream
  end_unchanged over = rw over

  -- Any other is given 17 exactly inside a record, and else 0.
  pub end_numbers : is_ended words ≡ false → (kind : Kind) (room : List ℕ) → end.number ≡ cond (inside (stage_of kind words room)) 17 0
  end_numbers on kind room = end_by_stage kind words room ∙ end_inside kind words room on

  -- After it the stream has ended by its number: every chunk and every end gives that number, and changes nothing.
  pub end_stays : {C : Type 0} (r : Reading C) (t : Settings) (m : Memory) (counts room chunk : List ℕ)
      → (take_chunk t r m counts end.words room chunk ≡ as_it_was end.number m counts end.words room) × (end_stream end.words ≡ end)
  end_stays r t m counts room chunk =
      let over = ended_by_end words in
      (ended_unchanged r t m counts end.words room chunk over.0 ∙ rw over.1, end_again words)
