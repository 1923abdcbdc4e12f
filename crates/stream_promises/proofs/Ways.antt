-- A chunk comes after the end, is refused, or is taken byte by byte; the number that it is given tells the last two apart.
use Prim.Native.Nat.{ℕ, ◌^◌, ◌<◌}
use mathlib.Core.Path.{◌≡◌, refl, sym, ◌∙◌}
use mathlib.Core.Bool.{Bool, true, false, not, ◌||◌, true≢false}
use mathlib.Core.List.{List}
use mathlib.Core.Logic.{◌⊎◌, inl, inr, ◌≢◌}
use native.Mathlib.Omega.{arith}
use lib.Dec.{ltb, eqb}
use lib.ListN.{length}
use borrow.Author.Tests.{eqb-true, eqb-false}
use Rattle.rules.specs.declared.Settings.{Settings}
use Rattle.rules.specs.Table.{in_range, sized, Memory, refuse}
use Rattle.rules.proofs.Refusals.{party_order}
use Rattle.stream_format.specs.declared.Kind.{Kind}
use Rattle.stream_format.specs.declared.Stage.{Stage}
use Rattle.stream_format.specs.declared.Stage.TheVariants.{Header, Body, Over, Ended}
use Rattle.stream_format.specs.Streams.{Stream, chunk_taken}
use Rattle.stream_format.specs.Kept.{is_ended, ended_number}
use Rattle.stream_format.specs.Chunks.{Reading, Work, record_done, record_over, doing, chunk_refusal, Chunked, stage_number, lent_back, taken_up, as_it_was, take_chunk}
use Rattle.stream_format.proofs.Alike.{DoAlike, chunk_alike}
use Rattle.stream_format.proofs.Regular.{Regular, EndsBy, means_regular, chunk_regular}
use Rattle.promises.proofs.Sums.{by_cases}
use Rattle.stream_promises.specs.Noted.{Noted, untaken}
use Rattle.stream_promises.proofs.Lawful.{Meant, Lawful}

-- a record ends a stream with 12, and a body that is too long with 14
abbrev pub Ends : ℕ → Type 0
Ends number = (number ≡ 12) ⊎ (number ≡ 14)

pub ends_small : (number : ℕ) → Ends number → number < 2 ^ 16
ends_small number (inl e) = omega arith
ends_small number (inr e) = omega arith

-- what a chunk that is taken is given: 0 while the stream goes on
pub given_by_stage : (kind : Kind) (stage : Stage) (room : List ℕ) → Regular Ends kind stage room → (stage_number stage ≡ 0) ⊎ Ends (stage_number stage)
unfolding Regular stage_number
given_by_stage kind (Header read) room its = inl refl
given_by_stage kind (Body read left) room its = inl refl
given_by_stage kind (Over left) room its = inl refl
given_by_stage kind (Ended number) room its = inr its

-- ---- By the number

-- a refusal is 19, 1, 2 or 15
refusal_untaken : (t : Settings) (m : Memory) (party : ℕ) (high : Bool) (chunk : List ℕ) → chunk_refusal t m party high chunk ≢ 0
    → untaken (chunk_refusal t m party high chunk) ≡ true
unfolding chunk_refusal untaken refuse
refusal_untaken t m party high chunk = rw (party_order t m party 0) (go (ltb 65536 (length chunk) || high) (in_range t) (sized t m) (ltb 1 party))
  where
    go : (bad range sizes unknown : Bool) → refuse bad 19 (refuse (not range) 1 (refuse (not sizes) 2 (refuse unknown 15 0))) ≢ 0
        → untaken (refuse bad 19 (refuse (not range) 1 (refuse (not sizes) 2 (refuse unknown 15 0)))) ≡ true
    go true range sizes unknown given = refl
    go false false sizes unknown given = refl
    go false true false unknown given = refl
    go false true true true given = refl
    go false true true false given = absurd (given refl)

-- what a chunk that is taken is given is none of them
given_taken : {number : ℕ} → (number ≡ 0) ⊎ Ends number → untaken number ≡ false
unfolding untaken
given_taken (inl e) = rw e
given_taken (inr (inl e)) = rw e
given_taken (inr (inr e)) = rw e

-- ---- What the records do

module _ {C : Type 0} {r : Reading C} {many : ℕ} {counted : C → List Noted → (answers : List ℕ) → C} (law : Lawful r many counted) (t : Settings) where
  ends_doing : EndsBy Ends (doing t r)
  unfolding doing record_done record_over
  ends_doing = record {
    too_long = inr refl;
    reads = λ w bytes. by_cases (eqb (r.ends_with bytes) 0)
        (λ good. rw good (λ over. absurd (over refl)))
        (λ bad. rw bad (λ over. elim (law.ends bytes) [ inl none ↦ absurd (over none) | inr twelve ↦ inl twelve ]));
    steps_over = λ w over. absurd (over refl);
  }

  -- whatever a record does, the counts are what their words mean
  meant_doing : DoAlike (λ (one other : Work C). Meant r one.counts) (doing t r) (doing t r)
  unfolding doing record_done record_over
  meant_doing = record {
    reads = λ {x} {y} meant bytes. by_cases (eqb (r.ends_with bytes) 0)
        (λ good. rw good (record { number = refl; leaves = law.more_meant x.counts bytes _ }))
        (λ bad. rw bad (record { number = refl; leaves = meant }));
    steps_over = λ {x} {y} meant. record { number = refl; leaves = law.over_meant x.counts };
  }

  -- ---- The three ways

  module _ (m : Memory) (counts words room chunk : List ℕ) where
    -- what it is given back and leaves
    abbrev its : Chunked
    its = take_chunk t r m counts words room chunk

    -- its bytes, taken one after the other
    abbrev pub bytes_taken : Stream (Work C)
    bytes_taken = chunk_taken r.kind (doing t r) (taken_up r m counts words room) chunk

    -- why it is not taken, 0 where it is
    abbrev refusal : ℕ
    refusal = chunk_refusal t m r.party (r.counts_high (r.counts_of counts)) chunk

    -- the stream has ended: the chunk is given the number that ended it
    pub record AfterEnd : Type 0 where
      pub over : is_ended words ≡ true
      pub left : its ≡ as_it_was (ended_number words) m counts words room

    -- the chunk is refused
    pub record Refused : Type 0 where
      pub on : is_ended words ≡ false
      pub bad : refusal ≢ 0
      pub left : its ≡ as_it_was refusal m counts words room
      pub given : untaken its.number ≡ true

    -- the chunk is taken, and leaves a regular stream, whose counts are what their words mean
    pub record Taken : Type 0 where
      pub on : is_ended words ≡ false
      pub good : refusal ≡ 0
      pub left : its ≡ lent_back r bytes_taken
      pub given : untaken its.number ≡ false
      pub regular : Regular Ends r.kind bytes_taken.stage bytes_taken.room
      pub meant : Meant r bytes_taken.done.counts

    -- A stream that has not ended is left regular, and 12 or 14 has ended it if it has ended.
    pub taken_regular : is_ended words ≡ false → Regular Ends r.kind bytes_taken.stage bytes_taken.room
    unfolding taken_up
    taken_regular on = chunk_regular ends_doing r.kind _ chunk (means_regular Ends r.kind words room (λ over. absurd (true≢false (sym over ∙ on))))

    -- What it has counted is what the words of its counts mean.
    pub taken_meant : Meant r bytes_taken.done.counts
    unfolding taken_up
    taken_meant = (chunk_alike meant_doing r.kind {s' = taken_up r m counts words room} (record { stage = refl; room = refl; done = law.of_meant counts }) chunk).done

    -- One of the three is so.
    pub by_way : {A : Type 0} → (AfterEnd → A) → (Refused → A) → (Taken → A) → A
    unfolding take_chunk lent_back
    by_way after_end refused taken = by_cases (is_ended words) (λ over. after_end (record { over = over; left = rw over })) (λ on. by_cases (eqb refusal 0)
        (λ none.
        let left : its ≡ lent_back r bytes_taken = rw (on, none) in
        taken (record {
          on = on;
          good = eqb-true refusal 0 none;
          left = left;
          given = rw left (given_taken (given_by_stage r.kind _ _ (taken_regular on)));
          regular = taken_regular on;
          meant = taken_meant;
        }))
        (λ some.
        let bad = eqb-false refusal 0 some in
        let left : its ≡ as_it_was refusal m counts words room = rw (on, some) in
        refused (record { on = on; bad = bad; left = left; given = rw left (refusal_untaken t m r.party _ chunk bad) })))

    -- One of the last two is, while the stream goes on.
    pub while_on : {A : Type 0} → is_ended words ≡ false → (Refused → A) → (Taken → A) → A
    while_on on = by_way (λ way. absurd (true≢false (sym way.over ∙ on)))
