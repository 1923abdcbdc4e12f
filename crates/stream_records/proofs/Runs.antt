-- A run is what is left of a header or of a body. What its bytes do is one induction over them, for headers and bodies alike;
-- what is given back of a chunk follows from whether the chunk ends within the run or goes past it.
use Prim.Native.Nat.{ℕ, zero, suc, ◌+◌, ◌-◌, ◌≤◌, ◌<◌}
use mathlib.Core.Path.{◌≡◌, refl, sym, ap, subst, ◌∙◌}
use mathlib.Core.Bool.{true, false≢true}
use mathlib.Core.List.{List, [], ◌∷◌, ◌++◌, append-nil}
use native.Mathlib.Nat.{add-zero, add_assoc, sub-zero, sub-add-eq}
use native.Mathlib.Omega.{arith}
use lib.ListN.{length, take, drop, set, length-append, length-drop}
use lib.Seq.{sets, append_snoc}
use borrow.Author.Tests.{lt-ltb, le-ltb}
use Rattle.stream_format.specs.declared.Kind.{Kind}
use Rattle.stream_format.specs.declared.Stage.{Stage}
use Rattle.stream_format.specs.declared.Stage.TheVariants.{Header, Body, Over, Ended}
use Rattle.stream_format.specs.declared.Event.{Event}
use Rattle.stream_format.specs.declared.Event.TheVariants.{Nothing, Record, Stepped}
use Rattle.stream_format.specs.Streams.{Framed, framed, next_byte, header_read}
use Rattle.stream_records.specs.declared.Next.{Next}
use Rattle.stream_records.specs.Runs.{completes, up_to_record, Sound, Stands, Goes}

-- ---- Bytes at a place

-- one byte more is stored behind the others
pub sets_more : (room : List ℕ) (at : ℕ) (bytes : List ℕ) (b : ℕ) → sets room at (bytes ++ b ∷ []) ≡ set (sets room at bytes) (at + length bytes) b
sets_more room at [] b = rw add-zero
sets_more room at (a ∷ bytes) b = sets_more (set room at a) (suc at) bytes b ∙ ap (λ n. set (sets (set room at a) (suc at) bytes) n b) (omega arith)

-- ---- Runs

module _ (kind : Kind) where
  -- where a record is complete no byte is taken
  pub stops : (f : Framed) (bytes : List ℕ) → completes f.event ≡ true → up_to_record kind f bytes ≡ record { after = f; rest = bytes }
  unfolding up_to_record
  stops f [] e = refl
  stops f (b ∷ bytes) e = rw e

  -- after the end every byte is taken, and does nothing
  pub ended : (number : ℕ) (room bytes : List ℕ)
      → up_to_record kind (framed (Ended number) room Nothing) bytes ≡ record { after = framed (Ended number) room Nothing; rest = [] }
  unfolding up_to_record completes next_byte
  ended number room [] = refl
  ended number room (b ∷ bytes) = ended number room bytes

  -- where a stream stands that begins a run of so many bytes, after some of them, and after them all
  pub record Run (from : Framed) (size : ℕ) (stage : (taken : List ℕ) → Stage) (room : (taken : List ℕ) → List ℕ) (whole : (taken : List ℕ) → Framed) : Type 0 where
    pub begins : framed (stage []) (room []) Nothing ≡ from
    pub more : (taken : List ℕ) (b : ℕ) → length taken + 1 < size
        → next_byte kind (stage taken) (room taken) b ≡ framed (stage (taken ++ b ∷ [])) (room (taken ++ b ∷ [])) Nothing
    pub last : (taken : List ℕ) (b : ℕ) → length taken + 1 ≡ size → next_byte kind (stage taken) (room taken) b ≡ whole (taken ++ b ∷ [])

  module _ {from : Framed} {size : ℕ} {stage : List ℕ → Stage} {room : List ℕ → List ℕ} {whole : List ℕ → Framed} (run : Run from size stage room whole) where
    -- too few bytes for the run
    part : (taken bytes : List ℕ) → length taken + length bytes < size
        → up_to_record kind (framed (stage taken) (room taken) Nothing) bytes
        ≡ record { after = framed (stage (taken ++ bytes)) (room (taken ++ bytes)) Nothing; rest = [] }
    unfolding up_to_record completes
    part taken [] h = rw append-nil
    part taken (b ∷ bytes) h =
        rw (run.more taken b (omega arith), ← append_snoc taken b bytes) (part (taken ++ b ∷ []) bytes (omega (arith, length-append taken (b ∷ []))))

    -- enough of them
    all : (taken bytes : List ℕ) (left : ℕ) → 1 ≤ left → length taken + left ≡ size → left ≤ length bytes
        → up_to_record kind (framed (stage taken) (room taken) Nothing) bytes ≡ up_to_record kind (whole (taken ++ take left bytes)) (drop left bytes)
    unfolding up_to_record completes
    all taken bytes zero l e h = absurd (omega arith)
    all taken [] (suc left) l e h = absurd (omega arith)
    all taken (b ∷ bytes) (suc zero) l e h = rw (run.last taken b (omega arith))
    all taken (b ∷ bytes) (suc (suc left)) l e h =
        rw (run.more taken b (omega arith), ← append_snoc taken b (take (suc left) bytes))
        (all (taken ++ b ∷ []) bytes (suc left) (omega arith) (omega (arith, length-append taken (b ∷ []))) (omega arith))

  -- the rest of a header
  pub header_run : (read : ℕ) (room : List ℕ) → read < 12
      → Run (framed (Header read) room Nothing) (12 - read) (λ taken. Header (read + length taken)) (λ taken. sets room read taken)
      (λ taken. header_read kind (sets room read taken))
  unfolding next_byte
  header_run read room h = record {
    begins = rw add-zero;
    more = λ taken b m. rw (lt-ltb (read + length taken + 1) 12 (omega arith), sets_more, length-append, add_assoc);
    last = λ taken b m. rw (le-ltb (read + length taken + 1) 12 (omega arith), sets_more);
  }

  -- the rest of a body that is read
  pub body_run : (read left : ℕ) (room : List ℕ)
      → Run (framed (Body read left) room Nothing) left (λ taken. Body (read + length taken) (left - length taken)) (λ taken. sets room read taken)
      (λ taken. framed (Header 0) (sets room read taken) (Record (read + left)))
  unfolding next_byte
  body_run read left room = record {
    begins = rw (add-zero, sub-zero);
    more = λ taken b m. rw (lt-ltb 1 (left - length taken) (omega arith), sets_more, length-append, add_assoc, sub-add-eq);
    last = λ taken b m. rw (le-ltb 1 (left - length taken) (omega arith), sets_more, ← m, add_assoc);
  }

  -- the rest of a body that is stepped over
  pub over_run : (left : ℕ) (room : List ℕ)
      → Run (framed (Over left) room Nothing) left (λ taken. Over (left - length taken)) (λ taken. room) (λ taken. framed (Header 0) room Stepped)
  unfolding next_byte
  over_run left room = record {
    begins = rw sub-zero;
    more = λ taken b m. rw (lt-ltb 1 (left - length taken) (omega arith), length-append, sub-add-eq);
    last = λ taken b m. rw (le-ltb 1 (left - length taken) (omega arith));
  }

-- ---- What is given back

-- the record that is complete, if it is one that is read, has room
abbrev pub HasRoom : Event → Type 0
HasRoom Nothing = Unit
HasRoom (Record size) = size ≤ 65548
HasRoom Stepped = Unit

module _ {kind : Kind} {from : Framed} {bytes : List ℕ} {next : Next} {room : List ℕ} where
  -- every byte is taken, and no record is complete
  pub goes_all : {stage : Stage} → Stands next stage [] Nothing → Sound stage
      → up_to_record kind from bytes ≡ record { after = framed stage room Nothing; rest = [] } → Goes kind from bytes next room
  unfolding completes
  goes_all {stage} is s e = record {
    cut = rw (is.stage_is, is.rest_is, is.event_is) e;
    sound = subst Sound (sym is.stage_is) s;
    no_more = rw is.rest_is (omega arith);
    fewer = λ n y. absurd (false≢true (rw is.event_is at y));
    in_room = λ e. subst HasRoom (sym is.event_is ∙ e) tt;
  }

  -- some are taken, and then it goes on as from there
  goes_on : {between : Framed} {more : List ℕ} → length more < length bytes
      → up_to_record kind from bytes ≡ up_to_record kind between more → Goes kind between more next room → Goes kind from bytes next room
  goes_on l e g = record {
    cut = e ∙ g.cut;
    sound = g.sound;
    no_more = omega (arith, g.no_more);
    fewer = λ n y. omega (arith, g.no_more);
    in_room = g.in_room;
  }

module _ {kind : Kind} {from : Framed} {bytes : List ℕ} {size : ℕ} {stage : List ℕ → Stage} {room : List ℕ → List ℕ} {whole : List ℕ → Framed} (run : Run kind from size stage room whole) where
  -- the bytes end within a run
  pub goes_within : {next : Next} → length bytes < size → Stands next (stage bytes) [] Nothing → Sound (stage bytes)
      → Goes kind from bytes next (room bytes)
  goes_within few is s = goes_all is s (rw (← run.begins) (part kind run [] bytes (omega arith)))

  -- they go past it
  pub goes_past : {next : Next} {room' : List ℕ} → 1 ≤ size → size ≤ length bytes
      → Goes kind (whole (take size bytes)) (drop size bytes) next room' → Goes kind from bytes next room'
  goes_past some h g =
      goes_on (omega (arith, length-drop size bytes)) (rw (← run.begins) (all kind run [] bytes size some (omega arith) h)) g

-- a record is complete already
pub goes_none : {kind : Kind} {stage : Stage} {room bytes : List ℕ} {event : Event} {next : Next} → Stands next stage bytes event → Sound stage
    → completes event ≡ true → HasRoom event → Goes kind (framed stage room event) bytes next room
goes_none is s y i = record {
  cut = rw (is.stage_is, is.rest_is, is.event_is) (stops _ _ _ y);
  sound = subst Sound (sym is.stage_is) s;
  no_more = rw is.rest_is (omega arith);
  fewer = λ n d. absurd (false≢true (sym n ∙ y));
  in_room = λ e. subst HasRoom (sym is.event_is ∙ e) i;
}
