-- A whole record, from its first byte to its last: a header is kept byte by byte, and what it says is how many bytes follow, which
-- are kept behind it or stepped over. For each stage there is an induction over the bytes that it waits for, and one over fewer.
use Prim.Native.Nat.{ℕ, suc, ◌+◌, ◌-◌, ◌≤◌, ◌<◌}
use mathlib.Core.Path.{◌≡◌, refl, sym, ap, ◌∙◌}
use mathlib.Core.Bool.{true, false, cond}
use mathlib.Core.List.{List, [], ◌∷◌, ◌++◌, append-nil}
use native.Mathlib.Nat.{zero-add}
use native.Mathlib.Numerals.{add-one}
use native.Mathlib.Omega.{arith}
use lib.Dec.{ltb}
use lib.ListN.{length, take, set, drop, length-append, length-drop, take-append-drop, get_or-append}
use lib.Seq.{sets, length-sets, sets-eq, take_at, take-add, length-take-le}
use borrow.Table.Steps.{cases}
use borrow.Author.Tests.{lt-ltb, le-ltb, ltb-true, ltb-false, eq-eqb, ne_eqb}
use Rattle.rules.specs.Tools.{fed}
use Rattle.message_format.specs.Format.{byte, two_bytes, four_bytes}
use Rattle.stream_format.specs.declared.Kind.{Kind}
use Rattle.stream_format.specs.declared.Stage.{Stage}
use Rattle.stream_format.specs.declared.Stage.TheVariants.{Header, Body, Over, Ended}
use Rattle.stream_format.specs.Streams.{is_kind, body_size, to_read, to_step_over, Framed, header_read, next_byte, Done, Doing, Stream, stream, unless_ended, completed, byte_taken, chunk_taken}
use Rattle.stream_format.proofs.Cuts.{chunk_append, ended_stays}

-- ---- The header says the same wherever it stands

module _ (header one other : List ℕ) (twelve : length header ≡ 12) where
  byte_same : (i : ℕ) → suc i ≤ 12 → byte (header ++ one) i ≡ byte (header ++ other) i
  unfolding byte
  byte_same i low =
      let inside : suc i ≤ length header = omega arith in
      get_or-append header one 0 i inside ∙ sym (get_or-append header other 0 i inside)

  kind_same : (kind : Kind) → is_kind kind (header ++ one) ≡ is_kind kind (header ++ other)
  unfolding is_kind two_bytes
  kind_same kind = rw (byte_same 4 (omega arith), byte_same 5 (omega arith), byte_same 6 (omega arith), byte_same 7 (omega arith))

  size_same : body_size (header ++ one) ≡ body_size (header ++ other)
  unfolding body_size four_bytes
  size_same = rw (byte_same 8 (omega arith), byte_same 9 (omega arith), byte_same 10 (omega arith), byte_same 11 (omega arith))

-- Cut off behind its first record, a list of bytes says the same of how long that is.
pub front_size : (bytes : List ℕ) → 12 + body_size bytes ≤ length bytes → body_size (take (12 + body_size bytes) bytes) ≡ body_size bytes
front_size bytes fits =
    let size = body_size bytes in
    ap body_size (take-add 12 size bytes)
    ∙ size_same (take 12 bytes) (take size (drop 12 bytes)) (drop 12 bytes) (length-take-le 12 bytes (omega arith))
    ∙ ap body_size (take-append-drop 12 bytes)

-- ---- The bytes of a stage

module _ {X : Type 0} (kind : Kind) (doing : Doing X) (x : X) where
  -- a stream in this stage takes bytes
  abbrev taken : Stage → (room bytes : List ℕ) → Stream X
  taken stage room bytes = chunk_taken kind doing (stream stage room x) bytes

  -- what a byte completes is done
  abbrev led : Framed → Stream X
  led f = completed doing x f.stage f.room f.event

  header_taken : (read : ℕ) (room : List ℕ) (b : ℕ) (bytes : List ℕ) → read + length (b ∷ bytes) ≡ 12
      → taken (Header read) room (b ∷ bytes) ≡ led (header_read kind (sets room read (b ∷ bytes)))
  unfolding chunk_taken fed byte_taken next_byte completed
  header_taken read room b [] e = rw (le-ltb (read + 1) 12 (omega arith))
  header_taken read room b (c ∷ bytes) e =
      rw (lt-ltb (read + 1) 12 (omega arith), add-one read) (header_taken (suc read) (set room read b) c bytes (omega arith))

  body_taken : (read left : ℕ) (room : List ℕ) (b : ℕ) (bytes : List ℕ) → length (b ∷ bytes) ≡ left
      → taken (Body read left) room (b ∷ bytes)
      ≡ (let kept = sets room read (b ∷ bytes) in unless_ended (Header 0) kept (doing.reads x (take (read + left) kept)))
  unfolding chunk_taken fed byte_taken next_byte completed
  body_taken read left room b [] e = rw (le-ltb 1 left (omega arith), ← e)
  body_taken read left room b (c ∷ bytes) e =
      let size : suc read + (left - 1) ≡ read + left = omega arith in
      rw (lt-ltb 1 left (omega arith), add-one read, ← size) (body_taken (suc read) (left - 1) (set room read b) c bytes (omega arith))

  over_taken : (left : ℕ) (room : List ℕ) (b : ℕ) (bytes : List ℕ) → length (b ∷ bytes) ≡ left
      → taken (Over left) room (b ∷ bytes) ≡ unless_ended (Header 0) room (doing.steps_over x)
  unfolding chunk_taken fed byte_taken next_byte completed
  over_taken left room b [] e = rw (le-ltb 1 left (omega arith))
  over_taken left room b (c ∷ bytes) e = rw (lt-ltb 1 left (omega arith)) (over_taken (left - 1) room c bytes (omega arith))

  -- too few bytes for a stage complete nothing
  header_part : (read : ℕ) (room bytes : List ℕ) → read + length bytes < 12 → (taken (Header read) room bytes).done ≡ x
  unfolding chunk_taken fed byte_taken next_byte completed
  header_part read room [] few = refl
  header_part read room (b ∷ bytes) few =
      let step : byte_taken kind doing (stream (Header read) room x) b ≡ stream (Header (read + 1)) (set room read b) x = rw (lt-ltb (read + 1) 12 (omega arith)) in
      ap (λ s. (chunk_taken kind doing s bytes).done) step ∙ header_part (read + 1) (set room read b) bytes (omega arith)

  body_part : (read left : ℕ) (room bytes : List ℕ) → length bytes < left → (taken (Body read left) room bytes).done ≡ x
  unfolding chunk_taken fed byte_taken next_byte completed
  body_part read left room [] few = refl
  body_part read left room (b ∷ bytes) few =
      let step : byte_taken kind doing (stream (Body read left) room x) b ≡ stream (Body (read + 1) (left - 1)) (set room read b) x = rw (lt-ltb 1 left (omega arith)) in
      ap (λ s. (chunk_taken kind doing s bytes).done) step ∙ body_part (read + 1) (left - 1) (set room read b) bytes (omega arith)

  over_part : (left : ℕ) (room bytes : List ℕ) → length bytes < left → (taken (Over left) room bytes).done ≡ x
  unfolding chunk_taken fed byte_taken next_byte completed
  over_part left room [] few = refl
  over_part left room (b ∷ bytes) few =
      let step : byte_taken kind doing (stream (Over left) room x) b ≡ stream (Over (left - 1)) room x = rw (lt-ltb 1 left (omega arith)) in
      ap (λ s. (chunk_taken kind doing s bytes).done) step ∙ over_part (left - 1) room bytes (omega arith)

  -- ---- A whole record

  -- what a record does: one that is read and too long for the room ends the stream with 14
  unfoldable pub record_does : (bytes : List ℕ) → Done X
  record_does bytes = cond (is_kind kind bytes)
      (cond (ltb 65536 (body_size bytes)) (record { number = 14; leaves = x }) (doing.reads x bytes))
      (doing.steps_over x)

  -- a stream has taken it: it stands between two records, or has ended, and has its room
  pub record Took (s : Stream X) (done : Done X) : Type 0 where
    pub room : List ℕ
    pub long : length room ≡ 65548
    pub stands : s ≡ unless_ended (Header 0) room done

  -- a body stands behind its header
  kept_whole : (room body : List ℕ) (size : ℕ) → length body ≡ size → 12 + size ≤ length room → take (12 + size) (sets room 12 body) ≡ take 12 room ++ body
  kept_whole room body size e h =
      rw (sets-eq body room 12 (omega arith))
      (take_at (take 12 room ++ body) _ (12 + size) (length-append (take 12 room) body ∙ rw (length-take-le 12 room (omega arith), e)))

  -- what follows a header that stands in the room: the body of a record that is read and fits,
  fitting_taken : (room body : List ℕ) (size : ℕ) → length room ≡ 65548 → length body ≡ size → ltb 65536 size ≡ false
      → Took (chunk_taken kind doing (led (to_read room size)) body) (doing.reads x (take 12 room ++ body))
  unfolding to_read completed chunk_taken fed
  fitting_taken room [] size long e fits = rw (fits, eq-eqb size 0 (sym e), append-nil) (record { room = room; long = long; stands = refl })
  fitting_taken room (b ∷ bytes) size long e fits =
      rw (fits, ne_eqb size 0 (omega arith), ← kept_whole room (b ∷ bytes) size e (omega (arith, ltb-false 65536 size fits)))
      (record { room = sets room 12 (b ∷ bytes); long = length-sets room 12 (b ∷ bytes) ∙ long; stands = body_taken 12 size room b bytes e })

  -- of one that does not fit,
  too_long : (room body : List ℕ) (size : ℕ) → length room ≡ 65548 → ltb 65536 size ≡ true
      → Took (chunk_taken kind doing (led (to_read room size)) body) (record { number = 14; leaves = x })
  unfolding to_read completed unless_ended
  too_long room body size long over =
      rw over (record { room = room; long = long; stands = ended_stays kind doing (stream (Ended 14) room x) refl body })

  -- or of any other
  step_taken : (room body : List ℕ) (size : ℕ) → length room ≡ 65548 → length body ≡ size
      → Took (chunk_taken kind doing (led (to_step_over room size)) body) (doing.steps_over x)
  unfolding to_step_over completed chunk_taken fed
  step_taken room [] size long e = rw (eq-eqb size 0 (sym e)) (record { room = room; long = long; stands = refl })
  step_taken room (b ∷ bytes) size long e = rw (ne_eqb size 0 (omega arith)) (record { room = room; long = long; stands = over_taken size room b bytes e })

  -- the bytes of a header
  header_whole : (room header : List ℕ) → length header ≡ 12 → taken (Header 0) room header ≡ led (header_read kind (sets room 0 header))
  header_whole room [] twelve = absurd (omega arith)
  header_whole room (b ∷ header) twelve = header_taken 0 room b header (omega arith)

  module _ (room header body : List ℕ) (long : length room ≡ 65548) (twelve : length header ≡ 12) where
    -- the room with the header in it, and what the header says
    abbrev kept : List ℕ
    kept = header ++ drop 12 room

    abbrev size : ℕ
    size = body_size (header ++ body)

    kept_long : length kept ≡ 65548
    kept_long = length-append header (drop 12 room) ∙ rw (length-drop 12 room, twelve, long)

    header_kept : taken (Header 0) room header ≡ led (header_read kind kept)
    header_kept =
        header_whole room header twelve ∙ ap (λ kept. led (header_read kind kept)) (sets-eq header room 0 (omega arith) ∙ rw (zero-add (length header), twelve))

    -- the header is taken, and then the body
    then_body : taken (Header 0) room (header ++ body)
        ≡ chunk_taken kind doing (led (cond (is_kind kind (header ++ body)) (to_read kept size) (to_step_over kept size))) body
    unfolding header_read
    then_body = rw (
      chunk_append kind doing (stream (Header 0) room x) header body,
      header_kept,
      kind_same header (drop 12 room) body twelve kind,
      size_same header (drop 12 room) body twelve,
    )

    all_taken : length body ≡ size → Took (taken (Header 0) room (header ++ body)) (record_does (header ++ body))
    unfolding record_does
    all_taken sized = rw then_body (cases (is_kind kind (header ++ body))
        (λ its. cases (ltb 65536 size)
        (λ over. rw (its, over) (too_long kept body size kept_long over))
        (λ fits. rw (its, fits) (rw (take_at header (drop 12 room) 12 twelve) at (fitting_taken kept body size kept_long sized fits))))
        (λ other. rw other (step_taken kept body size kept_long sized)))

    part_taken : length body < size → (taken (Header 0) room (header ++ body)).done ≡ x
    unfolding to_read to_step_over completed
    part_taken few =
        let some = ne_eqb size 0 (omega arith) in
        rw then_body (cases (is_kind kind (header ++ body))
        (λ its. cases (ltb 65536 size)
        (λ over. rw (its, over, ended_stays kind doing (stream (Ended 14) kept x) refl body))
        (λ fits. rw (its, fits, some) (body_part 12 size kept body few)))
        (λ other. rw (other, some) (over_part size kept body few)))

  module _ (room bytes : List ℕ) (long : length room ≡ 65548) where
    -- Between two records a stream takes a record whole: a header of 12 bytes, and as many bytes of body as it says.
    pub whole_taken : length bytes ≡ 12 + body_size bytes → Took (taken (Header 0) room bytes) (record_does bytes)
    whole_taken sized =
        let same = take-append-drop 12 bytes in
        let size : length (drop 12 bytes) ≡ body_size bytes = omega (arith, length-drop 12 bytes) in
        rw same at (all_taken room (take 12 bytes) (drop 12 bytes) long (length-take-le 12 bytes (omega arith)) (rw same size))

    -- Fewer bytes do nothing.
    pub fewer_taken : length bytes < 12 + body_size bytes → (taken (Header 0) room bytes).done ≡ x
    fewer_taken few = cases (ltb (length bytes) 12)
        (λ short. header_part 0 room bytes (omega (arith, ltb-true (length bytes) 12 short)))
        (λ enough.
        let same = take-append-drop 12 bytes in
        let size : length (drop 12 bytes) < body_size bytes = omega (arith, length-drop 12 bytes, ltb-false (length bytes) 12 enough) in
        rw same at (part_taken room (take 12 bytes) (drop 12 bytes) long (length-take-le 12 bytes (ltb-false (length bytes) 12 enough)) (rw same size)))
