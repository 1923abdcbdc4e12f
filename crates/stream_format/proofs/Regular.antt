-- What words and room mean is regular, every byte keeps it so, and of a regular stream the words that a call leaves mean the
-- very stage that they were made of: a byte of a body is written behind the header, so that the room keeps its kind.
use Prim.Native.Nat.{ℕ, ◌+◌, ◌^◌, ◌≤◌, ◌<◌}
use mathlib.Core.Path.{◌≡◌, refl, ap, ◌∙◌}
use mathlib.Core.Bool.{Bool, true, false, cond}
use mathlib.Core.List.{List, [], ◌∷◌}
use mathlib.Core.Logic.{◌≢◌}
use native.Mathlib.Omega.{arith}
use lib.Dec.{ltb, eqb}
use lib.ListN.{set}
use lib.Seq.{get_or-set_other}
use borrow.Author.Tests.{ltb-true, ltb-false, leb-true, eqb-false, lt-ltb, le-leb, ne_eqb}
use Rattle.rules.specs.Tools.{fed}
use Rattle.rules.proofs.Members.{both}
use Rattle.message_format.specs.Format.{byte, two_bytes}
use Rattle.stream_format.specs.declared.Kind.{Kind}
use Rattle.stream_format.specs.declared.Stage.{Stage}
use Rattle.stream_format.specs.declared.Stage.TheVariants.{Header, Body, Over, Ended}
use Rattle.stream_format.specs.declared.Event.{Event}
use Rattle.stream_format.specs.declared.Event.TheVariants.{Nothing, Record, Stepped}
use Rattle.stream_format.specs.Streams.{is_kind, body_size, Framed, to_read, to_step_over, header_read, next_byte, Done, Doing, Stream, unless_ended, completed, byte_taken, chunk_taken}
use Rattle.stream_format.specs.Kept.{ended_word, read_word, left_word, is_ended, ended_number, is_body, stage_of, words_of}
use Rattle.stream_format.proofs.Ends.{ended_stage, ended_words}

-- ---- What it is to be regular

-- a stage as a call leaves it, with the room: `ends` are the numbers that may have ended the stream
unfoldable pub Regular : (ends : ℕ → Type 0) → Kind → Stage → (room : List ℕ) → Type 0
Regular ends kind (Header read) room = read < 12
Regular ends kind (Body read left) room = (12 ≤ read) × (1 ≤ left) × (read + left ≤ 65548) × (is_kind kind room ≡ true)
Regular ends kind (Over left) room = 1 ≤ left
Regular ends kind (Ended number) room = ends number

-- a number that a record ends the stream with is one of these, and so is 14, of a body that is too long
pub record EndsBy {X : Type 0} (ends : ℕ → Type 0) (doing : Doing X) : Type 0 where
  pub too_long : ends 14
  pub reads : (x : X) (bytes : List ℕ) → (doing.reads x bytes).number ≢ 0 → ends (doing.reads x bytes).number
  pub steps_over : (x : X) → (doing.steps_over x).number ≢ 0 → ends (doing.steps_over x).number

-- what a test tells of its numbers
ruleset told = (arith, ltb-true, ltb-false, leb-true, eqb-false)

-- what holds of both holds of the one that is taken
chosen : {A : Type 0} (P : A → Type 0) (b : Bool) {x y : A} → (b ≡ true → P x) → (b ≡ false → P y) → P (cond b x y)
chosen P true first second = first refl
chosen P false first second = second refl

-- ---- What words and room mean

module _ (ends : ℕ → Type 0) (kind : Kind) (words room : List ℕ) where
  -- Whatever the words are, they mean a regular stage.
  pub means_regular : (is_ended words ≡ true → ends (ended_number words)) → Regular ends kind (stage_of kind words room) room
  unfolding stage_of Regular is_body
  means_regular ended =
      let meant : Stage → Type 0 = λ stage. Regular ends kind stage room in
      chosen meant (is_ended words) ended
      (λ _. chosen meant (eqb (left_word words) 0)
      (λ _. chosen (λ read. read < 12) (ltb (read_word words) 12) (λ few. omega told) (λ _. omega arith))
      (λ more. chosen meant (is_body kind words room)
      (λ body.
      let parts = both _ _ body in
      let rest = both _ _ parts.1 in
      (leb-true 12 _ parts.0, omega told, leb-true _ 65548 rest.0, rest.1))
      (λ _. omega told)))

-- ---- What a byte keeps

-- a byte behind the header changes nothing of its kind
kind_stays : (kind : Kind) (room : List ℕ) (place b : ℕ) → 12 ≤ place → is_kind kind (set room place b) ≡ is_kind kind room
unfolding is_kind two_bytes byte
kind_stays kind room place b behind =
    rw (
      get_or-set_other room place 4 b 0 (omega arith),
      get_or-set_other room place (4 + 1) b 0 (omega arith),
      get_or-set_other room place 6 b 0 (omega arith),
      get_or-set_other room place (6 + 1) b 0 (omega arith),
    )

module _ (ends : ℕ → Type 0) (kind : Kind) where
  abbrev meets : Framed → Type 0
  meets f = Regular ends kind f.stage f.room

  byte_regular : ends 14 → (stage : Stage) (room : List ℕ) → Regular ends kind stage room → (b : ℕ) → meets (next_byte kind stage room b)
  unfolding next_byte header_read to_read to_step_over Regular
  byte_regular too_long (Header read) room few b =
      let kept = set room read b in
      chosen meets (ltb (read + 1) 12) (λ more. omega told)
      (λ _. chosen meets (is_kind kind kept)
      (λ its. chosen meets (ltb 65536 (body_size kept)) (λ _. too_long)
      (λ short. chosen meets (eqb (body_size kept) 0) (λ _. omega arith) (λ some. (omega arith, omega told, omega told, its))))
      (λ _. chosen meets (eqb (body_size kept) 0) (λ _. omega arith) (λ some. omega told)))
  byte_regular too_long (Body read left) room its b =
      chosen meets (ltb 1 left)
      (λ more. (omega arith, omega told, omega told, kind_stays kind room read b its.0 ∙ its.3))
      (λ _. omega arith)
  byte_regular too_long (Over left) room its b = chosen meets (ltb 1 left) (λ more. omega told) (λ _. omega arith)
  byte_regular too_long (Ended number) room its b = its

module _ {X : Type 0} {ends : ℕ → Type 0} {doing : Doing X} (ended : EndsBy ends doing) (kind : Kind) where
  -- a stream that a call leaves
  abbrev leaves : Stream X → Type 0
  leaves s = Regular ends kind s.stage s.room

  unless_ended_regular : (stage : Stage) (room : List ℕ) (d : Done X) → (d.number ≢ 0 → ends d.number) → Regular ends kind stage room → leaves (unless_ended stage room d)
  unfolding unless_ended Regular
  unless_ended_regular stage room d by its = chosen (λ next. Regular ends kind next room) (eqb d.number 0) (λ _. its) (λ over. by (eqb-false _ 0 over))

  completed_regular : (x : X) (stage : Stage) (room : List ℕ) (event : Event) → Regular ends kind stage room → leaves (completed doing x stage room event)
  unfolding completed
  completed_regular x stage room Nothing its = its
  completed_regular x stage room (Record size) its = unless_ended_regular stage room _ (ended.reads x _) its
  completed_regular x stage room Stepped its = unless_ended_regular stage room _ (ended.steps_over x) its

  -- A chunk leaves a regular stream regular.
  pub chunk_regular : (s : Stream X) (chunk : List ℕ) → leaves s → leaves (chunk_taken kind doing s chunk)
  unfolding chunk_taken fed byte_taken
  chunk_regular s [] its = its
  chunk_regular s (b ∷ chunk) its = chunk_regular (byte_taken kind doing s b) chunk (completed_regular s.done _ _ _ (byte_regular ends kind ended.too_long s.stage s.room its b))

-- ---- What is kept

-- The words of a regular stream mean its stage.
pub words_mean : {ends : ℕ → Type 0} → ((number : ℕ) → ends number → number < 2 ^ 16) → (kind : Kind) (stage : Stage) (room : List ℕ) → Regular ends kind stage room
    → stage_of kind (words_of stage) room ≡ stage
unfolding Regular stage_of words_of is_ended is_body ended_word read_word left_word
words_mean small kind (Header read) room few = rw (lt-ltb read 12 few)
words_mean small kind (Body read left) room its = rw (ne_eqb left 0 (omega arith), le-leb 12 read its.0, le-leb (read + left) 65548 its.2, its.3)
words_mean small kind (Over left) room some = rw (ne_eqb left 0 (omega arith))
words_mean small kind (Ended number) room its =
    let over = ended_words number (small number its) in
    ended_stage kind (words_of (Ended number)) room over.0 ∙ ap Ended over.1
