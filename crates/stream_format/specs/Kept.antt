-- What is kept of a stream between two chunks: three words beside the room. Any three numbers of 32 bits mean a stage.
use Rattle.std.specs.Prelude.{ℕ, ◌+◌, ◌-◌, ◌%◌, ◌^◌, Bool, cond, not, ◌&&◌, ◌||◌, List, [], ◌∷◌, get_or, ltb, leb, eqb}
use Rattle.rules.specs.Tools.{within}
use Rattle.stream_format.specs.declared.Kind.{Kind}
use Rattle.stream_format.specs.declared.Stage.{Stage}
use Rattle.stream_format.specs.declared.Stage.TheVariants.{Header, Body, Over, Ended}
use Rattle.stream_format.specs.Streams.{is_kind}

-- ---- The words

-- the first is 0 while the stream goes on, and one more than the number that ended it
unfoldable pub ended_word : (words : List ℕ) → ℕ
ended_word words = get_or words 0 0

-- the second is how many bytes of a record stand in the room
unfoldable pub read_word : (words : List ℕ) → ℕ
read_word words = get_or words 1 0

-- the third is how many bytes of a record's body are to come
unfoldable pub left_word : (words : List ℕ) → ℕ
left_word words = get_or words 2 0

-- the stream has ended
unfoldable pub is_ended : (words : List ℕ) → Bool
is_ended words = not (eqb (ended_word words) 0)

-- the number that ended it; of a word above 65,536 the low sixteen bits count
unfoldable pub ended_number : (words : List ℕ) → ℕ
ended_number words = (ended_word words - 1) % 2 ^ 16

-- ---- Words and stages

-- a record that is read stands in the room with its header, and what is to come of it has room
unfoldable pub is_body : Kind → (words room : List ℕ) → Bool
is_body kind words room =
    leb 12 (read_word words) && (leb (read_word words + left_word words) 65548 && is_kind kind room)

-- With nothing to come a header is read; a count of 12 and up, which no call leaves there, counts as none. With bytes to
-- come it is a record that is read, or else one that is stepped over.
unfoldable pub stage_of : Kind → (words room : List ℕ) → Stage
stage_of kind words room =
    cond (is_ended words) (Ended (ended_number words))
    (cond (eqb (left_word words) 0) (Header (cond (ltb (read_word words) 12) (read_word words) 0))
    (cond (is_body kind words room) (Body (read_word words) (left_word words)) (Over (left_word words))))

-- the words that a call leaves
unfoldable pub words_of : Stage → List ℕ
words_of (Header read) = 0 ∷ read ∷ 0 ∷ []
words_of (Body read left) = 0 ∷ read ∷ left ∷ []
words_of (Over left) = 0 ∷ 0 ∷ left ∷ []
words_of (Ended number) = (number + 1) ∷ 0 ∷ 0 ∷ []

-- ---- The end of a stream

-- a record is not complete: its header is begun, or bytes of its body are to come
unfoldable pub inside_record : (words : List ℕ) → Bool
inside_record words = not (eqb (left_word words) 0) || within 1 11 (read_word words)

-- what an end gives back, and the words as it leaves them
pub record End : Type 0 where
  pub number : ℕ
  pub words : List ℕ

abbrev pub ended_as : (number : ℕ) (words : List ℕ) → End
ended_as number words = record { number = number; words = words }

-- a stream is ended by 17 inside a record, and else by 0
unfoldable pub end_number : (words : List ℕ) → ℕ
end_number words = cond (inside_record words) 17 0

-- the end: one that has ended keeps its number, and its words
unfoldable pub end_stream : (words : List ℕ) → End
end_stream words =
    cond (is_ended words) (ended_as (ended_number words) words)
    (ended_as (end_number words) (words_of (Ended (end_number words))))
