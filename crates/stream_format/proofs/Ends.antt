-- What the end of a stream gives back goes by the stage that the words mean, and it ends the stream for good.
use Prim.Native.Nat.{ℕ, ◌+◌, ◌-◌, ◌^◌, ◌<◌}
use mathlib.Core.Path.{◌≡◌, refl, sym, ◌∙◌}
use mathlib.Core.Bool.{Bool, true, false, cond, and-true, and-false}
use mathlib.Core.List.{List}
use native.Mathlib.Nat.{mod-eq_of_lt}
use native.Mathlib.Omega.{arith}
use lib.Dec.{ltb, leb, eqb}
use borrow.Table.Steps.{cases}
use borrow.Author.Tests.{ltb-true, ltb-false, le-leb, lt-leb, ne_eqb}
use Rattle.rules.specs.Tools.{within}
use Rattle.stream_format.specs.declared.Kind.{Kind}
use Rattle.stream_format.specs.declared.Stage.{Stage}
use Rattle.stream_format.specs.declared.Stage.TheVariants.{Header, Body, Over, Ended}
use Rattle.stream_format.specs.Kept.{ended_word, read_word, left_word, is_ended, ended_number, is_body, stage_of, words_of, inside_record, end_number, end_stream}

-- ---- By the stage

-- a record is not complete: some bytes of its header are read, or some of its body are to come
unfoldable pub inside : Stage → Bool
inside (Header read) = ltb 0 read
inside (Body read left) = true
inside (Over left) = true
inside (Ended number) = false

-- what the end gives back: the number that ended the stream, or else 17 inside a record and 0 between two
unfoldable pub end_at : Stage → ℕ
end_at (Header read) = cond (inside (Header read)) 17 0
end_at (Body read left) = cond (inside (Body read left)) 17 0
end_at (Over left) = cond (inside (Over left)) 17 0
end_at (Ended number) = number

-- of a header's bytes, a count of 12 and up counts as none
begun : (read : ℕ) → within 1 11 read ≡ ltb 0 (cond (ltb read 12) read 0)
unfolding within
begun read = cases (ltb read 12)
    (λ few. rw (few, le-leb read 11 (omega (arith, ltb-true))) (and-true (leb 1 read)))
    (λ many. rw (many, lt-leb read 11 (omega (arith, ltb-false))) (and-false (leb 1 read)))

-- only one stage has ended by a number
module _ {number : ℕ} where
  same_end : {other : ℕ} → Ended other ≡ Ended number → other ≡ number
  same_end is = cc

  not_header : {read : ℕ} → Header read ≡ Ended number → ⊥
  not_header is = cc

  not_body : {read left : ℕ} → Body read left ≡ Ended number → ⊥
  not_body is = cc

  not_over : {left : ℕ} → Over left ≡ Ended number → ⊥
  not_over is = cc

module _ (kind : Kind) (words room : List ℕ) where
  -- The number that the end gives goes by the stage, whatever the room holds and whichever kind is read.
  pub end_by_stage : (end_stream words).number ≡ end_at (stage_of kind words room)
  unfolding end_stream end_number inside_record stage_of end_at inside
  end_by_stage = cases (is_ended words) (λ over. rw over) (λ on. cases (eqb (left_word words) 0)
      (λ whole. rw (on, whole, begun (read_word words)))
      (λ more. cases (is_body kind words room) (λ body. rw (on, more, body)) (λ other. rw (on, more, other))))

  -- Before it that is 17 inside a record, and 0 between two.
  pub end_inside : is_ended words ≡ false → end_at (stage_of kind words room) ≡ cond (inside (stage_of kind words room)) 17 0
  unfolding stage_of end_at
  end_inside on = cases (eqb (left_word words) 0) (λ whole. rw (on, whole))
      (λ more. cases (is_body kind words room) (λ body. rw (on, more, body)) (λ other. rw (on, more, other)))

  -- A stream that has ended is in the stage that says so, and no other is.
  pub ended_stage : is_ended words ≡ true → stage_of kind words room ≡ Ended (ended_number words)
  unfolding stage_of
  ended_stage over = rw over

  going_stage : is_ended words ≡ false → {number : ℕ} → stage_of kind words room ≡ Ended number → ⊥
  unfolding stage_of
  going_stage on is = cases (eqb (left_word words) 0) (λ whole. not_header (rw (on, whole) at is))
      (λ more. cases (is_body kind words room) (λ body. not_body (rw (on, more, body) at is)) (λ other. not_over (rw (on, more, other) at is)))

  pub ended_told : {number : ℕ} → stage_of kind words room ≡ Ended number → (is_ended words ≡ true) × (ended_number words ≡ number)
  ended_told is = cases (is_ended words) (λ over. (over, same_end (sym (ended_stage over) ∙ is))) (λ on. absurd (going_stage on is))

-- ---- For good

-- The words of a stream that a number has ended say so.
pub ended_words : (number : ℕ) → number < 2 ^ 16 → (is_ended (words_of (Ended number)) ≡ true) × (ended_number (words_of (Ended number)) ≡ number)
unfolding is_ended ended_number words_of ended_word
ended_words number low =
    let back : number + 1 - 1 ≡ number = omega arith in
    (rw (ne_eqb (number + 1) 0 (omega arith)), rw (back, mod-eq_of_lt low))

module _ (words : List ℕ) where
  -- The end of a stream ends it, by the number that it gives back,
  pub ended_by_end : (is_ended (end_stream words).words ≡ true) × (ended_number (end_stream words).words ≡ (end_stream words).number)
  unfolding end_stream end_number
  ended_by_end = cases (is_ended words) (λ over. rw over (over, refl))
      (λ on. rw on (cases (inside_record words) (λ part. rw part (ended_words 17 (omega arith))) (λ whole. rw whole (ended_words 0 (omega arith)))))

  -- and another end is the same.
  pub end_again : end_stream (end_stream words).words ≡ end_stream words
  unfolding end_stream
  end_again = rw (ended_by_end.0, ended_by_end.1)
