-- What a replay does: a day comes in chunks, and each record applies its UPDATE and is tallied as it is complete.
use Rattle.std.specs.Prelude.{ℕ, zero, suc, ◌+◌, Bool, false, cond, List, [], ◌∷◌, map, get_or, ltb}
use Rattle.rules.specs.declared.Settings.{Settings}
use Rattle.rules.specs.Tools.{any, count}
use Rattle.rules.specs.Table.{Memory}
use Rattle.rules.specs.Calls.{accepted_of}
use Rattle.stream_format.specs.Chunks.{Reading, Chunked, take_chunk}
use Rattle.replay_format.specs.declared.Tally.{Tally}
use Rattle.replay_format.specs.Messages.{day_kind, record_bad, is_applied, record_calls}

-- ---- The tally

-- the places of the figures for refused routes: each is that of its number
abbrev pub numbers : List ℕ
numbers =
    0 ∷ 1 ∷ 2 ∷ 3 ∷ 4 ∷ 5 ∷ 6 ∷ 7 ∷ 8 ∷ 9 ∷ 10 ∷ 11 ∷ 12 ∷ 13 ∷ 14 ∷ 15 ∷ 16 ∷ 17 ∷ 18 ∷ 19 ∷ []

-- how many routes were refused under a number; none is refused under 0
unfoldable pub refused_under : (number : ℕ) (answers : List ℕ) → ℕ
refused_under zero answers = 0
refused_under (suc number) answers = count (suc number) answers

-- the tally with a record more: whether its UPDATE was applied, and what its calls were given
unfoldable pub tally_more : Tally → (applied : Bool) (answers : List ℕ) → Tally
tally_more earlier applied answers =
    record {
      seen = earlier.seen + 1;
      applied = earlier.applied + cond applied 1 0;
      accepted = earlier.accepted + accepted_of answers;
      refused = map (λ number. get_or earlier.refused number 0 + refused_under number answers) numbers;
    }

-- 23 words: seen, applied, accepted, and those refused under each number from 0 to 19
unfoldable pub tally_of : (words : List ℕ) → Tally
tally_of words =
    record {
      seen = get_or words 0 0;
      applied = get_or words 1 0;
      accepted = get_or words 2 0;
      refused = map (λ number. get_or words (3 + number) 0) numbers;
    }

unfoldable pub tally_words : Tally → List ℕ
tally_words tally =
    tally.seen ∷ tally.applied ∷ tally.accepted ∷ map (λ number. get_or tally.refused number 0) numbers

-- a figure is above 4,000,000,000
unfoldable pub tally_high : Tally → Bool
tally_high tally = any (ltb 4000000000) (tally_words tally)

-- ---- The records

-- A record that is too short, or whose UPDATE is not well-formed, ends the replay with 12. Every other is seen, those of other
-- kinds too; and an UPDATE that is not refused is applied.
unfoldable pub replaying : (party : ℕ) (hops : List ℕ) → Reading Tally
replaying party hops =
    record {
      party = party;
      kind = day_kind;
      ends_with = λ bytes. cond (record_bad bytes) 12 0;
      calls = λ bytes. record_calls party bytes hops;
      counts_more = λ earlier bytes answers. tally_more earlier (is_applied bytes hops) answers;
      counts_over = λ tally. tally_more tally false [];
      counts_of = tally_of;
      counts_words = tally_words;
      counts_high = tally_high;
    }

-- a chunk of a day
unfoldable pub replay_chunk : Settings → Memory → (party : ℕ) (hops tally words room chunk : List ℕ) → Chunked
replay_chunk t m party hops tally words room chunk = take_chunk t (replaying party hops) m tally words room chunk
