-- How a stream in lent memory goes on: it begins as it was handed over, and each byte ends a line, is kept, or is left out.
use Prim.Native.Nat.{ℕ, ◌+◌, ◌*◌, ◌≤◌, ◌<◌}
use mathlib.Core.Path.{◌≡◌, refl}
use mathlib.Core.Bool.{Bool, false}
use mathlib.Core.List.{List}
use native.Mathlib.Omega.{arith}
use native.Mathlib.Numerals.{add-one}
use lib.ListN.{length, get_or, take, set}
use lib.Seq.{take-suc}
use borrow.Author.Tests.{eq-eqb, ne_eqb, lt-ltb, le-ltb}
use Rattle.rules.specs.Tools.{fed}
use Rattle.rules.specs.declared.Settings.{Settings}
use Rattle.rules.specs.Table.{Memory, lent}
use Rattle.rules.proofs.Cuts.{fed_append}
use Rattle.text_answers.proofs.Puts.{put_both}
use Rattle.text_lines.specs.Lines.{line_reply, Stream, going, keep, end_line, take_byte, feed, not_refused, Replied, Lies}

-- one byte more of a chunk
pub feed_more : (t : Settings) (s : Stream) (chunk : List ℕ) (i : ℕ) → i < length chunk → feed t s (take (i + 1) chunk) ≡ take_byte t (feed t s (take i chunk)) (get_or chunk i 0)
unfolding feed fed
feed_more t s chunk i h = rw (add-one, take-suc chunk i 0 h, fed_append (take_byte t))

-- a call that takes nothing, refused or not, leaves the stream as it was handed over
pub lies_going : (refused : Bool) (m : Memory) (line out : List ℕ) (kept : ℕ) → Lies (record { refused = refused; leaves = going m line kept }) m line out out (record { refused = refused; count = kept; written = 0 })
lies_going refused m line out kept = record {
  refused_is = refl;
  memory_is = refl;
  line_is = refl;
  count_is = refl;
  put = record { holds = refl; end = refl };
  inside = omega arith;
}

module _ (t : Settings) {s : Stream} {m : Memory} {line before out : List ℕ} {count written : ℕ} (l : Lies (not_refused s) m line before out (record { refused = false; count = count; written = written })) where
  -- the line ends and is answered
  pub lies_answered : {m' : Memory} {out' : List ℕ} {written' : ℕ} → written + 33 ≤ length before → Replied (line_reply t m (take count line)) m' out written out' written' → Lies (not_refused (end_line t s)) m' line before out' (record { refused = false; count = 0; written = written' })
  unfolding end_line
  lies_answered room a = record {
    refused_is = refl;
    memory_is = rw (← l.memory_is, ← l.line_is, ← l.count_is) a.memory_is;
    line_is = l.line_is;
    count_is = refl;
    put = rw (← l.memory_is, ← l.line_is, ← l.count_is) (put_both l.put a.put.put);
    inside = omega (arith, a.put.put.end, a.put.short);
  }

  -- the byte ends the line
  pub lies_ended : {m' : Memory} {out' : List ℕ} {written' b : ℕ} → b ≡ 10 → written + 33 ≤ length before → Replied (line_reply t m (take count line)) m' out written out' written' → Lies (not_refused (take_byte t s b)) m' line before out' (record { refused = false; count = 0; written = written' })
  unfolding take_byte
  lies_ended e room a = rw (eq-eqb _ _ e) (lies_answered room a)

  -- the byte is the line's next
  pub lies_kept : {b : ℕ} → (b ≡ 10 → ⊥) → count < 65 → Lies (not_refused (take_byte t s b)) m (set line count b) before out (record { refused = false; count = count + 1; written = written })
  unfolding take_byte keep
  lies_kept n h = rw (ne_eqb _ _ n, ← l.count_is, lt-ltb _ _ h) (record {
    refused_is = refl;
    memory_is = l.memory_is;
    line_is = rw l.line_is;
    count_is = refl;
    put = l.put;
    inside = l.inside;
  })

  -- the line is too long already
  pub lies_left_out : {b : ℕ} → (b ≡ 10 → ⊥) → 65 ≤ count → Lies (not_refused (take_byte t s b)) m line before out (record { refused = false; count = count; written = written })
  unfolding take_byte keep
  lies_left_out n h = rw (ne_eqb _ _ n, ← l.count_is, le-ltb _ _ h) (record {
    refused_is = refl;
    memory_is = l.memory_is;
    line_is = l.line_is;
    count_is = refl;
    put = l.put;
    inside = l.inside;
  })

-- a turn of feeding: i bytes of the chunk are taken, each answered by at most 33
pub record Turn (t : Settings) (counters₀ slots₀ line₀ : List ℕ) (kept : ℕ) (chunk out₀ counters slots line out : List ℕ) (count written i : ℕ) : Type 0 where
  pub kept_in : count ≤ 65
  pub short : written ≤ i * 33
  pub lies : Lies (not_refused (feed t (going (lent counters₀ slots₀) line₀ kept) (take i chunk))) (lent counters slots) line out₀ out (record { refused = false; count = count; written = written })
