-- What whoever answers an input by the calls of crates/text_lines sees: chunk after chunk is fed, then the input ends, and after each call
-- the bytes that it says are written are passed on. crates/text_program does so.
use Rattle.std.specs.Prelude.{ℕ, ◌*◌, ◌≤◌, List, [], ◌∷◌, ◌++◌, length, take}
use Rattle.rules.specs.declared.Settings.{Settings}
use Rattle.rules.specs.Table.{Memory}
use Rattle.text_lines.specs.Lines.{going, feed_chunk, finish_input, Feeding, Lies}

-- what each contract of crates/text_lines ensures, where the lent bytes have room for 33 to each byte of the chunk; a stroke marks what
-- the call leaves
pub data Streamed (t : Settings) : (memory : Memory) (line : List ℕ) (kept : ℕ) (chunks : List (List ℕ)) (text : List ℕ) → Type 0 where
  Ended : {memory memory' : Memory} {line line' out out' : List ℕ} {kept : ℕ} {r : Feeding} → 33 ≤ length out
      → Lies (finish_input t (going memory line kept) out) memory' line' out out' r → Streamed t memory line kept [] (take r.written out')
  Chunk : {memory memory' : Memory} {line line' chunk out out' : List ℕ} {kept : ℕ} {r : Feeding} {chunks : List (List ℕ)} {text : List ℕ} → length chunk * 33 ≤ length out
      → Lies (feed_chunk t (going memory line kept) chunk out) memory' line' out out' r → Streamed t memory' line' r.count chunks text
      → Streamed t memory line kept (chunk ∷ chunks) (take r.written out' ++ text)
