-- What is passed on by calls with room for their answers is the text of the stream: none of them is refused.
use Prim.Native.Nat.{ℕ}
use mathlib.Core.Path.{◌≡◌, ◌∙◌}
use mathlib.Core.List.{List}
use lib.ListN.{length}
use Rattle.rules.specs.declared.Settings.{Settings}
use Rattle.rules.specs.Table.{Memory}
use Rattle.text_lines.specs.Lines.{going, stream_text, feed_chunk, finish_input}
use Rattle.text_lines.proofs.Cuts.{room_kept}
use Rattle.text_lines.proofs.Owed.{Keeps, unfinished, keeps_chunk}
use Rattle.text_lines.proofs.Determined.{answers_in_front}
use Rattle.text_promises.specs.Streams.{Streamed, Ended, Chunk}

module _ {t : Settings} where
  pub all_streamed : {begun : List ℕ} {m : Memory} {line : List ℕ} {kept : ℕ} {chunks : List (List ℕ)} {text : List ℕ} → Keeps begun (going m line kept) → Streamed t m line kept chunks text → text ≡ stream_text t (going m line kept) chunks
  unfolding stream_text finish_input feed_chunk
  all_streamed k (Ended {out} room lies) = answers_in_front lies ∙ rw (room_kept k 1 out room)
  all_streamed {begun = begun} k (Chunk {memory'} {line'} {chunk} {out} {r} enough lies later) =
      let fed = rw (room_kept k (length chunk) out enough) at lies in
      let k' = keeps_chunk t chunk k in
      let next : Keeps (unfinished chunk begun) (going memory' line' r.count) =
      rw (fed.line_is, fed.count_is) (record { room = k'.room; kept_in = k'.kept_in; first = k'.first }) in
      rw (← fed.memory_is, ← fed.line_is, ← fed.count_is, answers_in_front fed, all_streamed {begun = unfinished chunk begun} next later)
