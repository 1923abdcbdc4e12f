-- Where a chunk is cut does not matter to a stream, and to one that has ended no chunk does: the fold over the bytes.
use Prim.Native.Nat.{ℕ}
use mathlib.Core.Path.{◌≡◌, refl}
use mathlib.Core.List.{List, [], ◌∷◌, ◌++◌}
use Rattle.rules.specs.Tools.{fed}
use Rattle.rules.proofs.Cuts.{fed_append}
use Rattle.stream_format.specs.declared.Kind.{Kind}
use Rattle.stream_format.specs.declared.Stage.TheVariants.{Ended}
use Rattle.stream_format.specs.Streams.{next_byte, Doing, Stream, completed, byte_taken, chunk_taken}

module _ {X : Type 0} (kind : Kind) (doing : Doing X) where
  -- A chunk that is two parts does what the first one does, and then the other.
  pub chunk_append : (s : Stream X) (chunk more : List ℕ)
      → chunk_taken kind doing s (chunk ++ more) ≡ chunk_taken kind doing (chunk_taken kind doing s chunk) more
  unfolding chunk_taken
  chunk_append = fed_append (byte_taken kind doing)

  byte_stays : (s : Stream X) {number : ℕ} → s.stage ≡ Ended number → (b : ℕ) → byte_taken kind doing s b ≡ s
  unfolding byte_taken next_byte completed
  byte_stays s over b = rw over

  -- A stream that has ended stays as it is.
  pub ended_stays : (s : Stream X) {number : ℕ} → s.stage ≡ Ended number → (chunk : List ℕ) → chunk_taken kind doing s chunk ≡ s
  unfolding chunk_taken fed
  ended_stays s over [] = refl
  ended_stays s over (b ∷ chunk) = rw (byte_stays s over b) (ended_stays s over chunk)
