-- However a dump is cut into chunks, for one party throughout, table, counts and final number are the same:
-- crates/stream_promises has it of any stream.
use Prim.Native.Nat.{ℕ}
use mathlib.Core.Path.{◌≡◌}
use mathlib.Core.List.{List, ◌∷◌}
use Rattle.rules.specs.declared.Settings.{Settings}
use Rattle.rules.specs.Tools.{input_of}
use Rattle.stream_format.specs.Chunks.{Chunked}
use Rattle.import_format.specs.Importing.{importing}
use Rattle.stream_promises.specs.Noted.{SameStream}
use Rattle.stream_promises.proofs.Cuts as streams
use Rattle.import_promises.specs.Dumps.{Imports}
use Rattle.import_promises.proofs.Laws.{lawful}

module _ (t : Settings) (party : ℕ) (hops : List ℕ) {start last last' : Chunked} where
  -- However the input is cut, with one party throughout, table, counts and room are left the same, and the end gives the same
  -- number.
  pub any_cut : {chunks chunks' : List (List ℕ)} → input_of chunks ≡ input_of chunks' → Imports t party hops start chunks last → Imports t party hops start chunks' last'
      → SameStream (importing party hops) last last'
  any_cut = streams.any_cut (lawful party hops) t

  -- With a chunk at least on either side all that is given back and left is the same, the words too.
  pub any_cut_whole : {chunk chunk' : List ℕ} {chunks chunks' : List (List ℕ)} → input_of (chunk ∷ chunks) ≡ input_of (chunk' ∷ chunks')
      → Imports t party hops start (chunk ∷ chunks) last → Imports t party hops start (chunk' ∷ chunks') last' → last ≡ last'
  any_cut_whole = streams.any_cut_whole (lawful party hops) t
