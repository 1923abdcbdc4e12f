-- The number is that of the chunk, and so is what it leaves.
use mathlib.Core.Path.{◌∙◌}
use Rattle.c_calls.proofs.Whole.{replay_alike}
use Rattle.c_numbers.proofs.Streams.{replay_fits}
use Rattle.gateway.proofs.Crossings.{chunk_fits_above, chunk_crossed}
use Rattle.gateway.proofs.gateway_replay.Goals as goal

pub refusal_part-requires : goal.refusal_part-requires
refusal_part-requires c = chunk_fits_above c.replay_chunk-number.ensures (replay_fits _ _ _ _ _ _ _ _)

pub returns : goal.returns
returns c =
    let call = c.before in
    chunk_crossed
    (replay_alike _ call.settings_of-t.ensures _ _ _ _ _ _ _ ∙ call.replay_chunk-number.ensures)
    c.refusal_part.ensures
