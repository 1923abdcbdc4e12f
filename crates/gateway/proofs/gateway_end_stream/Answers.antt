-- The number and the words are those of the end.
use Rattle.c_numbers.proofs.Streams.{end_fits}
use Rattle.gateway.proofs.Crossings.{end_fits_above}
use Rattle.gateway.proofs.gateway_end_stream.Goals as goal

pub refusal_part-requires : goal.refusal_part-requires
refusal_part-requires c = end_fits_above c.end_stream.ensures (end_fits _)
