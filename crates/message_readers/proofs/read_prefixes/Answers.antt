-- What is left decides: `Going`.
use mathlib.Core.Path.{sym, ap, ◌∙◌}
use Rattle.std.specs.Prelude.{Ok}
use Rattle.message_readers.proofs.Parts.{goes_on}
use Rattle.message_readers.proofs.read_prefixes.Goals as goal

pub loop-read-preserved : goal.loop-read-preserved
loop-read-preserved c = goes_on _ _ _ c.loop-read.invariant (sym c.in_ok-read.ensures ∙ ap Ok c.in-Some.is)
