-- Reading and the hop come first, each with its number, and then the walk: laws of proofs/Whole.antt.
use mathlib.Core.Path.{sym}
use native.Mathlib.Omega.{arith}
use Rattle.message_calls.proofs.Whole.{faulty, hopless, parts_lie, both_done}
use Rattle.message_calls.proofs.apply_update.Goals as goal

pub returns-in_err-read-clause-done : goal.returns-in_err-read-clause-done
returns-in_err-read-clause-done c = grind (arith, faulty)

pub returns-in_err-hop-clause-done : goal.returns-in_err-hop-clause-done
returns-in_err-hop-clause-done c = grind (arith, hopless)

pub apply_parts-requires : goal.apply_parts-requires
apply_parts-requires c = parts_lie _ (sym c.in_ok-read.ensures)

pub returns-clause-done : goal.returns-clause-done
returns-clause-done c = both_done _ _ _ _ _ _ (sym c.in_ok-read.ensures) c.hop_due.ensures c.in_ok-hop.ensures.value c.apply_parts.ensures.done
