-- An odd prefix gets 11, by `add_odd`; any other is added.
use Rattle.std.proofs.Common.{◌∙◌, sym}
use Rattle.rules.proofs.Updates.{add_odd}
use Rattle.settings.proofs.Tables.{table_fitted}
use Rattle.updates.proofs.Checks.{route_fitted}
use Rattle.updates.proofs.add_announced.Goals as goal

pub returns-then-is_odd-clause-done : goal.returns-then-is_odd-clause-done
returns-then-is_odd-clause-done c =
    add_odd (route_fitted (table_fitted c.args.table.now) c.args.party c.requires) (sym c.is_odd.ensures ∙ c.if-is_odd.true) _
