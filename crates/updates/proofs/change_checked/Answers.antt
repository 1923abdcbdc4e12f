-- At length 0 the party's default is changed; else the search of the bucket answers, and each of its answers means what it
-- means to the rules' change.
use Rattle.std.proofs.Common.{◌∙◌, sym, ap}
use Rattle.rules.specs.Table.{left, with_slot}
use Rattle.rules.specs.Meaning.{place_changed, default_changed}
use Rattle.rules.proofs.Meaning.{change_at_0, change_by_place, default_alone}
use Rattle.rules.proofs.Refusals.{fitted_ready, fitted_slots}
use Rattle.buckets.proofs.Ends.{held_lent}
use Rattle.settings.proofs.Tables.{lent_fitted}
use Rattle.updates.proofs.Checks.{hop_fitted}
use Rattle.updates.proofs.change_checked.Goals as goal

pub returns-then-length-eq0 : goal.returns-then-length-eq0
returns-then-length-eq0 c =
    change_at_0 (hop_fitted (lent_fitted c.args.settings.now c.requires.counters c.requires.slots) c.args.party c.requires.checked c.ranges.hop.fits) c.if-length-eq0.true
    ∙ ap (default_changed _ _ _) (sym c.mark_of-mark.ensures)
    ∙ default_alone _ _ _ _ _ c.change_default.ensures

pub returns-in_default : goal.returns-in_default
unfolding place_changed
returns-in_default c =
    change_by_place (hop_fitted (lent_fitted c.args.settings.now c.requires.counters c.requires.slots) c.args.party c.requires.checked c.ranges.hop.fits) c.if-length-eq0.false (sym c.in_default.is ∙ c.search_bucket-place.ensures)

pub put_slot-requires : goal.put_slot-requires
put_slot-requires c =
    let f = (hop_fitted (lent_fitted c.args.settings.now c.requires.counters c.requires.slots) c.args.party c.requires.checked c.ranges.hop.fits).route in
    held_lent _ _ (fitted_slots f) _ _ _ (fitted_ready f c.if-length-eq0.false) (sym c.search_bucket-place.ensures ∙ c.in-At.is)

pub returns : goal.returns
unfolding place_changed
returns c =
    change_by_place (hop_fitted (lent_fitted c.args.settings.now c.requires.counters c.requires.slots) c.args.party c.requires.checked c.ranges.hop.fits) c.if-length-eq0.false (sym c.in-At.is ∙ c.search_bucket-place.ensures)
    ∙ ap (left 0 _) (sym (c.put_slot.ensures ∙ ap (with_slot _ _ _) c.mark_of-mark.ensures))
