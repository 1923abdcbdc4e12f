-- The place that the search ends in answers, or the default does.
use native.Mathlib.Omega.{arith}
use Rattle.rules.proofs.Vectors.{ones_set_bits}
use Rattle.lookup_answers.proofs.Lookups.{mark_lent, mark_owned, route_answers, default_answers}
use Rattle.lookups.proofs.answer_address.Goals as goal

pub mark_at-requires : goal.mark_at-requires
mark_at-requires g c = mark_lent (record { range = c.args.stored.now.settings.now.range; sized = c.args.stored.now.sized; found = c.search_buckets.ensures }) c.in-At.is

pub answer_route-requires : goal.answer_route-requires
answer_route-requires g c =
    mark_owned (record { range = c.args.stored.now.settings.now.range; sized = c.args.stored.now.sized; found = c.search_buckets.ensures }) c.in-At.is c.mark_at.ensures

pub returns-in-At : goal.returns-in-At
returns-in-At g c = route_answers (record { range = c.args.stored.now.settings.now.range; sized = c.args.stored.now.sized; found = c.search_buckets.ensures }) c.in-At.is c.mark_at.ensures c.answer_route.ensures

pub returns-in-Absent : goal.returns-in-Absent
returns-in-Absent g c =
    default_answers (record { range = c.args.stored.now.settings.now.range; sized = c.args.stored.now.sized; found = c.search_buckets.ensures }) c.in-Absent.is c.default_mark.ensures (ones_set_bits c.args.claimed (omega arith)) c.answer_default.ensures
