-- While every counter could take its hits, the answer hangs on the places that are left.
use Rattle.std.proofs.Common.{◌≡◌, ℕ, ◌+◌, ◌<◌, List, length, get_or, Bool, ◌||◌, drop, sym, refl, ap, ◌∙◌, arith}
use Rattle.std.proofs.lemmas.List.{drop_more, drop_all}
use Rattle.rules.specs.Tools.{any, count}
use Rattle.rules.specs.Table.{refuse}
use Rattle.filters.specs.declared.Step.{Step}
use Rattle.filters.specs.Visits.{cannot, cannot_at, some_cannot, step_number}
use Rattle.rules.proofs.Members.{count_few}
use Rattle.filters.proofs.Step.refuse_step.Goals as goal

pub loop-place-init : goal.loop-place-init
unfolding some_cannot
loop-place-init c = refl

pub cannot_take-requires : goal.cannot_take-requires
cannot_take-requires c = omega (arith, c.hits_at-hits.ensures, count_few)

-- the answer is that of this place, or else of those that are left
hangs : (step : Step) (counters places : List ℕ) (i hits : ℕ) (cannot_it whole : Bool) → i < length places
    → whole ≡ any (cannot_at step counters places) (drop i places)
    → hits ≡ count (get_or places i 0) places
    → cannot_it ≡ cannot step (get_or counters (get_or places i 0) 0) hits
    → whole ≡ cannot_it || any (cannot_at step counters places) (drop (i + 1) places)
unfolding any
hangs step counters places i hits cannot_it whole less so_far found it =
    so_far ∙ ap (any (cannot_at step counters places)) (drop_more places i 0 less) ∙ rw (it, found)

pub returns-then-cannot_take : goal.returns-then-cannot_take
unfolding refuse
returns-then-cannot_take c =
    rw (hangs _ _ _ _ _ _ _ c.loop-place-test.true c.loop-place.invariant c.hits_at-hits.ensures c.cannot_take.ensures, c.if-cannot_take.true) c.refusal.ensures

pub loop-place-preserved : goal.loop-place-preserved
loop-place-preserved c =
    hangs _ _ _ _ _ _ _ c.loop-place-test.true c.loop-place.invariant c.hits_at-hits.ensures c.cannot_take.ensures ∙ rw c.if-cannot_take.false

pub returns : goal.returns
unfolding any refuse
returns c =
    let a = c.args in
    ap (λ (b : Bool). refuse b (step_number a.self) 0) (sym (c.loop-place.invariant ∙ ap (any (cannot_at a.self a.counters.now a.places.now)) (drop_all _ _ c.loop-place-test.false)))
