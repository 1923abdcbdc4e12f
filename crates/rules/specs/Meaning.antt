-- What the slot search answers, and what each of its cases means to an update past its first checks: the number that is
-- given back and the memory as it is left. To a lookup it means `place_answer`.
use Rattle.std.specs.Prelude.{ℕ, ◌+◌, ◌-◌, not, List, Option, Some, None}
use Rattle.std.proofs.Math.Option.{some, none}
use Rattle.std.proofs.Math.Option as math
use Rattle.rules.specs.declared.Settings.{Settings}
use Rattle.rules.specs.declared.Place.{Place}
use Rattle.rules.specs.declared.Place.TheVariants.{At, Absent}
use Rattle.rules.specs.Table.{Memory, lent, Outcome, left, slot_number, counter_places, mark_of, default_mark, own, held, vacant, refuse, passes_15, runs_short, unless_refused, step_each, with_slot, with_default, found_or}

-- free slot s of p's bucket at length L, by its number; where there is none the bucket is full
abbrev pub vacancy_of : Settings → (p L : ℕ) → math.Option ℕ → Option ℕ
vacancy_of t p L (some s) = Some (slot_number t p L s)
vacancy_of t p L none = None

-- what the search of p's own bucket at length L answers: the lowest slot that holds p for the party, or else the lowest free one
unfoldable pub bucket_place : Settings → (slots : List ℕ) (party p L : ℕ) → Place
bucket_place t slots party p L =
    found_or t p L 1 (held t slots party p L) (Absent (vacancy_of t p L (vacant t slots p L)))

-- what it means to an add: a place gets the new mark, and the counters stay; a free slot gets prefix and mark, and the
-- counters go up, or 9 is given back; a full bucket gives 8
unfoldable pub place_added : Settings → Memory → (party p L hop : ℕ) → Place → Outcome
place_added t m party p L hop (At M probes n) = left 0 m.counters (with_slot m.slots n p (mark_of party hop))
place_added t m party p L hop (Absent (Some n)) =
    unless_refused (refuse (passes_15 t m.counters p L) 9 0)
    (lent (step_each (λ n. n + 1) m.counters (counter_places t p L)) (with_slot m.slots n p (mark_of party hop))) m
place_added t m party p L hop (Absent None) = left 8 m.counters m.slots

-- to a withdrawal: a place gets two zeros, and the counters go down, or 10 is given back; absent gives 7
unfoldable pub place_withdrawn : Settings → Memory → (p L : ℕ) → Place → Outcome
place_withdrawn t m p L (At M probes n) =
    unless_refused (refuse (runs_short t m.counters p L) 10 0)
    (lent (step_each (λ n. n - 1) m.counters (counter_places t p L)) (with_slot m.slots n 0 0)) m
place_withdrawn t m p L (Absent vacancy) = left 7 m.counters m.slots

-- to a change: a place gets the new mark; absent gives 7
unfoldable pub place_changed : Memory → (party p hop : ℕ) → Place → Outcome
place_changed m party p hop (At M probes n) = left 0 m.counters (with_slot m.slots n p (mark_of party hop))
place_changed m party p hop (Absent vacancy) = left 7 m.counters m.slots

-- a withdrawal or change at length 0: the word of the party's default gets another mark; 7 where it holds none of the party's
unfoldable pub default_changed : Settings → Memory → (party mark : ℕ) → Outcome
default_changed t m party mark =
    unless_refused (refuse (not (own party (default_mark t m.slots party))) 7 0) (with_default t m party mark) m
