-- The promises' premises are met by worked histories, one under settings T and the other under settings of which each is
-- another than T's: what the calls are given is computed, and handed to the promise.
use Prim.Native.Nat.{ℕ}
use mathlib.Core.Path.{◌≡◌, refl, ap, ◌∙◌}
use mathlib.Core.Bool.{true}
use mathlib.Core.List.Memᴰ
use mathlib.Core.List.{List, [], ◌∷◌}
use native.Mathlib.Omega.{arith}
use lib.Dec.{lit<, lit≤}
use lib.ListN.{length, replicate}
use Rattle.rules.specs.declared.Settings.{Settings}
use Rattle.rules.specs.Table.{Memory}
use Rattle.rules.specs.Calls.{Call, Clear, Add, word_sized, all_word_sized, act, run}
use Rattle.rules.proofs.Worked.{ip, T}
use Rattle.difference_rules.specs.Comparing.{compared, with_count, between, difference}
use Rattle.difference_rules.proofs.Worked.{Y}
use Rattle.promises.specs.History.{Route, route, stored_by, History}
use Rattle.promises.specs.Demands.{Reordered, Swapped, adds}
use Rattle.promises.proofs.Showing.{sevens, showing}
use Rattle.promises.proofs.Histories.{made, history_of}
use Rattle.difference_promises.specs.Differing.{Appears}
use Rattle.difference_promises.specs.Paper.{four}
use Rattle.difference_promises.proofs.Refused.{count_given}
use Rattle.difference_promises.proofs.Paper.{absent, same_own_within}
use Rattle.difference_promises.proofs.Promises.{only_first, only_second, other_hop, same_routes_given, routes_counted, differences_of_papers, accepted_exactly, difference_short, above_given, exchanged_given, same_differences_after, same_anew}

-- lent memory of the sizes of the other settings, Y, that held sevens
abbrev more_sevens : Memory
more_sevens = record { counters = replicate 1024 7; slots = replicate 770 7 }

-- ---- The histories

-- party 1 has a default, 10/8 and 10.1/16
old : List Call
old = Add 1 0 0 4 ∷ Add 1 (ip 10 0 0 0) 8 7 ∷ Add 1 (ip 10 1 0 0) 16 9 ∷ Add 0 (ip 10 1 0 0) 16 3 ∷ []

-- here it has 10/8 alike, 10.1/16 with another hop, and 10.1.2.3/32
new : List Call
new = Add 1 (ip 10 0 0 0) 8 7 ∷ Add 1 (ip 10 1 0 0) 16 2 ∷ Add 1 (ip 10 1 2 3) 32 1 ∷ []

-- and here what it had, with a route of party 0 besides
kept_up : List Call
kept_up = Add 1 0 0 4 ∷ Add 0 (ip 11 0 0 0) 8 1 ∷ Add 1 (ip 10 0 0 0) 8 7 ∷ Add 1 (ip 10 1 0 0) 16 9 ∷ []

-- two routes, and their calls
pair : List Call
pair = Add 0 (ip 10 0 0 0) 8 7 ∷ Add 1 (ip 10 1 0 0) 16 9 ∷ []

order : List Route
order = route 0 (ip 10 0 0 0) 8 7 ∷ route 1 (ip 10 1 0 0) 16 9 ∷ []

zeros : List ℕ
zeros = 0 ∷ 0 ∷ 0 ∷ 0 ∷ []

-- the memory after some calls, under either settings
abbrev after : Settings → (before : Memory) → List Call → Memory
after t before calls = (run t (act t Clear before).memory calls).last

abbrev by_T : List Call → Memory
by_T = after T sevens

abbrev by_Y : List Call → Memory
by_Y = after Y more_sevens

lived : (t : Settings) (before : Memory) {calls : List Call} {answers : List ℕ} → (act t Clear before).refusal ≡ 0 → all_word_sized calls ≡ true
    → (run t (act t Clear before).memory calls).answers ≡ answers → History t calls answers (after t before calls)
lived t before {calls} cleared words given = history_of before cleared (record { words = words; ran = ap (λ answers. record { answers = answers; last = after t before calls }) given })

old_lived : History T old zeros (by_T old)
unfolding old zeros showing
old_lived = lived T sevens refl refl refl

new_lived : History Y new (0 ∷ 0 ∷ 0 ∷ []) (by_Y new)
unfolding new showing
new_lived = lived Y more_sevens refl refl refl

kept_lived : History Y kept_up zeros (by_Y kept_up)
unfolding kept_up zeros showing
kept_lived = lived Y more_sevens refl refl refl

cleared_lived : History Y [] [] (by_Y [])
unfolding showing
cleared_lived = lived Y more_sevens refl refl refl

pair_lived : History T pair (0 ∷ 0 ∷ []) (by_T pair)
unfolding pair showing
pair_lived = lived T sevens refl refl refl

order_lived : History T (adds order) (0 ∷ 0 ∷ []) (by_T (adds order))
unfolding order adds showing
order_lived = lived T sevens refl refl refl

-- ---- The premises

-- the default of party 1 is only in the old table,
default_met : Appears (four 0 0 5 0) (between T (by_T old).slots Y (by_Y new).slots 1)
unfolding old new zeros showing
default_met = only_first old_lived new_lived 1 (lit≤ tt) 0 0 4 (Memᴰ.tail (Memᴰ.tail (Memᴰ.tail (Memᴰ.head refl)))) (absent 1 0 0 (stored_by new (0 ∷ 0 ∷ 0 ∷ [])) refl)

-- 10.1/16 has another hop in the new one,
hop_met : Appears (four 16 (ip 10 1 0 0) 10 3) (between T (by_T old).slots Y (by_Y new).slots 1)
unfolding old new zeros showing
hop_met = other_hop old_lived new_lived 1 (lit≤ tt) (ip 10 1 0 0) 16 9 2 (Memᴰ.tail (Memᴰ.head refl)) (Memᴰ.tail (Memᴰ.head refl)) (omega arith)

-- and 10.1.2.3/32 is only there.
host_met : Appears (four 32 (ip 10 1 2 3) 0 2) (between T (by_T old).slots Y (by_Y new).slots 1)
unfolding old new zeros showing
host_met = only_second old_lived new_lived 1 (lit≤ tt) (ip 10 1 2 3) 32 1 (absent 1 (ip 10 1 2 3) 32 (stored_by old zeros) refl) (Memᴰ.head refl)

-- Two tables with the same routes of party 1 compare as alike, whatever the settings and the other party's routes.
same_met : (list : List ℕ) → difference T (by_T old) Y (by_Y kept_up) 1 list ≡ compared (with_count 0 0) list
unfolding old kept_up zeros showing
same_met list = same_routes_given old_lived kept_lived 1 (lit≤ tt) list (same_own_within 1 (stored_by old zeros) (stored_by kept_up zeros) refl) (same_own_within 1 (stored_by kept_up zeros) (stored_by old zeros) refl)

-- Against a table just cleared, the three routes of party 1 are listed,
three_met : length (between T (by_T old).slots Y (by_Y []).slots 1) ≡ 3
unfolding old zeros showing
three_met = routes_counted old_lived cleared_lived 1 (lit≤ tt) (λ p L. absent 1 p L [] refl)

-- which fit a list of twelve words,
room_met : (difference T (by_T old) Y (by_Y []) 1 (replicate 12 7)).answer.refusal ≡ 0
room_met = (accepted_exactly old_lived cleared_lived 1 (lit≤ tt) (replicate 12 7)).1 (omega (arith, three_met, ap length (differences_of_papers old_lived cleared_lived 1 (lit≤ tt))))

-- the other way round as well,
back_met : (difference Y (by_Y []) T (by_T old) 1 (replicate 12 7)).answer.count ≡ 3
back_met =
    ap (λ c. c.answer.count) (exchanged_given T (by_T old) Y (by_Y []) 1 (replicate 12 7) room_met)
    ∙ count_given T (by_T old) Y (by_Y []) 1 (replicate 12 7) room_met ∙ three_met

-- but not one of eleven.
short_met : difference T (by_T old) Y (by_Y []) 1 (replicate 11 7) ≡ compared (with_count 18 0) (replicate 11 7)
short_met = difference_short old_lived cleared_lived 1 (lit≤ tt) (replicate 11 7) (omega (arith, three_met, ap length (differences_of_papers old_lived cleared_lived 1 (lit≤ tt))))

-- There is no party 2.
above_met : difference T (by_T old) Y (by_Y new) 2 [] ≡ compared (with_count 15 0) []
above_met = above_given old_lived new_lived 2 [] (lit< tt)

-- A table filled anew with its routes in another order compares with any other as the first one does.
reordered : Reordered (stored_by pair (0 ∷ 0 ∷ [])) order
unfolding pair order showing
reordered = Swapped (route 1 (ip 10 1 0 0) 16 9) (route 0 (ip 10 0 0 0) 8 7) []

anew_met : (list : List ℕ) → difference T (run T (by_T (adds order)) new).last Y (by_Y new) 1 list ≡ difference T (run T (by_T pair) new).last Y (by_Y new) 1 list
unfolding all_word_sized word_sized new
anew_met list = same_differences_after pair_lived reordered order_lived (made T (by_T pair) new refl) (made T (by_T (adds order)) new refl) Y (by_Y new) 1 list

-- The two differ in nothing.
same_anew_met : (list : List ℕ) → difference T (run T (by_T (adds order)) new).last T (run T (by_T pair) new).last 1 list ≡ compared (with_count 0 0) list
unfolding all_word_sized word_sized new
same_anew_met list = same_anew pair_lived reordered order_lived (made T (by_T pair) new refl) (made T (by_T (adds order)) new refl) 1 list (lit≤ tt)
