-- Each promise's premises are met by a small worked history, under settings T and under filters of unequal size: what the
-- calls are given is computed, and handed to the promise.
use Prim.Native.Nat.{ℕ, zero, suc, ◌+◌, ◌^◌, ◌<◌}
use mathlib.Core.Path.{◌≡◌, refl, sym, ap, ◌∙◌}
use mathlib.Core.Bool.{true, false, true≢false}
use mathlib.Core.List.{List, [], ◌∷◌, ◌++◌}
use mathlib.Core.Logic.{◌≢◌}
use native.Mathlib.Omega.{arith}
use lib.Dec.{eqb, lit<, lit≤}
use lib.ListN.{replicate, get_or}
use Rattle.rules.specs.declared.Settings.{Settings}
use Rattle.rules.specs.Table.{Answer, bucket, Memory, refused, lookup, match_vector, lookup_list}
use Rattle.rules.specs.Tools.{all}
use Rattle.rules.specs.Calls.{Call, Clear, Add, Withdraw, Change, word_sized, all_word_sized, act, run}
use Rattle.rules.proofs.Worked.{ip, T}
use Rattle.promises.specs.History.{Route, routes_of, route, stored_by, History}
use Rattle.promises.specs.Demands.{Stored, Finds, Reordered, Swapped, Longest, odd, adds, answer_at}
use Rattle.promises.specs.Parties.{is_call_of, no_clear, made_by, SameRoute}
use Rattle.promises.proofs.Showing.{sevens, showing}
use Rattle.promises.proofs.Paper.{own_stored}
use Rattle.promises.proofs.Matches.{right}
use Rattle.promises.proofs.Histories.{made, history_of}
use Rattle.promises.proofs.Promises.{finds_longest, finds_default, none_exactly, numbers_given, stored_accepted, replaced_found, replaced_others, replaced_other_party, above_refused, odd_given_eleven, freed_again, freed_for_others, all_accepted, same_numbers}
use Rattle.promises.proofs.Lists.{list_accepted}
use Rattle.promises.proofs.Parties.{same_for_party, same_list_for_party}

-- ---- The histories

-- a day of calls of both parties, with the number that each is given
day : List Call
day =
    Add 0 (ip 10 0 0 0) 8 7
    ∷ Add 0 (ip 10 1 0 0) 16 9
    ∷ Add 0 0 0 3
    ∷ Add 1 (ip 10 1 0 0) 16 2
    ∷ Add 1 0 0 4
    ∷ Add 0 (ip 10 1 0 0) 16 1
    ∷ Add 0 (ip 10 0 0 1) 8 1
    ∷ Add 0 (ip 10 0 0 0) 33 1
    ∷ Add 0 (ip 11 0 0 0) 8 65536
    ∷ Add 2 (ip 11 0 0 0) 8 1
    ∷ Withdraw 0 (ip 11 0 0 0) 8
    ∷ Withdraw 1 (ip 10 0 0 0) 8
    ∷ Change 0 (ip 10 0 0 0) 8 8
    ∷ Add 1 (ip 8 0 0 0) 8 5
    ∷ Add 0 (ip 9 0 0 0) 8 6
    ∷ Withdraw 1 (ip 8 0 0 0) 8
    ∷ Add 0 (ip 9 0 0 0) 8 6
    ∷ Add 0 (ip 127 0 0 0) 8 65536
    ∷ []

day_answers : List ℕ
day_answers = 0 ∷ 0 ∷ 0 ∷ 0 ∷ 0 ∷ 0 ∷ 4 ∷ 3 ∷ 5 ∷ 15 ∷ 7 ∷ 7 ∷ 0 ∷ 0 ∷ 8 ∷ 0 ∷ 0 ∷ 11 ∷ []

-- a route of each party
morning : List Call
morning = Add 0 (ip 10 0 0 0) 8 7 ∷ Add 1 (ip 10 1 0 0) 16 9 ∷ []

-- 10/8 of one party and 8/8 of the other, which fill a bucket
pair : List Call
pair = Add 0 (ip 10 0 0 0) 8 7 ∷ Add 1 (ip 8 0 0 0) 8 5 ∷ []

-- what party 1 does on a quiet day, and with party 0 about: its calls are the same, and given the same
quiet : List Call
quiet = Add 1 (ip 10 0 0 0) 8 7 ∷ Withdraw 1 (ip 11 0 0 0) 8 ∷ []

busy : List Call
busy =
    Add 0 (ip 8 0 0 0) 8 5
    ∷ Add 0 (ip 10 1 0 0) 16 1
    ∷ Add 1 (ip 10 0 0 0) 8 7
    ∷ Add 0 (ip 10 0 0 0) 8 3
    ∷ Change 0 (ip 8 0 0 0) 8 6
    ∷ Withdraw 1 (ip 11 0 0 0) 8
    ∷ []

busy_answers : List ℕ
busy_answers = 0 ∷ 0 ∷ 0 ∷ 8 ∷ 0 ∷ 7 ∷ []

-- 10/8 found with hop 7, after so many probes
told : (probes : ℕ) → Answer
told probes = record { refusal = 0; found = true; hop = 7; length = 8; probes = probes }

-- what is computed under settings t, on memory that held anything. Party 1 is told the same route on a quiet day and on a busy
-- one: what it may find otherwise are its probes, the match vector, and 8 for 9/8.
record Worked (t : Settings) (before : Memory) : Type 0 where
  cleared : (act t Clear before).refusal ≡ 0
  day_given : (run t (act t Clear before).memory day).answers ≡ day_answers
  morning_given : (run t (act t Clear before).memory morning).answers ≡ 0 ∷ 0 ∷ []
  pair_given : (run t (act t Clear before).memory pair).answers ≡ 0 ∷ 0 ∷ []
  same_bucket : bucket t (ip 9 0 0 0) ≡ bucket t (ip 8 0 0 0)
  quiet_given : (run t (act t Clear before).memory quiet).answers ≡ 0 ∷ 7 ∷ []
  busy_given : (run t (act t Clear before).memory busy).answers ≡ busy_answers
  quiet_told : lookup t (run t (act t Clear before).memory quiet).last 1 (ip 10 1 2 3) ≡ told 1
  busy_told : lookup t (run t (act t Clear before).memory busy).last 1 (ip 10 1 2 3) ≡ told 2
  quiet_vector : (match_vector t (run t (act t Clear before).memory quiet).last (ip 10 1 2 3)).vector ≡ 2 ^ 7
  busy_vector : (match_vector t (run t (act t Clear before).memory busy).last (ip 10 1 2 3)).vector ≡ 2 ^ 15 + 2 ^ 7
  quiet_room : (act t (Add 1 (ip 9 0 0 0) 8 6) (run t (act t Clear before).memory quiet).last).refusal ≡ 0
  busy_room : (act t (Add 1 (ip 9 0 0 0) 8 6) (run t (act t Clear before).memory busy).last).refusal ≡ 8

at_T : Worked T sevens
unfolding day day_answers morning pair quiet busy busy_answers told match_vector showing
at_T = record {
  cleared = refl;
  day_given = refl;
  morning_given = refl;
  pair_given = refl;
  same_bucket = refl;
  quiet_given = refl;
  busy_given = refl;
  quiet_told = refl;
  busy_told = refl;
  quiet_vector = refl;
  busy_vector = refl;
  quiet_room = refl;
  busy_room = refl;
}

-- T with other filters: D is 5 at length 8, 6 at 16, 7 at 32, and 4 at the rest
abbrev pub U : Settings
U = record { k = 2; d = replicate 7 4 ++ (5 ∷ replicate 7 4) ++ (6 ∷ replicate 15 4) ++ 7 ∷ []; e = 1; s = 2; a = 1; b = 2; c = 1 }

at_U : Worked U (record { counters = replicate 688 7; slots = replicate 258 7 })
unfolding day day_answers morning pair quiet busy busy_answers told match_vector showing
at_U = record {
  cleared = refl;
  day_given = refl;
  morning_given = refl;
  pair_given = refl;
  same_bucket = refl;
  quiet_given = refl;
  busy_given = refl;
  quiet_told = refl;
  busy_told = refl;
  quiet_vector = refl;
  busy_vector = refl;
  quiet_room = refl;
  busy_room = refl;
}

-- ---- The premises

module _ {t : Settings} {before : Memory} (worked : Worked t before) where
  -- the memory after some calls
  abbrev after : List Call → Memory
  after calls = (run t (act t Clear before).memory calls).last

  lived : {calls : List Call} {answers : List ℕ} → all_word_sized calls ≡ true → (run t (act t Clear before).memory calls).answers ≡ answers
      → History t calls answers (after calls)
  lived {calls} words given = history_of before worked.cleared (record { words = words; ran = ap (λ answers. record { answers = answers; last = after calls }) given })

  day_lived : History t day day_answers (after day)
  unfolding all_word_sized word_sized day
  day_lived = lived refl worked.day_given

  morning_lived : History t morning (0 ∷ 0 ∷ []) (after morning)
  unfolding all_word_sized word_sized morning
  morning_lived = lived refl worked.morning_given

  pair_lived : History t pair (0 ∷ 0 ∷ []) (after pair)
  unfolding all_word_sized word_sized pair
  pair_lived = lived refl worked.pair_given

  quiet_lived : History t quiet (0 ∷ 7 ∷ []) (after quiet)
  unfolding all_word_sized word_sized quiet
  quiet_lived = lived refl worked.quiet_given

  busy_lived : History t busy busy_answers (after busy)
  unfolding all_word_sized word_sized busy
  busy_lived = lived refl worked.busy_given

  -- three routes of party 0 match 10.1.2.3, and one of them is the longest; it was added twice, and has the last hop
  longest_met : Finds (lookup t (after day) 0 (ip 10 1 2 3)) (route 0 (ip 10 1 0 0) 16 1)
  unfolding day day_answers showing
  longest_met = finds_longest day_lived 0 (lit≤ tt) (ip 10 1 2 3) (lit< tt) (route 0 (ip 10 1 0 0) 16 1) (right (ip 10 1 2 3) (routes_of 0 (stored_by day day_answers)))

  -- party 1 has its own hop there
  other_longest_met : Finds (lookup t (after day) 1 (ip 10 1 2 3)) (route 1 (ip 10 1 0 0) 16 2)
  unfolding day day_answers showing
  other_longest_met = finds_longest day_lived 1 (lit≤ tt) (ip 10 1 2 3) (lit< tt) (route 1 (ip 10 1 0 0) 16 2) (right (ip 10 1 2 3) (routes_of 1 (stored_by day day_answers)))

  -- only the default of party 1 matches 10.2.2.3: 10/8 is party 0's
  default_best : Longest (ip 10 2 2 3) (routes_of 1 (stored_by day day_answers)) (route 1 0 0 4)
  unfolding day day_answers showing
  default_best = right (ip 10 2 2 3) (routes_of 1 (stored_by day day_answers))

  default_met : Finds (lookup t (after day) 1 (ip 10 2 2 3)) (route 1 0 0 4)
  default_met = finds_default day_lived 1 (lit≤ tt) (ip 10 2 2 3) (lit< tt) (route 1 0 0 4) default_best.stored refl
      (λ q stands matching. omega (arith, default_best.longest q stands matching))

  -- in the morning nothing of party 1's matches it
  none_met : (lookup t (after morning) 1 (ip 10 2 2 3)).found ≡ false
  unfolding morning showing
  none_met = (none_exactly morning_lived 1 (lit≤ tt) (ip 10 2 2 3) (lit< tt)).1 (right (ip 10 2 2 3) (routes_of 1 (stored_by morning (0 ∷ 0 ∷ []))))

  -- and there is no party 2
  above_met : lookup t (after morning) 2 (ip 10 2 2 3) ≡ refused 15
  above_met = above_refused morning_lived 2 (ip 10 2 2 3) (lit< tt)

  -- 10.1/16 can be withdrawn by a party, and added again with another hop
  freed_met : (act t (Add 1 (ip 10 1 0 0) 16 65535) (act t (Withdraw 1 (ip 10 1 0 0) 16) (after day)).memory).refusal ≡ 0
  unfolding day day_answers showing
  freed_met = freed_again day_lived 1 (ip 10 1 0 0) 16 65535 (lit< tt) (lit≤ tt) (numbers_given day_lived (Withdraw 1 (ip 10 1 0 0) 16) refl)

  -- 239.255.255.255/32 is odd, and is given 11
  odd_met : (act t (Add 1 (ip 239 255 255 255) 32 1) (after day)).refusal ≡ 11
  unfolding showing odd
  odd_met = odd_given_eleven day_lived 1 (ip 239 255 255 255) 32 1 (lit≤ tt) (lit< tt) (lit≤ tt) refl refl

  -- with 8/8 withdrawn by party 1 from its full bucket, 9/8 of that bucket, which is party 0's, is not told that it is full
  place_met : (act t (Add 0 (ip 9 0 0 0) 8 6) (act t (Withdraw 1 (ip 8 0 0 0) 8) (after pair)).memory).refusal ≢ 8
  unfolding pair showing
  place_met = freed_for_others pair_lived 1 (ip 8 0 0 0) 8 0 (ip 9 0 0 0) 6 (lit< tt) (lit< tt) worked.same_bucket (numbers_given pair_lived (Withdraw 1 (ip 8 0 0 0) 8) refl)

  -- 8/8 is added again by its party in its full bucket: it is accepted, 8.1.2.3 gets the new hop, 12.0.0.1, which nothing of
  -- the party's matches, is answered as before, and so is party 0
  eight_best : Longest (ip 8 1 2 3) (routes_of 1 (stored_by pair (0 ∷ 0 ∷ []))) (route 1 (ip 8 0 0 0) 8 5)
  unfolding pair showing
  eight_best = right (ip 8 1 2 3) (routes_of 1 (stored_by pair (0 ∷ 0 ∷ [])))

  eight_stored : Stored (route 1 (ip 8 0 0 0) 8 5) (stored_by pair (0 ∷ 0 ∷ []))
  eight_stored = (own_stored 1 (stored_by pair (0 ∷ 0 ∷ [])) eight_best.stored).0

  again_met : (act t (Add 1 (ip 8 0 0 0) 8 6) (after pair)).refusal ≡ 0
  again_met = stored_accepted pair_lived (route 1 (ip 8 0 0 0) 8 5) eight_stored 6 (lit≤ tt)

  again_found_met : Finds (lookup t (act t (Add 1 (ip 8 0 0 0) 8 6) (after pair)).memory 1 (ip 8 1 2 3)) (route 1 (ip 8 0 0 0) 8 6)
  again_found_met = replaced_found pair_lived (route 1 (ip 8 0 0 0) 8 5) eight_stored 6 (lit≤ tt) (ip 8 1 2 3) (lit< tt) eight_best

  others_met : lookup t (act t (Add 1 (ip 8 0 0 0) 8 6) (after pair)).memory 1 (ip 12 0 0 1) ≡ lookup t (after pair) 1 (ip 12 0 0 1)
  unfolding pair showing
  others_met = replaced_others pair_lived (route 1 (ip 8 0 0 0) 8 5) eight_stored 6 (lit≤ tt) 1 (ip 12 0 0 1) (lit< tt)
      (λ best. true≢false (sym best.matching ∙ right (ip 12 0 0 1) (routes_of 1 (stored_by pair (0 ∷ 0 ∷ []))) (route 1 (ip 8 0 0 0) 8 5) eight_best.stored))

  other_party_met : lookup t (act t (Add 1 (ip 8 0 0 0) 8 6) (after pair)).memory 0 (ip 8 1 2 3) ≡ lookup t (after pair) 0 (ip 8 1 2 3)
  other_party_met = replaced_other_party pair_lived (route 1 (ip 8 0 0 0) 8 5) eight_stored 6 (lit≤ tt) 0 (ip 8 1 2 3) (lit< tt) (omega arith)

  -- the two routes of the morning, the first one first
  order : List Route
  order = route 0 (ip 10 0 0 0) 8 7 ∷ route 1 (ip 10 1 0 0) 16 9 ∷ []

  reordered : Reordered (stored_by morning (0 ∷ 0 ∷ [])) order
  unfolding morning order showing
  reordered = Swapped (route 1 (ip 10 1 0 0) 16 9) (route 0 (ip 10 0 0 0) 8 7) []

  order_lived : History t (adds order) (run t (act t Clear before).memory (adds order)).answers (after (adds order))
  unfolding order adds all_word_sized word_sized
  order_lived = lived refl refl

  -- a table newly cleared takes them, and then gives the numbers that the other one gives
  order_met : all (λ n. eqb n 0) (run t (act t Clear before).memory (adds order)).answers ≡ true
  order_met = all_accepted morning_lived reordered order_lived

  numbers_met : (run t (after (adds order)) pair).answers ≡ (run t (after morning) pair).answers
  unfolding all_word_sized word_sized pair
  numbers_met = same_numbers morning_lived reordered order_lived (made t (after morning) pair refl) (made t (after (adds order)) pair refl)

  -- ---- One party's calls

  -- party 1 made the same calls on both days, and each was accepted on both or refused on both
  same_calls : made_by 1 quiet (0 ∷ 7 ∷ []) ≡ made_by 1 busy busy_answers
  unfolding quiet busy busy_answers made_by is_call_of
  same_calls = refl

  -- so its lookups tell it the same,
  same_told_met : SameRoute (lookup t (after quiet) 1 (ip 10 1 2 3)) (lookup t (after busy) 1 (ip 10 1 2 3))
  unfolding quiet busy no_clear
  same_told_met = same_for_party quiet_lived busy_lived refl refl 1 same_calls (ip 10 1 2 3) (lit< tt)

  -- but not after as many probes,
  probes_differ : (lookup t (after quiet) 1 (ip 10 1 2 3)).probes ≢ (lookup t (after busy) 1 (ip 10 1 2 3)).probes
  unfolding told
  probes_differ = rw (worked.quiet_told, worked.busy_told) (omega arith)

  -- and its next add may find room on the one day alone.
  numbers_differ : (act t (Add 1 (ip 9 0 0 0) 8 6) (after quiet)).refusal ≢ (act t (Add 1 (ip 9 0 0 0) 8 6) (after busy)).refusal
  numbers_differ = rw (worked.quiet_room, worked.busy_room) (omega arith)

  -- A list of addresses tells it place by place.
  list_told_met : SameRoute (answer_at (lookup_list t (after quiet) 1 (ip 10 1 2 3 ∷ []) (replicate 4 7)).results 0)
      (answer_at (lookup_list t (after busy) 1 (ip 10 1 2 3 ∷ []) (replicate 4 7)).results 0)
  unfolding quiet busy no_clear
  list_told_met = same_list_for_party quiet_lived busy_lived refl refl 1 same_calls (ip 10 1 2 3 ∷ []) (replicate 4 7) (replicate 4 7)
      (λ i inside. only i inside)
      ((list_accepted quiet_lived 1 (ip 10 1 2 3 ∷ []) (replicate 4 7) (lit≤ tt)).1 refl)
      ((list_accepted busy_lived 1 (ip 10 1 2 3 ∷ []) (replicate 4 7) (lit≤ tt)).1 refl) 0 (lit< tt)
    where
      only : (i : ℕ) → i < 1 → get_or (ip 10 1 2 3 ∷ []) i 0 < 2 ^ 32
      only zero inside = lit< tt
      only (suc i) inside = absurd (omega arith)
