-- The promises' premises are met by worked messages, under settings T and under filters of unequal size: what a message is
-- given is computed, and handed to the promise.
use Prim.Native.Nat.{ℕ, ◌^◌, ◌<◌}
use mathlib.Core.Path.{◌≡◌, refl, ◌∙◌}
use mathlib.Core.List.{List, [], ◌∷◌, ◌++◌}
use lib.Dec.{lit<, lit≤}
use lib.ListN.{replicate, take}
use Rattle.rules.specs.declared.Settings.{Settings}
use Rattle.rules.specs.Tools.{those}
use Rattle.rules.specs.Table.{Memory, refuse, lookup}
use Rattle.rules.specs.Calls.{Call, Clear, Add, Withdraw, word_sized, all_word_sized, act, each, run, accepted_of, refused_of}
use Rattle.rules.proofs.Worked.{ip, T}
use Rattle.message_format.specs.Reading.{message_calls, apply_message}
use Rattle.message_format.specs.Writing.{write_withdrawal}
use Rattle.message_format.proofs.Worked.{computing as reading}
use Rattle.promises.specs.History.{Route, routes_of, route, on_paper, stored_by, History}
use Rattle.promises.specs.Demands.{some_below, every_below, outside, Finds, SaysNone, First, Nothing, paper, adds}
use Rattle.promises.specs.Parties.{is_call_of, no_clear, made_by, SameRoute}
use Rattle.promises.proofs.Showing.{sevens, showing}
use Rattle.promises.proofs.Matches.{right}
use Rattle.promises.proofs.Premises.{U}
use Rattle.promises.proofs.Histories.{made, history_of}
use Rattle.promises.proofs.Promises.{finds_longest, says_none}
use Rattle.promises.proofs.Parties.{same_for_party}
use Rattle.message_promises.specs.Heard.{heard_calls, bad_prefixes, bad_attributes, bad_from_attributes, bad_parts, malformed, unknown, no_hop}
use Rattle.message_promises.proofs.Promises.{message_given, message_accepted, message_history, message_numbers, message_accepts, message_refuses, same_reports}
use Rattle.message_promises.proofs.Written.{written_calls}

-- to unfold this is to unfold all that a message computes with
unfoldable hearing : ℕ
unfolding heard_calls bad_prefixes bad_attributes bad_from_attributes bad_parts malformed unknown no_hop some_below every_below outside paper adds reading showing
hearing = 0

-- party 1's message: it withdraws 11/8, which is not stored, and announces 10/8 with the hop of 192.0.2.1
abbrev pub message : List ℕ
message = replicate 16 255 ++ (0 ∷ 34 ∷ 2 ∷ 0 ∷ 2 ∷ 8 ∷ 11 ∷ 0 ∷ 7 ∷ 64 ∷ 3 ∷ 4 ∷ 192 ∷ 0 ∷ 2 ∷ 1 ∷ 8 ∷ 10 ∷ [])

abbrev pub hops : List ℕ
hops = ip 198 51 100 1 ∷ ip 192 0 2 1 ∷ []

abbrev pub calls : List Call
calls = Withdraw 1 (ip 11 0 0 0) 8 ∷ Add 1 (ip 10 0 0 0) 8 1 ∷ []

pub its_calls : message_calls 1 message hops ≡ calls
unfolding hearing
its_calls = refl

-- what is computed under settings t, on memory that held anything
record Worked (t : Settings) (before : Memory) : Type 0 where
  cleared : (act t Clear before).refusal ≡ 0
  numbers : (paper t [] calls).answers ≡ 7 ∷ 0 ∷ []

at_T : Worked T sevens
unfolding hearing
at_T = record { cleared = refl; numbers = refl }

at_U : Worked U (record { counters = replicate 688 7; slots = replicate 258 7 })
unfolding hearing
at_U = record { cleared = refl; numbers = refl }

module _ {t : Settings} {before : Memory} (worked : Worked t before) where
  abbrev empty : Memory
  empty = (act t Clear before).memory

  begun : History t [] [] empty
  unfolding all_word_sized showing
  begun = history_of before worked.cleared (made t empty [] refl)

  -- a message cut short is refused with 12, and one with no list of next hops with 13
  cut_met : (apply_message t empty 1 (take 33 message) hops).report.refusal ≡ 12
  unfolding refuse hearing
  cut_met = message_given begun 1 (take 33 message) hops

  no_hop_met : (apply_message t empty 1 message []).report.refusal ≡ 13
  unfolding refuse hearing
  no_hop_met = message_given begun 1 message []

  -- one for party 2 is refused with 15, whatever it says
  party_met : (apply_message t empty 2 (take 33 message) []).report.refusal ≡ 15
  unfolding refuse hearing
  party_met = message_given begun 2 (take 33 message) []

  -- the whole one is accepted
  accepted_met : (apply_message t empty 1 message hops).report.refusal ≡ 0
  unfolding hearing
  accepted_met = (message_accepted begun 1 message hops).1 (lit≤ tt, (refl, refl))

  heard : heard_calls 1 message hops (apply_message t empty 1 message hops).report.refusal ≡ calls
  unfolding hearing
  heard = rw accepted_met its_calls

  -- after it
  abbrev m : Memory
  m = (apply_message t empty 1 message hops).memory

  given : (run t empty calls).answers ≡ 7 ∷ 0 ∷ []
  unfolding stored_by on_paper
  given = rw heard at (message_numbers begun 1 message hops refl) ∙ worked.numbers

  after : History t calls (7 ∷ 0 ∷ []) m
  after = rw (heard, given) at (message_history begun 1 message hops refl)

  -- one of its routes is refused and one accepted
  counts_met : ((apply_message t empty 1 message hops).report.accepted ≡ 1) × ((apply_message t empty 1 message hops).report.refused ≡ 1)
  unfolding stored_by on_paper accepted_of refused_of those
  counts_met = (
    rw (heard, worked.numbers) at (message_accepts begun 1 message hops refl),
    rw (heard, worked.numbers) at (message_refuses begun 1 message hops refl),
  )

  -- to party 1, 10.2.2.3 gets the hop of the list's second place
  found_met : Finds (lookup t m 1 (ip 10 2 2 3)) (route 1 (ip 10 0 0 0) 8 1)
  unfolding showing
  found_met = finds_longest after 1 (lit≤ tt) (ip 10 2 2 3) (lit< tt) (route 1 (ip 10 0 0 0) 8 1) (right (ip 10 2 2 3) (routes_of 1 (stored_by calls (7 ∷ 0 ∷ []))))

  -- and to party 0 there is none
  none_met : SaysNone (lookup t m 0 (ip 10 2 2 3))
  unfolding showing
  none_met = says_none after 0 (lit≤ tt) (ip 10 2 2 3) (lit< tt) (right (ip 10 2 2 3) (routes_of 0 (stored_by calls (7 ∷ 0 ∷ []))))

  -- party 0 now has the same message: it is heard as the same calls of party 0's,
  abbrev others : List Call
  others = Withdraw 0 (ip 11 0 0 0) 8 ∷ Add 0 (ip 10 0 0 0) 8 1 ∷ []

  other_heard : heard_calls 0 message hops (apply_message t m 0 message hops).report.refusal ≡ others
  unfolding hearing
  other_heard = rw ((message_accepted after 0 message hops).1 (lit≤ tt, (refl, refl)))

  -- and what party 1 is told stays the same
  apart_met : (address : ℕ) → address < 2 ^ 32 → SameRoute (lookup t m 1 address) (lookup t (apply_message t m 0 message hops).memory 1 address)
  unfolding no_clear is_call_of made_by run each
  apart_met = same_for_party after (rw other_heard at (message_history after 0 message hops refl)) refl refl 1 refl

  -- a table newly cleared, to which 10/8 is added, gives the message the same report
  abbrev order : List Route
  order = route 1 (ip 10 0 0 0) 8 1 ∷ []

  anew : History t (adds order) (run t empty (adds order)).answers (run t empty (adds order)).last
  unfolding adds all_word_sized word_sized
  anew = history_of before worked.cleared (made t empty (adds order) refl)

  same_met : (apply_message t (run t empty (adds order)).last 1 message hops).report ≡ (apply_message t m 1 message hops).report
  unfolding all_word_sized run each showing
  same_met = same_reports after (First (route 1 (ip 10 0 0 0) 8 1) Nothing) anew (made t m [] refl) (made t (run t empty (adds order)).last [] refl) 1 message hops refl

-- room for 25 bytes takes the withdrawal of 10/8, and reading it is that call
written_met : (next_hops : List ℕ) → message_calls 1 (write_withdrawal (ip 10 0 0 0) 8 (replicate 25 7)).results next_hops ≡ Withdraw 1 (ip 10 0 0 0) 8 ∷ []
unfolding hearing
written_met = written_calls (ip 10 0 0 0) 8 (lit< tt) (replicate 25 7) refl 1
