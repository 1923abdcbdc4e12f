-- Each promise's premises are met after a few lines, under settings T and under filters of unequal size: what is written is computed,
-- and handed to the promise.
use Prim.Native.Nat.{ℕ}
use mathlib.Core.Path.{◌≡◌, refl, ap}
use mathlib.Core.Bool.{false}
use mathlib.Core.List.{List, [], ◌∷◌}
use native.Mathlib.Omega.{arith}
use lib.Dec.{lit≤}
use lib.ListN.{replicate}
use lib.Seq.{sets}
use Rattle.rules.specs.Tools.{fed, input_of}
use Rattle.rules.specs.declared.Settings.{Settings}
use Rattle.rules.specs.Table.{Memory, lent}
use Rattle.rules.specs.Calls.{Call, Clear, Add, Withdraw, word_sized, act}
use Rattle.rules.proofs.Worked.{ip, T}
use Rattle.text_spelling.specs.Spelling.{spelled}
use Rattle.text_answers.specs.Texts.{update_text, route_text, none_text, lookup_text, unreadable}
use Rattle.text_lines.specs.Lines.{updated, reply, line_reply, lines, keep, end_line, take_byte, feed, finish, roomy, feed_chunk, finish_input}
use Rattle.promises.specs.History.{Route, routes_of, route, stored_by, SingleCalls, History, Ran, Stop, Then}
use Rattle.promises.specs.Demands.{Longest, probes_down_to, number_given}
use Rattle.promises.proofs.Showing.{sevens}
use Rattle.promises.proofs.Matches.{right}
use Rattle.promises.proofs.Histories.{one_made}
use Rattle.promises.proofs.Premises.{U}
use Rattle.text_promises.specs.Paper.{paper_answers}
use Rattle.text_promises.specs.Typed.{number_told, numbers_told, Typed, Line}
use Rattle.text_promises.specs.Streams.{Streamed, Chunk, Ended}
use Rattle.text_promises.proofs.Sample.{paper_computing}
use Rattle.text_promises.proofs.Promises.{lines_are_history, numbers_written, longest_written, default_written, none_written, replacing_written, program_writes}

-- ---- Typed lines

-- two routes are added
abbrev eight : List ℕ
eight = spelled "add 10.0.0.0/8 7"

abbrev default : List ℕ
default = spelled "add 0.0.0.0/0 3"

-- the calls that the lines ask for
abbrev morning : List Call
morning = Add 0 (ip 10 0 0 0) 8 7 ∷ Add 0 0 0 3 ∷ []

-- the numbers that the lines are told
abbrev given : Settings → Memory → List ℕ
given t m = number_told (line_reply t m eight).text ∷ number_told (line_reply t (line_reply t m eight).memory default).text ∷ []

-- the routes that are stored then
abbrev then : List Route
then = stored_by morning (0 ∷ 0 ∷ [])

-- what is computed under settings t, on memory that held anything
record Worked (t : Settings) (before : Memory) : Type 0 where
  cleared : (act t Clear before).refusal ≡ 0
  accepted : given t (act t Clear before).memory ≡ 0 ∷ 0 ∷ []

-- to unfold this is to unfold what the program computes with too
unfoldable all_computing : ℕ
unfolding paper_computing lookup_text updated reply line_reply number_told
all_computing = 0

at_T : Worked T sevens
unfolding all_computing
at_T = record { cleared = refl; accepted = refl }

-- filters of unequal size
at_U : Worked U (record { counters = replicate 688 7; slots = replicate 258 7 })
unfolding all_computing
at_U = record { cleared = refl; accepted = refl }

module _ {t : Settings} {before : Memory} (worked : Worked t before) where
  -- the memory after the clear, and after the lines
  abbrev empty : Memory
  empty = (act t Clear before).memory

  abbrev m : Memory
  m = (line_reply t (line_reply t empty eight).memory default).memory

  begun : SingleCalls t before (Clear ∷ []) (0 ∷ []) empty
  unfolding word_sized
  begun = one_made refl (ap (λ r. record { refusal = r; memory = empty }) worked.cleared)

  typed : Ran (Typed t) empty morning (given t empty) m
  unfolding paper_computing numbers_told
  typed = Then (Line eight) (Then (Line default) Stop)

  lived : History t morning (0 ∷ 0 ∷ []) m
  lived = rw worked.accepted at (lines_are_history begun typed)

  longest_met : (line_reply t m (spelled "find 10.2.2.3")).text ≡ route_text 7 8 (probes_down_to t then (ip 10 2 2 3) 8)
  unfolding paper_computing
  longest_met = longest_written lived (spelled "find 10.2.2.3") (ip 10 2 2 3) refl (route 0 (ip 10 0 0 0) 8 7) (right (ip 10 2 2 3) (routes_of 0 then))

  default_best : Longest (ip 12 0 0 1) (routes_of 0 then) (route 0 0 0 3)
  unfolding paper_computing
  default_best = right (ip 12 0 0 1) (routes_of 0 then)

  default_met : (line_reply t m (spelled "find 12.0.0.1")).text ≡ route_text 3 0 (probes_down_to t then (ip 12 0 0 1) 0)
  unfolding paper_computing
  default_met = default_written lived (spelled "find 12.0.0.1") (ip 12 0 0 1) refl (route 0 0 0 3) default_best.stored refl
      (λ q stands matching. omega (arith, default_best.longest q stands matching))

  none_met : (line_reply t empty (spelled "find 12.0.0.1")).text ≡ none_text (probes_down_to t [] (ip 12 0 0 1) 0)
  unfolding paper_computing
  none_met = none_written (lines_are_history begun Stop) (spelled "find 12.0.0.1") (ip 12 0 0 1) refl (right (ip 12 0 0 1) [])

  number_met : (line_reply t m (spelled "drop 11.0.0.0/8")).text ≡ update_text (number_given t then (Withdraw 0 (ip 11 0 0 0) 8))
  unfolding paper_computing
  number_met = numbers_written lived (spelled "drop 11.0.0.0/8") (Withdraw 0 (ip 11 0 0 0) 8) refl

  replacing_met : (line_reply t m (spelled "add 0.0.0.0/0 5")).text ≡ spelled "ok\n"
  unfolding paper_computing
  replacing_met = replacing_written lived (spelled "add 0.0.0.0/0 5") (route 0 0 0 3) default_best.stored 5 (lit≤ tt) refl

-- ---- A caller of crates/text_lines

-- to unfold this is to unfold what a stream computes with
unfoldable streaming : ℕ
unfolding all_computing feed_chunk finish_input roomy feed fed take_byte keep finish end_line
streaming = 0

-- the byte x is fed and the input ends: what is passed on is the answer to that one line
x_fed : Streamed T (lent (replicate 512 0) (replicate 258 0)) (replicate 65 0) 0 ((120 ∷ []) ∷ []) unreadable
unfolding streaming
x_fed =
    Chunk {chunk = 120 ∷ []} {out = replicate 33 0} {out' = replicate 33 0} {r = record { refused = false; count = 1; written = 0 }} (omega arith)
    (record { refused_is = refl; memory_is = refl; line_is = refl; count_is = refl; put = record { holds = refl; end = refl }; inside = omega arith })
    (Ended {out = replicate 33 0} {out' = sets (replicate 33 0) 0 unreadable} {r = record { refused = false; count = 0; written = 11 }} (omega arith)
    (record { refused_is = refl; memory_is = refl; line_is = refl; count_is = refl; put = record { holds = refl; end = refl }; inside = omega arith }))

program_met : unreadable ≡ paper_answers T [] (lines (input_of ((120 ∷ []) ∷ [])))
program_met = program_writes x_fed
