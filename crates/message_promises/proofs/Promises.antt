-- What is promised of a message after any history. A message is its single calls (proofs/Routes.antt), so it only makes the
-- history longer, and all that crates/promises says of lookups and updates holds after it as before. What is said here is what
-- the message itself is given, by its party, its bytes, the list of next hops and the stored routes.
use Prim.Native.Nat.{ℕ, ◌≤◌}
use mathlib.Core.Path.{◌≡◌, sym, ap, ◌∙◌}
use mathlib.Core.Bool.{true, false}
use mathlib.Core.List.{List, ◌++◌, append_cancel_left}
use mathlib.Core.Logic.{◌↔◌}
use lib.Dec.{ltb}
use lib.Pow.{are_bytes}
use borrow.Author.Tests.{ltb-false, le-ltb}
use Rattle.rules.specs.declared.Settings.{Settings}
use Rattle.rules.specs.Table.{Memory, refuse, party_refusal}
use Rattle.rules.specs.Calls.{Call, run, accepted_of, refused_of}
use Rattle.rules.proofs.Refusals.{passed}
use Rattle.message_format.specs.Reading.{Read, apply_message}
use Rattle.promises.specs.History.{Route, stored_by, SingleCalls, History}
use Rattle.promises.specs.Demands.{Reordered, paper, adds}
use Rattle.promises.proofs.Histories.{made_append, history_more, more_answers_on_paper, more_routes_on_paper}
use Rattle.promises.proofs.Promises.{checks_passed, same_numbers}
use Rattle.message_promises.specs.Heard.{heard_calls, malformed, no_hop}
use Rattle.message_promises.proofs.Conditions.{message_checks}
use Rattle.message_promises.proofs.Refused.{its_refusal}
use Rattle.message_promises.proofs.Routes.{message_single, accepted_counted, refused_counted}

-- ---- One message more

module _ {t : Settings} {calls : List Call} {answers : List ℕ} {m : Memory} (history : History t calls answers m) (party : ℕ) (message hops : List ℕ) where
  -- what it is given back and leaves,
  abbrev applied : Read
  applied = apply_message t m party message hops

  -- its single calls, none where it is refused,
  abbrev heard : List Call
  heard = heard_calls party message hops applied.report.refusal

  -- and the routes stored before it
  abbrev routes : List Route
  routes = stored_by calls answers

  -- It is refused with 15, 12 or 13 alone, by its party, the message and the list of next hops.
  pub message_given : applied.report.refusal ≡ refuse (ltb 1 party) 15 (refuse (malformed message) 12 (refuse (no_hop message hops) 13 0))
  unfolding party_refusal
  message_given = its_refusal t m party message hops ∙ message_checks t m party message hops ∙ checks_passed history _

  -- It is accepted exactly if its party is 0 or 1, it is well-formed and what it announces has a hop.
  pub message_accepted : (applied.report.refusal ≡ 0) ↔ ((party ≤ 1) × ((malformed message ≡ false) × (no_hop message hops ≡ false)))
  unfolding refuse
  message_accepted = (
    λ good.
        let known = passed (ltb 1 party) 14 _ (sym message_given ∙ good) in
        let form = passed (malformed message) 11 _ known.1 in
        (ltb-false 1 party known.0, (form.0, (passed (no_hop message hops) 12 0 form.1).0)),
    λ good. message_given ∙ rw (le-ltb 1 party good.0, good.1.0, good.1.1),
  )

  module _ (bytes : are_bytes message ≡ true) where
    -- The history goes on with its single calls.
    pub message_history : History t (calls ++ heard) (answers ++ (run t m heard).answers) applied.memory
    message_history = history_more history (message_single t m party message hops bytes)

    -- Each of its routes is given the number of the first listed condition that is so of the routes stored by then,
    pub message_numbers : (run t m heard).answers ≡ (paper t routes heard).answers
    message_numbers = more_answers_on_paper history (message_single t m party message hops bytes)

    -- and its counts are how many of these numbers are 0, and how many are not.
    pub message_accepts : applied.report.accepted ≡ accepted_of (paper t routes heard).answers
    message_accepts = accepted_counted t m party message hops ∙ ap accepted_of message_numbers

    pub message_refuses : applied.report.refused ≡ refused_of (paper t routes heard).answers
    message_refuses = refused_counted t m party message hops ∙ ap refused_of message_numbers

    -- What is stored after it follows from what was stored before it.
    pub message_stores : stored_by (calls ++ heard) (answers ++ (run t m heard).answers) ≡ (paper t routes heard).last
    message_stores = more_routes_on_paper history (message_single t m party message hops bytes)

-- ---- Demand 3, of a table newly cleared under these settings, to which the stored routes are added, in any order

-- Both were given some more calls since, the single calls of messages among them, and now a message.
module _ {t : Settings} {calls : List Call} {answers : List ℕ} {m : Memory} (history : History t calls answers m)
    {order : List Route} (same : Reordered (stored_by calls answers) order) {new_answers : List ℕ} {new_m : Memory} (anew : History t (adds order) new_answers new_m)
    {more : List Call} {more_answers more_new_answers : List ℕ} {last new_last : Memory}
    (made : SingleCalls t m more more_answers last) (made_anew : SingleCalls t new_m more more_new_answers new_last)
    (party : ℕ) (message hops : List ℕ) (bytes : are_bytes message ≡ true) where
  -- its single calls
  abbrev heard_by_both : List Call
  heard_by_both = heard_calls party message hops (apply_message t last party message hops).report.refusal

  same_refusal : (apply_message t new_last party message hops).report.refusal ≡ (apply_message t last party message hops).report.refusal
  same_refusal = message_given (history_more anew made_anew) party message hops ∙ sym (message_given (history_more history made) party message hops)

  -- They are the same on both, so that the message is then among what both were given, and all this holds of the next one.
  pub both_heard : SingleCalls t m (more ++ heard_by_both) (more_answers ++ (run t last heard_by_both).answers) (apply_message t last party message hops).memory
      × SingleCalls t new_m (more ++ heard_by_both) (more_new_answers ++ (run t new_last heard_by_both).answers) (apply_message t new_last party message hops).memory
  both_heard = (
    made_append made (message_single t last party message hops bytes),
    made_append made_anew (rw same_refusal at (message_single t new_last party message hops bytes)),
  )

  same_given : (run t new_last heard_by_both).answers ≡ (run t last heard_by_both).answers
  same_given = append_cancel_left more_new_answers _ _
      (same_numbers history same anew both_heard.0 both_heard.1 ∙ rw (same_numbers history same anew made made_anew))

  -- Both give it the same report.
  pub same_reports : (apply_message t new_last party message hops).report ≡ (apply_message t last party message hops).report
  same_reports =
      let accepted = rw (same_refusal, same_given, ← accepted_counted t last party message hops) at (accepted_counted t new_last party message hops) in
      let refused = rw (same_refusal, same_given, ← refused_counted t last party message hops) at (refused_counted t new_last party message hops) in
      λ i. record { refusal = same_refusal i; accepted = accepted i; refused = refused i }
