-- Every history keeps memory and paper together: a clear begins it, an accepted call keeps it, a refused one changes nothing.
-- So what it was answered and what it stores follow from its calls alone, and what a seat did after a clear is a history.
use Prim.Native.Nat.{ℕ, ◌^◌, zero-le}
use mathlib.Core.Path.{◌≡◌, refl, sym, ap, ap₂, ◌∙◌}
use mathlib.Core.Bool.{true, cond}
use mathlib.Core.List.{List, [], ◌∷◌, ◌++◌}
use native.Mathlib.Omega.{arith}
use lib.ListN.{length, get_or, replicate, length-replicate, get_or-replicate}
use lib.Dec.{eqb}
use borrow.Author.Tests.{eqb-true, ltb-true}
use Rattle.rules.specs.declared.Settings.{Settings}
use Rattle.rules.specs.Table.{Memory, slots_size, slot_number, mark_word, default_word, mark_at, default_mark, sized, memory_refusal, unless_refused, zeroed, clear, add, withdraw, change}
use Rattle.rules.proofs.Members.{both}
use Rattle.rules.proofs.Refusals.{memory_passed}
use Rattle.rules.proofs.Placing.{words_fit, default_fits}
use Rattle.rules.specs.Calls.{Call, Clear, Add, Withdraw, Change, word_sized, all_word_sized, act, Run, each, run}
use Rattle.rules.proofs.Calls.{then, each_append, run_append}
use Rattle.promises.specs.History.{Route, written, noted, on_paper, stored_by, SingleCalls, History, Ran, Stop, Then}
use Rattle.promises.specs.Demands.{sum, number, landings, number_given, paper}
use Rattle.promises.proofs.Sums.{by_cases}
use Rattle.promises.proofs.Below.{none_below_weighs}
use Rattle.promises.proofs.Slots.{slot_weight, bucket_weight}
use Rattle.promises.proofs.Buckets.{SlotsKept}
use Rattle.promises.proofs.Counters.{kept_none}
use Rattle.promises.proofs.Kept.{Kept}
use Rattle.promises.proofs.Refusals.{add_by_routes, withdraw_by_routes, change_by_routes, number_by_routes}
use Rattle.promises.proofs.Numbers.{addable, withdrawable, changeable}
use Rattle.promises.proofs.Updates.{weigh_zero, added_keeps, withdrawn_keeps, changed_keeps}

-- ---- Clear

-- zeros are the slots of no route
slots_none : (t : Settings) (n : ℕ) → n ≡ slots_size t → SlotsKept t [] (replicate n 0)
unfolding sum bucket_weight slot_weight mark_at default_mark
slots_none t n size = record {
  size = length-replicate n 0 ∙ size;
  buckets = λ p L ready weight. none_below_weighs _ t.s (λ s l.
      let before = (words_fit t p L s ready l).mark in
      rw (get_or-replicate {A = ℕ} n (mark_word (slot_number t p L s)) 0 0 (omega (arith, default_fits t 0 (omega arith)))) (weigh_zero weight _));
  default = λ party known weight. rw (get_or-replicate {A = ℕ} n (default_word t party) 0 0 (rw size (default_fits t party known))) (weigh_zero weight 0);
}

cleared : (t : Settings) (m : Memory) → memory_refusal t m 0 ≡ 0 → Kept t [] (zeroed m)
unfolding zeroed number landings sum
cleared t m e =
    let fitted = (memory_passed t m.counters m.slots 0 e).0 in
    record {
      range = fitted.range;
      slots = slots_none t (length m.slots) fitted.slots_fit;
      counters = kept_none t (length m.counters) fitted.counters_fit;
      small = λ L j ready. zero-le;
      all_fit = refl;
      once = λ party p L. zero-le;
    }

-- ---- One call more

-- a refusal leaves all as it was
kept_or : {t : Settings} {routes : List Route} {m : Memory} (refusal : ℕ) (later : List Route) (left : Memory) → Kept t routes m
    → (refusal ≡ 0 → Kept t later left) → Kept t (cond (eqb refusal 0) later routes) (cond (eqb refusal 0) left m)
kept_or refusal later left kept accepted = by_cases (eqb refusal 0)
    (λ e. rw e (accepted (eqb-true refusal 0 e))) (λ e. rw e kept)

pub kept_next : {t : Settings} {routes : List Route} {m : Memory} → Kept t routes m → (call : Call) → word_sized call ≡ true
    → Kept t (noted call (act t call m).refusal routes) (act t call m).memory
unfolding act noted written word_sized clear add withdraw change unless_refused
kept_next {t} {routes} {m} kept Clear sized = kept_or (memory_refusal t m 0) [] (zeroed m) kept (cleared t m)
kept_next {t} {routes} {m} kept (Add party p L hop) sized =
    let word = ltb-true p (2 ^ 32) sized in
    kept_or _ _ _ kept (λ e. added_keeps kept party p word L hop (addable t routes party p L hop (sym (add_by_routes kept party p L hop word) ∙ e)))
kept_next {t} {routes} {m} kept (Withdraw party p L) sized =
    let word = ltb-true p (2 ^ 32) sized in
    kept_or _ _ _ kept (λ e.
    let ok = withdrawable routes party p L (sym (withdraw_by_routes kept party p L word) ∙ e) in
    withdrawn_keeps kept party p word L ok.0 ok.1)
kept_next {t} {routes} {m} kept (Change party p L hop) sized =
    let word = ltb-true p (2 ^ 32) sized in
    kept_or _ _ _ kept (λ e.
    let ok = changeable routes party p L hop (sym (change_by_routes kept party p L hop word) ∙ e) in
    changed_keeps kept party p word L hop ok.0 ok.1 ok.2)

-- ---- Calls one after the other

-- the table and the paper are given the same calls: the answers are the same, and what is left belongs together
pub record Together (t : Settings) (routes : List Route) (m : Memory) (calls : List Call) : Type 0 where
  pub answers : (run t m calls).answers ≡ (paper t routes calls).answers
  pub kept : Kept t (paper t routes calls).last (run t m calls).last

pub kept_run : {t : Settings} {routes : List Route} {m : Memory} → Kept t routes m → (calls : List Call) → all_word_sized calls ≡ true
    → Together t routes m calls
unfolding run paper each all_word_sized
kept_run kept [] words = record { answers = refl; kept = kept }
kept_run {t = t} {routes = routes} {m = m} kept (call ∷ calls) words =
    let parts = both (word_sized call) (all_word_sized calls) words in
    let given = number_by_routes kept call parts.0 in
    let rest = kept_run {t = t} {routes = noted call (number_given t routes call) routes} {m = (act t call m).memory} (rw given at (kept_next kept call parts.0)) calls parts.1 in
    record { answers = ap₂ ◌∷◌ given rest.answers; kept = rest.kept }

-- what is noted of the paper's own answers is what the paper has
paper_noted : (t : Settings) (routes : List Route) (calls : List Call) → on_paper routes calls (paper t routes calls).answers ≡ (paper t routes calls).last
unfolding on_paper paper each
paper_noted t routes [] = refl
paper_noted t routes (call ∷ calls) = paper_noted t (noted call (number_given t routes call) routes) calls

kept_clear : (t : Settings) (before : Memory) → (act t Clear before).refusal ≡ 0 → Kept t [] (act t Clear before).memory
unfolding act clear unless_refused
kept_clear t before accepted = rw accepted (cleared t before accepted)

-- ---- A history

module _ {t : Settings} {calls : List Call} {answers : List ℕ} {m : Memory} (history : History t calls answers m) where
  together : Together t [] (act t Clear history.before).memory calls
  together = kept_run (kept_clear t history.before history.cleared) calls history.words

  -- Its answers follow from its calls alone,
  pub answers_on_paper : answers ≡ (paper t [] calls).answers
  answers_on_paper = sym (ap (λ ran. ran.answers) history.ran) ∙ together.answers

  -- and so do the stored routes.
  pub routes_on_paper : stored_by calls answers ≡ (paper t [] calls).last
  unfolding stored_by
  routes_on_paper = rw answers_on_paper (paper_noted t [] calls)

  -- Memory and stored routes belong together.
  pub kept : Kept t (stored_by calls answers) m
  kept = rw (routes_on_paper, ← ap (λ ran. ran.last) history.ran) together.kept

-- ---- Single calls

-- Any calls can be made, and have their answers.
pub made : (t : Settings) (m : Memory) (calls : List Call) → all_word_sized calls ≡ true → SingleCalls t m calls (run t m calls).answers (run t m calls).last
made t m calls words = record { words = words; ran = refl }

-- A call is a list of one.
pub one_made : {t : Settings} {call : Call} {m m' : Memory} {r : ℕ} → word_sized call ≡ true → act t call m ≡ record { refusal = r; memory = m' }
    → SingleCalls t m (call ∷ []) (r ∷ []) m'
unfolding all_word_sized run each
one_made sized acted = record { words = rw sized; ran = ap (λ u. record { answers = u.refusal ∷ []; last = u.memory }) acted }

words_append : (calls more : List Call) → all_word_sized calls ≡ true → all_word_sized more ≡ true → all_word_sized (calls ++ more) ≡ true
unfolding all_word_sized
words_append [] more sized rest = rest
words_append (call ∷ calls) more sized rest =
    let parts = both (word_sized call) (all_word_sized calls) sized in
    rw parts.0 (words_append calls more parts.1 rest)

-- Single calls and then others are single calls.
pub made_append : {t : Settings} {m m' last : Memory} {calls more : List Call} {answers more_answers : List ℕ}
    → SingleCalls t m calls answers m' → SingleCalls t m' more more_answers last → SingleCalls t m (calls ++ more) (answers ++ more_answers) last
made_append {t} {m} {calls = calls} {more} {answers} one other = record {
  words = words_append calls more one.words other.words;
  ran = run_append t m calls more ∙ ap (λ (ran : Run Memory). then ran (run t ran.last more)) one.ran
      ∙ ap (λ (ran : Run Memory). record { answers = answers ++ ran.answers; last = ran.last }) other.ran;
}

-- ---- What is a history

-- After an accepted clear, single calls are a history.
pub history_of : {t : Settings} {calls : List Call} {answers : List ℕ} {m : Memory} (before : Memory) → (act t Clear before).refusal ≡ 0
    → SingleCalls t (act t Clear before).memory calls answers m → History t calls answers m
history_of before accepted made = record { before = before; cleared = accepted; words = made.words; ran = made.ran }

-- A history goes on with whatever calls come next.
pub history_more : {t : Settings} {m last : Memory} {calls more : List Call} {answers more_answers : List ℕ}
    → History t calls answers m → SingleCalls t m more more_answers last → History t (calls ++ more) (answers ++ more_answers) last
history_more history more = history_of history.before history.cleared (made_append (record { words = history.words; ran = history.ran }) more)

-- What those calls are given, and what is stored after them, follows from what was stored before and from the calls.
module _ {t : Settings} {m last : Memory} {calls more : List Call} {answers more_answers : List ℕ}
    (history : History t calls answers m) (next : SingleCalls t m more more_answers last) where
  pub more_answers_on_paper : more_answers ≡ (paper t (stored_by calls answers) more).answers
  more_answers_on_paper = sym (ap (λ ran. ran.answers) next.ran) ∙ (kept_run (kept history) more next.words).answers

  pub more_routes_on_paper : stored_by (calls ++ more) (answers ++ more_answers) ≡ (paper t (stored_by calls answers) more).last
  unfolding paper
  more_routes_on_paper = routes_on_paper (history_more history next) ∙ rw (routes_on_paper history) (ap (λ ran. ran.last) (each_append _ _ [] calls more))

-- A seat, of which each thing done stands for single calls.
module _ {t : Settings} {Did : Memory → List Call → List ℕ → Memory → Type 0}
    (single : (m : Memory) (calls : List Call) (answers : List ℕ) (m' : Memory) → Did m calls answers m' → SingleCalls t m calls answers m') where
  -- All that it does is single calls,
  pub seat_made : {m m' : Memory} {calls : List Call} {answers : List ℕ} → Ran Did m calls answers m' → SingleCalls t m calls answers m'
  unfolding all_word_sized run each
  seat_made Stop = record { words = refl; ran = refl }
  seat_made (Then did rest) = made_append (single _ _ _ _ did) (seat_made rest)

  -- and after an accepted clear it is a history.
  pub seat_history : {before empty m : Memory} {calls : List Call} {answers : List ℕ} → SingleCalls t before (Clear ∷ []) (0 ∷ []) empty
      → Ran Did empty calls answers m → History t calls answers m
  unfolding run each
  seat_history {before} clear ran =
      history_of before (ap (λ one. get_or one.answers 0 0) clear.ran) (rw (ap (λ one. one.last) clear.ran) (seat_made ran))
