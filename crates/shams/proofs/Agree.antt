-- The promises on small worked histories: what a call's number and a lookup's answer should be by the stored routes is
-- computed and compared. Ours agree, on the very histories that show up wrong programs (proofs/Shams.antt).
use Prim.Native.Nat.{ℕ}
use mathlib.Core.Path.{◌≡◌, refl}
use mathlib.Core.Bool.{Bool, true, cond, not, ◌&&◌}
use mathlib.Core.List.{List, [], ◌∷◌, ◌++◌}
use lib.Dec.{eqb}
use lib.ListN.{replicate}
use Rattle.rules.specs.declared.Settings.{Settings}
use Rattle.rules.specs.Table.{Answer}
use Rattle.rules.proofs.Worked.{ip, T}
use Rattle.rules.specs.Calls.{Call, Add, Withdraw}
use Rattle.promises.specs.History.{routes_of, stored_by}
use Rattle.promises.specs.Demands.{number_given, longest}
use Rattle.promises.proofs.Matches.{answer_by}
use Rattle.promises.proofs.Showing.{sevens, showing}
use Rattle.shams.specs.Programs.{Acting, Asking, run_by, history_by, our_calls, our_lookups}

-- K 5, D 4, E 0, S 4 and multipliers 0: every route of length 32 lands five times on one counter
abbrev pub Z : Settings
Z = record { k = 5; d = replicate 32 4; e = 0; s = 4; a = 0; b = 0; c = 0 }

-- ---- What is due

-- after the calls, one more is given the number that is due
unfoldable pub right_number : Settings → Acting → List Call → Call → Bool
right_number t acting calls call =
    let ran = history_by acting t sevens calls in
    eqb (acting t call ran.last).refusal (number_given t (stored_by calls ran.answers) call)

-- two answers are the same
unfoldable pub same_answers : Answer → Answer → Bool
same_answers one other =
    eqb one.refusal other.refusal
    && (cond one.found other.found (not other.found)
    && (eqb one.hop other.hop && (eqb one.length other.length && eqb one.probes other.probes)))

-- after the calls, a lookup of the party's has the answer that is due
unfoldable pub right_answer : Settings → Acting → Asking → List Call → (party address : ℕ) → Bool
right_answer t acting asking calls party address =
    let ran = history_by acting t sevens calls in
    let routes = stored_by calls ran.answers in
    same_answers (asking t ran.last party address) (answer_by t routes address (longest address (routes_of party routes)))

-- ---- The histories

-- 10/8 with hop 7, and 10.1/16 with hop 9
unfoldable pub add_8 : Call
add_8 = Add 0 (ip 10 0 0 0) 8 7

unfoldable pub add_16 : Call
add_16 = Add 0 (ip 10 1 0 0) 16 9

-- 10/8 and 8/8 share a bucket of two and both their positions
unfoldable pub pair : List Call
pair = add_8 ∷ Add 0 (ip 8 0 0 0) 8 5 ∷ []

-- 10/8 added again, with hop 1
unfoldable pub again : List Call
again = add_8 ∷ Add 0 (ip 10 0 0 0) 8 1 ∷ []

-- three routes of length 32
unfoldable pub three : List Call
three = Add 0 1 32 1 ∷ Add 0 2 32 1 ∷ Add 0 3 32 1 ∷ []

-- a fourth, and the three withdrawn again
unfoldable pub four_then_one : List Call
four_then_one = three ++ Add 0 4 32 1 ∷ Withdraw 0 1 32 ∷ Withdraw 0 2 32 ∷ Withdraw 0 3 32 ∷ []

-- 10/8 of the other party, with hop 5; and 10/8 of both
unfoldable pub other_8 : Call
other_8 = Add 1 (ip 10 0 0 0) 8 5

unfoldable pub both_8 : List Call
both_8 = add_8 ∷ other_8 ∷ []

-- to unfold this is to unfold all that is due, and all that a program computes with
unfoldable pub agreeing : ℕ
unfolding right_number right_answer same_answers add_8 add_16 pair again three four_then_one other_8 both_8 run_by history_by our_calls our_lookups showing
agreeing = 0

-- ---- Ours

-- each of these is so
every : List Bool → Bool
every [] = true
every (right ∷ others) = right && every others

-- as numbers_given says
numbers_agree :
    every (
    right_number T our_calls [] add_8
    ∷ right_number T our_calls (add_8 ∷ []) (Withdraw 0 (ip 10 0 0 0) 8)
    ∷ right_number T our_calls (add_8 ∷ []) add_8
    ∷ right_number T our_calls (add_8 ∷ add_16 ∷ []) (Withdraw 0 (ip 10 1 0 0) 16)
    ∷ right_number T our_calls pair (Add 0 (ip 8 0 0 0) 8 6)
    ∷ right_number T our_calls (add_8 ∷ Withdraw 0 (ip 10 0 0 0) 8 ∷ []) (Withdraw 0 (ip 10 0 0 0) 8)
    ∷ right_number T our_calls pair (Withdraw 0 (ip 10 0 0 0) 8)
    ∷ right_number Z our_calls three (Add 0 4 32 1)
    ∷ right_number Z our_calls three (Add 0 3 32 6)
    ∷ right_number T our_calls [] (Add 0 (ip 127 0 0 0) 8 1)
    ∷ right_number T our_calls [] (Add 0 (ip 224 0 0 0) 3 1)
    ∷ right_number T our_calls [] (Withdraw 0 (ip 127 0 0 0) 8)
    ∷ right_number T our_calls (again ++ Withdraw 0 (ip 10 0 0 0) 8 ∷ []) (Withdraw 0 (ip 10 0 0 0) 8)
    ∷ right_number T our_calls both_8 (Withdraw 0 (ip 10 0 0 0) 8)
    ∷ right_number T our_calls (other_8 ∷ []) (Withdraw 0 (ip 10 0 0 0) 8)
    ∷ right_number T our_calls both_8 (Add 1 (ip 8 0 0 0) 8 1)
    ∷ right_number T our_calls [] (Add 2 (ip 10 0 0 0) 8 1)
    ∷ []
    ) ≡ true
unfolding every agreeing
numbers_agree = refl

-- as finds_longest, says-none and probes_counted say
answers_agree :
    every (
    right_answer T our_calls our_lookups [] 0 0
    ∷ right_answer T our_calls our_lookups (add_8 ∷ []) 0 (ip 10 2 2 3)
    ∷ right_answer T our_calls our_lookups (add_8 ∷ add_16 ∷ []) 0 (ip 10 2 2 3)
    ∷ right_answer T our_calls our_lookups again 0 (ip 10 2 2 3)
    ∷ right_answer T our_calls our_lookups (other_8 ∷ []) 0 (ip 10 2 2 3)
    ∷ right_answer T our_calls our_lookups both_8 0 (ip 10 2 2 3)
    ∷ right_answer T our_calls our_lookups both_8 1 (ip 10 2 2 3)
    ∷ []
    ) ≡ true
unfolding every agreeing
answers_agree = refl

-- and so of what withdrawals leave
answers_left_agree :
    every (
    right_answer T our_calls our_lookups (again ++ Withdraw 0 (ip 10 0 0 0) 8 ∷ []) 0 (ip 10 2 2 3)
    ∷ right_answer T our_calls our_lookups (pair ++ Withdraw 0 (ip 8 0 0 0) 8 ∷ []) 0 (ip 10 2 2 3)
    ∷ right_answer Z our_calls our_lookups four_then_one 0 4
    ∷ []
    ) ≡ true
unfolding every agreeing
answers_left_agree = refl
