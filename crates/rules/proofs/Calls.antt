-- Calls one after the other: the answers of two lists of calls stand one after the other too, and what is counted of them adds up.
use Prim.Native.Nat.{ℕ, ◌+◌}
use mathlib.Core.Path.{◌≡◌, refl, ap}
use mathlib.Core.Bool.{Bool, true, false, cond, not}
use mathlib.Core.List.{List, [], ◌∷◌, ◌++◌}
use native.Mathlib.Omega.{arith}
use lib.Dec.{eqb}
use lib.ListN.{length}
use Rattle.rules.specs.declared.Settings.{Settings}
use Rattle.rules.specs.Tools.{those}
use Rattle.rules.specs.Table.{Memory}
use Rattle.rules.specs.Calls.{Call, Run, each, run, accepted_of, refused_of}

-- ---- The fold

-- one run and then another, which goes on from where the first one stops
abbrev pub then : {S : Type 0} → Run S → Run S → Run S
then one other = record { answers = one.answers ++ other.answers; last = other.last }

module _ {S : Type 0} (given : S → Call → ℕ) (next : S → Call → S) where
  pub each_append : (s : S) (calls more : List Call)
      → each given next s (calls ++ more) ≡ then (each given next s calls) (each given next (each given next s calls).last more)
  unfolding each
  each_append s [] more = refl
  each_append s (call ∷ calls) more =
      ap (λ (rest : Run S). record { answers = given s call ∷ rest.answers; last = rest.last }) (each_append (next s call) calls more)

  pub answers_length : (s : S) (calls : List Call) → length (each given next s calls).answers ≡ length calls
  unfolding each
  answers_length s [] = refl
  answers_length s (call ∷ calls) = omega (arith, answers_length (next s call) calls)

pub run_append : (t : Settings) (m : Memory) (calls more : List Call) → run t m (calls ++ more) ≡ then (run t m calls) (run t (run t m calls).last more)
unfolding run
run_append t m calls more = each_append _ _ m calls more

-- ---- What is counted

-- how many of two lists of answers are so, and of the two as one
those_append : (test : ℕ → Bool) (answers more : List ℕ) → length (those test (answers ++ more)) ≡ length (those test answers) + length (those test more)
unfolding those
those_append test [] more = omega arith
those_append test (n ∷ answers) more = go (test n) (those_append test answers more)
  where
    go : (b : Bool) → length (those test (answers ++ more)) ≡ length (those test answers) + length (those test more)
        → length (cond b (n ∷ those test (answers ++ more)) (those test (answers ++ more))) ≡ length (cond b (n ∷ those test answers) (those test answers)) + length (those test more)
    go true rest = omega (arith, rest)
    go false rest = rest

pub accepted_append : (answers more : List ℕ) → accepted_of (answers ++ more) ≡ accepted_of answers + accepted_of more
unfolding accepted_of
accepted_append answers more = those_append (λ n. eqb n 0) answers more

pub refused_append : (answers more : List ℕ) → refused_of (answers ++ more) ≡ refused_of answers + refused_of more
unfolding refused_of
refused_append answers more = those_append (λ n. not (eqb n 0)) answers more

-- Each call is accepted or refused.
pub counted_all : (answers : List ℕ) → accepted_of answers + refused_of answers ≡ length answers
unfolding accepted_of refused_of those
counted_all [] = refl
counted_all (n ∷ answers) = go (eqb n 0) (counted_all answers)
  where
    go : (b : Bool) → length (those (λ k. eqb k 0) answers) + length (those (λ k. not (eqb k 0)) answers) ≡ length answers
        → length (cond b (n ∷ those (λ k. eqb k 0) answers) (those (λ k. eqb k 0) answers))
        + length (cond (not b) (n ∷ those (λ k. not (eqb k 0)) answers) (those (λ k. not (eqb k 0)) answers)) ≡ length (n ∷ answers)
    go true rest = omega (arith, rest)
    go false rest = omega (arith, rest)
