-- What the answer of an UPDATE tells: the number that refuses it, or what its calls were given.
use Prim.Native.Nat.{ℕ}
use mathlib.Core.Path.{◌≡◌, refl, sym, ap, ◌∙◌}
use mathlib.Core.Bool.{Bool, true, false, cond, not, ◌&&◌}
use mathlib.Core.List.{List}
use mathlib.Core.Logic.{◌≢◌}
use native.Mathlib.Omega.{arith}
use lib.Dec.{eqb}
use borrow.Author.Tests.{eqb-true, eqb-false, ne_eqb}
use Rattle.rules.specs.declared.Settings.{Settings}
use Rattle.std.specs.Prelude.{Ok, Err}
use Rattle.rules.specs.declared.Refusal.{Refusal}
use Rattle.rules.specs.Numbers.{refusal_number}
use Rattle.rules.specs.Table.{Memory, lent, refuse}
use Rattle.rules.proofs.Numbers.{refusal_nonzero}
use Rattle.rules.specs.Calls.{run}
use Rattle.message_format.specs.Format.{well_formed, announces}
use Rattle.message_format.specs.Reading.{hop_in, is_hop, update_refusal, message_calls}
use Rattle.message_calls.specs.declared.Counts.{Counts}
use Rattle.message_calls.specs.Walks.{none_counted, tallied, walked, update_done, applied_to}

-- ---- Which UPDATE is refused with 12

-- the number by whether it is well-formed, and whether it announces without a hop
abbrev number : (good hopless : Bool) → ℕ
number good hopless = cond (not good) 12 (cond hopless 13 0)

twelve_only : (good hopless : Bool) → number good hopless ≡ 12 → good ≡ false
twelve_only true true e = absurd (omega arith)
twelve_only true false e = absurd (omega arith)
twelve_only false hopless e = refl

twelve_due : (good hopless : Bool) → number good hopless ≢ 12 → good ≡ true
twelve_due true hopless other = refl
twelve_due false hopless other = absurd (other refl)

-- there are two such numbers
twelve_else : (good hopless : Bool) → number good hopless ≢ 0 → number good hopless ≢ 13 → number good hopless ≡ 12
twelve_else true true some other = absurd (other refl)
twelve_else true false some other = absurd (some refl)
twelve_else false hopless some other = refl

module _ (message hops : List ℕ) where
  pub ill_formed : update_refusal message hops ≡ 12 → well_formed message ≡ false
  unfolding update_refusal refuse
  ill_formed = twelve_only (well_formed message) (announces message && not (is_hop (hop_in message hops)))

  pub formed : update_refusal message hops ≢ 12 → well_formed message ≡ true
  unfolding update_refusal refuse
  formed = twelve_due (well_formed message) (announces message && not (is_hop (hop_in message hops)))

  pub other_than_hopless : update_refusal message hops ≢ 0 → update_refusal message hops ≢ 13 → update_refusal message hops ≡ 12
  unfolding update_refusal refuse
  other_than_hopless = twelve_else (well_formed message) (announces message && not (is_hop (hop_in message hops)))

-- ---- What each answer tells

-- its calls were made and counted
pub record GoodTold (t : Settings) (m : Memory) (party : ℕ) (message hops : List ℕ) (counts : Counts) (left : Memory) : Type 0 where
  pub passed : update_refusal message hops ≡ 0
  pub counted : counts ≡ tallied none_counted (run t m (message_calls party message hops)).answers
  pub last : (run t m (message_calls party message hops)).last ≡ left

-- it was refused with a number, and nothing was done
pub record RefusedTold (m : Memory) (message hops : List ℕ) (number : ℕ) (left : Memory) : Type 0 where
  pub refused : update_refusal message hops ≡ number
  pub same : m ≡ left

module _ (t : Settings) (m : Memory) (party : ℕ) (message hops : List ℕ) where
  accepted : update_refusal message hops ≡ 0
      → update_done t m party message hops ≡ record { refusal = 0; walk = walked t m none_counted (message_calls party message hops) }
  unfolding update_done
  accepted none = rw none

  refused : update_refusal message hops ≢ 0
      → update_done t m party message hops ≡ record { refusal = update_refusal message hops; walk = record { counts = none_counted; memory = m } }
  unfolding update_done
  refused some = rw (ne_eqb _ _ some)

  -- the number is the one that refuses it
  same_number : (update_done t m party message hops).refusal ≡ update_refusal message hops
  same_number = go (eqb (update_refusal message hops) 0) refl
    where
      go : (none : Bool) → eqb (update_refusal message hops) 0 ≡ none → (update_done t m party message hops).refusal ≡ update_refusal message hops
      go true e = rw (accepted (eqb-true _ _ e)) (sym (eqb-true _ _ e))
      go false e = rw (refused (eqb-false _ _ e))

  told_refused : {number : ℕ} → number ≢ 0 → {left : Memory}
      → update_done t m party message hops ≡ record { refusal = number; walk = record { counts = none_counted; memory = left } } → RefusedTold m message hops number left
  told_refused some done =
      let is = sym same_number ∙ ap (λ u. u.refusal) done in
      record { refused = is; same = ap (λ u. u.walk.memory) (sym (refused (λ none. some (sym is ∙ none))) ∙ done) }

  module _ {counters slots : List ℕ} where
    pub good_told : {counts : Counts} → update_done t m party message hops ≡ applied_to (Ok counts) counters slots → GoodTold t m party message hops counts (lent counters slots)
    unfolding walked
    good_told done =
        let passed = sym same_number ∙ ap (λ u. u.refusal) done in
        let walk = sym (accepted passed) ∙ done in
        record { passed = passed; counted = sym (ap (λ u. u.walk.counts) walk); last = ap (λ u. u.walk.memory) walk }

    pub refused_told : (e : Refusal) → update_done t m party message hops ≡ applied_to (Err e) counters slots → RefusedTold m message hops (refusal_number e) (lent counters slots)
    refused_told e = told_refused (refusal_nonzero e)
