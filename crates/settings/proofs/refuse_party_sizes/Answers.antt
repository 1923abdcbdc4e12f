-- The checks of the memory are passed on by `memory_passing`; then the party's test is that of `refuse`.
use Prim.Native.Nat.{ℕ}
use mathlib.Core.Path.{◌≡◌, refl, sym, ◌∙◌}
use lib.Dec.{ltb}
use borrow.Author.Tests.{lt-ltb, le-ltb}
use Rattle.std.specs.Prelude.{Result, Ok, Err}
use Rattle.std.proofs.lemmas.Result.{err_from_is_err_and}
use Rattle.rules.specs.declared.Party.{Party}
use Rattle.rules.specs.declared.Refusal.{Refusal}
use Rattle.rules.specs.Numbers.{number_given, IsParty}
use Rattle.rules.specs.Table.{refuse, party_refusal}
use Rattle.rules.proofs.Numbers.{party_low}
use Rattle.rules.proofs.Refusals.{memory_passing, handed_on, let_by}
use Rattle.settings.proofs.refuse_party_sizes.Goals as goal

-- a party that is known is not refused, and one that is not gets 15
party_given : (number : ℕ) (r : Result Party Refusal) → IsParty number r → number_given r ≡ refuse (ltb 1 number) 15 0
unfolding refuse
party_given number (Ok party) is = sym (rw (le-ltb 1 number (rw (sym is) (party_low party))))
party_given number (Err e) (is, high) = rw (is, lt-ltb _ _ high)

pub returns-in_err-refuse_sizes-clause-refusal : goal.returns-in_err-refuse_sizes-clause-refusal
unfolding party_refusal
returns-in_err-refuse_sizes-clause-refusal c m counters slots =
    handed_on (memory_passing _ m) (err_from_is_err_and _ c.from_residual.ensures.1) (c.in_err-refuse_sizes.ensures m counters slots) _

pub returns-clause-refusal : goal.returns-clause-refusal
unfolding party_refusal
returns-clause-refusal c m counters slots =
    party_given _ _ c.try_from.ensures ∙ sym (let_by (memory_passing _ m) (c.in_ok-refuse_sizes.ensures m counters slots) refl _)
