-- The three ends of a comparison, be its list words or bytes: the checks of the tables stop it, or the list is too short, or
-- what differs is written; and what the checks tell.
use Prim.Native.Nat.{ℕ, zero, suc, ◌<◌, ◌≤◌}
use mathlib.Core.Path.{◌≡◌, refl, sym, ◌∙◌}
use mathlib.Core.List.{List}
use native.Mathlib.Nat.{suc-ne-zero, zero-add}
use native.Mathlib.Omega.{arith}
use lib.ListN.{length}
use lib.Seq.{sets, sets-eq}
use borrow.Author.Tests.{lt-ltb, le-ltb}
use Rattle.std.specs.Prelude.{Result, Ok, Err, MatchResult}
use Rattle.rules.specs.declared.Refusal.{Refusal}
use Rattle.rules.specs.declared.Settings.{Settings}
use Rattle.rules.specs.Numbers.{number_given}
use Rattle.rules.proofs.Numbers.{refusal_nonzero}
use Rattle.rules.specs.Table.{Memory, lent, refuse, memory_refusal, party_refusal}
use Rattle.rules.proofs.Refusals.{Passing, memory_passing, party_passing, stopped, let_by, Fitted, memory_passed, PartyFitted, party_passed}
use Rattle.difference_rules.specs.Comparing.{compared, over, differences_given, difference_refusal, listing}
use Rattle.difference_rules.proofs.Checks.{refused_listing, accepted_listing}

-- ---- The checks

-- checks in front of others
then_passing : {checks others : ℕ → ℕ} → Passing checks → Passing others → Passing (λ after. checks (others after))
then_passing {checks} {others} one other = go (checks 0) refl
  where
    go : (n : ℕ) → checks 0 ≡ n → Passing (λ after. checks (others after))
    go zero e = record {
      accepts = λ none after. one.accepts e _ ∙ other.accepts (sym (one.accepts e _) ∙ none) after;
      refuses = λ some after. one.accepts e _ ∙ other.refuses (λ none. some (one.accepts e _ ∙ none)) after ∙ sym (one.accepts e _);
    }
    go (suc n) e =
        let bad : checks 0 ≡ 0 → ⊥ = λ none. suc-ne-zero n (sym e ∙ none) in
        record {
          accepts = λ none after. absurd (bad (sym (one.refuses bad _) ∙ none));
          refuses = λ some after. one.refuses bad _ ∙ sym (one.refuses bad _);
        }

pub tables_passing : (t : Settings) (m : Memory) (u : Settings) (n : Memory) (party : ℕ)
    → Passing (λ after. memory_refusal t m (party_refusal u n party after))
tables_passing t m u n party = then_passing (memory_passing t m) (party_passing u n party)

-- what 1, 2 and 15 not given tells of the two tables
pub tables_passed : (t : Settings) (counters slots : List ℕ) (u : Settings) (others words : List ℕ) (party after : ℕ)
    → memory_refusal t (lent counters slots) (party_refusal u (lent others words) party after) ≡ 0
    → Fitted t counters slots × PartyFitted u others words party × (after ≡ 0)
tables_passed t counters slots u others words party after e =
    let one = memory_passed t counters slots _ e in
    let other = party_passed u others words party after one.1 in
    (one.0, other.0, other.1)

-- ---- The list

-- what is stored from the front on stands over the list
pub stored_over : {A : Type 0} (written list : List A) → length written ≤ length list → sets list 0 written ≡ over written list
unfolding over
stored_over written list fits = sets-eq written list 0 (omega arith) ∙ rw zero-add

module _ (t : Settings) (m : Memory) (u : Settings) (n : Memory) (party needed room : ℕ)
    {given : ℕ} (e : given ≡ memory_refusal t m (party_refusal u n party 0)) where
  -- the tables or the party are refused
  pub stops : (given ≡ 0 → ⊥) → given ≡ difference_refusal t m u n party needed room
  unfolding difference_refusal
  stops bad = stopped (tables_passing t m u n party) e bad _

  -- the list is shorter than the differences need
  pub runs_out : given ≡ 0 → room < needed → 18 ≡ difference_refusal t m u n party needed room
  unfolding difference_refusal refuse
  runs_out good short = sym (let_by (tables_passing t m u n party) e good _ ∙ simp (lt-ltb _ _ short))

  -- nothing is refused
  pub passes : given ≡ 0 → needed ≤ room → 0 ≡ difference_refusal t m u n party needed room
  unfolding difference_refusal refuse
  passes good fits = sym (let_by (tables_passing t m u n party) e good _ ∙ simp (le-ltb _ _ fits))

-- so what is given back, and the list as it is left, are what the rules say
pub as_listed : (refusal count : ℕ) (written list after : List ℕ) (r : Result ℕ Refusal) → number_given r ≡ refusal
    → MatchResult r (λ n. (n ≡ count) × (after ≡ over written list)) (λ _. after ≡ list) → listing refusal count written list ≡ compared (differences_given r) after
as_listed refusal count written list after (Ok n) e is = rw (is.0, is.1) (accepted_listing _ _ written list e refl)
as_listed refusal count written list after (Err x) e kept = rw kept (refused_listing _ count written list e (refusal_nonzero x))
