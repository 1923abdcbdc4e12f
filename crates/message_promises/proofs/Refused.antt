-- Demand 1 of a message and of a written withdrawal, on any settings, any lent memory, any party, any message, any list of
-- next hops and any room. That each call ends and does nothing undefined is what the checks of crates/message_calls and
-- crates/message_writers prove. The lists of conditions are in specs/Heard.antt.
use Prim.Native.Nat.{ℕ, ◌≤◌}
use mathlib.Core.Path.{◌≡◌, refl, sym, ◌∙◌}
use mathlib.Core.List.{List, [], ◌∷◌, map}
use mathlib.Core.Logic.{◌↔◌, ◌≢◌}
use lib.Dec.{eqb}
use lib.ListN.{length}
use borrow.Author.Tests.{eq-eqb, ne_eqb, eqb-true}
use Rattle.rules.specs.declared.Settings.{Settings}
use Rattle.rules.specs.Table.{Memory, Listed, listed}
use Rattle.message_format.specs.Reading.{message_refusal, Read, counts, refused_message, apply_message}
use Rattle.message_format.specs.Writing.{writing_refusal, withdrawal, write_withdrawal}
use Rattle.message_format.proofs.Counting.{message_refused}
use Rattle.promises.specs.Demands.{memory_conditions, party_conditions, route_conditions, NoneMet, FirstMet}
use Rattle.promises.proofs.Conditions.{given_exactly, none_exactly}
use Rattle.promises.proofs.Sums.{by_cases}
use Rattle.message_promises.specs.Heard.{message_conditions, writing_conditions}
use Rattle.message_promises.proofs.Conditions.{message_first, message_numbered, writing_first, writing_numbered}

-- ---- A message

module _ (t : Settings) (m : Memory) (party : ℕ) (message hops : List ℕ) where
  -- what it is given back and leaves
  abbrev applied : Read
  applied = apply_message t m party message hops

  pub its_refusal : applied.report.refusal ≡ message_refusal t m party message hops
  unfolding apply_message counts refused_message
  its_refusal = by_cases (eqb (message_refusal t m party message hops) 0) (λ good. rw good (sym (eqb-true _ 0 good))) (λ bad. rw bad)

  -- A number is given back exactly if its condition is met and none is of those before it in the list.
  pub numbers_in_order : (n : ℕ) → 1 ≤ n → (applied.report.refusal ≡ n) ↔ FirstMet n (message_conditions t m party message hops)
  numbers_in_order = given_exactly (message_conditions t m party message hops) (its_refusal ∙ message_first t m party message hops)

  -- 0 is, exactly if no condition is met.
  pub accepted_exactly : (applied.report.refusal ≡ 0) ↔ NoneMet (message_conditions t m party message hops)
  accepted_exactly = none_exactly (message_conditions t m party message hops) (its_refusal ∙ message_first t m party message hops) (message_numbered t m party message hops)

  -- These are its numbers, in that order.
  pub numbers_listed : map (λ c. c.number) (message_conditions t m party message hops) ≡ 1 ∷ 2 ∷ 15 ∷ 12 ∷ 13 ∷ []
  unfolding message_conditions party_conditions memory_conditions
  numbers_listed = refl

  -- A refused message counts nothing and leaves every lent byte and word as it was.
  pub refused_unchanged : applied.report.refusal ≢ 0 → applied ≡ refused_message applied.report.refusal m
  refused_unchanged bad = message_refused t m party message hops (λ good. bad (its_refusal ∙ good)) ∙ rw its_refusal

-- ---- A written withdrawal

module _ (p L : ℕ) (room : List ℕ) where
  -- what it gives back and leaves
  abbrev written : Listed
  written = write_withdrawal p L room

  pub written_refusal : written.refusal ≡ writing_refusal p L (length room)
  unfolding write_withdrawal listed
  written_refusal = refl

  -- A number is given back exactly if its condition is met and none is of those before it in the list.
  pub written_number : (n : ℕ) → 1 ≤ n → (written.refusal ≡ n) ↔ FirstMet n (writing_conditions p L room)
  written_number = given_exactly (writing_conditions p L room) (written_refusal ∙ writing_first p L room)

  -- 0 is, exactly if no condition is met.
  pub written_accepted_exactly : (written.refusal ≡ 0) ↔ NoneMet (writing_conditions p L room)
  written_accepted_exactly = none_exactly (writing_conditions p L room) (written_refusal ∙ writing_first p L room) (writing_numbered p L room)

  -- These are its numbers, in that order.
  pub written_numbers_listed : map (λ c. c.number) (writing_conditions p L room) ≡ 3 ∷ 4 ∷ 18 ∷ []
  unfolding writing_conditions route_conditions
  written_numbers_listed = refl

  -- Where it is accepted the room holds the message.
  pub written_left : written.refusal ≡ 0 → written.results ≡ withdrawal p L
  unfolding write_withdrawal listed
  written_left good = rw (eq-eqb _ 0 good)

  -- Where it is refused the room is left as it was.
  pub written_refused : written.refusal ≢ 0 → written.results ≡ room
  unfolding write_withdrawal listed
  written_refused bad = rw (ne_eqb _ 0 bad)
