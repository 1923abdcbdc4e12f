-- The listed conditions are what a message and a written withdrawal are checked for: each check is its condition.
use Prim.Native.Nat.{ℕ, zero, suc}
use mathlib.Core.Path.{◌≡◌, refl, sym, ap, ◌∙◌}
use mathlib.Core.Bool.{Bool, true, false, cond, not, ◌&&◌, ◌||◌, and-true, and-false}
use mathlib.Core.List.{List}
use mathlib.Core.Option.{Option, some, none}
use native.Mathlib.Omega.{arith}
use lib.Dec.{ltb, leb, eqb}
use lib.ListN.{length, get_or}
use borrow.Author.Tests.{ltb-false, leb-false, lt-leb}
use Rattle.rules.specs.declared.Settings.{Settings}
use Rattle.rules.specs.Tools.{all as every, lowest, or_else}
use Rattle.rules.specs.Table.{Memory, refuse, party_refusal}
use Rattle.rules.proofs.Lowest.{some_lowest}
use Rattle.rules.proofs.Prefixes.{loose_low}
use Rattle.message_format.specs.Format.{announces, message_hop}
use Rattle.message_format.specs.Reading.{place_in, hop_place, is_hop, hop_in, update_refusal, message_refusal}
use Rattle.message_format.specs.Writing.{writing_refusal}
use Rattle.message_format.proofs.Written.{withdrawal_length}
use Rattle.promises.specs.Demands.{some_below, memory_conditions, party_conditions, route_conditions}
use Rattle.promises.proofs.Conditions.{first_met, numbered, party_then}
use Rattle.promises.proofs.Sums.{by_cases}
use Rattle.message_promises.specs.Heard.{malformed, unknown, no_hop, message_conditions, writing_conditions}
use Rattle.message_promises.proofs.Form.{form_bad}

-- ---- The hop

-- the lowest place is not above 65,535 exactly if some place up to there passes the test
low_place : (test : ℕ → Bool) (n : ℕ) → is_hop (lowest test n) ≡ some_below (λ i. leb i 65535 && test i) n
unfolding is_hop lowest some_below
low_place test zero = refl
low_place test (suc n) = go (lowest test n) refl (test n) (low_place test n)
  where
    go : (o : Option ℕ) → lowest test n ≡ o → (here : Bool) → is_hop o ≡ some_below (λ i. leb i 65535 && test i) n
        → is_hop (or_else o (cond here (some n) none)) ≡ some_below (λ i. leb i 65535 && test i) n || (leb n 65535 && here)
    go (some s) is here same = rw (← same)
        (by_cases (leb s 65535) (λ low. rw low) (λ high. rw (high, lt-leb n 65535 (omega (arith, leb-false s 65535 high, (some_lowest test n s is).within)))))
    go none is true same = rw (← same) (sym (and-true (leb n 65535)))
    go none is false same = rw (← same) (sym (and-false (leb n 65535)))

hop_unknown : (hops : List ℕ) (hop : Option ℕ) → not (is_hop (hop_place hops hop)) ≡ unknown hops hop
unfolding is_hop hop_place place_in unknown
hop_unknown hops none = refl
hop_unknown hops (some address) = ap not (low_place (λ i. eqb (get_or hops i 0) address) (length hops))

-- ---- So what is given back is the number of the first condition met

pub message_checks : (t : Settings) (m : Memory) (party : ℕ) (message hops : List ℕ)
    → message_refusal t m party message hops ≡ party_refusal t m party (refuse (malformed message) 12 (refuse (no_hop message hops) 13 0))
unfolding update_refusal message_refusal hop_in announces no_hop
message_checks t m party message hops = rw (form_bad message, hop_unknown hops (message_hop message))

pub message_first : (t : Settings) (m : Memory) (party : ℕ) (message hops : List ℕ) → message_refusal t m party message hops ≡ first_met (message_conditions t m party message hops)
unfolding message_conditions first_met
message_first t m party message hops = message_checks t m party message hops ∙ party_then t m party _

pub message_numbered : (t : Settings) (m : Memory) (party : ℕ) (message hops : List ℕ) → numbered (message_conditions t m party message hops) ≡ true
unfolding numbered every message_conditions party_conditions memory_conditions
message_numbered t m party message hops = refl

-- ---- A written withdrawal

pub writing_first : (p L : ℕ) (room : List ℕ) → writing_refusal p L (length room) ≡ first_met (writing_conditions p L room)
unfolding writing_refusal writing_conditions route_conditions first_met refuse
writing_first p L room = rw (loose_low p L) (by_cases (ltb 32 L) (λ long. rw long)
    (λ short. rw (short, withdrawal_length p L (ltb-false 32 L short))))

pub writing_numbered : (p L : ℕ) (room : List ℕ) → numbered (writing_conditions p L room) ≡ true
unfolding numbered every writing_conditions route_conditions
writing_numbered p L room = refl
