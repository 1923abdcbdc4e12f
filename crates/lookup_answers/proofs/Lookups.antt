-- A lookup over slots in any form, by its steps: a refusal stops it, and past the checks the place in which its search ends
-- answers, or the default does.
use Prim.Native.Nat.{ℕ, ◌<◌}
use mathlib.Core.Path.{◌≡◌, sym, ap, ◌∙◌}
use mathlib.Core.Bool.{true}
use mathlib.Core.List.{List}
use lib.ListN.{length}
use borrow.Author.Tests.{ne_eqb}
use Rattle.std.specs.Prelude.{Option}
use Rattle.rules.specs.declared.Settings.{Settings}
use Rattle.rules.specs.Table.{Answer, Memory}
use Rattle.rules.specs.Numbers.{refusal_number}
use Rattle.rules.proofs.Numbers.{refusal_nonzero}
use Rattle.rules.specs.declared.Place.{Place}
use Rattle.rules.specs.declared.Refusal.{Refusal}
use Rattle.rules.specs.declared.Place.TheVariants.{At, Absent}
use Rattle.rules.specs.Table.{in_range, mark_word, mark_at, default_mark, own, party_refusal, set_bits, search as searched, route_answer, default_answer, place_answer, refused, lookup}
use Rattle.rules.specs.Ready.{Slots}
use Rattle.buckets.proofs.Ends.{Ended, search_ended, set_lengths}

pub stopped : (t : Settings) (m : Memory) (party address : ℕ) (e : Refusal) → refusal_number e ≡ party_refusal t m party 0 → refused (refusal_number e) ≡ lookup t m party address
unfolding lookup
stopped t m party address e checked = rw (← checked, ne_eqb _ _ (refusal_nonzero e))

-- past the checks, the place that was found
pub record Searched (t : Settings) (slots : List ℕ) (party address v : ℕ) (place : Place) : Type 0 where
  pub range : in_range t ≡ true
  pub sized : Slots t slots
  pub found : place ≡ searched t slots party address 0 (set_bits v)

module _ {t : Settings} {slots : List ℕ} {party address v : ℕ} {place : Place} (s : Searched t slots party address v place) where
  by_place : {answer : Answer} → answer ≡ place_answer t slots party (length (set_bits v)) place
      → answer ≡ place_answer t slots party (length (set_bits v)) (searched t slots party address 0 (set_bits v))
  by_place given = given ∙ ap (place_answer t slots party (length (set_bits v))) s.found

  module _ {slot L probes : ℕ} (at : place ≡ At L probes slot) where
    ended : Ended slots party slot
    ended = search_ended t slots s.sized party address 0 slot L probes (set_lengths t slots s.sized v s.range) (sym s.found ∙ at)

    -- the slot's mark can be read
    pub mark_lent : mark_word slot < length slots
    mark_lent = ended.is_lent

    -- and is the party's
    pub mark_owned : {mark : ℕ} → mark ≡ mark_at slots slot → own party mark ≡ true
    mark_owned is = rw is ended.taken

    pub route_answers : {mark : ℕ} {answer : Answer} → mark ≡ mark_at slots slot → answer ≡ route_answer party mark L probes
        → answer ≡ place_answer t slots party (length (set_bits v)) (searched t slots party address 0 (set_bits v))
    unfolding place_answer
    route_answers is given = by_place (given ∙ rw (at, is))

  pub default_answers : {mark ones : ℕ} {vacancy : Option ℕ} {answer : Answer} → place ≡ Absent vacancy → mark ≡ default_mark t slots party → ones ≡ length (set_bits v)
      → answer ≡ default_answer party mark ones → answer ≡ place_answer t slots party (length (set_bits v)) (searched t slots party address 0 (set_bits v))
  unfolding place_answer
  default_answers absent is many given = by_place (given ∙ rw (absent, is, many))
