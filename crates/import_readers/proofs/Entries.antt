-- The walk over a record's entries, while it goes on: what all of them give is what those that are left give, with the hop
-- that was found before them.
use Prim.Native.Nat.{ℕ, ◌+◌, ◌-◌, ◌≤◌, ◌<◌}
use mathlib.Core.Path.{◌≡◌, refl, sym, ap, ◌∙◌}
use mathlib.Core.Bool.{Bool, true, false, cond, not, ◌&&◌}
use mathlib.Core.List.{List}
use mathlib.Core.Option.{Option as Maybe, some, none}
use native.Mathlib.Omega.{arith}
use lib.Dec.{leb, eqb}
use lib.ListN.{length}
use borrow.Author.Tests.{eq-eqb, ne_eqb}
use Rattle.std.specs.Prelude.{Option, Some, None, Result, Ok, Err}
use Rattle.rules.specs.declared.Refusal.{Refusal}
use Rattle.rules.specs.declared.Refusal.TheVariants.{Malformed}
use Rattle.rules.specs.Numbers.{number_given}
use Rattle.rules.specs.Tools.{all}
use Rattle.rules.specs.Table.{refuse}
use Rattle.message_format.specs.Format.{attributes_good, next_hop}
use Rattle.message_format.specs.Reading.{hop_place, is_hop}
use Rattle.message_readers.specs.Readings.{given, hop_read, place_hop, hop_found, hop_due}
use Rattle.message_readers.proofs.Parts.{hop_told}
use Rattle.import_format.specs.Routes.{entry_attributes, after_entry, entry_starts, entries_to, entry_good, entry_hop, chosen_hop}
use Rattle.import_format.proofs.Entries.{overrun, starts_next, to_next}
use Rattle.import_readers.specs.Records.{entries_read}

-- ---- A hop that stands before others

-- the first hop, or else the other
unfoldable pub first_of : Option ℕ → Option ℕ → Option ℕ
first_of (Some hop) other = Some hop
first_of None other = other

-- what entries give that follow one with this hop
unfoldable pub after : Option ℕ → Result (Option ℕ) Refusal → Result (Option ℕ) Refusal
after found (Ok hop) = Ok (first_of found hop)
after found (Err e) = Err e

-- what follows no hop stays as it is
after_none : (rest : Result (Option ℕ) Refusal) → after None rest ≡ rest
unfolding after first_of
after_none (Ok hop) = refl
after_none (Err e) = refl

-- a hop that nothing follows is the one
nothing_after : (found : Option ℕ) → after found (Ok None) ≡ Ok found
unfolding after first_of
nothing_after (Some hop) = refl
nothing_after None = refl

-- of two hops before the rest the first counts
after_both : (found hop : Option ℕ) (rest : Result (Option ℕ) Refusal) → after found (after hop rest) ≡ after (first_of found hop) rest
unfolding after first_of
after_both (Some found) hop (Ok other) = refl
after_both (Some found) hop (Err e) = refl
after_both None hop (Ok other) = refl
after_both None hop (Err e) = refl

-- the first of two places that is a hop gives the first of their hops
choice : (place others : Maybe ℕ) → place_hop (cond (is_hop place) place others) ≡ first_of (place_hop place) (place_hop others)
unfolding is_hop place_hop first_of
choice none others = refl
choice (some place) others = go (leb place 65535) refl
  where
    go : (low : Bool) → leb place 65535 ≡ low → place_hop (cond (leb place 65535) (some place) others) ≡ first_of (cond (leb place 65535) (Some place) None) (place_hop others)
    go true e = rw (e, e)
    go false e = rw e

-- a fault in attributes is 12, and is one
hop_fault : (bytes : List ℕ) (at end : ℕ) {e : Refusal} → hop_read bytes at end ≡ Err e → (e ≡ Malformed) × (attributes_good bytes at end ≡ false)
unfolding hop_read
hop_fault bytes at end {e} is = go (attributes_good bytes at end) is
  where
    go : (good : Bool) → cond good (Ok (given (next_hop bytes at end))) (Err Malformed) ≡ Err e → (e ≡ Malformed) × (good ≡ false)
    go true bad = absurd (cc)
    go false same = (cc, refl)

-- ---- One entry

-- an entry is judged before those after it
in_order : (ends good rest : Bool) (place others : Maybe ℕ)
    → cond (ends && (good && rest)) (Ok (place_hop (cond (is_hop place) place others))) (Err Malformed)
    ≡ cond good (after (place_hop place) (cond (ends && rest) (Ok (place_hop others)) (Err Malformed))) (Err Malformed)
unfolding after
in_order true true true place others = ap Ok (choice place others)
in_order true true false place others = refl
in_order true false rest place others = refl
in_order false true rest place others = refl
in_order false false rest place others = refl

-- the hop of a NEXT_HOP is that of its place in the list
due_place : (hops : List ℕ) (next : Maybe ℕ) → hop_due true (given next) hops ≡ place_hop (hop_place hops next)
unfolding hop_due given hop_found hop_place place_hop
due_place hops none = refl
due_place hops (some address) = refl

module _ (bytes hops : List ℕ) (at : ℕ) where
  -- with none left the record has to end
  no_entry : at ≡ length bytes → entries_read bytes at 0 hops ≡ Ok None
  unfolding entries_read entries_to entry_starts all chosen_hop place_hop
  no_entry e = rw (eq-eqb _ _ e)

  bytes_after : (at ≡ length bytes → ⊥) → entries_read bytes at 0 hops ≡ Err Malformed
  unfolding entries_read entries_to
  bytes_after ne = rw (ne_eqb _ _ ne)

  module _ (left : ℕ) (more : 0 < left) where
    -- one before the others
    one_entry : entries_read bytes at left hops
        ≡ cond (entry_good bytes at) (after (place_hop (entry_hop bytes hops at)) (entries_read bytes (after_entry bytes at) (left - 1) hops)) (Err Malformed)
    unfolding entries_read all chosen_hop
    one_entry =
        let next = after_entry bytes at in
        let others = entry_starts bytes (left - 1) next in
        rw (to_next bytes left at more, starts_next bytes left at more)
        (in_order (eqb (entries_to bytes (left - 1) next) (length bytes)) (entry_good bytes at) (all (entry_good bytes) others) (entry_hop bytes hops at) (chosen_hop bytes hops others))

    -- one past the record's end
    entry_over : length bytes < after_entry bytes at → entries_read bytes at left hops ≡ Err Malformed
    unfolding entries_read
    entry_over over = rw (to_next bytes left at more, overrun bytes (left - 1) (after_entry bytes at) over)

-- ---- The walk

-- what all entries give is what those from here on give, after the hop that was found
pub record Reading (bytes : List ℕ) (from many : ℕ) (hops : List ℕ) (at left : ℕ) (found : Option ℕ) : Type 0 where
  pub inside : at ≤ length bytes
  pub same : entries_read bytes from many hops ≡ after found (entries_read bytes at left hops)

pub begun : (bytes : List ℕ) (from many : ℕ) (hops : List ℕ) → from ≤ length bytes → Reading bytes from many hops from many None
begun bytes from many hops inside = record { inside = inside; same = sym (after_none _) }

module _ {bytes : List ℕ} {from many : ℕ} {hops : List ℕ} {at left : ℕ} {found : Option ℕ} (r : Reading bytes from many hops at left found) where
  -- ---- The last entry is read

  module _ (none : left ≤ 0) where
    here : entries_read bytes from many hops ≡ after found (entries_read bytes at 0 hops)
    here = let is : left ≡ 0 = omega arith in rw is at r.same

    pub ended : at ≡ length bytes → entries_read bytes from many hops ≡ Ok found
    ended e = here ∙ rw (no_entry bytes hops at e) (nothing_after found)

    pub left_over : (at ≡ length bytes → ⊥) → entries_read bytes from many hops ≡ Err Malformed
    unfolding after
    left_over ne = here ∙ rw (bytes_after bytes hops at ne)

  -- ---- One entry more

  module _ (more : 0 < left) where
    pub over : length bytes < after_entry bytes at → entries_read bytes from many hops ≡ Err Malformed
    unfolding after
    over past = r.same ∙ rw (entry_over bytes hops at left more past)

    module _ {end : ℕ} (ends : end ≡ after_entry bytes at) where
      pub broken : {e : Refusal} → hop_read bytes (at + 8) end ≡ Err e → entries_read bytes from many hops ≡ Err e
      unfolding after entry_good entry_attributes
      broken fault =
          let told = hop_fault bytes (at + 8) (after_entry bytes at) (rw ends at fault) in
          r.same ∙ rw (one_entry bytes hops at left more, told.1, told.0)

      pub goes_on : {next chosen : Option ℕ} → end ≤ length bytes → hop_read bytes (at + 8) end ≡ Ok next → chosen ≡ first_of found (hop_due true next hops)
          → Reading bytes from many hops end (left - 1) chosen
      unfolding entry_good entry_hop entry_attributes
      goes_on fits read is =
          let told = hop_told bytes (at + 8) (after_entry bytes at) (rw ends at read) in
          record {
            inside = fits;
            same =
                r.same
                ∙ rw (one_entry bytes hops at left more, told.0, ← due_place hops (next_hop bytes (at + 8) (after_entry bytes at)), told.1, ← ends, is)
                (after_both found _ _);
          }

-- ---- What the answer means

-- Number 12 is meant exactly where the last entry does not end with the record, or one is not well-formed.
pub entries_refused : (bytes : List ℕ) (from many : ℕ) (hops : List ℕ)
    → number_given (entries_read bytes from many hops) ≡ refuse (not (eqb (entries_to bytes many from) (length bytes) && all (entry_good bytes) (entry_starts bytes many from))) 12 0
unfolding entries_read refuse
entries_refused bytes from many hops = go (eqb (entries_to bytes many from) (length bytes) && all (entry_good bytes) (entry_starts bytes many from))
  where
    go : (good : Bool) → number_given (cond good (Ok (place_hop (chosen_hop bytes hops (entry_starts bytes many from)))) (Err Malformed)) ≡ cond (not good) 12 0
    go true = refl
    go false = refl
