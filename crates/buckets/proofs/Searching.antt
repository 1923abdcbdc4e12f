-- A search of buckets, turn by turn: what holds between two lengths, and between two slots of a bucket.
use Prim.Native.Nat.{ℕ, ◌+◌, ◌-◌, ◌^◌, ◌≤◌, ◌<◌}
use mathlib.Core.Path.{◌≡◌, refl, ◌∙◌, sym}
use mathlib.Core.Bool.{Bool, true, false}
use mathlib.Core.List.{List}
use mathlib.Core.Option.{none}
use native.Mathlib.Omega.{arith}
use Rattle.std.specs.Prelude.{None}
use lib.ListN.{length}
use lib.Pow.{pow_pos}
use Rattle.rules.specs.declared.Settings.{Settings}
use Rattle.rules.specs.declared.Place.{Place}
use Rattle.rules.specs.declared.Place.TheVariants.{At, Absent}
use Rattle.rules.specs.Tools.{lowest}
use Rattle.rules.specs.Table.{in_range, mark_word, set_bits, holds, held, found_or, search}
use Rattle.rules.specs.Ready.{Slots}
use Rattle.rules.proofs.Lowest.{lowest_on, lowest_here, none_before}
use Rattle.rules.proofs.Vectors.{set_bits_top, set_bits_zero}
use Rattle.buckets.specs.declared.Turn.{Turn}
use Rattle.buckets.specs.Turns.{Turned, holding}
use Rattle.buckets.proofs.Slots.{counted, is_lent, holds_by}

-- a turn leaves fewer lengths
pub less : {t : Settings} {address lengths : ℕ} {turn : Turn} → Turned t address lengths turn → turn.left < lengths
less {lengths} {turn} at =
    let longest = at.longest in
    rw at.rest (omega (arith, pow_pos (turn.length - 1)))

-- nothing is found yet, and the search of the lengths left, after the probes made, gives what the whole search gives
pub record Between (t : Settings) (slots : List ℕ) (party address lengths : ℕ) (found : Place) (left probes : ℕ) : Type 0 where
  pub nothing : found ≡ Absent None
  pub same : search t slots party address 0 (set_bits lengths) ≡ search t slots party address probes (set_bits left)
  pub few : left + probes < 2 ^ 32

-- nothing is found yet, and no slot below s of the bucket holds p
pub record Below (t : Settings) (slots : List ℕ) (party p L : ℕ) (found : Place) (s : ℕ) : Type 0 where
  pub nothing : found ≡ Absent None
  pub none_holds : lowest (holds t slots party p L) s ≡ none

module _ {t : Settings} {slots : List ℕ} where
  -- before the first length, and after the last
  pub begun : {party address lengths : ℕ} → lengths < 2 ^ 32 → Between t slots party address lengths (Absent None) lengths 0
  begun h = record { nothing = refl; same = refl; few = omega arith }

  pub ended : {party address lengths left probes : ℕ} {found : Place} → Between t slots party address lengths found left probes → left ≡ 0
      → found ≡ search t slots party address 0 (set_bits lengths)
  unfolding search
  ended between last = between.nothing ∙ sym (between.same ∙ rw (last, set_bits_zero))

  -- before the first slot of a bucket
  pub opened : {party p L : ℕ} {found : Place} → found ≡ Absent None → Below t slots party p L found 0
  unfolding lowest
  opened nothing = record { nothing = nothing; none_holds = refl }

  -- a slot of a turn's bucket: its words are lent, and the search goes on where the code's test of it fails
  module _ {address left s : ℕ} {turn : Turn} (at : Turned t address left turn) where
    pub inside : in_range t ≡ true → Slots t slots → s < t.s → mark_word (turn.first + s) < length slots
    inside range sized h =
        is_lent t slots _ _ s _ at.from (record { range = range; low = at.longest.low; high = at.longest.high }) sized h

    pub passed : {party : ℕ} {found : Place} {r : Bool} → Below t slots party turn.p turn.length found s
        → r ≡ holding slots party (turn.first + s) turn.p → r ≡ false → Below t slots party turn.p turn.length found (s + 1)
    passed below ensured denied =
        let test = holds_by t slots _ _ _ s _ at.from _ ensured in
        record { nothing = below.nothing; none_holds = lowest_on _ _ below.none_holds (test ∙ denied) }

  -- a turn at the longest length that is left
  module _ {party address lengths left probes s : ℕ} {found now : Place} {turn : Turn} (at : Turned t address left turn) (between : Between t slots party address lengths found left probes) (below : Below t slots party turn.p turn.length now s) where
    -- its bucket ends the search, or the other lengths go on with one probe more
    by_bucket : search t slots party address 0 (set_bits lengths)
        ≡ found_or t turn.p turn.length (probes + 1) (held t slots party turn.p turn.length) (search t slots party address (probes + 1) (set_bits turn.left))
    unfolding search
    by_bucket =
        let longest = at.longest in
        between.same ∙ rw (set_bits_top left turn.length longest.low longest.high longest.reached longest.passed, at.own, at.rest)

    -- no slot of the bucket holds the prefix
    pub next : t.s ≤ s → Between t slots party address lengths now turn.left (probes + 1)
    unfolding held
    next all =
        record {
          nothing = below.nothing;
          same = by_bucket ∙ rw (none_before (holds t slots party turn.p turn.length) _ _ all below.none_holds);
          few = omega (arith, less at);
        }

    -- this slot does
    pub here : {r : Bool} → s < t.s → r ≡ holding slots party (turn.first + s) turn.p → r ≡ true
        → At turn.length (probes + 1) (turn.first + s) ≡ search t slots party address 0 (set_bits lengths)
    unfolding held
    here within ensured told =
        let test = holds_by t slots _ _ _ s _ at.from _ ensured in
        let lowest_is = lowest_here (holds t slots party turn.p turn.length) _ _ within below.none_holds (test ∙ told) in
        sym (by_bucket ∙ rw (lowest_is, counted t turn.p turn.length s _ at.from))
