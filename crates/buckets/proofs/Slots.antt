-- Slots of a bucket by their number: what the code counts from the first one is `slot_number`, and lies within the lent words.
use Prim.Native.Nat.{ℕ, ◌+◌, ◌-◌, ◌*◌, ◌%◌, ◌^◌, ◌≤◌, ◌<◌}
use mathlib.Core.Path.{◌≡◌, sym, ap, ◌∙◌}
use mathlib.Core.Bool.{Bool, not, and_comm}
use mathlib.Core.List.{List}
use native.Mathlib.Nat.{mul-le-mul, mod-eq_of_lt}
use native.Mathlib.Omega.{arith}
use lib.ListN.{length}
use lib.Dec.{eqb}
use lib.Pow.{pow_mono}
use borrow.Author.Tests.{eq-eqb, ne_eqb}
use Rattle.rules.specs.declared.Settings.{Settings}
use Rattle.rules.specs.Table.{slots_size, bucket, slot_number, mark_word, default_word, mark_at, prefix_at, own, occupied, free, holds}
use Rattle.rules.specs.Ready.{Ready, Slots}
use Rattle.rules.proofs.Placing.{ranges, bucket_lt, words_fit, default_fits}
use Rattle.buckets.specs.Turns.{holding}

module _ (t : Settings) (p L : ℕ) (ready : Ready t L) where
  -- the buckets of the lengths before L are few, so that their number does not wrap
  before_small : (L - 1) * 2 ^ t.e ≤ 31 * 2 ^ 8
  before_small = mul-le-mul {n₂ = 31} (omega (arith, ready.high)) (pow_mono (ranges t ready.range).e_high)

  pub before_whole : (L - 1) * 2 ^ t.e % 2 ^ 64 ≡ (L - 1) * 2 ^ t.e
  before_whole = mod-eq_of_lt (omega (arith, before_small))

  -- with the bucket's own number they are few too, and so are the slots
  pub bucket_small : (L - 1) * 2 ^ t.e + bucket t p ≤ 32 * 2 ^ 8
  bucket_small = omega (arith, before_small, bucket_lt t p ready.range, pow_mono (ranges t ready.range).e_high)

  pub first_small : ((L - 1) * 2 ^ t.e + bucket t p) * t.s ≤ 32 * 2 ^ 8 * 8
  first_small = mul-le-mul bucket_small (ranges t ready.range).s_high

-- slot s is counted from the first slot
pub counted : (t : Settings) (p L s first : ℕ) → first ≡ slot_number t p L 0 → first + s ≡ slot_number t p L s
unfolding slot_number
counted t p L s first from = omega arith

-- its words are lent
pub slot_lent : (t : Settings) (slots : List ℕ) → Slots t slots → (p L s : ℕ) → Ready t L → s < t.s → mark_word (slot_number t p L s) < length slots
slot_lent t slots sized p L s ready h = rw sized.size (omega (arith, (words_fit t p L s ready h).mark, default_fits t 0 (omega arith)))

module _ (t : Settings) (slots : List ℕ) (p L s first : ℕ) (from : first ≡ slot_number t p L 0) where
  pub is_lent : Ready t L → Slots t slots → s < t.s → mark_word (first + s) < length slots
  is_lent ready sized h = rw (counted t p L s first from) (slot_lent t slots sized p L s ready h)

  -- the test of its mark is the rules'
  pub free_by : (mark : ℕ) (r : Bool) → mark ≡ mark_at slots (first + s) → r ≡ occupied mark → free t slots p L s ≡ not r
  unfolding free
  free_by mark r m o = rw (o, m, counted t p L s first from)

-- and so is that of mark and prefix
pub holds_by : (t : Settings) (slots : List ℕ) (party p L s first : ℕ) → first ≡ slot_number t p L 0
    → (r : Bool) → r ≡ holding slots party (first + s) p → holds t slots party p L s ≡ r
unfolding holds
holds_by t slots party p L s first from r h = rw (h, counted t p L s first from)

-- A slot's prefix, once read, decides alone where it is another, and leaves it to the mark where it is p.
module _ (slots : List ℕ) (party n p q : ℕ) (read : q ≡ prefix_at slots n) where
  pub same_prefix : (mark : ℕ) {by_mark : Bool} → q ≡ p → mark ≡ mark_at slots n → by_mark ≡ own party mark → by_mark ≡ holding slots party n p
  same_prefix mark same its_mark by =
      by ∙ ap (own party) its_mark ∙ sym (and_comm (own party (mark_at slots n)) (eqb (prefix_at slots n) p) ∙ rw (← read, eq-eqb q p same))

  pub other_prefix : (q ≡ p → ⊥) → eqb q p ≡ holding slots party n p
  other_prefix other = sym (and_comm (own party (mark_at slots n)) (eqb (prefix_at slots n) p) ∙ rw (← read, ne_eqb q p other))

-- the last two words are the parties' defaults'
module _ (t : Settings) (slots : List ℕ) (lent : Slots t slots) where
  pub two_words : 2 ≤ length slots
  unfolding slots_size
  two_words = omega (arith, lent.size)

  pub last_words : (party : ℕ) → length slots - 2 + party ≡ default_word t party
  unfolding default_word slots_size
  last_words party = omega (arith, lent.size)
