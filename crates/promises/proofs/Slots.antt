-- The slots by their weights: a slot that is free weighs nothing, so one law about a written slot serves every update.
use Prim.Native.Nat.{ℕ, ◌+◌, ◌*◌, ◌<◌}
use mathlib.Core.Path.{◌≡◌, sym, ◌∙◌}
use mathlib.Core.Bool.{Bool, true, false, cond, ◌&&◌, true≢false}
use mathlib.Core.List.{List}
use mathlib.Core.Logic.{◌≢◌}
use native.Mathlib.Omega.{arith}
use lib.ListN.{length, set, length-set}
use lib.Seq.{get_or-set_same, get_or-set_other}
use lib.Dec.{eqb}
use borrow.Author.Tests.{eqb-true, eq-eqb}
use Rattle.rules.specs.declared.Settings.{Settings}
use Rattle.rules.specs.Table.{bucket, slots_size, slot_number, prefix_word, mark_word, occupied, mark_at, prefix_at, with_slot}
use Rattle.rules.specs.Ready.{Ready}
use Rattle.rules.proofs.Members.{both}
use Rattle.rules.proofs.Placing.{slot_apart, words_fit, default_fits}
use Rattle.promises.specs.Demands.{below}
use Rattle.promises.proofs.Below.{below_agree, below_but_one}
use Rattle.promises.proofs.Sums.{by_cases}

-- ---- Slots by their weights

-- what a prefix under a mark weighs: nothing under a free one
unfoldable pub weigh : (weight : ℕ → ℕ → ℕ) (q mark : ℕ) → ℕ
weigh weight q mark = cond (occupied mark) (weight q mark) 0

-- what slot n weighs
unfoldable pub slot_weight : (weight : ℕ → ℕ → ℕ) (slots : List ℕ) (n : ℕ) → ℕ
slot_weight weight slots n = weigh weight (prefix_at slots n) (mark_at slots n)

-- what p's bucket at length L weighs
unfoldable pub bucket_weight : Settings → (weight : ℕ → ℕ → ℕ) (slots : List ℕ) (p L : ℕ) → ℕ
bucket_weight t weight slots p L = below (λ s. slot_weight weight slots (slot_number t p L s)) t.s

pub weigh_free : (weight : ℕ → ℕ → ℕ) (q mark : ℕ) → occupied mark ≡ false → weigh weight q mark ≡ 0
unfolding weigh
weigh_free weight q mark h = rw h

pub weigh_occupied : (weight : ℕ → ℕ → ℕ) (q mark : ℕ) → occupied mark ≡ true → weigh weight q mark ≡ weight q mark
unfolding weigh
weigh_occupied weight q mark h = rw h

-- ---- A written slot

module _ (slots : List ℕ) (n q mark : ℕ) (fits : mark_word n < length slots) where
  pub mark_written : mark_at (with_slot slots n q mark) n ≡ mark
  unfolding mark_at with_slot mark_word
  mark_written = get_or-set_same (set slots (prefix_word n) q) (2 * n + 1) mark 0 (rw length-set fits)

  pub prefix_written : prefix_at (with_slot slots n q mark) n ≡ q
  unfolding prefix_at with_slot prefix_word mark_word
  prefix_written =
      get_or-set_other (set slots (2 * n) q) (2 * n + 1) (2 * n) mark 0 (omega arith)
      ∙ get_or-set_same slots (2 * n) q 0 (omega arith)

module _ (slots : List ℕ) (n q mark m : ℕ) (other : m ≢ n) where
  pub mark_kept : mark_at (with_slot slots n q mark) m ≡ mark_at slots m
  unfolding mark_at with_slot prefix_word mark_word
  mark_kept =
      get_or-set_other (set slots (2 * n) q) (2 * n + 1) (2 * m + 1) mark 0 (omega arith)
      ∙ get_or-set_other slots (2 * n) (2 * m + 1) q 0 (omega arith)

  pub prefix_kept : prefix_at (with_slot slots n q mark) m ≡ prefix_at slots m
  unfolding prefix_at with_slot prefix_word mark_word
  prefix_kept =
      get_or-set_other (set slots (2 * n) q) (2 * n + 1) (2 * m) mark 0 (omega arith)
      ∙ get_or-set_other slots (2 * n) (2 * m) q 0 (omega arith)

  slot_kept : (weight : ℕ → ℕ → ℕ) → slot_weight weight (with_slot slots n q mark) m ≡ slot_weight weight slots m
  unfolding slot_weight
  slot_kept weight = rw (mark_kept, prefix_kept)

-- ---- A bucket whose slot is written

-- p and q have one bucket at lengths L and M
unfoldable pub same_bucket : Settings → (L M p q : ℕ) → Bool
same_bucket t L M p q = eqb L M && eqb (bucket t p) (bucket t q)

same_number : (t : Settings) (L M p q : ℕ) → same_bucket t L M p q ≡ true → (s : ℕ) → slot_number t q M s ≡ slot_number t p L s
unfolding same_bucket slot_number
same_number t L M p q same s =
    let parts = both (eqb L M) _ same in
    rw (eqb-true L M parts.0, eqb-true (bucket t p) (bucket t q) parts.1)

-- the law: p's bucket at L has slot u written, and any bucket gains and loses what it gains and loses there
module _ (t : Settings) (slots : List ℕ) (p L u q mark : ℕ) (ready : Ready t L) (within : u < t.s) (size : length slots ≡ slots_size t) where
  number : ℕ
  number = slot_number t p L u

  written : List ℕ
  written = with_slot slots number q mark

  fits : mark_word number < length slots
  unfolding number
  fits = let k = (words_fit t p L u ready within).mark in rw size (omega (arith, default_fits t 0 (omega arith)))

  slot_now : (weight : ℕ → ℕ → ℕ) → slot_weight weight written number ≡ weigh weight q mark
  unfolding slot_weight written
  slot_now weight = rw (mark_written slots number q mark fits, prefix_written slots number q mark fits)

  pub bucket_written : (M r : ℕ) → Ready t M → (weight : ℕ → ℕ → ℕ)
      → bucket_weight t weight (with_slot slots (slot_number t p L u) q mark) r M + cond (same_bucket t L M p r) (slot_weight weight slots (slot_number t p L u)) 0
      ≡ bucket_weight t weight slots r M + cond (same_bucket t L M p r) (weigh weight q mark) 0
  unfolding bucket_weight number written same_bucket
  bucket_written M r other weight = by_cases (same_bucket t L M p r)
      (λ same. rw same
      (let numbers = same_number t L M p r same in
      let step = below_but_one (λ s. slot_weight weight written (slot_number t r M s)) (λ s. slot_weight weight slots (slot_number t r M s)) t.s u within
      (λ s l apart. slot_kept slots number q mark (slot_number t r M s)
      (λ e. apart (slot_apart t r M s p L u ready.range other.low ready.low l within e).slot) weight) in
      let now : slot_weight weight written (slot_number t r M u) ≡ weigh weight q mark = rw (numbers u) (slot_now weight) in
      let before : slot_weight weight slots (slot_number t r M u) ≡ slot_weight weight slots number = rw (numbers u) in
      rw (now, before) at step))
      (λ differs. rw (
        differs,
        below_agree (λ s. slot_weight weight written (slot_number t r M s)) (λ s. slot_weight weight slots (slot_number t r M s)) t.s
            (λ s l. slot_kept slots number q mark (slot_number t r M s)
            (λ e. let k = slot_apart t r M s p L u ready.range other.low ready.low l within e in
            true≢false (simp (eq-eqb L M (sym k.length), eq-eqb (bucket t p) (bucket t r) (sym k.bucket)) at differs)) weight),
      ))
