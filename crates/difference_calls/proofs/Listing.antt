-- A list into which differences are put one after the other: those that were put, and those that are left.
use Prim.Native.Nat.{ℕ, ◌+◌, ◌*◌, ◌/◌, ◌≤◌, ◌<◌}
use mathlib.Core.Path.{◌≡◌, refl, sym, ap, ◌∙◌}
use mathlib.Core.List.{List, [], ◌∷◌, ◌++◌, append_assoc, append-nil}
use native.Mathlib.Nat.{zero-add, mul-add, mul-one, mul_comm, mul-le-mul_left, mul-div-le, le_trans}
use Rattle.std.proofs.lemmas.Nat.{le-div}
use native.Mathlib.Omega.{arith}
use lib.ListN.{length, length-append}
use lib.Seq.{sets, length-sets}
use Rattle.words.proofs.Stores.{sets_append}
use Rattle.difference_rules.specs.declared.Difference.{Difference}
use Rattle.difference_rules.specs.Comparing.{difference_words, over}
use Rattle.difference_rules.proofs.Few.{four_words}
use Rattle.difference_calls.proofs.Ends.{stored_over}

-- the words of one after the words of the other
words_append : (one other : List Difference) → difference_words (one ++ other) ≡ difference_words one ++ difference_words other
unfolding difference_words
words_append [] other = refl
words_append (d ∷ one) other = rw (words_append one other)

no_words : difference_words [] ≡ []
unfolding difference_words
no_words = refl

-- so many of all were put, from the list's front on, and the others are left
pub record Listed {A : Type 0} (cells : List ℕ → List A) (all : List Difference) (list : List A) (rest : List Difference) (many : ℕ) (now : List A) : Type 0 where
  pub done : List Difference
  pub count : length done ≡ many
  pub parts : all ≡ done ++ rest
  pub puts : now ≡ sets list 0 (cells (difference_words done))

-- so many of all were counted, and put from the list's front on if it has room for all, and the others are left
pub record Counted {A : Type 0} (cells : List ℕ → List A) (wide : ℕ) (all : List Difference) (list : List A) (rest : List Difference) (many : ℕ) (now : List A) : Type 0 where
  pub done : List Difference
  pub count : length done ≡ many
  pub parts : all ≡ done ++ rest
  pub puts : 4 * wide * length all ≤ length list → now ≡ sets list 0 (cells (difference_words done))

module _ {A : Type 0} (cells : List ℕ → List A) (wide : ℕ) (none : cells [] ≡ []) (append : (one other : List ℕ) → cells (one ++ other) ≡ cells one ++ cells other)
    (size : (words : List ℕ) → length (cells words) ≡ wide * length words) (all : List Difference) (list : List A) where
  written : (ds : List Difference) → length (cells (difference_words ds)) ≡ 4 * wide * length ds
  written ds = rw (size (difference_words ds), four_words ds) (grind arith)

  -- one more is put after those that were
  put_after : (done : List Difference) (d : Difference) (place : ℕ) → place ≡ 4 * wide * length done
      → sets (sets list 0 (cells (difference_words done))) place (cells (difference_words (d ∷ []))) ≡ sets list 0 (cells (difference_words (done ++ d ∷ [])))
  put_after done d place is =
      let one = cells (difference_words done) in
      let other = cells (difference_words (d ∷ [])) in
      let together : cells (difference_words (done ++ d ∷ [])) ≡ one ++ other = ap cells (words_append done (d ∷ [])) ∙ append (difference_words done) (difference_words (d ∷ [])) in
      ap (λ (i : ℕ). sets (sets list 0 one) i other) (is ∙ sym (written done) ∙ sym (zero-add (length one)))
      ∙ sets_append list 0 one other ∙ ap (sets list 0) (sym together)

  -- ---- What was put

  -- at first none was
  pub listed_none : Listed cells all list all 0 list
  listed_none = record { done = []; count = refl; parts = refl; puts = rw (no_words, none) }

  module _ {d : Difference} {rest others : List Difference} {many : ℕ} {now : List A} (l : Listed cells all list rest many now) (e : rest ≡ d ∷ others) where
    -- there is room for the next
    pub listed_room : 4 * wide * length all ≤ length list → 4 * wide * many + 4 * wide ≤ length now
    listed_room room =
        let parts = ap length l.parts in
        let counted = rw (e, length-append) at parts in
        let more : many + 1 ≤ length all = omega (arith, l.count, counted) in
        rw (l.puts, length-sets) (le_trans (rw (mul-add, mul-one) at (mul-le-mul_left (4 * wide) more)) room)

    -- and it is put after them
    pub listed_more : {next : List A} → next ≡ sets now (4 * wide * many) (cells (difference_words (d ∷ []))) → Listed cells all list others (many + 1) next
    listed_more {next} put = record {
      done = l.done ++ d ∷ [];
      count = rw length-append (omega (arith, l.count));
      parts = l.parts ∙ rw (e, append_assoc);
      puts = put ∙ rw l.puts (put_after l.done d (4 * wide * many) (ap (λ (n : ℕ). 4 * wide * n) (sym l.count)));
    }

  -- at last all were
  pub listed_all : {many : ℕ} {now : List A} → 4 * wide * length all ≤ length list → Listed cells all list [] many now → now ≡ over (cells (difference_words all)) list
  listed_all room l =
      let whole : l.done ≡ all = sym (l.parts ∙ append-nil l.done) in
      l.puts ∙ rw whole (stored_over (cells (difference_words all)) list (rw (written all) room))

  -- ---- What was counted, and put where there was room

  -- with room for all, what was counted was put
  pub counted_listed : {rest : List Difference} {many : ℕ} {now : List A} → 4 * wide * length all ≤ length list → Counted cells wide all list rest many now
      → Listed cells all list rest many now
  counted_listed fits c = record { done = c.done; count = c.count; parts = c.parts; puts = c.puts fits }

  -- at first none was
  pub counted_none : Counted cells wide all list all 0 list
  counted_none = record { done = []; count = refl; parts = refl; puts = λ fits. rw (no_words, none) }

  module _ {d : Difference} {rest others : List Difference} {many : ℕ} {now : List A} (c : Counted cells wide all list rest many now) (e : rest ≡ d ∷ others) where
    -- there is one more
    pub listed_count : many + 1 ≤ length all
    listed_count =
        let parts = ap length c.parts in
        let counted = rw (e, length-append) at parts in
        omega (arith, c.count, counted)

    one_more : {next : List A} → (4 * wide * length all ≤ length list → next ≡ sets now (4 * wide * many) (cells (difference_words (d ∷ []))))
        → Counted cells wide all list others (many + 1) next
    one_more {next} put = record {
      done = c.done ++ d ∷ [];
      count = rw length-append (omega (arith, c.count));
      parts = c.parts ∙ rw (e, append_assoc);
      puts = λ fits. put fits ∙ rw (c.puts fits) (put_after c.done d (4 * wide * many) (ap (λ (n : ℕ). 4 * wide * n) (sym c.count)));
    }

    -- it is put after them
    pub counted_put : {next : List A} → next ≡ sets now (4 * wide * many) (cells (difference_words (d ∷ []))) → Counted cells wide all list others (many + 1) next
    counted_put put = one_more (λ fits. put)

    -- or there is no room for it, nor for all
    pub counted_more : 1 ≤ wide → length list / (4 * wide) ≤ many → Counted cells wide all list others (many + 1) now
    counted_more some full = one_more (λ fits. absurd (
        let room = le-div (length all) (length list) (4 * wide) (omega (arith, some)) (rw (mul_comm (length all) (4 * wide)) fits) in
        omega (arith, listed_count, full, room)
        ))

  -- where there is room for one more, its cells fit
  pub cells_fit : (many : ℕ) → many < length list / (4 * wide) → 4 * wide * many + 4 * wide ≤ length list
  cells_fit many some = le_trans (rw (mul-add, mul-one) at (mul-le-mul_left {m = many + 1} {n = length list / (4 * wide)} (4 * wide) (omega (arith, some)))) (mul-div-le (length list) (4 * wide))

  module _ {many : ℕ} {now : List A} (c : Counted cells wide all list [] many now) where
    whole : c.done ≡ all
    whole = sym (c.parts ∙ append-nil c.done)

    -- at last all were put
    pub counted_over : 4 * wide * length all ≤ length list → now ≡ over (cells (difference_words all)) list
    counted_over fits = listed_all fits (counted_listed fits c)

    -- and whatever the room, all were counted
    pub counted_all : many ≡ length all
    counted_all = sym c.count ∙ ap length whole
