-- A list of addresses while it is answered, address by address: the results hold the first answers, from the front, and then
-- what they held before.
use Prim.Native.Nat.{ℕ, ◌+◌, ◌*◌, ◌≤◌, ◌<◌}
use mathlib.Core.Path.{◌≡◌, sym, ap, ◌∙◌}
use mathlib.Core.List.{List, [], ◌++◌, append-nil}
use native.Mathlib.Nat.{zero-add}
use native.Mathlib.Omega.{arith}
use lib.ListN.{length, take, get_or, drop_of_length-le}
use lib.Seq.{sets, sets-eq, take_all, length-take-le}
use Rattle.rules.specs.declared.Settings.{Settings}
use Rattle.rules.specs.Table.{Memory, lookup, answer_words, list_words}
use Rattle.rules.proofs.Lists.{list_size, list_more}
use Rattle.words.proofs.Stores.{sets_append}

-- stores that fill a list
sets_all : {A : Type 0} (d all : List A) → length all ≡ length d → sets d 0 all ≡ all
sets_all {A} d all e =
    (rw zero-add at (sets-eq all d 0 (omega arith)))
    ∙ ap (λ (rest : List A). all ++ rest) (drop_of_length-le d {i = length all} (omega arith))
    ∙ append-nil all

-- the first i addresses are answered
pub record Listing {A : Type 0} (cells : List ℕ → List A) (t : Settings) (m : Memory) (party : ℕ) (addresses : List ℕ) (d now : List A) (i : ℕ) : Type 0 where
  pub answers : now ≡ sets d 0 (cells (list_words t m party (take i addresses)))

pub listing_none : {A : Type 0} {cells : List ℕ → List A} {t : Settings} {m : Memory} {party : ℕ} {addresses : List ℕ} {d : List A}
    → cells [] ≡ [] → Listing cells t m party addresses d d 0
unfolding list_words
listing_none {d} none = record { answers = ap (sets d 0) (sym none) }

-- each word takes as many cells
module _ {A : Type 0} {cells : List ℕ → List A} (wide : ℕ) (size : (list : List ℕ) → length (cells list) ≡ wide * length list)
    {t : Settings} {m : Memory} {party : ℕ} {addresses : List ℕ} {d now : List A} {i : ℕ} (l : Listing cells t m party addresses d now i) where
  reach : i ≤ length addresses → 4 * wide * i ≡ length (cells (list_words t m party (take i addresses)))
  reach h =
      let many : length (list_words t m party (take i addresses)) ≡ 4 * i = list_size t m party (take i addresses) ∙ ap (λ (n : ℕ). 4 * n) (length-take-le i addresses h) in
      let is = size (list_words t m party (take i addresses)) ∙ ap (λ (n : ℕ). wide * n) many in
      grind (arith, is)

  pub listing_more : ((one other : List ℕ) → cells (one ++ other) ≡ cells one ++ cells other) → i < length addresses → {next : List A}
      → next ≡ sets now (4 * wide * i) (cells (answer_words (lookup t m party (get_or addresses i 0)))) → Listing cells t m party addresses d next (i + 1)
  listing_more append h e =
      let so_far = list_words t m party (take i addresses) in
      let fresh = answer_words (lookup t m party (get_or addresses i 0)) in
      record {
        answers =
            e
            ∙ rw (reach (omega arith), l.answers, list_more t m party addresses i h, append so_far fresh)
            (rw zero-add at (sets_append d 0 (cells so_far) (cells fresh)));
      }

  pub listing_all : length addresses ≤ i → length d ≡ 4 * (wide * length addresses) → now ≡ cells (list_words t m party addresses)
  listing_all h full =
      let all = size (list_words t m party addresses) ∙ ap (λ (n : ℕ). wide * n) (list_size t m party addresses) in
      l.answers ∙ rw (take_all i addresses h) (sets_all d (cells (list_words t m party addresses)) (grind (arith, all, full)))
