-- Every prefix and address that a line gives is a number of 32 bits: an octet is at most 255, and moves only 24 bits up.
use Prim.Native.Nat.{ℕ, ◌-◌, ◌^◌, ◌≤◌, ◌<◌}
use Prim.Native.Char.{code}
use mathlib.Core.Path.{◌≡◌, refl}
use mathlib.Core.Bool.{Bool, true, false, cond, ◌&&◌}
use mathlib.Core.List.{List, [], ◌∷◌}
use native.Mathlib.Omega.{arith}
use lib.ListN.{length, get_or}
use lib.Dec.{ltb, eqb}
use Rattle.std.specs.Prelude.{Option, Some, None}
use Rattle.std.specs.Bool.{then_some}
use Rattle.text_requests.specs.declared.Numbers.{Numbers}
use Rattle.text_requests.specs.declared.Request.{Request}
use Rattle.text_requests.specs.declared.Request.TheVariants.{Add, Drop, Move, Find}
use Rattle.text_requests.specs.Shapes.{number_at, no_numbers, set_octet, set_length, set_hop, put_in, item, if_fits, items, fit_shape, add_shape, drop_shape, move_shape, find_shape, asks, request}
use Rattle.text_requests.proofs.Digits.{number_most}

-- the address of numbers that fit, if they do, is a number of 32 bits
abbrev Word : Option Numbers → Type 0
Word (Some ns) = ns.address < 2 ^ 32
Word None = Unit

-- so is that of those that an item leaves
abbrev ItemWord : Option (Numbers × ℕ) → Type 0
ItemWord (Some (ns, end)) = ns.address < 2 ^ 32
ItemWord None = Unit

-- the prefix or address of a request is
abbrev pub WordSized : Option Request → Type 0
WordSized (Some (Add p L hop)) = p < 2 ^ 32
WordSized (Some (Drop p L)) = p < 2 ^ 32
WordSized (Some (Move p L hop)) = p < 2 ^ 32
WordSized (Some (Find address)) = address < 2 ^ 32
WordSized None = Unit

-- what holds of both branches holds, whichever the test takes
either : {A : Type 0} (P : A → Type 0) (b : Bool) (x y : A) → P x → P y → P (cond b x y)
either P true x y p q = p
either P false x y p q = q

-- what holds of what is there, and of none, holds whether the test lets it through
if_some : {A : Type 0} (P : Option A → Type 0) (b : Bool) (x : A) → P (Some x) → P None → P (then_some b x)
if_some P true x p q = p
if_some P false x p q = q

-- a number that is put in leaves one of 32 bits
put_word : (o : Option (ℕ × ℕ)) (most : ℕ) (with : ℕ → Numbers) → ((n end : ℕ) → o ≡ Some (n, end) → n ≤ most)
    → ((n : ℕ) → n ≤ most → (with n).address < 2 ^ 32) → ItemWord (put_in o with)
put_word (Some (n, end)) most with few small = small n (few n end refl)
put_word None most with few small = tt

module _ (line : List ℕ) where
  -- and so does an item
  item_word : (shape at : ℕ) (ns : Numbers) → ns.address < 2 ^ 32 → ItemWord (item shape line at ns)
  unfolding item set_octet set_length set_hop
  item_word shape at ns word =
      let put : (most : ℕ) (with : ℕ → Numbers) → ((n : ℕ) → n ≤ most → (with n).address < 2 ^ 32) → ItemWord (put_in (number_at line at most) with) =
      λ most with small. put_word (number_at line at most) most with (λ n end e. number_most line at most e) small in
      either ItemWord (eqb shape (code "O")) _ _ (put 255 (set_octet ns) (λ n few. omega arith))
      (either ItemWord (eqb shape (code "L")) _ _ (put 99 (set_length ns) (λ n few. word))
      (either ItemWord (eqb shape (code "H")) _ _ (put (2 ^ 32 - 1) (set_hop ns) (λ n few. word))
      (if_some ItemWord (ltb at (length line) && eqb (get_or line at 0) shape) _ word tt)))

  then_word : (f : Option (Numbers × ℕ)) (rest : ℕ → Numbers → Option Numbers) → ItemWord f → ((end : ℕ) (ns : Numbers) → ns.address < 2 ^ 32 → Word (rest end ns)) → Word (if_fits f rest)
  then_word (Some (ns, end)) rest word later = later end ns word
  then_word None rest word later = tt

  -- and so do all items of a shape
  items_word : (shape : List ℕ) (at : ℕ) (ns : Numbers) → ns.address < 2 ^ 32 → Word (items shape line at ns)
  unfolding items
  items_word [] at ns word = if_some Word (eqb at (length line)) _ word tt
  items_word (s ∷ shape) at ns word = then_word (item s line at ns) (items shape line) (item_word s at ns word) (items_word shape)

  fit_word : (shape : List ℕ) → Word (fit_shape shape line)
  unfolding fit_shape no_numbers
  fit_word shape = items_word shape 0 no_numbers (omega arith)

  asks_words : (shape : List ℕ) (made : Numbers → Request) (other : Option Request) → ((ns : Numbers) → ns.address < 2 ^ 32 → WordSized (Some (made ns))) → WordSized other
      → WordSized (asks (fit_shape shape line) made other)
  asks_words shape made other words others = go (fit_shape shape line) (fit_word shape)
    where
      go : (f : Option Numbers) → Word f → WordSized (asks f made other)
      go (Some ns) word = words ns word
      go None word = others

  -- Whatever a line's bytes are, it asks for nothing above 32 bits.
  pub request_words : WordSized (request line)
  unfolding request
  request_words =
      either WordSized (ltb 64 (length line)) _ _ tt
      (asks_words add_shape _ _ (λ ns word. word)
      (asks_words drop_shape _ _ (λ ns word. word)
      (asks_words move_shape _ _ (λ ns word. word)
      (asks_words find_shape _ _ (λ ns word. word) tt))))
