-- Laws of the digits with which bytes begin, and of the number that they write.
use Prim.Native.Nat.{ℕ, zero, suc, ◌+◌, ◌-◌, ◌*◌, ◌≤◌, ◌<◌}
use mathlib.Core.Path.{◌≡◌, refl, sym, ap, ◌∙◌}
use mathlib.Core.Bool.{Bool, true, false, cond, not, ◌&&◌, ◌||◌}
use mathlib.Core.List.{List, [], ◌∷◌, ◌++◌}
use native.Mathlib.Omega.{arith}
use native.Mathlib.Nat.{le_refl}
use lib.ListN.{length, get_or, take, drop, drop_of_length-le, length-take}
use lib.Seq.{take-suc, take_all}
use native.Mathlib.Numerals.{add-one}
use lib.Dec.{ltb, leb, eqb}
use borrow.Author.Tests.{lt-leb, leb-true}
use Rattle.std.specs.Prelude.{Some, None}
use Rattle.std.specs.Bool.{then_some}
use Rattle.std.specs.Char.{is_ascii_digit, IsAsciiDigit}
use Rattle.std.specs.List.{prefix_len}
use Rattle.std.proofs.lemmas.List.{get_or-take}
use Rattle.std.proofs.lemmas.List.Sums.{prefix_len-le-length}
use Rattle.std.proofs.lemmas.Bool.Decides.{nat_tests}
use Rattle.rules.specs.Tools.{within}
use Rattle.text_requests.specs.Shapes.{digit, front_digit, digits, value, begins_with_number, number_at}

-- a byte is a digit's character, or no digit's
is_digit : (b : ℕ) → ltb (digit b) 10 ≡ is_ascii_digit b
unfolding digit within
is_digit b = grind (arith, nat_tests)

-- what digit it is
digit_of : (b : ℕ) → is_ascii_digit b ≡ true → digit b ≡ b - 48
unfolding digit within
digit_of b h = grind (arith, nat_tests)

in_digits : (b : ℕ) → is_ascii_digit b ≡ true → IsAsciiDigit b
in_digits b h = (grind (arith, nat_tests), grind (arith, nat_tests))

-- the digits are as many as the bytes at the front that are digits' characters
counted : (bytes : List ℕ) → prefix_len is_ascii_digit bytes ≡ length (digits bytes)
unfolding digits
counted [] = refl
counted (b ∷ bytes) = rw is_digit (by_test (is_ascii_digit b) (counted bytes))
  where
    by_test : (t : Bool) → prefix_len is_ascii_digit bytes ≡ length (digits bytes) → cond t (1 + prefix_len is_ascii_digit bytes) 0 ≡ length (cond {A = List ℕ} t (digit b ∷ digits bytes) [])
    by_test true e = omega arith
    by_test false e = refl

-- each of them is that of its byte, which is a digit's character
its : (bytes : List ℕ) (i : ℕ) → i < length (digits bytes) → IsAsciiDigit (get_or bytes i 0) × (get_or (digits bytes) i 0 ≡ get_or bytes i 0 - 48)
unfolding digits
its [] i h = absurd (omega arith)
its (b ∷ bytes) i h = rw is_digit (by_test (is_ascii_digit b) refl i (λ i h. its bytes i h) (rw is_digit at h))
  where
    by_test : (t : Bool) → is_ascii_digit b ≡ t → (i : ℕ) → ((i : ℕ) → i < length (digits bytes) → IsAsciiDigit (get_or bytes i 0) × (get_or (digits bytes) i 0 ≡ get_or bytes i 0 - 48))
        → i < length (cond {A = List ℕ} t (digit b ∷ digits bytes) [])
        → IsAsciiDigit (get_or (b ∷ bytes) i 0) × (get_or (cond {A = List ℕ} t (digit b ∷ digits bytes) []) i 0 ≡ get_or (b ∷ bytes) i 0 - 48)
    by_test true e zero rest h = (in_digits b e, digit_of b e)
    by_test true e (suc i) rest h = rest i (omega arith)
    by_test false e i rest h = absurd (omega arith)

-- one digit more
value_append : (n : ℕ) (ds : List ℕ) (d : ℕ) → value n (ds ++ d ∷ []) ≡ value n ds * 10 + d
unfolding value
value_append n [] d = refl
value_append n (e ∷ ds) d = value_append (n * 10 + e) ds d

pub value_more : (ds : List ℕ) (i : ℕ) → i < length ds → value 0 (take (i + 1) ds) ≡ value 0 (take i ds) * 10 + get_or ds i 0
value_more ds i h = rw (add-one, take-suc ds i 0 h) (value_append 0 (take i ds) (get_or ds i 0))

-- more digits never write a smaller number
pub value_grows : (n : ℕ) (ds : List ℕ) → n ≤ value n ds
unfolding value
value_grows n [] = le_refl n
value_grows n (d ∷ ds) = let r = value_grows (n * 10 + d) ds in omega arith

pub front_less : (n i : ℕ) (ds : List ℕ) → value n (take i ds) ≤ value n ds
unfolding value
front_less n zero ds = value_grows n ds
front_less n (suc i) [] = le_refl n
front_less n (suc i) (d ∷ ds) = front_less (n * 10 + d) i ds

-- the digit is zero where its character is
zero_digit : (b : ℕ) → eqb (digit b) 0 ≡ eqb b 48
unfolding digit within
zero_digit b = grind (arith, nat_tests)

front_zero : (bytes : List ℕ) → eqb (front_digit bytes) 0 ≡ eqb (get_or bytes 0 0) 48
unfolding front_digit
front_zero [] = refl
front_zero (b ∷ bytes) = zero_digit b

-- ---- Reading the digits one after the other

-- of the bytes from a position of a line on, n are the digits, and the first i of these have written v
pub record Read (line : List ℕ) (at : ℕ) (bytes : List ℕ) (n i v : ℕ) : Type 0 where
  pub bytes_are : bytes ≡ drop at line
  pub many : n ≡ prefix_len is_ascii_digit bytes
  pub writes : v ≡ value 0 (take i (digits bytes))

module _ {line : List ℕ} {at : ℕ} {bytes : List ℕ} {n i v : ℕ} (r : Read line at bytes n i v) where
  -- there are as many digits
  as_many : length (digits bytes) ≡ n
  as_many = sym (counted bytes) ∙ sym r.many

  module _ (h : i < length (take n bytes)) where
    within_n : i < n
    within_n = omega (arith, length-take n bytes)

    -- the next byte is a digit's character
    pub next_byte : IsAsciiDigit (get_or (take n bytes) i 0)
    next_byte = rw (get_or-take n bytes i 0 within_n) (its bytes i (omega (arith, within_n, as_many))).0

    -- what the digits write with it
    next_value : value 0 (take (i + 1) (digits bytes)) ≡ v * 10 + (get_or (take n bytes) i 0 - 48)
    next_value =
        rw (get_or-take n bytes i 0 within_n, r.writes, ← (its bytes i (omega (arith, within_n, as_many))).1)
        (value_more (digits bytes) i (omega (arith, within_n, as_many)))

    pub read_more : (m : ℕ) → m ≡ v * 10 + (get_or (take n bytes) i 0 - 48) → Read line at bytes n (i + 1) m
    read_more m e = record { bytes_are = r.bytes_are; many = r.many; writes = e ∙ sym next_value }

    -- it makes the number too large
    pub too_large : (most : ℕ) → most < v * 10 + (get_or (take n bytes) i 0 - 48) → number_at line at most ≡ None
    unfolding number_at begins_with_number
    too_large most lt =
        let g : most < value 0 (digits bytes) = omega (arith, next_value, front_less 0 (i + 1) (digits bytes)) in
        rw (← r.bytes_are) (simp (lt-leb _ _ g))

  -- all are read
  pub read_all : (most : ℕ) → length (take n bytes) ≤ i → number_at line at most ≡ then_some (leb v most && (ltb 0 n && (eqb n 1 || not (eqb (get_or bytes 0 0) 48)))) (v, at + n)
  unfolding number_at begins_with_number
  read_all most h =
      let no_more : n ≤ i = omega (arith, length-take n bytes, prefix_len-le-length is_ascii_digit bytes, r.many) in
      let writes : value 0 (digits bytes) ≡ v = sym (r.writes ∙ ap (value 0) (take_all i (digits bytes) (omega (arith, as_many)))) in
      rw (← r.bytes_are) (simp (writes, as_many, front_zero bytes))

-- nothing stands past the end
pub number_past : (line : List ℕ) (at most : ℕ) → length line < at → number_at line at most ≡ None
unfolding number_at begins_with_number front_digit digits value
number_past line at most h =
    let past : length line ≤ at = omega arith in
    rw (drop_of_length-le line past) (by_test (leb 0 most))
  where
    by_test : (b : Bool) → then_some {T = ℕ × ℕ} (b && false) (0, at + 0) ≡ None
    by_test true = refl
    by_test false = refl

-- where two tests hold, the first one does
left_true : (a b : Bool) → a && b ≡ true → a ≡ true
left_true true b e = refl
left_true false b e = e

-- a number that stands there is no larger than was asked
pub number_most : (line : List ℕ) (at most : ℕ) {n end : ℕ} → number_at line at most ≡ Some (n, end) → n ≤ most
unfolding number_at begins_with_number
number_most line at most {n} {end} = by_test (begins_with_number (drop at line) most) refl
  where
    by_test : (b : Bool) → begins_with_number (drop at line) most ≡ b → then_some {T = ℕ × ℕ} b (value 0 (digits (drop at line)), at + length (digits (drop at line))) ≡ Some (n, end) → n ≤ most
    by_test true e h =
        let both : ◌≡◌ {A = ℕ × ℕ} (value 0 (digits (drop at line)), at + length (digits (drop at line))) (n, end) = cc in
        let v : value 0 (digits (drop at line)) ≡ n = ap (λ (p : ℕ × ℕ). p.0) both in
        omega (arith, leb-true (value 0 (digits (drop at line))) most (left_true _ _ e))
    by_test false e h = let z : ◌≡◌ {A = ℕ} 0 1 = cc in omega arith
