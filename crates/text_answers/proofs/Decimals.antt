-- Laws of decimal digits: how they begin and end, and how many there can be.
use Prim.Native.Nat.{ℕ, zero, suc, ◌+◌, ◌/◌, ◌%◌, ◌^◌, ◌≤◌, ◌<◌}
use mathlib.Core.Path.{◌≡◌, refl, ap}
use mathlib.Core.Bool.{Bool, true, false, cond}
use mathlib.Core.List.{List, [], ◌∷◌, ◌++◌, append_assoc}
use native.Mathlib.Omega.{arith}
use lib.ListN.{length, get_or, length-append}
use lib.Dec.{ltb}
use borrow.Author.Tests.{lt-ltb, le-ltb, ltb-true, ltb-false}
use Rattle.text_answers.specs.Texts.{last_digits, decimal}

-- a one-digit number ends there; another one has its last digit after the rest
by_test : (n : ℕ) (rest rest' : List ℕ) (b : Bool) → ltb n 10 ≡ b → (10 ≤ n → rest ≡ rest') → cond b ((48 + n) ∷ []) (rest ++ (48 + n % 10) ∷ []) ≡ cond b ((48 + n) ∷ []) (rest' ++ (48 + n % 10) ∷ [])
by_test n rest rest' true e f = refl
by_test n rest rest' false e f = ap (λ (ds : List ℕ). ds ++ (48 + n % 10) ∷ []) (f (ltb-false n 10 e))

-- more digits than n never change it
enough : (many more n : ℕ) → n < many → n < more → last_digits many n ≡ last_digits more n
unfolding last_digits
enough zero more n h k = absurd (omega arith)
enough (suc many) zero n h k = absurd (omega arith)
enough (suc many) (suc more) n h k =
    by_test n (last_digits many (n / 10)) (last_digits more (n / 10)) (ltb n 10) refl
    (λ ten. enough many more (n / 10) (omega arith) (omega arith))

pub decimal_one : (n : ℕ) → n < 10 → decimal n ≡ (48 + n) ∷ []
unfolding decimal last_digits
decimal_one n h = simp (lt-ltb _ _ h)

pub decimal_more : (n : ℕ) → 10 ≤ n → decimal n ≡ decimal (n / 10) ++ (48 + n % 10) ∷ []
unfolding decimal last_digits
decimal_more n h =
    simp (le-ltb _ _ h)
    (ap (λ (ds : List ℕ). ds ++ (48 + n % 10) ∷ []) (enough n (suc (n / 10)) (n / 10) (omega arith) (omega arith)))

-- a number below 10^(k + 1) has at most k + 1 digits
pub decimal_fits : (k n : ℕ) → n < 10 ^ suc k → length (decimal n) ≤ suc k
decimal_fits zero n h = let one = ap length (decimal_one n (omega arith)) in omega arith
decimal_fits (suc k) n h = by_size (ltb n 10) refl (λ lt. decimal_fits k (n / 10) lt)
  where
    by_size : (b : Bool) → ltb n 10 ≡ b → (n / 10 < 10 ^ suc k → length (decimal (n / 10)) ≤ suc k) → length (decimal n) ≤ suc (suc k)
    by_size true e f = let one = ap length (decimal_one n (ltb-true n 10 e)) in omega arith
    by_size false e f =
        let more = simp length-append at (ap length (decimal_more n (ltb-false n 10 e))) in
        let rest = f (omega arith) in
        omega arith

-- so a number of 32 bits has at most 9 before its last
pub tenth_fits : (n : ℕ) → n < 2 ^ 32 → length (decimal (n / 10)) ≤ 9
tenth_fits n h = decimal_fits 8 (n / 10) (omega arith)

-- whatever stands after them, the digits come first
digit_first : (many n d : ℕ) (rest : List ℕ) → d < 10 → get_or (last_digits many n ++ (48 + d) ∷ rest) 0 0 < 58
unfolding last_digits
digit_first zero n d rest h = omega arith
digit_first (suc many) n d rest h = by_size (ltb n 10) refl (digit_first many (n / 10) (n % 10) ((48 + d) ∷ rest) (omega arith))
  where
    by_size : (b : Bool) → ltb n 10 ≡ b → get_or (last_digits many (n / 10) ++ (48 + n % 10) ∷ (48 + d) ∷ rest) 0 0 < 58
        → get_or (cond b ((48 + n) ∷ []) (last_digits many (n / 10) ++ (48 + n % 10) ∷ []) ++ (48 + d) ∷ rest) 0 0 < 58
    by_size true e f = omega (arith, ltb-true n 10 e)
    by_size false e f = rw append_assoc f

-- so a text that begins with a number begins with a digit
pub decimal_first : (n : ℕ) (rest : List ℕ) → get_or (decimal n ++ rest) 0 0 < 58
unfolding decimal last_digits
decimal_first n rest = by_size (ltb n 10) refl
  where
    by_size : (t : Bool) → ltb n 10 ≡ t → get_or (cond t ((48 + n) ∷ []) (last_digits n (n / 10) ++ (48 + n % 10) ∷ []) ++ rest) 0 0 < 58
    by_size true e = omega (arith, ltb-true n 10 e)
    by_size false e = rw append_assoc (digit_first n (n / 10) (n % 10) rest (omega arith))
