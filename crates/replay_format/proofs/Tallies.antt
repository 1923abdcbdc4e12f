-- A tally that a replay leaves is what its 23 words mean, and its figure for a number stands at the place of that number: it has a
-- figure for each number, which is computed.
use Prim.Native.Nat.{ℕ, zero, suc, ◌+◌, ◌<◌}
use mathlib.Core.Path.{◌≡◌, refl, ap, ◌∙◌}
use mathlib.Core.Bool.{Bool}
use mathlib.Core.List.{List, [], ◌∷◌, map}
use native.Mathlib.Omega.{arith}
use lib.ListN.{length, get_or}
use Rattle.replay_format.specs.declared.Tally.{Tally}
use Rattle.replay_format.specs.Replaying.{numbers, tally_more, tally_of, tally_words}

-- ---- Lists by their places

-- the values at the first so many places
abbrev pub values : (n : ℕ) (value : ℕ → ℕ) → List ℕ
values zero value = []
values (suc n) value = value 0 ∷ values n (λ i. value (suc i))

-- a list of so many elements is those, one after the other
pub elements : (n : ℕ) (list : List ℕ) → length list ≡ n → values n (λ i. get_or list i 0) ≡ list
elements zero [] h = refl
elements zero (b ∷ list) h = absurd (omega arith)
elements (suc n) [] h = absurd (omega arith)
elements (suc n) (b ∷ list) h = ap (λ (rest : List ℕ). b ∷ rest) (elements n list (omega arith))

-- ---- Words and tallies

-- 23 words are those of the tally that they mean
pub words_again : (words : List ℕ) → length words ≡ 23 → tally_words (tally_of words) ≡ words
unfolding tally_of tally_words
words_again = elements 23

pub words_meant : (words : List ℕ) → tally_of (tally_words (tally_of words)) ≡ tally_of words
unfolding tally_of tally_words
words_meant words = refl

pub more_meant : (earlier : Tally) (applied : Bool) (answers : List ℕ)
    → tally_of (tally_words (tally_more earlier applied answers)) ≡ tally_more earlier applied answers
unfolding tally_of tally_words tally_more
more_meant earlier applied answers = refl

-- ---- The figures for refused routes

-- so many numbers, one after the other
up_from : (many first : ℕ) → List ℕ
up_from zero first = []
up_from (suc many) first = first ∷ up_from many (first + 1)

up_at : (f : ℕ → ℕ) (many first place : ℕ) → place < many → get_or (map f (up_from many first)) place 0 ≡ f (first + place)
unfolding up_from
up_at f zero first place low = absurd (omega arith)
up_at f (suc many) first zero low = ap f (omega arith)
up_at f (suc many) first (suc place) low = up_at f many (first + 1) place (omega arith) ∙ ap f (omega arith)

-- What is told of every number stands at its place.
pub at_number : (f : ℕ → ℕ) (number : ℕ) → number < 20 → get_or (map f numbers) number 0 ≡ f number
unfolding up_from
at_number f number low = up_at f 20 0 number low ∙ ap f (omega arith)
