-- A walk over a part, one step at a time: the prefixes of a part are none, or the first one and those of what is left; and
-- so the attributes. How many there may be at most, which the definitions count, is nowhere needed after this.
use Prim.Native.Nat.{ℕ, zero, suc, ◌+◌, ◌-◌, ◌≤◌, ◌<◌}
use mathlib.Core.Path.{◌≡◌, refl, sym, ◌∙◌}
use mathlib.Core.Bool.{Bool, true, false, cond, ◌&&◌}
use mathlib.Core.List.{List, [], ◌∷◌}
use native.Mathlib.Omega.{arith}
use lib.Dec.{ltb, eqb}
use borrow.Author.Tests.{ltb-true, ltb-false, lt-ltb, le-ltb}
use Rattle.rules.specs.Tools.{all, those}
use Rattle.message_format.specs.Format.{some_starts, starts, prefix_from, after_prefix, prefix_fits, prefixes_fit, prefixes, extended, type_of, value_from, after_attribute, attribute_fits, attributes_fit, next_hops}

-- a walk from a place to a later one, as long as the end is not reached
module _ (end : ℕ) (after : ℕ → ℕ) (later : (at : ℕ) → at < after at) where
  ended : (most at : ℕ) → end ≤ at → some_starts after most at end ≡ []
  unfolding some_starts
  ended zero at e = refl
  ended (suc most) at e = rw (le-ltb _ _ e)

  -- any number that is enough will do
  enough : (most many at : ℕ) → end ≤ at + most → end ≤ at + many → some_starts after most at end ≡ some_starts after many at end
  unfolding some_starts
  enough zero many at e f = sym (ended many at (omega arith))
  enough (suc most) zero at e f = ended (suc most) at (omega arith)
  enough (suc most) (suc many) at e f = rw (enough most many (after at) (omega (arith, later at)) (omega (arith, later at)))

  starts_none : (at : ℕ) → end ≤ at → starts after at end ≡ []
  unfolding starts
  starts_none at e = ended (end - at) at e

  starts_next : (at : ℕ) → at < end → starts after at end ≡ at ∷ starts after (after at) end
  unfolding starts some_starts
  starts_next at l =
      enough (end - at) (suc (end - (at + 1))) at (omega arith) (omega arith)
      ∙ rw (lt-ltb _ _ l, enough (end - (at + 1)) (end - after at) (after at) (omega (arith, later at)) (omega arith))

-- What holds past the end, and wherever it holds at the next place, holds at every place.
pub by_steps : (end : ℕ) (after : ℕ → ℕ) → ((at : ℕ) → at < after at) → (P : ℕ → Type 0)
    → ((at : ℕ) → end ≤ at → P at) → ((at : ℕ) → at < end → P (after at) → P at) → (at : ℕ) → P at
by_steps end after later P past on at = go (end - at) at (omega arith)
  where
    here : (at : ℕ) (inside : Bool) → ltb at end ≡ inside → P (after at) → P at
    here at true inside rest = on at (ltb-true _ _ inside) rest
    here at false ended rest = past at (ltb-false _ _ ended)

    go : (most at : ℕ) → end ≤ at + most → P at
    go zero at e = past at (omega arith)
    go (suc most) at e = here at (ltb at end) refl (go most (after at) (omega (arith, later at)))

-- a NEXT_HOP stands before those that follow; every other attribute is stepped over
unfoldable pub with_hop : (bytes : List ℕ) (at : ℕ) → List ℕ → List ℕ
with_hop bytes at others = cond (eqb (type_of bytes at) 3) (at ∷ others) others

module _ (bytes : List ℕ) where
  pub after_prefix_later : (at : ℕ) → at < after_prefix bytes at
  unfolding after_prefix
  after_prefix_later at = omega arith

  -- flags, type and length take three bytes or more
  pub value_later : (at : ℕ) → at + 3 ≤ value_from bytes at
  unfolding value_from
  value_later at = go (extended bytes at)
    where
      go : (long : Bool) → at + 3 ≤ at + cond long 4 3
      go true = omega arith
      go false = omega arith

  pub after_attribute_later : (at : ℕ) → at < after_attribute bytes at
  unfolding after_attribute
  after_attribute_later at = omega (arith, value_later at)

  module _ (at end : ℕ) where
    pub fit_none : end ≤ at → prefixes_fit bytes at end ≡ true
    unfolding prefixes_fit all
    fit_none e = rw (starts_none end (after_prefix bytes) after_prefix_later at e)

    pub fit_next : at < end → prefixes_fit bytes at end ≡ (prefix_fits bytes at end && prefixes_fit bytes (after_prefix bytes at) end)
    unfolding prefixes_fit all
    fit_next l = rw (starts_next end (after_prefix bytes) after_prefix_later at l)

    pub prefixes_none : end ≤ at → prefixes bytes at end ≡ []
    unfolding prefixes
    prefixes_none e = rw (starts_none end (after_prefix bytes) after_prefix_later at e)

    pub prefixes_next : at < end → prefixes bytes at end ≡ prefix_from bytes at ∷ prefixes bytes (after_prefix bytes at) end
    unfolding prefixes
    prefixes_next l = rw (starts_next end (after_prefix bytes) after_prefix_later at l)

    pub attributes_none : end ≤ at → attributes_fit bytes at end ≡ true
    unfolding attributes_fit all
    attributes_none e = rw (starts_none end (after_attribute bytes) after_attribute_later at e)

    pub attributes_next : at < end → attributes_fit bytes at end ≡ (attribute_fits bytes at end && attributes_fit bytes (after_attribute bytes at) end)
    unfolding attributes_fit all
    attributes_next l = rw (starts_next end (after_attribute bytes) after_attribute_later at l)

    pub hops_none : end ≤ at → next_hops bytes at end ≡ []
    unfolding next_hops those
    hops_none e = rw (starts_none end (after_attribute bytes) after_attribute_later at e)

    pub hops_next : at < end → next_hops bytes at end ≡ with_hop bytes at (next_hops bytes (after_attribute bytes at) end)
    unfolding next_hops those with_hop
    hops_next l = rw (starts_next end (after_attribute bytes) after_attribute_later at l)
