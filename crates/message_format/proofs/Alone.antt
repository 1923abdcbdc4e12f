-- Reading never depends on what stands outside the part: bytes that agree within it are read alike.
use Prim.Native.Nat.{ℕ, ◌+◌, ◌≤◌, ◌<◌}
use mathlib.Core.Path.{◌≡◌, refl, sym, ap, ◌∙◌}
use mathlib.Core.Bool.{Bool, true, false, cond, ◌&&◌, false≢true}
use mathlib.Core.List.{List, [], ◌∷◌, ◌++◌}
use native.Mathlib.Omega.{arith}
use lib.Dec.{ltb, leb, eqb}
use lib.ListN.{length, get_or-append}
use borrow.Author.Tests.{ltb-true, leb-true, eqb-true}
use Rattle.rules.proofs.Members.{both}
use Rattle.message_format.specs.Format.{byte, from_octets, two_bytes, four_bytes, bytes_for, octet, address_at, prefix_from, after_prefix, prefix_fits, prefixes_fit, prefixes, extended, type_of, value_from, value_size, after_attribute, attribute_fits, attributes_fit, next_hops, at_most_one, attributes_good, first_hop, next_hop}
use Rattle.message_format.proofs.Walks.{by_steps, with_hop, after_prefix_later, value_later, after_attribute_later, fit_none, fit_next, prefixes_none, prefixes_next, attributes_none, attributes_next, hops_none, hops_next}

-- the bytes from a place up to an end are the same
abbrev pub Alike : (bytes other : List ℕ) (at end : ℕ) → Type 0
Alike bytes other at end = (i : ℕ) → at ≤ i → i < end → byte bytes i ≡ byte other i

-- what stands after a test needs to be the same only where the test holds
and_then : (a : Bool) {b c : Bool} → (a ≡ true → b ≡ c) → a && b ≡ (a && c)
and_then true same = same refl
and_then false same = refl

only_where : (a : Bool) {b c : ℕ} → (a ≡ true → b ≡ c) → cond a b 0 ≡ cond a c 0
only_where true same = same refl
only_where false same = refl

module _ (bytes other : List ℕ) (end : ℕ) where
  later : {at next : ℕ} → at < next → Alike bytes other at end → Alike bytes other next end
  later on alike i low high = alike i (omega arith) high

  -- ---- Prefixes

  module _ {at : ℕ} (inside : at < end) (alike : Alike bytes other at end) where
    same_length : byte bytes at ≡ byte other at
    same_length = alike at (omega arith) inside

    same_next : after_prefix bytes at ≡ after_prefix other at
    unfolding after_prefix
    same_next = rw same_length

    same_fits : prefix_fits bytes at end ≡ prefix_fits other at end
    unfolding prefix_fits
    same_fits = rw (same_length, same_next)

    same_octet : after_prefix bytes at ≤ end → (i : ℕ) → octet bytes (at + 1) (byte bytes at) i ≡ octet other (at + 1) (byte bytes at) i
    unfolding after_prefix octet
    same_octet ends i = only_where (ltb i (bytes_for (byte bytes at))) (λ has. alike (at + 1 + i) (omega arith) (omega (arith, ltb-true i (bytes_for (byte bytes at)) has)))

    same_prefix : prefix_fits bytes at end ≡ true → prefix_from bytes at ≡ prefix_from other at
    unfolding prefix_fits prefix_from address_at
    same_prefix fits =
        let octets = same_octet (leb-true _ _ (both (leb (byte bytes at) 32) _ fits).1) in
        rw (← same_length, octets 0, octets 1, octets 2, octets 3)

  -- Whether prefixes fit depends on their part alone.
  pub fit_alone : (at : ℕ) → Alike bytes other at end → prefixes_fit bytes at end ≡ prefixes_fit other at end
  fit_alone = by_steps end (after_prefix bytes) (after_prefix_later bytes) (λ at. Alike bytes other at end → prefixes_fit bytes at end ≡ prefixes_fit other at end)
      (λ at past alike. fit_none bytes at end past ∙ sym (fit_none other at end past))
      (λ at inside rest alike.
      fit_next bytes at end inside
      ∙ rw (same_fits inside alike, rest (later (after_prefix_later bytes at) alike), same_next inside alike)
      (sym (fit_next other at end inside)))

  -- So do the prefixes, where they fit.
  pub prefixes_alone : (at : ℕ) → Alike bytes other at end → prefixes_fit bytes at end ≡ true → prefixes bytes at end ≡ prefixes other at end
  prefixes_alone = by_steps end (after_prefix bytes) (after_prefix_later bytes)
      (λ at. Alike bytes other at end → prefixes_fit bytes at end ≡ true → prefixes bytes at end ≡ prefixes other at end)
      (λ at past alike fit. prefixes_none bytes at end past ∙ sym (prefixes_none other at end past))
      (λ at inside rest alike fit.
      let fits = both (prefix_fits bytes at end) _ (sym (fit_next bytes at end inside) ∙ fit) in
      prefixes_next bytes at end inside
      ∙ rw (same_prefix inside alike fits.0, rest (later (after_prefix_later bytes at) alike) fits.1, same_next inside alike)
      (sym (prefixes_next other at end inside)))

  -- ---- Attributes

  module _ {at : ℕ} (inside : at < end) (alike : Alike bytes other at end) where
    same_extended : extended bytes at ≡ extended other at
    unfolding extended
    same_extended = rw (alike at (omega arith) inside)

    same_from : value_from bytes at ≡ value_from other at
    unfolding value_from
    same_from = rw same_extended

    same_size : value_from bytes at ≤ end → value_size bytes at ≡ value_size other at
    unfolding value_from value_size two_bytes
    same_size room = rw (← same_extended) (go (extended bytes at) room)
      where
        go : (long : Bool) → at + cond long 4 3 ≤ end
            → cond long (from_octets 0 0 (byte bytes (at + 2)) (byte bytes (at + 2 + 1))) (byte bytes (at + 2))
            ≡ cond long (from_octets 0 0 (byte other (at + 2)) (byte other (at + 2 + 1))) (byte other (at + 2))
        go true room = rw (alike (at + 2) (omega arith) (omega arith), alike (at + 2 + 1) (omega arith) (omega arith))
        go false room = alike (at + 2) (omega arith) (omega arith)

    same_after : value_from bytes at ≤ end → after_attribute bytes at ≡ after_attribute other at
    unfolding after_attribute
    same_after room = rw (same_from, same_size room)

    same_attribute : attribute_fits bytes at end ≡ attribute_fits other at end
    unfolding attribute_fits
    same_attribute = rw (← same_from) (and_then (leb (value_from bytes at) end) (λ room. rw (same_after (leb-true _ _ room))))

    fitted : attribute_fits bytes at end ≡ true → (value_from bytes at ≤ end) × (after_attribute bytes at ≤ end)
    unfolding attribute_fits
    fitted fits = let parts = both (leb (value_from bytes at) end) _ fits in (leb-true _ _ parts.0, leb-true _ _ parts.1)

    same_type : value_from bytes at ≤ end → type_of bytes at ≡ type_of other at
    unfolding type_of
    same_type room = alike (at + 1) (omega arith) (omega (arith, value_later bytes at))

  -- Whether attributes fit depends on their part alone.
  pub attributes_alone : (at : ℕ) → Alike bytes other at end → attributes_fit bytes at end ≡ attributes_fit other at end
  attributes_alone = by_steps end (after_attribute bytes) (after_attribute_later bytes) (λ at. Alike bytes other at end → attributes_fit bytes at end ≡ attributes_fit other at end)
      (λ at past alike. attributes_none bytes at end past ∙ sym (attributes_none other at end past))
      (λ at inside rest alike. rw (attributes_next bytes at end inside, attributes_next other at end inside, ← same_attribute inside alike)
      (and_then (attribute_fits bytes at end) (λ fits.
      rw (← same_after inside alike (fitted inside alike fits).0) (rest (later (after_attribute_later bytes at) alike)))))

  -- the same places of NEXT_HOPs, of which the first is read alike
  record Hops (hops others : List ℕ) : Type 0 where
    same : hops ≡ others
    good : at_most_one bytes hops ≡ at_most_one other hops
    first : at_most_one bytes hops ≡ true → first_hop bytes hops ≡ first_hop other hops

  -- one NEXT_HOP more in front
  module _ {at : ℕ} (inside : at < end) (alike : Alike bytes other at end) (room : value_from bytes at ≤ end) (ends : after_attribute bytes at ≤ end) where
    good_more : (hops : List ℕ) → at_most_one bytes (at ∷ hops) ≡ at_most_one other (at ∷ hops)
    unfolding at_most_one
    good_more [] = rw (same_size inside alike room)
    good_more (another ∷ hops) = refl

    first_more : (hops : List ℕ) → at_most_one bytes (at ∷ hops) ≡ true → first_hop bytes (at ∷ hops) ≡ first_hop other (at ∷ hops)
    unfolding at_most_one first_hop four_bytes after_attribute
    first_more [] four =
        let size = eqb-true (value_size bytes at) 4 four in
        let from = value_from bytes at in
        let low = value_later bytes at in
        rw (
          ← same_from inside alike,
          alike from (omega arith) (omega arith),
          alike (from + 1) (omega arith) (omega arith),
          alike (from + 2) (omega arith) (omega arith),
          alike (from + 3) (omega arith) (omega arith),
        )
    first_more (another ∷ hops) four = absurd (false≢true four)

    with_more : {hops others : List ℕ} → Hops hops others → Hops (with_hop bytes at hops) (with_hop other at others)
    unfolding with_hop
    with_more {hops} {others} rest = rw (← same_type inside alike room) (go (eqb (type_of bytes at) 3))
      where
        go : (is : Bool) → Hops (cond is (at ∷ hops) hops) (cond is (at ∷ others) others)
        go true = record { same = ap (λ places. at ∷ places) rest.same; good = good_more hops; first = first_more hops }
        go false = rest

  no_hops : Hops [] []
  unfolding at_most_one first_hop
  no_hops = record { same = refl; good = refl; first = λ good. refl }

  hops_alone : (at : ℕ) → Alike bytes other at end → attributes_fit bytes at end ≡ true → Hops (next_hops bytes at end) (next_hops other at end)
  hops_alone = by_steps end (after_attribute bytes) (after_attribute_later bytes)
      (λ at. Alike bytes other at end → attributes_fit bytes at end ≡ true → Hops (next_hops bytes at end) (next_hops other at end))
      (λ at past alike fit. rw (hops_none bytes at end past, hops_none other at end past) no_hops)
      (λ at inside rest alike fit.
      let fits = both (attribute_fits bytes at end) _ (sym (attributes_next bytes at end inside) ∙ fit) in
      let ends = fitted inside alike fits.0 in
      rw (hops_next bytes at end inside, hops_next other at end inside, ← same_after inside alike ends.0)
      (with_more inside alike ends.0 ends.1 (rest (later (after_attribute_later bytes at) alike) fits.1)))

  module _ (at : ℕ) (alike : Alike bytes other at end) where
    -- So does whether they are well-formed,
    pub good_alone : attributes_good bytes at end ≡ attributes_good other at end
    unfolding attributes_good
    good_alone = rw (← attributes_alone at alike)
        (and_then (attributes_fit bytes at end) (λ fit. let read = hops_alone at alike fit in rw (← read.same) read.good))

    -- and, where they are, what address they give.
    pub next_hop_alone : attributes_good bytes at end ≡ true → next_hop bytes at end ≡ next_hop other at end
    unfolding attributes_good next_hop
    next_hop_alone good =
        let parts = both (attributes_fit bytes at end) _ good in
        let read = hops_alone at alike parts.0 in
        rw (← read.same) (read.first parts.1)

-- ---- What stands after the part

module _ (bytes more : List ℕ) (at end : ℕ) (within : end ≤ length bytes) where
  appended : Alike bytes (bytes ++ more) at end
  unfolding byte
  appended i low high = sym (get_or-append bytes more 0 i (omega arith))

  -- What is appended after a part changes nothing in it.
  pub fit_appended : prefixes_fit (bytes ++ more) at end ≡ prefixes_fit bytes at end
  fit_appended = sym (fit_alone bytes (bytes ++ more) end at appended)

  pub prefixes_appended : prefixes_fit bytes at end ≡ true → prefixes (bytes ++ more) at end ≡ prefixes bytes at end
  prefixes_appended fit = sym (prefixes_alone bytes (bytes ++ more) end at appended fit)

  pub good_appended : attributes_good (bytes ++ more) at end ≡ attributes_good bytes at end
  good_appended = sym (good_alone bytes (bytes ++ more) end at appended)

  pub next_hop_appended : attributes_good bytes at end ≡ true → next_hop (bytes ++ more) at end ≡ next_hop bytes at end
  next_hop_appended good = sym (next_hop_alone bytes (bytes ++ more) end at appended good)
