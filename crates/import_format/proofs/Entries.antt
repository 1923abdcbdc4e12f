-- The entries of a record, one after the other: none ends before it starts, so that past the record's end there is no way back.
use Prim.Native.Nat.{ℕ, zero, suc, ◌+◌, ◌-◌, ◌≤◌, ◌<◌}
use mathlib.Core.Path.{◌≡◌, refl}
use mathlib.Core.Bool.{Bool, true, false, cond, and-false}
use mathlib.Core.List.{List, [], ◌∷◌}
use mathlib.Core.Option.{some}
use native.Mathlib.Numerals.{sub-one}
use native.Mathlib.Omega.{arith}
use lib.Dec.{leb, eqb}
use lib.ListN.{length}
use borrow.Author.Tests.{leb-true, ne_eqb}
use Rattle.message_format.specs.Format.{byte}
use Rattle.message_format.specs.Reading.{is_hop}
use Rattle.import_format.specs.Routes.{route_from, entries_count, entries_from, entry_attributes, after_entry, entry_starts, entries_to, entries, ends_well, record_good, entry_hop, chosen_hop}

module _ (bytes : List ℕ) where
  -- ---- Where entries end

  -- an entry has eight bytes before its attributes
  pub entry_later : (at : ℕ) → at + 8 ≤ after_entry bytes at
  unfolding after_entry entry_attributes
  entry_later at = omega arith

  -- entries end where the first one starts, or later
  pub entries_later : (many at : ℕ) → at ≤ entries_to bytes many at
  unfolding entries_to
  entries_later zero at = omega arith
  entries_later (suc many) at = omega (arith, entry_later at, entries_later many (after_entry bytes at))

  -- where one starts past the end of the record, the last one does not end there
  pub overrun : (many at : ℕ) → length bytes < at → eqb (entries_to bytes many at) (length bytes) ≡ false
  overrun many at past = ne_eqb _ _ (λ (e : entries_to bytes many at ≡ length bytes). omega (arith, entries_later many at))

  -- ---- One entry more

  pub starts_next : (many at : ℕ) → 0 < many → entry_starts bytes many at ≡ at ∷ entry_starts bytes (many - 1) (after_entry bytes at)
  unfolding entry_starts
  starts_next zero at more = absurd (omega arith)
  starts_next (suc many) at more = rw sub-one

  pub to_next : (many at : ℕ) → 0 < many → entries_to bytes many at ≡ entries_to bytes (many - 1) (after_entry bytes at)
  unfolding entries_to
  to_next zero at more = absurd (omega arith)
  to_next (suc many) at more = rw sub-one

  -- ---- A whole record

  -- one that ends before its first entry starts is not well-formed
  pub cut_short : length bytes < entries_from bytes → record_good bytes ≡ false
  unfolding record_good ends_well
  cut_short short = rw (overrun (entries_count bytes) (entries_from bytes) short, and-false (leb (byte bytes route_from) 32))

-- ---- The hop

-- the hop of entries is a place up to 65,535
pub chosen_fits : (bytes hops entries : List ℕ) {hop : ℕ} → chosen_hop bytes hops entries ≡ some hop → hop ≤ 65535
unfolding chosen_hop is_hop
chosen_fits bytes hops [] {hop} is = let one : ◌≡◌ {A = ℕ} 0 1 = cc in absurd (omega arith)
chosen_fits bytes hops (at ∷ entries) {hop} is = go (is_hop (entry_hop bytes hops at)) refl is (chosen_fits bytes hops entries)
  where
    go : (b : Bool) → is_hop (entry_hop bytes hops at) ≡ b → cond b (entry_hop bytes hops at) (chosen_hop bytes hops entries) ≡ some hop
        → (chosen_hop bytes hops entries ≡ some hop → hop ≤ 65535) → hop ≤ 65535
    go true fits is later = leb-true _ _ (rw is at fits)
    go false fits is later = later is
