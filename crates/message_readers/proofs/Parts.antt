-- The walks over a part, while they go on: what the whole part gives is what is left of it gives.
use Prim.Native.Nat.{ℕ, ◌+◌, ◌-◌, ◌≤◌, ◌<◌}
use mathlib.Core.Path.{◌≡◌, refl, sym, ap, ◌∙◌}
use mathlib.Core.Bool.{Bool, true, false, cond, not, ◌&&◌, and-true, and-false, false≢true}
use mathlib.Core.List.{List, [], ◌∷◌}
use lib.ListN.{length}
use lib.Dec.{eqb}
use native.Mathlib.Omega.{arith}
use borrow.Author.Tests.{eq-eqb, ne_eqb}
use Rattle.std.specs.Prelude.{Result, Ok, Err, Option, Some, None}
use Rattle.std.specs.Option.{is_some}
use Rattle.rules.specs.declared.Refusal.{Refusal}
use Rattle.rules.specs.declared.Refusal.TheVariants.{Malformed}
use Rattle.rules.specs.Table.{refuse}
use Rattle.rules.specs.Numbers.{number_given}
use Rattle.message_format.specs.Format.{prefixes_fit, four_bytes, type_of, value_from, value_size, after_attribute, attribute_fits, attributes_fit, next_hops, at_most_one, attributes_good, first_hop, next_hop}
use Rattle.message_format.proofs.Walks.{with_hop, after_prefix_later, after_attribute_later, fit_none, fit_next, attributes_none, attributes_next, hops_none, hops_next}
use Rattle.message_cursors.specs.declared.Cursor.{Cursor}
use Rattle.message_cursors.specs.declared.PrefixRead.{PrefixRead}
use Rattle.message_cursors.specs.declared.AttributeRead.{AttributeRead}
use Rattle.message_cursors.specs.Steps.{read_prefix, next_prefix, read_attribute, next_attribute}
use Rattle.message_cursors.proofs.Steps.{Moved, prefix_told, attribute_told, value_inside}
use Rattle.message_readers.specs.Readings.{given, hop_read}

-- ---- Prefixes

pub record Going (bytes : List ℕ) (from to : ℕ) (rest : Cursor) : Type 0 where
  pub inside : to ≤ length bytes
  pub same_end : rest.end ≡ to
  pub same : prefixes_fit bytes from to ≡ prefixes_fit bytes rest.at rest.end

module _ (bytes : List ℕ) (from to : ℕ) {rest : Cursor} (g : Going bytes from to rest) where
  within : rest.end ≤ length bytes
  within = rw g.same_end g.inside

  module _ {read : PrefixRead} (read_so : next_prefix bytes rest ≡ Ok (Some read)) where
    pub goes_on : Going bytes from to read.rest
    unfolding read_prefix
    goes_on =
        let m = prefix_told bytes rest within read_so in
        rw m.read (record {
          inside = g.inside;
          same_end = g.same_end;
          same = g.same ∙ fit_next bytes rest.at rest.end m.more ∙ rw m.fits;
        })

    pub goes_less : to - read.rest.at < to - rest.at
    unfolding read_prefix
    goes_less =
        let m = prefix_told bytes rest within read_so in
        let more = m.more in
        rw m.read (omega (arith, after_prefix_later bytes rest.at, g.same_end, more))

  pub all_read : next_prefix bytes rest ≡ Ok None → prefixes_fit bytes from to ≡ true
  all_read over = g.same ∙ fit_none bytes rest.at rest.end (prefix_told bytes rest within over)

  pub one_unfit : {e : Refusal} → next_prefix bytes rest ≡ Err e → (e ≡ Malformed) × (prefixes_fit bytes from to ≡ false)
  one_unfit fault =
      let m = prefix_told bytes rest within fault in
      (m.0, g.same ∙ fit_next bytes rest.at rest.end m.1.0 ∙ rw m.1.1)

-- ---- Attributes

-- none is left
abbrev empty : List ℕ → Bool
empty [] = true
empty (at ∷ hops) = false

-- what the rest of the attributes gives, after what was found before it
unfoldable pub hop_from : Option ℕ → (bytes : List ℕ) (at end : ℕ) → Result (Option ℕ) Refusal
hop_from None bytes at end = hop_read bytes at end
hop_from (Some address) bytes at end =
    cond (attributes_fit bytes at end && empty (next_hops bytes at end)) (Ok (Some address)) (Err Malformed)

-- a NEXT_HOP before others
one_more : (bytes : List ℕ) (at : ℕ) (hops : List ℕ) → at_most_one bytes (at ∷ hops) ≡ (empty hops && eqb (value_size bytes at) 4)
unfolding at_most_one
one_more bytes at [] = refl
one_more bytes at (another ∷ hops) = refl

module _ (bytes : List ℕ) (at end : ℕ) where
  nothing_left : (found : Option ℕ) → end ≤ at → hop_from found bytes at end ≡ Ok found
  unfolding hop_from hop_read attributes_good next_hop given at_most_one first_hop
  nothing_left None e = rw (attributes_none bytes at end e, hops_none bytes at end e)
  nothing_left (Some address) e = rw (attributes_none bytes at end e, hops_none bytes at end e)

  module _ (more : at < end) where
    abbrev after : ℕ
    after = after_attribute bytes at

    unfit : (found : Option ℕ) → attribute_fits bytes at end ≡ false → hop_from found bytes at end ≡ Err Malformed
    unfolding hop_from hop_read attributes_good
    unfit None f = rw (attributes_next bytes at end more, f)
    unfit (Some address) f = rw (attributes_next bytes at end more, f)

    module _ (fits : attribute_fits bytes at end ≡ true) where
      stepped_over : (found : Option ℕ) → (type_of bytes at ≡ 3 → ⊥) → hop_from found bytes at end ≡ hop_from found bytes after end
      unfolding hop_from hop_read attributes_good next_hop with_hop
      stepped_over None other = rw (attributes_next bytes at end more, hops_next bytes at end more, fits, ne_eqb _ _ other)
      stepped_over (Some address) other = rw (attributes_next bytes at end more, hops_next bytes at end more, fits, ne_eqb _ _ other)

      module _ (is_hop : type_of bytes at ≡ 3) where
        abbrev left : List ℕ
        left = next_hops bytes after end

        abbrev fit : Bool
        fit = attributes_fit bytes after end

        second : (address : ℕ) → hop_from (Some address) bytes at end ≡ Err Malformed
        unfolding hop_from with_hop
        second address =
            rw (attributes_next bytes at end more, hops_next bytes at end more, fits, eq-eqb _ _ is_hop, and-false fit)

        size_not_4 : (found : Option ℕ) → (value_size bytes at ≡ 4 → ⊥) → hop_from found bytes at end ≡ Err Malformed
        unfolding hop_from hop_read attributes_good next_hop with_hop
        size_not_4 None ne =
            rw (attributes_next bytes at end more, hops_next bytes at end more, fits, eq-eqb _ _ is_hop, one_more bytes at left, ne_eqb _ _ ne, and-false (empty left), and-false fit)
        size_not_4 (Some address) ne = second address

        first : value_size bytes at ≡ 4 → hop_from None bytes at end ≡ hop_from (Some (four_bytes bytes (value_from bytes at))) bytes after end
        unfolding hop_from hop_read attributes_good next_hop with_hop first_hop given
        first e =
            rw (attributes_next bytes at end more, hops_next bytes at end more, fits, eq-eqb _ _ is_hop, one_more bytes at left, eq-eqb _ _ e, and-true (empty left))

-- its type is the kind that was read
type : (bytes : List ℕ) {rest : Cursor} {read : AttributeRead} → Moved rest (attribute_fits bytes rest.at rest.end) (read_attribute bytes rest) read
    → read.kind ≡ 3 → type_of bytes rest.at ≡ 3
unfolding read_attribute
type bytes m is_hop = sym (ap (λ (r : AttributeRead). r.kind) m.read) ∙ is_hop

-- the whole gives what is left of it gives
pub record Looking (bytes : List ℕ) (from to : ℕ) (rest : Cursor) (found : Option ℕ) : Type 0 where
  pub same_end : rest.end ≡ to
  pub same : hop_read bytes from to ≡ hop_from found bytes rest.at rest.end

module _ (bytes : List ℕ) (from to : ℕ) {rest : Cursor} {found : Option ℕ} (l : Looking bytes from to rest found) where
  module _ {read : AttributeRead} (m : Moved rest (attribute_fits bytes rest.at rest.end) (read_attribute bytes rest) read) (is_hop : read.kind ≡ 3) where
    pub two_hops : {address : ℕ} → found ≡ Some address → hop_read bytes from to ≡ Err Malformed
    two_hops e = l.same ∙ rw e (second bytes rest.at rest.end m.more m.fits (type bytes m is_hop) _)

-- and the part lies in the bytes
pub record LookingInside (bytes : List ℕ) (from to : ℕ) (rest : Cursor) (found : Option ℕ) : Type 0 where
  pub inside : to ≤ length bytes
  pub looks : Looking bytes from to rest found

module _ (bytes : List ℕ) (from to : ℕ) {rest : Cursor} {found : Option ℕ} (i : LookingInside bytes from to rest found) where
  lies : rest.end ≤ length bytes
  lies = rw i.looks.same_end i.inside

  pub none_left : next_attribute bytes rest ≡ Ok None → hop_read bytes from to ≡ Ok found
  none_left over = i.looks.same ∙ nothing_left bytes rest.at rest.end found (attribute_told bytes rest lies over)

  pub one_broken : {e : Refusal} → next_attribute bytes rest ≡ Err e → hop_read bytes from to ≡ Err e
  one_broken fault =
      let m = attribute_told bytes rest lies fault in
      i.looks.same ∙ unfit bytes rest.at rest.end m.1.0 found m.1.1 ∙ ap Err (sym m.0)

  module _ {read : AttributeRead} (read_so : next_attribute bytes rest ≡ Ok (Some read)) where
    moved : Moved rest (attribute_fits bytes rest.at rest.end) (read_attribute bytes rest) read
    moved = attribute_told bytes rest lies read_so

    pub looks_less : to - read.rest.at < to - rest.at
    unfolding read_attribute
    looks_less =
        let more = moved.more in
        rw moved.read (omega (arith, after_attribute_later bytes rest.at, i.looks.same_end, more))

    pub four_inside : read.size ≡ 4 → read.from + 4 ≤ length bytes
    four_inside four = value_inside bytes rest moved four lies

    pub not_hop : (read.kind ≡ 3 → ⊥) → LookingInside bytes from to read.rest found
    unfolding read_attribute
    not_hop other =
        let kind = ap (λ (r : AttributeRead). r.kind) moved.read in
        rw moved.read (record {
          inside = i.inside;
          looks = record {
            same_end = i.looks.same_end;
            same = i.looks.same ∙ stepped_over bytes rest.at rest.end moved.more moved.fits found (λ e. other (kind ∙ e));
          };
        })

    module _ (is_hop : read.kind ≡ 3) where
      sized : read.size ≡ value_size bytes rest.at
      unfolding read_attribute
      sized = ap (λ (r : AttributeRead). r.size) moved.read

      pub wrong_size : (read.size ≡ 4 → ⊥) → hop_read bytes from to ≡ Err Malformed
      wrong_size ne = i.looks.same ∙ size_not_4 bytes rest.at rest.end moved.more moved.fits (type bytes moved is_hop) found (λ e. ne (sized ∙ e))

      pub another_hop : is_some found ≡ true → hop_read bytes from to ≡ Err Malformed
      another_hop is = go found refl
        where
          go : (o : Option ℕ) → found ≡ o → hop_read bytes from to ≡ Err Malformed
          go None e = absurd (false≢true (rw e at is))
          go (Some address) e = two_hops bytes from to i.looks moved is_hop e

      pub one_hop : is_some found ≡ false → read.size ≡ 4 → {address : ℕ} → address ≡ four_bytes bytes read.from → LookingInside bytes from to read.rest (Some address)
      unfolding read_attribute
      one_hop is four {address} here = go found refl
        where
          go : (o : Option ℕ) → found ≡ o → LookingInside bytes from to read.rest (Some address)
          go (Some other) e = absurd (false≢true (sym is ∙ ap is_some e))
          go None e =
              rw (here, moved.read) (record {
                inside = i.inside;
                looks = record {
                  same_end = i.looks.same_end;
                  same = i.looks.same ∙ rw e (first bytes rest.at rest.end moved.more moved.fits (type bytes moved is_hop) (sym sized ∙ four));
                };
              })

-- ---- What the answer means, and what it tells

module _ (bytes : List ℕ) (at end : ℕ) where
  -- Attributes are refused with 12 exactly where they are not well-formed.
  pub attributes_refused : number_given (hop_read bytes at end) ≡ refuse (not (attributes_good bytes at end)) 12 0
  unfolding hop_read refuse
  attributes_refused = go (attributes_good bytes at end)
    where
      go : (good : Bool) → number_given {A = Option ℕ} (cond good (Ok (given (next_hop bytes at end))) (Err Malformed)) ≡ cond (not good) 12 0
      go true = refl
      go false = refl

  pub hop_told : {next : Option ℕ} → hop_read bytes at end ≡ Ok next → (attributes_good bytes at end ≡ true) × (given (next_hop bytes at end) ≡ next)
  unfolding hop_read
  hop_told {next} read = go (attributes_good bytes at end) read
    where
      go : (good : Bool) → cond good (Ok (given (next_hop bytes at end))) (Err Malformed) ≡ Ok next → (good ≡ true) × (given (next_hop bytes at end) ≡ next)
      go true is = (refl, cc)
      go false is = absurd (cc)
