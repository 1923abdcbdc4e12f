-- A whole record, check by check; what an answer means, and what it tells.
use Prim.Native.Nat.{ℕ, ◌+◌, ◌^◌, ◌≤◌, ◌<◌}
use mathlib.Core.Path.{◌≡◌, refl, subst}
use mathlib.Core.Bool.{Bool, true, false, cond, not, ◌&&◌}
use mathlib.Core.List.{List, [], ◌∷◌}
use mathlib.Core.Option.{Option as Maybe, some, none}
use native.Mathlib.Omega.{arith}
use lib.Dec.{leb, eqb}
use lib.ListN.{length}
use lib.Pow.{are_bytes}
use borrow.Author.Tests.{leb-true, leb-false, le-leb}
use Rattle.std.specs.Prelude.{Option, Some, None, Result, Ok, Err}
use Rattle.rules.specs.declared.Refusal.{Refusal}
use Rattle.rules.specs.declared.Refusal.TheVariants.{Malformed}
use Rattle.rules.specs.Numbers.{number_given}
use Rattle.rules.specs.Tools.{all}
use Rattle.rules.specs.Table.{prefix, refuse}
use Rattle.rules.specs.Calls.{Add}
use Rattle.rules.proofs.Members.{both}
use Rattle.message_format.specs.Format.{Prefix, byte, prefix_from, after_prefix, prefix_fits}
use Rattle.message_format.proofs.Walks.{after_prefix_later}
use Rattle.message_format.proofs.Words.{prefix_small}
use Rattle.message_readers.specs.Readings.{place_hop}
use Rattle.import_format.specs.Routes.{route_from, entries_count, entries_from, entries, entry_starts, entries_to, entry_good, ends_well, record_good, chosen_hop, route_hop, record_calls}
use Rattle.import_format.proofs.Entries.{cut_short, chosen_fits}
use Rattle.import_format.proofs.Counting.{route_tight, route_short, calls_none, calls_one, route_fits}
use Rattle.import_readers.specs.declared.RouteRead.{RouteRead}
use Rattle.import_readers.specs.Records.{entries_read, route_with, record_read}

-- ---- A whole record, check by check

-- a prefix with what was read of the entries
unfoldable pub with_entries : Prefix → Result (Option ℕ) Refusal → Result (Option RouteRead) Refusal
with_entries q (Ok (Some hop)) = Ok (Some (record { prefix = q.prefix; length = q.length; hop = hop }))
with_entries q (Ok None) = Ok None
with_entries q (Err e) = Err e

-- a hop that is one is found at its place
placed : (q : Prefix) (hop : Maybe ℕ) → ((place : ℕ) → hop ≡ some place → place ≤ 65535) → Ok (route_with q hop) ≡ with_entries q (Ok (place_hop hop))
unfolding route_with with_entries place_hop
placed q none low = refl
placed q (some place) low = rw (le-leb _ _ (low place refl))

-- a prefix that fits ends within the record
pub prefix_inside : (bytes : List ℕ) → prefix_fits bytes route_from (length bytes) ≡ true → after_prefix bytes route_from ≤ length bytes
unfolding prefix_fits
prefix_inside bytes fits = leb-true _ _ (both (leb (byte bytes route_from) 32) _ fits).1

module _ (bytes hops : List ℕ) where
  bad : record_good bytes ≡ false → record_read bytes hops ≡ Err Malformed
  unfolding record_read
  bad is = rw is

  pub no_prefix : length bytes ≤ route_from → record_read bytes hops ≡ Err Malformed
  unfolding entries_from
  no_prefix short = bad (cut_short bytes (omega (arith, after_prefix_later bytes route_from)))

  pub prefix_unfit : prefix_fits bytes route_from (length bytes) ≡ false → record_read bytes hops ≡ Err Malformed
  unfolding prefix_fits entries_from record_good
  prefix_unfit unfit = bad (go (leb (byte bytes route_from) 32) refl)
    where
      go : (low : Bool) → leb (byte bytes route_from) 32 ≡ low → record_good bytes ≡ false
      go true e =
          let over : length bytes < after_prefix bytes route_from = leb-false _ _ (rw e at unfit) in
          cut_short bytes (omega arith)
      go false e = rw e

  pub no_count : length bytes < after_prefix bytes route_from + 2 → record_read bytes hops ≡ Err Malformed
  unfolding entries_from
  no_count short = bad (cut_short bytes short)

  pub by_entries : prefix_fits bytes route_from (length bytes) ≡ true
      → record_read bytes hops ≡ with_entries (prefix_from bytes route_from) (entries_read bytes (entries_from bytes) (entries_count bytes) hops)
  unfolding prefix_fits record_read record_good ends_well entries entries_read route_hop with_entries
  by_entries fits =
      let low = (both (leb (byte bytes route_from) 32) _ fits).0 in
      let starts = entry_starts bytes (entries_count bytes) (entries_from bytes) in
      rw low (go (eqb (entries_to bytes (entries_count bytes) (entries_from bytes)) (length bytes) && all (entry_good bytes) starts))
    where
      go : (good : Bool) → let hop = chosen_hop bytes hops (entries bytes) in let q = prefix_from bytes route_from in
          cond good (Ok (route_with q hop)) (Err Malformed) ≡ with_entries q (cond good (Ok (place_hop hop)) (Err Malformed))
      go true = placed (prefix_from bytes route_from) (chosen_hop bytes hops (entries bytes)) (λ place. chosen_fits bytes hops (entries bytes))
      go false = refl

-- ---- What the answer means, and what it tells

-- Number 12 is meant exactly where the record is not well-formed.
pub record_refused : (bytes hops : List ℕ) → number_given (record_read bytes hops) ≡ refuse (not (record_good bytes)) 12 0
unfolding record_read refuse
record_refused bytes hops = go (record_good bytes) (route_hop bytes hops)
  where
    go : (good : Bool) (hop : Maybe ℕ) → number_given {A = Option RouteRead} (cond good (Ok (route_with (prefix_from bytes route_from) hop)) (Err Malformed)) ≡ cond (not good) 12 0
    go true hop = refl
    go false hop = refl

-- a route was read: it is the record's one call, whichever party's it is, and passes what an add asks first
pub record RouteTold (bytes hops : List ℕ) (p L hop : ℕ) : Type 0 where
  pub good : record_good bytes ≡ true
  pub calls : (party : ℕ) → record_calls party bytes hops ≡ Add party p L hop ∷ []
  pub high : L ≤ 32
  pub tight : prefix p L ≡ p
  pub low : hop ≤ 65535
  pub word : are_bytes bytes ≡ true → p < 2 ^ 32

abbrev pub RecordTold : (bytes hops : List ℕ) → Result (Option RouteRead) Refusal → Type 0
RecordTold bytes hops (Ok (Some r)) = RouteTold bytes hops r.prefix r.length r.hop
RecordTold bytes hops (Ok None) = (record_good bytes ≡ true) × ((party : ℕ) → record_calls party bytes hops ≡ [])
RecordTold bytes hops (Err e) = record_good bytes ≡ false

module _ (bytes hops : List ℕ) where
  pub record_told : {answer : Result (Option RouteRead) Refusal} → record_read bytes hops ≡ answer → RecordTold bytes hops answer
  unfolding record_read route_with
  record_told is = subst (RecordTold bytes hops) is (go (record_good bytes) (route_hop bytes hops) refl refl)
    where
      go : (good : Bool) (hop : Maybe ℕ) → record_good bytes ≡ good → route_hop bytes hops ≡ hop
          → RecordTold bytes hops (cond good (Ok (route_with (prefix_from bytes route_from) hop)) (Err Malformed))
      go true none good missing = (good, λ party. calls_none party bytes hops missing)
      go true (some hop) good found = record {
        good = good;
        calls = λ party. calls_one party bytes hops found;
        high = route_short bytes good;
        tight = route_tight bytes;
        low = route_fits bytes hops found;
        word = λ small. prefix_small bytes small route_from;
      }
      go false hop bad is = bad

  pub route_told : {r : RouteRead} → record_read bytes hops ≡ Ok (Some r) → RouteTold bytes hops r.prefix r.length r.hop
  route_told is = record_told is
