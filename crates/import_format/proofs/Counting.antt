-- A record is no call or one add, so that it counts once: a route that is accepted or refused, or a record without a hop.
use Prim.Native.Nat.{ℕ, ◌+◌, ◌≤◌}
use mathlib.Core.Path.{◌≡◌, refl}
use mathlib.Core.Bool.{true, cond}
use mathlib.Core.List.{List, [], ◌∷◌}
use mathlib.Core.Option.{Option, some, none}
use native.Mathlib.Omega.{arith}
use lib.Dec.{leb, eqb}
use lib.ListN.{length}
use borrow.Author.Tests.{leb-true}
use Rattle.rules.specs.declared.Settings.{Settings}
use Rattle.rules.specs.Tools.{those}
use Rattle.rules.specs.Table.{Memory, prefix}
use Rattle.rules.specs.Calls.{Call, Add, run, accepted_of, refused_of}
use Rattle.rules.proofs.Calls.{answers_length, counted_all}
use Rattle.rules.proofs.Members.{both}
use Rattle.rules.proofs.Prefixes.{prefix_again}
use Rattle.message_format.specs.Format.{byte, prefix_from}
use Rattle.message_format.specs.Reading.{announcements}
use Rattle.import_format.specs.declared.ImportCounts.{ImportCounts}
use Rattle.import_format.specs.Routes.{route_from, record_good, route_hop, record_calls}
use Rattle.import_format.specs.Importing.{counts_more}
use Rattle.import_format.proofs.Entries.{chosen_fits}

-- an answer is that of a route accepted or refused, and no answer a record without a hop
one_of : (answers : List ℕ) → length answers ≤ 1 → accepted_of answers + refused_of answers + cond (eqb (length answers) 0) 1 0 ≡ 1
unfolding accepted_of refused_of those
one_of [] few = refl
one_of (number ∷ []) few = omega (arith, counted_all (number ∷ []))
one_of (number ∷ another ∷ answers) few = absurd (omega arith)

-- ---- The prefix of a record

module _ (bytes : List ℕ) where
  abbrev p : ℕ
  p = (prefix_from bytes route_from).prefix

  abbrev L : ℕ
  L = (prefix_from bytes route_from).length

  -- no bit is set after its length
  pub route_tight : prefix p L ≡ p
  unfolding prefix_from
  route_tight = prefix_again _ (byte bytes route_from)

  -- which is at most 32 in a well-formed record
  pub route_short : record_good bytes ≡ true → L ≤ 32
  unfolding prefix_from record_good
  route_short good = leb-true _ _ (both (leb (byte bytes route_from) 32) _ good).0

  -- its hop is at most 65,535
  pub route_fits : (hops : List ℕ) {hop : ℕ} → route_hop bytes hops ≡ some hop → hop ≤ 65535
  unfolding route_hop
  route_fits hops is = chosen_fits bytes hops _ is

-- ---- Its calls

module _ (party : ℕ) (bytes hops : List ℕ) where
  -- without a hop there is none
  pub calls_none : route_hop bytes hops ≡ none → record_calls party bytes hops ≡ []
  unfolding record_calls announcements
  calls_none is = rw is

  -- with a hop it is the party's add of the prefix
  pub calls_one : {hop : ℕ} → route_hop bytes hops ≡ some hop → record_calls party bytes hops ≡ Add party (p bytes) (L bytes) hop ∷ []
  unfolding record_calls announcements
  calls_one is = rw is

  -- whatever is so of no call, and of one add, is so of a record's calls
  pub by_calls : (P : List Call → Type 0) → P [] → ((hop : ℕ) → hop ≤ 65535 → P (Add party (p bytes) (L bytes) hop ∷ [])) → P (record_calls party bytes hops)
  by_calls P nothing one = go (route_hop bytes hops) refl
    where
      go : (hop : Option ℕ) → route_hop bytes hops ≡ hop → P (record_calls party bytes hops)
      go none is = rw (calls_none is) nothing
      go (some hop) is = rw (calls_one is) (one hop (route_fits bytes hops is))

  -- there is no call, or one
  pub calls_few : length (record_calls party bytes hops) ≤ 1
  calls_few = by_calls (λ calls. length calls ≤ 1) (omega arith) (λ hop low. omega arith)

  -- Whatever its call is given, a record adds one to one of the counts.
  pub counted_once : (t : Settings) (m : Memory) (earlier : ImportCounts)
      → let more = counts_more earlier (run t m (record_calls party bytes hops)).answers in
      more.accepted + more.refused + more.hopless ≡ earlier.accepted + earlier.refused + earlier.hopless + 1
  unfolding counts_more run
  counted_once t m earlier = omega (arith, one_of (run t m (record_calls party bytes hops)).answers (rw answers_length calls_few))
