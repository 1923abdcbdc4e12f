-- The calls of a chunk are its party's: so none is a clear, and none is the other party's.
use Prim.Native.Nat.{ℕ}
use mathlib.Core.Path.{◌≡◌, refl, sym, ◌∙◌}
use mathlib.Core.Bool.{true, false, false≢true}
use mathlib.Core.List.{List, [], ◌∷◌, ◌++◌}
use mathlib.Core.Option.{Option, some, none}
use mathlib.Core.Logic.{◌≢◌}
use lib.Dec.{eqb}
use borrow.Author.Tests.{eqb-true, eq-eqb, ne_eqb}
use Rattle.rules.specs.Calls.{Call, Clear, Add, Withdraw, Change}
use Rattle.rules.proofs.Members.{both}
use Rattle.message_format.specs.Format.{Prefix, withdrawn_prefixes, announced_prefixes}
use Rattle.message_format.specs.Reading.{hop_in, withdrawals, announcements, message_calls}
use Rattle.stream_format.specs.Chunks.{Reading}
use Rattle.promises.specs.Parties.{is_call_of, no_clear, made_by}
use Rattle.stream_promises.specs.Noted.{Noted, Read, Over, calls_of, all_by, taken_records, taken_calls}
use Rattle.stream_promises.proofs.Lawful.{Lawful}

-- ---- Calls of one party

module _ (party : ℕ) where
  pub by_append : (calls more : List Call) → all_by party calls ≡ true → all_by party more ≡ true → all_by party (calls ++ more) ≡ true
  unfolding all_by
  by_append [] more its others = others
  by_append (call ∷ calls) more its others =
      let parts = both (is_call_of party call) (all_by party calls) its in
      rw parts.0 (by_append calls more parts.1 others)

  -- None of them is a clear,
  pub by_no_clear : (calls : List Call) → all_by party calls ≡ true → no_clear calls ≡ true
  unfolding all_by is_call_of no_clear
  by_no_clear [] its = refl
  by_no_clear (Clear ∷ calls) its = absurd (false≢true its)
  by_no_clear (Add q p L hop ∷ calls) its = by_no_clear calls (both (eqb q party) (all_by party calls) its).1
  by_no_clear (Withdraw q p L ∷ calls) its = by_no_clear calls (both (eqb q party) (all_by party calls) its).1
  by_no_clear (Change q p L hop ∷ calls) its = by_no_clear calls (both (eqb q party) (all_by party calls) its).1

  not_others : (other : ℕ) → party ≢ other → (call : Call) → is_call_of party call ≡ true → is_call_of other call ≡ false
  unfolding is_call_of
  not_others other differs Clear its = refl
  not_others other differs (Add q p L hop) its = ne_eqb q other (λ e. differs (sym (eqb-true q party its) ∙ e))
  not_others other differs (Withdraw q p L) its = ne_eqb q other (λ e. differs (sym (eqb-true q party its) ∙ e))
  not_others other differs (Change q p L hop) its = ne_eqb q other (λ e. differs (sym (eqb-true q party its) ∙ e))

  -- and the other party made none of them.
  pub by_no_other : (other : ℕ) → party ≢ other → (calls : List Call) (answers : List ℕ) → all_by party calls ≡ true → made_by other calls answers ≡ []
  unfolding all_by made_by
  by_no_other other differs [] answers its = refl
  by_no_other other differs (call ∷ calls) [] its = refl
  by_no_other other differs (call ∷ calls) (answer ∷ answers) its =
      let parts = both (is_call_of party call) (all_by party calls) its in
      rw (not_others other differs call parts.0) (by_no_other other differs calls answers parts.1)

  -- ---- The calls of a message

  withdrawn_own : (qs : List Prefix) → all_by party (withdrawals party qs) ≡ true
  unfolding withdrawals all_by is_call_of
  withdrawn_own [] = refl
  withdrawn_own (q ∷ qs) = rw (eq-eqb party party refl) (withdrawn_own qs)

  -- What is announced for the party is its own,
  pub announced_own : (hop : Option ℕ) (qs : List Prefix) → all_by party (announcements party hop qs) ≡ true
  unfolding announcements all_by is_call_of
  announced_own none qs = refl
  announced_own (some hop) [] = refl
  announced_own (some hop) (q ∷ qs) = rw (eq-eqb party party refl) (announced_own (some hop) qs)

  -- and so are all the calls of a message.
  pub message_own : (message hops : List ℕ) → all_by party (message_calls party message hops) ≡ true
  unfolding message_calls
  message_own message hops =
      by_append (withdrawals party (withdrawn_prefixes message)) _ (withdrawn_own (withdrawn_prefixes message))
      (announced_own (hop_in message hops) (announced_prefixes message))

-- ---- The calls of a chunk

module _ {C : Type 0} {r : Reading C} {many : ℕ} {counted : C → List Noted → (answers : List ℕ) → C} (law : Lawful r many counted) where
  -- Records make calls of the party's,
  pub records_own : (records : List Noted) → all_by r.party (calls_of r records) ≡ true
  unfolding calls_of all_by
  records_own [] = refl
  records_own (Read bytes ∷ records) = by_append r.party (r.calls bytes) (calls_of r records) (law.own bytes) (records_own records)
  records_own (Over ∷ records) = records_own records

  -- and so does a chunk.
  pub chunk_own : (words room chunk : List ℕ) (number : ℕ) → all_by r.party (taken_calls r words room chunk number) ≡ true
  unfolding taken_calls
  chunk_own words room chunk number = records_own (taken_records r words room chunk number)
