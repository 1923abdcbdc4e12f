-- What a caller of crates/table learns from a call is its contract's equation, as it stands, so each proof is to hand it on.
-- A number of 32 bits is below 2^32 by its type: the logic has it of whoever may make the call (`owned`), so a caller is
-- asked nothing about it. Here a holds the call's arguments in their order (settings, counters, slots and then the others),
-- r is its result, read as the number, the answer or the vector that it gives back, and end holds the arguments at exit. What is
-- so read tells the result: same_outcome, same_answer and same_vector of crates/rules/proofs/Numbers.antt.
use Prim.Native.Nat.{ℕ, ◌^◌, ◌<◌}
use mathlib.Core.Path.{◌≡◌, refl, sym, ap, ◌∙◌}
use mathlib.Core.Bool.{true}
use mathlib.Core.List.{List}
use lib.Dec.{lit<}
use lib.ListN.{length, get_or}
use mir.Syntax.{w32}
use base.Logic.{ent, via, snd∗}
use types.Logic.{sem}
use contract.Lifetimes.{Lfts, Shares, toks}
use contract.Monad.{fact, fact_use, fact_i}
use denote.RattleType.{Valss, owns}
use denote.Signature.{types_at}
use denote.Triple.Clauses.{AtExit}
use denote.Triple.Entry.{on_entry}
use borrow.Author.Tests.{lt-ltb}
use borrow.Fn.Between.{Seen, owns-Seen, goods}
use borrow.Fn.Kinds.{ParamKind, ResultKind, sig_of, slots, Dens, GoodsP}
use borrow.Fn.World.{World, ArgsD, ResD}
use borrow.Rule.Slice.Know.{fit_at}
use borrow.Table.Referent.{f_int}
use Rattle.rules.specs.declared.Settings.{Settings}
use Rattle.rules.specs.Table.{Answer, Vector, Memory, lent, left, lookup as looked_up, match_vector as matched_by, answered, lookup_list as listed_up}
use Rattle.rules.specs.Numbers.{number_given, answer_given, vector_given}
use Rattle.rules.specs.Calls.{Call, Clear, Add, Withdraw, Change, word_sized, act}
use Rattle.promises.specs.Demands.{Words, answer_at}
use Rattle.promises.proofs.Lists.{place_answers}
use Rattle.caller_promises.proofs.Elements.{elements_owned}
use Rattle.caller_promises.proofs.Results.{result_of, GivenAs, lookup_given}
use Rattle.table.specs.contracts.clear
use Rattle.table.proofs.clear.Kinds as clear_kinds
use Rattle.table.proofs.clear.Reads as clear_reads
use Rattle.table.specs.contracts.add
use Rattle.table.proofs.add.Kinds as add_kinds
use Rattle.table.proofs.add.Reads as add_reads
use Rattle.table.specs.contracts.withdraw
use Rattle.table.proofs.withdraw.Kinds as withdraw_kinds
use Rattle.table.proofs.withdraw.Reads as withdraw_reads
use Rattle.table.specs.contracts.change
use Rattle.table.proofs.change.Kinds as change_kinds
use Rattle.table.proofs.change.Reads as change_reads
use Rattle.table.specs.contracts.match_vector
use Rattle.table.proofs.match_vector.Kinds as match_vector_kinds
use Rattle.table.proofs.match_vector.Reads as match_vector_reads
use Rattle.table.specs.contracts.lookup
use Rattle.table.proofs.lookup.Kinds as lookup_kinds
use Rattle.table.proofs.lookup.Reads as lookup_reads
use Rattle.table.specs.contracts.lookup_list
use Rattle.table.proofs.lookup_list.Kinds as list_kinds
use Rattle.table.proofs.lookup_list.Reads as list_reads

-- ---- What a contract tells

pub clear_ensures : (κs : Lfts 2) (a : ArgsD clear.signature κs) (r : ResD clear.signature κs) (end : AtExit clear.ended κs) → clear_reads.Learnt κs a r end
    → act a.0 Clear (lent a.1.0.now a.1.1.0.now) ≡ left (number_given r) end.1.0.now end.1.1.0.now
unfolding act
clear_ensures κs a r end learnt = learnt

pub add_ensures : (κs : Lfts 2) (a : ArgsD add.signature κs) (r : ResD add.signature κs) (end : AtExit add.ended κs) → add_reads.Learnt κs a r end
    → act a.0 (Add a.1.1.1.0 a.1.1.1.1.0 a.1.1.1.1.1.0 a.1.1.1.1.1.1.0) (lent a.1.0.now a.1.1.0.now) ≡ left (number_given r) end.1.0.now end.1.1.0.now
unfolding act
add_ensures κs a r end learnt = learnt

pub withdraw_ensures : (κs : Lfts 2) (a : ArgsD withdraw.signature κs) (r : ResD withdraw.signature κs) (end : AtExit withdraw.ended κs) → withdraw_reads.Learnt κs a r end
    → act a.0 (Withdraw a.1.1.1.0 a.1.1.1.1.0 a.1.1.1.1.1.0) (lent a.1.0.now a.1.1.0.now) ≡ left (number_given r) end.1.0.now end.1.1.0.now
unfolding act
withdraw_ensures κs a r end learnt = learnt

pub change_ensures : (κs : Lfts 2) (a : ArgsD change.signature κs) (r : ResD change.signature κs) (end : AtExit change.ended κs) → change_reads.Learnt κs a r end
    → act a.0 (Change a.1.1.1.0 a.1.1.1.1.0 a.1.1.1.1.1.0 a.1.1.1.1.1.1.0) (lent a.1.0.now a.1.1.0.now) ≡ left (number_given r) end.1.0.now end.1.1.0.now
unfolding act
change_ensures κs a r end learnt = learnt

pub lookup_ensures : (κs : Lfts 2) (a : ArgsD lookup.signature κs) (r : ResD lookup.signature κs) (end : AtExit lookup.ended κs) → lookup_reads.Learnt κs a r end
    → answer_given r ≡ looked_up a.0 (lent a.1.0.now a.1.1.0.now) a.1.1.1.0 a.1.1.1.1.0
lookup_ensures κs a r end learnt = learnt

pub match_vector_ensures : (κs : Lfts 2) (a : ArgsD match_vector.signature κs) (r : ResD match_vector.signature κs) (end : AtExit match_vector.ended κs) → match_vector_reads.Learnt κs a r end
    → vector_given r ≡ matched_by a.0 (lent a.1.0.now a.1.1.0.now) a.1.1.1.0
match_vector_ensures κs a r end learnt = learnt

pub list_ensures : (κs : Lfts 4) (a : ArgsD lookup_list.signature κs) (r : ResD lookup_list.signature κs) (end : AtExit lookup_list.ended κs) → list_reads.Learnt κs a r end
    → listed_up a.0 (lent a.1.0.now a.1.1.0.now) a.1.1.1.0 a.1.1.1.1.0.now a.1.1.1.1.1.0.now ≡ answered (number_given r) end.1.1.1.1.1.0.now
list_ensures κs a r end learnt = learnt

-- ---- What the arguments' types tell

-- Whoever may make a call, that is has what it asks on entry, has the plain facts of its arguments' types: of any
-- function, and in every model of the logic.
pub owned : (w : World) {n : ℕ} (ps : List (ParamKind n)) (r : ResultKind n) (κs : Lfts n) (qs : Shares n) (a : Dens κs ps) (vss : Valss (types_at (slots ps) κs))
    → ent w.𝓤 (on_entry w.𝓛 (sig_of n ps r) κs qs a vss) (fact w.𝓤 (GoodsP κs ps a))
owned w {n} ps r κs qs a vss =
    let 𝓤 = w.𝓤 in
    let has = sem w.𝓛 (owns (types_at (slots ps) κs) a vss) in
    via 𝓤 has (snd∗ 𝓤 (toks w.𝓛 n κs qs) has)
    (fact_use 𝓤 (Seen w.𝓛 n κs ps a vss) (owns-Seen w.𝓛 n κs ps a vss) (λ seen. fact_i 𝓤 (GoodsP κs ps a) has (goods w.𝓛 n κs ps a vss seen)))

-- so of the six of the seven calls that are lent counters and slots alone
module _ (w : World) (κs : Lfts 2) (qs : Shares 2) where
  pub clear_owned : (a : ArgsD clear.signature κs) (vss : Valss (types_at (clear.signature).params κs))
      → ent w.𝓤 (on_entry w.𝓛 clear.signature κs qs a vss) (fact w.𝓤 (GoodsP κs clear_kinds.ps a))
  clear_owned = owned w clear_kinds.ps clear_kinds.r κs qs

  pub add_owned : (a : ArgsD add.signature κs) (vss : Valss (types_at (add.signature).params κs))
      → ent w.𝓤 (on_entry w.𝓛 add.signature κs qs a vss) (fact w.𝓤 (GoodsP κs add_kinds.ps a))
  add_owned = owned w add_kinds.ps add_kinds.r κs qs

  pub withdraw_owned : (a : ArgsD withdraw.signature κs) (vss : Valss (types_at (withdraw.signature).params κs))
      → ent w.𝓤 (on_entry w.𝓛 withdraw.signature κs qs a vss) (fact w.𝓤 (GoodsP κs withdraw_kinds.ps a))
  withdraw_owned = owned w withdraw_kinds.ps withdraw_kinds.r κs qs

  pub change_owned : (a : ArgsD change.signature κs) (vss : Valss (types_at (change.signature).params κs))
      → ent w.𝓤 (on_entry w.𝓛 change.signature κs qs a vss) (fact w.𝓤 (GoodsP κs change_kinds.ps a))
  change_owned = owned w change_kinds.ps change_kinds.r κs qs

  pub match_vector_owned : (a : ArgsD match_vector.signature κs) (vss : Valss (types_at (match_vector.signature).params κs))
      → ent w.𝓤 (on_entry w.𝓛 match_vector.signature κs qs a vss) (fact w.𝓤 (GoodsP κs match_vector_kinds.ps a))
  match_vector_owned = owned w match_vector_kinds.ps match_vector_kinds.r κs qs

  pub lookup_owned : (a : ArgsD lookup.signature κs) (vss : Valss (types_at (lookup.signature).params κs))
      → ent w.𝓤 (on_entry w.𝓛 lookup.signature κs qs a vss) (fact w.𝓤 (GoodsP κs lookup_kinds.ps a))
  lookup_owned = owned w lookup_kinds.ps lookup_kinds.r κs qs

-- So of a list of addresses, of which each is below 2^32: what is lent to be read tells so once it is looked at (⇛).
module _ (w : World) (κs : Lfts 4) (qs : Shares 4) (a : ArgsD lookup_list.signature κs) (vss : Valss (types_at (lookup_list.signature).params κs)) where
  pub list_owned : ent w.𝓤 (on_entry w.𝓛 lookup_list.signature κs qs a vss) (fact w.𝓤 (GoodsP κs list_kinds.ps a))
  list_owned = owned w list_kinds.ps list_kinds.r κs qs a vss

  pub list_words_owned : ent w.𝓤 (on_entry w.𝓛 lookup_list.signature κs qs a vss) (w.𝓛.H.⇛ (fact w.𝓤 (Words a.1.1.1.1.0.now)))
  list_words_owned =
      elements_owned w list_kinds.ps list_kinds.r κs qs a vss (f_int w32) 4 2 tt a.1.1.1.1.0 refl
      (λ fits i inside. (fit_at (f_int w32) 0 (record { fits = lit< tt }) a.1.1.1.1.0.now fits i).fits)

-- ---- Calls as they were made

-- A call with its arguments at their own types, what these tell, and what its contract told of what it gave back and left.
pub data Called : (t : Settings) (call : Call) (m : Memory) (r : ℕ) (m' : Memory) → Type 0 where
  ClearCalled : (κs : Lfts 2) (a : ArgsD clear.signature κs) (r : ResD clear.signature κs) (end : AtExit clear.ended κs) → GoodsP κs clear_kinds.ps a → clear_reads.Learnt κs a r end
      → Called a.0 Clear (lent a.1.0.now a.1.1.0.now) (number_given r) (lent end.1.0.now end.1.1.0.now)
  AddCalled : (κs : Lfts 2) (a : ArgsD add.signature κs) (r : ResD add.signature κs) (end : AtExit add.ended κs) → GoodsP κs add_kinds.ps a → add_reads.Learnt κs a r end
      → Called a.0 (Add a.1.1.1.0 a.1.1.1.1.0 a.1.1.1.1.1.0 a.1.1.1.1.1.1.0) (lent a.1.0.now a.1.1.0.now) (number_given r) (lent end.1.0.now end.1.1.0.now)
  WithdrawCalled : (κs : Lfts 2) (a : ArgsD withdraw.signature κs) (r : ResD withdraw.signature κs) (end : AtExit withdraw.ended κs) → GoodsP κs withdraw_kinds.ps a → withdraw_reads.Learnt κs a r end
      → Called a.0 (Withdraw a.1.1.1.0 a.1.1.1.1.0 a.1.1.1.1.1.0) (lent a.1.0.now a.1.1.0.now) (number_given r) (lent end.1.0.now end.1.1.0.now)
  ChangeCalled : (κs : Lfts 2) (a : ArgsD change.signature κs) (r : ResD change.signature κs) (end : AtExit change.ended κs) → GoodsP κs change_kinds.ps a → change_reads.Learnt κs a r end
      → Called a.0 (Change a.1.1.1.0 a.1.1.1.1.0 a.1.1.1.1.1.0 a.1.1.1.1.1.1.0) (lent a.1.0.now a.1.1.0.now) (number_given r) (lent end.1.0.now end.1.1.0.now)

-- its equation is the contract's
pub called_acted : {t : Settings} {call : Call} {m m' : Memory} {r : ℕ} → Called t call m r m'
    → act t call m ≡ record { refusal = r; memory = m' }
called_acted (ClearCalled κs a r end good learnt) = clear_ensures κs a r end learnt
called_acted (AddCalled κs a r end good learnt) = add_ensures κs a r end learnt
called_acted (WithdrawCalled κs a r end good learnt) = withdraw_ensures κs a r end learnt
called_acted (ChangeCalled κs a r end good learnt) = change_ensures κs a r end learnt

-- and its prefix has 32 bits
pub called_word : {t : Settings} {call : Call} {m m' : Memory} {r : ℕ} → Called t call m r m' → word_sized call ≡ true
unfolding word_sized
called_word (ClearCalled κs a r end good learnt) = refl
called_word (AddCalled κs a r end good learnt) = lt-ltb a.1.1.1.1.0 (2 ^ 32) good.1.1.1.1.0.1
called_word (WithdrawCalled κs a r end good learnt) = lt-ltb a.1.1.1.1.0 (2 ^ 32) good.1.1.1.1.0.1
called_word (ChangeCalled κs a r end good learnt) = lt-ltb a.1.1.1.1.0 (2 ^ 32) good.1.1.1.1.0.1

-- A lookup of a party's as it was made, and its answer.
pub data Looked : (t : Settings) (m : Memory) (party address : ℕ) (answer : Answer) → Type 0 where
  LookupCalled : (κs : Lfts 2) (a : ArgsD lookup.signature κs) (r : ResD lookup.signature κs) (end : AtExit lookup.ended κs) → GoodsP κs lookup_kinds.ps a → lookup_reads.Learnt κs a r end
      → Looked a.0 (lent a.1.0.now a.1.1.0.now) a.1.1.1.0 a.1.1.1.1.0 (answer_given r)

pub looked_given : {t : Settings} {m : Memory} {party address : ℕ} {answer : Answer} → Looked t m party address answer → answer ≡ looked_up t m party address
looked_given (LookupCalled κs a r end good learnt) = lookup_ensures κs a r end learnt

pub looked_word : {t : Settings} {m : Memory} {party address : ℕ} {answer : Answer} → Looked t m party address answer → address < 2 ^ 32
looked_word (LookupCalled κs a r end good learnt) = good.1.1.1.1.0.1

-- A list of addresses of a party's as it was made, with the number that it gave back and its results before and after.
pub data ListCalled : (t : Settings) (m : Memory) (party : ℕ) (addresses results : List ℕ) (r : ℕ) (results' : List ℕ) → Type 0 where
  LookupListCalled : (κs : Lfts 4) (a : ArgsD lookup_list.signature κs) (r : ResD lookup_list.signature κs) (end : AtExit lookup_list.ended κs)
      → GoodsP κs list_kinds.ps a → Words a.1.1.1.1.0.now → list_reads.Learnt κs a r end
      → ListCalled a.0 (lent a.1.0.now a.1.1.0.now) a.1.1.1.0 a.1.1.1.1.0.now a.1.1.1.1.1.0.now (number_given r) end.1.1.1.1.1.0.now

pub list_given : {t : Settings} {m : Memory} {party : ℕ} {addresses results : List ℕ} {r : ℕ} {results' : List ℕ} → ListCalled t m party addresses results r results'
    → listed_up t m party addresses results ≡ answered r results'
list_given (LookupListCalled κs a r end good words learnt) = list_ensures κs a r end learnt

pub list_words : {t : Settings} {m : Memory} {party : ℕ} {addresses results : List ℕ} {r : ℕ} {results' : List ℕ} → ListCalled t m party addresses results r results' → Words addresses
list_words (LookupListCalled κs a r end good words learnt) = words

-- Place i of an accepted list is as a lookup of address i that was made: whatever is promised of a lookup is promised of it.
pub place_looked : {t : Settings} {m : Memory} {party : ℕ} {addresses results : List ℕ} {r : ℕ} {results' : List ℕ} → ListCalled t m party addresses results r results'
    → r ≡ 0 → (i : ℕ) → i < length addresses → Looked t m party (get_or addresses i 0) (answer_at results' i)
unfolding answer_at
place_looked (LookupListCalled κs a r end good words learnt) accepted i inside =
    let told = list_ensures κs a r end learnt in
    let given : ArgsD lookup.signature (κs.0, (κs.1.0, tt)) = (a.0, (a.1.0, (a.1.1.0, (a.1.1.1.0, (get_or a.1.1.1.1.0.now i 0, tt))))) in
    let answer : Answer = answer_at end.1.1.1.1.1.0.now i in
    let looked : answer ≡ looked_up a.0 (lent a.1.0.now a.1.1.0.now) a.1.1.1.0 (get_or a.1.1.1.1.0.now i 0) =
    rw (ap (λ u. u.results) told) at (place_answers a.0 (lent a.1.0.now a.1.1.0.now) a.1.1.1.0 a.1.1.1.1.0.now a.1.1.1.1.1.0.now (ap (λ u. u.refusal) told ∙ accepted) i inside) in
    let is : GivenAs answer = rw looked (lookup_given a.0 (lent a.1.0.now a.1.1.0.now) a.1.1.1.0 (get_or a.1.1.1.1.0.now i 0) (ap (λ u. u.refusal) (sym looked))) in
    rw is at (LookupCalled (κs.0, (κs.1.0, tt)) given (result_of answer) given (good.0, (good.1.0, (good.1.1.0, (good.1.1.1.0, ((refl, words i inside), tt))))) (is ∙ looked))

-- A match vector as it was asked for, and what was given back.
pub data Matched : (t : Settings) (m : Memory) (address : ℕ) (answer : Vector) → Type 0 where
  MatchVectorCalled : (κs : Lfts 2) (a : ArgsD match_vector.signature κs) (r : ResD match_vector.signature κs) (end : AtExit match_vector.ended κs) → GoodsP κs match_vector_kinds.ps a → match_vector_reads.Learnt κs a r end
      → Matched a.0 (lent a.1.0.now a.1.1.0.now) a.1.1.1.0 (vector_given r)

pub matched_given : {t : Settings} {m : Memory} {address : ℕ} {answer : Vector} → Matched t m address answer → answer ≡ matched_by t m address
matched_given (MatchVectorCalled κs a r end good learnt) = match_vector_ensures κs a r end learnt

pub matched_word : {t : Settings} {m : Memory} {address : ℕ} {answer : Vector} → Matched t m address answer → address < 2 ^ 32
matched_word (MatchVectorCalled κs a r end good learnt) = good.1.1.1.0.1
