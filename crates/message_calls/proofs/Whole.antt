-- A whole message: which number it is given, and that its walk is all that it does.
use Prim.Native.Nat.{ℕ, zero, suc}
use mathlib.Core.Path.{◌≡◌, refl, sym, ap, ◌∙◌}
use mathlib.Core.Bool.{Bool, true, false, cond, not}
use mathlib.Core.List.{List, []}
use mathlib.Core.Option.{Option as Maybe, some, none}
use lib.Dec.{eqb, ltb}
use lib.ListN.{length}
use native.Mathlib.Omega.{arith}
use borrow.Author.Tests.{ltb-false, ne_eqb}
use Rattle.std.specs.Prelude.{Ok, Err, Option, Some, None}
use Rattle.std.specs.Option.{ok_or}
use Rattle.rules.specs.declared.Settings.{Settings}
use Rattle.rules.specs.declared.Refusal.{Refusal}
use Rattle.rules.specs.declared.Refusal.TheVariants.{Hopless}
use Rattle.rules.specs.Numbers.{refusal_number, number_given}
use Rattle.rules.specs.Table.{Memory, lent, party_refusal, refuse}
use Rattle.rules.specs.Calls.{run}
use Rattle.rules.proofs.Numbers.{refusal_nonzero}
use Rattle.rules.proofs.Refusals.{party_passing}
use Rattle.message_format.specs.Format.{withdrawn_to, announced_from, well_formed, announces, message_hop, withdrawn_prefixes, announced_prefixes}
use Rattle.message_format.specs.Reading.{hop_in, update_refusal, message_refusal, withdrawals, announcements, message_calls, counts, refused_message, apply_message, reported}
use Rattle.message_format.specs.Reports.{report_given}
use Rattle.message_format.proofs.Walks.{prefixes_none}
use Rattle.message_format.proofs.Counting.{parts, message_refused}
use Rattle.message_cursors.specs.declared.Cursor.{Cursor}
use Rattle.message_readers.specs.declared.Message.{Message}
use Rattle.message_readers.specs.Readings.{given, hop_number, hop_due, message_read}
use Rattle.message_readers.proofs.Headers.{message_told, read_refused}
use Rattle.message_readers.proofs.Places.{due_refused, due_told}
use Rattle.message_calls.specs.declared.Task.TheVariants.{Add}
use Rattle.message_calls.specs.Walks.{first_number, task_call, part_calls, both_calls, none_counted, walked, Updated, update_done, accepted_as, applied_to, Apart}
use Rattle.message_calls.proofs.Tallies.{update_reported, walk_reported}

-- where the withdrawn routes stand, and the announced ones
abbrev pub withdrawn_part : (message : List ℕ) → Cursor
withdrawn_part message = record { at = 21; end = withdrawn_to message }

abbrev pub announced_part : (message : List ℕ) → Cursor
announced_part message = record { at = announced_from message; end = length message }

pub parts_apart : (message : List ℕ) → well_formed message ≡ true → Apart message (withdrawn_part message) (announced_part message)
parts_apart message good =
    let lie = parts message good in
    record {
      withdrawn_lies = lie.withdrawn;
      after_it = omega arith;
      announced_lies = lie.announced;
      inside = omega arith;
      short = lie.short;
      withdrawn_fits = lie.withdrawn_fits;
      announced_fits = lie.announced_fits;
    }

-- so they stand in a message that was read
pub parts_lie : (message : List ℕ) {read : Message} → message_read message ≡ Ok read
    → Apart message (record { at = 21; end = read.withdrawn_to }) (record { at = read.announced_from; end = length message })
parts_lie message read_so = let told = message_told message read_so in rw told.is (parts_apart message told.good)

-- ---- The calls

-- where nothing is announced any hop does
same_adds : (party : ℕ) (message hops : List ℕ) {hop : ℕ} → (announces message ≡ true → hop_in message hops ≡ some hop)
    → announcements party (hop_in message hops) (announced_prefixes message) ≡ part_calls party (Add hop) message (announced_part message)
unfolding announcements announced_prefixes announces part_calls task_call
same_adds party message hops {hop} is = go (announces message) refl
  where
    nothing : (o : Maybe ℕ) → announcements party o [] ≡ []
    nothing none = refl
    nothing (some place) = refl

    go : (b : Bool) → announces message ≡ b → announcements party (hop_in message hops) (announced_prefixes message) ≡ part_calls party (Add hop) message (announced_part message)
    go true e = rw (is e)
    go false e = rw (prefixes_none message (announced_from message) (length message) (ltb-false _ _ e)) (nothing (hop_in message hops))

-- ---- The update

refuse_first : (bad : Bool) (number after : ℕ) → refuse bad (suc number) after ≡ first_number (refuse bad (suc number) 0) after
unfolding refuse first_number
refuse_first true number after = refl
refuse_first false number after = refl

-- a number that is given is the first
first_given : (number after : ℕ) → (number ≡ 0 → ⊥) → first_number number after ≡ number
unfolding first_number
first_given zero after given = absurd (given refl)
first_given (suc number) after given = refl

module _ (t : Settings) (counters slots : List ℕ) (party : ℕ) (message hops : List ℕ) where
  -- A message is given the number that reading it means, then the one that looking for its hop means.
  number_read : update_refusal message hops
      ≡ first_number (number_given (message_read message)) (hop_number (hop_due (announces message) (given (message_hop message)) hops))
  unfolding update_refusal hop_in
  number_read = rw (read_refused message, due_refused (announces message) (message_hop message) hops) (refuse_first (not (well_formed message)) 11 _)

  pub faulty : {e : Refusal} → message_read message ≡ Err e → update_done t (lent counters slots) party message hops ≡ applied_to (Err e) counters slots
  unfolding update_done
  faulty {e} read =
      rw (number_read, read, first_given (refusal_number e) (hop_number (hop_due (announces message) (given (message_hop message)) hops)) (refusal_nonzero e), ne_eqb _ 0 (refusal_nonzero e))

  module _ {read : Message} (read_so : message_read message ≡ Ok read) where
    -- what is found of the message's hop
    due : {answer : Option ℕ} → answer ≡ hop_due (ltb read.announced_from (length message)) read.next_hop hops → hop_due (announces message) (given (message_hop message)) hops ≡ answer
    unfolding announces
    due is = sym (rw (message_told message read_so).is at is)

    pub hopless : {e : Refusal} {answer : Option ℕ} → answer ≡ hop_due (ltb read.announced_from (length message)) read.next_hop hops → Err e ≡ ok_or answer Hopless
        → update_done t (lent counters slots) party message hops ≡ applied_to (Err e) counters slots
    unfolding first_number hop_number update_done
    hopless {e = e} {answer = None} is missing = let same : e ≡ Hopless = cc in rw (number_read, read_so, due is, same)
    hopless {answer = Some hop} is missing = absurd (cc)

    pub both_done : {hop : ℕ} {answer : Option ℕ} → answer ≡ hop_due (ltb read.announced_from (length message)) read.next_hop hops → Ok hop ≡ ok_or answer Hopless → {u : Updated}
        → accepted_as (walked t (lent counters slots) none_counted (both_calls party message (record { at = 21; end = read.withdrawn_to }) (record { at = read.announced_from; end = length message }) hop)) ≡ u
        → update_done t (lent counters slots) party message hops ≡ u
    unfolding first_number hop_number hop_in message_calls withdrawals withdrawn_prefixes both_calls part_calls task_call update_done
    both_done {answer = None} is found done = absurd (cc)
    both_done {hop = hop} {answer = Some place} is found done =
        let told = message_told message read_so in
        let same : hop ≡ place = cc in
        let here = due is in
        rw (number_read, read_so, here, same_adds party message hops (due_told (announces message) (message_hop message) hops here).0) (rw (told.is, same) at done)

-- ---- The call

-- 1, 2 or 15 is given as to every call that names its party.
pub party_refused : (t : Settings) (counters slots : List ℕ) (party : ℕ) (message hops : List ℕ) (e : Refusal) → refusal_number e ≡ party_refusal t (lent counters slots) party 0
    → apply_message t (lent counters slots) party message hops ≡ reported (report_given (Err e)) counters slots
unfolding message_refusal refused_message
party_refused t counters slots party message hops e is =
    let m = lent counters slots in
    let same : message_refusal t m party message hops ≡ refusal_number e = (party_passing t m party).refuses (λ zero. refusal_nonzero e (is ∙ zero)) _ ∙ sym is in
    message_refused t m party message hops (λ zero. refusal_nonzero e (sym same ∙ zero)) ∙ rw same

-- Past 1, 2 and 15 a message is its update.
pub update_told : (t : Settings) (m : Memory) (party : ℕ) (message hops : List ℕ) → party_refusal t m party 0 ≡ 0 → {u : Updated} → update_done t m party message hops ≡ u
    → apply_message t m party message hops ≡ update_reported u
unfolding apply_message message_refusal update_done refused_message
update_told t m party message hops fits done = rw ((party_passing t m party).accepts fits number) (go (eqb number 0)) ∙ ap update_reported done
  where
    number : ℕ
    number = update_refusal message hops

    go : (b : Bool) → cond b (counts (run t m (message_calls party message hops))) (refused_message number m)
        ≡ update_reported (cond b (record { refusal = 0; walk = walked t m none_counted (message_calls party message hops) }) (record { refusal = number; walk = record { counts = none_counted; memory = m } }))
    go true = walk_reported t m (message_calls party message hops)
    go false = refl
