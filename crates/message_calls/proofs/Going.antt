-- The walk while it goes on: the calls that are left, after those that were made, do what all of them do.
use Prim.Native.Nat.{ℕ, ◌+◌, ◌-◌, ◌≤◌, ◌<◌}
use mathlib.Core.Path.{◌≡◌, refl, sym, ap, ◌∙◌}
use mathlib.Core.Bool.{true, false≢true}
use mathlib.Core.List.{List, [], ◌∷◌, ◌++◌, map, append-nil}
use lib.ListN.{length, get_or, drop}
use native.Mathlib.Omega.{arith}
use lib.Dec.{leb}
use borrow.Author.Tests.{leb-true}
use Rattle.std.specs.Prelude.{Ok, Err, Some, None}
use Rattle.std.proofs.lemmas.List.{drop_more, drop_all}
use Rattle.rules.specs.declared.Settings.{Settings}
use Rattle.rules.specs.declared.Refusal.{Refusal}
use Rattle.rules.specs.Table.{Memory, lent, left}
use Rattle.rules.specs.Calls.{Call, act}
use Rattle.rules.proofs.Members.{both}
use Rattle.rules.proofs.Prefixes.{prefix_again}
use Rattle.updates.specs.Checked.{Checked}
use Rattle.message_format.specs.Format.{byte, prefix_from, after_prefix, prefix_fits, prefixes_fit}
use Rattle.message_format.proofs.Walks.{after_prefix_later, fit_next, prefixes_none, prefixes_next}
use Rattle.message_cursors.specs.declared.Cursor.{Cursor}
use Rattle.message_cursors.specs.declared.PrefixRead.{PrefixRead}
use Rattle.message_cursors.specs.Steps.{read_prefix, next_prefix}
use Rattle.message_cursors.proofs.Steps.{Moved, prefix_told}
use Rattle.message_calls.specs.declared.Counts.{Counts}
use Rattle.message_calls.specs.declared.Task.{Task}
use Rattle.message_calls.specs.declared.Task.TheVariants.{Withdraw, Add}
use Rattle.message_calls.specs.Walks.{task_call, part_calls, both_calls, none_counted, counted, Few, Low, walked, Apart}
use Rattle.message_calls.proofs.Tallies.{few_low, few_none, few_more, few_within, walked_none, walked_next}

-- a part, and what is done with its prefixes
abbrev pub Part : Type 0
Part = Task × Cursor

-- the calls of one part after the other
pub parts_calls : (party : ℕ) (message : List ℕ) → List Part → List Call
parts_calls party message [] = []
parts_calls party message ((task, part) ∷ parts) = part_calls party task message part ++ parts_calls party message parts

-- they lie one after the other from a place on, and their prefixes fit
abbrev pub Lie : (message : List ℕ) (place : ℕ) → List Part → Type 0
Lie message place [] = Unit {0}
Lie message place ((task, part) ∷ parts) =
    (place ≤ part.at) × ((part.at ≤ part.end) × ((part.end ≤ length message) × ((prefixes_fit message part.at part.end ≡ true) × Lie message part.end parts)))

-- the two parts of a message
abbrev pub both_parts : (withdrawn announced : Cursor) (hop : ℕ) → List Part
both_parts withdrawn announced hop = (Withdraw, withdrawn) ∷ (Add hop, announced) ∷ []

pub both_lie : {message : List ℕ} {withdrawn announced : Cursor} → Apart message withdrawn announced → (hop : ℕ) → Lie message 0 (both_parts withdrawn announced hop)
both_lie apart hop = (omega arith, (apart.withdrawn_lies, (omega arith, (apart.withdrawn_fits, (omega arith, (apart.announced_lies, (apart.inside, (apart.announced_fits, tt))))))))

pub both_same : (party : ℕ) (message : List ℕ) (withdrawn announced : Cursor) (hop : ℕ)
    → both_calls party message withdrawn announced hop ≡ parts_calls party message (both_parts withdrawn announced hop)
unfolding both_calls parts_calls
both_same party message withdrawn announced hop = rw append-nil

-- no more is counted than the places passed, and the parts from the next one on are left
pub record Turning (t : Settings) (party : ℕ) (message : List ℕ) (m : Memory) (parts : List Part) (i : ℕ) (counts : Counts) (now : Memory) : Type 0 where
  pub place : ℕ
  pub few : Few counts place
  pub lie : Lie message place (drop i parts)
  pub same : walked t now counts (parts_calls party message (drop i parts)) ≡ walked t m none_counted (parts_calls party message parts)

-- the rest of a part is left, and the parts after it
pub record Going (t : Settings) (party : ℕ) (message : List ℕ) (m : Memory) (parts later : List Part) (task : Task) (rest : Cursor) (counts : Counts) (now : Memory) : Type 0 where
  pub lies : rest.at ≤ rest.end
  pub inside : rest.end ≤ length message
  pub fits : prefixes_fit message rest.at rest.end ≡ true
  pub few : Few counts rest.at
  pub next : Lie message rest.end later
  pub same : walked t now counts (part_calls party task message rest ++ parts_calls party message later) ≡ walked t m none_counted (parts_calls party message parts)

module _ (t : Settings) (party : ℕ) (message : List ℕ) (m : Memory) (parts : List Part) where
  pub begins : {counts : Counts} → counts ≡ none_counted → Lie message 0 parts → Turning t party message m parts 0 counts m
  begins none lie = rw none (record { place = 0; few = few_none 0; lie = lie; same = refl })

  module _ {i : ℕ} {counts : Counts} {now : Memory} (turn : Turning t party message m parts i counts now) where
    pub goes : (d : Part) → i < length parts → Going t party message m parts (drop (i + 1) parts) (get_or parts i d).0 (get_or parts i d).1 counts now
    unfolding parts_calls
    goes d low =
        let next = drop_more parts i d low in
        let lie = rw next at turn.lie in
        record {
          lies = lie.1.0;
          inside = lie.1.1.0;
          fits = lie.1.1.1.0;
          few = few_within turn.few lie.0;
          next = lie.1.1.1.1;
          same = rw next at turn.same;
        }

    pub all_done : length parts ≤ i → walked t m none_counted (parts_calls party message parts) ≡ record { counts = counts; memory = now }
    unfolding parts_calls
    all_done past = sym (rw (drop_all i parts past) at turn.same) ∙ walked_none t now counts

  module _ {later : List Part} {task : Task} {rest : Cursor} {counts : Counts} {counters slots : List ℕ} (g : Going t party message m parts later task rest counts (lent counters slots)) where
    -- ---- One prefix more

    module _ {read : PrefixRead} (read_so : next_prefix message rest ≡ Ok (Some read)) where
      moved : Moved rest (prefix_fits message rest.at rest.end) (read_prefix message rest) read
      moved = prefix_told message rest g.inside read_so

      -- there is room for one more
      pub room_yet : length message ≤ 4096 → Low counts 4096
      room_yet short =
          let more = moved.more in
          few_low (few_within g.few (omega (arith, g.inside)))

      pub goes_less : read.rest.end - read.rest.at < rest.end - rest.at
      unfolding read_prefix
      goes_less =
          let more = moved.more in
          rw moved.read (omega (arith, after_prefix_later message rest.at))

      pub goes_on : {number : ℕ} {counters' slots' : List ℕ} → act t (task_call party task read.prefix read.length) (lent counters slots) ≡ left number counters' slots'
          → {next : Counts} → next ≡ counted counts number → Going t party message m parts later task read.rest next (lent counters' slots')
      unfolding part_calls prefix_fits read_prefix
      goes_on {number} {counters'} {slots'} called is =
          let q = prefix_from message rest.at in
          let more = moved.more in
          let left_over = part_calls party task message (record { at = after_prefix message rest.at; end = rest.end }) ++ parts_calls party message later in
          let step : act t (task_call party task q.prefix q.length) (lent counters slots) ≡ left number counters' slots' = rw moved.read at called in
          rw (moved.read, is) (record {
            lies = leb-true _ _ (both (leb (byte message rest.at) 32) _ moved.fits).1;
            inside = g.inside;
            fits = (both (prefix_fits message rest.at rest.end) _ (sym (fit_next message rest.at rest.end more) ∙ g.fits)).1;
            few = few_more g.few number (after_prefix_later message rest.at);
            next = g.next;
            same =
                sym (ap (λ u. walked t u.memory (counted counts u.refusal) left_over) step)
                ∙ sym (walked_next t (lent counters slots) counts _ _)
                ∙ sym (ap (λ qs. walked t (lent counters slots) counts (map (λ q. task_call party task q.prefix q.length) qs ++ parts_calls party message later)) (prefixes_next message rest.at rest.end more))
                ∙ g.same;
          })

      -- what was read is a route, which the calls need not check again
      pub checked : Checked read.prefix read.length
      unfolding prefix_from prefix_fits read_prefix
      checked = rw moved.read (record {
        high = leb-true _ _ (both (leb (byte message rest.at) 32) _ moved.fits).0;
        tight = prefix_again _ (byte message rest.at);
      })

    -- ---- The end of a part

    pub turns : (i : ℕ) → later ≡ drop (i + 1) parts → next_prefix message rest ≡ Ok None → Turning t party message m parts (i + 1) counts (lent counters slots)
    unfolding part_calls
    turns i is over =
        let ended = prefix_told message rest g.inside over in
        record {
          place = rest.end;
          few = few_within g.few g.lies;
          lie = rw is at g.next;
          same = rw (prefixes_none message rest.at rest.end ended, is) at g.same;
        }

    -- what is left fits
    pub no_fault : {e : Refusal} → next_prefix message rest ≡ Err e → ⊥
    no_fault fault =
        let m = prefix_told message rest g.inside fault in
        false≢true (sym m.1.1 ∙ (both (prefix_fits message rest.at rest.end) _ (sym (fit_next message rest.at rest.end m.1.0) ∙ g.fits)).0)
