-- The walk over the two parts of a message: the single calls that it makes, what it counts, and what it starts from.
use Rattle.std.specs.Prelude.{ℕ, zero, suc, ◌+◌, ◌≤◌, ◌<◌, ◌≡◌, true, cond, List, [], ◌∷◌, map, ◌++◌, eqb, length, Result, Ok, Err}
use Rattle.rules.specs.Tools.{count}
use Rattle.rules.specs.declared.Settings.{Settings}
use Rattle.rules.specs.declared.Refusal.{Refusal}
use Rattle.rules.specs.Numbers.{refusal_number}
use Rattle.rules.specs.Table.{Memory, lent}
use Rattle.rules.specs.Calls.{Call, Add, Withdraw, run, accepted_of, refused_of}
use Rattle.message_format.specs.Format.{prefixes_fit, prefixes}
use Rattle.message_format.specs.Reading.{update_refusal, message_calls}
use Rattle.message_cursors.specs.declared.Cursor.{Cursor}
use Rattle.message_calls.specs.declared.Counts.{Counts}
use Rattle.message_calls.specs.declared.Task.{Task}
use Rattle.message_calls.specs.declared.Task.TheVariants as task

-- ---- Tasks

-- the single call of a party that a task means for a prefix
unfoldable pub task_call : (party : ℕ) → Task → (p L : ℕ) → Call
task_call party task.Withdraw p L = Withdraw party p L
task_call party (task.Add hop) p L = Add party p L hop

-- the single calls of a part, in its order
unfoldable pub part_calls : (party : ℕ) → Task → (message : List ℕ) → Cursor → List Call
part_calls party task message part = map (λ q. task_call party task q.prefix q.length) (prefixes message part.at part.end)

-- those of both parts: each withdrawn prefix, and then each announced one with the hop
unfoldable pub both_calls : (party : ℕ) (message : List ℕ) (withdrawn announced : Cursor) (hop : ℕ) → List Call
both_calls party message withdrawn announced hop =
    part_calls party task.Withdraw message withdrawn ++ part_calls party (task.Add hop) message announced

-- ---- Counts

-- To count more of the answers, widen `Counts`, `none_counted`, `tallied` and `Low`; then mend `Counts::with`, and the laws of
-- proofs/Tallies.antt down to `few_low`. The walk and its proof stay: they know that answers are tallied one by one, and no
-- field.

-- nothing is counted yet
abbrev pub none_counted : Counts
none_counted = record { accepted = 0; refused = 0; unstored = 0; full = 0; above = 0; below = 0; odd = 0 }

-- the counts with these answers more: each is a function of the answers
unfoldable pub tallied : Counts → (answers : List ℕ) → Counts
tallied earlier answers =
    record {
      accepted = earlier.accepted + accepted_of answers;
      refused = earlier.refused + refused_of answers;
      unstored = earlier.unstored + count 7 answers;
      full = earlier.full + count 8 answers;
      above = earlier.above + count 9 answers;
      below = earlier.below + count 10 answers;
      odd = earlier.odd + count 11 answers;
    }

-- one answer more
abbrev pub counted : Counts → (number : ℕ) → Counts
counted earlier number = tallied earlier (number ∷ [])

-- the counts of so many answers at most
pub record Few (counts : Counts) (most : ℕ) : Type 0 where
  pub answers : List ℕ
  pub tally : counts ≡ tallied none_counted answers
  pub few : length answers ≤ most

-- no count is above the number of answers
pub record Low (counts : Counts) (most : ℕ) : Type 0 where
  pub all_few : counts.accepted + counts.refused ≤ most
  pub unstored_few : counts.unstored ≤ most
  pub full_few : counts.full ≤ most
  pub above_few : counts.above ≤ most
  pub below_few : counts.below ≤ most
  pub odd_few : counts.odd ≤ most

-- ---- Numbers

-- the first of two numbers that is given: the second counts where the first is 0
unfoldable pub first_number : (number after : ℕ) → ℕ
first_number zero after = after
first_number (suc number) after = suc number

-- ---- Walks

-- what a walk gives back and leaves
pub record Walked : Type 0 where
  pub counts : Counts
  pub memory : Memory

-- the counts, and the two lists as they are left
abbrev pub walked_to : Counts → (counters slots : List ℕ) → Walked
walked_to counts counters slots = record { counts = counts; memory = lent counters slots }

-- calls made one after the other, and counted after earlier ones
unfoldable pub walked : Settings → Memory → Counts → List Call → Walked
walked t m earlier calls =
    let made = run t m calls in
    record { counts = tallied earlier made.answers; memory = made.last }

-- ---- Messages

-- what a message does by what stands in it: the number that refuses it, what is counted, and what it leaves
pub record Updated : Type 0 where
  pub refusal : ℕ
  pub walk : Walked

-- a walk of a message that is not refused
abbrev pub accepted_as : Walked → Updated
accepted_as walk = record { refusal = 0; walk = walk }

-- a message past the checks of the memory and of the party
unfoldable pub update_done : Settings → Memory → (party : ℕ) (message hops : List ℕ) → Updated
update_done t m party message hops =
    let refusal = update_refusal message hops in
    cond (eqb refusal 0)
    (accepted_as (walked t m none_counted (message_calls party message hops)))
    (record { refusal = refusal; walk = record { counts = none_counted; memory = m } })

-- what a result means: after a refusal nothing is counted
abbrev pub applied_to : Result Counts Refusal → (counters slots : List ℕ) → Updated
applied_to (Ok counts) counters slots = accepted_as (walked_to counts counters slots)
applied_to (Err e) counters slots = record { refusal = refusal_number e; walk = walked_to none_counted counters slots }

-- two parts of a message, one after the other, whose prefixes fit
pub record Apart (message : List ℕ) (withdrawn announced : Cursor) : Type 0 where
  pub withdrawn_lies : withdrawn.at ≤ withdrawn.end
  pub after_it : withdrawn.end < announced.at
  pub announced_lies : announced.at ≤ announced.end
  pub inside : announced.end ≤ length message
  pub short : length message ≤ 4096
  pub withdrawn_fits : prefixes_fit message withdrawn.at withdrawn.end ≡ true
  pub announced_fits : prefixes_fit message announced.at announced.end ≡ true
