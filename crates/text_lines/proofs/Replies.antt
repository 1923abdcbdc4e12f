-- How a reply comes about: an update's outcome with what it left, a lookup's answer with the memory as it was.
use Prim.Native.Nat.{ℕ}
use mathlib.Core.Path.{◌≡◌, refl}
use mathlib.Core.List.{List}
use Rattle.rules.specs.Table.{Memory, Outcome, left, lent}
use Rattle.rules.specs.Table.{Answer}
use Rattle.text_answers.specs.Texts.{PutWithin, update_text, lookup_text}
use Rattle.text_lines.specs.Lines.{updated, Replied}

module _ {before after : List ℕ} {at next : ℕ} where
  pub by_update : {u : Outcome} {r : ℕ} {counters slots : List ℕ} → u ≡ left r counters slots → PutWithin 33 before at (update_text r) after next → Replied (updated u) (lent counters slots) before at after next
  unfolding updated
  by_update e p = rw e (record { memory_is = refl; put = p })

  pub by_lookup : {a r : Answer} (m : Memory) → r ≡ a → PutWithin 33 before at (lookup_text r) after next → Replied (record { text = lookup_text a; memory = m }) m before at after next
  by_lookup m e p = record { memory_is = refl; put = rw (← e) p }
