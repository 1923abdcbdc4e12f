-- What stands at a cursor, by the definitions of a message: each answer of a step, as the paper has it.
use Rattle.std.specs.Prelude.{ℕ, Bool, cond, List, length, ltb, Result, Ok, Err, Option, Some, None}
use Rattle.rules.specs.declared.Refusal.{Refusal}
use Rattle.rules.specs.declared.Refusal.TheVariants.{Malformed}
use Rattle.message_format.specs.Format.{prefix_from, after_prefix, prefix_fits, type_of, value_from, value_size, after_attribute, attribute_fits}
use Rattle.message_cursors.specs.declared.Cursor.{Cursor}
use Rattle.message_cursors.specs.declared.PrefixRead.{PrefixRead}
use Rattle.message_cursors.specs.declared.AttributeRead.{AttributeRead}

-- a fault where the part overruns the bytes, the end where nothing is left, and else what is read, if it fits
unfoldable pub step : {A : Type 0} → (size at end : ℕ) (fits : Bool) (read : A) → Result (Option A) Refusal
step size at end fits read =
    cond (ltb size end) (Err Malformed) (cond (ltb at end) (cond fits (Ok (Some read)) (Err Malformed)) (Ok None))

-- the prefix at the cursor, with the cursor moved to where the next one starts
unfoldable pub read_prefix : (bytes : List ℕ) → Cursor → PrefixRead
read_prefix bytes c =
    let q = prefix_from bytes c.at in
    record { prefix = q.prefix; length = q.length; rest = record { at = after_prefix bytes c.at; end = c.end } }

-- what a step over prefixes gives
unfoldable pub next_prefix : (bytes : List ℕ) → Cursor → Result (Option PrefixRead) Refusal
next_prefix bytes c = step (length bytes) c.at c.end (prefix_fits bytes c.at c.end) (read_prefix bytes c)

-- the attribute at the cursor, with the cursor moved to where the next one starts
unfoldable pub read_attribute : (bytes : List ℕ) → Cursor → AttributeRead
read_attribute bytes c =
    record {
      kind = type_of bytes c.at;
      from = value_from bytes c.at;
      size = value_size bytes c.at;
      rest = record { at = after_attribute bytes c.at; end = c.end };
    }

-- what a step over attributes gives
unfoldable pub next_attribute : (bytes : List ℕ) → Cursor → Result (Option AttributeRead) Refusal
next_attribute bytes c = step (length bytes) c.at c.end (attribute_fits bytes c.at c.end) (read_attribute bytes c)
