-- What whoever types lines sees: the calls that they ask for, and the numbers that the texts tell.
use Rattle.std.specs.Prelude.{ℕ, cond, List, map, drop}
use Rattle.rules.specs.declared.Settings.{Settings}
use Rattle.rules.specs.Table.{Memory}
use Rattle.rules.specs.Calls.{Call}
use Rattle.text_spelling.specs.Spelling.{spelled, same_bytes}
use Rattle.text_requests.specs.Shapes.{digits, value, request}
use Rattle.text_lines.specs.Lines.{line_reply}
use Rattle.text_promises.specs.Paper.{calls_of}

-- the number that the text to an update tells: 0 where it is ok, else the one that stands after refused and a space
unfoldable pub number_told : (text : List ℕ) → ℕ
number_told text = cond (same_bytes text (spelled "ok\n")) 0 (value 0 (digits (drop 8 text)))

-- the numbers that calls were given to which this text was written
unfoldable pub numbers_told : (calls : List Call) (text : List ℕ) → List ℕ
numbers_told calls text = map (λ call. number_told text) calls

-- A line of any bytes was typed: it stands for the call that it asks for, which was given the number that the text tells.
pub data Typed (t : Settings) : Memory → List Call → List ℕ → Memory → Type 0 where
  Line : {m : Memory} (line : List ℕ)
      → Typed t m (calls_of (request line)) (numbers_told (calls_of (request line)) (line_reply t m line).text) (line_reply t m line).memory
