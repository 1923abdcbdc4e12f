-- The answers of the text program, as bytes. Each is a line, ended by byte 10.
use Rattle.std.specs.Prelude.{ℕ, zero, suc, ◌+◌, ◌/◌, ◌%◌, ◌≤◌, ◌≡◌, cond, List, [], ◌∷◌, ◌++◌, length, ltb, eqb}
use Prim.Native.Char.{code}
use Rattle.std.proofs.lemmas.List.Edits.{sets}
use Rattle.rules.specs.Table.{Answer}
use Rattle.text_spelling.specs.Spelling.{spelled}

-- the last digits of n as characters, at most so many, with no leading zero
unfoldable pub last_digits : (many n : ℕ) → List ℕ
last_digits zero n = []
last_digits (suc many) n = cond (ltb n 10) ((code "0" + n) ∷ []) (last_digits many (n / 10) ++ (code "0" + n % 10) ∷ [])

-- n in decimal, with as few digits as it takes; n + 1 are enough for any n
unfoldable pub decimal : (n : ℕ) → List ℕ
decimal n = last_digits (suc n) n

-- an update that is refused, with its number
unfoldable pub refused_text : (number : ℕ) → List ℕ
refused_text number = spelled "refused " ++ decimal number ++ spelled "\n"

-- what an update answers by the number that it gave back
unfoldable pub update_text : (refusal : ℕ) → List ℕ
update_text refusal = cond (eqb refusal 0) (spelled "ok\n") (refused_text refusal)

-- a route was found
unfoldable pub route_text : (hop length probes : ℕ) → List ℕ
route_text hop length probes = decimal hop ++ spelled " " ++ decimal length ++ spelled " " ++ decimal probes ++ spelled "\n"

-- no route was found
unfoldable pub none_text : (probes : ℕ) → List ℕ
none_text probes = spelled "none " ++ decimal probes ++ spelled "\n"

-- what a lookup answers
unfoldable pub lookup_text : Answer → List ℕ
lookup_text r =
    cond (eqb r.refusal 0) (cond r.found (route_text r.hop r.length r.probes) (none_text r.probes))
    (update_text r.refusal)

-- what a line of another shape answers
abbrev pub unreadable : List ℕ
unreadable = spelled "unreadable\n"

-- a text is put at a position of lent bytes, and the next one goes after it
pub record Put (before : List ℕ) (at : ℕ) (text after : List ℕ) (next : ℕ) : Type 0 where
  pub holds : after ≡ sets before at text
  pub end : next ≡ at + length text

-- the same of a text of at most so many bytes
pub record PutWithin (most : ℕ) (before : List ℕ) (at : ℕ) (text after : List ℕ) (next : ℕ) : Type 0 where
  pub put : Put before at text after next
  pub short : length text ≤ most
