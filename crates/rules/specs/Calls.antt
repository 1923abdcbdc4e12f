-- A call that writes, with its arguments; and calls made one after the other.
use Rattle.std.specs.Prelude.{ℕ, ◌^◌, Bool, true, not, ◌&&◌, ◌||◌, List, [], ◌∷◌, ltb, eqb, length}
use Rattle.rules.specs.Tools.{within, those}
use Rattle.rules.specs.declared.Settings.{Settings}
use Rattle.rules.specs.Table.{Memory, Outcome, clear, add, withdraw, change}

-- a call that writes, with its arguments; but for a clear it names its party
pub data Call : Type 0 where
  Clear : Call
  Add : (party p L hop : ℕ) → Call
  Withdraw : (party p L : ℕ) → Call
  Change : (party p L hop : ℕ) → Call

-- its prefix is a number of 32 bits, as every caller's is
unfoldable pub word_sized : Call → Bool
word_sized Clear = true
word_sized (Add party p L hop) = ltb p (2 ^ 32)
word_sized (Withdraw party p L) = ltb p (2 ^ 32)
word_sized (Change party p L hop) = ltb p (2 ^ 32)

-- so is that of each of these calls
unfoldable pub all_word_sized : List Call → Bool
all_word_sized [] = true
all_word_sized (call ∷ calls) = word_sized call && all_word_sized calls

-- what a call gives back and leaves
unfoldable pub act : Settings → Call → Memory → Outcome
act t Clear m = clear t m
act t (Add party p L hop) m = add t m party p L hop
act t (Withdraw party p L) m = withdraw t m party p L
act t (Change party p L hop) m = change t m party p L hop

-- ---- One call after the other

-- what calls made one after the other give back, each its number, and what the last one leaves
pub record Run (S : Type 0) : Type 0 where
  pub answers : List ℕ
  pub last : S

-- Calls one after the other, each on what the one before it has left. What a call is given there, and what it leaves, may
-- be told of the memory, of the routes on paper, or of any other program's table.
unfoldable pub each : {S : Type 0} → (given : S → Call → ℕ) (next : S → Call → S) → S → List Call → Run S
each given next s [] = record { answers = []; last = s }
each given next s (call ∷ calls) =
    let rest = each given next (next s call) calls in
    record { answers = given s call ∷ rest.answers; last = rest.last }

-- the calls of the rules, on the lent memory
unfoldable pub run : Settings → Memory → List Call → Run Memory
run t = each (λ m call. (act t call m).refusal) (λ m call. (act t call m).memory)

-- ---- What is counted of the answers

-- the numbers that a route with good settings, length, bits and hop can be given: 0, and 7 to 11
unfoldable pub route_number : (n : ℕ) → Bool
route_number n = eqb n 0 || within 7 11 n

-- how many calls were accepted
unfoldable pub accepted_of : (answers : List ℕ) → ℕ
accepted_of answers = length (those (λ n. eqb n 0) answers)

-- how many were refused
unfoldable pub refused_of : (answers : List ℕ) → ℕ
refused_of answers = length (those (λ n. not (eqb n 0)) answers)
