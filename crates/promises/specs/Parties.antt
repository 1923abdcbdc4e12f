-- What one party did in a history, and when two of its lookups tell it the same.
use Rattle.std.specs.Prelude.{ℕ, ◌≡◌, Bool, true, false, cond, List, [], ◌∷◌, eqb}
use Rattle.rules.specs.Table.{Answer}
use Rattle.rules.specs.Calls.{Call, Clear, Add, Withdraw, Change}

-- the call is the party's; a clear is nobody's
unfoldable pub is_call_of : (party : ℕ) → Call → Bool
is_call_of party Clear = false
is_call_of party (Add q p L hop) = eqb q party
is_call_of party (Withdraw q p L) = eqb q party
is_call_of party (Change q p L hop) = eqb q party

-- none of the calls is a clear
unfoldable pub no_clear : List Call → Bool
no_clear [] = true
no_clear (Clear ∷ calls) = false
no_clear (Add party p L hop ∷ calls) = no_clear calls
no_clear (Withdraw party p L ∷ calls) = no_clear calls
no_clear (Change party p L hop ∷ calls) = no_clear calls

-- a call, and whether it was accepted
pub record Made : Type 0 where
  pub call : Call
  pub accepted : Bool

-- the party's calls in their order, each with whether it was accepted; whatever number refused it
unfoldable pub made_by : (party : ℕ) (calls : List Call) (answers : List ℕ) → List Made
made_by party [] answers = []
made_by party (call ∷ calls) [] = []
made_by party (call ∷ calls) (answer ∷ answers) =
    let rest = made_by party calls answers in
    cond (is_call_of party call) (record { call = call; accepted = eqb answer 0 } ∷ rest) rest

-- two answers that tell the same route, or none: they may differ in their probes
pub record SameRoute (answer other : Answer) : Type 0 where
  pub refusal : answer.refusal ≡ other.refusal
  pub found : answer.found ≡ other.found
  pub hop : answer.hop ≡ other.hop
  pub length : answer.length ≡ other.length
