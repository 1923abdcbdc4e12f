-- The text program on paper: what is written to each line by the routes that are stored then, with no counter and no slot in sight.
-- The program is party 0: its calls are, and it finds its own routes. Stored may be those of either party.
use Rattle.std.specs.Prelude.{ℕ, List, [], ◌∷◌, ◌++◌, Option, Some, None}
use Rattle.std.proofs.Math.Option.{some, none}
use Rattle.std.proofs.Math.Option as math
use Rattle.rules.specs.declared.Settings.{Settings}
use Rattle.rules.specs.Calls.{Call, Add as Call-as-Add, Withdraw, Change}
use Rattle.text_requests.specs.declared.Request.{Request}
use Rattle.text_requests.specs.declared.Request.TheVariants.{Add, Drop, Move, Find}
use Rattle.text_requests.specs.Shapes.{request}
use Rattle.text_answers.specs.Texts.{update_text, route_text, none_text, unreadable}
use Rattle.promises.specs.History.{Route, routes_of}
use Rattle.promises.specs.Demands.{number_given, probes_down_to, longest, paper}

-- the call that a request stands for: find asks for none that writes, and an unreadable line for none at all
unfoldable pub calls_of : Option Request → List Call
calls_of (Some (Add p L hop)) = Call-as-Add 0 p L hop ∷ []
calls_of (Some (Drop p L)) = Withdraw 0 p L ∷ []
calls_of (Some (Move p L hop)) = Change 0 p L hop ∷ []
calls_of (Some (Find address)) = []
calls_of None = []

-- to find: hop and length of the longest match and the probes down to there, or none and all probes
unfoldable pub find_text : Settings → List Route → (address : ℕ) → math.Option Route → List ℕ
find_text t routes address (some r) = route_text r.hop r.length (probes_down_to t routes address r.length)
find_text t routes address none = none_text (probes_down_to t routes address 0)

-- to any request, and to none: an update is told the number that the stored routes give it
unfoldable pub text_by : Settings → List Route → Option Request → List ℕ
text_by t routes (Some (Add p L hop)) = update_text (number_given t routes (Call-as-Add 0 p L hop))
text_by t routes (Some (Drop p L)) = update_text (number_given t routes (Withdraw 0 p L))
text_by t routes (Some (Move p L hop)) = update_text (number_given t routes (Change 0 p L hop))
text_by t routes (Some (Find address)) = find_text t routes address (longest address (routes_of 0 routes))
text_by t routes None = unreadable

-- to lines, one after the other, each by the routes that those before it leave
unfoldable pub paper_answers : Settings → List Route → (lines : List (List ℕ)) → List ℕ
paper_answers t routes [] = []
paper_answers t routes (line ∷ lines) =
    text_by t routes (request line) ++ paper_answers t (paper t routes (calls_of (request line))).last lines
