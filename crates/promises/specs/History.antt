-- What a history is: an accepted clear, and then any calls, with any arguments that a caller can give. What it stores is
-- read off the calls and their answers alone.
use Rattle.std.specs.Prelude.{ℕ, ◌≡◌, Bool, true, cond, ◌&&◌, List, [], ◌∷◌, ◌++◌, map, eqb}
use Rattle.rules.specs.declared.Settings.{Settings}
use Rattle.rules.specs.Table.{Memory}
use Rattle.rules.specs.Calls.{Call, Clear, Add, Withdraw, Change, all_word_sized, act, run}

-- ---- The routes on paper

-- a route as it stands on paper, with the party whose it is; that of length 0 is the party's default
pub record Route : Type 0 where
  pub party : ℕ
  pub prefix : ℕ
  pub length : ℕ
  pub hop : ℕ

-- the route is the party's
unfoldable pub of_party : (party : ℕ) → Route → Bool
of_party party r = eqb r.party party

-- the party's own routes, in their order
unfoldable pub routes_of : (party : ℕ) → List Route → List Route
routes_of party [] = []
routes_of party (r ∷ routes) = cond (of_party party r) (r ∷ routes_of party routes) (routes_of party routes)

-- the route is the party's and about this prefix of this length
unfoldable pub about : (party p L : ℕ) → Route → Bool
about party p L r = of_party party r && (eqb r.prefix p && eqb r.length L)

-- the routes that are not about it
unfoldable pub without : (party p L : ℕ) → List Route → List Route
without party p L [] = []
without party p L (r ∷ routes) = cond (about party p L r) (without party p L routes) (r ∷ without party p L routes)

-- a route of the party's
abbrev pub route : (party p L hop : ℕ) → Route
route party p L hop = record { party = party; prefix = p; length = L; hop = hop }

-- the routes, with a new hop in the one that is about it
unfoldable pub with_hop : (party p L hop : ℕ) → List Route → List Route
with_hop party p L hop routes = map (λ r. cond (about party p L r) (route party p L hop) r) routes

-- what an accepted call does to the routes on paper; a route that is added stands instead of any of its party's that is
-- about its prefix and length, so that the last accepted hop is the one stored; a clear empties both parties' paper
unfoldable pub written : Call → List Route → List Route
written Clear routes = []
written (Add party p L hop) routes = route party p L hop ∷ without party p L routes
written (Withdraw party p L) routes = without party p L routes
written (Change party p L hop) routes = with_hop party p L hop routes

-- a refused call leaves the paper as it was
unfoldable pub noted : Call → (refusal : ℕ) → List Route → List Route
noted call refusal routes = cond (eqb refusal 0) (written call routes) routes

-- the routes on paper after some calls, by the calls and the numbers that they were given
unfoldable pub on_paper : List Route → (calls : List Call) (answers : List ℕ) → List Route
on_paper routes [] answers = routes
on_paper routes (call ∷ calls) [] = routes
on_paper routes (call ∷ calls) (answer ∷ answers) = on_paper (noted call answer routes) calls answers

-- the routes that a history stores: a clear begins it, with nothing on paper
unfoldable pub stored_by : (calls : List Call) (answers : List ℕ) → List Route
stored_by calls answers = on_paper [] calls answers

-- ---- Histories

-- these single calls were made on memory m, one after the other, were given these answers, and left m'; their prefixes are
-- numbers of 32 bits
pub record SingleCalls (t : Settings) (m : Memory) (calls : List Call) (answers : List ℕ) (m' : Memory) : Type 0 where
  pub words : all_word_sized calls ≡ true
  pub ran : run t m calls ≡ record { answers = answers; last = m' }

-- A history, which is all that a promise asks for. The table was cleared, on memory that held anything, and the clear was
-- accepted. Then these calls were made, refused ones among them, all with the same settings. Each was given its answer, and
-- m is the memory that they leave.
pub record History (t : Settings) (calls : List Call) (answers : List ℕ) (m : Memory) : Type 0 where
  pub before : Memory
  pub cleared : (act t Clear before).refusal ≡ 0
  pub words : all_word_sized calls ≡ true
  pub ran : run t (act t Clear before).memory calls ≡ record { answers = answers; last = m }

-- ---- Seats

-- What a seat did, one thing after the other: a seat is anyone from whom calls come, a caller of crates/table, a C program,
-- a reader of messages or of lines. One thing done stands for some single calls (an update for one, a list of addresses for
-- none, a message for several), which were given their answers, and goes on from the memory that the one before it left.
pub data Ran (Did : Memory → List Call → List ℕ → Memory → Type 0) : Memory → List Call → List ℕ → Memory → Type 0 where
  Stop : {m : Memory} → Ran Did m [] [] m
  Then : {m m' last : Memory} {calls more : List Call} {answers more_answers : List ℕ}
      → Did m calls answers m' → Ran Did m' more more_answers last → Ran Did m (calls ++ more) (answers ++ more_answers) last
