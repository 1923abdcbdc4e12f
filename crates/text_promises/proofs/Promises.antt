-- Demands 2 and 3 of the text program, for whoever types its lines: lines of any bytes are a history, refused and unreadable ones
-- included, and after any history what is written to the next line is what the stored routes say. They are read off the lines and the
-- texts alone (specs/Typed.antt). The lines are party 0's; the history may have calls of either party. Settings are any; the program's own
-- come last.
use Prim.Native.Nat.{ℕ, ◌^◌, ◌≤◌, ◌<◌}
use mathlib.Core.Path.{◌≡◌, refl, sym, ap, subst, ◌∙◌}
use mathlib.Core.Bool.{true}
use mathlib.Core.List.{List, [], ◌∷◌, ◌++◌}
use mathlib.Core.Option.{some, none}
use mathlib.Core.Option as math
use mathlib.Core.Logic.{◌↔◌}
use lib.ListN.{length, replicate}
use lib.Dec.{lit≤}
use Rattle.std.specs.Prelude.{Option, Some, None}
use Rattle.rules.specs.Tools.{input_of}
use Rattle.rules.specs.declared.Settings.{Settings}
use Rattle.rules.specs.Table.{Answer}
use Rattle.rules.specs.Table.{Memory, lent, lookup}
use Rattle.rules.specs.Calls.{Call, Clear, Add as Call-as-Add, Withdraw, Change, word_sized, all_word_sized, act, each, run}
use Rattle.rules.proofs.Members.{both}
use Rattle.rules.proofs.Worked.{T, computing}
use Rattle.text_spelling.specs.Spelling.{spelled}
use Rattle.text_requests.specs.declared.Request.{Request}
use Rattle.text_requests.specs.declared.Request.TheVariants.{Add, Drop, Move, Find}
use Rattle.text_requests.specs.Shapes.{request}
use Rattle.text_requests.proofs.Words.{request_words}
use Rattle.text_answers.specs.Texts.{update_text, route_text, none_text, lookup_text, unreadable}
use Rattle.text_lines.specs.Lines.{updated, reply, line_reply, lines, lines_text, going, stream_text}
use Rattle.text_lines.proofs.Cuts.{begins, one_by_one}
use Rattle.promises.specs.History.{Route, routes_of, route, without, written, noted, on_paper, stored_by, SingleCalls, History, Ran}
use Rattle.promises.specs.Demands.{Stored, matches, Longest, NoMatch, Finds, number_given, paper, probes_down_to, longest}
use Rattle.promises.proofs.Matches.{Right, right}
use Rattle.promises.proofs.Paper.{own_stored}
use Rattle.promises.proofs.Answers.{default_longest}
use Rattle.promises.proofs.Histories.{kept, seat_history, more_routes_on_paper}
use Rattle.promises.proofs.Promises.{finds_longest, says_none, numbers_given, stored_accepted, replaced_found, probes_counted, replaced_lookups}
use Rattle.text_promises.specs.Paper.{calls_of, paper_answers}
use Rattle.text_promises.specs.Typed.{number_told, numbers_told, Typed, Line}
use Rattle.text_promises.specs.Streams.{Streamed}
use Rattle.text_promises.proofs.Texts.{route_not_none, only_unreadable, route_tells, none_tells, number_tells}
use Rattle.text_promises.proofs.Histories.{line_made, text_on_paper, lines_on_paper}
use Rattle.text_promises.proofs.Streams.{all_streamed}

-- Lines are a history of the calls that they ask for, so whatever is promised over histories is promised after lines.
pub lines_are_history : {t : Settings} {before empty m : Memory} {calls : List Call} {answers : List ℕ} → SingleCalls t before (Clear ∷ []) (0 ∷ []) empty
    → Ran (Typed t) empty calls answers m → History t calls answers m
lines_are_history {t} = seat_history single
  where
    single : (m : Memory) (calls : List Call) (answers : List ℕ) (m' : Memory) → Typed t m calls answers m' → SingleCalls t m calls answers m'
    single m calls answers m' (Line line) = line_made t m line

-- ---- What is written, on any memory

module _ (t : Settings) (m : Memory) (line : List ℕ) where
  -- An update is answered by the number that its call is given.
  pub update_written : (call : Call) → calls_of (request line) ≡ call ∷ [] → let u = act t call m in
      line_reply t m line ≡ record { text = update_text u.refusal; memory = u.memory }
  unfolding line_reply reply updated calls_of act
  update_written call asks = go (request line) asks
    where
      go : (r : Option Request) → calls_of r ≡ call ∷ [] → reply t m r ≡ record { text = update_text (act t call m).refusal; memory = (act t call m).memory }
      go (Some (Add p L hop)) e = let same : Call-as-Add 0 p L hop ≡ call = cc in rw (← same)
      go (Some (Drop p L)) e = let same : Withdraw 0 p L ≡ call = cc in rw (← same)
      go (Some (Move p L hop)) e = let same : Change 0 p L hop ≡ call = cc in rw (← same)
      go (Some (Find address)) e = cc
      go None e = cc

  -- A find is answered by what a lookup answers; it leaves memory and paper as they are.
  pub find_written : (address : ℕ) → request line ≡ Some (Find address)
      → (line_reply t m line ≡ record { text = lookup_text (lookup t m 0 address); memory = m }) × (calls_of (request line) ≡ [])
  unfolding line_reply reply calls_of
  find_written address asks = (rw asks, rw asks)

  -- An unreadable line is told that it is one, and leaves them so too.
  pub unreadable_written : request line ≡ None → (line_reply t m line ≡ record { text = unreadable; memory = m }) × (calls_of (request line) ≡ [])
  unfolding line_reply reply calls_of
  unreadable_written asks = (rw asks, rw asks)

-- an answer that finds a route is written as its hop, its length and the probes
route_written : {r : Route} {probes : ℕ} (a : Answer) → Finds a r → a.probes ≡ probes → lookup_text a ≡ route_text r.hop r.length probes
unfolding lookup_text
route_written a its counted = rw (its.refusal, its.found, its.hop, its.length, counted)

-- ---- After any history

module _ {t : Settings} {calls : List Call} {answers : List ℕ} {m : Memory} (history : History t calls answers m) where
  -- the routes that are stored then
  abbrev routes : List Route
  routes = stored_by calls answers

  -- those of them that are party 0's
  abbrev its_routes : List Route
  its_routes = routes_of 0 routes

  -- What is written to lines is what the paper says, line by line.
  pub paper_says : (lines : List (List ℕ)) → lines_text t m lines ≡ paper_answers t routes lines
  paper_says = lines_on_paper history

  -- So it is for an input, wherever it was cut.
  pub paper_says_of_input : (line : List ℕ) (chunks : List (List ℕ)) → 65 ≤ length line
      → stream_text t (going m line 0) chunks ≡ paper_answers t routes (lines (input_of chunks))
  paper_says_of_input line chunks room = one_by_one t m line chunks room ∙ paper_says (lines (input_of chunks))

  -- Whoever answers an input by the calls of crates/text_lines, with room for the answers, passes on just that.
  pub paper_says_of_calls : {line : List ℕ} {chunks : List (List ℕ)} {text : List ℕ} → 65 ≤ length line → Streamed t m line 0 chunks text
      → text ≡ paper_answers t routes (lines (input_of chunks))
  paper_says_of_calls {line} {chunks} room streamed = all_streamed (begins m line room) streamed ∙ paper_says_of_input line chunks room

  -- One line.
  module _ (line : List ℕ) where
    -- An update is answered ok, or refused with the number that the stored routes give it.
    pub numbers_written : (call : Call) → calls_of (request line) ≡ call ∷ [] → (line_reply t m line).text ≡ update_text (number_given t routes call)
    unfolding all_word_sized
    numbers_written call asks =
        let sized = (both (word_sized call) _ (rw asks at (line_made t m line).words)).0 in
        ap (λ r. r.text) (update_written t m line call asks) ∙ ap update_text (numbers_given history call sized)

    -- The number in its answer is that number and no other.
    pub number_exactly : (call : Call) → calls_of (request line) ≡ call ∷ [] → (n : ℕ) → (line_reply t m line).text ≡ update_text n → n ≡ number_given t routes call
    number_exactly call asks n h = number_tells n (number_given t routes call) (sym h ∙ numbers_written call asks)

    -- It is answered ok exactly if none of the listed conditions holds of them.
    pub accepted_exactly : (call : Call) → calls_of (request line) ≡ call ∷ []
        → ((line_reply t m line).text ≡ spelled "ok\n") ↔ (number_given t routes call ≡ 0)
    unfolding update_text
    accepted_exactly call asks = (λ ok. sym (number_exactly call asks 0 ok), λ none. numbers_written call asks ∙ ap update_text none)

    -- Only an unreadable line is told that it is.
    pub unreadable_exactly : (line_reply t m line).text ≡ unreadable → request line ≡ None
    unreadable_exactly h = only_unreadable t routes (request line) (sym (text_on_paper history line) ∙ h)

  -- A line that asks for an address.
  module _ (line : List ℕ) (address : ℕ) (asks : request line ≡ Some (Find address)) where
    word : address < 2 ^ 32
    word = rw asks at (request_words line)

    told : (line_reply t m line).text ≡ lookup_text (lookup t m 0 address)
    told = ap (λ r. r.text) (find_written t m line address asks).0

    counted : (L : ℕ) → (lookup t m 0 address).length ≡ L → (lookup t m 0 address).probes ≡ probes_down_to t routes address L
    counted L e = probes_counted history 0 (lit≤ tt) address word ∙ ap (probes_down_to t routes address) e

    -- It is answered hop and length of the longest stored route of party 0's that matches, with the probe count of demand 3.
    pub longest_written : (r : Route) → Longest address its_routes r
        → (line_reply t m line).text ≡ route_text r.hop r.length (probes_down_to t routes address r.length)
    longest_written r best = let its = finds_longest history 0 (lit≤ tt) address word r best in told ∙ route_written _ its (counted _ its.length)

    -- The default is answered, with length 0, if no other of its routes matches.
    pub default_written : (r : Route) → Stored r its_routes → r.length ≡ 0 → ((q : Route) → Stored q its_routes → matches address q ≡ true → q.length ≡ 0)
        → (line_reply t m line).text ≡ route_text r.hop 0 (probes_down_to t routes address 0)
    default_written r stands default no_other =
        longest_written r (default_longest (kept history) 0 (lit≤ tt) address word r stands default no_other)
        ∙ ap (λ (L : ℕ). route_text r.hop L (probes_down_to t routes address L)) default

    -- None is answered, with its probe count, if none of its routes matches.
    pub none_written : NoMatch address its_routes → (line_reply t m line).text ≡ none_text (probes_down_to t routes address 0)
    unfolding lookup_text
    none_written no_match = let its = says_none history 0 (lit≤ tt) address word no_match in told ∙ rw (its.refusal, its.found, counted 0 its.length)

    -- Three numbers are answered only for its longest stored match.
    pub route_exactly : (hop length probes : ℕ) → (line_reply t m line).text ≡ route_text hop length probes
        → (r : Route) × Longest address its_routes r × (hop ≡ r.hop) × (length ≡ r.length) × (probes ≡ probes_down_to t routes address r.length)
    route_exactly hop length probes h = go (longest address its_routes) (right address its_routes)
      where
        go : (o : math.Option Route) → Right address its_routes o
            → (r : Route) × Longest address its_routes r × (hop ≡ r.hop) × (length ≡ r.length) × (probes ≡ probes_down_to t routes address r.length)
        go none no_match = absurd (route_not_none _ _ _ _ (sym h ∙ none_written no_match))
        go (some r) best = let tells = route_tells _ _ _ _ _ _ (sym h ∙ longest_written r best) in (r, best, tells.0, tells.1, tells.2)

    -- None is answered only where none of its routes matches.
    pub none_exactly : (probes : ℕ) → (line_reply t m line).text ≡ none_text probes → NoMatch address its_routes × (probes ≡ probes_down_to t routes address 0)
    none_exactly probes h = go (longest address its_routes) (right address its_routes)
      where
        go : (o : math.Option Route) → Right address its_routes o → NoMatch address its_routes × (probes ≡ probes_down_to t routes address 0)
        go none no_match = (no_match, none_tells _ _ (sym h ∙ none_written no_match))
        go (some r) best = absurd (route_not_none _ _ _ _ (sym (longest_written r best) ∙ h))

  -- A line that adds a stored route of party 0's again, with a hop that is valid.
  module _ (line : List ℕ) (r : Route) (stands : Stored r its_routes) (hop : ℕ) (high : hop ≤ 65535) (asks : request line ≡ Some (Add r.prefix r.length hop)) where
    its : Stored r routes × (r.party ≡ 0)
    its = own_stored 0 routes stands

    -- It is answered ok,
    pub replacing_written : (line_reply t m line).text ≡ spelled "ok\n"
    unfolding calls_of update_text
    replacing_written = ap (λ r. r.text) (update_written t m line _ (ap calls_of asks)) ∙ ap update_text (rw its.1 at (stored_accepted history r its.0 hop high))

    -- and the paper has its new hop, and the old one no more.
    pub replacing_noted : let call = Call-as-Add 0 r.prefix r.length hop in
        stored_by (calls ++ call ∷ []) (answers ++ number_told (line_reply t m line).text ∷ []) ≡ route 0 r.prefix r.length hop ∷ without 0 r.prefix r.length routes
    unfolding numbers_told calls_of paper each noted written
    replacing_noted =
        let next = rw asks at (line_made t m line) in
        more_routes_on_paper history next ∙ rw ((accepted_exactly line (Call-as-Add 0 r.prefix r.length hop) (rw asks)).0 replacing_written)

    -- A find of an address of which the route is the longest match is then answered the new hop, and the probes as before.
    pub replacing_found : (next : List ℕ) (address : ℕ) → request next ≡ Some (Find address) → Longest address its_routes r
        → (line_reply t (line_reply t m line).memory next).text ≡ route_text hop r.length (probes_down_to t routes address r.length)
    unfolding line_reply reply updated act
    replacing_found next address finds best =
        let word : address < 2 ^ 32 = rw finds at (request_words next) in
        let best_own = subst (λ (party : ℕ). Longest address (routes_of party routes) r) (sym its.1) best in
        let found = rw its.1 at (replaced_found history r its.0 hop high address word best_own) in
        let same = rw its.1 at (replaced_lookups history r its.0 hop high 0 address word) in
        rw (asks, finds)
        (route_written _ found (same.probes ∙ probes_counted history 0 (lit≤ tt) address word ∙ ap (probes_down_to t routes address) (sym same.length ∙ found.length)))

-- ---- The program's own table

-- settings T, and memory of zeros, which is what a clear leaves of it; 65 bytes for the line
pub program_writes : {chunks : List (List ℕ)} {text : List ℕ} → Streamed T (lent (replicate 512 0) (replicate 258 0)) (replicate 65 0) 0 chunks text
    → text ≡ paper_answers T [] (lines (input_of chunks))
unfolding computing act run each all_word_sized stored_by on_paper
program_writes streamed =
    let zeros = lent (replicate 512 0) (replicate 258 0) in
    let cleared : History T [] [] zeros = record { before = zeros; cleared = refl; words = refl; ran = refl } in
    paper_says_of_calls cleared (lit≤ tt) streamed
