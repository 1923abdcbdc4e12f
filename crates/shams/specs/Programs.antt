-- Any program for the table, whatever its calls do, and the part of the promises by which shams are shown up: a program that
-- breaks one of these is shut out.
use Rattle.std.specs.Prelude.{ℕ, ◌^◌, ◌≤◌, ◌<◌, ◌≡◌, true, List}
use Rattle.rules.specs.declared.Settings.{Settings}
use Rattle.rules.specs.Table.{Answer, in_range, Memory, Outcome, sized, clear, add, withdraw, change, refused, lookup}
use Rattle.rules.specs.Calls.{Call, Clear, Add, Withdraw, Change, word_sized, all_word_sized, act, Run, each}
use Rattle.promises.specs.History.{Route, routes_of, stored_by}
use Rattle.promises.specs.Demands.{Longest, NoMatch, Finds, SaysNone, number_given, probes_down_to}

-- what the calls of a program that write give back and leave
abbrev pub Acting : Type 0
Acting = Settings → Call → Memory → Outcome

-- what its lookups answer a party
abbrev pub Asking : Type 0
Asking = Settings → Memory → (party address : ℕ) → Answer

-- its calls, one after the other
unfoldable pub run_by : Acting → Settings → Memory → List Call → Run Memory
run_by acting t = each (λ m call. (acting t call m).refusal) (λ m call. (acting t call m).memory)

-- what it gives back and leaves in a history: a clear, on memory that held anything, and then the calls
unfoldable pub history_by : Acting → Settings → (before : Memory) → List Call → Run Memory
history_by acting t before calls = run_by acting t (acting t Clear before).memory calls

-- with these routes stored and this memory, the next call and the next lookup are as promised
pub record Promised (acting : Acting) (asking : Asking) (t : Settings) (m : Memory) (routes : List Route) : Type 0 where
  pub finds_longest : (party : ℕ) → party ≤ 1 → (address : ℕ) → address < 2 ^ 32 → (r : Route) → Longest address (routes_of party routes) r → Finds (asking t m party address) r
  pub says_none : (party : ℕ) → party ≤ 1 → (address : ℕ) → address < 2 ^ 32 → NoMatch address (routes_of party routes) → SaysNone (asking t m party address)
  pub probes_counted : (party : ℕ) → party ≤ 1 → (address : ℕ) → address < 2 ^ 32
      → (asking t m party address).probes ≡ probes_down_to t routes address (asking t m party address).length
  pub above_refused : (party address : ℕ) → 1 < party → asking t m party address ≡ refused 15
  pub numbers_given : (call : Call) → word_sized call ≡ true → (acting t call m).refusal ≡ number_given t routes call

-- so it is after every history, and a history can begin
pub record Honest (acting : Acting) (asking : Asking) : Type 0 where
  pub begins : (t : Settings) (before : Memory) → in_range t ≡ true → sized t before ≡ true → (acting t Clear before).refusal ≡ 0
  pub after : (t : Settings) (before : Memory) (calls : List Call) → (acting t Clear before).refusal ≡ 0 → all_word_sized calls ≡ true
      → Promised acting asking t (history_by acting t before calls).last (stored_by calls (history_by acting t before calls).answers)

-- ---- Programs that differ from the rules in one call

-- another clear,
abbrev pub with_clear : (Settings → Memory → Outcome) → Acting
with_clear other t Clear m = other t m
with_clear other t (Add party p L hop) m = add t m party p L hop
with_clear other t (Withdraw party p L) m = withdraw t m party p L
with_clear other t (Change party p L hop) m = change t m party p L hop

-- another add,
abbrev pub with_add : (Settings → Memory → (party p L hop : ℕ) → Outcome) → Acting
with_add other t Clear m = clear t m
with_add other t (Add party p L hop) m = other t m party p L hop
with_add other t (Withdraw party p L) m = withdraw t m party p L
with_add other t (Change party p L hop) m = change t m party p L hop

-- another withdrawal,
abbrev pub with_withdraw : (Settings → Memory → (party p L : ℕ) → Outcome) → Acting
with_withdraw other t Clear m = clear t m
with_withdraw other t (Add party p L hop) m = add t m party p L hop
with_withdraw other t (Withdraw party p L) m = other t m party p L
with_withdraw other t (Change party p L hop) m = change t m party p L hop

-- another change,
abbrev pub with_change : (Settings → Memory → (party p L hop : ℕ) → Outcome) → Acting
with_change other t Clear m = clear t m
with_change other t (Add party p L hop) m = add t m party p L hop
with_change other t (Withdraw party p L) m = withdraw t m party p L
with_change other t (Change party p L hop) m = other t m party p L hop

-- or lookups with another number of probes
abbrev pub with_probes : (Settings → Memory → (party address : ℕ) → ℕ) → Asking
with_probes probes t m party address =
    let a = lookup t m party address in
    record { refusal = a.refusal; found = a.found; hop = a.hop; length = a.length; probes = probes t m party address }

-- ---- The program of the rules

-- its calls,
unfoldable pub our_calls : Acting
our_calls t call m = act t call m

-- and its lookups
unfoldable pub our_lookups : Asking
our_lookups t m party address = lookup t m party address
