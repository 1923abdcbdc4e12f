-- What a kept table answers, in the words of the demands.
use Prim.Native.Nat.{ℕ, zero, suc, ◌^◌, ◌≤◌, ◌<◌}
use mathlib.Core.Path.{◌≡◌, refl, sym, ◌∙◌}
use mathlib.Core.Bool.{Bool, true, false, cond, ◌&&◌, true≢false, false≢true}
use mathlib.Core.List.{List, [], ◌∷◌}
use mathlib.Core.Option.{Option, some, none}
use mathlib.Core.Logic.{◌≢◌}
use native.Mathlib.Nat.{le_refl}
use native.Mathlib.Omega.{arith}
use lib.ListN.{length}
use lib.Dec.{eqb, leb}
use borrow.Author.Tests.{eq-eqb, lt-ltb}
use Rattle.rules.specs.declared.Settings.{Settings}
use Rattle.rules.specs.Tools.{all, those}
use Rattle.rules.specs.Table.{bucket, in_range, prefix, positions, Memory, lookup, down_from}
use Rattle.rules.proofs.Members.{both}
use Rattle.rules.proofs.Placing.{ranges, positions_length}
use Rattle.rules.specs.Calls.{Call, Add, Withdraw, word_sized, act}
use Rattle.promises.specs.History.{Route, routes_of, written, noted, without, route}
use Rattle.promises.specs.Demands.{Finds, SaysNone, number, beside, number_given, Stored, sum, exists, matches, crowded, add_number, Longest, NoMatch, marks, covered, probes_down_to, in_use, lengths_in_use, longest}
use Rattle.promises.proofs.Sums.{exists_there, exists_one}
use Rattle.promises.proofs.Paper.{own_stored, worth, stored_route, paper_withdrawn}
use Rattle.promises.proofs.Kept.{Kept}
use Rattle.promises.proofs.Refusals.{number_by_routes}
use Rattle.promises.proofs.Numbers.{withdrawable, number_not_10, add_not_8}
use Rattle.promises.proofs.Histories.{kept_next}
use Rattle.promises.proofs.Anew.{Parted, vacancy, next_accepted}
use Rattle.promises.proofs.Matches.{answer_by, Right, right}
use Rattle.promises.proofs.Lookups.{lookup_finds, lookup_none, lookup_by_routes, default_prefix}

-- ---- Probes

-- a test that implies another holds no more often
those_fewer : (test other : ℕ → Bool) (n : ℕ) → ((L : ℕ) → test L ≡ true → other L ≡ true) → length (those test (down_from n)) ≤ length (those other (down_from n))
unfolding those down_from
those_fewer test other zero implied = le_refl 0
those_fewer test other (suc n) implied = go (test (suc n)) (other (suc n)) (implied (suc n)) (those_fewer test other n implied)
  where
    go : (b c : Bool) → (b ≡ true → c ≡ true) → length (those test (down_from n)) ≤ length (those other (down_from n))
        → length (cond b (suc n ∷ those test (down_from n)) (those test (down_from n))) ≤ length (cond c (suc n ∷ those other (down_from n)) (those other (down_from n)))
    go true true h fewer = omega arith
    go true false h fewer = absurd (false≢true (h refl))
    go false true h fewer = omega arith
    go false false h fewer = fewer

-- what holds at all of some numbers holds at one of them
one_of_all : (test : ℕ → Bool) (xs : List ℕ) → 1 ≤ length xs → all test xs ≡ true → (x : ℕ) × (test x ≡ true)
unfolding all
one_of_all test [] some_there h = absurd (omega arith)
one_of_all test (x ∷ xs) some_there h = (x, (both (test x) (all test xs) h).0)

-- a length that is covered is in use
covered_in_use : (t : Settings) (routes : List Route) (address L : ℕ) → in_range t ≡ true → covered t routes address L ≡ true → in_use routes L ≡ true
unfolding covered in_use marks
covered_in_use t routes address L range h =
    let j = one_of_all (λ j. exists (marks t L j) routes) (positions t (prefix address L) L) (omega (arith, positions_length t (prefix address L) L, ranges t range)) h in
    let r = exists_one (marks t L j.0) routes j.1 in
    exists_there (λ r. eqb r.length L) r.1 (both (eqb r.0.length L) _ r.2).0

module _ {t : Settings} {routes : List Route} {m : Memory} (kept : Kept t routes m) (party : ℕ) (known : party ≤ 1) (address : ℕ) (word : address < 2 ^ 32) where
  abbrev its_routes : List Route
  its_routes = routes_of party routes

  pub finds : (r : Route) → Longest address its_routes r → Finds (lookup t m party address) r
  unfolding answer_by
  finds r best = rw (lookup_finds kept party known address word r best) (record { refusal = refl; found = refl; hop = refl; length = refl })

  -- the party's default matches every address
  pub default_longest : (r : Route) → Stored r its_routes → r.length ≡ 0 → ((q : Route) → Stored q its_routes → matches address q ≡ true → q.length ≡ 0)
      → Longest address its_routes r
  unfolding matches
  default_longest r stored default no_other = record {
    stored = stored;
    matching = eq-eqb _ _ (default_prefix kept address word r (own_stored party routes stored).0 default);
    longest = λ q there matching. omega (arith, no_other q there matching);
  }

  pub says : NoMatch address its_routes → SaysNone (lookup t m party address)
  unfolding answer_by
  says no_match = rw (lookup_none kept party known address word no_match) (record { refusal = refl; found = refl; hop = refl; length = refl })

  pub finds_none : (lookup t m party address).found ≡ false → NoMatch address its_routes
  unfolding answer_by
  finds_none h = go (longest address its_routes) (right address its_routes)
    where
      go : (o : Option Route) → Right address its_routes o → NoMatch address its_routes
      go none no_match = no_match
      go (some r) best = absurd (true≢false (rw (lookup_finds kept party known address word r best) at h))

  pub probes : (lookup t m party address).probes ≡ probes_down_to t routes address (lookup t m party address).length
  unfolding answer_by
  probes = rw (lookup_by_routes kept party known address word) (go (longest address its_routes))
    where
      go : (o : Option Route) → (answer_by t routes address o).probes ≡ probes_down_to t routes address (answer_by t routes address o).length
      go none = refl
      go (some r) = refl

  pub probes_few : (lookup t m party address).probes ≤ lengths_in_use routes
  unfolding probes_down_to lengths_in_use
  probes_few = rw probes (those_fewer (λ n. leb (lookup t m party address).length n && covered t routes address n) (in_use routes) 32
      (λ L h. covered_in_use t routes address L kept.range (both (leb (lookup t m party address).length L) _ h).1))

-- ---- Numbers given back

module _ {t : Settings} {routes : List Route} {m : Memory} (kept : Kept t routes m) where
  pub never_10 : (call : Call) → word_sized call ≡ true → (act t call m).refusal ≢ 10
  never_10 call sized = rw (number_by_routes kept call sized) (number_not_10 t routes call)

  -- what an accepted withdrawal leaves
  withdrawn_kept : (party p L : ℕ) → p < 2 ^ 32 → (act t (Withdraw party p L) m).refusal ≡ 0 → Kept t (without party p L routes) (act t (Withdraw party p L) m).memory
  unfolding noted written word_sized
  withdrawn_kept party p L word e = rw e at (kept_next kept (Withdraw party p L) (lt-ltb p (2 ^ 32) word))

  -- an accepted withdrawal takes one stored route of the party's away
  record Freed (party p L : ℕ) : Type 0 where
    hop : ℕ
    parted : Parted (without party p L routes) (route party p L hop ∷ []) routes

  withdrawal : (party p L : ℕ) → p < 2 ^ 32 → (act t (Withdraw party p L) m).refusal ≡ 0 → Freed party p L
  unfolding number_given sum worth word_sized
  withdrawal party p L word e =
      let ok = withdrawable routes party p L (sym (number_by_routes kept (Withdraw party p L) (lt-ltb p (2 ^ 32) word)) ∙ e) in
      let old = stored_route party p L routes ok.1 in
      record {
        hop = old.0;
        parted = λ weight. omega (arith, paper_withdrawn party p L old.0 old.1 (kept.once party p L) weight);
      }

  -- the number that an add is given after it
  add_after : (party p L other q hop : ℕ) → p < 2 ^ 32 → q < 2 ^ 32 → (act t (Withdraw party p L) m).refusal ≡ 0
      → (act t (Add other q L hop) (act t (Withdraw party p L) m).memory).refusal ≡ add_number t (without party p L routes) other q L hop
  unfolding number_given word_sized
  add_after party p L other q hop word word_q e = number_by_routes (withdrawn_kept party p L word e) (Add other q L hop) (lt-ltb q (2 ^ 32) word_q)

  pub freed : (party p L hop : ℕ) → p < 2 ^ 32 → hop ≤ 65535 → (act t (Withdraw party p L) m).refusal ≡ 0
      → (act t (Add party p L hop) (act t (Withdraw party p L) m).memory).refusal ≡ 0
  freed party p L hop word high e =
      let free = withdrawal party p L word e in
      add_after party p L party p hop word word e ∙ next_accepted kept (without party p L routes) [] (route party p L free.hop) free.parted hop high

  pub freed_place : (party p L other q hop : ℕ) → p < 2 ^ 32 → q < 2 ^ 32 → bucket t q ≡ bucket t p → (act t (Withdraw party p L) m).refusal ≡ 0
      → (act t (Add other q L hop) (act t (Withdraw party p L) m).memory).refusal ≢ 8
  unfolding crowded number beside
  freed_place party p L other q hop word word_q same e =
      let free = withdrawal party p L word e in
      rw (add_after party p L other q hop word word_q e)
      (add_not_8 t (without party p L routes) other q L hop (λ low. rw same (vacancy kept (without party p L routes) [] (route party p L free.hop) free.parted low)))
