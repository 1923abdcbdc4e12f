-- A stored route added again with another hop moves no other figure: lengths, probes and vectors ask for prefixes and
-- lengths alone.
use Prim.Native.Nat.{ℕ, ◌^◌, ◌≤◌, ◌<◌}
use mathlib.Core.Path.{◌≡◌, refl, sym, ap, ◌∙◌}
use mathlib.Core.Bool.{Bool, true, false, cond, ◌&&◌, true≢false}
use mathlib.Core.List.{List, [], ◌∷◌}
use mathlib.Core.Option.{Option, some, none}
use mathlib.Core.Logic.{◌≢◌}
use native.Mathlib.Omega.{arith}
use lib.Dec.{eqb, leb, ltb}
use lib.ListN.{length}
use borrow.Author.Tests.{eqb-true}
use Rattle.rules.specs.declared.Settings.{Settings}
use Rattle.rules.specs.Tools.{all, any, those}
use Rattle.rules.specs.Table.{prefix, positions, Memory, lookup, match_vector, bits_where, down_from}
use Rattle.rules.proofs.Updates.{add_is_change}
use Rattle.rules.specs.Calls.{Call, Add, Change, act, word_sized}
use Rattle.promises.specs.History.{Route, of_party, routes_of, about, route, with_hop, written, noted}
use Rattle.promises.specs.Demands.{Stored, exists, matches, Longest, longer, longest, Finds, SameButHop, number_given, marks, covered, probes_down_to}
use Rattle.promises.proofs.Sums.{by_cases, exists_there}
use Rattle.promises.proofs.Paper.{own_about, about_true, about_made, own_stored, stored_own}
use Rattle.promises.proofs.Kept.{Kept, Fit, fits}
use Rattle.promises.proofs.Refusals.{stored_exists, number_by_routes}
use Rattle.promises.proofs.Numbers.{add_accepted}
use Rattle.promises.proofs.Histories.{kept_next}
use Rattle.promises.proofs.Anew.{sized}
use Rattle.promises.proofs.Matches.{answer_by, vector_by, Right, right}
use Rattle.promises.proofs.Lookups.{by_party, lookup_above, lookup_by_routes, vector_by_routes}

-- ---- What a new hop changes on paper

module _ (party p L hop : ℕ) where
  -- a route with the new hop, if it is the one about p and L
  abbrev new_hop : Route → Route
  new_hop r = cond (about party p L r) (route party p L hop) r

  same_prefix : (r : Route) → (new_hop r).prefix ≡ r.prefix
  same_prefix r = by_cases (about party p L r) (λ its. rw its (sym (about_true party p L r its).1)) (λ other. rw other)

  same_length : (r : Route) → (new_hop r).length ≡ r.length
  same_length r = by_cases (about party p L r) (λ its. rw its (sym (about_true party p L r its).2)) (λ other. rw other)

  same_party : (r : Route) → (new_hop r).party ≡ r.party
  same_party r = by_cases (about party p L r) (λ its. rw its (sym (about_true party p L r its).0)) (λ other. rw other)

  -- either party's routes are the same ones, with the new hop
  pub routes_as_before : (other : ℕ) (routes : List Route) → routes_of other (with_hop party p L hop routes) ≡ with_hop party p L hop (routes_of other routes)
  unfolding routes_of of_party with_hop
  routes_as_before other [] = refl
  routes_as_before other (r ∷ routes) = rw (same_party r, routes_as_before other routes) (go (eqb r.party other))
    where
      go : (b : Bool) → cond b (new_hop r ∷ with_hop party p L hop (routes_of other routes)) (with_hop party p L hop (routes_of other routes))
          ≡ with_hop party p L hop (cond b (r ∷ routes_of other routes) (routes_of other routes))
      go true = refl
      go false = refl

  -- a test of prefix and length passes as before
  exists_as_before : (test : Route → Bool) → ((r : Route) → test (new_hop r) ≡ test r) → (routes : List Route)
      → exists test (with_hop party p L hop routes) ≡ exists test routes
  unfolding exists with_hop
  exists_as_before test same [] = refl
  exists_as_before test same (r ∷ routes) = rw (same r, exists_as_before test same routes)

  covered_as_before : (t : Settings) (routes : List Route) (address M : ℕ) → covered t (with_hop party p L hop routes) address M ≡ covered t routes address M
  unfolding covered marks
  covered_as_before t routes address M =
      ap (λ (test : ℕ → Bool). all test (positions t (prefix address M) M))
      (λ i j. exists_as_before (λ r. eqb r.length M && any (eqb j) (positions t r.prefix M)) (λ r. rw (same_length r, same_prefix r)) routes i)

  probes_as_before : (t : Settings) (routes : List Route) (address M : ℕ) → probes_down_to t (with_hop party p L hop routes) address M ≡ probes_down_to t routes address M
  unfolding probes_down_to
  probes_as_before t routes address M = λ i. length (those (λ n. leb M n && covered_as_before t routes address n i) (down_from 32))

  -- the longest match, with the new hop
  abbrev renewed : Option Route → Option Route
  renewed (some r) = some (new_hop r)
  renewed none = none

  longer_as_before : (r : Route) (o : Option Route) → longer (new_hop r) (renewed o) ≡ renewed (longer r o)
  unfolding longer
  longer_as_before r none = refl
  longer_as_before r (some q) = rw (same_length q, same_length r) (go (ltb q.length r.length))
    where
      go : (b : Bool) → cond b (some (new_hop r)) (some (new_hop q)) ≡ renewed (cond b (some r) (some q))
      go true = refl
      go false = refl

  longest_as_before : (address : ℕ) (routes : List Route) → longest address (with_hop party p L hop routes) ≡ renewed (longest address routes)
  unfolding longest with_hop matches
  longest_as_before address [] = refl
  longest_as_before address (r ∷ routes) =
      rw (longest_as_before address routes, same_length r, same_prefix r, longer_as_before r (longest address routes)) (go (eqb (prefix address r.length) r.prefix))
    where
      go : (b : Bool) → cond b (renewed (longer r (longest address routes))) (renewed (longest address routes)) ≡ renewed (cond b (longer r (longest address routes)) (longest address routes))
      go true = refl
      go false = refl

  answer_as_before : (t : Settings) (routes : List Route) (address : ℕ) (o : Option Route)
      → SameButHop (answer_by t (with_hop party p L hop routes) address (renewed o)) (answer_by t routes address o)
  unfolding answer_by
  answer_as_before t routes address none = record { refusal = refl; found = refl; length = refl; probes = probes_as_before t routes address 0 }
  answer_as_before t routes address (some r) =
      record { refusal = refl; found = refl; length = same_length r; probes = rw (same_length r) (probes_as_before t routes address r.length) }

-- ---- A stored route added again

module _ {t : Settings} {routes : List Route} {m : Memory} (kept : Kept t routes m) (r : Route) (stands : Stored r routes) (hop : ℕ) (high : hop ≤ 65535) where
  its : Fit r
  its = fits kept r stands

  listed : exists (about r.party r.prefix r.length) routes ≡ true
  listed = exists_there (about r.party r.prefix r.length) stands (own_about r.party r.prefix r.length r.hop)

  -- the call that adds it again
  abbrev again : Call
  again = Add r.party r.prefix r.length hop

  word_in : word_sized again ≡ true
  word_in = sized (route r.party r.prefix r.length hop) its.word

  -- the table after it
  abbrev then : Memory
  then = (act t again m).memory

  pub again_number : number_given t routes again ≡ 0
  unfolding number_given
  again_number = add_accepted (record {
    valid = record { known = its.known; high = its.high; tight = its.tight };
    not_odd = its.not_odd;
    hop_high = high;
    vacancy = λ absent low. absurd (true≢false (sym listed ∙ absent));
    room = λ absent low. absurd (true≢false (sym listed ∙ absent));
  })

  pub again_accepted : (act t again m).refusal ≡ 0
  again_accepted = number_by_routes kept again word_in ∙ again_number

  changes : act t again m ≡ act t (Change r.party r.prefix r.length hop) m
  unfolding act
  changes = add_is_change t m r.party r.prefix r.length hop its.not_odd
      (stored_exists kept r.party r.prefix r.length its.known its.high its.tight its.word ∙ listed)

  -- the routes on paper after it
  abbrev renewed_routes : List Route
  renewed_routes = with_hop r.party r.prefix r.length hop routes

  kept_again : Kept t renewed_routes then
  unfolding noted written word_sized
  kept_again = rw (ap (λ u. u.memory) changes)
      (rw (sym (ap (λ u. u.refusal) changes) ∙ again_accepted) at (kept_next kept (Change r.party r.prefix r.length hop) word_in))

  module _ (address : ℕ) (word : address < 2 ^ 32) where
    pub again_vector : match_vector t then address ≡ match_vector t m address
    unfolding vector_by
    again_vector = vector_by_routes kept_again address word
        ∙ ap (λ (covers : ℕ → Bool). record { refusal = 0; vector = bits_where covers 32 }) (λ i M. covered_as_before r.party r.prefix r.length hop t routes address M i)
        ∙ sym (vector_by_routes kept address word)

  module _ (party : ℕ) (known : party ≤ 1) (address : ℕ) (word : address < 2 ^ 32) where
    -- the routes of the party that asks
    abbrev asked_routes : List Route
    asked_routes = routes_of party routes

    -- what answered before answers then, with the new hop if it is its own
    by_renewed : lookup t then party address ≡ answer_by t renewed_routes address (renewed r.party r.prefix r.length hop (longest address asked_routes))
    by_renewed = lookup_by_routes kept_again party known address word
        ∙ ap (answer_by t renewed_routes address)
        (ap (longest address) (routes_as_before r.party r.prefix r.length hop party routes)
        ∙ longest_as_before r.party r.prefix r.length hop address asked_routes)

    same_but_hop : SameButHop (lookup t then party address) (lookup t m party address)
    same_but_hop = rw (by_renewed, lookup_by_routes kept party known address word)
        (answer_as_before r.party r.prefix r.length hop t routes address (longest address asked_routes))

    -- a route of the asked that is about the same party, prefix and length is as long, and matches as well
    same_longest : (q : Route) → about r.party r.prefix r.length q ≡ true → Longest address asked_routes q → Longest address asked_routes r
    unfolding matches
    same_longest q own best =
        let its = about_true r.party r.prefix r.length q own in
        let asked = own_stored party routes best.stored in
        record {
          stored = stored_own party stands (sym its.0 ∙ asked.1);
          matching = rw (← its.1, ← its.2) best.matching;
          longest = rw (← its.2) best.longest;
        }

    -- two longest matches have one party, prefix and length
    one_match : (q : Route) → Longest address asked_routes q → Longest address asked_routes r → about r.party r.prefix r.length q ≡ true
    unfolding matches
    one_match q best own =
        let as_long : q.length ≡ r.length = omega (arith, own.longest q best.stored best.matching, best.longest r own.stored own.matching) in
        let alike : q.prefix ≡ r.prefix = sym (eqb-true _ _ best.matching) ∙ ap (λ (n : ℕ). prefix address n) as_long ∙ eqb-true _ _ own.matching in
        about_made _ _ _ q ((own_stored party routes best.stored).1 ∙ sym (own_stored party routes own.stored).1) alike as_long

    -- where the route answered, its new hop does
    new_hop_found : Longest address asked_routes r → Finds (lookup t then party address) (route r.party r.prefix r.length hop)
    unfolding answer_by
    new_hop_found own = rw by_renewed (go (longest address asked_routes) (right address asked_routes))
      where
        go : (o : Option Route) → Right address asked_routes o
            → Finds (answer_by t renewed_routes address (renewed r.party r.prefix r.length hop o)) (route r.party r.prefix r.length hop)
        go none no_match = absurd (true≢false (sym own.matching ∙ no_match r own.stored))
        go (some q) best = rw (one_match q best own) (record { refusal = refl; found = refl; hop = refl; length = refl })

    -- where another route did, or none, nothing changes
    as_before : (Longest address asked_routes r → ⊥) → lookup t then party address ≡ lookup t m party address
    unfolding answer_by
    as_before other = rw (by_renewed, lookup_by_routes kept party known address word) (go (longest address asked_routes) (right address asked_routes))
      where
        go : (o : Option Route) → Right address asked_routes o
            → answer_by t renewed_routes address (renewed r.party r.prefix r.length hop o) ≡ answer_by t routes address o
        go none no_match = rw (probes_as_before r.party r.prefix r.length hop t routes address 0)
        go (some q) best = by_cases (about r.party r.prefix r.length q)
            (λ own. absurd (other (same_longest q own best)))
            (λ apart. rw (apart, probes_as_before r.party r.prefix r.length hop t routes address q.length))

  -- so of every lookup: one of a party above 1 is refused before and after
  pub again_lookup : (party address : ℕ) → address < 2 ^ 32 → SameButHop (lookup t then party address) (lookup t m party address)
  again_lookup party address word = by_party party
      (λ known. same_but_hop party known address word)
      (λ above. rw (lookup_above kept_again party address above, lookup_above kept party address above) (record { refusal = refl; found = refl; length = refl; probes = refl }))

  pub again_finds : (address : ℕ) → address < 2 ^ 32 → Longest address (routes_of r.party routes) r
      → Finds (lookup t then r.party address) (route r.party r.prefix r.length hop)
  again_finds = new_hop_found r.party its.known

  pub again_others : (party address : ℕ) → address < 2 ^ 32 → (Longest address (routes_of party routes) r → ⊥) → lookup t then party address ≡ lookup t m party address
  again_others party address word other = by_party party
      (λ known. as_before party known address word other)
      (λ above. lookup_above kept_again party address above ∙ sym (lookup_above kept party address above))

  -- and the other party's stay as they were
  pub again_other_party : (party address : ℕ) → address < 2 ^ 32 → party ≢ r.party → lookup t then party address ≡ lookup t m party address
  again_other_party party address word apart =
      again_others party address word (λ best. apart (sym (own_stored party routes best.stored).1))
