-- What one party's lookups tell it is its own doing. Where two histories have the same calls of the party, and accept the same
-- ones of them, it has the same routes after both, and every address leads it to the same hop. Its probes, the vector, and an 8 or
-- 9 can be due to the other party (proofs/Premises.antt).
use Prim.Native.Nat.{ℕ, ◌^◌, ◌<◌}
use mathlib.Core.Path.{◌≡◌, refl, sym, ap, ◌∙◌}
use mathlib.Core.Bool.{Bool, true, false, cond, ◌&&◌, ◌||◌, false≢true}
use mathlib.Core.List.{List, [], ◌∷◌}
use mathlib.Core.Option.{Option, some, none}
use lib.Dec.{eqb}
use lib.ListN.{length, get_or}
use borrow.Author.Tests.{eqb-true, eq-eqb}
use Rattle.rules.specs.declared.Settings.{Settings}
use Rattle.rules.specs.Table.{Memory, party_refusal, refused, lookup, listed, list_refusal, lookup_list}
use Rattle.rules.specs.Calls.{Call, Clear, Add, Withdraw, Change, word_sized, act}
use Rattle.promises.specs.History.{Route, of_party, routes_of, about, without, route, with_hop, written, noted, on_paper, stored_by, History}
use Rattle.promises.specs.Demands.{exists, Words, answer_at, longest, withdraw_number, change_number, number_given}
use Rattle.promises.specs.Parties.{is_call_of, no_clear, Made, made_by, SameRoute}
use Rattle.promises.proofs.Matches.{answer_by}
use Rattle.promises.proofs.Lookups.{by_party, lookup_above, lookup_by_routes}
use Rattle.promises.proofs.Histories.{kept}
use Rattle.promises.proofs.Replaced.{routes_as_before}
use Rattle.promises.proofs.Promises.{numbers_given, checks_passed}
use Rattle.promises.proofs.Lists.{place_answers}

-- ---- What is the party's among the routes

-- what is not the party's is not among its own
not_own : (party q p L : ℕ) (r : Route) → eqb q party ≡ false → of_party party r ≡ true → about q p L r ≡ false
unfolding about of_party
not_own party q p L r differs its =
    let whose = eqb-true r.party party its in
    go (eqb r.party q) refl whose
  where
    go : (b : Bool) → eqb r.party q ≡ b → r.party ≡ party → b && (eqb r.prefix p && eqb r.length L) ≡ false
    go true e whose = absurd (false≢true (sym differs ∙ eq-eqb q party (sym (eqb-true r.party q e) ∙ whose)))
    go false e whose = refl

module _ (party p L : ℕ) where
  -- a withdrawal by the party takes the route from its own,
  without_own : (routes : List Route) → routes_of party (without party p L routes) ≡ without party p L (routes_of party routes)
  unfolding routes_of without about of_party
  without_own [] = refl
  without_own (r ∷ routes) = go (eqb r.party party) refl (eqb r.prefix p && eqb r.length L) refl (without_own routes)
    where
      go : (mine : Bool) → eqb r.party party ≡ mine → (its : Bool) → eqb r.prefix p && eqb r.length L ≡ its
          → routes_of party (without party p L routes) ≡ without party p L (routes_of party routes)
          → routes_of party (cond (mine && its) (without party p L routes) (r ∷ without party p L routes))
          ≡ without party p L (cond mine (r ∷ routes_of party routes) (routes_of party routes))
      go true e true f rest = rw (e, f) rest
      go true e false f rest = rw (e, f) (ap (λ others. r ∷ others) rest)
      go false e its f rest = rw e rest

  -- and one by the other party leaves them
  without_other : (q : ℕ) → eqb q party ≡ false → (routes : List Route) → routes_of party (without q p L routes) ≡ routes_of party routes
  unfolding routes_of without
  without_other q differs [] = refl
  without_other q differs (r ∷ routes) = go (of_party party r) refl (about q p L r) refl (without_other q differs routes)
    where
      go : (mine : Bool) → of_party party r ≡ mine → (its : Bool) → about q p L r ≡ its
          → routes_of party (without q p L routes) ≡ routes_of party routes
          → routes_of party (cond its (without q p L routes) (r ∷ without q p L routes)) ≡ cond mine (r ∷ routes_of party routes) (routes_of party routes)
      go true e true f rest = absurd (false≢true (sym (not_own party q p L r differs e) ∙ f))
      go true e false f rest = rw e (ap (λ others. r ∷ others) rest)
      go false e true f rest = rest
      go false e false f rest = rw e rest

  -- as does a change
  unmoved : (q hop : ℕ) → eqb q party ≡ false → (routes : List Route) → with_hop q p L hop (routes_of party routes) ≡ routes_of party routes
  unfolding routes_of with_hop
  unmoved q hop differs [] = refl
  unmoved q hop differs (r ∷ routes) = go (of_party party r) refl (unmoved q hop differs routes)
    where
      go : (mine : Bool) → of_party party r ≡ mine → with_hop q p L hop (routes_of party routes) ≡ routes_of party routes
          → with_hop q p L hop (cond mine (r ∷ routes_of party routes) (routes_of party routes)) ≡ cond mine (r ∷ routes_of party routes) (routes_of party routes)
      go true e rest = rw (not_own party q p L r differs e) (ap (λ others. r ∷ others) rest)
      go false e rest = rest

  hop_other : (q hop : ℕ) → eqb q party ≡ false → (routes : List Route) → routes_of party (with_hop q p L hop routes) ≡ routes_of party routes
  hop_other q hop differs routes = routes_as_before q p L hop party routes ∙ unmoved q hop differs routes

-- ---- What a call makes of them

-- a call of the party's that is accepted does to them what it does to the paper
own_written : (party : ℕ) (call : Call) → is_call_of party call ≡ true → (routes : List Route)
    → routes_of party (written call routes) ≡ written call (routes_of party routes)
unfolding is_call_of written routes_of of_party
own_written party Clear its routes = absurd (false≢true its)
own_written party (Add q p L hop) its routes =
    rw (its, eqb-true q party its) (ap (λ others. route party p L hop ∷ others) (without_own party p L routes))
own_written party (Withdraw q p L) its routes = rw (eqb-true q party its) (without_own party p L routes)
own_written party (Change q p L hop) its routes = routes_as_before q p L hop party routes

-- and one that is not the party's, and no clear, does nothing to them
other_written : (party : ℕ) (call : Call) → is_call_of party call ≡ false → no_clear (call ∷ []) ≡ true → (routes : List Route)
    → routes_of party (written call routes) ≡ routes_of party routes
unfolding is_call_of no_clear written routes_of of_party
other_written party Clear other uncleared routes = absurd (false≢true uncleared)
other_written party (Add q p L hop) other uncleared routes = rw other (without_other party p L q other routes)
other_written party (Withdraw q p L) other uncleared routes = without_other party p L q other routes
other_written party (Change q p L hop) other uncleared routes = hop_other party p L q hop other routes

-- what is written down of the party's calls alone
unfoldable pub own_paper : List Route → List Made → List Route
own_paper routes [] = routes
own_paper routes (made ∷ rest) = own_paper (cond made.accepted (written made.call routes) routes) rest

no_clear_parts : (call : Call) (calls : List Call) → no_clear (call ∷ calls) ≡ true → (no_clear (call ∷ []) ≡ true) × (no_clear calls ≡ true)
unfolding no_clear
no_clear_parts Clear calls uncleared = absurd (false≢true uncleared)
no_clear_parts (Add q p L hop) calls uncleared = (refl, uncleared)
no_clear_parts (Withdraw q p L) calls uncleared = (refl, uncleared)
no_clear_parts (Change q p L hop) calls uncleared = (refl, uncleared)

-- With no clear among the calls, the party's routes follow from its own calls, and from which of them were accepted.
pub own_routes_from : (party : ℕ) (routes : List Route) (calls : List Call) (answers : List ℕ) → no_clear calls ≡ true
    → routes_of party (on_paper routes calls answers) ≡ own_paper (routes_of party routes) (made_by party calls answers)
unfolding on_paper made_by own_paper noted
own_routes_from party routes [] answers uncleared = refl
own_routes_from party routes (call ∷ calls) [] uncleared = refl
own_routes_from party routes (call ∷ calls) (answer ∷ answers) uncleared =
    let parts = no_clear_parts call calls uncleared in
    own_routes_from party (cond (eqb answer 0) (written call routes) routes) calls answers parts.1
    ∙ go (is_call_of party call) refl (eqb answer 0) parts.0
  where
    go : (mine : Bool) → is_call_of party call ≡ mine → (good : Bool) → no_clear (call ∷ []) ≡ true
        → own_paper (routes_of party (cond good (written call routes) routes)) (made_by party calls answers)
        ≡ own_paper (routes_of party routes) (cond mine (record { call = call; accepted = good } ∷ made_by party calls answers) (made_by party calls answers))
    go true e true one = rw (own_written party call e routes)
    go true e false one = refl
    go false e true one = rw (other_written party call e one routes)
    go false e false one = refl

pub own_routes : (party : ℕ) (calls : List Call) (answers : List ℕ) → no_clear calls ≡ true
    → routes_of party (stored_by calls answers) ≡ own_paper [] (made_by party calls answers)
unfolding stored_by routes_of
own_routes party calls answers uncleared = own_routes_from party [] calls answers uncleared

-- ---- The promise

-- the same route, or none, is told the same, whatever else is stored
same_told : (t : Settings) (routes others : List Route) (address : ℕ) (o : Option Route) → SameRoute (answer_by t routes address o) (answer_by t others address o)
unfolding answer_by
same_told t routes others address none = record { refusal = refl; found = refl; hop = refl; length = refl }
same_told t routes others address (some r) = record { refusal = refl; found = refl; hop = refl; length = refl }

-- a route of the party's is stored exactly if it is among its own
exists_own : (party p L : ℕ) (routes : List Route) → exists (about party p L) routes ≡ exists (about party p L) (routes_of party routes)
unfolding exists routes_of about
exists_own party p L [] = refl
exists_own party p L (r ∷ routes) = go (of_party party r) refl (exists_own party p L routes)
  where
    go : (mine : Bool) → of_party party r ≡ mine → exists (about party p L) routes ≡ exists (about party p L) (routes_of party routes)
        → mine && (eqb r.prefix p && eqb r.length L) || exists (about party p L) routes
        ≡ exists (about party p L) (cond mine (r ∷ routes_of party routes) (routes_of party routes))
    go true e rest = rw (e, rest)
    go false e rest = rest

-- Two histories under the same settings, with no clear after the first one, in which the party made the same calls, and each
-- was accepted in both or refused in both.
module _ {t : Settings} {calls others : List Call} {answers other_answers : List ℕ} {m other : Memory}
    (history : History t calls answers m) (other_history : History t others other_answers other)
    (uncleared : no_clear calls ≡ true) (uncleared_other : no_clear others ≡ true)
    (party : ℕ) (same : made_by party calls answers ≡ made_by party others other_answers) where
  -- The party has the same routes in both,
  pub same_own_routes : routes_of party (stored_by calls answers) ≡ routes_of party (stored_by others other_answers)
  same_own_routes = own_routes party calls answers uncleared ∙ ap (own_paper []) same ∙ sym (own_routes party others other_answers uncleared_other)

  -- so a lookup tells it the same in both, but for the probes.
  pub same_for_party : (address : ℕ) → address < 2 ^ 32 → SameRoute (lookup t m party address) (lookup t other party address)
  unfolding refused
  same_for_party address word = by_party party
      (λ known. rw (lookup_by_routes (kept history) party known address word, lookup_by_routes (kept other_history) party known address word, same_own_routes)
      (same_told t (stored_by calls answers) (stored_by others other_answers) address (longest address (routes_of party (stored_by others other_answers)))))
      (λ above. rw (lookup_above (kept history) party address above, lookup_above (kept other_history) party address above)
      (record { refusal = refl; found = refl; hop = refl; length = refl }))

  -- a route of the party's is stored in both or in neither
  same_stored : (p L : ℕ) → exists (about party p L) (stored_by calls answers) ≡ exists (about party p L) (stored_by others other_answers)
  same_stored p L =
      exists_own party p L (stored_by calls answers) ∙ ap (exists (about party p L)) same_own_routes ∙ sym (exists_own party p L (stored_by others other_answers))

  -- a call that the routes of both give the same number is given it in both
  same_given : (call : Call) → word_sized call ≡ true → number_given t (stored_by calls answers) call ≡ number_given t (stored_by others other_answers) call
      → (act t call m).refusal ≡ (act t call other).refusal
  same_given call word by_routes = numbers_given history call word ∙ by_routes ∙ sym (numbers_given other_history call word)

  -- Its withdrawals are given the same number,
  pub same_withdrawals : (p L : ℕ) → word_sized (Withdraw party p L) ≡ true → (act t (Withdraw party p L) m).refusal ≡ (act t (Withdraw party p L) other).refusal
  unfolding number_given withdraw_number
  same_withdrawals p L word = same_given (Withdraw party p L) word (rw (same_stored p L))

  -- and so are its changes.
  pub same_changes : (p L hop : ℕ) → word_sized (Change party p L hop) ≡ true → (act t (Change party p L hop) m).refusal ≡ (act t (Change party p L hop) other).refusal
  unfolding number_given change_number
  same_changes p L hop word = same_given (Change party p L hop) word (rw (same_stored p L))

  -- A list of addresses of the party's is given the same number over as many results,
  pub same_list_number_for_party : (addresses results other_results : List ℕ) → length results ≡ length other_results
      → (lookup_list t m party addresses results).refusal ≡ (lookup_list t other party addresses other_results).refusal
  unfolding lookup_list listed list_refusal party_refusal
  same_list_number_for_party addresses results other_results size = checks_passed history _ ∙ rw size (sym (checks_passed other_history _))

  -- and where it is accepted, place i tells the same in both.
  pub same_list_for_party : (addresses results other_results : List ℕ) → Words addresses
      → (lookup_list t m party addresses results).refusal ≡ 0 → (lookup_list t other party addresses other_results).refusal ≡ 0
      → (i : ℕ) → i < length addresses
      → SameRoute (answer_at (lookup_list t m party addresses results).results i) (answer_at (lookup_list t other party addresses other_results).results i)
  same_list_for_party addresses results other_results words good other_good i inside =
      rw (place_answers t m party addresses results good i inside, place_answers t other party addresses other_results other_good i inside)
      (same_for_party (get_or addresses i 0) (words i inside))
