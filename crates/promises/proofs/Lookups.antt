-- A lookup goes down the lengths that stored routes cover, whosever they are, and stops at the party's longest match: that one
-- is held and covered, and nothing above it is held for the party.
use Prim.Native.Nat.{ℕ, zero, suc, ◌+◌, ◌^◌, ◌≤◌, ◌<◌}
use mathlib.Core.Path.{◌≡◌, refl, sym, ap, ◌∙◌}
use mathlib.Core.Bool.{Bool, true, false, cond, ◌&&◌, true≢false}
use mathlib.Core.List.{List, [], ◌∷◌, Memᴰ}
use mathlib.Core.Option.{Option, some, none}
use mathlib.Core.Logic.{◌⊎◌, inl, inr}
use native.Mathlib.Nat.{zero-add, le-suc_iff, le_refl, le_step}
use native.Mathlib.Omega.{arith}
use lib.ListN.{length}
use lib.Dec.{eqb, leb, ltb, leb-zero}
use borrow.Author.Tests.{eqb-true, eq-eqb, le-leb, lt-leb, ltb-true, ltb-false}
use Rattle.std.specs.Prelude.{None}
use Rattle.rules.specs.declared.Settings.{Settings}
use Rattle.rules.specs.declared.Place.TheVariants.{At, Absent}
use Rattle.rules.specs.Table.{Answer, prefix, positions, Memory, slot_number, own, hop_of, mark_at, default_mark, held, claims, bits_where, vector_of, match_vector, down_from, search, route_answer, default_answer, place_answer, refused, answer_of, lookup}
use Rattle.rules.specs.Tools.{those}
use Rattle.rules.specs.Ready.{Ready}
use Rattle.rules.proofs.Members.{all_made, any_made}
use Rattle.rules.proofs.Marks.{hop_marked}
use Rattle.rules.proofs.Prefixes.{prefix_zero}
use Rattle.rules.proofs.Vectors.{those_agree, set_bits_where}
use Rattle.promises.specs.History.{Route, routes_of, about}
use Rattle.promises.specs.Demands.{exists, matches, Longest, NoMatch, marks, covered, probes_down_to, longest}
use Rattle.promises.proofs.Sums.{by_cases, exists_there, only_one}
use Rattle.promises.proofs.Paper.{about_made, own_stored, stored_own}
use Rattle.promises.proofs.Buckets.{held_stored, stored_held, default_stored, default_free}
use Rattle.promises.proofs.Counters.{claims_covered}
use Rattle.promises.proofs.Kept.{Kept, fits, hops, ready}
use Rattle.promises.proofs.Refusals.{no_memory_refusal, no_party_refusal}
use Rattle.promises.proofs.Refused.{no_such_party}
use Rattle.promises.proofs.Matches.{answer_by, vector_by, Right, right}

-- ---- Going down the lengths

those_none : (test : ℕ → Bool) (n : ℕ) → ((L : ℕ) → 1 ≤ L → L ≤ n → test L ≡ false) → those test (down_from n) ≡ []
unfolding those down_from
those_none test zero never = refl
those_none test (suc n) never = rw (never (suc n) (omega arith) (le_refl (suc n))) (those_none test n (λ L lo hi. never L lo (le_step hi)))

bits_agree : (test other : ℕ → Bool) (n : ℕ) → ((L : ℕ) → 1 ≤ L → L ≤ n → test L ≡ other L) → bits_where test n ≡ bits_where other n
unfolding bits_where
bits_agree test other zero same = refl
bits_agree test other (suc n) same = rw (same (suc n) (omega arith) (le_refl (suc n)), bits_agree test other n (λ L lo hi. same L lo (le_step hi)))

module _ (t : Settings) (slots : List ℕ) (party address : ℕ) (claimed : ℕ → Bool) where
  -- the bucket of the address at length L holds nothing of it for the party
  abbrev Misses : ℕ → Type 0
  Misses L = held t slots party (prefix address L) L ≡ none

  -- where no length holds it, the search finds nothing
  search_misses : (n k : ℕ) → ((L : ℕ) → 1 ≤ L → L ≤ n → Misses L) → search t slots party address k (those claimed (down_from n)) ≡ Absent None
  unfolding search those down_from
  search_misses zero k none_held = refl
  search_misses (suc n) k none_held = go (claimed (suc n)) (λ j. search_misses n j (λ L lo hi. none_held L lo (le_step hi)))
    where
      go : (b : Bool) → ((j : ℕ) → search t slots party address j (those claimed (down_from n)) ≡ Absent None)
          → search t slots party address k (cond b (suc n ∷ those claimed (down_from n)) (those claimed (down_from n))) ≡ Absent None
      go true rest = rw (none_held (suc n) (omega arith) (le_refl (suc n))) (rest (k + 1))
      go false rest = rest k

  -- where the longest that is held is claimed, the search stops there
  search_hits : (n k L s : ℕ) → 1 ≤ L → L ≤ n → held t slots party (prefix address L) L ≡ some s → claimed L ≡ true
      → ((M : ℕ) → L < M → M ≤ n → Misses M)
      → search t slots party address k (those claimed (down_from n))
      ≡ At L (k + length (those (λ M. leb L M && claimed M) (down_from n))) (slot_number t (prefix address L) L s)
  unfolding search those down_from
  search_hits zero k L s lo hi holds claims above = absurd (omega arith)
  search_hits (suc n) k L s lo hi holds claims above = go (le-suc_iff.0 hi) (λ j l. search_hits n j L s lo l holds claims (λ M a b. above M a (le_step b)))
    where
      tail : ℕ
      tail = length (those (λ M. leb L M && claimed M) (down_from n))

      deeper : (b : Bool) → claimed (suc n) ≡ b → L ≤ n
          → ((j : ℕ) → search t slots party address j (those claimed (down_from n)) ≡ At L (j + tail) (slot_number t (prefix address L) L s))
          → search t slots party address k (cond b (suc n ∷ those claimed (down_from n)) (those claimed (down_from n)))
          ≡ At L (k + length (cond (leb L (suc n) && b) (suc n ∷ those (λ M. leb L M && claimed M) (down_from n)) (those (λ M. leb L M && claimed M) (down_from n)))) (slot_number t (prefix address L) L s)
      deeper true e l rest =
          rw (above (suc n) (omega arith) (le_refl (suc n)), le-leb L (suc n) hi) (rest (k + 1) ∙ ap (λ (probes : ℕ). At L probes (slot_number t (prefix address L) L s)) (omega arith))
      deeper false e l rest = rw (le-leb L (suc n) hi) (rest k)

      go : (L ≤ n) ⊎ (L ≡ suc n)
          → ((j : ℕ) → L ≤ n → search t slots party address j (those claimed (down_from n)) ≡ At L (j + tail) (slot_number t (prefix address L) L s))
          → search t slots party address k (cond (claimed (suc n)) (suc n ∷ those claimed (down_from n)) (those claimed (down_from n)))
          ≡ At L (k + length (cond (leb L (suc n) && claimed (suc n)) (suc n ∷ those (λ M. leb L M && claimed M) (down_from n)) (those (λ M. leb L M && claimed M) (down_from n)))) (slot_number t (prefix address L) L s)
      go (inl l) rest = deeper (claimed (suc n)) refl l (λ j. rest j l)
      go (inr e) rest =
          let none_after = those_none (λ M. leb L M && claimed M) n (λ M low high. rw (lt-leb L M (omega arith))) in
          let own : claimed (suc n) ≡ true = rw (← e) claims in
          rw (own, le-leb L (suc n) hi, none_after, rw e at holds) (rw e)

-- ---- What the routes say

-- a party is 0 or 1, or there is no such party
pub by_party {ℓ} : {A : Type ℓ} (party : ℕ) → (party ≤ 1 → A) → (1 < party → A) → A
by_party party known above = by_cases (ltb 1 party) (λ h. above (ltb-true 1 party h)) (λ h. known (ltb-false 1 party h))

module _ {t : Settings} {routes : List Route} {m : Memory} (kept : Kept t routes m) where
  -- there is no party above 1
  pub lookup_above : (party address : ℕ) → 1 < party → lookup t m party address ≡ refused 15
  lookup_above party address above = no_such_party t m party address (no_memory_refusal kept 0) above

  -- no two stored routes of one party, prefix and length differ in their hops
  same_hop : {r q : Route} → Memᴰ r routes → Memᴰ q routes → q.party ≡ r.party → q.prefix ≡ r.prefix → q.length ≡ r.length → q.hop ≡ r.hop
  same_hop {r} {q} r_there q_there same_party same_prefix same_length =
      let few = kept.once r.party r.prefix r.length in
      let own_r = only_one (about r.party r.prefix r.length) (λ x. x.hop) r_there (about_made _ _ _ r refl refl refl) few in
      let own_q = only_one (about r.party r.prefix r.length) (λ x. x.hop) q_there (about_made _ _ _ q same_party same_prefix same_length) few in
      sym own_q ∙ own_r

module _ {t : Settings} {routes : List Route} {m : Memory} (kept : Kept t routes m) (address : ℕ) (word : address < 2 ^ 32) where
  abbrev of_length : (L : ℕ) → 1 ≤ L → L ≤ 32 → Ready t L
  of_length L lo hi = ready kept.range lo hi

  -- a route of length 0 matches every address
  pub default_prefix : (r : Route) → Memᴰ r routes → r.length ≡ 0 → prefix address r.length ≡ r.prefix
  default_prefix r there e =
      let its = fits kept r there in
      rw e (prefix_zero address word ∙ sym (prefix_zero r.prefix its.word) ∙ rw e at its.tight)

  -- a length that has a match is covered
  match_covered : (r : Route) → Memᴰ r routes → matches address r ≡ true → covered t routes address r.length ≡ true
  unfolding covered marks matches
  match_covered r there h =
      rw (eqb-true (prefix address r.length) r.prefix h)
      (all_made (λ j. exists (marks t r.length j) routes) (positions t r.prefix r.length) (λ j among.
      exists_there (marks t r.length j) there
      (rw (eq-eqb r.length r.length refl) (any_made (eqb j) (positions t r.prefix r.length) j among (eq-eqb j j refl)))))

  -- the lengths that a lookup goes down
  vector_covered : vector_of t m.counters address ≡ bits_where (covered t routes address) 32
  unfolding vector_of
  vector_covered = bits_agree (λ L. claims t m.counters (prefix address L) L) (covered t routes address) 32
      (λ L lo hi. claims_covered t routes m.counters kept.counters L (of_length L lo hi) address)

  pub vector_by_routes : match_vector t m address ≡ vector_by t routes address
  unfolding match_vector vector_by
  vector_by_routes = rw (no_memory_refusal kept 0, vector_covered)

-- where the default or nothing answers, the probes go down to 1
all_lengths : (t : Settings) (routes : List Route) (address : ℕ) → length (those (covered t routes address) (down_from 32)) ≡ probes_down_to t routes address 0
unfolding probes_down_to
all_lengths t routes address = ap length (those_agree (covered t routes address) (λ n. leb 0 n && covered t routes address n) 32 (λ L lo hi. rw (leb-zero L)))

-- ---- The answer

module _ {t : Settings} {routes : List Route} {m : Memory} (kept : Kept t routes m) (party : ℕ) (known : party ≤ 1) (address : ℕ) (word : address < 2 ^ 32) where
  -- the party's own routes
  abbrev its_routes : List Route
  its_routes = routes_of party routes

  -- what a length holds of the address for the party matches it
  held_matches : (L s : ℕ) → Ready t L → held t m.slots party (prefix address L) L ≡ some s
      → (r : Route) × Memᴰ r its_routes × (r.length ≡ L) × (matches address r ≡ true)
  unfolding matches
  held_matches L s of_l h =
      let at = (held_stored kept.slots (hops kept) party (prefix address L) L s known of_l h).1 in
      let r = at.holder in
      (r, stored_own party at.stored at.its_party, at.its_length, eq-eqb _ _ (ap (λ (n : ℕ). prefix address n) at.its_length ∙ sym at.its_prefix))

  -- so where each match is at most n long, no length above n holds the address
  misses : (n : ℕ) → ((r : Route) → Memᴰ r its_routes → matches address r ≡ true → r.length ≤ n)
      → (L : ℕ) → n < L → L ≤ 32 → held t m.slots party (prefix address L) L ≡ none
  misses n short L above high = go (held t m.slots party (prefix address L) L) refl
    where
      go : (o : Option ℕ) → held t m.slots party (prefix address L) L ≡ o → o ≡ none
      go none h = refl
      go (some s) h =
          let r = held_matches L s (of_length kept address word L (omega arith) high) h in
          let long = r.2 in
          absurd (omega (arith, short r.0 r.1 r.3))

  -- the answer of the search, by the default's word and by a slot
  abbrev answer : Answer
  answer = place_answer t m.slots party (length (those (covered t routes address) (down_from 32))) (search t m.slots party address 0 (those (covered t routes address) (down_from 32)))

  by_none : NoMatch address its_routes → answer ≡ answer_by t routes address none
  unfolding place_answer answer_by default_answer matches
  by_none no_match =
      rw (search_misses t m.slots party address (covered t routes address) 32 0 (misses 0 (λ r there h. absurd (true≢false (sym h ∙ no_match r there)))), all_lengths t routes address)
      (by_cases (own party (default_mark t m.slots party))
      (λ taken.
      let r = default_stored kept.slots (hops kept) party known taken in
      absurd (true≢false (sym (eq-eqb _ _ (default_prefix kept address word r.0 r.1 r.3)) ∙ no_match r.0 (stored_own party r.1 r.2))))
      (λ free. rw free))

  by_default : (r : Route) → Longest address its_routes r → r.length ≡ 0 → answer ≡ answer_by t routes address (some r)
  unfolding place_answer answer_by default_answer
  by_default r best e =
      let stands = own_stored party routes best.stored in
      rw (search_misses t m.slots party address (covered t routes address) 32 0 (misses 0 (λ q there h. rw e at (best.longest q there h))), all_lengths t routes address, e)
      (by_cases (own party (default_mark t m.slots party))
      (λ taken.
      let q = default_stored kept.slots (hops kept) party known taken in
      let same : q.0.prefix ≡ r.prefix =
      sym (default_prefix kept address word q.0 q.1 q.3) ∙ ap (λ (n : ℕ). prefix address n) (q.3 ∙ sym e) ∙ default_prefix kept address word r stands.0 e in
      let hop : hop_of party (default_mark t m.slots party) ≡ r.hop =
      ap (hop_of party) (sym q.4) ∙ hop_marked party q.0.hop
      ∙ same_hop kept stands.0 q.1 (q.2 ∙ sym stands.1) same (q.3 ∙ sym e) in
      rw (taken, hop))
      (λ free. absurd (default_free kept.slots (hops kept) party known free r stands.0 stands.1 e)))

  by_slot : (r : Route) → Longest address its_routes r → 1 ≤ r.length → answer ≡ answer_by t routes address (some r)
  unfolding place_answer route_answer answer_by probes_down_to matches
  by_slot r best low = go (held t m.slots party (prefix address r.length) r.length) refl
    where
      stands : Memᴰ r routes × (r.party ≡ party)
      stands = own_stored party routes best.stored

      of_l : Ready t r.length
      of_l = of_length kept address word r.length low (fits kept r stands.0).high

      at_prefix : prefix address r.length ≡ r.prefix
      at_prefix = eqb-true _ _ best.matching

      go : (o : Option ℕ) → held t m.slots party (prefix address r.length) r.length ≡ o → answer ≡ answer_by t routes address (some r)
      go none h = absurd (stored_held kept.slots (hops kept) r stands.0 of_l (rw stands.1 (rw at_prefix at h)))
      go (some s) h =
          let at = (held_stored kept.slots (hops kept) party (prefix address r.length) r.length s known of_l h).1 in
          let hop : hop_of party (mark_at m.slots (slot_number t (prefix address r.length) r.length s)) ≡ r.hop =
          ap (hop_of party) (sym at.its_mark) ∙ hop_marked party at.holder.hop
          ∙ same_hop kept stands.0 at.stored (at.its_party ∙ sym stands.1) (at.its_prefix ∙ at_prefix) at.its_length in
          rw (
            search_hits t m.slots party address (covered t routes address) 32 0 r.length s low of_l.high h
                (match_covered kept address word r stands.0 best.matching) (misses r.length best.longest),
            hop,
            zero-add,
          )

  pub lookup_finds : (r : Route) → Longest address its_routes r → lookup t m party address ≡ answer_by t routes address (some r)
  unfolding lookup answer_of
  lookup_finds r best = rw (no_party_refusal kept party 0 known, vector_covered kept address word, set_bits_where (covered t routes address)) (go r.length refl)
    where
      go : (n : ℕ) → r.length ≡ n → answer ≡ answer_by t routes address (some r)
      go zero e = by_default r best e
      go (suc n) e = by_slot r best (omega arith)

  pub lookup_none : NoMatch address its_routes → lookup t m party address ≡ answer_by t routes address none
  unfolding lookup answer_of
  lookup_none no_match = rw (no_party_refusal kept party 0 known, vector_covered kept address word, set_bits_where (covered t routes address)) (by_none no_match)

  pub lookup_by_routes : lookup t m party address ≡ answer_by t routes address (longest address its_routes)
  lookup_by_routes = go (longest address its_routes) (right address its_routes)
    where
      go : (o : Option Route) → Right address its_routes o → lookup t m party address ≡ answer_by t routes address o
      go none no_match = lookup_none no_match
      go (some r) best = lookup_finds r best

-- two tables with the same routes give every party the same lookups
pub lookups_alike : {t : Settings} {routes : List Route} {m other : Memory} → Kept t routes m → Kept t routes other
    → (party address : ℕ) → address < 2 ^ 32 → lookup t m party address ≡ lookup t other party address
lookups_alike kept kept_other party address word = by_party party
    (λ known. lookup_by_routes kept party known address word ∙ sym (lookup_by_routes kept_other party known address word))
    (λ above. lookup_above kept party address above ∙ sym (lookup_above kept_other party address above))
