-- What a comparison tells of the routes of two histories, sentence by sentence, each history under settings of its own
-- (Rattle.promises.specs.History). A table has what its party's paper has (proofs/Paper.antt), so that all of it is said of
-- the routes on paper alone. Demand 1 is in proofs/Refused.antt, and what holds of any two tables in proofs/Differing.antt.
use Prim.Native.Nat.{ℕ, ◌+◌, ◌-◌, ◌*◌, ◌^◌, ◌≤◌, ◌<◌}
use mathlib.Core.Path.{◌≡◌, refl, sym, ap, ◌∙◌}
use mathlib.Core.Bool.{true}
use mathlib.Core.List.Memᴰ
use mathlib.Core.List.{List, [], map}
use mathlib.Core.Logic.{◌↔◌, ◌≢◌, inl, inr}
use native.Mathlib.Omega.{arith}
use lib.Dec.{ltb}
use lib.ListN.{length, length-map}
use borrow.Author.Tests.{lt-ltb, le-ltb, ltb-true, ltb-false}
use Rattle.rules.specs.declared.Settings.{Settings}
use Rattle.rules.specs.Table.{Memory, refuse, memory_refusal, party_refusal}
use Rattle.rules.specs.Calls.{Call}
use Rattle.difference_rules.specs.declared.Difference.{Difference}
use Rattle.difference_rules.specs.Comparing.{has, differences, difference_words, compared, with_count, over, difference_refusal, listing, between, difference}
use Rattle.difference_rules.proofs.Rising.{from_places, map_ordered}
use Rattle.difference_rules.proofs.Sides.{same_differences}
use Rattle.difference_rules.proofs.Few.{four_words}
use Rattle.difference_rules.proofs.Checks.{listing_number, none_listing, checks_exchanged, checked_twice}
use Rattle.promises.specs.History.{Route, routes_of, route, stored_by, SingleCalls, History}
use Rattle.promises.specs.Demands.{Stored, Reordered, paper, adds}
use Rattle.promises.specs.Parties.{no_clear, made_by}
use Rattle.promises.proofs.Sums.{by_cases}
use Rattle.promises.proofs.Paper.{route_of, own_stored, stored_own}
use Rattle.promises.proofs.Kept.{Kept, fits}
use Rattle.promises.proofs.Refusals.{no_memory_refusal, no_party_refusal}
use Rattle.promises.proofs.Lookups.{by_party}
use Rattle.promises.proofs.Histories.{kept}
use Rattle.promises.proofs.Parties.{same_own_routes}
use Rattle.promises.proofs.Promises.{kept_last, kept_new_last}
use Rattle.difference_promises.specs.Differing.{Appears, Alike, Differs, exchange}
use Rattle.difference_promises.specs.Paper.{paper_has, NoRoute, four, OneOfThree, OnlyFirst, OnlySecond, OtherHop, Within, told_route}
use Rattle.difference_promises.proofs.Differing.{not_alike, nothing_else, exactly, rising, exchanged, alike_none, none_alike}
use Rattle.difference_promises.proofs.Once.{same_members, own_once, reordered_size}
use Rattle.difference_promises.proofs.Refused.{difference_accepted, above_refused}
use Rattle.difference_promises.proofs.Paper.{Has, paper_right, has_one, table_paper, alike_within, same_own_within}

-- After a history, a table has at each length and prefix what the party's paper has.
pub told_by_paper : {t : Settings} {calls : List Call} {answers : List ℕ} {m : Memory} → History t calls answers m
    → (party : ℕ) → party ≤ 1 → Alike (has t m.slots party) (paper_has (stored_by calls answers) party)
told_by_paper history party known L p high word = table_paper (kept history) party known p word L high

-- ---- Two histories

module _ {t u : Settings} {calls others : List Call} {answers other_answers : List ℕ} {m n : Memory}
    (history : History t calls answers m) (other_history : History u others other_answers n) (party : ℕ) (known : party ≤ 1) where
  -- the routes that each of them stores
  abbrev routes : List Route
  routes = stored_by calls answers

  abbrev other_routes : List Route
  other_routes = stored_by others other_answers

  -- the differences of the two tables, and those of the party's papers
  abbrev found : List Difference
  found = between t m.slots u n.slots party

  abbrev on_papers : List Difference
  on_papers = differences (paper_has routes party) (paper_has other_routes party)

  -- The differences of the tables are those of the papers, whatever the settings.
  pub differences_of_papers : found ≡ on_papers
  unfolding between
  differences_of_papers = same_differences (has t m.slots party) (has u n.slots party) (paper_has routes party) (paper_has other_routes party)
      (told_by_paper history party known) (told_by_paper other_history party known)

  -- what stands on the papers is listed if it differs
  listed : (p L x y : ℕ) → L ≤ 32 → p < 2 ^ 32 → Has routes party p L x → Has other_routes party p L y → x ≢ y → Appears (four L p x y) found
  listed p L x y high word one other apart =
      let first : x ≡ paper_has routes party p L = has_one ((kept history).once party p L) one (paper_right routes party p L) in
      let second : y ≡ paper_has other_routes party p L = has_one ((kept other_history).once party p L) other (paper_right other_routes party p L) in
      rw differences_of_papers ((exactly _ _ (four L p x y)).1 (record { high = high; word = word; first_had = first; second_had = second; apart = apart }))

  -- A route of the party's that only the first table has is listed, with its hop plus one and 0,
  pub only_first : (p L hop : ℕ) → Stored (route party p L hop) routes → NoRoute party p L other_routes → Appears (four L p (hop + 1) 0) found
  only_first p L hop there absent =
      let its = fits (kept history) (route party p L hop) there in
      listed p L (hop + 1) 0 its.high its.word (inr (hop, there, refl)) (inl (absent, refl)) (omega arith)

  -- one that only the second has, with 0 and its hop plus one,
  pub only_second : (p L hop : ℕ) → NoRoute party p L routes → Stored (route party p L hop) other_routes → Appears (four L p 0 (hop + 1)) found
  only_second p L hop absent there =
      let its = fits (kept other_history) (route party p L hop) there in
      listed p L 0 (hop + 1) its.high its.word (inl (absent, refl)) (inr (hop, there, refl)) (omega arith)

  -- and one that both have with different hops, with both hops plus one.
  pub other_hop : (p L hop other : ℕ) → Stored (route party p L hop) routes → Stored (route party p L other) other_routes → hop ≢ other
      → Appears (four L p (hop + 1) (other + 1)) found
  other_hop p L hop other there also apart =
      let its = fits (kept history) (route party p L hop) there in
      listed p L (hop + 1) (other + 1) its.high its.word (inr (hop, there, refl)) (inr (other, also, refl)) (omega arith)

  -- Every listed difference is one of these three.
  pub is_one_of_these : (d : Difference) → Appears d found → OneOfThree party routes other_routes d
  is_one_of_these d m =
      let its = nothing_else _ _ d (rw differences_of_papers at m) in
      go its (paper_right routes party d.prefix d.length) (paper_right other_routes party d.prefix d.length)
    where
      go : Differs (paper_has routes party) (paper_has other_routes party) d
          → Has routes party d.prefix d.length (paper_has routes party d.prefix d.length)
          → Has other_routes party d.prefix d.length (paper_has other_routes party d.prefix d.length) → OneOfThree party routes other_routes d
      go its (inl one) (inl other) = absurd (its.apart (its.first_had ∙ one.1 ∙ sym (its.second_had ∙ other.1)))
      go its (inl one) (inr other) = OnlySecond other.0 one.0 other.1 (its.first_had ∙ one.1) (its.second_had ∙ other.2)
      go its (inr one) (inl other) = OnlyFirst one.0 one.1 other.0 (its.first_had ∙ one.2) (its.second_had ∙ other.1)
      go its (inr one) (inr other) = OtherHop one.0 other.0 one.1 other.1
          (λ same. its.apart (its.first_had ∙ one.2 ∙ ap (λ (k : ℕ). k + 1) same ∙ sym (its.second_had ∙ other.2))) (its.first_had ∙ one.2) (its.second_had ∙ other.2)

  -- Where each of the party's routes in one table is in the other, and the other way, nothing is listed, whatever the settings.
  pub same_routes_none : Within party routes other_routes → Within party other_routes routes → found ≡ []
  same_routes_none there back = differences_of_papers ∙ alike_none (paper_has routes party) (paper_has other_routes party) (λ L p high word.
      has_one ((kept other_history).once party p L) (carried p L (paper_right routes party p L)) (paper_right other_routes party p L))
    where
      carried : (p L : ℕ) {x : ℕ} → Has routes party p L x → Has other_routes party p L x
      carried p L (inl one) = inl (λ hop stored. one.0 hop (back p L hop stored), one.1)
      carried p L (inr one) = inr (one.0, there p L one.0 one.1, one.2)

  -- And where nothing is listed, the two have the same routes of the party.
  pub none_same_routes : found ≡ [] → Within party routes other_routes × Within party other_routes routes
  none_same_routes nothing =
      let alike = none_alike (paper_has routes party) (paper_has other_routes party) (sym differences_of_papers ∙ nothing) in
      (alike_within (kept history) party alike, alike_within (kept other_history) party (λ L p high word. sym (alike L p high word)))

  -- Against a table that has no route of the party, as one just cleared,
  module _ (nothing : (p L : ℕ) → NoRoute party p L other_routes) where
    -- each of the party's routes is listed, with its hop plus one and 0,
    pub lists_routes : (p L hop : ℕ) → Stored (route party p L hop) routes → Appears (four L p (hop + 1) 0) found
    lists_routes p L hop there = only_first p L hop there (nothing p L)

    -- nothing else is,
    pub lists_only_routes : (d : Difference) → Appears d found → (hop : ℕ) × Stored (route party d.prefix d.length hop) routes × (d.first ≡ hop + 1) × (d.second ≡ 0)
    lists_only_routes d m = go (is_one_of_these d m)
      where
        go : OneOfThree party routes other_routes d → (hop : ℕ) × Stored (route party d.prefix d.length hop) routes × (d.first ≡ hop + 1) × (d.second ≡ 0)
        go (OnlyFirst hop there absent one other) = (hop, there, one, other)
        go (OnlySecond hop absent there one other) = absurd (nothing d.prefix d.length hop there)
        go (OtherHop hop other there also apart one two) = absurd (nothing d.prefix d.length other also)

    -- so that the list is the party's routes in another order, each once,
    pub routes_once : Reordered (routes_of party routes) (map (told_route party) found)
    unfolding between
    routes_once = same_members (own_once party routes (kept history).once)
        (map_ordered (told_route party) (λ d e before same. not_alike d e before (ap (λ r. r.length) same) (ap (λ r. r.prefix) same)) (from_places _ found (rising (has t m.slots party) (has u n.slots party))))
        (λ r. (there r, back r))
      where
        there : (r : Route) → Stored r (routes_of party routes) → Stored r (map (told_route party) found)
        there r stands =
            let its = own_stored party routes stands in
            let same : route party r.prefix r.length r.hop ≡ r = route_of r its.1 refl refl in
            let hop : r.hop ≡ r.hop + 1 - 1 = omega arith in
            Memᴰ.cast (sym same ∙ ap (λ (k : ℕ). route party r.prefix r.length k) hop)
            (Memᴰ.map (told_route party) (lists_routes r.prefix r.length r.hop (Memᴰ.cast same its.0)))

        back : (r : Route) → Stored r (map (told_route party) found) → Stored r (routes_of party routes)
        back r listed =
            let from = Memᴰ.of_map (told_route party) found listed in
            let d = from.0 in
            let its = lists_only_routes d from.1 in
            let hop : d.first - 1 ≡ its.0 = omega (arith, its.2) in
            Memᴰ.cast (sym from.2 ∙ ap (λ (k : ℕ). route party d.prefix d.length k) hop) (stored_own party its.1 refl)

    -- and the count is that of the party's routes.
    pub routes_counted : length found ≡ length (routes_of party routes)
    routes_counted = sym (reordered_size routes_once ∙ length-map found (told_route party))

  -- ---- The call

  module _ (list : List ℕ) where
    -- of its checks only that of the list is left
    checks : difference_refusal t m u n party (length (difference_words found)) (length list) ≡ refuse (ltb (length list) (4 * length on_papers)) 18 0
    unfolding difference_refusal
    checks = rw (four_words found, differences_of_papers) (no_memory_refusal (kept history) _ ∙ no_party_refusal (kept other_history) party _ known)

    -- Where the list has four words for each difference of the papers, a comparison counts them and has them in the list's front.
    pub difference_given : 4 * length on_papers ≤ length list → difference t m u n party list ≡ compared (with_count 0 (length on_papers)) (over (difference_words on_papers) list)
    unfolding difference listing refuse
    difference_given room = rw (checks, le-ltb _ _ room) (ap (λ (ds : List Difference). compared (with_count 0 (length ds)) (over (difference_words ds) list)) differences_of_papers)

    -- In a shorter list it is refused with 18, and the list stays as it was.
    pub difference_short : length list < 4 * length on_papers → difference t m u n party list ≡ compared (with_count 18 0) list
    unfolding difference listing refuse
    difference_short short = rw (checks, lt-ltb _ _ short)

    -- So it is accepted exactly if the list has room.
    pub accepted_exactly : ((difference t m u n party list).answer.refusal ≡ 0) ↔ (4 * length on_papers ≤ length list)
    accepted_exactly = (
      λ good. by_cases (ltb (length list) (4 * length on_papers))
          (λ short. absurd (omega (arith, good, ap (λ c. c.answer.refusal) (difference_short (ltb-true _ _ short)))))
          (λ room. ltb-false _ _ room),
      λ room. ap (λ c. c.answer.refusal) (difference_given room),
    )

    -- Of two tables with the same routes of the party it gives 0 differences, and the list stays as it was, whatever its length.
    pub same_routes_given : Within party routes other_routes → Within party other_routes routes → difference t m u n party list ≡ compared (with_count 0 0) list
    unfolding over difference_words
    same_routes_given there back =
        let none_on_papers : on_papers ≡ [] = sym differences_of_papers ∙ same_routes_none there back in
        difference_given (rw none_on_papers (omega arith)) ∙ rw none_on_papers

-- There is no party above 1: its comparisons are refused with 15.
pub above_given : {t u : Settings} {calls others : List Call} {answers other_answers : List ℕ} {m n : Memory}
    → History t calls answers m → History u others other_answers n → (party : ℕ) (list : List ℕ) → 1 < party → difference t m u n party list ≡ compared (with_count 15 0) list
above_given {t} {u} {m = m} {n} history other_history party list above =
    above_refused t m u n party list above
    ∙ ap (λ (k : ℕ). compared (with_count k 0) list) (no_memory_refusal (kept history) _ ∙ no_memory_refusal (kept other_history) 15)

-- ---- The two tables exchanged, on any memory

-- The differences are the same, each told the other way round.
pub between_exchanged : (t : Settings) (slots : List ℕ) (u : Settings) (others : List ℕ) (party : ℕ) → between u others t slots party ≡ map exchange (between t slots u others party)
unfolding between
between_exchanged t slots u others party = exchanged (has t slots party) (has u others party)

-- So they are as many.
pub exchanged_length : (t : Settings) (slots : List ℕ) (u : Settings) (others : List ℕ) (party : ℕ) → length (between u others t slots party) ≡ length (between t slots u others party)
exchanged_length t slots u others party = ap length (between_exchanged t slots u others party) ∙ length-map (between t slots u others party) exchange

-- a list that is long enough for the ones is for the others
still_accepted : (t : Settings) (m : Memory) (u : Settings) (n : Memory) (party : ℕ) (list : List ℕ) → (difference t m u n party list).answer.refusal ≡ 0 → (difference u n t m party list).answer.refusal ≡ 0
unfolding difference
still_accepted t m u n party list good =
    let one = between t m.slots u n.slots party in
    let other = between u n.slots t m.slots party in
    let sizes : length (difference_words other) ≡ length (difference_words one) = omega (arith, four_words one, four_words other, exchanged_length t m.slots u n.slots party) in
    listing_number _ (length other) (difference_words other) list
    ∙ ap (λ (k : ℕ). difference_refusal u n t m party k (length list)) sizes
    ∙ checks_exchanged t m u n party _ _ (sym (listing_number _ (length one) (difference_words one) list) ∙ good)

module _ (t : Settings) (m : Memory) (u : Settings) (n : Memory) (party : ℕ) (list : List ℕ) where
  -- A comparison is accepted exactly if it is with the two exchanged,
  pub exchanged_exactly : ((difference t m u n party list).answer.refusal ≡ 0) ↔ ((difference u n t m party list).answer.refusal ≡ 0)
  exchanged_exactly = (still_accepted t m u n party list, still_accepted u n t m party list)

  -- and then it gives the same count, and lists each difference the other way round.
  pub exchanged_given : (difference t m u n party list).answer.refusal ≡ 0
      → difference u n t m party list ≡ compared (difference t m u n party list).answer (over (difference_words (map exchange (between t m.slots u n.slots party))) list)
  exchanged_given good =
      rw (difference_accepted t m u n party list good)
      (difference_accepted u n t m party list (exchanged_exactly.0 good) ∙ rw (between_exchanged t m.slots u n.slots party, length-map))

-- ---- A table and itself

-- A table compared with itself lists nothing, on any memory.
pub same_table_none : (t : Settings) (slots : List ℕ) (party : ℕ) → between t slots t slots party ≡ []
unfolding between
same_table_none t slots party = alike_none (has t slots party) (has t slots party) (λ L p high word. refl)

-- So the call gives 0 differences, unless the table is given 1 or 2 or the party 15, and the list stays as it was, whatever its length.
pub same_table_given : (t : Settings) (m : Memory) (party : ℕ) (list : List ℕ) → difference t m t m party list ≡ compared (with_count (party_refusal t m party 0) 0) list
unfolding difference difference_words
same_table_given t m party list =
    rw (same_table_none t m.slots party) (none_listing t m t m party list ∙ ap (λ (k : ℕ). compared (with_count k 0) list) (checked_twice t m party 0))

-- ---- Demand 3, of a table newly cleared under these settings, to which the stored routes of both parties are added, in any order

-- two memories that belong to the same routes compare alike with any table, whatever its settings and memory, as the first
-- and as the second of the two
module _ {t : Settings} {routes : List Route} {m other : Memory} (one : Kept t routes m) (also : Kept t routes other) (u : Settings) (n : Memory) (party : ℕ) (list : List ℕ) where
  -- checks and sides are the same
  checks_alike : (after : ℕ) → memory_refusal t m after ≡ memory_refusal t other after
  checks_alike after = no_memory_refusal one after ∙ sym (no_memory_refusal also after)

  sides_alike : party ≤ 1 → Alike (has t m.slots party) (has t other.slots party)
  sides_alike known L p high word = table_paper one party known p word L high ∙ sym (table_paper also party known p word L high)

  -- and so are the comparisons
  first_alike : difference t m u n party list ≡ difference t other u n party list
  unfolding difference difference_refusal between
  first_alike = by_party party
      (λ known. rw (same_differences (has t m.slots party) (has u n.slots party) (has t other.slots party) (has u n.slots party) (sides_alike known) (λ L p high word. refl), checks_alike))
      (λ above. above_refused t m u n party list above ∙ rw (checks_alike) (sym (above_refused t other u n party list above)))

  second_alike : difference u n t m party list ≡ difference u n t other party list
  unfolding difference difference_refusal party_refusal between
  second_alike = by_party party
      (λ known. rw (same_differences (has u n.slots party) (has t m.slots party) (has u n.slots party) (has t other.slots party) (λ L p high word. refl) (sides_alike known), checks_alike))
      (λ above. above_refused u n t m party list above ∙ rw (checks_alike) (sym (above_refused u n t other party list above)))

module _ {t : Settings} {calls : List Call} {answers : List ℕ} {m : Memory} (history : History t calls answers m)
    {order : List Route} (same : Reordered (stored_by calls answers) order) {new_answers : List ℕ} {new_m : Memory} (anew : History t (adds order) new_answers new_m) where
  -- Whatever calls are then made to both, or none,
  module _ {more : List Call} {more_answers more_new_answers : List ℕ} {last new_last : Memory}
      (made : SingleCalls t m more more_answers last) (made_anew : SingleCalls t new_m more more_new_answers new_last) where
    -- memory and paper, of the one and of the other
    abbrev one : Kept t (paper t (stored_by calls answers) more).last last
    one = kept_last history same anew made made_anew

    abbrev other : Kept t (paper t (stored_by calls answers) more).last new_last
    other = kept_new_last history same anew made made_anew

    -- the two compare alike with any other table, whatever its settings and memory, as the first of two tables
    pub same_differences_after : (u : Settings) (n : Memory) (party : ℕ) (list : List ℕ) → difference t new_last u n party list ≡ difference t last u n party list
    same_differences_after = first_alike other one

    -- and as the second,
    pub same_differences_from : (u : Settings) (n : Memory) (party : ℕ) (list : List ℕ) → difference u n t new_last party list ≡ difference u n t last party list
    same_differences_from = second_alike other one

    -- and with each other nothing differs: 0 differences are given, and the list stays as it was, whatever its length.
    pub same_anew : (party : ℕ) (list : List ℕ) → party ≤ 1 → difference t new_last t last party list ≡ compared (with_count 0 0) list
    same_anew party list known =
        same_differences_after t last party list ∙ same_table_given t last party list
        ∙ ap (λ (k : ℕ). compared (with_count k 0) list) (no_party_refusal one party 0 known)

-- ---- Two parties

-- Two histories are under the same settings, and neither clears the table again. The party made the same calls in both, and each
-- was accepted in both or refused in both. Compared for that party the two tables differ in nothing, whatever the other party did.
pub own_calls_none : {t : Settings} {calls others : List Call} {answers other_answers : List ℕ} {m other : Memory}
    → History t calls answers m → History t others other_answers other → no_clear calls ≡ true → no_clear others ≡ true
    → (party : ℕ) → party ≤ 1 → made_by party calls answers ≡ made_by party others other_answers → between t m.slots t other.slots party ≡ []
own_calls_none history other_history uncleared uncleared_other party known same =
    let own = same_own_routes history other_history uncleared uncleared_other party same in
    same_routes_none history other_history party known (same_own_within party _ _ own) (same_own_within party _ _ (sym own))
