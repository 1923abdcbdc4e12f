-- Each accepted call changes memory and paper alike: one law over what the party's route about p and L was and is.
use Prim.Native.Nat.{ℕ, zero, suc, ◌+◌, ◌^◌, ◌≤◌, ◌<◌}
use mathlib.Core.Path.{◌≡◌, refl, sym, ap, ◌∙◌}
use mathlib.Core.Bool.{Bool, true, false, cond, not, false≢true}
use mathlib.Core.List.Memᴰ
use mathlib.Core.List.{List, ◌∷◌, Memᴰ}
use mathlib.Core.Option.{Option, some, none}
use native.Mathlib.Nat.{suc-ne-zero}
use native.Mathlib.Omega.{arith}
use lib.Dec.{eqb, ltb}
use borrow.Author.Tests.{eqb-true, eq-eqb, ltb-false, lt-ltb, le-leb, not-true, not-false}
use Rattle.rules.specs.declared.Settings.{Settings}
use Rattle.rules.specs.Tools.{count}
use Rattle.rules.specs.Table.{prefix, odd_prefix, positions, Memory, lent, slot_number, mark_of, default_mark, own, stored, held, vacant, free, is_some, full, added, withdrawn, changed}
use Rattle.rules.specs.Ready.{Ready}
use Rattle.rules.proofs.Members.{any_false}
use Rattle.rules.proofs.Lowest.{some_lowest}
use Rattle.rules.proofs.Marks.{own_occupied, mark_occupied, zero_free}
use Rattle.rules.proofs.Updates.{default_in_place, stored_in_place, new_needs_slot, added_slot, added_in_place, withdrawn_default, withdrawn_slot, changed_default, changed_slot}
use Rattle.rules.proofs.Prefixes.{prefix_zero}
use Rattle.promises.specs.History.{Route, of_party, about, without, route, with_hop}
use Rattle.promises.specs.Demands.{number, exists, landings, overflows}
use Rattle.promises.proofs.Sums.{by_cases, none_weighs, exists_none}
use Rattle.promises.proofs.Paper.{worth, Paper, about_true, route_of, paper_added, paper_withdrawn, paper_replaced, paper_changed}
use Rattle.promises.proofs.Slots.{weigh, weigh_free, weigh_occupied, slot_weight}
use Rattle.promises.proofs.Buckets.{in_default, SlotsKept, held_stored, held_exists, full_crowded, default_stored, default_vacant, own_default_worth, slot_step, default_step}
use Rattle.promises.proofs.Counters.{CountersKept, lands, kept_added, kept_withdrawn, kept_unmoved, default_lands}
use Rattle.promises.proofs.Kept.{fit, Kept, fits, hops, ready}
use Rattle.promises.proofs.Numbers.{Checked, Addable}
use Rattle.promises.proofs.Refusals.{stored_exists}

-- ---- The law

-- a test that passes counts as one
abbrev one : (Route → Bool) → Route → ℕ
one test r = cond (test r) 1 0

pub settled : {t : Settings} {routes after : List Route} {m : Memory} (party p L : ℕ) (counters slots : List ℕ) (old new : Option ℕ) → Kept t routes m
    → Paper party p L old new routes after → SlotsKept t after slots → CountersKept t after counters
    → worth (one (λ r. not (fit r))) party p L new ≡ 0
    → ((M j : ℕ) → Ready t M → landings t routes M j + worth (lands t M j) party p L new ≤ 15 + worth (lands t M j) party p L old)
    → ((other q M : ℕ) → number (about other q M) routes + worth (one (about other q M)) party p L new ≤ 1 + worth (one (about other q M)) party p L old)
    → Kept t after (lent counters slots)
unfolding number landings
settled {t} party p L counters slots old new kept paper kept_slots kept_counters new_fit room once = record {
  range = kept.range;
  slots = kept_slots;
  counters = kept_counters;
  small = λ M j of_m. omega (arith, paper (lands t M j), room M j of_m);
  all_fit = omega (arith, paper (one (λ r. not (fit r))), kept.all_fit, new_fit);
  once = λ other q M. omega (arith, paper (one (about other q M)), once other q M);
}

-- a valid route that is not odd is fit
new_fits : (party p L hop : ℕ) → Checked party p L → odd_prefix p L ≡ false → hop ≤ 65535 → p < 2 ^ 32 → worth (one (λ r. not (fit r))) party p L (some hop) ≡ 0
unfolding worth fit
new_fits party p L hop valid not_odd high word =
    rw (le-leb party 1 valid.known, le-leb L 32 valid.high, eq-eqb (prefix p L) p valid.tight, not_odd, le-leb hop 65535 high, lt-ltb p (2 ^ 32) word)

weigh_hop : (weight : ℕ → ℕ → ℕ) (party q hop : ℕ) → party ≤ 1 → hop ≤ 65535 → weigh weight q (mark_of party hop) ≡ weight q (mark_of party hop)
weigh_hop weight party q hop known high = weigh_occupied weight q (mark_of party hop) (mark_occupied party hop known high)

pub weigh_zero : (weight : ℕ → ℕ → ℕ) (q : ℕ) → weigh weight q 0 ≡ 0
weigh_zero weight q = weigh_free weight q 0 zero_free

found : (o : Option ℕ) → is_some o ≡ true → (s : ℕ) × (o ≡ some s)
unfolding is_some
found (some s) h = (s, refl)
found none h = absurd (false≢true h)

module _ {t : Settings} {routes : List Route} {m : Memory} (kept : Kept t routes m) (party p : ℕ) (word : p < 2 ^ 32) where
  -- ---- Add

  room_added : (L hop : ℕ) → Addable t routes party p L hop → exists (about party p L) routes ≡ false → (M j : ℕ) → Ready t M
      → landings t routes M j + worth (lands t M j) party p L (some hop) ≤ 15 + worth (lands t M j) party p L none
  unfolding worth overflows
  room_added L hop ok absent M j of_m = by_cases (eqb L M)
      (λ same. rw same (go (count j (positions t p M)) refl (eqb-true L M same)))
      (λ other. rw other (omega (arith, kept.small M j of_m)))
    where
      go : (n : ℕ) → count j (positions t p M) ≡ n → L ≡ M → landings t routes M j + n ≤ 15 + 0
      go zero e same = omega (arith, kept.small M j of_m)
      go (suc n) e same =
          let fine = rw same at (ok.room absent (rw same of_m.low)) in
          let below_16 : landings t routes M j + count j (positions t p M) ≤ 15 =
          ltb-false 15 _ (any_false (λ j. ltb 15 (landings t routes M j + count j (positions t p M))) (positions t p M) fine j (omega arith)) in
          omega arith

  once_added : (L hop : ℕ) → exists (about party p L) routes ≡ false → (other q M : ℕ)
      → number (about other q M) routes + worth (one (about other q M)) party p L (some hop) ≤ 1 + worth (one (about other q M)) party p L none
  unfolding worth number
  once_added L hop absent other q M = by_cases (about other q M (route party p L hop))
      (λ same. rw same (let its = about_true other q M (route party p L hop) same in
      let nothing = none_weighs (one (about other q M)) routes (λ r there. rw (exists_none (about other q M) routes (rw (its.0, its.1, its.2) at absent) r there)) in
      omega arith))
      (λ differs. rw differs (omega (arith, kept.once other q M)))

  default_stands : party ≤ 1 → prefix p 0 ≡ p → own party (default_mark t m.slots party) ≡ exists (about party p 0) routes
  unfolding stored
  default_stands known tight = stored_exists kept party p 0 known (omega arith) tight word

  new_keeps : (L hop : ℕ) → Addable t routes party p L hop → exists (about party p L) routes ≡ false → Kept t (route party p L hop ∷ without party p L routes) (added t m party p L hop)
  unfolding worth in_default full vacant free slot_weight
  new_keeps zero hop ok absent =
      let paper = paper_added party p 0 hop routes absent in
      rw (added_in_place t m party p 0 hop (default_in_place t m.slots party p 0 refl), changed_default t m party p 0 hop refl)
      (settled party p 0 m.counters _ none (some hop) kept paper
      (default_step kept.slots party p (mark_of party hop) none (some hop) ok.valid.known
      (λ weight. weigh_free weight 0 _ (default_vacant kept.slots (hops kept) party ok.valid.known (default_stands ok.valid.known ok.valid.tight ∙ absent)))
      (λ weight. weigh_hop weight party 0 hop ok.valid.known ok.hop_high ∙ sym (own_default_worth weight party p hop)) paper)
      (kept_unmoved party p 0 kept.counters none (some hop) paper (λ M j of_m. sym (default_lands t party p M j (some hop) of_m)))
      (new_fits party p 0 hop ok.valid ok.not_odd ok.hop_high word)
      (room_added 0 hop ok absent) (once_added 0 hop absent))
  new_keeps (suc L) hop ok absent =
      let paper = paper_added party p (suc L) hop routes absent in
      let of_l : Ready t (suc L) = ready kept.range (omega arith) ok.valid.high in
      let u = found (vacant t m.slots p (suc L)) (not-false _ (full_crowded kept.slots p (suc L) of_l ∙ ok.vacancy absent of_l.low)) in
      let low = some_lowest (free t m.slots p (suc L)) t.s u.0 u.1 in
      let needed = new_needs_slot t m.slots party p (suc L) (suc-ne-zero L) (stored_exists kept party p (suc L) ok.valid.known ok.valid.high ok.valid.tight word ∙ absent) in
      rw (added_slot t m party p (suc L) hop needed u.0 u.1)
      (settled party p (suc L) _ _ none (some hop) kept paper
      (slot_step kept.slots party p (suc L) u.0 p (mark_of party hop) none (some hop) of_l low.within
      (λ weight. weigh_free weight _ _ (not-true _ low.passes))
      (λ weight. weigh_hop weight party p hop ok.valid.known ok.hop_high) paper)
      (kept_added party p (suc L) kept.counters hop of_l paper)
      (new_fits party p (suc L) hop ok.valid ok.not_odd ok.hop_high word)
      (room_added (suc L) hop ok absent) (once_added (suc L) hop absent))

  -- ---- The stored route that a withdrawal or a change is about

  record InSlot (L s : ℕ) : Type 0 where
    hop : ℕ
    within : s < t.s
    member : Memᴰ (route party p L hop) routes
    weighs : (weight : ℕ → ℕ → ℕ) → slot_weight weight m.slots (slot_number t p L s) ≡ weight p (mark_of party hop)

  in_slot : (L : ℕ) → party ≤ 1 → Ready t L → exists (about party p L) routes ≡ true → (s : ℕ) × (held t m.slots party p L ≡ some s) × InSlot L s
  unfolding slot_weight
  in_slot L known of_l there =
      let s = found (held t m.slots party p L) (held_exists kept.slots (hops kept) party p L known of_l ∙ there) in
      let at = held_stored kept.slots (hops kept) party p L s.0 known of_l s.1 in
      let its = at.1 in (
        s.0,
        s.1,
        record {
          hop = its.holder.hop;
          within = at.0;
          member = Memᴰ.cast (route_of its.holder its.its_party its.its_prefix its.its_length) its.stored;
          weighs = λ weight. weigh_occupied weight _ _ its.taken ∙ rw (its.at_prefix, ← its.its_mark);
        },
      )

  record InDefault : Type 0 where
    hop : ℕ
    member : Memᴰ (route party p 0 hop) routes
    weighs : (weight : ℕ → ℕ → ℕ) → weigh weight 0 (default_mark t m.slots party) ≡ worth (in_default weight party) party p 0 (some hop)

  in_word : party ≤ 1 → prefix p 0 ≡ p → exists (about party p 0) routes ≡ true → InDefault
  in_word known tight there =
      let mine = default_stands known tight ∙ there in
      let r = default_stored kept.slots (hops kept) party known mine in
      let its = fits kept r.0 r.1 in
      let same : r.0.prefix ≡ p =
      sym its.tight ∙ ap (λ (L : ℕ). prefix r.0.prefix L) r.3 ∙ prefix_zero r.0.prefix its.word ∙ sym (prefix_zero p word) ∙ tight in
      record {
        hop = r.0.hop;
        member = Memᴰ.cast (route_of r.0 r.2 same r.3) r.1;
        weighs = λ weight. weigh_occupied weight 0 _ (own_occupied party _ known mine) ∙ ap (weight 0) (sym r.4) ∙ sym (own_default_worth weight party p r.0.hop);
      }

  -- ---- Withdraw

  -- fewer routes are no more than there were
  less : (L hop : ℕ) (counters slots : List ℕ) → Memᴰ (route party p L hop) routes
      → SlotsKept t (without party p L routes) slots → CountersKept t (without party p L routes) counters → Kept t (without party p L routes) (lent counters slots)
  unfolding worth
  less L hop counters slots member kept_slots kept_counters = settled party p L counters slots (some hop) none kept (paper_withdrawn party p L hop member (kept.once party p L))
      kept_slots kept_counters refl
      (λ M j of_m. omega (arith, kept.small M j of_m)) (λ other q M. omega (arith, kept.once other q M))

  pub withdrawn_keeps : (L : ℕ) → Checked party p L → exists (about party p L) routes ≡ true → Kept t (without party p L routes) (withdrawn t m party p L)
  unfolding worth in_default
  withdrawn_keeps zero valid there =
      let at = in_word valid.known valid.tight there in
      rw (withdrawn_default t m party p 0 refl)
      (less 0 at.hop _ _ at.member
      (default_step kept.slots party p 0 (some at.hop) none valid.known at.weighs (λ weight. weigh_zero weight 0) (paper_withdrawn party p 0 at.hop at.member (kept.once party p 0)))
      (kept_unmoved party p 0 kept.counters (some at.hop) none (paper_withdrawn party p 0 at.hop at.member (kept.once party p 0)) (λ M j of_m. default_lands t party p M j (some at.hop) of_m)))
  withdrawn_keeps (suc L) valid there =
      let of_l : Ready t (suc L) = ready kept.range (omega arith) valid.high in
      let s = in_slot (suc L) valid.known of_l there in
      let at = s.2 in
      rw (withdrawn_slot t m party p (suc L) (suc-ne-zero L) s.0 s.1)
      (less (suc L) at.hop _ _ at.member
      (slot_step kept.slots party p (suc L) s.0 0 0 (some at.hop) none of_l at.within at.weighs (λ weight. weigh_zero weight 0)
      (paper_withdrawn party p (suc L) at.hop at.member (kept.once party p (suc L))))
      (kept_withdrawn party p (suc L) kept.counters at.hop of_l (paper_withdrawn party p (suc L) at.hop at.member (kept.once party p (suc L)))))

  -- ---- Change

  -- another hop lands nowhere else and is about nothing else
  other_hop : (L old hop : ℕ) {after : List Route} (slots : List ℕ) → Memᴰ (route party p L old) routes → Paper party p L (some old) (some hop) routes after → hop ≤ 65535
      → SlotsKept t after slots → Kept t after (lent m.counters slots)
  unfolding worth about of_party
  other_hop L old hop slots member paper high kept_slots =
      let its = fits kept (route party p L old) member in
      settled party p L m.counters slots (some old) (some hop) kept paper
      kept_slots (kept_unmoved party p L kept.counters (some old) (some hop) paper (λ M j of_m. refl))
      (new_fits party p L hop (record { known = its.known; high = its.high; tight = its.tight }) its.not_odd high word)
      (λ M j of_m. omega (arith, kept.small M j of_m)) (λ other q M. omega (arith, kept.once other q M))

  -- whatever the paper then is on which the route has the new hop
  hop_keeps : (L hop : ℕ) (after : List Route) → Checked party p L → hop ≤ 65535 → exists (about party p L) routes ≡ true
      → ((old : ℕ) → Memᴰ (route party p L old) routes → Paper party p L (some old) (some hop) routes after) → Kept t after (changed t m party p L hop)
  unfolding worth in_default
  hop_keeps zero hop after valid high there paper =
      let at = in_word valid.known valid.tight there in
      rw (changed_default t m party p 0 hop refl)
      (other_hop 0 at.hop hop _ at.member (paper at.hop at.member) high
      (default_step kept.slots party p (mark_of party hop) (some at.hop) (some hop) valid.known at.weighs
      (λ weight. weigh_hop weight party 0 hop valid.known high ∙ sym (own_default_worth weight party p hop)) (paper at.hop at.member)))
  hop_keeps (suc L) hop after valid high there paper =
      let of_l : Ready t (suc L) = ready kept.range (omega arith) valid.high in
      let s = in_slot (suc L) valid.known of_l there in
      let at = s.2 in
      rw (changed_slot t m party p (suc L) hop (suc-ne-zero L) s.0 s.1)
      (other_hop (suc L) at.hop hop _ at.member (paper at.hop at.member) high
      (slot_step kept.slots party p (suc L) s.0 p (mark_of party hop) (some at.hop) (some hop) of_l at.within at.weighs (λ weight. weigh_hop weight party p hop valid.known high)
      (paper at.hop at.member)))

  pub changed_keeps : (L hop : ℕ) → Checked party p L → hop ≤ 65535 → exists (about party p L) routes ≡ true → Kept t (with_hop party p L hop routes) (changed t m party p L hop)
  changed_keeps L hop valid high there =
      hop_keeps L hop (with_hop party p L hop routes) valid high there (λ old member. paper_changed party p L old hop member (kept.once party p L))

  pub added_keeps : (L hop : ℕ) → Addable t routes party p L hop → Kept t (route party p L hop ∷ without party p L routes) (added t m party p L hop)
  added_keeps L hop ok = by_cases (exists (about party p L) routes)
      (λ there. rw (added_in_place t m party p L hop (stored_in_place t m.slots party p L (stored_exists kept party p L ok.valid.known ok.valid.high ok.valid.tight word ∙ there)))
      (hop_keeps L hop (route party p L hop ∷ without party p L routes) ok.valid ok.hop_high there (λ old member. paper_replaced party p L old hop member (kept.once party p L))))
      (λ absent. new_keeps L hop ok absent)
