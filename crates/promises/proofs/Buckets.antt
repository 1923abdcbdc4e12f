-- The slots of a history and its stored routes weigh the same, bucket by bucket and under every weight; so each
-- question about slots is one about routes.
use Prim.Native.Nat.{ℕ, ◌+◌, ◌*◌, ◌≤◌, ◌<◌}
use mathlib.Core.Path.{◌≡◌, refl, sym, ap, ◌∙◌}
use mathlib.Core.Bool.{Bool, true, false, cond, not, ◌&&◌, true≢false}
use mathlib.Core.List.{List, Memᴰ}
use mathlib.Core.Option.{Option, some, none}
use mathlib.Core.Logic.{◌≢◌}
use native.Mathlib.Omega.{arith}
use lib.ListN.{length, set, length-set}
use lib.Seq.{get_or-set_same, get_or-set_other}
use lib.Dec.{eqb}
use borrow.Author.Tests.{eqb-true, eqb-false, eq-eqb, ne_eqb, not-true, not-false}
use Rattle.rules.specs.declared.Settings.{Settings}
use Rattle.rules.specs.Table.{bucket, slots_size, slot_number, prefix_word, mark_word, default_word, own, occupied, mark_of, mark_at, prefix_at, default_mark, with_slot, holds, free, held, vacant, is_some, full}
use Rattle.rules.specs.Ready.{Ready}
use Rattle.rules.proofs.Members.{both}
use Rattle.rules.proofs.Marks.{mark_own, own_occupied, own_one}
use Rattle.rules.proofs.Placing.{words_fit, default_fits, defaults_apart, default_after}
use Rattle.rules.proofs.Lowest.{none_below, some_lowest}
use Rattle.promises.specs.History.{Route, of_party, about}
use Rattle.promises.specs.Demands.{sum, number, exists, beside, crowded}
use Rattle.promises.proofs.Sums.{by_cases, some_weighs, weight_within, weighs_passes, none_exists, exists_there}
use Rattle.promises.proofs.Paper.{worth, Paper, worth_nothing, about_true, about_made}
use Rattle.promises.proofs.Below.{below_agree, one_below, none_below_weighs, each_below, at_most_below, less_below}
use Rattle.promises.proofs.Slots.{weigh, weigh_free, weigh_occupied, slot_weight, bucket_weight, same_bucket, bucket_written}

-- ---- The slots and the stored routes

-- what a route weighs in p's bucket at length L
unfoldable pub in_bucket : Settings → (weight : ℕ → ℕ → ℕ) (p L : ℕ) → Route → ℕ
in_bucket t weight p L r = cond (beside t p L r) (weight r.prefix (mark_of r.party r.hop)) 0

-- what a route weighs in the word of the party's default
unfoldable pub in_default : (weight : ℕ → ℕ → ℕ) (party : ℕ) → Route → ℕ
in_default weight party r = cond (eqb r.length 0 && of_party party r) (weight 0 (mark_of r.party r.hop)) 0

pub record SlotsKept (t : Settings) (routes : List Route) (slots : List ℕ) : Type 0 where
  pub size : length slots ≡ slots_size t
  pub buckets : (p L : ℕ) → Ready t L → (weight : ℕ → ℕ → ℕ) → bucket_weight t weight slots p L ≡ sum (in_bucket t weight p L) routes
  pub default : (party : ℕ) → party ≤ 1 → (weight : ℕ → ℕ → ℕ) → weigh weight 0 (default_mark t slots party) ≡ sum (in_default weight party) routes

-- ---- What the slots hold

-- a mark that is the party's was made for it
made_for : (party q hop mark : ℕ) → hop ≤ 65535 → mark_of q hop ≡ mark → own party mark ≡ true → (q ≡ party) × (mark_of party hop ≡ mark)
made_for party q hop mark high e mine =
    let whose : q ≡ party = own_one q party mark (ap (own q) (sym e) ∙ mark_own q hop high) mine in
    (whose, ap (λ (x : ℕ). mark_of x hop) (sym whose) ∙ e)

module _ {t : Settings} {routes : List Route} {slots : List ℕ} (kept : SlotsKept t routes slots) (high : (r : Route) → Memᴰ r routes → r.hop ≤ 65535) where
  -- the slot that holds p for the party is of a stored route of the party's
  pub record Holder (party p L n : ℕ) : Type 0 where
    pub holder : Route
    pub stored : Memᴰ holder routes
    pub its_party : holder.party ≡ party
    pub its_length : holder.length ≡ L
    pub its_prefix : holder.prefix ≡ p
    pub its_mark : mark_of party holder.hop ≡ mark_at slots n
    pub taken : occupied (mark_at slots n) ≡ true
    pub at_prefix : prefix_at slots n ≡ p

  beside_parts : (p L : ℕ) (r : Route) → beside t p L r ≡ true → (r.length ≡ L) × (bucket t r.prefix ≡ bucket t p)
  unfolding beside
  beside_parts p L r h = let parts = both (eqb r.length L) _ h in (eqb-true _ _ parts.0, eqb-true _ _ parts.1)

  pub held_stored : (party p L s : ℕ) → party ≤ 1 → Ready t L → held t slots party p L ≡ some s → (s < t.s) × Holder party p L (slot_number t p L s)
  unfolding held holds in_bucket bucket_weight slot_weight
  held_stored party p L s known ready h =
      let low = some_lowest (holds t slots party p L) t.s s h in
      let n = slot_number t p L s in
      let mark = mark_at slots n in
      let parts = both (own party mark) (eqb (prefix_at slots n) p) low.passes in
      let taken = own_occupied party mark known parts.0 in
      let weight : ℕ → ℕ → ℕ = λ q m. cond (eqb q p && eqb m mark) 1 0 in
      let one : slot_weight weight slots n ≡ 1 = weigh_occupied weight (prefix_at slots n) mark taken ∙ rw (parts.1, eq-eqb mark mark refl) in
      let some_weight = one_below (λ u. slot_weight weight slots (slot_number t p L u)) t.s s low.within in
      let found = some_weighs (in_bucket t weight p L) routes (omega (arith, kept.buckets p L ready weight)) in
      let r = found.0 in
      let there = weighs_passes (beside t p L r) (weight r.prefix (mark_of r.party r.hop)) found.2 in
      let its = beside_parts p L r there in
      let marked = weighs_passes (eqb r.prefix p && eqb (mark_of r.party r.hop) mark) 1 (rw there at found.2) in
      let same = both (eqb r.prefix p) _ marked in
      let made = made_for party r.party r.hop mark (high r found.1) (eqb-true _ _ same.1) parts.0 in (
        low.within,
        record {
          holder = r;
          stored = found.1;
          its_party = made.0;
          its_length = its.0;
          its_prefix = eqb-true _ _ same.0;
          its_mark = made.1;
          taken = taken;
          at_prefix = eqb-true _ _ parts.1;
        },
      )

  -- a stored route has a slot that holds it for its party
  pub stored_held : (r : Route) → Memᴰ r routes → Ready t r.length → held t slots r.party r.prefix r.length ≡ none → ⊥
  unfolding held holds in_bucket bucket_weight slot_weight beside weigh
  stored_held r m ready h =
      let p = r.prefix in
      let weight : ℕ → ℕ → ℕ = λ q mark. cond (own r.party mark && eqb q p) 1 0 in
      let nothing : bucket_weight t weight slots p r.length ≡ 0 = none_below_weighs _ t.s
      (λ s l. unheld (occupied (mark_at slots (slot_number t p r.length s))) _ (none_below (holds t slots r.party p r.length) t.s h s l)) in
      let its : 1 ≤ sum (in_bucket t weight p r.length) routes =
      rw (eq-eqb r.length r.length refl, eq-eqb (bucket t p) (bucket t p) refl, eq-eqb p p refl, mark_own r.party r.hop (high r m)) at (weight_within (in_bucket t weight p r.length) m) in
      omega (arith, kept.buckets p r.length ready weight)
    where
      unheld : (a b : Bool) → b ≡ false → ◌≡◌ {A = ℕ} (cond a (cond b 1 0) 0) 0
      unheld true b h = rw h
      unheld false b h = refl

  -- so a prefix is held for the party exactly if a stored route of the party's is about it
  pub held_exists : (party p L : ℕ) → party ≤ 1 → Ready t L → is_some (held t slots party p L) ≡ exists (about party p L) routes
  unfolding is_some
  held_exists party p L known ready = go (held t slots party p L) refl
    where
      go : (o : Option ℕ) → held t slots party p L ≡ o → is_some o ≡ exists (about party p L) routes
      go (some s) h =
          let at = (held_stored party p L s known ready h).1 in
          sym (exists_there (about party p L) at.stored (about_made party p L at.holder at.its_party at.its_prefix at.its_length))
      go none h = sym (none_exists (about party p L) routes (λ r m. by_cases (about party p L r)
          (λ e. let its = about_true party p L r e in
          absurd (stored_held r m (rw its.2 ready) (rw (its.0, its.1, its.2) h)))
          (λ e. e)))

  -- the word of the party's default is of a stored route of the party's, if it is occupied,
  default_taken : (party : ℕ) → party ≤ 1 → occupied (default_mark t slots party) ≡ true
      → (r : Route) × Memᴰ r routes × (r.party ≡ party) × (r.length ≡ 0) × (mark_of party r.hop ≡ default_mark t slots party)
  unfolding in_default of_party
  default_taken party known h =
      let mark = default_mark t slots party in
      let weight : ℕ → ℕ → ℕ = λ q m. cond (eqb m mark) 1 0 in
      let one : weigh weight 0 mark ≡ 1 = weigh_occupied weight 0 mark h ∙ rw (eq-eqb mark mark refl) in
      let found = some_weighs (in_default weight party) routes (omega (arith, kept.default party known weight)) in
      let r = found.0 in
      let there = weighs_passes (eqb r.length 0 && eqb r.party party) (weight 0 (mark_of r.party r.hop)) found.2 in
      let parts = both (eqb r.length 0) _ there in
      let whose : r.party ≡ party = eqb-true _ _ parts.1 in
      (r, found.1, whose, eqb-true _ _ parts.0, ap (λ (q : ℕ). mark_of q r.hop) (sym whose) ∙ eqb-true _ _ (weighs_passes (eqb (mark_of r.party r.hop) mark) 1 (rw there at found.2)))

  pub default_stored : (party : ℕ) → party ≤ 1 → own party (default_mark t slots party) ≡ true
      → (r : Route) × Memᴰ r routes × (r.party ≡ party) × (r.length ≡ 0) × (mark_of party r.hop ≡ default_mark t slots party)
  default_stored party known h = default_taken party known (own_occupied party (default_mark t slots party) known h)

  -- and then its mark is the party's
  pub default_vacant : (party : ℕ) → party ≤ 1 → own party (default_mark t slots party) ≡ false → occupied (default_mark t slots party) ≡ false
  default_vacant party known h = by_cases (occupied (default_mark t slots party))
      (λ taken. let r = default_taken party known taken in
      absurd (true≢false (sym (ap (own party) (sym r.4) ∙ mark_own party r.0.hop (high r.0 r.1)) ∙ h)))
      (λ empty. empty)

  pub default_free : (party : ℕ) → party ≤ 1 → own party (default_mark t slots party) ≡ false → (r : Route) → Memᴰ r routes → r.party ≡ party → r.length ≡ 0 → ⊥
  unfolding in_default of_party weigh
  default_free party known h r m whose e =
      let weight : ℕ → ℕ → ℕ = λ q mark. cond (own party mark) 1 0 in
      let its_mark : own party (mark_of r.party r.hop) ≡ true =
      ap (λ (q : ℕ). own q (mark_of r.party r.hop)) (sym whose) ∙ mark_own r.party r.hop (high r m) in
      let its : 1 ≤ sum (in_default weight party) routes =
      rw (eq-eqb r.length 0 e, eq-eqb r.party party whose, its_mark) at (weight_within (in_default weight party) m) in
      let nothing : weigh weight 0 (default_mark t slots party) ≡ 0 = rw h (never (occupied (default_mark t slots party))) in
      omega (arith, kept.default party known weight)
    where
      never : (b : Bool) → ◌≡◌ {A = ℕ} (cond b 0 0) 0
      never true = refl
      never false = refl

module _ {t : Settings} {routes : List Route} {slots : List ℕ} (kept : SlotsKept t routes slots) where
  -- a bucket has at most S routes, and is full exactly if it has S
  one_each : (s : ℕ) → slot_weight (λ q mark. 1) slots s ≤ 1
  unfolding slot_weight weigh
  one_each s = at_most (occupied (mark_at slots s))
    where
      at_most : (b : Bool) → cond b 1 0 ≤ 1
      at_most true = omega arith
      at_most false = omega arith

  routes_beside : (p L : ℕ) → Ready t L → bucket_weight t (λ q mark. 1) slots p L ≡ number (beside t p L) routes
  unfolding number in_bucket
  routes_beside p L ready = kept.buckets p L ready (λ q mark. 1)

  pub beside_few : (p L : ℕ) → Ready t L → number (beside t p L) routes ≤ t.s
  unfolding bucket_weight
  beside_few p L ready =
      omega (arith, routes_beside p L ready, at_most_below (λ s. slot_weight (λ q mark. 1) slots (slot_number t p L s)) t.s (λ s. one_each (slot_number t p L s)))

  pub full_crowded : (p L : ℕ) → Ready t L → full t slots p L ≡ crowded t routes p L
  unfolding full crowded vacant is_some bucket_weight free slot_weight
  full_crowded p L ready = go (vacant t slots p L) refl
    where
      counted : bucket_weight t (λ q mark. 1) slots p L ≡ number (beside t p L) routes
      counted = routes_beside p L ready

      go : (o : Option ℕ) → vacant t slots p L ≡ o → not (is_some o) ≡ eqb (number (beside t p L) routes) t.s
      go (some u) h =
          let low = some_lowest (free t slots p L) t.s u h in
          let less = less_below (λ s. slot_weight (λ q mark. 1) slots (slot_number t p L s)) t.s u (λ s. one_each (slot_number t p L s)) low.within
          (weigh_free (λ q mark. 1) _ (mark_at slots (slot_number t p L u)) (not-true _ low.passes)) in
          sym (ne_eqb (number (beside t p L) routes) t.s (λ e. omega (arith, counted)))
      go none h =
          let all_taken = each_below (λ s. slot_weight (λ q mark. 1) slots (slot_number t p L s)) t.s
          (λ s l. weigh_occupied (λ q mark. 1) _ (mark_at slots (slot_number t p L s)) (not-false _ (none_below (free t slots p L) t.s h s l))) in
          sym (eq-eqb _ _ (sym counted ∙ all_taken))

-- ---- A call that writes

-- what a route weighs as a slot's prefix and mark
abbrev pub as_slot : (weight : ℕ → ℕ → ℕ) → Route → ℕ
as_slot weight r = weight r.prefix (mark_of r.party r.hop)

-- a bucket's share of what a slot of p's bucket at L weighs
share : (t : Settings) (party p L q M : ℕ) (weight : ℕ → ℕ → ℕ) (o : Option ℕ)
    → cond (same_bucket t L M p q) (worth (as_slot weight) party p L o) 0 ≡ worth (in_bucket t weight q M) party p L o
unfolding worth in_bucket same_bucket beside
share t party p L q M weight none = nothing (eqb L M && eqb (bucket t p) (bucket t q))
  where
    nothing : (b : Bool) → ◌≡◌ {A = ℕ} (cond b 0 0) 0
    nothing true = refl
    nothing false = refl
share t party p L q M weight (some hop) = refl

-- a word that is no slot's leaves the defaults, and a default's word leaves the slots and the other party's default
default_apart : {t : Settings} (slots : List ℕ) (party p L u q mark : ℕ) → Ready t L → u < t.s
    → default_mark t (with_slot slots (slot_number t p L u) q mark) party ≡ default_mark t slots party
unfolding with_slot default_mark prefix_word mark_word
default_apart {t} slots party p L u q mark ready within =
    let n = slot_number t p L u in
    let before : 2 * n + 1 < default_word t 0 = (words_fit t p L u ready within).mark in
    let after = default_after t party in
    get_or-set_other (set slots (2 * n) q) (2 * n + 1) (default_word t party) mark 0 (omega arith)
    ∙ get_or-set_other slots (2 * n) (default_word t party) q 0 (omega arith)

slots_apart : {t : Settings} (slots : List ℕ) (party p L mark : ℕ) → Ready t L → (weight : ℕ → ℕ → ℕ)
    → bucket_weight t weight (set slots (default_word t party) mark) p L ≡ bucket_weight t weight slots p L
unfolding bucket_weight slot_weight mark_at prefix_at prefix_word mark_word
slots_apart {t} slots party p L mark ready weight = below_agree _ _ t.s (λ s l.
    let n = slot_number t p L s in
    let before : 2 * n + 1 < default_word t 0 = (words_fit t p L s ready l).mark in
    let after = default_after t party in
    rw (get_or-set_other slots (default_word t party) (2 * n) mark 0 (omega arith), get_or-set_other slots (default_word t party) (2 * n + 1) mark 0 (omega arith)))

others_apart : (t : Settings) (slots : List ℕ) (party other mark : ℕ) → other ≢ party
    → default_mark t (set slots (default_word t party) mark) other ≡ default_mark t slots other
unfolding default_mark
others_apart t slots party other mark apart =
    get_or-set_other slots (default_word t party) (default_word t other) mark 0 (λ e. apart (defaults_apart t other party e))

no_default : (weight : ℕ → ℕ → ℕ) (party q p L : ℕ) (o : Option ℕ) → 1 ≤ L → worth (in_default weight q) party p L o ≡ 0
unfolding in_default
no_default weight party q p L o low = worth_nothing (in_default weight q) party p L o (λ hop. rw (ne_eqb L 0 (λ e. omega arith)))

other_default : (weight : ℕ → ℕ → ℕ) (party q p : ℕ) (o : Option ℕ) → q ≢ party → worth (in_default weight q) party p 0 o ≡ 0
unfolding in_default of_party
other_default weight party q p o apart = worth_nothing (in_default weight q) party p 0 o (λ hop. rw (ne_eqb party q (λ e. apart (sym e))))

pub own_default_worth : (weight : ℕ → ℕ → ℕ) (party p hop : ℕ) → worth (in_default weight party) party p 0 (some hop) ≡ weight 0 (mark_of party hop)
unfolding worth in_default of_party
own_default_worth weight party p hop = rw (eq-eqb party party refl)

no_bucket : (t : Settings) (weight : ℕ → ℕ → ℕ) (party p L q : ℕ) (o : Option ℕ) → 1 ≤ L → worth (in_bucket t weight q L) party p 0 o ≡ 0
unfolding in_bucket beside
no_bucket t weight party p L q o low = worth_nothing (in_bucket t weight q L) party p 0 o (λ hop. rw (ne_eqb 0 L (λ e. omega arith)))

module _ {t : Settings} {routes : List Route} {slots : List ℕ} (kept : SlotsKept t routes slots) where
  own_default : (after : List Route) (party p mark : ℕ) (old new : Option ℕ) → party ≤ 1 → (weight : ℕ → ℕ → ℕ)
      → weigh weight 0 (default_mark t slots party) ≡ worth (in_default weight party) party p 0 old
      → weigh weight 0 mark ≡ worth (in_default weight party) party p 0 new
      → Paper party p 0 old new routes after
      → weigh weight 0 (default_mark t (set slots (default_word t party) mark) party) ≡ sum (in_default weight party) after
  unfolding default_mark
  own_default after party p mark old new known weight had has paper =
      rw (get_or-set_same slots (default_word t party) mark 0 (rw kept.size (default_fits t party known)))
      (omega (arith, paper (in_default weight party), kept.default party known weight))

module _ {t : Settings} {routes after : List Route} {slots : List ℕ} (kept : SlotsKept t routes slots) where
  -- a slot of p's bucket at L changes hands, on paper and in memory alike
  pub slot_step : (party p L u q mark : ℕ) (old new : Option ℕ) → Ready t L → u < t.s
      → ((weight : ℕ → ℕ → ℕ) → slot_weight weight slots (slot_number t p L u) ≡ worth (as_slot weight) party p L old)
      → ((weight : ℕ → ℕ → ℕ) → weigh weight q mark ≡ worth (as_slot weight) party p L new)
      → Paper party p L old new routes after → SlotsKept t after (with_slot slots (slot_number t p L u) q mark)
  unfolding with_slot
  slot_step party p L u q mark old new ready within had has paper = record {
    size = simp length-set kept.size;
    buckets = λ r M other weight.
        let memory = rw (had weight, has weight, share t party p L r M weight old, share t party p L r M weight new)
        at (bucket_written t slots p L u q mark ready within kept.size M r other weight) in
        omega (arith, memory, paper (in_bucket t weight r M), kept.buckets r M other weight);
    default = λ other known weight.
        rw (default_apart slots other p L u q mark ready within)
        (omega (arith, paper (in_default weight other), no_default weight party other p L old ready.low, no_default weight party other p L new ready.low, kept.default other known weight));
  }

  -- the party's default changes hands
  pub default_step : (party p mark : ℕ) (old new : Option ℕ) → party ≤ 1
      → ((weight : ℕ → ℕ → ℕ) → weigh weight 0 (default_mark t slots party) ≡ worth (in_default weight party) party p 0 old)
      → ((weight : ℕ → ℕ → ℕ) → weigh weight 0 mark ≡ worth (in_default weight party) party p 0 new)
      → Paper party p 0 old new routes after → SlotsKept t after (set slots (default_word t party) mark)
  default_step party p mark old new known had has paper = record {
    size = simp length-set kept.size;
    buckets = λ r M other weight.
        omega (arith, slots_apart slots party r M mark other weight, paper (in_bucket t weight r M), no_bucket t weight party p M r old other.low, no_bucket t weight party p M r new other.low, kept.buckets r M other weight);
    default = λ q its weight. by_cases (eqb q party)
        (λ same. rw (eqb-true q party same) (own_default kept after party p mark old new known weight (had weight) (has weight) paper))
        (λ differs. let apart = eqb-false q party differs in
        rw (others_apart t slots party q mark apart)
        (omega (arith, paper (in_default weight q), other_default weight party q p old apart, other_default weight party q p new apart, kept.default q its weight)));
  }
