-- A table and its paper have the same: each has the hop of the party's only route about p of length L, plus one, or 0 where
-- there is none.
use Prim.Native.Nat.{ℕ, zero, suc, ◌+◌, ◌^◌, ◌≤◌, ◌<◌}
use mathlib.Core.Path.{◌≡◌, refl, sym, ap, ◌∙◌}
use mathlib.Core.Bool.{false, cond, true≢false}
use mathlib.Core.List.Memᴰ
use mathlib.Core.List.{List, [], ◌∷◌}
use mathlib.Core.Option.{Option, some, none}
use mathlib.Core.Logic.{◌⊎◌, inl, inr}
use native.Mathlib.Omega.{arith}
use lib.Dec.{eqb}
use borrow.Author.Tests.{ne_eqb}
use Rattle.rules.specs.declared.Settings.{Settings}
use Rattle.rules.specs.Table.{prefix, Memory, own, mark_of, default_mark, held, loose}
use Rattle.rules.specs.Ready.{Ready}
use Rattle.rules.proofs.Marks.{zero_unowned, mark_own, hop_marked}
use Rattle.rules.proofs.Prefixes.{prefix_zero, loose_false}
use Rattle.difference_rules.specs.Comparing.{told, found_mark, stored_mark, has}
use Rattle.difference_rules.proofs.Having.{told_own, told_other}
use Rattle.promises.specs.History.{Route, routes_of, about, route}
use Rattle.promises.specs.Demands.{Stored, number, exists}
use Rattle.promises.proofs.Sums.{by_cases, exists_none, only_one}
use Rattle.promises.proofs.Paper.{own_about, about_true, route_of, own_stored, stored_own}
use Rattle.promises.proofs.Buckets.{held_stored, stored_held, default_stored, default_free}
use Rattle.promises.proofs.Kept.{Kept, fits, hops, ready}
use Rattle.difference_promises.specs.Differing.{Alike}
use Rattle.difference_promises.specs.Paper.{paper_has, NoRoute, Within}

-- x is what these routes have for the party there: 0 with no route, or the hop of one, plus one
abbrev pub Has : (routes : List Route) (party p L x : ℕ) → Type 0
Has routes party p L x = (NoRoute party p L routes × (x ≡ 0)) ⊎ ((hop : ℕ) × Stored (route party p L hop) routes × (x ≡ hop + 1))

-- so has the paper
pub paper_right : (routes : List Route) (party p L : ℕ) → Has routes party p L (paper_has routes party p L)
unfolding paper_has
paper_right [] party p L = inl (λ hop there. Memᴰ.not-nil there, refl)
paper_right (r ∷ routes) party p L = by_cases (about party p L r)
    (λ its. let parts = about_true party p L r its in
    inr (r.hop, Memᴰ.head (route_of r parts.0 parts.1 parts.2), rw its))
    (λ other. rw other (go other (paper_right routes party p L)))
  where
    none_here : about party p L r ≡ false → NoRoute party p L routes → (hop : ℕ) → (route party p L hop ≡ r) ⊎ Stored (route party p L hop) routes → ⊥
    none_here other absent hop (inl e) = true≢false (sym (own_about party p L hop) ∙ ap (about party p L) e ∙ other)
    none_here other absent hop (inr there) = absent hop there

    go : about party p L r ≡ false → Has routes party p L (paper_has routes party p L) → Has (r ∷ routes) party p L (paper_has routes party p L)
    go other (inl absent) = inl (λ hop there. none_here other absent.0 hop (Memᴰ.cases_cons there), absent.1)
    go other (inr one) = inr (one.0, Memᴰ.tail one.1, one.2)

-- a party's routes of one prefix and length have one hop, where it has no more than one
same_hop : {routes : List Route} {party p L hop other : ℕ} → number (about party p L) routes ≤ 1 → Stored (route party p L hop) routes → Stored (route party p L other) routes → hop ≡ other
same_hop {party = party} {p} {L} {hop} {other} few one two =
    sym (only_one (about party p L) (λ q. q.hop) one (own_about party p L hop) few) ∙ only_one (about party p L) (λ q. q.hop) two (own_about party p L other) few

-- and so they have one thing there
pub has_one : {routes : List Route} {party p L x y : ℕ} → number (about party p L) routes ≤ 1 → Has routes party p L x → Has routes party p L y → x ≡ y
has_one few (inl absent) (inl also) = absent.1 ∙ sym also.1
has_one few (inl absent) (inr one) = absurd (absent.0 one.0 one.1)
has_one few (inr one) (inl absent) = absurd (absent.0 one.0 one.1)
has_one few (inr one) (inr two) = one.2 ∙ ap (λ (k : ℕ). k + 1) (same_hop few one.1 two.1) ∙ sym two.2

-- a mark of the party's is told as its hop plus one
told_hop : (party hop : ℕ) → hop ≤ 65535 → told party (mark_of party hop) ≡ hop + 1
told_hop party hop high = told_own party (mark_of party hop) (mark_own party hop high) ∙ ap (λ (k : ℕ). k + 1) (hop_marked party hop)

module _ {t : Settings} {routes : List Route} {m : Memory} (kept : Kept t routes m) (party : ℕ) (known : party ≤ 1) (p : ℕ) (word : p < 2 ^ 32) where
  -- the party's default
  default_right : prefix p 0 ≡ p → Has routes party p 0 (told party (default_mark t m.slots party))
  default_right tight = by_cases (own party (default_mark t m.slots party))
      (λ its.
      let r = default_stored kept.slots (hops kept) party known its in
      let fit = fits kept r.0 r.1 in
      let at_prefix : r.0.prefix ≡ p = sym fit.tight ∙ ap (prefix r.0.prefix) r.3 ∙ prefix_zero r.0.prefix fit.word ∙ sym (prefix_zero p word) ∙ tight in
      inr (r.0.hop, Memᴰ.cast (route_of r.0 r.2 at_prefix r.3) r.1, rw (← r.4) (told_hop party r.0.hop fit.hop_high)))
      (λ other. inl (λ hop there. default_free kept.slots (hops kept) party known other (route party p 0 hop) there refl refl, told_other party _ other))

  -- and what it has in its slots
  slot_right : (L : ℕ) → Ready t L → Has routes party p L (told party (found_mark t m.slots p L (held t m.slots party p L)))
  unfolding found_mark
  slot_right L of_l = go (held t m.slots party p L) refl
    where
      go : (o : Option ℕ) → held t m.slots party p L ≡ o → Has routes party p L (told party (found_mark t m.slots p L o))
      go none h = inl (λ hop there. stored_held kept.slots (hops kept) (route party p L hop) there of_l h, told_other party 0 (zero_unowned party))
      go (some s) h =
          let at = (held_stored kept.slots (hops kept) party p L s known of_l h).1 in
          inr (at.holder.hop, Memᴰ.cast (route_of at.holder at.its_party at.its_prefix at.its_length) at.stored, rw (← at.its_mark) (told_hop party at.holder.hop (hops kept at.holder at.stored)))

  -- so the table has what its routes have
  pub table_right : (L : ℕ) → L ≤ 32 → Has routes party p L (has t m.slots party p L)
  unfolding has stored_mark
  table_right L high = by_cases (loose p L)
      (λ bad. rw bad (inl (λ hop there. true≢false (sym bad ∙ (loose_false p L).1 (fits kept (route party p L hop) there).tight), refl)))
      (λ good. rw good (go L high ((loose_false p L).0 good)))
    where
      go : (n : ℕ) → n ≤ 32 → prefix p n ≡ p → Has routes party p n (told party (cond (eqb n 0) (default_mark t m.slots party) (found_mark t m.slots p n (held t m.slots party p n))))
      go zero up tight = default_right tight
      go (suc n) up tight = rw (ne_eqb (suc n) 0 (omega arith)) (slot_right (suc n) (ready kept.range (omega arith) up))

  -- and that is what its paper has.
  pub table_paper : (L : ℕ) → L ≤ 32 → has t m.slots party p L ≡ paper_has routes party p L
  table_paper L high = has_one (kept.once party p L) (table_right L high) (paper_right routes party p L)

-- a table's routes of the party are on any paper that has the same at every length and prefix
pub alike_within : {t : Settings} {routes others : List Route} {m : Memory} → Kept t routes m → (party : ℕ)
    → Alike (paper_has routes party) (paper_has others party) → Within party routes others
alike_within {routes = routes} {others} kept party alike p L hop there =
    let its = fits kept (route party p L hop) there in
    let one : hop + 1 ≡ paper_has routes party p L = has_one (kept.once party p L) (inr (hop, there, refl)) (paper_right routes party p L) in
    go (one ∙ alike L p its.high its.word) (paper_right others party p L)
  where
    go : {x : ℕ} → hop + 1 ≡ x → Has others party p L x → Stored (route party p L hop) others
    go e (inl other) = absurd (omega (arith, e, other.1))
    go e (inr other) = let same : hop ≡ other.0 = omega (arith, e, other.2) in Memᴰ.cast (ap (λ (k : ℕ). route party p L k) same) other.1

-- ---- How routes are seen to be on a paper or not

-- no route passes the test, so there is none
pub absent : (party p L : ℕ) (routes : List Route) → exists (about party p L) routes ≡ false → NoRoute party p L routes
absent party p L routes none_there hop there = true≢false (sym (own_about party p L hop) ∙ exists_none (about party p L) routes none_there (route party p L hop) there)

-- the party's own routes are the same, so each is on both
pub same_own_within : (party : ℕ) (routes others : List Route) → routes_of party routes ≡ routes_of party others → Within party routes others
same_own_within party routes others same p L hop there = (own_stored party others (rw same at (stored_own party there refl))).0
