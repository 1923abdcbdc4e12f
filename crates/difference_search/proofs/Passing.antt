-- A pass over slots: at each slot, what lies ahead is the next prefix that the slots before it have.
use Prim.Native.Nat.{ℕ, zero, suc, ◌+◌, ◌-◌, ◌*◌, ◌%◌, ◌^◌, ◌≤◌, ◌<◌}
use mathlib.Core.Path.{◌≡◌, refl, sym, ap, ◌∙◌, subst}
use mathlib.Core.Bool.{Bool, true, false, cond, ◌||◌, true≢false}
use mathlib.Core.List.{List}
use mathlib.Core.Logic.{◌⊎◌, inl, inr}
use mathlib.Core.Option.{Option as Found, some, none}
use Rattle.std.specs.Prelude.{Option, Some, None}
use native.Mathlib.Nat.{eq-or-lt_of_le, le_of_suc-le-suc}
use native.Mathlib.Numerals.{add-one}
use native.Mathlib.Omega.{arith}
use lib.Dec.{eqb, leb, ltb}
use borrow.Author.Tests.{ltb-true, ltb-false, leb-true, leb-false, eqb-true, eqb-false, eq-eqb, ne_eqb, le-leb, lt-ltb}
use Rattle.rules.specs.declared.Settings.{Settings}
use Rattle.rules.specs.Table.{slot_number, mark_at, prefix_at, default_mark, own, holds, held, loose}
use Rattle.rules.specs.Ready.{Ready}
use Rattle.rules.proofs.Members.{both}
use Rattle.rules.proofs.Prefixes.{loose_low}
use Rattle.rules.proofs.Lowest.{none_below, some_lowest}
use Rattle.buckets.proofs.Slots.{counted}
use Rattle.difference_rules.specs.Comparing.{told, stored_mark, has}
use Rattle.difference_rules.proofs.Having.{told_own, told_other, has_loose, has_none, has_held}
use Rattle.difference_search.specs.declared.Ahead.{Ahead}
use Rattle.difference_search.specs.Next.{own_slot, slot_tells, closer_of, lying, Next, Lies}
use Rattle.difference_search.proofs.Slots.{slot_after, slot_before}

-- ---- One slot more

-- the first of two that is not 0
abbrev or_next : (before this : ℕ) → ℕ
or_next zero this = this
or_next (suc before) this = suc before

-- the one before, if it is not 0
stays : (before this : ℕ) → 1 ≤ before → or_next before this ≡ before
stays zero this h = absurd (omega arith)
stays (suc before) this h = refl

-- of two that are 0 either is
neither : (b : Bool) → cond b 0 0 ≡ zero
neither true = refl
neither false = refl

-- nor is a mark that is not the party's told, so what lies ahead stays there
pub passed_over : (t : Settings) (party p L n mark from : ℕ) (ahead : Option Ahead) → own party mark ≡ false
    → ahead ≡ closer_of from ahead p (slot_tells t party p L n mark)
unfolding slot_tells closer_of
passed_over t party p L n mark from ahead other =
    rw (told_other party mark other, neither (own_slot t p L n), neither (loose p L)) (go (ltb p from) (leb (lying ahead).prefix p))
  where
    go : (a b : Bool) → ahead ≡ cond (a || (b || true)) ahead (Some (record { prefix = p; mark = 0 }))
    go true b = refl
    go false true = refl
    go false false = refl

-- what lies ahead lies there as the rules say, and nothing lies beyond every prefix
pub lies_next : {has : (p : ℕ) → ℕ} {from : ℕ} (o : Option Ahead) → Lies has from o → Next has from (lying o)
lies_next (Some ahead) l = l.0
lies_next None l = l

-- a table that has one slot more, which holds p and tells a mark of it
module _ (p mark from : ℕ) (before after : (p : ℕ) → ℕ) (more : (q : ℕ) → after q ≡ or_next (before q) (cond (eqb p q) mark 0)) where
  -- where it tells nothing of what is not below `from` and before what lies ahead, that stays ahead
  kept : {ahead : Ahead} → Next before from ahead → ((q : ℕ) → from ≤ q → q < ahead.prefix → cond (eqb p q) mark 0 ≡ 0) → Next after from ahead
  kept {ahead} next silent =
      record {
        low = next.low;
        high = next.high;
        none_before = λ q l h. rw (more q, next.none_before q l h) (silent q l h);
        there = λ h.
            let found = next.there h in
            (found.0 ∙ sym (more ahead.prefix ∙ stays _ _ (omega (arith, found.0, found.1))), found.1);
        end = next.end;
      }

  kept_ahead : (o : Option Ahead) → Lies before from o → ((q : ℕ) → from ≤ q → q < (lying o).prefix → cond (eqb p q) mark 0 ≡ 0) → Lies after from o
  kept_ahead (Some ahead) l silent = (kept l.0 silent, l.1)
  kept_ahead None l silent = kept l silent

  -- and otherwise it is what lies ahead
  closer_lies : (o : Option Ahead) → Lies before from o → Lies after from (closer_of from o p mark)
  unfolding closer_of
  closer_lies o lies = go (ltb p from) (leb (lying o).prefix p) (eqb mark 0) refl refl refl
    where
      go : (a b c : Bool) → ltb p from ≡ a → leb (lying o).prefix p ≡ b → eqb mark 0 ≡ c → Lies after from (closer_of from o p mark)
      go true b c ea eb ec = rw ea (kept_ahead o lies (λ q l h. rw (ne_eqb p q (omega (arith, ltb-true p from ea)))))
      go false true c ea eb ec = rw (ea, eb) (kept_ahead o lies (λ q l h. rw (ne_eqb p q (omega (arith, leb-true (lying o).prefix p eb)))))
      go false false true ea eb ec = rw (ea, eb, ec) (kept_ahead o lies (λ q l h. rw (eqb-true mark 0 ec) (neither (eqb p q))))
      go false false false ea eb ec =
          let after_from = ltb-false p from ea in
          let nearer = leb-false (lying o).prefix p eb in
          let next = lies_next o lies in
          let small : p < 2 ^ 32 = omega (arith, nearer, next.high) in
          let there : Next after from (record { prefix = p; mark = mark }) = record {
            low = after_from;
            high = omega arith;
            none_before = λ q l h. rw (more q, next.none_before q l (omega arith), ne_eqb p q (omega arith));
            there = λ h. (sym (more p ∙ rw (next.none_before p after_from nearer, eq-eqb p p refl)), omega (arith, eqb-false mark 0 ec));
            end = λ e. absurd (omega arith);
          } in
          rw (ea, eb, ec) (there, small)

-- ---- All slots

-- what slot n, as one of length L, tells of p
tells : Settings → (slots : List ℕ) (party L n p : ℕ) → ℕ
tells t slots party L n p = cond (eqb (prefix_at slots n) p) (slot_tells t party p L n (mark_at slots n)) 0

-- what the slots below n tell of p: the first mark that is not 0
pub told_below : Settings → (slots : List ℕ) (party L n p : ℕ) → ℕ
told_below t slots party L zero p = 0
told_below t slots party L (suc n) p = or_next (told_below t slots party L n p) (tells t slots party L n p)

module _ (t : Settings) (slots : List ℕ) (party L : ℕ) where
  -- it is 0 where none of them tells anything
  below_none : (n p : ℕ) → ((i : ℕ) → i < n → tells t slots party L i p ≡ 0) → told_below t slots party L n p ≡ 0
  unfolding told_below
  below_none zero p silent = refl
  below_none (suc n) p silent = rw (below_none n p (λ i l. silent i (omega arith)), silent n (omega arith))

  -- and what slot i tells, where none before it tells anything
  below_first : (n i p : ℕ) → i < n → ((j : ℕ) → j < i → tells t slots party L j p ≡ 0) → 1 ≤ tells t slots party L i p
      → told_below t slots party L n p ≡ tells t slots party L i p
  unfolding told_below
  below_first zero i p l silent h = absurd (omega arith)
  below_first (suc n) i p l silent h = go (eq-or-lt_of_le (le_of_suc-le-suc l)) (λ b. below_first n i p b silent h)
    where
      go : (i ≡ n) ⊎ (i < n) → (i < n → told_below t slots party L n p ≡ tells t slots party L i p)
          → or_next (told_below t slots party L n p) (tells t slots party L n p) ≡ tells t slots party L i p
      go (inl e) ih = rw (← e, below_none i p silent)
      go (inr b) ih = stays _ _ (rw (ih b) h) ∙ ih b

  -- a slot that does not hold p in p's own bucket tells nothing of it
  silent_at : (n p : ℕ) → ((s : ℕ) → s < t.s → n ≡ slot_number t p L s → loose p L ≡ false → holds t slots party p L s ≡ false)
      → tells t slots party L n p ≡ 0
  unfolding tells slot_tells own_slot holds
  silent_at n p without =
      go (eqb (prefix_at slots n) p) (loose p L) (own_slot t p L n) (own party (mark_at slots n)) refl refl refl refl
    where
      go : (a b c d : Bool) → eqb (prefix_at slots n) p ≡ a → loose p L ≡ b → own_slot t p L n ≡ c → own party (mark_at slots n) ≡ d
          → tells t slots party L n p ≡ 0
      go false b c d ea eb ec ed = rw ea
      go true true c d ea eb ec ed = rw (ea, eb)
      go true false false d ea eb ec ed = rw (ea, eb, ec)
      go true false true false ea eb ec ed = rw (ea, eb, ec) (told_other party (mark_at slots n) ed)
      go true false true true ea eb ec ed =
          let inside = both (leb (slot_number t p L 0) n) (ltb n (slot_number t p L 0 + t.s)) ec in
          let low = leb-true (slot_number t p L 0) n inside.0 in
          let s = n - slot_number t p L 0 in
          let at : n ≡ slot_number t p L s = omega (arith, counted t p L s _ refl) in
          absurd (true≢false (rw (← at, ed, ea) at (without s (omega (arith, ltb-true n (slot_number t p L 0 + t.s) inside.1)) at eb)))

  -- and one that does tells its mark
  tells_at : (p s : ℕ) → s < t.s → loose p L ≡ false → prefix_at slots (slot_number t p L s) ≡ p
      → tells t slots party L (slot_number t p L s) p ≡ told party (mark_at slots (slot_number t p L s))
  unfolding tells slot_tells own_slot
  tells_at p s h tight its =
      let at = counted t p L s _ refl in
      rw (eq-eqb _ _ its, tight, le-leb (slot_number t p L 0) (slot_number t p L s) (omega arith), lt-ltb (slot_number t p L s) (slot_number t p L 0 + t.s) (omega arith))

  module _ (ready : Ready t L) where
    -- the slots of the shorter lengths tell nothing
    below_before : (n p : ℕ) → n ≤ (L - 1) * 2 ^ t.e * t.s → told_below t slots party L n p ≡ 0
    below_before n p first =
        below_none n p (λ i l. silent_at i p (λ s h at tight. absurd (omega (arith, slot_after t L ready p s))))

    -- and with those of the length they tell what the table has
    below_all : (n p : ℕ) → L * 2 ^ t.e * t.s ≤ n → told_below t slots party L n p ≡ has t slots party p L
    unfolding held holds
    below_all n p last = go (loose p L) (held t slots party p L) refl refl
      where
        go : (b : Bool) (o : Found ℕ) → loose p L ≡ b → held t slots party p L ≡ o → told_below t slots party L n p ≡ has t slots party p L
        go true o e there = below_none n p (λ i l. silent_at i p (λ s h at tight. absurd (true≢false (sym e ∙ tight)))) ∙ sym (has_loose t slots party p L e)
        go false none e there =
            below_none n p (λ i l. silent_at i p (λ s h at tight. none_below (holds t slots party p L) t.s there s h))
            ∙ sym (has_none t slots party p L ready.low e there)
        go false (some s) e there =
            let low = some_lowest (holds t slots party p L) t.s s there in
            let at = slot_number t p L s in
            let its = both (own party (mark_at slots at)) (eqb (prefix_at slots at) p) low.passes in
            let here = tells_at p s low.within e (eqb-true _ _ its.1) in
            below_first n at p (omega (arith, slot_before t L ready p s low.within))
            (λ j l. silent_at j p (λ u h is tight. low.first u (omega (arith, counted t p L u _ refl, counted t p L s _ refl))))
            (rw (here, told_own party (mark_at slots at) its.0) (omega arith))
            ∙ here ∙ sym (has_held t slots party p L ready.low e s there)

-- ---- The pass

module _ (t : Settings) (slots : List ℕ) (party L n from : ℕ) where
  -- before the first slot of the length nothing lies ahead
  pub passed_none : Ready t L → n ≡ (L - 1) * 2 ^ t.e * t.s → from ≤ 2 ^ 32 → Lies (told_below t slots party L n) from None
  passed_none ready first far =
      record {
        low = omega arith;
        high = omega arith;
        none_before = λ p l h. below_before t slots party L ready n p (omega arith);
        there = λ h. absurd (omega arith);
        end = λ e. refl;
      }

  -- a slot is passed as the code reads it
  pub passed_one : (ahead next : Option Ahead) → Lies (told_below t slots party L n) from ahead
      → next ≡ closer_of from ahead (prefix_at slots n) (slot_tells t party (prefix_at slots n) L n (mark_at slots n)) → Lies (told_below t slots party L (n + 1)) from next
  unfolding told_below tells
  passed_one ahead next before is =
      let p = prefix_at slots n in
      rw (is, add-one)
      (closer_lies p (slot_tells t party p L n (mark_at slots n)) from (told_below t slots party L n) _
      (λ q. ap (or_next (told_below t slots party L n q)) (same q (eqb p q) refl)) ahead before)
    where
      same : (q : ℕ) (b : Bool) → eqb (prefix_at slots n) q ≡ b
          → cond b (slot_tells t party q L n (mark_at slots n)) 0 ≡ cond b (slot_tells t party (prefix_at slots n) L n (mark_at slots n)) 0
      same q true e = rw (eqb-true (prefix_at slots n) q e)
      same q false e = refl

  -- after the last slot, the table's next prefix lies ahead
  pub passed_all : (ahead : Option Ahead) → Ready t L → L * 2 ^ t.e * t.s ≤ n → Lies (told_below t slots party L n) from ahead
      → Lies (λ p. has t slots party p L) from ahead
  passed_all ahead ready last = subst (λ (f : ℕ → ℕ). Lies f from ahead) (λ k p. below_all t slots party L ready n p last k)

-- ---- The default

module _ (t : Settings) (slots : List ℕ) (party : ℕ) where
  -- what a table has at length 0
  has_at_zero : has t slots party 0 0 ≡ told party (default_mark t slots party)
  unfolding has stored_mark
  has_at_zero = rw (loose_low 0 0)

  has_beyond : (p : ℕ) → 1 ≤ p → p < 2 ^ 32 → has t slots party p 0 ≡ 0
  unfolding has
  has_beyond p low high = rw (loose_low p 0, lt-ltb 0 (p % 2 ^ 32) (omega arith))

  -- from a prefix on that is not its own, or where it has none, nothing lies ahead
  pub default_none : {from : ℕ} → from ≤ 2 ^ 32 → (from ≡ 0 → told party (default_mark t slots party) ≡ 0) → Lies (λ p. has t slots party p 0) from None
  default_none {from} far silent = record {
    low = omega arith;
    high = omega arith;
    none_before = λ p l h. go p (eqb p 0) refl l h;
    there = λ h. absurd (omega arith);
    end = λ e. refl;
  }
    where
      go : (p : ℕ) (b : Bool) → eqb p 0 ≡ b → from ≤ p → p < 2 ^ 32 → has t slots party p 0 ≡ 0
      go p true e l h = let zero : p ≡ 0 = eqb-true p 0 e in rw zero (has_at_zero ∙ silent (omega arith))
      go p false e l h = let other = eqb-false p 0 e in has_beyond p (omega arith) h

  -- and otherwise the default does
  pub default_next : {mark : ℕ} → mark ≡ told party (default_mark t slots party) → 1 ≤ mark → Lies (λ p. has t slots party p 0) 0 (Some (record { prefix = 0; mark = mark }))
  default_next {mark} is told_some = (
    record {
      low = omega arith;
      high = omega arith;
      none_before = λ p l h. absurd (omega arith);
      there = λ h. (is ∙ sym has_at_zero, told_some);
      end = λ e. absurd (omega arith);
    },
    omega arith,
  )
