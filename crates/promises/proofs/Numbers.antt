-- The numbers by the stored routes, as laws: what an accepted update has passed, that an add which has passed it is accepted,
-- and numbers that are not given.
use Prim.Native.Nat.{ℕ, zero, suc, ◌≤◌, ◌<◌}
use mathlib.Core.Path.{◌≡◌, refl}
use mathlib.Core.Bool.{Bool, true, false, not, ◌&&◌}
use mathlib.Core.List.{List}
use mathlib.Core.Logic.{◌≢◌}
use native.Mathlib.Omega.{arith}
use lib.Dec.{ltb, lit<, lit≤}
use borrow.Author.Tests.{ne_eqb, ltb-false, le-ltb, not-false}
use Rattle.rules.specs.declared.Settings.{Settings}
use Rattle.rules.specs.Table.{prefix, loose, odd_prefix, refuse, from_1}
use Rattle.rules.proofs.Prefixes.{loose_false}
use Rattle.rules.proofs.Refusals.{passed}
use Rattle.rules.specs.Calls.{Call, Clear, Add, Withdraw, Change}
use Rattle.promises.specs.History.{Route, about}
use Rattle.promises.specs.Demands.{exists, crowded, overflows, needs_place, add_number, withdraw_number, change_number, number_given}
use Rattle.promises.proofs.Sums.{by_cases}

-- ---- What an accepted update has passed

-- a party, a length and a prefix that passed 15, 3 and 4
pub record Checked (party p L : ℕ) : Type 0 where
  pub known : party ≤ 1
  pub high : L ≤ 32
  pub tight : prefix p L ≡ p

checked : (party p L after : ℕ) → refuse (ltb 1 party) 15 (refuse (ltb 32 L) 3 (refuse (loose p L) 4 after)) ≡ 0 → Checked party p L × (after ≡ 0)
checked party p L after e =
    let whose = passed (ltb 1 party) 14 _ e in
    let three = passed (ltb 32 L) 2 _ whose.1 in
    let four = passed (loose p L) 3 _ three.1 in
    (record { known = ltb-false 1 party whose.0; high = ltb-false 32 L three.0; tight = (loose_false p L).0 four.0 }, four.1)

-- an accepted add: only a route that is not stored yet asks for room
pub record Addable (t : Settings) (routes : List Route) (party p L hop : ℕ) : Type 0 where
  pub valid : Checked party p L
  pub not_odd : odd_prefix p L ≡ false
  pub hop_high : hop ≤ 65535
  pub vacancy : exists (about party p L) routes ≡ false → 1 ≤ L → crowded t routes p L ≡ false
  pub room : exists (about party p L) routes ≡ false → 1 ≤ L → overflows t routes p L ≡ false

module _ (routes : List Route) (party p L : ℕ) (bad : Bool) where
  -- what does not stop an add does not hold of a route that needs a place,
  unstopped : needs_place routes party p L && bad ≡ false → exists (about party p L) routes ≡ false → 1 ≤ L → bad ≡ false
  unfolding needs_place from_1
  unstopped e absent low = rw (ne_eqb L 0 (omega arith), absent) at e

  -- and the other way
  never_stops : (exists (about party p L) routes ≡ false → 1 ≤ L → bad ≡ false) → needs_place routes party p L && bad ≡ false
  unfolding needs_place from_1
  never_stops h = go L h
    where
      go : (M : ℕ) → (exists (about party p L) routes ≡ false → 1 ≤ M → bad ≡ false) → from_1 M (not (exists (about party p L) routes)) && bad ≡ false
      go zero never = refl
      go (suc M) never = rw (ne_eqb (suc M) 0 (omega arith)) (by_cases (exists (about party p L) routes) (λ stands. rw stands) (λ absent. rw absent (never absent (omega arith))))

pub addable : (t : Settings) (routes : List Route) (party p L hop : ℕ) → add_number t routes party p L hop ≡ 0 → Addable t routes party p L hop
unfolding add_number
addable t routes party p L hop e =
    let four = checked party p L _ e in
    let eleven = passed (odd_prefix p L) 10 _ four.1 in
    let five = passed (ltb 65535 hop) 4 _ eleven.1 in
    let eight = passed (needs_place routes party p L && crowded t routes p L) 7 _ five.1 in
    let nine = passed (needs_place routes party p L && overflows t routes p L) 8 _ eight.1 in
    record {
      valid = four.0;
      not_odd = eleven.0;
      hop_high = ltb-false 65535 hop five.0;
      vacancy = unstopped routes party p L _ eight.0;
      room = unstopped routes party p L _ nine.0;
    }

-- an add that has passed all this is accepted
pub add_accepted : {t : Settings} {routes : List Route} {party p L hop : ℕ} → Addable t routes party p L hop → add_number t routes party p L hop ≡ 0
unfolding add_number refuse
add_accepted {t} {routes} {party} {p} {L} {hop} ok =
    rw (
      le-ltb 1 party ok.valid.known,
      le-ltb 32 L ok.valid.high,
      (loose_false p L).1 ok.valid.tight,
      ok.not_odd,
      le-ltb 65535 hop ok.hop_high,
      never_stops routes party p L (crowded t routes p L) ok.vacancy,
      never_stops routes party p L (overflows t routes p L) ok.room,
    )

-- an add of an odd prefix that has passed 15, 3 and 4 is not, whatever is stored
pub add_odd : (t : Settings) (routes : List Route) (party p L hop : ℕ) → Checked party p L → odd_prefix p L ≡ true → add_number t routes party p L hop ≡ 11
unfolding add_number refuse
add_odd t routes party p L hop valid its = rw (le-ltb 1 party valid.known, le-ltb 32 L valid.high, (loose_false p L).1 valid.tight, its)

-- an accepted withdrawal is of a stored route
pub withdrawable : (routes : List Route) (party p L : ℕ) → withdraw_number routes party p L ≡ 0 → Checked party p L × (exists (about party p L) routes ≡ true)
unfolding withdraw_number
withdrawable routes party p L e =
    let four = checked party p L _ e in
    (four.0, not-false _ (passed (not (exists (about party p L) routes)) 6 0 four.1).0)

-- and so is an accepted change, with a hop that is valid
pub changeable : (routes : List Route) (party p L hop : ℕ) → change_number routes party p L hop ≡ 0 → Checked party p L × (hop ≤ 65535) × (exists (about party p L) routes ≡ true)
unfolding change_number
changeable routes party p L hop e =
    let four = checked party p L _ e in
    let five = passed (ltb 65535 hop) 4 _ four.1 in
    (four.0, ltb-false 65535 hop five.0, not-false _ (passed (not (exists (about party p L) routes)) 6 0 five.1).0)

-- ---- Numbers that are not given

-- a number that neither a check nor what comes after it gives is not given
not_this : (k : ℕ) (bad : Bool) (number after : ℕ) → number ≢ k → after ≢ k → refuse bad number after ≢ k
unfolding refuse
not_this k true number after here later = here
not_this k false number after here later = later

not_before_5 : (k party p L after : ℕ) → 5 ≤ k → k < 15 → after ≢ k → refuse (ltb 1 party) 15 (refuse (ltb 32 L) 3 (refuse (loose p L) 4 after)) ≢ k
not_before_5 k party p L after high low later =
    not_this k (ltb 1 party) 15 _ (omega arith) (not_this k (ltb 32 L) 3 _ (omega arith) (not_this k (loose p L) 4 after (omega arith) later))

stored_only : (routes : List Route) (party p L : ℕ) → refuse (not (exists (about party p L) routes)) 7 0 ≢ 10
stored_only routes party p L = not_this 10 (not (exists (about party p L) routes)) 7 0 (omega arith) (omega arith)

pub number_not_10 : (t : Settings) (routes : List Route) (call : Call) → number_given t routes call ≢ 10
unfolding number_given add_number withdraw_number change_number
number_not_10 t routes Clear = omega arith
number_not_10 t routes (Add party p L hop) =
    not_before_5 10 party p L _ (lit≤ tt) (lit< tt)
    (not_this 10 (odd_prefix p L) 11 _ (omega arith)
    (not_this 10 (ltb 65535 hop) 5 _ (omega arith)
    (not_this 10 (needs_place routes party p L && crowded t routes p L) 8 _ (omega arith)
    (not_this 10 (needs_place routes party p L && overflows t routes p L) 9 0 (omega arith) (omega arith)))))
number_not_10 t routes (Withdraw party p L) = not_before_5 10 party p L _ (lit≤ tt) (lit< tt) (stored_only routes party p L)
number_not_10 t routes (Change party p L hop) = not_before_5 10 party p L _ (lit≤ tt) (lit< tt) (not_this 10 (ltb 65535 hop) 5 _ (omega arith) (stored_only routes party p L))

-- 8 is not given where the bucket has room
pub add_not_8 : (t : Settings) (routes : List Route) (party p L hop : ℕ) → (1 ≤ L → crowded t routes p L ≡ false) → add_number t routes party p L hop ≢ 8
unfolding add_number refuse
add_not_8 t routes party p L hop empty =
    not_before_5 8 party p L _ (lit≤ tt) (lit< tt)
    (not_this 8 (odd_prefix p L) 11 _ (omega arith)
    (not_this 8 (ltb 65535 hop) 5 _ (omega arith)
    (rw (never_stops routes party p L (crowded t routes p L) (λ absent. empty))
    (not_this 8 (needs_place routes party p L && overflows t routes p L) 9 0 (omega arith) (omega arith)))))
