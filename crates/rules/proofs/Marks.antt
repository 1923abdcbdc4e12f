-- Marks: whose a mark is, and what it says of a hop.
use Prim.Native.Nat.{ℕ, zero, suc, ◌+◌, ◌*◌, ◌≤◌}
use mathlib.Core.Path.{◌≡◌, refl, sym, ◌∙◌}
use mathlib.Core.Bool.{Bool, true, false, ◌||◌, or-true}
use mathlib.Core.Logic.{◌⊎◌, inl, inr}
use native.Mathlib.Omega.{arith}
use lib.Dec.{eqb}
use borrow.Author.Tests.{le-leb, lt-leb, eqb-true, eqb-false}
use Rattle.rules.specs.Tools.{within}
use Rattle.rules.specs.Table.{first_mark, own, occupied, mark_of, hop_of}
use Rattle.rules.proofs.Members.{within_true}

-- the mark of a valid hop is the party's
pub mark_own : (party hop : ℕ) → hop ≤ 65535 → own party (mark_of party hop) ≡ true
unfolding own mark_of within
mark_own party hop high =
    rw (le-leb (first_mark party) (first_mark party + hop) (omega arith), le-leb (first_mark party + hop) (first_mark party + 65535) (omega arith))

-- a mark of either party is occupied
pub own_occupied : (party mark : ℕ) → party ≤ 1 → own party mark ≡ true → occupied mark ≡ true
unfolding occupied
own_occupied party mark one_of_lem h = go party one_of_lem h
  where
    go : (q : ℕ) → q ≤ 1 → own q mark ≡ true → own 0 mark || own 1 mark ≡ true
    go zero high mine = rw mine
    go (suc zero) high mine = rw mine (or-true (own 0 mark))
    go (suc (suc q)) high mine = absurd (omega arith)

pub mark_occupied : (party hop : ℕ) → party ≤ 1 → hop ≤ 65535 → occupied (mark_of party hop) ≡ true
mark_occupied party hop one_of_lem high = own_occupied party (mark_of party hop) one_of_lem (mark_own party hop high)

-- and an occupied mark is one party's
pub occupied_by : (mark : ℕ) → occupied mark ≡ true → (own 0 mark ≡ true) ⊎ (own 1 mark ≡ true)
unfolding occupied
occupied_by mark = go (own 0 mark) (own 1 mark)
  where
    go : (a b : Bool) → a || b ≡ true → (a ≡ true) ⊎ (b ≡ true)
    go true b h = inl refl
    go false b h = inr h

-- a mark is no more than one party's
pub own_one : (party other mark : ℕ) → own party mark ≡ true → own other mark ≡ true → party ≡ other
unfolding own first_mark
own_one party other mark mine its =
    let one = within_true (65536 * party + 1) (65536 * party + 1 + 65535) mark mine in
    let two = within_true (65536 * other + 1) (65536 * other + 1 + 65535) mark its in
    omega arith

-- so the mark of a valid hop is the party's exactly if it was made for it
pub own_made : (party q hop : ℕ) → hop ≤ 65535 → own party (mark_of q hop) ≡ eqb q party
own_made party q hop high = go (own party (mark_of q hop)) refl (eqb q party) refl
  where
    go : (a : Bool) → own party (mark_of q hop) ≡ a → (b : Bool) → eqb q party ≡ b → a ≡ b
    go true e true f = refl
    go true e false f = absurd (eqb-false q party f (own_one q party (mark_of q hop) (mark_own q hop high) e))
    go false e true f =
        let same = eqb-true q party f in
        sym e ∙ rw (← same) (mark_own q hop high)
    go false e false f = refl

-- zero is free
pub zero_free : occupied 0 ≡ false
unfolding occupied own first_mark within
zero_free = refl

-- and no party's
pub zero_unowned : (party : ℕ) → own party 0 ≡ false
unfolding own first_mark within
zero_unowned party = rw (lt-leb (65536 * party + 1) 0 (omega arith))

-- a mark gives its hop back
pub hop_marked : (party hop : ℕ) → hop_of party (mark_of party hop) ≡ hop
unfolding hop_of mark_of
hop_marked party hop = omega arith

-- the hop of a mark of the party's is a valid one
pub hop_high : (party mark : ℕ) → own party mark ≡ true → hop_of party mark ≤ 65535
unfolding own hop_of
hop_high party mark h = omega (arith, (within_true (first_mark party) (first_mark party + 65535) mark h).1)
