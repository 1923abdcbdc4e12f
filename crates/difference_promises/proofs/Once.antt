-- Lists of routes in which each stands once: two that have the same members are one another's reordering.
use Prim.Native.Nat.{ℕ, suc, ◌≤◌}
use mathlib.Core.Path.{◌≡◌, refl, sym, ap, ◌∙◌}
use mathlib.Core.Bool.{Bool, true, false, cond}
use mathlib.Core.List.Memᴰ
use mathlib.Core.List.{List, [], ◌∷◌}
use mathlib.Core.Logic.{◌↔◌, ◌≢◌, ◌⊎◌, inl, inr}
use native.Mathlib.Omega.{arith}
use lib.ListN.{length}
use Rattle.difference_rules.proofs.Rising.{no_members, Ordered, Nothing, Then}
use Rattle.promises.specs.History.{Route, of_party, routes_of, about}
use Rattle.promises.specs.Demands.{Stored, sum, number, Reordered, Nothing as None, First, Swapped, Again}
use Rattle.promises.proofs.Sums.{weight_within}
use Rattle.promises.proofs.Paper.{about_made, own_stored}

-- each route stands once
abbrev pub Once : List Route → Type 0
Once routes = Ordered ◌≢◌ routes

-- what is left when r is taken out of a list
record Left (r : Route) (routes : List Route) : Type 0 where
  rest : List Route
  again : Reordered (r ∷ rest) routes
  once : Once rest
  down : (q : Route) → Stored q routes → q ≢ r → Stored q rest
  up : (q : Route) → Stored q rest → Stored q routes
  gone : (q : Route) → Stored q rest → q ≢ r

same_reordered : (routes : List Route) → Reordered routes routes
same_reordered [] = None
same_reordered (r ∷ routes) = First r (same_reordered routes)

left : {r : Route} {routes : List Route} → Stored r routes → Once routes → Left r routes
left {r} (Memᴰ.head {x = q} {xs = rest} e) (Then apart once) = record {
  rest = rest;
  again = rw e (same_reordered (q ∷ rest));
  once = once;
  down = λ x m other. here other (Memᴰ.cases_cons m);
  up = λ x m. Memᴰ.tail m;
  gone = λ x m same. apart x m (sym e ∙ sym same);
}
  where
    here : {x : Route} → x ≢ r → (x ≡ q) ⊎ Stored x rest → Stored x rest
    here other (inl same) = absurd (other (same ∙ sym e))
    here other (inr m) = m
left {r} (Memᴰ.tail {x = q} {xs = routes} m) (Then apart once) = behind (left m once)
  where
    behind : Left r routes → Left r (q ∷ routes)
    behind later = record {
      rest = q ∷ later.rest;
      again = Again (Swapped r q later.rest) (First q later.again);
      once = Then (λ x k. apart x (later.up x k)) later.once;
      down = λ x k other. down (later.down x) other (Memᴰ.cases_cons k);
      up = λ x k. up (later.up x) (Memᴰ.cases_cons k);
      gone = λ x k. gone (later.gone x) (Memᴰ.cases_cons k);
    }
      where
        down : {x : Route} → (Stored x routes → x ≢ r → Stored x later.rest) → x ≢ r → (x ≡ q) ⊎ Stored x routes → Stored x (q ∷ later.rest)
        down rest other (inl e) = Memᴰ.head e
        down rest other (inr k) = Memᴰ.tail (rest k other)

        up : {x : Route} → (Stored x later.rest → Stored x routes) → (x ≡ q) ⊎ Stored x later.rest → Stored x (q ∷ routes)
        up rest (inl e) = Memᴰ.head e
        up rest (inr k) = Memᴰ.tail (rest k)

        gone : {x : Route} → (Stored x later.rest → x ≢ r) → (x ≡ q) ⊎ Stored x later.rest → x ≢ r
        gone rest (inl e) same = apart r m (sym e ∙ same)
        gone rest (inr k) same = rest k same

pub same_members : {routes others : List Route} → Once routes → Once others → ((r : Route) → Stored r routes ↔ Stored r others) → Reordered routes others
same_members {others = others} Nothing also same = rw (no_members others (λ r m. Memᴰ.not-nil ((same r).1 m))) None
same_members {others = others} (Then {x = r} {xs = routes} apart once) also same =
    let out = left ((same r).0 (Memᴰ.head refl)) also in
    Again (First r (same_members once out.once (λ q. (
      λ m. out.down q ((same q).0 (Memᴰ.tail m)) (λ e. apart q m (sym e)),
      λ m. here (out.gone q m) (Memᴰ.cases_cons ((same q).1 (out.up q m))),
    )))) out.again
  where
    here : {q : Route} → q ≢ r → (q ≡ r) ⊎ Stored q routes → Stored q routes
    here other (inl e) = absurd (other e)
    here other (inr m) = m

-- a party's routes stand once each, where it has no two of one prefix and length
pub own_once : (party : ℕ) (routes : List Route) → ((q p L : ℕ) → number (about q p L) routes ≤ 1) → Once (routes_of party routes)
unfolding routes_of number sum
own_once party [] few = Nothing
own_once party (r ∷ routes) few = go (of_party party r) (own_once party routes (λ q p L. omega (arith, few q p L)))
  where
    apart : (q : Route) → Stored q routes → r ≢ q
    apart q m e =
        let its : about r.party r.prefix r.length r ≡ true = about_made _ _ _ r refl refl refl in
        let also : 1 ≤ number (about r.party r.prefix r.length) routes = rw (← e, its) at (weight_within (λ x. cond (about r.party r.prefix r.length x) 1 0) m) in
        omega (arith, rw its at (few r.party r.prefix r.length))

    go : (b : Bool) → Once (routes_of party routes) → Once (cond b (r ∷ routes_of party routes) (routes_of party routes))
    go true rest = Then (λ q m. apart q (own_stored party routes m).0) rest
    go false rest = rest

pub reordered_size : {routes others : List Route} → Reordered routes others → length routes ≡ length others
reordered_size None = refl
reordered_size (First r same) = ap suc (reordered_size same)
reordered_size (Swapped r q routes) = refl
reordered_size (Again one other) = reordered_size one ∙ reordered_size other
