-- The longest match, found by going through the routes once, and the answers that it asks for.
use Prim.Native.Nat.{ℕ, ◌≤◌}
use mathlib.Core.Path.{◌≡◌, refl, sym, ◌∙◌}
use mathlib.Core.Bool.{Bool, true, false, cond, true≢false}
use mathlib.Core.List.Memᴰ
use mathlib.Core.List.{List, [], ◌∷◌, Memᴰ}
use mathlib.Core.Option.{Option, some, none}
use mathlib.Core.Logic.{◌⊎◌, inl, inr}
use native.Mathlib.Nat.{le_refl}
use native.Mathlib.Omega.{arith}
use lib.Dec.{ltb}
use borrow.Author.Tests.{ltb-true, ltb-false}
use Rattle.rules.specs.declared.Settings.{Settings}
use Rattle.rules.specs.Table.{Answer, Vector, bits_where}
use Rattle.promises.specs.History.{Route}
use Rattle.promises.specs.Demands.{matches, Longest, longer, longest, NoMatch, covered, probes_down_to}

-- a lookup's answer, by the longest route that matches: its hop and length, or none, after the probes down to there
unfoldable pub answer_by : Settings → List Route → (address : ℕ) → Option Route → Answer
answer_by t routes address (some r) =
    record {
      refusal = 0;
      found = true;
      hop = r.hop;
      length = r.length;
      probes = probes_down_to t routes address r.length;
    }
answer_by t routes address none =
    record { refusal = 0; found = false; hop = 0; length = 0; probes = probes_down_to t routes address 0 }

-- the match vector: bit L − 1 is set exactly if length L is so
unfoldable pub vector_by : Settings → List Route → (address : ℕ) → Vector
vector_by t routes address = record { refusal = 0; vector = bits_where (covered t routes address) 32 }

-- what a longest match, if there is one, must be
abbrev pub Right : (address : ℕ) (routes : List Route) → Option Route → Type 0
Right address routes (some r) = Longest address routes r
Right address routes none = NoMatch address routes

module _ (address : ℕ) (r : Route) (routes : List Route) where
  -- a fact of the first and one of each other is one of all
  of_all : {A : Route → Type 0} → A r → ((q : Route) → Memᴰ q routes → A q) → (q : Route) → Memᴰ q (r ∷ routes) → A q
  of_all {A} here there q m = go (Memᴰ.cases_cons m)
    where
      go : (q ≡ r) ⊎ Memᴰ q routes → A q
      go (inl e) = rw e here
      go (inr m) = there q m

  one_more : (b : Bool) → matches address r ≡ b → (o : Option Route) → Right address routes o → Right address (r ∷ routes) (cond b (longer r o) o)
  unfolding longer
  one_more false e none others = of_all {A = λ q. matches address q ≡ false} e others
  one_more false e (some q) best = record {
    stored = Memᴰ.tail best.stored;
    matching = best.matching;
    longest = of_all {A = λ x. matches address x ≡ true → x.length ≤ q.length} (λ h. absurd (true≢false (sym h ∙ e))) best.longest;
  }
  one_more true e none others = record {
    stored = Memᴰ.head refl;
    matching = e;
    longest = of_all {A = λ x. matches address x ≡ true → x.length ≤ r.length} (λ h. le_refl r.length) (λ x m h. absurd (true≢false (sym h ∙ others x m)));
  }
  one_more true e (some q) best = go (ltb q.length r.length) refl
    where
      go : (b : Bool) → ltb q.length r.length ≡ b → Right address (r ∷ routes) (cond b (some r) (some q))
      go true shorter = record {
        stored = Memᴰ.head refl;
        matching = e;
        longest = of_all {A = λ x. matches address x ≡ true → x.length ≤ r.length} (λ h. le_refl r.length)
            (λ x m h. omega (arith, best.longest x m h, ltb-true q.length r.length shorter));
      }
      go false longer = record {
        stored = Memᴰ.tail best.stored;
        matching = best.matching;
        longest = of_all {A = λ x. matches address x ≡ true → x.length ≤ q.length} (λ h. ltb-false q.length r.length longer) best.longest;
      }

pub right : (address : ℕ) (routes : List Route) → Right address routes (longest address routes)
unfolding longest
right address [] = λ r m. absurd (Memᴰ.not-nil m)
right address (r ∷ routes) = one_more address r routes (matches address r) refl (longest address routes) (right address routes)
