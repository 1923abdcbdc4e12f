-- What a party has on paper, as one side of a comparison, and the three ways in which its routes on two papers differ.
use Rattle.std.specs.Prelude.{ℕ, ◌+◌, ◌-◌, ◌≡◌, cond, List, [], ◌∷◌, ◌≢◌}
use Rattle.difference_rules.specs.declared.Difference.{Difference}
use Rattle.difference_rules.specs.Comparing.{Side}
use Rattle.promises.specs.History.{Route, about, route}
use Rattle.promises.specs.Demands.{Stored}

-- the hop of the party's route about p of length L, plus one; 0 where there is none
unfoldable pub paper_has : List Route → (party : ℕ) → Side
paper_has [] party p L = 0
paper_has (r ∷ routes) party p L = cond (about party p L r) (r.hop + 1) (paper_has routes party p L)

-- the party has no route about p of length L there
abbrev pub NoRoute : (party p L : ℕ) (routes : List Route) → Type 0
NoRoute party p L routes = (hop : ℕ) → Stored (route party p L hop) routes → ⊥

-- a difference, by its four numbers
abbrev pub four : (length prefix first second : ℕ) → Difference
four length prefix first second = record { length = length; prefix = prefix; first = first; second = second }

-- a route of the party's that is only on the first paper, one that is only on the second, or one that has another hop there
pub data OneOfThree (party : ℕ) (routes others : List Route) (d : Difference) : Type 0 where
  OnlyFirst : (hop : ℕ) → Stored (route party d.prefix d.length hop) routes → NoRoute party d.prefix d.length others
      → d.first ≡ hop + 1 → d.second ≡ 0 → OneOfThree party routes others d
  OnlySecond : (hop : ℕ) → NoRoute party d.prefix d.length routes → Stored (route party d.prefix d.length hop) others
      → d.first ≡ 0 → d.second ≡ hop + 1 → OneOfThree party routes others d
  OtherHop : (hop other : ℕ) → Stored (route party d.prefix d.length hop) routes → Stored (route party d.prefix d.length other) others
      → hop ≢ other → d.first ≡ hop + 1 → d.second ≡ other + 1 → OneOfThree party routes others d

-- each of the party's routes on the one paper is on the other
abbrev pub Within : (party : ℕ) (routes others : List Route) → Type 0
Within party routes others = (p L hop : ℕ) → Stored (route party p L hop) routes → Stored (route party p L hop) others

-- the party's route that a difference tells of the first table
abbrev pub told_route : (party : ℕ) → Difference → Route
told_route party d = route party d.prefix d.length (d.first - 1)
