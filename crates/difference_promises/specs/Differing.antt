-- What a list of differences must be, and what a comparison can be refused for.
use Rattle.std.specs.Prelude.{ℕ, ◌*◌, ◌^◌, ◌≤◌, ◌<◌, ◌≡◌, ◌⊎◌, ◌≢◌, length, get_or, ltb}
use mathlib.Core.List.{List, [], ◌∷◌, ◌++◌, Memᴰ}
use Rattle.rules.specs.declared.Settings.{Settings}
use Rattle.rules.specs.Table.{Memory}
use Rattle.difference_rules.specs.declared.Difference.{Difference}
use Rattle.difference_rules.specs.Comparing.{Side, between}
use Rattle.promises.specs.Demands.{Condition, ◌when◌, memory_conditions, party_conditions}

-- the difference stands among these
abbrev pub Appears : Difference → List Difference → Type 0
Appears d ds = Memᴰ d ds

-- what stands at place i of the list; beyond its end, zeros
abbrev pub place : (ds : List Difference) (i : ℕ) → Difference
place ds i = get_or ds i (record { length = 0; prefix = 0; first = 0; second = 0 })

-- the two sides have the same at every length and prefix
abbrev pub Alike : (first second : Side) → Type 0
Alike first second = (L p : ℕ) → L ≤ 32 → p < 2 ^ 32 → first p L ≡ second p L

-- the two sides differ where d says, and have there what d says
pub record Differs (first second : Side) (d : Difference) : Type 0 where
  pub high : d.length ≤ 32
  pub word : d.prefix < 2 ^ 32
  pub first_had : d.first ≡ first d.prefix d.length
  pub second_had : d.second ≡ second d.prefix d.length
  pub apart : d.first ≢ d.second

-- d is shorter than e, or as long and of a lower prefix
abbrev pub Before : Difference → Difference → Type 0
Before d e = (d.length < e.length) ⊎ ((d.length ≡ e.length) × (d.prefix < e.prefix))

-- each place comes before every later one
abbrev pub Rising : List Difference → Type 0
Rising ds = (i j : ℕ) → i < j → j < length ds → Before (place ds i) (place ds j)

-- the same difference, told of the two tables the other way round
abbrev pub exchange : Difference → Difference
exchange d = record { length = d.length; prefix = d.prefix; first = d.second; second = d.first }

-- what a comparison looks at, in this order: settings and sizes of the first table, those of the second, the party, and then
-- whether the list has four words for each difference
unfoldable pub difference_conditions : Settings → Memory → Settings → Memory → (party : ℕ) (list : List ℕ) → List Condition
difference_conditions t m u n party list =
    memory_conditions t m
    ++ party_conditions u n party
    ++ (18 when ltb (length list) (4 * length (between t m.slots u n.slots party))) ∷ []
