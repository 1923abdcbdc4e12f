-- What the updates count on, of the memory, the party and the route, is what the rules' checks 1, 2, 15, 3 and 4, with a hop 5,
-- and for an add 11, tell where they pass.
use Prim.Native.Nat.{ℕ, ◌^◌, ◌<◌}
use native.Mathlib.Omega.{arith}
use mathlib.Core.Path.{◌≡◌}
use mathlib.Core.Bool.{false}
use mathlib.Core.List.{List}
use Rattle.rules.specs.declared.Party.{Party}
use Rattle.rules.specs.declared.Settings.{Settings}
use Rattle.rules.specs.Numbers.{party_number}
use Rattle.rules.specs.Table.{odd_prefix}
use Rattle.rules.proofs.Numbers.{party_low}
use Rattle.rules.proofs.Refusals.{Fitted, RouteFitted, HopFitted, AddChecked}
use Rattle.updates.specs.Checked.{Checked}

-- what is known of the route once the checks have passed
pub checked : {t : Settings} {counters slots : List ℕ} {party p L : ℕ} → RouteFitted t counters slots party p L → Checked p L
checked f = record { high = f.high; tight = f.tight }

module _ {t : Settings} {counters slots : List ℕ} (fit : Fitted t counters slots) (party : Party) {p L : ℕ} (c : Checked p L) where
  pub route_fitted : RouteFitted t counters slots (party_number party) p L
  route_fitted = record { memory = fit; known = party_low party; high = c.high; tight = c.tight }

  -- a hop of 16 bits is no higher
  pub hop_fitted : {hop : ℕ} → hop < 2 ^ 16 → HopFitted t counters slots (party_number party) p L hop
  hop_fitted small = record { route = route_fitted; small = omega arith }

  pub add_fitted : {hop : ℕ} → hop < 2 ^ 16 → odd_prefix p L ≡ false → AddChecked t counters slots (party_number party) p L hop
  add_fitted small not_odd = record { fitted = hop_fitted small; not_odd = not_odd }
