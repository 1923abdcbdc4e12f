-- What is written for a route is heard as the withdrawal of that route and nothing more.
use Prim.Native.Nat.{ℕ, ◌^◌, ◌≤◌, ◌<◌}
use mathlib.Core.Path.{◌≡◌, sym, ap, ◌∙◌}
use mathlib.Core.Bool.{false, not}
use mathlib.Core.List.{List, [], ◌∷◌}
use lib.Dec.{ltb}
use borrow.Author.Tests.{ltb-false}
use Rattle.rules.specs.Table.{loose, listed}
use Rattle.rules.specs.Calls.{Withdraw}
use Rattle.rules.proofs.Refusals.{passed}
use Rattle.message_format.specs.Format.{announces}
use Rattle.message_format.specs.Reading.{message_calls}
use Rattle.message_format.specs.Writing.{writing_refusal, withdrawal, write_withdrawal}
use Rattle.message_format.proofs.Written.{withdrawal_good, withdrawal_no_more, withdrawal_calls}
use Rattle.message_promises.specs.Heard.{malformed, no_hop}
use Rattle.message_promises.proofs.Form.{form_bad}
use Rattle.message_promises.proofs.Refused.{written_left}

module _ (p L : ℕ) (word : p < 2 ^ 32) (room : List ℕ) (accepted : (write_withdrawal p L room).refusal ≡ 0) where
  -- the room as it is left
  abbrev room' : List ℕ
  room' = (write_withdrawal p L room).results

  route : (L ≤ 32) × (loose p L ≡ false)
  unfolding write_withdrawal writing_refusal listed
  route =
      let three = passed (ltb 32 L) 2 _ accepted in
      (ltb-false 32 L three.0, (passed (loose p L) 3 _ three.1).0)

  -- The message that was written is well-formed and announces nothing, so that it is given neither 12 nor 13.
  pub written_good : (hops : List ℕ) → (malformed room' ≡ false) × (no_hop room' hops ≡ false)
  unfolding no_hop announces
  written_good hops = rw (written_left p L room accepted) (
    sym (form_bad (withdrawal p L)) ∙ ap not (withdrawal_good p L route.0 route.1 word),
    rw (withdrawal_no_more p L route.0 route.1 word).1.0,
  )

  -- Its one call is the withdrawal of the route, for whichever party it is heard.
  pub written_calls : (party : ℕ) (hops : List ℕ) → message_calls party room' hops ≡ Withdraw party p L ∷ []
  written_calls party hops = rw (written_left p L room accepted) (withdrawal_calls p L route.0 route.1 word party hops)
