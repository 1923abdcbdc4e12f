-- What a record holds, as the code answers it.
use Rattle.std.specs.Prelude.{ℕ, cond, List, Option, Some, None, Result, Ok, Err}
use Rattle.rules.specs.declared.Refusal.{Refusal}
use Rattle.rules.specs.declared.Refusal.TheVariants.{Malformed}
use Rattle.replay_format.specs.Messages.{message_from, too_short, holds_update}

-- less than it should, which is given 12; or an UPDATE of IPv4 from its place on; or something else. What an UPDATE is
-- refused for is asked after it
unfoldable pub record_held : (bytes : List ℕ) → Result (Option ℕ) Refusal
record_held bytes =
    cond (too_short bytes) (Err Malformed) (Ok (cond (holds_update bytes) (Some (message_from bytes)) None))
