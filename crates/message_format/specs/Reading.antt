-- What a message does to a table.
use Rattle.std.specs.Prelude.{ℕ, ◌+◌, ◌*◌, ◌^◌, Bool, false, cond, not, ◌&&◌, List, [], map, ◌++◌, length, get_or, leb, eqb}
use Rattle.std.proofs.Math.Option.{Option, some, none}
use Rattle.rules.specs.Tools.{lowest}
use Rattle.rules.specs.declared.Settings.{Settings}
use Rattle.rules.specs.Table.{Memory, lent, refuse, party_refusal}
use Rattle.rules.specs.Calls.{Call, Add, Withdraw, Run, run, accepted_of, refused_of}
use Rattle.message_format.specs.Format.{Prefix, well_formed, announces, message_hop, withdrawn_prefixes, announced_prefixes}

-- ---- The list of next hops

-- the lowest place of an address in the list
unfoldable pub place_in : (hops : List ℕ) (address : ℕ) → Option ℕ
place_in hops address = lowest (λ i. eqb (get_or hops i 0) address) (length hops)

-- the hop number of a NEXT_HOP: its lowest place in the list
unfoldable pub hop_place : (hops : List ℕ) → Option ℕ → Option ℕ
hop_place hops none = none
hop_place hops (some address) = place_in hops address

-- a place that is there and not above 65,535
unfoldable pub is_hop : Option ℕ → Bool
is_hop none = false
is_hop (some place) = leb place 65535

-- the hop of a message's announced routes
unfoldable pub hop_in : (message hops : List ℕ) → Option ℕ
hop_in message hops = hop_place hops (message_hop message)

-- ---- Numbers given back for bad input

-- 12, and then 13: what a message is refused for by what stands in it
unfoldable pub update_refusal : (message hops : List ℕ) → ℕ
update_refusal message hops =
    refuse (not (well_formed message)) 12 (refuse (announces message && not (is_hop (hop_in message hops))) 13 0)

-- 1, 2 and 15 go before them, as in every call that names its party
unfoldable pub message_refusal : Settings → Memory → (party : ℕ) (message hops : List ℕ) → ℕ
message_refusal t m party message hops = party_refusal t m party (update_refusal message hops)

-- ---- What a message does

-- a withdrawal of each prefix by the party, in their order
unfoldable pub withdrawals : (party : ℕ) → List Prefix → List Call
withdrawals party qs = map (λ q. Withdraw party q.prefix q.length) qs

-- an add of each with the hop; without a hop nothing is announced
unfoldable pub announcements : (party : ℕ) (hop : Option ℕ) → List Prefix → List Call
announcements party none qs = []
announcements party (some hop) qs = map (λ q. Add party q.prefix q.length hop) qs

-- a message is single calls of its party: the withdrawn routes go first, then the announced ones
unfoldable pub message_calls : (party : ℕ) (message hops : List ℕ) → List Call
message_calls party message hops =
    withdrawals party (withdrawn_prefixes message)
    ++ announcements party (hop_in message hops) (announced_prefixes message)

-- what a message is given back: how many of its routes the table accepted and how many it refused; or a refusal's
-- number and zeros
pub record Report : Type 0 where
  pub refusal : ℕ
  pub accepted : ℕ
  pub refused : ℕ

-- what a message gives back and leaves
pub record Read : Type 0 where
  pub report : Report
  pub memory : Memory

-- a report, and the two lists as they are left
abbrev pub reported : Report → (counters slots : List ℕ) → Read
reported report counters slots = record { report = report; memory = lent counters slots }

-- how many of its calls were accepted, how many were refused, and what the last one left
unfoldable pub counts : Run Memory → Read
counts made =
    record {
      report = record { refusal = 0; accepted = accepted_of made.answers; refused = refused_of made.answers };
      memory = made.last;
    }

-- a refused message leaves the memory as it was
unfoldable pub refused_message : (refusal : ℕ) → Memory → Read
refused_message refusal m = record { report = record { refusal = refusal; accepted = 0; refused = 0 }; memory = m }

-- a message, as it is given back and as it leaves the memory
unfoldable pub apply_message : Settings → Memory → (party : ℕ) (message hops : List ℕ) → Read
apply_message t m party message hops =
    let refusal = message_refusal t m party message hops in
    cond (eqb refusal 0) (counts (run t m (message_calls party message hops))) (refused_message refusal m)

-- ---- The numbers as they cross to C

-- a report as one number; the bits from 2^24 up to 2^48 are zero
unfoldable pub report_number : Report → ℕ
report_number r = r.refusal * 2 ^ 48 + r.refused * 2 ^ 12 + r.accepted
