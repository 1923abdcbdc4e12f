-- Which answers have room in a number of 64 bits.
use Rattle.std.specs.Prelude.{ℕ, ◌^◌, ◌<◌}
use Rattle.rules.specs.Table.{Answer}
use Rattle.message_format.specs.Reading.{Report}

-- refusals are below this: they have the sixteen bits above all else in the number that crosses
abbrev pub refusals_end : ℕ
refusals_end = 2 ^ 16

-- a refusal that fits there
abbrev pub RefusalFits : (refusal : ℕ) → Type 0
RefusalFits refusal = refusal < refusals_end

-- an answer of which each part is below what its place there can hold
pub record Fits (r : Answer) : Type 0 where
  pub refusal : RefusalFits r.refusal
  pub hop : r.hop < 2 ^ 16
  pub length : r.length < 2 ^ 8
  pub probes : r.probes < 2 ^ 8

-- the report of a message whose counts have room beside the refusal: there are fewer routes than bytes in it
pub record CountsFit (r : Report) : Type 0 where
  pub refusal : RefusalFits r.refusal
  pub accepted : r.accepted < 2 ^ 12
  pub refused : r.refused < 2 ^ 12
