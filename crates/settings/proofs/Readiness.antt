-- What settings in their ranges and a length with a filter and buckets tell together.
use Rattle.rules.specs.Ready.{Ready}
use Rattle.settings.specs.declared.InRange.{InRange}
use Rattle.settings.specs.declared.Length.{Length}

pub ready : (t : InRange) (L : Length) → Ready t.all L.number
ready t L = record { range = t.range; low = L.low; high = L.high }
