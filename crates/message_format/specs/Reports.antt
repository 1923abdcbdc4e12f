-- What a message is given back, as the definitions have it.
use Rattle.std.specs.Prelude.{Result, Ok, Err}
use Rattle.rules.specs.declared.Refusal.{Refusal}
use Rattle.rules.specs.Numbers.{refusal_number}
use Rattle.message_format.specs.declared.Report.{Report as Accepted}
use Rattle.message_format.specs.Reading.{Report}

-- the two counts of an accepted message, or a refusal's number and zeros
abbrev pub report_given : Result Accepted Refusal → Report
report_given (Ok x) = record { refusal = 0; accepted = x.accepted; refused = x.refused }
report_given (Err e) = record { refusal = refusal_number e; accepted = 0; refused = 0 }
