-- `text_requests::number_at` meets its contract. The invariant: the digits passed have written the value.
use Rattle.text_requests.proofs.Digits.{Read}
use Rattle.text_requests.proofs.number_at.Given as goal

abbrev pub invariant-loop-b : goal.invariant-loop-b
invariant-loop-b l = Read l.line l.at l.bytes l.count l.b-index l.value
