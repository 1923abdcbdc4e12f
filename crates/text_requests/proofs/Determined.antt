-- The contract of this crate's call leaves one result.
use mathlib.Core.Path.{◌≡◌, sym, ◌∙◌}
use contract.Lifetimes.{Lfts}
use Rattle.text_requests.proofs.read_request.Reads as read_request

-- two answers to one line that meet it are equal
pub read_request_determined : (κs : Lfts 1) (a : _) (r q : _) (s e : _) → read_request.Post κs a r s → read_request.Post κs a q e → r ≡ q
read_request_determined κs a r q s e one other = one ∙ sym other
