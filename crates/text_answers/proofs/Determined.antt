-- Each contract of this crate leaves one result: two that meet it on the same arguments leave the same bytes and give back the same
-- position.
use mathlib.Core.Path.{◌≡◌}
use contract.Lifetimes.{Lfts}
use Rattle.text_answers.proofs.Puts.{put_settled}
use Rattle.text_answers.proofs.put_refusal.Reads as put_refusal
use Rattle.text_answers.proofs.put_outcome.Reads as put_outcome
use Rattle.text_answers.proofs.put_answer.Reads as put_answer
use Rattle.text_answers.proofs.put_found.Reads as put_found
use Rattle.text_answers.proofs.put_unreadable.Reads as put_unreadable

pub put_refusal_determined : (κs : Lfts 1) (a : _) (r q : _) (s e : _) → put_refusal.Post κs a r s → put_refusal.Post κs a q e → (s.0.now ≡ e.0.now) × (r ≡ q)
put_refusal_determined κs a r q s e one other = put_settled one.put other.put

pub put_outcome_determined : (κs : Lfts 1) (a : _) (r q : _) (s e : _) → put_outcome.Post κs a r s → put_outcome.Post κs a q e → (s.0.now ≡ e.0.now) × (r ≡ q)
put_outcome_determined κs a r q s e one other = put_settled one.put other.put

pub put_answer_determined : (κs : Lfts 1) (a : _) (r q : _) (s e : _) → put_answer.Post κs a r s → put_answer.Post κs a q e → (s.0.now ≡ e.0.now) × (r ≡ q)
put_answer_determined κs a r q s e one other = put_settled one.put other.put

pub put_found_determined : (κs : Lfts 1) (a : _) (r q : _) (s e : _) → put_found.Post κs a r s → put_found.Post κs a q e → (s.0.now ≡ e.0.now) × (r ≡ q)
put_found_determined κs a r q s e one other = put_settled one.put other.put

pub put_unreadable_determined : (κs : Lfts 1) (a : _) (r q : _) (s e : _) → put_unreadable.Post κs a r s → put_unreadable.Post κs a q e → (s.0.now ≡ e.0.now) × (r ≡ q)
put_unreadable_determined κs a r q s e one other = put_settled one.put other.put
