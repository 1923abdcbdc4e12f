-- The contracts leave one result: two that meet one on the same arguments give back the same and leave the same words, or
-- the same bytes in the room.
use mathlib.Core.Path.{◌≡◌, sym, ap, ◌∙◌}
use contract.Lifetimes.{Lfts}
use Rattle.stream_records.proofs.stage_of.Reads as stage_of
use Rattle.stream_records.proofs.keep_stage.Reads as keep_stage
use Rattle.stream_records.proofs.end_stream.Reads as end_stream
use Rattle.stream_records.proofs.next_record.Reads as next_record

pub stage_of_determined : (κs : Lfts 2) (a : _) (r q : _) (s e : _) → stage_of.Post κs a r s → stage_of.Post κs a q e → r ≡ q
stage_of_determined κs a r q s e one other = one.0 ∙ sym other.0

pub keep_stage_determined : (κs : Lfts 1) (a : _) (r q : _) (s e : _) → keep_stage.Post κs a r s → keep_stage.Post κs a q e
    → s.1.0.now ≡ e.1.0.now
keep_stage_determined κs a r q s e one other = one ∙ sym other

pub end_stream_determined : (κs : Lfts 1) (a : _) (r q : _) (s e : _) → end_stream.Post κs a r s → end_stream.Post κs a q e
    → (r ≡ q) × (s.0.now ≡ e.0.now)
end_stream_determined κs a r q s e one other =
    let same = sym one ∙ other in
    (ap (λ u. u.number) same, ap (λ u. u.words) same)

pub next_record_determined : (κs : Lfts 2) (a : _) (r q : _) (s e : _) → next_record.Post κs a r s → next_record.Post κs a q e
    → (r.stage ≡ q.stage) × ((r.rest.now ≡ q.rest.now) × ((r.event ≡ q.event) × (s.1.1.0.now ≡ e.1.1.0.now)))
next_record_determined κs a r q s e one other =
    let same = sym one.cut ∙ other.cut in
    (ap (λ u. u.after.stage) same, (ap (λ u. u.rest) same, (ap (λ u. u.after.event) same, ap (λ u. u.after.room) same)))
