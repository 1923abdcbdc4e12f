-- Two results that meet a contract of this crate are equal, and what is written is what is read at the front.
use Prim.Native.Nat.{ℕ}
use mathlib.Core.Path.{◌≡◌, refl, ap, sym, ◌∙◌}
use mathlib.Core.Bool.{true, false}
use mathlib.Core.List.{List}
use native.Mathlib.Omega.{arith}
use lib.ListN.{take}
use Rattle.std.specs.Prelude.{Option, Some, None}
use contract.Lifetimes.{Lfts}
use Rattle.rules.specs.Table.{Memory}
use Rattle.text_answers.proofs.Puts.{put_settled, put_front}
use Rattle.text_lines.specs.declared.Fed.{Fed}
use Rattle.text_lines.specs.Lines.{Reply, Stream, Tried, Next, next_told, Feeding, fed_told, Told, Lies}
use Rattle.text_lines.proofs.answer_line.Reads as answer_line
use Rattle.text_lines.proofs.feed_chunk.Reads as feed_chunk
use Rattle.text_lines.proofs.finish_input.Reads as finish_input

-- answering a line settles what is given back, the memory and the lent bytes
pub told_settled : {x : Tried Reply} {m m' : Memory} {a b b' : List ℕ} {i : ℕ} {n n' : Next} → Told x m a i b n → Told x m' a i b' n'
    → (n ≡ n') × (m ≡ m') × (b ≡ b')
told_settled p q =
    let put = put_settled p.replied.put.put q.replied.put.put in
    (next (p.refused_is ∙ sym q.refused_is) put.1, p.replied.memory_is ∙ sym q.replied.memory_is, put.0)
  where
    next : {n n' : Next} → n.refused ≡ n'.refused → n.at ≡ n'.at → n ≡ n'
    next refused at = λ i. record { refused = refused i; at = at i }

-- feeding a chunk and ending the input settle what is given back, and all that lies in lent memory
pub lies_settled : {x : Tried Stream} {m m' : Memory} {line line' a b b' : List ℕ} {r r' : Feeding} → Lies x m line a b r → Lies x m' line' a b' r'
    → (r ≡ r') × (m ≡ m') × (line ≡ line') × (b ≡ b')
lies_settled p q =
    let put = put_settled p.put q.put in
    (fed (p.refused_is ∙ sym q.refused_is) (p.count_is ∙ sym q.count_is) put.1, p.memory_is ∙ sym q.memory_is, p.line_is ∙ sym q.line_is, put.0)
  where
    fed : {r r' : Feeding} → r.refused ≡ r'.refused → r.count ≡ r'.count → r.written ≡ r'.written → r ≡ r'
    fed refused count written = λ i. record { refused = refused i; count = count i; written = written i }

-- the bytes that are said to be written are the answers
pub answers_in_front : {x : Tried Stream} {m : Memory} {line a b : List ℕ} {r : Feeding} → Lies x m line a b r → take r.written b ≡ x.leaves.text
answers_in_front {a = a} p = put_front p.put (omega (arith, p.put.end, p.inside))

-- ---- What is told of a result tells the result

apart : false ≡ true → ⊥
apart e = cc

next_tells : (at : ℕ) (r q : Option ℕ) → next_told at r ≡ next_told at q → r ≡ q
next_tells at (Some n) (Some n') e = ap Some (ap (λ (n : Next). n.at) e)
next_tells at (Some n) None e = absurd (apart (ap (λ (n : Next). n.refused) e))
next_tells at None (Some n') e = absurd (apart (sym (ap (λ (n : Next). n.refused) e)))
next_tells at None None e = refl

fed_tells : (kept : ℕ) (r q : Option Fed) → fed_told kept r ≡ fed_told kept q → r ≡ q
fed_tells kept (Some f) (Some f') e = λ i. Some (record { count = (e i).count; written = (e i).written })
fed_tells kept (Some f) None e = absurd (apart (ap (λ (r : Feeding). r.refused) e))
fed_tells kept None (Some f') e = absurd (apart (sym (ap (λ (r : Feeding). r.refused) e)))
fed_tells kept None None e = refl

-- ---- The same of each call's own contract: on the same arguments it leaves one result, and the lent lists one way

counters_alike : {a b : Memory} → a ≡ b → a.counters ≡ b.counters
counters_alike = ap (λ (m : Memory). m.counters)

slots_alike : {a b : Memory} → a ≡ b → a.slots ≡ b.slots
slots_alike = ap (λ (m : Memory). m.slots)

pub answer_line_determined : (κs : Lfts 4) (a : _) (r q : _) (s e : _) → answer_line.Post κs a r s → answer_line.Post κs a q e
    → (r ≡ q) × (s.1.0.now ≡ e.1.0.now) × (s.1.1.0.now ≡ e.1.1.0.now) × (s.1.1.1.1.0.now ≡ e.1.1.1.1.0.now)
answer_line_determined κs a r q s e one other =
    let same = told_settled one other in
    (next_tells _ r q same.0, counters_alike same.1, slots_alike same.1, same.2)

pub feed_chunk_determined : (κs : Lfts 5) (a : _) (r q : _) (s e : _) → feed_chunk.Post κs a r s → feed_chunk.Post κs a q e
    → (r ≡ q) × (s.1.0.now ≡ e.1.0.now) × (s.1.1.0.now ≡ e.1.1.0.now) × (s.1.1.1.0.now ≡ e.1.1.1.0.now) × (s.1.1.1.1.1.1.0.now ≡ e.1.1.1.1.1.1.0.now)
feed_chunk_determined κs a r q s e one other =
    let same = lies_settled one other in
    (fed_tells _ r q same.0, counters_alike same.1, slots_alike same.1, same.2, same.3)

pub finish_input_determined : (κs : Lfts 4) (a : _) (r q : _) (s e : _) → finish_input.Post κs a r s → finish_input.Post κs a q e
    → (r ≡ q) × (s.1.0.now ≡ e.1.0.now) × (s.1.1.0.now ≡ e.1.1.0.now) × (s.1.1.1.1.1.0.now ≡ e.1.1.1.1.1.0.now)
finish_input_determined κs a r q s e one other =
    let same = lies_settled one other in
    (fed_tells _ r q same.0, counters_alike same.1, slots_alike same.1, same.3)
