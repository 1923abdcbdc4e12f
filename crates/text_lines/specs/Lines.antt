-- What the text program answers: to a line, to the lines of an input, and to a stream that comes in chunks.
use Rattle.std.specs.Prelude.{ℕ, ◌+◌, ◌*◌, ◌≤◌, ◌≡◌, Bool, false, cond, not, ◌&&◌, List, [], ◌∷◌, ◌++◌, length, take, set, ltb, leb, eqb, true, Option, Some, None}
use Rattle.rules.specs.Tools.{fed}
use Rattle.rules.specs.declared.Settings.{Settings}
use Rattle.rules.specs.Table.{Memory, Outcome, add, withdraw, change, lookup}
use Rattle.text_requests.specs.declared.Request.{Request}
use Rattle.text_requests.specs.declared.Request.TheVariants.{Add, Drop, Move, Find}
use Rattle.text_requests.specs.Shapes.{request}
use Rattle.text_answers.specs.Texts.{update_text, lookup_text, unreadable, Put, PutWithin}
use Rattle.text_lines.specs.declared.Fed.{Fed}

-- ---- One line

-- what is written to a line, and the memory that its call leaves
pub record Reply : Type 0 where
  pub text : List ℕ
  pub memory : Memory

-- what an update gives back and leaves, as a reply
unfoldable pub updated : Outcome → Reply
updated u = record { text = update_text u.refusal; memory = u.memory }

-- the call that a line asks for replies, for party 0; an unreadable line, which asks for none, leaves the memory as it is
unfoldable pub reply : Settings → Memory → Option Request → Reply
reply t m (Some (Add p L hop)) = updated (add t m 0 p L hop)
reply t m (Some (Drop p L)) = updated (withdraw t m 0 p L)
reply t m (Some (Move p L hop)) = updated (change t m 0 p L hop)
reply t m (Some (Find address)) = record { text = lookup_text (lookup t m 0 address); memory = m }
reply t m None = record { text = unreadable; memory = m }

-- what is answered to a line of any bytes
unfoldable pub line_reply : Settings → Memory → (line : List ℕ) → Reply
line_reply t m line = reply t m (request line)

-- ---- The lines of an input

-- an input's lines, the first of which begins with bytes that are read already: a line ends at byte 10 or at the end of the
-- input, and where that leaves nothing there is no further line
unfoldable pub lines_after : (begun input : List ℕ) → List (List ℕ)
lines_after begun [] = cond (eqb (length begun) 0) [] (begun ∷ [])
lines_after begun (b ∷ input) = cond (eqb b 10) (begun ∷ lines_after [] input) (lines_after (begun ++ b ∷ []) input)

-- the lines of a whole input
unfoldable pub lines : (input : List ℕ) → List (List ℕ)
lines input = lines_after [] input

-- lines answered one after the other, each on the memory that the last one left
unfoldable pub lines_text : Settings → Memory → List (List ℕ) → List ℕ
lines_text t m [] = []
lines_text t m (line ∷ rest) = (line_reply t m line).text ++ lines_text t (line_reply t m line).memory rest

-- ---- A stream

-- what is kept of a stream: the table's memory, the lent bytes with the unfinished line, how many of them are its, and the
-- answers so far
pub record Stream : Type 0 where
  pub memory : Memory
  pub line : List ℕ
  pub count : ℕ
  pub text : List ℕ

-- a stream that goes on, with nothing answered yet
abbrev pub going : (memory : Memory) (line : List ℕ) (count : ℕ) → Stream
going memory line count = record { memory = memory; line = line; count = count; text = [] }

-- a byte of the unfinished line is kept, up to 65 of them
unfoldable pub keep : (byte : ℕ) → Stream → Stream
keep b s =
    cond (ltb s.count 65)
    (record { memory = s.memory; line = set s.line s.count b; count = s.count + 1; text = s.text })
    s

-- the line that is kept ends and is answered
unfoldable pub end_line : Settings → Stream → Stream
end_line t s =
    let r = line_reply t s.memory (take s.count s.line) in
    record { memory = r.memory; line = s.line; count = 0; text = s.text ++ r.text }

-- byte 10 ends the line; any other one is its next
unfoldable pub take_byte : Settings → Stream → (byte : ℕ) → Stream
take_byte t s b = cond (eqb b 10) (end_line t s) (keep b s)

-- a chunk is taken byte by byte
unfoldable pub feed : Settings → Stream → (chunk : List ℕ) → Stream
feed t = fed (take_byte t)

-- the input ends: what is kept is the last line, unless it is nothing
unfoldable pub finish : Settings → Stream → Stream
finish t s = cond (eqb s.count 0) s (end_line t s)

-- all that is written where chunks are fed one after the other and the input ends: each chunk's answers, then the last line's
unfoldable pub stream_text : Settings → Stream → (chunks : List (List ℕ)) → List ℕ
stream_text t s [] = (finish t s).text
stream_text t s (chunk ∷ chunks) =
    let s' = feed t s chunk in
    s'.text ++ stream_text t (going s'.memory s'.line s'.count) chunks

-- ---- The calls, which are refused for want of room

-- what a call comes to: whether it is refused, and what it leaves
pub record Tried (A : Type 0) : Type 0 where
  pub refused : Bool
  pub leaves : A

abbrev pub not_refused : {A : Type 0} → A → Tried A
not_refused made = record { refused = false; leaves = made }

-- with room a call leaves what it makes; with none it is refused and leaves what was there
abbrev pub if_room : {A : Type 0} → (room : Bool) (made there : A) → Tried A
if_room room made there = record { refused = not room; leaves = cond room made there }

-- room for an answer, which is at most 33 bytes, at a position
unfoldable pub answer_fits : (at : ℕ) (out : List ℕ) → Bool
answer_fits at out = leb (at + 33) (length out)

-- room for an unfinished line, no more of which is kept than 65 bytes, and for the answers to so many lines
unfoldable pub roomy : (line : List ℕ) (kept ends : ℕ) (out : List ℕ) → Bool
roomy line kept ends out = leb 65 (length line) && (leb kept 65 && leb (ends * 33) (length out))

-- a line that is refused writes nothing and leaves the memory as it is
unfoldable pub answer_line : Settings → Memory → (line : List ℕ) (at : ℕ) (out : List ℕ) → Tried Reply
answer_line t m line at out = if_room (answer_fits at out) (line_reply t m line) (record { text = []; memory = m })

-- each byte of a chunk may end a line
unfoldable pub feed_chunk : Settings → Stream → (chunk out : List ℕ) → Tried Stream
feed_chunk t s chunk out = if_room (roomy s.line s.count (length chunk) out) (feed t s chunk) s

unfoldable pub finish_input : Settings → Stream → (out : List ℕ) → Tried Stream
finish_input t s out = if_room (roomy s.line s.count 1 out) (finish t s) s

-- ---- What the calls leave in lent memory

-- a reply of at most 33 bytes is put at a position, and the memory is left as it says
pub record Replied (r : Reply) (memory : Memory) (before : List ℕ) (at : ℕ) (after : List ℕ) (next : ℕ) : Type 0 where
  pub memory_is : memory ≡ r.memory
  pub put : PutWithin 33 before at r.text after next

-- what answering a line comes to: whether it is refused, and where the next answer goes
pub record Next : Type 0 where
  pub refused : Bool
  pub at : ℕ

-- what the call gives back, told so: where it is refused, with none, the next answer goes where this one would have
abbrev pub next_told : (at : ℕ) → Option ℕ → Next
next_told at (Some next) = record { refused = false; at = next }
next_told at None = record { refused = true; at = at }

-- what answering a line gives back and leaves
pub record Told (x : Tried Reply) (memory : Memory) (before : List ℕ) (at : ℕ) (after : List ℕ) (next : Next) : Type 0 where
  pub refused_is : next.refused ≡ x.refused
  pub replied : Replied x.leaves memory before at after next.at

-- what `roomy` tests
pub record Room (line : List ℕ) (kept ends : ℕ) (out : List ℕ) : Type 0 where
  pub line_room : 65 ≤ length line
  pub kept_in : kept ≤ 65
  pub out_room : ends * 33 ≤ length out

-- what a call on a stream comes to: whether it is refused, how many bytes of the unfinished line are kept, and how many
-- bytes of answers were written
pub record Feeding : Type 0 where
  pub refused : Bool
  pub count : ℕ
  pub written : ℕ

-- what the call gives back, told so: where it is refused, with none, as many are kept as there were, and none written
abbrev pub fed_told : (kept : ℕ) → Option Fed → Feeding
fed_told kept (Some fed) = record { refused = false; count = fed.count; written = fed.written }
fed_told kept None = record { refused = true; count = kept; written = 0 }

-- what a call on a stream gives back and leaves: the stream lies in lent memory, with its answers at the front of out
pub record Lies (x : Tried Stream) (memory : Memory) (line before after : List ℕ) (r : Feeding) : Type 0 where
  pub refused_is : r.refused ≡ x.refused
  pub memory_is : memory ≡ x.leaves.memory
  pub line_is : line ≡ x.leaves.line
  pub count_is : r.count ≡ x.leaves.count
  pub put : Put before 0 x.leaves.text after r.written
  pub inside : r.written ≤ length before
