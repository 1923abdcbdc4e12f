-- What is owed to an input is the answers so far and those to the lines still to come. No byte changes it, where what is kept of
-- the unfinished line is its first 65 bytes: a longer line is unreadable already.
use Prim.Native.Nat.{ℕ, ◌+◌, ◌≤◌, ◌<◌, min}
use native.Mathlib.Nat.{sub-add-min_cancel, min-le_right}
use mathlib.Core.Path.{◌≡◌, refl, ap, sym, ◌∙◌}
use mathlib.Core.Bool.{Bool, true, false, cond}
use mathlib.Core.List.{List, [], ◌∷◌, ◌++◌, append_assoc, append-nil}
use native.Mathlib.Omega.{arith}
use native.Mathlib.Numerals.{add-one}
use lib.ListN.{length, take, set, length-append, length-take, length-set}
use lib.Seq.{take_all, take-suc-set, take-append-le, length-take-le}
use lib.Dec.{ltb, eqb}
use borrow.Author.Tests.{eq-eqb, ne_eqb, lt-ltb, ltb-true, ltb-false, eqb-true, eqb-false}
use Rattle.std.specs.Prelude.{None}
use Rattle.rules.specs.Tools.{fed}
use Rattle.rules.specs.declared.Settings.{Settings}
use Rattle.rules.specs.Table.{Memory}
use Rattle.text_requests.specs.Shapes.{request}
use Rattle.text_lines.specs.Lines.{line_reply, lines_after, lines_text, Stream, keep, end_line, take_byte, feed, finish}

-- what is kept of a line is its first 65 bytes
pub record Keeps (begun : List ℕ) (s : Stream) : Type 0 where
  pub room : 65 ≤ length s.line
  pub kept_in : s.count ≤ 65
  pub first : take s.count s.line ≡ take 65 begun

-- the answers so far and those still to come
abbrev pub owed : Settings → Stream → (begun input : List ℕ) → List ℕ
owed t s begun input = s.text ++ lines_text t s.memory (lines_after begun input)

-- the unfinished line after one byte more
abbrev pub begun_with : (b : ℕ) → (begun : List ℕ) → List ℕ
begun_with b begun = cond (eqb b 10) [] (begun ++ b ∷ [])

-- a line above 64 bytes is unreadable
too_long : (line : List ℕ) → 64 < length line → request line ≡ None
unfolding request
too_long line h = simp (lt-ltb _ _ h)

-- the first 65 bytes of a line ask for what the whole line does
same_request : (line : List ℕ) → request (take 65 line) ≡ request line
same_request line = by_size (ltb 65 (length line)) refl
  where
    by_size : (b : Bool) → ltb 65 (length line) ≡ b → request (take 65 line) ≡ request line
    by_size true e =
        let long = ltb-true 65 (length line) e in
        let cut = length-take-le 65 line (omega arith) in
        too_long (take 65 line) (omega arith) ∙ sym (too_long line (omega arith))
    by_size false e = ap request (take_all 65 line (ltb-false 65 (length line) e))

module _ {begun : List ℕ} {s : Stream} (k : Keeps begun s) where
  -- as many bytes are kept as the line has, up to 65
  kept_length : min 65 (length begun) ≡ s.count
  kept_length =
      sym (length-take 65 begun) ∙ ap length (sym k.first) ∙ length-take-le s.count s.line (omega arith)

  -- the kept line is answered as the whole one
  kept_answer : (t : Settings) (m : Memory) → line_reply t m (take s.count s.line) ≡ line_reply t m begun
  unfolding line_reply
  kept_answer t m = rw (k.first, same_request)

  -- a byte of the line is kept, or is past the first 65
  keeps_byte : (b : ℕ) → Keeps (begun ++ b ∷ []) (keep b s)
  unfolding keep
  keeps_byte b = by_room (ltb s.count 65) refl
    where
      by_room : (r : Bool) → ltb s.count 65 ≡ r → Keeps (begun ++ b ∷ []) (cond r (record { memory = s.memory; line = set s.line s.count b; count = s.count + 1; text = s.text }) s)
      by_room true e =
          let h = ltb-true s.count 65 e in
          let whole : length begun ≡ s.count = omega (arith, kept_length, sub-add-min_cancel 65 (length begun)) in
          record {
            room = simp length-set k.room;
            kept_in = omega arith;
            first =
                rw (add-one, take-suc-set s.line s.count b (omega arith), k.first, take_all 65 begun (omega arith))
                (sym (take_all 65 (begun ++ b ∷ []) (simp length-append (omega arith))));
          }
      by_room false e =
          let h = ltb-false s.count 65 e in
          let long : 65 ≤ length begun = omega (arith, kept_length, min-le_right 65 (length begun)) in
          record {
            room = k.room;
            kept_in = k.kept_in;
            first = k.first ∙ sym (take-append-le 65 begun (b ∷ []) long);
          }

  -- and so the unfinished line after it is kept
  keeps_next : (t : Settings) (b : ℕ) → Keeps (begun_with b begun) (take_byte t s b)
  unfolding take_byte end_line
  keeps_next t b = by_end (eqb b 10)
    where
      by_end : (e : Bool) → Keeps (cond e [] (begun ++ b ∷ [])) (cond e (end_line t s) (keep b s))
      by_end true = record { room = k.room; kept_in = omega arith; first = refl }
      by_end false = keeps_byte b

  -- a byte that is kept answers nothing
  owed_kept : (t : Settings) (b : ℕ) (line input : List ℕ) → owed t (keep b s) line input ≡ owed t s line input
  unfolding keep
  owed_kept t b line input = by_room (ltb s.count 65)
    where
      by_room : (r : Bool) → owed t (cond r (record { memory = s.memory; line = set s.line s.count b; count = s.count + 1; text = s.text }) s) line input ≡ owed t s line input
      by_room true = refl
      by_room false = refl

  -- a byte leaves what is owed as it is
  owed_next : (t : Settings) (b : ℕ) (input : List ℕ) → owed t (take_byte t s b) (begun_with b begun) input ≡ owed t s begun (b ∷ input)
  unfolding take_byte end_line lines_after lines_text
  owed_next t b input = by_end (eqb b 10)
    where
      by_end : (e : Bool) → owed t (cond e (end_line t s) (keep b s)) (cond e [] (begun ++ b ∷ [])) input ≡ s.text ++ lines_text t s.memory (cond e (begun ∷ lines_after [] input) (lines_after (begun ++ b ∷ []) input))
      by_end true = rw (kept_answer t s.memory, append_assoc)
      by_end false = owed_kept t b (begun ++ b ∷ []) input

  -- the end of the input pays what is owed
  pub owed_last : (t : Settings) → (finish t s).text ≡ owed t s begun []
  unfolding finish end_line lines_after lines_text
  owed_last t = by_count (eqb s.count 0) refl
    where
      by_count : (e : Bool) → eqb s.count 0 ≡ e → (cond e s (end_line t s)).text ≡ s.text ++ lines_text t s.memory (cond (eqb (length begun) 0) [] (begun ∷ []))
      by_count true e =
          let none : length begun ≡ 0 = omega (arith, eqb-true s.count 0 e, kept_length, sub-add-min_cancel 65 (length begun)) in
          rw (eq-eqb _ _ none, append-nil)
      by_count false e =
          let some : length begun ≡ 0 → ⊥ = λ z. eqb-false s.count 0 e (omega (arith, kept_length, min-le_right 65 (length begun))) in
          rw (ne_eqb _ _ some, kept_answer t s.memory, append-nil)

-- the unfinished line after a chunk
abbrev pub unfinished : (chunk begun : List ℕ) → List ℕ
unfinished [] begun = begun
unfinished (b ∷ chunk) begun = unfinished chunk (begun_with b begun)

pub keeps_chunk : (t : Settings) (chunk : List ℕ) {begun : List ℕ} {s : Stream} → Keeps begun s → Keeps (unfinished chunk begun) (feed t s chunk)
unfolding feed fed
keeps_chunk t [] k = k
keeps_chunk t (b ∷ chunk) k = keeps_chunk t chunk (keeps_next k t b)

-- a chunk leaves what is owed as it is
pub owed_chunk : (t : Settings) (chunk input : List ℕ) {begun : List ℕ} {s : Stream} → Keeps begun s → owed t (feed t s chunk) (unfinished chunk begun) input ≡ owed t s begun (chunk ++ input)
unfolding feed fed
owed_chunk t [] input k = refl
owed_chunk t (b ∷ chunk) input k = owed_chunk t chunk input (keeps_next k t b) ∙ owed_next k t b (chunk ++ input)
