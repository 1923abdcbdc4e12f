-- A line stands for the call that it asks for, and its text tells the number that the call was given. So a history goes on with any line, and what is
-- written to each is what the routes on paper say.
use Prim.Native.Nat.{ℕ, ◌^◌, ◌<◌}
use mathlib.Core.Path.{◌≡◌, refl, ap, ap₂, ◌∙◌}
use mathlib.Core.Bool.{true}
use mathlib.Core.List.{List, [], ◌∷◌, ◌++◌}
use mathlib.Core.Option.{some, none}
use mathlib.Core.Option as math
use lib.Dec.{lit≤}
use borrow.Author.Tests.{lt-ltb}
use Rattle.std.specs.Prelude.{Option, Some, None}
use Rattle.rules.specs.declared.Settings.{Settings}
use Rattle.rules.specs.Table.{Memory, lookup}
use Rattle.rules.specs.Calls.{Call, Add as Call-as-Add, Withdraw, Change, word_sized, all_word_sized, act, each, run}
use Rattle.text_requests.specs.declared.Request.{Request}
use Rattle.text_requests.specs.declared.Request.TheVariants.{Add, Drop, Move, Find}
use Rattle.text_requests.specs.Shapes.{request}
use Rattle.text_requests.proofs.Words.{WordSized, request_words}
use Rattle.text_answers.specs.Texts.{update_text, lookup_text}
use Rattle.text_lines.specs.Lines.{updated, reply, line_reply, lines_text}
use Rattle.promises.specs.History.{Route, routes_of, stored_by, SingleCalls, History}
use Rattle.promises.specs.Demands.{longest}
use Rattle.promises.proofs.Matches.{answer_by}
use Rattle.promises.proofs.Lookups.{lookup_by_routes}
use Rattle.promises.proofs.Histories.{kept, made, one_made, history_more, more_routes_on_paper}
use Rattle.promises.proofs.Promises.{numbers_given}
use Rattle.text_promises.specs.Paper.{calls_of, find_text, text_by, paper_answers}
use Rattle.text_promises.specs.Typed.{number_told, numbers_told}
use Rattle.text_promises.proofs.Texts.{told_number}

module _ (t : Settings) (m : Memory) where
  told : (call : Call) → word_sized call ≡ true → SingleCalls t m (call ∷ []) (number_told (update_text (act t call m).refusal) ∷ []) (act t call m).memory
  told call sized = rw told_number (one_made sized refl)

  -- A line is the call that it asks for, or none.
  pub line_made : (line : List ℕ) → SingleCalls t m (calls_of (request line)) (numbers_told (calls_of (request line)) (line_reply t m line).text) (line_reply t m line).memory
  unfolding numbers_told line_reply reply updated calls_of act word_sized all_word_sized run each
  line_made line = go (request line) (request_words line)
    where
      go : (r : Option Request) → WordSized r → SingleCalls t m (calls_of r) (numbers_told (calls_of r) (reply t m r).text) (reply t m r).memory
      go (Some (Add p L hop)) word = told (Call-as-Add 0 p L hop) (lt-ltb p (2 ^ 32) word)
      go (Some (Drop p L)) word = told (Withdraw 0 p L) (lt-ltb p (2 ^ 32) word)
      go (Some (Move p L hop)) word = told (Change 0 p L hop) (lt-ltb p (2 ^ 32) word)
      go (Some (Find address)) word = made t m [] refl
      go None word = made t m [] refl

module _ {t : Settings} {calls : List Call} {answers : List ℕ} {m : Memory} (history : History t calls answers m) where
  -- what a lookup answers is written so
  find_on_paper : (address : ℕ) → address < 2 ^ 32 → lookup_text (lookup t m 0 address) ≡ find_text t (stored_by calls answers) address (longest address (routes_of 0 (stored_by calls answers)))
  unfolding lookup_text answer_by find_text
  find_on_paper address word = rw (lookup_by_routes (kept history) 0 (lit≤ tt) address word) (go (longest address (routes_of 0 (stored_by calls answers))))
    where
      go : (o : math.Option Route) → lookup_text (answer_by t (stored_by calls answers) address o) ≡ find_text t (stored_by calls answers) address o
      go (some r) = refl
      go none = refl

  -- What is written to a line is what the routes on paper say.
  pub text_on_paper : (line : List ℕ) → (line_reply t m line).text ≡ text_by t (stored_by calls answers) (request line)
  unfolding line_reply reply updated text_by act word_sized
  text_on_paper line = go (request line) (request_words line)
    where
      go : (r : Option Request) → WordSized r → (reply t m r).text ≡ text_by t (stored_by calls answers) r
      go (Some (Add p L hop)) word = ap update_text (numbers_given history (Call-as-Add 0 p L hop) (lt-ltb p (2 ^ 32) word))
      go (Some (Drop p L)) word = ap update_text (numbers_given history (Withdraw 0 p L) (lt-ltb p (2 ^ 32) word))
      go (Some (Move p L hop)) word = ap update_text (numbers_given history (Change 0 p L hop) (lt-ltb p (2 ^ 32) word))
      go (Some (Find address)) word = find_on_paper address word
      go None word = refl

-- So it is of lines, one after the other.
pub lines_on_paper : {t : Settings} {calls : List Call} {answers : List ℕ} {m : Memory} → History t calls answers m → (lines : List (List ℕ))
    → lines_text t m lines ≡ paper_answers t (stored_by calls answers) lines
unfolding lines_text paper_answers
lines_on_paper history [] = refl
lines_on_paper {t = t} {calls = calls} {answers = answers} {m = m} history (line ∷ lines) =
    let next = line_made t m line in
    let reply = line_reply t m line in
    ap₂ ◌++◌ (text_on_paper history line)
    (lines_on_paper {t = t} {calls = calls ++ calls_of (request line)} {answers = answers ++ numbers_told (calls_of (request line)) reply.text} {m = reply.memory} (history_more history next) lines ∙ ap (λ (routes : List Route). paper_answers t routes lines) (more_routes_on_paper history next))
