-- No text stands for two things: ok, a refusal, a route, none and unreadable begin with different bytes, and a number that is
-- written is the number that would be read.
use Prim.Native.Nat.{ℕ, zero, suc, ◌+◌, ◌*◌, ◌/◌, ◌%◌, ◌<◌}
use mathlib.Core.Path.{◌≡◌, refl, sym, ap, ◌∙◌}
use mathlib.Core.Bool.{Bool, true, false, cond}
use mathlib.Core.List.{List, [], ◌∷◌, ◌++◌, append_assoc, append_cancel_left}
use mathlib.Core.Option.{some, none}
use mathlib.Core.Option as math
use native.Mathlib.Omega.{arith}
use lib.ListN.{get_or, drop}
use lib.Dec.{ltb, eqb}
use borrow.Author.Tests.{lt-ltb, le-leb, ltb-true, ltb-false, eqb-true}
use Rattle.std.specs.Prelude.{Option, Some, None}
use Rattle.rules.specs.declared.Settings.{Settings}
use Rattle.rules.specs.Tools.{within}
use Rattle.text_spelling.specs.Spelling.{spelled}
use Rattle.text_requests.specs.declared.Request.{Request}
use Rattle.text_requests.specs.declared.Request.TheVariants.{Add, Drop, Move, Find}
use Rattle.text_requests.specs.Shapes.{digit, digits, value}
use Rattle.text_answers.specs.Texts.{last_digits, decimal, refused_text, update_text, route_text, none_text, unreadable}
use Rattle.text_answers.proofs.Decimals.{decimal_first}
use Rattle.promises.specs.History.{Route, routes_of}
use Rattle.promises.specs.Demands.{longest}
use Rattle.text_promises.specs.Paper.{find_text, text_by}
use Rattle.text_promises.specs.Typed.{number_told}

abbrev first : (text : List ℕ) → ℕ
first text = get_or text 0 0

-- a route begins with a digit
route_first : (hop length probes : ℕ) → first (route_text hop length probes) < 58
unfolding route_text
route_first hop length probes = simp append_assoc (decimal_first hop _)

-- none does not
pub route_not_none : (hop length probes many : ℕ) → route_text hop length probes ≡ none_text many → ⊥
unfolding none_text
route_not_none hop length probes many e = omega (arith, route_first hop length probes, ap first e)

-- nor is any other text the one that is written to an unreadable line
route_not_unreadable : (hop length probes : ℕ) → route_text hop length probes ≡ unreadable → ⊥
route_not_unreadable hop length probes e = omega (arith, route_first hop length probes, ap first e)

update_not_unreadable : (n : ℕ) → update_text n ≡ unreadable → ⊥
unfolding update_text refused_text
update_not_unreadable n e = go (eqb n 0) (ap first e)
  where
    go : (b : Bool) → first (cond b (spelled "ok\n") (refused_text n)) ≡ first unreadable → ⊥
    go true h = omega arith
    go false h = omega arith

find_not_unreadable : (t : Settings) (routes : List Route) (address : ℕ) (o : math.Option Route) → find_text t routes address o ≡ unreadable → ⊥
unfolding find_text none_text
find_not_unreadable t routes address (some r) e = route_not_unreadable _ _ _ e
find_not_unreadable t routes address none e = omega (arith, ap first e)

pub only_unreadable : (t : Settings) (routes : List Route) (r : Option Request) → text_by t routes r ≡ unreadable → r ≡ None
unfolding text_by
only_unreadable t routes (Some (Add p L hop)) e = absurd (update_not_unreadable _ e)
only_unreadable t routes (Some (Drop p L)) e = absurd (update_not_unreadable _ e)
only_unreadable t routes (Some (Move p L hop)) e = absurd (update_not_unreadable _ e)
only_unreadable t routes (Some (Find address)) e = absurd (find_not_unreadable t routes address (longest address (routes_of 0 routes)) e)
only_unreadable t routes None e = refl

-- ---- The numbers in a text

digit_of : (n : ℕ) → n < 10 → digit (48 + n) ≡ n
unfolding digit within
digit_of n h = simp (le-leb 48 (48 + n) (omega arith), le-leb (48 + n) 57 (omega arith)) (omega arith)

-- one digit more is read
digit_read : (m n k : ℕ) (rest : List ℕ) → n < 10 → m * 10 + n ≡ k → value m (digits ((48 + n) ∷ rest)) ≡ value k (digits rest)
unfolding digits value
digit_read m n k rest h e = rw (digit_of n h, lt-ltb n 10 h) (ap (λ (x : ℕ). value x (digits rest)) e)

-- so are all that were written
digits_read : (many n : ℕ) (rest : List ℕ) → n < many → value 0 (digits (last_digits many n ++ rest)) ≡ value n (digits rest)
unfolding last_digits
digits_read zero n rest h = absurd (omega arith)
digits_read (suc many) n rest h = by_size (ltb n 10) refl (digits_read many (n / 10) ((48 + n % 10) ∷ rest))
  where
    by_size : (b : Bool) → ltb n 10 ≡ b → (n / 10 < many → value 0 (digits (last_digits many (n / 10) ++ (48 + n % 10) ∷ rest)) ≡ value (n / 10) (digits ((48 + n % 10) ∷ rest)))
        → value 0 (digits (cond b ((48 + n) ∷ []) (last_digits many (n / 10) ++ (48 + n % 10) ∷ []) ++ rest)) ≡ value n (digits rest)
    by_size true e f = digit_read 0 n n rest (ltb-true n 10 e) (omega arith)
    by_size false e f = rw append_assoc (f (omega (arith, ltb-false n 10 e)) ∙ digit_read (n / 10) (n % 10) n rest (omega arith) (omega arith))

-- the number with which a text begins
abbrev number_first : (text : List ℕ) → ℕ
number_first text = value 0 (digits text)

-- is the one that was written, where another byte follows
number_read : (n b : ℕ) (rest : List ℕ) → digit b ≡ 10 → number_first (decimal n ++ b ∷ rest) ≡ n
unfolding decimal digits value
number_read n b rest e = digits_read (suc n) n (b ∷ rest) (omega arith) ∙ rw e

-- so a text that begins with a number tells it, and the rest
begins_tell : (n k b : ℕ) (rest other : List ℕ) → digit b ≡ 10 → decimal n ++ b ∷ rest ≡ decimal k ++ b ∷ other → (n ≡ k) × (rest ≡ other)
begins_tell n k b rest other e h =
    let same_number : n ≡ k = sym (number_read n b rest e) ∙ ap number_first h ∙ number_read k b other e in
    (same_number, ap (drop 1) (append_cancel_left (decimal k) (b ∷ rest) (b ∷ other) (rw same_number at h)))

-- Two routes in one text are one: its hop, its length and its probes.
pub route_tells : (hop length probes hop' length' probes' : ℕ) → route_text hop length probes ≡ route_text hop' length' probes' → (hop ≡ hop') × (length ≡ length') × (probes ≡ probes')
unfolding route_text digit within
route_tells hop length probes hop' length' probes' e =
    let its_hop = begins_tell hop hop' 32 _ _ refl (simp append_assoc at e) in
    let its_length = begins_tell length length' 32 _ _ refl its_hop.1 in
    (its_hop.0, its_length.0, (begins_tell probes probes' 10 [] [] refl its_length.1).0)

-- So is the probe count of none.
pub none_tells : (probes probes' : ℕ) → none_text probes ≡ none_text probes' → probes ≡ probes'
unfolding none_text digit within
none_tells probes probes' e = (begins_tell probes probes' 10 [] [] refl (ap (drop 5) e)).0

-- And the number that an update is told.
pub told_number : (n : ℕ) → number_told (update_text n) ≡ n
unfolding number_told update_text refused_text digit within
told_number n = go (eqb n 0) refl
  where
    go : (b : Bool) → eqb n 0 ≡ b → number_told (cond b (spelled "ok\n") (refused_text n)) ≡ n
    go true e = sym (eqb-true n 0 e)
    go false e = number_read n 10 [] refl

pub number_tells : (n k : ℕ) → update_text n ≡ update_text k → n ≡ k
number_tells n k e = sym (told_number n) ∙ ap number_told e ∙ told_number k
