-- What the header reads from a number is what the call put there, since the parts fit beside each other. So whatever is
-- promised of an answer is promised of what a C program reads.
use Prim.Native.Nat.{ℕ, ◌+◌, ◌*◌, ◌/◌, ◌%◌, ◌^◌, ◌<◌}
use mathlib.Core.Path.{◌≡◌, refl, sym, ap, ap₂, ◌∙◌}
use mathlib.Core.Bool.{Bool, true, false, cond}
use mathlib.Core.List.{List, [], ◌∷◌}
use mathlib.Core.Logic.{◌↔◌, ◌≢◌}
use native.Mathlib.Decide.{ℕ_discrete}
use native.Mathlib.Omega.{arith}
use lib.Dec.{eqb}
use lib.ListN.{length}
use lib.Pow.{low}
use borrow.Author.Tests.{eq-eqb}
use Rattle.rules.specs.Table.{Answer, slots_size, Memory, memory_refusal, lent, whole_words, words, one_if, answer_number, vector_number, lookup, match_vector, refused, vector_of, c_lookup, c_match_vector, bytes_of, Listed, answered}
use Rattle.rules.specs.declared.Settings.{Settings}
use Rattle.rules.specs.Calls.{Call, act}
use Rattle.rules.proofs.Vectors.{bits_lt}
use Rattle.words.specs.Laws.{four_each}
use Rattle.words.proofs.Words.{count_whole, count_none}
use Rattle.c_numbers.specs.Fitting.{Fits}
use Rattle.message_format.specs.Reading.{refused_message, apply_message, report_number}
use Rattle.message_format.proofs.Counting.{counts_fit}
use Rattle.stream_format.specs.Kept.{End, ended_as}
use Rattle.stream_format.specs.Chunks.{Reading, Chunked, chunked}
use Rattle.gateway.specs.Crossing.{ListCrossed, EndCrossed}
use Rattle.c_numbers.proofs.Fitting.{lookup_fits}
use Rattle.promises.proofs.Refused as demand_1
use Rattle.message_promises.proofs.Refused.{refused_unchanged}
use Rattle.stream_promises.specs.Noted.{next_chunk}
use Rattle.c_promises.specs.Numbers.{gateway_refusal, gateway_found, gateway_hop, gateway_length, gateway_probes, gateway_vector, gateway_accepted, gateway_refused, read_answer, read_vector, read_report}
use Rattle.c_promises.specs.Calls.{Updated, LookedUp, Matched, Sent, ChunkTaken}

-- ---- Slots as bytes

whole_again : (slots : List ℕ) → whole_words (bytes_of slots) ≡ slots
unfolding whole_words bytes_of
whole_again [] = refl
whole_again (word ∷ slots) = ap₂ ◌∷◌ (omega arith) (whole_again slots)

-- The words that an update leaves are the words of the bytes that a lookup reads.
pub words_again : (slots : List ℕ) → words (bytes_of slots) ≡ slots
unfolding words
words_again slots = rw (eq-eqb (length (bytes_of slots) % 4) 0 (omega (arith, four_each slots))) (whole_again slots)

-- The size asked of the slots is four bytes for each word, so a lookup and an update ask for the same memory.
pub slots_in_bytes : (t : Settings) (bytes : List ℕ) → (length (words bytes) ≡ slots_size t) ↔ (length bytes ≡ 4 * slots_size t)
unfolding slots_size
slots_in_bytes t bytes = (λ as_words. go (ℕ_discrete (length bytes % 4) 0) as_words, λ as_bytes. omega (arith, count_whole bytes (omega arith)))
  where
    go : Dec (length bytes % 4 ≡ 0) → length (words bytes) ≡ slots_size t → length bytes ≡ 4 * slots_size t
    go (yes whole) as_words = omega (arith, count_whole bytes whole)
    go (no broken) as_words = absurd (omega (arith, count_none bytes broken))

-- ---- Updates

-- a number that is a refusal's part alone
module _ (answer refusal : ℕ) (given : answer ≡ refusal * 2 ^ 48) where
  refusal_read : gateway_refusal answer ≡ refusal
  unfolding gateway_refusal
  refusal_read = omega arith

  refusal_alone : answer ≡ gateway_refusal answer * 2 ^ 48
  refusal_alone = rw refusal_read given

module _ {t : Settings} {call : Call} {m m' : Memory} {answer : ℕ} (made : Updated t call m answer m') where
  -- An update gives back its refusal, and leaves what the rules leave.
  pub update_read : act t call m ≡ record { refusal = gateway_refusal answer; memory = m' }
  update_read = ap₂ (λ r left. record { refusal = r; memory = left }) (sym (refusal_read answer _ made.crossed.number)) (sym made.crossed.memory)

  -- Every other bit of its number is zero.
  pub update_zero_elsewhere : answer ≡ gateway_refusal answer * 2 ^ 48
  update_zero_elsewhere = refusal_alone answer _ made.crossed.number

-- ---- Lists of addresses and written withdrawals

module _ {l : Listed} {answer : ℕ} {bytes : List ℕ} (crossed : ListCrossed l answer bytes) where
  -- Both give back their refusal, and leave the bytes that the rules leave.
  pub list_read : l ≡ answered (gateway_refusal answer) bytes
  list_read = ap₂ answered (sym (refusal_read answer _ crossed.number)) (sym crossed.results)

  -- Every other bit of the number is zero.
  pub list_zero_elsewhere : answer ≡ gateway_refusal answer * 2 ^ 48
  list_zero_elsewhere = refusal_alone answer _ crossed.number

-- ---- Lookups

-- found is 1 or 0, and read back from it
pub found_back : (n : ℕ) (found : Bool) → n ≡ one_if found → eqb n 1 ≡ found
unfolding one_if
found_back n true e = rw e
found_back n false e = rw e

-- the parts of an answer's number
record Parts (answer : ℕ) (r : Answer) : Type 0 where
  refusal : gateway_refusal answer ≡ r.refusal
  found : gateway_found answer ≡ one_if r.found
  hop : gateway_hop answer ≡ r.hop
  length : gateway_length answer ≡ r.length
  probes : gateway_probes answer ≡ r.probes

one_if_small : (found : Bool) → one_if found < 2
unfolding one_if
one_if_small true = omega arith
one_if_small false = omega arith

answer_parts : (r : Answer) → Fits r → Parts (answer_number r) r
unfolding gateway_refusal gateway_found gateway_hop gateway_length gateway_probes answer_number
answer_parts r fits = omega (arith, one_if_small r.found)

-- Over any bytes, also those that are not a whole number of words.
module _ (t : Settings) (counters bytes : List ℕ) (party address answer : ℕ) (given : answer ≡ c_lookup t counters bytes party address) where
  abbrev looked : Answer
  looked = lookup t (lent counters (words bytes)) party address

  parts : Parts answer looked
  unfolding c_lookup
  parts = rw given (answer_parts looked (lookup_fits t (lent counters (words bytes)) party address))

  -- What is read of a lookup is the answer of the rules.
  pub lookup_read : read_answer answer ≡ looked
  lookup_read = λ k. record {
    refusal = parts.refusal k;
    found = found_back _ looked.found parts.found k;
    hop = parts.hop k;
    length = parts.length k;
    probes = parts.probes k;
  }

  -- Found is 1 or 0.
  pub lookup_found : gateway_found answer ≡ one_if looked.found
  lookup_found = parts.found

  -- Every other bit of its number is zero.
  pub lookup_zero_elsewhere : answer ≡ gateway_refusal answer * 2 ^ 48 + gateway_found answer * 2 ^ 40 + gateway_hop answer * 2 ^ 16 + gateway_length answer * 2 ^ 8 + gateway_probes answer
  unfolding c_lookup answer_number
  lookup_zero_elsewhere = given ∙ rw (parts.refusal, parts.found, parts.hop, parts.length, parts.probes)

  -- Where it is refused, its number is the refusal alone.
  pub lookup_refused : gateway_refusal answer ≢ 0 → answer ≡ gateway_refusal answer * 2 ^ 48
  unfolding c_lookup answer_number refused one_if
  lookup_refused bad =
      given ∙ rw (parts.refusal, demand_1.lookup_refused t (lent counters (words bytes)) party address (λ good. bad (parts.refusal ∙ good))) (omega arith)

-- Over the memory of an update.
module _ {t : Settings} {m : Memory} {party address answer : ℕ} (asked : LookedUp t m party address answer) where
  -- The whole number,
  pub looked_up : answer ≡ answer_number (lookup t m party address)
  unfolding c_lookup
  looked_up = rw (words_again m.slots) at asked.crossed

  -- what is read of it,
  pub answer_read : read_answer answer ≡ lookup t m party address
  answer_read = rw (words_again m.slots) at (lookup_read t m.counters (bytes_of m.slots) party address answer asked.crossed)

  -- and found, which is 1 or 0.
  pub found_read : gateway_found answer ≡ one_if (lookup t m party address).found
  found_read = rw (words_again m.slots) at (lookup_found t m.counters (bytes_of m.slots) party address answer asked.crossed)

-- Two tables that answer an address alike for a party give the same number.
pub equal_lookups : {t : Settings} {m other : Memory} {party address answer new_answer : ℕ} → LookedUp t m party address answer → LookedUp t other party address new_answer
    → lookup t other party address ≡ lookup t m party address → new_answer ≡ answer
equal_lookups asked new_asked same = looked_up new_asked ∙ ap answer_number same ∙ sym (looked_up asked)

-- ---- Match vectors

vector_small : (t : Settings) (m : Memory) (address : ℕ) → (match_vector t m address).vector < 2 ^ 32
unfolding match_vector vector_of
vector_small t m address = go (eqb (memory_refusal t m 0) 0)
  where
    go : (b : Bool) → cond b (vector_of t m.counters address) 0 < 2 ^ 32
    go true = bits_lt _ 32
    go false = omega arith

module _ (t : Settings) (counters bytes : List ℕ) (address answer : ℕ) (given : answer ≡ c_match_vector t counters bytes address) where
  refusal_part : gateway_refusal answer ≡ (match_vector t (lent counters (words bytes)) address).refusal
  unfolding gateway_refusal c_match_vector vector_number
  refusal_part = let small = vector_small t (lent counters (words bytes)) address in omega arith

  vector_part : gateway_vector answer ≡ (match_vector t (lent counters (words bytes)) address).vector
  unfolding gateway_vector c_match_vector vector_number
  vector_part = let small = vector_small t (lent counters (words bytes)) address in omega arith

  -- What is read of a match vector is that of the rules.
  pub vector_read : read_vector answer ≡ match_vector t (lent counters (words bytes)) address
  vector_read = λ k. record { refusal = refusal_part k; vector = vector_part k }

  -- Every other bit of its number is zero.
  pub vector_zero_elsewhere : answer ≡ gateway_refusal answer * 2 ^ 48 + gateway_vector answer
  unfolding c_match_vector vector_number
  vector_zero_elsewhere = given ∙ rw (refusal_part, vector_part)

  -- Where it is refused, its number is the refusal alone.
  pub vector_refused : gateway_refusal answer ≢ 0 → answer ≡ gateway_refusal answer * 2 ^ 48
  vector_refused bad =
      let zero_given = demand_1.vector_refused t (lent counters (words bytes)) address (λ good. bad (refusal_part ∙ good)) in
      omega (arith, vector_zero_elsewhere, vector_part)

module _ {t : Settings} {m : Memory} {address answer : ℕ} (asked : Matched t m address answer) where
  -- The whole number, over the memory of an update,
  pub matched : answer ≡ vector_number (match_vector t m address)
  unfolding c_match_vector
  matched = rw (words_again m.slots) at asked.crossed

  -- and what is read of it.
  pub claims_read : read_vector answer ≡ match_vector t m address
  claims_read = rw (words_again m.slots) at (vector_read t m.counters (bytes_of m.slots) address answer asked.crossed)

-- Two tables that give an address the same vector give the same number.
pub equal_vectors : {t : Settings} {m other : Memory} {address answer new_answer : ℕ} → Matched t m address answer → Matched t other address new_answer
    → match_vector t other address ≡ match_vector t m address → new_answer ≡ answer
equal_vectors asked new_asked same = matched new_asked ∙ ap vector_number same ∙ sym (matched asked)

-- ---- Messages

-- the parts of a report's number do not meet
module _ (refusal refused accepted : ℕ) (few : refused < 2 ^ 12) (few_accepted : accepted < 2 ^ 12) where
  abbrev whole : ℕ
  whole = refusal * 2 ^ 48 + refused * 2 ^ 12 + accepted

  reads_refused : whole / 2 ^ 12 % 2 ^ 12 ≡ refused
  reads_refused =
      let above : whole / 2 ^ 12 ≡ refusal * 2 ^ 24 * 2 ^ 12 + refused = omega arith in
      rw above (low (refusal * 2 ^ 24) 12 few)

  reads_report : read_report whole ≡ record { refusal = refusal; accepted = accepted; refused = refused }
  unfolding gateway_refusal gateway_accepted gateway_refused
  reads_report =
      let first : gateway_refusal whole ≡ refusal = omega arith in
      let last : gateway_accepted whole ≡ accepted = omega arith in
      λ k. record { refusal = first k; accepted = last k; refused = reads_refused k }

module _ {t : Settings} {m m' : Memory} {party : ℕ} {message hops : List ℕ} {answer : ℕ} (sent : Sent t m party message hops answer m') where
  report_read : read_report answer ≡ (apply_message t m party message hops).report
  unfolding report_number
  report_read =
      let r = (apply_message t m party message hops).report in
      let fit = counts_fit t m party message hops in
      rw sent.crossed.number (reads_report r.refusal r.refused r.accepted fit.1 fit.0)

  -- What is read of a message is its report, and it leaves what the rules leave.
  pub message_read : apply_message t m party message hops ≡ record { report = read_report answer; memory = m' }
  message_read = ap₂ (λ r left. record { report = r; memory = left }) (sym report_read) (sym sent.crossed.memory)

  -- Every other bit of its number is zero.
  pub message_zero_elsewhere : answer ≡ gateway_refusal answer * 2 ^ 48 + gateway_refused answer * 2 ^ 12 + gateway_accepted answer
  unfolding report_number
  message_zero_elsewhere = sent.crossed.number ∙ ap report_number (sym report_read)

  -- Where it is refused, its number is the refusal alone.
  pub message_refused : gateway_refusal answer ≢ 0 → answer ≡ gateway_refusal answer * 2 ^ 48
  unfolding report_number refused_message
  message_refused bad =
      let its = ap (λ r. r.refusal) report_read in
      sent.crossed.number ∙ rw (its, refused_unchanged t m party message hops (λ good. bad (its ∙ good))) (omega arith)

-- Two tables that give a message the same report give the same number.
pub equal_messages : {t : Settings} {m m' other other' : Memory} {party : ℕ} {message hops : List ℕ} {answer new_answer : ℕ} → Sent t m party message hops answer m' → Sent t other party message hops new_answer other'
    → (apply_message t other party message hops).report ≡ (apply_message t m party message hops).report → new_answer ≡ answer
equal_messages sent new_sent same = new_sent.crossed.number ∙ ap report_number same ∙ sym sent.crossed.number

-- ---- Streams

module _ {C : Type 0} {t : Settings} {r : Reading C} {chunk : List ℕ} {s s' : Chunked} {answer : ℕ} (made : ChunkTaken t r s chunk answer s') where
  -- A chunk gives back its number, and leaves what the rules leave.
  pub chunk_read : next_chunk t r s chunk ≡ s'
  unfolding next_chunk
  chunk_read =
      let number = made.number ∙ refusal_read answer _ made.crossed.number in
      sym (ap (λ n. chunked n s'.counts s'.words s'.room s'.memory.counters s'.memory.slots) number ∙ made.crossed.leaves)

  -- Every other bit of its number is zero.
  pub chunk_zero_elsewhere : answer ≡ gateway_refusal answer * 2 ^ 48
  chunk_zero_elsewhere = refusal_alone answer _ made.crossed.number

module _ {u : End} {answer : ℕ} {words : List ℕ} (crossed : EndCrossed u answer words) where
  -- The end of a stream gives back its number, and leaves the words that the rules leave.
  pub end_read : u ≡ ended_as (gateway_refusal answer) words
  end_read = sym (ap (λ n. ended_as n words) (refusal_read answer _ crossed.number) ∙ crossed.leaves)

  -- Every other bit of the number is zero.
  pub end_zero_elsewhere : answer ≡ gateway_refusal answer * 2 ^ 48
  end_zero_elsewhere = refusal_alone answer _ crossed.number
