-- gateway_list_differences: over slots and a list in bytes, the number that comes back and the bytes that are left. What is read of
-- difference i is the i-th of the rules' differences, so that each promise of crates/difference_promises holds of what is read.
use Prim.Native.Nat.{ℕ, ◌+◌, ◌*◌, ◌^◌, ◌≤◌, ◌<◌}
use mathlib.Core.Path.{◌≡◌, refl, sym, ap, ap₂, ◌∙◌}
use mathlib.Core.List.{List, [], ◌∷◌, ◌++◌, map, append-nil}
use mathlib.Core.Logic.{◌↔◌, ◌≢◌}
use native.Mathlib.Decide.{ℕ_discrete}
use native.Mathlib.Omega.{arith}
use lib.Dec.{ltb}
use lib.ListN.{length, get_or, take, drop, replicate, length-replicate, length-append, length-drop, get_or-append, get_or-map}
use lib.Seq.{get_or-take, get_or-drop, take_at, drop_at}
use borrow.Author.Tests.{ltb-false, lt-ltb, le-ltb}
use Rattle.rules.specs.declared.Settings.{Settings}
use Rattle.rules.specs.Tools.{all}
use Rattle.rules.specs.Table.{Memory, lent, words, refuse, memory_refusal, party_refusal, bytes_of}
use Rattle.rules.specs.Calls.{Call}
use Rattle.rules.proofs.Refusals.{passed, Fitted, PartyFitted, stopped, let_by}
use Rattle.words.specs.Laws.{four_each}
use Rattle.difference_rules.specs.declared.Difference.{Difference}
use Rattle.difference_rules.specs.Comparing.{Compared, compared, with_count, over, between, differences, difference_words, difference_refusal, listing, difference, differences_number, c_difference}
use Rattle.difference_rules.proofs.Few.{four_words, few}
use Rattle.difference_rules.proofs.Checks.{refused_listing, accepted_listing, listing_number, none_listing, checks_exchanged, checked_twice}
use Rattle.difference_calls.proofs.Ends.{tables_passing, tables_passed}
use Rattle.gateway.specs.Crossing.{ComparisonCrossed}
use Rattle.promises.specs.History.{stored_by, History}
use Rattle.promises.specs.Demands.{Condition, ◌when◌, memory_conditions, party_conditions, NoneMet, FirstMet}
use Rattle.promises.proofs.Conditions.{first_met, numbered, given_exactly, none_exactly, memory_then, party_then}
use Rattle.promises.proofs.Promises.{checks_passed}
use Rattle.difference_promises.specs.Differing.{place, exchange}
use Rattle.difference_promises.specs.Paper.{paper_has, Within}
use Rattle.difference_promises.proofs.Refused.{words_place}
use Rattle.difference_promises.proofs.Promises.{differences_of_papers, same_routes_none, between_exchanged, exchanged_length, same_table_none}
use Rattle.c_promises.specs.Numbers.{gateway_refusal, gateway_count, read_differences, word_at, read_difference}
use Rattle.c_promises.specs.Calls.{TablesCompared, comparison_conditions}
use Rattle.c_promises.proofs.Unpacking.{words_again}
use Rattle.c_promises.proofs.Lists.{word_again}

-- ---- The bytes of a list of differences

-- sixteen for each
sixteen_bytes : (ds : List Difference) → length (bytes_of (difference_words ds)) ≡ 16 * length ds
sixteen_bytes ds = omega (arith, four_each (difference_words ds), four_words ds)

-- a word of what stands in front
front_word : (front rest : List ℕ) (from : ℕ) → from + 3 < length front → word_at (front ++ rest) from ≡ word_at front from
unfolding word_at
front_word front rest from h =
    rw (
      get_or-append front rest 0 from (omega arith),
      get_or-append front rest 0 (from + 1) (omega arith),
      get_or-append front rest 0 (from + 2) (omega arith),
      get_or-append front rest 0 (from + 3) (omega arith),
    )

module _ (ds : List Difference) (rest : List ℕ) (i : ℕ) (there : i < length ds) where
  its_word : (k from : ℕ) → k < 4 → from ≡ 4 * (4 * i + k) → word_at (bytes_of (difference_words ds) ++ rest) from ≡ get_or (difference_words (place ds i ∷ [])) k 0
  its_word k from four e =
      let left = difference_words ds in
      rw e
      (front_word (bytes_of left) rest (4 * (4 * i + k)) (omega (arith, sixteen_bytes ds))
      ∙ word_again left (4 * i + k) (omega (arith, four_words ds))
      ∙ sym (get_or-take 4 (drop (4 * i) left) k 0 four ∙ get_or-drop (4 * i) left k 0)
      ∙ ap (λ (its : List ℕ). get_or its k 0) (rw append-nil at (words_place ds i there [])))

  reads_difference : read_difference (bytes_of (difference_words ds) ++ rest) i ≡ place ds i
  unfolding difference_words
  reads_difference = λ k. record {
    length = its_word 0 (16 * i) (omega arith) (omega arith) k;
    prefix = its_word 1 (16 * i + 4) (omega arith) (omega arith) k;
    first = its_word 2 (16 * i + 8) (omega arith) (omega arith) k;
    second = its_word 3 (16 * i + 12) (omega arith) (omega arith) k;
  }

-- ---- Any comparison, on any settings, bytes, party and list

module _ (t : Settings) (counters slots : List ℕ) (u : Settings) (other_counters others : List ℕ) (party : ℕ) (list : List ℕ) (answer : ℕ) (list' : List ℕ)
    (crossed : ComparisonCrossed (c_difference t counters slots u other_counters others party list) answer list') where
  -- the differences of the two tables
  abbrev found : List Difference
  found = between t (words slots) u (words others) party

  abbrev written : List ℕ
  written = bytes_of (difference_words found)

  abbrev gave : Compared
  gave = c_difference t counters slots u other_counters others party list

  -- what the checks give
  checked : ℕ
  checked = difference_refusal t (lent counters (words slots)) u (lent other_counters (words others)) party (length written) (length list)

  gave_none : checked ≢ 0 → gave ≡ compared (with_count checked 0) list
  unfolding c_difference checked
  gave_none bad = refused_listing checked (length found) written list refl bad

  gave_all : checked ≡ 0 → gave ≡ compared (with_count 0 (length found)) (over written list)
  unfolding c_difference checked
  gave_all good = accepted_listing checked (length found) written list refl good

  -- what checks that were passed tell
  fitted : checked ≡ 0 → Fitted t counters (words slots) × PartyFitted u other_counters (words others) party × (length written ≤ length list)
  unfolding checked difference_refusal
  fitted good =
      let told = tables_passed t counters (words slots) u other_counters (words others) party _ good in
      (told.0, told.1, ltb-false _ _ (passed (ltb (length list) (length written)) 17 0 told.2).0)

  few_given : gave.answer.count < 2 ^ 32
  few_given = go (ℕ_discrete checked 0)
    where
      go : Dec (checked ≡ 0) → gave.answer.count < 2 ^ 32
      go (yes good) = rw (gave_all good) (few t (words slots) u (words others) party (fitted good).0.range (fitted good).1.memory.range)
      go (no bad) = rw (gave_none bad) (omega arith)

  -- What is read of a comparison is the answer of the rules.
  pub differences_read : read_differences answer ≡ gave.answer
  unfolding gateway_refusal gateway_count differences_number
  differences_read =
      let refusal : gateway_refusal answer ≡ gave.answer.refusal = omega (arith, crossed.number, few_given) in
      let count : gateway_count answer ≡ gave.answer.count = omega (arith, crossed.number, few_given) in
      λ k. record { refusal = refusal k; count = count k }

  -- Every other bit of its number is zero.
  pub differences_zero_elsewhere : answer ≡ gateway_refusal answer * 2 ^ 48 + gateway_count answer
  unfolding differences_number
  differences_zero_elsewhere = crossed.number ∙ ap differences_number (sym differences_read)

  its_refusal : gateway_refusal answer ≡ checked
  unfolding c_difference checked
  its_refusal = ap (λ r. r.refusal) differences_read ∙ listing_number checked (length found) written list

  abbrev compared_conditions : List Condition
  compared_conditions = comparison_conditions t counters slots u other_counters others party list

  comparison_first : gateway_refusal answer ≡ first_met compared_conditions
  unfolding checked difference_refusal comparison_conditions first_met memory_conditions
  comparison_first =
      let last : List Condition = (18 when ltb (length list) (16 * length found)) ∷ [] in
      let first = lent counters (words slots) in
      let second = lent other_counters (words others) in
      its_refusal ∙ rw (sixteen_bytes found) (ap (memory_refusal t first) (party_then u second party last) ∙ memory_then t first (party_conditions u second party ++ last))

  -- A number is given exactly if its condition is met and none is of those before it in the list.
  pub comparison_number : (k : ℕ) → 1 ≤ k → (gateway_refusal answer ≡ k) ↔ FirstMet k compared_conditions
  comparison_number = given_exactly compared_conditions comparison_first

  -- The comparison is accepted exactly if no condition is met.
  pub comparison_accepted_exactly : (gateway_refusal answer ≡ 0) ↔ NoneMet compared_conditions
  unfolding numbered all comparison_conditions memory_conditions party_conditions
  comparison_accepted_exactly = none_exactly compared_conditions comparison_first refl

  -- These are its numbers, in that order: settings and sizes of the first table, those of the second, the party, the list.
  pub comparison_numbers_listed : map (λ c. c.number) compared_conditions ≡ 1 ∷ 2 ∷ 1 ∷ 2 ∷ 15 ∷ 18 ∷ []
  unfolding comparison_conditions memory_conditions party_conditions
  comparison_numbers_listed = refl

  -- A refused comparison counts nothing, and leaves every byte of the list as it was.
  pub comparison_refused : gateway_refusal answer ≢ 0 → (gateway_count answer ≡ 0) × (list' ≡ list)
  comparison_refused bad =
      let none = gave_none (λ good. bad (its_refusal ∙ good)) in
      (ap (λ r. r.count) differences_read ∙ ap (λ c. c.answer.count) none, crossed.list ∙ ap (λ c. c.list) none)

  module _ (accepted : gateway_refusal answer ≡ 0) where
    all_given : gave ≡ compared (with_count 0 (length found)) (over written list)
    all_given = gave_all (sym its_refusal ∙ accepted)

    -- An accepted one counts the differences,
    pub count_read : gateway_count answer ≡ length found
    count_read = ap (λ r. r.count) differences_read ∙ ap (λ c. c.answer.count) all_given

    -- has sixteen bytes for each of them,
    pub list_room : 16 * gateway_count answer ≤ length list
    list_room = omega (arith, count_read, sixteen_bytes found, (fitted (sym its_refusal ∙ accepted)).2)

    list_left : list' ≡ over written list
    list_left = crossed.list ∙ ap (λ c. c.list) all_given

    -- has the i-th of them in the i-th sixteen,
    pub difference_read : (i : ℕ) → i < gateway_count answer → read_difference list' i ≡ place found i
    unfolding over
    difference_read i there = rw list_left (reads_difference found (drop (length written) list) i (omega (arith, count_read)))

    -- and leaves every byte behind them as it was.
    pub rest_left : drop (16 * gateway_count answer) list' ≡ drop (16 * gateway_count answer) list
    unfolding over
    rest_left =
        let size : length written ≡ 16 * gateway_count answer = omega (arith, count_read, sixteen_bytes found) in
        rw list_left (drop_at written _ _ size ∙ ap (λ (k : ℕ). drop k list) size)

  -- There are as many bytes after the call as before.
  pub compared_size : length list' ≡ length list
  unfolding over
  compared_size = go (ℕ_discrete (gateway_refusal answer) 0)
    where
      go : Dec (gateway_refusal answer ≡ 0) → length list' ≡ length list
      go (yes good) = rw (list_left good, length-append, length-drop) (omega (arith, (fitted (sym its_refusal ∙ good)).2))
      go (no bad) = ap length (comparison_refused bad).1

-- ---- Over the memory of updates

module _ {t : Settings} {m : Memory} {u : Settings} {n : Memory} {party : ℕ} {list : List ℕ} {answer : ℕ} {list' : List ℕ} (asked : TablesCompared t m u n party list answer list') where
  asked_refusal : gateway_refusal answer ≡ difference_refusal t m u n party (16 * length (between t m.slots u n.slots party)) (length list)
  unfolding checked
  asked_refusal =
      rw (sixteen_bytes, words_again m.slots, words_again n.slots) at
      (its_refusal t m.counters (bytes_of m.slots) u n.counters (bytes_of n.slots) party list answer list' asked.crossed)

  module _ (accepted : gateway_refusal answer ≡ 0) where
    -- An accepted comparison counts the differences of the two tables,
    pub tables_counted : gateway_count answer ≡ length (between t m.slots u n.slots party)
    tables_counted =
        rw (words_again m.slots, words_again n.slots) at
        (count_read t m.counters (bytes_of m.slots) u n.counters (bytes_of n.slots) party list answer list' asked.crossed accepted)

    -- and what is read of difference i is the i-th of them.
    pub tables_read : (i : ℕ) → i < gateway_count answer → read_difference list' i ≡ place (between t m.slots u n.slots party) i
    tables_read =
        rw (words_again m.slots, words_again n.slots) at
        (difference_read t m.counters (bytes_of m.slots) u n.counters (bytes_of n.slots) party list answer list' asked.crossed accepted)

  -- where nothing differs, only tables and party are checked, and the list stays as it was
  none_crossed : between t m.slots u n.slots party ≡ []
      → c_difference t m.counters (bytes_of m.slots) u n.counters (bytes_of n.slots) party list ≡ compared (with_count (memory_refusal t m (party_refusal u n party 0)) 0) list
  unfolding c_difference difference_words bytes_of
  none_crossed none = rw (words_again m.slots, words_again n.slots, none) (none_listing t m u n party list)

-- A table compared with itself: 0 differences are read, unless the table is given 1 or 2 or the party 15, and every byte of the list stays as it was.
pub same_table_read : {t : Settings} {m : Memory} {party : ℕ} {list : List ℕ} {answer : ℕ} {list' : List ℕ} → TablesCompared t m t m party list answer list'
    → (read_differences answer ≡ with_count (party_refusal t m party 0) 0) × (list' ≡ list)
same_table_read {t} {m} {party} {list} {answer} {list'} asked =
    let none = none_crossed asked (same_table_none t m.slots party) in (
      differences_read t m.counters (bytes_of m.slots) t m.counters (bytes_of m.slots) party list answer list' asked.crossed
          ∙ ap (λ c. c.answer) none ∙ ap (λ (k : ℕ). with_count k 0) (checked_twice t m party 0),
      asked.crossed.list ∙ ap (λ c. c.list) none,
    )

-- ---- The two tables exchanged

-- lists of one size are long enough for both
accepted_back : {t : Settings} {m : Memory} {u : Settings} {n : Memory} {party : ℕ} {list other_list : List ℕ} {answer other_answer : ℕ} {list' other_list' : List ℕ}
    → TablesCompared t m u n party list answer list' → TablesCompared u n t m party other_list other_answer other_list' → length list ≡ length other_list
    → gateway_refusal answer ≡ 0 → gateway_refusal other_answer ≡ 0
accepted_back {t} {m} {u} {n} {party} asked other same good =
    asked_refusal other
    ∙ rw (exchanged_length t m.slots u n.slots party, ← same) (checks_exchanged t m u n party _ _ (sym (asked_refusal asked) ∙ good))

module _ {t : Settings} {m : Memory} {u : Settings} {n : Memory} {party : ℕ} {list other_list : List ℕ} {answer other_answer : ℕ} {list' other_list' : List ℕ}
    (asked : TablesCompared t m u n party list answer list') (other : TablesCompared u n t m party other_list other_answer other_list') where
  -- With lists of one size, the one is accepted exactly if the other is.
  pub exchanged_accepted : length list ≡ length other_list → (gateway_refusal answer ≡ 0) ↔ (gateway_refusal other_answer ≡ 0)
  exchanged_accepted same = (accepted_back asked other same, accepted_back other asked (sym same))

  -- Where both are, they count the same, and difference i of the one is read as that of the other, told the other way round.
  pub exchanged_read : gateway_refusal answer ≡ 0 → gateway_refusal other_answer ≡ 0
      → (gateway_count other_answer ≡ gateway_count answer) × ((i : ℕ) → i < gateway_count answer → read_difference other_list' i ≡ exchange (read_difference list' i))
  exchanged_read good also =
      let counts : gateway_count other_answer ≡ gateway_count answer =
      tables_counted other also ∙ exchanged_length t m.slots u n.slots party ∙ sym (tables_counted asked good) in (
        counts,
        λ i there.
            tables_read other also i (rw counts there)
            ∙ ap (λ (ds : List Difference). place ds i) (between_exchanged t m.slots u n.slots party)
            ∙ get_or-map exchange (between t m.slots u n.slots party) i _
            ∙ ap exchange (sym (tables_read asked good i there)),
      )

-- ---- After two histories, each under settings of its own

module _ {t u : Settings} {calls others : List Call} {answers other_answers : List ℕ} {m n : Memory} (history : History t calls answers m) (other_history : History u others other_answers n)
    {party : ℕ} {list : List ℕ} {answer : ℕ} {list' : List ℕ} (asked : TablesCompared t m u n party list answer list') where
  -- the differences of the party's papers
  abbrev on_papers : List Difference
  on_papers = differences (paper_has (stored_by calls answers) party) (paper_has (stored_by others other_answers) party)

  -- its number is read off the party, the differences and the size of the list
  comparison_given : gateway_refusal answer ≡ refuse (ltb 1 party) 15 (refuse (ltb (length list) (16 * length (between t m.slots u n.slots party))) 18 0)
  unfolding difference_refusal party_refusal
  comparison_given = asked_refusal asked ∙ checks_passed history _ ∙ checks_passed other_history _

  -- One of a party above 1 is refused with 15.
  pub comparison_above : 1 < party → gateway_refusal answer ≡ 15
  unfolding refuse
  comparison_above above = comparison_given ∙ rw (lt-ltb _ _ above)

  module _ (known : party ≤ 1) where
    -- A party's is accepted exactly if the list has sixteen bytes for each difference of its papers.
    pub comparison_accepted : (gateway_refusal answer ≡ 0) ↔ (16 * length on_papers ≤ length list)
    unfolding refuse
    comparison_accepted =
        let papers = differences_of_papers history other_history party known in (
          λ good. rw (tables_counted asked good, papers) at
              (list_room t m.counters (bytes_of m.slots) u n.counters (bytes_of n.slots) party list answer list' asked.crossed good),
          λ room. comparison_given ∙ rw (papers, le-ltb _ _ known, le-ltb _ _ room),
        )

    module _ (accepted : gateway_refusal answer ≡ 0) where
      -- Then it counts the differences of the papers,
      pub papers_counted : gateway_count answer ≡ length on_papers
      papers_counted = tables_counted asked accepted ∙ ap length (differences_of_papers history other_history party known)

      -- and what is read of difference i is the i-th of them.
      pub papers_read : (i : ℕ) → i < gateway_count answer → read_difference list' i ≡ place on_papers i
      papers_read i there = tables_read asked accepted i there ∙ ap (λ (ds : List Difference). place ds i) (differences_of_papers history other_history party known)

    -- Where each of the party's routes in one table is in the other, and the other way, the number is 0, which is accepted with 0
    -- differences, and every byte of the list stays as it was, whatever its size.
    pub same_routes_read : Within party (stored_by calls answers) (stored_by others other_answers) → Within party (stored_by others other_answers) (stored_by calls answers)
        → (answer ≡ 0) × (list' ≡ list)
    unfolding party_refusal refuse differences_number
    same_routes_read there back =
        let none = none_crossed asked (same_routes_none history other_history party known there back) in
        let good : memory_refusal t m (party_refusal u n party 0) ≡ 0 = checks_passed history _ ∙ checks_passed other_history _ ∙ rw (le-ltb _ _ known) in (
          asked.crossed.number ∙ ap (λ c. differences_number c.answer) none ∙ rw good,
          asked.crossed.list ∙ ap (λ c. c.list) none,
        )

-- ---- Tables that compare alike over every list of words, as those of demand 3 do

module _ (t : Settings) (m : Memory) (u : Settings) (n : Memory) (party : ℕ) (list : List ℕ) where
  abbrev differing : List Difference
  differing = between t m.slots u n.slots party

  -- what the checks of the tables give
  abbrev tables : ℕ
  tables = memory_refusal t m (party_refusal u n party 0)

  abbrev over_bytes : Compared
  over_bytes = c_difference t m.counters (bytes_of m.slots) u n.counters (bytes_of n.slots) party list

  -- a list of words that is long enough
  ample : length (difference_words differing) ≤ length list → difference t m u n party list ≡ listing tables (length differing) (difference_words differing) list
  unfolding difference difference_refusal refuse
  ample room = rw (le-ltb _ _ room)

  -- a list of bytes, where the tables are refused and where they are not
  held_up : tables ≢ 0 → over_bytes ≡ compared (with_count tables 0) list
  unfolding c_difference difference_refusal
  held_up bad = rw (words_again m.slots, words_again n.slots) (refused_listing _ _ _ list (stopped (tables_passing t m u n party) refl bad _) bad)

  let_in : tables ≡ 0 → over_bytes ≡ listing (refuse (ltb (length list) (length (bytes_of (difference_words differing)))) 18 0) (length differing) (bytes_of (difference_words differing)) list
  unfolding c_difference difference_refusal
  let_in good = rw (words_again m.slots, words_again n.slots) (ap (λ (k : ℕ). listing k (length differing) (bytes_of (difference_words differing)) list) (let_by (tables_passing t m u n party) refl good _))

module _ (t : Settings) (m : Memory) (u : Settings) (n : Memory) (v : Settings) (other : Memory) (w : Settings) (others : Memory) (party : ℕ)
    (alike : (list : List ℕ) → difference t m u n party list ≡ difference v other w others party list) (list : List ℕ) where
  abbrev first : List Difference
  first = differing t m u n party list

  abbrev second : List Difference
  second = differing v other w others party list

  -- words for the differences of both
  zeros : List ℕ
  zeros = replicate (length (difference_words first) + length (difference_words second)) 0

  both : listing (tables t m u n party list) (length first) (difference_words first) zeros ≡ listing (tables v other w others party list) (length second) (difference_words second) zeros
  unfolding zeros
  both =
      let many = length-replicate {A = ℕ} (length (difference_words first) + length (difference_words second)) 0 in
      sym (ample t m u n party zeros (omega (arith, many))) ∙ alike zeros ∙ ample v other w others party zeros (omega (arith, many))

  numbers : tables t m u n party list ≡ tables v other w others party list
  numbers = sym (listing_number _ _ _ zeros) ∙ ap (λ c. c.answer.refusal) both ∙ listing_number _ _ _ zeros

  bytes_alike : over_bytes t m u n party list ≡ over_bytes v other w others party list
  unfolding over
  bytes_alike = go (ℕ_discrete (tables t m u n party list) 0)
    where
      go : Dec (tables t m u n party list ≡ 0) → over_bytes t m u n party list ≡ over_bytes v other w others party list
      go (yes good) =
          let none = sym numbers ∙ good in
          let same = sym (accepted_listing _ _ _ zeros refl good) ∙ both ∙ accepted_listing _ _ _ zeros refl none in
          let counts : length first ≡ length second = ap (λ c. c.answer.count) same in
          let written_alike : difference_words first ≡ difference_words second =
          sym (take_at _ _ _ (four_words first)) ∙ ap₂ (λ (k : ℕ) (l : List ℕ). take (4 * k) l) counts (ap (λ c. c.list) same) ∙ take_at _ _ _ (four_words second) in
          let_in t m u n party list good
          ∙ ap₂ (λ (k : ℕ) (l : List ℕ). listing (refuse (ltb (length list) (length (bytes_of l))) 18 0) k (bytes_of l) list) counts written_alike
          ∙ sym (let_in v other w others party list none)
      go (no bad) = held_up t m u n party list bad ∙ ap (λ (k : ℕ). compared (with_count k 0) list) numbers ∙ sym (held_up v other w others party list (λ none. bad (numbers ∙ none)))

-- They give a C program the same number, and leave the same bytes.
pub equal_comparisons : {t u v w : Settings} {m n other others : Memory} {party : ℕ} {list : List ℕ} {answer new_answer : ℕ} {list' new_list' : List ℕ}
    → TablesCompared v other w others party list answer list' → TablesCompared t m u n party list new_answer new_list'
    → ((list : List ℕ) → difference t m u n party list ≡ difference v other w others party list) → (new_answer ≡ answer) × (new_list' ≡ list')
equal_comparisons {t} {u} {v} {w} {m} {n} {other} {others} {party} {list} asked new_asked alike =
    let same = bytes_alike t m u n v other w others party alike list in (
      new_asked.crossed.number ∙ ap (λ c. differences_number c.answer) same ∙ sym asked.crossed.number,
      new_asked.crossed.list ∙ ap (λ c. c.list) same ∙ sym asked.crossed.list,
    )
