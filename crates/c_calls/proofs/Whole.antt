-- A list of D of another count and the 32 zeros that stand for it are both out of range, so every call gives either the same
-- number and leaves all that is lent as it was.
use Prim.Native.Nat.{ℕ}
use mathlib.Core.Path.{◌≡◌, refl, sym, ◌∙◌}
use mathlib.Core.Bool.{Bool, true, false, cond, not, ◌||◌, and-false}
use mathlib.Core.List.{List}
use lib.Dec.{ltb, eqb}
use lib.ListN.{length, replicate}
use Rattle.rules.specs.declared.Settings.{Settings}
use Rattle.rules.specs.Tools.{within, all}
use Rattle.rules.specs.Table.{list_in_range, in_range, Memory, lent, sized, words, refuse, memory_refusal, party_refusal, route_refusal, add_refusal, withdraw_refusal, change_refusal, unless_refused, clear, add, withdraw, change, match_vector, vector_number, c_match_vector, refused, lookup, answer_number, c_lookup, answered, listed, list_refusal, c_list_refusal, c_lookup_list}
use Rattle.difference_rules.specs.Comparing.{compared, with_count, difference_refusal, listing, c_difference}
use Rattle.message_format.specs.Reading.{message_refusal, refused_message, apply_message}
use Rattle.stream_format.specs.Kept.{is_ended, ended_number}
use Rattle.stream_format.specs.Chunks.{Reading, chunk_refusal, as_it_was, take_chunk}
use Rattle.import_format.specs.Importing.{importing, import_chunk}
use Rattle.replay_format.specs.Replaying.{replaying, replay_chunk}
use Rattle.c_calls.specs.Lent.{settings_of, whole}

outside : (t : Settings) → list_in_range t.d ≡ false → in_range t ≡ false
unfolding in_range
outside t out = rw out (and-false (within 1 8 t.k))

other_out : (d : List ℕ) → eqb (length d) 32 ≡ false → list_in_range d ≡ false
unfolding list_in_range
other_out d other = rw other

zeros_out : list_in_range (replicate 32 0) ≡ false
unfolding list_in_range all within
zeros_out = refl

-- settings out of range get 1, whatever is checked after
is_1 : (t : Settings) → in_range t ≡ false → (m : Memory) (after : ℕ) → memory_refusal t m after ≡ 1
unfolding memory_refusal refuse
is_1 t out m after = rw out

-- with a check of another number before it, it is refused too
refused_after : (bad : Bool) → eqb (refuse bad 19 1) 0 ≡ false
unfolding refuse
refused_after true = refl
refused_after false = refl

-- and after another table's checks
refused_before : (t : Settings) (m : Memory) → eqb (memory_refusal t m 1) 0 ≡ false
unfolding memory_refusal refuse
refused_before t m = go (not (in_range t)) (not (sized t m))
  where
    go : (out off : Bool) → eqb (cond out 1 (cond off 2 1)) 0 ≡ false
    go true off = refl
    go false true = refl
    go false false = refl

-- what settings t give, made of a lent list, is what the list gives
module _ {t : Settings} {k e s a b c : ℕ} (d : List ℕ) (made : t ≡ settings_of k (whole d) e s a b c) where
  alike : {X : Type 0} (call : Settings → X) (stopped : X) → ((u : Settings) → in_range u ≡ false → call u ≡ stopped) → call (settings_of k d e s a b c) ≡ call t
  unfolding whole
  alike call stopped stops = rw made (go (eqb (length d) 32) refl)
    where
      go : (counted : Bool) → eqb (length d) 32 ≡ counted → call (settings_of k d e s a b c) ≡ call (settings_of k (cond counted d (replicate 32 0)) e s a b c)
      go true h = refl
      go false h = stops _ (outside _ (other_out d h)) ∙ sym (stops _ (outside _ zeros_out))

  pub clear_alike : (m : Memory) → clear (settings_of k d e s a b c) m ≡ clear t m
  unfolding clear unless_refused
  clear_alike m = alike (λ u. clear u m) (record { refusal = 1; memory = m }) (λ u out. rw (is_1 u out))

  pub add_alike : (m : Memory) (party p L hop : ℕ) → add (settings_of k d e s a b c) m party p L hop ≡ add t m party p L hop
  unfolding add add_refusal party_refusal unless_refused
  add_alike m party p L hop = alike (λ u. add u m party p L hop) (record { refusal = 1; memory = m }) (λ u out. rw (is_1 u out))

  pub withdraw_alike : (m : Memory) (party p L : ℕ) → withdraw (settings_of k d e s a b c) m party p L ≡ withdraw t m party p L
  unfolding withdraw withdraw_refusal route_refusal party_refusal unless_refused
  withdraw_alike m party p L = alike (λ u. withdraw u m party p L) (record { refusal = 1; memory = m }) (λ u out. rw (is_1 u out))

  pub change_alike : (m : Memory) (party p L hop : ℕ) → change (settings_of k d e s a b c) m party p L hop ≡ change t m party p L hop
  unfolding change change_refusal route_refusal party_refusal unless_refused
  change_alike m party p L hop = alike (λ u. change u m party p L hop) (record { refusal = 1; memory = m }) (λ u out. rw (is_1 u out))

  pub message_alike : (m : Memory) (party : ℕ) (message hops : List ℕ) → apply_message (settings_of k d e s a b c) m party message hops ≡ apply_message t m party message hops
  unfolding apply_message message_refusal party_refusal
  message_alike m party message hops = alike (λ u. apply_message u m party message hops) (refused_message 1 m) (λ u out. rw (is_1 u out))

  chunk_alike : {C : Type 0} (r : Reading C) (m : Memory) (counts words room chunk : List ℕ)
      → take_chunk (settings_of k d e s a b c) r m counts words room chunk ≡ take_chunk t r m counts words room chunk
  unfolding take_chunk chunk_refusal party_refusal
  chunk_alike r m counts words room chunk =
      let bad = ltb 65536 (length chunk) || r.counts_high (r.counts_of counts) in
      alike (λ u. take_chunk u r m counts words room chunk)
      (cond (is_ended words) (as_it_was (ended_number words) m counts words room) (as_it_was (refuse bad 19 1) m counts words room))
      (λ u out. rw (is_1 u out, refused_after bad))

  pub import_alike : (m : Memory) (party : ℕ) (hops counts words room chunk : List ℕ)
      → import_chunk (settings_of k d e s a b c) m party hops counts words room chunk ≡ import_chunk t m party hops counts words room chunk
  unfolding import_chunk
  import_alike m party hops = chunk_alike (importing party hops) m

  pub replay_alike : (m : Memory) (party : ℕ) (hops tally words room chunk : List ℕ)
      → replay_chunk (settings_of k d e s a b c) m party hops tally words room chunk ≡ replay_chunk t m party hops tally words room chunk
  unfolding replay_chunk
  replay_alike m party hops = chunk_alike (replaying party hops) m

  pub vector_alike : (counters slots : List ℕ) (address : ℕ) → c_match_vector (settings_of k d e s a b c) counters slots address ≡ c_match_vector t counters slots address
  unfolding c_match_vector match_vector
  vector_alike counters slots address = alike (λ u. c_match_vector u counters slots address) (vector_number (record { refusal = 1; vector = 0 })) (λ u out. rw (is_1 u out))

  pub lookup_alike : (counters slots : List ℕ) (party address : ℕ) → c_lookup (settings_of k d e s a b c) counters slots party address ≡ c_lookup t counters slots party address
  unfolding c_lookup lookup party_refusal
  lookup_alike counters slots party address = alike (λ u. c_lookup u counters slots party address) (answer_number (refused 1)) (λ u out. rw (is_1 u out))

  pub list_alike : (counters slots : List ℕ) (party : ℕ) (addresses results : List ℕ)
      → c_lookup_list (settings_of k d e s a b c) counters slots party addresses results ≡ c_lookup_list t counters slots party addresses results
  unfolding c_lookup_list listed c_list_refusal list_refusal party_refusal
  list_alike counters slots party addresses results = alike (λ u. c_lookup_list u counters slots party addresses results) (answered 1 results) (λ u out. rw (is_1 u out))

  -- of a comparison the first table's settings, and the second's
  pub first_alike : (counters slots : List ℕ) (u : Settings) (counters2 slots2 : List ℕ) (party : ℕ) (list : List ℕ)
      → c_difference (settings_of k d e s a b c) counters slots u counters2 slots2 party list ≡ c_difference t counters slots u counters2 slots2 party list
  unfolding c_difference difference_refusal listing
  first_alike counters slots u counters2 slots2 party list =
      alike (λ v. c_difference v counters slots u counters2 slots2 party list) (compared (with_count 1 0) list) (λ v out. rw (is_1 v out))

  pub second_alike : (u : Settings) (counters slots counters2 slots2 : List ℕ) (party : ℕ) (list : List ℕ)
      → c_difference u counters slots (settings_of k d e s a b c) counters2 slots2 party list ≡ c_difference u counters slots t counters2 slots2 party list
  unfolding c_difference difference_refusal party_refusal listing
  second_alike u counters slots counters2 slots2 party list =
      let first = lent counters (words slots) in
      alike (λ v. c_difference u counters slots v counters2 slots2 party list) (compared (with_count (memory_refusal u first 1) 0) list) (λ v out. rw (is_1 v out, refused_before u first))
