-- Where counters and slots lie: digits of a fixed base carry it, as a place is a quotient and a remainder.
use Prim.Native.Nat.{ℕ, zero, suc, ◌+◌, ◌-◌, ◌*◌, ◌/◌, ◌%◌, ◌^◌, ◌≤◌, ◌<◌}
use mathlib.Core.Path.{◌≡◌, refl, sym, ap, ◌∙◌, subst}
use mathlib.Core.Bool.{Bool, true, false}
use mathlib.Core.List.{List, [], ◌∷◌}
use mathlib.Core.Logic.{◌⊎◌, inl, inr, ◌≢◌}
use native.Mathlib.Nat.{not-suc-le-zero, le_of_suc-le-suc, lt_of_not-le, le_antisymm, mod-lt, mul_assoc, add_left_cancel, add_assoc, add-sub_cancel, zero-add}
use native.Mathlib.Omega.{arith}
use lib.Dec.{eqb, ltb}
use borrow.Author.Tests.{eqb-true, ltb-true, ltb-false}
use lib.Arith.{digits_lt, digits_div, digits_mod}
use lib.ListN.{length, get_or, take, length-map}
use lib.Seq.{take_all}
use lib.Pow.{pow_pos, pow_mono, shr_lt}
use Rattle.rules.specs.declared.Settings.{Settings}
use Rattle.rules.specs.Tools.{within, all, count}
use Rattle.rules.specs.Table.{list_in_range, in_range, wrap, steps, filter_bits, positions, bucket, filters_size, counters_size, filter_start, counter_place, counter_places, slots_size, slot_number, prefix_word, mark_word, default_word, hits}
use Rattle.rules.specs.Ready.{Ready}
use Rattle.rules.proofs.Members.{Among, both, within_true, all_at, among_none, among_cases, among_map, count_map}

-- ---- Settings

-- settings in range, as numbers
pub record Ranges (t : Settings) : Type 0 where
  pub k_low : 1 ≤ t.k
  pub k_high : t.k ≤ 8
  pub d_count : length t.d ≡ 32
  pub d_each : all (within 4 11) t.d ≡ true
  pub e_high : t.e ≤ 8
  pub s_low : 1 ≤ t.s
  pub s_high : t.s ≤ 8

pub ranges : (t : Settings) → in_range t ≡ true → Ranges t
unfolding in_range list_in_range
ranges t h =
    let k = both (within 1 8 t.k) _ h in
    let d = both (list_in_range t.d) _ k.1 in
    let e = both (within 0 8 t.e) _ d.1 in
    let k_in = within_true 1 8 t.k k.0 in
    let d_in = both (eqb (length t.d) 32) _ d.0 in
    let e_in = within_true 0 8 t.e e.0 in
    let s_in = within_true 1 8 t.s e.1 in
    record {
      k_low = k_in.0;
      k_high = k_in.1;
      d_count = eqb-true _ _ d_in.0;
      d_each = d_in.1;
      e_high = e_in.1;
      s_low = s_in.0;
      s_high = s_in.1;
    }

-- among them the list of D
pub list_good : (t : Settings) → in_range t ≡ true → list_in_range t.d ≡ true
unfolding in_range
list_good t h = (both (list_in_range t.d) _ (both (within 1 8 t.k) _ h).1).0

-- ---- Positions and buckets

pub wrap_lt : (n : ℕ) → wrap n < 2 ^ 32
unfolding wrap
wrap_lt n = mod-lt n (pow_pos 32)

-- the top bits of a number of 32 bits
top_lt : (bits n : ℕ) → bits ≤ 32 → n < 2 ^ 32 → n / 2 ^ (32 - bits) < 2 ^ bits
top_lt bits n fits h = shr_lt bits (32 - bits) (subst (λ (x : ℕ). n < 2 ^ x) whole h)
  where
    whole : 32 ≡ bits + (32 - bits)
    whole = omega arith

pub steps_length : (many g growth : ℕ) → length (steps many g growth) ≡ many
unfolding steps
steps_length zero g growth = refl
steps_length (suc many) g growth = ap suc (steps_length many (wrap (g + growth)) growth)

pub steps_lt : (many g growth : ℕ) → g < 2 ^ 32 → (x : ℕ) → Among x (steps many g growth) → x < 2 ^ 32
unfolding steps
steps_lt zero g growth h x m = absurd (among_none x m)
steps_lt (suc many) g growth h x m =
    go (among_cases x g (steps many (wrap (g + growth)) growth) m) (steps_lt many (wrap (g + growth)) growth (wrap_lt (g + growth)) x)
  where
    go : (x ≡ g) ⊎ Among x (steps many (wrap (g + growth)) growth) → (Among x (steps many (wrap (g + growth)) growth) → x < 2 ^ 32) → x < 2 ^ 32
    go (inl e) later = subst (λ (y : ℕ). y < 2 ^ 32) (sym e) h
    go (inr m) later = later m

-- the list has a place for each length
pub length_listed : (t : Settings) (L : ℕ) → Ready t L → L - 1 < length t.d
length_listed t L ready = omega (arith, ready.low, ready.high, (ranges t ready.range).d_count)

-- where the D of length L stands at place L − 1
pub bits_at : (t : Settings) (L : ℕ) → get_or t.d (L - 1) 0 ≡ filter_bits t L
unfolding filter_bits
bits_at t L = refl

pub bits_listed : (t : Settings) (i : ℕ) → get_or t.d i 0 ≡ filter_bits t (i + 1)
bits_listed t i = rw (add-sub_cancel i 1) at (bits_at t (i + 1))

-- a filter's positions have at most 11 bits
pub filter_bits_high : (t : Settings) (L : ℕ) → Ready t L → filter_bits t L ≤ 11
unfolding filter_bits
filter_bits_high t L ready =
    (within_true 4 11 _ (all_at (within 4 11) t.d (L - 1) (ranges t ready.range).d_each (length_listed t L ready))).1

-- and so fewer than a number has
bits_fit : (t : Settings) (L : ℕ) → Ready t L → filter_bits t L ≤ 32
bits_fit t L ready = omega (arith, filter_bits_high t L ready)

-- there are K positions, and each is one of the filter's
pub positions_length : (t : Settings) (p L : ℕ) → length (positions t p L) ≡ t.k
unfolding positions
positions_length t p L = simp length-map (steps_length t.k (wrap (t.a * p)) (wrap (t.b * p)))

pub positions_lt : (t : Settings) (p L : ℕ) → Ready t L → (j : ℕ) → Among j (positions t p L) → j < 2 ^ filter_bits t L
unfolding positions
positions_lt t p L ready j m =
    let at = among_map (λ g. g / 2 ^ (32 - filter_bits t L)) (steps t.k (wrap (t.a * p)) (wrap (t.b * p))) j m in
    rw at.2 (top_lt (filter_bits t L) at.0 (bits_fit t L ready) (steps_lt t.k (wrap (t.a * p)) (wrap (t.b * p)) (wrap_lt (t.a * p)) at.0 at.1))

-- a prefix's bucket is one of the 2^E
pub bucket_lt : (t : Settings) (p : ℕ) → in_range t ≡ true → bucket t p < 2 ^ t.e
unfolding bucket
bucket_lt t p h = top_lt t.e (wrap (t.c * p)) (omega (arith, ranges t h)) (wrap_lt (t.c * p))

-- ---- The list of D

-- one more filter
pub one_more : (d : List ℕ) (n : ℕ) → n < length d → filters_size (take (suc n) d) ≡ filters_size (take n d) + 2 ^ get_or d n 0
unfolding filters_size
one_more [] n h = absurd (not-suc-le-zero h)
one_more (D ∷ d) zero h = omega arith
one_more (D ∷ d) (suc n) h = rw (one_more d n (le_of_suc-le-suc h)) (sym (add_assoc (2 ^ D) (filters_size (take n d)) (2 ^ get_or d n 0)))

-- more filters have no fewer counters
pub more : (d : List ℕ) (n m : ℕ) → n ≤ m → filters_size (take n d) ≤ filters_size (take m d)
unfolding filters_size
more d zero m h = omega arith
more [] (suc n) m h = omega arith
more (D ∷ d) (suc n) zero h = absurd (not-suc-le-zero h)
more (D ∷ d) (suc n) (suc m) h = omega (arith, more d n m (le_of_suc-le-suc h))

-- a place among the counters of a list: in which filter it lies, and at which position
record InList (d : List ℕ) (i : ℕ) : Type 0 where
  pub place : ℕ
  pub rest : ℕ
  pub there : place < length d
  pub inside : rest < 2 ^ get_or d place 0
  pub is : i ≡ filters_size (take place d) + rest

listed : (d : List ℕ) (i : ℕ) → i < filters_size d → InList d i
unfolding filters_size
listed [] i h = absurd (not-suc-le-zero h)
listed (D ∷ d) i h = go (ltb i (2 ^ D)) refl (listed d (i - 2 ^ D))
  where
    go : (b : Bool) → ltb i (2 ^ D) ≡ b → (i - 2 ^ D < filters_size d → InList d (i - 2 ^ D)) → InList (D ∷ d) i
    go true e later = record { place = 0; rest = i; there = omega arith; inside = ltb-true i (2 ^ D) e; is = sym (zero-add i) }
    go false e later =
        let after = ltb-false i (2 ^ D) e in
        let at = later (omega arith) in
        record { place = suc at.place; rest = at.rest; there = omega (arith, at.there); inside = at.inside; is = omega (arith, at.is) }

-- filters of up to 2^11 counters
pub filters_few : (d : List ℕ) → all (within 4 11) d ≡ true → filters_size d ≤ length d * 2 ^ 11
unfolding filters_size all
filters_few [] h = omega arith
filters_few (D ∷ d) h =
    let parts = both (within 4 11 D) (all (within 4 11) d) h in
    omega (arith, pow_mono (within_true 4 11 D parts.0).1, filters_few d parts.1)

-- ---- Counters

-- the counters are those of the filters of the list
pub counters_listed : (t : Settings) → counters_size t ≡ filters_size t.d
unfolding counters_size
counters_listed t = refl

-- a filter ends where the next begins
pub filter_next : (t : Settings) (L : ℕ) → Ready t L → filter_start t L + 2 ^ filter_bits t L ≡ filter_start t (suc L)
unfolding filter_start filter_bits
filter_next t L ready =
    let next : suc L - 1 ≡ suc (L - 1) = omega (arith, ready.low) in
    rw next (sym (one_more t.d (L - 1) (length_listed t L ready)))

-- the first begins at the front
pub filter_first : (t : Settings) → filter_start t 1 ≡ 0
unfolding filter_start filters_size
filter_first t = refl

-- and the counters end where a 33rd would begin
pub filter_after_32 : (t : Settings) → in_range t ≡ true → counters_size t ≡ filter_start t 33
unfolding filter_start counters_size
filter_after_32 t range = ap filters_size (sym (take_all 32 t.d (omega (arith, (ranges t range).d_count))))

-- a later one begins no earlier
filter_later : (t : Settings) (L M : ℕ) → L ≤ M → filter_start t L ≤ filter_start t M
unfolding filter_start
filter_later t L M after = more t.d (L - 1) (M - 1) (omega arith)

-- so it ends before any later one begins
pub filters_apart : (t : Settings) (L M : ℕ) → Ready t L → L < M → filter_start t L + 2 ^ filter_bits t L ≤ filter_start t M
filters_apart t L M ready before = rw (filter_next t L ready) (filter_later t (suc L) M before)

-- and within the counters
pub filter_fits : (t : Settings) (L : ℕ) → Ready t L → filter_start t L + 2 ^ filter_bits t L ≤ counters_size t
filter_fits t L ready = rw (filter_after_32 t ready.range) (filters_apart t L 33 ready (omega (arith, ready.high)))

-- place i is a counter of the filter of length L
pub record InFilter (t : Settings) (L i : ℕ) : Type 0 where
  pub low : filter_start t L ≤ i
  pub high : i < filter_start t L + 2 ^ filter_bits t L

-- so it is one of the counters
pub counter_fits : (t : Settings) (L i : ℕ) → Ready t L → InFilter t L i → i < counters_size t
counter_fits t L i ready inside = omega (arith, filter_fits t L ready)

-- no counter is of two filters
pub one_filter : (t : Settings) (L M i : ℕ) → Ready t L → Ready t M → InFilter t L i → InFilter t M i → L ≡ M
one_filter t L M i l m of_l of_m = le_antisymm (at_most L M m of_l of_m) (at_most M L l of_m of_l)
  where
    at_most : (L M : ℕ) → Ready t M → InFilter t L i → InFilter t M i → L ≤ M
    at_most L M m of_l of_m = le_of_suc-le-suc (lt_of_not-le (λ (after : M < L). omega (arith, filters_apart t M L m after)))

-- a position's counter is of its filter
pub place_inside : (t : Settings) (L j : ℕ) → j < 2 ^ filter_bits t L → InFilter t L (counter_place t L j)
unfolding counter_place
place_inside t L j h = omega arith

-- the counters of different positions differ
pub place_apart : (t : Settings) (L j k : ℕ) → counter_place t L j ≡ counter_place t L k → j ≡ k
unfolding counter_place
place_apart t L j k e = add_left_cancel (filter_start t L) e

-- and so do those of different lengths
pub counter_place_apart : (t : Settings) (L M j k : ℕ) → Ready t L → Ready t M → j < 2 ^ filter_bits t L → k < 2 ^ filter_bits t M
    → counter_place t L j ≡ counter_place t M k → (L ≡ M) × (j ≡ k)
counter_place_apart t L M j k l m hj hk e =
    let same : L ≡ M = one_filter t L M (counter_place t L j) l m (place_inside t L j hj) (rw e (place_inside t M k hk)) in
    (same, place_apart t M j k (rw same at e))

-- every counter is of some length and position
pub record PlaceOf (t : Settings) (i : ℕ) : Type 0 where
  pub length : ℕ
  pub position : ℕ
  pub ready : Ready t length
  pub inside : position < 2 ^ filter_bits t length
  pub is : i ≡ counter_place t length position

pub place_of : (t : Settings) (i : ℕ) → in_range t ≡ true → i < counters_size t → PlaceOf t i
unfolding counters_size counter_place filter_start filter_bits
place_of t i range h =
    let at = listed t.d i h in
    record {
      length = at.place + 1;
      position = at.rest;
      ready = record { range = range; low = omega arith; high = omega (arith, at.there, (ranges t range).d_count) };
      inside = rw (add-sub_cancel at.place 1) at.inside;
      is = rw (add-sub_cancel at.place 1) at.is;
    }

-- there are K places, and each is a counter of the filter
pub places_length : (t : Settings) (p L : ℕ) → length (counter_places t p L) ≡ t.k
unfolding counter_places
places_length t p L = simp length-map (positions_length t p L)

pub places_inside : (t : Settings) (p L : ℕ) → Ready t L → (i : ℕ) → Among i (counter_places t p L) → InFilter t L i
unfolding counter_places
places_inside t p L ready i m =
    let at = among_map (counter_place t L) (positions t p L) i m in
    rw at.2 (place_inside t L at.0 (positions_lt t p L ready at.0 at.1))

-- ---- Hits

-- a counter's hits are how often it is one of p's places
pub hits_places : (t : Settings) (p L i : ℕ) → hits t p L i ≡ count i (counter_places t p L)
unfolding hits
hits_places t p L i = refl

-- and how often its position is one of p's
pub hits_at : (t : Settings) (p L j : ℕ) → hits t p L (counter_place t L j) ≡ count j (positions t p L)
unfolding hits counter_places
hits_at t p L j = count_map (counter_place t L) (place_apart t L) j (positions t p L)

-- a counter of another filter has none
pub hits_other : (t : Settings) (L M p i : ℕ) → Ready t L → Ready t M → InFilter t M i → L ≢ M → hits t p L i ≡ 0
unfolding hits
hits_other t L M p i of_l of_m inside apart = go (count i (counter_places t p L)) refl
  where
    go : (n : ℕ) → count i (counter_places t p L) ≡ n → n ≡ 0
    go zero e = refl
    go (suc n) e = absurd (apart (one_filter t L M i of_l of_m (places_inside t p L of_l i (omega arith)) inside))

-- ---- Slots

-- two numbers of two digits are equal digit by digit
digits_apart : (base q r q' r' : ℕ) → r < base → r' < base → q * base + r ≡ q' * base + r' → (q ≡ q') × (r ≡ r')
digits_apart base q r q' r' h h' e =
    (sym (digits_div q h) ∙ ap (λ (x : ℕ). x / base) e ∙ digits_div q' h', sym (digits_mod q h) ∙ ap (λ (x : ℕ). x % base) e ∙ digits_mod q' h')

-- one slot: of one length, one bucket and one number in it
pub record SameSlot (t : Settings) (p L s q M u : ℕ) : Type 0 where
  pub length : L ≡ M
  pub bucket : bucket t p ≡ bucket t q
  pub slot : s ≡ u

pub slot_apart : (t : Settings) (p L s q M u : ℕ) → in_range t ≡ true → 1 ≤ L → 1 ≤ M → s < t.s → u < t.s
    → slot_number t p L s ≡ slot_number t q M u → SameSlot t p L s q M u
unfolding slot_number
slot_apart t p L s q M u range l m hs hu e =
    let outer = digits_apart t.s _ s _ u hs hu e in
    let inner = digits_apart (2 ^ t.e) (L - 1) (bucket t p) (M - 1) (bucket t q) (bucket_lt t p range) (bucket_lt t q range) outer.0 in
    let same = inner.0 in
    record { length = omega arith; bucket = inner.1; slot = outer.1 }

-- the words of different slots differ
pub prefix_word_apart : (n m : ℕ) → prefix_word n ≡ prefix_word m → n ≡ m
unfolding prefix_word
prefix_word_apart n m e = omega arith

pub mark_word_apart : (n m : ℕ) → mark_word n ≡ mark_word m → n ≡ m
unfolding mark_word
mark_word_apart n m e = omega arith

-- and no prefix's word is a mark's
pub prefix_not_mark : (n m : ℕ) → prefix_word n ≢ mark_word m
unfolding prefix_word mark_word
prefix_not_mark n m = omega arith

-- a slot's two words lie before the words of the defaults, and these are the last two
pub record WordsFit (t : Settings) (n : ℕ) : Type 0 where
  pub prefix : prefix_word n < default_word t 0
  pub mark : mark_word n < default_word t 0

pub words_fit : (t : Settings) (p L s : ℕ) → Ready t L → s < t.s → WordsFit t (slot_number t p L s)
unfolding slot_number prefix_word mark_word default_word
words_fit t p L s ready h =
    let lengths : L - 1 < 32 = omega arith in
    let number = digits_lt (digits_lt lengths (bucket_lt t p ready.range)) h in
    let whole : 64 * 2 ^ t.e * t.s ≡ 2 * (32 * 2 ^ t.e * t.s) = ap (λ (x : ℕ). x * t.s) (mul_assoc 2 32 (2 ^ t.e)) ∙ mul_assoc 2 (32 * 2 ^ t.e) t.s in
    omega arith

pub default_fits : (t : Settings) (party : ℕ) → party ≤ 1 → default_word t party < slots_size t
unfolding default_word slots_size
default_fits t party one_of_lem = omega arith

-- each party's default has a word of its own
pub defaults_apart : (t : Settings) (party other : ℕ) → default_word t party ≡ default_word t other → party ≡ other
unfolding default_word
defaults_apart t party other e = omega arith

pub default_after : (t : Settings) (party : ℕ) → default_word t 0 ≤ default_word t party
unfolding default_word
default_after t party = omega arith

-- ---- Counters by number

-- the top bits of a number of 32 bits are a position, whose counter is one of the counters
pub number_fits : (t : Settings) (L g : ℕ) → Ready t L → g < 2 ^ 32 → counter_place t L (g / 2 ^ (32 - filter_bits t L)) < counters_size t
number_fits t L g ready h =
    counter_fits t L _ ready (place_inside t L _ (top_lt (filter_bits t L) g (bits_fit t L ready) h))

-- and these are few
pub counters_few : (t : Settings) → in_range t ≡ true → counters_size t ≤ 2 ^ 16
unfolding counters_size
counters_few t range =
    let is = ranges t range in
    omega (arith, filters_few t.d is.d_each, is.d_count)
