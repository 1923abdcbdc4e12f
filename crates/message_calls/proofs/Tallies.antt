-- What is counted of answers, one by one, is what the definitions count of their list.
use Prim.Native.Nat.{ℕ, ◌≤◌, ◌<◌}
use mathlib.Core.Path.{◌≡◌, sym}
use mathlib.Core.List.{List, [], ◌∷◌, ◌++◌}
use native.Mathlib.Nat.{zero-add, add-zero, add_assoc}
use native.Mathlib.Omega.{arith}
use lib.ListN.{length-append}
use Rattle.rules.specs.declared.Settings.{Settings}
use Rattle.rules.specs.Tools.{those, count}
use Rattle.rules.specs.Table.{Memory}
use Rattle.rules.specs.Calls.{Call, act, each, run, accepted_of, refused_of}
use Rattle.rules.proofs.Calls.{accepted_append, refused_append, counted_all}
use Rattle.rules.proofs.Members.{count_append, count_few}
use Rattle.message_format.specs.Reading.{Read, counts}
use Rattle.message_calls.specs.declared.Counts.{Counts}
use Rattle.message_calls.specs.Walks.{none_counted, counted, tallied, Few, Low, walked, Updated}

-- ---- What is counted

tallied_none : (earlier : Counts) → tallied earlier [] ≡ earlier
unfolding tallied accepted_of refused_of those count
tallied_none earlier = simp add-zero

tallied_append : (earlier : Counts) (answers more : List ℕ) → tallied earlier (answers ++ more) ≡ tallied (tallied earlier answers) more
unfolding tallied
tallied_append earlier answers more = simp (accepted_append, refused_append, count_append, add_assoc)

-- what a message did, as its call gives it back
abbrev pub update_reported : Updated → Read
update_reported u = record {
  report = record { refusal = u.refusal; accepted = u.walk.counts.accepted; refused = u.walk.counts.refused };
  memory = u.walk.memory;
}

-- The report of what was counted is that of the definitions.
pub walk_reported : (t : Settings) (m : Memory) (calls : List Call) → counts (run t m calls) ≡ update_reported (record { refusal = 0; walk = walked t m none_counted calls })
unfolding walked tallied counts
walk_reported t m calls = simp zero-add

pub few_low : {counts : Counts} {most : ℕ} → Few counts most → Low counts most
unfolding tallied
few_low few =
    let answers = few.answers in
    rw few.tally (record {
      all_few = omega (arith, counted_all answers, few.few);
      unstored_few = omega (arith, count_few 7 answers, few.few);
      full_few = omega (arith, count_few 8 answers, few.few);
      above_few = omega (arith, count_few 9 answers, few.few);
      below_few = omega (arith, count_few 10 answers, few.few);
      odd_few = omega (arith, count_few 11 answers, few.few);
    })

-- ---- Whatever is counted

pub few_none : (most : ℕ) → Few none_counted most
few_none most = record { answers = []; tally = sym (tallied_none none_counted); few = omega arith }

-- there may be more
pub few_within : {counts : Counts} {some most : ℕ} → Few counts some → some ≤ most → Few counts most
few_within few less = record { answers = few.answers; tally = few.tally; few = omega (arith, few.few) }

-- one answer more
pub few_more : {counts : Counts} {some most : ℕ} → Few counts some → (number : ℕ) → some < most → Few (counted counts number) most
few_more few number less = record {
  answers = few.answers ++ (number ∷ []);
  tally = rw few.tally (sym (tallied_append none_counted few.answers (number ∷ [])));
  few = rw length-append (omega (arith, few.few));
}

module _ (t : Settings) (m : Memory) (earlier : Counts) where
  pub walked_none : walked t m earlier [] ≡ record { counts = earlier; memory = m }
  unfolding walked run each
  walked_none = rw (tallied_none earlier)

  pub walked_next : (call : Call) (calls : List Call) → walked t m earlier (call ∷ calls) ≡ walked t (act t call m).memory (counted earlier (act t call m).refusal) calls
  unfolding walked run each
  walked_next call calls = rw (← tallied_append earlier ((act t call m).refusal ∷ []))
