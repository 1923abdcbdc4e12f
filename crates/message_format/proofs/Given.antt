-- What the single calls of a message are given: each is on a route with a good length, bits and hop, since its prefix fits its part.
use Prim.Native.Nat.{ℕ, ◌≤◌}
use mathlib.Core.Path.{◌≡◌, refl}
use mathlib.Core.Bool.{Bool, true, false, not, ◌&&◌}
use mathlib.Core.List.{List, [], ◌∷◌, map}
use mathlib.Core.Option.{Option, some, none}
use lib.Dec.{leb}
use lib.ListN.{length}
use borrow.Author.Tests.{leb-true, ltb-false, not-false}
use Rattle.rules.specs.declared.Settings.{Settings}
use Rattle.rules.specs.Tools.{all}
use Rattle.rules.specs.Table.{Memory, memory_refusal}
use Rattle.rules.specs.Calls.{Call, Add, Withdraw, run, route_number}
use Rattle.rules.proofs.Members.{both}
use Rattle.rules.proofs.Prefixes.{prefix_again}
use Rattle.rules.proofs.Given.{RouteGood, GoodCall, GoodCalls, good_append, run_numbers}
use Rattle.message_format.specs.Format.{byte, starts, Prefix, prefix_from, after_prefix, prefix_fits, prefixes_fit, prefixes, announced_from, withdrawn_prefixes, announced_prefixes, announces}
use Rattle.message_format.specs.Reading.{hop_in, is_hop, update_refusal, withdrawals, announcements, message_calls}
use Rattle.message_format.proofs.Walks.{prefixes_none}
use Rattle.message_format.proofs.Counting.{parts, Passed, update_passed}

-- ---- A part

-- a prefix that fits is a good route of either party
route_good : {party : ℕ} → party ≤ 1 → (bytes : List ℕ) (at end : ℕ) → prefix_fits bytes at end ≡ true → let q = prefix_from bytes at in RouteGood party q.prefix q.length
unfolding prefix_from prefix_fits
route_good known bytes at end fits = record {
  known = known;
  high = leb-true _ _ (both (leb (byte bytes at) 32) _ fits).0;
  tight = prefix_again _ (byte bytes at);
}

-- so each call on one of a part's prefixes is good, if it is on a good route
part_good : {party : ℕ} → party ≤ 1 → (bytes : List ℕ) (end : ℕ) (call : Prefix → Call) → ((q : Prefix) → RouteGood party q.prefix q.length → GoodCall (call q))
    → (at : ℕ) → prefixes_fit bytes at end ≡ true → GoodCalls (map call (prefixes bytes at end))
unfolding prefixes_fit prefixes all
part_good known bytes end call good at = go (starts (after_prefix bytes) at end)
  where
    go : (places : List ℕ) → all (λ here. prefix_fits bytes here end) places ≡ true → GoodCalls (map call (map (prefix_from bytes) places))
    go [] fit = tt
    go (at ∷ places) fit =
        let first = both (prefix_fits bytes at end) _ fit in
        (good _ (route_good known bytes at end first.0), go places first.1)

-- ---- A message

module _ (party : ℕ) (known : party ≤ 1) (message hops : List ℕ) (passed : Passed message hops) where
  withdrawals_good : GoodCalls (withdrawals party (withdrawn_prefixes message))
  unfolding withdrawals withdrawn_prefixes
  withdrawals_good = part_good known message _ (λ q. Withdraw party q.prefix q.length) (λ q good. good) _ (parts message passed.good).withdrawn_fits

  announcements_good : (hop : Option ℕ) → hop_in message hops ≡ hop → GoodCalls (announcements party hop (announced_prefixes message))
  unfolding announcements announced_prefixes announces is_hop
  announcements_good none is = tt
  announcements_good (some hop) is = go (announces message) refl (rw is at passed.hop)
    where
      go : (b : Bool) → announces message ≡ b → b && not (leb hop 65535) ≡ false → GoodCalls (map (λ q. Add party q.prefix q.length hop) (announced_prefixes message))
      go true e taken = part_good known message _ (λ q. Add party q.prefix q.length hop) (λ q good. (good, leb-true _ _ (not-false _ taken))) _ (parts message passed.good).announced_fits
      go false e taken = rw (prefixes_none message (announced_from message) (length message) (ltb-false _ _ e)) tt

-- Each route of a message that is not refused is given 0, or one of 7 to 11.
pub message_answers : (t : Settings) (m : Memory) (party : ℕ) (message hops : List ℕ) → memory_refusal t m 0 ≡ 0 → party ≤ 1 → update_refusal message hops ≡ 0
    → all route_number (run t m (message_calls party message hops)).answers ≡ true
unfolding message_calls
message_answers t m party message hops fit known read =
    let passed = update_passed message hops read in
    run_numbers t m (message_calls party message hops) fit
    (good_append (withdrawals party (withdrawn_prefixes message)) _ (withdrawals_good party known message hops passed) (announcements_good party known message hops passed (hop_in message hops) refl))
