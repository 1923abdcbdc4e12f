-- Prefixes read from bytes have 32 bits, so each single call of a message is word-sized.
use Prim.Native.Nat.{ℕ, zero, suc, ◌+◌, ◌^◌, ◌<◌}
use mathlib.Core.Path.{◌≡◌, refl}
use mathlib.Core.Bool.{Bool, true, false, cond}
use mathlib.Core.List.{List, [], ◌∷◌, ◌++◌, map}
use mathlib.Core.Option.{Option, some, none}
use native.Mathlib.Omega.{arith}
use lib.Dec.{ltb}
use lib.ListN.{length, get_or}
use lib.Pow.{are_bytes}
use borrow.Author.Tests.{ltb-true, lt-ltb}
use Rattle.rules.specs.Calls.{Call, Add, Withdraw, word_sized, all_word_sized}
use Rattle.rules.proofs.Members.{both}
use Rattle.rules.proofs.Prefixes.{prefix_lt}
use Rattle.message_format.specs.Format.{byte, from_octets, bytes_for, Prefix, octet, address_at, prefix_from, after_prefix, prefixes, withdrawn_from, withdrawn_to, announced_from, withdrawn_prefixes, announced_prefixes}
use Rattle.message_format.specs.Reading.{hop_in, withdrawals, announcements, message_calls}
use Rattle.message_format.proofs.Walks.{by_steps, after_prefix_later, prefixes_none, prefixes_next}

-- a byte is below 256, and so is the 0 that stands for one that is missing
pub byte_at : (bytes : List ℕ) → are_bytes bytes ≡ true → (i : ℕ) → get_or bytes i 0 < 256
byte_at [] small i = omega arith
byte_at (b ∷ bytes) small zero = ltb-true b 256 (both _ _ small).0
byte_at (b ∷ bytes) small (suc i) = byte_at bytes (both (ltb b 256) _ small).1 i

-- two lists of word-sized calls make one
pub all_then : (calls more : List Call) → all_word_sized calls ≡ true → all_word_sized more ≡ true → all_word_sized (calls ++ more) ≡ true
unfolding all_word_sized
all_then [] more words others = others
all_then (call ∷ calls) more words others =
    let parts = both (word_sized call) _ words in
    rw parts.0 (all_then calls more parts.1 others)

module _ (bytes : List ℕ) (small : are_bytes bytes ≡ true) where
  octet_small : (at bits i : ℕ) → octet bytes at bits i < 256
  unfolding octet byte
  octet_small at bits i = go (ltb i (bytes_for bits))
    where
      go : (has : Bool) → cond has (byte bytes (at + i)) 0 < 256
      go true = byte_at bytes small (at + i)
      go false = omega arith

  -- a prefix that is read from bytes is below 2^32
  pub prefix_small : (at : ℕ) → (prefix_from bytes at).prefix < 2 ^ 32
  unfolding prefix_from address_at from_octets
  prefix_small at =
      let L = byte bytes at in
      prefix_lt _ L (omega (arith, octet_small (at + 1) L 0, octet_small (at + 1) L 1, octet_small (at + 1) L 2, octet_small (at + 1) L 3))

  -- so each call that one is made into
  prefixes_small : (call : Prefix → Call) → ((q : Prefix) → q.prefix < 2 ^ 32 → word_sized (call q) ≡ true)
      → (end at : ℕ) → all_word_sized (map call (prefixes bytes at end)) ≡ true
  unfolding all_word_sized
  prefixes_small call sized end = by_steps end (after_prefix bytes) (after_prefix_later bytes) (λ at. all_word_sized (map call (prefixes bytes at end)) ≡ true)
      (λ at past. rw (prefixes_none bytes at end past))
      (λ at inside rest. rw (prefixes_next bytes at end inside, sized (prefix_from bytes at) (prefix_small at)) rest)

-- A message of bytes withdraws and announces prefixes of 32 bits.
pub message_words : (party : ℕ) (message hops : List ℕ) → are_bytes message ≡ true → all_word_sized (message_calls party message hops) ≡ true
unfolding message_calls withdrawals announcements withdrawn_prefixes announced_prefixes word_sized all_word_sized
message_words party message hops bytes = all_then (withdrawals party (withdrawn_prefixes message)) _
    (prefixes_small message bytes (λ q. Withdraw party q.prefix q.length) (λ q small. lt-ltb _ _ small) (withdrawn_to message) withdrawn_from)
    (go (hop_in message hops))
  where
    go : (hop : Option ℕ) → all_word_sized (announcements party hop (announced_prefixes message)) ≡ true
    go none = refl
    go (some hop) = prefixes_small message bytes (λ q. Add party q.prefix q.length hop) (λ q small. lt-ltb _ _ small) (length message) (announced_from message)
