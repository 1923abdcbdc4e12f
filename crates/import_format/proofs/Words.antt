-- The prefix of a record has 32 bits, so its call is word-sized.
use mathlib.Core.Path.{◌≡◌, refl}
use mathlib.Core.Bool.{true}
use mathlib.Core.List.{List}
use Prim.Native.Nat.{ℕ}
use lib.Pow.{are_bytes}
use borrow.Author.Tests.{lt-ltb}
use Rattle.rules.specs.Calls.{word_sized, all_word_sized}
use Rattle.message_format.proofs.Words.{prefix_small}
use Rattle.import_format.specs.Routes.{route_from, record_calls}
use Rattle.import_format.proofs.Counting.{by_calls}

pub record_words : (party : ℕ) (bytes hops : List ℕ) → are_bytes bytes ≡ true → all_word_sized (record_calls party bytes hops) ≡ true
unfolding word_sized all_word_sized
record_words party bytes hops small = by_calls party bytes hops (λ calls. all_word_sized calls ≡ true) refl
    (λ hop low. rw (lt-ltb _ _ (prefix_small bytes small route_from)))
