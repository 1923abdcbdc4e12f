-- The prefixes of an UPDATE have 32 bits, so the calls of a record are word-sized.
use Prim.Native.Nat.{ℕ, zero, suc}
use mathlib.Core.Path.{◌≡◌, refl}
use mathlib.Core.Bool.{true}
use mathlib.Core.List.{List, [], ◌∷◌}
use lib.Dec.{ltb}
use lib.ListN.{drop}
use lib.Pow.{are_bytes}
use borrow.Table.Steps.{cases}
use Rattle.rules.specs.Calls.{all_word_sized}
use Rattle.rules.proofs.Members.{both}
use Rattle.message_format.proofs.Words.{message_words}
use Rattle.replay_format.specs.Messages.{message_from, message_of, is_applied, record_calls}

drop_bytes : (bytes : List ℕ) → are_bytes bytes ≡ true → (n : ℕ) → are_bytes (drop n bytes) ≡ true
drop_bytes bytes small zero = small
drop_bytes [] small (suc n) = refl
drop_bytes (a ∷ bytes) small (suc n) = drop_bytes bytes (both (ltb a 256) _ small).1 n

pub record_words : (party : ℕ) (bytes hops : List ℕ) → are_bytes bytes ≡ true → all_word_sized (record_calls party bytes hops) ≡ true
unfolding record_calls message_of all_word_sized
record_words party bytes hops small = cases (is_applied bytes hops)
    (λ applied. rw applied (message_words party (message_of bytes) hops (drop_bytes bytes small (message_from bytes))))
    (λ other. rw other)
