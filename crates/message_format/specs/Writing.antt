-- The message that withdraws one route.
use Rattle.std.specs.Prelude.{ℕ, ◌+◌, ◌/◌, ◌%◌, ◌^◌, not, List, [], ◌∷◌, ◌++◌, length, take, replicate, ltb, eqb}
use Rattle.rules.specs.Table.{refuse, loose, Listed, listed}
use Rattle.message_format.specs.Format.{bytes_for}

-- a number's four bytes, the highest first
unfoldable pub octets : (n : ℕ) → List ℕ
octets n = n / 2 ^ 24 ∷ n / 2 ^ 16 % 2 ^ 8 ∷ n / 2 ^ 8 % 2 ^ 8 ∷ n % 2 ^ 8 ∷ []

-- a prefix as it stands in a message
unfoldable pub prefix_bytes : (p L : ℕ) → List ℕ
prefix_bytes p L = L ∷ take (bytes_for L) (octets p)

-- how many bytes a withdrawal has: those of an empty message and those of its prefix
unfoldable pub withdrawal_size : (L : ℕ) → ℕ
withdrawal_size L = 23 + 1 + bytes_for L

-- marker, length, type 2; the withdrawn routes' length and the one prefix; no attributes, and nothing announced
unfoldable pub withdrawal : (p L : ℕ) → List ℕ
withdrawal p L =
    replicate 16 255
    ++ (0 ∷ withdrawal_size L ∷ 2 ∷ 0 ∷ (1 + bytes_for L) ∷ prefix_bytes p L)
    ++ (0 ∷ 0 ∷ [])

-- 3 and 4, as every update; then 18 for room that is not of exactly the message's size
unfoldable pub writing_refusal : (p L room : ℕ) → ℕ
writing_refusal p L room =
    refuse (ltb 32 L) 3 (refuse (loose p L) 4 (refuse (not (eqb room (withdrawal_size L))) 18 0))

-- the withdrawal message of a route, as it is given back and as it leaves the room
unfoldable pub write_withdrawal : (p L : ℕ) (room : List ℕ) → Listed
write_withdrawal p L room = listed (writing_refusal p L (length room)) (withdrawal p L) room
