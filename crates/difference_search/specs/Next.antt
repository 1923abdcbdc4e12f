-- What a pass over the slots of a length keeps, and what it finds.
use Rattle.std.specs.Prelude.{ℕ, ◌+◌, ◌^◌, ◌≤◌, ◌<◌, ◌≡◌, Bool, cond, ◌&&◌, ◌||◌, eqb, leb, ltb, Option, Some, None}
use Rattle.rules.specs.declared.Settings.{Settings}
use Rattle.rules.specs.Table.{slot_number, loose}
use Rattle.difference_rules.specs.Comparing.{told}
use Rattle.difference_search.specs.declared.Ahead.{Ahead}

-- slot n is one of p's own bucket at length L
unfoldable pub own_slot : Settings → (p L n : ℕ) → Bool
own_slot t p L n = leb (slot_number t p L 0) n && ltb n (slot_number t p L 0 + t.s)

-- what slot n tells of the prefix and the mark that it holds, as a slot of length L
unfoldable pub slot_tells : Settings → (party p L n mark : ℕ) → ℕ
slot_tells t party p L n mark = cond (loose p L) 0 (cond (own_slot t p L n) (told party mark) 0)

-- this mark is told, and none where it is 0
abbrev pub Tells : (mark : ℕ) → Option ℕ → Type 0
Tells mark (Some m) = (m ≡ mark) × (1 ≤ m)
Tells mark None = 0 ≡ mark

-- ahead is the least p not below from at which the table has a mark, with that mark; 2^32 and 0 where it has none
pub record Next (has : (p : ℕ) → ℕ) (from : ℕ) (ahead : Ahead) : Type 0 where
  pub low : from ≤ ahead.prefix
  pub high : ahead.prefix ≤ 2 ^ 32
  pub none_before : (p : ℕ) → from ≤ p → p < ahead.prefix → has p ≡ 0
  pub there : ahead.prefix < 2 ^ 32 → (ahead.mark ≡ has ahead.prefix) × (1 ≤ ahead.mark)
  pub end : ahead.prefix ≡ 2 ^ 32 → ahead.mark ≡ 0

-- what lies ahead, where there may be nothing: then it is beyond every prefix
abbrev pub lying : Option Ahead → Ahead
lying (Some ahead) = ahead
lying None = record { prefix = 2 ^ 32; mark = 0 }

-- it is the least p not below from at which the table has a mark, with that mark; or there is none, and the table has no more
abbrev pub Lies : (has : (p : ℕ) → ℕ) (from : ℕ) → Option Ahead → Type 0
Lies has from (Some ahead) = Next has from ahead × (ahead.prefix < 2 ^ 32)
Lies has from None = Next has from (lying None)

-- what lies ahead once p, with the mark that is told there, was met
unfoldable pub closer_of : (from : ℕ) → Option Ahead → (p mark : ℕ) → Option Ahead
closer_of from ahead p mark =
    cond (ltb p from || (leb (lying ahead).prefix p || eqb mark 0)) ahead (Some (record { prefix = p; mark = mark }))
