-- The settings that a C program lends.
use Rattle.std.specs.Prelude.{ℕ, cond, List, eqb, length, replicate}
use Rattle.rules.specs.declared.Settings.{Settings}

-- what comes first in every call: K, the list of D, which may have any count, and five numbers more
abbrev pub settings_of : (k : ℕ) (d : List ℕ) (e s a b c : ℕ) → Settings
settings_of k d e s a b c = record { k = k; d = d; e = e; s = s; a = a; b = b; c = c }

-- a list of D of the count that settings have: 32 zeros stand for one of another count, since both are out of range
unfoldable pub whole : (d : List ℕ) → List ℕ
whole d = cond (eqb (length d) 32) d (replicate 32 0)
