-- The arguments of an exported call, at entry or at exit, by their order.
use Prim.Native.Nat.{ℕ}
use mathlib.Core.List.{List}
use denote.Ref.{Bor}
use Rattle.rules.specs.declared.Settings.{Settings}
use Rattle.c_calls.specs.Lent.{settings_of}

-- the settings, which come first
abbrev pub settings : {Rest : Type 0} → ℕ × (Bor (List ℕ) × (ℕ × (ℕ × (ℕ × (ℕ × (ℕ × Rest)))))) → Settings
settings a = settings_of a.0 a.1.0.now a.1.1.0 a.1.1.1.0 a.1.1.1.1.0 a.1.1.1.1.1.0 a.1.1.1.1.1.1.0

-- counters, slots and what comes after them
abbrev pub past : {K D E S A B C Rest : Type 0} → K × (D × (E × (S × (A × (B × (C × Rest)))))) → Rest
past a = a.1.1.1.1.1.1.1
