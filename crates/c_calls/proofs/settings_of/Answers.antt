-- A list of 32 is taken as it is, and the zeros stand for any other.
use Prim.Native.Nat.{ℕ}
use mathlib.Core.Path.{◌≡◌, ◌∙◌}
use mathlib.Core.List.{List}
use lib.ListN.{length, replicate}
use borrow.Author.Tests.{eq-eqb, ne_eqb}
use Rattle.std.specs.Prelude.{Result, Ok, Err, MatchResult}
use Rattle.std.specs.Result.{result_unwrap_or}
use Rattle.std.specs.Array.{IsWholeChunk}
use Rattle.c_calls.specs.Lent.{whole}
use Rattle.c_calls.proofs.settings_of.Goals as goal

taken : {E : Type 0} (d : List ℕ) (r : Result (List ℕ) E) → MatchResult r (λ list. IsWholeChunk d list 32) (λ e. length d ≡ 32 → ⊥)
    → result_unwrap_or r (replicate 32 0) ≡ whole d
unfolding whole
taken d (Ok list) all = all.same ∙ rw (eq-eqb _ _ all.long)
taken d (Err e) other = rw (ne_eqb _ _ other)

pub returns : goal.returns
returns c = rw (c.unwrap_or.ensures, taken c.args.d.now c.try_into.result c.try_into.ensures.1)
