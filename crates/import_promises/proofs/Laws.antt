-- The records of a dump keep the laws that crates/stream_promises asks for: what is counted of them adds up.
use Prim.Native.Nat.{ℕ, ◌+◌}
use mathlib.Core.Path.{◌≡◌, refl}
use mathlib.Core.Bool.{cond, or_assoc}
use mathlib.Core.List.{List, [], ◌∷◌, ◌++◌}
use mathlib.Core.Option.{Option, some, none}
use mathlib.Core.Logic.{inl, inr}
use native.Mathlib.Nat.{add_assoc, add-zero}
use native.Mathlib.Omega.{arith}
use lib.Dec.{eqb}
use lib.ListN.{length}
use Rattle.rules.specs.Tools.{those}
use Rattle.rules.specs.Table.{is_some}
use Rattle.rules.specs.Calls.{accepted_of, refused_of}
use Rattle.rules.proofs.Calls.{accepted_append, refused_append}
use Rattle.message_format.specs.Format.{prefix_from}
use Rattle.message_format.specs.Reading.{announcements}
use Rattle.import_format.specs.Routes.{route_from, record_good, route_hop, record_calls}
use Rattle.import_format.specs.Importing.{counts_more, counts_of, counts_words, counts_high, importing}
use Rattle.import_format.proofs.Words.{record_words}
use Rattle.promises.specs.Demands.{some_below}
use Rattle.promises.proofs.Sums.{by_cases}
use Rattle.stream_promises.specs.Noted.{Noted, Read, Over, some_high}
use Rattle.stream_promises.proofs.Lawful.{Lawful}
use Rattle.stream_promises.proofs.Own.{announced_own}
use Rattle.import_promises.specs.Dumps.{hopless_of, import_counts}

-- a record is no call exactly if it has no hop
no_call : (party : ℕ) (bytes hops : List ℕ) → ◌≡◌ {A = ℕ} (cond (is_some (route_hop bytes hops)) 0 1) (cond (eqb (length (record_calls party bytes hops)) 0) 1 0)
unfolding record_calls announcements is_some
no_call party bytes hops = go (route_hop bytes hops)
  where
    go : (hop : Option ℕ) → ◌≡◌ {A = ℕ} (cond (is_some hop) 0 1) (cond (eqb (length (announcements party hop (prefix_from bytes route_from ∷ []))) 0) 1 0)
    go (some hop) = refl
    go none = refl

module _ (hops : List ℕ) where
  hopless_read : (records : List Noted) (bytes : List ℕ)
      → hopless_of hops (records ++ Read bytes ∷ []) ≡ hopless_of hops records + cond (is_some (route_hop bytes hops)) 0 1
  unfolding hopless_of
  hopless_read [] bytes = omega arith
  hopless_read (Read first ∷ records) bytes = omega (arith, hopless_read records bytes)
  hopless_read (Over ∷ records) bytes = hopless_read records bytes

  hopless_over : (records : List Noted) → hopless_of hops (records ++ Over ∷ []) ≡ hopless_of hops records
  unfolding hopless_of
  hopless_over [] = refl
  hopless_over (Read first ∷ records) = rw (hopless_over records)
  hopless_over (Over ∷ records) = hopless_over records

module _ (party : ℕ) (hops : List ℕ) where
  -- Imports are lawful: three counts, and what they come to.
  pub lawful : Lawful (importing party hops) 3 (import_counts hops)
  unfolding importing record_calls counts_more counts_of counts_words counts_high some_high some_below import_counts hopless_of accepted_of refused_of those
  lawful = record {
    ends = λ bytes. by_cases (record_good bytes) (λ good. rw good (inl refl)) (λ bad. rw bad (inr refl));
    own = λ bytes. announced_own party (route_hop bytes hops) (prefix_from bytes route_from ∷ []);
    sized = λ bytes small. record_words party bytes hops small;
    of_meant = λ words. refl;
    more_meant = λ counts bytes answers. refl;
    over_meant = λ counts. refl;
    high = λ words. simp or_assoc;
    counted_none = λ words. simp add-zero;
    counted_read = λ counts records answers bytes more sized. rw (hopless_read hops records bytes, no_call party bytes hops, ← sized) (simp (accepted_append, refused_append, add_assoc));
    counted_over = λ counts records answers. rw (hopless_over hops records);
  }
