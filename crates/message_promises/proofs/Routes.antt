-- A message is its single calls, made one after the other, and counts their answers.
use Prim.Native.Nat.{ℕ, ◌+◌}
use mathlib.Core.Path.{◌≡◌, refl, sym, ap, ◌∙◌}
use mathlib.Core.Bool.{true}
use mathlib.Core.List.{List, []}
use lib.Dec.{eqb}
use lib.ListN.{length}
use lib.Pow.{are_bytes}
use Rattle.rules.specs.declared.Settings.{Settings}
use Rattle.rules.specs.Tools.{those}
use Rattle.rules.specs.Table.{Memory}
use Rattle.rules.specs.Calls.{Call, all_word_sized, each, run, accepted_of, refused_of}
use Rattle.message_format.specs.Format.{withdrawn_prefixes, announced_prefixes}
use Rattle.message_format.specs.Reading.{message_refusal, message_calls, Read, counts, refused_message, apply_message}
use Rattle.message_format.proofs.Counting.{routes_total}
use Rattle.message_format.proofs.Words.{message_words}
use Rattle.promises.specs.History.{SingleCalls}
use Rattle.promises.proofs.Histories.{made}
use Rattle.promises.proofs.Sums.{by_cases}
use Rattle.message_promises.specs.Heard.{heard_calls}
use Rattle.message_promises.proofs.Refused.{its_refusal}

module _ (t : Settings) (m : Memory) (party : ℕ) (message hops : List ℕ) where
  -- what it is given back and leaves,
  abbrev applied : Read
  applied = apply_message t m party message hops

  -- and the calls that a history has of it, none where it is refused
  abbrev heard : List Call
  heard = heard_calls party message hops applied.report.refusal

  -- A message is part of a history as these calls are.
  pub message_single : are_bytes message ≡ true → SingleCalls t m heard (run t m heard).answers applied.memory
  unfolding apply_message heard_calls counts refused_message all_word_sized run each
  message_single bytes = by_cases (eqb (message_refusal t m party message hops) 0)
      (λ good. simp good (made t m (message_calls party message hops) (message_words party message hops bytes))) (λ bad. simp bad (made t m [] refl))

  counted : applied.report ≡ record { refusal = applied.report.refusal; accepted = accepted_of (run t m heard).answers; refused = refused_of (run t m heard).answers }
  unfolding apply_message heard_calls counts refused_message run each accepted_of refused_of those
  counted = by_cases (eqb (message_refusal t m party message hops) 0) (λ good. simp good) (λ bad. simp bad)

  -- It counts as accepted how many of them are given 0, and as refused how many are not.
  pub accepted_counted : applied.report.accepted ≡ accepted_of (run t m heard).answers
  accepted_counted = ap (λ r. r.accepted) counted

  pub refused_counted : applied.report.refused ≡ refused_of (run t m heard).answers
  refused_counted = ap (λ r. r.refused) counted

  -- Together they are its routes, the withdrawn and the announced ones.
  pub routes_counted : applied.report.refusal ≡ 0
      → applied.report.accepted + applied.report.refused ≡ length (withdrawn_prefixes message) + length (announced_prefixes message)
  routes_counted accepted = routes_total t m party message hops (sym (its_refusal t m party message hops) ∙ accepted)
