-- The tests stand in the order of `in_range`; that of D is given.
use mathlib.Core.Path.{◌≡◌, ◌∙◌, sym}
use mathlib.Core.Logic.{inl, inr}
use Rattle.std.proofs.Common.{zero-le}
use borrow.Author.Rules.{rules}
use borrow.Author.Tests.{le-leb, lt-leb}
use Rattle.rules.specs.Tools.{within}
use Rattle.rules.specs.Table.{in_range}
use Rattle.settings.proofs.is_in_range.Goals as goal
use Rattle.settings.proofs.is_in_range.Goals.{then-contains, else-contains}

pub returns-then-settings-le8 : goal.returns-then-settings-le8
unfolding in_range within
returns-then-settings-le8 c =
    let k : c.contains.result ≡ within 1 8 c.args.settings.k = search rules in
    let s : c.contains-then-settings-le8.result ≡ within 1 8 c.args.settings.s = search rules in
    simp (sym k ∙ c.if-settings-le8.true.0, c.requires, le-leb 0 c.args.settings.e zero-le, le-leb _ _ c.if-settings-le8.true.1) s

pub returns-else-settings-le8 : goal.returns-else-settings-le8
unfolding in_range within
returns-else-settings-le8 c =
    let k : c.contains.result ≡ within 1 8 c.args.settings.k = search rules in
    elim c.if-contains.branch [ then-contains w ↦ elim c.if-settings-le8.either [ inl h ↦ w.t-4-is ∙ simp (sym k ∙ h.0, c.requires, le-leb 0 c.args.settings.e zero-le, lt-leb _ _ h.1) | inr h ↦ absurd (cc) ] | else-contains w ↦ w.t-4-is ∙ w.if-contains.false ∙ simp (sym k ∙ w.if-contains.false) ]
