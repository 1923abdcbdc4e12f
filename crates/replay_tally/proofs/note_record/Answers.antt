-- A record that is only seen has no counts: `added_none`.
use mathlib.Core.Path.{◌≡◌, ◌∙◌}
use borrow.Author.Rules.{rules}
use Rattle.message_calls.specs.Walks.{none_counted}
use Rattle.replay_tally.specs.Steps.{record_added}
use Rattle.replay_tally.proofs.Adding.{added_none}
use Rattle.replay_tally.proofs.note_record.Goals as goal

pub returns-in-None : goal.returns-in-None
unfolding record_added
returns-in-None c =
    let none : c.default.result ≡ none_counted = search rules in
    rw c.in-None.is (rw none at c.note-in-None.ensures ∙ added_none c.args.tally.now)

pub returns-in-Some : goal.returns-in-Some
unfolding record_added
returns-in-Some c = rw c.in-Some.is c.note.ensures
