-- The first i addresses are answered: `Listing`.
use Rattle.rules.specs.Numbers.{party_number}
use Rattle.rules.proofs.Answers.{by_vector}
use Rattle.rules.proofs.Numbers.{party_low}
use Rattle.rules.proofs.Refusals.{PartyFitted}
use Rattle.lookups.proofs.Listing.{listing_none, listing_more, listing_all}
use Rattle.lookups.proofs.answer_list.Goals as goal

pub loop-i-init : goal.loop-i-init
loop-i-init g c = listing_none g.met.T.Cell.cells_none

pub loop-i-preserved : goal.loop-i-preserved
loop-i-preserved g c =
    let checked : PartyFitted c.args.filters.now.settings.now.all c.args.filters.now.counters.now (g.T.Cell.words c.args.slots.now) (party_number c.args.party) =
    record {
      memory = record { range = c.args.filters.now.settings.now.range; counters_fit = c.args.filters.now.sized.size; slots_fit = c.requires.slots.size };
      known = party_low c.args.party;
    } in
    let looked_up = by_vector _ _ _ _ _ _ checked c.vector_of-claimed.ensures in
    listing_more g.T.Cell.WIDE g.met.T.Cell.cells_length c.loop-i.invariant g.met.T.Cell.cells_append (rw (← c.word_count-i-end.ensures) c.loop-i-test.true)
    (rw (← c.WIDE.ensures, ← c.word_at-address.ensures, looked_up, ← c.answer_address-answer.ensures, ← c.words_of.ensures) c.put_words.ensures)

pub returns : goal.returns
returns g c =
    listing_all g.T.Cell.WIDE g.met.T.Cell.cells_length c.loop-i.invariant (rw (← c.word_count-i-end.ensures) c.loop-i-test.false)
    (rw c.requires.whole c.requires.results_len)
