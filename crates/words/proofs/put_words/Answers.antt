-- The words so far are put: `Put`.
use Rattle.words.proofs.Stores.{put_more}
use Rattle.words.proofs.put_words.Goals as goal

pub loop-i-preserved : goal.loop-i-preserved
loop-i-preserved g c =
    put_more g.T.Cell.WIDE g.met.T.Cell.cells_append g.met.T.Cell.cells_length c.loop-i.invariant c.loop-i-test.true (rw c.WIDE.ensures at c.put_word.ensures)
