-- `text_answers::put_number` meets its contract. The measure is the number: its last digit goes after those of a tenth of it.
use Rattle.text_answers.proofs.+put_number.Given as goal

abbrev pub decreases-put_number : goal.decreases-put_number
decreases-put_number l = l.n
