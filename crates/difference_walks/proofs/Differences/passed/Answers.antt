-- Both go on from where they are: `walk_on`.
use Rattle.difference_walks.proofs.Walking.{walk_on}
use Rattle.difference_walks.proofs.Differences.passed.Goals as goal

pub returns : goal.returns
returns g c = walk_on c.requires.underway.ahead c.requires.nearer c.pass.ensures c.pass-2.ensures
