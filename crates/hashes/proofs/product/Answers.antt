-- What is kept of the product is what wraps.
use mathlib.Core.Path.{refl}
use Rattle.rules.specs.Table.{wrap}
use Rattle.hashes.proofs.product.Goals as goal

pub returns : goal.returns
unfolding wrap
returns c = refl
