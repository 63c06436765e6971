-- Every starred case of document 01 holds of the definitions, by computation.
use mathlib.Core.Path.{refl}
use Rattle.paper.specs.Starred.{Each, starred}
use Rattle.paper.proofs.Opened.{opened}

pub all_starred : Each starred
unfolding opened
all_starred = (refl, (refl, (refl, (refl, (refl, (refl, (refl, (refl, (refl, (refl, (refl, (refl, (refl, (refl, (refl, (refl, (refl, (refl, (refl, (refl, (refl, (refl, (refl, tt)))))))))))))))))))))))
