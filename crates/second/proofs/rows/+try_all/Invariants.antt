-- `second::rows::try_all` ends: the rides fall.
use Rattle.second.proofs.rows.+try_all.Given as goal

abbrev pub decreases-try_all : goal.decreases-try_all
decreases-try_all l = l.rides
