-- `cabinet::pospolarku_write` meets its contract, from that of `feed::write`.
use Rattle.cabinet.proofs.pospolarku_write.Goals as goal

pub returns : goal.returns
returns c = record { writing = _; sends = c.write.ensures; number = c.checked_number.ensures }
