-- Document 01's printed example and the bridge network's feed, by computation.
use mathlib.Core.Path.{◌≡◌, refl}
use lib.ListN.{length}
use Rattle.laws.specs.Text.{ascii}
use Rattle.paper.specs.Feed.{feed_of}
use Rattle.paper.specs.Reading.{Accepted, read_of}
use Rattle.paper.specs.Lines.{printed}
use Rattle.paper.specs.Starred.{bridge}
use Rattle.paper.proofs.Opened.{opened}

-- "Its feed has 102 bytes"
pub bridge_bytes : length (feed_of bridge) ≡ 102
unfolding opened
bridge_bytes = refl

pub bridge_read : read_of (feed_of bridge) ≡ Accepted bridge
unfolding opened
bridge_read = refl

-- "Printer with `0 2 100 8 100`"
pub bridge-printed :
    printed (feed_of bridge) (ascii "0 2 100 8 100\n")
    ≡ ascii "journeys 2 work 13\ntrips 1 arrive 400\n0 0 0 2 -\ntrips 2 arrive 280\n0 0 0 1 -\n1 0 0 1 2\n"
unfolding opened
bridge-printed = refl
