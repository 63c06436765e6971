-- A feed is accepted exactly when it follows document 01: it is the feed of a sound timetable, and that timetable is what is read.
use mathlib.Core.Path.{◌≡◌, sym, ap, ◌∙◌}
use mathlib.Core.Logic.{◌↔◌}
use mathlib.Core.List.{List}
use Prim.Native.Nat.{ℕ}
use Rattle.laws.proofs.Found.{or_else_none}
use Rattle.paper.specs.Timetable.{Tables}
use Rattle.paper.specs.Rules.{whole_rules, first_broken, fault_of}
use Rattle.paper.specs.Reading.{Accepted, read_of}
use Rattle.paper.proofs.Checks.{sound_of, whole_none}
use Rattle.paper.proofs.ReadBack.{read_feed}
use Rattle.paper.proofs.Accepted.{accepted}
use Rattle.paper.proofs.WellRead.{counts_unbroken}
use Rattle.paper.specs.Demands.{Bytes, Follows}

pub accepted_follows : (f : List ℕ) → Bytes f → (T : Tables) → (read_of f ≡ Accepted T) ↔ Follows f T
unfolding fault_of
accepted_follows f bytes T = (
  λ e. let x = accepted f T bytes e in
      record {
        sound = sound_of T (or_else_none (first_broken whole_rules T) (counts_unbroken T x.counts) ∙ x.rules);
        exact = x.exact;
        feed = x.feed;
      },
  λ x. ap read_of (sym x.feed) ∙ read_feed T x.sound x.exact (whole_none T x.sound),
)
