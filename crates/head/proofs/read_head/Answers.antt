-- `head::read_head` meets its contract: the tests in 01's order.
use mathlib.Core.Path.{refl}
use Rattle.paper.specs.Reading.{head_only}
use Rattle.head.proofs.Tests.{refused, wrong_mark, wrong_edition, many_routes, many_walks, good_head}
use Rattle.head.proofs.read_head.Goals as goal
use Rattle.head.proofs.read_head.Goals.{then-byte-gt64-via-then-byte-gt64, then-byte-gt64-via-else-byte-gt64+then-two-gt512}

pub returns-then-not-begins : goal.returns-then-not-begins
unfolding head_only
returns-then-not-begins c =
    refused (wrong_mark _ c.requires c.begins.ensures c.if-not-begins.true) refl c.at.ensures

pub returns-then-byte-ne1 : goal.returns-then-byte-ne1
unfolding head_only
returns-then-byte-ne1 c =
    refused (wrong_edition _ c.requires c.begins.ensures c.if-not-begins.false c.byte.ensures.is
    c.if-byte-ne1.true) refl c.at-then-byte-ne1.ensures

pub returns-then-byte-gt64 : goal.returns-then-byte-gt64
unfolding head_only
returns-then-byte-gt64 c =
    elim c.then-byte-gt64.branch [
      | then-byte-gt64-via-then-byte-gt64 w ↦ refused
          (many_routes _ c.requires c.begins.ensures c.if-not-begins.false c.byte.ensures.is
          c.if-byte-ne1.false c.byte-2.ensures.is w.if-byte-gt64.true)
          refl c.at-then-byte-gt64.ensures
      | then-byte-gt64-via-else-byte-gt64+then-two-gt512 w ↦ refused
          (many_walks _ c.requires c.begins.ensures c.if-not-begins.false c.byte.ensures.is
          c.if-byte-ne1.false c.byte-2.ensures.is w.if-byte-gt64.false
          w.two.ensures.is w.if-two-gt512.true)
          refl c.at-then-byte-gt64.ensures
    ]

pub returns : goal.returns
returns c =
    good_head _ c.requires c.begins.ensures c.if-not-begins.false c.byte.ensures.is c.if-byte-ne1.false
    c.byte-2.ensures.is c.if-byte-gt64.false
    c.two.ensures.is c.if-two-gt512.false
