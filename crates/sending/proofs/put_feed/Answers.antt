-- `sending::put_feed` meets its contract: head, routes, walks and end make the feed.
use mathlib.Core.Path.{refl}
use borrow.Author.Rules.{rules}
use Rattle.sending.proofs.Sent.{puts_last, sent_then}
use Rattle.sending.proofs.Feed.{can_head, can_routes, can_walks, can_end, feed_end}
use Rattle.sending.proofs.put_feed.Goals as goal

pub put_head-requires : goal.put_head-requires
put_head-requires c = can_head c.args.tables c.requires refl

pub put_routes-requires : goal.put_routes-requires
put_routes-requires c = can_routes c.args.tables _ c.requires refl c.put_head.ensures

pub put_walks-requires : goal.put_walks-requires
put_walks-requires c =
    can_walks c.args.tables _ c.requires refl (sent_then c.put_head.ensures c.put_routes.ensures)

pub put_end-requires : goal.put_end-requires
put_end-requires c =
    can_end c.args.tables _ c.requires refl
    (sent_then c.put_head.ensures (sent_then c.put_routes.ensures c.put_walks.ensures))

pub returns : goal.returns
returns c =
    let front = sent_then c.put_head.ensures (sent_then c.put_routes.ensures c.put_walks.ensures) in
    let all = feed_end c.args.tables _ c.requires refl front c.put_end.ensures in
    puts_last all.puts (search rules)
