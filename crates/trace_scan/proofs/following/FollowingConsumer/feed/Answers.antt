use Rattle.trace_scan.proofs.FollowLemmas.{fed_of, follow_fed, follow_reads, follow_refused}
use Rattle.trace_scan.proofs.following.FollowingConsumer.feed.Goals as goal

pub feed-requires : goal.feed-requires
feed-requires g c = let was = c.requires.fed in record { fed = fed_of g.C.Channel was.2 c.args.self.now.follower was.3.represented }

pub returns-clause-fed : goal.returns-clause-fed
returns-clause-fed g c first start text was =
    follow_fed g.C.Channel c.feed.result (g.K.Sink.taken start) (g.K.Sink.taken c.args.sink.now) (g.K.Sink.taken c.feed.new.sink) (g.K.Sink.failures start) (g.K.Sink.failures c.args.sink.now) (g.K.Sink.failures c.feed.new.sink) text c.args.chunk.now c.args.self.now.follower
    c.feed.new.self was (c.feed.ensures.represented text was.represented) (c.feed.ensures.findings_written text (g.K.Sink.taken start) was.represented was.shown) c.feed.ensures.rising

pub returns-clause-refused : goal.returns-clause-refused
returns-clause-refused g c first start text was =
    follow_refused c.feed.result (g.K.Sink.taken start) (g.K.Sink.taken c.feed.new.sink) (g.K.Sink.failures start) (g.K.Sink.failures c.args.sink.now) (g.K.Sink.failures c.feed.new.sink) text c.args.chunk.now was.rising c.feed.ensures.rising
    (c.feed.ensures.refused text was.represented) (c.feed.ensures.taken text (g.K.Sink.taken start) was.represented was.shown) (c.feed.ensures.at_line text (g.K.Sink.taken start) was.represented was.shown) c.feed.ensures.kinds (c.feed.ensures.write_failed text was.represented)

pub returns-clause-kinds : goal.returns-clause-kinds
returns-clause-kinds g c = follow_reads c.feed.result c.feed.ensures.kinds
