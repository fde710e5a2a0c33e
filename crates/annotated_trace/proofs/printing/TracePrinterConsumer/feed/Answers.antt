use Rattle.std.proofs.Common.{[], ◌++◌}
use Rattle.annotated_trace.specs.Printed.{IsPrintOf}
use Rattle.annotated_trace.specs.Printers.{HasFollowed}
use Rattle.annotated_trace.proofs.ReadingLemmas.{chunk_reads, chunk_refused, held_of, more_written}
use Rattle.annotated_trace.proofs.printing.TracePrinterConsumer.feed.Goals as goal

pub feed-requires : goal.feed-requires
feed-requires g c = let was = c.requires.fed in record { fed = (g.P.Printer.rows was.0.printer, was.2, was.3.fed) }

pub returns-clause-fed : goal.returns-clause-fed
returns-clause-fed g c first start text was =
    let before = g.K.Sink.taken start in
    let next = c.feed.new.self in
    let choice = g.P.Printer.rows first.printer in
    let S = HasFollowed g.O.TraceObserver g.P.Printer choice in
    let F = IsPrintOf (g.P.Printer.form choice) [] in
    let held = held_of S g.O.TraceObserver.size F before (g.K.Sink.taken c.args.sink.now) _ _ text c.args.self.now was in
    more_written S g.O.TraceObserver.size F c.feed.result before (g.K.Sink.taken c.args.sink.now) (g.K.Sink.taken c.feed.new.sink) (g.K.Sink.failures start) (g.K.Sink.failures c.args.sink.now) (g.K.Sink.failures c.feed.new.sink) text c.args.chunk.now c.args.self.now next was (c.feed.ensures.fed choice text was.fed)
    (c.feed.ensures.printed choice [] text before was.fed held) c.feed.ensures.none_held c.feed.ensures.rising (λ s. g.met.O.TraceObserver.sound next.trace (text ++ c.args.chunk.now) s.trace.0) (λ s. g.met.O.TraceObserver.sized next.trace (text ++ c.args.chunk.now) s.trace.0)

pub returns-clause-refused : goal.returns-clause-refused
returns-clause-refused g c first start text was =
    let before = g.K.Sink.taken start in
    let choice = g.P.Printer.rows first.printer in
    let S = HasFollowed g.O.TraceObserver g.P.Printer choice in
    let F = IsPrintOf (g.P.Printer.form choice) [] in
    let held = held_of S g.O.TraceObserver.size F before (g.K.Sink.taken c.args.sink.now) _ _ text c.args.self.now was in
    chunk_refused S g.O.TraceObserver.size F c.feed.result before (g.K.Sink.taken c.args.sink.now) (g.K.Sink.taken c.feed.new.sink) (g.K.Sink.failures start) (g.K.Sink.failures c.args.sink.now) (g.K.Sink.failures c.feed.new.sink) text c.args.chunk.now c.args.self.now was c.feed.ensures.rising
    (c.feed.ensures.refused choice text was.fed) (c.feed.ensures.taken choice [] text before was.fed held) (c.feed.ensures.at_line choice [] text before was.fed held) c.feed.ensures.kinds c.feed.ensures.write_failed

pub returns-clause-kinds : goal.returns-clause-kinds
returns-clause-kinds g c = chunk_reads c.feed.result c.feed.ensures.kinds
