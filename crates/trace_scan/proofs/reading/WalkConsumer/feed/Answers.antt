use Rattle.std.proofs.Common.{sym, subst}
use Rattle.std.specs.Prelude.{IfSome}
use Rattle.trace_text.specs.Represents.{IsTextFault}
use Rattle.live_report.proofs.ScanLemmas.{walked_more, walk_refused, walk_reads}
use Rattle.trace_scan.proofs.reading.WalkConsumer.feed.Goals as goal

pub feed-requires : goal.feed-requires
feed-requires g c =
    let was = c.requires.fed in
    record { fed = record { fed = λ running. (was.2, was.3.0); kinds = subst (λ o. IfSome o IsTextFault) (sym was.3.0.running) tt } }

pub returns-clause-fed : goal.returns-clause-fed
returns-clause-fed g c first start text was = walked_more c.feed.result _ _ was.1 (c.feed.ensures.represented text was.0)

pub returns-clause-refused : goal.returns-clause-refused
returns-clause-refused g c first start text was = walk_refused c.feed.result _ _ was.1 (c.feed.ensures.refused text was.0) c.feed.ensures.kinds

pub returns-clause-kinds : goal.returns-clause-kinds
returns-clause-kinds g c = walk_reads c.feed.result c.feed.ensures.kinds
