use Rattle.live_report.proofs.ScanLemmas.{walked_more, walk_refused, walk_reads}
use Rattle.header_trials.proofs.tried_text.TriedTextConsumer.feed.Goals as goal

pub take_chunk-requires : goal.take_chunk-requires
take_chunk-requires g c = let was = c.requires.fed in (was.2, was.3.0)

pub returns-clause-fed : goal.returns-clause-fed
returns-clause-fed g c first start text was = walked_more c.take_chunk.result _ _ was.1 (c.take_chunk.ensures.taken text was.0)

pub returns-clause-refused : goal.returns-clause-refused
returns-clause-refused g c first start text was = walk_refused c.take_chunk.result _ _ was.1 (c.take_chunk.ensures.refused text was.0) c.take_chunk.ensures.kinds

pub returns-clause-kinds : goal.returns-clause-kinds
returns-clause-kinds g c = walk_reads c.take_chunk.result c.take_chunk.ensures.kinds
