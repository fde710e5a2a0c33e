use Rattle.std.proofs.Common.{sym}
use Rattle.line_model.proofs.WrittenLemmas.{finished}
use Rattle.line_model.proofs.write_buffer.WriteBuffer.end.Goals as goal

pub returns-else-self-clause-ok : goal.returns-else-self-clause-ok
returns-else-self-clause-ok g c before text w =
    finished before _ c.flush.new.self _ (c.flush.ensures.sent before text w) c.if-self.false c.flush.ensures.empty

pub returns-then-self-clause-part : goal.returns-then-self-clause-part
returns-then-self-clause-part g c before text w =
    let s = c.flush.ensures.sent before text w in
    (s.sent, s.left, sym s.whole, s.took)

pub returns-then-self-clause-cause : goal.returns-then-self-clause-cause
returns-then-self-clause-cause g c before text w = (c.flush.ensures.sent before text w).cause c.if-self.true

pub returns-then-self-clause-rising : goal.returns-then-self-clause-rising
returns-then-self-clause-rising g c before text w = (c.flush.ensures.sent before text w).rising

pub returns-else-self-clause-rising : goal.returns-else-self-clause-rising
returns-else-self-clause-rising g c before text w = (c.flush.ensures.sent before text w).rising
