use Rattle.std.proofs.Common.{◌+◌, take}
use Rattle.std.proofs.lemmas.List.{take_more}
use Rattle.hex.specs.Hex.{encode_upper}
use Rattle.annotated_trace.specs.Wording.{with_words}
use Rattle.annotated_trace.proofs.PageLemmas.{none_added, one_added}
use Rattle.annotated_trace.proofs.page.ClosingPage.octets.Goals as goal

pub loop-octet-init : goal.loop-octet-init
loop-octet-init g c notes h = none_added g.S.LentSink.before _ c.args.self.now.buffer c.args.self.now.said notes h

pub loop-octet-preserved : goal.loop-octet-preserved
loop-octet-preserved g c notes h =
    let octets = c.args.octets.now in
    let i = c.loop-octet.octet-index in
    let first = take i octets in
    one_added g.S.LentSink.before _ c.octet.new.self.buffer c.octet.new.self.said notes first (take (i + 1) octets) _ (take_more octets i 0 c.loop-octet-test.true)
    (c.octet.ensures.said (record { lines = notes.lines; line = with_words notes.line (encode_upper first) }) (c.loop-octet.invariant notes h))
