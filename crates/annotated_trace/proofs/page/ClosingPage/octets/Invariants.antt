use Rattle.std.proofs.Common.{take}
use Rattle.hex.specs.Hex.{encode_upper}
use Rattle.annotated_trace.specs.Pages.{HasNoted}
use Rattle.annotated_trace.specs.Wording.{Remarks, with_words}
use Rattle.annotated_trace.proofs.page.ClosingPage.octets.Given as goal

abbrev pub invariant-loop-octet : goal.invariant-loop-octet
invariant-loop-octet g l =
    (notes : Remarks) → HasNoted g.S.LentSink.before (g.S.Sink.taken l.fn.self.sink, g.S.Sink.failures l.fn.self.sink) l.fn.self.buffer l.fn.self.said notes
    → HasNoted g.S.LentSink.before (g.S.Sink.taken l.self.sink, g.S.Sink.failures l.self.sink) l.self.buffer l.self.said (record { lines = notes.lines; line = with_words notes.line (encode_upper (take l.octet-index l.fn.octets)) })
