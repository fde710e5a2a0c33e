use Rattle.std.proofs.Common.{◌≡◌, ◌∙◌, ap, sym, length, take}
use Rattle.std.proofs.Math.Seq.{take-append_seam}
use Rattle.line_model.specs.basics.Device.{with_more}
use Rattle.command_line.proofs.explaining.print_answer.Goals as goal

pub returns-in-Err-clause-part : goal.returns-in-Err-clause-part
returns-in-Err-clause-part g c three =
    let part = c.in-Err.ensures.part in
    let front : take (length part.0) c.args.text.now ≡ part.0 = ap (take (length part.0)) (sym c.as_bytes.ensures.value ∙ part.2) ∙ take-append_seam part.0 part.1 in
    (length part.0, part.3 ∙ ap (with_more (g.K.Sink.taken c.args.sink.now)) (sym front))

pub returns-in-Err-clause-stopped : goal.returns-in-Err-clause-stopped
returns-in-Err-clause-stopped g c three = (c.in-Err.ensures.cause, c.refuse_write.ensures.said)
