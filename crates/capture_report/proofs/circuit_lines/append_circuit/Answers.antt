-- Each part of the line comes behind those before it.
use Rattle.std.proofs.Common.{◌++◌}
use Rattle.std.specs.Prelude.{codes, decimal}
use Rattle.std.proofs.lemmas.Result.{on_ok_weaker}
use Rattle.capture_report.specs.CircuitLines.{channel_word, end_text}
use Rattle.capture_report.proofs.CircuitLineLemmas.{appended_more}
use Rattle.capture_report.proofs.circuit_lines.append_circuit.Goals as goal

pub returns : goal.returns
returns c =
    let before = c.args.out.now.items in
    let word = codes "#@ circuit " in
    let number = decimal c.args.circuit.now.connection in
    let channel = channel_word c.args.channel in
    let dte = end_text c.args.circuit.now.ends.dte in
    let dce = end_text c.args.circuit.now.ends.dce in
    let numbered = appended_more before word number _ _ c.in_ok-extend_from_slice.ensures.items c.in_ok-append_number.ensures in
    let with_channel = appended_more before (word ++ number) channel _ _ numbered c.in_ok-append_channel.ensures in
    let with_dte = appended_more before ((word ++ number) ++ channel) dte _ _ with_channel c.in_ok-append_end.ensures in
    on_ok_weaker c.append_end-2.result (λ e. appended_more before (((word ++ number) ++ channel) ++ dte) dce _ _ with_dte e) c.append_end-2.ensures
