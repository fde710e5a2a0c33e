use Rattle.std.proofs.Common.{subst, sym}
use Rattle.command_line.specs.Answer.{IsOutput}
use Rattle.command_line.specs.Stopped.{HaltsRun, output_workers}
use Rattle.command_line.specs.declared.asked.TraceOutput.{TraceOutput}
use Rattle.command_line.proofs.program.print_output.Goals as goal

pub returns-in-Report-clause-output : goal.returns-in-Report-clause-output
returns-in-Report-clause-output g c =
    subst (λ (output : TraceOutput). IsOutput g.S.Source g.K.Sink g.E.Sink output (g.S.Source.left c.args.source.now) c.scan.new.source c.args.sink.now c.scan.new.sink c.args.errors.now c.scan.new.errors c.scan.result) (sym c.in-Report.is) c.scan.ensures.output

pub returns-in-Printing-clause-output : goal.returns-in-Printing-clause-output
returns-in-Printing-clause-output g c =
    subst (λ (output : TraceOutput). IsOutput g.S.Source g.K.Sink g.E.Sink output (g.S.Source.left c.args.source.now) c.run_print.new.source c.args.sink.now c.run_print.new.sink c.args.errors.now c.run_print.new.errors c.run_print.result) (sym c.in-Printing.is) c.run_print.ensures.status

pub returns-in-Headers-clause-output : goal.returns-in-Headers-clause-output
returns-in-Headers-clause-output g c =
    subst (λ (output : TraceOutput). IsOutput g.S.Source g.K.Sink g.E.Sink output (g.S.Source.left c.args.source.now) c.run_try.new.source c.args.sink.now c.run_try.new.sink c.args.errors.now c.run_try.new.errors c.run_try.result) (sym c.in-Headers.is) c.run_try.ensures.status

pub returns-in-Report-clause-stopped : goal.returns-in-Report-clause-stopped
returns-in-Report-clause-stopped g c three =
    subst (λ (output : TraceOutput). HaltsRun g.S.Source g.K.Sink g.E.Sink (output_workers output) c.args.source.now c.scan.new.source c.args.sink.now c.scan.new.sink c.args.errors.now c.scan.new.errors) (sym c.in-Report.is) (c.scan.ensures.stopped three)

pub returns-in-Printing-clause-stopped : goal.returns-in-Printing-clause-stopped
returns-in-Printing-clause-stopped g c three =
    subst (λ (output : TraceOutput). HaltsRun g.S.Source g.K.Sink g.E.Sink (output_workers output) c.args.source.now c.run_print.new.source c.args.sink.now c.run_print.new.sink c.args.errors.now c.run_print.new.errors) (sym c.in-Printing.is) (c.run_print.ensures.stopped three)

pub returns-in-Headers-clause-stopped : goal.returns-in-Headers-clause-stopped
returns-in-Headers-clause-stopped g c three =
    subst (λ (output : TraceOutput). HaltsRun g.S.Source g.K.Sink g.E.Sink (output_workers output) c.args.source.now c.run_try.new.source c.args.sink.now c.run_try.new.sink c.args.errors.now c.run_try.new.errors) (sym c.in-Headers.is) (c.run_try.ensures.stopped three)

pub returns-in-Text-clause-output : goal.returns-in-Text-clause-output
returns-in-Text-clause-output g c =
    subst (λ (output : TraceOutput). IsOutput g.S.Source g.K.Sink g.E.Sink output (g.S.Source.left c.args.source.now) c.run_copy.new.source c.args.sink.now c.run_copy.new.sink c.args.errors.now c.run_copy.new.errors c.run_copy.result) (sym c.in-Text.is) c.run_copy.ensures.status

pub returns-in-Text-clause-stopped : goal.returns-in-Text-clause-stopped
returns-in-Text-clause-stopped g c three =
    subst (λ (output : TraceOutput). HaltsRun g.S.Source g.K.Sink g.E.Sink (output_workers output) c.args.source.now c.run_copy.new.source c.args.sink.now c.run_copy.new.sink c.args.errors.now c.run_copy.new.errors) (sym c.in-Text.is) (c.run_copy.ensures.stopped three)
