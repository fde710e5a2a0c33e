use Rattle.std.proofs.lemmas.Grind.{common_steps}
use Rattle.std.proofs.Common.{arith}
use Rattle.line_model.specs.observer.Report.{setting_line}
use Rattle.line_model.specs.basics.Written.{Writes}
use Rattle.report_merge.proofs.WrittenLemmas.{turn}
use Rattle.report_merge.proofs.text.put_settings.Goals as goal

pub loop-setting-preserved : goal.loop-setting-preserved
loop-setting-preserved g c =
    turn (setting_line c.args.number) c.args.settings.now c.loop-setting.setting-index _
    (λ b text. Writes b (g.W.Sink.taken c.args.sink.now, g.W.Sink.failures c.args.sink.now) c.args.out.now text)
    (λ b text. Writes b (g.W.Sink.taken c.loop-setting.sink, g.W.Sink.failures c.loop-setting.sink) c.loop-setting.out text)
    (λ b text. Writes b (g.W.Sink.taken c.put_setting.new.sink, g.W.Sink.failures c.put_setting.new.sink) c.put_setting.new.out text)
    c.loop-setting-test.true c.loop-setting.invariant c.put_setting.ensures

pub returns : goal.returns
returns g c = grind (arith, common_steps) steps 2000000
