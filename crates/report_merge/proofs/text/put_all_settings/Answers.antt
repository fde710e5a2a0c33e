use Rattle.std.proofs.Common.{◌+◌, ◌++◌, List, ℕ, subst, append_assoc, [], refl, sym, ap, ◌∙◌}
use Rattle.std.proofs.lemmas.List.{append-nil}
use Rattle.std.specs.List.{flat_map}
use Rattle.line_model.specs.observer.Report.{setting_line, setting_lines}
use Rattle.line_model.specs.basics.Written.{Writes}
use Rattle.report_merge.proofs.WrittenLemmas.{numbered_more}
use Rattle.report_merge.proofs.text.put_all_settings.Goals as goal

pub loop-index-init : goal.loop-index-init
loop-index-init g c =
    ([], refl, λ before text w. subst (λ l. Writes before (g.W.Sink.taken c.args.sink.now, g.W.Sink.failures c.args.sink.now) c.args.out.now l) (sym (append-nil text)) w)

pub loop-index-preserved : goal.loop-index-preserved
loop-index-preserved g c =
    let t = c.loop-index.invariant in
    let i = c.loop-index.index in
    let x = c.index-calls-index.result in
    let more : List ℕ = setting_lines (i + 1, x) in (
      t.0 ++ more,
      numbered_more setting_lines c.args.calls.now i x t.0 c.loop-index-test.true c.index-calls-index.is t.1,
      λ before text w. subst (λ l. Writes before (g.W.Sink.taken c.put_settings.new.sink, g.W.Sink.failures c.put_settings.new.sink) c.put_settings.new.out l) (append_assoc text t.0 more) (subst (λ xs. Writes before (g.W.Sink.taken c.put_settings.new.sink, g.W.Sink.failures c.put_settings.new.sink) c.put_settings.new.out ((text ++ t.0) ++ flat_map (setting_line (i + 1)) xs)) (c.as_slice.ensures.value ∙ ap (λ r. r.settings) c.call.view_is) (c.put_settings.ensures before _ (t.2 before text w))),
    )
