use Rattle.std.proofs.Common.{◌≡◌, ◌∙◌, [], subst}
use Rattle.std.specs.Prelude.{MatchOption}
use Rattle.line_model.specs.packets.Says.{items_of}
use Rattle.line_model.specs.text.Text.{early_rows, fault}
use Rattle.trace_text.specs.Represents.{IsFaultOf, IsTextFault}
use Rattle.live_report.specs.Observing.{AreItems, HasWalked}
use Rattle.live_report.proofs.ReportLemmas.{apart, ended_items, memory_only, observed_whole, reported_at, whole_trace}
use Rattle.live_report.proofs.UncountedLemmas.{of_the_text}
use Rattle.std.proofs.lemmas.Result.{IfOk-from_err}
use Rattle.live_report.proofs.live.Live.finish.Goals as goal

pub finish_observing-requires : goal.finish_observing-requires
finish_observing-requires g c =
    let room = c.requires.fed.fed c.in_ok-interface.ensures.running in
    let text = room.0 in
    let i = c.in_ok-interface.field-0.interface in
    let ok = c.in_ok-interface.ensures.ok text room.1 in
    let begun = subst (λ o. MatchOption o (HasWalked g.C.Channel i [] c.or_begun-observer.result) (λ x. c.or_begun-observer.result ≡ x)) (c.take.ensures.value ∙ c.in_ok-interface.ensures.observer) c.or_begun-observer.ensures in
    let seen = observed_whole g.C.Channel.interface_of g.C.Channel.number_of g.C.Channel.represents c.args.self.now.lines text i c.args.self.now.observer c.or_begun-observer.result room.1.reads ok.1 room.1.observed begun in
    let all = ended_items i text c.in_ok-interface.field-0.has_row c.end_lines.new.self.rows.next (c.in_ok-interface.ensures.row text room.1) in
    record { room = (i, items_of i (early_rows text), seen, subst (AreItems i) all (whole_trace i text ok.0 ok.1)) }

pub returns-clause-report_is : goal.returns-clause-report_is
returns-clause-report_is g c text s =
    let i = c.in_ok-interface.field-0.interface in
    let ok = c.in_ok-interface.ensures.ok text s in
    let begun = subst (λ o. MatchOption o (HasWalked g.C.Channel i [] c.or_begun-observer.result) (λ x. c.or_begun-observer.result ≡ x)) (c.take.ensures.value ∙ c.in_ok-interface.ensures.observer) c.or_begun-observer.ensures in
    let seen = observed_whole g.C.Channel.interface_of g.C.Channel.number_of g.C.Channel.represents c.args.self.now.lines text i c.args.self.now.observer c.or_begun-observer.result s.reads ok.1 s.observed begun in
    let all = ended_items i text c.in_ok-interface.field-0.has_row c.end_lines.new.self.rows.next (c.in_ok-interface.ensures.row text s) in
    reported_at text i _ c.finish_observing.result (c.finish_observing.ensures.report i (items_of i (early_rows text)) seen (subst (AreItems i) all (whole_trace i text ok.0 ok.1))) ok.0 ok.1 all

pub returns-clause-refused : goal.returns-clause-refused
returns-clause-refused g c text s = memory_only (IsFaultOf (fault text)) c.finish_observing.result c.finish_observing.ensures.memory tt

pub returns-clause-kinds : goal.returns-clause-kinds
returns-clause-kinds g c = memory_only IsTextFault c.finish_observing.result c.finish_observing.ensures.memory tt

pub returns-clause-again : goal.returns-clause-again
returns-clause-again g c fault is = absurd (apart c.args.self.now.refused fault c.in_ok-interface.ensures.running is)

pub returns-clause-uncounted : goal.returns-clause-uncounted
returns-clause-uncounted g c text s =
    let i = c.in_ok-interface.field-0.interface in
    let ok = c.in_ok-interface.ensures.ok text s in
    let begun = subst (λ o. MatchOption o (HasWalked g.C.Channel i [] c.or_begun-observer.result) (λ x. c.or_begun-observer.result ≡ x)) (c.take.ensures.value ∙ c.in_ok-interface.ensures.observer) c.or_begun-observer.ensures in
    let seen = observed_whole g.C.Channel.interface_of g.C.Channel.number_of g.C.Channel.represents c.args.self.now.lines text i c.args.self.now.observer c.or_begun-observer.result s.reads ok.1 s.observed begun in
    let all = ended_items i text c.in_ok-interface.field-0.has_row c.end_lines.new.self.rows.next (c.in_ok-interface.ensures.row text s) in
    of_the_text c.finish_observing.result text i _ _ (c.finish_observing.ensures.uncounted i (items_of i (early_rows text)) seen (subst (AreItems i) all (whole_trace i text ok.0 ok.1))) ok.1 all

pub returns-in_err-interface-clause-report_is : goal.returns-in_err-interface-clause-report_is
returns-in_err-interface-clause-report_is g c text s = IfOk-from_err _ _ c.from_residual.ensures.0

pub returns-in_err-interface-clause-uncounted : goal.returns-in_err-interface-clause-uncounted
returns-in_err-interface-clause-uncounted g c text s = IfOk-from_err _ _ c.from_residual.ensures.0
