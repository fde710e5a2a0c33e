use Rattle.std.proofs.Common.{None, ap, ◌≡◌, ◌∙◌, ◌++◌, [], subst, sym, refl, Err, IfErr, arith}
use Rattle.std.specs.Prelude.{IfSome}
use Rattle.std.specs.Option.{option_to_list}
use Rattle.std.proofs.lemmas.Result.{IfOk-at_ok, IfOk-from_err, err_from_is_err_and}
use Rattle.hex.specs.Hex.{IsBytes}
use Rattle.line_model.specs.basics.Records.{Row}
use Rattle.line_model.specs.packets.Says.{items_of}
use Rattle.line_model.specs.text.Text.{early_rows}
use Rattle.trace_text.specs.Progress.{Progress}
use Rattle.trace_text.specs.RowTexts.{row_text}
use Rattle.trace_text.specs.Represents.{Represents as IsReaderOf, IsTextFault, TakesRow}
use Rattle.live_report.specs.Found.{HasFound, found, found_at}
use Rattle.live_report.specs.Lives.{IsLastRow, IsObserving}
use Rattle.live_report.proofs.LiveLemmas.{found_headed, not_false, not_true, observing_of, passed_row, passed_rows, represents_observing}
use Rattle.live_report.proofs.live.Live.take_packet.Goals as goal

pub take_row-requires : goal.take_row-requires
take_row-requires g c =
    let room = c.requires in
    let seen = observing_of g.C.Channel.interface_of g.C.Channel.number_of g.C.Channel.represents c.args.self.now room.0 c.in-Some.observer room.1 c.in-Some.is in
    let bytes : IsBytes c.args.octets.now = λ i. let f = c.type_inv.octets i in omega arith in
    let row : Row = record { number = c.args.number; side = c.args.side; octets = c.args.octets.now; gap = None } in
    record { room = (seen.0, items_of seen.0 (early_rows room.0), seen.1.observes, passed_rows seen.0 c.args.self.now.lines c.pass_row.new.self room.0 (row_text row) row room.1.reads (c.pass_row.ensures.passed row refl refl refl bytes c.if-not-pass_row.false) (c.pass_row.ensures.interface ∙ seen.1.header)) }

pub returns-then-not-pass_row-clause-passed : goal.returns-then-not-pass_row-clause-passed
returns-then-not-pass_row-clause-passed g c text s report_is =
    let seen = observing_of g.C.Channel.interface_of g.C.Channel.number_of g.C.Channel.represents c.args.self.now text c.in-Some.observer s c.in-Some.is in
    let same = c.pass_row.ensures.same c.if-not-pass_row.true in
    let w : IsObserving g.C.Channel.interface_of g.C.Channel.number_of g.C.Channel.represents seen.0 text c.pass_row.new.self c.in-Some.observer = record {
      reads = subst (λ (v : Progress). IsReaderOf v text) (sym same) s.reads;
      header = ap (λ (v : Progress). v.interface) same ∙ seen.1.header;
      observes = seen.1.observes;
    } in
    represents_observing g.C.Channel.interface_of g.C.Channel.number_of g.C.Channel.represents seen.0 _ text c.in-Some.observer w refl s.running (subst (λ x. IfSome x (λ o. o.keeps_rows ≡ c.args.self.now.keeps_rows)) c.in-Some.is s.keeps) s.last

pub returns-clause-taken : goal.returns-clause-taken
returns-clause-taken g c text s report_is =
    let seen = observing_of g.C.Channel.interface_of g.C.Channel.number_of g.C.Channel.represents c.args.self.now text c.in-Some.observer s c.in-Some.is in
    let bytes : IsBytes c.args.octets.now = λ i. let f = c.type_inv.octets i in omega arith in
    let row : Row = record { number = c.args.number; side = c.args.side; octets = c.args.octets.now; gap = None } in
    let takes : TakesRow c.args.self.now.lines c.pass_row.new.self (row_text row) [] row = c.pass_row.ensures.passed row refl refl refl bytes c.if-not-pass_row.false in
    let items = items_of seen.0 (early_rows text) in
    let sound = passed_rows seen.0 c.args.self.now.lines c.pass_row.new.self text (row_text row) row s.reads takes (c.pass_row.ensures.interface ∙ seen.1.header) in
    let w = passed_row g.C.Channel.interface_of g.C.Channel.number_of g.C.Channel.represents seen.0 text (row_text row) row c.args.self.now.lines c.pass_row.new.self c.in-Some.observer c.take_row.new.self c.args.self.now.found.items c.append_finding.new.findings.items (option_to_list c.in_ok-finding.finding)
    seen.1 takes c.pass_row.ensures.interface (c.in_ok-finding.ensures.represented seen.0 items seen.1.observes sound) c.in_ok-append_finding.ensures.ok (c.in_ok-finding.ensures.finding seen.0 items seen.1.observes) in
    represents_observing g.C.Channel.interface_of g.C.Channel.number_of g.C.Channel.represents seen.0 _ (text ++ row_text row) c.take_row.new.self w.0 refl s.running (c.in_ok-finding.ensures.keeps ∙ subst (λ x. IfSome x (λ o. o.keeps_rows ≡ c.args.self.now.keeps_rows)) c.in-Some.is s.keeps)
    (λ keeps. subst (IsLastRow (early_rows (text ++ row_text row))) (sym (c.in_ok-keep_row.ensures keeps)) w.2)

pub returns-clause-found : goal.returns-clause-found
returns-clause-found g c text s report_is =
    let seen = observing_of g.C.Channel.interface_of g.C.Channel.number_of g.C.Channel.represents c.args.self.now text c.in-Some.observer s c.in-Some.is in
    let bytes : IsBytes c.args.octets.now = λ i. let f = c.type_inv.octets i in omega arith in
    let row : Row = record { number = c.args.number; side = c.args.side; octets = c.args.octets.now; gap = None } in
    let takes : TakesRow c.args.self.now.lines c.pass_row.new.self (row_text row) [] row = c.pass_row.ensures.passed row refl refl refl bytes c.if-not-pass_row.false in
    let items = items_of seen.0 (early_rows text) in
    let sound = passed_rows seen.0 c.args.self.now.lines c.pass_row.new.self text (row_text row) row s.reads takes (c.pass_row.ensures.interface ∙ seen.1.header) in
    let w = passed_row g.C.Channel.interface_of g.C.Channel.number_of g.C.Channel.represents seen.0 text (row_text row) row c.args.self.now.lines c.pass_row.new.self c.in-Some.observer c.take_row.new.self c.args.self.now.found.items c.append_finding.new.findings.items (option_to_list c.in_ok-finding.finding)
    seen.1 takes c.pass_row.ensures.interface (c.in_ok-finding.ensures.represented seen.0 items seen.1.observes sound) c.in_ok-append_finding.ensures.ok (c.in_ok-finding.ensures.finding seen.0 items seen.1.observes) in
    let headed = found_headed c.args.self.now.lines text (row_text row) seen.0 s.reads seen.1.header in
    subst (λ x. HasFound c.args.self.now.found.items c.append_finding.new.findings.items x (found (text ++ row_text row))) (sym headed.0)
    (subst (λ x. HasFound c.args.self.now.found.items c.append_finding.new.findings.items (found_at seen.0 text) x) (sym headed.1) w.1)

pub returns-in_err-finding-clause-taken : goal.returns-in_err-finding-clause-taken
returns-in_err-finding-clause-taken g c text s is = absurd (IfOk-at_ok (λ _. ⊥) is (IfOk-from_err _ (λ _. ⊥) c.from_residual.ensures.0))

pub returns-in_err-finding-clause-passed : goal.returns-in_err-finding-clause-passed
returns-in_err-finding-clause-passed g c text s is = absurd (IfOk-at_ok (λ _. ⊥) is (IfOk-from_err _ (λ _. ⊥) c.from_residual.ensures.0))

pub returns-in_err-finding-clause-found : goal.returns-in_err-finding-clause-found
returns-in_err-finding-clause-found g c text s is = absurd (IfOk-at_ok (λ _. ⊥) is (IfOk-from_err _ (λ _. ⊥) c.from_residual.ensures.0))

pub returns-in_err-finding-clause-kinds : goal.returns-in_err-finding-clause-kinds
returns-in_err-finding-clause-kinds g c =
    let p = err_from_is_err_and c.from_residual.result c.from_residual.ensures.1 in
    subst (λ r. IfErr r IsTextFault) (sym (p.1 ∙ ap (λ f. Err f) (p.2 ∙ c.in_err-finding.ensures.memory))) tt

pub returns-in_err-append_finding-clause-taken : goal.returns-in_err-append_finding-clause-taken
returns-in_err-append_finding-clause-taken g c text s is = absurd (IfOk-at_ok (λ _. ⊥) is (IfOk-from_err _ (λ _. ⊥) c.from_residual-in_err-append_finding.ensures.0))

pub returns-in_err-append_finding-clause-passed : goal.returns-in_err-append_finding-clause-passed
returns-in_err-append_finding-clause-passed g c text s is = absurd (IfOk-at_ok (λ _. ⊥) is (IfOk-from_err _ (λ _. ⊥) c.from_residual-in_err-append_finding.ensures.0))

pub returns-in_err-append_finding-clause-found : goal.returns-in_err-append_finding-clause-found
returns-in_err-append_finding-clause-found g c text s is = absurd (IfOk-at_ok (λ _. ⊥) is (IfOk-from_err _ (λ _. ⊥) c.from_residual-in_err-append_finding.ensures.0))

pub returns-in_err-append_finding-clause-kinds : goal.returns-in_err-append_finding-clause-kinds
returns-in_err-append_finding-clause-kinds g c =
    let p = err_from_is_err_and c.from_residual-in_err-append_finding.result c.from_residual-in_err-append_finding.ensures.1 in
    subst (λ r. IfErr r IsTextFault) (sym (p.1 ∙ ap (λ f. Err f) p.2)) tt

pub returns-in_err-keep_row-clause-taken : goal.returns-in_err-keep_row-clause-taken
returns-in_err-keep_row-clause-taken g c text s is = absurd (IfOk-at_ok (λ _. ⊥) is (IfOk-from_err _ (λ _. ⊥) c.from_residual-in_err-keep_row.ensures.0))

pub returns-in_err-keep_row-clause-passed : goal.returns-in_err-keep_row-clause-passed
returns-in_err-keep_row-clause-passed g c text s is = absurd (IfOk-at_ok (λ _. ⊥) is (IfOk-from_err _ (λ _. ⊥) c.from_residual-in_err-keep_row.ensures.0))

pub returns-in_err-keep_row-clause-found : goal.returns-in_err-keep_row-clause-found
returns-in_err-keep_row-clause-found g c text s is = absurd (IfOk-at_ok (λ _. ⊥) is (IfOk-from_err _ (λ _. ⊥) c.from_residual-in_err-keep_row.ensures.0))

pub returns-in_err-keep_row-clause-kinds : goal.returns-in_err-keep_row-clause-kinds
returns-in_err-keep_row-clause-kinds g c =
    let p = err_from_is_err_and c.from_residual-in_err-keep_row.result c.from_residual-in_err-keep_row.ensures.1 in
    subst (λ r. IfErr r IsTextFault) (sym (p.1 ∙ ap (λ f. Err f) p.2)) tt

pub returns-in_default-clause-taken : goal.returns-in_default-clause-taken
returns-in_default-clause-taken g c text s is = absurd (not_true is)

pub returns-in_default-clause-found : goal.returns-in_default-clause-found
returns-in_default-clause-found g c text s is = absurd (not_true is)

pub returns-then-not-pass_row-clause-taken : goal.returns-then-not-pass_row-clause-taken
returns-then-not-pass_row-clause-taken g c text s is = absurd (not_true is)

pub returns-then-not-pass_row-clause-found : goal.returns-then-not-pass_row-clause-found
returns-then-not-pass_row-clause-found g c text s is = absurd (not_true is)

pub returns-clause-passed : goal.returns-clause-passed
returns-clause-passed g c text s is = absurd (not_false is)
