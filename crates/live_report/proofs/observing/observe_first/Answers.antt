use Rattle.std.proofs.Common.{◌≡◌, ◌∙◌, ◌++◌, [], Err, IfErr, List, refl, ap, subst, sym, length, length-append, arith}
use Rattle.std.specs.Option.{option_to_list}
use Rattle.line_model.specs.text.Text.{early, early_rows}
use Rattle.line_model.specs.declared.fault.Fault.TheVariants.{Memory}
use Rattle.line_model.specs.declared.finding.Finding.{Finding}
use Rattle.std.proofs.lemmas.Result.{IfOk-from_err, err_from_is_err_and}
use Rattle.trace_text.specs.Represents.{IsFaultOf, IsTextFault}
use Rattle.live_report.specs.Found.{IsFoundBy, found_at}
use Rattle.live_report.specs.Lives.{IsLastRow}
use Rattle.live_report.proofs.FoundLemmas.{at_most_one}
use Rattle.live_report.proofs.LiveLemmas.{first_found, first_items, first_last, first_observed, found_then, nothing_more, ok_then}
use Rattle.live_report.proofs.observing.observe_first.Goals as goal

pub take-requires : goal.take-requires
take-requires g c =
    let room = c.requires in
    record { room = (room.0, [], room.2.bare, first_items g.C.Channel.interface_of g.C.Channel.number_of g.C.Channel.represents room.0 room.1 c.args.lines.now c.args.rows.now.next c.args.observer.now room.2) }

pub observe_chunk-requires : goal.observe_chunk-requires
observe_chunk-requires g c =
    let room = c.requires in
    let items = first_items g.C.Channel.interface_of g.C.Channel.number_of g.C.Channel.represents room.0 room.1 c.args.lines.now c.args.rows.now.next c.args.observer.now room.2 in
    (room.0, room.1, first_observed g.C.Channel.interface_of g.C.Channel.number_of g.C.Channel.represents room.0 room.1 c.args.lines.now c.args.rows.now.next c.args.observer.now c.take.new.self room.2 (c.in_ok-take.ensures.represented room.0 [] room.2.bare items))

pub returns-clause-observes : goal.returns-clause-observes
returns-clause-observes g c i text f =
    let items = first_items g.C.Channel.interface_of g.C.Channel.number_of g.C.Channel.represents i text c.args.lines.now c.args.rows.now.next c.args.observer.now f in
    c.observe_chunk.ensures.observes i text (first_observed g.C.Channel.interface_of g.C.Channel.number_of g.C.Channel.represents i text c.args.lines.now c.args.rows.now.next c.args.observer.now c.take.new.self f (c.in_ok-take.ensures.represented i [] f.bare items))

pub returns-clause-refused : goal.returns-clause-refused
returns-clause-refused g c i text f =
    let items = first_items g.C.Channel.interface_of g.C.Channel.number_of g.C.Channel.represents i text c.args.lines.now c.args.rows.now.next c.args.observer.now f in
    c.observe_chunk.ensures.refused i text (first_observed g.C.Channel.interface_of g.C.Channel.number_of g.C.Channel.represents i text c.args.lines.now c.args.rows.now.next c.args.observer.now c.take.new.self f (c.in_ok-take.ensures.represented i [] f.bare items))

pub returns-clause-found : goal.returns-clause-found
returns-clause-found g c i text f =
    let items = first_items g.C.Channel.interface_of g.C.Channel.number_of g.C.Channel.represents i text c.args.lines.now c.args.rows.now.next c.args.observer.now f in
    let observing = first_observed g.C.Channel.interface_of g.C.Channel.number_of g.C.Channel.represents i text c.args.lines.now c.args.rows.now.next c.args.observer.now c.take.new.self f (c.in_ok-take.ensures.represented i [] f.bare items) in
    let first = first_found g.C.Channel.interface_of g.C.Channel.number_of g.C.Channel.represents i text c.args.lines.now c.args.rows.now.next c.args.observer.now c.args.found.now.items c.append_finding.new.findings.items (option_to_list c.in_ok-take.field-0) f
    c.in_ok-append_finding.ensures.ok (c.in_ok-take.ensures.finding i [] f.bare) in
    found_then c.observe_chunk.result c.args.found.now.items c.append_finding.new.findings.items c.observe_chunk.new.found.items [] (found_at i text) (found_at i (text ++ c.args.rest.now)) first (c.observe_chunk.ensures.found i text observing)

pub returns-clause-last : goal.returns-clause-last
returns-clause-last g c i text f keeps =
    let items = first_items g.C.Channel.interface_of g.C.Channel.number_of g.C.Channel.represents i text c.args.lines.now c.args.rows.now.next c.args.observer.now f in
    let observing = first_observed g.C.Channel.interface_of g.C.Channel.number_of g.C.Channel.represents i text c.args.lines.now c.args.rows.now.next c.args.observer.now c.take.new.self f (c.in_ok-take.ensures.represented i [] f.bare items) in
    let kept = c.in_ok-take.ensures.keeps ∙ keeps in
    c.observe_chunk.ensures.last i text observing kept
    (subst (IsLastRow (early_rows text)) (sym (c.keep_next.ensures kept)) (first_last g.C.Channel.interface_of g.C.Channel.number_of g.C.Channel.represents i text c.args.lines.now c.args.rows.now.next c.args.observer.now f))

pub returns-clause-few : goal.returns-clause-few
returns-clause-few g c =
    omega (arith, c.observe_chunk.ensures.few, ap (λ (xs : List Finding). length xs) c.in_ok-append_finding.ensures.ok, length-append c.args.found.now.items (option_to_list c.in_ok-take.field-0), at_most_one c.in_ok-take.field-0)

pub returns-clause-keeps : goal.returns-clause-keeps
returns-clause-keeps g c = ok_then c.observe_chunk.result _ _ (λ h. h ∙ c.in_ok-take.ensures.keeps) c.observe_chunk.ensures.keeps

pub returns-in_err-take-clause-found : goal.returns-in_err-take-clause-found
returns-in_err-take-clause-found g c i text f =
    let p = err_from_is_err_and c.from_residual.result c.from_residual.ensures.1 in
    let memory : c.from_residual.result ≡ Err Memory = p.1 ∙ ap (λ e. Err e) (p.2 ∙ c.in_err-take.ensures.memory) in
    subst (λ r. IsFoundBy r c.args.found.now.items c.args.found.now.items [] (found_at i (text ++ c.args.rest.now))) (sym memory)
    (nothing_more c.args.found.now.items c.args.found.now.items (found_at i (text ++ c.args.rest.now)) refl)

pub returns-in_err-append_finding-clause-found : goal.returns-in_err-append_finding-clause-found
returns-in_err-append_finding-clause-found g c i text f =
    let p = err_from_is_err_and c.from_residual-in_err-append_finding.result c.from_residual-in_err-append_finding.ensures.1 in
    let memory : c.from_residual-in_err-append_finding.result ≡ Err Memory = p.1 ∙ ap (λ e. Err e) p.2 in
    subst (λ r. IsFoundBy r c.args.found.now.items c.append_finding.new.findings.items [] (found_at i (text ++ c.args.rest.now))) (sym memory)
    (nothing_more c.args.found.now.items c.append_finding.new.findings.items (found_at i (text ++ c.args.rest.now)) c.in_err-append_finding.ensures.refused)

pub returns-in_err-append_finding-clause-few : goal.returns-in_err-append_finding-clause-few
returns-in_err-append_finding-clause-few g c = omega (arith, ap (λ (xs : List Finding). length xs) c.in_err-append_finding.ensures.refused)

pub returns-in_err-take-clause-observes : goal.returns-in_err-take-clause-observes
returns-in_err-take-clause-observes g c i text w = IfOk-from_err _ _ c.from_residual.ensures.0

pub returns-in_err-take-clause-last : goal.returns-in_err-take-clause-last
returns-in_err-take-clause-last g c i text w keeps = IfOk-from_err _ _ c.from_residual.ensures.0

pub returns-in_err-take-clause-keeps : goal.returns-in_err-take-clause-keeps
returns-in_err-take-clause-keeps g c = IfOk-from_err _ _ c.from_residual.ensures.0

pub returns-in_err-take-clause-size : goal.returns-in_err-take-clause-size
returns-in_err-take-clause-size g c = IfOk-from_err _ _ c.from_residual.ensures.0

pub returns-in_err-take-clause-limit : goal.returns-in_err-take-clause-limit
returns-in_err-take-clause-limit g c = IfOk-from_err _ _ c.from_residual.ensures.0

pub returns-in_err-take-clause-refused : goal.returns-in_err-take-clause-refused
returns-in_err-take-clause-refused g c i text w =
    let p = err_from_is_err_and c.from_residual.result c.from_residual.ensures.1 in
    subst (λ r. IfErr r (IsFaultOf (early (text ++ c.args.rest.now)))) (sym (p.1 ∙ ap (λ f. Err f) (p.2 ∙ c.in_err-take.ensures.memory))) tt

pub returns-in_err-take-clause-kinds : goal.returns-in_err-take-clause-kinds
returns-in_err-take-clause-kinds g c =
    let p = err_from_is_err_and c.from_residual.result c.from_residual.ensures.1 in
    subst (λ r. IfErr r IsTextFault) (sym (p.1 ∙ ap (λ f. Err f) (p.2 ∙ c.in_err-take.ensures.memory))) tt

pub returns-in_err-append_finding-clause-observes : goal.returns-in_err-append_finding-clause-observes
returns-in_err-append_finding-clause-observes g c i text w = IfOk-from_err _ _ c.from_residual-in_err-append_finding.ensures.0

pub returns-in_err-append_finding-clause-last : goal.returns-in_err-append_finding-clause-last
returns-in_err-append_finding-clause-last g c i text w keeps = IfOk-from_err _ _ c.from_residual-in_err-append_finding.ensures.0

pub returns-in_err-append_finding-clause-keeps : goal.returns-in_err-append_finding-clause-keeps
returns-in_err-append_finding-clause-keeps g c = IfOk-from_err _ _ c.from_residual-in_err-append_finding.ensures.0

pub returns-in_err-append_finding-clause-size : goal.returns-in_err-append_finding-clause-size
returns-in_err-append_finding-clause-size g c = IfOk-from_err _ _ c.from_residual-in_err-append_finding.ensures.0

pub returns-in_err-append_finding-clause-limit : goal.returns-in_err-append_finding-clause-limit
returns-in_err-append_finding-clause-limit g c = IfOk-from_err _ _ c.from_residual-in_err-append_finding.ensures.0

pub returns-in_err-append_finding-clause-refused : goal.returns-in_err-append_finding-clause-refused
returns-in_err-append_finding-clause-refused g c i text w =
    let p = err_from_is_err_and c.from_residual-in_err-append_finding.result c.from_residual-in_err-append_finding.ensures.1 in
    subst (λ r. IfErr r (IsFaultOf (early (text ++ c.args.rest.now)))) (sym (p.1 ∙ ap (λ f. Err f) p.2)) tt

pub returns-in_err-append_finding-clause-kinds : goal.returns-in_err-append_finding-clause-kinds
returns-in_err-append_finding-clause-kinds g c =
    let p = err_from_is_err_and c.from_residual-in_err-append_finding.result c.from_residual-in_err-append_finding.ensures.1 in
    subst (λ r. IfErr r IsTextFault) (sym (p.1 ∙ ap (λ f. Err f) p.2)) tt

pub returns-in_err-take-clause-few : goal.returns-in_err-take-clause-few
returns-in_err-take-clause-few g c = omega arith

pub returns-clause-size : goal.returns-clause-size
returns-clause-size g c = c.observe_chunk.ensures.size

pub returns-clause-limit : goal.returns-clause-limit
returns-clause-limit g c = c.observe_chunk.ensures.limit

pub returns-clause-kinds : goal.returns-clause-kinds
returns-clause-kinds g c = c.observe_chunk.ensures.kinds
