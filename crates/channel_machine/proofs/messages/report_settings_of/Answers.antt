use Rattle.std.proofs.Common.{◌≡◌, Some, None, sym, ◌∙◌, ap, subst, append-nil}
use Rattle.std.specs.Prelude.{is_some}
use Rattle.line_model.specs.channels.GapStep.{settings_by_form}
use Rattle.line_model.specs.channels.Pad.{form_fault, settings_of}
use Rattle.channel_machine.specs.Events.{Reports}
use Rattle.channel_machine.proofs.Kept.{kept_fault, kept_whole, unfaulted_short}
use Rattle.channel_machine.proofs.messages.report_settings_of.Goals as goal

pub returns-in-Err : goal.returns-in-Err
returns-in-Err g c m kept =
    let e : form_fault m ≡ Some c.in-Err.field-0 = sym (kept_fault m) ∙ ap (λ l. form_fault l) (sym kept) ∙ c.in-Err.ensures.fault in
    subst (λ o. Reports c.args.origin c.args.events.now.items c.args.events.now.items (settings_by_form (is_some o) c.args.from m)) (sym e) (sym (append-nil c.args.events.now.items))

pub returns-in-Ok : goal.returns-in-Ok
returns-in-Ok g c m kept =
    let whole : c.args.octets.now ≡ m = kept_whole m c.args.octets.now kept (unfaulted_short c.args.octets.now c.in-Ok.ensures.fault) in
    let none : form_fault m ≡ None = ap (λ l. form_fault l) (sym whole) ∙ c.in-Ok.ensures.fault in
    subst (λ o. Reports c.args.origin c.args.events.now.items c.report_settings.new.events.items (settings_by_form (is_some o) c.args.from m)) (sym none)
    (subst (λ l. Reports c.args.origin c.args.events.now.items c.report_settings.new.events.items (settings_of c.args.from l)) (c.in-Ok.ensures.message ∙ whole) c.report_settings.ensures)
