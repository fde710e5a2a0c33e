use Rattle.std.proofs.Common.{◌≡◌, ◌++◌, ◌∷◌, Some, sym, ◌∙◌, ap, subst, List, [], append-nil, false, Option}
use Rattle.std.specs.Prelude.{option_to_list, is_none}
use Rattle.line_model.specs.declared.event.What.{What}
use Rattle.line_model.specs.declared.event.What.TheVariants.{Data}
use Rattle.line_model.specs.declared.finding.Xcode.{Xcode}
use Rattle.line_model.specs.channels.ChannelStep.{option_found}
use Rattle.line_model.specs.channels.Pad.{form_fault, message_fault, settings_after}
use Rattle.pad.proofs.Applied.{faulty}
use Rattle.channel_machine.specs.Events.{Reports, event_at}
use Rattle.channel_machine.specs.Messages.{SettingsRepresent, message_reports}
use Rattle.channel_machine.proofs.Kept.{kept_fault, kept_whole, own_message_fault, faulted_settings, unfaulted_short}
use Rattle.channel_machine.proofs.Reporting.{three}
use Rattle.channel_machine.proofs.messages.BothSettings.report_message.Goals as goal

pub returns-in-Err-clause-reports : goal.returns-in-Err-clause-reports
returns-in-Err-clause-reports g c m ts kept represented =
    let x = c.args.from in
    let e : form_fault m ≡ Some c.in-Err.fault = sym (kept_fault m) ∙ ap (λ l. form_fault l) (sym kept) ∙ c.in-Err.ensures.fault in
    let fs : Option Xcode → List What = λ o. option_to_list (option_found x o) in
    let done : Reports c.args.origin c.args.events.now.items c.push_reserved.new.self.items (fs (Some c.in-Err.fault) ++ Data x c.args.size ∷ []) =
    three c.args.origin c.args.events.now.items c.report_fault.new.events.items c.push_reserved.new.self.items c.push_reserved.new.self.items
    (fs (Some c.in-Err.fault)) [] (Data x c.args.size) c.report_fault.ensures.reports
    (c.push_reserved.ensures.items ∙ ap (λ v. c.report_fault.new.events.items ++ v ∷ []) (c.event.ensures ∙ ap (λ w. event_at c.args.origin w) c.data_packet.ensures))
    (sym (append-nil c.push_reserved.new.self.items)) in
    subst (λ o. Reports c.args.origin c.args.events.now.items c.push_reserved.new.self.items (fs o ++ Data x c.args.size ∷ settings_after (message_fault x ts m) x m))
    (sym (own_message_fault x ts m c.in-Err.fault e))
    (subst (λ l. Reports c.args.origin c.args.events.now.items c.push_reserved.new.self.items (fs (Some c.in-Err.fault) ++ Data x c.args.size ∷ l))
    (sym (faulted_settings x ts m c.in-Err.fault e)) done)

pub returns-in-Err-clause-represented : goal.returns-in-Err-clause-represented
returns-in-Err-clause-represented g c m ts kept represented =
    let x = c.args.from in
    let e : form_fault m ≡ Some c.in-Err.fault = sym (kept_fault m) ∙ ap (λ l. form_fault l) (sym kept) ∙ c.in-Err.ensures.fault in
    let faulted : is_none (form_fault m) ≡ false = ap (λ o. is_none o) e in
    record {
      pad_t = represented.pad_t;
      pad_n = represented.pad_n;
      of_t = faulty c.args.self.now.of_t ts x m represented.of_t faulted (faulted_settings x ts m c.in-Err.fault e);
      of_n = faulty c.args.self.now.of_n ts x m represented.of_n faulted (faulted_settings x ts m c.in-Err.fault e);
    }

pub returns-in-Ok-clause-reports : goal.returns-in-Ok-clause-reports
returns-in-Ok-clause-reports g c m ts kept represented =
    let whole : c.args.octets.now ≡ m = kept_whole m c.args.octets.now kept (unfaulted_short c.args.octets.now c.in-Ok.ensures.fault) in
    subst (λ l. Reports c.args.origin c.args.events.now.items c.report_well_formed.new.events.items (message_reports c.args.from c.args.size ts l))
    (c.in-Ok.ensures.message ∙ whole) (c.report_well_formed.ensures.reports ts represented)

pub returns-in-Ok-clause-represented : goal.returns-in-Ok-clause-represented
returns-in-Ok-clause-represented g c m ts kept represented =
    let whole : c.args.octets.now ≡ m = kept_whole m c.args.octets.now kept (unfaulted_short c.args.octets.now c.in-Ok.ensures.fault) in
    subst (λ l. SettingsRepresent c.report_well_formed.new.self (ts ++ record { from = c.args.from; message = l } ∷ []))
    (c.in-Ok.ensures.message ∙ whole) (c.report_well_formed.ensures.represented ts represented)
