use Rattle.std.proofs.Common.{◌∙◌, ap, subst, List, ℕ, [], ◌∷◌, ◌++◌}
use Rattle.std.specs.Prelude.{option_to_list}
use Rattle.line_model.specs.declared.event.What.TheVariants.{Data}
use Rattle.line_model.specs.channels.ChannelStep.{option_found}
use Rattle.line_model.specs.channels.Pad.{settings_after}
use Rattle.pad.specs.MessageEvents.{pad_message}
use Rattle.channel_machine.specs.Events.{Reports, event_at}
use Rattle.channel_machine.proofs.Reporting.{three}
use Rattle.channel_machine.proofs.messages.BothSettings.report_well_formed.Goals as goal

pub returns-clause-reports : goal.returns-clause-reports
returns-clause-reports g c ts represented =
    let x = c.args.from in
    let m : List ℕ = (pad_message x c.args.message.now).message in
    let es = c.args.events.now.items in
    let f = c.apply-fault.result in
    subst (λ o. Reports c.args.origin es c.report_after.new.events.items (option_to_list (option_found x o) ++ Data x c.args.size ∷ settings_after o x m)) (c.apply-fault.ensures.fault ts represented)
    (three c.args.origin es c.report_fault.new.events.items c.push_reserved.new.self.items c.report_after.new.events.items (option_to_list (option_found x f)) (settings_after f x m) (Data x c.args.size) c.report_fault.ensures.reports
    (c.push_reserved.ensures.items ∙ ap (λ v. c.report_fault.new.events.items ++ v ∷ []) (c.event.ensures ∙ ap (λ w. event_at c.args.origin w) c.data_packet.ensures)) c.report_after.ensures)

pub returns-clause-represented : goal.returns-clause-represented
returns-clause-represented g c ts represented = c.apply-fault.ensures.represented ts represented
