use Rattle.std.proofs.Common.{◌∙◌, sym, subst, ap, [], ◌∷◌, ◌++◌}
use Rattle.line_model.specs.channels.ChannelStep.{data_reports, messages_after}
use Rattle.line_model.specs.declared.event.What.TheVariants.{Data}
use Rattle.channel_machine.specs.Carried.{carried}
use Rattle.channel_machine.specs.Events.{Reports, event_at}
use Rattle.channel_machine.specs.Messages.{SettingsRepresent, message_reports}
use Rattle.channel_machine.proofs.messages.BothSettings.report_completed.Goals as goal

pub returns-then-carries_message-clause-reports : goal.returns-then-carries_message-clause-reports
returns-then-carries_message-clause-reports g c m ts p size kept represented =
    subst (λ b. Reports c.args.packet.now.origin c.args.events.now.items c.report_message.new.events.items (data_reports c.args.packet.now.side p ts (carried b m))) (sym c.if-carries_message.true)
    (subst (λ n. Reports c.args.packet.now.origin c.args.events.now.items c.report_message.new.events.items (message_reports c.args.packet.now.side n ts m)) (sym size)
    (c.report_message.ensures.reports m ts kept represented))

pub returns-then-carries_message-clause-represented : goal.returns-then-carries_message-clause-represented
returns-then-carries_message-clause-represented g c m ts kept represented =
    subst (λ b. SettingsRepresent c.report_message.new.self (messages_after c.args.packet.now.side ts (carried b m))) (sym c.if-carries_message.true)
    (c.report_message.ensures.represented m ts kept represented)

pub returns-else-carries_message-clause-reports : goal.returns-else-carries_message-clause-reports
returns-else-carries_message-clause-reports g c m ts p size kept represented =
    subst (λ b. Reports c.args.packet.now.origin c.args.events.now.items c.push_reserved.new.self.items (data_reports c.args.packet.now.side p ts (carried b m))) (sym c.if-carries_message.false)
    (c.push_reserved.ensures.items ∙ ap (λ v. c.args.events.now.items ++ v ∷ []) (c.event.ensures ∙ ap (λ w. event_at c.args.packet.now.origin w) (c.data_packet.ensures ∙ ap (λ n. Data c.args.packet.now.side n) (sym size))))

pub returns-else-carries_message-clause-represented : goal.returns-else-carries_message-clause-represented
returns-else-carries_message-clause-represented g c m ts kept represented =
    subst (λ b. SettingsRepresent c.args.self.now (messages_after c.args.packet.now.side ts (carried b m))) (sym c.if-carries_message.false) represented
