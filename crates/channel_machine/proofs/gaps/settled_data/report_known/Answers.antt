use Rattle.std.proofs.Common.{◌≡◌, true, false, sym, ◌∙◌, subst, append-nil, [], ◌∷◌, ◌++◌}
use Rattle.line_model.specs.channels.GapStep.{alike_at_end, settings_in_doubt}
use Rattle.std.specs.Prelude.{◌&&◌}
use Rattle.line_model.specs.channels.Sequences.{sequence_octets}
use Rattle.data_transfer.specs.Assembly.{kept_octets}
use Rattle.data_transfer.specs.UserOctets.{octets_in}
use Rattle.channel_machine.specs.Events.{Reports}
use Rattle.channel_machine.specs.SettledData.{known_message}
use Rattle.channel_machine.specs.SettledSequences.{IsCompleted}
use Rattle.channel_machine.proofs.SettledData.{unknown}
use Rattle.channel_machine.proofs.gaps.settled_data.report_known.Goals as goal

pub returns-then-not-carries_message : goal.returns-then-not-carries_message
returns-then-not-carries_message g c known hs p qualified completed =
    let j = c.args.judgement.now in
    subst (λ b. Reports j.origin c.args.events.now.items c.args.events.now.items (settings_in_doubt j.side (known_message b known hs p))) (sym c.if-not-carries_message.true) (sym (append-nil c.args.events.now.items))

pub returns-in-Some : goal.returns-in-Some
returns-in-Some g c known hs p qualified completed =
    let j = c.args.judgement.now in
    let done : (known ≡ true) × (octets_in c.in-Some.octets ≡ kept_octets (alike_at_end p hs ++ p ∷ [])) = subst (λ o. IsCompleted o known hs p) c.in-Some.is completed in
    subst (λ b. Reports j.origin c.args.events.now.items c.report_settings_of.new.events.items (settings_in_doubt j.side (known_message b known hs p))) (sym c.if-not-carries_message.false)
    (subst (λ b. Reports j.origin c.args.events.now.items c.report_settings_of.new.events.items (settings_in_doubt j.side (known_message true b hs p))) (sym done.0)
    (c.report_settings_of.ensures (sequence_octets (alike_at_end p hs ++ p ∷ [])) (c.as_slice.ensures ∙ done.1)))

pub returns-in-None : goal.returns-in-None
returns-in-None g c known hs p qualified completed =
    let j = c.args.judgement.now in
    let none : (known && p.qualified) ≡ false = subst (λ o. IsCompleted o known hs p) c.in-None.is completed in
    subst (λ m. Reports j.origin c.args.events.now.items c.args.events.now.items (settings_in_doubt j.side m)) (sym (unknown c.args.carries_message known hs p (qualified c.if-not-carries_message.false) none)) (sym (append-nil c.args.events.now.items))
