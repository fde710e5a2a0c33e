use Rattle.std.proofs.Common.{◌≡◌, None, refl, sym, ◌∙◌, ap}
use Rattle.std.specs.Prelude.{is_none, option_map}
use Rattle.line_model.specs.basics.Records.{Item}
use Rattle.line_model.specs.packets.Says.{gap_of}
use Rattle.line_model.specs.observer.Observer.{row_step}
use Rattle.channel_machine.specs.Certainties.{certainty_kept}
use Rattle.channel_machine.specs.Events.{origin_at}
use Rattle.channel_machine.specs.GapChannels.{GapKnown, interface_of, number_of}
use Rattle.channel_machine.proofs.GapRows.{certain_row, no_gap}
use Rattle.channel_machine.proofs.Machines.{adds_events, represents_after, same_interface, same_number}
use Rattle.channel_machine.proofs.machine.GapChannelChannel.advance.Goals as goal

pub returns-in-None-clause-represented : goal.returns-in-None-clause-represented
returns-in-None-clause-represented g c k s =
    let self : GapKnown = c.args.self.now in
    let r = c.args.item.now in
    let none : gap_of r.packet ≡ None = no_gap (gap_of r.packet) (sym c.in-None.is ∙ c.gap_in.ensures ∙ ap (λ (r : Item). option_map (λ c. is_none c) (gap_of r.packet)) c.item.view_is) in
    represents_after c.handle.result (origin_at c.args.epoch (number_of self) r) r.side self _ c.args.events.now.items c.handle.new.events.items (row_step (interface_of self) (number_of self) k r)
    (certain_row c.handle.result c.args.epoch _ self _ c.args.events.now.items c.handle.new.events.items r k none c.self.view_is s (ap (λ t. certainty_kept t) c.in-Certain.is) refl refl c.handle.ensures.does)

pub returns-in-None-clause-events : goal.returns-in-None-clause-events
returns-in-None-clause-events g c k s =
    let self : GapKnown = c.args.self.now in
    let r = c.args.item.now in
    let none : gap_of r.packet ≡ None = no_gap (gap_of r.packet) (sym c.in-None.is ∙ c.gap_in.ensures ∙ ap (λ (r : Item). option_map (λ c. is_none c) (gap_of r.packet)) c.item.view_is) in
    adds_events c.handle.result (origin_at c.args.epoch (number_of self) r) self _ c.args.events.now.items c.handle.new.events.items (interface_of self) k r refl
    (certain_row c.handle.result c.args.epoch _ self _ c.args.events.now.items c.handle.new.events.items r k none c.self.view_is s (ap (λ t. certainty_kept t) c.in-Certain.is) refl refl c.handle.ensures.does)

pub returns-in-Some-clause-represented : goal.returns-in-Some-clause-represented
returns-in-Some-clause-represented g c k s =
    let self : GapKnown = c.args.self.now in
    let r = c.args.item.now in
    let rarely = c.handle_rarely in
    represents_after rarely.result (origin_at c.args.epoch (number_of self) r) r.side self rarely.new.self c.args.events.now.items rarely.new.events.items (row_step (interface_of self) (number_of self) k r)
    (rarely.ensures.does k s)

pub returns-in-Some-clause-events : goal.returns-in-Some-clause-events
returns-in-Some-clause-events g c k s =
    let self : GapKnown = c.args.self.now in
    let r = c.args.item.now in
    let rarely = c.handle_rarely in
    adds_events rarely.result (origin_at c.args.epoch (number_of self) r) self rarely.new.self c.args.events.now.items rarely.new.events.items (interface_of self) k r refl (rarely.ensures.does k s)

pub returns-in_default-clause-represented : goal.returns-in_default-clause-represented
returns-in_default-clause-represented g c k s =
    let self : GapKnown = c.args.self.now in
    let r = c.args.item.now in
    let rarely = c.handle_rarely-in_default in
    represents_after rarely.result (origin_at c.args.epoch (number_of self) r) r.side self rarely.new.self c.args.events.now.items rarely.new.events.items (row_step (interface_of self) (number_of self) k r)
    (rarely.ensures.does k s)

pub returns-in_default-clause-events : goal.returns-in_default-clause-events
returns-in_default-clause-events g c k s =
    let self : GapKnown = c.args.self.now in
    let r = c.args.item.now in
    let rarely = c.handle_rarely-in_default in
    adds_events rarely.result (origin_at c.args.epoch (number_of self) r) self rarely.new.self c.args.events.now.items rarely.new.events.items (interface_of self) k r refl (rarely.ensures.does k s)

pub returns-in-None-clause-interface : goal.returns-in-None-clause-interface
returns-in-None-clause-interface g c k s =
    let self : GapKnown = c.args.self.now in
    let r = c.args.item.now in
    let none : gap_of r.packet ≡ None = no_gap (gap_of r.packet) (sym c.in-None.is ∙ c.gap_in.ensures ∙ ap (λ (r : Item). option_map (λ c. is_none c) (gap_of r.packet)) c.item.view_is) in
    same_interface c.handle.result (origin_at c.args.epoch (number_of self) r) r.side self _ c.args.events.now.items c.handle.new.events.items (row_step (interface_of self) (number_of self) k r)
    (certain_row c.handle.result c.args.epoch _ self _ c.args.events.now.items c.handle.new.events.items r k none c.self.view_is s (ap (λ t. certainty_kept t) c.in-Certain.is) refl refl c.handle.ensures.does)

pub returns-in-Some-clause-interface : goal.returns-in-Some-clause-interface
returns-in-Some-clause-interface g c k s =
    let self : GapKnown = c.args.self.now in
    let r = c.args.item.now in
    let rarely = c.handle_rarely in
    same_interface rarely.result (origin_at c.args.epoch (number_of self) r) r.side self rarely.new.self c.args.events.now.items rarely.new.events.items (row_step (interface_of self) (number_of self) k r)
    (rarely.ensures.does k s)

pub returns-in_default-clause-interface : goal.returns-in_default-clause-interface
returns-in_default-clause-interface g c k s =
    let self : GapKnown = c.args.self.now in
    let r = c.args.item.now in
    let rarely = c.handle_rarely-in_default in
    same_interface rarely.result (origin_at c.args.epoch (number_of self) r) r.side self rarely.new.self c.args.events.now.items rarely.new.events.items (row_step (interface_of self) (number_of self) k r)
    (rarely.ensures.does k s)

pub returns-in-None-clause-number : goal.returns-in-None-clause-number
returns-in-None-clause-number g c k s =
    let self : GapKnown = c.args.self.now in
    let r = c.args.item.now in
    let none : gap_of r.packet ≡ None = no_gap (gap_of r.packet) (sym c.in-None.is ∙ c.gap_in.ensures ∙ ap (λ (r : Item). option_map (λ c. is_none c) (gap_of r.packet)) c.item.view_is) in
    same_number c.handle.result (origin_at c.args.epoch (number_of self) r) r.side self _ c.args.events.now.items c.handle.new.events.items (row_step (interface_of self) (number_of self) k r)
    (certain_row c.handle.result c.args.epoch _ self _ c.args.events.now.items c.handle.new.events.items r k none c.self.view_is s (ap (λ t. certainty_kept t) c.in-Certain.is) refl refl c.handle.ensures.does)

pub returns-in-Some-clause-number : goal.returns-in-Some-clause-number
returns-in-Some-clause-number g c k s =
    let self : GapKnown = c.args.self.now in
    let r = c.args.item.now in
    let rarely = c.handle_rarely in
    same_number rarely.result (origin_at c.args.epoch (number_of self) r) r.side self rarely.new.self c.args.events.now.items rarely.new.events.items (row_step (interface_of self) (number_of self) k r)
    (rarely.ensures.does k s)

pub returns-in_default-clause-number : goal.returns-in_default-clause-number
returns-in_default-clause-number g c k s =
    let self : GapKnown = c.args.self.now in
    let r = c.args.item.now in
    let rarely = c.handle_rarely-in_default in
    same_number rarely.result (origin_at c.args.epoch (number_of self) r) r.side self rarely.new.self c.args.events.now.items rarely.new.events.items (row_step (interface_of self) (number_of self) k r)
    (rarely.ensures.does k s)
