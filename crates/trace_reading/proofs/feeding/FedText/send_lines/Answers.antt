use Rattle.std.proofs.Common.{◌≡◌, ◌+◌, ◌++◌, ℕ, List, ap, arith, length, length-append, refl, sym}
use Rattle.restart_epochs.proofs.Taken.{on_ok}
use Rattle.trace_reading.proofs.Parts.{err_wider, held_after, held_same, ok_is, represents_front}
use Rattle.trace_reading.proofs.feeding.FedText.send_lines.Goals as goal

pub take_room-requires-in_default-clause-held : goal.take_room-requires-in_default-clause-held
take_room-requires-in_default-clause-held g c =
    held_same g.P.TraceText.text c.args.self.now.taken.work.now.queue c.split_room.new.self.taken.work.now.queue c.args.pass.now c.args.self.now.taken.sent c.split_room.new.self.taken.sent c.args.self.now.room.items c.split_room.new.self.room.items c.args.self.now.taken.text c.split_room.new.self.taken.text
    c.requires.held c.split_room.ensures.same.0 c.split_room.ensures.same.1 (ap (λ v. v.queue) c.split_room.ensures.same.2) (sym c.in_default.ensures.parts)

pub returns-in_default-clause-size : goal.returns-in_default-clause-size
returns-in_default-clause-size g c =
    let room : length c.split_room.new.self.room.items ≡ length c.args.self.now.room.items = ap (λ (xs : List ℕ). length xs) c.in_default.ensures.parts in
    ok_is c.take_room-in_default.result _ (c.split_room.new.self.taken.sent + length c.split_room.new.self.room.items) (c.args.self.now.taken.sent + length c.args.self.now.room.items) (omega (arith, c.split_room.ensures.same.0, room)) c.take_room-in_default.ensures.size

pub returns-in_default-clause-refused : goal.returns-in_default-clause-refused
returns-in_default-clause-refused g c =
    let room : length c.split_room.new.self.room.items ≡ length c.args.self.now.room.items = ap (λ (xs : List ℕ). length xs) c.in_default.ensures.parts in
    err_wider c.take_room-in_default.result g.P.TraceText.text (c.split_room.new.self.taken.sent + length c.split_room.new.self.room.items) (c.args.self.now.taken.sent + length c.args.self.now.room.items) (omega (arith, c.split_room.ensures.same.0, room)) c.take_room-in_default.ensures.refused

pub hand_out-requires-clause-place : goal.hand_out-requires-clause-place
hand_out-requires-clause-place g c =
    represents_front g.P.TraceText.text c.split_room.new.self.taken.sent (c.in-Some.lines.items ++ c.split_room.new.self.room.items) c.in-Some.lines.items c.split_room.new.self.room.items refl
    (held_same g.P.TraceText.text c.args.self.now.taken.work.now.queue c.split_room.new.self.taken.work.now.queue c.args.pass.now c.args.self.now.taken.sent c.split_room.new.self.taken.sent c.args.self.now.room.items (c.in-Some.lines.items ++ c.split_room.new.self.room.items) c.args.self.now.taken.text c.split_room.new.self.taken.text
    c.requires.held c.split_room.ensures.same.0 c.split_room.ensures.same.1 (ap (λ v. v.queue) c.split_room.ensures.same.2) c.in-Some.ensures.parts).place

pub returns-clause-held : goal.returns-clause-held
returns-clause-held g c =
    held_after c.hand_out.result g.P.TraceText.text c.split_room.new.self.taken.work.now.queue c.hand_out.new.self.work.now.queue c.args.pass.now c.hand_out.new.pass c.split_room.new.self.taken.sent c.hand_out.new.self.sent c.in-Some.lines.items c.split_room.new.self.room.items c.split_room.new.self.taken.text c.hand_out.new.self.text
    (held_same g.P.TraceText.text c.args.self.now.taken.work.now.queue c.split_room.new.self.taken.work.now.queue c.args.pass.now c.args.self.now.taken.sent c.split_room.new.self.taken.sent c.args.self.now.room.items (c.in-Some.lines.items ++ c.split_room.new.self.room.items) c.args.self.now.taken.text c.split_room.new.self.taken.text
    c.requires.held c.split_room.ensures.same.0 c.split_room.ensures.same.1 (ap (λ v. v.queue) c.split_room.ensures.same.2) c.in-Some.ensures.parts)
    c.hand_out.ensures.taken c.hand_out.ensures.sent

pub returns-clause-refused : goal.returns-clause-refused
returns-clause-refused g c =
    let room : length c.args.self.now.room.items ≡ length (c.in-Some.lines.items ++ c.split_room.new.self.room.items) = ap (λ (xs : List ℕ). length xs) c.in-Some.ensures.parts in
    err_wider c.hand_out.result g.P.TraceText.text (c.split_room.new.self.taken.sent + length c.in-Some.lines.items) (c.args.self.now.taken.sent + length c.args.self.now.room.items) (omega (arith, c.split_room.ensures.same.0, room, length-append c.in-Some.lines.items c.split_room.new.self.room.items)) c.hand_out.ensures.refused

pub hand_out-requires-clause-ready : goal.hand_out-requires-clause-ready
hand_out-requires-clause-ready g c =
    (held_same g.P.TraceText.text c.args.self.now.taken.work.now.queue c.split_room.new.self.taken.work.now.queue c.args.pass.now c.args.self.now.taken.sent c.split_room.new.self.taken.sent c.args.self.now.room.items (c.in-Some.lines.items ++ c.split_room.new.self.room.items) c.args.self.now.taken.text c.split_room.new.self.taken.text
    c.requires.held c.split_room.ensures.same.0 c.split_room.ensures.same.1 (ap (λ v. v.queue) c.split_room.ensures.same.2) c.in-Some.ensures.parts).cut

pub hand_out-requires-clause-few : goal.hand_out-requires-clause-few
hand_out-requires-clause-few g c =
    let room : length c.args.self.now.room.items ≡ length (c.in-Some.lines.items ++ c.split_room.new.self.room.items) = ap (λ (xs : List ℕ). length xs) c.in-Some.ensures.parts in
    omega (arith, c.split_room.ensures.same.0, room, length-append c.in-Some.lines.items c.split_room.new.self.room.items, c.requires.few)

pub returns-clause-size : goal.returns-clause-size
returns-clause-size g c =
    let room : length c.args.self.now.room.items ≡ length (c.in-Some.lines.items ++ c.split_room.new.self.room.items) = ap (λ (xs : List ℕ). length xs) c.in-Some.ensures.parts in
    on_ok c.hand_out.result _ _ c.hand_out.ensures.sent (λ s. omega (arith, s, c.split_room.ensures.same.0, room, length-append c.in-Some.lines.items c.split_room.new.self.room.items))

pub returns-clause-fed : goal.returns-clause-fed
returns-clause-fed g c = c.hand_out.ensures.fed

pub returns-in_default-clause-held : goal.returns-in_default-clause-held
returns-in_default-clause-held g c = c.take_room-in_default.ensures.held

pub returns-in_default-clause-fed : goal.returns-in_default-clause-fed
returns-in_default-clause-fed g c = c.take_room-in_default.ensures.fed
