use Rattle.std.proofs.Common.{◌≡◌, ◌∙◌, ◌+◌, ◌++◌, ℕ, List, ap, arith, drop, length, length-append, refl, subst, sym, take}
use Rattle.std.specs.Prelude.{OnOk}
use Rattle.std.proofs.lemmas.List.{take-append-drop}
use Rattle.trace_reading.proofs.Parts.{err_wider, held_after, held_same, represents_front}
use Rattle.trace_reading.specs.Readings.{IsHeld}
use Rattle.trace_reading.proofs.feeding.FedText.take_front.Goals as goal

-- the bytes that are consumed, and those that stay
parts : (room same : List ℕ) (count : ℕ) → same ≡ room → room ≡ take count same ++ drop count room
parts room same count is = sym (take-append-drop count room) ∙ ap (λ xs. take count xs ++ drop count room) (sym is)

pub take-taken-requires-clause-place : goal.take-taken-requires-clause-place
take-taken-requires-clause-place g c = represents_front g.P.TraceText.text c.args.self.now.taken.sent c.args.self.now.room.items (take c.args.count c.as_slice.result.now) (drop c.args.count c.args.self.now.room.items) (parts c.args.self.now.room.items c.as_slice.result.now c.args.count c.as_slice.ensures) c.requires.held.place

pub returns-clause-held : goal.returns-clause-held
returns-clause-held g c =
    let lines : List ℕ = take c.args.count c.as_slice.result.now in
    let rest : List ℕ = drop c.args.count c.args.self.now.room.items in
    subst (λ xs. OnOk c.take-taken.result (IsHeld g.P.TraceText.text c.take-taken.new.self.work.now.queue c.take-taken.new.pass c.take-taken.new.self.sent xs c.take-taken.new.self.text)) (sym c.drop_front.ensures)
    (held_after c.take-taken.result g.P.TraceText.text c.args.self.now.taken.work.now.queue c.take-taken.new.self.work.now.queue c.args.pass.now c.take-taken.new.pass c.args.self.now.taken.sent c.take-taken.new.self.sent lines rest c.args.self.now.taken.text c.take-taken.new.self.text
    (held_same g.P.TraceText.text c.args.self.now.taken.work.now.queue c.args.self.now.taken.work.now.queue c.args.pass.now c.args.self.now.taken.sent c.args.self.now.taken.sent c.args.self.now.room.items (lines ++ rest) c.args.self.now.taken.text c.args.self.now.taken.text c.requires.held refl refl refl (parts c.args.self.now.room.items c.as_slice.result.now c.args.count c.as_slice.ensures))
    c.take-taken.ensures.taken c.take-taken.ensures.sent)

pub returns-clause-refused : goal.returns-clause-refused
returns-clause-refused g c =
    let lines : List ℕ = take c.args.count c.as_slice.result.now in
    let rest : List ℕ = drop c.args.count c.args.self.now.room.items in
    let whole : length c.args.self.now.room.items ≡ length (lines ++ rest) = ap (λ (xs : List ℕ). length xs) (parts c.args.self.now.room.items c.as_slice.result.now c.args.count c.as_slice.ensures) in
    err_wider c.take-taken.result g.P.TraceText.text (c.args.self.now.taken.sent + length lines) (c.args.self.now.taken.sent + length c.args.self.now.room.items) (omega (arith, whole, length-append lines rest)) c.take-taken.ensures.refused
