use Rattle.std.proofs.Common.{sym, List, ℕ, []}
use Rattle.std.proofs.lemmas.List.{append-nil}
use Rattle.line_model.proofs.WrittenLemmas.{passed}
use Rattle.line_model.proofs.write_buffer.WriteBuffer.send.Goals as goal

pub returns-in-Ok : goal.returns-in-Ok
returns-in-Ok g c = λ before text w.
    let none : List ℕ = [] in
    passed before _ _ c.args.self.now _ text c.args.bytes.now c.args.bytes.now none w c.if-self.false c.requires (sym (append-nil c.args.bytes.now)) c.in-Ok.ensures.ok (λ e. sym c.requires) c.write_all.ensures.rising (λ e. absurd (let off = c.if-self.false in cc))

pub returns-in-Err : goal.returns-in-Err
returns-in-Err g c = λ before text w.
    let part = c.in-Err.ensures.part in
    passed before _ _ c.args.self.now _ text c.args.bytes.now part.0 part.1 w c.if-self.false c.requires part.2 part.3 (λ e. absurd (cc)) c.write_all.ensures.rising (λ e. c.in-Err.ensures.cause)
