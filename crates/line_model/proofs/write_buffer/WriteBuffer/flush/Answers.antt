use Rattle.std.proofs.Common.{◌∙◌, sym, List, ℕ, [], refl}
use Rattle.std.proofs.lemmas.List.{append-nil}
use Rattle.line_model.proofs.WrittenLemmas.{flushed}
use Rattle.line_model.proofs.write_buffer.WriteBuffer.flush.Goals as goal

pub returns-in-Ok-clause-sent : goal.returns-in-Ok-clause-sent
returns-in-Ok-clause-sent g c = λ before text w.
    let held : List ℕ = c.args.self.now.bytes.items in
    let none : List ℕ = [] in
    flushed before _ _ c.args.self.now _ text c.as_slice.result.now none w c.if-self.false (sym c.as_slice.ensures.value ∙ sym (append-nil c.as_slice.result.now)) c.in-Ok.ensures.ok (λ e. refl) c.clear-in-Ok.ensures c.write_all.ensures.rising (λ e. absurd (let off = c.if-self.false in cc))

pub returns-in-Err-clause-sent : goal.returns-in-Err-clause-sent
returns-in-Err-clause-sent g c = λ before text w.
    let part = c.in-Err.ensures.part in
    flushed before _ _ c.args.self.now _ text part.0 part.1 w c.if-self.false (sym c.as_slice.ensures.value ∙ part.2) part.3 (λ e. absurd (cc)) c.clear-in-Err.ensures c.write_all.ensures.rising (λ e. c.in-Err.ensures.cause)
