use Rattle.std.proofs.Common.{◌≡◌, ◌++◌, List, ℕ, subst, append_assoc, codes, decimal}
use Rattle.line_model.specs.basics.Written.{Writes}
use Rattle.command_line.proofs.faults.put_piece.Goals as goal

joined : (t a b d : List ℕ) → ((t ++ a) ++ b) ++ d ≡ t ++ ((a ++ b) ++ d)
joined t a b d = simp append_assoc

pub returns : goal.returns
returns g c = λ before text w.
    subst (λ l. Writes before (g.E.Sink.taken c.put-2.new.sink, g.E.Sink.failures c.put-2.new.sink) c.put-2.new.self l)
    (joined text (codes "piece ") (decimal c.args.piece) c.args.words.now)
    (c.put-2.ensures before _ (c.put_number.ensures before _ (c.put.ensures before text w)))
