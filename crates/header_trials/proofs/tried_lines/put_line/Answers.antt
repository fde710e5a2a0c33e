use Rattle.std.proofs.Common.{◌≡◌, ◌++◌, List, ℕ, subst, append_assoc, codes}
use Rattle.line_model.specs.basics.Written.{Writes}
use Rattle.header_trials.specs.TriedLines.{column, header_line}
use Rattle.header_trials.proofs.tried_lines.put_line.Goals as goal

joined : (t a b d e f g s h : List ℕ) → (((((((t ++ a) ++ b) ++ d) ++ e) ++ f) ++ g) ++ s) ++ h ≡ t ++ ((a ++ (b ++ d)) ++ ((e ++ (f ++ g)) ++ (s ++ h)))
joined t a b d e f g s h = simp append_assoc

pub returns : goal.returns
returns g c = λ before text w.
    let tried = c.args.tried.now in
    subst (λ l. Writes before (g.W.Sink.taken c.put_header.new.sink, g.W.Sink.failures c.put_header.new.sink) c.put_header.new.out l)
    (joined text (column 10 tried.reactions.answered) (column 11 tried.reactions.unanswered) (column 12 tried.reactions.unexplained) (column 11 tried.tally.findings) (column 11 tried.tally.packets) (column 11 tried.tally.octets) (codes "  ") (header_line tried.header))
    (c.put_header.ensures before _ (c.put.ensures before _ (c.put_column-6.ensures before _ (c.put_column-5.ensures before _ (c.put_column-4.ensures before _ (c.put_column-3.ensures before _ (c.put_column-2.ensures before _ (c.put_column.ensures before text w))))))))
