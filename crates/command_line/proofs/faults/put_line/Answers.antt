use Rattle.std.proofs.Common.{◌≡◌, ◌++◌, List, ℕ, subst, append_assoc, codes, decimal}
use Rattle.line_model.specs.basics.Written.{Writes}
use Rattle.command_line.proofs.faults.put_line.Goals as goal

joined : (t a b d e : List ℕ) → (((t ++ a) ++ b) ++ d) ++ e ≡ t ++ (((a ++ b) ++ d) ++ e)
joined t a b d e = simp append_assoc

pub returns : goal.returns
returns g c = λ before text w.
    subst (λ l. Writes before (g.E.Sink.taken c.put_number-2.new.errors, g.E.Sink.failures c.put_number-2.new.errors) c.put_number-2.new.out l)
    (joined text (codes "line ") (decimal c.args.line) (codes ": kind ") (decimal c.args.kind))
    (c.put_number-2.ensures before _ (c.put-2.ensures before _ (c.put_number.ensures before _ (c.put.ensures before text w))))
