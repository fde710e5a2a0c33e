use Rattle.std.proofs.Common.{◌∙◌, sym}
use Rattle.std.proofs.lemmas.Bool.{OnTrue_at, OnTrue_from}
use Rattle.trace_reading.proofs.InterfaceLemmas.{same_interface}
use Rattle.trace_reading.proofs.text_cutter.RowCutter.is_at.Goals as goal

pub returns-then-eq : goal.returns-then-eq
returns-then-eq g c =
    let header = same_interface c.args.self.now.interface c.args.start.now.interface (sym c.eq.ensures ∙ c.if-eq.true) in
    OnTrue_from c.is_same.result _ (λ same. (header, sym c.machine.ensures ∙ OnTrue_at same c.is_same.ensures))
