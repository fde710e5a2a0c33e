use Rattle.std.proofs.Common.{ap, refl}
use Rattle.restart_epochs.specs.OpenRows.{rows_of}
use Rattle.restart_epochs.proofs.Pushes.{represents_nothing}
use Rattle.restart_epochs.proofs.cutter.Cutter.new.Goals as goal

pub returns-clause-represented : goal.returns-clause-represented
returns-clause-represented g c =
    let fresh = c.new.ensures in
    represents_nothing c.args.interface.now _ fresh.interface fresh.machine fresh.epoch fresh.start refl fresh.packets fresh.gaps fresh.findings refl (λ k. ap (λ o. rows_of o k) c.new-2.ensures) (ap (λ o. o.channels) c.new-2.ensures)
