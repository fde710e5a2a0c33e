use Rattle.std.proofs.Common.{refl, subst, sym}
use Rattle.restart_epochs.specs.Cutting.{no_cutting}
use Rattle.restart_epochs.specs.ChannelTables.{IsEmpty}
use Rattle.restart_epochs.specs.OpenRows.{no_rows}
use Rattle.live_report.specs.Observing.{epoch_at}
use Rattle.live_report.proofs.RepresentLemmas.{open_channels_none, nothing_taken}
use Rattle.live_report.proofs.observer.Observer.new.Goals as goal

pub returns-clause-walked : goal.returns-clause-walked
returns-clause-walked g c =
    nothing_taken g.C.Channel.interface_of g.C.Channel.number_of g.C.Channel.represents c.args.interface.now _
    (record {
      interface = c.new.ensures.interface;
      level = c.new.ensures.machine;
      epoch = c.new.ensures.epoch;
      start = c.new.ensures.start;
      packets = c.new.ensures.packets;
      gaps = c.new.ensures.gaps;
      findings = c.new.ensures.findings;
      ended = c.new-2.ensures;
      gap = c.new-3.ensures.gap;
      open_channels = open_channels_none g.C.Channel.interface_of g.C.Channel.number_of g.C.Channel.represents (epoch_at (no_cutting c.args.interface.now)) no_rows c.new-3.result.table (subst IsEmpty (sym c.new-3.ensures.table) (record { channels = refl; values = λ k. refl })) refl;
    })
    c.none.ensures
