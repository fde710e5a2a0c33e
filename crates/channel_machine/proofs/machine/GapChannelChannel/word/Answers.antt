use Rattle.std.proofs.Common.{◌∙◌, Bool, ap}
use Rattle.channel_run.specs.declared.run.View.{View}
use Rattle.channel_machine.specs.declared.gaps.channel.GapChannel.TheInside.{Inside}
use Rattle.channel_machine.specs.GapChannels.{GapKnown}
use Rattle.channel_machine.proofs.Machines.{view_known, viewed}
use Rattle.channel_machine.proofs.machine.GapChannelChannel.word.Goals as goal

pub returns : goal.returns
returns g c k rep =
    let b : Bool = c.is_adrift.result in
    viewed c.args.self.now k b _ rep c.is_adrift.ensures
    (c.set_adrift.ensures ∙ ap (λ (v : View). record v { adrift = b }) c.word-word.ensures
    ∙ ap (λ (v : Inside g.row.A.Denot g.row.S.Denot). view_known v.channel b) c.self-inside.view_is ∙ ap (λ (p : GapKnown). view_known p.channel b) c.self.view_is)
