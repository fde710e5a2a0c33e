use Rattle.std.proofs.Common.{sym, subst}
use Rattle.line_model.specs.packets.Classes.{packet_class}
use Rattle.channel_machine.specs.Contents.{AreOf}
use Rattle.channel_machine.specs.Moves.{IsChange}
use Rattle.channel_machine.proofs.Leaving.{leaves}
use Rattle.channel_machine.proofs.moves.change_of.Goals as goal

pub returns-in-Other-clause-change : goal.returns-in-Other-clause-change
returns-in-Other-clause-change c item of =
    subst (λ v. IsChange c.leaving-in-Other.result v item.octets)
    (sym (leaves c.args.side (packet_class item.packet) c.args.to (subst (λ k. AreOf k item) c.in-Other.is of))) (c.leaving-in-Other.ensures.change item.octets)
