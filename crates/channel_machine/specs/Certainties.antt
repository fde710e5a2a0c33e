-- What is certain of a channel, as the code keeps it.
use Rattle.channel_machine.specs.declared.gaps.channel.Certainty as code
use Rattle.channel_machine.specs.GapView.{KnownCertainty}
use Rattle.channel_machine.specs.GapView.KnownCertainty.{Certain, Adrift, Settled}

abbrev pub certainty_kept : {A : Type 0} → code.Certainty A → KnownCertainty
certainty_kept code.TheVariants.Certain = Certain
certainty_kept (code.TheVariants.Adrift a) = Adrift a
certainty_kept (code.TheVariants.Settled s) = Settled s.value
