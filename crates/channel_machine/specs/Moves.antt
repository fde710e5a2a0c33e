-- What a move does to the call of its channel.
use Rattle.std.specs.Prelude.{ℕ, ◌≡◌, List}
use Rattle.line_model.specs.declared.interface.Interface.{Interface}
use Rattle.line_model.specs.declared.event.How as how
use Rattle.line_model.specs.declared.state.StateName.{StateName}
use Rattle.line_model.specs.declared.state.StateName.TheVariants.{P6, P7}
use Rattle.line_model.specs.channels.Verdicts.{CallChange}
use Rattle.line_model.specs.channels.Verdicts.CallChange.{Opens as CallOpens, GoesUp as CallGoesUp, Ends as CallEnds, Keeps as CallKeeps}
use Rattle.line_model.specs.packets.Facilities.{fields_of}
use Rattle.packet_decode.specs.Shown.{shown, IsUsable}
use Rattle.channel_machine.specs.declared.moves.Change.{Change}
use Rattle.channel_machine.specs.declared.moves.Change.TheVariants.{Opens, GoesUp, Ends, Keeps}

-- what a move does to the call by its state alone
abbrev pub leaving : StateName → CallChange
leaving P6 = CallEnds how.TheVariants.T
leaving P7 = CallEnds how.TheVariants.N
leaving s = CallKeeps

-- this is what a move by a packet does to the call, with the fields of that packet
abbrev pub IsChange : Change → CallChange → List ℕ → Type 0
IsChange (Opens out f) v xs = (v ≡ CallOpens out) × (shown f.now ≡ fields_of xs)
IsChange (GoesUp f) v xs = (v ≡ CallGoesUp) × (shown f.now ≡ fields_of xs)
IsChange (Ends h) v xs = v ≡ CallEnds h
IsChange Keeps v xs = v ≡ CallKeeps

-- the sizes and windows that it sets can be in force
abbrev pub TakesUsable : Change → Interface → Type 0
TakesUsable (Opens out f) i = IsUsable i f.now
TakesUsable (GoesUp f) i = IsUsable i f.now
TakesUsable _ i = Unit {0}
