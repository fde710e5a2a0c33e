-- What a packet does to a channel of a recording with gaps, in the parts of the code.
use Rattle.std.specs.Prelude.{ℕ, false, ◌≡◌, ◌++◌, Option, None, IfNone}
use Rattle.line_model.specs.declared.gap.LastData.{LastData}
use Rattle.line_model.specs.declared.interface.Interface.{Interface}
use Rattle.line_model.specs.declared.state.StateName.TheVariants.{D1}
use Rattle.line_model.specs.basics.Records.{Item}
use Rattle.line_model.specs.packets.Says.{header_in}
use Rattle.line_model.specs.channels.Channels.{Channel}
use Rattle.line_model.specs.channels.ChannelStep.{Outcome, and_then, entering}
use Rattle.line_model.specs.channels.GapStep.{GapOutcome, adrift_received, brought_up, data_reported}
use Rattle.line_model.specs.channels.Gaps.{GapChannel, WhileAdrift}

-- data that counts, on a channel on which nothing is outstanding then
abbrev pub counted_at_rest : Interface → Item → Channel → Outcome
counted_at_rest i r c = record { reported = data_reported i r (header_in r.packet); after = entering D1 false c }

-- a packet of data transfer on a channel adrift, while the other side does not reset
abbrev pub carried_on : Interface → Item → Channel → Outcome
carried_on i r c = and_then (brought_up i c) (counted_at_rest i r)

-- the same packet, which settles the channel or not: by its P(R) and the data packet that this acknowledges
abbrev pub received_after : Interface → Item → WhileAdrift → GapChannel → (receive : Option ℕ) → (acknowledged : Option LastData) → GapOutcome
received_after i r a g o l =
    let up : Outcome = brought_up i g.channel in
    let after : GapOutcome = adrift_received i r a (record g { channel = up.after }) o l in
    record { reported = up.reported ++ after.reported; after = after.after }

-- a channel without a call, of which nothing was answered, or one with a call
abbrev pub IsBare : Channel → Type 0
IsBare c = IfNone c.opening (c.accepting ≡ None)
