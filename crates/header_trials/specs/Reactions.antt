-- How the DCE reacts under a header: whether it answers the errors of the DTE.
use Rattle.std.specs.Prelude.{ℕ, ◌+◌, ◌-◌, ◌==◌, nat_lt, Bool, true, false, ◌&&◌, List, [], ◌∷◌, ◌++◌, Option, Some, None, get_or, length, replicate, set, if◌then◌else◌}
use Rattle.line_model.specs.basics.Octets.{octet}
use Rattle.line_model.specs.basics.Records.{Item}
use Rattle.line_model.specs.channels.Gaps.{GapChannel}
use Rattle.line_model.specs.channels.GapRestart.{GapInterfaceState, routing}
use Rattle.line_model.specs.declared.interface.Interface.{Interface}
use Rattle.line_model.specs.declared.packet.Class.{Class}
use Rattle.line_model.specs.declared.packet.Class.TheVariants.{Clear, Reset, Restart}
use Rattle.line_model.specs.declared.packet.Packet.{Packet}
use Rattle.line_model.specs.declared.packet.Packet as packet
use Rattle.line_model.specs.declared.state.ChannelState.{ChannelState}
use Rattle.line_model.specs.declared.state.ChannelState.TheVariants.{Setup, Transfer}
use Rattle.line_model.specs.declared.state.RState.{RState}
use Rattle.line_model.specs.declared.state.RState.TheVariants.{R3}
use Rattle.line_model.specs.declared.state.Side.{Side}
use Rattle.line_model.specs.declared.state.Side.TheVariants.{N}
use Rattle.line_model.specs.observer.Machine.{Observer, after}
use Rattle.line_model.specs.observer.Observer.{row_step, start, x25}
use Rattle.line_model.specs.packets.Classes.{packet_class}
use Rattle.line_model.specs.packets.Says.{gap_of}
use Rattle.channel_run.specs.Views.{is_adrift}
use Rattle.restart_epochs.specs.Walks.{effect_of}
use Rattle.restart_epochs.specs.declared.walk.ChannelEffect.{ChannelEffect}
use Rattle.restart_epochs.specs.declared.walk.ChannelEffect.TheVariants.{Ends as EndsEpoch, Stays, ToAll, ToChannel}
use Rattle.header_trials.specs.Watched.{Watched}
use Rattle.header_trials.specs.declared.reactions.Reaction.{Reaction}
use Rattle.header_trials.specs.declared.reactions.Reaction.TheVariants.{Answers, Ends, Hides, Nothing, Owes, Passes, Unexplained}
use Rattle.header_trials.specs.declared.reactions.Reactions.{Reactions}

-- ---- what one row does

-- the indication that is owed on a logical channel in a state: a reset in data transfer, a clear elsewhere
abbrev pub awaits : ChannelState → Class → Bool
awaits (Transfer d) Reset = true
awaits (Setup p) Clear = true
awaits _ _ = false

abbrev pub is_restart : Packet → Bool
is_restart packet.TheVariants.Restart = true
is_restart _ = false

-- the cause "local procedure error" (X.25 clauses 5.2.3, 5.4.3 and 5.5.1)
abbrev pub names_local_error : Class → (cause : ℕ) → Bool
names_local_error Restart cause = cause == 1
names_local_error Reset cause = cause == 5
names_local_error Clear cause = cause == 19
names_local_error _ cause = false

abbrev pub is_from_dce : Side → Bool
is_from_dce N = true
is_from_dce _ = false

-- an indication of the DCE that names a local procedure error
abbrev pub blames : Item → Bool
blames r = is_from_dce r.side && names_local_error (packet_class r.packet) (octet 4 r.octets)

-- what a row does, by whether an indication was owed before it and is owed after it, and whether it is that indication
abbrev pub reaction_by : (before after is_awaited : Bool) → Item → Reaction
reaction_by false true is_awaited r = Owes
reaction_by true false is_awaited r = if is_awaited && is_from_dce r.side then Answers else Ends
reaction_by true true is_awaited r = if is_from_dce r.side then Passes else Nothing
reaction_by false false is_awaited r = if blames r then Unexplained else Nothing

-- what a missing packet could explain says nothing of a header
abbrev pub unless_adrift : (is_adrift : Bool) → Reaction → Reaction
unless_adrift true reaction = Nothing
unless_adrift false reaction = reaction

-- what a row does, where it may be a gap of its logical channel: the indication may have come in it
abbrev pub seen_on_channel : (gap : Option (Option ℕ)) → (is_adrift : Bool) → Reaction → Reaction
seen_on_channel None adrift reaction = unless_adrift adrift reaction
seen_on_channel (Some c) adrift reaction = Hides

-- what a row does on its logical channel
abbrev pub channel_reaction : Interface → (channel : ℕ) → GapChannel → Item → Reaction
channel_reaction i k g r =
    seen_on_channel (gap_of r.packet) (is_adrift g.certainty)
    (reaction_by g.channel.owed (row_step i k g r).after.channel.owed (awaits g.channel.state (packet_class r.packet)) r)

-- the state in which the DCE owes a restart indication, where an error of the DTE led to it
abbrev pub is_r3 : RState → Bool
is_r3 R3 = true
is_r3 _ = false

-- what a row of the DCE does in r3, if it stays there
abbrev pub reaction_in_r3 : Item → Reaction
reaction_in_r3 r = if is_restart r.packet then Answers else Passes

-- what a row does that goes to no logical channel, by whether the restart machine was in r3 before it and is so after it, and
-- whether it is the DCE's: the DTE leads there by an error alone
abbrev pub reaction_by_r3 : (before after is_from_dce : Bool) → Item → Reaction
reaction_by_r3 true false n r = Ends
reaction_by_r3 true true true r = reaction_in_r3 r
reaction_by_r3 true true false r = Nothing
reaction_by_r3 false true false r = Owes
reaction_by_r3 false false false r = Nothing
reaction_by_r3 false after true r = if blames r then Unexplained else Nothing

-- what a row does that may be a gap: in one of all channels the restart indication may have come
abbrev pub seen_on_interface : (gap : Option (Option ℕ)) → (is_adrift : Bool) → Reaction → Reaction
seen_on_interface None adrift reaction = unless_adrift adrift reaction
seen_on_interface (Some None) adrift reaction = Hides
seen_on_interface (Some (Some c)) adrift reaction = Nothing

abbrev pub restart_reaction : (before after : GapInterfaceState) → Item → Reaction
restart_reaction before after r =
    seen_on_interface (gap_of r.packet) before.adrift (reaction_by_r3 (is_r3 before.level.state) (is_r3 after.level.state) (is_from_dce r.side) r)

-- what a row does, by where it goes
abbrev pub reaction_on : ChannelEffect → Interface → (before after : GapInterfaceState) → (ℕ → GapChannel) → Item → Reaction
reaction_on (ToChannel k) i before after states r = channel_reaction i k (states k) r
reaction_on _ i before after states r = restart_reaction before after r

-- ---- what is kept

-- before the first row
abbrev pub nothing_watched : Watched
nothing_watched = record { answered = 0; unanswered = 0; unexplained = 0; pending = 0; waits = [] }

abbrev pub no_reactions : Reactions
no_reactions = record { answered = 0; unanswered = 0; unexplained = 0 }

abbrev pub reactions_in : Watched → Reactions
reactions_in w = record { answered = w.answered; unanswered = w.unanswered; unexplained = w.unexplained }

-- the count of a slot
abbrev pub wait_in : (slot : ℕ) → Watched → ℕ
wait_in k w = get_or w.waits k 0

-- a list with a place for a slot
abbrev pub widened : (slot : ℕ) → List ℕ → List ℕ
widened k waits = waits ++ replicate (k + 1 - length waits) 0

-- the slot has this count
abbrev pub with_wait : (slot wait : ℕ) → Watched → Watched
with_wait k n w = record w { waits = set (widened k w.waits) k n }

-- an error is open: an indication is owed
abbrev pub begun : (slot : ℕ) → Watched → Watched
begun k w = record (with_wait k 1 w) { pending = w.pending + 1 }

-- the error is closed
abbrev pub closed : (slot : ℕ) → Watched → Watched
closed k w = record (with_wait k 0 w) { pending = w.pending - 1 }

-- it is closed, since the indication came
abbrev pub answered : (slot : ℕ) → Watched → Watched
answered k w = record (closed k w) { answered = w.answered + 1 }

-- it is closed, since the indication does not come
abbrev pub given_up : (slot : ℕ) → Watched → Watched
given_up k w = record (closed k w) { unanswered = w.unanswered + 1 }

-- a packet of the DCE passes; with the eighth the indication does not come
abbrev pub passed : (slot wait : ℕ) → Watched → Watched
passed k n w = if nat_lt n 8 then with_wait k (n + 1) w else given_up k w

-- what a row does to an indication that is awaited
abbrev pub settled : Reaction → (slot wait : ℕ) → Watched → Watched
settled Answers k n w = answered k w
settled Ends k n w = given_up k w
settled Passes k n w = passed k n w
settled Hides k n w = closed k w
settled _ k n w = w

-- what a row does in a slot: only where an indication is awaited it can be answered, end, be passed or be hidden
abbrev pub noted : (slot : ℕ) → Reaction → Watched → Watched
noted k Owes w = begun k w
noted k Unexplained w = record w { unexplained = w.unexplained + 1 }
noted k Nothing w = w
noted k reaction w = if wait_in k w == 0 then w else settled reaction k (wait_in k w) w

-- a restart ends what is awaited
abbrev pub epoch_ended : Watched → Watched
epoch_ended w = record w { unanswered = w.unanswered + w.pending; pending = 0; waits = [] }

-- a gap of all channels closes all errors: their indications may have come in it
abbrev pub all_hidden : Watched → Watched
all_hidden w = record w { pending = 0; waits = [] }

-- what a row does, by where it goes
abbrev pub watched_after : ChannelEffect → Reaction → Watched → Watched
watched_after (ToChannel k) reaction w = noted k reaction w
watched_after EndsEpoch reaction w = noted 0 reaction (epoch_ended w)
watched_after ToAll reaction w = all_hidden w
watched_after Stays reaction w = noted 0 reaction w

-- ---- what some rows do

abbrev pub watched_next : Interface → Observer GapInterfaceState GapChannel → Item → Watched → Watched
watched_next i o r w =
    let effect : ChannelEffect = effect_of r.packet (routing o.level r).route in
    watched_after effect (reaction_on effect i o.level (routing o.level r).after o.states r) w

abbrev pub watched_from : Interface → Observer GapInterfaceState GapChannel → Watched → List Item → Watched
watched_from i o w [] = w
watched_from i o w (r ∷ rs) = watched_from i (after (x25 i) o r) (watched_next i o r w) rs

-- what is kept after the rows of an interface
abbrev pub watched : Interface → List Item → Watched
watched i rs = watched_from i (start i) nothing_watched rs

-- the errors of the DTE that the DCE answers: the indication that it owes comes; those that it does not answer, since what it owes ends in
-- another way or 8 of its packets pass before; and the indications of a local procedure error that it does not owe. An error whose
-- indication may be missing in a gap is not counted
abbrev pub reactions_of : Interface → List Item → Reactions
reactions_of i rs = reactions_in (watched i rs)
