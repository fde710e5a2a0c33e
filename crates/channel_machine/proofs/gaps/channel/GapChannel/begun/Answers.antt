use Rattle.std.proofs.Common.{◌≡◌, ℕ, Bool, true, false, true≢false, refl, subst, sym}
use Rattle.line_model.specs.declared.interface.Interface.{Interface}
use Rattle.line_model.specs.declared.gap.EpochStart.{EpochStart}
use Rattle.line_model.specs.declared.gap.EpochStart.TheVariants.{Restarted}
use Rattle.line_model.specs.declared.state.ChannelState.{ChannelState}
use Rattle.line_model.specs.channels.Channels.{channel_in, fresh_state, is_joined, is_permanent}
use Rattle.line_model.specs.channels.Gaps.{fresh_at}
use Rattle.channel_machine.specs.Channels.{Known, StatusRepresents}
use Rattle.channel_machine.specs.GapChannels.{GapKnown, Represents}
use Rattle.channel_machine.specs.GapView.KnownCertainty.{Certain}
use Rattle.channel_machine.specs.Reached.{IsReached}
use Rattle.channel_machine.proofs.gaps.channel.GapChannel.begun.Goals as goal

fresh_reached : (joined permanent : Bool) → IsReached (channel_in (fresh_state joined permanent))
fresh_reached true permanent = record { bare = refl; waiting = λ e. absurd (true≢false (sym e)) }
fresh_reached false true = record { bare = refl; waiting = λ e. absurd (true≢false (sym e)) }
fresh_reached false false = record { bare = refl; waiting = λ e. absurd (true≢false (sym e)) }

abbrev certain : Known → GapKnown
certain p = record { channel = p; restarting = false; certainty = Certain }

restarted : (i : Interface) (e k : ℕ) (p : Known) (state : ChannelState) (start : EpochStart) → start ≡ Restarted → state ≡ fresh_state (is_joined i e) (is_permanent i k) → StatusRepresents p (channel_in state)
    → Represents (certain p) (fresh_at i start e k)
restarted i e k p state start is fresh represented =
    let known : Represents (certain p) (fresh_at i Restarted e k) = record {
      restarting = refl;
      certainty = refl;
      channel = record { represented = subst (λ s. StatusRepresents p (channel_in s)) fresh represented; reached = fresh_reached (is_joined i e) (is_permanent i k) };
    } in
    subst (λ s. Represents (certain p) (fresh_at i s e k)) (sym is) known

pub returns-in-Restarted-clause-represents : goal.returns-in-Restarted-clause-represents
returns-in-Restarted-clause-represents g c =
    restarted c.args.interface.now c.args.epoch c.args.channel c.in_state.result c.fresh_state.result c.args.start c.in-Restarted.is c.fresh_state.ensures c.in_state.ensures.represented
