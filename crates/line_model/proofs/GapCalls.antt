-- The steps of an interface's channels have effects on their calls.
use Rattle.std.proofs.Common.{◌≡◌, ℕ, Bool, true, false, ◌&&◌, Option, Some, None, refl, arith}
use Rattle.std.specs.Prelude.{is_none}
use Rattle.std.proofs.lemmas.Bool.{and_from, and_parts}
use Rattle.line_model.specs.declared.interface.Interface.{Interface}
use Rattle.line_model.specs.declared.event.How.{How}
use Rattle.line_model.specs.declared.gap.EpochStart.{EpochStart}
use Rattle.line_model.specs.declared.gap.EpochStart.TheVariants.{Restarted, Drifting}
use Rattle.line_model.specs.basics.Records.{Item}
use Rattle.line_model.specs.packets.Says.{gap_of}
use Rattle.line_model.specs.channels.Channels.{channel_in, fresh_state, is_open, is_permanent}
use Rattle.line_model.specs.channels.Gaps.{GapChannel, fresh_at}
use Rattle.line_model.specs.channels.GapRestart.{routing}
use Rattle.line_model.specs.observer.Observer.{x25, epoch_end_if, is_up, row_step, step_by}
use Rattle.line_model.proofs.CallSteps.{marks}
use Rattle.line_model.proofs.GapMachines.{silent}
use Rattle.line_model.proofs.GapEffects.{GapEffects, gap_effects, is_known, packet_once, packet_effects, suits_certainty}
use Rattle.line_model.proofs.Handed.{once_above}
use Rattle.line_model.proofs.Marks.{fresh_closed, fresh_sound, is_sound, is_sound_if, sound_is, up_is}
use Rattle.line_model.proofs.MovesCalls.{MovesCalls}
use Rattle.line_model.proofs.Phases.{Closed, phase_of}
use Rattle.line_model.proofs.RowOpenings.{IsOnce, route_unmarked}
use Rattle.line_model.proofs.Effects.{end_marks, IsSound}

-- a channel whose state says whether its call is open, and suits what is certain
abbrev is_sound_gap : Bool → GapChannel → Bool
is_sound_gap p g = is_sound p g.channel && suits_certainty g.certainty g.channel.state

-- both parts of that
record SoundGap (p : Bool) (g : GapChannel) : Type 0 where
  sound : IsSound p g.channel
  suited : suits_certainty g.certainty g.channel.state ≡ true

sound_gap_is : (p : Bool) (g : GapChannel) → is_sound_gap p g ≡ true → SoundGap p g
sound_gap_is p g h =
    let w = and_parts (is_sound p g.channel) (suits_certainty g.certainty g.channel.state) h in
    record { sound = sound_is p g.channel w.0; suited = w.1 }

is_sound_gap_if : (p : Bool) (g : GapChannel) → IsSound p g.channel → suits_certainty g.certainty g.channel.state ≡ true → is_sound_gap p g ≡ true
is_sound_gap_if p g s h = and_from (is_sound p g.channel) (suits_certainty g.certainty g.channel.state) (is_sound_if p g.channel s) h

-- a channel without a call as an epoch begins
drifting_sound : (p : Bool) → IsSound p (channel_in (fresh_state false p))
drifting_sound true = record { suits = refl; held = refl }
drifting_sound false = record { suits = refl; held = refl }

drifting_known : (p : Bool) → is_known (fresh_state false p) ≡ true
drifting_known true = refl
drifting_known false = refl

drifting_closed : (p : Bool) → phase_of p (fresh_state false p) ≡ Closed
drifting_closed true = refl
drifting_closed false = refl

fresh_valid : (i : Interface) (b : EpochStart) (e k : ℕ) → is_sound_gap (is_permanent i k) (fresh_at i b e k) ≡ true
fresh_valid i Restarted e k = is_sound_gap_if (is_permanent i k) (fresh_at i Restarted e k) (fresh_sound i e k) refl
fresh_valid i (Drifting w) e k = is_sound_gap_if (is_permanent i k) (fresh_at i (Drifting w) e k) (drifting_sound (is_permanent i k)) (drifting_known (is_permanent i k))

fresh_without : (i : Interface) (b : EpochStart) (e k : ℕ) → phase_of (is_permanent i k) (fresh_at i b e k).channel.state ≡ Closed
fresh_without i Restarted e k = fresh_closed i e k
fresh_without i (Drifting w) e k = drifting_closed (is_permanent i k)

step_of : (i : Interface) (k : ℕ) (g : GapChannel) (r : Item) → is_sound_gap (is_permanent i k) g ≡ true → GapEffects (is_permanent i k) g (row_step i k g r)
step_of i k g r h = at (gap_of r.packet)
  where
    both : SoundGap (is_permanent i k) g
    both = sound_gap_is (is_permanent i k) g h

    at : (gap : Option (Option ℕ)) → GapEffects (is_permanent i k) g (step_by gap i k g r)
    at None = packet_effects g.certainty i k r g refl both.sound both.suited
    at (Some c) = gap_effects i k (is_none c) g both.sound

row_once : (i : Interface) (k : ℕ) (g : GapChannel) (r : Item) (gap : Option (Option ℕ)) → IsOnce (step_by gap i k g r).reported
row_once i k g r None = packet_once g.certainty i k r g
row_once i k g r (Some c) = omega arith

end_closes : (b : Bool) (h : How) → marks (epoch_end_if b h) ≡ end_marks b
end_closes true h = refl
end_closes false h = refl

pub moves_calls : (i : Interface) → MovesCalls (x25 i) (is_up i)
moves_calls i = record {
  valid = λ k g. is_sound_gap (is_permanent i k) g;
  phase = λ k g. phase_of (is_permanent i k) g.channel.state;
  is_open = λ g. is_open g.channel;
  up_is = λ k g. up_is (is_permanent i k) g.channel.state;
  held = λ k g h. (sound_gap_is (is_permanent i k) g h).sound.held;
  fresh_valid = fresh_valid i;
  fresh_closed = fresh_without i;
  stays_valid = λ e k g r h. is_sound_gap_if (is_permanent i k) (row_step i k g r).after (step_of i k g r h).effects.sound (step_of i k g r h).suited;
  affected = λ e k g r h. (step_of i k g r h).effects.affected;
  opens_once = λ e k g r. row_once i k g r (gap_of r.packet);
  silent = silent i;
  closes = λ e k g r. end_closes (is_open g.channel) _;
  unmarked_line = λ e l r. route_unmarked r (routing l r).route;
  positive = λ k h. once_above 1 i.svc k h;
}
