-- The machine of an interface keeps the premises of the laws.
use Rattle.std.proofs.Common.{◌≡◌, ◌∙◌, ℕ, Bool, true, false, ◌&&◌, ◌||◌, Option, Some, None, List, [], refl, ap, inl, inr}
use Rattle.std.specs.Prelude.{is_none}
use Rattle.std.specs.List.{range_with_len}
use Rattle.std.proofs.lemmas.Bool.{false≢true}
use Rattle.line_model.specs.declared.interface.Interface.{Interface}
use Rattle.line_model.specs.declared.event.How.{How}
use Rattle.line_model.specs.declared.gap.EpochStart.{EpochStart}
use Rattle.line_model.specs.declared.gap.EpochStart.TheVariants.{Restarted, Drifting}
use Rattle.line_model.specs.basics.Records.{Item}
use Rattle.line_model.specs.basics.Bounds.{AreSaid}
use Rattle.line_model.specs.packets.Says.{gap_of}
use Rattle.line_model.specs.channels.Channels.{Channel, is_in_transfer, is_open, is_permanent}
use Rattle.line_model.specs.channels.Gaps.{GapChannel, fresh_at, gap_step, idle_name, left_by_gap, with_largest_terms, is_hidden_by_gap}
use Rattle.line_model.specs.channels.ChannelStep.{entering}
use Rattle.line_model.specs.channels.GapRestart.{GapInterfaceState, is_of_all}
use Rattle.line_model.specs.observer.MachineEvents.{stamp}
use Rattle.line_model.specs.observer.Observer.{x25, end_of_epoch, epoch_end, epoch_end_if, is_confirmation, row_step, step_by}
use Rattle.line_model.specs.pieces.Pieces.{OccursOnce, step_events}
use Rattle.line_model.specs.pieces.Merge.{HasChannels, IsClosed}
use Rattle.line_model.proofs.Walks.{Decides}
use Rattle.line_model.proofs.Handed.{all_range, flags, lines, of_said, once_range}
use Rattle.line_model.proofs.MovesCalls.{steps_are}

-- two states of the restart machine are equal or not
pub gap_lines : Decides GapInterfaceState
gap_lines k l =
    elim (lines k.level l.level) [
      | inl e ↦ elim (flags k.adrift l.adrift) [
        | inl f ↦ elim (flags k.owed_before l.owed_before) [ inl g ↦ inl (all e f g) | inr n ↦ inr (λ h. n (ap (λ (x : GapInterfaceState). x.owed_before) h)) ]
        | inr n ↦ inr (λ h. n (ap (λ (x : GapInterfaceState). x.adrift) h))
      ]
      | inr n ↦ inr (λ h. n (ap (λ (x : GapInterfaceState). x.level) h))
    ]
  where
    all : k.level ≡ l.level → k.adrift ≡ l.adrift → k.owed_before ≡ l.owed_before → k ≡ l
    all e f g = λ i. record { level = e i; adrift = f i; owed_before = g i }

-- a gap leaves a call open, and opens none
left_open : (i : Interface) (n : ℕ) (c : Channel) → is_open (left_by_gap i n c) ≡ is_open c
left_open i n c = at (is_hidden_by_gap i n c) (entering (idle_name (is_permanent i n || is_in_transfer c) c.opening) false c)
  where
    at : (b : Bool) (d : Channel) → is_open (with_largest_terms b i d) ≡ is_open d
    at true d = refl
    at false d = refl

closed_if : (b : Bool) (h : How) → epoch_end_if b h ≡ [] → b ≡ false
closed_if true h e = cc
closed_if false h e = refl

closed_fresh : (i : Interface) (b : EpochStart) (e k : ℕ) → IsClosed (x25 i) e k (fresh_at i b e k)
closed_fresh i Restarted e k x = refl
closed_fresh i (Drifting w) e k x = refl

closed_gap : (i : Interface) (e k : ℕ) (g : GapChannel) (x : Item) → (x25 i).for_all x ≡ true → IsClosed (x25 i) e k g → IsClosed (x25 i) e k ((x25 i).channel_after e k g x)
closed_gap i e k g x h closed y = at (gap_of x.packet) h
  where
    none : is_open g.channel ≡ false
    none = closed_if (is_open g.channel) (end_of_epoch (g.restarting && is_confirmation y)) (closed y)

    at : (gap : Option (Option ℕ)) → is_of_all gap ≡ true → epoch_end (step_by gap i k g x).after y ≡ []
    at None h = absurd (false≢true h)
    at (Some c) h =
        let d : GapChannel = gap_step i k (is_none c) g in
        ap (λ b. epoch_end_if b (end_of_epoch (d.restarting && is_confirmation y))) (left_open i k g.channel ∙ none)

pub has_channels : (i : Interface) (rs : List Item) → AreSaid i rs → HasChannels (x25 i) rs
has_channels i rs said = record {
  once = all_range (λ k. OccursOnce k (range_with_len 1 i.svc)) 1 i.svc (λ k ge lt. once_range 1 i.svc k ge lt);
  of_rows = of_said i rs said;
  nothing_to_close = closed_fresh i;
  stays_closed = closed_gap i;
}

-- a gap has no events
pub silent : (i : Interface) (e k : ℕ) (g : GapChannel) (x : Item) → (x25 i).for_all x ≡ true → (row_step i k g x).reported ≡ []
silent i e k g x h = at (gap_of x.packet) h
  where
    at : (gap : Option (Option ℕ)) → is_of_all gap ≡ true → (step_by gap i k g x).reported ≡ []
    at None h = absurd (false≢true h)
    at (Some c) h = refl

-- the events of a row in a piece are those of its step
pub row_events_are : (i : Interface) (e k : ℕ) (g : GapChannel) (r : Item) → step_events (x25 i) e k g r ((x25 i).for_all r) ≡ stamp e (Some k) r (row_step i k g r).reported
row_events_are i e k g r = steps_are (x25 i) (silent i) e k g r
