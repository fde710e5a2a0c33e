-- The open channel of a logical channel: its entry is removed, steps by a row, and is put back.
use Rattle.std.proofs.Common.{◌≡◌, ◌≢◌, ◌∙◌, sym, ap, subst, refl, ℕ, ◌+◌, ◌≤◌, Bool, true, false, eqb, cond, nat_lt, arith, [], inr, Option, Some, None}
use Rattle.std.proofs.lemmas.Bool.{eqb-true, eqb-false, le-ltb, lt-ltb}
use Rattle.line_model.specs.declared.gap.EpochStart.{EpochStart}
use Rattle.line_model.specs.declared.interface.Interface.{Interface}
use Rattle.line_model.specs.basics.Bounds.{IsItem}
use Rattle.line_model.specs.declared.state.Side.TheVariants.{T}
use Rattle.line_model.specs.channels.Gaps.{GapChannel, fresh_at, gap_step}
use Rattle.line_model.specs.observer.Machine.{with_state}
use Rattle.line_model.specs.packets.Says.{gap_item}
use Rattle.line_model.proofs.SingleGaps.{gap_again}
use Rattle.channel_run.specs.declared.run.Channel.{Ghosts as Machine}
use Rattle.restart_epochs.specs.ChannelTables.{value_at, HasPut}
use Rattle.header_trials.specs.Tried.{AreChannels, IsCaughtUp, IsChannel, IsOpenChannelOf, caught_up}
use Rattle.header_trials.specs.declared.tried_channels.TriedChannel.{TriedChannel}
use Rattle.header_trials.specs.declared.tried_channels.TriedChannels.{TriedChannels}

-- a gap of all channels is said where gaps are recorded
pub gap_said : (i : Interface) (k n : ℕ) → i.gaps ≡ true → IsItem i k (gap_item n)
gap_said i k n recorded = record {
  said = record {
    row = record { number = n; side = T; octets = []; gap = Some None };
    lawful = record { recorded = recorded; within = tt; side = refl; octets = refl };
    says = refl;
  };
  channel = inr refl;
}

-- a channel that received all gaps
pub all_taken : {A C : Type 0} (m : Machine C A) (i : Interface) (gaps k : ℕ) (g : GapChannel) (c : TriedChannel C) → IsCaughtUp m i gaps k g c → IsChannel m i gaps k g c
all_taken m i gaps k g c h = record {
  interface = h.interface;
  number = h.number;
  taken = omega (arith, h.taken);
  before = g;
  represented = h.represented;
  state_is = sym (ap (λ b. caught_up i k b g) (ap (λ n. nat_lt n gaps) h.taken ∙ le-ltb gaps gaps (omega arith)));
}

-- several gaps of all channels do what one does
caught_twice : (i : Interface) (k : ℕ) (b : Bool) (g : GapChannel) → gap_step i k true (caught_up i k b g) ≡ gap_step i k true g
caught_twice i k true g = gap_again i k g
caught_twice i k false g = refl

one_more : (i : Interface) (k n gaps : ℕ) (state g : GapChannel) → n ≤ gaps → state ≡ caught_up i k (nat_lt n gaps) g → gap_step i k true state ≡ caught_up i k (nat_lt n (gaps + 1)) g
one_more i k n gaps state g le is = ap (gap_step i k true) is ∙ caught_twice i k (nat_lt n gaps) g ∙ sym (ap (λ b. caught_up i k b g) (lt-ltb n (gaps + 1) (omega (arith, le))))

-- a gap of all channels comes
gap_in_open_channel : {A C : Type 0} (m : Machine C A) (i : Interface) (start : EpochStart) (e gaps k : ℕ) (state : GapChannel) (o : Option (TriedChannel C)) → IsOpenChannelOf m i start e gaps k state o → IsOpenChannelOf m i start e (gaps + 1) k (gap_step i k true state) o
gap_in_open_channel m i start e gaps k state None h = one_more i k 0 gaps state (fresh_at i start e k) (omega arith) h
gap_in_open_channel m i start e gaps k state (Some c) h = record {
  interface = h.interface;
  number = h.number;
  taken = omega (arith, h.taken);
  before = h.before;
  represented = h.represented;
  state_is = one_more i k c.gaps gaps state h.before h.taken h.state_is;
}

pub gap_taken : {A C : Type 0} (m : Machine C A) (i : Interface) (start : EpochStart) (e : ℕ) (states : ℕ → GapChannel) (before after : TriedChannels A C) → i.gaps ≡ true → after.open_channels ≡ before.open_channels → after.gaps ≡ before.gaps + 1 → AreChannels m i start e states before
    → AreChannels m i start e (λ k. gap_step i k true (states k)) after
gap_taken m i start e states before after recorded open_channels gaps h = record {
  each = λ k. subst (λ l. IsOpenChannelOf m i start e after.gaps k (gap_step i k true (states k)) (value_at l k)) (sym open_channels)
      (subst (λ n. IsOpenChannelOf m i start e n k (gap_step i k true (states k)) (value_at before.open_channels k)) (sym gaps) (gap_in_open_channel m i start e before.gaps k (states k) (value_at before.open_channels k) (h.each k)));
  recorded = λ some. recorded;
}

-- the open channel of a logical channel that has rows
pub open_channel_of : {A C : Type 0} (m : Machine C A) (i : Interface) (start : EpochStart) (e gaps k : ℕ) (state : GapChannel) (o : Option (TriedChannel C)) (c : TriedChannel C) → o ≡ Some c → IsChannel m i gaps k state c → IsOpenChannelOf m i start e gaps k state o
open_channel_of m i start e gaps k state o c is own = subst (IsOpenChannelOf m i start e gaps k state) (sym is) own

-- a channel that was stepped by a row is put back into its open channel
pub put_back : {A C : Type 0} (m : Machine C A) (i : Interface) (start : EpochStart) (e k : ℕ) (states : ℕ → GapChannel) (next : GapChannel) (first out after : TriedChannels A C) (c : TriedChannel C) → AreChannels m i start e states first
    → ((j : ℕ) → j ≢ k → IsOpenChannelOf m i start e first.gaps j (states j) (value_at out.open_channels j)) → IsCaughtUp m i first.gaps k next c → HasPut k c out.open_channels after.open_channels → after.gaps ≡ first.gaps
    → AreChannels m i start e (with_state states k next) after
put_back m i start e k states next first out after c was others own put gaps = record {
  each = λ j. subst (λ n. IsOpenChannelOf m i start e n j (with_state states k next j) (value_at after.open_channels j)) (sym gaps) (at j (eqb j k) refl);
  recorded = λ some. was.recorded (omega (arith, some, gaps));
}
  where
    at : (j : ℕ) (b : Bool) → eqb j k ≡ b → IsOpenChannelOf m i start e first.gaps j (with_state states k next j) (value_at after.open_channels j)
    at j true same =
        let here : IsOpenChannelOf m i start e first.gaps k next (value_at after.open_channels k) = open_channel_of m i start e first.gaps k next (value_at after.open_channels k) c put.value (all_taken m i first.gaps k next c own) in
        subst (λ s. IsOpenChannelOf m i start e first.gaps j s (value_at after.open_channels j)) (sym (ap (λ b. cond b next (states j)) same))
        (subst (λ n. IsOpenChannelOf m i start e first.gaps n next (value_at after.open_channels n)) (sym (eqb-true j k same)) here)
    at j false other =
        let ne = eqb-false j k other in
        subst (λ s. IsOpenChannelOf m i start e first.gaps j s (value_at after.open_channels j)) (sym (ap (λ b. cond b next (states j)) other))
        (subst (IsOpenChannelOf m i start e first.gaps j (states j)) (sym (put.others j ne)) (others j ne))
