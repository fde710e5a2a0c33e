-- The order between a channel of the whole walk and the same channel of a recording with gaps, whether it is a permanent circuit or one for calls.
use Rattle.std.proofs.Common.{◌≡◌, ◌==◌, ℕ, Bool, true, false, refl, sym, subst, List, None}
use Rattle.std.specs.Prelude.{not, ◌&&◌, ◌||◌}
use Rattle.std.proofs.lemmas.Bool.{false≢true}
use Rattle.line_model.specs.declared.gap.EpochStart.TheVariants.{Restarted, Drifting}
use Rattle.line_model.specs.declared.gap.Owed.TheVariants.{NoIndication}
use Rattle.line_model.specs.declared.interface.Interface.{Interface}
use Rattle.line_model.specs.declared.packet.Packet as packet
use Rattle.line_model.specs.declared.packet.PacketKind.{PacketKind}
use Rattle.line_model.specs.declared.state.Side.{Side}
use Rattle.line_model.specs.declared.state.DState as transfer
use Rattle.line_model.specs.declared.state.PState as setup
use Rattle.line_model.specs.declared.state.ChannelState.TheVariants.{Setup}
use Rattle.line_model.specs.basics.Records.{Item}
use Rattle.line_model.specs.channels.Channels.{Channel, channel_in, fresh_state, is_joined, is_permanent, other}
use Rattle.line_model.specs.channels.Gaps.{GapChannel, certain, drifting, fresh_at, gap_step, of_both}
use Rattle.line_model.specs.channels.GapStep.{gap_channel_step}
use Rattle.gap_laws.proofs.Read.{is_read}
use Rattle.gap_laws.proofs.Circuits.{Circuit, IsOrdered, channel_of, idle, silent}
use Rattle.gap_laws.proofs.Fits.{FitsAdrift, adrift_at}
use Rattle.gap_laws.proofs.Fits.Fits.{FitsAll, FitsAnyAfter}
use Rattle.gap_laws.proofs.Entries.{row_at}
use Rattle.gap_laws.proofs.DataSteps.{DriftsBy, fits_adrift, none_seen}
use Rattle.gap_laws.proofs.Observers.{IsOn}
use Rattle.gap_laws.proofs.Thinning.{Pair, Step, gap_opens, open_fits, whole_after, whole_silent}
use Rattle.gap_laws.proofs.ResetSteps.{idle_ordered}
use Rattle.gap_laws.proofs.CircuitRows.{Any, NothingSaid, circuit_waits, kind_steps, none_gap, passing_state}
use Rattle.gap_laws.proofs.Calls.{AnyCall, Drifts, SameCall, drifts_none}
use Rattle.gap_laws.proofs.WholeCalls.{NearCall, WholeCall, call_gap, call_stays, call_waits, call_whole, clearing, drift_gap}

-- ---- relations, by whether the channel is a permanent circuit

-- a circuit of the whole walk
pub record WholeCircuit (i : Interface) (a : GapChannel) : Type 0 where
  pub circuit : Circuit
  pub is : a ≡ certain (channel_of circuit)
  pub ordered : (y : Side) → IsOrdered i.modulus circuit y

abbrev pub WholeBy : (permanent : Bool) → Interface → GapChannel → Type 0
WholeBy true i a = WholeCircuit i a
WholeBy false i a = WholeCall i a

-- a channel of the whole walk, and one of the other that knows no more
abbrev pub NearBy : (permanent : Bool) → Interface → GapChannel → GapChannel → Type 0
NearBy true i a g = Pair i Any a g
NearBy false i a g = NearCall i a g

-- a channel adrift while a side restarts the interface
abbrev pub MeanwhileBy : (permanent : Bool) → Interface → Side → GapChannel → Type 0
MeanwhileBy true i y g = FitsAdrift i (idle (passing_state (other y))) g
MeanwhileBy false i y g = Drifts i (clearing y) true g

-- a channel right after a gap
abbrev pub OpenedBy : (permanent : Bool) → Interface → (all : Bool) → GapChannel → Type 0
OpenedBy true i all g = (b : Bool) × (g ≡ adrift_at transfer.TheVariants.D1 b (of_both None))
OpenedBy false i all g = (b : Bool) × ((c : Channel) → Drifts i c (b || all) g)

abbrev pub Whole : Interface → ℕ → GapChannel → Type 0
Whole i k = WholeBy (is_permanent i k) i

abbrev pub Near : Interface → ℕ → GapChannel → GapChannel → Type 0
Near i k = NearBy (is_permanent i k) i

abbrev pub Meanwhile : Interface → Side → ℕ → GapChannel → Type 0
Meanwhile i y k = MeanwhileBy (is_permanent i k) i y

abbrev pub Opened : Interface → (all : Bool) → ℕ → GapChannel → Type 0
Opened i all k = OpenedBy (is_permanent i k) i all

-- ---- what follows from what

pub near_whole : (i : Interface) (k : ℕ) (a g : GapChannel) → Near i k a g → Whole i k a
near_whole i k a g = at (is_permanent i k)
  where
    at : (p : Bool) → NearBy p i a g → WholeBy p i a
    at true n = record { circuit = n.whole; is = n.is; ordered = n.ordered }
    at false n = n.0

pub open_near : (i : Interface) (all : Bool) (k : ℕ) (a g : GapChannel) → Whole i k a → Opened i all k g → Near i k a g
open_near i all k a g = at (is_permanent i k)
  where
    at : (p : Bool) → WholeBy p i a → OpenedBy p i all g → NearBy p i a g
    at true w o = record { whole = w.circuit; is = w.is; valid = tt; ordered = w.ordered; fits = open_fits i w.circuit o.0 g o.1 }
    at false w o = (w, o.0 || all, AnyCall (o.1 w.channel))

pub open_meanwhile : (i : Interface) (y : Side) (k : ℕ) (g : GapChannel) → Opened i true k g → Meanwhile i y k g
open_meanwhile i y k g = at (is_permanent i k)
  where
    at : (p : Bool) → OpenedBy p i true g → MeanwhileBy p i y g
    at true o =
        let q : Circuit = idle (passing_state (other y)) in
        subst (FitsAdrift i q) (sym o.1) (fits_adrift i q transfer.TheVariants.D1 o.0 (of_both None) (none_seen i.modulus q (of_both None) refl) tt)
    at false (true, d) = d (clearing y)
    at false (false, d) = d (clearing y)

-- ---- gaps

pub near_open : (i : Interface) (all : Bool) (k : ℕ) (a g : GapChannel) → Near i k a g → Opened i all k (gap_step i k all g)
near_open i all k a g = at (is_permanent i k) refl
  where
    at : (p : Bool) → is_permanent i k ≡ p → NearBy p i a g → OpenedBy p i all (gap_step i k all g)
    at true e n = gap_opens i k all n.whole g e n.fits
    at false e n = call_gap i k all e a g n

pub meanwhile_open : (i : Interface) (y : Side) (k : ℕ) (g : GapChannel) → Meanwhile i y k g → Opened i true k (gap_step i k true g)
meanwhile_open i y k g = at (is_permanent i k) refl
  where
    at : (p : Bool) → is_permanent i k ≡ p → MeanwhileBy p i y g → OpenedBy p i true (gap_step i k true g)
    at true e m = gap_opens i k true (idle (passing_state (other y))) g e (FitsAnyAfter m)
    at false e m = (true, drift_gap i k true e true (clearing y) g m)

pub meanwhile_gap : (i : Interface) (y : Side) (k : ℕ) (g : GapChannel) → Meanwhile i y k g → Meanwhile i y k (gap_step i k false g)
meanwhile_gap i y k g = at (is_permanent i k) refl
  where
    at : (p : Bool) → is_permanent i k ≡ p → MeanwhileBy p i y g → MeanwhileBy p i y (gap_step i k false g)
    at true e m =
        let q : Circuit = idle (passing_state (other y)) in
        let o = gap_opens i k false q g e (FitsAnyAfter m) in
        subst (FitsAdrift i q) (sym o.1) (fits_adrift i q transfer.TheVariants.D1 o.0 (of_both None) (none_seen i.modulus q (of_both None) refl) tt)
    at false e m = drift_gap i k false e true (clearing y) g m (clearing y)

-- ---- channels as an epoch begins

-- the recording doesn't begin in the middle, or it says so by gaps
abbrev pub BeginsKnown : Interface → Type 0
BeginsKnown i = (i.join && not i.gaps) ≡ false

unjoined : (i : Interface) (e : ℕ) → BeginsKnown i → is_joined i e ≡ false
unjoined i e = at i.join i.gaps
  where
    at : (j g : Bool) → (j && not g) ≡ false → (j && (not g && (e == 1))) ≡ false
    at true true h = refl
    at true false h = absurd (false≢true (sym h))
    at false g h = refl

pub fresh_near : (i : Interface) (e d k : ℕ) → BeginsKnown i → Near i k (fresh_at i Restarted e k) (fresh_at i Restarted d k)
fresh_near i e d k h = at (is_permanent i k) (is_joined i e) (is_joined i d) (unjoined i e h) (unjoined i d h)
  where
    at : (p j l : Bool) → j ≡ false → l ≡ false → NearBy p i (certain (channel_in (fresh_state j p))) (certain (channel_in (fresh_state l p)))
    at p true l e f = absurd (false≢true (sym e))
    at p false true e f = absurd (false≢true (sym f))
    at true false false e f = record { whole = idle transfer.TheVariants.D1; is = refl; valid = tt; ordered = idle_ordered i transfer.TheVariants.D1; fits = FitsAll false refl }
    at false false false e f = (
      record {
        channel = channel_in (Setup setup.TheVariants.P1);
        is = refl;
        sound = record { suits = refl; held = refl };
        calm = record { owes = refl; usual = refl; tidy = λ e. (refl, refl); granted = record { opened = tt; accepted = tt }; ordered = idle_ordered i transfer.TheVariants.D1 };
      },
      false,
      SameCall refl,
    )

pub fresh_whole : (i : Interface) (e k : ℕ) → BeginsKnown i → Whole i k (fresh_at i Restarted e k)
fresh_whole i e k h = near_whole i k (fresh_at i Restarted e k) (fresh_at i Restarted e k) (fresh_near i e e k h)

pub fresh_open : (i : Interface) (d k : ℕ) → Opened i true k (fresh_at i (Drifting false) d k)
fresh_open i d k = at (is_permanent i k)
  where
    at : (p : Bool) → OpenedBy p i true (record { channel = channel_in (fresh_state false p); restarting = true; certainty = drifting NoIndication false })
    at true = (true, refl)
    at false = (true, λ c. drifts_none i c true false (channel_in (Setup setup.TheVariants.P1)) (λ e. (refl, refl)) tt)

-- ---- packets on channels

-- a packet on a channel that keeps the order
pub record ChannelRow (i : Interface) (r : Item) : Type 0 where
  pub channel : ℕ
  pub on : IsOn channel r
  pub stays : (a g : GapChannel) → Near i channel a g → silent (gap_channel_step i channel a r).reported ≡ true
      → (silent (gap_channel_step i channel g r).reported ≡ true) × Near i channel (gap_channel_step i channel a r).after (gap_channel_step i channel g r).after
  pub whole : (a : GapChannel) → Whole i channel a → silent (gap_channel_step i channel a r).reported ≡ true → Whole i channel (gap_channel_step i channel a r).after
  pub waits : (y : Side) (g : GapChannel) → r.side ≡ other y → Meanwhile i y channel g → (silent (gap_channel_step i channel g r).reported ≡ true) × Meanwhile i y channel (gap_channel_step i channel g r).after

pub channel_row : (i : Interface) (nr : ℕ) (x : Side) (c : ℕ) (k : PacketKind) (len : ℕ) (os : List ℕ) → is_read i (packet.TheVariants.Channel c k) len ≡ true → ChannelRow i (row_at nr x c k len os)
channel_row i nr x c k len os w = record {
  channel = c;
  on = record { form = k; is = refl; no_gap = none_gap i c k len w };
  stays = λ a g. stays a g (is_permanent i c) refl;
  whole = λ a. whole a (is_permanent i c) refl;
  waits = λ y g e. waits y g e (is_permanent i c) refl;
}
  where
    r : Item
    r = row_at nr x c k len os

    stays : (a g : GapChannel) (p : Bool) → is_permanent i c ≡ p → NearBy p i a g → silent (gap_channel_step i c a r).reported ≡ true
        → (silent (gap_channel_step i c g r).reported ≡ true) × NearBy p i (gap_channel_step i c a r).after (gap_channel_step i c g r).after
    stays a g true e n h =
        let s : Step i Any NothingSaid c r n.whole = kind_steps i c nr x c k len os w e n.whole tt n.ordered (whole_silent i c r a n.whole n.is h) in
        let o = s.follows g n.fits in
        (o.0, record { whole = s.whole; is = whole_after i c r a n.whole s.whole n.is s.takes.after; valid = tt; ordered = s.takes.ordered; fits = o.1 })
    stays a g false e n h = call_stays i c nr x c k len os e w a g n h

    whole : (a : GapChannel) (p : Bool) → is_permanent i c ≡ p → WholeBy p i a → silent (gap_channel_step i c a r).reported ≡ true → WholeBy p i (gap_channel_step i c a r).after
    whole a true e n h =
        let s : Step i Any NothingSaid c r n.circuit = kind_steps i c nr x c k len os w e n.circuit tt n.ordered (whole_silent i c r a n.circuit n.is h) in
        record { circuit = s.whole; is = whole_after i c r a n.circuit s.whole n.is s.takes.after; ordered = s.takes.ordered }
    whole a false e n h = call_whole i c nr x c k len os e w a n h

    waits : (y : Side) (g : GapChannel) → x ≡ other y → (p : Bool) → is_permanent i c ≡ p → MeanwhileBy p i y g → (silent (gap_channel_step i c g r).reported ≡ true) × MeanwhileBy p i y (gap_channel_step i c g r).after
    waits y g side true e m =
        subst (λ y. FitsAdrift i (idle (passing_state y)) g → DriftsBy i (idle (passing_state y)) (gap_channel_step i c g r)) side (circuit_waits i c nr x c k len os w e g) m
    waits y g side false e m = call_waits i c nr x c k len os e w y side g m
