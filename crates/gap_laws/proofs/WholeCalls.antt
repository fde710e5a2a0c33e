-- Packets and gaps on channels for calls keep the order.
use Rattle.std.proofs.Common.{◌≡◌, ℕ, Bool, true, false, refl, sym, ◌∙◌, ap, subst, List, Option, Some, None}
use Rattle.std.specs.Prelude.{not, ◌&&◌, ◌||◌, is_some}
use Rattle.std.proofs.lemmas.Bool.{false≢true}
use Rattle.line_model.specs.declared.gap.Owed.TheVariants.{NoIndication}
use Rattle.line_model.specs.declared.interface.Interface.{Interface}
use Rattle.line_model.specs.declared.packet.Packet as packet
use Rattle.line_model.specs.declared.packet.PacketKind.{PacketKind}
use Rattle.line_model.specs.declared.state.Side.{Side}
use Rattle.line_model.specs.declared.state.Side.TheVariants.{T, N}
use Rattle.line_model.specs.declared.state.PState as setup
use Rattle.line_model.specs.declared.state.ChannelState.{ChannelState}
use Rattle.line_model.specs.declared.state.ChannelState.TheVariants.{Setup, Transfer, Unknown}
use Rattle.line_model.specs.basics.Records.{Item}
use Rattle.line_model.specs.channels.Channels.{Channel, Opening, channel_in, is_in_transfer, is_permanent, other}
use Rattle.line_model.specs.channels.ChannelStep.{Outcome, channel_step, entering}
use Rattle.line_model.specs.channels.Gaps.{Certainty, GapChannel, certain, drifting, gap_step, idle_name, owed_at_gap, with_largest_terms}
use Rattle.line_model.specs.channels.Gaps.Certainty.{Certain, Settled}
use Rattle.line_model.specs.channels.GapStep.{gap_channel_step}
use Rattle.line_model.proofs.Effects.{Effects, IsSound, step_effects}
use Rattle.gap_laws.proofs.Read.{is_read}
use Rattle.gap_laws.proofs.Circuits.{channel_with, silent}
use Rattle.gap_laws.proofs.Entries.{row_at}
use Rattle.gap_laws.proofs.Calls.{AnyCall, Drifts, FitsCall, IsCalm, IsTidy, SameCall, SettledCall, circuit_in, drifts_none, terms_of}
use Rattle.line_model.specs.channels.Gaps.{owed_by}
use Rattle.line_model.specs.channels.Gaps.Certainty.{Adrift}
use Rattle.gap_laws.proofs.CallSetup.{CallStep, is_clear_confirm, plain_is, plain_step, waiting_row, waits}
use Rattle.gap_laws.proofs.CallTransfer.{up_row}

-- ---- the whole walk

-- a channel of the whole walk
pub record WholeCall (i : Interface) (a : GapChannel) : Type 0 where
  pub channel : Channel
  pub is : a ≡ certain channel
  pub sound : IsSound false channel
  pub calm : IsCalm i channel

-- and one of a recording with gaps that fits it
abbrev pub NearCall : Interface → (a g : GapChannel) → Type 0
NearCall i a g = (w : WholeCall i a) × (b : Bool) × FitsCall i w.channel b g

call_step : (i : Interface) (n nr : ℕ) (x : Side) (k : ℕ) (p : PacketKind) (len : ℕ) (os : List ℕ) → is_permanent i n ≡ false → is_read i (packet.TheVariants.Channel k p) len ≡ true → (c : Channel) → IsSound false c → IsCalm i c
    → silent (channel_step i n c (row_at nr x k p len os)).reported ≡ true → CallStep i n (row_at nr x k p len os) c
call_step i n nr x k p len os perm whole c sound calm q =
    subst (λ w. CallStep i n r (record c { owed = w })) (sym calm.owes)
    (at c.state (record { suits = sound.suits; held = sound.held }) (record { owes = refl; usual = calm.usual; tidy = calm.tidy; granted = calm.granted; ordered = calm.ordered })
    (ap (λ (o : Outcome). silent o.reported) (sym (plain_is i n r (record c { owed = false }) perm)) ∙ subst (λ w. silent (channel_step i n (record c { owed = w }) r).reported ≡ true) calm.owes q))
  where
    r : Item
    r = row_at nr x k p len os

    at : (s : ChannelState) → IsSound false (record c { state = s; owed = false }) → IsCalm i (record c { state = s; owed = false }) → silent (plain_step i n (row_at nr x k p len os) (record c { state = s; owed = false })).reported ≡ true
        → CallStep i n (row_at nr x k p len os) (record c { state = s; owed = false })
    at (Setup s) sound calm q = waiting_row i n nr x k p len os perm whole c s calm sound q
    at (Transfer d) sound calm q = up_row i n nr x k p len os perm whole (terms_of c) (circuit_in d c) calm sound.held q
    at Unknown sound calm q = absurd (false≢true calm.usual)

whole_call : (i : Interface) (n : ℕ) (r : Item) → is_permanent i n ≡ false → (c : Channel) → IsSound false c → CallStep i n r c → WholeCall i (certain (channel_step i n c r).after)
whole_call i n r perm c sound s =
    let e : Effects false c (channel_step i n c r) = subst (λ p. Effects p c (channel_step i n c r)) perm (step_effects i n c r (subst (λ p. IsSound p c) (sym perm) sound)) in
    record { channel = (channel_step i n c r).after; is = refl; sound = e.sound; calm = subst (IsCalm i) (sym s.after) s.calm }

pub call_whole : (i : Interface) (n nr : ℕ) (x : Side) (k : ℕ) (p : PacketKind) (len : ℕ) (os : List ℕ) → is_permanent i n ≡ false → is_read i (packet.TheVariants.Channel k p) len ≡ true → (a : GapChannel) → WholeCall i a
    → silent (gap_channel_step i n a (row_at nr x k p len os)).reported ≡ true → WholeCall i (gap_channel_step i n a (row_at nr x k p len os)).after
call_whole i n nr x k p len os perm whole a w q =
    subst (λ a. silent (gap_channel_step i n a r).reported ≡ true → WholeCall i (gap_channel_step i n a r).after) (sym w.is)
    (λ q. whole_call i n r perm w.channel w.sound (call_step i n nr x k p len os perm whole w.channel w.sound w.calm q)) q
  where
    r : Item
    r = row_at nr x k p len os

-- the packet that stays keeps the order
pub call_stays : (i : Interface) (n nr : ℕ) (x : Side) (k : ℕ) (p : PacketKind) (len : ℕ) (os : List ℕ) → is_permanent i n ≡ false → is_read i (packet.TheVariants.Channel k p) len ≡ true → (a g : GapChannel) → NearCall i a g
    → silent (gap_channel_step i n a (row_at nr x k p len os)).reported ≡ true
    → (silent (gap_channel_step i n g (row_at nr x k p len os)).reported ≡ true) × NearCall i (gap_channel_step i n a (row_at nr x k p len os)).after (gap_channel_step i n g (row_at nr x k p len os)).after
unfolding whole_call
call_stays i n nr x k p len os perm whole a g (w, b, f) q =
    subst (λ a. silent (gap_channel_step i n a r).reported ≡ true → (silent (gap_channel_step i n g r).reported ≡ true) × NearCall i (gap_channel_step i n a r).after (gap_channel_step i n g r).after) (sym w.is)
    (λ q. by q (call_step i n nr x k p len os perm whole c w.sound w.calm q) f) q
  where
    r : Item
    r = row_at nr x k p len os

    c : Channel
    c = w.channel

    by : silent (channel_step i n w.channel (row_at nr x k p len os)).reported ≡ true → CallStep i n (row_at nr x k p len os) w.channel → FitsCall i w.channel b g
        → (silent (gap_channel_step i n g (row_at nr x k p len os)).reported ≡ true) × NearCall i (certain (channel_step i n w.channel (row_at nr x k p len os)).after) (gap_channel_step i n g (row_at nr x k p len os)).after
    by q s (SameCall e) = (ap (λ g. silent (gap_channel_step i n g r).reported) e ∙ q, (whole_call i n r perm c w.sound s, b, SameCall (ap (λ g. (gap_channel_step i n g r).after) e)))
    by q s (AnyCall f) = let o = s.drifts b g f in (o.0, (whole_call i n r perm c w.sound s, b, subst (λ c. FitsCall i c b (gap_channel_step i n g r).after) (sym s.after) o.1))
    by q s (SettledCall f) = let o = s.settled b g f in (o.0, (whole_call i n r perm c w.sound s, b, subst (λ c. FitsCall i c b (gap_channel_step i n g r).after) (sym s.after) o.1))

-- ---- while a side restarts the interface, it is as if it cleared

abbrev pub clearing : Side → Channel
clearing T = channel_in (Setup setup.TheVariants.P6)
clearing N = channel_in (Setup setup.TheVariants.P7)

either_true : (b : Bool) → (b || true) ≡ true
either_true true = refl
either_true false = refl

pub call_waits : (i : Interface) (n nr : ℕ) (x : Side) (k : ℕ) (p : PacketKind) (len : ℕ) (os : List ℕ) → is_permanent i n ≡ false → is_read i (packet.TheVariants.Channel k p) len ≡ true → (y : Side) → x ≡ other y → (g : GapChannel) → Drifts i (clearing y) true g
    → (silent (gap_channel_step i n g (row_at nr x k p len os)).reported ≡ true) × Drifts i (clearing y) true (gap_channel_step i n g (row_at nr x k p len os)).after
call_waits i n nr x k p len os perm whole T e g f = waits i n nr x k p len os perm whole (clearing T) setup.TheVariants.P6 e true (either_true (not (is_clear_confirm p))) g f
call_waits i n nr x k p len os perm whole N e g f = waits i n nr x k p len os perm whole (clearing N) setup.TheVariants.P7 e true (either_true (not (is_clear_confirm p))) g f

-- ---- gaps

-- a gap leaves a channel adrift that fits each of the whole walk
gap_drifts : (i : Interface) (n : ℕ) (all : Bool) → is_permanent i n ≡ false → (b : Bool) (t : Certainty) (c : Channel) → owed_at_gap t c ≡ NoIndication → IsTidy c → (w : Channel) → Drifts i w (b || all) (gap_step i n all (record { channel = c; restarting = b; certainty = t }))
gap_drifts i n all perm b t c owes tidy w =
    subst (λ u. Drifts i w (b || all) (record { channel = left (is_permanent i n) c.opening; restarting = b || all; certainty = drifting u (hides (is_permanent i n) c.opening) })) (sym owes)
    (subst (λ q. Drifts i w (b || all) (record { channel = left q c.opening; restarting = b || all; certainty = drifting NoIndication (hides q c.opening) })) (sym perm) (at c.opening tidy))
  where
    hides : (permanent : Bool) → Option Opening → Bool
    hides p o = not p && is_some o

    left : (permanent : Bool) → Option Opening → Channel
    left p o = with_largest_terms (hides p o) i (entering (idle_name (p || is_in_transfer c) o) false (record c { opening = o }))

    at : (o : Option Opening) → IsTidy (record c { opening = o }) → Drifts i w (b || all) (record { channel = left false o; restarting = b || all; certainty = drifting NoIndication (hides false o) })
    at None t = drifts_none i w (b || all) false (left false None) t tt
    at (Some o) t = drifts_none i w (b || all) true (left false (Some o)) (λ e. absurd (false≢true (sym e))) refl

pub drift_gap : (i : Interface) (n : ℕ) (all : Bool) → is_permanent i n ≡ false → (b : Bool) (c : Channel) (g : GapChannel) → Drifts i c b g → (w : Channel) → Drifts i w (b || all) (gap_step i n all g)
drift_gap i n all perm b c g f w = subst (λ g. Drifts i w (b || all) (gap_step i n all g)) (sym f.is) (gap_drifts i n all perm b (Adrift (record { owed = NoIndication; hidden = f.hidden; last = f.last })) f.channel refl f.tidy w)

pub call_gap : (i : Interface) (n : ℕ) (all : Bool) → is_permanent i n ≡ false → (a g : GapChannel) → NearCall i a g → (b : Bool) × ((w : Channel) → Drifts i w (b || all) (gap_step i n all g))
call_gap i n all perm a g (w, b, SameCall e) = (b, λ v. subst (λ g. Drifts i v (b || all) (gap_step i n all g)) (sym e) (gap_drifts i n all perm b Certain w.channel (ap (λ o. owed_by (record w.channel { owed = o })) w.calm.owes) w.calm.tidy v))
call_gap i n all perm a g (w, b, AnyCall f) = (b, drift_gap i n all perm b w.channel g f)
call_gap i n all perm a g (w, b, SettledCall f) = (b, λ v. subst (λ g. Drifts i v (b || all) (gap_step i n all g)) (sym f.is) (gap_drifts i n all perm b (Settled f.doubts) (channel_with f.terms f.settled) refl (λ e. absurd (false≢true (sym e ∙ f.held))) v))
