-- Packets on permanent circuits keep the order.
use Rattle.std.proofs.Common.{◌≡◌, ℕ, Bool, true, false, refl, sym, ap, subst, List, Option, Some, None}
use Rattle.std.specs.Prelude.{is_some}
use Rattle.std.proofs.lemmas.Bool.{false≢true}
use Rattle.line_model.specs.declared.gap.AdriftEntry.TheVariants.{Carries}
use Rattle.line_model.specs.declared.event.What.{What}
use Rattle.line_model.specs.declared.interface.Interface.{Interface}
use Rattle.line_model.specs.declared.packet.Packet as packet
use Rattle.line_model.specs.declared.diagnostic.TheConstants.{PACKET_TOO_SHORT}
use Rattle.line_model.specs.declared.packet.Class.TheVariants.{Data, Rr, Rnr}
use Rattle.line_model.specs.declared.packet.PacketKind.{PacketKind}
use Rattle.line_model.specs.declared.packet.PacketKind as kind
use Rattle.line_model.specs.declared.state.Side.{Side}
use Rattle.line_model.specs.declared.state.Side.TheVariants.{T, N}
use Rattle.line_model.specs.declared.state.DState.{DState}
use Rattle.line_model.specs.declared.state.DState as transfer
use Rattle.line_model.specs.basics.Records.{Item}
use Rattle.line_model.specs.packets.Classes.{kind_class, packet_class}
use Rattle.line_model.specs.packets.Says.{gap_of}
use Rattle.line_model.specs.channels.Channels.{AcceptedData, Sides, is_permanent, other}
use Rattle.line_model.specs.channels.ChannelStep.{channel_step}
use Rattle.line_model.specs.channels.Gaps.{GapChannel}
use Rattle.line_model.specs.channels.Gaps.Certainty.{Certain}
use Rattle.line_model.specs.channels.GapStep.{GapOutcome, adrift_entry, adrift_fault, adrift_step_by, gap_channel_step, passing}
use Rattle.gap_laws.proofs.Read.{is_read}
use Rattle.gap_laws.proofs.Circuits.{Circuit, IsOrdered, channel_of, circuit, idle, no_terms, silent, size_of}
use Rattle.gap_laws.proofs.Settled.{SideFits, in_doubt}
use Rattle.gap_laws.proofs.Fits.{Fits, FitsAdrift, FitsSettled, Takes, adrift_at, settled_at}
use Rattle.gap_laws.proofs.Fits.Fits.{FitsAll, FitsAnyAfter, FitsSome}
use Rattle.gap_laws.proofs.Entries.{cut_data, cut_loud, cut_rnr, cut_rr, flow_class, is_flow, is_moving, last_seen, on_circuit, quiet_entry, row_at}
use Rattle.gap_laws.proofs.DataSteps.{DriftsBy, FollowsBy, drifted, fits_adrift}
use Rattle.gap_laws.proofs.ReceiveSteps.{rnr_receives, rr_receives}
use Rattle.gap_laws.proofs.InterruptSteps.{confirmation_turns, interrupt_turns}
use Rattle.gap_laws.proofs.QuietSteps.{Waiting, Waits, nothing_adrift, quiet_adrift, quiet_on_settled, quiet_takes, waiting_adrift, waiting_whole}
use Rattle.gap_laws.proofs.ResetSteps.{IsReset, ResetStep, confirmation_resets, reset_adrift, reset_on_settled, reset_opens, reset_resets, reset_whole}
use Rattle.gap_laws.proofs.Thinning.{Step}
use Rattle.gap_laws.proofs.TransferRows.{StepsInD1, by_parts, data_step_of, receive_step_of, turn_step_of}

-- every circuit
abbrev pub Any : Circuit → Type 0
Any q = Unit {0}

-- whatever a row says
abbrev pub NothingSaid : List What → List What → Type 0
NothingSaid ws us = Unit {0}

pub d2_apart : transfer.TheVariants.D2 ≡ transfer.TheVariants.D1 → ⊥
d2_apart e = cc

pub d3_apart : transfer.TheVariants.D3 ≡ transfer.TheVariants.D1 → ⊥
d3_apart e = cc

-- what follows the whole walk, by what is certain
follows : (i : Interface) (n : ℕ) (r : Item) (q w : Circuit) → silent (channel_step i n (channel_of q) r).reported ≡ true → Takes i no_terms n r q w
    → ((g : GapChannel) (f : FitsAdrift i q g) → FollowsBy i w (gap_channel_step i n (adrift_at f.state f.restarting f.last) r))
    → ((g : GapChannel) (f : FitsSettled i q g) → FollowsBy i w (gap_channel_step i n (settled_at f.restarting f.numbers f.interrupts f.sequences f.settled) r))
    → (g : GapChannel) → Fits i q g → FollowsBy i w (gap_channel_step i n g r)
follows i n r q w s t adrift settled g (FitsAll b e) =
    subst (λ g. FollowsBy i w (gap_channel_step i n g r)) (sym e) (s, FitsAll b (ap (λ c. record { channel = c; restarting = b; certainty = Certain }) t.after))
follows i n r q w s t adrift settled g (FitsAnyAfter f) = subst (λ g. FollowsBy i w (gap_channel_step i n g r)) (sym f.is) (adrift g f)
follows i n r q w s t adrift settled g (FitsSome f) = subst (λ g. FollowsBy i w (gap_channel_step i n g r)) (sym f.is) (settled g f)

-- the same of a settled circuit by its parts
settled_parts : (i : Interface) (n : ℕ) (r : Item) (q w : Circuit)
    → ((b : Bool) (ns is ss : Sides Bool) (gs : List AcceptedData) (a : Sides ℕ) (u : Sides Bool) → ((y : Side) → SideFits i (size_of i no_terms) (in_doubt ns is ss) q (circuit transfer.TheVariants.D1 gs a u) y)
    → FollowsBy i w (gap_channel_step i n (settled_at b ns is ss (circuit transfer.TheVariants.D1 gs a u)) r))
    → (g : GapChannel) (f : FitsSettled i q g) → FollowsBy i w (gap_channel_step i n (settled_at f.restarting f.numbers f.interrupts f.sequences f.settled) r)
settled_parts i n r q w h g f =
    by_parts (λ a. ((y : Side) → SideFits i (size_of i no_terms) (in_doubt f.numbers f.interrupts f.sequences) q a y) → FollowsBy i w (gap_channel_step i n (settled_at f.restarting f.numbers f.interrupts f.sequences a) r)) f.settled f.in_d1
    (h f.restarting f.numbers f.interrupts f.sequences f.settled.accepted f.settled.acknowledged f.settled.unconfirmed) f.sides

-- no settled circuit fits one that resets
none_settled : (i : Interface) (n : ℕ) (r : Item) (q w : Circuit) → (q.state ≡ transfer.TheVariants.D1 → ⊥) → (g : GapChannel) (f : FitsSettled i q g) → FollowsBy i w (gap_channel_step i n (settled_at f.restarting f.numbers f.interrupts f.sequences f.settled) r)
none_settled i n r q w otherwise g f = absurd (otherwise f.in_d1_too)

-- a packet of data transfer while a side resets
waiting_step : (i : Interface) (n : ℕ) (r : Item) (d : DState) (hs : List AcceptedData) (v : Sides ℕ) (u : Sides Bool) → is_permanent i n ≡ true → is_flow (packet_class r.packet) ≡ true → adrift_entry (is_permanent i n) (packet_class r.packet) ≡ Carries
    → ((y : Side) → IsOrdered i.modulus (circuit d hs v u) y) → silent (channel_step i n (channel_of (circuit d hs v u)) r).reported ≡ true → (d ≡ transfer.TheVariants.D1 → ⊥) → Step i Any NothingSaid n r (circuit d hs v u)
waiting_step i n r d hs v u p flow carries o s otherwise =
    let q : Circuit = circuit d hs v u in
    let t : Waiting i no_terms n r q = waiting_whole i no_terms n r d hs v u (on_circuit (packet_class r.packet) (is_permanent i n) p) flow o s otherwise in
    record {
      whole = q;
      valid = tt;
      said = λ g f. tt;
      takes = t.takes;
      follows = follows i n r q q s t.takes (λ g f. drifted i q (gap_channel_step i n (adrift_at f.state f.restarting f.last) r) (waiting_adrift i n r q p carries t.waits f.state f.restarting f.last f.seen f.resting)) (none_settled i n r q q otherwise);
    }

-- the steps of a row on every circuit
abbrev pub Steps : Interface → ℕ → Item → Type 0
Steps i n r = (q : Circuit) → Any q → ((y : Side) → IsOrdered i.modulus q y) → silent (channel_step i n (channel_of q) r).reported ≡ true → Step i Any NothingSaid n r q

-- those of a packet of data transfer, by those in d1
flow_steps : (i : Interface) (n : ℕ) (r : Item) → is_permanent i n ≡ true → is_flow (packet_class r.packet) ≡ true → adrift_entry (is_permanent i n) (packet_class r.packet) ≡ Carries → StepsInD1 i n r → Steps i n r
flow_steps i n r p flow carries in_d1 q valid = at q.state
  where
    at : (d : DState) → ((y : Side) → IsOrdered i.modulus (circuit d q.accepted q.acknowledged q.unconfirmed) y) → silent (channel_step i n (channel_of (circuit d q.accepted q.acknowledged q.unconfirmed)) r).reported ≡ true
        → Step i Any NothingSaid n r (circuit d q.accepted q.acknowledged q.unconfirmed)
    at transfer.TheVariants.D1 o s =
        let step = in_d1 q.accepted q.acknowledged q.unconfirmed o s in
        record { whole = step.whole; valid = tt; said = λ g f. tt; takes = step.takes; follows = step.follows }
    at transfer.TheVariants.D2 o s = waiting_step i n r transfer.TheVariants.D2 q.accepted q.acknowledged q.unconfirmed p flow carries o s d2_apart
    at transfer.TheVariants.D3 o s = waiting_step i n r transfer.TheVariants.D3 q.accepted q.acknowledged q.unconfirmed p flow carries o s d3_apart

reset_steps : (i : Interface) (n : ℕ) (r : Item) → IsReset i n r → is_permanent i n ≡ true → Steps i n r
reset_steps i n r k p q valid o s =
    let t : ResetStep i no_terms n r q = reset_whole i no_terms n r k q o s in
    record {
      whole = t.whole;
      valid = tt;
      said = λ g f. tt;
      takes = t.takes;
      follows = follows i n r q t.whole s t.takes (λ g f. reset_adrift i n r k q p t f.state f.restarting f.last f.seen f.resting) (λ g f. at q.state f.in_d1_too t g f);
    }
  where
    at : (d : DState) → d ≡ transfer.TheVariants.D1 → (t : ResetStep i no_terms n r (circuit d q.accepted q.acknowledged q.unconfirmed)) (g : GapChannel) (f : FitsSettled i (circuit d q.accepted q.acknowledged q.unconfirmed) g)
        → FollowsBy i t.whole (gap_channel_step i n (settled_at f.restarting f.numbers f.interrupts f.sequences f.settled) r)
    at transfer.TheVariants.D1 e t g f =
        settled_parts i n r (circuit transfer.TheVariants.D1 q.accepted q.acknowledged q.unconfirmed) t.whole (λ b ns is ss gs a u sides. reset_on_settled i n r k q.accepted q.acknowledged q.unconfirmed t b ns is ss gs a u) g f
    at transfer.TheVariants.D2 e t g f = absurd (d2_apart e)
    at transfer.TheVariants.D3 e t g f = absurd (d3_apart e)

quiet_steps : (i : Interface) (n : ℕ) (r : Item) → is_moving (packet_class r.packet) ≡ false → is_flow (packet_class r.packet) ≡ false → is_permanent i n ≡ true → Steps i n r
quiet_steps i n r moving flow p q valid o s =
    let t : Takes i no_terms n r q q = quiet_takes i no_terms n r q (on_circuit (packet_class r.packet) (is_permanent i n) p) (quiet_entry q.state r.side (packet_class r.packet) moving flow) o s in
    record {
      whole = q;
      valid = tt;
      said = λ g f. tt;
      takes = t;
      follows = follows i n r q q s t (λ g f. drifted i q (gap_channel_step i n (adrift_at f.state f.restarting f.last) r) (quiet_adrift i n r q (nothing_adrift (is_permanent i n) (packet_class r.packet) p moving flow) f.state f.restarting f.last f.seen f.resting)) (λ g f. at q.state f.in_d1_too s g f);
    }
  where
    at : (d : DState) → d ≡ transfer.TheVariants.D1 → silent (channel_step i n (channel_of (circuit d q.accepted q.acknowledged q.unconfirmed)) r).reported ≡ true → (g : GapChannel) (f : FitsSettled i (circuit d q.accepted q.acknowledged q.unconfirmed) g)
        → FollowsBy i (circuit d q.accepted q.acknowledged q.unconfirmed) (gap_channel_step i n (settled_at f.restarting f.numbers f.interrupts f.sequences f.settled) r)
    at transfer.TheVariants.D1 e s g f =
        settled_parts i n r (circuit transfer.TheVariants.D1 q.accepted q.acknowledged q.unconfirmed) (circuit transfer.TheVariants.D1 q.accepted q.acknowledged q.unconfirmed)
        (quiet_on_settled i n r q.accepted q.acknowledged q.unconfirmed p (quiet_entry transfer.TheVariants.D1 r.side (packet_class r.packet) moving flow) s) g f
    at transfer.TheVariants.D2 e s g f = absurd (d2_apart e)
    at transfer.TheVariants.D3 e s g f = absurd (d3_apart e)

-- the steps of each packet
pub kind_steps : (i : Interface) (n nr : ℕ) (x : Side) (c : ℕ) (k : PacketKind) (len : ℕ) (os : List ℕ) → is_read i (packet.TheVariants.Channel c k) len ≡ true → is_permanent i n ≡ true → Steps i n (row_at nr x c k len os)
kind_steps i n nr x c (kind.TheVariants.Data (Some h)) len os e p = flow_steps i n (row_at nr x c (kind.TheVariants.Data (Some h)) len os) p refl refl (data_step_of i n nr x c h len os p)
kind_steps i n nr x c (kind.TheVariants.Rr (Some m)) len os e p =
    flow_steps i n (row_at nr x c (kind.TheVariants.Rr (Some m)) len os) p refl refl (receive_step_of i n (row_at nr x c (kind.TheVariants.Rr (Some m)) len os) m (rr_receives i n nr x c m len os) p)
kind_steps i n nr x c (kind.TheVariants.Rnr (Some m)) len os e p =
    flow_steps i n (row_at nr x c (kind.TheVariants.Rnr (Some m)) len os) p refl refl (receive_step_of i n (row_at nr x c (kind.TheVariants.Rnr (Some m)) len os) m (rnr_receives i n nr x c m len os) p)
kind_steps i n nr x c kind.TheVariants.Interrupt len os e p =
    flow_steps i n (row_at nr x c kind.TheVariants.Interrupt len os) p refl refl (turn_step_of i n (row_at nr x c kind.TheVariants.Interrupt len os) x true (interrupt_turns i n nr x c len os) p)
kind_steps i n nr x c kind.TheVariants.InterruptConfirm len os e p =
    flow_steps i n (row_at nr x c kind.TheVariants.InterruptConfirm len os) p refl refl (turn_step_of i n (row_at nr x c kind.TheVariants.InterruptConfirm len os) (other x) false (confirmation_turns i n nr x c len os) p)
kind_steps i n nr x c kind.TheVariants.Reset len os e p = reset_steps i n (row_at nr x c kind.TheVariants.Reset len os) (reset_resets i n nr x c len os) p
kind_steps i n nr x c kind.TheVariants.ResetConfirm len os e p = reset_steps i n (row_at nr x c kind.TheVariants.ResetConfirm len os) (confirmation_resets i n nr x c len os) p
kind_steps i n nr x c (kind.TheVariants.Data None) len os e p =
    let r : Item = row_at nr x c (kind.TheVariants.Data None) len os in
    flow_steps i n r p refl refl (λ hs v u o s. cut_loud i no_terms n r hs v u PACKET_TOO_SHORT refl (flow_class x Data refl) (cut_data i n nr x c len os (channel_of (circuit transfer.TheVariants.D1 hs v u)) e) s)
kind_steps i n nr x c (kind.TheVariants.Rr None) len os e p =
    let r : Item = row_at nr x c (kind.TheVariants.Rr None) len os in
    flow_steps i n r p refl refl (λ hs v u o s. cut_loud i no_terms n r hs v u PACKET_TOO_SHORT refl (flow_class x Rr refl) (cut_rr i n nr x c len os (channel_of (circuit transfer.TheVariants.D1 hs v u)) e) s)
kind_steps i n nr x c (kind.TheVariants.Rnr None) len os e p =
    let r : Item = row_at nr x c (kind.TheVariants.Rnr None) len os in
    flow_steps i n r p refl refl (λ hs v u o s. cut_loud i no_terms n r hs v u PACKET_TOO_SHORT refl (flow_class x Rnr refl) (cut_rnr i n nr x c len os (channel_of (circuit transfer.TheVariants.D1 hs v u)) e) s)
kind_steps i n nr x c kind.TheVariants.Gap len os e p = absurd (false≢true e)
kind_steps i n nr x c k len os e p = quiet_steps i n (row_at nr x c k len os) refl refl p

-- ---- while the interface restarts, which is as if each circuit resets

-- the state in which the packets of a side pass
abbrev pub passing_state : Side → DState
passing_state N = transfer.TheVariants.D2
passing_state T = transfer.TheVariants.D3

waits_there : (x : Side) → Waits (passing_state x) x
waits_there T = refl
waits_there N = refl

-- a packet of that side leaves a circuit adrift as it is
pub circuit_waits : (i : Interface) (n nr : ℕ) (x : Side) (c : ℕ) (k : PacketKind) (len : ℕ) (os : List ℕ) → is_read i (packet.TheVariants.Channel c k) len ≡ true → is_permanent i n ≡ true
    → (g : GapChannel) → FitsAdrift i (idle (passing_state x)) g → DriftsBy i (idle (passing_state x)) (gap_channel_step i n g (row_at nr x c k len os))
circuit_waits i n nr x c k len os e p g f = subst (λ g. DriftsBy i q (gap_channel_step i n g (row_at nr x c k len os))) (sym f.is) (at k e)
  where
    q : Circuit
    q = idle (passing_state x)

    resets : (k : PacketKind) → IsReset i n (row_at nr x c k len os) → DriftsBy i q (gap_channel_step i n (adrift_at f.state f.restarting f.last) (row_at nr x c k len os))
    resets k reset = by (adrift_fault i n (channel_of (idle f.state)) r)
      where
        r : Item
        r = row_at nr x c k len os

        by : (u : Option ℕ) → DriftsBy i q (elim (is_some u) as (λ _. GapOutcome) [
          | true ↦ passing (adrift_at f.state f.restarting f.last)
          | false ↦ adrift_step_by (adrift_entry (is_permanent i n) (packet_class r.packet)) i n r (last_seen f.last) (adrift_at f.state f.restarting f.last)
        ])
        by (Some u) = (refl, fits_adrift i q f.state f.restarting f.last f.seen f.resting)
        by None = reset_opens i n r reset q p f.state f.restarting f.last

    flows : (k : PacketKind) → adrift_entry (is_permanent i n) (kind_class k) ≡ Carries → DriftsBy i q (gap_channel_step i n (adrift_at f.state f.restarting f.last) (row_at nr x c k len os))
    flows k carries = waiting_adrift i n (row_at nr x c k len os) q p carries (waits_there x) f.state f.restarting f.last f.seen f.resting

    at : (k : PacketKind) → is_read i (packet.TheVariants.Channel c k) len ≡ true → DriftsBy i q (gap_channel_step i n (adrift_at f.state f.restarting f.last) (row_at nr x c k len os))
    at (kind.TheVariants.Data o) e = flows (kind.TheVariants.Data o) refl
    at (kind.TheVariants.Rr o) e = flows (kind.TheVariants.Rr o) refl
    at (kind.TheVariants.Rnr o) e = flows (kind.TheVariants.Rnr o) refl
    at kind.TheVariants.Interrupt e = flows kind.TheVariants.Interrupt refl
    at kind.TheVariants.InterruptConfirm e = flows kind.TheVariants.InterruptConfirm refl
    at kind.TheVariants.Reset e = resets kind.TheVariants.Reset (reset_resets i n nr x c len os)
    at kind.TheVariants.ResetConfirm e = resets kind.TheVariants.ResetConfirm (confirmation_resets i n nr x c len os)
    at kind.TheVariants.Gap e = absurd (false≢true e)
    at k e = quiet_adrift i n (row_at nr x c k len os) q (nothing_adrift (is_permanent i n) (kind_class k) p refl refl) f.state f.restarting f.last f.seen f.resting

pub none_gap : (i : Interface) (c : ℕ) (k : PacketKind) (len : ℕ) → is_read i (packet.TheVariants.Channel c k) len ≡ true → gap_of (packet.TheVariants.Channel c k) ≡ None
none_gap i c kind.TheVariants.Gap len e = absurd (false≢true e)
none_gap i c k len e = refl
