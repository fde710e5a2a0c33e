-- Data, RR, RNR and interrupts on permanent circuits say no more in a recording with gaps than in the whole one.
use Rattle.std.proofs.Common.{◌≡◌, ℕ, Bool, true, false, refl, sym, ap, subst, List, [], ◌∷◌, Option, Some, None}
use Rattle.std.specs.Prelude.{◌&&◌}
use Rattle.std.specs.List.{AllByRecursion}
use Rattle.std.proofs.lemmas.Bool.{false≢true}
use Rattle.line_model.specs.declared.event.What.{What}
use Rattle.line_model.specs.declared.gap.LastData.{LastData}
use Rattle.line_model.specs.declared.interface.Interface.{Interface}
use Rattle.line_model.specs.declared.diagnostic.TheConstants.{PACKET_TOO_SHORT}
use Rattle.line_model.specs.declared.packet.Class.TheVariants.{Data, Rr, Rnr}
use Rattle.line_model.specs.declared.packet.DataHeader.{DataHeader}
use Rattle.line_model.specs.declared.packet.Packet.{Packet}
use Rattle.line_model.specs.declared.packet.Packet as packet
use Rattle.line_model.specs.declared.packet.PacketKind.{PacketKind}
use Rattle.line_model.specs.declared.packet.PacketKind as kind
use Rattle.line_model.specs.declared.state.Side.{Side}
use Rattle.line_model.specs.declared.state.DState.{DState}
use Rattle.line_model.specs.declared.state.DState as transfer
use Rattle.line_model.specs.basics.Records.{Item}
use Rattle.line_model.specs.packets.Says.{gap_of, packet_channel}
use Rattle.line_model.specs.channels.Channels.{AcceptedData, Sides, is_permanent, of_side, other, with_side}
use Rattle.line_model.specs.channels.ChannelStep.{channel_step}
use Rattle.line_model.specs.channels.Gaps.{GapChannel}
use Rattle.line_model.specs.channels.Gaps.Certainty.{Certain}
use Rattle.line_model.specs.channels.GapStep.{gap_channel_step}
use Rattle.gap_laws.specs.Thinned.{CountingLaw, IsPart, IsSaid, is_of_transfer, is_transfer_row}
use Rattle.gap_laws.proofs.Read.{is_read, said_read}
use Rattle.gap_laws.proofs.Circuits.{Circuit, IsOrdered, channel_of, circuit, no_terms, silent, size_of, with_data, with_receive}
use Rattle.gap_laws.proofs.InterruptSteps.{IsTurn, TurnStep, confirmation_turns, interrupt_turns, turn_adrift, turn_on_settled, turn_whole}
use Rattle.gap_laws.proofs.Parts.{part_same, part_silent}
use Rattle.gap_laws.proofs.Settled.{SideFits, in_doubt}
use Rattle.gap_laws.proofs.Fits.{Fits, IsResting, LastFits, Takes, adrift_at, certain_at, settled_at}
use Rattle.gap_laws.proofs.Fits.Fits.{FitsAll, FitsAnyAfter, FitsSome}
use Rattle.gap_laws.proofs.Entries.{cut_data, cut_loud, cut_rnr, cut_rr, flow_class, lawful_is, row_at}
use Rattle.gap_laws.proofs.DataSteps.{DataStep, FollowsAs, data_adrift, data_on_settled, data_whole, said_of}
use Rattle.gap_laws.proofs.ReceiveSteps.{IsReceive, ReceiveStep, receive_adrift, receive_on_settled, receive_whole, rnr_receives, rr_receives}
use Rattle.gap_laws.proofs.Thinning.{Keeps, Step, counts_recorded}

-- a row says no more than in the whole walk
abbrev pub SaysNoMore : List What → List What → Type 0
SaysNoMore ws us = IsPart us ws

-- a channel of which all is certain follows the whole walk
certain_follows : (i : Interface) (n : ℕ) (r : Item) (q w : Circuit) (b : Bool) (ws : List What) → (channel_step i n (channel_of q) r).reported ≡ ws → (channel_step i n (channel_of q) r).after ≡ channel_of w → IsPart ws ws
    → FollowsAs i w ws (gap_channel_step i n (certain_at b q) r)
certain_follows i n r q w b ws s e part = (subst (λ us. IsPart us ws) (sym s) part, FitsAll b (ap (λ c. record { channel = c; restarting = b; certainty = Certain }) e))

-- a settled circuit, by its parts
pub by_parts : (P : Circuit → Type 0) (g : Circuit) → g.state ≡ transfer.TheVariants.D1 → P (circuit transfer.TheVariants.D1 g.accepted g.acknowledged g.unconfirmed) → P g
by_parts P g e h = subst (λ d. P (circuit d g.accepted g.acknowledged g.unconfirmed)) (sym e) h

-- data transfer has no other state than d1
abbrev pub InD1 : Circuit → Type 0
InD1 q = q.state ≡ transfer.TheVariants.D1

-- a row that is taken, whatever is certain of the circuit
transfer_step : (i : Interface) (n : ℕ) (r : Item) (q w : Circuit) (ws : List What) → silent ws ≡ true → InD1 w → Takes i no_terms n r q w → (channel_step i n (channel_of q) r).reported ≡ ws
    → ((d : DState) (b : Bool) (ls : Sides (Option LastData)) → ((y : Side) → LastFits i.modulus q y (of_side y ls)) → IsResting d ls → FollowsAs i w ws (gap_channel_step i n (adrift_at d b ls) r))
    → ((b : Bool) (ns is ss : Sides Bool) (gs : List AcceptedData) (a : Sides ℕ) (f : Sides Bool) → ((y : Side) → SideFits i (size_of i no_terms) (in_doubt ns is ss) q (circuit transfer.TheVariants.D1 gs a f) y)
    → FollowsAs i w ws (gap_channel_step i n (settled_at b ns is ss (circuit transfer.TheVariants.D1 gs a f)) r))
    → Step i InD1 SaysNoMore n r q
transfer_step i n r q w ws quiet in_d1 takes said adrift settled = record {
  whole = w;
  valid = in_d1;
  takes = takes;
  follows = λ g f. let a = follows g f in (part_silent (gap_channel_step i n g r).reported ws quiet a.0, a.1);
  said = λ g f. subst (λ ws. IsPart (gap_channel_step i n g r).reported ws) (sym said) (follows g f).0;
}
  where
    follows : (g : GapChannel) → Fits i q g → FollowsAs i w ws (gap_channel_step i n g r)
    follows g (FitsAll b e) = subst (λ g. FollowsAs i w ws (gap_channel_step i n g r)) (sym e) (certain_follows i n r q w b ws said takes.after (part_same ws))
    follows g (FitsAnyAfter f) = subst (λ g. FollowsAs i w ws (gap_channel_step i n g r)) (sym f.is) (adrift f.state f.restarting f.last f.seen f.resting)
    follows g (FitsSome f) = subst (λ g. FollowsAs i w ws (gap_channel_step i n g r)) (sym f.is)
        (by_parts (λ a. ((y : Side) → SideFits i (size_of i no_terms) (in_doubt f.numbers f.interrupts f.sequences) q a y) → FollowsAs i w ws (gap_channel_step i n (settled_at f.restarting f.numbers f.interrupts f.sequences a) r)) f.settled f.in_d1
        (settled f.restarting f.numbers f.interrupts f.sequences f.settled.accepted f.settled.acknowledged f.settled.unconfirmed) f.sides)

-- the steps of a row in d1
abbrev pub StepsInD1 : Interface → ℕ → Item → Type 0
StepsInD1 i n r = (hs : List AcceptedData) (v : Sides ℕ) (u : Sides Bool) → ((y : Side) → IsOrdered i.modulus (circuit transfer.TheVariants.D1 hs v u) y)
    → silent (channel_step i n (channel_of (circuit transfer.TheVariants.D1 hs v u)) r).reported ≡ true → Step i InD1 SaysNoMore n r (circuit transfer.TheVariants.D1 hs v u)

pub data_step_of : (i : Interface) (n nr : ℕ) (x : Side) (c : ℕ) (h : DataHeader) (len : ℕ) (os : List ℕ) → is_permanent i n ≡ true → StepsInD1 i n (row_at nr x c (kind.TheVariants.Data (Some h)) len os)
data_step_of i n nr x c h len os p hs v u o s =
    let r : Item = row_at nr x c (kind.TheVariants.Data (Some h)) len os in
    let q : Circuit = circuit transfer.TheVariants.D1 hs v u in
    let t : DataStep i no_terms n r h q = data_whole i no_terms n nr x c h len os hs v u (lawful_is i).window_below o s in
    transfer_step i n r q (with_data i r h t.taken.upto q) (said_of i r h) refl refl (record { after = t.after; ordered = t.ordered }) t.reported (data_adrift i n nr x c h len os hs v u p o t) (data_on_settled i n nr x c h len os hs v u t)

pub receive_step_of : (i : Interface) (n : ℕ) (r : Item) (receive : ℕ) → IsReceive i n r receive → is_permanent i n ≡ true → StepsInD1 i n r
receive_step_of i n r receive k p hs v u o s =
    let q : Circuit = circuit transfer.TheVariants.D1 hs v u in
    let t : ReceiveStep i no_terms n r receive q = receive_whole i no_terms n r receive k hs v u o s in
    transfer_step i n r q (with_receive r.side t.taken.upto q) [] refl refl t.takes t.reported (receive_adrift i n r receive k hs v u p o t) (receive_on_settled i n r receive k hs v u t)

pub turn_step_of : (i : Interface) (n : ℕ) (r : Item) (y : Side) (b : Bool) → IsTurn i n r y b → is_permanent i n ≡ true → StepsInD1 i n r
turn_step_of i n r y b k p hs v u o s =
    let q : Circuit = circuit transfer.TheVariants.D1 hs v u in
    let t : TurnStep i no_terms n r y b q = turn_whole i no_terms n r y b k hs v u o s in
    transfer_step i n r q (circuit transfer.TheVariants.D1 hs v (with_side y b u)) [] refl refl t.takes t.reported (turn_adrift i n r y b k hs v u p t) (turn_on_settled i n r y b k hs v u t)

-- steps in d1 are steps of each circuit in d1
in_d1 : (i : Interface) (n : ℕ) (r : Item) → StepsInD1 i n r → (q : Circuit) → InD1 q → ((y : Side) → IsOrdered i.modulus q y) → silent (channel_step i n (channel_of q) r).reported ≡ true → Step i InD1 SaysNoMore n r q
in_d1 i n r f q e = by_parts (λ q. ((y : Side) → IsOrdered i.modulus q y) → silent (channel_step i n (channel_of q) r).reported ≡ true → Step i InD1 SaysNoMore n r q) q e (f q.accepted q.acknowledged q.unconfirmed)

-- one whose header is cut is a finding
cut_keeps : (i : Interface) (nr : ℕ) (x : Side) (k : ℕ) (p : PacketKind) (len : ℕ) (os : List ℕ) → gap_of (packet.TheVariants.Channel k p) ≡ None → is_permanent i k ≡ true → StepsInD1 i k (row_at nr x k p len os) → Keeps i InD1 SaysNoMore (row_at nr x k p len os)
cut_keeps i nr x k p len os none e steps = record { channel = k; on = record { form = p; is = refl; no_gap = none }; permanent = e; steps = in_d1 i k (row_at nr x k p len os) steps }

row_keeps : (i : Interface) (nr : ℕ) (x : Side) (p : Packet) (len : ℕ) (os : List ℕ) → is_read i p len ≡ true → (is_of_transfer p && is_permanent i (packet_channel p)) ≡ true → Keeps i InD1 SaysNoMore (record { number = nr; side = x; packet = p; length = len; octets = os })
row_keeps i nr x (packet.TheVariants.Channel k (kind.TheVariants.Data (Some h))) len os said e = record {
  channel = k;
  on = record { form = kind.TheVariants.Data (Some h); is = refl; no_gap = refl };
  permanent = e;
  steps = in_d1 i k (row_at nr x k (kind.TheVariants.Data (Some h)) len os) (data_step_of i k nr x k h len os e);
}
row_keeps i nr x (packet.TheVariants.Channel k (kind.TheVariants.Rr (Some n))) len os said e = record {
  channel = k;
  on = record { form = kind.TheVariants.Rr (Some n); is = refl; no_gap = refl };
  permanent = e;
  steps = in_d1 i k (row_at nr x k (kind.TheVariants.Rr (Some n)) len os) (receive_step_of i k (row_at nr x k (kind.TheVariants.Rr (Some n)) len os) n (rr_receives i k nr x k n len os) e);
}
row_keeps i nr x (packet.TheVariants.Channel k (kind.TheVariants.Rnr (Some n))) len os said e = record {
  channel = k;
  on = record { form = kind.TheVariants.Rnr (Some n); is = refl; no_gap = refl };
  permanent = e;
  steps = in_d1 i k (row_at nr x k (kind.TheVariants.Rnr (Some n)) len os) (receive_step_of i k (row_at nr x k (kind.TheVariants.Rnr (Some n)) len os) n (rnr_receives i k nr x k n len os) e);
}
row_keeps i nr x (packet.TheVariants.Channel k kind.TheVariants.Interrupt) len os said e = record {
  channel = k;
  on = record { form = kind.TheVariants.Interrupt; is = refl; no_gap = refl };
  permanent = e;
  steps = in_d1 i k (row_at nr x k kind.TheVariants.Interrupt len os) (turn_step_of i k (row_at nr x k kind.TheVariants.Interrupt len os) x true (interrupt_turns i k nr x k len os) e);
}
row_keeps i nr x (packet.TheVariants.Channel k kind.TheVariants.InterruptConfirm) len os said e = record {
  channel = k;
  on = record { form = kind.TheVariants.InterruptConfirm; is = refl; no_gap = refl };
  permanent = e;
  steps = in_d1 i k (row_at nr x k kind.TheVariants.InterruptConfirm len os) (turn_step_of i k (row_at nr x k kind.TheVariants.InterruptConfirm len os) (other x) false (confirmation_turns i k nr x k len os) e);
}
row_keeps i nr x (packet.TheVariants.Channel k (kind.TheVariants.Data None)) len os said e = cut_keeps i nr x k (kind.TheVariants.Data None) len os refl e (λ hs v u o s. cut_loud i no_terms k (row_at nr x k (kind.TheVariants.Data None) len os) hs v u PACKET_TOO_SHORT refl (flow_class x Data refl) (cut_data i k nr x k len os (channel_of (circuit transfer.TheVariants.D1 hs v u)) said) s)
row_keeps i nr x (packet.TheVariants.Channel k (kind.TheVariants.Rr None)) len os said e = cut_keeps i nr x k (kind.TheVariants.Rr None) len os refl e (λ hs v u o s. cut_loud i no_terms k (row_at nr x k (kind.TheVariants.Rr None) len os) hs v u PACKET_TOO_SHORT refl (flow_class x Rr refl) (cut_rr i k nr x k len os (channel_of (circuit transfer.TheVariants.D1 hs v u)) said) s)
row_keeps i nr x (packet.TheVariants.Channel k (kind.TheVariants.Rnr None)) len os said e = cut_keeps i nr x k (kind.TheVariants.Rnr None) len os refl e (λ hs v u o s. cut_loud i no_terms k (row_at nr x k (kind.TheVariants.Rnr None) len os) hs v u PACKET_TOO_SHORT refl (flow_class x Rnr refl) (cut_rnr i k nr x k len os (channel_of (circuit transfer.TheVariants.D1 hs v u)) said) s)
row_keeps i nr x p len os said e = absurd (false≢true e)

rows_keep : (i : Interface) (rs : List Item) → AllByRecursion (IsSaid i) rs → AllByRecursion (λ r. is_transfer_row i r ≡ true) rs → AllByRecursion (Keeps i InD1 SaysNoMore) rs
rows_keep i [] said h = tt
rows_keep i (r ∷ rs) (said, more) (h, rest) = (row_keeps i r.number r.side r.packet r.length r.octets (said_read i r said) h, rows_keep i rs more rest)

pub counting_law : CountingLaw
counting_law i xs ys join said rows thin h = counts_recorded i InD1 xs ys join refl (rows_keep i xs said rows) thin h
