-- How a packet in data transfer is judged, in the whole walk and in that of a recording with gaps.
use Rattle.std.proofs.Common.{◌≡◌, ◌⊎◌, inl, inr, ◌<◌, ◌≤◌, ◌==◌, ℕ, Bool, true, false, refl, sym, ◌∙◌, ap, subst, ◌+◌, List, [], ◌∷◌, Option, Some, None, arith}
use Rattle.std.specs.Prelude.{nat_lt, nat_le, not, ◌&&◌, ◌||◌, is_some, option_and_then}
use Rattle.std.specs.List.{list_any}
use Rattle.std.proofs.lemmas.Bool.{false≢true, and_parts, eqb-true, ltb-true}
use Rattle.line_model.specs.declared.gap.AdriftEntry.TheVariants.{Carries}
use Rattle.line_model.specs.declared.gap.LastData.{LastData}
use Rattle.line_model.specs.declared.gap.Owed.TheVariants.{NoIndication}
use Rattle.line_model.specs.declared.interface.Interface.{Interface}
use Rattle.line_model.specs.declared.packet.Class.{Class}
use Rattle.line_model.specs.declared.packet.Class.TheVariants.{Data, Interrupt, InterruptConfirm, Rej, Reset, ResetConfirm, RestartHere, Rr, Rnr, TwoOctets, Undefined}
use Rattle.line_model.specs.declared.packet.PacketKind.{PacketKind}
use Rattle.line_model.specs.declared.packet.Packet as packet
use Rattle.line_model.specs.declared.packet.PacketKind as kind
use Rattle.line_model.specs.declared.state.Side.{Side}
use Rattle.line_model.specs.declared.state.Side.TheVariants.{T, N}
use Rattle.line_model.specs.declared.state.DState.{DState}
use Rattle.line_model.specs.declared.state.DState as transfer
use Rattle.line_model.specs.declared.state.ChannelState.TheVariants.{Transfer}
use Rattle.line_model.specs.declared.state.StateName.{StateName}
use Rattle.line_model.specs.declared.state.StateName.TheVariants.{D1, D2, D3, P4}
use Rattle.line_model.specs.declared.table.Action.{Action}
use Rattle.line_model.specs.declared.table.Action.TheVariants.{Move, Normal, Error, Discard, Pass, Ends, Below, ToChannel}
use Rattle.line_model.specs.declared.diagnostic.TheConstants.{PACKET_TOO_LONG, PACKET_TOO_SHORT}
use Rattle.line_model.specs.basics.Choice.{first_fault}
use Rattle.line_model.specs.basics.Limits.{is_numbering, is_channels, packet_sizes}
use Rattle.line_model.specs.basics.Records.{Item}
use Rattle.line_model.specs.packets.Classes.{header_length, packet_class}
use Rattle.line_model.specs.packets.Formats.{packet_fault, size_in_force}
use Rattle.line_model.specs.channels.Channels.{AcceptedData, Channel, Sides, is_permanent, other}
use Rattle.line_model.specs.channels.ChannelStep.{Judged, Outcome, channel_step, judged, report_nothing, transfer_name, transferring, verdict, verdict_step}
use Rattle.line_model.specs.channels.Gaps.{Doubts, GapChannel, WhileAdrift}
use Rattle.line_model.specs.channels.GapStep.{GapOutcome, acknowledged_data, adrift_carried, adrift_entry, adrift_fault, adrift_received, adrift_step_by, gap_channel_step, is_resetting, passing, receive_of, settled_outcome, settled_verdict}
use Rattle.line_model.specs.channels.Tables.{action}
use Rattle.line_model.proofs.Every.{every, every_class, every_side, classes}
use Rattle.gap_laws.proofs.Circuits.{Circuit, Terms, channel_of, channel_with, circuit, failing_loud, idle, silent, some_none}
use Rattle.gap_laws.proofs.Fits.{adrift_at, settled_with}

-- ---- the interface

-- the numbers of an interface
pub record IsLawful (i : Interface) : Type 0 where
  pub eight : (i.modulus ≡ 8) ⊎ (i.modulus ≡ 128)
  pub window_below : i.window < i.modulus
  pub size_upto : i.size ≤ 4096

eight_is : (m w : ℕ) → is_numbering m w ≡ true → (m ≡ 8) ⊎ (m ≡ 128)
eight_is m w h = at (m == 8) refl (and_parts ((m == 8) || (m == 128)) (nat_le 1 w && nat_lt w m) h).0
  where
    at : (b : Bool) → (m == 8) ≡ b → (b || (m == 128)) ≡ true → (m ≡ 8) ⊎ (m ≡ 128)
    at true e h = inl (eqb-true m 8 e)
    at false e h = inr (eqb-true m 128 h)

below_is : (m w : ℕ) → is_numbering m w ≡ true → w < m
below_is m w h =
    let both = and_parts ((m == 8) || (m == 128)) (nat_le 1 w && nat_lt w m) h in
    ltb-true w m (and_parts (nat_le 1 w) (nat_lt w m) both.1).1

size_is : (n : ℕ) → list_any (λ k. n == k) packet_sizes ≡ true → n ≤ 4096
size_is n h = grind (arith, h)

pub lawful_is : (i : Interface) → IsLawful i
lawful_is i =
    let both = and_parts (is_numbering i.modulus i.window) (list_any (λ n. i.size == n) packet_sizes && is_channels i.pvc i.incoming i.two_way i.svc) i.lawful in
    record {
      eight = eight_is i.modulus i.window both.0;
      window_below = below_is i.modulus i.window both.0;
      size_upto = size_is i.size (and_parts (list_any (λ n. i.size == n) packet_sizes) (is_channels i.pvc i.incoming i.two_way i.svc) both.1).0;
    }

-- ---- rows

abbrev pub row_at : (number : ℕ) → Side → (channel : ℕ) → PacketKind → (length : ℕ) → (octets : List ℕ) → Item
row_at nr x c k len os = record { number = nr; side = x; packet = packet.TheVariants.Channel c k; length = len; octets = os }

-- ---- entries

-- entries that do nothing or are errors
abbrev pub quiet : Action → Bool
quiet (Move s) = false
quiet Normal = false
quiet Ends = false
quiet a = true

abbrev pub is_moving : Class → Bool
is_moving Reset = true
is_moving ResetConfirm = true
is_moving k = false

abbrev pub is_flow : Class → Bool
is_flow Data = true
is_flow Interrupt = true
is_flow InterruptConfirm = true
is_flow Rr = true
is_flow Rnr = true
is_flow k = false

abbrev pub judged_at : StateName → Action → Judged
judged_at s a = record { state = s; entry = a }

-- the packets that the second table judges on a channel for calls, too
abbrev pub is_below : Class → Bool
is_below TwoOctets = true
is_below RestartHere = true
is_below Rej = true
is_below Undefined = true
is_below k = is_moving k || is_flow k

abbrev is_below_entry : Action → Bool
is_below_entry Below = true
is_below_entry a = false

below_entry : (a : Action) → is_below_entry a ≡ true → a ≡ Below
below_entry Below h = refl
below_entry a h = cc

judged_below : (p : Bool) (x : Side) (d : DState) (k : Class) → (is_below k || p) ≡ true → judged p x (Transfer d) false k ≡ judged_at (transfer_name d) (action x (transfer_name d) false k)
judged_below true x d k h = refl
judged_below false x d k h =
    ap (λ a. elim a as (λ _. Judged) [ Below ↦ judged_at (transfer_name d) (action x (transfer_name d) false k) | a ↦ judged_at P4 a ])
    (below_entry (action x P4 false k) (at (is_below k) h (every_class (λ k. not (is_below k) || is_below_entry (action x P4 false k)) (every_side (λ x. every (λ k. not (is_below k) || is_below_entry (action x P4 false k)) classes) refl x) k)))
  where
    at : (b : Bool) → (b || false) ≡ true → (not b || is_below_entry (action x P4 false k)) ≡ true → is_below_entry (action x P4 false k) ≡ true
    at true e h = h
    at false e h = absurd (false≢true e)

-- the whole walk judges by the second table
pub whole_is : (i : Interface) (k : Terms) (n : ℕ) (r : Item) (q : Circuit) (a : Action) → (is_below (packet_class r.packet) || is_permanent i n) ≡ true → action r.side (transfer_name q.state) false (packet_class r.packet) ≡ a
    → channel_step i n (channel_with k q) r ≡ verdict_step i (transfer_name q.state) r (verdict (judged_at (transfer_name q.state) a) (packet_fault i n (channel_with k q) r)) (channel_with k q)
whole_is i k n r q a p e =
    ap (λ (j : Judged). verdict_step i j.state r (verdict j (packet_fault i n (channel_with k q) r)) (channel_with k q)) (judged_below (is_permanent i n) r.side q.state (packet_class r.packet) p)
    ∙ ap (λ a. verdict_step i (transfer_name q.state) r (verdict (judged_at (transfer_name q.state) a) (packet_fault i n (channel_with k q) r)) (channel_with k q)) e

-- so does that of a settled channel
pub settled_is : (i : Interface) (t : Terms) (n : ℕ) (r : Item) (b : Bool) (d : Doubts) (g : Circuit) (a : Action) → (is_below (packet_class r.packet) || is_permanent i n) ≡ true → action r.side (transfer_name g.state) false (packet_class r.packet) ≡ a
    → gap_channel_step i n (settled_with t b d g) r
    ≡ settled_outcome (settled_with t b d g) (settled_verdict i (transfer_name g.state) r (verdict (judged_at (transfer_name g.state) a) (packet_fault i n (channel_with t g) r)) d (channel_with t g))
settled_is i t n r b d g a p e =
    let G : GapChannel = settled_with t b d g in
    ap (λ (j : Judged). settled_outcome G (settled_verdict i j.state r (verdict j (packet_fault i n (channel_with t g) r)) d (channel_with t g))) (judged_below (is_permanent i n) r.side g.state (packet_class r.packet) p)
    ∙ ap (λ a. settled_outcome G (settled_verdict i (transfer_name g.state) r (verdict (judged_at (transfer_name g.state) a) (packet_fault i n (channel_with t g) r)) d (channel_with t g))) e

-- all packets on a permanent circuit, and those below on each channel
pub on_circuit : (k : Class) (p : Bool) → p ≡ true → (is_below k || p) ≡ true
on_circuit k p e = at (is_below k) p e
  where
    at : (b p : Bool) → p ≡ true → (b || p) ≡ true
    at true p e = refl
    at false p e = e

pub on_both : (k : Class) (p : Bool) → is_below k ≡ true → (is_below k || p) ≡ true
on_both k p e = ap (λ b. b || p) e

-- an entry that does nothing, where it is no error
pub quiet_whole : (i : Interface) (s : StateName) (r : Item) (a : Action) (f : Option ℕ) (c : Channel) → quiet a ≡ true → silent (verdict_step i s r (verdict (judged_at s a) f) c).reported ≡ true
    → verdict_step i s r (verdict (judged_at s a) f) c ≡ report_nothing c
quiet_whole i s r (Move t) f c e h = absurd (false≢true e)
quiet_whole i s r Normal f c e h = absurd (false≢true e)
quiet_whole i s r Ends f c e h = absurd (false≢true e)
quiet_whole i s r (Error n) f c e h = failing_loud r.side s n c h
quiet_whole i s r Discard f c e h = refl
quiet_whole i s r Pass f c e h = refl
quiet_whole i s r Below f c e h = refl
quiet_whole i s r ToChannel f c e h = refl

pub quiet_settled : (i : Interface) (s : StateName) (r : Item) (a : Action) (f u : Option ℕ) (c d : Channel) (b : Doubts) → quiet a ≡ true → silent (verdict_step i s r (verdict (judged_at s a) f) c).reported ≡ true
    → settled_verdict i s r (verdict (judged_at s a) u) b d ≡ record { outcome = report_nothing d; doubts = b }
quiet_settled i s r (Move t) f u c d b e h = absurd (false≢true e)
quiet_settled i s r Normal f u c d b e h = absurd (false≢true e)
quiet_settled i s r Ends f u c d b e h = absurd (false≢true e)
quiet_settled i s r (Error n) f u c d b e h = failing_loud r.side s n c h
quiet_settled i s r Discard f u c d b e h = refl
quiet_settled i s r Pass f u c d b e h = refl
quiet_settled i s r Below f u c d b e h = refl
quiet_settled i s r ToChannel f u c d b e h = refl

-- a packet of data transfer in d1 that is no finding has no fault
pub normal_whole : (i : Interface) (r : Item) (f : Option ℕ) (c : Channel) → silent (verdict_step i D1 r (verdict (judged_at D1 Normal) f) c).reported ≡ true
    → (f ≡ None) × (verdict_step i D1 r (verdict (judged_at D1 Normal) f) c ≡ transferring i D1 (packet_class r.packet) r c)
normal_whole i r None c h = (refl, refl)
normal_whole i r (Some n) c h = failing_loud r.side D1 n c h

-- the entries of d1
pub flow_class : (x : Side) (k : Class) → is_flow k ≡ true → action x D1 false k ≡ Normal
flow_class T Data e = refl
flow_class N Data e = refl
flow_class T Interrupt e = refl
flow_class N Interrupt e = refl
flow_class T InterruptConfirm e = refl
flow_class N InterruptConfirm e = refl
flow_class T Rr e = refl
flow_class N Rr e = refl
flow_class T Rnr e = refl
flow_class N Rnr e = refl
flow_class x k e = cc

-- the others, but resets and their confirmations
quiet_in : (s : StateName) (x : Side) → every (λ k. is_moving k || (is_flow k || quiet (action x s false k))) classes ≡ true → (k : Class) → is_moving k ≡ false → is_flow k ≡ false → quiet (action x s false k) ≡ true
quiet_in s x h k m f = at (is_moving k) (is_flow k) m f (every_class (λ k. is_moving k || (is_flow k || quiet (action x s false k))) h k)
  where
    at : (m f : Bool) → m ≡ false → f ≡ false → (m || (f || quiet (action x s false k))) ≡ true → quiet (action x s false k) ≡ true
    at true f e w h = absurd (false≢true (sym e))
    at false true e w h = absurd (false≢true (sym w))
    at false false e w h = h

pub quiet_entry : (d : DState) (x : Side) (k : Class) → is_moving k ≡ false → is_flow k ≡ false → quiet (action x (transfer_name d) false k) ≡ true
quiet_entry transfer.TheVariants.D1 T = quiet_in D1 T refl
quiet_entry transfer.TheVariants.D1 N = quiet_in D1 N refl
quiet_entry transfer.TheVariants.D2 T = quiet_in D2 T refl
quiet_entry transfer.TheVariants.D2 N = quiet_in D2 N refl
quiet_entry transfer.TheVariants.D3 T = quiet_in D3 T refl
quiet_entry transfer.TheVariants.D3 N = quiet_in D3 N refl

-- ---- adrift

abbrev pub last_seen : Sides (Option LastData) → WhileAdrift
last_seen ls = record { owed = NoIndication; hidden = false; last = ls }

-- a packet of data transfer on a circuit adrift: it has a fault, the other side resets, or it is received
pub adrift_flow : (P : GapOutcome → Type 0) (i : Interface) (n : ℕ) (r : Item) (d : DState) (b : Bool) (ls : Sides (Option LastData)) → is_permanent i n ≡ true
    → adrift_entry (is_permanent i n) (packet_class r.packet) ≡ Carries
    → ((f : ℕ) → adrift_fault i n (channel_of (idle d)) r ≡ Some f → P (passing (adrift_at d b ls)))
    → (is_resetting (other r.side) (Transfer d) ≡ true → P (passing (adrift_at d b ls)))
    → (adrift_fault i n (channel_of (idle d)) r ≡ None → P (adrift_received i r (last_seen ls) (adrift_at d b ls) (receive_of r) (option_and_then (acknowledged_data (last_seen ls) r.side) (receive_of r))))
    → P (gap_channel_step i n (adrift_at d b ls) r)
adrift_flow P i n r d b ls p entry faulty resets received = at (adrift_fault i n (channel_of (idle d)) r) refl
  where
    g : GapChannel
    g = adrift_at d b ls

    a : WhileAdrift
    a = last_seen ls

    o : GapOutcome
    o = adrift_received i r a g (receive_of r) (option_and_then (acknowledged_data a r.side) (receive_of r))

    carries : adrift_step_by (adrift_entry (is_permanent i n) (packet_class r.packet)) i n r a g ≡ adrift_carried i r a g
    carries =
        ap (λ e. adrift_step_by e i n r a g) entry
        ∙ ap (λ u. elim (u || false) as (λ _. GapOutcome) [ true ↦ adrift_carried i r a g | false ↦ passing g ]) p

    carried : adrift_fault i n (channel_of (idle d)) r ≡ None → (u : Bool) → is_resetting (other r.side) (Transfer d) ≡ u → P (elim u as (λ _. GapOutcome) [ true ↦ passing g | false ↦ o ])
    carried e true h = resets h
    carried e false h = received e

    at : (f : Option ℕ) → adrift_fault i n (channel_of (idle d)) r ≡ f
        → P (elim (is_some f) as (λ _. GapOutcome) [ true ↦ passing g | false ↦ adrift_step_by (adrift_entry (is_permanent i n) (packet_class r.packet)) i n r a g ])
    at (Some f) e = faulty f e
    at None e = subst P (sym carries) (carried e (is_resetting (other r.side) (Transfer d)) refl)

-- ---- packets whose header is cut

-- in d1 they are findings
pub cut_loud : {A : Type 0} (i : Interface) (k : Terms) (n : ℕ) (r : Item) (hs : List AcceptedData) (v : Sides ℕ) (u : Sides Bool) (f : ℕ) → is_below (packet_class r.packet) ≡ true → action r.side D1 false (packet_class r.packet) ≡ Normal
    → packet_fault i n (channel_with k (circuit transfer.TheVariants.D1 hs v u)) r ≡ Some f → silent (channel_step i n (channel_with k (circuit transfer.TheVariants.D1 hs v u)) r).reported ≡ true → A
cut_loud i k n r hs v u f below entry fault s =
    let c : Channel = channel_with k (circuit transfer.TheVariants.D1 hs v u) in
    let e = whole_is i k n r (circuit transfer.TheVariants.D1 hs v u) Normal (on_both (packet_class r.packet) (is_permanent i n) below) entry in
    some_none (sym fault ∙ (normal_whole i r (packet_fault i n c r) c (ap (λ (o : Outcome). silent o.reported) (sym e) ∙ s)).0)

pub cut_data : (i : Interface) (n nr : ℕ) (x : Side) (j len : ℕ) (os : List ℕ) (c : Channel) → nat_lt len (header_length i) ≡ true → packet_fault i n c (row_at nr x j (kind.TheVariants.Data None) len os) ≡ Some PACKET_TOO_SHORT
cut_data i n nr x j len os c e = ap (λ b. first_fault ((b, PACKET_TOO_SHORT) ∷ (nat_lt (header_length i + size_in_force i c x) len, PACKET_TOO_LONG) ∷ [])) e

pub cut_rr : (i : Interface) (n nr : ℕ) (x : Side) (j len : ℕ) (os : List ℕ) (c : Channel) → nat_lt len (header_length i) ≡ true → packet_fault i n c (row_at nr x j (kind.TheVariants.Rr None) len os) ≡ Some PACKET_TOO_SHORT
cut_rr i n nr x j len os c e = ap (λ b. first_fault ((b, PACKET_TOO_SHORT) ∷ (nat_lt (header_length i) len, PACKET_TOO_LONG) ∷ [])) e

pub cut_rnr : (i : Interface) (n nr : ℕ) (x : Side) (j len : ℕ) (os : List ℕ) (c : Channel) → nat_lt len (header_length i) ≡ true → packet_fault i n c (row_at nr x j (kind.TheVariants.Rnr None) len os) ≡ Some PACKET_TOO_SHORT
cut_rnr i n nr x j len os c e = ap (λ b. first_fault ((b, PACKET_TOO_SHORT) ∷ (nat_lt (header_length i) len, PACKET_TOO_LONG) ∷ [])) e
