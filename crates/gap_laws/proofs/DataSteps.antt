-- Data, RR and RNR on a permanent circuit.
use Rattle.std.proofs.Common.{◌≡◌, ◌⊎◌, ◌<◌, ◌≤◌, ◌==◌, ◌%◌, ◌+◌, ℕ, Bool, true, false, refl, sym, ◌∙◌, ap, subst, List, [], ◌∷◌, ◌++◌, Option, Some, None, arith}
use Rattle.std.specs.Prelude.{nat_lt, option_and_then}
use Rattle.std.proofs.lemmas.Bool.{false≢true, eqb-true, ltb-true, lt-ltb}
use Rattle.line_model.specs.declared.diagnostic.TheConstants.{PACKET_TOO_LONG, PACKET_TOO_SHORT}
use Rattle.line_model.specs.declared.gap.LastData.{LastData}
use Rattle.line_model.specs.declared.interface.Interface.{Interface}
use Rattle.line_model.specs.declared.packet.DataHeader.{DataHeader}
use Rattle.line_model.specs.declared.packet.PacketKind as kind
use Rattle.line_model.specs.declared.state.Side.{Side}
use Rattle.line_model.specs.declared.state.Side.TheVariants.{T, N}
use Rattle.line_model.specs.declared.state.DState.{DState}
use Rattle.line_model.specs.declared.state.DState as transfer
use Rattle.line_model.specs.declared.state.ChannelState.TheVariants.{Transfer}
use Rattle.line_model.specs.declared.state.StateName.TheVariants.{D1}
use Rattle.line_model.specs.declared.packet.Class.TheVariants.{Data}
use Rattle.gap_laws.proofs.Entries.{judged_at, flow_class}
use Rattle.line_model.specs.declared.table.Action.TheVariants.{Normal}
use Rattle.line_model.specs.basics.Choice.{first_fault}
use Rattle.line_model.specs.declared.event.What.{What}
use Rattle.line_model.specs.declared.event.What.TheVariants.{Data as DataAccepted}
use Rattle.line_model.specs.basics.Records.{Item}
use Rattle.line_model.specs.packets.Classes.{header_length}
use Rattle.line_model.specs.packets.Formats.{packet_fault}
use Rattle.line_model.specs.channels.Channels.{AcceptedData, Sides, is_permanent, of_side, other, with_side}
use Rattle.line_model.specs.channels.ChannelStep.{Outcome, accepted_of, channel_step, data_reports, data_step, verdict, verdict_step}
use Rattle.line_model.specs.channels.FlowControl.{sent}
use Rattle.line_model.specs.channels.Gaps.{Doubts, of_both}
use Rattle.line_model.specs.channels.GapStep.{GapOutcome, adrift_received, gap_channel_step, is_resetting, largest_size, last_after, passing, settled_outcome, settled_verdict}
use Rattle.gap_laws.specs.Thinned.{IsPart}
use Rattle.gap_laws.proofs.SentPackets.{other_side, own_side, sent_other, sent_own}
use Rattle.gap_laws.proofs.Circuits.{Circuit, DataTaken, IsOrdered, Terms, by_side, channel_with, circuit, data_taken, message_of, no_terms, of_back, of_other, of_own, silent, size_of, some_none, with_message, window_of, with_data}
use Rattle.gap_laws.proofs.Settled.{Allows, DataSettled, SideFits, after_data, data_settled, doubts_then, doubts_with, in_doubt, said_in_doubt, taken_with}
use Rattle.gap_laws.proofs.Fits.{Fits, FitsAdrift, IsResting, LastFits, adrift_at, settled_at, settled_with}
use Rattle.gap_laws.proofs.Fits.Fits.{FitsAnyAfter, FitsSome}
use Rattle.gap_laws.proofs.Settling.{settled_circuit, settles_by_data}
use Rattle.gap_laws.proofs.Entries.{adrift_flow, lawful_is, last_seen, normal_whole, row_at, settled_is, whole_is}

-- ---- what both have

-- an outcome that follows
abbrev pub FollowsBy : Interface → Circuit → GapOutcome → Type 0
FollowsBy i w o = (silent o.reported ≡ true) × Fits i w o.after

-- one that says no more than some events
abbrev pub FollowsAs : Interface → Circuit → List What → GapOutcome → Type 0
FollowsAs i w ws o = IsPart o.reported ws × Fits i w o.after

-- where no data was seen, every channel fits
pub none_seen : (m : ℕ) (w : Circuit) (ls : Sides (Option LastData)) → ls ≡ of_both None → (y : Side) → LastFits m w y (of_side y ls)
none_seen m w ls e y = subst (λ l. LastFits m w y (of_side y l)) (sym e) (at y)
  where
    at : (y : Side) → LastFits m w y (of_side y (of_both None))
    at T = tt
    at N = tt

pub fits_adrift : (i : Interface) (w : Circuit) (d : DState) (b : Bool) (ls : Sides (Option LastData)) → ((y : Side) → LastFits i.modulus w y (of_side y ls)) → IsResting d ls → FitsAdrift i w (adrift_at d b ls)
fits_adrift i w d b ls seen rest = record { state = d; restarting = b; last = ls; is = refl; seen = seen; resting = rest }

pub adrift_fits : (i : Interface) (w : Circuit) (d : DState) (b : Bool) (ls : Sides (Option LastData)) → ((y : Side) → LastFits i.modulus w y (of_side y ls)) → IsResting d ls → Fits i w (adrift_at d b ls)
adrift_fits i w d b ls seen rest = FitsAnyAfter (fits_adrift i w d b ls seen rest)

-- an outcome that stays adrift
abbrev pub DriftsBy : Interface → Circuit → GapOutcome → Type 0
DriftsBy i w o = (silent o.reported ≡ true) × FitsAdrift i w o.after

pub drifted : (i : Interface) (w : Circuit) (o : GapOutcome) → DriftsBy i w o → FollowsBy i w o
drifted i w o h = (h.0, FitsAnyAfter h.1)

-- while a side resets, no data was seen
pub resting_none : (x : Side) (d : DState) (ls : Sides (Option LastData)) → is_resetting x (Transfer d) ≡ true → IsResting d ls → ls ≡ of_both None
resting_none T transfer.TheVariants.D1 ls e r = absurd (false≢true e)
resting_none N transfer.TheVariants.D1 ls e r = absurd (false≢true e)
resting_none x transfer.TheVariants.D2 ls e r = r
resting_none x transfer.TheVariants.D3 ls e r = r

-- the circuit passes a packet that the other side waits out
pub passing_fits : (i : Interface) (x : Side) (w : Circuit) (d : DState) (b : Bool) (ls : Sides (Option LastData)) (ws : List What) → IsResting d ls → is_resetting x (Transfer d) ≡ true → FollowsAs i w ws (passing (adrift_at d b ls))
passing_fits i x w d b ls ws r e = (tt, adrift_fits i w d b ls (none_seen i.modulus w ls (resting_none x d ls e r)) r)

-- the last data packet, where it is the one that a P(R) acknowledges
abbrev pub acknowledged_last : (receive : ℕ) → Option LastData → Option LastData
acknowledged_last n o = option_and_then (λ l. elim (l.next == n) [ true ↦ Some l | false ↦ None ]) o

-- by whether it is
pub by_last : (P : Option LastData → Type 0) (n : ℕ) (o : Option LastData) → P None → ((l : LastData) → o ≡ Some l → l.next ≡ n → P (Some l)) → P (acknowledged_last n o)
by_last P n None none some = none
by_last P n (Some l) none some = at (l.next == n) refl
  where
    at : (b : Bool) → (l.next == n) ≡ b → P (elim b as (λ _. Option LastData) [ true ↦ Some l | false ↦ None ])
    at true e = some l refl (eqb-true l.next n e)
    at false e = none

-- ---- data in d1

-- where a size allows a packet, so does a larger one
pub size_allows : (i : Interface) (a b len : ℕ) → a ≤ b
    → first_fault ((nat_lt len (header_length i), PACKET_TOO_SHORT) ∷ (nat_lt (header_length i + a) len, PACKET_TOO_LONG) ∷ []) ≡ None
    → first_fault ((nat_lt len (header_length i), PACKET_TOO_SHORT) ∷ (nat_lt (header_length i + b) len, PACKET_TOO_LONG) ∷ []) ≡ None
size_allows i a b len upto h = at (nat_lt len (header_length i)) (nat_lt (header_length i + a) len) refl (nat_lt (header_length i + b) len) refl h
  where
    at : (s u : Bool) → nat_lt (header_length i + a) len ≡ u → (v : Bool) → nat_lt (header_length i + b) len ≡ v
        → first_fault ((s, PACKET_TOO_SHORT) ∷ (u, PACKET_TOO_LONG) ∷ []) ≡ None → first_fault ((s, PACKET_TOO_SHORT) ∷ (v, PACKET_TOO_LONG) ∷ []) ≡ None
    at true u e v d h = cc
    at false true e v d h = cc
    at false false e false d h = refl
    at false false e true d h =
        let long : header_length i + b < len = ltb-true (header_length i + b) len d in
        let within : nat_lt (header_length i + a) len ≡ true = lt-ltb (header_length i + a) len (omega (arith, long, upto)) in
        absurd (false≢true (sym e ∙ within))

-- what an accepted data packet reports
abbrev pub said_of : Interface → Item → DataHeader → List What
said_of i r h = DataAccepted r.side (accepted_of i r h).length ∷ []

-- the whole walk accepts it
pub record DataStep (i : Interface) (k : Terms) (n : ℕ) (r : Item) (h : DataHeader) (q : Circuit) : Type 0 where
  pub no_fault : packet_fault i n (channel_with k q) r ≡ None
  pub taken : DataTaken i k r h q
  pub after : (channel_step i n (channel_with k q) r).after ≡ channel_with (with_message i k r h q) (with_data i r h taken.upto q)
  pub ordered : (y : Side) → IsOrdered i.modulus (with_data i r h taken.upto q) y
  pub reported : (channel_step i n (channel_with k q) r).reported ≡ data_reports r.side (accepted_of i r h) k.pad_messages (message_of i k r h q)

data_ordered : (i : Interface) (k : Terms) (r : Item) (h : DataHeader) (q : Circuit) → window_of i k r.side < i.modulus → ((y : Side) → IsOrdered i.modulus q y) → (t : DataTaken i k r h q) → (y : Side) → IsOrdered i.modulus (with_data i r h t.upto q) y
data_ordered i k r h q below o t = by_side (λ y. IsOrdered i.modulus (with_data i r h t.upto q) y) r.side own apart
  where
    own : IsOrdered i.modulus (with_data i r h t.upto q) r.side
    own =
        let s : sent r.side (q.accepted ++ accepted_of i r h ∷ []) ≡ sent r.side q.accepted + 1 = sent_own r.side q.accepted (accepted_of i r h) (own_side r.side) in
        let a : of_side r.side (with_side (other r.side) t.upto q.acknowledged) ≡ of_side r.side q.acknowledged = of_back r.side t.upto q.acknowledged in
        record { ordered = omega (arith, s, a, (o r.side).ordered); within = omega (arith, s, a, below, t.next.room, (o r.side).ordered) }

    apart : IsOrdered i.modulus (with_data i r h t.upto q) (other r.side)
    apart =
        let s : sent (other r.side) (q.accepted ++ accepted_of i r h ∷ []) ≡ sent (other r.side) q.accepted = sent_other (other r.side) q.accepted (accepted_of i r h) (other_side r.side) in
        let a : of_side (other r.side) (with_side (other r.side) t.upto q.acknowledged) ≡ t.upto = of_own (other r.side) t.upto q.acknowledged in
        record { ordered = omega (arith, s, a, t.receive.upto); within = omega (arith, s, a, t.receive.from, (o (other r.side)).within) }

pub data_whole : (i : Interface) (k : Terms) (n nr : ℕ) (x : Side) (c : ℕ) (h : DataHeader) (len : ℕ) (os : List ℕ) (hs : List AcceptedData) (v : Sides ℕ) (u : Sides Bool) → window_of i k x < i.modulus
    → ((y : Side) → IsOrdered i.modulus (circuit transfer.TheVariants.D1 hs v u) y)
    → silent (channel_step i n (channel_with k (circuit transfer.TheVariants.D1 hs v u)) (row_at nr x c (kind.TheVariants.Data (Some h)) len os)).reported ≡ true
    → DataStep i k n (row_at nr x c (kind.TheVariants.Data (Some h)) len os) h (circuit transfer.TheVariants.D1 hs v u)
data_whole i k n nr x c h len os hs v u below o s = by (whole_is i k n r q Normal refl (flow_class x Data refl))
  where
    q : Circuit
    q = circuit transfer.TheVariants.D1 hs v u

    r : Item
    r = row_at nr x c (kind.TheVariants.Data (Some h)) len os

    by : channel_step i n (channel_with k (circuit transfer.TheVariants.D1 hs v u)) (row_at nr x c (kind.TheVariants.Data (Some h)) len os)
        ≡ verdict_step i D1 (row_at nr x c (kind.TheVariants.Data (Some h)) len os) (verdict (judged_at D1 Normal) (packet_fault i n (channel_with k (circuit transfer.TheVariants.D1 hs v u)) (row_at nr x c (kind.TheVariants.Data (Some h)) len os))) (channel_with k (circuit transfer.TheVariants.D1 hs v u))
        → DataStep i k n (row_at nr x c (kind.TheVariants.Data (Some h)) len os) h (circuit transfer.TheVariants.D1 hs v u)
    by e =
        let (none, is) = normal_whole i r (packet_fault i n (channel_with k q) r) (channel_with k q) (ap (λ (o : Outcome). silent o.reported) (sym e) ∙ s) in
        let same : channel_step i n (channel_with k q) r ≡ data_step i D1 r (Some h) (channel_with k q) = e ∙ is in
        let t : DataTaken i k r h q = data_taken i k r h q (ap (λ (o : Outcome). silent o.reported) (sym same) ∙ s) in
        record { no_fault = none; taken = t; after = ap (λ (o : Outcome). o.after) same ∙ t.after; ordered = data_ordered i k r h q below o t; reported = ap (λ (o : Outcome). o.reported) same ∙ t.reported }

-- the last data packets of a circuit adrift after it
pub data_seen : (i : Interface) (k : Terms) (r : Item) (h : DataHeader) (o : Option ℕ) (hs : List AcceptedData) (v : Sides ℕ) (u : Sides Bool) (ls : Sides (Option LastData)) → ((y : Side) → LastFits i.modulus (circuit transfer.TheVariants.D1 hs v u) y (of_side y ls))
    → (t : DataTaken i k r h (circuit transfer.TheVariants.D1 hs v u)) → (y : Side)
    → LastFits i.modulus (with_data i r h t.upto (circuit transfer.TheVariants.D1 hs v u)) y (of_side y (last_after i.modulus r.side (Some h) o ls))
data_seen i k r h o hs v u ls seen t = by_side (λ y. LastFits i.modulus w y (of_side y (last_after i.modulus r.side (Some h) o ls))) r.side own apart
  where
    q : Circuit
    q = circuit transfer.TheVariants.D1 hs v u

    w : Circuit
    w = with_data i r h t.upto q

    own : LastFits i.modulus (with_data i r h t.upto (circuit transfer.TheVariants.D1 hs v u)) r.side (of_side r.side (last_after i.modulus r.side (Some h) o ls))
    own = subst (λ l. LastFits i.modulus w r.side l) (sym (of_own r.side (Some (record { next = (h.send + 1) % i.modulus; receive = h.receive })) ls)) (next, ap (λ n. n % i.modulus) (of_own (other r.side) t.upto v) ∙ t.receive.is)
      where
        next : sent r.side (hs ++ accepted_of i r h ∷ []) % i.modulus ≡ (h.send + 1) % i.modulus
        next =
            let eight = (lawful_is i).eight in
            ap (λ n. n % i.modulus) (sent_own r.side hs (accepted_of i r h) (own_side r.side)) ∙ residue i.modulus (sent r.side hs) h.send eight t.next.is
          where
            residue : (m s n : ℕ) → (m ≡ 8) ⊎ (m ≡ 128) → n ≡ s % m → (s + 1) % m ≡ (n + 1) % m
            residue m s n e h = grind (arith, e, h)

    apart : LastFits i.modulus (with_data i r h t.upto (circuit transfer.TheVariants.D1 hs v u)) (other r.side) (of_side (other r.side) (last_after i.modulus r.side (Some h) o ls))
    apart = subst (λ l. LastFits i.modulus w (other r.side) l) (sym (of_other r.side (Some (record { next = (h.send + 1) % i.modulus; receive = h.receive })) ls)) (at (of_side (other r.side) ls) (seen (other r.side)))
      where
        at : (l : Option LastData) → LastFits i.modulus q (other r.side) l → LastFits i.modulus w (other r.side) l
        at None e = tt
        at (Some l) e = (
          ap (λ n. n % i.modulus) (sent_other (other r.side) hs (accepted_of i r h) (other_side r.side)) ∙ e.0,
          ap (λ n. n % i.modulus) (of_other (other r.side) t.upto v) ∙ e.1,
        )

-- a circuit adrift
pub data_adrift : (i : Interface) (n nr : ℕ) (x : Side) (c : ℕ) (h : DataHeader) (len : ℕ) (os : List ℕ) (hs : List AcceptedData) (v : Sides ℕ) (u : Sides Bool) → is_permanent i n ≡ true
    → ((y : Side) → IsOrdered i.modulus (circuit transfer.TheVariants.D1 hs v u) y)
    → (s : DataStep i no_terms n (row_at nr x c (kind.TheVariants.Data (Some h)) len os) h (circuit transfer.TheVariants.D1 hs v u))
    → (d : DState) (b : Bool) (ls : Sides (Option LastData)) → ((y : Side) → LastFits i.modulus (circuit transfer.TheVariants.D1 hs v u) y (of_side y ls)) → IsResting d ls
    → FollowsAs i (with_data i (row_at nr x c (kind.TheVariants.Data (Some h)) len os) h s.taken.upto (circuit transfer.TheVariants.D1 hs v u)) (said_of i (row_at nr x c (kind.TheVariants.Data (Some h)) len os) h) (gap_channel_step i n (adrift_at d b ls) (row_at nr x c (kind.TheVariants.Data (Some h)) len os))
data_adrift i n nr x c h len os hs v u p o s d b ls seen rest =
    adrift_flow (FollowsAs i w (said_of i r h)) i n r d b ls p refl
    (λ f e. some_none (sym e ∙ size_allows i i.size largest_size len (lawful_is i).size_upto s.no_fault))
    (λ e. passing_fits i (other x) w d b ls (said_of i r h) rest e)
    (λ e. by_last (λ l. FollowsAs i w (said_of i r h) (adrift_received i r (last_seen ls) (adrift_at d b ls) (Some h.receive) l)) h.receive (of_side (other x) ls) drifts settles)
  where
    q : Circuit
    q = circuit transfer.TheVariants.D1 hs v u

    r : Item
    r = row_at nr x c (kind.TheVariants.Data (Some h)) len os

    w : Circuit
    w = with_data i (row_at nr x c (kind.TheVariants.Data (Some h)) len os) h s.taken.upto (circuit transfer.TheVariants.D1 hs v u)

    drifts : FollowsAs i w (said_of i r h) (adrift_received i r (last_seen ls) (adrift_at d b ls) (Some h.receive) None)
    drifts = (([], [], refl, tt), adrift_fits i w transfer.TheVariants.D1 b (last_after i.modulus x (Some h) (Some h.receive) ls) (data_seen i no_terms r h (Some h.receive) hs v u ls seen s.taken) tt)

    settles : (l : LastData) → of_side (other x) ls ≡ Some l → l.next ≡ h.receive → FollowsAs i w (said_of i r h) (adrift_received i r (last_seen ls) (adrift_at d b ls) (Some h.receive) (Some l))
    settles l is same =
        let lawful = lawful_is i in
        let last : LastFits i.modulus q (other x) (Some l) = subst (λ l. LastFits i.modulus q (other x) l) is (seen (other x)) in (
          ([], [], refl, tt),
          FitsSome (record {
            restarting = b;
            numbers = with_side x false (of_both false);
            interrupts = of_both true;
            sequences = of_both true;
            settled = settled_circuit i.modulus x h.receive l (Some h);
            is = refl;
            in_d1 = refl;
            in_d1_too = refl;
            sides = settles_by_data i no_terms false r h q l lawful.eight lawful.window_below o last same s.taken;
          }),
        )

-- a settled channel takes it
pub data_settles : (i : Interface) (k t : Terms) (n nr : ℕ) (x : Side) (c : ℕ) (h : DataHeader) (len : ℕ) (os : List ℕ) (hs : List AcceptedData) (v : Sides ℕ) (u : Sides Bool)
    → (s : DataStep i k n (row_at nr x c (kind.TheVariants.Data (Some h)) len os) h (circuit transfer.TheVariants.D1 hs v u))
    → (b e : Bool) (ns is ss : Sides Bool) (gs : List AcceptedData) (a : Sides ℕ) (f : Sides Bool) → Allows i e k t x
    → (w : DataSettled i k t (doubts_with e ns is ss) (row_at nr x c (kind.TheVariants.Data (Some h)) len os) h (circuit transfer.TheVariants.D1 hs v u) (circuit transfer.TheVariants.D1 gs a f) s.taken.upto)
    → gap_channel_step i n (settled_with t b (doubts_with e ns is ss) (circuit transfer.TheVariants.D1 gs a f)) (row_at nr x c (kind.TheVariants.Data (Some h)) len os)
    ≡ settled_outcome (settled_with t b (doubts_with e ns is ss) (circuit transfer.TheVariants.D1 gs a f))
    (taken_with t (said_in_doubt i t (doubts_with e ns is ss) (row_at nr x c (kind.TheVariants.Data (Some h)) len os) h (circuit transfer.TheVariants.D1 gs a f))
    (doubts_then i t (doubts_with e ns is ss) (row_at nr x c (kind.TheVariants.Data (Some h)) len os) h)
    (after_data i (doubts_with e ns is ss) (row_at nr x c (kind.TheVariants.Data (Some h)) len os) h w.upto (circuit transfer.TheVariants.D1 gs a f)))
data_settles i k t n nr x c h len os hs v u s b e ns is ss gs a f allows w =
    settled_is i t n r b d g Normal refl (flow_class x Data refl)
    ∙ ap (λ f. settled_outcome (settled_with t b d g) (settled_verdict i D1 r (verdict (judged_at D1 Normal) f) d (channel_with t g))) (size_allows i (size_of i k x) (size_of i t x) len allows.size s.no_fault)
    ∙ ap (λ o. settled_outcome (settled_with t b d g) o) w.is
  where
    r : Item
    r = row_at nr x c (kind.TheVariants.Data (Some h)) len os

    g : Circuit
    g = circuit transfer.TheVariants.D1 gs a f

    d : Doubts
    d = doubts_with e ns is ss

-- the terms of a permanent circuit are those of the header
pub none_allows : (i : Interface) (y : Side) → Allows i false no_terms no_terms y
none_allows i y = record { window = omega arith; below = (lawful_is i).window_below; size = omega arith; same = λ e. refl }

-- a settled circuit
pub data_on_settled : (i : Interface) (n nr : ℕ) (x : Side) (c : ℕ) (h : DataHeader) (len : ℕ) (os : List ℕ) (hs : List AcceptedData) (v : Sides ℕ) (u : Sides Bool)
    → (s : DataStep i no_terms n (row_at nr x c (kind.TheVariants.Data (Some h)) len os) h (circuit transfer.TheVariants.D1 hs v u))
    → (b : Bool) (ns is ss : Sides Bool) (gs : List AcceptedData) (a : Sides ℕ) (f : Sides Bool) → ((y : Side) → SideFits i (size_of i no_terms) (in_doubt ns is ss) (circuit transfer.TheVariants.D1 hs v u) (circuit transfer.TheVariants.D1 gs a f) y)
    → FollowsAs i (with_data i (row_at nr x c (kind.TheVariants.Data (Some h)) len os) h s.taken.upto (circuit transfer.TheVariants.D1 hs v u)) (said_of i (row_at nr x c (kind.TheVariants.Data (Some h)) len os) h)
    (gap_channel_step i n (settled_at b ns is ss (circuit transfer.TheVariants.D1 gs a f)) (row_at nr x c (kind.TheVariants.Data (Some h)) len os))
data_on_settled i n nr x c h len os hs v u s b ns is ss gs a f sides =
    let t = data_settled i no_terms no_terms false ns is ss r h q g (lawful_is i).eight (none_allows i x) sides s.taken in
    let after : Doubts = doubts_then i no_terms (in_doubt ns is ss) r h in
    subst (FollowsAs i (with_data i r h s.taken.upto q) (said_of i r h)) (sym (data_settles i no_terms no_terms n nr x c h len os hs v u s b false ns is ss gs a f (none_allows i x) t)) (
      ([], [], refl, tt),
      FitsSome (record {
        restarting = b;
        numbers = after.numbers;
        interrupts = is;
        sequences = after.sequences;
        settled = after_data i (in_doubt ns is ss) r h t.upto g;
        is = refl;
        in_d1 = refl;
        in_d1_too = refl;
        sides = t.fits;
      }),
    )
  where
    q : Circuit
    q = circuit transfer.TheVariants.D1 hs v u

    g : Circuit
    g = circuit transfer.TheVariants.D1 gs a f

    r : Item
    r = row_at nr x c (kind.TheVariants.Data (Some h)) len os
