-- RR and RNR on a permanent circuit in d1.
use Rattle.std.proofs.Common.{◌≡◌, ◌%◌, ℕ, Bool, true, false, refl, sym, ◌∙◌, ap, subst, List, [], Option, Some, None, arith}
use Rattle.std.specs.Prelude.{option_and_then}
use Rattle.line_model.specs.declared.gap.AdriftEntry.TheVariants.{Carries}
use Rattle.line_model.specs.declared.gap.LastData.{LastData}
use Rattle.line_model.specs.declared.interface.Interface.{Interface}
use Rattle.line_model.specs.declared.packet.Class.TheVariants.{Rr, Rnr}
use Rattle.line_model.specs.declared.packet.PacketKind as kind
use Rattle.line_model.specs.declared.state.Side.{Side}
use Rattle.line_model.specs.declared.state.DState.{DState}
use Rattle.line_model.specs.declared.state.DState as transfer
use Rattle.line_model.specs.declared.state.StateName.TheVariants.{D1}
use Rattle.line_model.specs.declared.table.Action.TheVariants.{Normal}
use Rattle.line_model.specs.basics.Records.{Item}
use Rattle.line_model.specs.packets.Classes.{packet_class}
use Rattle.line_model.specs.packets.Formats.{packet_fault}
use Rattle.line_model.specs.channels.Channels.{AcceptedData, Channel, Sides, is_permanent, of_side, other, with_side}
use Rattle.line_model.specs.channels.ChannelStep.{Outcome, channel_step, counting, counts_of, transferring, verdict}
use Rattle.line_model.specs.channels.FlowControl.{count_receive}
use Rattle.line_model.specs.channels.Gaps.{Doubts, of_both}
use Rattle.line_model.specs.channels.GapStep.{GapOutcome, acknowledged_data, adrift_entry, adrift_fault, adrift_received, gap_channel_step, last_after, receive_in_doubt, receive_of, settled_outcome, settled_verdict, transferring_in_doubt}
use Rattle.line_model.specs.channels.GapStep as gap_step
use Rattle.line_model.specs.channels.Tables.{action}
use Rattle.gap_laws.proofs.Circuits.{Circuit, IsOrdered, ReceiveTaken, Terms, by_side, channel_of, channel_with, circuit, idle, no_terms, of_back, of_other, of_own, receive_taken, silent, size_of, some_none, with_receive}
use Rattle.gap_laws.proofs.Settled.{ReceiveSettled, SideFits, doubts_with, in_doubt, receive_settled, taken_with}
use Rattle.gap_laws.proofs.Fits.{IsResting, LastFits, Takes, adrift_at, settled_at, settled_with}
use Rattle.gap_laws.proofs.Fits.Fits.{FitsSome}
use Rattle.gap_laws.proofs.Settling.{numbers_then, settled_circuit, settles_by_receive}
use Rattle.gap_laws.proofs.Entries.{adrift_flow, flow_class, is_below, judged_at, last_seen, lawful_is, normal_whole, on_both, row_at, settled_is, whole_is}
use Rattle.gap_laws.proofs.DataSteps.{FollowsAs, acknowledged_last, adrift_fits, by_last, passing_fits}

-- what a P(R) alone comes to on a circuit adrift
abbrev pub received_by : (modulus : ℕ) → Side → (receive : ℕ) → (restarting : Bool) → Sides (Option LastData) → Option LastData → GapOutcome
received_by m x n b ls None = record { reported = []; after = adrift_at transfer.TheVariants.D1 b (last_after m x None (Some n) ls) }
received_by m x n b ls (Some l) = record { reported = []; after = settled_at b (numbers_then x None) (of_both true) (of_both true) (settled_circuit m x n l None) }

-- a row with a P(R) alone
pub record IsReceive (i : Interface) (n : ℕ) (r : Item) (receive : ℕ) : Type 0 where
  pub entry : action r.side D1 false (packet_class r.packet) ≡ Normal
  pub carries : adrift_entry (is_permanent i n) (packet_class r.packet) ≡ Carries
  pub fault : Option ℕ
  pub below : is_below (packet_class r.packet) ≡ true
  pub same_fault : (k : Terms) (q : Circuit) → packet_fault i n (channel_with k q) r ≡ fault
  pub same_adrift : (q : Circuit) → adrift_fault i n (channel_of q) r ≡ fault
  pub counts : (c : Channel) → transferring i D1 (packet_class r.packet) r c ≡ counting r.side D1 (count_receive i.modulus (counts_of c) r.side receive) c
  pub counts_in_doubt : (b : Doubts) (c : Channel) → transferring_in_doubt i D1 (packet_class r.packet) r b c ≡ receive_in_doubt i.modulus r.side D1 (Some receive) b c
  pub acknowledges : (ls : Sides (Option LastData)) → option_and_then (acknowledged_data (last_seen ls) r.side) (receive_of r) ≡ acknowledged_last receive (of_side (other r.side) ls)
  pub received : (d : DState) (b : Bool) (ls : Sides (Option LastData)) (l : Option LastData) → adrift_received i r (last_seen ls) (adrift_at d b ls) (receive_of r) l ≡ received_by i.modulus r.side receive b ls l

pub rr_receives : (i : Interface) (n nr : ℕ) (x : Side) (c receive len : ℕ) (os : List ℕ) → IsReceive i n (row_at nr x c (kind.TheVariants.Rr (Some receive)) len os) receive
rr_receives i n nr x c receive len os = record {
  entry = flow_class x Rr refl;
  carries = refl;
  fault = packet_fault i n (channel_of (idle transfer.TheVariants.D1)) (row_at nr x c (kind.TheVariants.Rr (Some receive)) len os);
  below = refl;
  same_fault = λ k q. refl;
  same_adrift = λ q. refl;
  counts = λ c. refl;
  counts_in_doubt = λ b c. refl;
  acknowledges = λ ls. refl;
  received = λ d b ls l. elim l as (λ l. adrift_received i (row_at nr x c (kind.TheVariants.Rr (Some receive)) len os) (last_seen ls) (adrift_at d b ls) (Some receive) l ≡ received_by i.modulus x receive b ls l) [ None ↦ refl | Some k ↦ refl ];
}

pub rnr_receives : (i : Interface) (n nr : ℕ) (x : Side) (c receive len : ℕ) (os : List ℕ) → IsReceive i n (row_at nr x c (kind.TheVariants.Rnr (Some receive)) len os) receive
rnr_receives i n nr x c receive len os = record {
  entry = flow_class x Rnr refl;
  carries = refl;
  fault = packet_fault i n (channel_of (idle transfer.TheVariants.D1)) (row_at nr x c (kind.TheVariants.Rnr (Some receive)) len os);
  below = refl;
  same_fault = λ k q. refl;
  same_adrift = λ q. refl;
  counts = λ c. refl;
  counts_in_doubt = λ b c. refl;
  acknowledges = λ ls. refl;
  received = λ d b ls l. elim l as (λ l. adrift_received i (row_at nr x c (kind.TheVariants.Rnr (Some receive)) len os) (last_seen ls) (adrift_at d b ls) (Some receive) l ≡ received_by i.modulus x receive b ls l) [ None ↦ refl | Some k ↦ refl ];
}

-- the whole walk accepts it
pub record ReceiveStep (i : Interface) (t : Terms) (n : ℕ) (r : Item) (receive : ℕ) (q : Circuit) : Type 0 where
  pub no_fault : packet_fault i n (channel_with t q) r ≡ None
  pub taken : ReceiveTaken t i.modulus r.side receive q
  pub takes : Takes i t n r q (with_receive r.side taken.upto q)
  pub reported : (channel_step i n (channel_with t q) r).reported ≡ []

receive_ordered : (k : Terms) (m : ℕ) (x : Side) (n : ℕ) (q : Circuit) → ((y : Side) → IsOrdered m q y) → (t : ReceiveTaken k m x n q) → (y : Side) → IsOrdered m (with_receive x t.upto q) y
receive_ordered k m x n q o t = by_side (λ y. IsOrdered m (with_receive x t.upto q) y) x own apart
  where
    own : IsOrdered m (with_receive x t.upto q) x
    own =
        let a : of_side x (with_side (other x) t.upto q.acknowledged) ≡ of_side x q.acknowledged = of_back x t.upto q.acknowledged in
        record { ordered = omega (arith, a, (o x).ordered); within = omega (arith, a, (o x).within) }

    apart : IsOrdered m (with_receive x t.upto q) (other x)
    apart =
        let a : of_side (other x) (with_side (other x) t.upto q.acknowledged) ≡ t.upto = of_own (other x) t.upto q.acknowledged in
        record { ordered = omega (arith, a, t.receive.upto); within = omega (arith, a, t.receive.from, (o (other x)).within) }

pub receive_whole : (i : Interface) (t : Terms) (n : ℕ) (r : Item) (receive : ℕ) → IsReceive i n r receive → (hs : List AcceptedData) (v : Sides ℕ) (u : Sides Bool)
    → ((y : Side) → IsOrdered i.modulus (circuit transfer.TheVariants.D1 hs v u) y)
    → silent (channel_step i n (channel_with t (circuit transfer.TheVariants.D1 hs v u)) r).reported ≡ true → ReceiveStep i t n r receive (circuit transfer.TheVariants.D1 hs v u)
receive_whole i t n r receive k hs v u o s =
    let e = whole_is i t n r q Normal (on_both (packet_class r.packet) (is_permanent i n) k.below) k.entry in
    let (none, is) = normal_whole i r (packet_fault i n c r) c (ap (λ (o : Outcome). silent o.reported) (sym e) ∙ s) in
    let same : channel_step i n c r ≡ counting r.side D1 (count_receive i.modulus (counts_of c) r.side receive) c = e ∙ is ∙ k.counts c in
    let w : ReceiveTaken t i.modulus r.side receive q = receive_taken t i.modulus r.side receive q (ap (λ (o : Outcome). silent o.reported) (sym same) ∙ s) in
    record { no_fault = none; taken = w; takes = record { after = ap (λ (o : Outcome). o.after) same ∙ w.after; ordered = receive_ordered t i.modulus r.side receive q o w }; reported = ap (λ (o : Outcome). o.reported) same ∙ w.reported }
  where
    q : Circuit
    q = circuit transfer.TheVariants.D1 hs v u

    c : Channel
    c = channel_with t (circuit transfer.TheVariants.D1 hs v u)

-- the last data packets of a circuit adrift after it
pub receive_seen : (k : Terms) (m : ℕ) (x : Side) (n : ℕ) (hs : List AcceptedData) (v : Sides ℕ) (u : Sides Bool) (ls : Sides (Option LastData)) → ((y : Side) → LastFits m (circuit transfer.TheVariants.D1 hs v u) y (of_side y ls))
    → (t : ReceiveTaken k m x n (circuit transfer.TheVariants.D1 hs v u)) → (y : Side)
    → LastFits m (with_receive x t.upto (circuit transfer.TheVariants.D1 hs v u)) y (of_side y (last_after m x None (Some n) ls))
receive_seen k m x n hs v u ls seen t = by_side (λ y. LastFits m w y (of_side y (last_after m x None (Some n) ls))) x own apart
  where
    q : Circuit
    q = circuit transfer.TheVariants.D1 hs v u

    w : Circuit
    w = with_receive x t.upto (circuit transfer.TheVariants.D1 hs v u)

    own : LastFits m w x (of_side x (last_after m x None (Some n) ls))
    own = subst (λ l. LastFits m w x l) (sym (of_own x (gap_step.with_receive n (of_side x ls)) ls)) (at (of_side x ls) (seen x))
      where
        at : (l : Option LastData) → LastFits m q x l → LastFits m w x (gap_step.with_receive n l)
        at None e = tt
        at (Some l) e = (e.0, ap (λ k. k % m) (of_own (other x) t.upto v) ∙ t.receive.is)

    apart : LastFits m w (other x) (of_side (other x) (last_after m x None (Some n) ls))
    apart = subst (λ l. LastFits m w (other x) l) (sym (of_other x (gap_step.with_receive n (of_side x ls)) ls)) (at (of_side (other x) ls) (seen (other x)))
      where
        at : (l : Option LastData) → LastFits m q (other x) l → LastFits m w (other x) l
        at None e = tt
        at (Some l) e = (e.0, ap (λ k. k % m) (of_other (other x) t.upto v) ∙ e.1)

-- a circuit adrift
pub receive_adrift : (i : Interface) (n : ℕ) (r : Item) (receive : ℕ) (k : IsReceive i n r receive) (hs : List AcceptedData) (v : Sides ℕ) (u : Sides Bool) → is_permanent i n ≡ true
    → ((y : Side) → IsOrdered i.modulus (circuit transfer.TheVariants.D1 hs v u) y) → (s : ReceiveStep i no_terms n r receive (circuit transfer.TheVariants.D1 hs v u))
    → (d : DState) (b : Bool) (ls : Sides (Option LastData)) → ((y : Side) → LastFits i.modulus (circuit transfer.TheVariants.D1 hs v u) y (of_side y ls)) → IsResting d ls
    → FollowsAs i (with_receive r.side s.taken.upto (circuit transfer.TheVariants.D1 hs v u)) [] (gap_channel_step i n (adrift_at d b ls) r)
receive_adrift i n r receive k hs v u p o s d b ls seen rest =
    adrift_flow (FollowsAs i w []) i n r d b ls p k.carries
    (λ f e. some_none (sym e ∙ k.same_adrift (idle d) ∙ sym (k.same_fault no_terms q) ∙ s.no_fault))
    (λ e. passing_fits i (other r.side) w d b ls [] rest e)
    (λ e. subst (FollowsAs i w []) (sym (k.received d b ls (option_and_then (acknowledged_data (last_seen ls) r.side) (receive_of r))))
    (subst (λ l. FollowsAs i w [] (received_by i.modulus r.side receive b ls l)) (sym (k.acknowledges ls))
    (by_last (λ l. FollowsAs i w [] (received_by i.modulus r.side receive b ls l)) receive (of_side (other r.side) ls) drifts settles)))
  where
    q : Circuit
    q = circuit transfer.TheVariants.D1 hs v u

    w : Circuit
    w = with_receive r.side s.taken.upto (circuit transfer.TheVariants.D1 hs v u)

    drifts : FollowsAs i w [] (received_by i.modulus r.side receive b ls None)
    drifts = (tt, adrift_fits i w transfer.TheVariants.D1 b (last_after i.modulus r.side None (Some receive) ls) (receive_seen no_terms i.modulus r.side receive hs v u ls seen s.taken) tt)

    settles : (l : LastData) → of_side (other r.side) ls ≡ Some l → l.next ≡ receive → FollowsAs i w [] (received_by i.modulus r.side receive b ls (Some l))
    settles l is same =
        let last : LastFits i.modulus q (other r.side) (Some l) = subst (λ l. LastFits i.modulus q (other r.side) l) is (seen (other r.side)) in (
          tt,
          FitsSome (record {
            restarting = b;
            numbers = numbers_then r.side None;
            interrupts = of_both true;
            sequences = of_both true;
            settled = settled_circuit i.modulus r.side receive l None;
            is = refl;
            in_d1 = refl;
            in_d1_too = refl;
            sides = settles_by_receive i no_terms false r.side receive q l (lawful_is i).eight o last same s.taken;
          }),
        )

-- a settled channel takes it
pub receive_settles : (i : Interface) (k t : Terms) (n : ℕ) (r : Item) (receive : ℕ) → IsReceive i n r receive → (q : Circuit) → (s : ReceiveStep i k n r receive q)
    → (b e : Bool) (ns is ss : Sides Bool) (gs : List AcceptedData) (a : Sides ℕ) (f : Sides Bool)
    → (w : ReceiveSettled i k t (doubts_with e ns is ss) r.side receive q (circuit transfer.TheVariants.D1 gs a f) s.taken.upto)
    → gap_channel_step i n (settled_with t b (doubts_with e ns is ss) (circuit transfer.TheVariants.D1 gs a f)) r
    ≡ settled_outcome (settled_with t b (doubts_with e ns is ss) (circuit transfer.TheVariants.D1 gs a f)) (taken_with t [] (doubts_with e ns is ss) w.settled)
receive_settles i k t n r receive p q s b e ns is ss gs a f w =
    settled_is i t n r b d g Normal (on_both (packet_class r.packet) (is_permanent i n) p.below) p.entry
    ∙ ap (λ f. settled_outcome (settled_with t b d g) (settled_verdict i D1 r (verdict (judged_at D1 Normal) f) d (channel_with t g))) (p.same_fault t g ∙ sym (p.same_fault k q) ∙ s.no_fault)
    ∙ ap (λ o. settled_outcome (settled_with t b d g) o) (p.counts_in_doubt d (channel_with t g) ∙ w.is)
  where
    g : Circuit
    g = circuit transfer.TheVariants.D1 gs a f

    d : Doubts
    d = doubts_with e ns is ss

-- a settled circuit
pub receive_on_settled : (i : Interface) (n : ℕ) (r : Item) (receive : ℕ) (k : IsReceive i n r receive) (hs : List AcceptedData) (v : Sides ℕ) (u : Sides Bool)
    → (s : ReceiveStep i no_terms n r receive (circuit transfer.TheVariants.D1 hs v u))
    → (b : Bool) (ns is ss : Sides Bool) (gs : List AcceptedData) (a : Sides ℕ) (f : Sides Bool) → ((y : Side) → SideFits i (size_of i no_terms) (in_doubt ns is ss) (circuit transfer.TheVariants.D1 hs v u) (circuit transfer.TheVariants.D1 gs a f) y)
    → FollowsAs i (with_receive r.side s.taken.upto (circuit transfer.TheVariants.D1 hs v u)) [] (gap_channel_step i n (settled_at b ns is ss (circuit transfer.TheVariants.D1 gs a f)) r)
receive_on_settled i n r receive k hs v u s b ns is ss gs a f sides =
    subst (FollowsAs i w []) (sym (receive_settles i no_terms no_terms n r receive k q s b false ns is ss gs a f t)) (subst (λ c. FollowsAs i w [] (settled_outcome (settled_at b ns is ss g) (taken_with no_terms [] (in_doubt ns is ss) c))) (sym as_d1) (
      tt,
      FitsSome (record {
        restarting = b;
        numbers = ns;
        interrupts = is;
        sequences = ss;
        settled = circuit transfer.TheVariants.D1 t.settled.accepted t.settled.acknowledged t.settled.unconfirmed;
        is = refl;
        in_d1 = refl;
        in_d1_too = refl;
        sides = subst (λ c. (y : Side) → SideFits i (size_of i no_terms) (in_doubt ns is ss) w c y) as_d1 t.fits;
      }),
    ))
  where
    q : Circuit
    q = circuit transfer.TheVariants.D1 hs v u

    g : Circuit
    g = circuit transfer.TheVariants.D1 gs a f

    w : Circuit
    w = with_receive r.side s.taken.upto (circuit transfer.TheVariants.D1 hs v u)

    t : ReceiveSettled i no_terms no_terms (in_doubt ns is ss) r.side receive (circuit transfer.TheVariants.D1 hs v u) (circuit transfer.TheVariants.D1 gs a f) s.taken.upto
    t = receive_settled i no_terms no_terms false ns is ss r.side receive q g (lawful_is i).eight sides s.taken

    as_d1 : t.settled ≡ circuit transfer.TheVariants.D1 t.settled.accepted t.settled.acknowledged t.settled.unconfirmed
    as_d1 = ap (λ d. circuit d t.settled.accepted t.settled.acknowledged t.settled.unconfirmed) t.in_d1
