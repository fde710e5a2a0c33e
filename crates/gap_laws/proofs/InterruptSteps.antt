-- Interrupts and their confirmations on a permanent circuit in d1.
use Rattle.std.proofs.Common.{◌≡◌, ℕ, Bool, true, false, refl, sym, ◌∙◌, ap, subst, List, [], Option, Some, None, Result, Ok, Err}
use Rattle.std.specs.Prelude.{not, option_and_then}
use Rattle.line_model.specs.declared.diagnostic.TheConstants.{UNAUTHORIZED_INTERRUPT, UNAUTHORIZED_INTERRUPT_CONFIRMATION}
use Rattle.line_model.specs.declared.gap.AdriftEntry.TheVariants.{Carries}
use Rattle.line_model.specs.declared.gap.LastData.{LastData}
use Rattle.line_model.specs.declared.interface.Interface.{Interface}
use Rattle.line_model.specs.declared.packet.Class.TheVariants.{Interrupt, InterruptConfirm}
use Rattle.line_model.specs.declared.packet.PacketKind as kind
use Rattle.line_model.specs.declared.state.Side.{Side}
use Rattle.line_model.specs.declared.state.DState.{DState}
use Rattle.line_model.specs.declared.state.DState as transfer
use Rattle.line_model.specs.declared.state.StateName.TheVariants.{D1}
use Rattle.line_model.specs.declared.table.Action.TheVariants.{Normal}
use Rattle.line_model.specs.basics.Records.{Item}
use Rattle.line_model.specs.packets.Classes.{packet_class}
use Rattle.line_model.specs.packets.Formats.{packet_fault}
use Rattle.line_model.specs.channels.Channels.{AcceptedData, Channel, Sides, is_permanent, of_side, other, with_side}
use Rattle.line_model.specs.channels.ChannelStep.{Outcome, channel_step, counting, counts_of, transferring, verdict}
use Rattle.line_model.specs.channels.FlowControl.{Counts}
use Rattle.line_model.specs.channels.Gaps.{Doubts}
use Rattle.line_model.specs.channels.GapStep.{acknowledged_data, adrift_entry, adrift_fault, adrift_received, counting_in_doubt, gap_channel_step, receive_of, settled_outcome, settled_verdict, transferring_in_doubt, with_interrupt}
use Rattle.line_model.specs.channels.Tables.{action}
use Rattle.gap_laws.proofs.Circuits.{some_none, Circuit, IsOrdered, Terms, by_side, channel_of, channel_with, circuit, failing_loud, idle, no_terms, of_other, of_own, silent, size_of}
use Rattle.gap_laws.proofs.Settled.{SideFits, doubts_with, in_doubt, taken_with}
use Rattle.gap_laws.proofs.Fits.{IsResting, LastFits, Takes, adrift_at, settled_at, settled_with}
use Rattle.gap_laws.proofs.Fits.Fits.{FitsSome}
use Rattle.gap_laws.proofs.Entries.{adrift_flow, flow_class, is_below, judged_at, last_seen, normal_whole, on_both, row_at, settled_is, whole_is}
use Rattle.gap_laws.proofs.DataSteps.{FollowsAs, adrift_fits, passing_fits}

-- the interrupt of a side is unconfirmed from now on, or not any more
abbrev pub with_unconfirmed : Side → Bool → Circuit → Circuit
with_unconfirmed y b q = record q { unconfirmed = with_side y b q.unconfirmed }

-- what says of the interrupt of a side that it is the other way round
abbrev pub turned : (unconfirmed : Bool) → Side → Counts → Result Counts ℕ
turned true y c = elim (of_side y c.unconfirmed) [ true ↦ Err UNAUTHORIZED_INTERRUPT | false ↦ Ok (record c { unconfirmed = with_side y true c.unconfirmed }) ]
turned false y c = elim (of_side y c.unconfirmed) [ false ↦ Err UNAUTHORIZED_INTERRUPT_CONFIRMATION | true ↦ Ok (record c { unconfirmed = with_side y false c.unconfirmed }) ]

turned_is : (b : Bool) (y : Side) (c : Counts) → of_side y c.unconfirmed ≡ not b → turned b y c ≡ Ok (record c { unconfirmed = with_side y b c.unconfirmed })
turned_is true y c e = ap (λ u. elim u as (λ _. Result Counts ℕ) [ true ↦ Err UNAUTHORIZED_INTERRUPT | false ↦ Ok (record c { unconfirmed = with_side y true c.unconfirmed }) ]) e
turned_is false y c e = ap (λ u. elim u as (λ _. Result Counts ℕ) [ false ↦ Err UNAUTHORIZED_INTERRUPT_CONFIRMATION | true ↦ Ok (record c { unconfirmed = with_side y false c.unconfirmed }) ]) e

-- a row that says so
pub record IsTurn (i : Interface) (n : ℕ) (r : Item) (y : Side) (b : Bool) : Type 0 where
  pub entry : action r.side D1 false (packet_class r.packet) ≡ Normal
  pub carries : adrift_entry (is_permanent i n) (packet_class r.packet) ≡ Carries
  pub fault : Option ℕ
  pub below : is_below (packet_class r.packet) ≡ true
  pub same_fault : (k : Terms) (q : Circuit) → packet_fault i n (channel_with k q) r ≡ fault
  pub same_adrift : (q : Circuit) → adrift_fault i n (channel_of q) r ≡ fault
  pub counts : (c : Channel) → transferring i D1 (packet_class r.packet) r c ≡ counting r.side D1 (turned b y (counts_of c)) c
  pub counts_in_doubt : (d : Doubts) (c : Channel) → transferring_in_doubt i D1 (packet_class r.packet) r d c
      ≡ counting_in_doubt r.side D1 (turned b y (counts_of (with_interrupt (of_side y d.interrupts) y (not b) c))) d (record d { interrupts = with_side y false d.interrupts }) (with_interrupt (of_side y d.interrupts) y (not b) c) c
  pub received : (d : DState) (c : Bool) (ls : Sides (Option LastData)) (l : Option LastData) → adrift_received i r (last_seen ls) (adrift_at d c ls) (receive_of r) l ≡ record { reported = []; after = adrift_at transfer.TheVariants.D1 c ls }

pub interrupt_turns : (i : Interface) (n nr : ℕ) (x : Side) (c len : ℕ) (os : List ℕ) → IsTurn i n (row_at nr x c kind.TheVariants.Interrupt len os) x true
interrupt_turns i n nr x c len os = record {
  entry = flow_class x Interrupt refl;
  carries = refl;
  fault = packet_fault i n (channel_of (idle transfer.TheVariants.D1)) (row_at nr x c kind.TheVariants.Interrupt len os);
  below = refl;
  same_fault = λ k q. refl;
  same_adrift = λ q. refl;
  counts = λ c. refl;
  counts_in_doubt = λ d c. refl;
  received = λ d c ls l. refl;
}

pub confirmation_turns : (i : Interface) (n nr : ℕ) (x : Side) (c len : ℕ) (os : List ℕ) → IsTurn i n (row_at nr x c kind.TheVariants.InterruptConfirm len os) (other x) false
confirmation_turns i n nr x c len os = record {
  entry = flow_class x InterruptConfirm refl;
  carries = refl;
  fault = packet_fault i n (channel_of (idle transfer.TheVariants.D1)) (row_at nr x c kind.TheVariants.InterruptConfirm len os);
  below = refl;
  same_fault = λ k q. refl;
  same_adrift = λ q. refl;
  counts = λ c. refl;
  counts_in_doubt = λ d c. refl;
  received = λ d c ls l. refl;
}

-- the whole walk takes it
pub record TurnStep (i : Interface) (t : Terms) (n : ℕ) (r : Item) (y : Side) (b : Bool) (q : Circuit) : Type 0 where
  pub no_fault : packet_fault i n (channel_with t q) r ≡ None
  pub before : of_side y q.unconfirmed ≡ not b
  pub takes : Takes i t n r q (with_unconfirmed y b q)
  pub reported : (channel_step i n (channel_with t q) r).reported ≡ []

pub turn_whole : (i : Interface) (t : Terms) (n : ℕ) (r : Item) (y : Side) (b : Bool) → IsTurn i n r y b → (hs : List AcceptedData) (v : Sides ℕ) (u : Sides Bool)
    → ((y : Side) → IsOrdered i.modulus (circuit transfer.TheVariants.D1 hs v u) y)
    → silent (channel_step i n (channel_with t (circuit transfer.TheVariants.D1 hs v u)) r).reported ≡ true → TurnStep i t n r y b (circuit transfer.TheVariants.D1 hs v u)
turn_whole i t n r y b k hs v u o s =
    let e = whole_is i t n r q Normal (on_both (packet_class r.packet) (is_permanent i n) k.below) k.entry in
    let (none, is) = normal_whole i r (packet_fault i n (channel_with t q) r) (channel_with t q) (ap (λ (o : Outcome). silent o.reported) (sym e) ∙ s) in
    let same : channel_step i n (channel_with t q) r ≡ counting r.side D1 (turned b y (counts_of (channel_with t q))) (channel_with t q) = e ∙ is ∙ k.counts (channel_with t q) in
    let before : of_side y u ≡ not b = valid b (ap (λ (o : Outcome). silent o.reported) (sym same) ∙ s) in
    record {
      no_fault = none;
      before = before;
      takes = record { after = ap (λ (o : Outcome). o.after) same ∙ ap (λ v. (counting r.side D1 v (channel_with t q)).after) (turned_is b y (counts_of (channel_with t q)) before); ordered = λ y. record { ordered = (o y).ordered; within = (o y).within } };
      reported = ap (λ (o : Outcome). o.reported) same ∙ ap (λ v. (counting r.side D1 v (channel_with t q)).reported) (turned_is b y (counts_of (channel_with t q)) before);
    }
  where
    q : Circuit
    q = circuit transfer.TheVariants.D1 hs v u

    valid : (b : Bool) → silent (counting r.side D1 (turned b y (counts_of (channel_with t q))) (channel_with t q)).reported ≡ true → of_side y u ≡ not b
    valid true s = at (of_side y u) refl s
      where
        at : (w : Bool) → of_side y u ≡ w → silent (counting r.side D1 (elim w as (λ _. Result Counts ℕ) [ true ↦ Err UNAUTHORIZED_INTERRUPT | false ↦ Ok (record (counts_of (channel_with t q)) { unconfirmed = with_side y true u }) ]) (channel_with t q)).reported ≡ true → of_side y u ≡ false
        at true e s = failing_loud r.side D1 UNAUTHORIZED_INTERRUPT (channel_with t q) s
        at false e s = e
    valid false s = at (of_side y u) refl s
      where
        at : (w : Bool) → of_side y u ≡ w → silent (counting r.side D1 (elim w as (λ _. Result Counts ℕ) [ false ↦ Err UNAUTHORIZED_INTERRUPT_CONFIRMATION | true ↦ Ok (record (counts_of (channel_with t q)) { unconfirmed = with_side y false u }) ]) (channel_with t q)).reported ≡ true → of_side y u ≡ true
        at true e s = e
        at false e s = failing_loud r.side D1 UNAUTHORIZED_INTERRUPT_CONFIRMATION (channel_with t q) s

-- the last data packets stay
pub turn_seen : (m : ℕ) (y : Side) (b : Bool) (hs : List AcceptedData) (v : Sides ℕ) (u : Sides Bool) (x : Side) (l : Option LastData) → LastFits m (circuit transfer.TheVariants.D1 hs v u) x l → LastFits m (circuit transfer.TheVariants.D1 hs v (with_side y b u)) x l
turn_seen m y b hs v u x None e = tt
turn_seen m y b hs v u x (Some l) e = e

pub turn_adrift : (i : Interface) (n : ℕ) (r : Item) (y : Side) (t : Bool) (k : IsTurn i n r y t) (hs : List AcceptedData) (v : Sides ℕ) (u : Sides Bool) → is_permanent i n ≡ true
    → TurnStep i no_terms n r y t (circuit transfer.TheVariants.D1 hs v u)
    → (d : DState) (b : Bool) (ls : Sides (Option LastData)) → ((y : Side) → LastFits i.modulus (circuit transfer.TheVariants.D1 hs v u) y (of_side y ls)) → IsResting d ls
    → FollowsAs i (circuit transfer.TheVariants.D1 hs v (with_side y t u)) [] (gap_channel_step i n (adrift_at d b ls) r)
turn_adrift i n r y t k hs v u p s d b ls seen rest =
    let w : Circuit = circuit transfer.TheVariants.D1 hs v (with_side y t u) in
    adrift_flow (FollowsAs i w []) i n r d b ls p k.carries
    (λ f e. some_none (sym e ∙ k.same_adrift (idle d) ∙ sym (k.same_fault no_terms (circuit transfer.TheVariants.D1 hs v u)) ∙ s.no_fault))
    (λ e. passing_fits i (other r.side) w d b ls [] rest e)
    (λ e. subst (FollowsAs i w []) (sym (k.received d b ls (option_and_then (acknowledged_data (last_seen ls) r.side) (receive_of r)))) (tt, adrift_fits i w transfer.TheVariants.D1 b ls (λ x. turn_seen i.modulus y t hs v u x (of_side x ls) (seen x)) tt))

-- the interrupt of the side, where it was in doubt
abbrev known_before : (doubt : Bool) → Side → Bool → Sides Bool → Sides Bool
known_before true y b f = with_side y b f
known_before false y b f = f

-- what is certain then, by what was
pub record TurnSettled (i : Interface) (k t : Terms) (n : ℕ) (r : Item) (y : Side) (d : Bool) (b e : Bool) (ns us ss : Sides Bool) (w g : Circuit) : Type 0 where
  pub accepted : List AcceptedData
  pub acknowledged : Sides ℕ
  pub unconfirmed : Sides Bool
  pub is : gap_channel_step i n (settled_with t b (doubts_with e ns us ss) g) r
      ≡ settled_outcome (settled_with t b (doubts_with e ns us ss) g) (taken_with t [] (doubts_with e ns (with_side y false us) ss) (circuit transfer.TheVariants.D1 accepted acknowledged unconfirmed))
  pub fits : (x : Side) → SideFits i (size_of i k) (doubts_with e ns (with_side y false us) ss) w (circuit transfer.TheVariants.D1 accepted acknowledged unconfirmed) x

pub turn_settles : (i : Interface) (k z : Terms) (n : ℕ) (r : Item) (y : Side) (t : Bool) (p : IsTurn i n r y t) (hs : List AcceptedData) (v : Sides ℕ) (u : Sides Bool)
    → TurnStep i k n r y t (circuit transfer.TheVariants.D1 hs v u)
    → (b e : Bool) (ns is ss : Sides Bool) (gs : List AcceptedData) (a : Sides ℕ) (f : Sides Bool) → ((y : Side) → SideFits i (size_of i k) (doubts_with e ns is ss) (circuit transfer.TheVariants.D1 hs v u) (circuit transfer.TheVariants.D1 gs a f) y)
    → TurnSettled i k z n r y t b e ns is ss (circuit transfer.TheVariants.D1 hs v (with_side y t u)) (circuit transfer.TheVariants.D1 gs a f)
turn_settles i k z n r y t p hs v u s b e ns is ss gs a f sides = record {
  accepted = gs;
  acknowledged = a;
  unconfirmed = with_side y t (known_before (of_side y is) y (not t) f);
  is = same;
  fits = by_side (λ x. SideFits i (size_of i k) (doubts_with e ns (with_side y false is) ss) w g2 x) y own apart;
}
  where
    g : Circuit
    g = circuit transfer.TheVariants.D1 gs a f

    d : Doubts
    d = doubts_with e ns is ss

    w : Circuit
    w = circuit transfer.TheVariants.D1 hs v (with_side y t u)

    g1 : Circuit
    g1 = circuit transfer.TheVariants.D1 gs a (known_before (of_side y is) y (not t) f)

    g2 : Circuit
    g2 = circuit transfer.TheVariants.D1 gs a (with_side y t (known_before (of_side y is) y (not t) f))

    completed : with_interrupt (of_side y is) y (not t) (channel_with z g) ≡ channel_with z g1
    completed = at (of_side y is)
      where
        at : (d : Bool) → with_interrupt d y (not t) (channel_with z g) ≡ channel_with z (circuit transfer.TheVariants.D1 gs a (known_before d y (not t) f))
        at true = refl
        at false = refl

    before : of_side y (known_before (of_side y is) y (not t) f) ≡ not t
    before = at (of_side y is) refl
      where
        at : (d : Bool) → of_side y is ≡ d → of_side y (known_before d y (not t) f) ≡ not t
        at true e = of_own y (not t) f
        at false e = (sides y).interrupts e ∙ s.before

    still : of_side (other y) (known_before (of_side y is) y (not t) f) ≡ of_side (other y) f
    still = at (of_side y is)
      where
        at : (d : Bool) → of_side (other y) (known_before d y (not t) f) ≡ of_side (other y) f
        at true = of_other y (not t) f
        at false = refl

    same : gap_channel_step i n (settled_with z b d g) r ≡ settled_outcome (settled_with z b d g) (taken_with z [] (doubts_with e ns (with_side y false is) ss) g2)
    same =
        settled_is i z n r b d g Normal (on_both (packet_class r.packet) (is_permanent i n) p.below) p.entry
        ∙ ap (λ f. settled_outcome (settled_with z b d g) (settled_verdict i D1 r (verdict (judged_at D1 Normal) f) d (channel_with z g))) (p.same_fault z g ∙ sym (p.same_fault k (circuit transfer.TheVariants.D1 hs v u)) ∙ s.no_fault)
        ∙ ap (λ o. settled_outcome (settled_with z b d g) o)
        (p.counts_in_doubt d (channel_with z g)
        ∙ ap (λ c. counting_in_doubt r.side D1 (turned t y (counts_of c)) d (doubts_with e ns (with_side y false is) ss) c (channel_with z g)) completed
        ∙ ap (λ v. counting_in_doubt r.side D1 v d (doubts_with e ns (with_side y false is) ss) (channel_with z g1) (channel_with z g)) (turned_is t y (counts_of (channel_with z g1)) before))

    own : SideFits i (size_of i k) (doubts_with e ns (with_side y false is) ss) w g2 y
    own = record {
      numbers = (sides y).numbers;
      interrupts = λ c. of_own y t (known_before (of_side y is) y (not t) f) ∙ sym (of_own y t u);
      sequences = (sides y).sequences;
      in_order = (sides y).in_order;
    }

    apart : SideFits i (size_of i k) (doubts_with e ns (with_side y false is) ss) w g2 (other y)
    apart = record {
      numbers = (sides (other y)).numbers;
      interrupts = λ c. of_other y t (known_before (of_side y is) y (not t) f) ∙ still ∙ (sides (other y)).interrupts (sym (of_other y false is) ∙ c) ∙ sym (of_other y t u);
      sequences = (sides (other y)).sequences;
      in_order = (sides (other y)).in_order;
    }

pub turn_on_settled : (i : Interface) (n : ℕ) (r : Item) (y : Side) (t : Bool) (k : IsTurn i n r y t) (hs : List AcceptedData) (v : Sides ℕ) (u : Sides Bool)
    → TurnStep i no_terms n r y t (circuit transfer.TheVariants.D1 hs v u)
    → (b : Bool) (ns is ss : Sides Bool) (gs : List AcceptedData) (a : Sides ℕ) (f : Sides Bool) → ((y : Side) → SideFits i (size_of i no_terms) (in_doubt ns is ss) (circuit transfer.TheVariants.D1 hs v u) (circuit transfer.TheVariants.D1 gs a f) y)
    → FollowsAs i (circuit transfer.TheVariants.D1 hs v (with_side y t u)) [] (gap_channel_step i n (settled_at b ns is ss (circuit transfer.TheVariants.D1 gs a f)) r)
turn_on_settled i n r y t k hs v u s b ns is ss gs a f sides =
    let w = turn_settles i no_terms no_terms n r y t k hs v u s b false ns is ss gs a f sides in
    subst (FollowsAs i (circuit transfer.TheVariants.D1 hs v (with_side y t u)) []) (sym w.is) (
      tt,
      FitsSome (record {
        restarting = b;
        numbers = ns;
        interrupts = with_side y false is;
        sequences = ss;
        settled = circuit transfer.TheVariants.D1 w.accepted w.acknowledged w.unconfirmed;
        is = refl;
        in_d1 = refl;
        in_d1_too = refl;
        sides = w.fits;
      }),
    )
