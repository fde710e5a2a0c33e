-- Packets that do nothing on a permanent circuit: those of no circuit, and those that a reset waits out.
use Rattle.std.proofs.Common.{◌≡◌, ◌%◌, ◌+◌, ℕ, Bool, true, false, refl, sym, ◌∙◌, ap, subst, List, Option, Some, None}
use Rattle.std.specs.Prelude.{not, ◌||◌, is_some, option_and_then}
use Rattle.std.proofs.lemmas.Bool.{false≢true}
use Rattle.line_model.specs.declared.gap.AdriftEntry.{AdriftEntry}
use Rattle.line_model.specs.declared.gap.AdriftEntry.TheVariants.{Carries, DoesNothing}
use Rattle.line_model.specs.declared.gap.LastData.{LastData}
use Rattle.line_model.specs.declared.interface.Interface.{Interface}
use Rattle.line_model.specs.declared.packet.Class.{Class}
use Rattle.line_model.specs.declared.packet.DataHeader.{DataHeader}
use Rattle.line_model.specs.declared.state.Side.{Side}
use Rattle.line_model.specs.declared.state.Side.TheVariants.{T, N}
use Rattle.line_model.specs.declared.state.DState.{DState}
use Rattle.line_model.specs.declared.state.DState as transfer
use Rattle.line_model.specs.declared.state.StateName.{StateName}
use Rattle.line_model.specs.declared.state.StateName.TheVariants.{D1, D2, D3}
use Rattle.line_model.specs.declared.table.Action.{Action}
use Rattle.line_model.specs.declared.table.Action.TheVariants.{Error}
use Rattle.line_model.specs.basics.Records.{Item}
use Rattle.line_model.specs.packets.Classes.{packet_class}
use Rattle.line_model.specs.packets.Formats.{packet_fault}
use Rattle.line_model.specs.packets.Says.{header_in}
use Rattle.line_model.specs.channels.Channels.{AcceptedData, Channel, Sides, is_permanent, of_side, other, with_side}
use Rattle.line_model.specs.channels.ChannelStep.{Outcome, channel_step, report_nothing, transfer_name, verdict, verdict_step}
use Rattle.line_model.specs.channels.Gaps.{Doubts}
use Rattle.line_model.specs.channels.GapStep.{GapOutcome, acknowledged_data, adrift_entry, adrift_fault, adrift_received, adrift_step_by, data_reported, gap_channel_step, last_after, passing, receive_of, settled_outcome, settled_verdict, with_receive}
use Rattle.line_model.specs.channels.Tables.{action}
use Rattle.line_model.proofs.Every.{every, every_class, classes}
use Rattle.gap_laws.proofs.Circuits.{Circuit, IsOrdered, Terms, by_side, channel_of, channel_with, circuit, failing_loud, idle, no_terms, of_other, of_own, silent, size_of}
use Rattle.gap_laws.proofs.Settled.{SideFits, in_doubt}
use Rattle.gap_laws.proofs.Fits.{IsResting, LastFits, LastIn, Takes, adrift_at, settled_at, settled_with}
use Rattle.gap_laws.proofs.Fits.Fits.{FitsSome}
use Rattle.gap_laws.proofs.Entries.{adrift_flow, is_below, is_flow, is_moving, judged_at, last_seen, on_circuit, quiet, quiet_settled, quiet_whole, settled_is, whole_is}
use Rattle.gap_laws.proofs.DataSteps.{DriftsBy, FollowsBy, by_last, fits_adrift}

-- ---- packets of no circuit

-- nothing happens in the whole walk
pub quiet_takes : (i : Interface) (k : Terms) (n : ℕ) (r : Item) (q : Circuit) → (is_below (packet_class r.packet) || is_permanent i n) ≡ true → quiet (action r.side (transfer_name q.state) false (packet_class r.packet)) ≡ true → ((y : Side) → IsOrdered i.modulus q y)
    → silent (channel_step i n (channel_with k q) r).reported ≡ true → Takes i k n r q q
quiet_takes i k n r q p h o s =
    let e = whole_is i k n r q (action r.side (transfer_name q.state) false (packet_class r.packet)) p refl in
    let same = quiet_whole i (transfer_name q.state) r (action r.side (transfer_name q.state) false (packet_class r.packet)) (packet_fault i n (channel_with k q) r) (channel_with k q) h (ap (λ (o : Outcome). silent o.reported) (sym e) ∙ s) in
    record { after = ap (λ (o : Outcome). o.after) (e ∙ same); ordered = o }

-- nor on a settled channel
pub quiet_settles : (i : Interface) (k t : Terms) (n : ℕ) (r : Item) (q g : Circuit) → (is_below (packet_class r.packet) || is_permanent i n) ≡ true → quiet (action r.side (transfer_name q.state) false (packet_class r.packet)) ≡ true
    → silent (channel_step i n (channel_with k q) r).reported ≡ true → (b : Bool) (d : Doubts) → g.state ≡ q.state
    → gap_channel_step i n (settled_with t b d g) r ≡ settled_outcome (settled_with t b d g) (record { outcome = report_nothing (channel_with t g); doubts = d })
quiet_settles i k t n r q g p h s b d same =
    let a : Action = action r.side (transfer_name q.state) false (packet_class r.packet) in
    let e = whole_is i k n r q a p refl in
    settled_is i t n r b d g a p (ap (λ d. action r.side (transfer_name d) false (packet_class r.packet)) same)
    ∙ ap (λ o. settled_outcome (settled_with t b d g) o)
    (ap (λ d. settled_verdict i (transfer_name d) r (verdict (judged_at (transfer_name d) a) (packet_fault i n (channel_with t g) r)) D (channel_with t g)) same
    ∙ quiet_settled i (transfer_name q.state) r a (packet_fault i n (channel_with k q) r) (packet_fault i n (channel_with t g) r) (channel_with k q) (channel_with t g) d h (ap (λ (o : Outcome). silent o.reported) (sym e) ∙ s))
  where
    D : Doubts
    D = d

pub quiet_on_settled : (i : Interface) (n : ℕ) (r : Item) (hs : List AcceptedData) (v : Sides ℕ) (u : Sides Bool) → is_permanent i n ≡ true → quiet (action r.side D1 false (packet_class r.packet)) ≡ true
    → silent (channel_step i n (channel_of (circuit transfer.TheVariants.D1 hs v u)) r).reported ≡ true
    → (b : Bool) (ns is ss : Sides Bool) (gs : List AcceptedData) (a : Sides ℕ) (f : Sides Bool) → ((y : Side) → SideFits i (size_of i no_terms) (in_doubt ns is ss) (circuit transfer.TheVariants.D1 hs v u) (circuit transfer.TheVariants.D1 gs a f) y)
    → FollowsBy i (circuit transfer.TheVariants.D1 hs v u) (gap_channel_step i n (settled_at b ns is ss (circuit transfer.TheVariants.D1 gs a f)) r)
quiet_on_settled i n r hs v u p h s b ns is ss gs a f sides =
    let q : Circuit = circuit transfer.TheVariants.D1 hs v u in
    let g : Circuit = circuit transfer.TheVariants.D1 gs a f in
    subst (FollowsBy i q) (sym (quiet_settles i no_terms no_terms n r q g (on_circuit (packet_class r.packet) (is_permanent i n) p) h s b (in_doubt ns is ss) refl))
    (refl, FitsSome (record { restarting = b; numbers = ns; interrupts = is; sequences = ss; settled = g; is = refl; in_d1 = refl; in_d1_too = refl; sides = sides }))

-- an entry that does nothing on a circuit adrift
abbrev is_nothing : AdriftEntry → Bool
is_nothing DoesNothing = true
is_nothing e = false

does_nothing : (e : AdriftEntry) → is_nothing e ≡ true → e ≡ DoesNothing
does_nothing DoesNothing h = refl
does_nothing e h = cc

pub nothing_adrift : (p : Bool) (k : Class) → p ≡ true → is_moving k ≡ false → is_flow k ≡ false → adrift_entry p k ≡ DoesNothing
nothing_adrift p k e m f = ap (λ p. adrift_entry p k) e ∙ does_nothing (adrift_entry true k) (at (is_moving k) (is_flow k) m f (every_class (λ k. is_moving k || (is_flow k || is_nothing (adrift_entry true k))) refl k))
  where
    at : (m f : Bool) → m ≡ false → f ≡ false → (m || (f || is_nothing (adrift_entry true k))) ≡ true → is_nothing (adrift_entry true k) ≡ true
    at true f e w h = absurd (false≢true (sym e))
    at false true e w h = absurd (false≢true (sym w))
    at false false e w h = h

pub quiet_adrift : (i : Interface) (n : ℕ) (r : Item) (q : Circuit) → adrift_entry (is_permanent i n) (packet_class r.packet) ≡ DoesNothing
    → (d : DState) (b : Bool) (ls : Sides (Option LastData)) → ((y : Side) → LastFits i.modulus q y (of_side y ls)) → IsResting d ls
    → DriftsBy i q (gap_channel_step i n (adrift_at d b ls) r)
quiet_adrift i n r q entry d b ls seen rest = at (is_some (adrift_fault i n (channel_of (idle d)) r))
  where
    same : DriftsBy i q (passing (adrift_at d b ls))
    same = (refl, fits_adrift i q d b ls seen rest)

    at : (f : Bool) → DriftsBy i q (elim f as (λ _. GapOutcome) [ true ↦ passing (adrift_at d b ls) | false ↦ adrift_step_by (adrift_entry (is_permanent i n) (packet_class r.packet)) i n r (last_seen ls) (adrift_at d b ls) ])
    at true = same
    at false = subst (λ e. DriftsBy i q (adrift_step_by e i n r (last_seen ls) (adrift_at d b ls))) (sym entry) same

-- ---- packets of data transfer while a side resets

abbrev pub is_error : Action → Bool
is_error (Error n) = true
is_error a = false

-- the side that resets sends none
abbrev pub Waits : DState → Side → Type 0
Waits transfer.TheVariants.D1 x = ⊥
Waits transfer.TheVariants.D2 x = x ≡ N
Waits transfer.TheVariants.D3 x = x ≡ T

pub error_loud : {A : Type 0} (i : Interface) (s : StateName) (r : Item) (a : Action) (f : Option ℕ) (c : Channel) → is_error a ≡ true → silent (verdict_step i s r (verdict (judged_at s a) f) c).reported ≡ true → A
error_loud i s r (Error n) f c e h = failing_loud r.side s n c h
error_loud i s r a f c e h = absurd (false≢true e)

flow_test : (t : Class → Bool) → every (λ k. not (is_flow k) || t k) classes ≡ true → (k : Class) → is_flow k ≡ true → t k ≡ true
flow_test t h k f = at (is_flow k) f (every_class (λ k. not (is_flow k) || t k) h k)
  where
    at : (f : Bool) → f ≡ true → (not f || t k) ≡ true → t k ≡ true
    at true e h = h
    at false e h = absurd (false≢true e)

pub record Waiting (i : Interface) (k : Terms) (n : ℕ) (r : Item) (q : Circuit) : Type 0 where
  pub waits : Waits q.state r.side
  pub still : quiet (action r.side (transfer_name q.state) false (packet_class r.packet)) ≡ true
  pub takes : Takes i k n r q q

pub waiting_whole : (i : Interface) (k : Terms) (n : ℕ) (r : Item) (d : DState) (hs : List AcceptedData) (v : Sides ℕ) (u : Sides Bool) → (is_below (packet_class r.packet) || is_permanent i n) ≡ true → is_flow (packet_class r.packet) ≡ true
    → ((y : Side) → IsOrdered i.modulus (circuit d hs v u) y) → silent (channel_step i n (channel_with k (circuit d hs v u)) r).reported ≡ true
    → (d ≡ transfer.TheVariants.D1 → ⊥) → Waiting i k n r (circuit d hs v u)
waiting_whole i k n r transfer.TheVariants.D1 hs v u p f o s otherwise = absurd (otherwise refl)
waiting_whole i k n r transfer.TheVariants.D2 hs v u p f o s otherwise = at r.side refl
  where
    q : Circuit
    q = circuit transfer.TheVariants.D2 hs v u

    at : (x : Side) → r.side ≡ x → Waiting i k n r (circuit transfer.TheVariants.D2 hs v u)
    at T e =
        error_loud i D2 r (action T D2 false (packet_class r.packet)) (packet_fault i n (channel_with k q) r) (channel_with k q) (flow_test (λ c. is_error (action T D2 false c)) refl (packet_class r.packet) f)
        (ap (λ (o : Outcome). silent o.reported) (sym (whole_is i k n r q (action T D2 false (packet_class r.packet)) p (ap (λ x. action x D2 false (packet_class r.packet)) e))) ∙ s)
    at N e =
        let still = ap (λ x. quiet (action x D2 false (packet_class r.packet))) e ∙ flow_test (λ c. quiet (action N D2 false c)) refl (packet_class r.packet) f in
        record { waits = e; still = still; takes = quiet_takes i k n r q p still o s }
waiting_whole i k n r transfer.TheVariants.D3 hs v u p f o s otherwise = at r.side refl
  where
    q : Circuit
    q = circuit transfer.TheVariants.D3 hs v u

    at : (x : Side) → r.side ≡ x → Waiting i k n r (circuit transfer.TheVariants.D3 hs v u)
    at N e =
        error_loud i D3 r (action N D3 false (packet_class r.packet)) (packet_fault i n (channel_with k q) r) (channel_with k q) (flow_test (λ c. is_error (action N D3 false c)) refl (packet_class r.packet) f)
        (ap (λ (o : Outcome). silent o.reported) (sym (whole_is i k n r q (action N D3 false (packet_class r.packet)) p (ap (λ x. action x D3 false (packet_class r.packet)) e))) ∙ s)
    at T e =
        let still = ap (λ x. quiet (action x D3 false (packet_class r.packet))) e ∙ flow_test (λ c. quiet (action T D3 false c)) refl (packet_class r.packet) f in
        record { waits = e; still = still; takes = quiet_takes i k n r q p still o s }

-- the other side sent no data since
pub none_of_other : (m : ℕ) (q : Circuit) (x : Side) (l : LastData) → Waits q.state x → LastIn q.state m q (other x) l → ⊥
none_of_other m q x l w h = at q.state x w h
  where
    at : (d : DState) (x : Side) → Waits d x → LastIn d m q (other x) l → ⊥
    at transfer.TheVariants.D1 x w h = w
    at transfer.TheVariants.D2 T w h = cc
    at transfer.TheVariants.D2 N w h = cc
    at transfer.TheVariants.D3 T w h = cc
    at transfer.TheVariants.D3 N w h = cc

own_fits : (m : ℕ) (q : Circuit) (x : Side) (o : Option LastData) → Waits q.state x → LastFits m q x o
own_fits m q x None w = tt
own_fits m q x (Some l) w = at q.state w
  where
    at : (d : DState) → Waits d x → LastIn d m q x l
    at transfer.TheVariants.D1 w = absurd w
    at transfer.TheVariants.D2 w = w
    at transfer.TheVariants.D3 w = w

pub waiting_seen : (m : ℕ) (q : Circuit) (x : Side) (h : Option DataHeader) (o : Option ℕ) (ls : Sides (Option LastData)) → Waits q.state x → ((y : Side) → LastFits m q y (of_side y ls)) → (y : Side) → LastFits m q y (of_side y (last_after m x h o ls))
waiting_seen m q x (Some h) o ls w seen =
    let l : Option LastData = Some (record { next = (h.send + 1) % m; receive = h.receive }) in
    by_side (λ y. LastFits m q y (of_side y (with_side x l ls))) x (subst (LastFits m q x) (sym (of_own x l ls)) (own_fits m q x l w)) (subst (LastFits m q (other x)) (sym (of_other x l ls)) (seen (other x)))
waiting_seen m q x None (Some n) ls w seen =
    let l : Option LastData = with_receive n (of_side x ls) in
    by_side (λ y. LastFits m q y (of_side y (with_side x l ls))) x (subst (LastFits m q x) (sym (of_own x l ls)) (own_fits m q x l w)) (subst (LastFits m q (other x)) (sym (of_other x l ls)) (seen (other x)))
waiting_seen m q x None None ls w seen = seen

pub data_silent : (i : Interface) (r : Item) (h : Option DataHeader) → silent (data_reported i r h) ≡ true
data_silent i r None = refl
data_silent i r (Some h) = refl

-- a circuit adrift
pub waiting_adrift : (i : Interface) (n : ℕ) (r : Item) (q : Circuit) → is_permanent i n ≡ true → adrift_entry (is_permanent i n) (packet_class r.packet) ≡ Carries → Waits q.state r.side
    → (d : DState) (b : Bool) (ls : Sides (Option LastData)) → ((y : Side) → LastFits i.modulus q y (of_side y ls)) → IsResting d ls
    → DriftsBy i q (gap_channel_step i n (adrift_at d b ls) r)
waiting_adrift i n r q p carries w d b ls seen rest =
    adrift_flow (DriftsBy i q) i n r d b ls p carries (λ f e. same) (λ e. same)
    (λ e. received (receive_of r))
  where
    same : DriftsBy i q (passing (adrift_at d b ls))
    same = (refl, fits_adrift i q d b ls seen rest)

    drifts : (o : Option ℕ) → DriftsBy i q (adrift_received i r (last_seen ls) (adrift_at d b ls) o None)
    drifts None = (data_silent i r (header_in r.packet), fits_adrift i q transfer.TheVariants.D1 b (last_after i.modulus r.side (header_in r.packet) (receive_of r) ls) (waiting_seen i.modulus q r.side (header_in r.packet) (receive_of r) ls w seen) tt)
    drifts (Some n) = (data_silent i r (header_in r.packet), fits_adrift i q transfer.TheVariants.D1 b (last_after i.modulus r.side (header_in r.packet) (receive_of r) ls) (waiting_seen i.modulus q r.side (header_in r.packet) (receive_of r) ls w seen) tt)

    received : (o : Option ℕ) → DriftsBy i q (adrift_received i r (last_seen ls) (adrift_at d b ls) o (option_and_then (acknowledged_data (last_seen ls) r.side) o))
    received None = drifts None
    received (Some n) =
        by_last (λ l. DriftsBy i q (adrift_received i r (last_seen ls) (adrift_at d b ls) (Some n) l)) n (of_side (other r.side) ls) (drifts (Some n))
        (λ l is same. absurd (none_of_other i.modulus q r.side l w (subst (LastFits i.modulus q (other r.side)) is (seen (other r.side)))))
