-- Resets and their confirmations on a permanent circuit.
use Rattle.std.proofs.Common.{◌≡◌, ◌⊎◌, inl, inr, ◌<◌, ◌+◌, ℕ, Bool, true, false, refl, sym, ◌∙◌, ap, subst, List, [], Option, Some, None, arith}
use Rattle.std.specs.Prelude.{not, ◌||◌, is_some}
use Rattle.std.proofs.lemmas.Bool.{false≢true}
use Rattle.line_model.specs.declared.gap.AdriftEntry.{AdriftEntry}
use Rattle.line_model.specs.declared.gap.AdriftEntry.TheVariants.{ConfirmsReset, Resets}
use Rattle.line_model.specs.declared.gap.LastData.{LastData}
use Rattle.line_model.specs.declared.gap.Owed.TheVariants.{NoIndication}
use Rattle.line_model.specs.declared.interface.Interface.{Interface}
use Rattle.line_model.specs.declared.packet.Class.{Class}
use Rattle.line_model.specs.declared.packet.PacketKind as kind
use Rattle.line_model.specs.declared.state.Side.{Side}
use Rattle.line_model.specs.declared.state.Side.TheVariants.{T, N}
use Rattle.line_model.specs.declared.state.DState.{DState}
use Rattle.line_model.specs.declared.state.DState as transfer
use Rattle.line_model.specs.declared.state.StateName.{StateName}
use Rattle.line_model.specs.declared.state.StateName.TheVariants.{D1, D2, D3}
use Rattle.line_model.specs.declared.table.Action.{Action}
use Rattle.line_model.specs.declared.table.Action.TheVariants.{Move, Error, Discard, Ends}
use Rattle.line_model.specs.basics.Records.{Item}
use Rattle.line_model.specs.packets.Classes.{packet_class}
use Rattle.line_model.specs.packets.Formats.{packet_fault}
use Rattle.line_model.specs.channels.Channels.{AcceptedData, Sides, is_permanent, of_side}
use Rattle.line_model.specs.channels.ChannelStep.{Outcome, call_change, changing, channel_step, entering, report_nothing, transfer_name, verdict, verdict_step}
use Rattle.line_model.specs.channels.Verdicts.{CallChange}
use Rattle.line_model.specs.channels.Verdicts.CallChange.{Keeps}
use Rattle.line_model.specs.channels.Gaps.{Doubts, of_both}
use Rattle.line_model.specs.channels.GapStep.{GapOutcome, adrift_entry, adrift_fault, adrift_reset, adrift_step_by, gap_channel_step, passing, settled_outcome, settled_verdict}
use Rattle.line_model.specs.channels.Tables.{action}
use Rattle.line_model.proofs.Every.{classes, every, every_class, every_side, sides}
use Rattle.gap_laws.proofs.Circuits.{some_none, Circuit, IsOrdered, Terms, channel_of, channel_with, circuit, failing_loud, idle, no_terms, silent}
use Rattle.gap_laws.proofs.Settled.{in_doubt}
use Rattle.gap_laws.proofs.Fits.{IsResting, LastFits, Takes, adrift_at, settled_at, settled_with}
use Rattle.gap_laws.proofs.Fits.Fits.{FitsAll}
use Rattle.gap_laws.proofs.Entries.{is_below, is_moving, judged_at, last_seen, lawful_is, on_both, row_at, settled_is, whole_is}
use Rattle.gap_laws.proofs.DataSteps.{DriftsBy, FollowsBy, adrift_fits, drifted, fits_adrift, none_seen}

-- what a reset or its confirmation is in each state
abbrev pub is_reset_entry : Action → Bool
is_reset_entry (Move D1) = true
is_reset_entry (Move D2) = true
is_reset_entry (Move D3) = true
is_reset_entry (Error n) = true
is_reset_entry Discard = true
is_reset_entry Ends = true
is_reset_entry a = false

-- an entry that does nothing
abbrev pub is_still : Action → Bool
is_still Discard = true
is_still Ends = true
is_still a = false

-- a test that holds of resets and their confirmations from both sides
moving_test : (t : Side → Class → Bool) → every (λ x. every (λ k. not (is_moving k) || t x k) classes) sides ≡ true → (x : Side) (k : Class) → is_moving k ≡ true → t x k ≡ true
moving_test t h x k m = at (is_moving k) m (every_class (λ k. not (is_moving k) || t x k) (every_side (λ x. every (λ k. not (is_moving k) || t x k) classes) h x) k)
  where
    at : (m : Bool) → m ≡ true → (not m || t x k) ≡ true → t x k ≡ true
    at true e h = h
    at false e h = absurd (false≢true e)

reset_entry : (x : Side) (k : Class) → is_moving k ≡ true → (d : DState) → is_reset_entry (action x (transfer_name d) false k) ≡ true
reset_entry x k m transfer.TheVariants.D1 = moving_test (λ x k. is_reset_entry (action x D1 false k)) refl x k m
reset_entry x k m transfer.TheVariants.D2 = moving_test (λ x k. is_reset_entry (action x D2 false k)) refl x k m
reset_entry x k m transfer.TheVariants.D3 = moving_test (λ x k. is_reset_entry (action x D3 false k)) refl x k m

-- in d1 it is not ignored, and does not stay there
abbrev leaves_d1 : Action → Bool
leaves_d1 Discard = false
leaves_d1 Ends = false
leaves_d1 (Move D1) = false
leaves_d1 a = true

left : (x : Side) (k : Class) → is_moving k ≡ true → leaves_d1 (action x D1 false k) ≡ true
left x k m = moving_test (λ x k. leaves_d1 (action x D1 false k)) refl x k m

still_stays : (a : Action) → is_still a ≡ true → leaves_d1 a ≡ false
still_stays Discard e = refl
still_stays Ends e = refl
still_stays a e = absurd (false≢true e)

abbrev is_keeping : CallChange → Bool
is_keeping Keeps = true
is_keeping c = false

keeping : (c : CallChange) → is_keeping c ≡ true → c ≡ Keeps
keeping Keeps e = refl
keeping c e = absurd (false≢true e)

keeps_call : (x : Side) (k : Class) → is_moving k ≡ true → (d : DState) → call_change x k (transfer_name d) ≡ Keeps
keeps_call x k m transfer.TheVariants.D1 = keeping (call_change x k D1) (moving_test (λ x k. is_keeping (call_change x k D1)) refl x k m)
keeps_call x k m transfer.TheVariants.D2 = keeping (call_change x k D2) (moving_test (λ x k. is_keeping (call_change x k D2)) refl x k m)
keeps_call x k m transfer.TheVariants.D3 = keeping (call_change x k D3) (moving_test (λ x k. is_keeping (call_change x k D3)) refl x k m)

-- a row that resets, or confirms it
pub record IsReset (i : Interface) (n : ℕ) (r : Item) : Type 0 where
  pub moving : is_moving (packet_class r.packet) ≡ true
  pub fault : Option ℕ
  pub below : is_below (packet_class r.packet) ≡ true
  pub same_fault : (t : Terms) (q : Circuit) → packet_fault i n (channel_with t q) r ≡ fault
  pub same_adrift : (q : Circuit) → adrift_fault i n (channel_of q) r ≡ fault
  pub opens : (d : DState) (b : Bool) (ls : Sides (Option LastData)) → is_permanent i n ≡ true
      → (e : DState) × (adrift_step_by (adrift_entry (is_permanent i n) (packet_class r.packet)) i n r (last_seen ls) (adrift_at d b ls) ≡ record { reported = []; after = adrift_at e b (of_both None) })

-- a reset of a circuit adrift
reset_is : (i : Interface) (n : ℕ) (s : StateName) (e : DState) (d : DState) (b : Bool) (ls : Sides (Option LastData)) → is_permanent i n ≡ true → transfer_name e ≡ s
    → adrift_reset i n NoIndication (last_seen ls) s (adrift_at d b ls) ≡ record { reported = []; after = adrift_at e b (of_both None) }
reset_is i n s e d b ls p same =
    subst (λ s. adrift_reset i n NoIndication (last_seen ls) s (adrift_at d b ls) ≡ record { reported = []; after = adrift_at e b (of_both None) }) same (at e)
  where
    at : (e : DState) → adrift_reset i n NoIndication (last_seen ls) (transfer_name e) (adrift_at d b ls) ≡ record { reported = []; after = adrift_at e b (of_both None) }
    at transfer.TheVariants.D1 = ap (λ p. elim (p || false) as (λ _. GapOutcome) [ true ↦ record { reported = []; after = adrift_at transfer.TheVariants.D1 b (of_both None) } | false ↦ record { reported = []; after = adrift_at d b ls } ]) p
    at transfer.TheVariants.D2 = ap (λ p. elim (p || false) as (λ _. GapOutcome) [ true ↦ record { reported = []; after = adrift_at transfer.TheVariants.D2 b (of_both None) } | false ↦ record { reported = []; after = adrift_at d b ls } ]) p
    at transfer.TheVariants.D3 = ap (λ p. elim (p || false) as (λ _. GapOutcome) [ true ↦ record { reported = []; after = adrift_at transfer.TheVariants.D3 b (of_both None) } | false ↦ record { reported = []; after = adrift_at d b ls } ]) p

pub reset_resets : (i : Interface) (n nr : ℕ) (x : Side) (c len : ℕ) (os : List ℕ) → IsReset i n (row_at nr x c kind.TheVariants.Reset len os)
reset_resets i n nr x c len os = record {
  moving = refl;
  fault = packet_fault i n (channel_of (idle transfer.TheVariants.D1)) (row_at nr x c kind.TheVariants.Reset len os);
  below = refl;
  same_fault = λ t q. refl;
  same_adrift = λ q. refl;
  opens = λ d b ls p. opens x d b ls p;
}
  where
    opens : (x : Side) (d : DState) (b : Bool) (ls : Sides (Option LastData)) → is_permanent i n ≡ true
        → (e : DState) × (adrift_step_by Resets i n (row_at nr x c kind.TheVariants.Reset len os) (last_seen ls) (adrift_at d b ls) ≡ record { reported = []; after = adrift_at e b (of_both None) })
    opens T d b ls p = (transfer.TheVariants.D2, reset_is i n D2 transfer.TheVariants.D2 d b ls p refl)
    opens N d b ls p = (transfer.TheVariants.D3, reset_is i n D3 transfer.TheVariants.D3 d b ls p refl)

pub confirmation_resets : (i : Interface) (n nr : ℕ) (x : Side) (c len : ℕ) (os : List ℕ) → IsReset i n (row_at nr x c kind.TheVariants.ResetConfirm len os)
confirmation_resets i n nr x c len os = record {
  moving = refl;
  fault = packet_fault i n (channel_of (idle transfer.TheVariants.D1)) (row_at nr x c kind.TheVariants.ResetConfirm len os);
  below = refl;
  same_fault = λ t q. refl;
  same_adrift = λ q. refl;
  opens = λ d b ls p. opens x d b ls p;
}
  where
    opens : (x : Side) (d : DState) (b : Bool) (ls : Sides (Option LastData)) → is_permanent i n ≡ true
        → (e : DState) × (adrift_step_by ConfirmsReset i n (row_at nr x c kind.TheVariants.ResetConfirm len os) (last_seen ls) (adrift_at d b ls) ≡ record { reported = []; after = adrift_at e b (of_both None) })
    opens T d b ls p = (transfer.TheVariants.D1, reset_is i n D1 transfer.TheVariants.D1 d b ls p refl)
    opens N d b ls p = (transfer.TheVariants.D1, reset_is i n D1 transfer.TheVariants.D1 d b ls p refl)

-- what it comes to in the whole walk: nothing, or another state
pub data Turned (i : Interface) (t : Terms) (r : Item) (q : Circuit) (a : Action) (f : Option ℕ) : Type 0 where
  Still : is_still a ≡ true → verdict_step i (transfer_name q.state) r (verdict (judged_at (transfer_name q.state) a) f) (channel_with t q) ≡ report_nothing (channel_with t q) → Turned i t r q a f
  Enters : (d : DState) → a ≡ Move (transfer_name d) → f ≡ None → Turned i t r q a f

turned_by : (i : Interface) (t : Terms) (r : Item) (q : Circuit) (a : Action) (f : Option ℕ) → is_reset_entry a ≡ true → silent (verdict_step i (transfer_name q.state) r (verdict (judged_at (transfer_name q.state) a) f) (channel_with t q)).reported ≡ true → Turned i t r q a f
turned_by i t r q (Move D1) None e s = Enters transfer.TheVariants.D1 refl refl
turned_by i t r q (Move D2) None e s = Enters transfer.TheVariants.D2 refl refl
turned_by i t r q (Move D3) None e s = Enters transfer.TheVariants.D3 refl refl
turned_by i t r q (Move m) (Some n) e s = failing_loud r.side (transfer_name q.state) n (channel_with t q) s
turned_by i t r q (Error n) f e s = failing_loud r.side (transfer_name q.state) n (channel_with t q) s
turned_by i t r q Discard f e s = Still refl refl
turned_by i t r q Ends f e s = Still refl refl
turned_by i t r q a f e s = cc

-- a state that is entered
pub enters_is : (i : Interface) (t : Terms) (n : ℕ) (r : Item) (k : IsReset i n r) (s : StateName) (d : DState) (q : Circuit)
    → verdict_step i s r (verdict (judged_at s (Move (transfer_name d))) None) (channel_with t q) ≡ report_nothing (channel_with t (idle d))
enters_is i t n r k s d q = ap (λ c. changing r.octets c (entering (transfer_name d) false (channel_with t q))) (keeps_call r.side (packet_class r.packet) k.moving d) ∙ at d
  where
    at : (d : DState) → report_nothing (entering (transfer_name d) false (channel_with t q)) ≡ report_nothing (channel_with t (idle d))
    at transfer.TheVariants.D1 = refl
    at transfer.TheVariants.D2 = refl
    at transfer.TheVariants.D3 = refl

above : (m : ℕ) → (m ≡ 8) ⊎ (m ≡ 128) → 0 < 0 + m
above m e = grind (arith, e)

pub idle_ordered : (i : Interface) (d : DState) (y : Side) → IsOrdered i.modulus (idle d) y
idle_ordered i d T = record { ordered = omega arith; within = above i.modulus (lawful_is i).eight }
idle_ordered i d N = record { ordered = omega arith; within = above i.modulus (lawful_is i).eight }

-- the whole walk takes it
pub record ResetStep (i : Interface) (t : Terms) (n : ℕ) (r : Item) (q : Circuit) : Type 0 where
  pub whole : Circuit
  pub takes : Takes i t n r q whole
  pub turned : ((whole ≡ q) × (is_still (action r.side (transfer_name q.state) false (packet_class r.packet)) ≡ true))
      ⊎ ((d : DState) × (whole ≡ idle d) × (action r.side (transfer_name q.state) false (packet_class r.packet) ≡ Move (transfer_name d)) × (packet_fault i n (channel_with t q) r ≡ None))

pub reset_whole : (i : Interface) (t : Terms) (n : ℕ) (r : Item) → IsReset i n r → (q : Circuit) → ((y : Side) → IsOrdered i.modulus q y)
    → silent (channel_step i n (channel_with t q) r).reported ≡ true → ResetStep i t n r q
reset_whole i t n r k q o s = at (turned_by i t r q a f (reset_entry r.side (packet_class r.packet) k.moving q.state) (ap (λ (o : Outcome). silent o.reported) (sym e) ∙ s))
  where
    a : Action
    a = action r.side (transfer_name q.state) false (packet_class r.packet)

    f : Option ℕ
    f = packet_fault i n (channel_with t q) r

    e : channel_step i n (channel_with t q) r ≡ verdict_step i (transfer_name q.state) r (verdict (judged_at (transfer_name q.state) a) f) (channel_with t q)
    e = whole_is i t n r q a (on_both (packet_class r.packet) (is_permanent i n) k.below) refl

    at : Turned i t r q a f → ResetStep i t n r q
    at (Still still same) = record { whole = q; takes = record { after = ap (λ (o : Outcome). o.after) (e ∙ same); ordered = o }; turned = inl (refl, still) }
    at (Enters d m none) = record {
      whole = idle d;
      takes = record {
        after = ap (λ (o : Outcome). o.after) (e ∙ (λ j. verdict_step i (transfer_name q.state) r (verdict (judged_at (transfer_name q.state) (m j)) (none j)) (channel_with t q)) ∙ enters_is i t n r k (transfer_name q.state) d q);
        ordered = idle_ordered i d;
      };
      turned = inr (d, refl, m, none);
    }

-- nothing is known of a circuit adrift after it
pub reset_opens : (i : Interface) (n : ℕ) (r : Item) → IsReset i n r → (q : Circuit) → is_permanent i n ≡ true → (d : DState) (b : Bool) (ls : Sides (Option LastData))
    → DriftsBy i q (adrift_step_by (adrift_entry (is_permanent i n) (packet_class r.packet)) i n r (last_seen ls) (adrift_at d b ls))
reset_opens i n r k q p d b ls =
    let w = k.opens d b ls p in
    subst (DriftsBy i q) (sym w.1) (refl, fits_adrift i q w.0 b (of_both None) (none_seen i.modulus q (of_both None) refl) (resting w.0))
  where
    resting : (d : DState) → IsResting d (of_both None)
    resting transfer.TheVariants.D1 = tt
    resting transfer.TheVariants.D2 = refl
    resting transfer.TheVariants.D3 = refl

-- a circuit adrift
pub reset_adrift : (i : Interface) (n : ℕ) (r : Item) (k : IsReset i n r) (q : Circuit) → is_permanent i n ≡ true → (s : ResetStep i no_terms n r q)
    → (d : DState) (b : Bool) (ls : Sides (Option LastData)) → ((y : Side) → LastFits i.modulus q y (of_side y ls)) → IsResting d ls
    → FollowsBy i s.whole (gap_channel_step i n (adrift_at d b ls) r)
reset_adrift i n r k q p s d b ls seen rest = at (adrift_fault i n (channel_of (idle d)) r) refl
  where
    entry : AdriftEntry
    entry = adrift_entry (is_permanent i n) (packet_class r.packet)

    opened : FollowsBy i s.whole (adrift_step_by entry i n r (last_seen ls) (adrift_at d b ls))
    opened = drifted i s.whole (adrift_step_by entry i n r (last_seen ls) (adrift_at d b ls)) (reset_opens i n r k s.whole p d b ls)

    at : (f : Option ℕ) → adrift_fault i n (channel_of (idle d)) r ≡ f → FollowsBy i s.whole (elim (is_some f) as (λ _. GapOutcome) [ true ↦ passing (adrift_at d b ls) | false ↦ adrift_step_by entry i n r (last_seen ls) (adrift_at d b ls) ])
    at None e = opened
    at (Some f) e = elim s.turned [
      | inl w ↦ subst (λ w. FollowsBy i w (passing (adrift_at d b ls))) (sym w.0) (refl, adrift_fits i q d b ls seen rest)
      | inr w ↦ some_none (sym e ∙ k.same_adrift (idle d) ∙ sym (k.same_fault no_terms q) ∙ w.3)
    ]

-- a settled channel takes it, in the same state
pub record ResetSettled (i : Interface) (t : Terms) (n : ℕ) (r : Item) (b : Bool) (d : Doubts) (q w g : Circuit) : Type 0 where
  pub settled : Circuit
  pub is : gap_channel_step i n (settled_with t b d g) r ≡ settled_outcome (settled_with t b d g) (record { outcome = report_nothing (channel_with t settled); doubts = d })
  pub turned : ((settled ≡ g) × (w ≡ q)) ⊎ ((e : DState) × (settled ≡ idle e) × (w ≡ idle e))

pub reset_settles : (i : Interface) (k t : Terms) (n : ℕ) (r : Item) → IsReset i n r → (q : Circuit) → (s : ResetStep i k n r q) → (b : Bool) (d : Doubts) (g : Circuit) → g.state ≡ q.state
    → ResetSettled i t n r b d q s.whole g
reset_settles i k t n r p q s b d g e = at s.turned
  where
    step : (a : Action) → action r.side (transfer_name g.state) false (packet_class r.packet) ≡ a → (f : Option ℕ) → packet_fault i n (channel_with t g) r ≡ f
        → gap_channel_step i n (settled_with t b d g) r ≡ settled_outcome (settled_with t b d g) (settled_verdict i (transfer_name g.state) r (verdict (judged_at (transfer_name g.state) a) f) d (channel_with t g))
    step a h f u =
        settled_is i t n r b d g a (on_both (packet_class r.packet) (is_permanent i n) p.below) h
        ∙ ap (λ f. settled_outcome (settled_with t b d g) (settled_verdict i (transfer_name g.state) r (verdict (judged_at (transfer_name g.state) a) f) d (channel_with t g))) u

    still : (a : Action) → is_still a ≡ true → action r.side (transfer_name g.state) false (packet_class r.packet) ≡ a → gap_channel_step i n (settled_with t b d g) r ≡ settled_outcome (settled_with t b d g) (record { outcome = report_nothing (channel_with t g); doubts = d })
    still Discard u h = step Discard h (packet_fault i n (channel_with t g) r) refl
    still Ends u h = step Ends h (packet_fault i n (channel_with t g) r) refl
    still a u h = absurd (false≢true u)

    same_entry : action r.side (transfer_name g.state) false (packet_class r.packet) ≡ action r.side (transfer_name q.state) false (packet_class r.packet)
    same_entry = ap (λ d. action r.side (transfer_name d) false (packet_class r.packet)) e

    at : ((s.whole ≡ q) × (is_still (action r.side (transfer_name q.state) false (packet_class r.packet)) ≡ true))
        ⊎ ((d : DState) × (s.whole ≡ idle d) × (action r.side (transfer_name q.state) false (packet_class r.packet) ≡ Move (transfer_name d)) × (packet_fault i n (channel_with k q) r ≡ None))
        → ResetSettled i t n r b d q s.whole g
    at (inl w) = record { settled = g; is = still (action r.side (transfer_name g.state) false (packet_class r.packet)) (ap is_still same_entry ∙ w.1) refl; turned = inl (refl, w.0) }
    at (inr (c, whole, moves, none)) = record {
      settled = idle c;
      is = step (Move (transfer_name c)) (same_entry ∙ moves) None (p.same_fault t g ∙ sym (p.same_fault k q) ∙ none)
          ∙ ap (λ o. settled_outcome (settled_with t b d g) (record { outcome = o; doubts = d })) (enters_is i t n r p (transfer_name g.state) c g);
      turned = inr (c, refl, whole);
    }

-- a settled circuit
pub reset_on_settled : (i : Interface) (n : ℕ) (r : Item) (k : IsReset i n r) (hs : List AcceptedData) (v : Sides ℕ) (u : Sides Bool) → (s : ResetStep i no_terms n r (circuit transfer.TheVariants.D1 hs v u))
    → (b : Bool) (ns is ss : Sides Bool) (gs : List AcceptedData) (a : Sides ℕ) (f : Sides Bool)
    → FollowsBy i s.whole (gap_channel_step i n (settled_at b ns is ss (circuit transfer.TheVariants.D1 gs a f)) r)
reset_on_settled i n r k hs v u s b ns is ss gs a f = at s.turned
  where
    q : Circuit
    q = circuit transfer.TheVariants.D1 hs v u

    g : Circuit
    g = circuit transfer.TheVariants.D1 gs a f

    enters : (d : DState) → (d ≡ transfer.TheVariants.D1 → ⊥) → FollowsBy i (idle d) (settled_outcome (settled_at b ns is ss g) (record { outcome = report_nothing (channel_of (idle d)); doubts = in_doubt ns is ss }))
    enters transfer.TheVariants.D1 otherwise = absurd (otherwise refl)
    enters transfer.TheVariants.D2 otherwise = (refl, FitsAll b refl)
    enters transfer.TheVariants.D3 otherwise = (refl, FitsAll b refl)

    at : ((s.whole ≡ q) × (is_still (action r.side D1 false (packet_class r.packet)) ≡ true))
        ⊎ ((d : DState) × (s.whole ≡ idle d) × (action r.side D1 false (packet_class r.packet) ≡ Move (transfer_name d)) × (packet_fault i n (channel_of q) r ≡ None))
        → FollowsBy i s.whole (gap_channel_step i n (settled_at b ns is ss g) r)
    at (inl w) = absurd (false≢true (sym (still_stays (action r.side D1 false (packet_class r.packet)) w.1) ∙ left r.side (packet_class r.packet) k.moving))
    at (inr (d, whole, moves, none)) =
        let same : gap_channel_step i n (settled_at b ns is ss g) r ≡ settled_outcome (settled_at b ns is ss g) (record { outcome = report_nothing (channel_of (idle d)); doubts = in_doubt ns is ss }) =
        settled_is i no_terms n r b (in_doubt ns is ss) g (Move (transfer_name d)) (on_both (packet_class r.packet) (is_permanent i n) k.below) moves
        ∙ ap (λ e. settled_outcome (settled_at b ns is ss g) (settled_verdict i D1 r (verdict (judged_at D1 (Move (transfer_name d))) e) (in_doubt ns is ss) (channel_of g))) (k.same_fault no_terms g ∙ sym (k.same_fault no_terms q) ∙ none)
        ∙ ap (λ o. settled_outcome (settled_at b ns is ss g) (record { outcome = o; doubts = in_doubt ns is ss })) (enters_is i no_terms n r k D1 d g) in
        subst (λ w. FollowsBy i w (gap_channel_step i n (settled_at b ns is ss g) r)) (sym whole) (subst (FollowsBy i (idle d)) (sym same) (enters d (λ e. false≢true (sym (ap leaves_d1 (moves ∙ ap (λ d. Move (transfer_name d)) e)) ∙ left r.side (packet_class r.packet) k.moving))))
