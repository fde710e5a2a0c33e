-- What a step of a channel of a recording with gaps does to the call of the channel.
use Rattle.std.proofs.Common.{◌≡◌, ◌∷◌, [], ◌++◌, ℕ, ◌≤◌, inl, inr, Bool, true, false, not, ◌&&◌, ◌||◌, Option, Some, None, Result, Ok, Err, List, refl, sym, ◌∙◌, ap, subst, arith}
use Rattle.std.specs.Prelude.{is_some, option_and_then}
use Rattle.std.proofs.lemmas.Bool.{and_parts, false≢true}
use Rattle.std.proofs.lemmas.List.{append-nil}
use Rattle.line_model.specs.declared.diagnostic.TheConstants.{INCONSISTENT_Q_BIT_SETTING}
use Rattle.line_model.specs.declared.interface.Interface.{Interface}
use Rattle.line_model.specs.declared.packet.Class.{Class}
use Rattle.line_model.specs.declared.packet.Class.TheVariants.{Call, Accepted, Clear, ClearConfirm, Data, Interrupt, InterruptConfirm}
use Rattle.line_model.specs.declared.packet.DataHeader.{DataHeader}
use Rattle.line_model.specs.declared.state.Side.{Side}
use Rattle.line_model.specs.declared.state.Side.TheVariants.{T, N}
use Rattle.line_model.specs.declared.state.ChannelState.{ChannelState}
use Rattle.line_model.specs.declared.state.ChannelState.TheVariants.{Setup, Transfer, Unknown}
use Rattle.line_model.specs.declared.state.StateName.{StateName}
use Rattle.line_model.specs.declared.state.StateName.TheVariants.{P1, P2, P3, P4, D1}
use Rattle.line_model.specs.declared.event.How.{How}
use Rattle.line_model.specs.declared.event.How.TheVariants.{Gap}
use Rattle.line_model.specs.declared.event.What.{What}
use Rattle.line_model.specs.declared.gap.LastData.{LastData}
use Rattle.line_model.specs.declared.gap.Owed.{Owed}
use Rattle.line_model.specs.declared.gap.AdriftEntry.{AdriftEntry}
use Rattle.line_model.specs.declared.gap.AdriftEntry.TheVariants.{OpensCall, Accepts, Clears, ConfirmsClear, Resets, ConfirmsReset, Carries, DoesNothing}
use Rattle.line_model.specs.basics.Records.{Item}
use Rattle.line_model.specs.packets.Classes.{packet_class}
use Rattle.line_model.specs.packets.Says.{header_in, receive_in}
use Rattle.line_model.specs.packets.Formats.{packet_fault, size_in_force}
use Rattle.line_model.specs.channels.Channels.{AcceptedData, Channel, Opening, is_in_transfer, is_open, is_permanent, is_transfer, of_side, other}
use Rattle.line_model.specs.channels.FlowControl.{Counts, count_data, count_receive, is_side}
use Rattle.line_model.specs.channels.Pad.{form_fault, is_indication, is_set}
use Rattle.line_model.specs.channels.Verdicts.{Verdict}
use Rattle.line_model.specs.channels.Verdicts.Verdict.{Fails, Moves, Transfers, EndsOwed, Nothing}
use Rattle.line_model.specs.channels.ChannelStep.{Outcome, counts_of, ending, entering, accepted_of, report_nothing, state_named, verdict}
use Rattle.line_model.specs.channels.Gaps.{Certainty, Doubts, GapChannel, WhileAdrift, drifting, gap_step, idle_name, is_hidden_by_gap, largest_terms, with_largest_terms}
use Rattle.line_model.specs.channels.Gaps.Certainty.{Adrift, Certain, Settled}
use Rattle.line_model.specs.channels.GapStep.{GapOutcome, accepting_in_doubt, acknowledged_data, adrift_acceptance, adrift_carried, adrift_entry, adrift_fault, adrift_received, adrift_reset, adrift_step, adrift_step_by, adrift_transfer, brought_up, calling_state, certainty_with, cleared_by, coming_up, completed_for_data, completed_for_receive, completed_to, counted_in_doubt, counting_in_doubt, data_in_doubt, data_reported, doubts_in, failing_in_doubt, hidden_when_up, is_in_d1, is_in_use, is_mixed, is_own_acceptance, is_resetting, may_be_begun, message_in_doubt, of_call, owed_after, packet_step, passing, receive_in_doubt, receive_of, resetting_state, settings_by_form, settings_in_doubt, settled_verdict, terms_of_acceptance, transferring_in_doubt, window_in_doubt, with_certainty, with_interrupt}
use Rattle.line_model.specs.observer.Peak.{how_many}
use Rattle.line_model.proofs.CallSteps.{Risen, Transferred, marks, marks_append, settings_unmarked}
use Rattle.line_model.proofs.GapWeights.{either}
use Rattle.line_model.proofs.Marks.{up_is}
use Rattle.line_model.proofs.MovesCalls.{occurs_up}
use Rattle.line_model.proofs.Phases.{Phase, Closed, Opened, IsUp, phase_of, suits}
use Rattle.line_model.proofs.RowOpenings.{is_opened, IsOnce, ending_once, opening_once, step_once, verdict_once}
use Rattle.line_model.proofs.Effects.{stays, Effects, calm_effects, ending_state, ending_effects, is_held, IsSound, judged_in, judged_effects, opening_effects, rising_effects, step_effects, verdict_with}

-- ---- channels adrift are in known states

abbrev pub is_known : ChannelState → Bool
is_known Unknown = false
is_known s = true

abbrev pub suits_certainty : Certainty → ChannelState → Bool
suits_certainty (Adrift a) s = is_known s
suits_certainty t s = true

-- a step that has an effect, and leaves a state that suits what is certain
pub record GapEffects (p : Bool) (g : GapChannel) (o : GapOutcome) : Type 0 where
  pub effects : Effects p g.channel (record { reported = o.reported; after = o.after.channel })
  pub suited : suits_certainty o.after.certainty o.after.channel.state ≡ true

-- the first of two where a test is true has an effect where both do
either_effects : (p : Bool) (g : GapChannel) (o q : GapOutcome) (b : Bool) → (b ≡ true → GapEffects p g o) → (b ≡ false → GapEffects p g q) → GapEffects p g (either b o q)
either_effects p g o q true h k = h refl
either_effects p g o q false h k = k refl

transfer_known : (s : ChannelState) → is_transfer s ≡ true → is_known s ≡ true
transfer_known (Setup q) h = refl
transfer_known (Transfer d) h = refl
transfer_known Unknown h = h

transfer_suits : (p : Bool) (s : ChannelState) → is_transfer s ≡ true → suits p s ≡ true
transfer_suits p (Setup q) h = absurd (false≢true h)
transfer_suits p (Transfer d) h = refl
transfer_suits p Unknown h = absurd (false≢true h)

transfer_phase : (p : Bool) (s t : ChannelState) → is_transfer s ≡ true → is_transfer t ≡ true → phase_of p s ≡ phase_of p t
transfer_phase true (Transfer d) (Transfer e) h k = refl
transfer_phase false (Transfer d) (Transfer e) h k = refl
transfer_phase p (Setup q) t h k = absurd (false≢true h)
transfer_phase p Unknown t h k = absurd (false≢true h)
transfer_phase p (Transfer d) (Setup q) h k = absurd (false≢true k)
transfer_phase p (Transfer d) Unknown h k = absurd (false≢true k)

-- a call that is open on a virtual channel and not up waits to come up
waits : (c : Channel) → IsSound false c → is_open c ≡ true → is_in_transfer c ≡ false → phase_of false c.state ≡ Opened
waits c s o t = at (phase_of false c.state) (sym s.held ∙ o) (sym (up_is false c.state) ∙ t)
  where
    at : (f : Phase) → is_held f ≡ true → occurs_up f ≡ false → f ≡ Opened
    at Closed h u = absurd (false≢true h)
    at Opened h u = refl
    at IsUp h u = absurd (false≢true (sym u))

-- ---- a channel adrift

passing_effects : (p : Bool) (g : GapChannel) → IsSound p g.channel → suits_certainty g.certainty g.channel.state ≡ true → GapEffects p g (passing g)
passing_effects p g s h = record { effects = calm_effects p g.channel (report_nothing g.channel) s refl refl refl; suited = h }

-- a packet that brings a call up, and the channel after it is in data transfer
record Brought (p : Bool) (c : Channel) (o : Outcome) : Type 0 where
  effects : Effects p c o
  in_transfer : is_transfer o.after.state ≡ true

brought : (p : Bool) (i : Interface) (c : Channel) → IsSound p c → is_known c.state ≡ true → (p || is_open c) ≡ true → Brought p c (brought_up i c)
brought p i c s known used = at (is_in_transfer c) refl
  where
    up : (q : Bool) → p ≡ q → is_in_transfer c ≡ false → Brought p c (coming_up (largest_terms i) c)
    up true e t = absurd (never c.state (subst (λ b. suits b c.state ≡ true) e s.suits) known t)
      where
        never : (s : ChannelState) → suits true s ≡ true → is_known s ≡ true → is_transfer s ≡ false → ⊥
        never (Setup q) h k t = false≢true h
        never (Transfer d) h k t = false≢true (sym t)
        never Unknown h k t = false≢true k
    up false e t =
        let sound : IsSound false c = subst (λ b. IsSound b c) e s in
        let held : is_open c ≡ true = subst (λ b. (b || is_open c) ≡ true) e used in
        subst (λ b. Brought b c (coming_up (largest_terms i) c)) (sym e)
        (record { effects = rising_effects false c (record (entering P4 false c) { accepting = Some (largest_terms i) }) sound refl refl (waits c sound held t) refl; in_transfer = refl })

    at : (b : Bool) → is_in_transfer c ≡ b → Brought p c (either b (report_nothing c) (coming_up (largest_terms i) c))
    at true t = record { effects = calm_effects p c (report_nothing c) s refl refl refl; in_transfer = t }
    at false t = up p refl t

-- more events, which are not of calls, and another channel in data transfer
brought_more : (p : Bool) (c d : Channel) (o : Outcome) (ws : List What) → Brought p c o → d.opening ≡ o.after.opening → is_transfer d.state ≡ true → marks ws ≡ []
    → Effects p c (record { reported = o.reported ++ ws; after = d })
brought_more p c d o ws h same t none = record {
  affected = record {
    effect = h.effects.affected.effect;
    before = h.effects.affected.before;
    behind = phase ∙ h.effects.affected.behind;
    marked = marks_append o.reported ws ∙ ap (λ l. marks o.reported ++ l) none ∙ append-nil (marks o.reported) ∙ h.effects.affected.marked;
  };
  sound = record {
    suits = transfer_suits p d.state t;
    held = ap (λ o. elim o [ None ↦ false | Some q ↦ true ]) same ∙ h.effects.sound.held ∙ sym (ap is_held phase);
  };
}
  where
    phase : phase_of p d.state ≡ phase_of p o.after.state
    phase = transfer_phase p d.state o.after.state t h.in_transfer

reset_effects : (p : Bool) (i : Interface) (n : ℕ) (w : Owed) (a : WhileAdrift) (s : StateName) (g : GapChannel) → is_permanent i n ≡ p → is_transfer (state_named s) ≡ true → IsSound p g.channel → is_known g.channel.state ≡ true
    → GapEffects p g (adrift_reset i n w a s g)
reset_effects p i n w a s g e t h known =
    either_effects p g _ _ (is_in_use i n g.channel)
    (λ used. record {
      effects = brought_more p g.channel (entering s false (brought_up i g.channel).after) (brought_up i g.channel) [] (brought p i g.channel h known (subst (λ b. (b || is_open g.channel) ≡ true) e used)) refl t refl;
      suited = transfer_known (state_named s) t;
    })
    (λ none. record { effects = calm_effects p g.channel (report_nothing g.channel) h refl refl refl; suited = known })

-- what a packet of data transfer comes to in data transfer
record Carried (d : Channel) (o : GapOutcome) : Type 0 where
  unmarked : marks o.reported ≡ []
  same_opening : o.after.channel.opening ≡ d.opening
  in_transfer : is_transfer o.after.channel.state ≡ true

data_unmarked : (i : Interface) (r : Item) (h : Option DataHeader) → marks (data_reported i r h) ≡ []
data_unmarked i r None = refl
data_unmarked i r (Some h) = refl

received : (i : Interface) (r : Item) (a : WhileAdrift) (g : GapChannel) (n : Option ℕ) (l : Option LastData) → Carried g.channel (adrift_received i r a g n l)
received i r a g (Some n) (Some l) = record { unmarked = data_unmarked i r (header_in r.packet); same_opening = refl; in_transfer = refl }
received i r a g (Some n) None = record { unmarked = data_unmarked i r (header_in r.packet); same_opening = refl; in_transfer = refl }
received i r a g None l = record { unmarked = data_unmarked i r (header_in r.packet); same_opening = refl; in_transfer = refl }

carried : (i : Interface) (r : Item) (a : WhileAdrift) (g : GapChannel) → is_transfer g.channel.state ≡ true → Carried g.channel (adrift_carried i r a g)
carried i r a g t = at (is_resetting (other r.side) g.channel.state)
  where
    o : GapOutcome
    o = adrift_received i r a g (receive_of r) (option_and_then (acknowledged_data a r.side) (receive_of r))

    at : (b : Bool) → Carried g.channel (either b (with_certainty g (Adrift a) (report_nothing g.channel)) o)
    at true = record { unmarked = refl; same_opening = refl; in_transfer = t }
    at false = received i r a g (receive_of r) (option_and_then (acknowledged_data a r.side) (receive_of r))

known_suits : (t : Certainty) (s : ChannelState) → is_known s ≡ true → suits_certainty t s ≡ true
known_suits Certain s h = refl
known_suits (Adrift a) s h = h
known_suits (Settled b) s h = refl

transfer_effects : (p : Bool) (i : Interface) (n : ℕ) (r : Item) (a : WhileAdrift) (g : GapChannel) → is_permanent i n ≡ p → IsSound p g.channel → is_known g.channel.state ≡ true → suits_certainty g.certainty g.channel.state ≡ true
    → GapEffects p g (adrift_transfer i n r a g)
transfer_effects p i n r a g e h known suited =
    let up : Outcome = brought_up i g.channel in
    let d : GapChannel = record g { channel = up.after } in
    let b : WhileAdrift = record a { hidden = hidden_when_up a g.channel } in
    either_effects p g _ _ (is_in_use i n g.channel)
    (λ used.
    let w = brought p i g.channel h known (subst (λ b. (b || is_open g.channel) ≡ true) e used) in
    let o = carried i r b d w.in_transfer in
    record {
      effects = brought_more p g.channel (adrift_carried i r b d).after.channel up (adrift_carried i r b d).reported w o.same_opening o.in_transfer o.unmarked;
      suited = known_suits (adrift_carried i r b d).after.certainty (adrift_carried i r b d).after.channel.state (transfer_known (adrift_carried i r b d).after.channel.state o.in_transfer);
    })
    (λ none. passing_effects p g h suited)

acceptance_effects : (i : Interface) (x : Side) (xs : List ℕ) (a : WhileAdrift) (g : GapChannel) → IsSound false g.channel → suits_certainty g.certainty g.channel.state ≡ true → GapEffects false g (adrift_acceptance i x xs a g)
acceptance_effects i x xs a g h suited =
    let terms : List ℕ = terms_of_acceptance (a.hidden || is_own_acceptance x g.channel.opening) i xs in
    either_effects false g _ _ (is_open g.channel && not (is_in_transfer g.channel))
    (λ both.
    let w = and_parts (is_open g.channel) (not (is_in_transfer g.channel)) both in
    record {
      effects = rising_effects false g.channel (record (entering P4 false g.channel) { accepting = Some terms }) h refl refl (waits g.channel h w.0 (down (is_in_transfer g.channel) w.1)) refl;
      suited = refl;
    })
    (λ none. passing_effects false g h suited)
  where
    down : (b : Bool) → not b ≡ true → b ≡ false
    down true e = absurd (false≢true e)
    down false e = refl

-- the channel after the end of a call is in the state that it entered
ended_known : (h : How) (d : Channel) → is_known d.state ≡ true → is_known (ending h d).after.state ≡ true
ended_known h d k = ap is_known (ending_state h d) ∙ k

confirmed_suits : (b : Bool) (w : Owed) (s : ChannelState) → is_known s ≡ true → suits_certainty (either b (drifting w false) Certain) s ≡ true
confirmed_suits true w s k = k
confirmed_suits false w s k = refl

-- packets of calls are of virtual channels
abbrev entry_suits : (permanent : Bool) → AdriftEntry → Bool
entry_suits p OpensCall = not p
entry_suits p Accepts = not p
entry_suits p Clears = not p
entry_suits p ConfirmsClear = not p
entry_suits p e = true

entry_suited : (p : Bool) (k : Class) → entry_suits p (adrift_entry p k) ≡ true
entry_suited p Call = of_calls OpensCall refl p
  where
    of_calls : (e : AdriftEntry) → entry_suits false e ≡ true → (p : Bool) → entry_suits p (of_call p e) ≡ true
    of_calls e h true = refl
    of_calls e h false = h
entry_suited p Accepted = elim p as (λ b. entry_suits b (of_call b Accepts) ≡ true) [ true ↦ refl | false ↦ refl ]
entry_suited p Clear = elim p as (λ b. entry_suits b (of_call b Clears) ≡ true) [ true ↦ refl | false ↦ refl ]
entry_suited p ClearConfirm = elim p as (λ b. entry_suits b (of_call b ConfirmsClear) ≡ true) [ true ↦ refl | false ↦ refl ]
entry_suited p k = refl

calling_known : (x : Side) → (suits false (state_named (calling_state x)) ≡ true) × (phase_of false (state_named (calling_state x)) ≡ Opened) × (is_known (state_named (calling_state x)) ≡ true)
calling_known T = (refl, refl, refl)
calling_known N = (refl, refl, refl)

resetting_transfer : (x : Side) → is_transfer (state_named (resetting_state x)) ≡ true
resetting_transfer T = refl
resetting_transfer N = refl

entry_effects : (p : Bool) (e : AdriftEntry) → entry_suits p e ≡ true → (i : Interface) (n : ℕ) (r : Item) (a : WhileAdrift) (g : GapChannel) → is_permanent i n ≡ p
    → IsSound p g.channel → is_known g.channel.state ≡ true → suits_certainty g.certainty g.channel.state ≡ true → GapEffects p g (adrift_step_by e i n r a g)
entry_effects false OpensCall f i n r a g q s k t =
    let w = calling_known r.side in
    let d : Channel = entering (calling_state r.side) false g.channel in
    record { effects = opening_effects false Gap (is_side T r.side) r.octets g.channel d s refl w.0 w.1; suited = ended_known Gap d w.2 }
entry_effects false Accepts f i n r a g q s k t = acceptance_effects i r.side r.octets a g s t
entry_effects false Clears f i n r a g q s k t =
    record { effects = ending_effects false (cleared_by r.side) g.channel (entering P1 false g.channel) s refl refl refl; suited = ended_known (cleared_by r.side) (entering P1 false g.channel) refl }
entry_effects false ConfirmsClear f i n r a g q s k t = record {
  effects = ending_effects false Gap g.channel (entering P1 false g.channel) s refl refl refl;
  suited = confirmed_suits _ (owed_after r.side ConfirmsClear a.owed) (ending Gap (entering P1 false g.channel)).after.state (ended_known Gap (entering P1 false g.channel) refl);
}
entry_effects true OpensCall f i n r a g q s k t = absurd (false≢true f)
entry_effects true Accepts f i n r a g q s k t = absurd (false≢true f)
entry_effects true Clears f i n r a g q s k t = absurd (false≢true f)
entry_effects true ConfirmsClear f i n r a g q s k t = absurd (false≢true f)
entry_effects p Resets f i n r a g q s k t = reset_effects p i n (owed_after r.side Resets a.owed) a (resetting_state r.side) g q (resetting_transfer r.side) s k
entry_effects p ConfirmsReset f i n r a g q s k t = reset_effects p i n (owed_after r.side ConfirmsReset a.owed) a D1 g q refl s k
entry_effects p Carries f i n r a g q s k t = transfer_effects p i n r a g q s k t
entry_effects p DoesNothing f i n r a g q s k t = passing_effects p g s t

adrift_effects : (i : Interface) (n : ℕ) (r : Item) (a : WhileAdrift) (g : GapChannel) → IsSound (is_permanent i n) g.channel → is_known g.channel.state ≡ true → suits_certainty g.certainty g.channel.state ≡ true
    → GapEffects (is_permanent i n) g (adrift_step i n r a g)
adrift_effects i n r a g s k t =
    let p = is_permanent i n in
    let e = adrift_entry p (packet_class r.packet) in
    either_effects p g _ _ (is_some (adrift_fault i n g.channel r)) (λ fault. passing_effects p g s t) (λ none. entry_effects p e (entry_suited p (packet_class r.packet)) i n r a g refl s k t)

-- ---- a settled channel

-- two channels in one state with one call
abbrev SameCall : Channel → Channel → Type 0
SameCall c d = (d.state ≡ c.state) × (d.opening ≡ c.opening)

completed_same : (m : ℕ) (b : Bool) (x : Side) (n : ℕ) (c d : Channel) → SameCall c d → SameCall c (completed_to m b x n d)
completed_same m true x n c d h = h
completed_same m false x n c d h = h

interrupt_same : (b : Bool) (x : Side) (u : Bool) (c : Channel) → SameCall c (with_interrupt b x u c)
interrupt_same true x u c = (refl, refl)
interrupt_same false x u c = (refl, refl)

counting_is : (x : Side) (s : StateName) (v : Result Counts ℕ) (b f : Doubts) (d c : Channel) → SameCall c d → Transferred x s c (counting_in_doubt x s v b f d c).outcome
counting_is x s (Err n) b f d c h = inl (n, refl)
counting_is x s (Ok v) b f d c h = inr (record { marks = refl; same_state = h.0; same_opening = h.1 })

form_unmarked : (b : Bool) (x : Side) (m : List ℕ) → marks (settings_by_form b x m) ≡ []
form_unmarked true x m = refl
form_unmarked false x m = settings_unmarked (is_indication m) (is_set m) x m

message_unmarked : (x : Side) (m : Option (List ℕ)) → marks (settings_in_doubt x m) ≡ []
message_unmarked x None = refl
message_unmarked x (Some m) = form_unmarked (is_some (form_fault m)) x m

mixed_is : (q : Bool) (m : ℕ) (x : Side) (s : StateName) (size : ℕ) (p : AcceptedData) (v : Counts) (message : Option (List ℕ)) (b : Doubts) (d c : Channel) → SameCall c d
    → Transferred x s c (either q (failing_in_doubt x s INCONSISTENT_Q_BIT_SETTING b c) (accepting_in_doubt m x size p v message b d)).outcome
mixed_is true m x s size p v message b d c h = inl (INCONSISTENT_Q_BIT_SETTING, refl)
mixed_is false m x s size p v message b d c h = inr (record { marks = message_unmarked x message; same_state = h.0; same_opening = h.1 })

counted_is : (m : ℕ) (x : Side) (s : StateName) (size : ℕ) (p : AcceptedData) (v : Result Counts ℕ) (b : Doubts) (d c : Channel) → SameCall c d → Transferred x s c (counted_in_doubt m x s size p v b d c).outcome
counted_is m x s size p (Err n) b d c h = inl (n, refl)
counted_is m x s size p (Ok v) b d c h =
    let hs = may_be_begun b.hidden size x d.accepted in
    mixed_is (is_mixed b.hidden (of_side x b.sequences) p hs) m x s size p v (message_in_doubt b.hidden (of_side x b.sequences) size p hs d) b d c h

data_is : (i : Interface) (s : StateName) (r : Item) (h : Option DataHeader) (b : Doubts) (c : Channel) → Transferred r.side s c (data_in_doubt i s r h b c).outcome
data_is i s r None b c = inr (record { marks = refl; same_state = refl; same_opening = refl })
data_is i s r (Some h) b c =
    let d = completed_for_data i.modulus b r.side h c in
    counted_is i.modulus r.side s (size_in_force i c r.side) (accepted_of i r h) (count_data i.modulus (window_in_doubt i b c r.side) (counts_of d) r.side h.send h.receive) b d c
    (completed_same i.modulus (of_side (other r.side) b.numbers) (other r.side) h.receive c (completed_to i.modulus (of_side r.side b.numbers) r.side h.send c)
    (completed_same i.modulus (of_side r.side b.numbers) r.side h.send c c (refl, refl)))

receive_is : (m : ℕ) (x : Side) (s : StateName) (n : Option ℕ) (b : Doubts) (c : Channel) → Transferred x s c (receive_in_doubt m x s n b c).outcome
receive_is m x s None b c = inr (record { marks = refl; same_state = refl; same_opening = refl })
receive_is m x s (Some n) b c =
    let d = completed_for_receive m b x n c in
    counting_is x s (count_receive m (counts_of d) x n) b b d c (completed_same m (of_side (other x) b.numbers) (other x) n c c (refl, refl))

transferring_is : (i : Interface) (s : StateName) (k : Class) (r : Item) (b : Doubts) (c : Channel) → Transferred r.side s c (transferring_in_doubt i s k r b c).outcome
transferring_is i s Data r b c = data_is i s r (header_in r.packet) b c
transferring_is i s Interrupt r b c = counting_is r.side s _ b _ _ c (interrupt_same (of_side r.side b.interrupts) r.side false c)
transferring_is i s InterruptConfirm r b c = counting_is r.side s _ b _ _ c (interrupt_same (of_side (other r.side) b.interrupts) (other r.side) true c)
transferring_is i s k r b c = receive_is i.modulus r.side s (receive_in r.packet) b c

settled_is : (i : Interface) (s : StateName) (r : Item) (v : Verdict) (b : Doubts) (c : Channel) → verdict_with (transferring_in_doubt i s (packet_class r.packet) r b c).outcome i s r v c ≡ (settled_verdict i s r v b c).outcome
settled_is i s r (Fails t n) b c = refl
settled_is i s r (Moves t) b c = refl
settled_is i s r Transfers b c = refl
settled_is i s r EndsOwed b c = refl
settled_is i s r Nothing b c = refl

certainty_suits : (f : Doubts) (c : Channel) (s : ChannelState) → suits_certainty (certainty_with f c) s ≡ true
certainty_suits f c s = at (is_open c || is_in_d1 c.state)
  where
    at : (b : Bool) → suits_certainty (either b (Settled f) Certain) s ≡ true
    at true = refl
    at false = refl

-- ---- a packet

pub packet_effects : (t : Certainty) (i : Interface) (n : ℕ) (r : Item) (g : GapChannel) → g.certainty ≡ t → IsSound (is_permanent i n) g.channel → suits_certainty t g.channel.state ≡ true
    → GapEffects (is_permanent i n) g (packet_step t i n r g)
packet_effects Certain i n r g e s k = record { effects = step_effects i n g.channel r s; suited = refl }
packet_effects (Adrift a) i n r g e s k = adrift_effects i n r a g s k (ap (λ t. suits_certainty t g.channel.state) e ∙ k)
packet_effects (Settled b) i n r g e s k =
    let p = is_permanent i n in
    let j = judged_in p g.channel r in
    let fault = packet_fault i n g.channel r in
    let v = verdict j fault in
    let o = settled_verdict i j.state r v b g.channel in
    record {
      effects =
          subst (λ out. Effects p g.channel out) (settled_is i j.state r v b g.channel)
          (judged_effects i p g.channel r fault (transferring_in_doubt i j.state (packet_class r.packet) r b g.channel).outcome s (transferring_is i j.state (packet_class r.packet) r b g.channel));
      suited = certainty_suits (doubts_in o.outcome.after.state o.doubts) o.outcome.after o.outcome.after.state;
    }

-- ---- at most one call is opened

either_once : (b : Bool) (o q : GapOutcome) → IsOnce o.reported → IsOnce q.reported → IsOnce (either b o q).reported
either_once true o q h k = h
either_once false o q h k = k

brought_once : (i : Interface) (c : Channel) (ws : List What) → marks ws ≡ [] → IsOnce ((brought_up i c).reported ++ ws)
brought_once i c ws none = at (is_in_transfer c)
  where
    at : (b : Bool) → IsOnce ((either b (report_nothing c) (coming_up (largest_terms i) c)).reported ++ ws)
    at true = subst (λ l. how_many is_opened l ≤ 1) (sym none) (omega arith)
    at false = subst (λ l. how_many is_opened (Risen ∷ l) ≤ 1) (sym none) (omega arith)

-- a packet of data transfer has no marks, in whatever state
carried_unmarked : (i : Interface) (r : Item) (a : WhileAdrift) (g : GapChannel) → marks (adrift_carried i r a g).reported ≡ []
carried_unmarked i r a g = at (is_resetting (other r.side) g.channel.state)
  where
    o : GapOutcome
    o = adrift_received i r a g (receive_of r) (option_and_then (acknowledged_data a r.side) (receive_of r))

    at : (b : Bool) → marks (either b (with_certainty g (Adrift a) (report_nothing g.channel)) o).reported ≡ []
    at true = refl
    at false = (received i r a g (receive_of r) (option_and_then (acknowledged_data a r.side) (receive_of r))).unmarked

entry_once : (e : AdriftEntry) (i : Interface) (n : ℕ) (r : Item) (a : WhileAdrift) (g : GapChannel) → IsOnce (adrift_step_by e i n r a g).reported
entry_once OpensCall i n r a g = opening_once Gap (is_side T r.side) r.octets (entering (calling_state r.side) false g.channel)
entry_once Accepts i n r a g = either_once (is_open g.channel && not (is_in_transfer g.channel)) _ _ (omega arith) (omega arith)
entry_once Clears i n r a g = ending_once (cleared_by r.side) (entering P1 false g.channel)
entry_once ConfirmsClear i n r a g = ending_once Gap (entering P1 false g.channel)
entry_once Resets i n r a g = either_once (is_in_use i n g.channel) _ _ (brought_once i g.channel [] refl) (omega arith)
entry_once ConfirmsReset i n r a g = either_once (is_in_use i n g.channel) _ _ (brought_once i g.channel [] refl) (omega arith)
entry_once Carries i n r a g =
    let d : GapChannel = record g { channel = (brought_up i g.channel).after } in
    let b : WhileAdrift = record a { hidden = hidden_when_up a g.channel } in
    either_once (is_in_use i n g.channel) _ _ (brought_once i g.channel (adrift_carried i r b d).reported (carried_unmarked i r b d)) (omega arith)
entry_once DoesNothing i n r a g = omega arith

pub packet_once : (t : Certainty) (i : Interface) (n : ℕ) (r : Item) (g : GapChannel) → IsOnce (packet_step t i n r g).reported
packet_once Certain i n r g = step_once i n g.channel r
packet_once (Adrift a) i n r g =
    either_once (is_some (adrift_fault i n g.channel r)) _ _ (omega arith) (entry_once (adrift_entry (is_permanent i n) (packet_class r.packet)) i n r a g)
packet_once (Settled b) i n r g =
    let j = judged_in (is_permanent i n) g.channel r in
    let v = verdict j (packet_fault i n g.channel r) in
    let out = (transferring_in_doubt i j.state (packet_class r.packet) r b g.channel).outcome in
    subst (λ o. IsOnce o.reported) (settled_is i j.state r v b g.channel) (verdict_once i j.state r v out g.channel (transferring_is i j.state (packet_class r.packet) r b g.channel))

-- ---- a gap

gap_state : (b : Bool) (i : Interface) (c : Channel) → SameCall c (with_largest_terms b i c)
gap_state true i c = (refl, refl)
gap_state false i c = (refl, refl)

-- a gap leaves the phase, in a known state
record Left (p : Bool) (c : Channel) (s : ChannelState) : Type 0 where
  same_phase : phase_of p s ≡ phase_of p c.state
  suits : suits p s ≡ true
  known : is_known s ≡ true

left_by : (p : Bool) (c : Channel) → IsSound p c → Left p c (state_named (idle_name (p || is_in_transfer c) c.opening))
left_by true c s = record { same_phase = at c.state s.suits; suits = refl; known = refl }
  where
    at : (t : ChannelState) → suits true t ≡ true → Closed ≡ phase_of true t
    at (Setup q) h = absurd (false≢true h)
    at (Transfer d) h = refl
    at Unknown h = refl
left_by false c s = at (is_in_transfer c) c.opening (up_is false c.state) s.held
  where
    at : (t : Bool) (o : Option Opening) → t ≡ occurs_up (phase_of false c.state) → is_some o ≡ is_held (phase_of false c.state) → Left false c (state_named (idle_name t o))
    at true o u h = record { same_phase = is_up (phase_of false c.state) u; suits = refl; known = refl }
      where
        is_up : (f : Phase) → true ≡ occurs_up f → IsUp ≡ f
        is_up Closed e = absurd (false≢true (sym e))
        is_up Opened e = absurd (false≢true (sym e))
        is_up IsUp e = refl
    at false None u h = record { same_phase = is_closed (phase_of false c.state) h; suits = refl; known = refl }
      where
        is_closed : (f : Phase) → false ≡ is_held f → Closed ≡ f
        is_closed Closed e = refl
        is_closed Opened e = absurd (false≢true e)
        is_closed IsUp e = absurd (false≢true e)
    at false (Some o) u h = waiting o.out
      where
        is_opened : (f : Phase) → false ≡ occurs_up f → true ≡ is_held f → Opened ≡ f
        is_opened Closed e g = absurd (false≢true (sym g))
        is_opened Opened e g = refl
        is_opened IsUp e g = absurd (false≢true e)

        waiting : (b : Bool) → Left false c (state_named (elim b [ true ↦ P2 | false ↦ P3 ]))
        waiting true = record { same_phase = is_opened (phase_of false c.state) u h; suits = refl; known = refl }
        waiting false = record { same_phase = is_opened (phase_of false c.state) u h; suits = refl; known = refl }

pub gap_effects : (i : Interface) (n : ℕ) (all_channels : Bool) (g : GapChannel) → IsSound (is_permanent i n) g.channel → GapEffects (is_permanent i n) g (record { reported = []; after = gap_step i n all_channels g })
gap_effects i n all_channels g s =
    let p = is_permanent i n in
    let c = g.channel in
    let w = left_by p c s in
    let named : StateName = idle_name (p || is_in_transfer c) c.opening in
    let same = gap_state (is_hidden_by_gap i n c) i (entering named false c) in
    record {
      effects = record {
        affected = record { effect = stays (phase_of p c.state); before = refl; behind = ap (phase_of p) same.0 ∙ w.same_phase; marked = refl };
        sound = record {
          suits = ap (suits p) same.0 ∙ w.suits;
          held = ap (λ o. elim o [ None ↦ false | Some q ↦ true ]) same.1 ∙ s.held ∙ sym (ap is_held (ap (phase_of p) same.0 ∙ w.same_phase));
        };
      };
      suited = ap is_known same.0 ∙ w.known;
    }
