-- What packets do to a settled channel, as the code does it.
use Rattle.std.proofs.Common.{◌≡◌, ◌-◌, ℕ, Bool, true, false, true≢false, refl, sym, ◌∙◌, ap, subst, append-nil, map, List, [], ◌∷◌, ◌++◌, Option, Some, None, Result, Ok, Err, ◌⊎◌, inl, inr}
use Rattle.std.specs.Prelude.{IfOk, OnOk, is_some, not, ◌&&◌}
use Rattle.line_model.specs.declared.packet.Class as class
use Rattle.line_model.specs.declared.packet.DataHeader.{DataHeader}
use Rattle.line_model.specs.declared.packet.Packet.{Packet}
use Rattle.line_model.specs.packets.Classes.{packet_class}
use Rattle.line_model.specs.packets.Formats.{direction_fault, format_fault, or_other, packet_fault}
use Rattle.line_model.specs.basics.Records.{Item}
use Rattle.line_model.specs.declared.packet.Class.{Class}
use Rattle.line_model.specs.declared.packet.Class.TheVariants.{Data, Interrupt, InterruptConfirm}
use Rattle.line_model.specs.packets.Says.{header_in, receive_in}
use Rattle.line_model.specs.declared.event.Event.{Event}
use Rattle.line_model.specs.declared.fault.Fault.{Fault}
use Rattle.line_model.specs.declared.event.How.{How}
use Rattle.line_model.specs.declared.event.How as how
use Rattle.line_model.specs.declared.event.What.{What}
use Rattle.line_model.specs.declared.event.What.TheVariants.{Found}
use Rattle.line_model.specs.declared.finding.Code.TheVariants.{Number}
use Rattle.line_model.specs.declared.interface.Interface.{Interface}
use Rattle.line_model.specs.declared.table.Action.{Action}
use Rattle.line_model.specs.declared.table.Action.TheVariants as action
use Rattle.line_model.specs.declared.state.ChannelState.{ChannelState}
use Rattle.line_model.specs.declared.state.ChannelState.TheVariants.{Setup, Transfer, Unknown}
use Rattle.line_model.specs.declared.state.DState as transfer
use Rattle.line_model.specs.declared.state.Side.{Side}
use Rattle.line_model.specs.declared.state.Side.TheVariants.{T, N}
use Rattle.line_model.specs.declared.state.StateName.{StateName}
use Rattle.line_model.specs.declared.state.StateName.TheVariants.{P7}
use Rattle.line_model.specs.channels.Channels.{Channel, Opening, is_permanent, of_side, other, with_side}
use Rattle.line_model.specs.channels.ChannelStep.{Outcome, after_error, call_change, changing, counts_of, ending_open, entering, failing, judged, opening, and_then, report_nothing, state_named, verdict, verdict_step}
use Rattle.line_model.specs.channels.FlowControl.{Counts, count_confirm, count_interrupt, count_receive, no_counts, sent_by}
use Rattle.line_model.specs.channels.Gaps.{Doubts, no_doubts, of_both}
use Rattle.line_model.specs.channels.GapStep.{SettledOutcome, completed_for_receive, confirmation_in_doubt, counting_in_doubt, doubts_in, failing_in_doubt, interrupt_in_doubt, is_in_d1, receive_by, receive_in_doubt, settled_verdict, transferring_in_doubt, with_interrupt}
use Rattle.line_model.specs.channels.Verdicts.{CallChange}
use Rattle.line_model.specs.channels.Verdicts.CallChange.{Opens, GoesUp, Ends, Keeps}
use Rattle.data_transfer.specs.Assembler.{begun_on}
use Rattle.data_transfer.specs.Assembly.{Holds}
use Rattle.data_transfer.specs.FlowResidues as flow
use Rattle.channel_machine.specs.declared.events.EventOrigin.{EventOrigin}
use Rattle.channel_machine.specs.Channels.{Does, Known, StatusRepresents, listed}
use Rattle.channel_machine.specs.Contents.{is_call}
use Rattle.channel_machine.specs.Entries.{comes_from, entry_step, is_entry, is_transfer}
use Rattle.channel_machine.specs.Events.{Reports, data_of, event_at}
use Rattle.channel_machine.specs.GapChannels.{RepresentsSettled, at_rest}
use Rattle.channel_machine.specs.GapView.{InDoubt}
use Rattle.channel_machine.specs.Reached.{IsReached}
use Rattle.channel_machine.specs.SettledNumbers.{IsCountedInDoubt, IsRestarted, NumbersRepresent, SequencesRepresent, kept_begun, kept_of, with_counts}
use Rattle.channel_machine.specs.SettledSteps.{IsControlled, SettledDoes, settled_entry, settled_row}
use Rattle.channel_machine.proofs.AdriftLemmas.{header_class}
use Rattle.channel_machine.proofs.Completing.{rest_completed}
use Rattle.channel_machine.proofs.Missed.{of_same}
use Rattle.channel_machine.proofs.Calls.{error_leads}
use Rattle.channel_machine.proofs.Reached.{by_entry, same}

-- what is in doubt in a state
doubts_same : (q : ChannelState) (b : Doubts) → (is_in_d1 q ≡ false → b ≡ no_doubts b.hidden) → b ≡ doubts_in q b
doubts_same (Transfer transfer.TheVariants.D1) b h = refl
doubts_same (Transfer transfer.TheVariants.D2) b h = h refl
doubts_same (Transfer transfer.TheVariants.D3) b h = h refl
doubts_same (Setup p) b h = h refl
doubts_same Unknown b h = h refl

pub doubts_of_d1 : (q : ChannelState) (b : Doubts) → is_in_d1 q ≡ true → b ≡ doubts_in q b
doubts_of_d1 q b e = doubts_same q b (λ f. absurd (true≢false (sym e ∙ f)))

doubts_outside : (q : ChannelState) (b : Doubts) → is_in_d1 q ≡ false → no_doubts b.hidden ≡ doubts_in q b
doubts_outside (Transfer transfer.TheVariants.D1) b e = absurd (true≢false e)
doubts_outside (Transfer transfer.TheVariants.D2) b e = refl
doubts_outside (Transfer transfer.TheVariants.D3) b e = refl
doubts_outside (Setup p) b e = refl
doubts_outside Unknown b e = refl

unknown_in : (q : ChannelState) (b : Doubts) (x : Side) → (of_side x b.numbers ≡ true → of_side x b.sequences ≡ true) → of_side x (doubts_in q b).numbers ≡ true → of_side x (doubts_in q b).sequences ≡ true
unknown_in (Transfer transfer.TheVariants.D1) b x h e = h e
unknown_in (Transfer transfer.TheVariants.D2) b x h e = absurd (true≢false (sym e ∙ of_same x false))
unknown_in (Transfer transfer.TheVariants.D3) b x h e = absurd (true≢false (sym e ∙ of_same x false))
unknown_in (Setup p) b x h e = absurd (true≢false (sym e ∙ of_same x false))
unknown_in Unknown b x h e = absurd (true≢false (sym e ∙ of_same x false))

none_sent : (x : Side) → of_side x (sent_by []) ≡ of_side x (of_both 0)
none_sent T = refl
none_sent N = refl

pub none_begun : (doubt hidden : Bool) → kept_of doubt hidden [] ≡ []
none_begun true hidden = refl
none_begun false true = refl
none_begun false false = refl

-- a channel that enters a state
restarted : (s : EventOrigin) (old new : Known) (held left : InDoubt) (before after : List Event) (o : Outcome) (c : Channel) → RepresentsSettled old held c → Does s old new before after o → at_rest o.after ≡ o.after → IsReached o.after →
    left.doubts ≡ doubts_in new.state held.doubts → left.flow.modulus ≡ held.flow.modulus → left.flow.windows ≡ held.flow.windows → flow.ResiduesRepresent left.flow no_counts → ((x : Side) → Holds (begun_on left.assembler x) []) →
    SettledDoes s old new left before after (record { outcome = o; doubts = held.doubts })
restarted s old new held left before after o c st does rest reached doubts_are modulus windows none begun =
    let d : Channel = o.after in
    let doubts : left.doubts ≡ doubts_in d.state held.doubts = doubts_are ∙ ap (λ q. doubts_in q held.doubts) does.represented.state in
    record {
      interface = does.interface;
      channel = does.channel;
      doubts = doubts;
      represented = record {
        rest = subst (λ e. StatusRepresents new e) (sym rest) does.represented;
        reached = reached;
        numbers = record {
          flow = subst (λ e. flow.ResiduesRepresent left.flow (counts_of e)) rest none;
          modulus = modulus ∙ st.numbers.modulus ∙ ap (λ (i : Interface). i.modulus) (sym does.interface);
          widest = windows ∙ st.numbers.widest ∙ ap (λ (i : Interface). of_both (i.modulus - 1)) (sym does.interface);
          acknowledged = λ x e. subst (λ k. of_side x (sent_by k.accepted) ≡ of_side x k.acknowledged) rest (none_sent x);
          unknown = λ x e. ap (λ b. of_side x b.sequences) doubts ∙ unknown_in d.state held.doubts x (λ f. st.numbers.unknown x f) (ap (λ b. of_side x b.numbers) (sym doubts) ∙ e);
        };
        sequences = λ x. subst (λ e. Holds (begun_on left.assembler x) (kept_begun new.terms.interface left.doubts x e)) rest
            (subst (λ l. Holds (begun_on left.assembler x) l) (sym (none_begun (of_side x left.doubts.sequences) left.doubts.hidden)) (begun x));
        outside = λ e.
            let none : left.doubts ≡ no_doubts held.doubts.hidden = doubts ∙ sym (doubts_outside d.state held.doubts e) in
            (none ∙ ap (λ b. no_doubts b.hidden) (sym none), rest);
      };
      reports = does.reports;
    }

-- one that stays where it is, and owes an indication or not
pub stays : (s : EventOrigin) (old new : Known) (held : InDoubt) (before after : List Event) (ws : List What) (w : Bool) (c : Channel) → RepresentsSettled old held c → new.terms.interface ≡ old.terms.interface → new.channel ≡ old.channel →
    StatusRepresents new (at_rest (record c { owed = w })) → Reports s before after ws → SettledDoes s old new held before after (record { outcome = record { reported = ws; after = record c { owed = w } }; doubts = held.doubts })
stays s old new held before after ws w c st interface number represented reports =
    let ns : NumbersRepresent new.terms.interface.modulus held c = subst (λ (i : Interface). NumbersRepresent i.modulus held c) (sym interface) st.numbers in
    record {
      interface = interface;
      channel = number;
      doubts = doubts_same c.state held.doubts (λ e. (st.outside e).0);
      represented = record {
        rest = represented;
        reached = same c (record c { owed = w }) refl refl refl st.reached;
        numbers = record { flow = ns.flow; modulus = ns.modulus; widest = ns.widest; acknowledged = ns.acknowledged; unknown = ns.unknown };
        sequences = λ x. subst (λ (i : Interface). Holds (begun_on held.assembler x) (kept_begun i held.doubts x c)) (sym interface) (st.sequences x);
        outside = λ e. ((st.outside e).0, ap (λ (d : Channel). record d { owed = w }) (st.outside e).1);
      };
      reports = reports;
    }

-- a row whose events are all listed
pub none_apart : (s : EventOrigin) (x : Side) (old new : Known) (left : InDoubt) (before after : List Event) (o : SettledOutcome) → SettledDoes s old new left before after o → SettledDoes s old new left before (after ++ map (event_at s) (data_of x None)) o
none_apart s x old new left before after o d = subst (λ es. SettledDoes s old new left before es o) (sym (append-nil after)) d

settled_apart : {U : Type 0} (q : Result U Fault) (s : EventOrigin) (x : Side) (old new : Known) (left : InDoubt) (before after : List Event) (o : SettledOutcome) → IfOk q (λ _. SettledDoes s old new left before after o) →
    IfOk (listed q) (λ k. SettledDoes s old new left before (after ++ map (event_at s) (data_of x k)) o)
settled_apart (Ok u) s x old new left before after o d = none_apart s x old new left before after o d
settled_apart (Err e) s x old new left before after o d = tt

pub settled_listed : {U : Type 0} (q : Result U Fault) (l : Result (Option ℕ) Fault) (s : EventOrigin) (x : Side) (old new : Known) (left : InDoubt) (before after : List Event) (o : SettledOutcome) → l ≡ listed q →
    IfOk q (λ _. SettledDoes s old new left before after o) → IfOk l (λ k. SettledDoes s old new left before (after ++ map (event_at s) (data_of x k)) o)
settled_listed q l s x old new left before after o is d =
    subst (λ v. IfOk v (λ k. SettledDoes s old new left before (after ++ map (event_at s) (data_of x k)) o)) (sym is) (settled_apart q s x old new left before after o d)

-- What an entry does that is not `normal`, by what it does to the channel at rest: the channel enters a state, with nothing
-- outstanding and d1 from elsewhere alone, or it stays where it is, and owes an indication or not.

record Enters (rested out : Outcome) (b : Doubts) (c : Channel) (o : SettledOutcome) : Type 0 where
  is : o ≡ record { outcome = out; doubts = b }
  same : rested ≡ out
  rest : at_rest out.after ≡ out.after
  into : is_in_d1 out.after.state ≡ true → is_in_d1 c.state ≡ false

record Stays (rested : Outcome) (b : Doubts) (c : Channel) (o : SettledOutcome) : Type 0 where
  reported : List What
  owed : Bool
  is : o ≡ record { outcome = record { reported = reported; after = record c { owed = owed } }; doubts = b }
  rest : rested ≡ record { reported = reported; after = record (at_rest c) { owed = owed } }

abbrev Acts : (rested out : Outcome) → Doubts → Channel → SettledOutcome → Type 0
Acts rested out b c o = Enters rested out b c o ⊎ Stays rested b c o

-- an error

cleared_rest : (h : How) (o : Option Opening) (to : StateName) (w : Bool) (c : Channel) →
    (at_rest (ending_open h o (entering to w c)).after ≡ (ending_open h o (entering to w c)).after) × ((ending_open h o (entering to w c)).after.state ≡ state_named to)
cleared_rest h None to w c = (refl, refl)
cleared_rest h (Some o) to w c = (refl, refl)

error_rest : (q : StateName) (c : Channel) → (after_error q (at_rest c) ≡ after_error q c) × (at_rest (after_error q c).after ≡ (after_error q c).after) × (is_in_d1 (after_error q c).after.state ≡ false)
error_rest q c = elim (error_leads q) [
  | inl d3 ↦ (
    d3 (at_rest c) ∙ sym (d3 c),
    ap (λ (o : Outcome). at_rest o.after) (d3 c) ∙ ap (λ (o : Outcome). o.after) (sym (d3 c)),
    ap (λ (o : Outcome). is_in_d1 o.after.state) (d3 c),
  )
  | inr p7 ↦
      let (rest, state) = cleared_rest how.TheVariants.N c.opening P7 true c in (
        p7 (at_rest c) ∙ sym (p7 c),
        ap (λ (o : Outcome). at_rest o.after) (p7 c) ∙ rest ∙ ap (λ (o : Outcome). o.after) (sym (p7 c)),
        ap (λ (o : Outcome). is_in_d1 o.after.state) (p7 c) ∙ ap (λ q. is_in_d1 q) state,
      )
]

fails : (x : Side) (q : StateName) (n : ℕ) (b : Doubts) (c : Channel) → Acts (failing x q n (at_rest c)) (failing x q n c) b c (failing_in_doubt x q n b c)
fails T q n b c =
    let (same, rest, outside) = error_rest q c in
    inl (record {
      is = refl;
      same = ap (λ (o : Outcome). record { reported = Found T q (Number n) ∷ o.reported; after = o.after }) same;
      rest = rest;
      into = λ e. absurd (true≢false (sym e ∙ outside));
    })
fails N q n b c = inr (record { reported = Found N q (Number n) ∷ []; owed = c.owed; is = refl; rest = refl })

-- a move

opened_rest : (o : Option Opening) (out : Bool) (xs : List ℕ) (to : StateName) (c : Channel) →
    (at_rest (and_then (ending_open how.TheVariants.Collision o (entering to false c)) (opening out xs)).after ≡ (and_then (ending_open how.TheVariants.Collision o (entering to false c)) (opening out xs)).after)
    × ((and_then (ending_open how.TheVariants.Collision o (entering to false c)) (opening out xs)).after.state ≡ state_named to)
opened_rest None out xs to c = (refl, refl)
opened_rest (Some o) out xs to c = (refl, refl)

moved_rest : (v : CallChange) (xs : List ℕ) (to : StateName) (c : Channel) →
    (at_rest (changing xs v (entering to false c)).after ≡ (changing xs v (entering to false c)).after) × ((changing xs v (entering to false c)).after.state ≡ state_named to)
moved_rest (Opens out) xs to c = opened_rest c.opening out xs to c
moved_rest GoesUp xs to c = (refl, refl)
moved_rest (Ends h) xs to c = cleared_rest h c.opening to false c
moved_rest Keeps xs to c = (refl, refl)

not_both : (a b : Bool) → not (a && b) ≡ true → a ≡ true → b ≡ false
not_both true true e t = absurd (true≢false (sym e))
not_both true false e t = refl
not_both false b e t = absurd (true≢false (sym t))

-- an entry
acts_by : (i : Interface) (q : StateName) (a : Action) (o : Option ℕ) (r : Item) (b : Doubts) (c : Channel) → (a ≡ action.Normal → ⊥) → comes_from a c.state ≡ true →
    Acts (verdict_step i q r (verdict (record { state = q; entry = a }) o) (at_rest c)) (verdict_step i q r (verdict (record { state = q; entry = a }) o) c) b c (settled_verdict i q r (verdict (record { state = q; entry = a }) o) b c)
acts_by i q (action.Move to) None r b c other comes =
    let (rest, state) = moved_rest (call_change r.side (packet_class r.packet) to) r.octets to c in
    inl (record {
      is = refl;
      same = refl;
      rest = rest;
      into = λ e. not_both (is_in_d1 (state_named to)) (is_in_d1 c.state) comes (ap (λ q. is_in_d1 q) (sym state) ∙ e);
    })
acts_by i q (action.Move to) (Some n) r b c other comes = fails r.side q n b c
acts_by i q action.Normal o r b c other comes = absurd (other refl)
acts_by i q (action.Error n) o r b c other comes = fails r.side q n b c
acts_by i q action.Ends o r b c other comes = inr (record { reported = []; owed = false; is = refl; rest = refl })
acts_by i q a o r b c other comes = inr (record { reported = []; owed = c.owed; is = refl; rest = refl })

-- a channel that is outside d1 after an entry has forgotten all that is outstanding, begun or in doubt
acted_outside : (s : EventOrigin) (old new : Known) (held left : InDoubt) (before after : List Event) (rested out : Outcome) (c : Channel) (o : SettledOutcome) → Acts rested out held.doubts c o → RepresentsSettled old held c →
    Does s old new before after rested → IsReached out.after → is_in_d1 new.state ≡ false → IsRestarted held left → SettledDoes s old new left before after o
acted_outside s old new held left before after rested out c o (inl e) st does reached outside none =
    subst (λ v. SettledDoes s old new left before after v) (sym e.is)
    (restarted s old new held left before after out c st (subst (λ v. Does s old new before after v) e.same does) e.rest reached
    (none.doubts ∙ doubts_outside new.state held.doubts outside) none.modulus none.windows none.flow none.sequences)
acted_outside s old new held left before after rested out c o (inr t) st does reached outside none =
    let d = subst (λ v. Does s old new before after v) t.rest does in
    let rest : at_rest c ≡ c = (st.outside (ap (λ q. is_in_d1 q) (sym d.represented.state) ∙ outside)).1 in
    subst (λ v. SettledDoes s old new left before after v) (sym t.is)
    (restarted s old new held left before after _ c st (subst (λ (k : Channel). Does s old new before after (record { reported = t.reported; after = record k { owed = t.owed } })) rest d)
    (ap (λ (k : Channel). record k { owed = t.owed }) rest) (same c (record c { owed = t.owed }) refl refl refl st.reached)
    (none.doubts ∙ doubts_outside new.state held.doubts outside) none.modulus none.windows none.flow none.sequences)

-- in d1 all is kept: nothing of it was there where the channel came from elsewhere
acted_within : (s : EventOrigin) (old new : Known) (held : InDoubt) (before after : List Event) (rested out : Outcome) (c : Channel) (o : SettledOutcome) → Acts rested out held.doubts c o → RepresentsSettled old held c →
    Does s old new before after rested → IsReached out.after → is_in_d1 new.state ≡ true → SettledDoes s old new held before after o
acted_within s old new held before after rested out c o (inl e) st does reached d1 =
    let d = subst (λ v. Does s old new before after v) e.same does in
    let rest : at_rest c ≡ c = (st.outside (e.into (ap (λ q. is_in_d1 q) (sym d.represented.state) ∙ d1))).1 in
    subst (λ v. SettledDoes s old new held before after v) (sym e.is)
    (restarted s old new held held before after out c st d e.rest reached (doubts_of_d1 new.state held.doubts d1) refl refl
    (subst (λ k. flow.ResiduesRepresent held.flow (counts_of k)) (sym rest) st.numbers.flow)
    (λ x. subst (λ l. Holds (begun_on held.assembler x) l) (none_begun (of_side x held.doubts.sequences) held.doubts.hidden)
    (subst (λ k. Holds (begun_on held.assembler x) (kept_begun old.terms.interface held.doubts x k)) (sym rest) (st.sequences x))))
acted_within s old new held before after rested out c o (inr t) st does reached d1 =
    let d = subst (λ v. Does s old new before after v) t.rest does in
    subst (λ v. SettledDoes s old new held before after v) (sym t.is) (stays s old new held before after t.reported t.owed c st d.interface d.channel d.represented d.reports)

-- both in the words of the code
pub acted : (s : EventOrigin) (old new : Known) (held left : InDoubt) (before after : List Event) (i : Interface) (n : ℕ) (x : Side) (q : StateName) (a : Action) (r : Item) (c : Channel) → x ≡ r.side → (a ≡ action.Normal → ⊥) → comes_from a old.state ≡ true →
    is_entry a x (packet_class r.packet) old.state ≡ true → RepresentsSettled old held c →
    ((c : Channel) → IsReached c → StatusRepresents old c → Does s old new before after (entry_step i n (record { state = q; entry = a }) r c)) →
    ((is_in_d1 new.state ≡ true) × (left ≡ held)) ⊎ ((is_in_d1 new.state ≡ false) × IsRestarted held left) → SettledDoes s old new left before after (settled_entry i n (record { state = q; entry = a }) r held.doubts c)
acted s old new held left before after i n x q a r c side other comes fits st does kept =
    let acts = acts_by i q a (packet_fault i n c r) r held.doubts c other (subst (λ q. comes_from a q ≡ true) st.rest.state comes) in
    let entry : is_entry a r.side (packet_class r.packet) c.state ≡ true = subst (λ (v : Side × ChannelState). is_entry a v.0 (packet_class r.packet) v.1 ≡ true) (λ j. (side j, st.rest.state j)) fits in
    let reached = by_entry i q r a (packet_fault i n c r) c entry st.reached in
    let rested = does (at_rest c) (same c (at_rest c) refl refl refl st.reached) st.rest in
    elim kept [
      | inl (d1, same) ↦ subst (λ v. SettledDoes s old new v before after (settled_entry i n (record { state = q; entry = a }) r held.doubts c)) (sym same) (acted_within s old new held before after _ _ c _ acts st rested reached d1)
      | inr (outside, none) ↦ acted_outside s old new held left before after _ _ c _ acts st rested reached outside none
    ]

-- a packet that changes the counts alone
pub controlled : {U : Type 0} (u : U) (s : EventOrigin) (old : Known) (held left : InDoubt) (before : List Event) (x : Side) (q : StateName) (b : Doubts) (c : Channel) (o : SettledOutcome) → RepresentsSettled old held c → is_in_d1 old.state ≡ true →
    IsControlled (Ok u) old.terms.interface x q left b c o → SettledDoes s old old left before before o
controlled u s old held left before x q b c o st d1 (e, is, rest, numbers, sequences) =
    let here : is_in_d1 e.state ≡ true = ap (λ d. is_in_d1 d.state) rest ∙ ap (λ q. is_in_d1 q) (sym st.rest.state) ∙ d1 in
    subst (λ p. SettledDoes s old old left before before p) (sym is) (record {
      interface = refl;
      channel = refl;
      doubts = doubts_of_d1 e.state left.doubts here;
      represented = record {
        rest = subst (λ d. StatusRepresents old d) (sym rest) st.rest;
        reached = same c e (ap (λ d. d.opening) rest) (ap (λ d. d.accepting) rest) (ap (λ d. d.state) rest) st.reached;
        numbers = numbers;
        sequences = sequences;
        outside = λ f. absurd (true≢false (sym here ∙ f));
      };
      reports = sym (append-nil before);
    })

-- the results of the counts
counted_is : {U : Type 0} (r : Result U ℕ) (i : Interface) (x : Side) (q : StateName) (new : InDoubt) (b after : Doubts) (a : Result Counts ℕ) (d c : Channel) → at_rest d ≡ at_rest c → OnOk r (new.doubts ≡ after) → IsCountedInDoubt r i new a d →
    IsControlled r i x q new b c (counting_in_doubt x q a b after d c)
counted_is (Ok u) i x q new b after a d c rest doubts (v, is, numbers, sequences) =
    (with_counts v d, ap (λ r. counting_in_doubt x q r b after d c) is ∙ ap (λ e. record { outcome = report_nothing (with_counts v d); doubts = e }) (sym doubts), rest, numbers, sequences)
counted_is (Err e) i x q new b after a d c rest doubts is = ap (λ r. counting_in_doubt x q r b after d c) is

interrupt_at_rest : (b : Bool) (x : Side) (u : Bool) (c : Channel) → at_rest (with_interrupt b x u c) ≡ at_rest c
interrupt_at_rest true x u c = refl
interrupt_at_rest false x u c = refl

pub interrupts : {U : Type 0} (r : Result U ℕ) (i : Interface) (x : Side) (q : StateName) (s new : InDoubt) (c : Channel) → OnOk r (new.doubts ≡ record s.doubts { interrupts = with_side x false s.doubts.interrupts }) →
    IsCountedInDoubt r i new (count_interrupt (counts_of (with_interrupt (of_side x s.doubts.interrupts) x false c)) x) (with_interrupt (of_side x s.doubts.interrupts) x false c) → IsControlled r i x q new s.doubts c (interrupt_in_doubt x q s.doubts c)
interrupts r i x q s new c doubts counted =
    let d : Channel = with_interrupt (of_side x s.doubts.interrupts) x false c in
    counted_is r i x q new s.doubts (record s.doubts { interrupts = with_side x false s.doubts.interrupts }) (count_interrupt (counts_of d) x) d c (interrupt_at_rest (of_side x s.doubts.interrupts) x false c) doubts counted

pub confirms : {U : Type 0} (r : Result U ℕ) (i : Interface) (x : Side) (q : StateName) (s new : InDoubt) (c : Channel) → OnOk r (new.doubts ≡ record s.doubts { interrupts = with_side (other x) false s.doubts.interrupts }) →
    IsCountedInDoubt r i new (count_confirm (counts_of (with_interrupt (of_side (other x) s.doubts.interrupts) (other x) true c)) x) (with_interrupt (of_side (other x) s.doubts.interrupts) (other x) true c) → IsControlled r i x q new s.doubts c (confirmation_in_doubt x q s.doubts c)
confirms r i x q s new c doubts counted =
    let d : Channel = with_interrupt (of_side (other x) s.doubts.interrupts) (other x) true c in
    counted_is r i x q new s.doubts (record s.doubts { interrupts = with_side (other x) false s.doubts.interrupts }) (count_confirm (counts_of d) x) d c (interrupt_at_rest (of_side (other x) s.doubts.interrupts) (other x) true c) doubts counted

on_ok : {U : Type 0} (r : Result U ℕ) (P : Type 0) → P → OnOk r P
on_ok (Ok u) P p = p
on_ok (Err e) P p = tt

pub receives : {U : Type 0} (r : Result U ℕ) (i : Interface) (x : Side) (q : StateName) (n : ℕ) (s new : InDoubt) (c : Channel) → new.doubts ≡ s.doubts →
    IsCountedInDoubt r i new (count_receive i.modulus (counts_of (completed_for_receive i.modulus s.doubts x n c)) x n) (completed_for_receive i.modulus s.doubts x n c) → IsControlled r i x q new s.doubts c (receive_in_doubt i.modulus x q (Some n) s.doubts c)
receives r i x q n s new c doubts counted =
    let d : Channel = completed_for_receive i.modulus s.doubts x n c in
    counted_is r i x q new s.doubts s.doubts (count_receive i.modulus (counts_of d) x n) d c (rest_completed i.modulus (of_side (other x) s.doubts.numbers) (other x) n c) (on_ok r (new.doubts ≡ s.doubts) doubts) counted

pub receives_none : {U : Type 0} (u : U) (i : Interface) (x y : Side) (q : StateName) (s : InDoubt) (c : Channel) → NumbersRepresent i.modulus s c → SequencesRepresent i s c → IsControlled (Ok u) i x q s s.doubts c (receive_in_doubt i.modulus y q None s.doubts c)
receives_none u i x y q s c numbers sequences = (c, refl, refl, numbers, sequences)

-- every other packet of data transfer has its P(R) counted
pub other_controls : (i : Interface) (q : StateName) (k : Class) (r : Item) (b : Doubts) (c : Channel) → (k ≡ Data → ⊥) → (k ≡ Interrupt → ⊥) → (k ≡ InterruptConfirm → ⊥) → receive_in_doubt i.modulus r.side q (receive_in r.packet) b c ≡ transferring_in_doubt i q k r b c
other_controls i q Data r b c d e f = absurd (d refl)
other_controls i q Interrupt r b c d e f = absurd (e refl)
other_controls i q InterruptConfirm r b c d e f = absurd (f refl)
other_controls i q k r b c d e f = refl

-- P(R) of a packet that is no data
other_receive_by : (o : Option DataHeader) (n : Option ℕ) → is_some o ≡ false → receive_by o n ≡ n
other_receive_by None n e = refl
other_receive_by (Some h) n e = absurd (true≢false e)

pub other_receive : (p : Packet) → (packet_class p ≡ Data → ⊥) → receive_by (header_in p) (receive_in p) ≡ receive_in p
other_receive p other = by (is_some (header_in p)) refl
  where
    by : (b : Bool) → is_some (header_in p) ≡ b → receive_by (header_in p) (receive_in p) ≡ receive_in p
    by true e = absurd (other (header_class p e))
    by false e = other_receive_by (header_in p) (receive_in p) e

-- a packet of data transfer is none of a call
pub no_call : (k : Class) → is_transfer k ≡ true → is_call k ≡ false
no_call class.TheVariants.Call e = absurd (true≢false (sym e))
no_call class.TheVariants.Accepted e = absurd (true≢false (sym e))
no_call k e = refl

-- its fault is that of its format
format_is : (i : Interface) (n : ℕ) (c : Channel) (x : Side) (k : Class) (long : ℕ) (xs : List ℕ) → is_transfer k ≡ true → or_other (direction_fault i n x k) (format_fault i c x k long xs) ≡ format_fault i c x k long xs
format_is i n c x class.TheVariants.Call long xs e = absurd (true≢false (sym e))
format_is i n c x k long xs e = refl

pub transfer_fault : (i : Interface) (n : ℕ) (c : Channel) (r : Item) (x : Side) (k : Class) (long : ℕ) (o : Option ℕ) → x ≡ r.side → k ≡ packet_class r.packet → long ≡ r.length → is_transfer (packet_class r.packet) ≡ true →
    o ≡ format_fault i (at_rest c) x k long r.octets → o ≡ packet_fault i n c r
transfer_fault i n c r x k long o side of_class of_length e is =
    is ∙ (λ j. format_fault i (at_rest c) (side j) (of_class j) (of_length j) r.octets) ∙ sym (format_is i n c r.side (packet_class r.packet) r.length r.octets e)

-- a row by its entry
pub row_of : (i : Interface) (n : ℕ) (x : Side) (k : Class) (q : StateName) (a e : Action) (r : Item) (b : Doubts) (c : Channel) → record { state = q; entry = a } ≡ judged (is_permanent i n) x c.state c.owed k →
    x ≡ r.side → k ≡ packet_class r.packet → a ≡ e → settled_entry i n (record { state = q; entry = e }) r b c ≡ settled_row i n r b c
row_of i n x k q a e r b c is side class entry =
    ap (λ v. settled_entry i n (record { state = q; entry = v }) r b c) (sym entry)
    ∙ ap (λ v. settled_entry i n v r b c) (is ∙ (λ j. judged (is_permanent i n) (side j) c.state c.owed (class j)))
