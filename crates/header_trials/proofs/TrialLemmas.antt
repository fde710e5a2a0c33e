-- What one more row does to the observer of a header, and what it counts.
use Rattle.std.proofs.Common.{◌≡◌, ◌≢◌, ◌∙◌, sym, ap, subst, refl, ℕ, ◌+◌, ◌≤◌, ◌&&◌, Bool, true, false, not, cond, inl, List, [], ◌∷◌, ◌++◌, map, length, sum, Option, Some, None, arith, append-nil, append_assoc, length-append, sum_by}
use Rattle.std.specs.List.{filter_map, flat_map}
use Rattle.std.specs.Option.{option_to_list}
use Rattle.std.specs.Prelude.{IfSome}
use Rattle.std.proofs.lemmas.Bool.{and_parts, false_from_ne_true, false≢true}
use Rattle.std.proofs.lemmas.List.{map-append}
use Rattle.std.proofs.lemmas.List.Elements.{filter_map-append}
use Rattle.std.proofs.lemmas.List.Sums.{sum_by-append}
use Rattle.line_model.specs.declared.interface.Interface.{Interface}
use Rattle.line_model.specs.declared.event.Event.{Event}
use Rattle.line_model.specs.declared.finding.Finding.{Finding}
use Rattle.line_model.specs.declared.route.Route.{Route}
use Rattle.line_model.specs.declared.route.Route.TheVariants.{ToChannel, Leave, Enter, Renew, Found, Pass}
use Rattle.line_model.specs.basics.Records.{Item}
use Rattle.line_model.specs.declared.event.How.{How}
use Rattle.line_model.specs.declared.state.RState.{RState}
use Rattle.line_model.specs.declared.state.RState.TheVariants.{R1, R2, R3}
use Rattle.line_model.specs.channels.Channels.{is_open}
use Rattle.line_model.specs.channels.Gaps.{GapChannel, fresh_at}
use Rattle.line_model.specs.channels.GapRestart.{GapInterfaceState, gap_in, is_of_all, is_ready, routing, routing_by, start_by}
use Rattle.line_model.specs.observer.Machine.{Observer, after, after_by, level_moved, level_stepped, next_epoch, renewed, routed, stays_ready, steps_all, walk}
use Rattle.line_model.specs.observer.MachineEvents.{stamp, closed_events, ended_events, row_events as all_row_events, row_events_by, walk_events}
use Rattle.line_model.specs.observer.Observer.{x25, start, route_found, epoch_end_if, epoch_end, end_of_epoch, is_confirmation, is_renewal, event_of, events, step_by}
use Rattle.line_model.specs.observer.Report.{findings_of, report_of}
use Rattle.line_model.specs.packets.Classes.{packet_class}
use Rattle.line_model.specs.packets.Says.{gap_of, packet_channel}
use Rattle.channel_run.specs.Run.{row_events}
use Rattle.live_report.specs.Uncounted.{LeftOut, counts_data, has_finding, is_data, left_out, left_out_at, left_out_by, reason_by, reason_of_state, user_octets}
use Rattle.live_report.specs.declared.uncounted.Reason.{Reason}
use Rattle.live_report.specs.declared.uncounted.Reason.TheVariants.{Finding as Finds, Restart as Restarts}
use Rattle.restart_epochs.specs.Cutting.{observer}
use Rattle.restart_epochs.specs.declared.walk.ChannelEffect.TheVariants.{ToAll, ToChannel as GoesToChannel}
use Rattle.line_model.specs.basics.Bounds.{IsItem, IsSaid}
use Rattle.line_model.proofs.PacketClass.{said_no_gap}
use Rattle.channel_run.specs.Views.{is_adrift}
use Rattle.restart_epochs.specs.Walks.{channel_in, epoch_after, passed, route_finding, effect_of, IsStep}
use Rattle.restart_epochs.specs.declared.walk.Step.{Step}
use Rattle.restart_epochs.specs.declared.walk.ChannelEffect.{ChannelEffect}
use Rattle.restart_epochs.proofs.Epochs.{observer_more}
use Rattle.restart_epochs.proofs.KeptLevel.{kept_row}
use Rattle.restart_epochs.proofs.LevelFindings.{events_append, found_here}
use Rattle.restart_epochs.proofs.Routes.{all_passes, is_to_channel, is_leaving, is_quiet, fits, leaves_at, enters_at, quiet_at}
use Rattle.restart_epochs.proofs.Steps.{in_r1_alone, on_channel, routed_to, routed_none, stepped_on}
use Rattle.header_trials.specs.Tried.{events_after, states_after, uncounted_in}

-- ---- the events of one more row

-- the events that the walk over some rows has of the next one
abbrev pub events_at : Interface → List Item → Item → List Event
events_at i rs r = map event_of (all_row_events (x25 i) (observer i rs) r)

events_more : (i : Interface) (rs : List Item) (r : Item) → events i (rs ++ r ∷ []) ≡ events i rs ++ events_at i rs r
events_more i rs r =
    ap (map event_of) (events_append (x25 i) (start i) rs (r ∷ []))
    ∙ map-append event_of (walk_events (x25 i) (start i) rs) (all_row_events (x25 i) (observer i rs) r ++ [])
    ∙ ap (λ l. events i rs ++ map event_of l) (append-nil (all_row_events (x25 i) (observer i rs) r))

left_from : (i : Interface) (o : Observer GapInterfaceState GapChannel) (rs : List Item) (r : Item) → left_out i o (rs ++ r ∷ []) ≡ left_out i o rs ++ left_out_at i (walk (x25 i) o rs) r
left_from i o [] r = append-nil (left_out_at i o r)
left_from i o (x ∷ rs) r =
    ap (λ ds. left_out_at i o x ++ ds) (left_from i (after (x25 i) o x) rs r)
    ∙ sym (append_assoc (left_out_at i o x) (left_out i (after (x25 i) o x) rs) (left_out_at i (walk (x25 i) (after (x25 i) o x) rs) r))

-- ---- what is left out of one more row

-- as many packets as there are lengths, and their octets
pub record IsLeft (ds : List LeftOut) (ns : List ℕ) : Type 0 where
  pub packets : length ds ≡ length ns
  pub octets : sum_by (λ (d : LeftOut). d.octets) ds ≡ sum ns

left_if : (b d f : Bool) (why : Reason) (n : ℕ) → IsLeft (left_out_by (cond b (cond d None (cond f (Some Finds) (Some why))) None) n) (cond (b && not d) (n ∷ []) [])
left_if false d f why n = record { packets = refl; octets = refl }
left_if true true f why n = record { packets = refl; octets = refl }
left_if true false true why n = record { packets = refl; octets = refl }
left_if true false false why n = record { packets = refl; octets = refl }

-- where a logical channel receives the row
left_on : (i : Interface) (o : Observer GapInterfaceState GapChannel) (r : Item) (k : ℕ) → routed (x25 i) o.level r ≡ Some k → IsLeft (left_out_at i o r) (uncounted_in i r (row_events i o.epoch k (o.states k) r))
left_on i o r k to =
    let es : List Event = row_events i o.epoch k (o.states k) r in
    subst (λ q. IsLeft (left_out_by (cond (is_data r.packet) (reason_by i q o r) None) (user_octets i r.length)) (uncounted_in i r es)) (sym to)
    (left_if (is_data r.packet) (counts_data es) (has_finding es) (reason_of_state (o.states k).channel.state (is_adrift (o.states k).certainty) (o.states k).channel.owed) (user_octets i r.length))

left_in_restart : (b : Bool) (n : ℕ) → IsLeft (left_out_by (cond b (Some Restarts) None) n) (cond (b && true) (n ∷ []) [])
left_in_restart true n = record { packets = refl; octets = refl }
left_in_restart false n = record { packets = refl; octets = refl }

-- where none receives it
left_untaken : (i : Interface) (o : Observer GapInterfaceState GapChannel) (r : Item) → routed (x25 i) o.level r ≡ None → IsLeft (left_out_at i o r) (uncounted_in i r [])
left_untaken i o r to =
    subst (λ q. IsLeft (left_out_by (cond (is_data r.packet) (reason_by i q o r) None) (user_octets i r.length)) (uncounted_in i r [])) (sym to)
    (left_in_restart (is_data r.packet) (user_octets i r.length))

-- ---- the end of calls, where r1 is left, is no finding

ends_none : {X : Type 0} → (f : Event → Option X) → ((e k : ℕ) (r : Item) (b : Bool) (how : How) → filter_map f (map event_of (stamp e (Some k) r (epoch_end_if b how))) ≡ []) → (o : Observer GapInterfaceState GapChannel) (r : Item) (ks : List ℕ)
    → filter_map f (map event_of (flat_map (λ k. stamp o.epoch (Some k) r (epoch_end (o.states k) r)) ks)) ≡ []
ends_none f none o r [] = refl
ends_none f none o r (k ∷ ks) =
    let own = stamp o.epoch (Some k) r (epoch_end (o.states k) r) in
    let rest = flat_map (λ j. stamp o.epoch (Some j) r (epoch_end (o.states j) r)) ks in
    ap (filter_map f) (map-append event_of own rest)
    ∙ filter_map-append f (map event_of own) (map event_of rest)
    ∙ ap (λ l. l ++ filter_map f (map event_of rest)) (none o.epoch k r (is_open (o.states k).channel) (end_of_epoch ((o.states k).restarting && is_confirmation r)))
    ∙ ends_none f none o r ks

closed_none : {X : Type 0} → (f : Event → Option X) → ((e k : ℕ) (r : Item) (b : Bool) (how : How) → filter_map f (map event_of (stamp e (Some k) r (epoch_end_if b how))) ≡ []) → (i : Interface) (o : Observer GapInterfaceState GapChannel) (r : Item) (b a : Bool)
    → filter_map f (map event_of (closed_events (x25 i) o r b a)) ≡ []
closed_none f none i o r true false = ends_none f none o r (x25 i).channels
closed_none f none i o r true true = refl
closed_none f none i o r false a = refl

end_found : (e k : ℕ) (r : Item) (b : Bool) (how : How) → findings_of (map event_of (stamp e (Some k) r (epoch_end_if b how))) ≡ []
end_found e k r true how = refl
end_found e k r false how = refl

ended_none : (i : Interface) (o : Observer GapInterfaceState GapChannel) (r : Item) (v : Bool) → findings_of (map event_of (ended_events (x25 i) o r v)) ≡ []
ended_none i o r true = closed_none _ end_found i o r true false
ended_none i o r false = closed_none _ end_found i o r (is_ready o.level) (is_ready (routing o.level r).after)

-- ---- by the step of a row

-- what one more row leaves, and its events
pub record Steps (i : Interface) (rs : List Item) (r : Item) (step : Step) : Type 0 where
  pub level : (observer i (rs ++ r ∷ [])).level ≡ step.machine
  pub epoch : (observer i (rs ++ r ∷ [])).epoch ≡ step.epoch
  pub states : step.epoch ≡ (observer i rs).epoch → (k : ℕ) → (observer i (rs ++ r ∷ [])).states k ≡ states_after step.effect i (observer i rs).states r k
  pub renewed : step.epoch ≢ (observer i rs).epoch → (k : ℕ) → (observer i (rs ++ r ∷ [])).states k ≡ fresh_at i (start_by step.machine) step.epoch k
  pub next : step.epoch ≤ (observer i rs).epoch + 1
  pub found : findings_of (events_at i rs r) ≡ option_to_list step.finding ++ findings_of (events_after step.effect i (observer i rs).epoch (observer i rs).states r)
  pub left : IsLeft (left_out_at i (observer i rs) r) (uncounted_in i r (events_after step.effect i (observer i rs).epoch (observer i rs).states r))

-- an effect on no channel
abbrev IsQuietEffect : Interface → Observer GapInterfaceState GapChannel → Item → ChannelEffect → Type 0
IsQuietEffect i o r t = (states_after t i o.states r ≡ o.states) × (events_after t i o.epoch o.states r ≡ [])

same_moved : (i : Interface) (o : Observer GapInterfaceState GapChannel) (l : GapInterfaceState) (b : Bool) → level_moved (x25 i) o l b b ≡ record { epoch = o.epoch; level = l; states = o.states }
same_moved i o l true = refl
same_moved i o l false = refl

-- a gap of all channels that is passed finds r1
gap_in_r1 : (g : GapInterfaceState) (s : RState) → (gap_in s g).route ≡ Pass → is_ready (record g { level = record g.level { state = s } }) ≡ true
gap_in_r1 g R1 e = refl
gap_in_r1 g R2 e = absurd cc
gap_in_r1 g R3 e = absurd cc

of_all : (gap : Option (Option ℕ)) → is_of_all gap ≡ true → gap ≡ Some None
of_all (Some None) h = refl
of_all (Some (Some c)) h = absurd (false≢true h)
of_all None h = absurd (false≢true h)

passed_in_r1 : (g : GapInterfaceState) (r : Item) → is_of_all (gap_of r.packet) ≡ true → (routing g r).route ≡ Pass → is_ready g ≡ true
passed_in_r1 g r h e = gap_in_r1 g g.level.state (ap (λ o. (routing_by o g r.side (packet_class r.packet) r.length).route) (sym (of_all (gap_of r.packet) h)) ∙ e)

-- only a gap of all channels that is passed steps each channel
abbrev is_pass : Route → Bool
is_pass Pass = true
is_pass _ = false

steps_one : (i : Interface) (g : GapInterfaceState) (r : Item) → is_pass (routing g r).route ≡ false → steps_all (x25 i) g r ≡ false
steps_one i g r h = false_from_ne_true (steps_all (x25 i) g r) (λ all.
    let w = and_parts (is_of_all (gap_of r.packet)) (stays_ready (x25 i) g r) all in
    false≢true (sym h ∙ ap is_pass (all_passes g r w.0 (and_parts (is_ready g) (is_ready (routing g r).after) w.1).0)))

pub steps : (i : Interface) (rs : List Item) (r : Item) (level : GapInterfaceState) (epoch : ℕ) (step : Step) → level ≡ (observer i rs).level → epoch ≡ (observer i rs).epoch → IsStep level epoch r step → Steps i rs r step
steps i rs r level epoch step same_level same_epoch is = at (routing o.level r).route refl
  where
    o : Observer GapInterfaceState GapChannel
    o = observer i rs

    l : GapInterfaceState
    l = (routing o.level r).after

    now : Observer GapInterfaceState GapChannel
    now = observer i (rs ++ r ∷ [])

    machine : step.machine ≡ l
    machine = is.machine ∙ ap (λ m. (routing m r).after) same_level

    effect : (q : Route) → (routing o.level r).route ≡ q → step.effect ≡ effect_of r.packet q
    effect q e = is.effect ∙ ap (λ m. effect_of r.packet (routing m r).route) same_level ∙ ap (effect_of r.packet) e

    epoch_is : (q : Route) → (routing o.level r).route ≡ q → step.epoch ≡ epoch_after o.epoch q
    epoch_is q e = is.epoch ∙ ap (λ m. epoch_after epoch (routing m r).route) same_level ∙ ap (epoch_after epoch) e ∙ ap (λ n. epoch_after n q) same_epoch

    finding : (q : Route) → (routing o.level r).route ≡ q → option_to_list step.finding ≡ route_finding r q
    finding q e = is.finding ∙ ap (λ m. route_finding r (routing m r).route) same_level ∙ ap (route_finding r) e

    on_its_channel : (routing o.level r).route ≡ ToChannel → Steps i rs r step
    on_its_channel e =
        let to : is_to_channel (routing o.level r).route ≡ true = ap is_to_channel e in
        let on = on_channel i rs r to in
        let goes = routed_to i o.level r to in
        let moved = observer_more i rs r ∙ stepped_on i o r to in
        let kept = kept_row o.level r to in
        let same : step.epoch ≡ o.epoch = epoch_is ToChannel e in
        let here = effect ToChannel e in
        record {
          level = on.level ∙ sym (machine ∙ kept);
          epoch = on.epoch ∙ sym same;
          states = λ s k. ap (λ q. q.states k) moved ∙ ap (λ t. states_after t i o.states r k) (sym here);
          renewed = λ ne k. absurd (ne same);
          next = omega (arith, same);
          found = (λ j. findings_of (map event_of (row_events_by (x25 i) o r (in_r1_alone i o.level r to j) (goes j)))) ∙ ap (λ t. findings_of (events_after t i o.epoch o.states r)) (sym here)
              ∙ ap (λ es. es ++ findings_of (events_after step.effect i o.epoch o.states r)) (sym (finding ToChannel e));
          left = subst (λ t. IsLeft (left_out_at i o r) (uncounted_in i r (events_after t i o.epoch o.states r))) (sym here) (left_on i o r (packet_channel r.packet) goes);
        }

    -- a row that goes to no channel
    alone : is_to_channel (routing o.level r).route ≡ false → steps_all (x25 i) o.level r ≡ false → now ≡ level_stepped (x25 i) o r (renewed (x25 i) o.level r)
    alone to one = observer_more i rs r ∙ (λ j. after_by (x25 i) o r (one j) (routed_none i o.level r to j))

    -- its events
    found_on_level : (q : Route) → (routing o.level r).route ≡ q → is_to_channel (routing o.level r).route ≡ false → steps_all (x25 i) o.level r ≡ false → findings_of (events_at i rs r) ≡ option_to_list step.finding
    found_on_level q e to one =
        let own = stamp o.epoch None r (route_found r (routing o.level r).route) in
        let ended = ended_events (x25 i) o r (renewed (x25 i) o.level r) in
        (λ j. findings_of (map event_of (row_events_by (x25 i) o r (one j) (routed_none i o.level r to j))))
        ∙ ap findings_of (map-append event_of own ended) ∙ filter_map-append _ (map event_of own) (map event_of ended)
        ∙ ap (λ es. findings_of (map event_of own) ++ es) (ended_none i o r (renewed (x25 i) o.level r))
        ∙ append-nil (findings_of (map event_of own))
        ∙ found_here o.epoch r (routing o.level r).route ∙ ap (route_finding r) e ∙ sym (finding q e)

    stays : (q : Route) → (routing o.level r).route ≡ q → is_to_channel q ≡ false → steps_all (x25 i) o.level r ≡ false → now ≡ record { epoch = o.epoch; level = l; states = o.states } → step.epoch ≡ o.epoch → IsQuietEffect i o r step.effect → Steps i rs r step
    stays q e goes one moved same quiet =
        let to : is_to_channel (routing o.level r).route ≡ false = ap is_to_channel e ∙ goes in
        record {
          level = ap (λ n. n.level) moved ∙ sym machine;
          epoch = ap (λ n. n.epoch) moved ∙ sym same;
          states = λ s k. ap (λ n. n.states k) moved ∙ ap (λ f. f k) (sym quiet.0);
          renewed = λ ne k. absurd (ne same);
          next = omega (arith, same);
          found = found_on_level q e to one ∙ sym (ap (λ es. option_to_list step.finding ++ findings_of es) quiet.1 ∙ append-nil (option_to_list step.finding));
          left = subst (λ es. IsLeft (left_out_at i o r) (uncounted_in i r es)) (sym quiet.1) (left_untaken i o r (routed_none i o.level r to));
        }

    -- the next epoch begins
    begins : (q : Route) → (routing o.level r).route ≡ q → is_to_channel q ≡ false → steps_all (x25 i) o.level r ≡ false → now ≡ next_epoch (x25 i) o l → step.epoch ≡ o.epoch + 1 → IsQuietEffect i o r step.effect → Steps i rs r step
    begins q e goes one moved later quiet =
        let to : is_to_channel (routing o.level r).route ≡ false = ap is_to_channel e ∙ goes in
        record {
          level = ap (λ n. n.level) moved ∙ sym machine;
          epoch = ap (λ n. n.epoch) moved ∙ sym later;
          states = λ s k. absurd (omega (arith, s, later));
          renewed = λ ne k. ap (λ n. n.states k) moved ∙ (λ j. fresh_at i (start_by (sym machine j)) (sym later j) k);
          next = omega (arith, later);
          found = found_on_level q e to one ∙ sym (ap (λ es. option_to_list step.finding ++ findings_of es) quiet.1 ∙ append-nil (option_to_list step.finding));
          left = subst (λ es. IsLeft (left_out_at i o r) (uncounted_in i r es)) (sym quiet.1) (left_untaken i o r (routed_none i o.level r to));
        }

    -- the interface is not renewed
    moved_by : (q : Route) → (routing o.level r).route ≡ q → is_to_channel q ≡ false → steps_all (x25 i) o.level r ≡ false → is_renewal q ≡ false → now ≡ level_moved (x25 i) o l (is_ready o.level) (is_ready l)
    moved_by q e goes one once = alone (ap is_to_channel e ∙ goes) one ∙ ap (λ v. level_stepped (x25 i) o r (v && stays_ready (x25 i) o.level r)) (ap is_renewal e ∙ once)

    quietly : (q : Route) → (routing o.level r).route ≡ q → is_quiet q ≡ true → is_to_channel q ≡ false → steps_all (x25 i) o.level r ≡ false → is_renewal q ≡ false → epoch_after o.epoch q ≡ o.epoch → IsQuietEffect i o r step.effect → Steps i rs r step
    quietly q e quiet goes one once same affected =
        let stay = quiet_at (is_ready o.level) (is_ready l) (routing o.level r).route (ap is_quiet e ∙ quiet) (fits o.level r) in
        stays q e goes one (moved_by q e goes one once ∙ ap (λ b. level_moved (x25 i) o l (is_ready o.level) b) stay ∙ same_moved i o l (is_ready o.level)) (epoch_is q e ∙ same) affected

    one_of : (q : Route) → (routing o.level r).route ≡ q → is_pass q ≡ false → steps_all (x25 i) o.level r ≡ false
    one_of q e other = steps_one i o.level r (ap is_pass e ∙ other)

    -- it is passed, and may be a gap of all channels
    passes : (routing o.level r).route ≡ Pass → (v : Bool) → is_of_all (gap_of r.packet) ≡ v → Steps i rs r step
    passes e false one =
        let here : step.effect ≡ passed false = effect Pass e ∙ ap passed one in
        quietly Pass e refl refl (ap (λ b. b && stays_ready (x25 i) o.level r) one) refl refl (subst (IsQuietEffect i o r) (sym here) (refl, refl))
    passes e true all =
        let ready : is_ready o.level ≡ true = passed_in_r1 o.level r all e in
        let still : is_ready l ≡ is_ready o.level = quiet_at (is_ready o.level) (is_ready l) (routing o.level r).route (ap is_quiet e) (fits o.level r) in
        let each : steps_all (x25 i) o.level r ≡ true = λ j. all j && (ready j && (still ∙ ready) j) in
        let moved = observer_more i rs r ∙ (λ j. after_by (x25 i) o r (each j) (routed (x25 i) o.level r)) in
        let same : step.epoch ≡ o.epoch = epoch_is Pass e in
        let here : step.effect ≡ passed true = effect Pass e ∙ ap passed all in
        let to : is_to_channel (routing o.level r).route ≡ false = ap is_to_channel e in
        record {
          level = ap (λ n. n.level) moved ∙ sym machine;
          epoch = ap (λ n. n.epoch) moved ∙ sym same;
          states = λ s k. ap (λ n. n.states k) moved ∙ ap (λ gap. (step_by gap i k (o.states k) r).after) (of_all (gap_of r.packet) all) ∙ ap (λ t. states_after t i o.states r k) (sym here);
          renewed = λ ne k. absurd (ne same);
          next = omega (arith, same);
          found = (λ j. findings_of (map event_of (row_events_by (x25 i) o r (each j) (routed (x25 i) o.level r)))) ∙ found_here o.epoch r (routing o.level r).route ∙ ap (route_finding r) e ∙ sym (finding Pass e)
              ∙ sym (ap (λ t. option_to_list step.finding ++ findings_of (events_after t i o.epoch o.states r)) here ∙ append-nil (option_to_list step.finding));
          left = subst (λ t. IsLeft (left_out_at i o r) (uncounted_in i r (events_after t i o.epoch o.states r))) (sym here) (left_untaken i o r (routed_none i o.level r to));
        }

    at : (q : Route) → (routing o.level r).route ≡ q → Steps i rs r step
    at ToChannel e = on_its_channel e
    at (Leave code) e =
        let both = leaves_at (is_ready o.level) (is_ready l) (routing o.level r).route (ap is_leaving e) (fits o.level r) in
        let one = one_of (Leave code) e refl in
        stays (Leave code) e refl one (moved_by (Leave code) e refl one refl ∙ (λ t. level_moved (x25 i) o l (both.0 t) ((both.1 ∙ ap is_renewal e) t))) (epoch_is (Leave code) e)
        (subst (IsQuietEffect i o r) (sym (effect (Leave code) e)) (refl, refl))
    at Enter e =
        let both = enters_at (is_ready o.level) (is_ready l) (routing o.level r).route e (fits o.level r) in
        let one = one_of Enter e refl in
        begins Enter e refl one (moved_by Enter e refl one refl ∙ (λ t. level_moved (x25 i) o l (both.0 t) (both.1 t))) (epoch_is Enter e)
        (subst (IsQuietEffect i o r) (sym (effect Enter e)) (refl, refl))
    at Renew e =
        let both = leaves_at (is_ready o.level) (is_ready l) (routing o.level r).route (ap is_leaving e) (fits o.level r) in
        let one = one_of Renew e refl in
        begins Renew e refl one (alone (ap is_to_channel e) one ∙ (λ t. level_stepped (x25 i) o r (is_renewal (e t) && (both.0 t && (both.1 ∙ ap is_renewal e) t)))) (epoch_is Renew e)
        (subst (IsQuietEffect i o r) (sym (effect Renew e)) (refl, refl))
    at (Found state code) e = quietly (Found state code) e refl refl (one_of (Found state code) e refl) refl refl (subst (IsQuietEffect i o r) (sym (effect (Found state code) e)) (refl, refl))
    at Pass e = passes e (is_of_all (gap_of r.packet)) refl

-- ---- what one more row counts

findings_more : (i : Interface) (rs : List Item) (r : Item) → (report_of i (rs ++ r ∷ [])).findings ≡ (report_of i rs).findings ++ findings_of (events_at i rs r)
findings_more i rs r = ap findings_of (events_more i rs r) ∙ filter_map-append _ (events i rs) (events_at i rs r)

pub count_more : (i : Interface) (rs : List Item) (r : Item) → length (report_of i (rs ++ r ∷ [])).findings ≡ length (report_of i rs).findings + length (findings_of (events_at i rs r))
count_more i rs r = ap (λ (l : List Finding). length l) (findings_more i rs r) ∙ length-append (report_of i rs).findings (findings_of (events_at i rs r))

pub packets_more : (i : Interface) (rs : List Item) (r : Item) → length (left_out i (start i) (rs ++ r ∷ [])) ≡ length (left_out i (start i) rs) + length (left_out_at i (observer i rs) r)
packets_more i rs r = ap (λ (l : List LeftOut). length l) (left_from i (start i) rs r) ∙ length-append (left_out i (start i) rs) (left_out_at i (observer i rs) r)

pub octets_more : (i : Interface) (rs : List Item) (r : Item)
    → sum_by (λ (d : LeftOut). d.octets) (left_out i (start i) (rs ++ r ∷ [])) ≡ sum_by (λ (d : LeftOut). d.octets) (left_out i (start i) rs) + sum_by (λ (d : LeftOut). d.octets) (left_out_at i (observer i rs) r)
octets_more i rs r =
    ap (sum_by (λ (d : LeftOut). d.octets)) (left_from i (start i) rs r) ∙ sum_by-append (λ (d : LeftOut). d.octets) (left_out i (start i) rs) (left_out_at i (observer i rs) r)

pub one_uncounted : (i : Interface) (r : Item) (es : List Event) → length (uncounted_in i r es) ≤ 1
one_uncounted i r es = at (is_data r.packet && not (counts_data es))
  where
    at : (b : Bool) → length (cond b (user_octets i r.length ∷ []) []) ≤ 1
    at true = omega arith
    at false = omega arith

pub few_uncounted : (i : Interface) (r : Item) (es : List Event) → sum (uncounted_in i r es) ≤ r.length
few_uncounted i r es = at (is_data r.packet && not (counts_data es))
  where
    at : (b : Bool) → sum (cond b (user_octets i r.length ∷ []) []) ≤ r.length
    at true = omega arith
    at false = omega arith

-- ---- what is needed of a step before it is done

pub item_of_effect : (i : Interface) (item : Item) (level : GapInterfaceState) (epoch : ℕ) (step : Step) → IsSaid i item → IsStep level epoch item step → IfSome (channel_in step.effect) (λ k. IsItem i k item)
item_of_effect i item level epoch step said is = subst (λ t. IfSome (channel_in t) (λ k. IsItem i k item)) (sym is.effect) (at (routing level item).route)
  where
    at : (q : Route) → IfSome (channel_in (effect_of item.packet q)) (λ k. IsItem i k item)
    at ToChannel = record { said = said; channel = inl refl }
    at (Leave code) = tt
    at Enter = tt
    at Renew = tt
    at (Found state code) = tt
    at Pass = passes (is_of_all (gap_of item.packet))
      where
        passes : (v : Bool) → IfSome (channel_in (passed v)) (λ k. IsItem i k item)
        passes true = tt
        passes false = tt

-- a gap of all channels comes where gaps are recorded
pub gap_recorded : (i : Interface) (item : Item) (level : GapInterfaceState) (epoch : ℕ) (step : Step) → IsSaid i item → IsStep level epoch item step → step.effect ≡ ToAll → i.gaps ≡ true
gap_recorded i item level epoch step said is to = recorded i.gaps refl
  where
    passes : (v : Bool) → passed v ≡ ToAll → v ≡ true
    passes true h = refl
    passes false h = absurd cc

    at : (q : Route) → effect_of item.packet q ≡ ToAll → is_of_all (gap_of item.packet) ≡ true
    at ToChannel h = absurd cc
    at (Leave code) h = absurd cc
    at Enter h = absurd cc
    at Renew h = absurd cc
    at (Found state code) h = absurd cc
    at Pass h = passes (is_of_all (gap_of item.packet)) h

    recorded : (v : Bool) → i.gaps ≡ v → i.gaps ≡ true
    recorded true e = e
    recorded false e = absurd (false≢true (sym (ap is_of_all (said_no_gap i item e said)) ∙ at (routing level item).route (sym is.effect ∙ to)))

-- a row is one gap at the most
pub one_gap : (gap : Bool) → cond gap 1 0 ≤ 1
one_gap true = omega arith
one_gap false = omega arith

-- where a row goes to a channel, the restart machine finds nothing
pub none_found : (item : Item) (level : GapInterfaceState) (epoch : ℕ) (step : Step) → IsStep level epoch item step → (k : ℕ) → step.effect ≡ GoesToChannel k → option_to_list step.finding ≡ []
none_found item level epoch step is k e = is.finding ∙ at (routing level item).route (sym is.effect ∙ e)
  where
    at : (q : Route) → effect_of item.packet q ≡ GoesToChannel k → route_finding item q ≡ []
    at ToChannel h = refl
    at (Leave code) h = absurd cc
    at Enter h = refl
    at Renew h = refl
    at (Found state code) h = absurd cc
    at Pass h = refl
