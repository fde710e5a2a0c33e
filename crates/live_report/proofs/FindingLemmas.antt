-- The findings of a walk, with one more row.
use Rattle.std.proofs.Common.{◌≡◌, ◌∙◌, sym, ap, refl, ℕ, Bool, true, false, ◌&&◌, List, [], ◌∷◌, ◌++◌, map, append-nil, subst, Option, Some, None}
use Rattle.std.specs.List.{flat_map}
use Rattle.std.specs.Option.{option_to_list}
use Rattle.std.proofs.lemmas.List.{map-append}
use Rattle.std.proofs.lemmas.List.Elements.{filter_map-append}
use Rattle.line_model.specs.declared.interface.Interface.{Interface}
use Rattle.line_model.specs.declared.finding.Finding.{Finding}
use Rattle.line_model.specs.declared.event.What.{What}
use Rattle.line_model.specs.declared.route.Route.{Route}
use Rattle.line_model.specs.declared.route.Route.TheVariants.{ToChannel, Leave, Enter, Renew, Found, Pass}
use Rattle.line_model.specs.basics.Records.{Item}
use Rattle.line_model.specs.channels.GapRestart.{GapInterfaceState, is_of_all, is_ready, routing}
use Rattle.line_model.specs.declared.event.How.{How}
use Rattle.line_model.specs.channels.Channels.{is_open}
use Rattle.line_model.specs.channels.Gaps.{GapChannel, fresh_at}
use Rattle.line_model.specs.observer.Machine.{Observer, renewed, steps_all}
use Rattle.line_model.specs.observer.MachineEvents.{RowEvent, stamp, closed_events, ended_events, row_events as all_row_events, row_events_by, walk_events}
use Rattle.line_model.specs.observer.Observer.{x25, start, row_step, route_found, epoch_end_if, epoch_end, end_of_epoch, is_confirmation, event_of, events}
use Rattle.line_model.specs.pieces.Pieces.{step_rows}
use Rattle.line_model.specs.pieces.Plans.{single_gaps}
use Rattle.line_model.specs.observer.Report.{findings_of, report_of}
use Rattle.restart_epochs.specs.OpenRows.{OpenRows}
use Rattle.restart_epochs.specs.Cutting.{Cutting, Represents as IsCutterOf, items_if, items_out, observer, places}
use Rattle.restart_epochs.specs.declared.walk.EpochWalk.{EpochWalk}
use Rattle.restart_epochs.specs.declared.walk.Step.{Step}
use Rattle.restart_epochs.specs.Walks.{passed, route_finding, effect_of, IsStep}
use Rattle.restart_epochs.proofs.LevelFindings.{events_append, found_here}
use Rattle.restart_epochs.proofs.Routes.{is_to_channel}
use Rattle.restart_epochs.proofs.Steps.{in_r1_alone, on_channel, routed_to, routed_none}
use Rattle.restart_epochs.proofs.States.{after_rows, states_of}
use Rattle.channel_run.specs.Run.{row_events}
use Rattle.channel_run.specs.Live.{channel_after, channel_so_far}
use Rattle.live_report.specs.OpenChannels.{begun_piece}
use Rattle.live_report.specs.Observing.{epoch_at, open_piece}
use Rattle.live_report.specs.Effects.{FindsAt, FindsBy, epoch_of, reached_piece}
use Rattle.live_report.proofs.GapLemmas.{after_single}
use Rattle.line_model.specs.packets.Says.{gap_of, packet_channel}
use Rattle.line_model.specs.basics.Bounds.{IsSaid}

pub findings_append : (us vs : List (RowEvent Item What)) → findings_of (map event_of (us ++ vs)) ≡ findings_of (map event_of us) ++ findings_of (map event_of vs)
findings_append us vs = ap findings_of (map-append event_of us vs) ∙ filter_map-append _ (map event_of us) (map event_of vs)

-- what one more row finds comes after
found_more : (i : Interface) (rs : List Item) (r : Item) → findings_of (events i (rs ++ r ∷ [])) ≡ findings_of (events i rs) ++ findings_of (map event_of (all_row_events (x25 i) (observer i rs) r))
found_more i rs r =
    let o = observer i rs in
    ap (λ l. findings_of (map event_of l)) (events_append (x25 i) (start i) rs (r ∷ []))
    ∙ findings_append (walk_events (x25 i) (start i) rs) (all_row_events (x25 i) o r ++ [])
    ∙ ap (λ l. findings_of (events i rs) ++ findings_of (map event_of l)) (append-nil (all_row_events (x25 i) o r))

-- the end of a call is no finding
end_found : (e k : ℕ) (r : Item) (b : Bool) (how : How) → findings_of (map event_of (stamp e (Some k) r (epoch_end_if b how))) ≡ []
end_found e k r true how = refl
end_found e k r false how = refl

ends_found : (i : Interface) (o : Observer GapInterfaceState GapChannel) (r : Item) (ks : List ℕ) → findings_of (map event_of (flat_map (λ k. stamp o.epoch (Some k) r (epoch_end (o.states k) r)) ks)) ≡ []
ends_found i o r [] = refl
ends_found i o r (k ∷ ks) =
    findings_append (stamp o.epoch (Some k) r (epoch_end (o.states k) r)) (flat_map (λ j. stamp o.epoch (Some j) r (epoch_end (o.states j) r)) ks)
    ∙ ap (λ l. l ++ findings_of (map event_of (flat_map (λ j. stamp o.epoch (Some j) r (epoch_end (o.states j) r)) ks))) (end_found o.epoch k r (is_open (o.states k).channel) (end_of_epoch ((o.states k).restarting && is_confirmation r)))
    ∙ ends_found i o r ks

closed_found : (i : Interface) (o : Observer GapInterfaceState GapChannel) (r : Item) (b a : Bool) → findings_of (map event_of (closed_events (x25 i) o r b a)) ≡ []
closed_found i o r true false = ends_found i o r (x25 i).channels
closed_found i o r true true = refl
closed_found i o r false a = refl

ended_found : (i : Interface) (o : Observer GapInterfaceState GapChannel) (r : Item) (v : Bool) → findings_of (map event_of (ended_events (x25 i) o r v)) ≡ []
ended_found i o r true = closed_found i o r true false
ended_found i o r false = closed_found i o r (is_ready o.level) (is_ready (routing o.level r).after)

-- whether it steps each channel, or none
level_found : (i : Interface) (o : Observer GapInterfaceState GapChannel) (r : Item) (all : Bool) → findings_of (map event_of (row_events_by (x25 i) o r all None)) ≡ route_finding r (routing o.level r).route
level_found i o r true = found_here o.epoch r (routing o.level r).route
level_found i o r false =
    let own = stamp o.epoch None r (route_found r (routing o.level r).route) in
    let ended = ended_events (x25 i) o r (renewed (x25 i) o.level r) in
    findings_append own ended
    ∙ ap (λ l. findings_of (map event_of own) ++ l) (ended_found i o r (renewed (x25 i) o.level r))
    ∙ append-nil (findings_of (map event_of own))
    ∙ found_here o.epoch r (routing o.level r).route

pub found_on_level : (i : Interface) (rs : List Item) (c : Cutting) (r : Item) → IsCutterOf i rs c → is_to_channel (routing c.level r).route ≡ false → findings_of (events i (rs ++ r ∷ [])) ≡ findings_of (events i rs) ++ route_finding r (routing c.level r).route
found_on_level i rs c r s to =
    let o = observer i rs in
    let all : Bool = steps_all (x25 i) o.level r in
    found_more i rs r
    ∙ ap (λ l. findings_of (events i rs) ++ l)
    (ap (λ q. findings_of (map event_of (row_events_by (x25 i) o r all q))) (routed_none i o.level r (ap (λ l. is_to_channel (routing l r).route) (sym s.level) ∙ to))
    ∙ level_found i o r all
    ∙ ap (λ l. route_finding r (routing l r).route) (sym s.level))

-- the channel of the rows of a piece
same_channel : (i : Interface) (k : ℕ) (c : GapChannel) (rs : List Item) → channel_after i k c rs ≡ after_rows i k c rs
same_channel i k c [] = refl
same_channel i k c (r ∷ rs) = same_channel i k (row_step i k c r).after rs

-- in r1 the state of a channel is that of its piece in the open epoch, up to the last gap of all channels
pub state_here : (i : Interface) (rs : List Item) (c : Cutting) (k : ℕ) → IsCutterOf i rs c → is_ready (observer i rs).level ≡ true → (observer i rs).states k ≡ channel_so_far (open_piece c k)
state_here i rs c k s ready =
    let o = observer i rs in
    let steps : List Item = step_rows (x25 i) o.epoch k (places i rs) in
    let items : items_out c.gap c.open_rows k ≡ single_gaps steps = s.items k ∙ ap (λ b. items_if b i (places i rs) o.epoch k) ready in
    states_of i rs ready k
    ∙ ap (λ b. after_rows i k (fresh_at i b o.epoch k) steps) (sym s.start)
    ∙ sym (same_channel i k (fresh_at i c.start o.epoch k) steps)
    ∙ sym (after_single i k (fresh_at i c.start o.epoch k) steps)
    ∙ ap (channel_after i k (fresh_at i c.start o.epoch k)) (sym items)
    ∙ (λ t. channel_so_far (begun_piece (record { interface = sym s.interface t; number = sym s.epoch t; start = c.start }) k (items_out c.gap c.open_rows k)))

-- the piece of a channel in the open epoch of a walk
pub reached_is : {B : Type 0} → (c : Cutting) (v : EpochWalk B) (gap k : ℕ) → epoch_of v ≡ epoch_at c → gap ≡ c.gap → reached_piece v gap k c.open_rows ≡ open_piece c k
reached_is c v gap k same same_gap = λ t. begun_piece (same t) k (items_out (same_gap t) c.open_rows k)

-- the events of a row on its channel, by the rows of the open epoch
pub events_on : (i : Interface) (rs : List Item) (c : Cutting) (r : Item) → IsCutterOf i rs c → is_to_channel (routing c.level r).route ≡ true
    → row_events i (observer i rs).epoch (packet_channel r.packet) ((observer i rs).states (packet_channel r.packet)) r
    ≡ row_events c.interface c.epoch (packet_channel r.packet) (channel_so_far (open_piece c (packet_channel r.packet))) r
events_on i rs c r s to =
    let on = on_channel i rs r (ap (λ l. is_to_channel (routing l r).route) (sym s.level) ∙ to) in
    let state = state_here i rs c (packet_channel r.packet) s on.ready in
    (λ t. row_events (sym s.interface t) (sym s.epoch t) (packet_channel r.packet) (state t) r)

pub found_on_channel : (i : Interface) (rs : List Item) (c : Cutting) (r : Item) → IsCutterOf i rs c → is_to_channel (routing c.level r).route ≡ true
    → findings_of (events i (rs ++ r ∷ [])) ≡ findings_of (events i rs) ++ findings_of (row_events c.interface c.epoch (packet_channel r.packet) (channel_so_far (open_piece c (packet_channel r.packet))) r)
found_on_channel i rs c r s to =
    let o = observer i rs in
    let here = ap (λ l. is_to_channel (routing l r).route) (sym s.level) ∙ to in
    found_more i rs r
    ∙ ap (λ l. findings_of (events i rs) ++ l)
    ((λ j. findings_of (map event_of (row_events_by (x25 i) o r (in_r1_alone i o.level r here j) (routed_to i o.level r here j)))) ∙ ap findings_of (events_on i rs c r s to))

-- ---- what a call returns

-- a row that is passed finds what the restart machine does
passed_finds : {B : Type 0} → (of_all : Bool) (level found : Option Finding) (v : EpochWalk B) (gap : ℕ) (rows : OpenRows) (r : Item) → FindsAt (passed of_all) level v gap rows r found → found ≡ level
passed_finds true level found v gap rows r h = h
passed_finds false level found v gap rows r h = h

pub finds_after : {B : Type 0} → (i : Interface) (rs : List Item) (c : Cutting) (item : Item) (step : Step) (v : EpochWalk B) (gap : ℕ) (found : Option Finding) → IsCutterOf i rs c → IsSaid c.interface item → IsStep c.level c.epoch item step
    → epoch_of v ≡ epoch_at c → gap ≡ c.gap → FindsBy step v gap c.open_rows item found → (report_of i (rs ++ item ∷ [])).findings ≡ (report_of i rs).findings ++ option_to_list found
finds_after i rs c item step v gap found s packet is same same_gap h =
    at (routing c.level item).route refl (subst (λ t. FindsAt t step.finding v gap c.open_rows item found) is.effect h)
  where
    r : Item
    r = item

    on_level : (q : Route) → (routing c.level item).route ≡ q → is_to_channel q ≡ false → found ≡ step.finding → findings_of (events i (rs ++ r ∷ [])) ≡ findings_of (events i rs) ++ option_to_list found
    on_level q e to same =
        found_on_level i rs c r s (ap is_to_channel e ∙ to)
        ∙ ap (λ l. findings_of (events i rs) ++ l) (sym (ap option_to_list same ∙ is.finding))

    at : (q : Route) → (routing c.level item).route ≡ q → FindsAt (effect_of r.packet q) step.finding v gap c.open_rows r found → findings_of (events i (rs ++ r ∷ [])) ≡ findings_of (events i rs) ++ option_to_list found
    at ToChannel e f =
        found_on_channel i rs c r s (ap is_to_channel e)
        ∙ ap (λ l. findings_of (events i rs) ++ l)
        (sym (f ∙ (λ t. (let p = reached_is c v gap (packet_channel r.packet) same same_gap t in findings_of (row_events p.interface p.epoch p.channel (channel_so_far p) r)))))
    at (Leave code) e f = on_level (Leave code) e refl f
    at Enter e f = on_level Enter e refl f
    at Renew e f = on_level Renew e refl f
    at (Found state code) e f = on_level (Found state code) e refl f
    at Pass e f = on_level Pass e refl (passed_finds (is_of_all (gap_of r.packet)) step.finding found v gap c.open_rows r f)
