-- The findings of the restart machine, with one more row.
use Rattle.std.proofs.Common.{◌≡◌, ◌∙◌, sym, ap, refl, ℕ, Bool, true, false, List, [], ◌∷◌, ◌++◌, map, true≢false, Some, None, append-nil, append_assoc}
use Rattle.std.specs.List.{filter}
use Rattle.std.proofs.lemmas.List.{map-append}
use Rattle.std.proofs.lemmas.List.Elements.{filter_map-append}
use Rattle.line_model.specs.declared.interface.Interface.{Interface}
use Rattle.line_model.specs.declared.route.Route.{Route}
use Rattle.line_model.specs.declared.route.Route.TheVariants.{Pass, Found, Leave, Enter, Renew, ToChannel}
use Rattle.line_model.specs.declared.event.What.{What}
use Rattle.line_model.specs.basics.Records.{Item}
use Rattle.line_model.specs.channels.GapRestart.{GapInterfaceState, is_ready, routing}
use Rattle.line_model.specs.channels.Gaps.{GapChannel}
use Rattle.line_model.specs.packets.Says.{packet_channel}
use Rattle.line_model.specs.observer.Machine.{Machine, Observer, after, renewed, steps_all, walk}
use Rattle.line_model.specs.observer.MachineEvents.{RowEvent, stamp, ended_events, row_events, row_events_by, walk_events}
use Rattle.line_model.specs.pieces.Merge.{is_level}
use Rattle.line_model.specs.observer.Observer.{x25, start, row_step, route_found, event_of}
use Rattle.line_model.specs.observer.Report.{findings_of}
use Rattle.line_model.specs.pieces.Plans.{level_findings}
use Rattle.line_model.proofs.LevelPart.{channel_dropped, level_kept, closed_dropped}
use Rattle.restart_epochs.specs.Cutting.{observer}
use Rattle.restart_epochs.specs.Walks.{route_finding}
use Rattle.restart_epochs.proofs.Routes.{is_to_channel}
use Rattle.restart_epochs.proofs.Steps.{in_r1_alone, routed_to, routed_none}
use Rattle.line_model.proofs.Pieces.{filter_append}

pub events_append : {X L S E : Type 0} → (m : Machine X L S E) (o : Observer L S) (p q : List X) → walk_events m o (p ++ q) ≡ walk_events m o p ++ walk_events m (walk m o p) q
events_append m o [] q = refl
events_append m o (x ∷ p) q = ap (λ l. row_events m o x ++ l) (events_append m (after m o x) p q) ∙ sym (append_assoc (row_events m o x) (walk_events m (after m o x) p) (walk_events m (walk m (after m o x) p) q))

level_append : (us vs : List (RowEvent Item What)) → findings_of (map event_of (filter is_level (us ++ vs))) ≡ findings_of (map event_of (filter is_level us)) ++ findings_of (map event_of (filter is_level vs))
level_append us vs =
    ap (λ l. findings_of (map event_of l)) (filter_append is_level us vs)
    ∙ ap findings_of (map-append event_of (filter is_level us) (filter is_level vs))
    ∙ filter_map-append _ (map event_of (filter is_level us)) (map event_of (filter is_level vs))

pub found_here : (e : ℕ) (r : Item) (route : Route) → findings_of (map event_of (stamp e None r (route_found r route))) ≡ route_finding r route
found_here e r (Found s n) = refl
found_here e r (Leave (Some n)) = refl
found_here e r (Leave None) = refl
found_here e r Pass = refl
found_here e r Enter = refl
found_here e r Renew = refl
found_here e r ToChannel = refl

pub to_none : (r : Item) (route : Route) → is_to_channel route ≡ true → route_finding r route ≡ []
to_none r ToChannel h = refl
to_none r Pass h = refl
to_none r (Found s n) h = absurd (true≢false (sym h))
to_none r (Leave c) h = absurd (true≢false (sym h))
to_none r Enter h = refl
to_none r Renew h = refl

ended_none : (i : Interface) (o : Observer GapInterfaceState GapChannel) (r : Item) (v : Bool) → filter is_level (ended_events (x25 i) o r v) ≡ []
ended_none i o r true = closed_dropped (x25 i) o r true false
ended_none i o r false = closed_dropped (x25 i) o r (is_ready o.level) (is_ready (routing o.level r).after)

-- what the interface level finds on a row, whether it steps each channel, or none
of_level : (i : Interface) (o : Observer GapInterfaceState GapChannel) (r : Item) (v : Bool) → findings_of (map event_of (filter is_level (row_events_by (x25 i) o r v None))) ≡ route_finding r (routing o.level r).route
of_level i o r true =
    ap (λ l. findings_of (map event_of l)) (level_kept o.epoch r (route_found r (routing o.level r).route)) ∙ found_here o.epoch r (routing o.level r).route
of_level i o r false =
    let own = stamp o.epoch None r (route_found r (routing o.level r).route) in
    let v = renewed (x25 i) o.level r in
    let ended = ended_events (x25 i) o r v in
    ap (λ l. findings_of (map event_of l)) (filter_append is_level own ended ∙ ap (λ l. filter is_level own ++ l) (ended_none i o r v) ∙ append-nil (filter is_level own) ∙ level_kept o.epoch r (route_found r (routing o.level r).route))
    ∙ found_here o.epoch r (routing o.level r).route

on_routed : (i : Interface) (o : Observer GapInterfaceState GapChannel) (r : Item) (b : Bool) → is_to_channel (routing o.level r).route ≡ b
    → findings_of (map event_of (filter is_level (row_events (x25 i) o r))) ≡ route_finding r (routing o.level r).route
on_routed i o r true h =
    (λ j. findings_of (map event_of (filter is_level (row_events_by (x25 i) o r (in_r1_alone i o.level r h j) (routed_to i o.level r h j)))))
    ∙ ap (λ l. findings_of (map event_of l)) (channel_dropped o.epoch (packet_channel r.packet) r (row_step i (packet_channel r.packet) (o.states (packet_channel r.packet)) r).reported)
    ∙ sym (to_none r (routing o.level r).route h)
on_routed i o r false h =
    ap (λ q. findings_of (map event_of (filter is_level (row_events_by (x25 i) o r (steps_all (x25 i) o.level r) q)))) (routed_none i o.level r h)
    ∙ of_level i o r (steps_all (x25 i) o.level r)

pub level_findings_more : (i : Interface) (rs : List Item) (r : Item) → level_findings i (rs ++ r ∷ []) ≡ level_findings i rs ++ route_finding r (routing (observer i rs).level r).route
level_findings_more i rs r =
    let o = observer i rs in
    ap (λ l. findings_of (map event_of (filter is_level l))) (events_append (x25 i) (start i) rs (r ∷ []))
    ∙ level_append (walk_events (x25 i) (start i) rs) (row_events (x25 i) o r ++ [])
    ∙ ap (λ l. level_findings i rs ++ findings_of (map event_of (filter is_level l))) (append-nil (row_events (x25 i) o r))
    ∙ ap (λ l. level_findings i rs ++ l) (on_routed i o r (is_to_channel (routing o.level r).route) refl)
