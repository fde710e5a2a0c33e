-- A recording with gaps counts no more than the whole one has calls and data packets.
use Rattle.std.proofs.Common.{◌≡◌, inl, inr, ◌∙◌, ℕ, Bool, true, false, cond, Option, Some, None, List, [], ◌∷◌, ◌++◌, map, refl, sym, ap, subst}
use Rattle.std.specs.Prelude.{filter}
use Rattle.std.specs.List.{flat_map}
use Rattle.std.specs.Option.{option_map_or}
use Rattle.line_model.specs.declared.event.Event.{Event}
use Rattle.line_model.specs.declared.event.How.{How}
use Rattle.line_model.specs.declared.event.What.{What}
use Rattle.line_model.specs.declared.interface.Interface.{Interface}
use Rattle.line_model.specs.declared.packet.Class.TheVariants.{Call}
use Rattle.line_model.specs.declared.packet.Packet.{Packet}
use Rattle.line_model.specs.declared.packet.Packet as packet
use Rattle.line_model.specs.declared.packet.PacketKind as kind
use Rattle.line_model.specs.declared.route.Route.{Route}
use Rattle.line_model.specs.declared.route.Route as route
use Rattle.line_model.specs.basics.Records.{Item}
use Rattle.line_model.specs.packets.Classes.{packet_class}
use Rattle.line_model.specs.packets.Says.{gap_of, header_in, packet_channel}
use Rattle.line_model.specs.channels.Channels.{is_open}
use Rattle.line_model.specs.channels.Gaps.{GapChannel}
use Rattle.line_model.specs.channels.GapRestart.{GapInterfaceState, is_gap_of_all, is_ready, level_in_r1_with, routing}
use Rattle.line_model.specs.channels.GapStep.{data_reported}
use Rattle.line_model.specs.observer.Machine.{Observer, after, channel_unless, renewed, routed, steps_all}
use Rattle.line_model.specs.observer.MachineEvents.{RowEvent, closed_events, ended_events, row_events, row_events_by, stamp, walk_events}
use Rattle.line_model.specs.observer.Observer.{epoch_end, epoch_end_if, event_of, handed, route_found, row_step, start, x25}
use Rattle.gap_laws.specs.Thinned.{BoundLaw, Covers, IsPart, IsThinned, call_of, is_count, most_of, sent}
use Rattle.gap_laws.proofs.OwnCounts.{CountsCall, CountsData, RowCounts, counts, row_counts}
use Rattle.gap_laws.proofs.Parts.{part_after, part_append, part_map, part_same}
use Rattle.gap_laws.proofs.Thinning.{same_some}

-- ---- the calls and the data packets that some events count

abbrev counted_by : List (RowEvent Item What) → List (ℕ × What)
counted_by vs = map (λ (e : Event). (e.channel, e.what)) (filter (λ (e : Event). is_count e.what) (map event_of vs))

counted_first : (v : RowEvent Item What) (vs : List (RowEvent Item What)) → counted_by (v ∷ vs) ≡ cond (is_count v.what) (((event_of v).channel, v.what) ∷ counted_by vs) (counted_by vs)
counted_first v vs = at (is_count v.what)
  where
    at : (b : Bool) → map (λ (e : Event). (e.channel, e.what)) (cond b (event_of v ∷ filter (λ (e : Event). is_count e.what) (map event_of vs)) (filter (λ (e : Event). is_count e.what) (map event_of vs)))
        ≡ cond b (((event_of v).channel, v.what) ∷ counted_by vs) (counted_by vs)
    at true = refl
    at false = refl

counted_append : (us vs : List (RowEvent Item What)) → counted_by (us ++ vs) ≡ counted_by us ++ counted_by vs
counted_append [] vs = refl
counted_append (u ∷ us) vs = counted_first u (us ++ vs) ∙ at (is_count u.what) (counted_append us vs) ∙ ap (λ l. l ++ counted_by vs) (sym (counted_first u us))
  where
    at : (b : Bool) → counted_by (us ++ vs) ≡ counted_by us ++ counted_by vs → cond b (((event_of u).channel, u.what) ∷ counted_by (us ++ vs)) (counted_by (us ++ vs)) ≡ cond b (((event_of u).channel, u.what) ∷ counted_by us) (counted_by us) ++ counted_by vs
    at true e = ap (λ l. ((event_of u).channel, u.what) ∷ l) e
    at false e = e

counted_stamp : (e : ℕ) (c : Option ℕ) (r : Item) (ws : List What) → counted_by (stamp e c r ws) ≡ map (λ w. (option_map_or (λ k. k) c 0, w)) (counts ws)
counted_stamp e c r [] = refl
counted_stamp e c r (w ∷ ws) = counted_first (record { epoch = e; channel = c; row = r; what = w }) (stamp e c r ws) ∙ at (is_count w) (counted_stamp e c r ws)
  where
    at : (b : Bool) → counted_by (stamp e c r ws) ≡ map (λ w. (option_map_or (λ k. k) c 0, w)) (counts ws)
        → cond b ((option_map_or (λ k. k) c 0, w) ∷ counted_by (stamp e c r ws)) (counted_by (stamp e c r ws)) ≡ map (λ w. (option_map_or (λ k. k) c 0, w)) (cond b (w ∷ counts ws) (counts ws))
    at true e = ap (λ l. (option_map_or (λ k. k) c 0, w) ∷ l) e
    at false e = e

none_stamped : (e : ℕ) (c : Option ℕ) (r : Item) (ws : List What) → counts ws ≡ [] → counted_by (stamp e c r ws) ≡ []
none_stamped e c r ws h = counted_stamp e c r ws ∙ ap (λ l. map (λ w. (option_map_or (λ k. k) c 0, w)) l) h

none_counted : (us vs : List (RowEvent Item What)) → counted_by us ≡ [] → counted_by vs ≡ [] → counted_by (us ++ vs) ≡ []
none_counted us vs e f = counted_append us vs ∙ (λ j. e j ++ f j)

-- ---- the interface level

route_none : (r : Item) (t : Route) → counts (route_found r t) ≡ []
route_none r (route.TheVariants.Found s n) = refl
route_none r (route.TheVariants.Leave (Some n)) = refl
route_none r (route.TheVariants.Leave None) = refl
route_none r route.TheVariants.Pass = refl
route_none r route.TheVariants.Enter = refl
route_none r route.TheVariants.Renew = refl
route_none r route.TheVariants.ToChannel = refl

closes_none : (e : ℕ) (f : ℕ → GapChannel) (r : Item) (ks : List ℕ) → counted_by (flat_map (λ k. stamp e (Some k) r (epoch_end (f k) r)) ks) ≡ []
closes_none e f r [] = refl
closes_none e f r (k ∷ ks) = none_counted (stamp e (Some k) r (epoch_end (f k) r)) (flat_map (λ k. stamp e (Some k) r (epoch_end (f k) r)) ks) (at (is_open (f k).channel) _) (closes_none e f r ks)
  where
    at : (b : Bool) (h : How) → counted_by (stamp e (Some k) r (epoch_end_if b h)) ≡ []
    at true h = refl
    at false h = refl

closed_none : (i : Interface) (o : Observer GapInterfaceState GapChannel) (r : Item) (b c : Bool) → counted_by (closed_events (x25 i) o r b c) ≡ []
closed_none i o r true false = closes_none o.epoch o.states r (x25 i).channels
closed_none i o r true true = refl
closed_none i o r false c = refl

ended_none : (i : Interface) (o : Observer GapInterfaceState GapChannel) (r : Item) (b : Bool) → counted_by (ended_events (x25 i) o r b) ≡ []
ended_none i o r true = closed_none i o r true false
ended_none i o r false = closed_none i o r _ _

-- ---- a row

abbrev own : Interface → Item → List (ℕ × What)
own i r = map (λ w. (packet_channel r.packet, w)) (most_of i r)

none_some : {A : Type 0} {k : ℕ} → None ≡ Some k → A
none_some e = cc

-- a row that steps a channel is of that channel
routed_channel : (i : Interface) (l : GapInterfaceState) (r : Item) (k : ℕ) → routed (x25 i) l r ≡ Some k → packet_channel r.packet ≡ k
routed_channel i l r k = at (is_ready l) (is_gap_of_all r)
  where
    by : (t : Route) → handed t (packet_channel r.packet) ≡ Some k → packet_channel r.packet ≡ k
    by route.TheVariants.ToChannel e = same_some e
    by (route.TheVariants.Found s n) e = none_some e
    by (route.TheVariants.Leave n) e = none_some e
    by route.TheVariants.Pass e = none_some e
    by route.TheVariants.Enter e = none_some e
    by route.TheVariants.Renew e = none_some e

    at : (b a : Bool) → cond b (channel_unless (x25 i) r a) None ≡ Some k → packet_channel r.packet ≡ k
    at true true e = none_some e
    at true false e = by (routing (level_in_r1_with false false) r).route e
    at false a e = none_some e

part_none : {A : Type 0} (us ws : List A) → us ≡ [] → IsPart us ws
part_none us ws e = subst (λ l. IsPart l ws) (sym e) tt

row_part : (i : Interface) (o : Observer GapInterfaceState GapChannel) (r : Item) → IsPart (counted_by (row_events (x25 i) o r)) (own i r)
row_part i o r = at (steps_all (x25 i) o.level r) (routed (x25 i) o.level r) (λ k e. routed_channel i o.level r k e)
  where
    level : counted_by (stamp o.epoch None r (route_found r (routing o.level r).route)) ≡ []
    level = none_stamped o.epoch None r (route_found r (routing o.level r).route) (route_none r (routing o.level r).route)

    at : (a : Bool) (c : Option ℕ) → ((k : ℕ) → c ≡ Some k → packet_channel r.packet ≡ k) → IsPart (counted_by (row_events_by (x25 i) o r a c)) (own i r)
    at true c same = part_none (counted_by (row_events_by (x25 i) o r true c)) (own i r) level
    at false None same = part_none (counted_by (row_events_by (x25 i) o r false None)) (own i r)
        (none_counted (stamp o.epoch None r (route_found r (routing o.level r).route)) (ended_events (x25 i) o r (renewed (x25 i) o.level r)) level (ended_none i o r (renewed (x25 i) o.level r)))
    at false (Some k) same = subst (λ l. IsPart l (own i r)) (sym (counted_stamp o.epoch (Some k) r ws ∙ (λ j. map (λ w. (sym (same k refl) j, w)) (counts ws))))
        (part_map (λ w. (packet_channel r.packet, w)) (counts ws) (most_of i r) (by (row_counts i k (o.states k) r)))
      where
        ws : List What
        ws = (row_step i k (o.states k) r).reported

        by : RowCounts i r (row_step i k (o.states k) r).reported → IsPart (counts (row_step i k (o.states k) r).reported) (most_of i r)
        by (CountsData (inl e)) = part_none (counts (row_step i k (o.states k) r).reported) (most_of i r) e
        by (CountsData (inr e)) = subst (λ l. IsPart l (most_of i r)) (sym e)
            (part_after (data_reported i r (header_in r.packet)) (call_of (packet_class r.packet) r) (data_reported i r (header_in r.packet)) (part_same (data_reported i r (header_in r.packet))))
        by (CountsCall c e) = subst (λ l. IsPart l (most_of i r)) (sym e) (subst (λ k. IsPart (call_of Call r) (call_of k r ++ data_reported i r (header_in r.packet))) (sym c) ([], data_reported i r (header_in r.packet), refl, tt))

-- ---- recordings

sent_after : (i : Interface) (us : List (ℕ × What)) (run rest : List Item) → IsPart us (sent i rest) → IsPart us (sent i (run ++ rest))
sent_after i us [] rest h = h
sent_after i us (r ∷ run) rest h = part_after us (own i r) (sent i (run ++ rest)) (sent_after i us run rest h)

none_sent : (i : Interface) (y : Item) (p : Packet) (run : List Item) → Covers (gap_of p) run → call_of (packet_class p) y ++ data_reported i y (header_in p) ≡ []
none_sent i y packet.TheVariants.GapOfAll run c = refl
none_sent i y (packet.TheVariants.Channel k kind.TheVariants.Gap) run c = refl
none_sent i y p run c = absurd c

bounded : (i : Interface) (ys xs : List Item) (o : Observer GapInterfaceState GapChannel) → IsThinned xs ys → IsPart (counted_by (walk_events (x25 i) o ys)) (sent i xs)
bounded i [] xs o thin = tt
bounded i (y ∷ ys) xs o (inl (rest, same, thin)) =
    subst (λ l. IsPart (counted_by (walk_events (x25 i) o (y ∷ ys))) (sent i l)) (sym same)
    (subst (λ l. IsPart l (sent i (y ∷ rest))) (sym (counted_append (row_events (x25 i) o y) (walk_events (x25 i) (after (x25 i) o y) ys)))
    (part_append (counted_by (row_events (x25 i) o y)) (own i y) (counted_by (walk_events (x25 i) (after (x25 i) o y) ys)) (sent i rest) (row_part i o y) (bounded i ys rest (after (x25 i) o y) thin)))
bounded i (y ∷ ys) xs o (inr (run, rest, same, covers, thin)) =
    subst (λ l. IsPart (counted_by (walk_events (x25 i) o (y ∷ ys))) (sent i l)) (sym same)
    (subst (λ l. IsPart l (sent i (run ++ rest))) (sym (counted_append (row_events (x25 i) o y) (walk_events (x25 i) (after (x25 i) o y) ys)))
    (part_append (counted_by (row_events (x25 i) o y)) [] (counted_by (walk_events (x25 i) (after (x25 i) o y) ys)) (sent i (run ++ rest))
    (subst (λ l. IsPart (counted_by (row_events (x25 i) o y)) (map (λ w. (packet_channel y.packet, w)) l)) (none_sent i y y.packet run covers) (row_part i o y))
    (sent_after i (counted_by (walk_events (x25 i) (after (x25 i) o y) ys)) run rest (bounded i ys rest (after (x25 i) o y) thin))))

pub bound_law : BoundLaw
bound_law i xs ys thin = bounded i ys xs (start i) thin
