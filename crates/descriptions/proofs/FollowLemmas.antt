-- One call, as the rows of a trace come.
use Rattle.std.proofs.Common.{◌≡◌, ◌∙◌, sym, ap, subst, refl, ℕ, ◌+◌, ◌-◌, ◌≤◌, ◌<◌, ◌⊎◌, inl, inr, Bool, true, false, true≢false, ◌&&◌, ◌||◌, cond, eqb, List, [], ◌∷◌, ◌++◌, map, length, Option, Some, None, IfSome, arith, append-nil, append_assoc}
use Rattle.std.specs.Prelude.{is_none}
use Rattle.std.specs.List.{AllByRecursion, flat_map}
use Rattle.std.proofs.lemmas.List.{map-append}
use Rattle.std.proofs.lemmas.Bool.{and_parts, ne_eqb}
use Rattle.line_model.specs.declared.event.Event.{Event}
use Rattle.line_model.specs.declared.event.What.{What}
use Rattle.line_model.specs.declared.interface.Interface.{Interface}
use Rattle.line_model.specs.declared.route.Route.{Route}
use Rattle.line_model.specs.declared.route.Route.TheVariants.{Pass, Found, Leave, Enter, Renew, ToChannel}
use Rattle.line_model.specs.basics.Records.{Item}
use Rattle.line_model.specs.channels.Gaps.{GapChannel}
use Rattle.line_model.specs.declared.event.How.{How}
use Rattle.line_model.specs.packets.Says.{gap_of}
use Rattle.line_model.specs.channels.GapRestart.{GapInterfaceState, is_of_all, is_ready, routing}
use Rattle.line_model.specs.observer.Calls.{calls_of, is_opening}
use Rattle.line_model.specs.observer.Machine.{Observer, after, after_by, channel_unless, level_moved, level_stepped, renewed, routed, stays_ready, steps_all, walk}
use Rattle.line_model.specs.observer.MachineEvents.{RowEvent, closed_events, ended_events, row_events as all_row_events, row_events_by, stamp, walk_events}
use Rattle.line_model.specs.observer.Observer.{event_of, events, epoch_end, epoch_end_if, route_found, start, x25}
use Rattle.restart_epochs.specs.Cutting.{observer}
use Rattle.restart_epochs.proofs.Epochs.{observer_more}
use Rattle.restart_epochs.proofs.LevelFindings.{events_append}
use Rattle.channel_run.specs.Run.{row_events}
use Rattle.annotated_trace.specs.Rows.{has_open, is_of_call, is_of_call_by}
use Rattle.descriptions.specs.CallRows.{Follows, IsAfter, is_at, is_in}
use Rattle.descriptions.specs.RowCalls.{AreQuiet}
use Rattle.descriptions.specs.declared.call_rows.CallRows.{CallRows}
use Rattle.descriptions.specs.declared.call_rows.Place.{Place}
use Rattle.descriptions.proofs.Anywhere.{open_in}
use Rattle.descriptions.proofs.CallLemmas.{passed}
use Rattle.descriptions.proofs.OpenCalls.{OpensFirst, count_more, open_from, opens_first, passes_first}

-- ---- the events of one more row

pub events_more : (i : Interface) (rs : List Item) (r : Item) → events i (rs ++ r ∷ []) ≡ events i rs ++ map event_of (all_row_events (x25 i) (observer i rs) r)
events_more i rs r =
    let own = all_row_events (x25 i) (observer i rs) r in
    ap (map event_of) (events_append (x25 i) (start i) rs (r ∷ []))
    ∙ map-append event_of (walk_events (x25 i) (start i) rs) (own ++ [])
    ∙ ap (λ l. events i rs ++ map event_of l) (append-nil own)

-- a row that a channel received is for no other
taken_alone : (i : Interface) (l : GapInterfaceState) (r : Item) (k : ℕ) → routed (x25 i) l r ≡ Some k → steps_all (x25 i) l r ≡ false
taken_alone i l r k h = ap (λ b. b && stays_ready (x25 i) l r) (by (is_ready l) (is_of_all (gap_of r.packet)) h)
  where
    by : (ready all : Bool) → cond ready (channel_unless (x25 i) r all) None ≡ Some k → all ≡ false
    by true true e = cc
    by true false e = refl
    by false all e = cc

-- those of a row that a channel received
pub events_on_channel : (i : Interface) (rs : List Item) (r : Item) (k : ℕ) → routed (x25 i) (observer i rs).level r ≡ Some k → events i (rs ++ r ∷ []) ≡ events i rs ++ row_events i (observer i rs).epoch k ((observer i rs).states k) r
events_on_channel i rs r k h =
    events_more i rs r ∙ (λ j. events i rs ++ map event_of (row_events_by (x25 i) (observer i rs) r (taken_alone i (observer i rs).level r k h j) (h j)))

-- they are of the epoch
pub of_epoch : (e k : ℕ) (r : Item) (ws : List What) → AllByRecursion (λ f. f.epoch ≡ e) (map event_of (stamp e (Some k) r ws))
of_epoch e k r [] = tt
of_epoch e k r (w ∷ ws) = (refl, of_epoch e k r ws)

pub ready_at : (i : Interface) (l : GapInterfaceState) (r : Item) (k : ℕ) → routed (x25 i) l r ≡ Some k → is_ready l ≡ true
ready_at i l r k h = by (is_ready l) refl
  where
    by : (b : Bool) → is_ready l ≡ b → is_ready l ≡ true
    by true e = e
    by false e = absurd (let bad : None ≡ Some k = sym (ap (λ b. cond b (channel_unless (x25 i) r (is_of_all (gap_of r.packet))) None) e) ∙ h in cc)

-- what is known before a row that a channel receives
pub applied_so_far : (i : Interface) (rs : List Item) (r : Item) (k : ℕ) (w : CallRows) → routed (x25 i) (observer i rs).level r ≡ Some k → Follows i rs w → IsAfter (observer i rs).epoch (events i rs) w
applied_so_far i rs r k w h f = record { to_come = f.to_come; place = f.place (ready_at i (observer i rs).level r k h); known = f.known }

pub same_epoch : (i : Interface) (rs : List Item) (r : Item) (k : ℕ) → routed (x25 i) (observer i rs).level r ≡ Some k → (observer i (rs ++ r ∷ [])).epoch ≡ (observer i rs).epoch
same_epoch i rs r k h = ap (λ o. o.epoch) (observer_more i rs r) ∙ (λ j. (after_by (x25 i) (observer i rs) r (taken_alone i (observer i rs).level r k h j) (h j)).epoch)

-- its events, as they were applied
pub all_of_epoch : (i : Interface) (rs : List Item) (r : Item) (k e : ℕ) (fs : List Event) → e ≡ (observer i rs).epoch → fs ≡ row_events i (observer i rs).epoch k ((observer i rs).states k) r → AllByRecursion (λ f. f.epoch ≡ e) fs
all_of_epoch i rs r k e fs same came =
    subst (λ l. AllByRecursion (λ f. f.epoch ≡ e) l) (sym came)
    (subst (λ n. AllByRecursion (λ f. f.epoch ≡ n) (row_events i (observer i rs).epoch k ((observer i rs).states k) r)) (sym same) (of_epoch (observer i rs).epoch k r _))

-- whether it is one of the call's
pub judged_on : (i : Interface) (rs : List Item) (r : Item) (k n e : ℕ) (fs : List Event) (of_call : Bool) → routed (x25 i) (observer i rs).level r ≡ Some k → e ≡ (observer i rs).epoch → fs ≡ row_events i (observer i rs).epoch k ((observer i rs).states k) r
    → of_call ≡ (has_open n e k (calls_of (events i rs)) || has_open n e k (calls_of (events i rs ++ fs))) → of_call ≡ is_of_call i rs r n
judged_on i rs r k n e fs of_call h same came is =
    is ∙ (λ t. has_open n (same t) k (calls_of (events i rs)) || has_open n (same t) k (calls_of (events i rs ++ came t)))
    ∙ ap (λ l. has_open n (observer i rs).epoch k (calls_of (events i rs)) || has_open n (observer i rs).epoch k (calls_of l)) (sym (events_on_channel i rs r k h))
    ∙ sym (λ t. is_of_call_by (taken_alone i (observer i rs).level r k h t) (h t) n (observer i rs).epoch (calls_of (events i rs)) (calls_of (events i (rs ++ r ∷ []))))

-- the same of a row that no channel received, which may be a gap of all channels
pub judged_off : (i : Interface) (rs : List Item) (r : Item) (w : CallRows) (e : ℕ) (each of_call : Bool) → routed (x25 i) (observer i rs).level r ≡ None → Follows i rs w → each ≡ steps_all (x25 i) (observer i rs).level r → e ≡ (observer i (rs ++ r ∷ [])).epoch
    → of_call ≡ (each && is_in e w.place) → of_call ≡ is_of_call i rs r w.number
judged_off i rs r w e false of_call h f each epoch is =
    is ∙ (λ t. is_of_call_by (each t) (sym h t) w.number (observer i rs).epoch (calls_of (events i rs)) (calls_of (events i (rs ++ r ∷ []))))
judged_off i rs r w e true of_call h f each epoch is =
    let o : Observer GapInterfaceState GapChannel = observer i rs in
    let ready = (and_parts (is_ready o.level) (is_ready (routing o.level r).after) (and_parts (is_of_all (gap_of r.packet)) (stays_ready (x25 i) o.level r) (sym each)).1).0 in
    let same : e ≡ o.epoch = epoch ∙ ap (λ q. q.epoch) (observer_more i rs r) ∙ (λ t. (after_by (x25 i) o r (sym each t) (routed (x25 i) o.level r)).epoch) in
    is ∙ ap (λ d. is_in d w.place) same ∙ sym (open_in w.number o.epoch (calls_of (events i rs)) w.place (f.place ready))
    ∙ (λ t. is_of_call_by (each t) (routed (x25 i) o.level r) w.number o.epoch (calls_of (events i rs)) (calls_of (events i (rs ++ r ∷ []))))

-- and after it
pub channel_follows : (i : Interface) (rs : List Item) (r : Item) (k : ℕ) (w : CallRows) → routed (x25 i) (observer i rs).level r ≡ Some k → IsAfter (observer i rs).epoch (events i (rs ++ r ∷ [])) w → Follows i (rs ++ r ∷ []) w
channel_follows i rs r k w h applied =
    let epoch = same_epoch i rs r k h in
    record {
      to_come = applied.to_come;
      place = λ ready j. ap (λ e. has_open w.number e j (calls_of (events i (rs ++ r ∷ [])))) epoch ∙ applied.place j ∙ ap (λ e. is_at e j w.place) (sym epoch);
      known = subst (λ e. IfSome w.place (λ (p : Place). p.epoch ≤ e)) (sym epoch) applied.known;
    }

-- ---- a row of the restart machine

-- events that open no call
abbrev NoOpening : List Event → Type 0
NoOpening fs = AllByRecursion (λ f. is_opening f ≡ false) fs

count_with : (es fs : List Event) → NoOpening fs → length (calls_of (es ++ fs)) ≡ length (calls_of es)
count_with es [] h = ap (λ l. length (calls_of l)) (append-nil es)
count_with es (f ∷ fs) h =
    ap (λ l. length (calls_of l)) (sym (append_assoc es (f ∷ []) fs)) ∙ count_with (es ++ f ∷ []) fs h.1
    ∙ omega (arith, count_more es f ∙ ap (λ b. length (calls_of es) + cond b 1 0) h.0)

quiet_with : (e : ℕ) (es fs : List Event) (w : CallRows) → AreQuiet fs → IsAfter e es w → IsAfter e (es ++ fs) w
quiet_with e es [] w q h = subst (λ l. IsAfter e l w) (sym (append-nil es)) h
quiet_with e es (f ∷ fs) w q h = subst (λ l. IsAfter e l w) (append_assoc es (f ∷ []) fs) (quiet_with e (es ++ f ∷ []) fs w q.1 (passed e es f w q.0.0 q.0.1 h))

found_quiet : (e : ℕ) (r : Item) (route : Route) → AreQuiet (map event_of (stamp e None r (route_found r route)))
found_quiet e r (Found s n) = ((refl, refl), tt)
found_quiet e r (Leave (Some n)) = ((refl, refl), tt)
found_quiet e r (Leave None) = tt
found_quiet e r Pass = tt
found_quiet e r Enter = tt
found_quiet e r Renew = tt
found_quiet e r ToChannel = tt

no_opening : (fs : List Event) → AreQuiet fs → NoOpening fs
no_opening [] q = tt
no_opening (f ∷ fs) q = (q.0.0, no_opening fs q.1)

both_no_opening : (es fs : List Event) → NoOpening es → NoOpening fs → NoOpening (es ++ fs)
both_no_opening [] fs h l = l
both_no_opening (e ∷ es) fs h l = (h.0, both_no_opening es fs h.1 l)

end_opens_none : (e k : ℕ) (r : Item) (b : Bool) (how : How) → NoOpening (map event_of (stamp e (Some k) r (epoch_end_if b how)))
end_opens_none e k r true how = (refl, tt)
end_opens_none e k r false how = tt

ends_open_none : (i : Interface) (o : Observer GapInterfaceState GapChannel) (r : Item) (ks : List ℕ) → NoOpening (map event_of (flat_map (λ k. stamp o.epoch (Some k) r (epoch_end (o.states k) r)) ks))
ends_open_none i o r [] = tt
ends_open_none i o r (k ∷ ks) =
    subst (λ l. AllByRecursion (λ f. is_opening f ≡ false) l) (sym (map-append event_of (stamp o.epoch (Some k) r (epoch_end (o.states k) r)) (flat_map (λ j. stamp o.epoch (Some j) r (epoch_end (o.states j) r)) ks)))
    (both_no_opening _ _ (end_opens_none o.epoch k r _ _) (ends_open_none i o r ks))

closed_open_none : (i : Interface) (o : Observer GapInterfaceState GapChannel) (r : Item) (b a : Bool) → NoOpening (map event_of (closed_events (x25 i) o r b a))
closed_open_none i o r true false = ends_open_none i o r (x25 i).channels
closed_open_none i o r true true = tt
closed_open_none i o r false a = tt

ended_open_none : (i : Interface) (o : Observer GapInterfaceState GapChannel) (r : Item) (v : Bool) → NoOpening (map event_of (ended_events (x25 i) o r v))
ended_open_none i o r true = closed_open_none i o r true false
ended_open_none i o r false = closed_open_none i o r (is_ready o.level) (is_ready (routing o.level r).after)

-- the events of such a row
abbrev level_events_of : (i : Interface) (rs : List Item) (r : Item) → List Event
level_events_of i rs r = map event_of (stamp (observer i rs).epoch None r (route_found r (routing (observer i rs).level r).route))

-- and those of the calls that it ends, none where it steps each channel
abbrev ends_of : (i : Interface) → Observer GapInterfaceState GapChannel → Item → (all : Bool) → List (RowEvent Item What)
ends_of i o r true = []
ends_of i o r false = ended_events (x25 i) o r (renewed (x25 i) o.level r)

ends_open_nothing : (i : Interface) (o : Observer GapInterfaceState GapChannel) (r : Item) (all : Bool) → NoOpening (map event_of (ends_of i o r all))
ends_open_nothing i o r true = tt
ends_open_nothing i o r false = ended_open_none i o r (renewed (x25 i) o.level r)

level_events_by : (i : Interface) (rs : List Item) (r : Item) (all : Bool) → map event_of (row_events_by (x25 i) (observer i rs) r all None) ≡ level_events_of i rs r ++ map event_of (ends_of i (observer i rs) r all)
level_events_by i rs r true = sym (append-nil (level_events_of i rs r))
level_events_by i rs r false = map-append event_of (stamp (observer i rs).epoch None r (route_found r (routing (observer i rs).level r).route)) (ends_of i (observer i rs) r false)

events_on_level : (i : Interface) (rs : List Item) (r : Item) → routed (x25 i) (observer i rs).level r ≡ None
    → events i (rs ++ r ∷ []) ≡ events i rs ++ (level_events_of i rs r ++ map event_of (ends_of i (observer i rs) r (steps_all (x25 i) (observer i rs).level r)))
events_on_level i rs r h =
    let all : Bool = steps_all (x25 i) (observer i rs).level r in
    events_more i rs r ∙ ap (λ q. events i rs ++ map event_of (row_events_by (x25 i) (observer i rs) r all q)) h
    ∙ ap (λ l. events i rs ++ l) (level_events_by i rs r all)

-- ---- epochs rise

moved_up : (i : Interface) (o : Observer GapInterfaceState GapChannel) (l : GapInterfaceState) (b a : Bool) → o.epoch ≤ (level_moved (x25 i) o l b a).epoch
moved_up i o l false true = omega arith
moved_up i o l false false = omega arith
moved_up i o l true true = omega arith
moved_up i o l true false = omega arith

stepped_up : (i : Interface) (o : Observer GapInterfaceState GapChannel) (r : Item) (v : Bool) → o.epoch ≤ (level_stepped (x25 i) o r v).epoch
stepped_up i o r true = omega arith
stepped_up i o r false = moved_up i o (routing o.level r).after (is_ready o.level) (is_ready (routing o.level r).after)

by_up : (i : Interface) (o : Observer GapInterfaceState GapChannel) (r : Item) (all : Bool) (q : Option ℕ) → o.epoch ≤ (after_by (x25 i) o r all q).epoch
by_up i o r true q = omega arith
by_up i o r false (Some k) = omega arith
by_up i o r false None = stepped_up i o r (renewed (x25 i) o.level r)

after_up : (i : Interface) (o : Observer GapInterfaceState GapChannel) (r : Item) → o.epoch ≤ (after (x25 i) o r).epoch
after_up i o r = by_up i o r (steps_all (x25 i) o.level r) (routed (x25 i) o.level r)

walk_up : (i : Interface) (o : Observer GapInterfaceState GapChannel) (rs : List Item) → o.epoch ≤ (walk (x25 i) o rs).epoch
walk_up i o [] = omega arith
walk_up i o (r ∷ rs) = omega (arith, after_up i o r, walk_up i (after (x25 i) o r) rs)

-- events of no later epoch
abbrev pub UpTo : ℕ → List Event → Type 0
UpTo e fs = AllByRecursion (λ f. f.epoch ≤ e) fs

up_with : (e : ℕ) (es fs : List Event) → UpTo e es → UpTo e fs → UpTo e (es ++ fs)
up_with e [] fs h l = l
up_with e (x ∷ es) fs h l = (h.0, up_with e es fs h.1 l)

stamped_up : (e d : ℕ) (c : Option ℕ) (r : Item) (ws : List What) → e ≤ d → UpTo d (map event_of (stamp e c r ws))
stamped_up e d c r [] h = tt
stamped_up e d c r (w ∷ ws) h = (h, stamped_up e d c r ws h)

ends_up : (i : Interface) (o : Observer GapInterfaceState GapChannel) (d : ℕ) (r : Item) (ks : List ℕ) → o.epoch ≤ d → UpTo d (map event_of (flat_map (λ k. stamp o.epoch (Some k) r (epoch_end (o.states k) r)) ks))
ends_up i o d r [] h = tt
ends_up i o d r (k ∷ ks) h =
    subst (λ l. AllByRecursion (λ f. f.epoch ≤ d) l) (sym (map-append event_of (stamp o.epoch (Some k) r (epoch_end (o.states k) r)) (flat_map (λ j. stamp o.epoch (Some j) r (epoch_end (o.states j) r)) ks)))
    (up_with d _ _ (stamped_up o.epoch d (Some k) r (epoch_end (o.states k) r) h) (ends_up i o d r ks h))

closed_up : (i : Interface) (o : Observer GapInterfaceState GapChannel) (d : ℕ) (r : Item) (b a : Bool) → o.epoch ≤ d → UpTo d (map event_of (closed_events (x25 i) o r b a))
closed_up i o d r true false h = ends_up i o d r (x25 i).channels h
closed_up i o d r true true h = tt
closed_up i o d r false a h = tt

ended_up : (i : Interface) (o : Observer GapInterfaceState GapChannel) (d : ℕ) (r : Item) (v : Bool) → o.epoch ≤ d → UpTo d (map event_of (ended_events (x25 i) o r v))
ended_up i o d r true h = closed_up i o d r true false h
ended_up i o d r false h = closed_up i o d r (is_ready o.level) (is_ready (routing o.level r).after) h

ends_of_up : (i : Interface) (o : Observer GapInterfaceState GapChannel) (d : ℕ) (r : Item) (all : Bool) → o.epoch ≤ d → UpTo d (map event_of (ends_of i o r all))
ends_of_up i o d r true h = tt
ends_of_up i o d r false h = ended_up i o d r (renewed (x25 i) o.level r) h

row_up : (i : Interface) (o : Observer GapInterfaceState GapChannel) (d : ℕ) (r : Item) (all : Bool) (q : Option ℕ) → o.epoch ≤ d → UpTo d (map event_of (row_events_by (x25 i) o r all q))
row_up i o d r true q h = stamped_up o.epoch d None r ((x25 i).level_events o.epoch o.level r) h
row_up i o d r false (Some k) h = stamped_up o.epoch d (Some k) r ((x25 i).channel_events o.epoch k (o.states k) r) h
row_up i o d r false None h =
    subst (UpTo d) (sym (map-append event_of (stamp o.epoch None r ((x25 i).level_events o.epoch o.level r)) (ended_events (x25 i) o r (renewed (x25 i) o.level r))))
    (up_with d _ _ (stamped_up o.epoch d None r ((x25 i).level_events o.epoch o.level r) h) (ended_up i o d r (renewed (x25 i) o.level r) h))

walked_up : (i : Interface) (o : Observer GapInterfaceState GapChannel) (rs : List Item) → UpTo (walk (x25 i) o rs).epoch (map event_of (walk_events (x25 i) o rs))
walked_up i o [] = tt
walked_up i o (r ∷ rs) =
    let d = (walk (x25 i) (after (x25 i) o r) rs).epoch in
    subst (UpTo d) (sym (map-append event_of (all_row_events (x25 i) o r) (walk_events (x25 i) (after (x25 i) o r) rs)))
    (up_with d _ _ (row_up i o d r (steps_all (x25 i) o.level r) (routed (x25 i) o.level r) (omega (arith, after_up i o r, walk_up i (after (x25 i) o r) rs))) (walked_up i (after (x25 i) o r) rs))

-- no call of a later epoch is open
none_later : (m n e d k : ℕ) (es : List Event) → e < d → UpTo e es → open_from m n d k (calls_of es) ≡ false
none_later m n e d k [] lt h = refl
none_later m n e d k (x ∷ es) lt h = by (λ q. none_later q n e d k es lt h.1) (is_opening x) refl
  where
    and_false : (b : Bool) → (b && false) ≡ false
    and_false true = refl
    and_false false = refl

    by : ((q : ℕ) → open_from q n d k (calls_of es) ≡ false) → (b : Bool) → is_opening x ≡ b → open_from m n d k (calls_of (x ∷ es)) ≡ false
    by later true o =
        let first : OpensFirst x es = opens_first x es o in
        let other : eqb first.call.epoch d ≡ false = ne_eqb first.call.epoch d (λ same. omega (arith, same, first.epoch, lt, h.0)) in
        ap (open_from m n d k) first.calls ∙ ap (λ b. (eqb m n && (b && (eqb first.call.channel k && is_none first.call.ended))) || open_from (m + 1) n d k (calls_of es)) other
        ∙ ap (λ b. b || open_from (m + 1) n d k (calls_of es)) (and_false (eqb m n)) ∙ later (m + 1)
    by later false o = ap (open_from m n d k) (passes_first x es o) ∙ later m

not_at : (p : Option Place) (e d k : ℕ) → e < d → IfSome p (λ q. q.epoch ≤ e) → is_at d k p ≡ false
not_at None e d k lt h = refl
not_at (Some p) e d k lt h = ap (λ b. b && eqb p.channel k) (ne_eqb p.epoch d (λ same. omega (arith, same, lt, h)))

-- ---- what is known after such a row

known_up : (p : Option Place) (e d : ℕ) → e ≤ d → IfSome p (λ q. q.epoch ≤ e) → IfSome p (λ q. q.epoch ≤ d)
known_up None e d up h = tt
known_up (Some p) e d up h = omega (arith, up, h)

-- the epoch goes on, and no call ends; or the next one begins
record GoesOn (i : Interface) (o p : Observer GapInterfaceState GapChannel) (ends : List (RowEvent Item What)) : Type 0 where
  ready : is_ready o.level ≡ true
  epoch : p.epoch ≡ o.epoch
  none : ends ≡ []

abbrev IsNext : (i : Interface) → (o p : Observer GapInterfaceState GapChannel) → List (RowEvent Item What) → Type 0
IsNext i o p ends = GoesOn i o p ends ⊎ (p.epoch ≡ o.epoch + 1)

moved_next : (i : Interface) (o : Observer GapInterfaceState GapChannel) (r : Item) (b a : Bool) → is_ready o.level ≡ b → a ≡ true → IsNext i o (level_moved (x25 i) o (routing o.level r).after b a) (closed_events (x25 i) o r b a)
moved_next i o r true true was will = inl (record { ready = was; epoch = refl; none = refl })
moved_next i o r false true was will = inr refl
moved_next i o r b false was will = absurd (true≢false (sym will))

stepped_next : (i : Interface) (o : Observer GapInterfaceState GapChannel) (r : Item) (v : Bool) → is_ready (routing o.level r).after ≡ true → IsNext i o (level_stepped (x25 i) o r v) (ended_events (x25 i) o r v)
stepped_next i o r true will = inr refl
stepped_next i o r false will = moved_next i o r (is_ready o.level) (is_ready (routing o.level r).after) refl will

level_next : (i : Interface) (o : Observer GapInterfaceState GapChannel) (r : Item) (all : Bool) → steps_all (x25 i) o.level r ≡ all → is_ready (routing o.level r).after ≡ true → IsNext i o (after_by (x25 i) o r all None) (ends_of i o r all)
level_next i o r true h will = inl (record { ready = (and_parts (is_ready o.level) (is_ready (routing o.level r).after) (and_parts (is_of_all (gap_of r.packet)) (stays_ready (x25 i) o.level r) h).1).0; epoch = refl; none = refl })
level_next i o r false h will = stepped_next i o r (renewed (x25 i) o.level r) will

-- its interface level
moved_level : (i : Interface) (o : Observer GapInterfaceState GapChannel) (l : GapInterfaceState) (b a : Bool) → (level_moved (x25 i) o l b a).level ≡ l
moved_level i o l false true = refl
moved_level i o l false false = refl
moved_level i o l true a = refl

stepped_level : (i : Interface) (o : Observer GapInterfaceState GapChannel) (r : Item) (v : Bool) → (level_stepped (x25 i) o r v).level ≡ (routing o.level r).after
stepped_level i o r true = refl
stepped_level i o r false = moved_level i o (routing o.level r).after (is_ready o.level) (is_ready (routing o.level r).after)

level_after_row : (i : Interface) (o : Observer GapInterfaceState GapChannel) (r : Item) (all : Bool) → (after_by (x25 i) o r all None).level ≡ (routing o.level r).after
level_after_row i o r true = refl
level_after_row i o r false = stepped_level i o r (renewed (x25 i) o.level r)

-- the epoch goes on, with no events of calls
pub record LevelStays (i : Interface) (rs : List Item) (r : Item) : Type 0 where
  pub ready : is_ready (observer i rs).level ≡ true
  pub epoch : (observer i (rs ++ r ∷ [])).epoch ≡ (observer i rs).epoch
  pub own : List Event
  pub quiet : AreQuiet own
  pub only : events i (rs ++ r ∷ []) ≡ events i rs ++ own

-- or the next one begins
pub record LevelBegins (i : Interface) (rs : List Item) (r : Item) : Type 0 where
  pub epoch : (observer i (rs ++ r ∷ [])).epoch ≡ (observer i rs).epoch + 1
  pub up : UpTo (observer i rs).epoch (events i (rs ++ r ∷ []))

pub level_case : (i : Interface) (rs : List Item) (r : Item) → routed (x25 i) (observer i rs).level r ≡ None → is_ready (observer i (rs ++ r ∷ [])).level ≡ true → LevelStays i rs r ⊎ LevelBegins i rs r
level_case i rs r h ready = by (level_next i o r all refl (sym (ap is_ready (ap (λ q. q.level) moved ∙ level_after_row i o r all)) ∙ ready))
  where
    o : Observer GapInterfaceState GapChannel
    o = observer i rs

    all : Bool
    all = steps_all (x25 i) (observer i rs).level r

    ends : List Event
    ends = map event_of (ends_of i (observer i rs) r (steps_all (x25 i) (observer i rs).level r))

    moved : observer i (rs ++ r ∷ []) ≡ after_by (x25 i) (observer i rs) r (steps_all (x25 i) (observer i rs).level r) None
    moved = observer_more i rs r ∙ ap (after_by (x25 i) (observer i rs) r (steps_all (x25 i) (observer i rs).level r)) h

    same : events i (rs ++ r ∷ []) ≡ events i rs ++ (level_events_of i rs r ++ ends)
    same = events_on_level i rs r h

    by : IsNext i (observer i rs) (after_by (x25 i) (observer i rs) r (steps_all (x25 i) (observer i rs).level r) None) (ends_of i (observer i rs) r (steps_all (x25 i) (observer i rs).level r)) → LevelStays i rs r ⊎ LevelBegins i rs r
    by (inl on) = inl (record {
      ready = on.ready;
      epoch = ap (λ q. q.epoch) moved ∙ on.epoch;
      own = level_events_of i rs r;
      quiet = found_quiet (observer i rs).epoch r (routing (observer i rs).level r).route;
      only = same ∙ ap (λ es. events i rs ++ (level_events_of i rs r ++ map event_of es)) on.none ∙ ap (λ x. events i rs ++ x) (append-nil (level_events_of i rs r));
    })
    by (inr next) =
        let e = (observer i rs).epoch in
        inr (record {
          epoch = ap (λ q. q.epoch) moved ∙ next;
          up = subst (UpTo e) (sym same)
              (up_with e (events i rs) _ (walked_up i (start i) rs)
              (up_with e (level_events_of i rs r) _ (stamped_up e e None r (route_found r (routing (observer i rs).level r).route) (omega arith)) (ends_of_up i (observer i rs) e r (steps_all (x25 i) (observer i rs).level r) (omega arith))));
        })

-- how many calls there are
pub level_count : (i : Interface) (rs : List Item) (r : Item) → routed (x25 i) (observer i rs).level r ≡ None → length (calls_of (events i (rs ++ r ∷ []))) ≡ length (calls_of (events i rs))
level_count i rs r h =
    let all = steps_all (x25 i) (observer i rs).level r in
    ap (λ l. length (calls_of l)) (events_on_level i rs r h)
    ∙ count_with (events i rs) _ (both_no_opening _ _ (no_opening _ (found_quiet (observer i rs).epoch r (routing (observer i rs).level r).route)) (ends_open_nothing i (observer i rs) r all))

pub epoch_up : (i : Interface) (rs : List Item) (r : Item) → (observer i rs).epoch ≤ (observer i (rs ++ r ∷ [])).epoch
epoch_up i rs r = subst (λ q. (observer i rs).epoch ≤ q.epoch) (sym (observer_more i rs r)) (after_up i (observer i rs) r)

pub level_follows : (i : Interface) (rs : List Item) (r : Item) (w : CallRows) → routed (x25 i) (observer i rs).level r ≡ None → Follows i rs w → Follows i (rs ++ r ∷ []) w
level_follows i rs r w h f = record {
  to_come = f.to_come ∙ ap (λ n. w.number - n) (sym (level_count i rs r h));
  place = λ ready. by (level_case i rs r h ready);
  known = known_up w.place (observer i rs).epoch (observer i (rs ++ r ∷ [])).epoch (epoch_up i rs r) f.known;
}
  where
    by : LevelStays i rs r ⊎ LevelBegins i rs r → (k : ℕ) → has_open w.number (observer i (rs ++ r ∷ [])).epoch k (calls_of (events i (rs ++ r ∷ []))) ≡ is_at (observer i (rs ++ r ∷ [])).epoch k w.place
    by (inl on) k =
        let more = quiet_with (observer i rs).epoch (events i rs) on.own w on.quiet (record { to_come = f.to_come; place = f.place on.ready; known = f.known }) in
        (λ t. has_open w.number (on.epoch t) k (calls_of (on.only t))) ∙ more.place k ∙ ap (λ e. is_at e k w.place) (sym on.epoch)
    by (inr next) k =
        let e = (observer i rs).epoch in
        ap (λ d. has_open w.number d k (calls_of (events i (rs ++ r ∷ [])))) next.epoch ∙ none_later 1 w.number e (e + 1) k (events i (rs ++ r ∷ [])) (omega arith) next.up
        ∙ sym (ap (λ d. is_at d k w.place) next.epoch ∙ not_at w.place e (e + 1) k (omega arith) f.known)
