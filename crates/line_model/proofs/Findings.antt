-- The findings of a walk, as they are drawn from its events and from those of its pieces.
use Rattle.std.proofs.Common.{◌≡◌, ℕ, ◌+◌, Bool, true, false, ◌&&◌, Option, Some, None, List, [], ◌∷◌, ◌++◌, map, refl, sym, ◌∙◌, ap, subst}
use Rattle.std.specs.Prelude.{option_map}
use Rattle.std.specs.List.{filter, flat_map, enumerate_from}
use Rattle.std.specs.List.Sorted.{IsPermutation, IsStrictlyIncreasing}
use Rattle.std.proofs.lemmas.List.{map-append}
use Rattle.line_model.specs.declared.interface.Interface.{Interface}
use Rattle.line_model.specs.declared.state.Side.TheVariants.{T}
use Rattle.line_model.specs.declared.state.StateName.TheVariants.{Dash}
use Rattle.line_model.specs.declared.finding.Finding.{Finding}
use Rattle.line_model.specs.declared.finding.Code.TheVariants.{Number}
use Rattle.line_model.specs.declared.event.What.{What}
use Rattle.line_model.specs.declared.event.What.TheVariants.{Found}
use Rattle.line_model.specs.declared.event.Event.{Event}
use Rattle.line_model.specs.basics.Records.{Item}
use Rattle.line_model.specs.packets.Classes.{packet_class}
use Rattle.line_model.specs.observer.Machine.{Machine, Observer}
use Rattle.line_model.specs.observer.MachineEvents.{RowEvent, stamp, walk_events}
use Rattle.line_model.specs.pieces.Pieces.{Placed, placed, piece_start, piece_end, events_of_steps, step_events, step_rows, events_of_piece}
use Rattle.line_model.specs.pieces.Merge.{is_level, drawn, drawn_apart, OnePerRow}
use Rattle.line_model.specs.pieces.Plan.{plan_of}
use Rattle.line_model.specs.channels.RestartMachine.{is_confirm}
use Rattle.line_model.specs.channels.Channels.{is_open}
use Rattle.line_model.specs.channels.Gaps.{GapChannel, fresh_at}
use Rattle.line_model.specs.observer.Observer.{x25, start, event_by, event_of, end_of_epoch, epoch_end, epoch_end_if, is_confirmation, row_step}
use Rattle.line_model.specs.observer.Report.{findings_of}
use Rattle.line_model.specs.pieces.Plans.{end_at, end_packet, level_findings, piece_events, piece_of, row_of_end, single_gaps}
use Rattle.line_model.specs.Laws.{FindingsLaw}
use Rattle.line_model.proofs.Merged.{merge_law}
use Rattle.line_model.proofs.SingleGaps.{events_of_single_gaps}
use Rattle.line_model.proofs.Planned.{plan_law}
use Rattle.line_model.proofs.OneFinding.{is_finding_event, one_finding}
use Rattle.line_model.proofs.WalkedRows.{IsWalk, interface_walk}

-- the finding of an event
abbrev pub finding_with : ℕ → What → Finding
finding_with n (Found x s c) = record { packet = n; side = x; state = s; code = c }
finding_with n w = record { packet = n; side = T; state = Dash; code = Number 0 }

pub packet_is : (n : ℕ) (w : What) → (finding_with n w).packet ≡ n
packet_is n (Found x s c) = refl
packet_is n w = refl

abbrev pub finding_at : {X : Type 0} → (X → ℕ) → RowEvent X What → Finding
finding_at number v = finding_with (number v.row) v.what

abbrev pub make : {X : Type 0} → (X → ℕ) → RowEvent X What → List (RowEvent X What) → Finding
make number v vs = finding_at number v

pub findings_are : {X : Type 0} → (number : X → ℕ) (us : List (RowEvent X What)) → findings_of (map (event_by number) us) ≡ map (finding_at number) (filter is_finding_event us)
findings_are number [] = refl
findings_are number (u ∷ us) = at u.what (findings_are number us)
  where
    at : (w : What) → findings_of (map (event_by number) us) ≡ map (finding_at number) (filter is_finding_event us)
        → findings_of (map (event_by number) (record { epoch = u.epoch; channel = u.channel; row = u.row; what = w } ∷ us))
        ≡ map (finding_at number) (filter is_finding_event (record { epoch = u.epoch; channel = u.channel; row = u.row; what = w } ∷ us))
    at (Found x s c) h = ap (λ (l : List Finding). record { packet = number u.row; side = x; state = s; code = c } ∷ l) h
    at w h = h

-- ---- the findings of a walk and of its pieces

-- the findings of the piece of an epoch and a channel
abbrev pub findings_in : {X L S : Type 0} → (X → ℕ) → Machine X L S What → Observer L S → List X → ℕ × ℕ → List Finding
findings_in number m start rs p = findings_of (map (event_by number) (events_of_piece m p.0 p.1 (placed m start rs)))

-- the findings of the interface level
abbrev pub findings_of_line : {X L S : Type 0} → (X → ℕ) → Machine X L S What → Observer L S → List X → List Finding
findings_of_line number m start rs = findings_of (map (event_by number) (filter is_level (walk_events m start rs)))

pub findings_apart : {X L S : Type 0} → (number : X → ℕ) (m : Machine X L S What) (start : Observer L S) (rs : List X) (plan : List (ℕ × ℕ))
    → findings_of_line number m start rs ++ flat_map (findings_in number m start rs) plan ≡ drawn_apart m start rs plan is_finding_event (make number)
findings_apart number m start rs plan =
    ap (λ l. l ++ flat_map (findings_in number m start rs) plan) (findings_are number (filter is_level (walk_events m start rs)))
    ∙ ap (λ l. drawn is_finding_event (make number) (filter is_level (walk_events m start rs)) ++ l) (at plan)
  where
    at : (qs : List (ℕ × ℕ)) → flat_map (findings_in number m start rs) qs ≡ flat_map (λ p. drawn is_finding_event (make number) (events_of_piece m p.0 p.1 (placed m start rs))) qs
    at [] = refl
    at (q ∷ qs) =
        ap (λ l. l ++ flat_map (findings_in number m start rs) qs) (findings_are number (events_of_piece m q.0 q.1 (placed m start rs)))
        ∙ ap (λ l. drawn is_finding_event (make number) (events_of_piece m q.0 q.1 (placed m start rs)) ++ l) (at qs)

-- the findings of the interface level and of the pieces, in the order of their packets, are those of the walk
pub findings_merged : {X L S : Type 0} → (number : X → ℕ) (m : Machine X L S What) → OnePerRow m is_finding_event → (start : Observer L S) (rs : List X) → IsWalk m start rs → IsStrictlyIncreasing (map number rs)
    → (merged : List Finding) → IsPermutation (findings_of_line number m start rs ++ flat_map (findings_in number m start rs) (plan_of m start rs)) merged
    → IsStrictlyIncreasing (map (λ f. f.packet) merged)
    → merged ≡ findings_of (map (event_by number) (walk_events m start rs))
findings_merged number m one start rs is_walk up merged same rising =
    let qs = plan_of m start rs in
    merge_law m start rs number is_walk.channels is_walk.fresh is_walk.ready up qs (plan_law m start rs is_walk.channels)
    is_finding_event (make number) (λ f. f.packet) one (λ v us. packet_is (number v.row) v.what) merged (subst (λ l. IsPermutation l merged) (findings_apart number m start rs qs) same) rising
    ∙ sym (findings_are number (walk_events m start rs))

-- ---- the events of a piece, by its record and in the walk

stamp_same : (e : ℕ) (k : Option ℕ) (r : Item) (ws : List What) → map event_of (stamp e k (row_of_end (end_at r)) ws) ≡ map event_of (stamp e k r ws)
stamp_same e k r [] = refl
stamp_same e k r (w ∷ ws) = ap (λ (l : List Event). event_of (record { epoch = e; channel = k; row = r; what = w }) ∷ l) (stamp_same e k r ws)

-- the row of an end confirms a restart where the end says so
pub end_confirms : (missed : Bool) → is_confirm (packet_class (end_packet missed)) ≡ missed
end_confirms true = refl
end_confirms false = refl

piece_same : (i : Interface) (e k : ℕ) (g : GapChannel) (rs : List Item) (end : Option Item)
    → map event_of (events_of_steps (x25 i) e k g rs (option_map row_of_end (option_map end_at end)))
    ≡ map event_of (events_of_steps (x25 i) e k g rs end)
piece_same i e k g [] None = refl
piece_same i e k g [] (Some r) =
    ap (λ b. map event_of (stamp e (Some k) (row_of_end (end_at r)) (epoch_end_if (is_open g.channel) (end_of_epoch (g.restarting && b))))) (end_confirms (is_confirmation r))
    ∙ stamp_same e (Some k) r (epoch_end g r)
piece_same i e k g (r ∷ rs) end =
    let ws : List (RowEvent Item What) = step_events (x25 i) e k g r ((x25 i).for_all r) in
    let h : GapChannel = (row_step i k g r).after in
    let more = piece_same i e k h rs end in
    map-append event_of ws (events_of_steps (x25 i) e k h rs (option_map row_of_end (option_map end_at end)))
    ∙ ap (λ l. map event_of ws ++ l) more
    ∙ sym (map-append event_of ws (events_of_steps (x25 i) e k h rs end))

-- the events of a piece by its record are those that its channel has in the walk
pub piece_events_are : (i : Interface) (ps : List (Placed Item)) (n : ℕ) (q : ℕ × ℕ) → piece_events (piece_of i ps (n, q)) ≡ map event_of (events_of_piece (x25 i) q.0 q.1 ps)
piece_events_are i ps n q =
    let rows : List Item = step_rows (x25 i) q.0 q.1 ps in
    let g : GapChannel = fresh_at i (piece_start q.0 ps) q.0 q.1 in
    piece_same i q.0 q.1 g (single_gaps rows) (piece_end q.0 ps)
    ∙ ap (map event_of) (events_of_single_gaps i q.0 q.1 (piece_end q.0 ps) g rows)

-- what is listed of the plan's pieces is listed of the pieces in the walk
pub plan_lists : {Y : Type 0} → (f : List Event → List Y) (i : Interface) (ps : List (Placed Item)) (n : ℕ) (qs : List (ℕ × ℕ))
    → flat_map (λ p. f (piece_events p)) (map (piece_of i ps) (enumerate_from n qs)) ≡ flat_map (λ p. f (map event_of (events_of_piece (x25 i) p.0 p.1 ps))) qs
plan_lists f i ps n [] = refl
plan_lists f i ps n (q ∷ qs) =
    ap (λ l. f l ++ flat_map (λ p. f (piece_events p)) (map (piece_of i ps) (enumerate_from (n + 1) qs))) (piece_events_are i ps n q)
    ∙ ap (λ l. f (map event_of (events_of_piece (x25 i) q.0 q.1 ps)) ++ l) (plan_lists f i ps (n + 1) qs)

pub findings_law : FindingsLaw
findings_law i rs said up merged same rising =
    let plan_findings = plan_lists findings_of i (placed (x25 i) (start i) rs) 0 (plan_of (x25 i) (start i) rs) in
    findings_merged (λ r. r.number) (x25 i) (one_finding i) (start i) rs (interface_walk i rs said) up merged
    (subst (λ l. IsPermutation (level_findings i rs ++ l) merged) plan_findings same) rising
