-- Of a kind that the interface level never has, the interface level has no events.
use Rattle.std.proofs.Common.{◌≡◌, ◌∷◌, [], ◌++◌, ℕ, Bool, true, false, Option, Some, None, List, refl, ◌∙◌, ap}
use Rattle.std.proofs.lemmas.List.{append-nil}
use Rattle.std.specs.List.{filter, flat_map}
use Rattle.line_model.specs.observer.Machine.{Machine, Observer, routed, steps_all, renewed, after}
use Rattle.line_model.specs.observer.MachineEvents.{stamp, closed_events, ended_events, level_row_events, row_events, row_events_by, walk_events}
use Rattle.line_model.specs.pieces.Merge.{is_level}
use Rattle.line_model.specs.observer.Peak.{how_many}
use Rattle.line_model.proofs.OncePerRow.{kept_none}
use Rattle.line_model.proofs.Pieces.{filter_append}

pub channel_dropped : {X E : Type 0} → (e k : ℕ) (x : X) (ws : List E) → filter is_level (stamp e (Some k) x ws) ≡ []
channel_dropped e k x [] = refl
channel_dropped e k x (w ∷ ws) = channel_dropped e k x ws

pub level_kept : {X E : Type 0} → (e : ℕ) (x : X) (ws : List E) → filter is_level (stamp e None x ws) ≡ stamp e None x ws
level_kept e x [] = refl
level_kept e x (w ∷ ws) = let more = level_kept e x ws in ap (λ l. record { epoch = e; channel = None; row = x; what = w } ∷ l) more

pub closed_dropped : {X L S E : Type 0} → (m : Machine X L S E) (o : Observer L S) (x : X) (b c : Bool) → filter is_level (closed_events m o x b c) ≡ []
closed_dropped m o x true false = at m.channels
  where
    at : (js : List ℕ) → filter is_level (flat_map (λ k. stamp o.epoch (Some k) x (m.closing_events o.epoch k (o.states k) x)) js) ≡ []
    at [] = refl
    at (j ∷ js) =
        let rest = flat_map (λ k. stamp o.epoch (Some k) x (m.closing_events o.epoch k (o.states k) x)) js in
        filter_append is_level (stamp o.epoch (Some j) x (m.closing_events o.epoch j (o.states j) x)) rest
        ∙ ap (λ l. l ++ filter is_level rest) (channel_dropped o.epoch j x (m.closing_events o.epoch j (o.states j) x)) ∙ at js
closed_dropped m o x true true = refl
closed_dropped m o x false c = refl

ended_dropped : {X L S E : Type 0} → (m : Machine X L S E) (o : Observer L S) (x : X) (b : Bool) → filter is_level (ended_events m o x b) ≡ []
ended_dropped m o x true = closed_dropped m o x true false
ended_dropped m o x false = closed_dropped m o x (m.ready o.level) (m.ready (m.level_after o.level x))

level_of_row : {X L S E : Type 0} → (m : Machine X L S E) (f : E → Bool) → ((e : ℕ) (l : L) (x : X) → how_many f (m.level_events e l x) ≡ 0)
    → (o : Observer L S) (x : X) (a : Bool) (r : Option ℕ) → filter (λ v. f v.what) (filter is_level (row_events_by m o x a r)) ≡ []
level_of_row m f h o x false (Some k) = ap (filter (λ v. f v.what)) (channel_dropped o.epoch k x (m.channel_events o.epoch k (o.states k) x))
level_of_row m f h o x true r =
    ap (filter (λ v. f v.what)) (level_kept o.epoch x (m.level_events o.epoch o.level x)) ∙ kept_none f o.epoch None x (m.level_events o.epoch o.level x) (h o.epoch o.level x)
level_of_row m f h o x false None =
    let own = level_row_events m o x in
    let closed = ended_events m o x (renewed m o.level x) in
    ap (filter (λ v. f v.what))
    (filter_append is_level own closed ∙ ap (λ l. filter is_level own ++ l) (ended_dropped m o x (renewed m o.level x)) ∙ append-nil (filter is_level own) ∙ level_kept o.epoch x (m.level_events o.epoch o.level x))
    ∙ kept_none f o.epoch None x (m.level_events o.epoch o.level x) (h o.epoch o.level x)

pub level_none : {X L S E : Type 0} → (m : Machine X L S E) (f : E → Bool) → ((e : ℕ) (l : L) (x : X) → how_many f (m.level_events e l x) ≡ 0)
    → (o : Observer L S) (xs : List X) → filter (λ v. f v.what) (filter is_level (walk_events m o xs)) ≡ []
level_none m f h o [] = refl
level_none m f h o (x ∷ xs) =
    let own = row_events m o x in
    let rest = walk_events m (after m o x) xs in
    ap (filter (λ v. f v.what)) (filter_append is_level own rest)
    ∙ filter_append (λ v. f v.what) (filter is_level own) (filter is_level rest)
    ∙ ap (λ l. l ++ filter (λ v. f v.what) (filter is_level rest)) (level_of_row m f h o x (steps_all m o.level x) (routed m o.level x))
    ∙ level_none m f h (after m o x) xs
