-- A cutter that read a row by its route.
use Rattle.std.proofs.Common.{◌≡◌, ◌∙◌, sym, ap, subst, refl, ℕ, ◌+◌, ◌<◌, ◌≤◌, ◌⊎◌, inl, inr, Bool, true, cond, List, [], ◌∷◌, ◌++◌, false, Some, arith, append-nil, append_assoc, Result, Ok, Err, OnOk, option_to_list}
use Rattle.line_model.specs.declared.interface.Interface.{Interface}
use Rattle.line_model.specs.declared.finding.Finding.{Finding}
use Rattle.line_model.specs.declared.route.Route.{Route}
use Rattle.line_model.specs.declared.route.Route.TheVariants.{ToChannel, Leave, Enter, Renew, Found, Pass}
use Rattle.line_model.specs.basics.Records.{Item, Piece}
use Rattle.line_model.specs.pieces.Plans.{end_at}
use Rattle.line_model.specs.basics.Bounds.{IsSaid}
use Rattle.line_model.specs.packets.Says.{gap_of, packet_channel}
use Rattle.line_model.specs.channels.GapRestart.{GapInterfaceState, is_gap_of_all, is_ready, routing}
use Rattle.line_model.specs.observer.Report.{gaps_of}
use Rattle.std.specs.Prelude.{is_some, length}
use Rattle.restart_epochs.specs.OpenRows.{OpenRows, IsSame}
use Rattle.restart_epochs.specs.declared.walk.Step.{Step}
use Rattle.restart_epochs.specs.Walks.{epoch_after, passed, route_finding, start_after, effect_of, IsAdvanced, IsSameWalk, IsStep}
use Rattle.restart_epochs.specs.declared.walk.EpochWalk.{EpochWalk}
use Rattle.restart_epochs.specs.Cutting.{Cutting, Represents, open_pieces, ended_by, gap_by_effect, given_after, HasEffect, IsCutting, IsKeptOn, IsStepped, IsLeft, IsTaken, IsTakenBy, IsCounted, given_of}
use Rattle.restart_epochs.proofs.Routes.{is_leaving, is_to_channel, fits, enters_at, found_own, is_quiet, passed_ready, quiet_at}
use Rattle.restart_epochs.proofs.GapRows.{said_gap}
use Rattle.restart_epochs.proofs.OpenChannelSteps.{start_stays}
use Rattle.restart_epochs.proofs.KeptLevel.{kept_row}
use Rattle.restart_epochs.proofs.Bounds.{kept_bounds, stepped_bounds, left_bounds}
use Rattle.restart_epochs.proofs.Pushes.{Pushed, pushed_on_channel, pushed_quietly, pushed_gap, pushed_entering, pushed_leaving}

takes_quietly : (i : Interface) (rs : List Item) (c c' : Cutting) (item : Item) (found : List Finding) → Represents i rs c → IsSaid i item → is_quiet (routing c.level item).route ≡ true → found ≡ route_finding item (routing c.level item).route
    → is_gap_of_all item ≡ false → IsStepped item (routing c.level item).after c.epoch c.gap found c c' → Pushed i rs item [] c'
takes_quietly i rs c c' item found s said quiet f own h =
    let step = routing c.level item in
    let same = quiet_at (is_ready c.level) (is_ready step.after) step.route quiet (fits c.level item) in
    pushed_quietly i rs item c c' (is_ready c.level) s said quiet refl same (inr own) (subst (λ l. IsStepped item step.after c.epoch c.gap l c c') f h)

takes_gap : (i : Interface) (rs : List Item) (c c' : Cutting) (item : Item) (found : List Finding) → Represents i rs c → IsCutting c → c.last < item.number → IsSaid i item → (routing c.level item).route ≡ Pass → found ≡ route_finding item (routing c.level item).route
    → is_gap_of_all item ≡ true → IsStepped item (routing c.level item).after c.epoch item.number found c c' → Pushed i rs item [] c'
takes_gap i rs c c' item found s bounds rising said pass f gap h =
    let step = routing c.level item in
    let quiet : is_quiet step.route ≡ true = ap is_quiet pass in
    let ready = passed_ready c.level item gap pass in
    let same = quiet_at (is_ready c.level) (is_ready step.after) step.route quiet (fits c.level item) in
    pushed_gap i rs item c c' s bounds rising said quiet ready (same ∙ ready) gap (subst (λ l. IsStepped item step.after c.epoch item.number l c c') f h)

takes_entering : (i : Interface) (rs : List Item) (c c' : Cutting) (item : Item) (found : List Finding) → Represents i rs c → IsSaid i item → (routing c.level item).route ≡ Enter → found ≡ route_finding item (routing c.level item).route
    → IsStepped item (routing c.level item).after (c.epoch + 1) c.gap found c c' → Pushed i rs item [] c'
takes_entering i rs c c' item found s said enter f h =
    let step = routing c.level item in
    let both = enters_at (is_ready c.level) (is_ready step.after) step.route enter (fits c.level item) in
    pushed_entering i rs item c c' s said enter both.0 both.1 (subst (λ l. IsStepped item step.after (c.epoch + 1) c.gap l c c') f h)

-- r1 is entered from another state
pub enters_unready : (l : GapInterfaceState) (item : Item) → (routing l item).route ≡ Enter → is_ready l ≡ false
enters_unready l item enter = (enters_at (is_ready l) (is_ready (routing l item).after) (routing l item).route enter (fits l item)).0

takes_leaving : (i : Interface) (rs : List Item) (c c' : Cutting) (item : Item) (route : Route) → Represents i rs c → IsSaid i item → (routing c.level item).route ≡ route → is_leaving route ≡ true
    → IsLeft item (routing c.level item).after (epoch_after c.epoch route) (route_finding item route) c c' → Pushed i rs item (open_pieces c (Some (end_at item))) c'
takes_leaving i rs c c' item route s said is leaving h =
    pushed_leaving i rs item c c' s said (ap is_leaving is ∙ leaving) (subst (λ t. IsLeft item (routing c.level item).after (epoch_after c.epoch t) (route_finding item t) c c') (sym is) h)

pub on_ok : {T E : Type 0} (r : Result T E) (P Q : Type 0) → OnOk r P → (P → Q) → OnOk r Q
on_ok (Ok _) P Q p f = f p
on_ok (Err _) P Q _ f = tt

pub on_ok_both : {T E : Type 0} (r : Result T E) (P S Q : Type 0) → OnOk r P → OnOk r S → (P → S → Q) → OnOk r Q
on_ok_both (Ok _) P S Q p s f = f p s
on_ok_both (Err _) P S Q _ _ f = tt

-- a row that was pushed was read
taken : (item : Item) (c c' : Cutting) (new out out' : List Piece) → ((i : Interface) (rs : List Item) → Represents i rs c → Pushed i rs item new c') → out' ≡ out ++ new → IsCounted item c c' → IsTaken item c c' out out'
taken item c c' new out out' h e counted = record {
  represented = λ i rs s. (h i rs s).represented;
  given = λ i rs ps s was. e ∙ ap (λ l. l ++ new) was ∙ append_assoc ps (given_of i rs) new ∙ ap (λ l. ps ++ l) (sym (h i rs s).given);
  appended = λ i rs s. record { more = new; out_has = e; known_has = (h i rs s).given };
  counted = counted;
}

-- ---- by the route of the row

-- what became of the cutter
abbrev pub WentBy : Route → (c c' : Cutting) (item : Item) → (level : GapInterfaceState) → Type 0
WentBy ToChannel c c' item level = IsKeptOn (packet_channel item.packet) item c c'
WentBy (Leave code) c c' item level = IsLeft item level c.epoch (route_finding item (Leave code)) c c'
WentBy Renew c c' item level = IsLeft item level (c.epoch + 1) [] c c'
WentBy Enter c c' item level = IsStepped item level (c.epoch + 1) c.gap [] c c'
WentBy (Found state code) c c' item level = IsStepped item level c.epoch c.gap (route_finding item (Found state code)) c c'
WentBy Pass c c' item level = IsStepped item level c.epoch (gap_by_effect (passed (is_gap_of_all item)) item c.gap) [] c c'

-- what is passed leaves the rows of the channels, and ends no piece
passed_same : (all : Bool) (item : Item) (gap : ℕ) (before after : OpenRows) → HasEffect (passed all) item gap before after → IsSame before after
passed_same true item gap before after h = h
passed_same false item gap before after h = h

passed_given : (all : Bool) (given : ℕ) (rows : OpenRows) → given_after (passed all) given rows ≡ given
passed_given true given rows = refl
passed_given false given rows = refl

passed_ends : (all : Bool) (c : Cutting) (item : Item) → ended_by (passed all) c.interface c.epoch c.start (end_at item) c.given c.gap c.open_rows ≡ []
passed_ends true c item = refl
passed_ends false c item = refl

went_by : (c c' : Cutting) (item : Item) (step : Step) → IsStep c.level c.epoch item step → IsTakenBy item step c c' → (route : Route) → (routing c.level item).route ≡ route → WentBy route c c' item (routing c.level item).after
went_by c c' item step is t route e = at route e
    (subst (λ effect. HasEffect effect item c.gap c.open_rows c'.open_rows) (is.effect ∙ ap (effect_of item.packet) e) t.open_rows)
    (t.given ∙ ap (λ effect. given_after effect c.given c.open_rows) (is.effect ∙ ap (effect_of item.packet) e))
    (t.gap ∙ ap (λ effect. gap_by_effect effect item c.gap) (is.effect ∙ ap (effect_of item.packet) e))
    (t.start ∙ (λ j. start_after c.epoch c.start ((is.epoch ∙ ap (epoch_after c.epoch) e) j) (is.machine j)))
    (t.epoch ∙ is.epoch ∙ ap (epoch_after c.epoch) e)
    (t.findings ∙ ap (λ l. c.findings ++ l) (is.finding ∙ ap (route_finding item) e))
  where
    level : c'.level ≡ (routing c.level item).after
    level = t.level ∙ is.machine

    at : (q : Route) → (routing c.level item).route ≡ q → HasEffect (effect_of item.packet q) item c.gap c.open_rows c'.open_rows → c'.given ≡ given_after (effect_of item.packet q) c.given c.open_rows → c'.gap ≡ gap_by_effect (effect_of item.packet q) item c.gap
        → c'.start ≡ start_after c.epoch c.start (epoch_after c.epoch q) (routing c.level item).after → c'.epoch ≡ epoch_after c.epoch q → c'.findings ≡ c.findings ++ route_finding item q
        → WentBy q c c' item (routing c.level item).after
    at ToChannel to affected given gap start epoch findings = record {
      counted = t.counted;
      level = level ∙ kept_row c.level item (ap is_to_channel to);
      epoch = epoch;
      start = start ∙ start_stays c.epoch c.epoch c.start (routing c.level item).after refl;
      given = given;
      findings = findings ∙ append-nil c.findings;
      gap = gap;
      open_rows = affected;
    }
    at (Leave code) to affected given gap start epoch findings = record { counted = t.counted; level = level; epoch = epoch; start = start; given = given; findings = findings; gap = gap; channels = affected.0; emptied = affected.1 }
    at Renew to affected given gap start epoch findings = record { counted = t.counted; level = level; epoch = epoch; start = start; given = given; findings = findings; gap = gap; channels = affected.0; emptied = affected.1 }
    at Enter to affected given gap start epoch findings = record { counted = t.counted; level = level; epoch = epoch; start = start; given = given; findings = findings; gap = gap; open_rows = affected }
    at (Found state code) to affected given gap start epoch findings = record { counted = t.counted; level = level; epoch = epoch; start = start; given = given; findings = findings; gap = gap; open_rows = affected }
    at Pass to affected given gap start epoch findings = record {
      counted = t.counted;
      level = level;
      epoch = epoch;
      start = start;
      given = given ∙ passed_given (is_gap_of_all item) c.given c.open_rows;
      findings = findings;
      gap = gap;
      open_rows = passed_same (is_gap_of_all item) item c.gap c.open_rows c'.open_rows affected;
    }

-- the cutter represents one more row, and these pieces came to be complete
pub takes : (i : Interface) (rs : List Item) (c c' : Cutting) (item : Item) (step : Step) → Represents i rs c → IsCutting c → c.last < item.number → IsSaid c.interface item → IsStep c.level c.epoch item step → IsTakenBy item step c c'
    → Pushed i rs item (ended_by step.effect c.interface c.epoch c.start (end_at item) c.given c.gap c.open_rows) c'
takes i rs c c' item step s bounds rising known is t = at (routing c.level item).route refl (went_by c c' item step is t (routing c.level item).route refl)
  where
    said : IsSaid i item
    said = subst (λ j. IsSaid j item) s.interface known

    now : (q : Route) → (routing c.level item).route ≡ q → Pushed i rs item (ended_by (effect_of item.packet q) c.interface c.epoch c.start (end_at item) c.given c.gap c.open_rows) c'
        → Pushed i rs item (ended_by step.effect c.interface c.epoch c.start (end_at item) c.given c.gap c.open_rows) c'
    now q e = subst (λ effect. Pushed i rs item (ended_by effect c.interface c.epoch c.start (end_at item) c.given c.gap c.open_rows) c') (sym (is.effect ∙ ap (effect_of item.packet) e))

    passes : (all : Bool) → is_gap_of_all item ≡ all → (routing c.level item).route ≡ Pass → IsStepped item (routing c.level item).after c.epoch (gap_by_effect (passed all) item c.gap) [] c c' → Pushed i rs item [] c'
    passes true gap e w = takes_gap i rs c c' item [] s bounds rising said e (ap (route_finding item) (sym e)) gap w
    passes false own e w = takes_quietly i rs c c' item [] s said (ap is_quiet e) (ap (route_finding item) (sym e)) own w

    at : (q : Route) → (routing c.level item).route ≡ q → WentBy q c c' item (routing c.level item).after → Pushed i rs item (ended_by step.effect c.interface c.epoch c.start (end_at item) c.given c.gap c.open_rows) c'
    at ToChannel e w = now ToChannel e (pushed_on_channel i rs item c c' s bounds rising said (ap is_to_channel e) w)
    at (Leave code) e w = now (Leave code) e (takes_leaving i rs c c' item (Leave code) s said e refl w)
    at Renew e w = now Renew e (takes_leaving i rs c c' item Renew s said e refl w)
    at Enter e w = now Enter e (takes_entering i rs c c' item [] s said e (ap (route_finding item) (sym e)) w)
    at (Found state code) e w = now (Found state code) e (takes_quietly i rs c c' item (route_finding item (Found state code)) s said (ap is_quiet e) (ap (route_finding item) (sym e)) (found_own c.level item state code e) w)
    at Pass e w = now Pass e (subst (λ l. Pushed i rs item l c') (sym (passed_ends (is_gap_of_all item) c item)) (passes (is_gap_of_all item) refl e w))

-- it stays within its bounds
pub taken_bounds : (c c' : Cutting) (item : Item) (step : Step) → IsCutting c → IsSaid c.interface item → c.last < item.number → item.number ≤ 999999999 → c.octets + item.length ≤ 2147483648
    → IsStep c.level c.epoch item step → IsTakenBy item step c c' → IsCutting c'
taken_bounds c c' item step h said rising number octets is t = at (routing c.level item).route (went_by c c' item step is t (routing c.level item).route refl)
  where
    le : c.gap ≤ item.number
    le = let up = h.gap in omega (arith, up, rising)

    passes : (all : Bool) → is_gap_of_all item ≡ all → (gap_by_effect (passed all) item c.gap ≤ item.number) × ((gap_by_effect (passed all) item c.gap ≡ 0) ⊎ (c.interface.gaps ≡ true))
    passes true gap = (omega arith, inr (said_gap c.interface item said gap).0)
    passes false own = (le, h.recorded)

    at : (q : Route) → WentBy q c c' item (routing c.level item).after → IsCutting c'
    at ToChannel w = kept_bounds c c' (packet_channel item.packet) item h w (record { said = said; channel = inl refl }) rising number octets
    at (Leave code) w = left_bounds c c' item (routing c.level item).after c.epoch (route_finding item (Leave code)) h w (omega arith) rising number octets
    at Renew w = left_bounds c c' item (routing c.level item).after (c.epoch + 1) [] h w (omega arith) rising number octets
    at Enter w = stepped_bounds c c' item (routing c.level item).after (c.epoch + 1) c.gap [] h w le h.recorded (omega arith) rising number octets
    at (Found state code) w = stepped_bounds c c' item (routing c.level item).after c.epoch c.gap (route_finding item (Found state code)) h w le h.recorded (omega arith) rising number octets
    at Pass w =
        let both = passes (is_gap_of_all item) refl in
        stepped_bounds c c' item (routing c.level item).after c.epoch (gap_by_effect (passed (is_gap_of_all item)) item c.gap) [] h w both.0 both.1 (omega arith) rising number octets

-- ---- by what the parts of a cutter did

abbrev pub cutting_of : {A : Type 0} → EpochWalk A → (given gap : ℕ) → OpenRows → (last octets : ℕ) → Cutting
cutting_of w given gap rows last octets = record {
  interface = w.interface;
  level = w.machine;
  epoch = w.epoch;
  start = w.start;
  given = given;
  packets = w.packets;
  gaps = w.gaps;
  last = last;
  octets = octets;
  findings = w.findings.items;
  gap = gap;
  open_rows = rows;
}

-- what a row counts for, as a gap or none
pub gap_count : (item : Item) → cond (is_some (gap_of item.packet)) 1 0 ≡ gaps_of (item ∷ [])
gap_count item = at (is_some (gap_of item.packet))
  where
    at : (b : Bool) → cond b 1 0 ≡ length (cond b (item ∷ []) [])
    at true = refl
    at false = refl

pub taken_by : {A : Type 0} → (c : Cutting) (w v u : EpochWalk A) (given given' gap gap' : ℕ) (rows rows' : OpenRows) (last octets last' octets' : ℕ) (item : Item) (step : Step) → cutting_of w given gap rows last octets ≡ c
    → IsStep w.machine w.epoch item step → IsSameWalk w v → IsAdvanced step v u → HasEffect step.effect item gap rows rows' → gap' ≡ gap_by_effect step.effect item gap → given' ≡ given_after step.effect given rows → last' ≡ item.number → octets' ≡ octets + item.length
    → IsTakenBy item step c (cutting_of u given' gap' rows' last' octets')
taken_by c w v u given given' gap gap' rows rows' last octets last' octets' item step view is same on affected at_gap count at_last at_octets = subst (λ q. IsTakenBy item step q (cutting_of u given' gap' rows' last' octets')) view
    (record {
      counted = record {
        interface = on.interface ∙ same.interface;
        packets = on.packets ∙ ap (λ n. n + 1) same.packets;
        gaps = on.gaps ∙ (λ j. same.gaps j + cond (is.gap j) 1 0) ∙ ap (λ n. w.gaps + n) (gap_count item);
        last = at_last;
        octets = at_octets;
      };
      level = on.machine;
      epoch = on.epoch;
      start = on.start ∙ (λ j. start_after (same.epoch j) (same.start j) step.epoch step.machine);
      findings = on.findings ∙ ap (λ l. l ++ option_to_list step.finding) same.findings;
      given = count;
      gap = at_gap;
      open_rows = affected;
    })

pub pushed_by : {A : Type 0} → (c : Cutting) (w v u : EpochWalk A) (given given' gap gap' : ℕ) (rows rows' : OpenRows) (last octets last' octets' : ℕ) (item : Item) (step : Step) (out out' : List Piece) → cutting_of w given gap rows last octets ≡ c
    → IsCutting c → c.last < item.number → IsSaid c.interface item → IsStep w.machine w.epoch item step → IsSameWalk w v → IsAdvanced step v u → HasEffect step.effect item gap rows rows' → gap' ≡ gap_by_effect step.effect item gap → given' ≡ given_after step.effect given rows
    → last' ≡ item.number → octets' ≡ octets + item.length
    → out' ≡ out ++ ended_by step.effect v.interface v.epoch v.start (end_at item) given gap rows → IsTaken item c (cutting_of u given' gap' rows' last' octets') out out'
pushed_by c w v u given given' gap gap' rows rows' last octets last' octets' item step out out' view bounds rising said is same on affected at_gap count at_last at_octets e =
    let new = cutting_of u given' gap' rows' last' octets' in
    let t = taken_by c w v u given given' gap gap' rows rows' last octets last' octets' item step view is same on affected at_gap count at_last at_octets in
    taken item c new (ended_by step.effect c.interface c.epoch c.start (end_at item) c.given c.gap c.open_rows) out out'
    (λ i rs s. takes i rs c new item step s bounds rising said (subst (λ q. IsStep q.level q.epoch item step) view is) t)
    (e ∙ (λ j. out ++ ended_by step.effect (same.interface j) (same.epoch j) (same.start j) (end_at item) given gap rows)
    ∙ ap (λ q. out ++ ended_by step.effect q.interface q.epoch q.start (end_at item) q.given q.gap q.open_rows) view) t.counted
