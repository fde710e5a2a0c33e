-- The rows that a cutter keeps of a channel, its counts, and how its epoch began, as one more row leaves them.
use Rattle.std.proofs.Common.{◌≡◌, ◌∙◌, sym, ap, subst, refl, ℕ, ◌+◌, ◌<◌, ◌≤◌, ◌⊎◌, inl, inr, Bool, true, false, ◌&&◌, eqb, List, [], ◌∷◌, ◌++◌, length, Some, None, arith, length-append}
use Rattle.std.specs.Prelude.{is_some}
use Rattle.std.specs.List.{AllByRecursion, filter}
use Rattle.std.proofs.lemmas.Bool.{ne_eqb, eq-eqb, eqb-true, eqb-false}
use Rattle.line_model.specs.declared.interface.Interface.{Interface}
use Rattle.line_model.specs.declared.gap.EpochStart.{EpochStart}
use Rattle.line_model.specs.basics.Records.{Item}
use Rattle.line_model.specs.channels.GapRestart.{GapInterfaceState, is_gap_of_all, is_ready, start_by}
use Rattle.line_model.specs.observer.Observer.{x25}
use Rattle.line_model.specs.observer.Report.{gaps_of}
use Rattle.line_model.specs.packets.Says.{gap_item, gap_of}
use Rattle.line_model.specs.pieces.Pieces.{Placed, step_rows, steps_by}
use Rattle.line_model.specs.pieces.Plans.{single_gaps}
use Rattle.line_model.specs.pieces.Shuffle.{is_channel}
use Rattle.line_model.proofs.Pieces.{filter_append}
use Rattle.restart_epochs.specs.Cutting.{Cutting, Represents, epoch_start, items_if, observer, places, rows_if, taken_rows}
use Rattle.restart_epochs.specs.OpenRows.{OpenRows, last_number, rows_of, with_gap, HasMore}
use Rattle.restart_epochs.specs.Walks.{start_after}
use Rattle.restart_epochs.proofs.Epochs.{later_start, place_of, places_more, started_next, steps_none, steps_one, steps_same}
use Rattle.restart_epochs.proofs.GapRows.{gap_pushed, one_gap, single_gap, single_on, taken_gap, taken_on}
use Rattle.restart_epochs.proofs.Growth.{within_more}

-- ---- how many gaps there are

pub gaps_counted : (rs : List Item) (r : Item) (n m : ℕ) → n ≡ gaps_of rs → m ≡ n + gaps_of (r ∷ []) → m ≡ gaps_of (rs ++ r ∷ [])
gaps_counted rs r n m e h =
    h ∙ ap (λ k. k + gaps_of (r ∷ [])) e
    ∙ sym (ap (λ (l : List Item). length l) (filter_append (λ (x : Item). is_some (gap_of x.packet)) rs (r ∷ []))
    ∙ length-append (filter (λ (x : Item). is_some (gap_of x.packet)) rs) (filter (λ (x : Item). is_some (gap_of x.packet)) (r ∷ [])))

-- ---- how the epoch began

abbrev start_if : (same : Bool) → EpochStart → GapInterfaceState → EpochStart
start_if b start machine = elim b [ true ↦ start | false ↦ start_by machine ]

pub start_stays : (epoch next : ℕ) (start : EpochStart) (machine : GapInterfaceState) → next ≡ epoch → start_after epoch start next machine ≡ start
start_stays epoch next start machine same = ap (λ b. start_if b start machine) (eq-eqb next epoch same)

pub start_anew : (epoch next : ℕ) (start : EpochStart) (machine : GapInterfaceState) → epoch < next → start_after epoch start next machine ≡ start_by machine
start_anew epoch next start machine lt = ap (λ b. start_if b start machine) (ne_eqb next epoch (λ same. omega (arith, same, lt)))

pub start_more : (i : Interface) (rs : List Item) (r : Item) (start : EpochStart) (next : ℕ) (l' : GapInterfaceState) → (observer i (rs ++ r ∷ [])).epoch ≡ next → (observer i (rs ++ r ∷ [])).level ≡ l'
    → (next ≡ (observer i rs).epoch) ⊎ (next ≡ (observer i rs).epoch + 1) → AllByRecursion (λ p. p.epoch ≤ (observer i rs).epoch) (places i rs)
    → start ≡ start_after (observer i rs).epoch (epoch_start (observer i rs).epoch (observer i rs).level (places i rs)) next l'
    → start ≡ epoch_start (observer i (rs ++ r ∷ [])).epoch (observer i (rs ++ r ∷ [])).level (places i (rs ++ r ∷ []))
start_more i rs r start next l' epoch level which within is =
    is ∙ at which ∙ (λ j. epoch_start (sym epoch j) (sym level j) (sym (places_more i rs r) j))
  where
    at : (next ≡ (observer i rs).epoch) ⊎ (next ≡ (observer i rs).epoch + 1)
        → start_after (observer i rs).epoch (epoch_start (observer i rs).epoch (observer i rs).level (places i rs)) next l' ≡ epoch_start next l' (places i rs ++ place_of i rs r ∷ [])
    at (inl same) =
        let o = observer i rs in
        let p = place_of i rs r in
        start_stays o.epoch next (epoch_start o.epoch o.level (places i rs)) l' same
        ∙ sym (started_next o.epoch o.level l' (places i rs) p (eq-eqb o.epoch o.epoch refl) refl)
        ∙ ap (λ n. epoch_start n l' (places i rs ++ p ∷ [])) (sym same)
    at (inr one) =
        let o = observer i rs in
        let p = place_of i rs r in
        start_anew o.epoch next (epoch_start o.epoch o.level (places i rs)) l' (omega (arith, one))
        ∙ sym (later_start o.epoch next l' (places i rs ++ p ∷ []) (omega (arith, one)) (within_more (places i rs) p o.epoch within refl))

-- ---- the rows of a channel

-- a cutter keeps these rows of a channel, with this last gap of all channels
abbrev pub Keeps : (steps : List Item) → (gap : ℕ) → (rows : List Item) → Type 0
Keeps steps gap rows = (rows ≡ taken_rows steps) × (with_gap gap rows ≡ single_gaps steps)

keeps_row : (steps : List Item) (gap : ℕ) (rows after : List Item) (r : Item) → is_gap_of_all r ≡ false → gap ≤ r.number → Keeps steps gap rows → after ≡ with_gap gap rows ++ r ∷ [] → Keeps (steps ++ r ∷ []) gap after
keeps_row steps gap rows after r own le h e =
    let all : after ≡ single_gaps steps ++ r ∷ [] = e ∙ ap (λ l. l ++ r ∷ []) h.1 in
    (all ∙ sym (taken_on steps r own), ap (with_gap gap) e ∙ gap_pushed gap (with_gap gap rows) r le ∙ sym e ∙ all ∙ sym (single_on steps r own))

keeps_gap : (steps : List Item) (gap : ℕ) (rows : List Item) (r : Item) → is_gap_of_all r ≡ true → r ≡ gap_item r.number → last_number rows < r.number → Keeps steps gap rows → Keeps (steps ++ r ∷ []) r.number rows
keeps_gap steps gap rows r all says lt h = (
  h.0 ∙ sym (taken_gap steps r all),
  one_gap r.number rows lt ∙ (λ j. h.0 j ++ sym says j ∷ []) ∙ sym (single_gap steps r all),
)

-- of a cutter in r1
pub keeps_now : (i : Interface) (rs : List Item) (c : Cutting) → Represents i rs c → is_ready (observer i rs).level ≡ true → (k : ℕ) → Keeps (step_rows (x25 i) (observer i rs).epoch k (places i rs)) c.gap (rows_of c.open_rows k)
keeps_now i rs c s ready k =
    let o = observer i rs in
    (s.rows k ∙ ap (λ b. rows_if b i (places i rs) o.epoch k) ready, s.items k ∙ ap (λ b. items_if b i (places i rs) o.epoch k) ready)

-- a row of a channel
pub keeps_on : (i : Interface) (ps : List (Placed Item)) (p : Placed Item) (e gap channel k : ℕ) (b : Bool) → eqb k channel ≡ b → is_gap_of_all p.row ≡ false → p.epoch ≡ e → p.channel ≡ Some channel → gap ≤ p.row.number
    → (before after : OpenRows) → HasMore gap channel p.row before after → Keeps (step_rows (x25 i) e k ps) gap (rows_of before k)
    → Keeps (step_rows (x25 i) e k (ps ++ p ∷ [])) gap (rows_of after k)
keeps_on i ps p e gap channel k true same own at on le before after more was =
    let is = eqb-true k channel same in
    let here : (steps_by k p (is_gap_of_all p.row) && eqb p.epoch e) ≡ true =
    (λ j. steps_by k p (own j) && eqb p.epoch e) ∙ (λ j. is_channel k (on j) && eqb p.epoch e) ∙ ap (λ b. b && eqb p.epoch e) (eq-eqb channel k (sym is)) ∙ eq-eqb p.epoch e at in
    let row : rows_of after k ≡ with_gap gap (rows_of before k) ++ p.row ∷ [] = ap (rows_of after) is ∙ more.row ∙ ap (λ j. with_gap gap (rows_of before j) ++ p.row ∷ []) (sym is) in
    subst (λ l. Keeps l gap (rows_of after k)) (sym (steps_one i e k ps p here)) (keeps_row (step_rows (x25 i) e k ps) gap (rows_of before k) (rows_of after k) p.row own le was row)
keeps_on i ps p e gap channel k false other own at on le before after more was =
    let ne = eqb-false k channel other in
    let none : (steps_by k p (is_gap_of_all p.row) && eqb p.epoch e) ≡ false =
    (λ j. steps_by k p (own j) && eqb p.epoch e) ∙ (λ j. is_channel k (on j) && eqb p.epoch e) ∙ ap (λ b. b && eqb p.epoch e) (ne_eqb channel k (λ q. ne (sym q))) in
    subst (λ l. Keeps l gap (rows_of after k)) (sym (steps_same i e k ps p none)) (subst (Keeps (step_rows (x25 i) e k ps) gap) (sym (more.others k ne)) was)

-- a gap of all channels
pub keeps_all : (i : Interface) (ps : List (Placed Item)) (p : Placed Item) (e gap k : ℕ) → is_gap_of_all p.row ≡ true → p.row ≡ gap_item p.row.number → p.epoch ≡ e → p.all ≡ true → (rows : List Item) → last_number rows < p.row.number
    → Keeps (step_rows (x25 i) e k ps) gap rows → Keeps (step_rows (x25 i) e k (ps ++ p ∷ [])) p.row.number rows
keeps_all i ps p e gap k is says at all rows lt was =
    let here : (steps_by k p (is_gap_of_all p.row) && eqb p.epoch e) ≡ true = (λ j. steps_by k p (is j) && eqb p.epoch e) ∙ ap (λ b. b && eqb p.epoch e) all ∙ eq-eqb p.epoch e at in
    subst (λ l. Keeps l p.row.number rows) (sym (steps_one i e k ps p here)) (keeps_gap (step_rows (x25 i) e k ps) gap rows p.row is says lt was)

-- a row that steps no channel
none_stepped : (i : Interface) (ps : List (Placed Item)) (p : Placed Item) (e k : ℕ) → p.channel ≡ None → p.all ≡ false → step_rows (x25 i) e k (ps ++ p ∷ []) ≡ step_rows (x25 i) e k ps
none_stepped i ps p e k none alone = steps_same i e k ps p (ap (λ b. b && eqb p.epoch e) (steps_none p k none alone (is_gap_of_all p.row)))

pub level_rows : (i : Interface) (ps : List (Placed Item)) (p : Placed Item) (e k : ℕ) (ready : Bool) → p.channel ≡ None → p.all ≡ false → rows_if ready i (ps ++ p ∷ []) e k ≡ rows_if ready i ps e k
level_rows i ps p e k true none alone = ap taken_rows (none_stepped i ps p e k none alone)
level_rows i ps p e k false none alone = refl

pub level_items : (i : Interface) (ps : List (Placed Item)) (p : Placed Item) (e k : ℕ) (ready : Bool) → p.channel ≡ None → p.all ≡ false → items_if ready i (ps ++ p ∷ []) e k ≡ items_if ready i ps e k
level_items i ps p e k true none alone = ap single_gaps (none_stepped i ps p e k none alone)
level_items i ps p e k false none alone = refl
