-- What was fed, list by list.
use Rattle.std.proofs.Common.{◌≡◌, ℕ, suc, zero, ◌+◌, List, [], ◌∷◌, ◌++◌, Some, length, refl, sym, ap, ◌∙◌, subst, arith, append-nil, length-append}
use Rattle.std.specs.Prelude.{slice_get}
use Rattle.std.proofs.lemmas.List.{append_assoc}
use Rattle.line_model.specs.basics.Records.{Piece}
use Rattle.line_model.specs.work.Book.{KnownPlan, IsPlanned}
use Rattle.shared_work.specs.queue.Passes.{PassView}
use Rattle.shared_work.specs.queue.Rule.{ArePlanned, feeder}
use Rattle.workers.specs.Workers.{FeedsAll, FeedsFirst}

pub fed_none : (v : PassView) → v.record_of.ends ≡ 0 → FeedsAll v [] v
fed_none v none = record {
  queue = refl;
  kept = record { ends = none; pending = refl; done = refl; taken = refl };
  fed = omega arith;
  pieces = sym (append-nil v.pieces);
}

pub fed_bundle : (v w : PassView) (ps : List Piece) → v.record_of.ends ≡ 0 → w.queue ≡ v.queue
    → w.record_of ≡ feeder (v.record_of.fed + length ps) v.record_of.ends v.record_of.pending v.record_of.done v.record_of.taken → w.pieces ≡ v.pieces ++ ps → FeedsAll v ps w
fed_bundle v w ps none queue fed pieces = record {
  queue = queue;
  kept = record { ends = ap (λ r. r.ends) fed ∙ none; pending = ap (λ r. r.pending) fed; done = ap (λ r. r.done) fed; taken = ap (λ r. r.taken) fed };
  fed = ap (λ r. r.fed) fed;
  pieces = pieces;
}

pub fed_then : (v u w : PassView) (ps qs : List Piece) → FeedsAll v ps u → FeedsAll u qs w → FeedsAll v (ps ++ qs) w
fed_then v u w ps qs one two = record {
  queue = two.queue ∙ one.queue;
  kept = record { ends = two.kept.ends; pending = two.kept.pending ∙ one.kept.pending; done = two.kept.done ∙ one.kept.done; taken = two.kept.taken ∙ one.kept.taken };
  fed = omega (arith, one.fed, two.fed, length-append ps qs);
  pieces = two.pieces ∙ (ap (λ l. l ++ qs) one.pieces ∙ append_assoc v.pieces ps qs);
}

-- the front of planned pieces, and what comes after it
pub planned_front : (plan : KnownPlan) (n : ℕ) (ps qs : List Piece) → ArePlanned plan n (ps ++ qs) → ArePlanned plan n ps
planned_front plan n ps qs planned k p is = planned k p (at ps k is)
  where
    at : (l : List Piece) (k : ℕ) → slice_get l k ≡ Some p → slice_get (l ++ qs) k ≡ Some p
    at [] k e = absurd (cc)
    at (x ∷ l) zero e = e
    at (x ∷ l) (suc k) e = at l k e

pub planned_back : (plan : KnownPlan) (n : ℕ) (ps qs : List Piece) → ArePlanned plan n (ps ++ qs) → ArePlanned plan (n + length ps) qs
planned_back plan n ps qs planned k p is = subst (λ m. IsPlanned plan m p) sum (planned (length ps + k) p (at ps (length ps + k) refl))
  where
    sum : n + (length ps + k) ≡ n + length ps + k
    sum = omega arith

    at : (l : List Piece) (j : ℕ) → j ≡ length l + k → slice_get (l ++ qs) j ≡ Some p
    at [] j e = subst (λ i. slice_get qs i ≡ Some p) (omega (arith, e)) is
    at (x ∷ l) zero e = absurd (omega (arith, e))
    at (x ∷ l) (suc j) e = at l j (omega (arith, e))

-- those that are left are planned, once the first were fed
pub left_planned : (plan : KnownPlan) (v w : PassView) (all rest : List Piece) → FeedsFirst v all rest w → ArePlanned plan v.record_of.fed all → ArePlanned plan w.record_of.fed rest
left_planned plan v w all rest fed planned =
    subst (λ n. ArePlanned plan n rest) (sym fed.1.fed) (planned_back plan v.record_of.fed fed.0 rest (subst (ArePlanned plan v.record_of.fed) (sym fed.2) planned))

-- those that wait and the next one are planned
pub first_planned : (plan : KnownPlan) (v w : PassView) (all waiting rest left : List Piece) (p : Piece) → rest ≡ p ∷ left → FeedsFirst v all (waiting ++ rest) w → ArePlanned plan v.record_of.fed all → ArePlanned plan w.record_of.fed (waiting ++ p ∷ [])
first_planned plan v w all waiting rest left p is fed planned =
    planned_front plan w.record_of.fed (waiting ++ p ∷ []) left
    (subst (ArePlanned plan w.record_of.fed) (ap (λ l. waiting ++ l) is ∙ sym (append_assoc waiting (p ∷ []) left)) (left_planned plan v w all (waiting ++ rest) fed planned))

-- some were fed, and then some of those that were left
pub first_on : (v u w : PassView) (all rest still : List Piece) → FeedsFirst v all rest u → FeedsFirst u rest still w → FeedsFirst v all still w
first_on v u w all rest still one two = (one.0 ++ two.0, fed_then v u w one.0 two.0 one.1 two.1, append_assoc one.0 two.0 still ∙ (ap (λ l. one.0 ++ l) two.2 ∙ one.2))

-- more pieces come after those that wait
pub first_more : (v w : PassView) (ps waiting more : List Piece) → FeedsFirst v ps waiting w → FeedsFirst v (ps ++ more) (waiting ++ more) w
first_more v w ps waiting more fed = (fed.0, fed.1, sym (append_assoc fed.0 waiting more) ∙ ap (λ l. l ++ more) fed.2)

-- the next one was added, and some were fed
pub first_next : (v u w : PassView) (all waiting still rest left : List Piece) (p : Piece) → rest ≡ p ∷ left → FeedsFirst v all (waiting ++ rest) u → FeedsFirst u (waiting ++ p ∷ []) still w → FeedsFirst v all (still ++ left) w
first_next v u w all waiting still rest left p is fed more =
    first_on v u w all (waiting ++ rest) (still ++ left) fed
    (subst (λ l. FeedsFirst u l (still ++ left) w) (append_assoc waiting (p ∷ []) left ∙ ap (λ l. waiting ++ l) (sym is)) (first_more u w (waiting ++ p ∷ []) still left more))

-- all that wait are fed
pub first_whole : (v u w : PassView) (all waiting rest : List Piece) → rest ≡ [] → FeedsFirst v all (waiting ++ rest) u → FeedsAll u waiting w → FeedsAll v all w
first_whole v u w all waiting rest none fed more =
    subst (λ l. FeedsAll v l w) (ap (λ l. fed.0 ++ l) (sym (append-nil waiting) ∙ ap (λ l. waiting ++ l) (sym none)) ∙ fed.2) (fed_then v u w fed.0 waiting fed.1 more)

pub last_planned : (plan : KnownPlan) (v w : PassView) (all waiting rest : List Piece) → rest ≡ [] → FeedsFirst v all (waiting ++ rest) w → ArePlanned plan v.record_of.fed all → ArePlanned plan w.record_of.fed waiting
last_planned plan v w all waiting rest none fed planned =
    planned_front plan w.record_of.fed waiting rest (left_planned plan v w all (waiting ++ rest) fed planned)

-- all were fed
pub all_fed : (v w : PassView) (ps none : List Piece) → none ≡ [] → FeedsAll v ps w → FeedsFirst v ps none w
all_fed v w ps none empty fed = (ps, fed, ap (λ l. ps ++ l) empty ∙ append-nil ps)

-- nothing was fed, and all wait
pub all_wait : (v : PassView) (ps waiting : List Piece) → v.record_of.ends ≡ 0 → waiting ≡ ps → FeedsFirst v ps waiting v
all_wait v ps waiting none same = ([], fed_none v none, same)

-- all were fed, and none waits
pub none_wait : (v u w : PassView) (ps waiting : List Piece) (p : Piece) → waiting ≡ [] → FeedsAll v ps u → FeedsAll u (p ∷ []) w → FeedsFirst v (ps ++ p ∷ []) waiting w
none_wait v u w ps waiting p empty one two = (ps ++ p ∷ [], fed_then v u w ps (p ∷ []) one two, ap (λ l. (ps ++ p ∷ []) ++ l) empty ∙ append-nil (ps ++ p ∷ []))

-- the last of some pieces is planned, once those before it were fed
pub last_next : (plan : KnownPlan) (v w : PassView) (ps : List Piece) (p q : Piece) → q ≡ p → FeedsAll v ps w → ArePlanned plan v.record_of.fed (ps ++ p ∷ []) → IsPlanned plan w.record_of.fed q
last_next plan v w ps p q same fed planned =
    let next = planned_back plan v.record_of.fed ps (p ∷ []) planned 0 p refl in
    let sum : v.record_of.fed + length ps + 0 ≡ w.record_of.fed = omega (arith, fed.fed) in
    subst (λ (y : ℕ × Piece). IsPlanned plan y.0 y.1) (λ i. (sum i, sym same i)) next
