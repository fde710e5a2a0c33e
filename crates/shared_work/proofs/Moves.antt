-- Each step of a pass keeps the rule.
use Rattle.std.proofs.Common.{◌≡◌, ◌≢◌, ℕ, zero, suc, ◌+◌, ◌<◌, ◌≤◌, List, [], ◌∷◌, ◌++◌, length, set, Bool, true, false, true≢false, refl, sym, ap, ◌∙◌, subst, ⊎_elim, arith}
use Rattle.std.specs.Prelude.{sum_by, if◌then◌else◌}
use Rattle.std.proofs.lemmas.List.Sums.{sum_by-cons, sum_by_push}
use Rattle.std.proofs.lemmas.Bool.{le-ltb}
use mathlib.Core.Option.{some, some-ne-none, some-injective}
use lib.ListN.{get_elem?}
use Rattle.crossbeam_queue.specs.Fifo.{Pushes, Pops, Forks, Merges, Learns, Held}
use Rattle.crossbeam_queue.proofs.Lists.{at_set, at_snoc, at_longer, set_again, set_else}
use Rattle.line_model.specs.basics.Records.{Piece}
use Rattle.line_model.specs.work.Book.{KnownPlan, IsPlanned, times, once_below}
use Rattle.line_model.specs.work.Work.{WorkEntry, IsLine}
use Rattle.line_model.specs.work.Work.WorkEntry.{job, finish}
use Rattle.line_model.proofs.Counting.{bit, times-append}
use Rattle.line_model.proofs.QueueLines.{once_suc, line-le, line-piece, line-end}
use Rattle.shared_work.specs.declared.queue.rule.Record.{Record}
use Rattle.shared_work.specs.queue.Rule.{feeder, worker, nothing_done, after_split, after_join, Fed, EndFed, TookEntry, Count, IsOver, Fits, HasFeeder, pending_of, IsCounted, IsKept, IsInQueue, IsDrained, IsAccounted}

-- a sum after a change at one place
sum_set : (f : Record → ℕ) (views : List Record) (port : ℕ) (v w : Record) → get_elem? views port ≡ some v → sum_by f (set views port w) + f v ≡ sum_by f views + f w
sum_set f [] port v w e = absurd (some-ne-none v (sym e))
sum_set f (x ∷ xs) zero v w e = let same : f x ≡ f v = ap f (some-injective x v e) in omega (arith, sum_by-cons f x xs, sum_by-cons f w xs)
sum_set f (x ∷ xs) (suc port) v w e = omega (arith, sum_by-cons f x xs, sum_by-cons f x (set xs port w), sum_set f xs port v w e)

-- a fact of each view after a change at one place
set_each : (F : ℕ → Record → Type 0) (views : List Record) (port : ℕ) (w : Record) → F port w → ((j : ℕ) (u : Record) → j ≢ port → get_elem? views j ≡ some u → F j u) → (j : ℕ) (u : Record) → get_elem? (set views port w) j ≡ some u → F j u
set_each F views port w mine others j u e =
    ⊎_elim
    (λ (x : (j ≡ port) × (w ≡ u)). subst (λ (y : ℕ × Record). F y.0 y.1) (λ i. (sym x.0 i, x.1 i)) mine)
    (λ (x : (j ≢ port) × (get_elem? views j ≡ some u)). others j u x.0 x.1)
    (at_set views port j w u e)

pending_set : (views : List Record) (port : ℕ) (v w : Record) → get_elem? views port ≡ some v → pending_of (set views port w) + bit v.works ≡ pending_of views + bit w.works
pending_set views port v w at = sum_set (λ u. bit u.works) views port v w at

by_cases : {X : Type 0} (b : Bool) → (b ≡ true → X) → (b ≡ false → X) → X
by_cases true f g = f refl
by_cases false f g = g refl

set_there : (views : List Record) (port : ℕ) (v w : Record) → get_elem? views port ≡ some v → get_elem? (set views port w) port ≡ some w
set_there [] port v w at = absurd (some-ne-none v (sym at))
set_there (x ∷ xs) zero v w at = refl
set_there (x ∷ xs) (suc port) v w at = set_there xs port v w at

-- the feeder's own record changes
by_feeder : (views : List Record) (port first fed : ℕ) (v w : Record) → get_elem? views port ≡ some v → port ≡ first → w.feeds ≡ true → w.fed ≡ fed → HasFeeder first fed (set views port w)
by_feeder views port first fed v w at here feeds is = (w, subst (λ n. get_elem? (set views port w) n ≡ some w) here (set_there views port v w at), feeds, is)

-- a worker's record changes
by_worker : (views : List Record) (port first fed : ℕ) (v w : Record) → get_elem? views port ≡ some v → v.feeds ≡ false → HasFeeder first fed views → HasFeeder first fed (set views port w)
by_worker views port first fed v w at none h =
    let apart : first ≢ port = λ e. true≢false (sym h.2 ∙ (ap (λ u. u.feeds) (some-injective h.0 v (sym h.1 ∙ (ap (get_elem? views) e ∙ at))) ∙ none)) in
    (h.0, set_else views port first w apart ∙ h.1, h.2, h.3)

-- no worker is the feeder
works_only : (c : Count) (n port : ℕ) (v : Record) → Fits c n port v → v.works ≡ true → v.feeds ≡ false
works_only c n port v fits works = by_cases v.feeds (λ b. absurd (true≢false (sym works ∙ (fits.feeds b).4))) (λ b. b)

-- a step of one pass
step : (plan : KnownPlan) (items items' : List WorkEntry) (views : List Record) (c c' : Count) (port : ℕ) (v w : Record)
    → IsCounted plan items views c → get_elem? views port ≡ some v → v.works ≡ w.works
    → IsLine plan c'.taken c'.fed c'.waiting items' → c'.waiting ≤ c'.ends
    → HasFeeder c'.feeder c'.fed (set views port w)
    → Fits c' (pending_of views) port w
    → ((j : ℕ) (u : Record) → j ≢ port → Fits c (pending_of views) j u → Fits c' (pending_of views) j u)
    → ((x : ℕ) → once_below x c.taken + times x w.taken ≡ once_below x c'.taken + times x v.taken)
    → IsCounted plan items' (set views port w) c'
step plan items items' views c c' port v w h at same line ends known mine others once =
    let pending : pending_of (set views port w) ≡ pending_of views = let e : bit v.works ≡ bit w.works = ap bit same in omega (arith, pending_set views port v w at, e) in
    record {
      line = line;
      ends = ends;
      known = known;
      fits = set_each (λ j u. Fits c' (pending_of (set views port w)) j u) views port w
          (subst (λ n. Fits c' n port w) (sym pending) mine)
          (λ j u apart e. subst (λ n. Fits c' n j u) (sym pending) (others j u apart (h.fits j u e)));
      once = λ x. omega (arith, sum_set (λ u. times x u.taken) views port v w at, h.once x, once x);
    }

off : false ≡ true → ⊥
off e = true≢false (sym e)

not_feeder : (c : Count) (n : ℕ) (port j : ℕ) (v u : Record) → Fits c n port v → v.feeds ≡ true → Fits c n j u → j ≢ port → u.feeds ≡ true → ⊥
not_feeder c n port j v u mine feeds other apart may = apart ((other.feeds may).0 ∙ sym (mine.feeds feeds).0)

pub begins : (plan : KnownPlan) → IsKept plan [] (feeder 0 0 0 0 [] ∷ [])
begins plan = (record { feeder = 0; fed = 0; taken = 0; ends = 0; waiting = 0 }, record { line = (refl, refl); ends = omega arith; known = (feeder 0 0 0 0 [], refl, refl, refl); fits = one; once = λ x. sym (ap (λ b. if b then 1 else 0) (le-ltb x 0 (omega arith))) })
  where
    one : (port : ℕ) (v : Record) → get_elem? (feeder 0 0 0 0 [] ∷ []) port ≡ some v → Fits (record { feeder = 0; fed = 0; taken = 0; ends = 0; waiting = 0 }) 0 port v
    one zero v e = subst (Fits (record { feeder = 0; fed = 0; taken = 0; ends = 0; waiting = 0 }) 0 0) (some-injective _ _ e)
        (record { feeds = λ _. (refl, refl, refl, refl, refl, λ lt. absurd (omega arith)); finished = λ b. absurd (off b); idle = λ b _. absurd (off (sym b)); known_fed = λ _. refl })
    one (suc port) v e = absurd (some-ne-none v (sym e))

pub feeds_piece : (plan : KnownPlan) (n port : ℕ) (v : Record) (p : Piece) → v.feeds ≡ true → v.ends ≡ 0 → IsPlanned plan v.fed p → Pushes (IsKept plan) n port v (job p) (Fed v (job p))
feeds_piece plan n port v p feeds none is items views room h at =
    let c = h.0 in
    let k = h.1 in
    let mine = k.fits port v at in
    let m = mine.feeds feeds in
    let c' : Count = record { feeder = c.feeder; fed = suc c.fed; taken = c.taken; ends = c.ends; waiting = c.waiting } in
    let w = feeder (v.fed + 1) v.ends v.pending v.done v.taken in
    let never : IsOver c → ⊥ = λ (o : IsOver c). omega (arith, o.1, m.2, none) in (
      w,
      (
        c',
        step plan items (items ++ job p ∷ []) views c c' port v w k at m.4
            (line-piece plan items c.taken c.fed c.waiting p (let e = k.ends in omega (arith, m.2, none)) (subst (λ x. IsPlanned plan x p) m.1 is) k.line)
            k.ends
            (by_feeder views port c.feeder (suc c.fed) v w at m.0 refl (omega (arith, m.1)))
            (record { feeds = λ _. (m.0, omega (arith, m.1), m.2, m.3, refl, λ lt. absurd (never (m.5 lt))); finished = λ b. absurd (off b); idle = λ b _. absurd (off (sym b)); known_fed = λ _. omega (arith, m.1) })
            (λ j u apart o. record { feeds = λ b. absurd (not_feeder c (pending_of views) port j v u mine feeds o apart b); finished = λ b. absurd (never (o.finished b).0); idle = o.idle; known_fed = λ b. absurd (not_feeder c (pending_of views) port j v u mine feeds o apart b) })
            (λ x. refl),
      ),
      refl,
    )

pub feeds_end : (plan : KnownPlan) (n port : ℕ) (v : Record) → v.feeds ≡ true → Pushes (IsKept plan) n port v finish (EndFed v finish)
feeds_end plan n port v feeds items views room h at =
    let c = h.0 in
    let k = h.1 in
    let mine = k.fits port v at in
    let m = mine.feeds feeds in
    let c' : Count = record { feeder = c.feeder; fed = c.fed; taken = c.taken; ends = suc c.ends; waiting = suc c.waiting } in
    let w = feeder v.fed (v.ends + 1) v.pending v.done v.taken in
    let still : IsOver c → IsOver c' = λ (o : IsOver c). (o.0, omega arith) in (
      w,
      (
        c',
        step plan items (items ++ finish ∷ []) views c c' port v w k at m.4
            (line-end plan items c.taken c.fed c.waiting k.line)
            (let e = k.ends in omega arith)
            (by_feeder views port c.feeder c.fed v w at m.0 refl m.1)
            (record { feeds = λ _. (m.0, m.1, omega (arith, m.2), m.3, refl, λ lt. still (m.5 lt)); finished = λ b. absurd (off b); idle = λ b _. absurd (off (sym b)); known_fed = λ _. m.1 })
            (λ j u apart o. record { feeds = λ b. absurd (not_feeder c (pending_of views) port j v u mine feeds o apart b); finished = λ b. (still (o.finished b).0, (o.finished b).1); idle = o.idle; known_fed = o.known_fed })
            (λ x. refl),
      ),
      refl,
    )

-- at a full queue the feeder knows what is in it
pub learns_line : (plan : KnownPlan) (port : ℕ) (v : Record) → v.feeds ≡ true → Learns (IsKept plan) port v (IsInQueue plan v)
learns_line plan port v feeds items views h at =
    let k = h.1 in
    let m = (k.fits port v at).feeds feeds in
    (h.0.taken, h.0.waiting, subst (λ n. IsLine plan h.0.taken n h.0.waiting items) (sym m.1) k.line, subst (λ n. h.0.waiting ≤ n) (sym m.2) k.ends)

-- where as many were taken as were fed
drained : (plan : KnownPlan) (v : Record) (items : List WorkEntry) (views : List Record) (h : IsKept plan items views) (port : ℕ) → get_elem? views port ≡ some v → h.0.taken ≡ h.0.fed → IsDrained plan v h.0.fed items
drained plan v items views h port at all = record {
  views = views;
  kept = h;
  port = port;
  among = at;
  known = (h.0.feeder, h.1.known);
  once = λ x. h.1.once x ∙ ap (once_below x) all;
  waiting = h.0.waiting;
  line = subst (λ n. IsLine plan n h.0.fed h.0.waiting items) all h.1.line;
}

-- where the queue has no entry, each piece that was fed was taken
pub at_no_entry : (plan : KnownPlan) (v : Record) (views : List Record) → IsKept plan [] views → (port : ℕ) → get_elem? views port ≡ some v → (fed : ℕ) × IsDrained plan v fed []
at_no_entry plan v views h port at = (h.0.fed, drained plan v [] views h port at h.1.line.0)

pub at_an_end : (plan : KnownPlan) (v w : Record) → TookEntry plan v finish w → (n : ℕ) × (0 < n) × Held n (IsDrained plan v w.fed)
at_an_end plan v w took = let items = finish ∷ took.1.0 in (length items, omega arith, (items, refl, took.1.1))

pub takes : (plan : KnownPlan) (port : ℕ) (v : Record) → v.works ≡ true → Pops (IsKept plan) port v (TookEntry plan v)
takes plan port v works (job p) items views h at =
    let c = h.0 in
    let k = h.1 in
    let c' : Count = record { feeder = c.feeder; fed = c.fed; taken = suc c.taken; ends = c.ends; waiting = c.waiting } in
    let w = worker (v.taken ++ p.id ∷ []) v.finished v.fed in
    let is = k.line.0 in
    let never : IsOver c → ⊥ = λ (o : IsOver c). omega (arith, o.0, line-le plan items (suc c.taken) c.fed c.waiting k.line.1) in (
      w,
      (
        c',
        step plan (job p ∷ items) items views c c' port v w k at works k.line.1 k.ends
            (by_worker views port c.feeder c.fed v w at (works_only c (pending_of views) port v (k.fits port v at) works) k.known)
            (record { feeds = λ b. absurd (off b); finished = λ b. absurd (never ((k.fits port v at).finished b).0); idle = λ _ b. absurd (off (sym b)); known_fed = λ b. absurd (off b) })
            (λ j u apart o. record { feeds = λ b. let m = o.feeds b in (m.0, m.1, m.2, m.3, m.4, λ lt. absurd (never (m.5 lt))); finished = λ b. absurd (never (o.finished b).0); idle = o.idle; known_fed = o.known_fed })
            (λ x. let same : times x (p.id ∷ []) ≡ times x (c.taken ∷ []) = ap (λ n. times x (n ∷ [])) is.0 in omega (arith, times-append x v.taken (p.id ∷ []), once_suc x c.taken, same)),
      ),
      (subst (λ n. IsPlanned plan n p) (sym is.0) is, refl),
    )
takes plan port v works finish items views h at =
    let c = h.0 in
    let k = h.1 in
    let left = k.line.1.0 in
    let c' : Count = record { feeder = c.feeder; fed = c.fed; taken = c.taken; ends = c.ends; waiting = left } in
    let w = worker v.taken true c.fed in
    let some_left : suc left ≤ c.ends = let e = k.ends in omega (arith, k.line.1.1, e) in (
      w,
      (
        c',
        step plan (finish ∷ items) items views c c' port v w k at works k.line.1.2 (omega arith)
            (by_worker views port c.feeder c.fed v w at (works_only c (pending_of views) port v (k.fits port v at) works) k.known)
            (record { feeds = λ b. absurd (off b); finished = λ _. ((k.line.0, omega arith), refl); idle = λ _ b. absurd (off (sym b)); known_fed = λ b. absurd (off b) })
            (λ j u apart o. record { feeds = o.feeds; finished = o.finished; idle = o.idle; known_fed = o.known_fed })
            (λ x. refl),
      ),
      (refl, (items, drained plan v (finish ∷ items) views h port at k.line.0)),
    )

pub splits : (plan : KnownPlan) (port : ℕ) (v : Record) → v.feeds ≡ true → Forks (IsKept plan) port v (after_split v) (worker [] false 0)
splits plan port v feeds items views h at =
    let c = h.0 in
    let k = h.1 in
    let mine = k.fits port v at in
    let m = mine.feeds feeds in
    let l = after_split v in
    let r = worker [] false 0 in
    let vs = set views port l in
    let first = by_feeder views port c.feeder c.fed v l at m.0 refl m.1 in
    let pending : pending_of (vs ++ r ∷ []) ≡ pending_of views + 1 = let e : bit v.works ≡ 0 = ap bit m.4 in omega (arith, pending_set views port v l at, sum_by_push (λ u. bit u.works) vs r, e) in
    let F : ℕ → Record → Type 0 = λ j u. Fits c (pending_of (vs ++ r ∷ [])) j u in
    let old : (j : ℕ) (u : Record) → get_elem? vs j ≡ some u → F j u =
    set_each F views port l
    (record { feeds = λ _. (m.0, m.1, m.2, omega (arith, m.3, pending), refl, m.5); finished = λ b. absurd (off b); idle = λ b _. absurd (off (sym b)); known_fed = λ _. m.1 })
    (λ j u apart e. let o = k.fits j u e in record { feeds = λ b. absurd (not_feeder c (pending_of views) port j v u mine feeds o apart b); finished = o.finished; idle = o.idle; known_fed = o.known_fed }) in (
      c,
      record {
        line = k.line;
        ends = k.ends;
        known = (first.0, at_longer vs (r ∷ []) c.feeder first.0 first.1, first.2, first.3);
        fits = λ j u e. ⊎_elim (λ (x : get_elem? vs j ≡ some u). old j u x)
            (λ (x : r ≡ u). subst (F j) x (record { feeds = λ b. absurd (off b); finished = λ b. absurd (off b); idle = λ _ b. absurd (off (sym b)); known_fed = λ b. absurd (off b) }))
            (at_snoc vs r u j e);
        once = λ x. omega (arith, sum_by_push (λ u. times x u.taken) vs r, sum_set (λ u. times x u.taken) views port v l at, k.once x);
      },
    )

over_done : {X : Type 0} (b : Bool) (d : ℕ) → (b ≡ true → X) → (0 < d → X) → 0 < (if b then d + 1 else d) → X
over_done true d f g lt = f refl
over_done false d f g lt = g lt

known_now : {n : ℕ} (b : Bool) (theirs own : ℕ) → (b ≡ true → theirs ≡ n) → own ≡ n → (if b then theirs else own) ≡ n
known_now true theirs own known_fed is = known_fed refl
known_now false theirs own known_fed is = is

pub joins : (plan : KnownPlan) (port : ℕ) (v : Record) (other : ℕ) (u : Record) → v.feeds ≡ true → u.works ≡ true → Merges (IsKept plan) port v other u (after_join v u) nothing_done
joins plan port v other u feeds works items views h at two at' =
    let c = h.0 in
    let k = h.1 in
    let mine = k.fits port v at in
    let m = mine.feeds feeds in
    let both = after_join v u in
    let vs = set views port both in
    let was : get_elem? views other ≡ some u = ⊎_elim (λ (x : (other ≡ port) × (both ≡ u)). absurd (two x.0)) (λ (x : (other ≢ port) × (get_elem? views other ≡ some u)). x.1) (at_set views port other both u at') in
    let theirs = k.fits other u was in
    let ws = set vs other nothing_done in
    let pending : pending_of ws + 1 ≡ pending_of views =
    let e : bit v.works ≡ 0 = ap bit m.4 in
    let f : bit u.works ≡ 1 = ap bit works in
    omega (arith, pending_set views port v both at, pending_set vs other u nothing_done at', e, f) in
    let F : ℕ → Record → Type 0 = λ j y. Fits c (pending_of ws) j y in
    let G : ℕ → Record → Type 0 = λ j y. j ≢ other → F j y in
    let first : (j : ℕ) (y : Record) → get_elem? vs j ≡ some y → G j y =
    set_each G views port both
    (λ _. record { feeds = λ _. (m.0, m.1, m.2, omega (arith, m.3, pending), refl, over_done u.finished v.done (λ b. (theirs.finished b).0) m.5); finished = λ b. absurd (off b); idle = λ b _. absurd (off (sym b)); known_fed = λ _. known_now u.finished u.fed v.fed (λ b. (theirs.finished b).1) m.1 })
    (λ j y apart e _. let o = k.fits j y e in record { feeds = λ b. absurd (not_feeder c (pending_of views) port j v y mine feeds o apart b); finished = o.finished; idle = o.idle; known_fed = o.known_fed }) in (
      c,
      record {
        line = k.line;
        ends = k.ends;
        known = by_worker vs other c.feeder c.fed u nothing_done at' (works_only c (pending_of views) other u theirs works) (by_feeder views port c.feeder c.fed v both at m.0 refl m.1);
        fits = set_each F vs other nothing_done (record { feeds = λ b. absurd (off b); finished = λ b. absurd (off b); idle = λ _ _. refl; known_fed = λ b. absurd (off b) }) (λ j y apart e. first j y e apart);
        once = λ x. omega (arith, sum_set (λ y. times x y.taken) views port v both at, sum_set (λ y. times x y.taken) vs other u nothing_done at', times-append x v.taken u.taken, k.once x);
      },
    )

none_at : (f : Record → ℕ) (views : List Record) (j : ℕ) (u : Record) → sum_by f views ≡ 0 → get_elem? views j ≡ some u → f u ≡ 0
none_at f [] j u z e = absurd (some-ne-none u (sym e))
none_at f (x ∷ xs) zero u z e = let same : f x ≡ f u = ap f (some-injective x u e) in omega (arith, sum_by-cons f x xs)
none_at f (x ∷ xs) (suc j) u z e = none_at f xs j u (omega (arith, sum_by-cons f x xs)) e

none_in : (f : Record → ℕ) (views : List Record) → ((j : ℕ) (u : Record) → get_elem? views j ≡ some u → f u ≡ 0) → sum_by f views ≡ 0
none_in f [] none = refl
none_in f (x ∷ xs) none = omega (arith, sum_by-cons f x xs, none 0 x refl, none_in f xs (λ j u e. none (suc j) u e))

only_one : (f : Record → ℕ) (views : List Record) (port : ℕ) (v : Record) → get_elem? views port ≡ some v → ((j : ℕ) (u : Record) → j ≢ port → get_elem? views j ≡ some u → f u ≡ 0) → sum_by f views ≡ f v
only_one f [] port v at none = absurd (some-ne-none v (sym at))
only_one f (x ∷ xs) zero v at none = let same : f x ≡ f v = ap f (some-injective x v at) in omega (arith, sum_by-cons f x xs, none_in f xs (λ j u e. none (suc j) u (λ h. omega arith) e))
only_one f (x ∷ xs) (suc port) v at none = omega (arith, sum_by-cons f x xs, none 0 x (λ h. omega arith) refl, only_one f xs port v at (λ j u apart e. none (suc j) u (λ h. apart (omega arith)) e))

not_set : (b : Bool) → bit b ≡ 0 → b ≡ false
not_set true e = absurd (omega arith)
not_set false e = refl

all_taken : (plan : KnownPlan) (port : ℕ) (v : Record) → v.feeds ≡ true → Learns (IsKept plan) port v (λ items. IsAccounted v)
all_taken plan port v feeds items views h at none some_done x =
    let c = h.0 in
    let k = h.1 in
    let mine = k.fits port v at in
    let m = mine.feeds feeds in
    let all : c.taken ≡ v.fed = omega (arith, (m.5 some_done).0, m.1) in
    let one = only_one (λ u. times x u.taken) views port v at
    (λ j u apart e. let o = k.fits j u e in
    let idle : u.works ≡ false = not_set u.works (none_at (λ y. bit y.works) views j u (omega (arith, none, m.3)) e) in
    ap (times x) (by_cases u.feeds (λ b. absurd (not_feeder c (pending_of views) port j v u mine feeds o apart b)) (λ b. o.idle b idle))) in
    sym one ∙ k.once x ∙ ap (once_below x) all

pub accounts : (plan : KnownPlan) (port : ℕ) (v : Record) → v.feeds ≡ true → Learns (IsKept plan) port v (λ items. (v.known_fed ≡ v.fed) × IsAccounted v)
accounts plan port v feeds items views h at =
    let mine = h.1.fits port v at in (mine.known_fed feeds ∙ sym (mine.feeds feeds).1, all_taken plan port v feeds items views h at)

-- a pass that does nothing
pub adds_nothing : (plan : KnownPlan) (port : ℕ) (v : Record) → Forks (IsKept plan) port v v nothing_done
adds_nothing plan port v items views h at =
    let c = h.0 in
    let k = h.1 in
    let same : set views port v ≡ views = set_again views port v at in
    let pending : pending_of (views ++ nothing_done ∷ []) ≡ pending_of views = omega (arith, sum_by_push (λ u. bit u.works) views nothing_done) in
    let F : ℕ → Record → Type 0 = λ j u. Fits c (pending_of (views ++ nothing_done ∷ [])) j u in
    subst (λ l. IsKept plan items (l ++ nothing_done ∷ [])) (sym same) (
      c,
      record {
        line = k.line;
        ends = k.ends;
        known = (k.known.0, at_longer views (nothing_done ∷ []) c.feeder k.known.0 k.known.1, k.known.2, k.known.3);
        fits = λ j u e. ⊎_elim (λ (x : get_elem? views j ≡ some u). subst (λ n. Fits c n j u) (sym pending) (k.fits j u x))
            (λ (x : nothing_done ≡ u). subst (F j) x (record { feeds = λ b. absurd (off b); finished = λ b. absurd (off b); idle = λ _ _. refl; known_fed = λ b. absurd (off b) }))
            (at_snoc views nothing_done u j e);
        once = λ x. omega (arith, sum_by_push (λ u. times x u.taken) views nothing_done, k.once x);
      },
    )
