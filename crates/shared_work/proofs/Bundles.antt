-- Each step of a pass keeps the rule of a queue of bundles.
use Rattle.std.proofs.Common.{◌≡◌, ℕ, zero, suc, ◌+◌, ◌<◌, List, [], ◌∷◌, ◌++◌, length, set, Some, true, false, refl, sym, ap, ◌∙◌, subst, arith, append-nil}
use Rattle.std.specs.Prelude.{All, MatchOption, Option, None}
use Rattle.std.proofs.lemmas.List.{append_assoc, nil_from_length}
use Rattle.std.proofs.lemmas.List.Elements.{All-push}
use mathlib.Core.Option.{some, some-ne-none}
use lib.ListN.{get_elem?}
use Rattle.crossbeam_queue.specs.Fifo.{Pushes, Pops, Forks, Merges, Learns, Held}
use Rattle.crossbeam_queue.proofs.Lists.{set_again}
use Rattle.line_model.specs.basics.Records.{Piece}
use Rattle.line_model.specs.work.Book.{KnownPlan, IsPlanned}
use Rattle.line_model.specs.work.Work.{WorkEntry, numbers_of}
use Rattle.line_model.specs.work.Work.WorkEntry.{job, finish}
use Rattle.shared_work.specs.declared.queue.rule.Record.{Record}
use Rattle.shared_work.specs.declared.queue.rule.QueueNotes.{QueueNotes}
use Rattle.shared_work.specs.queue.Entries.{jobs, line_of, AreFilled, pieces_in}
use Rattle.shared_work.specs.queue.Rule.{feeder, worker, nothing_done, after_split, after_join, ArePlanned, IsWorker, AreInQueue, IsAccounted, IsDrained, TookEntry}
use Rattle.shared_work.specs.queue.Known.{notes, AreNoted, AreBundled, IsBetween, FedBundle, FedEnd, Took, TookAll, with_witness, IsConfirmed}
use Rattle.shared_work.proofs.Noted.{All-none, noted_begins, noted_piece, noted_end, noted_take, noted_line, noted_split, noted_witness, noted_join, noted_learns, noted_accounts, noted_confirms, noted_none}

-- the entries of a bundle
length-jobs : (ps : List Piece) → length (jobs ps) ≡ length ps
length-jobs [] = refl
length-jobs (p ∷ ps) = ap suc (length-jobs ps)

pieces-jobs : (ps : List Piece) → pieces_in (jobs ps) ≡ ps
pieces-jobs [] = refl
pieces-jobs (p ∷ ps) = ap (λ l. p ∷ l) (pieces-jobs ps)

-- the line with one entry more
line-push : (items : List (List WorkEntry)) (x : List WorkEntry) → line_of (items ++ x ∷ []) ≡ line_of items ++ x
line-push [] x = append-nil x
line-push (y ∷ ys) x = ap (λ l. y ++ l) (line-push ys x) ∙ sym (append_assoc y (line_of ys) x)

-- a view that is set, and set again
set_twice : (views : List QueueNotes) (port : ℕ) (u w : QueueNotes) → set (set views port u) port w ≡ set views port w
set_twice [] port u w = refl
set_twice (x ∷ xs) zero u w = refl
set_twice (x ∷ xs) (suc port) u w = ap (λ l. x ∷ l) (set_twice xs port u w)

set_there : (views : List QueueNotes) (port : ℕ) (v w : QueueNotes) → get_elem? views port ≡ some v → get_elem? (set views port w) port ≡ some w
set_there [] port v w at = absurd (some-ne-none v (sym at))
set_there (x ∷ xs) zero v w at = refl
set_there (x ∷ xs) (suc port) v w at = set_there xs port v w at

-- the feeder fed these pieces
abbrev FedAll : QueueNotes → List Piece → QueueNotes → Type 0
FedAll v ps w = (w.record_of ≡ feeder (v.record_of.fed + length ps) v.record_of.ends v.record_of.pending v.record_of.done v.record_of.taken) × (w.fed ≡ v.fed ++ ps) × (w.known ≡ v.known)

-- what the rule says after a step of this pass
abbrev Stepped : KnownPlan → List WorkEntry → List QueueNotes → ℕ → (QueueNotes → Type 0) → Type 0
Stepped plan items views port Is = (w : QueueNotes) × AreNoted plan items (set views port w) × Is w

next_planned : (plan : KnownPlan) (n : ℕ) (p : Piece) (ps : List Piece) → ArePlanned plan n (p ∷ ps) → IsPlanned plan n p
next_planned plan n p ps planned = let zero-next : n + 0 ≡ n = omega arith in subst (λ k. IsPlanned plan k p) zero-next (planned 0 p refl)

rest_planned : (plan : KnownPlan) (n m : ℕ) (p : Piece) (ps : List Piece) → m ≡ n + 1 → ArePlanned plan n (p ∷ ps) → ArePlanned plan m ps
rest_planned plan n m p ps next planned k q is =
    let one-more : n + suc k ≡ m + k = omega (arith, next) in
    subst (λ j. IsPlanned plan j q) one-more (planned (suc k) q is)

-- a feeder's record it is
abbrev IsFeeder : Record → Type 0
IsFeeder v = v ≡ feeder v.fed v.ends v.pending v.done v.taken

-- the first of some pieces is fed, and then the others
feeds_then : (plan : KnownPlan) (port : ℕ) (p : Piece) (ps : List Piece) (items : List WorkEntry) (views : List QueueNotes) (v : QueueNotes) → v.record_of.feeds ≡ true → v.record_of.ends ≡ 0 → ArePlanned plan v.record_of.fed (p ∷ ps) → AreNoted plan items views → get_elem? views port ≡ some v
    → ((u : QueueNotes) → IsFeeder u.record_of → u.record_of.ends ≡ 0 → ArePlanned plan u.record_of.fed ps → AreNoted plan (items ++ job p ∷ []) (set views port u) → get_elem? (set views port u) port ≡ some u
    → Stepped plan ((items ++ job p ∷ []) ++ jobs ps) (set views port u) port (FedAll u ps))
    → Stepped plan (items ++ jobs (p ∷ ps)) views port (FedAll v (p ∷ ps))
feeds_then plan port p ps items views v feeds unended planned h at others =
    let one = noted_piece plan (suc (length items)) port v p feeds unended (next_planned plan v.record_of.fed p ps planned) items views (omega arith) h at in
    let u = one.0 in
    let fed = one.2 in
    let more : u.record_of.fed ≡ v.record_of.fed + 1 = ap (λ (r : Record). r.fed) fed.0 in
    let form : IsFeeder u.record_of = fed.0 ∙ sym (ap (λ (r : Record). feeder r.fed r.ends r.pending r.done r.taken) fed.0) in
    let rest = others u form (ap (λ (r : Record). r.ends) fed.0 ∙ unended) (rest_planned plan v.record_of.fed u.record_of.fed p ps more planned) one.1 (set_there views port v u at) in
    let w = rest.0 in
    let all = rest.2 in
    let sums : u.record_of.fed + length ps ≡ v.record_of.fed + suc (length ps) = omega (arith, more) in (
      w,
      subst (λ (y : List WorkEntry × List QueueNotes). AreNoted plan y.0 y.1) (λ i. (append_assoc items (job p ∷ []) (jobs ps) i, set_twice views port u w i)) rest.1,
      (
        all.0 ∙ (λ i. feeder (sums i) (fed.0 i).ends (fed.0 i).pending (fed.0 i).done (fed.0 i).taken),
        all.1 ∙ (ap (λ l. l ++ ps) fed.1 ∙ append_assoc v.fed (p ∷ []) ps),
        all.2 ∙ fed.2,
      ),
    )

plus-none : (n : ℕ) → n ≡ n + 0
plus-none n = omega arith

-- the pieces of a bundle are fed, one after the other
feeds_all : (plan : KnownPlan) (port : ℕ) (ps : List Piece) (items : List WorkEntry) (views : List QueueNotes) (v : QueueNotes) → IsFeeder v.record_of → v.record_of.ends ≡ 0 → ArePlanned plan v.record_of.fed ps → AreNoted plan items views → get_elem? views port ≡ some v
    → Stepped plan (items ++ jobs ps) views port (FedAll v ps)
feeds_all plan port [] items views v form unended planned h at = (
  v,
  subst (λ (y : List WorkEntry × List QueueNotes). AreNoted plan y.0 y.1) (λ i. (sym (append-nil items) i, sym (set_again views port v at) i)) h,
  (form ∙ ap (λ n. feeder n v.record_of.ends v.record_of.pending v.record_of.done v.record_of.taken) (plus-none v.record_of.fed), sym (append-nil v.fed), refl),
)
feeds_all plan port (p ∷ ps) items views v form unended planned h at =
    feeds_then plan port p ps items views v (ap (λ (r : Record). r.feeds) form) unended planned h at (λ u form unended planned h at. feeds_all plan port ps (items ++ job p ∷ []) (set views port u) u form unended planned h at)

-- a bundle of one piece or more is fed
feeds_some : (plan : KnownPlan) (port : ℕ) (ps : List Piece) (items : List WorkEntry) (views : List QueueNotes) (v : QueueNotes) → v.record_of.feeds ≡ true → v.record_of.ends ≡ 0 → 0 < length ps → ArePlanned plan v.record_of.fed ps → AreNoted plan items views → get_elem? views port ≡ some v
    → Stepped plan (items ++ jobs ps) views port (FedAll v ps)
feeds_some plan port [] items views v feeds unended least planned h at = absurd (omega arith)
feeds_some plan port (p ∷ ps) items views v feeds unended least planned h at =
    feeds_then plan port p ps items views v feeds unended planned h at (λ u form unended planned h at. feeds_all plan port ps (items ++ job p ∷ []) (set views port u) u form unended planned h at)

-- the entries of a bundle are its pieces
fed_jobs : (v w : QueueNotes) (ps : List Piece) → FedAll v ps w → FedBundle v (jobs ps) w
fed_jobs v w ps fed = (
  fed.0 ∙ ap (λ n. feeder (v.record_of.fed + n) v.record_of.ends v.record_of.pending v.record_of.done v.record_of.taken) (sym (length-jobs ps)),
  fed.1 ∙ ap (λ l. v.fed ++ l) (sym (pieces-jobs ps)),
  fed.2,
)

pub bundle_fed : (v w : QueueNotes) (ps : List Piece) → FedBundle v (jobs ps) w
    → (w.record_of ≡ feeder (v.record_of.fed + length ps) v.record_of.ends v.record_of.pending v.record_of.done v.record_of.taken) × (w.fed ≡ v.fed ++ ps)
bundle_fed v w ps fed = (
  fed.0 ∙ ap (λ n. feeder (v.record_of.fed + n) v.record_of.ends v.record_of.pending v.record_of.done v.record_of.taken) (length-jobs ps),
  fed.1 ∙ ap (λ l. v.fed ++ l) (pieces-jobs ps),
)

filled_rest : (x : List WorkEntry) (items : List (List WorkEntry)) → AreFilled (x ∷ items) → AreFilled items
filled_rest x items filled k d lt = filled (suc k) d (omega arith)

pub bundles_begin : (plan : KnownPlan) → AreBundled plan [] (notes (feeder 0 0 0 0 []) [] [] ∷ [])
bundles_begin plan = (noted_begins plan, All-none _)

pub bundle_pushed : (plan : KnownPlan) (n port : ℕ) (v : QueueNotes) (ps : List Piece) → v.record_of.feeds ≡ true → v.record_of.ends ≡ 0 → 0 < length ps → ArePlanned plan v.record_of.fed ps → Pushes (AreBundled plan) n port v (jobs ps) (FedBundle v (jobs ps))
bundle_pushed plan n port v ps feeds unended least planned items views room h at =
    let s = feeds_some plan port ps (line_of items) views v feeds unended least planned h.0 at in (
      s.0,
      (
        subst (λ l. AreNoted plan l (set views port s.0)) (sym (line-push items (jobs ps))) s.1,
        All-push (λ x. 0 < length x) items (jobs ps) h.1 (let same = length-jobs ps in omega (arith, same, least)),
      ),
      fed_jobs v s.0 ps s.2,
    )

pub end_pushed : (plan : KnownPlan) (n port : ℕ) (v : QueueNotes) → v.record_of.feeds ≡ true → Pushes (AreBundled plan) n port v (finish ∷ []) (FedEnd v (finish ∷ []))
end_pushed plan n port v feeds items views room h at =
    let s = noted_end plan (suc (length (line_of items))) port v feeds (line_of items) views (omega arith) h.0 at in (
      s.0,
      (
        subst (λ l. AreNoted plan l (set views port s.0)) (sym (line-push items (finish ∷ []))) s.1,
        All-push (λ x. 0 < length x) items (finish ∷ []) h.1 (omega arith),
      ),
      s.2,
    )

-- whoever took something is a worker
still_works : (plan : KnownPlan) (v u : Record) (x : WorkEntry) → TookEntry plan v x u → IsWorker u
still_works plan v u (job p) took = took.1 ∙ sym (ap (λ (r : Record). worker r.taken r.finished r.fed) took.1)
still_works plan v u finish took = took.0 ∙ sym (ap (λ (r : Record). worker r.taken r.finished r.fed) took.0)

works : (v : Record) → IsWorker v → v.works ≡ true
works v is = ap (λ (r : Record). r.works) is

-- what an entry has is taken, one after the other
takes_all : (plan : KnownPlan) (port : ℕ) (x : List WorkEntry) (items : List WorkEntry) (views : List QueueNotes) (v : QueueNotes) → IsWorker v.record_of → AreNoted plan (x ++ items) views → get_elem? views port ≡ some v
    → Stepped plan items views port (TookAll plan v x)
takes_all plan port [] items views v is h at = (v, subst (AreNoted plan items) (sym (set_again views port v at)) h, refl)
takes_all plan port (x ∷ xs) items views v is h at =
    let one = noted_take plan port v (works v.record_of is) x (xs ++ items) views h at in
    let u = one.0 in
    let rest = takes_all plan port xs items (set views port u) u (still_works plan v.record_of u.record_of x one.2.0) one.1 (set_there views port v u at) in
    (rest.0, subst (AreNoted plan items) (set_twice views port u rest.0) rest.1, (u, one.2, rest.2))

pub bundle_popped : (plan : KnownPlan) (port : ℕ) (v : QueueNotes) → IsWorker v.record_of → Pops (AreBundled plan) port v (TookAll plan v)
bundle_popped plan port v is x items views h at =
    let s = takes_all plan port x (line_of items) views v is h.0 at in
    (s.0, (s.1, filled_rest x items h.1), s.2)

pub took_still : (plan : KnownPlan) (x : List WorkEntry) (v w : QueueNotes) → IsWorker v.record_of → TookAll plan v x w → IsWorker w.record_of
took_still plan [] v w is took = subst (λ (n : QueueNotes). IsWorker n.record_of) (sym took) is
took_still plan (x ∷ xs) v w is took = took_still plan xs took.0 w (still_works plan v.record_of took.0.record_of x took.1.0) took.2

-- what is known of the pieces of a bundle that was taken
pub record TookBundle (plan : KnownPlan) (v : QueueNotes) (ps : List Piece) (w : QueueNotes) : Type 0 where
  pub planned : All (λ (p : Piece). IsPlanned plan p.id p) ps
  pub taken : w.record_of ≡ worker (v.record_of.taken ++ numbers_of ps) v.record_of.finished v.record_of.fed
  pub known : w.known ≡ v.known ++ ps

All-cons : (P : Piece → Type 0) (p : Piece) (ps : List Piece) → P p → All P ps → All P (p ∷ ps)
All-cons P p ps is all zero d lt = is
All-cons P p ps is all (suc k) d lt = all k d (omega arith)

pub took_jobs : (plan : KnownPlan) (ps : List Piece) (v w : QueueNotes) → IsWorker v.record_of → TookAll plan v (jobs ps) w → TookBundle plan v ps w
took_jobs plan [] v w is took = record {
  planned = λ k d lt. absurd (omega arith);
  taken = ap (λ (n : QueueNotes). n.record_of) took ∙ (is ∙ ap (λ l. worker l v.record_of.finished v.record_of.fed) (sym (append-nil v.record_of.taken)));
  known = ap (λ (n : QueueNotes). n.known) took ∙ sym (append-nil v.known);
}
took_jobs plan (p ∷ ps) v w is took =
    let u = took.0 in
    let one = took.1 in
    let rest = took_jobs plan ps u w (still_works plan v.record_of u.record_of (job p) one.0) took.2 in record {
      planned = All-cons (λ (q : Piece). IsPlanned plan q.id q) p ps one.0.0 rest.planned;
      taken =
          rest.taken
          ∙ ((λ i. worker ((one.0.1 i).taken ++ numbers_of ps) (one.0.1 i).finished (one.0.1 i).fed) ∙ ap (λ l. worker l v.record_of.finished v.record_of.fed) (append_assoc v.record_of.taken (p.id ∷ []) (numbers_of ps)));
      known = rest.known ∙ (ap (λ l. l ++ ps) one.1 ∙ append_assoc v.known (p ∷ []) ps);
    }

-- an end that was taken
pub took_end : (plan : KnownPlan) (v w : QueueNotes) → TookAll plan v (finish ∷ []) w → Took plan v finish w
took_end plan v w took = subst (Took plan v finish) (sym took.2) took.1

-- at a full queue the feeder knows what is in it
pub bundles_line : (plan : KnownPlan) (port : ℕ) (v : QueueNotes) → v.record_of.feeds ≡ true → Learns (AreBundled plan) port v (AreInQueue plan v.record_of)
bundles_line plan port v feeds items views h at = (noted_line plan port v feeds (line_of items) views h.0 at, h.1)

pub bundles_split : (plan : KnownPlan) (port : ℕ) (v : QueueNotes) → v.record_of.feeds ≡ true → Forks (AreBundled plan) port v (notes (after_split v.record_of) v.fed v.known) (notes (worker [] false 0) [] [])
bundles_split plan port v feeds items views h at = (noted_split plan port v feeds (line_of items) views h.0 at, h.1)

pub bundles_witness : (plan : KnownPlan) (port : ℕ) (v : QueueNotes) → Forks (AreBundled plan) port v v (notes nothing_done [] v.known)
bundles_witness plan port v items views h at = (noted_witness plan port v (line_of items) views h.0 at, h.1)

pub bundles_join : (plan : KnownPlan) (port : ℕ) (v : QueueNotes) (other : ℕ) (u : QueueNotes) → v.record_of.feeds ≡ true → u.record_of.works ≡ true → Merges (AreBundled plan) port v other u (notes (after_join v.record_of u.record_of) v.fed v.known) (notes nothing_done [] [])
bundles_join plan port v other u feeds works items views h at two at' = (noted_join plan port v other u feeds works (line_of items) views h.0 at two at', h.1)

pub bundles_learn : (plan : KnownPlan) (port : ℕ) (v : QueueNotes) (other : ℕ) (u : QueueNotes) → u.record_of ≡ nothing_done → Merges (AreBundled plan) port v other u (with_witness v u) (notes nothing_done [] [])
bundles_learn plan port v other u idle items views h at two at' = (noted_learns plan port v other u idle (line_of items) views h.0 at two at', h.1)

pub bundles_account : (plan : KnownPlan) (port : ℕ) (v : QueueNotes) → v.record_of.feeds ≡ true → Learns (AreBundled plan) port v (λ items. (v.record_of.known_fed ≡ v.record_of.fed) × IsAccounted v.record_of)
bundles_account plan port v feeds items views h at = noted_accounts plan port v feeds (line_of items) views h.0 at

pub bundles_confirm : (plan : KnownPlan) (port : ℕ) (v : QueueNotes) → v.record_of.feeds ≡ true → Learns (AreBundled plan) port v (λ items. IsConfirmed v)
bundles_confirm plan port v feeds items views h at = noted_confirms plan port v feeds (line_of items) views h.0 at

-- what came back is what was given
pub jobs_again : (ps qs : List Piece) → jobs ps ≡ jobs qs → ps ≡ qs
jobs_again ps qs same = sym (pieces-jobs ps) ∙ (ap pieces_in same ∙ pieces-jobs qs)

-- a bundle is no end
pub no_jobs : (ps : List Piece) → finish ∷ [] ≡ jobs ps → ⊥
no_jobs [] same = cc
no_jobs (p ∷ ps) same = cc

-- one piece is the plan's next
pub one_planned : (plan : KnownPlan) (n : ℕ) (p : Piece) → IsPlanned plan n p → ArePlanned plan n (p ∷ [])
one_planned plan n p is zero q e = let zero-next : n ≡ n + 0 = omega arith in subst (λ (y : ℕ × Piece). IsPlanned plan y.0 y.1) (λ i. (zero-next i, some-is p q e i)) is
  where
    some-is : (x y : Piece) → Some x ≡ Some y → x ≡ y
    some-is x y e = cc
one_planned plan n p is (suc k) q e = absurd (cc)

-- a worker's record after a call of `take`
pub pop_still : (plan : KnownPlan) (o : Option (List WorkEntry)) (v w : QueueNotes) (H : Type 0) → IsWorker v.record_of → MatchOption o ((w ≡ v) × H) (λ x. TookAll plan v x w) → IsWorker w.record_of
pop_still plan None v w H is rule = subst (λ (n : QueueNotes). IsWorker n.record_of) (sym rule.0) is
pop_still plan (Some x) v w H is rule = took_still plan x v w is rule

-- where a call of `take` took nothing, the queue was empty at one moment, and each piece that had been fed was taken
pub pop_empty : (plan : KnownPlan) (v : QueueNotes) → Held 0 (IsBetween plan v) → (fed : ℕ) × Held 0 (IsDrained plan v.record_of fed)
pop_empty plan v held =
    let no_items : held.0 ≡ [] = nil_from_length held.0 held.1 in
    let drained = noted_none plan v held.2.0 (subst (λ l. AreNoted plan (line_of l) held.2.0) no_items held.2.2.0) held.2.1 held.2.3 in
    (drained.0, ([], refl, drained.1))
