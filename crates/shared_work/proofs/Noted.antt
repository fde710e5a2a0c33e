-- Each step of a pass keeps what is known of the pieces.
use Rattle.std.proofs.Common.{◌≡◌, ◌≢◌, ℕ, zero, suc, List, [], ◌∷◌, ◌++◌, length, set, Some, true, false, true≢false, refl, sym, ap, ◌∙◌, subst, ⊎_elim, arith, length-append}
use Rattle.std.specs.Prelude.{All, slice_get}
use Rattle.std.proofs.lemmas.List.{append-nil}
use Rattle.std.proofs.lemmas.List.Elements.{All-append, All-push}
use mathlib.Core.Option.{some, some-ne-none, some-injective}
use lib.ListN.{get_elem?}
use Rattle.crossbeam_queue.specs.Fifo.{Pushes, Pops, Forks, Merges, Learns}
use Rattle.crossbeam_queue.proofs.Lists.{at_set, at_snoc, set_again}
use Rattle.line_model.specs.basics.Records.{Piece}
use Rattle.line_model.specs.work.Book.{KnownPlan, IsPlanned}
use Rattle.line_model.specs.work.Work.{WorkEntry}
use Rattle.line_model.specs.work.Work.WorkEntry.{job, finish}
use Rattle.shared_work.specs.declared.queue.rule.Record.{Record}
use Rattle.shared_work.specs.declared.queue.rule.QueueNotes.{QueueNotes}
use Rattle.shared_work.specs.queue.Rule.{feeder, worker, nothing_done, after_split, after_join, Fed, IsKept, IsInQueue, IsDrained, IsAccounted, TookEntry}
use Rattle.shared_work.specs.queue.Known.{notes, records_of, IsFed, IsFedEntry, Knows, IsNoted, AreNoted, FedEnd, Took, with_witness, IsConfirmed}
use Rattle.shared_work.specs.queue.Entries.{pieces_in}
use Rattle.shared_work.proofs.Moves.{begins, feeds_piece, feeds_end, learns_line, takes, at_no_entry, splits, joins, accounts, adds_nothing}

at_record : (views : List QueueNotes) (port : ℕ) (v : QueueNotes) → get_elem? views port ≡ some v → get_elem? (records_of views) port ≡ some v.record_of
at_record [] port v at = absurd (some-ne-none v (sym at))
at_record (x ∷ xs) zero v at = ap (λ (u : QueueNotes). some u.record_of) (some-injective x v at)
at_record (x ∷ xs) (suc port) v at = at_record xs port v at

set_record : (views : List QueueNotes) (port : ℕ) (w : QueueNotes) → set (records_of views) port w.record_of ≡ records_of (set views port w)
set_record [] port w = refl
set_record (x ∷ xs) zero w = refl
set_record (x ∷ xs) (suc port) w = ap (λ l. x.record_of ∷ l) (set_record xs port w)

push_record : (views : List QueueNotes) (w : QueueNotes) → records_of views ++ w.record_of ∷ [] ≡ records_of (views ++ w ∷ [])
push_record [] w = refl
push_record (x ∷ xs) w = ap (λ l. x.record_of ∷ l) (push_record xs w)

fed_before : (fed : List Piece) (p : Piece) (k : ℕ) (q : Piece) → slice_get fed k ≡ Some q → slice_get (fed ++ p ∷ []) k ≡ Some q
fed_before [] p k q e = absurd (cc)
fed_before (x ∷ xs) p zero q e = e
fed_before (x ∷ xs) p (suc k) q e = fed_before xs p k q e

fed_last : (fed : List Piece) (p : Piece) (k : ℕ) → k ≡ length fed → slice_get (fed ++ p ∷ []) k ≡ Some p
fed_last [] p zero e = refl
fed_last [] p (suc k) e = absurd (omega arith)
fed_last (x ∷ xs) p zero e = absurd (omega arith)
fed_last (x ∷ xs) p (suc k) e = fed_last xs p k (omega arith)

entry_before : (fed : List Piece) (p : Piece) (x : WorkEntry) → IsFedEntry fed x → IsFedEntry (fed ++ p ∷ []) x
entry_before fed p (job q) is = fed_before fed p q.id q is
entry_before fed p finish is = is

All-map : {X : Type 0} (P Q : X → Type 0) (xs : List X) → ((x : X) → P x → Q x) → All P xs → All Q xs
All-map P Q xs to all k d lt = to _ (all k d lt)

pub All-none : {X : Type 0} (P : X → Type 0) → All P []
All-none P k d lt = absurd (omega arith)

off : false ≡ true → ⊥
off e = true≢false (sym e)

-- a fact of each view after a change at one place
set_each : (F : QueueNotes → Type 0) (views : List QueueNotes) (port : ℕ) (w : QueueNotes) → F w → ((j : ℕ) (u : QueueNotes) → j ≢ port → get_elem? views j ≡ some u → F u) → (j : ℕ) (u : QueueNotes) → get_elem? (set views port w) j ≡ some u → F u
set_each F views port w mine others j u e =
    ⊎_elim
    (λ (x : (j ≡ port) × (w ≡ u)). subst F x.1 mine)
    (λ (x : (j ≢ port) × (get_elem? views j ≡ some u)). others j u x.0 x.1)
    (at_set views port j w u e)

-- there is one feeder
one_feeder : (plan : KnownPlan) (items : List WorkEntry) (views : List QueueNotes) (fed : List Piece) (port j : ℕ) (v u : QueueNotes) → IsNoted plan items views fed → get_elem? views port ≡ some v → get_elem? views j ≡ some u → v.record_of.feeds ≡ true → u.record_of.feeds ≡ true → j ≡ port
one_feeder plan items views fed port j v u h at there feeds also =
    ((h.kept.1.fits j u.record_of (at_record views j u there)).feeds also).0 ∙ sym ((h.kept.1.fits port v.record_of (at_record views port v at)).feeds feeds).0

-- a step of one pass after which the same pieces were fed
step : (plan : KnownPlan) (items items' : List WorkEntry) (views : List QueueNotes) (fed : List Piece) (port : ℕ) (v w : QueueNotes) → IsNoted plan items views fed → get_elem? views port ≡ some v
    → IsKept plan items' (set (records_of views) port w.record_of) → All (IsFedEntry fed) items' → Knows fed w → IsNoted plan items' (set views port w) fed
step plan items items' views fed port v w h at kept queued mine = record {
  kept = subst (IsKept plan items') (set_record views port w) kept;
  queued = queued;
  each = set_each (Knows fed) views port w mine (λ j u apart e. h.each j u e);
}

pub noted_begins : (plan : KnownPlan) → AreNoted plan [] (notes (feeder 0 0 0 0 []) [] [] ∷ [])
noted_begins plan = ([], record { kept = begins plan; queued = All-none _; each = one })
  where
    one : (port : ℕ) (v : QueueNotes) → get_elem? (notes (feeder 0 0 0 0 []) [] [] ∷ []) port ≡ some v → Knows [] v
    one zero v e = subst (Knows []) (some-injective _ _ e) (record { own = λ _. (refl, refl); known = All-none _ })
    one (suc port) v e = absurd (some-ne-none v (sym e))

-- the feeder fed a piece
abbrev pub FedPiece : QueueNotes → Piece → QueueNotes → Type 0
FedPiece v p w = Fed v.record_of (job p) w.record_of × (w.fed ≡ v.fed ++ p ∷ []) × (w.known ≡ v.known)

pub noted_piece : (plan : KnownPlan) (n port : ℕ) (v : QueueNotes) (p : Piece) → v.record_of.feeds ≡ true → v.record_of.ends ≡ 0 → IsPlanned plan v.record_of.fed p → Pushes (AreNoted plan) n port v (job p) (FedPiece v p)
noted_piece plan n port v p feeds none is items views room h at =
    let fed = h.0 in
    let k = h.1 in
    let r = feeds_piece plan n port v.record_of p feeds none is items (records_of views) room k.kept (at_record views port v at) in
    let mine = (k.each port v at).own feeds in
    let w = notes r.0 (v.fed ++ p ∷ []) v.known in
    let later : (q : Piece) → IsFed fed q → IsFed (fed ++ p ∷ []) q = λ q e. fed_before fed p q.id q e in (
      w,
      (
        fed ++ p ∷ [],
        record {
          kept = subst (IsKept plan (items ++ job p ∷ [])) (set_record views port w) r.1;
          queued = All-push (IsFedEntry (fed ++ p ∷ [])) items (job p) (All-map _ _ items (entry_before fed p) k.queued) (fed_last fed p p.id (is.0 ∙ (sym mine.1 ∙ ap length mine.0)));
          each = set_each (Knows (fed ++ p ∷ [])) views port w
              (record {
                own = λ _. (ap (λ l. l ++ p ∷ []) mine.0, omega (arith, length-append v.fed (p ∷ []), mine.1, ap (λ (u : Record). u.fed) r.2));
                known = All-map _ _ v.known later (k.each port v at).known;
              })
              (λ j u apart e. record { own = λ b. absurd (apart (one_feeder plan items views fed port j v u k at e feeds b)); known = All-map _ _ u.known later (k.each j u e).known });
        },
      ),
      (r.2, refl, refl),
    )

pub noted_end : (plan : KnownPlan) (n port : ℕ) (v : QueueNotes) → v.record_of.feeds ≡ true → Pushes (AreNoted plan) n port v finish (FedEnd v (finish ∷ []))
noted_end plan n port v feeds items views room h at =
    let fed = h.0 in
    let k = h.1 in
    let r = feeds_end plan n port v.record_of feeds items (records_of views) room k.kept (at_record views port v at) in
    let mine = (k.each port v at).own feeds in
    let w = notes r.0 v.fed v.known in (
      w,
      (
        fed,
        step plan items (items ++ finish ∷ []) views fed port v w k at r.1
            (All-push (IsFedEntry fed) items finish k.queued tt)
            (record { own = λ _. (mine.0, mine.1 ∙ sym (ap (λ (u : Record). u.fed) r.2)); known = (k.each port v at).known }),
      ),
      (r.2, refl, refl),
    )

-- what is known with an entry that was taken
knows_more : (fed known : List Piece) (x : WorkEntry) → All (IsFed fed) known → IsFedEntry fed x → All (IsFed fed) (known ++ pieces_in (x ∷ []))
knows_more fed known (job p) all is = All-push (IsFed fed) known p all is
knows_more fed known finish all is = subst (All (IsFed fed)) (sym (append-nil known)) all

-- a worker is not the feeder
no_feeder : (plan : KnownPlan) (v w : Record) (x : WorkEntry) → TookEntry plan v x w → w.feeds ≡ false
no_feeder plan v w (job p) took = ap (λ (u : Record). u.feeds) took.1
no_feeder plan v w finish took = ap (λ (u : Record). u.feeds) took.0

pub noted_take : (plan : KnownPlan) (port : ℕ) (v : QueueNotes) → v.record_of.works ≡ true → Pops (AreNoted plan) port v (Took plan v)
noted_take plan port v works x items views h at =
    let fed = h.0 in
    let k = h.1 in
    let r = takes plan port v.record_of works x items (records_of views) k.kept (at_record views port v at) in
    let w = notes r.0 v.fed (v.known ++ pieces_in (x ∷ [])) in (
      w,
      (
        fed,
        step plan (x ∷ items) items views fed port v w k at r.1
            (λ j d lt. k.queued (suc j) d (omega arith))
            (record { own = λ b. absurd (true≢false (sym b ∙ no_feeder plan v.record_of r.0 x r.2)); known = knows_more fed v.known x (k.each port v at).known (k.queued 0 x (omega arith)) }),
      ),
      (r.2, refl),
    )

pub noted_line : (plan : KnownPlan) (port : ℕ) (v : QueueNotes) → v.record_of.feeds ≡ true → Learns (AreNoted plan) port v (IsInQueue plan v.record_of)
noted_line plan port v feeds items views h at = learns_line plan port v.record_of feeds items (records_of views) h.1.kept (at_record views port v at)

-- a new pass
fork : (plan : KnownPlan) (items : List WorkEntry) (views : List QueueNotes) (fed : List Piece) (port : ℕ) (v left right : QueueNotes) → IsNoted plan items views fed → get_elem? views port ≡ some v
    → IsKept plan items (set (records_of views) port left.record_of ++ right.record_of ∷ []) → Knows fed left → Knows fed right → IsNoted plan items (set views port left ++ right ∷ []) fed
fork plan items views fed port v left right h at kept one other = record {
  kept = subst (IsKept plan items) (ap (λ l. l ++ right.record_of ∷ []) (set_record views port left) ∙ push_record (set views port left) right) kept;
  queued = h.queued;
  each = λ j u e. ⊎_elim
      (λ (x : get_elem? (set views port left) j ≡ some u). set_each (Knows fed) views port left one (λ i y apart s. h.each i y s) j u x)
      (λ (x : right ≡ u). subst (Knows fed) x other)
      (at_snoc (set views port left) right u j e);
}

pub noted_split : (plan : KnownPlan) (port : ℕ) (v : QueueNotes) → v.record_of.feeds ≡ true → Forks (AreNoted plan) port v (notes (after_split v.record_of) v.fed v.known) (notes (worker [] false 0) [] [])
noted_split plan port v feeds items views h at =
    let k = h.1 in
    let mine = k.each port v at in (
      h.0,
      fork plan items views h.0 port v (notes (after_split v.record_of) v.fed v.known) (notes (worker [] false 0) [] []) k at
          (splits plan port v.record_of feeds items (records_of views) k.kept (at_record views port v at))
          (record { own = λ _. mine.own feeds; known = mine.known })
          (record { own = λ b. absurd (off b); known = All-none _ }),
    )

pub noted_witness : (plan : KnownPlan) (port : ℕ) (v : QueueNotes) → Forks (AreNoted plan) port v v (notes nothing_done [] v.known)
noted_witness plan port v items views h at =
    let k = h.1 in
    let mine = k.each port v at in (
      h.0,
      fork plan items views h.0 port v v (notes nothing_done [] v.known) k at
          (adds_nothing plan port v.record_of items (records_of views) k.kept (at_record views port v at))
          mine
          (record { own = λ b. absurd (off b); known = mine.known }),
    )

-- two passes become one, and one that does nothing
merge : (plan : KnownPlan) (items : List WorkEntry) (views : List QueueNotes) (fed : List Piece) (port other : ℕ) (v both : QueueNotes) → IsNoted plan items views fed
    → IsKept plan items (set (set (records_of views) port both.record_of) other nothing_done) → Knows fed both → IsNoted plan items (set (set views port both) other (notes nothing_done [] [])) fed
merge plan items views fed port other v both h kept mine = record {
  kept = subst (IsKept plan items) (ap (λ l. set l other nothing_done) (set_record views port both) ∙ set_record (set views port both) other (notes nothing_done [] [])) kept;
  queued = h.queued;
  each = set_each (Knows fed) (set views port both) other (notes nothing_done [] []) (record { own = λ b. absurd (off b); known = All-none _ })
      (λ j u _ e. set_each (Knows fed) views port both mine (λ i y _ s. h.each i y s) j u e);
}

-- where the other pass is
there : (views : List QueueNotes) (port other : ℕ) (both u : QueueNotes) → ¬ (other ≡ port) → get_elem? (set views port both) other ≡ some u → get_elem? views other ≡ some u
there views port other both u apart at = ⊎_elim (λ (x : (other ≡ port) × (both ≡ u)). absurd (apart x.0)) (λ (x : (other ≢ port) × (get_elem? views other ≡ some u)). x.1) (at_set views port other both u at)

pub noted_join : (plan : KnownPlan) (port : ℕ) (v : QueueNotes) (other : ℕ) (u : QueueNotes) → v.record_of.feeds ≡ true → u.record_of.works ≡ true → Merges (AreNoted plan) port v other u (notes (after_join v.record_of u.record_of) v.fed v.known) (notes nothing_done [] [])
noted_join plan port v other u feeds works items views h at two at' =
    let k = h.1 in
    let mine = k.each port v at in
    let both = notes (after_join v.record_of u.record_of) v.fed v.known in
    let was = subst (λ l. get_elem? l other ≡ some u.record_of) (sym (set_record views port both)) (at_record (set views port both) other u at') in (
      h.0,
      merge plan items views h.0 port other v both k
          (joins plan port v.record_of other u.record_of feeds works items (records_of views) k.kept (at_record views port v at) two was)
          (record { own = λ _. mine.own feeds; known = mine.known }),
    )

pub noted_learns : (plan : KnownPlan) (port : ℕ) (v : QueueNotes) (other : ℕ) (u : QueueNotes) → u.record_of ≡ nothing_done → Merges (AreNoted plan) port v other u (with_witness v u) (notes nothing_done [] [])
noted_learns plan port v other u idle items views h at two at' =
    let k = h.1 in
    let mine = k.each port v at in
    let was = there views port other (with_witness v u) u two at' in
    let records = records_of views in
    let same : set records port v.record_of ≡ records = set_again records port v.record_of (at_record views port v at) in
    let still : set records other nothing_done ≡ records = set_again records other nothing_done (at_record views other u was ∙ ap some idle) in (
      h.0,
      merge plan items views h.0 port other v (with_witness v u) k
          (subst (IsKept plan items) (sym (ap (λ l. set l other nothing_done) same ∙ still)) k.kept)
          (record { own = mine.own; known = All-append (IsFed h.0) v.known u.known mine.known (k.each other u was).known }),
    )

pub noted_accounts : (plan : KnownPlan) (port : ℕ) (v : QueueNotes) → v.record_of.feeds ≡ true → Learns (AreNoted plan) port v (λ items. (v.record_of.known_fed ≡ v.record_of.fed) × IsAccounted v.record_of)
noted_accounts plan port v feeds items views h at = accounts plan port v.record_of feeds items (records_of views) h.1.kept (at_record views port v at)

pub noted_confirms : (plan : KnownPlan) (port : ℕ) (v : QueueNotes) → v.record_of.feeds ≡ true → Learns (AreNoted plan) port v (λ items. IsConfirmed v)
noted_confirms plan port v feeds items views h at =
    let mine = h.1.each port v at in
    let own = mine.own feeds in
    (subst (λ l. All (IsFed l) v.known) (sym own.0) mine.known, own.1)

-- where the queue has no entry, each piece that was fed was taken
pub noted_none : (plan : KnownPlan) (v : QueueNotes) (views : List QueueNotes) → AreNoted plan [] views → (port : ℕ) → get_elem? views port ≡ some v → (fed : ℕ) × IsDrained plan v.record_of fed []
noted_none plan v views h port at = at_no_entry plan v.record_of (records_of views) h.1.kept port (at_record views port v at)
