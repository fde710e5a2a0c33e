-- The peak after any row of a walk is the peak over the times of its calls.
use Rattle.std.proofs.Common.{◌≡◌, ◌∷◌, [], ◌++◌, ℕ, suc, ◌+◌, ◌<◌, ◌≤◌, Bool, true, cond, ◌&&◌, ltb, leb, Option, Some, None, List, map, get_or, refl, sym, ◌∙◌, ap, subst, append_assoc, arith, inl, inr}
use mathlib.Core.Path.{fun_ext}
use Rattle.std.specs.Prelude.{option_map}
use Rattle.std.specs.List.{cons_option, filter_map, filter, flat_map, AllByRecursion}
use Rattle.std.specs.List.Sorted.{IsStrictlyIncreasing}
use Rattle.std.proofs.lemmas.Bool.{cases_lt, lt-ltb, le-ltb}
use Rattle.std.proofs.lemmas.List.{append-nil}
use Rattle.line_model.specs.declared.event.What.{What}
use Rattle.line_model.specs.basics.Records.{CallRecord}
use Rattle.line_model.specs.observer.Calls.{is_up_event, is_end_event, calls_of, up_times, up_at}
use Rattle.line_model.specs.observer.Machine.{Machine, Observer}
use Rattle.line_model.specs.observer.MachineEvents.{walk_events}
use Rattle.line_model.specs.observer.Observer.{event_by}
use Rattle.line_model.specs.observer.Peak.{Times, how_many, counts, highest, highest_from, times_of, IsPeakOfRows, IsPeakOfTimes}
use Rattle.line_model.specs.observer.Peak as times
use Rattle.line_model.specs.pieces.Pieces.{placed, piece_start, step_rows, piece_end, events_of_piece}
use Rattle.line_model.specs.pieces.Merge.{is_level, belongs, drawn, drawn_apart}
use Rattle.line_model.specs.pieces.Plan.{plan_of}
use Rattle.line_model.proofs.Rearranged.{Rearranged}
use Rattle.line_model.proofs.Rising.{all_append, rises-from_index}
use Rattle.line_model.proofs.Merged.{all_map, drawn_is_rearranged}
use Rattle.line_model.proofs.CallsUp.{how_many_append, peak_law}
use Rattle.line_model.proofs.Planned.{plan_law}
use Rattle.line_model.proofs.LevelPart.{level_none}
use Rattle.line_model.proofs.CallMarks.{is_risen, marks_calls, risen_marks}
use Rattle.line_model.proofs.CallRecords.{opens, call_of, calls_drawn, calls_in, walk_fit, calls_apart}
use Rattle.line_model.proofs.MovesCalls.{MovesCalls}
use Rattle.line_model.proofs.Moments.{is_up_between}
use Rattle.line_model.proofs.PieceRows.{piece_rises}
use Rattle.line_model.proofs.PieceCalls.{goes_up, span_of, up_by, piece_counts}
use Rattle.line_model.proofs.WalkedRows.{IsWalk}

-- ---- the calls that are counted

counted_one : (n : ℕ) (up ended : Option ℕ) (k : ℕ) (rest : List Times) → how_many (times.is_up_at n) rest ≡ k → how_many (times.is_up_at n) (cons_option (option_map (λ u. record { up = u; ended = ended }) up) rest) ≡ cond (is_up_between n up ended) 1 0 + k
counted_one n None ended k rest h = omega (arith, h)
counted_one n (Some u) None k rest h = ap (λ r. cond (leb u n && true) 1 0 + r) h
counted_one n (Some u) (Some e) k rest h = ap (λ r. cond (leb u n && ltb n e) 1 0 + r) h

counted : (n : ℕ) (cs : List CallRecord) → up_at cs n ≡ how_many (up_by n) cs
counted n [] = refl
counted n (c ∷ cs) = counted_one n c.up c.ended (how_many (up_by n) cs) (filter_map up_times cs) (counted n cs)

how_many_middle : {X : Type 0} → (p : X → Bool) (front : List X) (x : X) (back : List X) → how_many p (front ++ x ∷ back) ≡ cond (p x) 1 0 + how_many p (front ++ back)
how_many_middle p [] x back = refl
how_many_middle p (y ∷ front) x back = let more = how_many_middle p front x back in omega arith

how_many_rearranged : {X : Type 0} → (p : X → Bool) (xs ys : List X) → Rearranged xs ys → how_many p ys ≡ how_many p xs
how_many_rearranged p [] ys h = ap (how_many p) h
how_many_rearranged p (x ∷ xs) ys h =
    let more = how_many_rearranged p xs (h.0 ++ h.1) h.3 in
    ap (how_many p) h.2 ∙ how_many_middle p h.0 x h.1 ∙ ap (λ n. cond (p x) 1 0 + n) more

how_many_parts : {I X Y : Type 0} → (p : X → Bool) (q : Y → Bool) (f : I → List X) (g : I → List Y) (is : List I) → AllByRecursion (λ i. how_many p (f i) ≡ how_many q (g i)) is → how_many p (flat_map f is) ≡ how_many q (flat_map g is)
how_many_parts p q f g [] h = refl
how_many_parts p q f g (i ∷ is) h =
    let more = how_many_parts p q f g is h.1 in
    how_many_append p (f i) (flat_map f is) ∙ ap (λ n. n + how_many p (flat_map f is)) h.0 ∙ ap (λ n. how_many q (g i) + n) more ∙ sym (how_many_append q (g i) (flat_map g is))

pub increasing : (ns : List ℕ) → IsStrictlyIncreasing (0 ∷ ns) → IsStrictlyIncreasing ns
increasing ns h = λ k lt.
    let e : suc k + 1 ≡ suc (k + 1) = omega arith in
    subst (λ j. get_or ns k 0 < get_or (0 ∷ ns) j 0) e (h (suc k) (omega arith))

-- ---- the highest of numbered counts is their peak

highest_more : (done cs : List (ℕ × ℕ)) (best : ℕ × Option ℕ) → IsPeakOfRows done best.0 best.1 → IsPeakOfRows (done ++ cs) (highest_from best cs).0 (highest_from best cs).1
highest_more done [] best h = subst (λ l. IsPeakOfRows l best.0 best.1) (sym (append-nil done)) h
highest_more done (c ∷ cs) best h = elim (cases_lt best.0 c.1) [
  | inl lt ↦ subst (λ l. IsPeakOfRows l (highest_from best (c ∷ cs)).0 (highest_from best (c ∷ cs)).1) (append_assoc done (c ∷ []) cs)
      (subst (λ (q : ℕ × Option ℕ). IsPeakOfRows ((done ++ c ∷ []) ++ cs) q.0 q.1) (sym (higher lt)) (highest_more (done ++ c ∷ []) cs (c.1, Some c.0) (raised lt)))
  | inr le ↦ subst (λ l. IsPeakOfRows l (highest_from best (c ∷ cs)).0 (highest_from best (c ∷ cs)).1) (append_assoc done (c ∷ []) cs)
      (subst (λ (q : ℕ × Option ℕ). IsPeakOfRows ((done ++ c ∷ []) ++ cs) q.0 q.1) (sym (lower le)) (highest_more (done ++ c ∷ []) cs best (kept le best.1 h)))
]
  where
    higher : best.0 < c.1 → highest_from best (c ∷ cs) ≡ highest_from (c.1, Some c.0) cs
    higher lt = rw (lt-ltb best.0 c.1 lt, highest_from) refl

    lower : c.1 ≤ best.0 → highest_from best (c ∷ cs) ≡ highest_from best cs
    lower le = rw (le-ltb best.0 c.1 le, highest_from) refl

    raised : best.0 < c.1 → IsPeakOfRows (done ++ c ∷ []) c.1 (Some c.0)
    raised lt = record {
      greatest = all_append (λ q. q.1 ≤ c.1) done (c ∷ []) (all_map (λ q. q.1 ≤ best.0) (λ q. q.1 ≤ c.1) done (λ q l. omega (arith, l, lt)) h.greatest) (omega arith, tt);
      first = (omega (arith, lt), (done, [], refl, all_map (λ q. q.1 ≤ best.0) (λ q. q.1 < c.1) done (λ q l. omega (arith, l, lt)) h.greatest));
    }

    kept : c.1 ≤ best.0 → (at : Option ℕ) → IsPeakOfRows done best.0 at → IsPeakOfRows (done ++ c ∷ []) best.0 at
    kept le None g = record { greatest = all_append (λ q. q.1 ≤ best.0) done (c ∷ []) g.greatest (le, tt); first = g.first }
    kept le (Some n) g =
        let w = g.first in record {
          greatest = all_append (λ q. q.1 ≤ best.0) done (c ∷ []) g.greatest (le, tt);
          first = (w.0, (w.1.0, w.1.1 ++ c ∷ [], ap (λ l. l ++ c ∷ []) w.1.2 ∙ append_assoc w.1.0 ((n, best.0) ∷ w.1.1) (c ∷ []), w.1.3));
        }

highest_is : (cs : List (ℕ × ℕ)) → IsPeakOfRows cs (highest cs).0 (highest cs).1
highest_is cs = highest_more [] cs (0, None) (record { greatest = tt; first = refl })

-- ---- the peaks of a walk

module _ (X L S : Type 0) (number : X → ℕ) (m : Machine X L S What) (is_up : ℕ → S → Bool) (moves : MovesCalls m is_up) (start : Observer L S) (rs : List X) (is_walk : IsWalk m start rs) (up : IsStrictlyIncreasing (0 ∷ map number rs)) where
  -- the peak after any row is the greatest number of calls that are up at once
  pub peak_of_ups : IsPeakOfTimes (λ n. how_many (times.is_up_at n) (drawn (λ v. is_up_event v.what) (times_of is_end_event number) (walk_events m start rs))) (highest (counts m is_up number start rs)).0 (highest (counts m is_up number start rs)).1
  peak_of_ups =
      peak_law m start rs number is_walk.channels is_walk.fresh is_walk.ready up
      moves.valid is_up is_up_event is_end_event (marks_calls m is_up moves)
      (highest (counts m is_up number start rs)).0 (highest (counts m is_up number start rs)).1 (highest_is (counts m is_up number start rs))

  calls_up_at : (n : ℕ) → how_many (times.is_up_at n) (drawn goes_up (span_of X number) (walk_events m start rs)) ≡ up_at (calls_of (map (event_by number) (walk_events m start rs))) n
  calls_up_at n =
      let vs = walk_events m start rs in
      let ps = placed m start rs in
      let plan = plan_of m start rs in
      let is_plan = plan_law m start rs is_walk.channels in
      let rise = rises-from_index (0 ∷ map number rs) up in
      let rows : IsStrictlyIncreasing (map number rs) = increasing (map number rs) up in
      let span = span_of X number in
      let call = call_of X number in
      let no_line : filter goes_up (filter is_level vs) ≡ [] =
      level_none m is_up_event (λ e l x. risen_marks (m.level_events e l x) ∙ ap (how_many is_risen) (moves.unmarked_line e l x)) start rs in
      sym (how_many_rearranged (times.is_up_at n) (drawn goes_up span vs) (drawn_apart m start rs plan goes_up span) (drawn_is_rearranged m start rs plan goes_up span is_walk.channels is_walk.fresh is_walk.ready is_plan))
      ∙ ap (λ l. how_many (times.is_up_at n) (map (λ v. span v (filter (belongs v.epoch v.channel) (filter is_level vs))) l ++ flat_map (λ p. drawn goes_up span (events_of_piece m p.0 p.1 ps)) plan)) no_line
      ∙ sym (how_many_parts (up_by n) (times.is_up_at n) (calls_in number m start rs) (λ p. drawn goes_up span (events_of_piece m p.0 p.1 ps)) plan
      (every_piece plan (λ p. piece_counts X L S number m is_up moves (piece_start p.0 ps) p.0 p.1 n 0 (step_rows m p.0 p.1 ps) (piece_end p.0 ps) (piece_rises m number p.0 p.1 start rs 0 rise))))
      ∙ ap (how_many (up_by n)) (calls_apart X L S number m is_up moves start rs is_walk rows plan is_plan)
      ∙ how_many_rearranged (up_by n) (drawn opens call vs) (drawn_apart m start rs plan opens call) (drawn_is_rearranged m start rs plan opens call is_walk.channels is_walk.fresh is_walk.ready is_plan)
      ∙ ap (how_many (up_by n)) (sym (calls_drawn X number vs (walk_fit X L S number m is_up moves start rs is_walk rows)))
      ∙ sym (counted n (calls_of (map (event_by number) vs)))
    where
      every_piece : {P : ℕ × ℕ → Type 0} → (ps : List (ℕ × ℕ)) → ((p : ℕ × ℕ) → P p) → AllByRecursion P ps
      every_piece [] h = tt
      every_piece (p ∷ ps) h = (h p, every_piece ps h)

  -- the peak after any row is the peak over the times of the calls
  pub peak_of_times : IsPeakOfTimes (up_at (calls_of (map (event_by number) (walk_events m start rs)))) (highest (counts m is_up number start rs)).0 (highest (counts m is_up number start rs)).1
  peak_of_times = subst (λ (c : ℕ → ℕ). IsPeakOfTimes c (highest (counts m is_up number start rs)).0 (highest (counts m is_up number start rs)).1) (fun_ext calls_up_at) peak_of_ups
