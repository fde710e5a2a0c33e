-- The epochs of a walk, and what one more row does to them.
use Rattle.std.proofs.Common.{◌≡◌, ◌∙◌, sym, ap, refl, ℕ, ◌<◌, ◌≤◌, ◌⊎◌, inl, inr, Bool, true, false, true≢false, ◌&&◌, cond, eqb, List, [], ◌∷◌, ◌++◌, map, Option, Some, None, append-nil, arith}
use Rattle.std.specs.Prelude.{is_some}
use Rattle.std.specs.List.{AllByRecursion, filter}
use Rattle.std.proofs.lemmas.Bool.{and_right, ne_eqb}
use Rattle.std.proofs.lemmas.List.{map-append}
use Rattle.line_model.specs.declared.interface.Interface.{Interface}
use Rattle.line_model.specs.basics.Records.{Item}
use Rattle.line_model.specs.channels.GapRestart.{GapInterfaceState, is_gap_of_all, start_by}
use Rattle.line_model.specs.channels.Gaps.{GapChannel}
use Rattle.line_model.specs.observer.Machine.{Machine, Observer, after, channel_unless, walk}
use Rattle.line_model.specs.pieces.Shuffle.{is_channel}
use Rattle.line_model.specs.pieces.Pieces.{Placed, place, placed, piece_rows, piece_end, piece_start, step_rows, steps_by}
use Rattle.line_model.specs.pieces.Plan.{has_some}
use Rattle.line_model.specs.observer.Observer.{x25, start}
use Rattle.line_model.proofs.Walks.{walk_append}
use Rattle.restart_epochs.specs.Cutting.{epoch_start, observer, places, taken_rows}
use Rattle.line_model.proofs.Pieces.{filter_append}
use Rattle.restart_epochs.proofs.GapRows.{taken_first, taken_some}

placed_append : {X L S E : Type 0} → (m : Machine X L S E) (o : Observer L S) (p q : List X) → placed m o (p ++ q) ≡ placed m o p ++ placed m (walk m o p) q
placed_append m o [] q = refl
placed_append m o (x ∷ p) q = ap (λ l. place m o x ∷ l) (placed_append m (after m o x) p q)

-- the place of one more row
abbrev pub place_of : Interface → List Item → Item → Placed Item
place_of i rs r =
    let o = observer i rs in
    place (x25 i) o r

pub places_more : (i : Interface) (rs : List Item) (r : Item) → places i (rs ++ r ∷ []) ≡ places i rs ++ place_of i rs r ∷ []
places_more i rs r = placed_append (x25 i) (start i) rs (r ∷ [])

pub observer_more : (i : Interface) (rs : List Item) (r : Item) → observer i (rs ++ r ∷ []) ≡ after (x25 i) (observer i rs) r
observer_more i rs r = walk_append (x25 i) (start i) rs (r ∷ [])

-- ---- one more place

one_kept : (b : Bool) (p : Placed Item) → map (λ (q : Placed Item). q.row) (cond b (p ∷ []) []) ≡ cond b (p.row ∷ []) []
one_kept true p = refl
one_kept false p = refl

-- the rows of places that pass a test
abbrev rows_by : (Placed Item → Bool) → List (Placed Item) → List Item
rows_by f ps = map (λ p. p.row) (filter f ps)

by_more : (f : Placed Item → Bool) (ps : List (Placed Item)) (p : Placed Item) → rows_by f (ps ++ p ∷ []) ≡ rows_by f ps ++ cond (f p) (p.row ∷ []) []
by_more f ps p =
    ap (map (λ (q : Placed Item). q.row)) (filter_append f ps (p ∷ []))
    ∙ map-append (λ (q : Placed Item). q.row) (filter f ps) (cond (f p) (p ∷ []) [])
    ∙ ap (λ l. rows_by f ps ++ l) (one_kept (f p) p)

by_same : (f : Placed Item → Bool) (ps : List (Placed Item)) (p : Placed Item) → f p ≡ false → rows_by f (ps ++ p ∷ []) ≡ rows_by f ps
by_same f ps p h = by_more f ps p ∙ ap (λ b. rows_by f ps ++ cond b (p.row ∷ []) []) h ∙ append-nil (rows_by f ps)

by_one : (f : Placed Item → Bool) (ps : List (Placed Item)) (p : Placed Item) → f p ≡ true → rows_by f (ps ++ p ∷ []) ≡ rows_by f ps ++ p.row ∷ []
by_one f ps p h = by_more f ps p ∙ ap (λ b. rows_by f ps ++ cond b (p.row ∷ []) []) h

-- a place that is none of the piece's
pub rows_same : (e k : ℕ) (ps : List (Placed Item)) (p : Placed Item) → (is_channel k p.channel && eqb p.epoch e) ≡ false → piece_rows e k (ps ++ p ∷ []) ≡ piece_rows e k ps
rows_same e k ps p h = by_same (λ q. is_channel k q.channel && eqb q.epoch e) ps p h

pub rows_on_more : (e k : ℕ) (ps : List (Placed Item)) (p : Placed Item) → (is_channel k p.channel && eqb p.epoch e) ≡ true → piece_rows e k (ps ++ p ∷ []) ≡ piece_rows e k ps ++ p.row ∷ []
rows_on_more e k ps p h = by_one (λ q. is_channel k q.channel && eqb q.epoch e) ps p h

-- the rows that step a channel
pub steps_same : (i : Interface) (e k : ℕ) (ps : List (Placed Item)) (p : Placed Item) → (steps_by k p (is_gap_of_all p.row) && eqb p.epoch e) ≡ false → step_rows (x25 i) e k (ps ++ p ∷ []) ≡ step_rows (x25 i) e k ps
steps_same i e k ps p h = by_same (λ q. steps_by k q (is_gap_of_all q.row) && eqb q.epoch e) ps p h

pub steps_one : (i : Interface) (e k : ℕ) (ps : List (Placed Item)) (p : Placed Item) → (steps_by k p (is_gap_of_all p.row) && eqb p.epoch e) ≡ true → step_rows (x25 i) e k (ps ++ p ∷ []) ≡ step_rows (x25 i) e k ps ++ p.row ∷ []
steps_one i e k ps p h = by_one (λ q. steps_by k q (is_gap_of_all q.row) && eqb q.epoch e) ps p h

-- a row that is for no channel, and steps not all
pub steps_none : (p : Placed Item) (k : ℕ) → p.channel ≡ None → p.all ≡ false → (all : Bool) → steps_by k p all ≡ false
steps_none p k none alone true = alone
steps_none p k none alone false = ap (is_channel k) none

-- ---- epochs that have no row yet

later_by : (f : Placed Item → Bool) (n e : ℕ) (ps : List (Placed Item)) → n < e → AllByRecursion (λ p. p.epoch ≤ n) ps → rows_by (λ p. f p && eqb p.epoch e) ps ≡ []
later_by f n e [] lt h = refl
later_by f n e (p ∷ ps) lt h =
    let le = h.0 in
    ap (λ b. map (λ (q : Placed Item). q.row) (cond b (p ∷ filter (λ q. f q && eqb q.epoch e) ps) (filter (λ q. f q && eqb q.epoch e) ps))) (and_right (f p) (eqb p.epoch e) (ne_eqb p.epoch e (λ same. omega (arith, same, le, lt))))
    ∙ later_by f n e ps lt h.1

pub later_rows : (n e k : ℕ) (ps : List (Placed Item)) → n < e → AllByRecursion (λ p. p.epoch ≤ n) ps → piece_rows e k ps ≡ []
later_rows n e k ps lt h = later_by (λ p. is_channel k p.channel) n e ps lt h

pub later_steps : (i : Interface) (n e k : ℕ) (ps : List (Placed Item)) → n < e → AllByRecursion (λ p. p.epoch ≤ n) ps → step_rows (x25 i) e k ps ≡ []
later_steps i n e k ps lt h = later_by (λ p. steps_by k p (is_gap_of_all p.row)) n e ps lt h

pub later_end : (n e : ℕ) (ps : List (Placed Item)) → n < e → AllByRecursion (λ p. p.epoch ≤ n) ps → piece_end e ps ≡ None
later_end n e [] lt h = refl
later_end n e (p ∷ ps) lt h =
    let le = h.0 in
    ap (λ b. cond b (Some p.row) (piece_end e ps)) (and_right p.leaves (eqb p.epoch e) (ne_eqb p.epoch e (λ same. omega (arith, same, le, lt)))) ∙ later_end n e ps lt h.1

pub later_start : (n e : ℕ) (l : GapInterfaceState) (ps : List (Placed Item)) → n < e → AllByRecursion (λ p. p.epoch ≤ n) ps → epoch_start e l ps ≡ start_by l
later_start n e l [] lt h = refl
later_start n e l (p ∷ ps) lt h =
    let le = h.0 in
    ap (λ b. cond b p.start (epoch_start e l ps)) (ne_eqb p.epoch e (λ same. omega (arith, same, le, lt))) ∙ later_start n e l ps lt h.1

-- ---- how an epoch began

pub start_same : (e : ℕ) (ps : List (Placed Item)) (p : Placed Item) → eqb p.epoch e ≡ false → piece_start e (ps ++ p ∷ []) ≡ piece_start e ps
start_same e [] p h = ap (λ b. cond b p.start (piece_start {X = Item} e [])) h
start_same e (q ∷ ps) p h = ap (λ s. cond (eqb q.epoch e) q.start s) (start_same e ps p h)

-- where the epoch has ended it has a row
pub start_kept : (e : ℕ) (ps : List (Placed Item)) (p : Placed Item) → is_some (piece_end e ps) ≡ true → piece_start e (ps ++ p ∷ []) ≡ piece_start e ps
start_kept e [] p h = absurd (true≢false (sym h))
start_kept e (q ∷ ps) p h = at (start_kept e ps p) (eqb q.epoch e) refl
  where
    at : (is_some (piece_end e ps) ≡ true → piece_start e (ps ++ p ∷ []) ≡ piece_start e ps) → (b : Bool) → eqb q.epoch e ≡ b → cond (eqb q.epoch e) q.start (piece_start e (ps ++ p ∷ [])) ≡ cond (eqb q.epoch e) q.start (piece_start e ps)
    at more true is = ap (λ b. cond b q.start (piece_start e (ps ++ p ∷ []))) is ∙ sym (ap (λ b. cond b q.start (piece_start e ps)) is)
    at more false is =
        let left : is_some (piece_end e ps) ≡ true = sym (ap (λ b. is_some (let s : Option Item = cond b (Some q.row) (piece_end e ps) in s)) (and_right q.leaves (eqb q.epoch e) is)) ∙ h in
        ap (λ s. cond (eqb q.epoch e) q.start s) (more left)

-- the next row is one of the epoch, and was placed by this interface level
pub start_next : (e : ℕ) (l : GapInterfaceState) (ps : List (Placed Item)) (p : Placed Item) → eqb p.epoch e ≡ true → p.start ≡ start_by l → piece_start e (ps ++ p ∷ []) ≡ epoch_start e l ps
start_next e l [] p h s = ap (λ b. cond b p.start (piece_start {X = Item} e [])) h ∙ s
start_next e l (q ∷ ps) p h s = ap (λ t. cond (eqb q.epoch e) q.start t) (start_next e l ps p h s)

pub started_next : (e : ℕ) (l l' : GapInterfaceState) (ps : List (Placed Item)) (p : Placed Item) → eqb p.epoch e ≡ true → p.start ≡ start_by l → epoch_start e l' (ps ++ p ∷ []) ≡ epoch_start e l ps
started_next e l l' [] p h s = ap (λ b. cond b p.start (start_by l')) h ∙ s
started_next e l l' (q ∷ ps) p h s = ap (λ t. cond (eqb q.epoch e) q.start t) (started_next e l l' ps p h s)

-- an epoch of which a channel has rows
started_some : (e k : ℕ) (l : GapInterfaceState) (ps : List (Placed Item)) → has_some (piece_rows e k ps) ≡ true → epoch_start e l ps ≡ piece_start e ps
started_some e k l [] h = absurd (true≢false (sym h))
started_some e k l (q ∷ ps) h = at (started_some e k l ps) (eqb q.epoch e) refl
  where
    rest : List (Placed Item)
    rest = filter (λ p. is_channel k p.channel && eqb p.epoch e) ps

    at : (has_some (piece_rows e k ps) ≡ true → epoch_start e l ps ≡ piece_start e ps) → (b : Bool) → eqb q.epoch e ≡ b → cond (eqb q.epoch e) q.start (epoch_start e l ps) ≡ cond (eqb q.epoch e) q.start (piece_start e ps)
    at more true is = ap (λ b. cond b q.start (epoch_start e l ps)) is ∙ sym (ap (λ b. cond b q.start (piece_start e ps)) is)
    at more false is =
        let some : has_some (piece_rows e k ps) ≡ true = sym (ap (λ b. has_some (map (λ (p : Placed Item). p.row) (cond b (q ∷ rest) rest))) (and_right (is_channel k q.channel) (eqb q.epoch e) is)) ∙ h in
        ap (λ s. cond (eqb q.epoch e) q.start s) (more some)

pub begun_or_bare : (e : ℕ) (l : GapInterfaceState) (ps : List (Placed Item)) (ks : List ℕ) → (filter (λ k. has_some (piece_rows e k ps)) ks ≡ []) ⊎ (epoch_start e l ps ≡ piece_start e ps)
begun_or_bare e l ps [] = inl refl
begun_or_bare e l ps (k ∷ ks) = at (has_some (piece_rows e k ps)) refl (begun_or_bare e l ps ks)
  where
    rest : List ℕ
    rest = filter (λ j. has_some (piece_rows e j ps)) ks

    at : (b : Bool) → has_some (piece_rows e k ps) ≡ b → (rest ≡ []) ⊎ (epoch_start e l ps ≡ piece_start e ps)
        → (cond (has_some (piece_rows e k ps)) (k ∷ rest) rest ≡ []) ⊎ (epoch_start e l ps ≡ piece_start e ps)
    at true some more = inr (started_some e k l ps some)
    at false none (inl more) = inl (ap (λ b. cond b (k ∷ rest) rest) none ∙ more)
    at false none (inr same) = inr same

-- ---- the rows of a channel, with the gaps of all channels among them

-- a gap of all channels is on no channel
AreOwn : List (Placed Item) → Type 0
AreOwn ps = AllByRecursion (λ p. is_gap_of_all p.row ≡ true → p.channel ≡ None) ps

places_own : (i : Interface) (o : Observer GapInterfaceState GapChannel) (rs : List Item) → AreOwn (placed (x25 i) o rs)
unfolding AreOwn
places_own i o [] = tt
places_own i o (r ∷ rs) = (λ gap. ap (λ b. cond ((x25 i).ready o.level) (channel_unless (x25 i) r b) None) gap ∙ same ((x25 i).ready o.level), places_own i (after (x25 i) o r) rs)
  where
    same : (b : Bool) → (let q : Option ℕ = cond b None None in q) ≡ None
    same true = refl
    same false = refl

taken_own : (i : Interface) (e k : ℕ) (ps : List (Placed Item)) → AreOwn ps → has_some (taken_rows (step_rows (x25 i) e k ps)) ≡ has_some (piece_rows e k ps)
unfolding AreOwn
taken_own i e k [] own = refl
taken_own i e k (q ∷ ps) own = at (taken_own i e k ps own.1) (is_gap_of_all q.row) refl
  where
    steps : List Item
    steps = step_rows (x25 i) e k ps

    kept : List (Placed Item)
    kept = filter (λ p. steps_by k p (is_gap_of_all p.row) && eqb p.epoch e) ps

    rows : List (Placed Item)
    rows = filter (λ p. is_channel k p.channel && eqb p.epoch e) ps

    with_gap : (b : Bool) → is_gap_of_all q.row ≡ true → has_some (taken_rows (map (λ (p : Placed Item). p.row) (cond b (q ∷ kept) kept))) ≡ has_some (taken_rows steps)
    with_gap true gap = taken_some q.row steps gap
    with_gap false gap = refl

    with_row : (b : Bool) → is_gap_of_all q.row ≡ false → has_some (taken_rows steps) ≡ has_some (piece_rows e k ps)
        → has_some (taken_rows (map (λ (p : Placed Item). p.row) (cond b (q ∷ kept) kept))) ≡ has_some (map (λ (p : Placed Item). p.row) (cond b (q ∷ rows) rows))
    with_row true own_row more = taken_first q.row steps own_row
    with_row false own_row more = more

    at : has_some (taken_rows steps) ≡ has_some (piece_rows e k ps) → (b : Bool) → is_gap_of_all q.row ≡ b
        → has_some (taken_rows (map (λ (p : Placed Item). p.row) (cond (steps_by k q (is_gap_of_all q.row) && eqb q.epoch e) (q ∷ kept) kept)))
        ≡ has_some (map (λ (p : Placed Item). p.row) (cond (is_channel k q.channel && eqb q.epoch e) (q ∷ rows) rows))
    at more true gap =
        with_gap (steps_by k q (is_gap_of_all q.row) && eqb q.epoch e) gap ∙ more
        ∙ sym (ap (λ c. has_some (map (λ (p : Placed Item). p.row) (cond (is_channel k c && eqb q.epoch e) (q ∷ rows) rows))) (own.0 gap))
    at more false row =
        ap (λ b. has_some (taken_rows (map (λ (p : Placed Item). p.row) (cond (steps_by k q b && eqb q.epoch e) (q ∷ kept) kept)))) row
        ∙ with_row (is_channel k q.channel && eqb q.epoch e) row more

-- a channel has rows that are read where it has rows of its own
pub some_taken : (i : Interface) (rs : List Item) (e k : ℕ) → has_some (taken_rows (step_rows (x25 i) e k (places i rs))) ≡ has_some (piece_rows e k (places i rs))
some_taken i rs e k = taken_own i e k (places i rs) (places_own i (start i) rs)

pub end_same : (e : ℕ) (ps : List (Placed Item)) (p : Placed Item) → (p.leaves && eqb p.epoch e) ≡ false → piece_end e (ps ++ p ∷ []) ≡ piece_end e ps
end_same e [] p h = ap (λ b. cond b (Some p.row) None) h
end_same e (q ∷ ps) p h = ap (λ o. cond (q.leaves && eqb q.epoch e) (Some q.row) o) (end_same e ps p h)

end_found : (b : Bool) (x : Item) (o o' : Option Item) → (is_some o ≡ true → o' ≡ o) → is_some (let s : Option Item = cond b (Some x) o in s) ≡ true → (let s : Option Item = cond b (Some x) o' in s) ≡ (let t : Option Item = cond b (Some x) o in t)
end_found true x o o' h k = refl
end_found false x o o' h k = h k

-- an end that was found stays
pub end_stays : (e : ℕ) (ps : List (Placed Item)) (p : Placed Item) → is_some (piece_end e ps) ≡ true → piece_end e (ps ++ p ∷ []) ≡ piece_end e ps
end_stays e [] p h = absurd (true≢false (sym h))
end_stays e (q ∷ ps) p h = end_found (q.leaves && eqb q.epoch e) q.row (piece_end e ps) (piece_end e (ps ++ p ∷ [])) (end_stays e ps p) h

end_new_step : (b : Bool) (x y : Item) (o o' : Option Item) → (o ≡ None → o' ≡ Some y) → (let s : Option Item = cond b (Some x) o in s) ≡ None → (let t : Option Item = cond b (Some x) o' in t) ≡ Some y
end_new_step true x y o o' h k = absurd (true≢false (ap (λ s. is_some s) k))
end_new_step false x y o o' h k = h k

pub end_new : (e : ℕ) (ps : List (Placed Item)) (p : Placed Item) → (p.leaves && eqb p.epoch e) ≡ true → piece_end e ps ≡ None → piece_end e (ps ++ p ∷ []) ≡ Some p.row
end_new e [] p h k = ap (λ b. cond b (Some p.row) None) h
end_new e (q ∷ ps) p h k = end_new_step (q.leaves && eqb q.epoch e) q.row p.row (piece_end e ps) (piece_end e (ps ++ p ∷ [])) (end_new e ps p h) k
