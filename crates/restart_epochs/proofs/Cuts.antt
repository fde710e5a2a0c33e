-- The pieces of the epochs, and how they grow.
use Rattle.std.proofs.Common.{◌≡◌, ◌∙◌, sym, ap, refl, ℕ, zero, suc, ◌+◌, ◌-◌, ◌≤◌, Bool, true, false, cond, List, [], ◌∷◌, ◌++◌, map, length, Option, Some, None, arith, append-nil, append_assoc}
use Rattle.std.specs.Prelude.{is_some, option_map}
use Rattle.std.specs.List.{filter, flat_map, range_with_len, enumerate_from}
use Rattle.std.proofs.lemmas.List.{map-append, length-map}
use Rattle.std.proofs.lemmas.List.FromFn.{length-enumerate_from}
use Rattle.line_model.specs.declared.interface.Interface.{Interface}
use Rattle.line_model.specs.basics.Records.{Item, Piece}
use Rattle.line_model.specs.pieces.Pieces.{Placed, piece_rows, piece_end, piece_start, step_rows}
use Rattle.line_model.specs.pieces.Plan.{has_some, plan_of}
use Rattle.line_model.specs.pieces.Plans.{end_at, piece_of, plan, single_gaps}
use Rattle.line_model.specs.observer.Observer.{x25, start}
use Rattle.restart_epochs.specs.Cutting.{observer, places, channels_in}
use Rattle.line_model.proofs.Pieces.{filter_append}

abbrev pub keys_in : Interface → List (Placed Item) → ℕ → List (ℕ × ℕ)
keys_in i ps e = map (λ k. (e, k)) (channels_in i ps e)

-- the epochs and channels that have rows, up to an epoch
abbrev pub keys_to : Interface → List (Placed Item) → ℕ → List (ℕ × ℕ)
keys_to i ps n = flat_map (keys_in i ps) (range_with_len 1 n)

abbrev pub pieces_to : Interface → List (Placed Item) → ℕ → List Piece
pieces_to i ps n = map (piece_of i ps) (enumerate_from 0 (keys_to i ps n))

-- the pieces of one epoch, from an id on
abbrev pub pieces_in : Interface → List (Placed Item) → (id epoch : ℕ) → List Piece
pieces_in i ps id e = map (piece_of i ps) (enumerate_from id (keys_in i ps e))

-- ---- the plan is the pieces up to the last epoch

filter_map_pairs : (f : ℕ × ℕ → Bool) (e : ℕ) (ks : List ℕ) → filter f (map (λ k. (e, k)) ks) ≡ map (λ k. (e, k)) (filter (λ k. f (e, k)) ks)
filter_map_pairs f e [] = refl
filter_map_pairs f e (k ∷ ks) = at (f (e, k)) (filter_map_pairs f e ks)
  where
    at : (b : Bool) → filter f (map (λ j. (e, j)) ks) ≡ map (λ j. (e, j)) (filter (λ j. f (e, j)) ks)
        → cond b ((e, k) ∷ filter f (map (λ j. (e, j)) ks)) (filter f (map (λ j. (e, j)) ks)) ≡ map (λ j. (e, j)) (cond b (k ∷ filter (λ j. f (e, j)) ks) (filter (λ j. f (e, j)) ks))
    at true h = ap (λ l. (e, k) ∷ l) h
    at false h = h

filter_flat_map : (f : ℕ × ℕ → Bool) (g : ℕ → List (ℕ × ℕ)) (xs : List ℕ) → filter f (flat_map g xs) ≡ flat_map (λ x. filter f (g x)) xs
filter_flat_map f g [] = refl
filter_flat_map f g (x ∷ xs) = filter_append f (g x) (flat_map g xs) ∙ ap (λ l. filter f (g x) ++ l) (filter_flat_map f g xs)

flat_map_each : (f g : ℕ → List (ℕ × ℕ)) → ((x : ℕ) → f x ≡ g x) → (xs : List ℕ) → flat_map f xs ≡ flat_map g xs
flat_map_each f g h [] = refl
flat_map_each f g h (x ∷ xs) = ap (λ l. l ++ flat_map f xs) (h x) ∙ ap (λ l. g x ++ l) (flat_map_each f g h xs)

plan_keys : (i : Interface) (rs : List Item) → plan_of (x25 i) (start i) rs ≡ keys_to i (places i rs) (observer i rs).epoch
plan_keys i rs =
    let f : ℕ × ℕ → Bool = λ p. has_some (piece_rows p.0 p.1 (places i rs)) in
    let g : ℕ → List (ℕ × ℕ) = λ e. map (λ k. (e, k)) (range_with_len 1 i.svc) in
    let last : (observer i rs).epoch + 1 - 1 ≡ (observer i rs).epoch = omega arith in
    ap (λ n. filter f (flat_map g (range_with_len 1 n))) last
    ∙ filter_flat_map f g (range_with_len 1 (observer i rs).epoch)
    ∙ flat_map_each (λ e. filter f (g e)) (keys_in i (places i rs)) (λ e. filter_map_pairs f e (range_with_len 1 i.svc)) (range_with_len 1 (observer i rs).epoch)

pub plan_is : (i : Interface) (rs : List Item) → plan i rs ≡ pieces_to i (places i rs) (observer i rs).epoch
plan_is i rs = ap (λ qs. map (piece_of i (places i rs)) (enumerate_from 0 qs)) (plan_keys i rs)

-- ---- one more epoch

range_more : (a n : ℕ) → range_with_len a (suc n) ≡ range_with_len a n ++ (a + n) ∷ []
range_more a zero = ap (λ m. m ∷ []) (omega arith)
range_more a (suc n) = ap (λ l. a ∷ l) (range_more (a + 1) n) ∙ ap (λ m. a ∷ range_with_len (a + 1) n ++ m ∷ []) (omega arith)

flat_map_more : (g : ℕ → List (ℕ × ℕ)) (xs : List ℕ) (x : ℕ) → flat_map g (xs ++ x ∷ []) ≡ flat_map g xs ++ g x
flat_map_more g [] x = append-nil (g x)
flat_map_more g (y ∷ xs) x = ap (λ l. g y ++ l) (flat_map_more g xs x) ∙ sym (append_assoc (g y) (flat_map g xs) (g x))

keys_more : (i : Interface) (ps : List (Placed Item)) (n : ℕ) → keys_to i ps (suc n) ≡ keys_to i ps n ++ keys_in i ps (n + 1)
keys_more i ps n =
    ap (flat_map (keys_in i ps)) (range_more 1 n ∙ ap (λ m. range_with_len 1 n ++ m ∷ []) (omega arith))
    ∙ flat_map_more (keys_in i ps) (range_with_len 1 n) (n + 1)

enumerate_more : (n : ℕ) (xs ys : List (ℕ × ℕ)) → enumerate_from n (xs ++ ys) ≡ enumerate_from n xs ++ enumerate_from (n + length xs) ys
enumerate_more n [] ys = ap (λ m. enumerate_from m ys) (omega arith)
enumerate_more n (x ∷ xs) ys =
    ap (λ l. (n, x) ∷ l) (enumerate_more (n + 1) xs ys ∙ ap (λ m. enumerate_from (n + 1) xs ++ enumerate_from m ys) (let e : length (x ∷ xs) ≡ length xs + 1 = omega arith in omega (arith, e)))

pub pieces_more : (i : Interface) (ps : List (Placed Item)) (n : ℕ) → pieces_to i ps (suc n) ≡ pieces_to i ps n ++ pieces_in i ps (length (keys_to i ps n)) (n + 1)
pieces_more i ps n =
    ap (λ qs. map (piece_of i ps) (enumerate_from 0 qs)) (keys_more i ps n)
    ∙ ap (map (piece_of i ps)) (enumerate_more 0 (keys_to i ps n) (keys_in i ps (n + 1)))
    ∙ map-append (piece_of i ps) (enumerate_from 0 (keys_to i ps n)) (enumerate_from (0 + length (keys_to i ps n)) (keys_in i ps (n + 1)))
    ∙ ap (λ m. pieces_to i ps n ++ pieces_in i ps m (n + 1)) (omega arith)

-- ---- epochs that a row did not touch

-- the start, the rows and the end of an epoch are the same in both
pub record SameEpoch (i : Interface) (e : ℕ) (ps qs : List (Placed Item)) : Type 0 where
  pub start : piece_start e qs ≡ piece_start e ps
  pub rows : (k : ℕ) → piece_rows e k qs ≡ piece_rows e k ps
  pub steps : (k : ℕ) → step_rows (x25 i) e k qs ≡ step_rows (x25 i) e k ps
  pub end : piece_end e qs ≡ piece_end e ps

pub filter_each : (f g : ℕ → Bool) → ((k : ℕ) → f k ≡ g k) → (ks : List ℕ) → filter f ks ≡ filter g ks
filter_each f g h [] = refl
filter_each f g h (k ∷ ks) = ap (λ b. cond b (k ∷ filter f ks) (filter f ks)) (h k) ∙ ap (λ l. cond (g k) (k ∷ l) l) (filter_each f g h ks)

keys_same : (i : Interface) (ps qs : List (Placed Item)) (e : ℕ) → SameEpoch i e ps qs → keys_in i qs e ≡ keys_in i ps e
keys_same i ps qs e s = ap (map (λ k. (e, k))) (filter_each (λ k. has_some (piece_rows e k qs)) (λ k. has_some (piece_rows e k ps)) (λ k. ap has_some (s.rows k)) (range_with_len 1 i.svc))

piece_same : (i : Interface) (ps qs : List (Placed Item)) (e id k : ℕ) → SameEpoch i e ps qs → piece_of i qs (id, (e, k)) ≡ piece_of i ps (id, (e, k))
piece_same i ps qs e id k s = λ j. record {
  id = id;
  interface = i;
  epoch = e;
  start = s.start j;
  channel = k;
  items = single_gaps (s.steps k j);
  end = option_map end_at (s.end j);
}

mapped_same : (i : Interface) (ps qs : List (Placed Item)) (e id : ℕ) (ks : List ℕ) → SameEpoch i e ps qs → map (piece_of i qs) (enumerate_from id (map (λ k. (e, k)) ks)) ≡ map (piece_of i ps) (enumerate_from id (map (λ k. (e, k)) ks))
mapped_same i ps qs e id [] s = refl
mapped_same i ps qs e id (k ∷ ks) s =
    ap (λ p. p ∷ map (piece_of i qs) (enumerate_from (id + 1) (map (λ j. (e, j)) ks))) (piece_same i ps qs e id k s)
    ∙ ap (λ l. piece_of i ps (id, (e, k)) ∷ l) (mapped_same i ps qs e (id + 1) ks s)

pub pieces_in_same : (i : Interface) (ps qs : List (Placed Item)) (e id : ℕ) → SameEpoch i e ps qs → pieces_in i qs id e ≡ pieces_in i ps id e
pieces_in_same i ps qs e id s = ap (λ ks. map (piece_of i qs) (enumerate_from id ks)) (keys_same i ps qs e s) ∙ mapped_same i ps qs e id (channels_in i ps e) s

keys_to_same : (i : Interface) (ps qs : List (Placed Item)) (n : ℕ) → ((e : ℕ) → e ≤ n → SameEpoch i e ps qs) → keys_to i qs n ≡ keys_to i ps n
keys_to_same i ps qs zero s = refl
keys_to_same i ps qs (suc n) s =
    keys_more i qs n
    ∙ ap (λ l. l ++ keys_in i qs (n + 1)) (keys_to_same i ps qs n (λ e h. s e (omega arith)))
    ∙ ap (λ l. keys_to i ps n ++ l) (keys_same i ps qs (n + 1) (s (n + 1) (omega arith)))
    ∙ sym (keys_more i ps n)

pub pieces_to_same : (i : Interface) (ps qs : List (Placed Item)) (n : ℕ) → ((e : ℕ) → e ≤ n → SameEpoch i e ps qs) → pieces_to i qs n ≡ pieces_to i ps n
pieces_to_same i ps qs zero s = refl
pieces_to_same i ps qs (suc n) s =
    let earlier : (e : ℕ) → e ≤ n → SameEpoch i e ps qs = λ e h. s e (omega arith) in
    pieces_more i qs n
    ∙ ap (λ l. l ++ pieces_in i qs (length (keys_to i qs n)) (n + 1)) (pieces_to_same i ps qs n earlier)
    ∙ ap (λ ks. pieces_to i ps n ++ pieces_in i qs (length ks) (n + 1)) (keys_to_same i ps qs n earlier)
    ∙ ap (λ l. pieces_to i ps n ++ l) (pieces_in_same i ps qs (n + 1) (length (keys_to i ps n)) (s (n + 1) (omega arith)))
    ∙ sym (pieces_more i ps n)

-- ---- the pieces that are complete

has_number : (o : Option Item) → is_some (option_map end_at o) ≡ is_some o
has_number None = refl
has_number (Some r) = refl

kept_step : (b : Bool) (p : Piece) (ps qs : List Piece) → b ≡ true → ps ≡ qs → cond b (p ∷ ps) ps ≡ p ∷ qs
kept_step b p ps qs h e = ap (λ v. cond v (p ∷ ps) ps) h ∙ ap (λ l. p ∷ l) e

kept_in : (i : Interface) (ps : List (Placed Item)) (e id : ℕ) (ks : List ℕ) → is_some (piece_end e ps) ≡ true
    → filter (λ p. is_some p.end) (map (piece_of i ps) (enumerate_from id (map (λ k. (e, k)) ks))) ≡ map (piece_of i ps) (enumerate_from id (map (λ k. (e, k)) ks))
kept_in i ps e id [] h = refl
kept_in i ps e id (k ∷ ks) h = kept_step _ (piece_of i ps (id, (e, k))) _ _ (has_number (piece_end e ps) ∙ h) (kept_in i ps e (id + 1) ks h)

dropped_in : (i : Interface) (ps : List (Placed Item)) (e id : ℕ) (ks : List ℕ) → piece_end e ps ≡ None
    → filter (λ p. is_some p.end) (map (piece_of i ps) (enumerate_from id (map (λ k. (e, k)) ks))) ≡ []
dropped_in i ps e id [] h = refl
dropped_in i ps e id (k ∷ ks) h =
    let more : List Piece = filter (λ p. is_some p.end) (map (piece_of i ps) (enumerate_from (id + 1) (map (λ j. (e, j)) ks))) in
    ap (λ (o : Option Item). cond (is_some (option_map end_at o)) (piece_of i ps (id, (e, k)) ∷ more) more) h ∙ dropped_in i ps e (id + 1) ks h

pub all_given : (i : Interface) (ps : List (Placed Item)) (n : ℕ) → ((e : ℕ) → 1 ≤ e → e ≤ n → is_some (piece_end e ps) ≡ true) → filter (λ p. is_some p.end) (pieces_to i ps n) ≡ pieces_to i ps n
all_given i ps zero h = refl
all_given i ps (suc n) h =
    ap (filter (λ p. is_some p.end)) (pieces_more i ps n)
    ∙ filter_append (λ (p : Piece). is_some p.end) (pieces_to i ps n) (pieces_in i ps (length (keys_to i ps n)) (n + 1))
    ∙ ap (λ l. l ++ filter (λ p. is_some p.end) (pieces_in i ps (length (keys_to i ps n)) (n + 1))) (all_given i ps n (λ e lo hi. h e lo (omega arith)))
    ∙ ap (λ l. pieces_to i ps n ++ l) (kept_in i ps (n + 1) (length (keys_to i ps n)) (channels_in i ps (n + 1)) (h (n + 1) (omega arith) (omega arith)))
    ∙ sym (pieces_more i ps n)

-- the last epoch is open
pub others_given : (i : Interface) (ps : List (Placed Item)) (n : ℕ) → ((e : ℕ) → 1 ≤ e → e ≤ n → is_some (piece_end e ps) ≡ true) → piece_end (n + 1) ps ≡ None
    → filter (λ p. is_some p.end) (pieces_to i ps (suc n)) ≡ pieces_to i ps n
others_given i ps n h none =
    ap (filter (λ p. is_some p.end)) (pieces_more i ps n)
    ∙ filter_append (λ (p : Piece). is_some p.end) (pieces_to i ps n) (pieces_in i ps (length (keys_to i ps n)) (n + 1))
    ∙ ap (λ l. l ++ filter (λ p. is_some p.end) (pieces_in i ps (length (keys_to i ps n)) (n + 1))) (all_given i ps n h)
    ∙ ap (λ l. pieces_to i ps n ++ l) (dropped_in i ps (n + 1) (length (keys_to i ps n)) (channels_in i ps (n + 1)) none)
    ∙ append-nil (pieces_to i ps n)

pub pieces-length : (i : Interface) (ps : List (Placed Item)) (n : ℕ) → length (pieces_to i ps n) ≡ length (keys_to i ps n)
pieces-length i ps n = length-map (enumerate_from 0 (keys_to i ps n)) (piece_of i ps) ∙ length-enumerate_from 0 (keys_to i ps n)
