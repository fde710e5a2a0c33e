-- A part is inserted among pieces of which some were passed.
use Rattle.std.proofs.Common.{◌≡◌, ◌∙◌, sym, ap, ℕ, ◌+◌, ◌-◌, ◌<◌, ◌≤◌, List, [], ◌∷◌, ◌++◌, length, take, drop, get_or, arith}
use Rattle.std.proofs.lemmas.List.{append_assoc, get_or_default, length-append, length-drop, length-take-le, take_at, drop_at, drop_more}
use Rattle.ip_segments.specs.Pieces.{after, before, inserted, some_of}
use Rattle.ip_segments.specs.declared.pieces.Piece.{Piece}

-- a part that is put before the piece at an index, and that piece, are passed
pub put_passed : {A : Type 0} (i : ℕ) (xs own : List A) (x : A) → i < length xs → x ≡ get_or xs i x
    → (take (i + length own + 1) (take i xs ++ own ++ drop i xs) ≡ take i xs ++ (own ++ x ∷ []))
    × (drop (i + length own + 1) (take i xs ++ own ++ drop i xs) ≡ drop (i + 1) xs)
put_passed i xs own x h e =
    let front = take i xs ++ (own ++ x ∷ []) in
    let rest : drop i xs ≡ x ∷ drop (i + 1) xs = drop_more xs i x h ∙ ap (λ y. y ∷ drop (i + 1) xs) (sym e) in
    let whole : take i xs ++ own ++ drop i xs ≡ front ++ drop (i + 1) xs =
    ap (λ l. take i xs ++ own ++ l) rest ∙ append_assoc (take i xs) own (x ∷ drop (i + 1) xs)
    ∙ ap (λ l. take i xs ++ l) (sym (append_assoc own (x ∷ []) (drop (i + 1) xs))) ∙ sym (append_assoc (take i xs) (own ++ x ∷ []) (drop (i + 1) xs)) in
    let taken : length (take i xs) ≡ i = length-take-le i xs (omega (arith, h)) in
    let one : length (own ++ x ∷ []) ≡ length own + 1 = length-append own (x ∷ []) in
    let all : length front ≡ length (take i xs) + length (own ++ x ∷ []) = length-append (take i xs) (own ++ x ∷ []) in
    let size : length front ≡ i + length own + 1 = omega (arith, taken, one, all) in (
      ap (take (i + length own + 1)) whole ∙ take_at front (drop (i + 1) xs) (i + length own + 1) size,
      ap (drop (i + length own + 1)) whole ∙ drop_at front (drop (i + 1) xs) (i + length own + 1) size,
    )

-- how a part is inserted over a piece
pub inserted_over : (s p : Piece) (ps : List Piece) → p.at < s.until → inserted s (p ∷ ps) ≡ some_of (before p.at s) ++ p ∷ inserted (after p.until s) ps
inserted_over s p ps h = grind (arith, h)

-- what is left of a part is inserted among the pieces that are left
pub go_on : (i next : ℕ) (xs all new : List Piece) (s r rest p : Piece) → i < length xs → p ≡ get_or xs i p → p.at < r.until
    → new ≡ take i xs ++ some_of (before p.at r) ++ drop i xs → next ≡ i + length (some_of (before p.at r)) → rest ≡ after p.until r
    → take i xs ++ inserted r (drop i xs) ≡ inserted s all
    → (next + 1 ≤ length new) × (take (next + 1) new ++ inserted rest (drop (next + 1) new) ≡ inserted s all)
go_on i next xs all new s r rest p h e over is size after_it so_far =
    let own = some_of (before p.at r) in
    let passed = put_passed i xs own p h e in
    let front : take (next + 1) new ≡ take i xs ++ (own ++ p ∷ []) = ap (λ n. take (n + 1) new) size ∙ ap (take (i + length own + 1)) is ∙ passed.0 in
    let left : drop (next + 1) new ≡ drop (i + 1) xs = ap (λ n. drop (n + 1) new) size ∙ ap (drop (i + length own + 1)) is ∙ passed.1 in
    let here : drop i xs ≡ p ∷ drop (i + 1) xs = drop_more xs i p h ∙ ap (λ y. y ∷ drop (i + 1) xs) (sym e) in
    let more = inserted (after p.until r) (drop (i + 1) xs) in
    let sizes : length new ≡ length (take i xs ++ own ++ drop i xs) = ap length is in
    let taken : length (take i xs) ≡ i = length-take-le i xs (omega (arith, h)) in
    let dropped : length (drop i xs) ≡ length xs - i = length-drop i xs in
    let one : length (take i xs ++ own ++ drop i xs) ≡ length (take i xs ++ own) + length (drop i xs) = length-append (take i xs ++ own) (drop i xs) in
    let two : length (take i xs ++ own) ≡ length (take i xs) + length own = length-append (take i xs) own in (
      omega (arith, h, sizes, taken, dropped, one, two, size),
      ap (λ l. l ++ inserted rest (drop (next + 1) new)) front
          ∙ ap (λ l. take i xs ++ (own ++ p ∷ []) ++ inserted rest l) left
          ∙ ap (λ s. take i xs ++ (own ++ p ∷ []) ++ inserted s (drop (i + 1) xs)) after_it
          ∙ append_assoc (take i xs) (own ++ p ∷ []) more ∙ ap (λ l. take i xs ++ l) (append_assoc own (p ∷ []) more)
          ∙ ap (λ l. take i xs ++ l) (sym (inserted_over r p (drop (i + 1) xs) over)) ∙ ap (λ l. take i xs ++ inserted r l) (sym here) ∙ so_far,
    )

-- two reads of one index give one element
pub same_read : {A : Type 0} (xs : List A) (i : ℕ) (x y : A) → i < length xs → x ≡ get_or xs i x → y ≡ get_or xs i y → x ≡ y
same_read xs i x y h e f = e ∙ get_or_default xs i x y h ∙ sym f
