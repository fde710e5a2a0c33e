-- A stream is split in one way, in whatever pieces it comes.
use Rattle.std.proofs.Common.{◌≡◌, ◌∙◌, sym, ap, refl, ℕ, ◌+◌, ◌<◌, List, [], ◌∷◌, ◌++◌, append_assoc, append-nil, arith, div-add-mod', flat_map, length, length-append, subst}
use Rattle.std.proofs.lemmas.List.Concat.{flat_map-append}
use Rattle.xot_circuits.specs.Packets.{AnyPieces, Feeds, IsPartial, IsPartialBy, OneSplit, Splits, header, xot}
use Rattle.xot_circuits.specs.declared.header.Header.{Header}
use Rattle.xot_circuits.specs.declared.header.Header.TheVariants.{Length}

abbrev joined : List (List ℕ) → List ℕ
joined pieces = flat_map (λ (piece : List ℕ). piece) pieces

pub header_xot : (p rest : List ℕ) → header (xot p ++ rest) ≡ Length (length p)
header_xot p rest = ap Length (div-add-mod' (length p) 256)

pub length_xot : (p rest : List ℕ) → length (xot p ++ rest) ≡ 4 + (length p + length rest)
length_xot p rest = omega (arith, length-append p rest)

not_partial : (p rest : List ℕ) → IsPartial (xot p ++ rest) → ⊥
not_partial p rest h =
    let few : length (xot p ++ rest) < 4 + length p = subst (λ (x : Header). IsPartialBy x (length (xot p ++ rest))) (header_xot p rest) h in
    omega (arith, few, length_xot p rest)

same_front : (p q a b : List ℕ) → length p ≡ length q → p ++ a ≡ q ++ b → (p ≡ q) × (a ≡ b)
same_front [] [] a b n h = (refl, h)
same_front [] (y ∷ q) a b n h = absurd (omega (arith, n))
same_front (x ∷ p) [] a b n h = absurd (omega (arith, n))
same_front (x ∷ p) (y ∷ q) a b n h =
    let head : x ≡ y = cc h in
    let tail : p ++ a ≡ q ++ b = cc h in
    let same = same_front p q a b (omega (arith, n)) tail in
    let both : x ∷ p ≡ y ∷ q = cc (head, same.0) in
    (both, same.1)

same_packet : (p q a b : List ℕ) → xot p ++ a ≡ xot q ++ b → (p ≡ q) × (a ≡ b)
same_packet p q a b h =
    let lengths : Length (length p) ≡ Length (length q) = sym (header_xot p a) ∙ (ap header h ∙ header_xot q b) in
    let n : length p ≡ length q = cc lengths in
    let rest : p ++ a ≡ q ++ b = cc h in
    same_front p q a b n rest

same_packets : (ps qs : List (List ℕ)) (r t : List ℕ) → flat_map xot ps ++ r ≡ flat_map xot qs ++ t → IsPartial r → IsPartial t → (ps ≡ qs) × (r ≡ t)
same_packets [] [] r t h i j = (refl, h)
same_packets [] (q ∷ qs) r t h i j = absurd (not_partial q (flat_map xot qs ++ t) (subst IsPartial (h ∙ append_assoc (xot q) (flat_map xot qs) t) i))
same_packets (p ∷ ps) [] r t h i j = absurd (not_partial p (flat_map xot ps ++ r) (subst IsPartial (sym h ∙ append_assoc (xot p) (flat_map xot ps) r) j))
same_packets (p ∷ ps) (q ∷ qs) r t h i j =
    let both = same_packet p q (flat_map xot ps ++ r) (flat_map xot qs ++ t) (sym (append_assoc (xot p) (flat_map xot ps) r) ∙ (h ∙ append_assoc (xot q) (flat_map xot qs) t)) in
    let later = same_packets ps qs r t both.1 i j in
    let packets : p ∷ ps ≡ q ∷ qs = cc (both.0, later.0) in
    (packets, later.1)

pub one_split_is : OneSplit
one_split_is stream packets others rest other s t = same_packets packets others rest other (sym s.whole ∙ t.whole) s.partial t.partial

-- a piece after a stream that was split
split_more : (stream piece rest last : List ℕ) (ps qs : List (List ℕ)) → Splits stream ps rest → Splits (rest ++ piece) qs last → Splits (stream ++ piece) (ps ++ qs) last
split_more stream piece rest last ps qs s t = record {
  whole = ap (λ xs. xs ++ piece) s.whole
      ∙ (append_assoc (flat_map xot ps) rest piece
      ∙ (ap (λ xs. flat_map xot ps ++ xs) t.whole
      ∙ (sym (append_assoc (flat_map xot ps) (flat_map xot qs) last)
      ∙ ap (λ xs. xs ++ last) (sym (flat_map-append xot ps qs)))));
  partial = t.partial;
}

fed : (before : List ℕ) (pieces packets : List (List ℕ)) (rest stream : List ℕ) (so_far : List (List ℕ)) → Splits stream so_far before → Feeds before pieces packets rest
    → Splits (stream ++ joined pieces) (so_far ++ packets) rest
fed before [] packets rest stream so_far s f =
    subst (λ (xs : List ℕ). Splits xs (so_far ++ packets) rest) (sym (append-nil stream))
    (subst (λ (ps : List (List ℕ)). Splits stream (so_far ++ ps) rest) (sym f.0)
    (subst (λ (ps : List (List ℕ)). Splits stream ps rest) (sym (append-nil so_far))
    (subst (Splits stream so_far) (sym f.1) s)))
fed before (piece ∷ pieces) packets rest stream so_far s f =
    let first = f.0 in
    let later = f.1 in
    let between = f.2 in
    let more = split_more stream piece before between so_far first s f.3 in
    let all = fed between pieces later rest (stream ++ piece) (so_far ++ first) more f.4 in
    subst (λ (xs : List ℕ). Splits xs (so_far ++ packets) rest) (append_assoc stream piece (joined pieces))
    (subst (λ (ps : List (List ℕ)). Splits ((stream ++ piece) ++ joined pieces) ps rest) (append_assoc so_far first later ∙ ap (λ ps. so_far ++ ps) (sym f.5)) all)

pub any_pieces_are : AnyPieces
any_pieces_are pieces packets rest f = fed [] pieces packets rest [] [] (record { whole = refl; partial = tt }) f
