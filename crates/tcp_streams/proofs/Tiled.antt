-- What a direction gives out tiles its places.
use Rattle.std.proofs.Common.{◌≡◌, ◌∙◌, refl, sym, ap, subst, ℕ, ◌+◌, ◌<◌, ◌≤◌, max, List, [], ◌∷◌, ◌++◌, Option, Some, unwrap_or, arith}
use Rattle.std.proofs.lemmas.List.{append-nil, append_assoc}
use Rattle.tcp_streams.specs.Pieces.{Mark, after, copy_at, mark_at, mark_in, or_later}
use Rattle.tcp_streams.specs.Flows.{given_out, part_held}
use Rattle.tcp_streams.specs.Connections.{passed_to}
use Rattle.tcp_streams.specs.Tiles.{AreOrdered, AreTiles, Given, IsTile, IsTiled, Missing, Tile}
use Rattle.tcp_streams.specs.declared.flow.Flow.{Flow}
use Rattle.tcp_streams.specs.declared.piece.Piece.{Piece}
use Rattle.tcp_streams.proofs.Copies.{after_same, copy_append, copy_push, inserted_copies, none_before, none_above, some_inside}
use Rattle.tcp_streams.proofs.Order.{Fits, inserted_ordered}

-- a first copy stays one, whatever is recorded later
keep_first : (m : Mark) (o c later : Option Mark) → o ≡ Some m → o ≡ c → o ≡ or_later c later
keep_first m o c later e f = e ∙ ap (λ x. or_later x later) (sym e ∙ f)

tile_more : (segments more : List Piece) (from to : ℕ) (t : Tile) → IsTile segments from t to → IsTile (segments ++ more) from t to
tile_more segments more from to (Given p) (at, until, octets, copies) = (
  at,
  until,
  octets,
  λ q h k.
      keep_first (mark_in q p) (mark_at q p) (copy_at q segments) (copy_at q more) (some_inside q p (omega (arith, at, h)) (omega (arith, until, k))) (copies q h k)
      ∙ sym (copy_append q segments more),
)
tile_more segments more from to (Missing n) (size, (seen, later, same, missing)) =
    (size, (seen, later ++ more, ap (λ l. l ++ more) same ∙ append_assoc seen later more, missing))

pub tiles_more : (segments more : List Piece) (from to : ℕ) (ts : List Tile) → AreTiles segments from ts to → AreTiles (segments ++ more) from ts to
tiles_more segments more from to [] e = e
tiles_more segments more from to (t ∷ ts) (mid, one, rest) = (mid, tile_more segments more from mid t one, tiles_more segments more mid to ts rest)

pub tiles_push : (segments : List Piece) (from mid to : ℕ) (ts : List Tile) (t : Tile) → AreTiles segments from ts mid → IsTile segments mid t to → AreTiles segments from (ts ++ t ∷ []) to
tiles_push segments from mid to [] t e one = (to, (let P : ℕ → Type 0 = λ n. IsTile segments n t to in subst P (sym e) one), refl)
tiles_push segments from mid to (u ∷ ts) t (next, first, rest) one = (next, first, tiles_push segments next mid to ts t rest one)

-- a segment is read
pub read_tiled : (f : Flow) (segments : List Piece) (first : ℕ) (ts : List Tile) (p : Piece) (x : IsTiled f segments first ts) → Fits (after x.next p)
    → IsTiled (part_held (after x.next p) f) (segments ++ p ∷ []) first ts
read_tiled f segments first ts p x fits = record {
  next = x.next;
  known = x.known;
  given = tiles_more segments (p ∷ []) first x.next ts x.given;
  ordered = inserted_ordered x.next (after x.next p) f.waiting (omega arith) fits x.ordered;
  copies = λ q h. inserted_copies x.next q (after x.next p) f.waiting x.ordered
      ∙ ap (λ m. or_later m (mark_at q (after x.next p))) (x.copies q h)
      ∙ ap (or_later (copy_at q segments)) (after_same q x.next p h)
      ∙ sym (copy_push q segments p);
}

-- a piece is given out
first_of : (q : ℕ) (p : Piece) (ps : List Piece) → p.at ≤ q → q < p.until → copy_at q (p ∷ ps) ≡ mark_at q p
first_of q p ps h k = let e = some_inside q p h k in ap (λ m. or_later m (copy_at q ps)) e ∙ sym e

pub given_tiled : (f : Flow) (segments : List Piece) (first : ℕ) (ts : List Tile) (p : Piece) (ps : List Piece) (x : IsTiled f segments first ts)
    → f.waiting ≡ p ∷ ps → p.at ≤ x.next → IsTiled (given_out p ps f) segments first (ts ++ Given p ∷ [])
given_tiled f segments first ts p ps x waits ready =
    let O : List Piece → Type 0 = λ l. AreOrdered x.next l in
    let o = subst O waits x.ordered in
    let begins = o.0.begins in
    let some = o.0.some in
    let octets = o.0.octets in
    let at : p.at ≡ x.next = omega (arith, begins, ready) in
    let copies : (q : ℕ) → x.next ≤ q → copy_at q (p ∷ ps) ≡ copy_at q segments = λ q h. ap (copy_at q) (sym waits) ∙ x.copies q h in
    record {
      next = p.until;
      known = ap (λ n. Some (max (unwrap_or n 0) p.until)) x.known ∙ (let e : max x.next p.until ≡ p.until = omega (arith, some, at) in ap (λ n. Some n) e);
      given = tiles_push segments first x.next p.until ts (Given p) x.given
          (at, refl, omega (arith, at, octets), λ q h k. sym (first_of q p ps (omega (arith, at, h)) k) ∙ copies q h);
      ordered = o.1;
      copies = λ q h. ap (λ m. or_later m (copy_at q ps)) (sym (none_above q p h)) ∙ copies q (omega (arith, at, some, h));
    }

-- octets are given up that come before all pieces that wait
pub passed_tiled : (f : Flow) (segments : List Piece) (first : ℕ) (ts : List Tile) (n until : ℕ) (x : IsTiled f segments first ts)
    → x.next + n ≡ until → AreOrdered until f.waiting → IsTiled (passed_to until f) segments first (ts ++ Missing n ∷ [])
passed_tiled f segments first ts n until x size o = record {
  next = until;
  known = refl;
  given = tiles_push segments first x.next until ts (Missing n) x.given
      (size, (segments, [], sym (append-nil segments), λ q h k. sym (x.copies q h) ∙ none_before until q f.waiting o k));
  ordered = o;
  copies = λ q h. x.copies q (omega (arith, size, h));
}
