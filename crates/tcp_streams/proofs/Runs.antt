-- Whatever is done with a connection, what it gives out tiles the places of each direction.
use Rattle.std.proofs.Common.{◌≡◌, ◌∙◌, inl, inr, refl, sym, ap, subst, ℕ, ◌&&◌, ◌||◌, if◌then◌else◌, not, Bool, true, false, List, [], ◌∷◌, ◌++◌, Option, Some, None, arith}
use Rattle.std.proofs.lemmas.Bool.{cases_Bool}
use Rattle.std.proofs.lemmas.List.{append-nil}
use Rattle.ip_segments.specs.Segments.{Segment}
use Rattle.tcp_streams.specs.Flows.{acknowledged_by, begun_at, has_begun_before, is_empty, is_place, number_of, part_held, part_of}
use Rattle.tcp_streams.specs.Pieces.{after}
use Rattle.tcp_streams.specs.Connections as connections
use Rattle.tcp_streams.specs.Connections.{acknowledged_if, answered, answered_by, expecting, fed_after, fed_other, fed_own, follows, is_next, last_event, leaving, lent_other, lent_own, next_event, opened_other, opened_own, other, own, place_of}
use Rattle.tcp_streams.specs.Runs.{Call, Feed, Finish, IsLogged, Lend, Log, TakeNext, logged, logged_event, logged_lent, run, said_by}
use Rattle.tcp_streams.specs.Tiles.{Given, IsTiled, Tile}
use Rattle.tcp_streams.specs.declared.connection.Connection.{Connection}
use Rattle.tcp_streams.specs.declared.connection.End.{End}
use Rattle.tcp_streams.specs.declared.connection.End.TheVariants.{Opener, Answerer}
use Rattle.tcp_streams.specs.declared.flow.Flow.{Flow}
use Rattle.tcp_streams.specs.declared.piece.Piece.{Piece}
use Rattle.tcp_streams.specs.declared.piece.Recorded.{Recorded}
use Rattle.tcp_streams.proofs.Events.{Goes, last_tiled, next_is, next_tiled}
use Rattle.tcp_streams.proofs.Lending.{lent_is, lent_said, lent_tiled}
use Rattle.tcp_streams.proofs.Order.{Fits, fits_after}
use Rattle.tcp_streams.proofs.Tiled.{read_tiled}

-- a direction whose beginning is known does not begin again
begun_same : (a : Option ℕ) (f : Flow) (n : ℕ) → f.next ≡ Some n → begun_at a f ≡ f
begun_same a f n known = rw known refl

opened_same : (s : Segment) (f : Flow) (n : ℕ) → f.next ≡ Some n → opened_own s f ≡ f
opened_same s f n known = elim (cases_Bool s.is_syn) [
  | inl syn ↦ rw (syn, known) refl
  | inr none ↦ rw none refl
]

opened_other_same : (s : Segment) (f : Flow) (n : ℕ) → f.next ≡ Some n → opened_other s f ≡ f
opened_other_same s f n known = elim (cases_Bool s.is_syn) [
  | inl syn ↦ rw syn (begun_same s.acknowledged f n known)
  | inr none ↦ rw none refl
]

answered_same : (d : End) (s : Segment) (f g : Flow) (n : ℕ) → g.next ≡ Some n → answered d s f g ≡ g
answered_same Answerer s f g n known = refl
answered_same Opener s f g n known = elim (cases_Bool (has_begun_before (number_of s) f)) [
  | inl first ↦ rw first (begun_same s.acknowledged g n known)
  | inr later ↦ rw later refl
]

-- what the other end says changes only what is acknowledged
other_is : (d : End) (s : Segment) (f g : Flow) (n : ℕ) → g.next ≡ Some n → fed_other d s f g ≡ acknowledged_if s.acknowledged g
other_is d s f g n known = by s.acknowledged (opened_other_same s g n known) where
  by : (a : Option ℕ) → opened_other s g ≡ g → answered_by d a s (opened_own s f) (opened_other s g) ≡ acknowledged_if a g
  by None same = same
  by (Some k) same =
      let F : Flow → Flow = λ h. acknowledged_by k (answered d s (opened_own s f) h) in
      ap F same ∙ ap (acknowledged_by k) (answered_same d s (opened_own s f) g n known)

acknowledged_tiled : (a : Option ℕ) (f : Flow) (segments : List Piece) (first : ℕ) (ts : List Tile) → IsTiled f segments first ts → IsTiled (acknowledged_if a f) segments first ts
acknowledged_tiled None f segments first ts x = x
acknowledged_tiled (Some n) f segments first ts x = record { next = x.next; known = x.known; given = x.given; ordered = x.ordered; copies = x.copies }

other_tiled : (d : End) (s : Segment) (f g : Flow) (segments : List Piece) (first : ℕ) (ts : List Tile) → IsTiled g segments first ts → IsTiled (fed_other d s f g) (segments ++ []) first ts
other_tiled d s f g segments first ts x =
    let P : Flow → Type 0 = λ h. IsTiled h segments first ts in
    let Q : List Piece → Type 0 = λ l. IsTiled (fed_other d s f g) l first ts in
    subst Q (sym (append-nil segments)) (subst P (sym (other_is d s f g x.next x.known)) (acknowledged_tiled s.acknowledged g segments first ts x))

-- what an end says is held
left : Segment → Flow → Flow
left s f = record f { is_leaving = f.is_leaving || s.is_fin }

own_is : (s : Segment) (r : Recorded) (f : Flow) (n : ℕ) → f.next ≡ Some n
    → fed_own s r f ≡ (if is_empty s then left s f else (if is_place n then part_held (after n (part_of n s r)) (left s f) else left s f))
unfolding left
own_is s r f n known =
    let F : Flow → Flow = λ g. record g { is_leaving = g.is_leaving || s.is_fin } in
    let same : leaving s f ≡ left s f = ap F (opened_same s f n known) in
    let begun : expecting s f ≡ left s f = ap (begun_at (Some (number_of s))) same ∙ begun_same (Some (number_of s)) (left s f) n known in
    rw (begun, same, known) refl

part_fits : (n : ℕ) (s : Segment) (r : Recorded) → Fits (part_of n s r)
part_fits n s r h = omega arith

own_tiled : (s : Segment) (r : Recorded) (f : Flow) (segments : List Piece) (first : ℕ) (ts : List Tile) → IsTiled f segments first ts
    → IsTiled (fed_own s r f) (segments ++ (if not (is_empty s) && is_place (place_of f) then part_of (place_of f) s r ∷ [] else [])) first ts
unfolding left
own_tiled s r f segments first ts x =
    let P : Flow → Type 0 = λ g. IsTiled g (segments ++ (if not (is_empty s) && is_place (place_of f) then part_of (place_of f) s r ∷ [] else [])) first ts in
    let Q : List Piece → Type 0 = λ l. IsTiled (left s f) l first ts in
    let here : IsTiled (left s f) segments first ts = record { next = x.next; known = x.known; given = x.given; ordered = x.ordered; copies = x.copies } in
    let same : place_of f ≡ x.next = next_is f x.next x.known in
    subst P (sym (own_is s r f x.next x.known)) (elim (cases_Bool (is_empty s)) [
      | inl none ↦ rw none (subst Q (sym (append-nil segments)) here)
      | inr some ↦ rw (some, same) (elim (cases_Bool (is_place x.next)) [
        | inl place ↦ rw place (read_tiled (left s f) segments first ts (part_of x.next s r) here (fits_after x.next (part_of x.next s r) (part_fits x.next s r)))
        | inr past ↦ rw past (subst Q (sym (append-nil segments)) here)
      ])
    ])

fed_tiled : (e d : End) (s : Segment) (r : Recorded) (c : Connection) (segments : List Piece) (first : ℕ) (ts : List Tile) → IsTiled (own e c) segments first ts
    → IsTiled (own e (fed_after d s r c)) (segments ++ said_by d e s r (own e c)) first ts
fed_tiled Opener Opener s r c segments first ts x = own_tiled s r c.opener segments first ts x
fed_tiled Answerer Answerer s r c segments first ts x = own_tiled s r c.answerer segments first ts x
fed_tiled Opener Answerer s r c segments first ts x = other_tiled Answerer s c.answerer c.opener segments first ts x
fed_tiled Answerer Opener s r c segments first ts x = other_tiled Opener s c.opener c.answerer segments first ts x

event_logged : (e : End) (first : ℕ) (l : Log) (n : Option connections.Next) → Goes e l.connection l.segments first l.tiles n → IsLogged e first l → IsLogged e first (logged_event e n l)
event_logged e first l None g x = x
event_logged e first l (Some n) g x = g

-- a segment is lent
lent_logged : (e d : End) (s : Segment) (r : Recorded) (first : ℕ) (l : Log) → is_next d s l.connection ≡ true → IsLogged e first l → IsLogged e first (logged_lent e d s r l)
lent_logged e d s r first l h x = by e d h x where
  own_lent : (f g : Flow) (segments : List Piece) (ts : List Tile) (x : IsTiled f segments first ts) → follows s f g ≡ true
      → IsTiled (lent_own s f g) (segments ++ (if not (is_empty s) && is_place (place_of f) then part_of (place_of f) s r ∷ [] else [])) first (ts ++ Given (part_of (place_of f) s r) ∷ [])
  own_lent f g segments ts x h =
      let same : place_of f ≡ x.next = next_is f x.next x.known in
      rw (same, lent_said s f x.next (lent_is s f g x.next x.known h)) (lent_tiled s r f g segments first ts x h)

  other_lent : (f g : Flow) (segments : List Piece) (ts : List Tile) → IsTiled g segments first ts → follows s f g ≡ true → IsTiled (lent_other s f g) (segments ++ []) first (ts ++ [])
  other_lent f g segments ts x h =
      let P : List Tile → Type 0 = λ t. IsTiled (lent_other s f g) (segments ++ []) first t in
      let Q : List Piece → Type 0 = λ k. IsTiled (lent_other s f g) k first ts in
      subst P (sym (append-nil ts)) (subst Q (sym (append-nil segments)) (rw h (acknowledged_tiled s.acknowledged g segments first ts x)))

  by : (e d : End) → is_next d s l.connection ≡ true → IsLogged e first l → IsLogged e first (logged_lent e d s r l)
  by Opener Opener h x = own_lent l.connection.opener l.connection.answerer l.segments l.tiles x h
  by Answerer Answerer h x = own_lent l.connection.answerer l.connection.opener l.segments l.tiles x h
  by Opener Answerer h x = other_lent l.connection.answerer l.connection.opener l.segments l.tiles x h
  by Answerer Opener h x = other_lent l.connection.opener l.connection.answerer l.segments l.tiles x h

one_logged : (e : End) (call : Call) (first : ℕ) (l : Log) → IsLogged e first l → IsLogged e first (logged e call l)
one_logged e (Feed d s r) first l x = fed_tiled e d s r l.connection l.segments first l.tiles x
one_logged e (TakeNext full) first l x = event_logged e first l (next_event full l.connection) (next_tiled e full l.connection l.segments first l.tiles x) x
one_logged e Finish first l x = event_logged e first l (last_event l.connection) (last_tiled e l.connection l.segments first l.tiles x) x
one_logged e (Lend d s r) first l x = by (is_next d s l.connection) refl where
  by : (b : Bool) → is_next d s l.connection ≡ b → IsLogged e first (if b then logged_lent e d s r l else l)
  by true next = lent_logged e d s r first l next x
  by false later = x

pub all_logged : (e : End) (calls : List Call) (first : ℕ) (l : Log) → IsLogged e first l → IsLogged e first (run e calls l)
all_logged e [] first l x = x
all_logged e (call ∷ calls) first l x = all_logged e calls first (logged e call l) (one_logged e call first l x)
