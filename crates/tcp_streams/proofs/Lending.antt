-- A segment that is lent tiles the next places of its direction.
use Rattle.std.proofs.Common.{◌≡◌, ◌∙◌, refl, sym, ap, subst, ℕ, ◌+◌, ◌==◌, ◌%◌, ◌&&◌, ◌||◌, ◌<◌, ◌≤◌, nat_lt, not, true, false, List, [], ◌∷◌, ◌++◌, length, Option, Some, None, is_some, arith}
use Rattle.std.specs.Option.{option_map}
use Rattle.std.proofs.lemmas.Bool.{and_parts, eqb-true, leb-true, ltb-true, not-true, or_parts}
use Rattle.ip_segments.specs.Segments.{Segment}
use Rattle.tcp_streams.specs.Flows.{is_empty, is_place, number_of, part_of}
use Rattle.tcp_streams.specs.Numbers.{fin_numbers, number_at, place_near}
use Rattle.tcp_streams.specs.Pieces.{copy_at, mark_at, or_later}
use Rattle.tcp_streams.specs.Connections.{follows, is_next_number, is_plain, lent_own}
use Rattle.tcp_streams.specs.Tiles.{AreOrdered, Given, IsTiled, Tile}
use Rattle.tcp_streams.specs.declared.flow.Flow.{Flow}
use Rattle.tcp_streams.specs.declared.piece.Piece.{Piece}
use Rattle.tcp_streams.specs.declared.piece.Recorded.{Recorded}
use Rattle.tcp_streams.proofs.Copies.{copy_push, none_above, or_none}
use Rattle.tcp_streams.proofs.Tiled.{tiles_more, tiles_push}

-- what a segment is that is lent, where the next place is known
pub record IsLent (s : Segment) (f : Flow) (n : ℕ) : Type 0 where
  pub nothing : f.waiting ≡ []
  pub syn : s.is_syn ≡ false
  pub fin : s.is_fin ≡ false
  pub some : 0 < length s.payload.octets
  pub whole : s.payload.length ≤ length s.payload.octets
  pub place : is_place n ≡ true
  pub number : number_at n ≡ s.sequence

nil_from : (ps : List Piece) → (length ps == 0) ≡ true → ps ≡ []
nil_from [] h = refl
nil_from (p ∷ ps) h = absurd (let bad : length (p ∷ ps) ≡ 0 = eqb-true (length (p ∷ ps)) 0 h in omega (arith, bad))

pub lent_is : (s : Segment) (f g : Flow) (n : ℕ) → f.next ≡ Some n → follows s f g ≡ true → IsLent s f n
lent_is s f g n known h =
    let a = and_parts (length f.waiting == 0) _ h in
    let b = and_parts (length g.waiting == 0) _ a.1 in
    let c = and_parts (is_some g.next) _ b.1 in
    let d = and_parts (is_plain s) _ c.1 in
    let e = and_parts (is_next_number f.next s.sequence) _ d.1 in
    let plain = and_parts (not (s.is_syn || s.is_fin || s.is_reset)) _ d.0 in
    let flags = or_parts (s.is_syn || s.is_fin) s.is_reset (not-true _ plain.0) in
    let open_close = or_parts s.is_syn s.is_fin flags.0 in
    let sizes = and_parts (nat_lt 0 (length s.payload.octets)) _ plain.1 in
    let P : Option ℕ → Type 0 = λ o. is_next_number o s.sequence ≡ true in
    let here = and_parts (is_place n) _ (subst P known e.0) in
    record {
      nothing = nil_from f.waiting a.0;
      syn = open_close.0;
      fin = open_close.1;
      some = ltb-true 0 (length s.payload.octets) sizes.0;
      whole = leb-true s.payload.length (length s.payload.octets) sizes.1;
      place = here.0;
      number = eqb-true (number_at n) s.sequence here.1;
    }

-- the place with the number of the next place is that place
near_itself : (n : ℕ) → place_near n (n % 0x100000000) ≡ n
near_itself n = omega arith

pub lent_tiled : (s : Segment) (r : Recorded) (f g : Flow) (segments : List Piece) (first : ℕ) (ts : List Tile) (x : IsTiled f segments first ts) → follows s f g ≡ true
    → IsTiled (lent_own s f g) (segments ++ part_of x.next s r ∷ []) first (ts ++ Given (part_of x.next s r) ∷ [])
lent_tiled s r f g segments first ts x h =
    let p = part_of x.next s r in
    let is = lent_is s f g x.next x.known h in
    let number : number_of s ≡ number_at x.next = (let e : number_of s ≡ s.sequence = rw is.syn refl in e ∙ sym is.number) in
    let at : p.at ≡ x.next = ap (place_near x.next) number ∙ near_itself x.next in
    let fin : fin_numbers s.is_fin ≡ 0 = rw is.fin refl in
    let whole = is.whole in
    let until : p.until ≡ x.next + length s.payload.octets = omega (arith, at, fin, whole) in
    let none : (q : ℕ) → copy_at q f.waiting ≡ None = λ q. ap (copy_at q) is.nothing in
    rw h (record {
      next = x.next + length s.payload.octets;
      known = ap (option_map (λ n. n + length s.payload.octets)) x.known;
      given = tiles_push (segments ++ p ∷ []) first x.next (x.next + length s.payload.octets) ts (Given p) (tiles_more segments (p ∷ []) first x.next ts x.given)
          (at, until, omega arith, λ q from below. sym (copy_push q segments p ∙ ap (λ m. or_later m (mark_at q p)) (sym (x.copies q from) ∙ none q)));
      ordered = (let O : List Piece → Type 0 = λ l. AreOrdered (x.next + length s.payload.octets) l in subst O (sym is.nothing) tt);
      copies = λ q from. x.copies q (omega (arith, from)) ∙ sym (copy_push q segments p ∙ ap (or_later (copy_at q segments)) (none_above q p (omega (arith, from, until))) ∙ or_none (copy_at q segments));
    })

-- such a segment is read
pub lent_said : (s : Segment) (f : Flow) (n : ℕ) → IsLent s f n → (not (is_empty s) && is_place n) ≡ true
lent_said s f n is = let some = is.some in
    let e : (length s.payload.octets == 0) ≡ false = grind (arith, some) in
    let place = is.place in rw (e, place, is.fin) refl
