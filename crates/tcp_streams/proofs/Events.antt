-- What comes next in a connection is the next tile of its direction.
use Rattle.std.proofs.Common.{◌≡◌, ◌∙◌, inl, inr, refl, sym, ap, subst, ℕ, ◌+◌, ◌-◌, ◌==◌, ◌<◌, ◌≤◌, nat_lt, nat_le, Bool, true, List, [], ◌∷◌, ◌++◌, Option, Some, None, IfSome, unwrap_or, arith}
use Rattle.std.proofs.lemmas.Bool.{and_parts, cases_Bool, eqb-true, leb-true, ltb-false, ltb-true}
use Rattle.std.proofs.lemmas.List.{append-nil}
use Rattle.std.proofs.lemmas.Option.{cond_some}
use Rattle.tcp_streams.specs.Numbers.{awaited}
use Rattle.tcp_streams.specs.Flows.{given_out}
use Rattle.tcp_streams.specs.Connections.{Next, given, given_by, has_next, is_first_at, is_overdue, lacking, last_by, last_event, lost, lost_at_last, lost_if, lower, may_go, missing, missing_at, missing_by, missing_for, next_by, next_event, other, other_end, own, passed_to, place_of, ready_frame, ready_of, turn, up_to, first_frame, with_flows}
use Rattle.tcp_streams.specs.Runs.{IsFirst}
use Rattle.tcp_streams.specs.Tiles.{AreOrdered, Given, IsTiled, Missing, Tile, tile_of, tiles_if}
use Rattle.tcp_streams.specs.declared.connection.Connection.{Connection}
use Rattle.tcp_streams.specs.declared.connection.End.{End}
use Rattle.tcp_streams.specs.declared.connection.End.TheVariants.{Opener, Answerer}
use Rattle.tcp_streams.specs.declared.connection.Missing as found
use Rattle.tcp_streams.specs.declared.flow.Flow.{Flow}
use Rattle.tcp_streams.specs.declared.piece.Piece.{Piece}
use Rattle.tcp_streams.proofs.Tiled.{given_tiled, passed_tiled}

-- what comes next, if anything does, is the next tile of its direction
abbrev pub Goes : End → Connection → (segments : List Piece) (first : ℕ) (ts : List Tile) → Option Next → Type 0
Goes e c segments first ts n = IfSome n (λ x. IsTiled (own e x.after) segments first (ts ++ tile_of e x.event))

-- a direction changes, or the other one
changed : (e d : End) (c : Connection) (f : Flow) (t : Tile) (segments : List Piece) (first : ℕ) (ts : List Tile) → IsTiled (own e c) segments first ts
    → (e ≡ d → IsTiled f segments first (ts ++ t ∷ [])) → IsTiled (own e (with_flows d f (other d c))) segments first (ts ++ tiles_if e d t)
changed Opener Opener c f t segments first ts x new = new refl
changed Answerer Answerer c f t segments first ts x new = new refl
changed Opener Answerer c f t segments first ts x new = let P : List Tile → Type 0 = λ l. IsTiled c.opener segments first l in subst P (sym (append-nil ts)) x
changed Answerer Opener c f t segments first ts x new = let P : List Tile → Type 0 = λ l. IsTiled c.answerer segments first l in subst P (sym (append-nil ts)) x

-- the first piece of a direction is at its next place
abbrev AtNext : Flow → Type 0
AtNext f = (p : Piece) (ps : List Piece) (n : ℕ) → f.waiting ≡ p ∷ ps → f.next ≡ Some n → p.at ≤ n

given_event : (e d : End) (c : Connection) (segments : List Piece) (first : ℕ) (ts : List Tile) → IsTiled (own e c) segments first ts
    → AtNext (own d c) → Goes e c segments first ts (given d c)
given_event e d c segments first ts x ready = at (own d c).waiting refl where
  at : (ws : List Piece) → (own d c).waiting ≡ ws → Goes e c segments first ts (given_by d ws c)
  at [] waits = tt
  at (p ∷ ps) waits = changed e d c (given_out p ps (own d c)) (Given p) segments first ts x
      (λ same. let P : End → Type 0 = λ k. IsTiled (own k c) segments first ts in
      let y = subst P same x in given_tiled (own d c) segments first ts p ps y waits (ready p ps y.next waits y.known))

-- whose turn it is has a piece at its next place
ready_at : (f g : Flow) (k : ℕ) → ready_frame f g ≡ Some k → AtNext f
ready_at f g k is p ps n waits known =
    let R : Option ℕ → Type 0 = λ o. ready_of o g.next f.waiting ≡ Some k in
    let S : List Piece → Type 0 = λ l. ready_of (Some n) g.next l ≡ Some k in
    let here = subst S waits (subst R known is) in
    leb-true p.at n (and_parts (nat_le p.at n) (awaited g.next p.acknowledged == 0) (cond_some (may_go (Some n) g.next p) p.recorded.frame k here).0).0

lower_at : (a b : Option ℕ) (d : End) → lower a b ≡ Some d → (k : ℕ) × ((elim d [ Opener ↦ a | Answerer ↦ b ]) ≡ Some k)
lower_at None None Opener h = absurd (cc)
lower_at None None Answerer h = absurd (cc)
lower_at (Some f) None Opener h = (f, refl)
lower_at (Some f) None Answerer h = absurd (let bad : Opener ≡ Answerer = grind (arith, h) in cc)
lower_at None (Some g) Opener h = absurd (let bad : Answerer ≡ Opener = grind (arith, h) in cc)
lower_at None (Some g) Answerer h = (g, refl)
lower_at (Some f) (Some g) Opener h = (f, refl)
lower_at (Some f) (Some g) Answerer h = (g, refl)

turn_at : (c : Connection) (d : End) → turn c ≡ Some d → AtNext (own d c)
turn_at c Opener h = let r = lower_at (ready_frame c.opener c.answerer) (ready_frame c.answerer c.opener) Opener h in ready_at c.opener c.answerer r.0 r.1
turn_at c Answerer h = let r = lower_at (ready_frame c.opener c.answerer) (ready_frame c.answerer c.opener) Answerer h in ready_at c.answerer c.opener r.0 r.1

-- the place that is next, and the order of what waits from it on
pub next_is : (f : Flow) (n : ℕ) → f.next ≡ Some n → place_of f ≡ n
next_is f n known = ap (λ o. unwrap_or o 0) known

ordered_from : (n k : ℕ) (g : Flow) (ps : List Piece) → place_of g ≡ n → AreOrdered n ps → AreOrdered (n + up_to k g ps) ps
ordered_from n k g [] place o = tt
ordered_from n k g (p ∷ ps) place o = let begins = o.0.begins in
    (record { begins = omega (arith, place, begins); some = o.0.some; octets = o.0.octets }, o.1)

-- the gap before a piece of its own direction, and that before its answer
abbrev pub own_gap : End → Piece → Flow → found.Missing
own_gap d p f = record { gap = record { end = d; octets = p.at - place_of f; recorded = p.recorded }; until = p.at }

abbrev pub other_gap : End → Piece → Flow → found.Missing
other_gap d p g = record { gap = record { end = other_end d; octets = lacking p g; recorded = p.recorded }; until = place_of g + lacking p g }

-- a piece that has the next octets is at its next place
next_at : (d : End) (c : Connection) → has_next d c ≡ true → AtNext (own d c)
next_at d c h p ps n waits known =
    let P : List Piece → Type 0 = λ l. is_first_at (place_of (own d c)) l ≡ true in
    let here : nat_le p.at (place_of (own d c)) ≡ true = subst P waits h in
    let place = next_is (own d c) n known in
    let below = leb-true p.at (place_of (own d c)) here in omega (arith, below, place)

-- a gap is given up that fits, or the piece that has its octets goes
gap_event : (e : End) (m : found.Missing) (c : Connection) (segments : List Piece) (first : ℕ) (ts : List Tile) → IsTiled (own e c) segments first ts
    → ((x : IsTiled (own m.gap.end c) segments first ts) → (x.next + m.gap.octets ≡ m.until) × AreOrdered m.until (own m.gap.end c).waiting)
    → Goes e c segments first ts (lost m c)
gap_event e m c segments first ts x fits = elim (cases_Bool (has_next m.gap.end c)) [
  | inl there ↦ rw there (given_event e m.gap.end c segments first ts x (next_at m.gap.end c there))
  | inr none ↦ rw none (changed e m.gap.end c (passed_to m.until (own m.gap.end c)) (Missing m.gap.octets) segments first ts x
      (λ same. let P : End → Type 0 = λ k. IsTiled (own k c) segments first ts in
      let y = subst P same x in let z = fits y in passed_tiled (own m.gap.end c) segments first ts m.gap.octets m.until y z.0 z.1))
]

-- what is missing is given up
own_lost : (e d : End) (c : Connection) (segments : List Piece) (first : ℕ) (ts : List Tile) (p : Piece) (ps : List Piece)
    → IsTiled (own e c) segments first ts → (own d c).waiting ≡ p ∷ ps → 0 < p.at - place_of (own d c) → Goes e c segments first ts (lost (own_gap d p (own d c)) c)
own_lost e d c segments first ts p ps x waits more = gap_event e (own_gap d p (own d c)) c segments first ts x
    (λ y. let place = next_is (own d c) y.next y.known in
    let O : List Piece → Type 0 = λ l. AreOrdered y.next l in let o = subst O waits y.ordered in
    let Q : List Piece → Type 0 = λ l. AreOrdered p.at l in
    (omega (arith, more, place), subst Q (sym waits) (record { begins = omega arith; some = o.0.some; octets = o.0.octets }, o.1)))

other_lost : (e d : End) (c : Connection) (segments : List Piece) (first : ℕ) (ts : List Tile) (p : Piece)
    → IsTiled (own e c) segments first ts → Goes e c segments first ts (lost (other_gap d p (other d c)) c)
other_lost e d c segments first ts p x = gap_event e (other_gap d p (other d c)) c segments first ts x
    (λ y. let place = next_is (other d c) y.next y.known in
    let Q : ℕ → Type 0 = λ n. AreOrdered (n + lacking p (other d c)) (other d c).waiting in (
      ap (λ n. n + lacking p (other d c)) (sym place),
      subst Q (sym place) (ordered_from y.next (awaited (other d c).next p.acknowledged) (other d c) (other d c).waiting place y.ordered),
    ))

missing_lost : (e d : End) (c : Connection) (segments : List Piece) (first : ℕ) (ts : List Tile) (p : Piece) (ps : List Piece)
    → IsTiled (own e c) segments first ts → (own d c).waiting ≡ p ∷ ps → Goes e c segments first ts (lost (missing_for d p (own d c) (other d c)) c)
missing_lost e d c segments first ts p ps x waits = elim (cases_Bool (nat_lt 0 (p.at - place_of (own d c)))) [
  | inl more ↦ rw more (own_lost e d c segments first ts p ps x waits (ltb-true 0 (p.at - place_of (own d c)) more))
  | inr none ↦ rw none (other_lost e d c segments first ts p x)
]

-- what is missing at an end, at last and where it is overdue
last_missing : (e : End) (t : Option End) (c : Connection) (segments : List Piece) (first : ℕ) (ts : List Tile) → IsTiled (own e c) segments first ts
    → Goes e c segments first ts (lost_at_last (missing_at t c) c)
last_missing e None c segments first ts x = tt
last_missing e (Some d) c segments first ts x = at (own d c).waiting refl where
  at : (ws : List Piece) → (own d c).waiting ≡ ws → Goes e c segments first ts (lost_at_last (missing_by d ws (own d c) (other d c)) c)
  at [] waits = tt
  at (p ∷ ps) waits = missing_lost e d c segments first ts p ps x waits

if_overdue : (e : End) (full : Bool) (m : Option found.Missing) (c : Connection) (segments : List Piece) (first : ℕ) (ts : List Tile)
    → Goes e c segments first ts (lost_at_last m c) → Goes e c segments first ts (lost_if full m c)
if_overdue e full None c segments first ts g = g
if_overdue e full (Some m) c segments first ts g = elim (cases_Bool (is_overdue m.gap.end full c)) [
  | inl late ↦ rw late g
  | inr soon ↦ rw soon tt
]

-- what comes next, and what comes at last
pub next_tiled : (e : End) (full : Bool) (c : Connection) (segments : List Piece) (first : ℕ) (ts : List Tile) → IsTiled (own e c) segments first ts
    → Goes e c segments first ts (next_event full c)
next_tiled e full c segments first ts x = at (turn c) refl where
  at : (t : Option End) → turn c ≡ t → Goes e c segments first ts (next_by full t c)
  at (Some d) h = given_event e d c segments first ts x (turn_at c d h)
  at None h = if_overdue e full (missing c) c segments first ts (last_missing e (lower (first_frame c.opener) (first_frame c.answerer)) c segments first ts x)

pub last_tiled : (e : End) (c : Connection) (segments : List Piece) (first : ℕ) (ts : List Tile) → IsTiled (own e c) segments first ts
    → Goes e c segments first ts (last_event c)
last_tiled e c segments first ts x = at (turn c) refl where
  at : (t : Option End) → turn c ≡ t → Goes e c segments first ts (last_by t c)
  at (Some d) h = given_event e d c segments first ts x (turn_at c d h)
  at None h = last_missing e (lower (first_frame c.opener) (first_frame c.answerer)) c segments first ts x

-- the piece whose turn it is answers nothing that is missing, and has the lowest frame
awaits_none : (f g : Option ℕ) (p : Piece) → may_go f g p ≡ true → awaited g p.acknowledged ≡ 0
awaits_none f g p h = eqb-true (awaited g p.acknowledged) 0 (and_parts (nat_le p.at (unwrap_or f 0)) (awaited g p.acknowledged == 0) h).1

lower_opener : (f g : ℕ) → lower (Some f) (Some g) ≡ Some Opener → f ≤ g
lower_opener f g h = elim (cases_Bool (nat_lt g f)) [
  | inl less ↦ absurd (let bad : Answerer ≡ Opener = grind (arith, h, less) in cc)
  | inr more ↦ ltb-false g f more
]

lower_answerer : (f g : ℕ) → lower (Some f) (Some g) ≡ Some Answerer → g ≤ f
lower_answerer f g h = elim (cases_Bool (nat_lt g f)) [
  | inl less ↦ (let e = ltb-true g f less in omega (arith, e))
  | inr more ↦ absurd (let bad : Opener ≡ Answerer = grind (arith, h, more) in cc)
]

ready_go : (f g : Flow) (p : Piece) (ps : List Piece) (k : ℕ) → f.waiting ≡ p ∷ ps → ready_frame f g ≡ Some k → (may_go f.next g.next p ≡ true) × (p.recorded.frame ≡ k)
ready_go f g p ps k waits h = let P : List Piece → Type 0 = λ l. ready_of f.next g.next l ≡ Some k in
    cond_some (may_go f.next g.next p) p.recorded.frame k (subst P waits h)

pub ready_frame_is : (f g : Flow) (q : Piece) (qs : List Piece) → f.waiting ≡ q ∷ qs → may_go f.next g.next q ≡ true → ready_frame f g ≡ Some q.recorded.frame
ready_frame_is f g q qs waits go = ap (ready_of f.next g.next) waits ∙ rw go refl

pub first_goes : (c : Connection) (d : End) (p : Piece) (ps : List Piece) → turn c ≡ Some d → (own d c).waiting ≡ p ∷ ps → IsFirst c d p
first_goes c Opener p ps h waits =
    let r = lower_at (ready_frame c.opener c.answerer) (ready_frame c.answerer c.opener) Opener h in
    let go = ready_go c.opener c.answerer p ps r.0 waits r.1 in
    record {
      answers = awaits_none c.opener.next c.answerer.next p go.0;
      lowest = λ q qs held may. (let e = ap (λ a. lower a (ready_frame c.answerer c.opener)) (sym r.1) ∙ h in
          let f = ap (lower (Some r.0)) (sym (ready_frame_is c.answerer c.opener q qs held may)) ∙ e in
          let g = lower_opener r.0 q.recorded.frame f in let k = go.1 in omega (arith, g, k));
    }
first_goes c Answerer p ps h waits =
    let r = lower_at (ready_frame c.opener c.answerer) (ready_frame c.answerer c.opener) Answerer h in
    let go = ready_go c.answerer c.opener p ps r.0 waits r.1 in
    record {
      answers = awaits_none c.answerer.next c.opener.next p go.0;
      lowest = λ q qs held may. (let e = ap (lower (ready_frame c.opener c.answerer)) (sym r.1) ∙ h in
          let f = ap (λ a. lower a (Some r.0)) (sym (ready_frame_is c.opener c.answerer q qs held may)) ∙ e in
          let g = lower_answerer q.recorded.frame r.0 f in let k = go.1 in omega (arith, g, k));
    }
