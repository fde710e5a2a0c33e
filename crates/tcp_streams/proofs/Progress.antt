-- What comes next in a connection comes to an end.
use Rattle.std.proofs.Common.{◌≡◌, ◌∙◌, inl, inr, refl, sym, ap, subst, ℕ, ◌+◌, ◌*◌, ◌-◌, ◌==◌, ◌<◌, ◌≤◌, ◌&&◌, cond, min, nat_lt, nat_le, Bool, true, false, List, [], ◌∷◌, length, Option, Some, None, IfSome, unwrap_or, if◌then◌else◌, arith}
use Rattle.std.proofs.lemmas.Bool.{cases_Bool, cases_lt}
use Rattle.std.proofs.lemmas.Option.{none-some}
use Rattle.std.specs.BTreeMap.{is_at}
use Rattle.std.specs.Map.{lookup, set_value}
use Rattle.std.specs.Option.{option_map}
use Rattle.tcp_streams.specs.Numbers.{ahead, awaited, awaited_from, number_at}
use Rattle.tcp_streams.specs.Flows.{given_out}
use Rattle.tcp_streams.specs.Connections.{IsEvent, Next, first_frame, given, given_by, has_next, is_at_next, is_first_at, is_overdue, lacking, last_by, last_event, lost, lost_at_last, lost_if, lower, may_go, missing, missing_at, missing_by, missing_for, next_by, next_event, other, own, passed_to, place_of, ready_frame, turn, up_to, with_flows}
use Rattle.tcp_streams.specs.Progress.{GiveOut, event_of, how_many_wait, steps, steps_at, steps_before, steps_in, steps_of}
use Rattle.tcp_streams.specs.Runs.{Call, Feed, Finish, Lend, TakeNext}
use Rattle.tcp_streams.specs.Tables.{Table, after_or, charged, event_at, is_full, last_at, last_in, next_at, next_in, opened_by}
use Rattle.tcp_streams.specs.contracts.ends.EndsOrd.TheImpl.{ghosts}
use Rattle.tcp_streams.specs.declared.connection.Connection.{Connection}
use Rattle.tcp_streams.specs.declared.connection.End.{End}
use Rattle.tcp_streams.specs.declared.connection.End.TheVariants.{Opener, Answerer}
use Rattle.tcp_streams.specs.declared.connection.Event.{Event}
use Rattle.tcp_streams.specs.declared.connection.Missing as found
use Rattle.tcp_streams.specs.declared.connections.Place.{Place}
use Rattle.tcp_streams.specs.declared.connections.Tracked.{Tracked}
use Rattle.tcp_streams.specs.declared.flow.Flow.{Flow}
use Rattle.tcp_streams.specs.declared.piece.Piece.{Piece}
use Rattle.tcp_streams.proofs.Events.{next_is, other_gap, own_gap, ready_frame_is}

-- what comes next, if anything does, leaves fewer steps
abbrev pub Leaves : Connection → Option Next → Type 0
Leaves c n = IfSome n (λ x. steps x.after < steps c)

-- the two parts of the steps before a piece
abbrev two_if : Bool → ℕ
two_if b = if b then 2 else 0

abbrev one_unless : Bool → ℕ
one_unless b = if b then 0 else 1

late_le : (b : Bool) → two_if b ≤ 2
late_le true = omega arith
late_le false = omega arith

waits_le : (b : Bool) → one_unless b ≤ 1
waits_le true = omega arith
waits_le false = omega arith

steps_le : (f g : Option ℕ) (ps : List Piece) → steps_of f g ps ≤ 5 * length ps + 3
steps_le f g [] = omega arith
steps_le f g (p ∷ ps) =
    let late = late_le (nat_lt 0 (p.at - unwrap_or f 0)) in
    let waits = waits_le (awaited g p.acknowledged == 0) in
    omega (arith, late, waits)

-- where the other direction goes on, there is one step more at most
other_le : (f g h : Option ℕ) (ps : List Piece) → steps_of f g ps ≤ steps_of f h ps + 1
other_le f g h [] = omega arith
other_le f g h (p ∷ ps) = let e = waits_le (awaited g p.acknowledged == 0) in omega (arith, e)

-- the steps of two directions
abbrev both : (f g : Flow) → ℕ
both f g = steps_of f.next g.next f.waiting + steps_of g.next f.next g.waiting

with_fewer : (d : End) (f g : Flow) (c : Connection) → both f g < both (own d c) (other d c) → steps (with_flows d f g) < steps c
with_fewer Opener f g c h = h
with_fewer Answerer f g c h = omega (arith, h)

-- a piece goes
given_fewer : (f g : Flow) (p : Piece) (ps : List Piece) → f.waiting ≡ p ∷ ps → both (given_out p ps f) g < both f g
given_fewer f g p ps waits =
    let new = (given_out p ps f).next in
    let rest = steps_le new g.next ps in
    let others = other_le g.next new f.next g.waiting in
    let was : steps_of f.next g.next f.waiting ≡ steps_before f.next g.next p + 5 * length ps + 5 = ap (steps_of f.next g.next) waits in
    omega (arith, rest, others, was)

given_leaves : (d : End) (c : Connection) → Leaves c (given d c)
given_leaves d c = at (own d c).waiting refl where
  at : (ws : List Piece) → (own d c).waiting ≡ ws → Leaves c (given_by d ws c)
  at [] waits = tt
  at (p ∷ ps) waits = with_fewer d (given_out p ps (own d c)) (other d c) c (given_fewer (own d c) (other d c) p ps waits)

-- the octets before a piece are given up
own_fewer : (f g : Flow) (p : Piece) (ps : List Piece) → f.waiting ≡ p ∷ ps → nat_lt 0 (p.at - place_of f) ≡ true → both (passed_to p.at f) g < both f g
own_fewer f g p ps waits late =
    let none : nat_lt 0 (p.at - p.at) ≡ false = grind arith in
    let others = other_le g.next (Some p.at) f.next g.waiting in
    let was : steps_of f.next g.next f.waiting ≡ steps_before f.next g.next p + 5 * length ps + 5 = ap (steps_of f.next g.next) waits in
    let is : steps_of (Some p.at) g.next f.waiting ≡ steps_before (Some p.at) g.next p + 5 * length ps + 5 = ap (steps_of (Some p.at) g.next) waits in
    let before : two_if (nat_lt 0 (p.at - place_of f)) ≡ 2 = rw late refl in
    let after : two_if (nat_lt 0 (p.at - p.at)) ≡ 0 = rw none refl in
    omega (arith, others, was, is, before, after)

-- a piece that awaits octets awaits none after them
ahead_none : (k m : ℕ) → ahead (number_at (k + ahead (number_at k) m)) m ≡ 0
ahead_none k m = omega arith

if_zero : (b : Bool) (n : ℕ) → n ≡ 0 → (if b then n else 0) ≡ 0
if_zero true n e = e
if_zero false n e = refl

awaited_after : (b : Bool) (k m : ℕ) → (nat_lt k 0x4000000000000000 && nat_le (ahead (number_at k) m) 0x1000000) ≡ b
    → awaited_from (k + (if b then ahead (number_at k) m else 0)) m ≡ 0
awaited_after true k m is =
    if_zero (nat_lt (k + ahead (number_at k) m) 0x4000000000000000 && nat_le (ahead (number_at (k + ahead (number_at k) m)) m) 0x1000000)
    (ahead (number_at (k + ahead (number_at k) m)) m) (ahead_none k m)
awaited_after false k m is =
    let P : ℕ → Type 0 = λ n. awaited_from n m ≡ 0 in
    let same : k ≡ k + 0 = omega arith in
    subst P same (rw is refl)

awaited_done : (k : ℕ) (a : Option ℕ) → awaited (Some (k + awaited (Some k) a)) a ≡ 0
awaited_done k None = refl
awaited_done k (Some m) = awaited_after (nat_lt k 0x4000000000000000 && nat_le (ahead (number_at k) m) 0x1000000) k m refl

-- octets that a piece awaits are given up, up to the first piece of their direction
abbrev IsFewer : (f g : Option ℕ) (n : ℕ) (ps ws : List Piece) → Type 0
IsFewer f g n ps ws = steps_of (Some n) f ws + steps_of f (Some n) ps < steps_of g f ws + steps_of f g ps

answer_fewer : (f : Option ℕ) (g : Flow) (k : ℕ) (p : Piece) (ps ws : List Piece) → place_of g ≡ k → (awaited (Some k) p.acknowledged == 0) ≡ false → is_first_at k ws ≡ false
    → IsFewer f (Some k) (k + up_to (awaited (Some k) p.acknowledged) g ws) (p ∷ ps) ws
answer_fewer f g k p ps [] place waits first =
    let done : (awaited (Some (k + awaited (Some k) p.acknowledged)) p.acknowledged == 0) ≡ true = rw (awaited_done k p.acknowledged) refl in
    let was : one_unless (awaited (Some k) p.acknowledged == 0) ≡ 1 = rw waits refl in
    let is : one_unless (awaited (Some (k + awaited (Some k) p.acknowledged)) p.acknowledged == 0) ≡ 0 = rw done refl in
    omega (arith, was, is)
answer_fewer f g k p ps (q ∷ qs) place waits first =
    let P : ℕ → Type 0 = λ n. IsFewer f (Some k) n (p ∷ ps) (q ∷ qs) in
    let beyond : k < q.at = grind (arith, first) in
    let was : one_unless (awaited (Some k) p.acknowledged == 0) ≡ 1 = rw waits refl in
    let far : nat_lt 0 (q.at - k) ≡ true = grind (arith, beyond) in
    let late : two_if (nat_lt 0 (q.at - k)) ≡ 2 = rw far refl in
    elim (cases_lt (q.at - k) (awaited (Some k) p.acknowledged)) [
      | inl less ↦ (let to : k + min (awaited (Some k) p.acknowledged) (q.at - place_of g) ≡ q.at = omega (arith, less, place, beyond) in
          let none : nat_lt 0 (q.at - q.at) ≡ false = grind arith in
          let is : two_if (nat_lt 0 (q.at - q.at)) ≡ 0 = rw none refl in
          let one = waits_le (awaited (Some q.at) p.acknowledged == 0) in
          subst P (sym to) (omega (arith, was, late, is, one)))
      | inr more ↦ (let to : k + min (awaited (Some k) p.acknowledged) (q.at - place_of g) ≡ k + awaited (Some k) p.acknowledged = omega (arith, more, place) in
          let done : (awaited (Some (k + awaited (Some k) p.acknowledged)) p.acknowledged == 0) ≡ true = rw (awaited_done k p.acknowledged) refl in
          let is : one_unless (awaited (Some (k + awaited (Some k) p.acknowledged)) p.acknowledged == 0) ≡ 0 = rw done refl in
          let two = late_le (nat_lt 0 (q.at - (k + awaited (Some k) p.acknowledged))) in
          subst P (sym to) (omega (arith, was, late, is, two)))
    ]

and_false : (b c : Bool) → b ≡ true → (b && c) ≡ false → c ≡ false
and_false true c is h = h
and_false false c is h = absurd (cc)

other_fewer : (f g : Flow) (p : Piece) (ps : List Piece) → f.waiting ≡ p ∷ ps → may_go f.next g.next p ≡ false → nat_lt 0 (p.at - place_of f) ≡ false → is_at_next g ≡ false
    → both (passed_to (place_of g + lacking p g) g) f < both g f
other_fewer f g p ps waits stays late first = at g.next refl where
  there : nat_le p.at (place_of f) ≡ true
  there = grind (arith, late)

  awaits : (awaited g.next p.acknowledged == 0) ≡ false
  awaits = and_false (nat_le p.at (place_of f)) (awaited g.next p.acknowledged == 0) there stays

  at : (n : Option ℕ) → g.next ≡ n → both (passed_to (place_of g + lacking p g) g) f < both g f
  at None none =
      let P : Option ℕ → Type 0 = λ o. (awaited o p.acknowledged == 0) ≡ false in
      absurd (let bad : true ≡ false = subst P none awaits in cc)
  at (Some k) known =
      let P : Option ℕ → Type 0 = λ o. (awaited o p.acknowledged == 0) ≡ false in
      let Q : ℕ → Type 0 = λ n. is_first_at n g.waiting ≡ false in
      let W : List Piece → Type 0 = λ l. IsFewer f.next (Some k) (k + up_to (awaited (Some k) p.acknowledged) g g.waiting) l g.waiting in
      let N : Option ℕ → Type 0 = λ o. IsFewer f.next o (unwrap_or o 0 + up_to (awaited o p.acknowledged) g g.waiting) f.waiting g.waiting in
      let place = next_is g k known in
      subst N (sym known) (subst W (sym waits) (answer_fewer f.next g k p ps g.waiting place (subst P known awaits) (subst Q place first)))

-- what is missing is given up
lost_leaves : (m : found.Missing) (c : Connection)
    → (has_next m.gap.end c ≡ false → both (passed_to m.until (own m.gap.end c)) (other m.gap.end c) < both (own m.gap.end c) (other m.gap.end c)) → Leaves c (lost m c)
lost_leaves m c fewer = elim (cases_Bool (has_next m.gap.end c)) [
  | inl there ↦ rw there (given_leaves m.gap.end c)
  | inr none ↦ rw none (with_fewer m.gap.end (passed_to m.until (own m.gap.end c)) (other m.gap.end c) c (fewer none))
]

other_leaves : (d : End) (c : Connection) (p : Piece) (ps : List Piece) → (own d c).waiting ≡ p ∷ ps → may_go (own d c).next (other d c).next p ≡ false
    → nat_lt 0 (p.at - place_of (own d c)) ≡ false → Leaves c (lost (other_gap d p (other d c)) c)
other_leaves Opener c p ps waits stays late = lost_leaves (other_gap Opener p c.answerer) c (λ none. other_fewer c.opener c.answerer p ps waits stays late none)
other_leaves Answerer c p ps waits stays late = lost_leaves (other_gap Answerer p c.opener) c (λ none. other_fewer c.answerer c.opener p ps waits stays late none)

missing_leaves : (d : End) (c : Connection) (p : Piece) (ps : List Piece) → (own d c).waiting ≡ p ∷ ps → may_go (own d c).next (other d c).next p ≡ false
    → Leaves c (lost (missing_for d p (own d c) (other d c)) c)
missing_leaves d c p ps waits stays = elim (cases_Bool (nat_lt 0 (p.at - place_of (own d c)))) [
  | inl more ↦ rw more (lost_leaves (own_gap d p (own d c)) c (λ none. own_fewer (own d c) (other d c) p ps waits more))
  | inr none ↦ rw none (other_leaves d c p ps waits stays none)
]

-- where no piece may go
lower_none : (a b : Option ℕ) → lower a b ≡ None → (a ≡ None) × (b ≡ None)
lower_none None None h = (refl, refl)
lower_none (Some f) None h = absurd (none-some Opener (sym h))
lower_none None (Some g) h = absurd (none-some Answerer (sym h))
lower_none (Some f) (Some g) h = by (nat_lt g f) h where
  by : (b : Bool) → (if b then Some Answerer else Some Opener) ≡ None → (Some f ≡ None) × (Some g ≡ None)
  by true h = absurd (none-some Answerer (sym h))
  by false h = absurd (none-some Opener (sym h))

ready_none : (f g : Flow) (p : Piece) (ps : List Piece) → f.waiting ≡ p ∷ ps → ready_frame f g ≡ None → may_go f.next g.next p ≡ false
ready_none f g p ps waits h = elim (cases_Bool (may_go f.next g.next p)) [
  | inl go ↦ absurd (none-some p.recorded.frame (sym h ∙ ready_frame_is f g p ps waits go))
  | inr stays ↦ stays
]

none_goes : (d : End) (c : Connection) (p : Piece) (ps : List Piece) → turn c ≡ None → (own d c).waiting ≡ p ∷ ps → may_go (own d c).next (other d c).next p ≡ false
none_goes Opener c p ps h waits = ready_none c.opener c.answerer p ps waits (lower_none (ready_frame c.opener c.answerer) (ready_frame c.answerer c.opener) h).0
none_goes Answerer c p ps h waits = ready_none c.answerer c.opener p ps waits (lower_none (ready_frame c.opener c.answerer) (ready_frame c.answerer c.opener) h).1

last_missing : (t : Option End) (c : Connection) → turn c ≡ None → Leaves c (lost_at_last (missing_at t c) c)
last_missing None c h = tt
last_missing (Some d) c h = at (own d c).waiting refl where
  at : (ws : List Piece) → (own d c).waiting ≡ ws → Leaves c (lost_at_last (missing_by d ws (own d c) (other d c)) c)
  at [] waits = tt
  at (p ∷ ps) waits = missing_leaves d c p ps waits (none_goes d c p ps h waits)

if_overdue : (full : Bool) (m : Option found.Missing) (c : Connection) → Leaves c (lost_at_last m c) → Leaves c (lost_if full m c)
if_overdue full None c l = l
if_overdue full (Some m) c l = elim (cases_Bool (is_overdue m.gap.end full c)) [
  | inl late ↦ rw late l
  | inr soon ↦ rw soon tt
]

-- what comes next, and what comes at last
next_leaves : (full : Bool) (c : Connection) → Leaves c (next_event full c)
next_leaves full c = at (turn c) refl where
  at : (t : Option End) → turn c ≡ t → Leaves c (next_by full t c)
  at (Some d) h = given_leaves d c
  at None h = if_overdue full (missing c) c (last_missing (lower (first_frame c.opener) (first_frame c.answerer)) c h)

last_leaves : (c : Connection) → Leaves c (last_event c)
last_leaves c = at (turn c) refl where
  at : (t : Option End) → turn c ≡ t → Leaves c (last_by t c)
  at (Some d) h = given_leaves d c
  at None h = last_missing (lower (first_frame c.opener) (first_frame c.answerer)) c h

pub finish_fewer : (c : Connection) (n : Next) → last_event c ≡ Some n → steps n.after < steps c
finish_fewer c n is = let P : Option Next → Type 0 = λ o. Leaves c o in subst P is (last_leaves c)

event_ends : (n : Option Next) (c new : Connection) (e : Option Event) → IsEvent n c e new → Leaves c n → IfSome e (λ x. steps new < steps c)
event_ends n c new None is l = tt
event_ends n c new (Some e) is l = let P : Option Next → Type 0 = λ o. Leaves c o in subst P is l

pub next_ends : (full : Bool) (c new : Connection) (e : Option Event) → IsEvent (next_event full c) c e new → IfSome e (λ x. steps new < steps c)
next_ends full c new e is = event_ends (next_event full c) c new e is (next_leaves full c)

pub last_ends : (c new : Connection) (e : Option Event) → IsEvent (last_event c) c e new → IfSome e (λ x. steps new < steps c)
last_ends c new e is = event_ends (last_event c) c new e is (last_leaves c)

-- calls that give something out, one after another
call_leaves : (call : Call) (c : Connection) → Leaves c (event_of call c)
call_leaves (TakeNext full) c = next_leaves full c
call_leaves Finish c = last_leaves c
call_leaves (Feed d s r) c = tt
call_leaves (Lend d s r) c = tt

calls_end : (calls : List Call) (c : Connection) → GiveOut calls c → length calls ≤ steps c
calls_end [] c g = omega arith
calls_end (call ∷ calls) c (n, is, rest) =
    let P : Option Next → Type 0 = λ o. Leaves c o in
    let less : steps n.after < steps c = subst P is (call_leaves call c) in
    let more = calls_end calls n.after rest in
    omega (arith, less, more)

pub few_calls : (calls : List Call) (c : Connection) → GiveOut calls c → length calls ≤ 5 * how_many_wait c + 6
few_calls calls c g =
    let one = steps_le c.opener.next c.answerer.next c.opener.waiting in
    let two = steps_le c.answerer.next c.opener.next c.answerer.waiting in
    let all = calls_end calls c g in
    omega (arith, one, two, all)

-- the same in a table
lookup_set : {K X : Type 0} (test : K → Bool) (es : List (K × X)) (v w : X) → lookup test es ≡ Some v → lookup test (set_value test es w) ≡ Some w
lookup_set test [] v w h = absurd (none-some v h)
lookup_set test (e ∷ es) v w h = at (test e.0) refl h (lookup_set test es v w) where
  at : (b : Bool) → test e.0 ≡ b → cond b (Some e.1) (lookup test es) ≡ Some v → (lookup test es ≡ Some v → lookup test (set_value test es w) ≡ Some w)
      → lookup test (cond b ((e.0, w) ∷ es) (e ∷ set_value test es w)) ≡ Some w
  at true is h more = rw is refl
  at false is h more = rw is (more h)

entry_leaves : (next : Connection → Option Next) (p : Place) (t : Table) (c : Tracked) (n : Option Next) → opened_by p.ends t ≡ Some c → next c.connection ≡ n → Leaves c.connection n
    → IfSome (option_map (λ n. n.event) n) (λ e. steps_at p (charged (Some c) p (λ c. after_or (next c) c) t) < steps c.connection)
entry_leaves next p t c None there is l = tt
entry_leaves next p t c (Some n) there is l =
    let new = record c { connection = after_or (next c.connection) c.connection } in
    let P : Option Tracked → Type 0 = λ o. steps_in o < steps c.connection in
    let Q : Option Next → Type 0 = λ o. steps (after_or o c.connection) < steps c.connection in
    subst P (sym (lookup_set (is_at (ghosts.cmp p.ends)) t.latest c new there)) (subst Q (sym is) l)

table_leaves : (next : Connection → Option Next) (p : Place) (t : Table) → ((c : Connection) → Leaves c (next c))
    → IfSome (event_at next (opened_by p.ends t)) (λ e. steps_at p (charged (opened_by p.ends t) p (λ c. after_or (next c) c) t) < steps_at p t)
table_leaves next p t l = at (opened_by p.ends t) refl where
  at : (o : Option Tracked) → opened_by p.ends t ≡ o → IfSome (event_at next o) (λ e. steps_at p (charged o p (λ c. after_or (next c) c) t) < steps_in o)
  at None there = tt
  at (Some c) there = entry_leaves next p t c (next c.connection) there refl (l c.connection)

pub next_fewer : (p : Place) (t : Table) (e : Event) → next_at p t ≡ Some e → steps_at p (next_in p t) < steps_at p t
next_fewer p t e is =
    let P : Option Event → Type 0 = λ o. IfSome o (λ x. steps_at p (next_in p t) < steps_at p t) in
    subst P is (table_leaves (next_event (is_full t)) p t (next_leaves (is_full t)))

pub last_fewer : (p : Place) (t : Table) (e : Event) → last_at p t ≡ Some e → steps_at p (last_in p t) < steps_at p t
last_fewer p t e is =
    let P : Option Event → Type 0 = λ o. IfSome o (λ x. steps_at p (last_in p t) < steps_at p t) in
    subst P is (table_leaves last_event p t last_leaves)

table_ends : (p : Place) (t u : Table) (e other : Option Event) (after : Table) → e ≡ other → u ≡ after → IfSome other (λ x. steps_at p after < steps_at p t)
    → IfSome e (λ x. steps_at p u < steps_at p t)
table_ends p t u e other after is so h =
    let P : Option Event → Type 0 = λ o. IfSome o (λ x. steps_at p u < steps_at p t) in
    let Q : Table → Type 0 = λ v. IfSome other (λ x. steps_at p v < steps_at p t) in
    subst P (sym is) (subst Q (sym so) h)

pub next_at_ends : (p : Place) (t u : Table) (e : Option Event) → e ≡ next_at p t → u ≡ next_in p t → IfSome e (λ x. steps_at p u < steps_at p t)
next_at_ends p t u e is so = table_ends p t u e (next_at p t) (next_in p t) is so (table_leaves (next_event (is_full t)) p t (next_leaves (is_full t)))

pub last_at_ends : (p : Place) (t u : Table) (e : Option Event) → e ≡ last_at p t → u ≡ last_in p t → IfSome e (λ x. steps_at p u < steps_at p t)
last_at_ends p t u e is so = table_ends p t u e (last_at p t) (last_in p t) is so (table_leaves last_event p t last_leaves)
