-- A connection: two directions and an order.
use Rattle.std.specs.Prelude.{◌≡◌, ℕ, ◌+◌, ◌-◌, ◌==◌, ◌&&◌, ◌||◌, nat_lt, nat_le, min, not, Bool, true, false, List, [], ◌∷◌, length, Option, Some, None, is_some, unwrap_or, if◌then◌else◌}
use Rattle.std.specs.Option.{option_map}
use Rattle.ip_segments.specs.Segments.{Segment}
use Rattle.tcp_streams.specs.Numbers.{awaited, is_after, next_number, number_at}
use Rattle.tcp_streams.specs.Pieces.{cost_from, last_number}
use Rattle.tcp_streams.specs.Flows.{acknowledged_by, begun_at, emptied, given_out, has_begun_before, held, held_differs, held_use, is_empty, is_place, number_of, opened, opening_gap, unknown, unsaid_gap}
use Rattle.tcp_streams.specs.declared.flow.Flow.{Flow}
use Rattle.tcp_streams.specs.declared.flow.SegmentUse.TheVariants.{Empty}
use Rattle.tcp_streams.specs.declared.piece.Piece.{Piece}
use Rattle.tcp_streams.specs.declared.piece.Recorded.{Recorded}
use Rattle.tcp_streams.specs.declared.connection.Connection.{Connection}
use Rattle.tcp_streams.specs.declared.connection.End.{End}
use Rattle.tcp_streams.specs.declared.connection.End.TheVariants.{Opener, Answerer}
use Rattle.tcp_streams.specs.declared.connection.EndSet.{EndSet}
use Rattle.tcp_streams.specs.declared.connection.Event.{Event}
use Rattle.tcp_streams.specs.declared.connection.Event.TheVariants as event
use Rattle.tcp_streams.specs.declared.connection.Fed.{Fed}
use Rattle.tcp_streams.specs.declared.connection.Missing.{Missing}

abbrev pub other_end : End → End
other_end Opener = Answerer
other_end Answerer = Opener

-- sets of ends
abbrev pub no_ends : EndSet
no_ends = record { opener = false; answerer = false }

abbrev pub has_end : End → EndSet → Bool
has_end Opener s = s.opener
has_end Answerer s = s.answerer

abbrev pub with_end : End → EndSet → EndSet
with_end Opener s = record s { opener = true }
with_end Answerer s = record s { answerer = true }

abbrev pub new_connection : Connection
new_connection = record { opener = unknown; answerer = unknown }

-- the directions of an end, and of the other one
abbrev pub own : End → Connection → Flow
own Opener c = c.opener
own Answerer c = c.answerer

abbrev pub other : End → Connection → Flow
other e c = own (other_end e) c

abbrev pub with_flows : End → (own other : Flow) → Connection
with_flows Opener f g = record { opener = f; answerer = g }
with_flows Answerer f g = record { opener = g; answerer = f }

-- a SYN sets the beginning of its direction, and its acknowledgement that of the other one
abbrev pub opened_own : Segment → Flow → Flow
opened_own s f = if s.is_syn then opened s.sequence f else f

abbrev pub opened_other : Segment → Flow → Flow
opened_other s g = if s.is_syn then begun_at s.acknowledged g else g

-- the opener's first segment after its SYN says where the other direction begins
abbrev pub answered : End → Segment → (own other : Flow) → Flow
answered Answerer s f g = g
answered Opener s f g = if has_begun_before (number_of s) f then begun_at s.acknowledged g else g

-- what an acknowledgement does to the direction that it is of
abbrev pub answered_by : End → Option ℕ → Segment → (own other : Flow) → Flow
answered_by e None s f g = g
answered_by e (Some n) s f g = acknowledged_by n (answered e s f g)

abbrev pub answered_other : End → Segment → (own other : Flow) → Flow
answered_other e s f g = answered_by e s.acknowledged s f g

abbrev pub unsaid_by : End → Option ℕ → Segment → (own other : Flow) → Option ℕ
unsaid_by e None s f g = None
unsaid_by e (Some n) s f g = unsaid_gap f n (answered e s f g)

abbrev pub unsaid_of : End → Segment → (own other : Flow) → Option ℕ
unsaid_of e s f g = unsaid_by e s.acknowledged s f g

-- what a segment of one direction does to both
abbrev pub leaving : Segment → Flow → Flow
leaving s f = record (opened_own s f) { is_leaving = (opened_own s f).is_leaving || s.is_fin }

abbrev pub expecting : Segment → Flow → Flow
expecting s f = begun_at (Some (number_of s)) (leaving s f)

abbrev pub fed_own : Segment → Recorded → Flow → Flow
fed_own s r f = if is_empty s then leaving s f else held s r (expecting s f)

abbrev pub fed_other : End → Segment → (own other : Flow) → Flow
fed_other e s f g = answered_other e s (opened_own s f) (opened_other s g)

abbrev pub fed_by : End → Segment → Recorded → (own other : Flow) → Fed
fed_by e s r f g =
    let unsaid = unsaid_of e s (opened_own s f) (opened_other s g) in
    if is_empty s then record { unsaid = unsaid; opening = None; used = Empty; differs = false }
    else record {
      unsaid = unsaid;
      opening = opening_gap (fed_other e s f g) (number_of s) (leaving s f);
      used = held_use s r (expecting s f);
      differs = held_differs s r (expecting s f);
    }

abbrev pub fed_after : End → Segment → Recorded → Connection → Connection
fed_after e s r c = with_flows e (fed_own s r (own e c)) (fed_other e s (own e c) (other e c))

abbrev pub fed_of : End → Segment → Recorded → Connection → Fed
fed_of e s r c = fed_by e s r (own e c) (other e c)

-- the fast path: octets and nothing else, which are the next ones, where nothing waits
abbrev pub is_plain : Segment → Bool
is_plain s = not (s.is_syn || s.is_fin || s.is_reset) && (nat_lt 0 (length s.payload.octets) && nat_le s.payload.length (length s.payload.octets))

abbrev pub is_next_number : Option ℕ → ℕ → Bool
is_next_number None n = false
is_next_number (Some next) n = is_place next && number_at next == n

abbrev pub follows : Segment → (own other : Flow) → Bool
follows s f g = length f.waiting == 0 && (length g.waiting == 0 && (is_some g.next && (is_plain s && (is_next_number f.next s.sequence && awaited g.next s.acknowledged == 0))))

abbrev pub is_next : End → Segment → Connection → Bool
is_next e s c = follows s (own e c) (other e c)

abbrev pub lent_own : Segment → (own other : Flow) → Flow
lent_own s f g = if follows s f g then record f { next = option_map (λ n. n + length s.payload.octets) f.next } else f

abbrev pub acknowledged_if : Option ℕ → Flow → Flow
acknowledged_if None g = g
acknowledged_if (Some n) g = acknowledged_by n g

abbrev pub lent_other : Segment → (own other : Flow) → Flow
lent_other s f g = if follows s f g then acknowledged_if s.acknowledged g else g

abbrev pub lent_if : End → Segment → Connection → Connection
lent_if e s c = with_flows e (lent_own s (own e c) (other e c)) (lent_other s (own e c) (other e c))

-- a piece may go: its places are the next ones, and what it acknowledges was given out
abbrev pub may_go : (own other : Option ℕ) → Piece → Bool
may_go f g p = nat_le p.at (unwrap_or f 0) && awaited g p.acknowledged == 0

-- the frame of the first piece of a direction, and of the one that may go: the others come after it
abbrev pub frame_of : List Piece → Option ℕ
frame_of [] = None
frame_of (p ∷ ps) = Some p.recorded.frame

abbrev pub first_frame : Flow → Option ℕ
first_frame f = frame_of f.waiting

abbrev pub ready_of : (own other : Option ℕ) → List Piece → Option ℕ
ready_of f g [] = None
ready_of f g (p ∷ ps) = if may_go f g p then Some p.recorded.frame else None

abbrev pub ready_frame : (own other : Flow) → Option ℕ
ready_frame f g = ready_of f.next g.next f.waiting

-- the end with the lower frame
abbrev pub lower : (opener answerer : Option ℕ) → Option End
lower (Some f) (Some g) = if nat_lt g f then Some Answerer else Some Opener
lower (Some f) None = Some Opener
lower None (Some g) = Some Answerer
lower None None = None

-- whose piece goes next
abbrev pub turn : Connection → Option End
turn c = lower (ready_frame c.opener c.answerer) (ready_frame c.answerer c.opener)

-- the first octets that the piece of the lowest frame waits for: those before it, or those before its answer
abbrev pub place_of : Flow → ℕ
place_of f = unwrap_or f.next 0

abbrev pub up_to : ℕ → Flow → List Piece → ℕ
up_to n f [] = n
up_to n f (p ∷ ps) = min n (p.at - place_of f)

abbrev pub lacking : Piece → (other : Flow) → ℕ
lacking p g = up_to (awaited g.next p.acknowledged) g g.waiting

abbrev pub missing_for : End → Piece → (own other : Flow) → Missing
missing_for e p f g = if nat_lt 0 (p.at - place_of f)
    then record { gap = record { end = e; octets = p.at - place_of f; recorded = p.recorded }; until = p.at }
    else record { gap = record { end = other_end e; octets = lacking p g; recorded = p.recorded }; until = place_of g + lacking p g }

abbrev pub missing_by : End → List Piece → (own other : Flow) → Option Missing
missing_by e [] f g = None
missing_by e (p ∷ ps) f g = Some (missing_for e p f g)

abbrev pub missing_of : End → (own other : Flow) → Option Missing
missing_of e f g = missing_by e f.waiting f g

abbrev pub missing_at : Option End → Connection → Option Missing
missing_at None c = None
missing_at (Some e) c = missing_of e (own e c) (other e c)

abbrev pub missing : Connection → Option Missing
missing c = missing_at (lower (first_frame c.opener) (first_frame c.answerer)) c

-- what waits, in octets of memory
abbrev pub cost : Connection → ℕ
cost c = cost_from (cost_from 0 c.opener.waiting) c.answerer.waiting

-- whether a segment of an end was recorded that opened its direction or acknowledged the other one
abbrev pub was_seen : End → Connection → Bool
was_seen e c = is_some (own e c).first || is_some (other e c).acknowledged

abbrev pub seen_ends : Connection → EndSet
seen_ends c = record { opener = was_seen Opener c; answerer = was_seen Answerer c }

-- whether the last octet that waits was acknowledged
abbrev pub is_acknowledged_by : Option ℕ → Option ℕ → Bool
is_acknowledged_by None a = true
is_acknowledged_by (Some last) None = false
is_acknowledged_by (Some last) (Some n) = not (is_after n last)

abbrev pub is_acknowledged : Flow → Bool
is_acknowledged f = is_acknowledged_by (last_number f.waiting) f.acknowledged

-- both ends have ended, or one has and nothing of the other was recorded
abbrev pub has_ended : Connection → Bool
has_ended c = (c.opener.is_leaving && (c.answerer.is_leaving && (is_acknowledged c.opener && is_acknowledged c.answerer)))
    || (c.opener.is_leaving && not (was_seen Answerer c) || c.answerer.is_leaving && not (was_seen Opener c))

-- more than 8 pieces wait for octets that were acknowledged, or more than 64 where no acknowledgement was recorded
abbrev pub patience_at : Option ℕ → (place waiting : ℕ) → Bool
patience_at None place n = nat_lt 64 n
patience_at (Some a) place n = nat_lt 8 n && is_after (number_at place) a

abbrev pub patience_is_over : Flow → ℕ → Bool
patience_is_over f n = patience_at f.acknowledged (place_of f) n

-- the next octets of an end are given up: memory is full, the ends have ended, or patience is over
abbrev pub is_overdue : End → (is_memory_full : Bool) → Connection → Bool
is_overdue e full c = full || (nat_lt 0x100000 (cost c) || (has_ended c || patience_is_over (own e c) (length c.opener.waiting + length c.answerer.waiting)))

-- what comes next, and the connection after it
pub record Next : Type 0 where
  pub event : Event
  pub after : Connection

abbrev pub given_by : End → List Piece → Connection → Option Next
given_by e [] c = None
given_by e (p ∷ ps) c = Some (record { event = event.Piece e p; after = with_flows e (given_out p ps (own e c)) (other e c) })

abbrev pub given : End → Connection → Option Next
given e c = given_by e (own e c).waiting c

abbrev pub passed_to : (until : ℕ) → Flow → Flow
passed_to n f = record f { next = Some n }

-- whether a piece has the next octets: then each direction acknowledges what comes next in the other one
abbrev pub is_first_at : (place : ℕ) → List Piece → Bool
is_first_at place [] = false
is_first_at place (p ∷ ps) = nat_le p.at place

abbrev pub is_at_next : Flow → Bool
is_at_next f = is_first_at (place_of f) f.waiting

abbrev pub has_next : End → Connection → Bool
has_next e c = is_at_next (own e c)

abbrev pub lost : Missing → Connection → Option Next
lost m c = if has_next m.gap.end c then given m.gap.end c
    else Some (record { event = event.Gap m.gap; after = with_flows m.gap.end (passed_to m.until (own m.gap.end c)) (other m.gap.end c) })

-- where no piece may go
abbrev pub lost_if : (full : Bool) → Option Missing → Connection → Option Next
lost_if full None c = None
lost_if full (Some m) c = if is_overdue m.gap.end full c then lost m c else None

abbrev pub lost_at_last : Option Missing → Connection → Option Next
lost_at_last None c = None
lost_at_last (Some m) c = lost m c

abbrev pub next_by : (full : Bool) → Option End → Connection → Option Next
next_by full (Some e) c = given e c
next_by full None c = lost_if full (missing c) c

abbrev pub next_event : (full : Bool) → Connection → Option Next
next_event full c = next_by full (turn c) c

abbrev pub last_by : Option End → Connection → Option Next
last_by (Some e) c = given e c
last_by None c = lost_at_last (missing c) c

abbrev pub last_event : Connection → Option Next
last_event c = last_by (turn c) c

-- a call gives this out, or leaves the connection as it was
abbrev pub IsEvent : Option Next → Connection → Option Event → Connection → Type 0
IsEvent n old None new = (n ≡ None) × (new ≡ old)
IsEvent n old (Some e) new = n ≡ Some (record { event = e; after = new })

abbrev pub is_over : Connection → Bool
is_over c = c.opener.is_ended && c.answerer.is_ended

-- a SYN that comes again, or that was recorded after its answer
abbrev pub begins_with : Option ℕ → Segment → Bool
begins_with None s = is_some s.acknowledged
begins_with (Some next) s = is_some s.acknowledged || number_at next == next_number s.sequence

abbrev pub goes_on_from : Option ℕ → End → Segment → Connection → Bool
goes_on_from (Some first) e s c = first == s.sequence
goes_on_from None e s c = not (is_over c) && begins_with (own e c).next s

abbrev pub goes_on : End → Segment → Connection → Bool
goes_on e s c = goes_on_from (own e c).first e s c

abbrev pub given_up : Connection → Connection
given_up c = record { opener = emptied c.opener; answerer = emptied c.answerer }
