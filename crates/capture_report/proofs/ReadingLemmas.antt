-- What is read of a capture, step by step.
use Rattle.std.specs.Prelude.{◌≡◌, List, [], ◌∷◌, ◌++◌, Option, None, Some, refl, Result, Ok, Err, OnOk}
use Rattle.std.specs.List.{flat_map}
use Rattle.std.specs.Option.{option_to_list}
use Rattle.std.specs.Prelude.{true, false}
use Rattle.std.proofs.Common.{sym, ◌∙◌, ap, append_assoc, subst}
use Rattle.std.proofs.lemmas.List.{append-nil}
use Rattle.std.proofs.lemmas.List.Concat.{flat_map-append}
use Rattle.lapb_link.specs.declared.receiver.Shown.{Shown}
use Rattle.capture_model.specs.Frames.{Frame}
use Rattle.capture_rows.specs.Lines.{FrameRead}
use Rattle.capture_rows.specs.declared.line.Line.{Line}
use Rattle.capture_report.specs.Contents.{Row}
use Rattle.capture_report.specs.Plans.{AreSame, Plan, accepted_of, is_accepted, is_doubtful, range_of}
use Rattle.capture_report.specs.Readings.{HasRead, IsPlanOf, IsReadOn, IsReadUpTo, IsSeen, IsSeenOn, IsSeenUpTo, IsTaken}
use Rattle.capture_report.specs.Records.{Follows, Record}
use Rattle.capture_report.specs.Rows.{after_record, dropped_rows, place_of, placed, record_given, record_rows, record_shown, rows_from, rows_given, settled, settled_rows, shown_from}
use Rattle.capture_report.specs.Sights.{Sight, dropped_sight, given_sight, rows_seen, rows_sight, sight_from, sight_of}
use Rattle.capture_report.specs.declared.plan.Marks.{Marks}
use Rattle.capture_report.specs.declared.reader.Order.TheVariants.{Placed}
use Rattle.capture_report.specs.declared.header.Seen.{Seen}
use Rattle.capture_report.specs.declared.survey.Survey.{Survey}

-- what comes next is shown before the rest
shown_more : {X : Type 0} (f : Shown → List X) (all : List X) (records rest : List Record) (line after : Line) (next : Record) (some more : List X)
    → records ≡ next ∷ rest → after ≡ after_record next line → more ≡ some ++ flat_map f (record_shown next line)
    → all ≡ some ++ flat_map f (shown_from line records) → all ≡ more ++ flat_map f (shown_from after rest)
shown_more f all records rest line after next some more split ends is so_far =
    so_far
    ∙ (ap (λ rs. some ++ flat_map f (shown_from line rs)) split
    ∙ (ap (λ xs. some ++ xs) (flat_map-append f (record_shown next line) (shown_from (after_record next line) rest))
    ∙ (sym (append_assoc some (flat_map f (record_shown next line)) (flat_map f (shown_from (after_record next line) rest)))
    ∙ (ap (λ xs. xs ++ flat_map f (shown_from (after_record next line) rest)) (sym is)
    ∙ ap (λ l. more ++ flat_map f (shown_from l rest)) (sym ends)))))

pub taken_more : (records before rest : List Record) (first line after : Line) (marks more : Marks) → IsTaken before rest line after marks more → HasRead records before first line marks → HasRead records rest first after more
taken_more records before rest first line after marks more t s = record {
  ranges = shown_more range_of (flat_map range_of (shown_from first records)) before rest line after t.next marks.ranges.items more.ranges.items t.split t.line_after t.ranges s.ranges;
  accepted = shown_more accepted_of (flat_map accepted_of (shown_from first records)) before rest line after t.next marks.accepted.items more.accepted.items t.split t.line_after t.accepted s.accepted;
}

-- plans that say the same of each frame give the same rows
same_given : (plan other : Plan) (s : AreSame plan other) (f : Option Frame) (xs : List Shown) (r : Option FrameRead) → rows_given (Placed plan) f xs r ≡ rows_given (Placed other) f xs r
same_given plan other s None xs r = refl
same_given plan other s (Some f) xs None = refl
same_given plan other s (Some f) xs (Some r) =
    ap (λ b. settled_rows b (place_of f) xs r (settled (is_accepted plan f.number) r.given)) (s.doubtful f.number)
    ∙ ap (λ b. settled_rows (is_doubtful other f.number) (place_of f) xs r (settled b r.given)) (s.accepted f.number)

pub same_rows : (plan other : Plan) (s : AreSame plan other) (line : Line) (records : List Record) → rows_from (Placed plan) line records ≡ rows_from (Placed other) line records
same_rows plan other s line [] = refl
same_rows plan other s line (r ∷ rs) =
    ap (λ xs. dropped_rows r.dropped line ++ xs ++ rows_from (Placed plan) (after_record r line) rs) (same_given plan other s r.frame (record_shown r line) (record_given r line))
    ∙ ap (λ xs. record_rows (Placed other) r line ++ xs) (same_rows plan other s (after_record r line) rs)

-- all was read
pub plan_made : (records rest : List Record) (first line : Line) (marks : Marks) (plan : Plan) → rest ≡ [] → HasRead records rest first line marks
    → AreSame plan (record { ranges = marks.ranges.items; accepted = marks.accepted.items }) → rows_from (Placed plan) first records ≡ placed first records
plan_made records rest first line marks plan none s is =
    same_rows plan (record { ranges = marks.ranges.items; accepted = marks.accepted.items }) is first records
    ∙ (ap (λ xs. rows_from (Placed (record { ranges = xs; accepted = marks.accepted.items })) first records) (sym (s.ranges ∙ (ap (λ rs. marks.ranges.items ++ flat_map range_of (shown_from line rs)) none ∙ append-nil marks.ranges.items)))
    ∙ ap (λ xs. rows_from (Placed (record { ranges = flat_map range_of (shown_from first records); accepted = xs })) first records) (sym (s.accepted ∙ (ap (λ rs. marks.accepted.items ++ flat_map accepted_of (shown_from line rs)) none ∙ append-nil marks.accepted.items))))

pub read_none : (left : Option (List Record)) (line : Line) (marks : Marks) → marks.ranges.items ≡ [] → marks.accepted.items ≡ [] → IsReadUpTo left left line line marks
read_none left line marks ranges accepted = λ records e. (
  records,
  e,
  record {
    ranges = ap (λ xs. xs ++ flat_map range_of (shown_from line records)) (sym ranges);
    accepted = ap (λ xs. xs ++ flat_map accepted_of (shown_from line records)) (sym accepted);
  },
)

pub read_more : (before middle after : Option (List Record)) (first line next : Line) (marks more : Marks) → IsReadUpTo before middle first line marks → IsReadOn middle after line next marks more true → IsReadUpTo before after first next more
read_more before middle after first line next marks more s t = λ records e.
    let a = s records e in
    let b = t a.0 a.1 in
    (b.0, b.1, taken_more records a.0 b.0 first line next marks more b.2 a.2)

pub read_all : (before middle after : Option (List Record)) (first line next : Line) (marks more : Marks) (plan : Plan) → IsReadUpTo before middle first line marks → IsReadOn middle after line next marks more false
    → AreSame plan (record { ranges = more.ranges.items; accepted = more.accepted.items }) → IsPlanOf before first plan
read_all before middle after first line next marks more plan s t is = λ records e.
    let a = s records e in
    let same : AreSame plan (record { ranges = marks.ranges.items; accepted = marks.accepted.items }) = subst (λ (m : Marks). AreSame plan (record { ranges = m.ranges.items; accepted = m.accepted.items })) t.1 is in
    plan_made records a.0 first line marks plan (t.0 a.0 a.1) a.2 same

-- ---- what is seen of a capture

rows_seen_append : (xs ys : List Row) (v : Seen) → rows_seen (xs ++ ys) v ≡ rows_seen ys (rows_seen xs v)
rows_seen_append [] ys v = refl
rows_seen_append (x ∷ xs) ys v = rows_seen_append xs ys _

pub sight_append : (xs ys : List Row) (s : Sight) → rows_sight (xs ++ ys) s ≡ rows_sight ys (rows_sight xs s)
sight_append xs ys s = ap (λ (v : Seen). let t : Sight = record s { seen = v } in t) (rows_seen_append xs ys s.seen)

pub seen_behind : {T E : Type 0} (r : Result T E) (shown behind : List Row) (old middle new : Sight) → middle ≡ rows_sight shown old → OnOk r (new ≡ rows_sight behind middle) → OnOk r (new ≡ rows_sight (shown ++ behind) old)
seen_behind (Ok x) shown behind old middle new is h = h ∙ ap (rows_sight behind) is ∙ sym (sight_append shown behind old)
seen_behind (Err e) shown behind old middle new is h = tt

-- what comes next was seen
pub seen_next : (before after : Option (List Record)) (latest : Option Record) (line line_after : Line) (old dropped more : Survey) (next : Record) (shown : List Shown) (read : Option FrameRead) → Follows before after latest → latest ≡ Some next
    → line_after ≡ after_record next line → shown ≡ record_shown next line → read ≡ record_given next line → sight_of dropped ≡ dropped_sight next.dropped line (sight_of old)
    → sight_of more ≡ given_sight next.frame shown read (sight_of dropped) → IsSeenOn before after line line_after old more true
seen_next before after latest line line_after old dropped more next shown read follows is moved shown_is read_is dropped_is seen = λ records e.
    let f = follows.shown records e in (
      f.0,
      f.1,
      record {
        next = next;
        split = f.2 ∙ ap (λ o. option_to_list o ++ f.0) is;
        line_after = moved;
        sight =
            seen
            ∙ ap (λ xs. given_sight next.frame xs read (sight_of dropped)) shown_is
            ∙ ap (λ r. given_sight next.frame (record_shown next line) r (sight_of dropped)) read_is
            ∙ ap (given_sight next.frame (record_shown next line) (record_given next line)) dropped_is;
      },
    )

pub seen_none : (left : Option (List Record)) (line : Line) (survey : Survey) → IsSeenUpTo left left line line survey survey
seen_none left line survey = λ records e. (records, e, refl)

pub seen_more : (before middle after : Option (List Record)) (first line next : Line) (old survey more : Survey) → IsSeenUpTo before middle first line old survey → IsSeenOn middle after line next survey more true
    → IsSeenUpTo before after first next old more
seen_more before middle after first line next old survey more s t = λ records e.
    let a = s records e in
    let b = t a.0 a.1 in
    let step = b.2 in (
      b.0,
      b.1,
      a.2
          ∙ ap (λ rs. sight_from line rs (sight_of survey)) step.split
          ∙ ap (λ v. sight_from (after_record step.next line) b.0 v) (sym step.sight)
          ∙ ap (λ l. sight_from l b.0 (sight_of more)) (sym step.line_after),
    )

pub seen_all : (before middle after : Option (List Record)) (first line next : Line) (old survey more : Survey) → IsSeenUpTo before middle first line old survey → IsSeenOn middle after line next survey more false
    → IsSeen before first old more
seen_all before middle after first line next old survey more s t = λ records e.
    let a = s records e in
    ap sight_of t.1 ∙ sym (a.2 ∙ ap (λ rs. sight_from line rs (sight_of survey)) (t.0 a.0 a.1))
