-- The lines of the headers that were tried.
use Rattle.std.specs.Prelude.{◌≡◌, ℕ, ◌+◌, ◌-◌, ◌*◌, ◌^◌, Bool, true, false, not, ◌==◌, ◌&&◌, List, [], ◌∷◌, ◌++◌, length, map, flat_map, take, Option, Some, None, codes, decimal}
use Rattle.std.specs.List.Sorted.{IsNonDecreasingBy, IsPermutation}
use Rattle.line_model.specs.basics.Device.{with_more}
use Rattle.line_model.specs.basics.Records.{Item, Row}
use Rattle.line_model.specs.basics.Written.{HasFront}
use Rattle.line_model.specs.declared.interface.Interface.{Interface}
use Rattle.line_model.specs.packets.Says.{items_of}
use Rattle.line_model.specs.text.Text.{fault, head, rows}
use Rattle.header_trials.specs.Headers.{headers_tried}
use Rattle.header_trials.specs.Reactions.{reactions_in, reactions_of}
use Rattle.header_trials.specs.Tried.{tally_of}
use Rattle.header_trials.specs.declared.reactions.Reactions.{Reactions}
use Rattle.header_trials.specs.declared.trial.TrialCounts.{TrialCounts}
use Rattle.header_trials.specs.declared.trial.Trial.{Trial}
use Rattle.header_trials.specs.declared.tried_lines.Tried.{Tried}

-- ---- a header

-- a header without one-way logical channels, whose trace has no gap rows and doesn't begin in the middle, has the first form
abbrev pub is_first_form : Interface → Bool
is_first_form i = (i.incoming == i.pvc) && ((i.two_way == i.svc) && (not i.join && not i.gaps))

-- a name, and its number
abbrev pub named : (name : List ℕ) → ℕ → List ℕ
named name n = name ++ decimal n

-- the numbers that all forms begin with
abbrev pub first_numbers : Interface → List ℕ
first_numbers i = named (codes " MOD ") i.modulus ++ (named (codes " WIN ") i.window ++ (named (codes " SIZE ") i.size ++ named (codes " PVC ") i.pvc))

-- the ranges of one-way and two-way channels
abbrev pub ranges : Interface → List ℕ
ranges i = named (codes " IN ") i.incoming ++ (named (codes " TWO ") i.two_way ++ named (codes " OUT ") i.svc)

-- how a form with ranges begins: the third has gap rows
abbrev pub form_word : (gaps : Bool) → List ℕ
form_word true = codes "X25 3"
form_word false = codes "X25 2"

-- how it ends
abbrev pub joining : (join : Bool) → List ℕ
joining true = codes " JOIN\n"
joining false = codes "\n"

abbrev pub form_of : (is_first : Bool) → Interface → List ℕ
form_of true i = codes "X25 1" ++ (first_numbers i ++ (named (codes " SVC ") i.svc ++ codes "\n"))
form_of false i = form_word i.gaps ++ (first_numbers i ++ (ranges i ++ joining i.join))

-- the header line of an interface
abbrev pub header_line : Interface → List ℕ
header_line i = form_of (is_first_form i) i

-- ---- a line

-- a number at the right of a column
abbrev pub column : (width : ℕ) → ℕ → List ℕ
column width n = take (width - length (decimal n)) (codes "            ") ++ decimal n

-- how the DCE reacted, in columns
abbrev pub reaction_columns : Reactions → List ℕ
reaction_columns r = column 10 r.answered ++ (column 11 r.unanswered ++ column 12 r.unexplained)

-- what was counted, in columns
abbrev pub tally_columns : TrialCounts → List ℕ
tally_columns t = column 11 t.findings ++ (column 11 t.packets ++ column 11 t.octets)

-- both, and the header
abbrev pub tried_line : Tried → List ℕ
tried_line t = reaction_columns t.reactions ++ (tally_columns t.tally ++ (codes "  " ++ header_line t.header))

-- the names of the columns
abbrev pub heading : List ℕ
heading = codes "# answered unanswered unexplained   findings  uncounted     octets  header\n"

abbrev pub tried_text : List Tried → List ℕ
tried_text ts = heading ++ flat_map tried_line ts

-- the header of a trial, how the DCE reacted, and what was counted
abbrev pub tried_by : {A C : Type 0} → Trial A C → Tried
tried_by t = record { header = t.walk.interface; tally = t.tally; reactions = reactions_in t.watch }

-- ---- their order

-- first the fewest errors that the DCE did not answer and indications that it did not owe, then the most errors that it answered
abbrev pub reaction_rank : Reactions → ℕ
reaction_rank r = (r.unanswered + r.unexplained) * 2 ^ 32 + (2 ^ 32 - 1 - r.answered)

-- fewest findings first, then fewest data packets that were not counted, then fewest octets of them, then the smaller window, then the
-- smaller packet size: as one number, in which each is less significant than the one before it
abbrev pub tally_rank : Tried → ℕ
tally_rank t = (((t.tally.findings * 2 ^ 32 + t.tally.packets) * 2 ^ 32 + t.tally.octets) * 2 ^ 8 + t.header.window) * 2 ^ 16 + t.header.size

-- the place in the order of the lines: by the reactions of the DCE, then by what was counted
abbrev pub rank : Tried → ℕ
rank t = reaction_rank t.reactions * 2 ^ 120 + tally_rank t

-- the findings of the first line
abbrev pub fewest : List Tried → ℕ
fewest [] = 0
fewest (t ∷ ts) = t.tally.findings

-- ---- what is printed of a text

-- a header with how the DCE reacts under it, and what is counted
abbrev pub tried_with : Interface → List Item → Tried
tried_with h rs = record { header = h; tally = tally_of h rs; reactions = reactions_of h rs }

-- each header that is tried on some rows, with its counts
abbrev pub tried_on : Interface → List Row → List Tried
tried_on i rs = map (λ h. tried_with h (items_of h rs)) (headers_tried i rs)

-- of a text without a fault: the line of each header that is tried on it, once and best first, and the findings of the first
pub record AreTriedLines (text bytes : List ℕ) (findings : ℕ) : Type 0 where
  pub sound : fault text ≡ None
  pub interface : Interface
  pub header : head text ≡ Some interface
  pub tried : List Tried
  pub all : IsPermutation (tried_on interface (rows text)) tried
  pub sorted : IsNonDecreasingBy rank tried
  pub whole : bytes ≡ tried_text tried
  pub first : findings ≡ fewest tried

-- a sink accepted them
pub record HasTried (text : List ℕ) (before after : Option (List ℕ)) (findings : ℕ) : Type 0 where
  pub bytes : List ℕ
  pub lines : AreTriedLines text bytes findings
  pub taken : after ≡ with_more before bytes

-- or it failed, and accepted a first part of them
pub record HasTriedPart (text : List ℕ) (before after : Option (List ℕ)) : Type 0 where
  pub bytes : List ℕ
  pub findings : ℕ
  pub lines : AreTriedLines text bytes findings
  pub part : HasFront before after bytes
