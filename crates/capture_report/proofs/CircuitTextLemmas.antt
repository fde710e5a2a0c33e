-- The rows of circuits may be those of a trace, and the observer reads their text as these rows.
use Rattle.std.proofs.Common.{◌≡◌, ◌∙◌, sym, ap, subst, refl, ℕ, suc, ◌*◌, ◌/◌, ◌%◌, ◌+◌, ◌^◌, ◌<◌, ◌≤◌, ◌&&◌, ◌||◌, Bool, not, true, false, List, [], ◌∷◌, length, Option, None, Some, arith}
use Rattle.std.specs.Prelude.{IfSome, ◌==◌, nat_le, nat_lt, option_map, if◌then◌else◌}
use Rattle.std.specs.Int.RustNames.{unsigned_abs}
use Rattle.std.specs.List.{list_all, list_any}
use Rattle.std.proofs.lemmas.Bool.{and_parts, leb-true, ltb-true}
use Rattle.hex.specs.Hex.{IsBytes}
use Rattle.line_model.specs.basics.Limits.{is_channels, is_numbering, packet_sizes}
use Rattle.line_model.specs.declared.interface.Interface.{Interface}
use Rattle.line_model.specs.declared.state.Side.{Side}
use Rattle.line_model.specs.text.Text.{fault}
use Rattle.capture_model.specs.declared.time.Nanos.{Nanos}
use Rattle.lapb_link.specs.declared.frames.Place.{Place}
use Rattle.xot_circuits.specs.Items.{Item}
use Rattle.xot_circuits.specs.Items as item
use Rattle.xot_circuits.specs.Plans.{new_channels, plan_of}
use Rattle.xot_circuits.proofs.Found.{plan_within}
use Rattle.capture_report.specs.CircuitRows.{CircuitContent, CircuitRow, Missing, Sent, circuit_row_of, content_on, is_typed_content, is_typed_place, is_typed_row, is_typed_time, row_of_gap, row_on, rows_of_item, sent_or_missing, with_channel}
use Rattle.capture_report.specs.CircuitTexts.{are_typed, circuit_head, circuit_interface, circuit_lines, circuit_printer, circuit_rows, circuit_sight, circuit_text, is_typed_step}
use Rattle.capture_report.specs.CircuitSights.{last_number}
use Rattle.capture_report.specs.Circuits.{All, Of, Step, channel_in, circuits_of, rows_of_steps, rule_of, step_rows, steps_of, wanted_of}
use Rattle.capture_report.specs.Given.{has_ranges}
use Rattle.capture_report.specs.HeaderTexts.{head_text, header_line}
use Rattle.capture_report.specs.Laws.{CircuitRowsLaw, HasRows}
use Rattle.capture_report.specs.Records.{Record}
use Rattle.capture_report.specs.TraceRows.{AreRows, IsContent, IsPlace, IsRow, trace_rows}
use Rattle.capture_report.specs.declared.circuit_row.CircuitRule.{CircuitRule}
use Rattle.capture_report.specs.declared.circuits.SeenCircuit.{SeenCircuit}
use Rattle.capture_report.specs.declared.options.CaptureOptions.{CaptureOptions}
use Rattle.capture_report.proofs.CircuitChannelLemmas.{within_by}
use Rattle.capture_report.proofs.CircuitLineLemmas.{content_with}
use Rattle.capture_report.proofs.HeaderTextLemmas.{head_content, head_is_read, header_read}
use Rattle.capture_report.proofs.HeldLemmas.{both}
use Rattle.capture_report.proofs.LinkLemmas.{bytes_cons}
use Rattle.capture_report.proofs.TraceTextLemmas.{sound_law}

-- ---- what is in the ranges of its types

octets_are : (xs : List ℕ) → list_all (λ x. nat_lt x 256) xs ≡ true → IsBytes xs
octets_are [] h = λ k. omega arith
octets_are (x ∷ xs) h =
    let parts = and_parts (nat_lt x 256) (list_all (λ x. nat_lt x 256) xs) h in
    bytes_cons x xs (ltb-true x 256 parts.0) (octets_are xs parts.1)

time_is : (t : Option Nanos) → is_typed_time t ≡ true → IfSome t (λ t. unsigned_abs t.count < 2 ^ 128)
time_is None h = tt
time_is (Some t) h = ltb-true (unsigned_abs t.count) (2 ^ 128) h

place_is : (p : Place) → is_typed_place p ≡ true → IsPlace p
place_is p h =
    let parts = and_parts (nat_lt p.frame (2 ^ 64)) (is_typed_time p.time) h in
    record { frame = ltb-true p.frame (2 ^ 64) parts.0; time = time_is p.time parts.1 }

-- ---- logical channels

abbrev IsChannel : ℕ → Type 0
IsChannel k = (1 ≤ k) × (k ≤ 4095)

svc_small : (i : Interface) → i.svc ≤ 4095
svc_small i =
    let rest = and_parts (is_numbering i.modulus i.window) (list_any (λ n. i.size == n) packet_sizes && is_channels i.pvc i.incoming i.two_way i.svc) i.lawful in
    let channels = and_parts (list_any (λ n. i.size == n) packet_sizes) (is_channels i.pvc i.incoming i.two_way i.svc) rest.1 in
    let last = and_parts (nat_le 1 i.svc && nat_le i.svc 4095) (nat_le i.pvc i.incoming && (nat_le i.incoming i.two_way && nat_le i.two_way i.svc)) channels.1 in
    leb-true i.svc 4095 (and_parts (nat_le 1 i.svc) (nat_le i.svc 4095) last.0).1

channels_are : (i : Interface) (cs : List SeenCircuit) (n : ℕ) → IfSome (channel_in i cs n) IsChannel
channels_are i cs n =
    let ws = wanted_of cs in
    at (channel_in i cs n) (within_by i cs (plan_of (new_channels i) ws) n (plan_within (new_channels i) ws))
  where
    at : (o : Option ℕ) → IfSome o (λ k. (1 ≤ k) × (k ≤ i.svc)) → IfSome o IsChannel
    at None h = tt
    at (Some k) h = (h.0, omega (arith, h.1, svc_small i))

-- ---- rows

abbrev IsShort : CircuitContent → Type 0
IsShort (Sent s octets) = length octets ≤ 4200
IsShort Missing = Unit {0}

sent_is : (s : Side) (octets : List ℕ) → IsShort (sent_or_missing s octets)
sent_is s octets = at (nat_le (length octets) 4200) refl
  where
    at : (b : Bool) → nat_le (length octets) 4200 ≡ b → IsShort (if b then Sent s octets else Missing)
    at true e = leb-true (length octets) 4200 e
    at false e = tt

short_row : (rule : CircuitRule) (i : Item) → IfSome (circuit_row_of rule i) (λ r. IsShort r.content)
short_row rule (item.Packet s) = sent_is s.side s.octets
short_row rule (item.Gap g) = at (rule.has_beginnings || not g.is_beginning)
  where
    at : (b : Bool) → IfSome (if b then Some (row_of_gap g) else None) (λ r. IsShort r.content)
    at true = tt
    at false = tt
short_row rule i = tt

channel_octets : (k : ℕ) (xs : List ℕ) → k ≤ 4095 → IsBytes xs → IsBytes (with_channel k xs)
channel_octets k [] few h = h
channel_octets k (x ∷ []) few h = h
channel_octets k (x ∷ y ∷ xs) few h =
    let first : x < 256 = h 0 in
    bytes_cons (x / 16 * 16 + k / 256) ((k % 256) ∷ xs) (omega (arith, few, first)) (bytes_cons (k % 256) xs (omega arith) (λ n. h (suc (suc n))))

channel_length : (k : ℕ) (xs : List ℕ) → length (with_channel k xs) ≡ length xs
channel_length k [] = refl
channel_length k (x ∷ []) = refl
channel_length k (x ∷ y ∷ xs) = refl

content_is : (k : ℕ) (c : CircuitContent) → IsChannel k → is_typed_content c ≡ true → IsShort c → IsContent (content_on k c)
content_is k (Sent s octets) on typed short = (channel_octets k octets on.1 (octets_are octets typed), subst (λ n. n ≤ 4200) (sym (channel_length k octets)) short)
content_is k Missing on typed short = on

item_are_rows : (channel : ℕ → Option ℕ) (r : Option CircuitRow) → ((n : ℕ) → IfSome (channel n) IsChannel) → is_typed_row r ≡ true → IfSome r (λ r. IsShort r.content) → AreRows (rows_of_item channel r)
item_are_rows channel None on typed short = tt
item_are_rows channel (Some r) on typed short = at (channel r.connection) (on r.connection)
  where
    parts : (is_typed_place r.place ≡ true) × ((nat_lt r.connection (2 ^ 64) && is_typed_content r.content) ≡ true)
    parts = and_parts (is_typed_place r.place) (nat_lt r.connection (2 ^ 64) && is_typed_content r.content) typed

    more : (nat_lt r.connection (2 ^ 64) ≡ true) × (is_typed_content r.content ≡ true)
    more = and_parts (nat_lt r.connection (2 ^ 64)) (is_typed_content r.content) parts.1

    at : (o : Option ℕ) → IfSome o IsChannel → AreRows (row_on o r)
    at None h = tt
    at (Some k) h = (record { place = place_is r.place parts.0; circuit = ltb-true r.connection (2 ^ 64) more.0; content = content_is k r.content h more.1 short }, tt)

step_are_rows : (rule : CircuitRule) (channel : ℕ → Option ℕ) (s : Step) → ((n : ℕ) → IfSome (channel n) IsChannel) → is_typed_step rule s ≡ true → AreRows (step_rows rule channel s)
step_are_rows rule channel (All p) on typed = (record { place = place_is p typed; circuit = tt; content = tt }, tt)
step_are_rows rule channel (Of i) on typed = item_are_rows channel (circuit_row_of rule i) on typed (short_row rule i)

steps_are_rows : (rule : CircuitRule) (channel : ℕ → Option ℕ) (ss : List Step) → ((n : ℕ) → IfSome (channel n) IsChannel) → are_typed rule ss ≡ true → AreRows (rows_of_steps rule channel ss)
steps_are_rows rule channel [] on typed = tt
steps_are_rows rule channel (s ∷ ss) on typed =
    let parts = and_parts (is_typed_step rule s) (are_typed rule ss) typed in
    both IsRow (step_rows rule channel s) (rows_of_steps rule channel ss) (step_are_rows rule channel s on parts.0) (steps_are_rows rule channel ss on parts.1)

pub circuit_rows_law : CircuitRowsLaw
circuit_rows_law o records i = let cs = circuits_of o records in steps_are_rows (rule_of o) (channel_in i cs) (steps_of o records) (channels_are i cs)

-- ---- the text

-- a text with the header of an interface
text_read : (o : CaptureOptions) (records : List Record) (i : Interface) (text : List ℕ) → are_typed (rule_of o) (steps_of o records) ≡ true
    → circuit_lines o records i ≡ text → fault text ≡ None → HasRows text i (trace_rows (circuit_printer o records) (circuit_rows o records i))
text_read o records i text typed same sound =
    let v = circuit_sight o records in
    let cs = circuits_of o records in
    let head = head_text i v o.header in
    let header = header_line (has_ranges o.header) i in
    let lines = content_with head header (channel_in i cs) cs (head_content i v o.header) (head_is_read i v o.header).whole in
    let by_frames = nat_le (last_number (rule_of o) (steps_of o records) 0) 999999999 in
    subst (λ text. HasRows text i (trace_rows (circuit_printer o records) (circuit_rows o records i))) same
    (sound_law i (circuit_head o records i) header by_frames false (circuit_rows o records i) lines.0 (header_read (has_ranges o.header) i) lines.1 (circuit_rows_law o records i typed) (ap fault same ∙ sound))

text_with : (o : CaptureOptions) (records : List Record) (text : List ℕ) → are_typed (rule_of o) (steps_of o records) ≡ true → (found : Option Interface)
    → option_map (circuit_lines o records) found ≡ Some text → fault text ≡ None → (i : Interface) × (found ≡ Some i) × HasRows text i (trace_rows (circuit_printer o records) (circuit_rows o records i))
text_with o records text typed None same sound = cc same
text_with o records text typed (Some i) same sound = (i, refl, text_read o records i text typed (cc same) sound)

pub circuits_read : (o : CaptureOptions) (records : List Record) (text : List ℕ) → circuit_text o records ≡ Some text → fault text ≡ None
    → (i : Interface) × (circuit_interface o records ≡ Some i) × HasRows text i (trace_rows (circuit_printer o records) (circuit_rows o records i))
circuits_read o records text = at (are_typed (rule_of o) (steps_of o records)) refl
  where
    at : (b : Bool) → are_typed (rule_of o) (steps_of o records) ≡ b → (if b then option_map (circuit_lines o records) (circuit_interface o records) else None) ≡ Some text → fault text ≡ None
        → (i : Interface) × (circuit_interface o records ≡ Some i) × HasRows text i (trace_rows (circuit_printer o records) (circuit_rows o records i))
    at true typed same sound = text_with o records text typed (circuit_interface o records) same sound
    at false typed same sound = cc same
