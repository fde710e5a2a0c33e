-- What is seen of the circuits of a capture, step by step.
use Rattle.std.proofs.Common.{◌≡◌, ◌∙◌, ap, append_assoc, subst, sym}
use Rattle.std.specs.Prelude.{ℕ, ◌&&◌, nat_le, true, false, List, [], ◌∷◌, ◌++◌, Option, None, Some, refl, if◌then◌else◌, option_map, Result, Ok, Err, OnOk}
use Rattle.std.specs.Option.{option_to_list}
use Rattle.line_model.specs.declared.interface.Interface.{Interface}
use Rattle.line_model.specs.text.Header.{interface_with}
use Rattle.capture_report.specs.CircuitChannels.{channel_of}
use Rattle.capture_report.specs.CircuitReadings.{AreSeen, HasCircuits, IsCircuitReader, IsLast, IsPassed, IsPassedOn, IsPassedUpTo, circuits_found, counts_with, last_steps, lines_with, record_steps, text_with}
use Rattle.capture_report.specs.CircuitLines.{circuits_text}
use Rattle.capture_report.specs.CircuitSights.{CircuitSight, CircuitsFound, first_circuit_sight, sight_in, steps_seen}
use Rattle.capture_report.specs.CircuitTexts.{are_typed, circuit_interface, circuit_lines, circuit_text, counts_of_circuits}
use Rattle.capture_report.specs.Circuits.{Step, channel_in, dropped_steps, frame_steps, given_with, reader_after, rows_of_steps, rule_of, steps_from, steps_of}
use Rattle.capture_report.specs.HeaderTexts.{head_text}
use Rattle.capture_report.specs.Headers.{numbers_with}
use Rattle.capture_report.specs.OtherPorts.{frame_sighted, no_ports, ports_from}
use Rattle.capture_report.specs.Reasons.{counts_from, last_counted, no_counts, record_counted}
use Rattle.capture_report.specs.Records.{Follows, Record}
use Rattle.capture_report.specs.Segments.{XotReader, new_reader, reader_of}
use Rattle.capture_report.specs.Texts.{Page, first_printer, rows_printed}
use Rattle.capture_report.specs.Traces.{text_left}
use Rattle.capture_report.specs.declared.circuit_reading.CircuitPass.{CircuitPass}
use Rattle.capture_report.specs.declared.circuit_reading.CircuitReading.{CircuitReading}
use Rattle.capture_report.specs.declared.circuit_row.CircuitRule.{CircuitRule}
use Rattle.capture_report.specs.declared.options.CaptureOptions.{CaptureOptions}
use Rattle.capture_report.specs.declared.print.Printer.{Printer}
use Rattle.capture_report.specs.declared.reader.CircuitReader.{CircuitReader}
use Rattle.capture_report.specs.declared.reader.Reader.{Reader}
use Rattle.capture_report.specs.declared.reader.Reader.TheVariants.{Circuits}
use Rattle.capture_report.proofs.CircuitLemmas.{steps_append, typed_append}

-- ---- one step after another

same_rule : (xs : List Step) (a b : CircuitSight) → AreSeen xs a b → b.rule ≡ a.rule
same_rule xs a b s = ap (λ (c : CircuitSight). c.rule) s.sight

pub seen_none : (c : CircuitSight) → AreSeen [] c c
seen_none c = record { sight = refl; typed = refl }

pub seen_both : (xs ys : List Step) (a b c : CircuitSight) → AreSeen xs a b → AreSeen ys b c → AreSeen (xs ++ ys) a c
seen_both xs ys a b c s t = record {
  sight = t.sight ∙ ap (steps_seen ys) s.sight ∙ sym (steps_append xs ys a);
  typed = typed_append a.rule xs ys ∙ ap (λ p. p && are_typed a.rule ys) s.typed ∙ ap (λ r. are_typed r ys) (sym (same_rule xs a b s)) ∙ t.typed;
}

-- the frames that were dropped, and then a frame
pub seen_record : {T E : Type 0} (r : Result T E) (next : Record) (x y : XotReader) (a b c : CircuitSight) → y ≡ x → AreSeen (dropped_steps next.dropped x) a b → OnOk r (AreSeen (frame_steps next.frame y) b c)
    → OnOk r (AreSeen (record_steps next x) a c)
seen_record (Ok v) next x y a b c same s t = seen_both (dropped_steps next.dropped x) (frame_steps next.frame x) a b c s (subst (λ z. AreSeen (frame_steps next.frame z) b c) same t)
seen_record (Err e) next x y a b c same s t = tt

-- what is left at the end was seen
pub last_seen : {T E : Type 0} (r : Result T E) (p q : CircuitPass) → q.counts ≡ last_counted (reader_of p.frames) p.counts → q.ports ≡ p.ports
    → OnOk r (AreSeen (last_steps (reader_of p.frames)) (sight_in p.circuits) (sight_in q.circuits)) → OnOk r (IsLast p q)
last_seen (Ok v) p q counts ports seen = record { seen = seen; counts = counts; ports = ports }
last_seen (Err e) p q counts ports seen = tt

-- what comes next was seen
pub passed_next : (before after : Option (List Record)) (latest : Option Record) (p q : CircuitPass) (next : Record) → Follows before after latest → latest ≡ Some next
    → reader_of q.frames ≡ reader_after next.frame (reader_of p.frames) → AreSeen (record_steps next (reader_of p.frames)) (sight_in p.circuits) (sight_in q.circuits)
    → q.counts ≡ record_counted next (reader_of p.frames) p.counts → q.ports ≡ frame_sighted next.frame (reader_of p.frames) p.ports → IsPassedOn before after p q true
passed_next before after latest p q next follows is reader seen counts ports = λ records e.
    let f = follows.shown records e in
    (f.0, f.1, record { next = next; split = f.2 ∙ ap (λ o. option_to_list o ++ f.0) is; reader = reader; seen = seen; counts = counts; ports = ports })

-- ---- a pass

pub passed_none : (left : Option (List Record)) (first : XotReader) (none : CircuitSight) (p : CircuitPass) → reader_of p.frames ≡ first → sight_in p.circuits ≡ none → p.counts ≡ no_counts → p.ports ≡ no_ports → IsPassedUpTo left left first none p
passed_none left first none p reader sight counts ports = λ records e. (
  records,
  e,
  record {
    sight = ap (λ x. steps_seen (steps_from x records) none) (sym reader) ∙ ap (steps_seen (steps_from (reader_of p.frames) records)) (sym sight);
    typed = ap (λ x. are_typed none.rule (steps_from x records)) (sym reader) ∙ ap (λ (c : CircuitSight). are_typed c.rule (steps_from (reader_of p.frames) records)) (sym sight);
    counts = ap (λ x. counts_from x records no_counts) (sym reader) ∙ ap (counts_from (reader_of p.frames) records) (sym counts);
    ports = ap (λ x. ports_from x records no_ports) (sym reader) ∙ ap (ports_from (reader_of p.frames) records) (sym ports);
  },
)

-- what comes next is seen before the rest
steps_more : (x y : XotReader) (records rest : List Record) (next : Record) → records ≡ next ∷ rest → y ≡ reader_after next.frame x → steps_from x records ≡ record_steps next x ++ steps_from y rest
steps_more x y records rest next split reader =
    ap (steps_from x) split
    ∙ sym (append_assoc (dropped_steps next.dropped x) (frame_steps next.frame x) (steps_from (reader_after next.frame x) rest))
    ∙ ap (λ z. record_steps next x ++ steps_from z rest) (sym reader)

seen_on : (xs ys : List Step) (a b : CircuitSight) → AreSeen xs a b → steps_seen (xs ++ ys) a ≡ steps_seen ys b
seen_on xs ys a b s = steps_append xs ys a ∙ ap (steps_seen ys) (sym s.sight)

typed_on : (xs ys : List Step) (a b : CircuitSight) → AreSeen xs a b → are_typed a.rule (xs ++ ys) ≡ are_typed b.rule ys
typed_on xs ys a b s = typed_append a.rule xs ys ∙ ap (λ p. p && are_typed a.rule ys) s.typed ∙ ap (λ r. are_typed r ys) (sym (same_rule xs a b s))

pub passed_more : (before middle after : Option (List Record)) (first : XotReader) (none : CircuitSight) (p q : CircuitPass) → IsPassedUpTo before middle first none p → IsPassedOn middle after p q true → IsPassedUpTo before after first none q
passed_more before middle after first none p q s t = λ records e.
    let a = s records e in
    let b = t a.0 a.1 in
    let xs = record_steps b.2.next (reader_of p.frames) in
    let ys = steps_from (reader_of q.frames) b.0 in
    let same = steps_more (reader_of p.frames) (reader_of q.frames) a.0 b.0 b.2.next b.2.split b.2.reader in (
      b.0,
      b.1,
      record {
        sight = a.2.sight ∙ ap (λ ss. steps_seen ss (sight_in p.circuits)) same ∙ seen_on xs ys (sight_in p.circuits) (sight_in q.circuits) b.2.seen;
        typed = a.2.typed ∙ ap (are_typed (sight_in p.circuits).rule) same ∙ typed_on xs ys (sight_in p.circuits) (sight_in q.circuits) b.2.seen;
        counts = a.2.counts ∙ ap (λ rs. counts_from (reader_of p.frames) rs p.counts) b.2.split ∙ ap (λ x. counts_from x b.0 (record_counted b.2.next (reader_of p.frames) p.counts)) (sym b.2.reader)
            ∙ ap (counts_from (reader_of q.frames) b.0) (sym b.2.counts);
        ports = a.2.ports ∙ ap (λ rs. ports_from (reader_of p.frames) rs p.ports) b.2.split ∙ ap (λ x. ports_from x b.0 (frame_sighted b.2.next.frame (reader_of p.frames) p.ports)) (sym b.2.reader)
            ∙ ap (ports_from (reader_of q.frames) b.0) (sym b.2.ports);
      },
    )

pub passed_all : (before middle after : Option (List Record)) (o : CaptureOptions) (p q : CircuitPass) → IsPassedUpTo before middle (new_reader o) (first_circuit_sight (rule_of o)) p → IsPassedOn middle after p q false → IsPassed before o q
passed_all before middle after o p q s t = λ records e.
    let a = s records e in
    let same = ap (steps_from (reader_of p.frames)) (t.0 a.0 a.1) in record {
      seen = record {
        sight = t.1.seen.sight ∙ sym (a.2.sight ∙ ap (λ ss. steps_seen ss (sight_in p.circuits)) same);
        typed = a.2.typed ∙ ap (are_typed (sight_in p.circuits).rule) same ∙ t.1.seen.typed;
      };
      counts = t.1.counts ∙ sym (a.2.counts ∙ ap (λ rs. counts_from (reader_of p.frames) rs p.counts) (t.0 a.0 a.1));
      ports = t.1.ports ∙ sym (a.2.ports ∙ ap (λ rs. ports_from (reader_of p.frames) rs p.ports) (t.0 a.0 a.1));
    }

-- ---- the text

-- the lines that stand on the page of a reader, and those of the rows that it reads
pub reader_made : (o : CaptureOptions) (c : CircuitsFound) (i : Interface) (r : CircuitReader) (reader : Reader) (head : List ℕ) → reader ≡ Circuits r → reader_of r.frames ≡ new_reader o
    → r.page.rule ≡ rule_of o → channel_of r.page.channels ≡ channel_in i c.circuits
    → r.page.page ≡ record { printer = first_printer (nat_le c.number 999999999) false; text = head ++ circuits_text (channel_of r.page.channels) c.circuits } → head ≡ head_text i c.seen o.header
    → interface_with (numbers_with (given_with o.header c.circuits) c.seen) ≡ Some i → (records : List Record) → text_left (Some records) reader 0 ≡ text_with o c records
reader_made o c i r reader head is frames rule same page text header records =
    ap (λ r. text_left (Some records) r 0) is
    ∙ ap (λ (p : Page). Some (p.text ++ rows_printed p.printer (rows_of_steps r.page.rule (channel_of r.page.channels) (steps_from (reader_of r.frames) records)))) page
    ∙ ap (λ (u : CircuitRule). Some ((head ++ circuits_text (channel_of r.page.channels) c.circuits) ++ rows_printed printer (rows_of_steps u (channel_of r.page.channels) (steps_from (reader_of r.frames) records)))) rule
    ∙ ap (λ x. Some ((head ++ circuits_text (channel_of r.page.channels) c.circuits) ++ rows_printed printer (rows_of_steps (rule_of o) (channel_of r.page.channels) (steps_from x records)))) frames
    ∙ ap (λ (f : ℕ → Option ℕ). Some ((head ++ circuits_text f c.circuits) ++ rows_printed printer (rows_of_steps (rule_of o) f (steps_of o records)))) same
    ∙ ap (λ xs. Some ((xs ++ circuits_text (channel_in i c.circuits) c.circuits) ++ rows_printed printer (rows_of_steps (rule_of o) (channel_in i c.circuits) (steps_of o records)))) text
    ∙ sym (ap (option_map (lines_with o c records)) header)
  where
    printer : Printer
    printer = first_printer (nat_le c.number 999999999) false

-- the text of the circuits that were found is that of the capture
same_text : (o : CaptureOptions) (records : List Record) (typed : are_typed (rule_of o) (steps_of o records) ≡ true) → text_with o (circuits_found o records) records ≡ circuit_text o records
same_text o records typed = sym (ap (λ b. if b then option_map (circuit_lines o records) (circuit_interface o records) else None) typed)

pub text_made : (o : CaptureOptions) (records : List Record) (c : CircuitReading) (reader : Reader) → HasCircuits o records c → IsCircuitReader c reader → text_left (Some records) reader 0 ≡ circuit_text o records
text_made o records c reader has is =
    is records
    ∙ ap (λ p. text_with p c.circuits records) has.options
    ∙ ap (λ d. text_with o d records) has.circuits
    ∙ same_text o records has.typed

-- what was counted
pub counts_made : (o : CaptureOptions) (records : List Record) (c : CircuitReading) → HasCircuits o records c → counts_with c.options c.circuits c.counts ≡ counts_of_circuits o records
counts_made o records c has =
    ap (λ p. counts_with p c.circuits c.counts) has.options ∙ ap (λ d. counts_with o d c.counts) has.circuits ∙ ap (counts_with o (circuits_found o records)) has.counts
