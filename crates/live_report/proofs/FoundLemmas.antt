-- What a trace text found so far grows with it.
use Rattle.std.proofs.Common.{◌≡◌, ◌∙◌, sym, ap, refl, subst, ℕ, ◌≤◌, List, [], ◌++◌, map, length, Option, Some, None, append-nil, append_assoc, arith}
use Rattle.std.specs.Option.{option_to_list}
use Rattle.line_model.specs.declared.interface.Interface.{Interface}
use Rattle.line_model.specs.declared.finding.Finding.{Finding}
use Rattle.line_model.specs.declared.fault.Fault.{Fault}
use Rattle.line_model.specs.declared.fault.Fault.TheVariants.{Memory, Trace, Read, Write, Start, Double, UnknownPiece, Missing}
use Rattle.line_model.specs.observer.Machine.{walk}
use Rattle.line_model.specs.observer.MachineEvents.{walk_events}
use Rattle.line_model.specs.observer.Observer.{event_of, start, x25}
use Rattle.line_model.specs.basics.Records.{Row, Item}
use Rattle.line_model.specs.observer.Report.{findings_of, report_of}
use Rattle.line_model.specs.text.Text.{early_head, early_rows}
use Rattle.restart_epochs.proofs.LevelFindings.{events_append}
use Rattle.trace_text.specs.Represents.{AreKnown}
use Rattle.live_report.specs.Found.{HasFound, IsFoundUpTo, found, found_at}
use Rattle.live_report.proofs.FindingLemmas.{findings_append}
use Rattle.line_model.specs.packets.Says.{items_of}
use Rattle.line_model.proofs.Saying.{items_more}

-- more rows find more
pub findings_grow : (i : Interface) (rs more : List Item) → (others : List Finding) × ((report_of i (rs ++ more)).findings ≡ (report_of i rs).findings ++ others)
findings_grow i rs more =
    let after = walk (x25 i) (start i) rs in (
      findings_of (map event_of (walk_events (x25 i) after more)),
      ap (λ l. findings_of (map event_of l)) (events_append (x25 i) (start i) rs more) ∙ findings_append (walk_events (x25 i) (start i) rs) (walk_events (x25 i) after more),
    )

-- what is found under a header
pub found_under : (i : Interface) (text : List ℕ) → early_head text ≡ Some i → found text ≡ found_at i text
found_under i text h = ap (λ o. elim o as (λ _. List Finding) [ None ↦ [] | Some j ↦ found_at j text ]) h

no_rows_found : (o : Option Interface) (rows : List Row) → rows ≡ [] → (elim o as (λ _. List Finding) [ None ↦ [] | Some j ↦ (report_of j (items_of j rows)).findings ]) ≡ []
no_rows_found None rows h = refl
no_rows_found (Some j) rows h = ap (λ rs. (report_of j (items_of j rs)).findings) h

-- without rows nothing is found
pub nothing_found : (text : List ℕ) → early_rows text ≡ [] → found text ≡ []
nothing_found text h = no_rows_found (early_head text) (early_rows text) h

pub at_most_one : (o : Option Finding) → length (option_to_list o) ≤ 1
at_most_one None = omega arith
at_most_one (Some f) = omega arith

-- ---- lists that grow alike

pub found_none : (out known : List Finding) → HasFound out out known known
found_none out known = record { more = []; out_has = sym (append-nil out); known_has = sym (append-nil known) }

pub found_next : (a b c k l m : List Finding) → HasFound a b k l → HasFound b c l m → HasFound a c k m
found_next a b c k l m f g = record {
  more = f.more ++ g.more;
  out_has = g.out_has ∙ ap (λ xs. xs ++ g.more) f.out_has ∙ append_assoc a f.more g.more;
  known_has = g.known_has ∙ ap (λ xs. xs ++ g.more) f.known_has ∙ append_assoc k f.more g.more;
}

-- where memory ran out, all that was not appended is left
pub found_some : (f : Fault) (a b k l m : List Finding) → f ≡ Memory → HasFound a b k l → ((rest : List Finding) × (m ≡ l ++ rest)) → IsFoundUpTo f a b k m
found_some f a b k l m e h more =
    subst (λ x. IsFoundUpTo x a b k m) (sym e)
    (record { more = h.more; rest = more.0; out_has = h.out_has; known_has = more.1 ∙ ap (λ xs. xs ++ more.0) h.known_has ∙ append_assoc k h.more more.0 })

-- at a refusal the findings of all rows before the faulty line are known
pub found_refused : (f : Fault) (i : Interface) (given all : List ℕ) (a b k : List Finding) → HasFound a b k (found_at i given) → AreKnown (early_rows given) (early_rows all) f → IsFoundUpTo f a b k (found_at i all)
found_refused Memory i given all a b k h r =
    let grown = findings_grow i (items_of i (early_rows given)) (items_of i r.0) in
    found_some Memory a b k (found_at i given) (found_at i all) refl h (grown.0, ap (λ rows. (report_of i (items_of i rows)).findings) r.1 ∙ ap (λ items. (report_of i items).findings) (items_more i (early_rows given) r.0) ∙ grown.1)
found_refused (Trace line kind) i given all a b k h r = subst (λ m. HasFound a b k m) (ap (λ rows. (report_of i (items_of i rows)).findings) (sym r)) h
found_refused Read i given all a b k h r = absurd r
found_refused Write i given all a b k h r = absurd r
found_refused Start i given all a b k h r = absurd r
found_refused (Double n) i given all a b k h r = absurd r
found_refused (UnknownPiece n) i given all a b k h r = absurd r
found_refused (Missing n) i given all a b k h r = absurd r

-- after what a first row found
pub found_up_to : (f : Fault) (a b c k l m : List Finding) → HasFound a b k l → IsFoundUpTo f b c l m → IsFoundUpTo f a c k m
found_up_to Memory a b c k l m f g = record {
  more = f.more ++ g.more;
  rest = g.rest;
  out_has = g.out_has ∙ ap (λ xs. xs ++ g.more) f.out_has ∙ append_assoc a f.more g.more;
  known_has = g.known_has ∙ ap (λ xs. xs ++ (g.more ++ g.rest)) f.known_has ∙ append_assoc k f.more (g.more ++ g.rest) ∙ ap (λ xs. k ++ xs) (sym (append_assoc f.more g.more g.rest));
}
found_up_to _ a b c k l m f g = found_next a b c k l m f g

-- before the header and its first row nothing is found
pub found_unheaded : (f : Fault) (text all : List ℕ) (out : List Finding) → early_rows text ≡ [] → AreKnown (early_rows text) (early_rows all) f → IsFoundUpTo f out out (found text) (found all)
found_unheaded Memory text all out none r =
    found_some Memory out out (found text) (found text) (found all) refl (found_none out (found text)) (found all, ap (λ xs. xs ++ found all) (sym (nothing_found text none)))
found_unheaded (Trace line kind) text all out none r =
    subst (λ x. HasFound out out (found text) x) (nothing_found text none ∙ sym (nothing_found all (r ∙ none))) (found_none out (found text))
found_unheaded Read text all out none r = absurd r
found_unheaded Write text all out none r = absurd r
found_unheaded Start text all out none r = absurd r
found_unheaded (Double n) text all out none r = absurd r
found_unheaded (UnknownPiece n) text all out none r = absurd r
found_unheaded (Missing n) text all out none r = absurd r
