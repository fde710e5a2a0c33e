-- What was found so far comes first in what is found of each text that goes on, and in its report.
use Rattle.std.proofs.Common.{◌≡◌, ◌∙◌, sym, ap, refl, ℕ, ◌+◌, ◌-◌, ◌≤◌, List, [], ◌∷◌, ◌++◌, length, Option, Some, None, take, arith, append-nil, append_assoc, length-append}
use Rattle.std.specs.Option.{option_or, option_map}
use Rattle.std.proofs.lemmas.Grind.{flat_map-append}
use Rattle.std.proofs.lemmas.List.{take-append-le}
use Rattle.line_model.specs.declared.fault.Kind.{Kind}
use Rattle.line_model.specs.declared.finding.Finding.{Finding}
use Rattle.line_model.specs.declared.interface.Interface.{Interface}
use Rattle.line_model.specs.basics.Records.{Report}
use Rattle.line_model.specs.observer.Report.{finding_line, report, report_of}
use Rattle.line_model.specs.text.Text.{Line, begun_kind, begun_line, early, early_head, early_rows, end_kind, ended_lines, fault, first_fault, good_lines, head, head_of, line_kind, rows, rows_in, size_kind, size_of}
use Rattle.line_model.specs.traces.Traces.{trace_report}
use Rattle.report_merge.specs.Parts.{findings_text, rest_text}
use Rattle.report_merge.proofs.WrittenLemmas.{two_parts}
use Rattle.line_model.proofs.FinalFaults.{early-append, no_size_fault, small_lines, both_none}
use Rattle.line_model.proofs.TextRows.{early_head_law, early_rows_law}
use Rattle.trace_text.proofs.FeedLemmas.{early-none, map_none}
use Rattle.trace_text.proofs.Grows.{early_head_stays}
use Rattle.trace_text.proofs.RefusalLemmas.{more_lines, rows_grow}
use Rattle.live_report.specs.Found.{found, found_at, found_text}
use Rattle.live_report.specs.Laws.{GrowthLaw, ReportLaw}
use Rattle.live_report.proofs.FoundLemmas.{findings_grow, found_under}
use Rattle.line_model.specs.packets.Says.{items_of}
use Rattle.line_model.proofs.Saying.{items_more}

pub lines_more : (a b : List Finding) → findings_text (a ++ b) ≡ findings_text a ++ findings_text b
lines_more a b = flat_map-append finding_line a b

-- without a header nothing is found
found_unheaded : (text : List ℕ) → early_head text ≡ None → found text ≡ []
found_unheaded text h = ap (λ o. elim o as (λ _. List Finding) [ None ↦ [] | Some j ↦ found_at j text ]) h

-- ---- a faulty line stays

line_within : (before ls : List Line) (at : ℕ × Kind) → first_fault before ls ≡ Some at → at.0 ≤ length before + length ls
line_within before [] at h = absurd (cc)
line_within before (l ∷ ls) at h = here (line_kind before 1 l) h (line_within (before ++ l ∷ []) ls at)
  where
    here : (o : Option Kind) → (elim o as (λ _. Option (ℕ × Kind)) [ Some kind ↦ Some (length before + 1, kind) | None ↦ first_fault (before ++ l ∷ []) ls ]) ≡ Some at
        → (first_fault (before ++ l ∷ []) ls ≡ Some at → at.0 ≤ length (before ++ l ∷ []) + length ls) → at.0 ≤ length before + length (l ∷ ls)
    here (Some kind) e later = let same : (length before + 1, kind) ≡ at = cc in omega (arith, ap (λ p. p.0) same)
    here None e later = omega (arith, later e, length-append before (l ∷ []))

either : (a b : Option (ℕ × Kind)) (n : ℕ) (at : ℕ × Kind) → option_or a b ≡ Some at → (a ≡ Some at → at.0 ≤ n) → (b ≡ Some at → at.0 ≤ n) → at.0 ≤ n
either (Some x) b n at h f g = f h
either None b n at h f g = g h

at_last : (o : Option Kind) (n : ℕ) (at : ℕ × Kind) → option_map (λ kind. (n, kind)) o ≡ Some at → at.0 ≤ n
at_last (Some kind) n at h = let same : (n, kind) ≡ at = cc in omega (arith, ap (λ p. p.0) same)
at_last None n at h = absurd (cc)

early_line : (text : List ℕ) (at : ℕ × Kind) → early text ≡ Some at → at.0 - 1 ≤ length (ended_lines text)
unfolding early
early_line text at h =
    let size = size_kind (size_of (ended_lines text)) 0 (length (begun_line text)) in
    let n = length (ended_lines text) in
    let le : at.0 ≤ n + 1 = either (first_fault [] (ended_lines text)) (option_map (λ kind. (n + 1, kind)) size) (n + 1) at h
    (λ e. let within = line_within [] (ended_lines text) at e in omega (arith, within)) (at_last size (n + 1) at) in
    omega (arith, le)

same_good : (text more : List ℕ) (at : ℕ × Kind) → early text ≡ Some at → good_lines (Some at) (ended_lines (text ++ more)) ≡ good_lines (Some at) (ended_lines text)
same_good text more at h =
    let lines = more_lines text more in
    ap (take (at.0 - 1)) lines.1 ∙ take-append-le (at.0 - 1) (ended_lines text) lines.0 (early_line text at h)

head_kept : (text more : List ℕ) (at : ℕ × Kind) → early text ≡ Some at → early_head (text ++ more) ≡ early_head text
unfolding early_head
head_kept text more at h =
    ap (λ a. head_of (good_lines a (ended_lines (text ++ more)))) (early-append text more at h) ∙ ap head_of (same_good text more at h)
    ∙ ap (λ a. head_of (good_lines a (ended_lines text))) (sym h)

rows_kept : (text more : List ℕ) (at : ℕ × Kind) → early text ≡ Some at → early_rows (text ++ more) ≡ early_rows text
unfolding early_rows
rows_kept text more at h =
    ap (λ a. rows_in (good_lines a (ended_lines (text ++ more)))) (early-append text more at h) ∙ ap rows_in (same_good text more at h)
    ∙ ap (λ a. rows_in (good_lines a (ended_lines text))) (sym h)

found_kept : (text more : List ℕ) (at : ℕ × Kind) → early text ≡ Some at → found (text ++ more) ≡ found text
found_kept text more at h =
    ap (λ o. elim o as (λ _. List Finding) [ None ↦ [] | Some j ↦ found_at j (text ++ more) ]) (head_kept text more at h)
    ∙ ap (λ rs. elim (early_head text) as (λ _. List Finding) [ None ↦ [] | Some j ↦ (report_of j (items_of j rs)).findings ]) (rows_kept text more at h)

-- ---- a text without a fault so far

found_on : (text more : List ℕ) (o : Option Interface) → early_head text ≡ o → early text ≡ None → (rest : List Finding) × (found (text ++ more) ≡ found text ++ rest)
found_on text more None e h = (found (text ++ more), ap (λ xs. xs ++ found (text ++ more)) (sym (found_unheaded text e)))
found_on text more (Some i) e h =
    let rs = rows_grow text more h in
    let grown = findings_grow i (items_of i (early_rows text)) (items_of i rs.0) in (
      grown.0,
      found_under i (text ++ more) (early_head_stays text more i h e) ∙ ap (λ l. (report_of i (items_of i l)).findings) rs.1 ∙ ap (λ l. (report_of i l).findings) (items_more i (early_rows text) rs.0) ∙ grown.1 ∙ ap (λ xs. xs ++ grown.0) (sym (found_under i text e)),
    )

found_grows : (text more : List ℕ) (o : Option (ℕ × Kind)) → early text ≡ o → (rest : List Finding) × (found (text ++ more) ≡ found text ++ rest)
found_grows text more (Some at) h = ([], found_kept text more at h ∙ sym (append-nil (found text)))
found_grows text more None h = found_on text more (early_head text) refl h

pub growth : GrowthLaw
growth text more =
    let grown = found_grows text more (early text) refl in
    (findings_text grown.0, ap findings_text grown.1 ∙ lines_more (found text) grown.0)

-- ---- the report

some_same : (i j : Interface) → Some i ≡ Some j → i ≡ j
some_same i j h = cc

in_report : (given rest : List ℕ) (i : Interface) (o : Option Interface) → early_head given ≡ o → early given ≡ None → head (given ++ rest) ≡ Some i → (others : List Finding) × ((report_of i (items_of i (rows (given ++ rest)))).findings ≡ found given ++ others)
in_report given rest i None e h is = ((report_of i (items_of i (rows (given ++ rest)))).findings, ap (λ xs. xs ++ (report_of i (items_of i (rows (given ++ rest)))).findings) (sym (found_unheaded given e)))
in_report given rest i (Some j) e h is =
    let same : j ≡ i = some_same j i (sym (early_head_law given rest j e) ∙ is) in
    let rs = early_rows_law given rest in
    let grown = findings_grow i (items_of i (early_rows given)) (items_of i rs.0) in
    (grown.0, ap (λ l. (report_of i (items_of i l)).findings) rs.1 ∙ ap (λ l. (report_of i l).findings) (items_more i (early_rows given) rs.0) ∙ grown.1 ∙ ap (λ xs. xs ++ grown.0) (ap (λ k. found_at k given) (sym same) ∙ sym (found_under j given e)))

-- the findings so far come first in the report of a trace text
pub found_in_report : (given rest : List ℕ) (i : Interface) → early given ≡ None → head (given ++ rest) ≡ Some i → (others : List Finding) × ((report_of i (items_of i (rows (given ++ rest)))).findings ≡ found given ++ others)
found_in_report given rest i h is = in_report given rest i (early_head given) refl h is

report_text_in : (text more : List ℕ) (o : Option Interface) → head (text ++ more) ≡ o → early text ≡ None → (rest : List ℕ) × (trace_report (text ++ more) ≡ found_text text ++ rest)
report_text_in text more (Some i) e h =
    let others = found_in_report text more i h e in
    let r : Report = report_of i (items_of i (rows (text ++ more))) in (
      findings_text others.0 ++ rest_text r,
      ap (λ o. elim o as (λ _. List ℕ) [ None ↦ [] | Some j ↦ report j (items_of j (rows (text ++ more))) ]) e ∙ sym (two_parts r)
          ∙ ap (λ xs. xs ++ rest_text r) (ap findings_text others.1 ∙ lines_more (found text) others.0) ∙ append_assoc (found_text text) (findings_text others.0) (rest_text r),
    )
report_text_in text more None e h =
    let none : found_text text ≡ [] = headless (early_head text) refl in
    (trace_report (text ++ more), ap (λ xs. xs ++ trace_report (text ++ more)) (sym none))
  where
    headless : (o : Option Interface) → early_head text ≡ o → found_text text ≡ []
    headless None k = ap findings_text (found_unheaded text k)
    headless (Some j) k = absurd (let bad : None ≡ Some j = sym e ∙ early_head_law text more j k in cc)

-- ---- a text without a fault has none so far

pub no_fault_so_far : (text : List ℕ) → fault text ≡ None → early text ≡ None
unfolding fault
no_fault_so_far text h =
    let es = ended_lines text in
    let b = begun_line text in
    let p = both_none (first_fault [] es) (end_kind es b) h in
    let begun = map_none (λ kind. (length es + 1, kind)) (begun_kind es b) (both_none _ _ p.1).0 in
    early-none text p.0 (no_size_fault es b (small_lines [] es (omega arith) p.0) begun)

sound_before : (text more : List ℕ) (o : Option (ℕ × Kind)) → early text ≡ o → early (text ++ more) ≡ None → o ≡ None
sound_before text more None e h = refl
sound_before text more (Some at) e h = absurd (let bad : Some at ≡ None = sym (early-append text more at e) ∙ h in cc)

pub reported : ReportLaw
reported text more h = report_text_in text more (head (text ++ more)) refl (sound_before text more (early text) refl (no_fault_so_far (text ++ more) h))
