-- The lines of findings, and what these add up to.
use Rattle.std.proofs.Common.{◌≡◌, ◌∙◌, sym, ap, subst, refl, ℕ, ◌+◌, Bool, false, List, [], ◌∷◌, ◌++◌, Option, Some, None, Result, Ok, Err, OnOk, append-nil}
use Rattle.std.specs.Prelude.{◌==◌, codes, decimal, if◌then◌else◌}
use Rattle.std.specs.List.{AllByRecursion}
use Rattle.std.specs.Option.{option_to_list}
use Rattle.std.proofs.lemmas.Grind.{flat_map-append}
use Rattle.line_model.specs.basics.Records.{Item, Report, Row}
use Rattle.line_model.specs.declared.finding.Finding.{Finding}
use Rattle.line_model.specs.declared.interface.Interface.{Interface}
use Rattle.line_model.specs.observer.Report.{report_of}
use Rattle.line_model.specs.packets.Says.{item_of, items_of}
use Rattle.annotated_trace.specs.Annotation.{IsOneLine}
use Rattle.annotated_trace.specs.Printed.{HasAppended}
use Rattle.annotated_trace.specs.Rows.{is_chosen, is_chosen_if}
use Rattle.annotated_trace.specs.declared.rows.Rows.{Rows}
use Rattle.descriptions.specs.Choosing.{picked_where}
use Rattle.descriptions.specs.Facts.{AreFactsOf}
use Rattle.descriptions.specs.FindingLines.{AreDetails, IsFindingLine, IsFindingOf, IsFindingSums, IsFindingWhere, detail, finding_head, sides_words, sums_line}
use Rattle.descriptions.specs.Follows.{follows_at}
use Rattle.descriptions.specs.RowCalls.{row_call}
use Rattle.descriptions.specs.RowObjects.{joined, named_channel}
use Rattle.descriptions.specs.Writing.{Adds, These}
use Rattle.descriptions.specs.declared.facts.RowFacts.{RowFacts}
use Rattle.descriptions.proofs.MemberLemmas.{both_put, nothing_put}

-- ---- the line of a finding

-- words, and the end of their line
abbrev IsEndOfLine : List ℕ → Type 0
IsEndOfLine bytes = (words : List ℕ) × (bytes ≡ words ++ codes "\n") × IsOneLine words

end_put : {O : Type 0} {has : O → List ℕ → Type 0} {a b c : O} → Adds has IsOneLine a b → Adds has (These (codes "\n")) b c → Adds has IsEndOfLine a c
end_put words end = both_put (λ x y one e. (x, (λ t. x ++ e t), one)) words end

pub found_put : {O : Type 0} {has : O → List ℕ → Type 0} {a b c d : O} (i : Interface) (earlier : List Item) (r : Item) (facts : RowFacts) (f : Finding) → AreFactsOf i earlier r facts → facts.last.now.finding ≡ Some f
    → Adds has (These (finding_head (named_channel facts.last.now.packet) (row_call facts.calls) facts.earlier.follows f)) a b → Adds has IsOneLine b c → Adds has (These (codes "\n")) c d
    → Adds has (IsFindingLine i earlier r) a d
found_put i earlier r facts f h found head words end =
    let follows : facts.earlier.follows ≡ follows_at i earlier r (Some f) = h.follows ∙ ap (follows_at i earlier r) found in
    both_put {Q = IsEndOfLine} (λ x y e m. record {
      found = Some f;
      came = subst (λ o. (report_of i (earlier ++ r ∷ [])).findings ≡ (report_of i earlier).findings ++ option_to_list o) found h.finding;
      line = (m.0, (λ t. e t ++ m.1 t) ∙ (λ t. finding_head (named_channel (h.packet t)) (h.call t) (follows t) f ++ (m.0 ++ codes "\n")), m.2);
    }) head (end_put words end)

pub none_found : {O : Type 0} {has : O → List ℕ → Type 0} {a : O} (i : Interface) (earlier : List Item) (r : Item) (facts : RowFacts) → AreFactsOf i earlier r facts → facts.last.now.finding ≡ None
    → Adds has (IsFindingLine i earlier r) a a
none_found i earlier r facts h none = nothing_put (record {
  found = None;
  came = subst (λ o. (report_of i (earlier ++ r ∷ [])).findings ≡ (report_of i earlier).findings ++ option_to_list o) none h.finding;
  line = refl;
})

-- ---- which rows have one

same_choice : (a b : Bool) → Some a ≡ Some b → a ≡ b
same_choice a b e = cc

pub nothing_printed : (rows : Rows) (head : Option Interface) (earlier : List Row) (o : Option Row) (out : List ℕ) → None ≡ picked_where rows head earlier o → HasAppended (IsFindingOf rows head earlier o) out out
nothing_printed rows None earlier None out e = record { bytes = []; appended = sym (append-nil out); formed = refl }
nothing_printed rows (Some i) earlier None out e = record { bytes = []; appended = sym (append-nil out); formed = refl }
nothing_printed rows head earlier (Some r) out e = absurd (let bad : None ≡ Some (is_chosen_if rows head earlier (Some r)) = e in cc)

pub row_printed : {T E : Type 0} (result : Result T E) (rows : Rows) (head : Option Interface) (earlier : List Row) (o : Option Row) (picked : Bool) (out after : List ℕ) → Some picked ≡ picked_where rows head earlier o
    → (picked ≡ false → after ≡ out) → ((i : Interface) (r : Row) → head ≡ Some i → o ≡ Some r → OnOk result (HasAppended (IsFindingWhere picked i (items_of i earlier) (item_of i r)) out after))
    → OnOk result (HasAppended (IsFindingOf rows head earlier o) out after)
row_printed result rows head earlier None picked out after e unpicked line = absurd (let bad : Some picked ≡ None = e in cc)
row_printed (Err x) rows head earlier (Some r) picked out after e unpicked line = tt
row_printed (Ok x) rows None earlier (Some r) picked out after e unpicked line =
    record { bytes = []; appended = unpicked (same_choice picked false e) ∙ sym (append-nil out); formed = refl }
row_printed (Ok x) rows (Some i) earlier (Some r) picked out after e unpicked line =
    subst (λ b. HasAppended (IsFindingWhere b i (items_of i earlier) (item_of i r)) out after) (same_choice picked (is_chosen rows i (items_of i earlier) (item_of i r)) e) (line i r refl refl)

-- ---- the findings of a side

-- those of both sides, where there are some
pub sides_are : (all of_dte of_dce : ℕ) → (all == 0) ≡ false → joined (codes ": " ∷ decimal of_dte ∷ codes " by the DTE, " ∷ decimal of_dce ∷ codes " by the DCE" ∷ []) ≡ sides_words all of_dte of_dce
sides_are all of_dte of_dce some = sym (ap (λ b. if b then [] else joined (codes ": " ∷ decimal of_dte ∷ codes " by the DTE, " ∷ decimal of_dce ∷ codes " by the DCE" ∷ [])) some)

-- ---- the lines after the sums

all_one : (xs ys : List (List ℕ)) → AllByRecursion IsOneLine xs → AllByRecursion IsOneLine ys → AllByRecursion IsOneLine (xs ++ ys)
all_one [] ys h k = k
all_one (x ∷ xs) ys h k = (h.0, all_one xs ys h.1 k)

more_details : (x y : List ℕ) → AreDetails x → AreDetails y → AreDetails (x ++ y)
more_details x y h k = (h.0 ++ k.0, (λ t. h.1 t ++ k.1 t) ∙ sym (flat_map-append detail h.0 k.0), all_one h.0 k.0 h.2 k.2)

pub details_then : {O : Type 0} {has : O → List ℕ → Type 0} {a b c : O} → Adds has AreDetails a b → Adds has AreDetails b c → Adds has AreDetails a c
details_then first later = both_put more_details first later

pub no_details : {O : Type 0} {has : O → List ℕ → Type 0} {a : O} → Adds has AreDetails a a
no_details = nothing_put ([], refl, tt)

one_detail : (x y : List ℕ) → These (codes "  ") x → IsEndOfLine y → AreDetails (x ++ y)
one_detail x y e m = (m.0 ∷ [], (λ t. e t ++ m.1 t) ∙ sym (append-nil (detail m.0)), (m.2, tt))

pub detail_put : {O : Type 0} {has : O → List ℕ → Type 0} {a b c d : O} → Adds has (These (codes "  ")) a b → Adds has IsOneLine b c → Adds has (These (codes "\n")) c d → Adds has AreDetails a d
detail_put first words end = both_put one_detail first (end_put words end)

-- ---- what comes after the last row

pub sums_put : {O : Type 0} {has : O → List ℕ → Type 0} {a b c : O} (report : Report) → Adds has (These (sums_line report)) a b → Adds has AreDetails b c → Adds has (IsFindingSums report) a c
sums_put report first later = both_put (λ x y e h. record { details = y; are = h; written = ap (λ xs. xs ++ y) e }) first later
