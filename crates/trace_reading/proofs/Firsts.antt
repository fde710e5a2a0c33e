-- The first row of a text, which begins the row cutter.
use Rattle.std.proofs.Common.{◌≡◌, ◌∙◌, sym, ap, subst, refl, ℕ, List, [], ◌∷◌, ◌++◌, length, Option, Some, None}
use Rattle.std.specs.Prelude.{IfSome}
use Rattle.line_model.specs.declared.interface.Interface.{Interface}
use Rattle.line_model.specs.basics.Records.{ReadRow, Piece}
use Rattle.line_model.specs.packets.Says.{item_read, items_of}
use Rattle.line_model.specs.text.Text.{early_head, early_rows}
use Rattle.trace_text.specs.Progress.{Progress}
use Rattle.trace_text.specs.Represents.{Represents, ReadsChunk}
use Rattle.trace_text.proofs.Grows.{no_rows}
use Rattle.restart_epochs.specs.Cutting.{HasAppended, given_of}
use Rattle.restart_epochs.proofs.Listings.{nothing_cut}
use Rattle.live_report.proofs.ChunkLemmas.{ReadsRow, next_items}
use Rattle.live_report.proofs.LiveLemmas.{chunk_text}
use Rattle.trace_reading.specs.declared.text_cutter.RowCutter.{RowCutter}
use Rattle.trace_reading.specs.TextCuts.{HasCut, IsCutTo, given_in, known_of, known_pieces}
use Rattle.trace_reading.proofs.Rows.{appended_next, appended_none}
use Rattle.trace_reading.proofs.Heads.{known_under}
use Rattle.trace_reading.proofs.Cuts.{cut_row}

no_length : (ps : List Piece) → 0 ≡ length ps → ps ≡ []
no_length [] h = refl
no_length (p ∷ ps) h = absurd cc

none_of : (i : Interface) → given_of i [] ≡ []
none_of i = no_length (given_of i []) (nothing_cut i).given

-- no piece is complete before the first row
given_none : (i : Interface) (text : List ℕ) → early_rows text ≡ [] → given_in i text ≡ []
given_none i text none = ap (λ rows. given_of i (items_of i rows)) none ∙ none_of i

pub none_known : (text : List ℕ) → early_rows text ≡ [] → known_pieces text ≡ []
none_known text none = at (early_head text)
  where
    at : (o : Option Interface) → known_of o text ≡ []
    at None = refl
    at (Some i) = given_none i text none

-- what was appended to the pieces of a header was appended to those of the text
pub appended_as : (out out_after a b c d : List Piece) → a ≡ c → b ≡ d → HasAppended out out_after c d → HasAppended out out_after a b
appended_as out out_after a b c d e f h = record { more = h.more; out_has = h.out_has; known_has = f ∙ h.known_has ∙ ap (λ l. l ++ h.more) (sym e) }

-- no row came
pub no_row_came : (lines after : Progress) (text chunk : List ℕ) (out : List Piece) → Represents lines text → early_rows text ≡ [] → ReadsChunk lines after chunk → HasAppended out out (known_pieces text) (known_pieces (text ++ chunk))
no_row_came lines after text chunk out s none t =
    subst (λ ps. HasAppended out out (known_pieces text) ps) (none_known text none ∙ sym (none_known (text ++ chunk) (t.rows text s ∙ none))) (appended_none out (known_pieces text))

-- the first row was cut
pub first_cut : {A : Type 0} (text chunk rest : List ℕ) (row : ReadRow) (lines after : Progress) (i : Interface) (f : RowCutter A) → Represents lines text → early_rows text ≡ [] → (t : ReadsRow lines after chunk rest row) → Some i ≡ after.interface → f.interface ≡ i
    → HasCut ([] ++ item_read i row ∷ []) f → IsCutTo (text ++ t.1.taken) after f
first_cut text chunk rest row lines after i f s none t kept same cut = cut_row i text chunk rest row lines after f s t (sym kept ∙ ap Some (sym same)) same (subst (λ rows. HasCut (items_of i rows ++ item_read i row ∷ []) f) (sym none) cut)

-- the pieces that are complete with the first row, and with those after it
pub first_pieces : (i : Interface) (text chunk rest : List ℕ) (row : ReadRow) (lines after last : Progress) (out now out_after : List Piece) → Represents lines text → early_rows text ≡ [] → (t : ReadsRow lines after chunk rest row)
    → HasAppended out now (given_of i []) (given_of i ([] ++ item_read i row ∷ [])) → HasAppended now out_after (given_in i (text ++ t.1.taken)) (given_in i ((text ++ t.1.taken) ++ rest))
    → Represents last (text ++ chunk) → last.interface ≡ Some i → HasAppended out out_after (known_pieces text) (known_pieces (text ++ chunk))
first_pieces i text chunk rest row lines after last out now out_after s none t first more represented header =
    let all = chunk_text lines after text chunk rest row t in
    let here : given_of i ([] ++ item_read i row ∷ []) ≡ given_in i (text ++ t.1.taken) = ap (λ rows. given_of i (items_of i rows ++ item_read i row ∷ [])) (sym none) ∙ ap (given_of i) (sym (next_items i lines after text chunk rest row s t)) in
    let both = appended_next out now out_after (given_of i []) (given_in i (text ++ t.1.taken)) (given_in i ((text ++ t.1.taken) ++ rest)) (subst (HasAppended out now (given_of i [])) here first) more in
    let from = subst (λ ps. HasAppended out out_after ps (given_in i ((text ++ t.1.taken) ++ rest))) (none_of i ∙ sym (none_known text none)) both in
    subst (HasAppended out out_after (known_pieces text)) (ap (given_in i) all ∙ sym (known_under last (text ++ chunk) i represented header)) from

-- ---- the text has ended

-- the pieces that are complete, by the header of the whole text
pub known_with : (lines : Progress) (text : List ℕ) (i : Interface) → Represents lines text → IfSome lines.interface (λ j. j ≡ i) → known_pieces text ≡ given_in i text
known_with lines text i s same = at lines.interface refl same
  where
    at : (o : Option Interface) → lines.interface ≡ o → IfSome o (λ j. j ≡ i) → known_pieces text ≡ given_in i text
    at None h same =
        let none = no_rows lines text s h in
        none_known text none ∙ sym (given_none i text none)
    at (Some j) h same = known_under lines text j s h ∙ ap (λ x. given_in x text) same
