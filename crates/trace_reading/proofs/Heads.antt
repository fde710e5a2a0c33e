-- The header of a text, and the row cutter that begins after it.
use Rattle.std.proofs.Common.{◌≡◌, ◌∙◌, sym, ap, subst, ℕ, List, [], Option, Some, None}
use Rattle.line_model.specs.declared.interface.Interface.{Interface}
use Rattle.line_model.specs.basics.Records.{Row}
use Rattle.line_model.specs.text.Text.{early_rows}
use Rattle.trace_text.specs.Progress.{Progress}
use Rattle.trace_text.specs.Represents.{Represents}
use Rattle.trace_text.proofs.RefusalLemmas.{head_represents}
use Rattle.trace_reading.specs.declared.text_cutter.RowCutter.{RowCutter}
use Rattle.trace_reading.specs.declared.text_cutter.TextCutter.{TextCutter}
use Rattle.trace_reading.specs.TextCuts.{AreCut, HasTaken, IsCutTo, given_in, known_of, known_pieces}

-- the pieces of a text whose header is known
pub known_under : (reader : Progress) (text : List ℕ) (i : Interface) → Represents reader text → reader.interface ≡ Some i → known_pieces text ≡ given_in i text
known_under reader text i s h = ap (λ o. known_of o text) (sym (head_represents reader text s) ∙ h)

pub cut_of : {A : Type 0} (c : TextCutter A) (text : List ℕ) (f : RowCutter A) → HasTaken text c → c.row_cutter ≡ Some f → IsCutTo text c.lines f
cut_of c text f t h =
    let cut : AreCut (early_rows text) c.lines.interface (Some f) = subst (AreCut (early_rows text) c.lines.interface) h t.cut in
    record { reads = t.reads; header = cut.0; cut = cut.1 }

pub taken_of : {A : Type 0} (c : TextCutter A) (text : List ℕ) (f : RowCutter A) → IsCutTo text c.lines f → c.row_cutter ≡ Some f → HasTaken text c
taken_of c text f cut h = record { reads = cut.reads; cut = subst (AreCut (early_rows text) c.lines.interface) (sym h) (cut.header, cut.cut) }

pub no_rows_yet : {A : Type 0} (c : TextCutter A) (text : List ℕ) → HasTaken text c → c.row_cutter ≡ None → early_rows text ≡ []
no_rows_yet c text t h = subst (AreCut (early_rows text) c.lines.interface) h t.cut

pub none_cut : {A : Type 0} (row_cutter : Option (RowCutter A)) (head : Option Interface) (rs : List Row) → row_cutter ≡ None → rs ≡ [] → AreCut rs head row_cutter
none_cut row_cutter head rs h none = subst (AreCut rs head) (sym h) none
