-- A part of a text that is cut row by row.
use Rattle.std.proofs.Common.{◌≡◌, ◌∙◌, sym, ap, subst, refl, ℕ, List, [], ◌∷◌, ◌++◌, Some, append_assoc, append-nil}
use Rattle.line_model.specs.declared.interface.Interface.{Interface}
use Rattle.line_model.specs.basics.Records.{ReadRow, Piece}
use Rattle.line_model.specs.packets.Says.{item_read, items_of}
use Rattle.line_model.specs.text.Text.{early_head, early_rows}
use Rattle.trace_text.specs.Progress.{Progress}
use Rattle.trace_text.specs.Represents.{Represents, ReadsChunk}
use Rattle.restart_epochs.specs.Cutting.{HasAppended, given_of}
use Rattle.live_report.proofs.ChunkLemmas.{ReadsRow, header_stays, next_items}
use Rattle.trace_reading.specs.declared.text_cutter.RowCutter.{RowCutter}
use Rattle.trace_reading.specs.TextCuts.{HasCut, IsCutTo, given_in}
use Rattle.trace_reading.proofs.Rows.{appended_next, appended_none}

-- some of a part was read and cut, and the pieces that are complete with it were appended
pub record Come {A : Type 0} (i : Interface) (text part : List ℕ) (lines : Progress) (f : RowCutter A) (rest : List ℕ) (out out_after : List Piece) : Type 0 where
  pub read : List ℕ
  pub whole : part ≡ read ++ rest
  pub cut : IsCutTo (text ++ read) lines f
  pub same : f.interface ≡ i
  pub pieces : HasAppended out out_after (given_in i text) (given_in i (text ++ read))

pub come_begun : {A : Type 0} (text part : List ℕ) (lines : Progress) (f : RowCutter A) (out : List Piece) → IsCutTo text lines f → Come f.interface text part lines f part out out
come_begun text part lines f out cut = record {
  read = [];
  whole = refl;
  cut = subst (λ x. IsCutTo x lines f) (sym (append-nil text)) cut;
  same = refl;
  pieces = subst (λ x. HasAppended out out (given_in f.interface text) (given_in f.interface x)) (sym (append-nil text)) (appended_none out (given_in f.interface text));
}

-- the text with the part
pub come_text : {A : Type 0} (i : Interface) (text part : List ℕ) (lines : Progress) (f : RowCutter A) (rest : List ℕ) (out out_after : List Piece) (c : Come i text part lines f rest out out_after) → (text ++ c.read) ++ rest ≡ text ++ part
come_text i text part lines f rest out out_after c = append_assoc text c.read rest ∙ ap (λ x. text ++ x) (sym c.whole)

-- a row was read and cut
pub cut_row : {A : Type 0} (i : Interface) (text chunk rest : List ℕ) (row : ReadRow) (lines after : Progress) (f : RowCutter A) → Represents lines text → (t : ReadsRow lines after chunk rest row) → after.interface ≡ Some f.interface → f.interface ≡ i
    → HasCut (items_of i (early_rows text) ++ item_read i row ∷ []) f → IsCutTo (text ++ t.1.taken) after f
cut_row i text chunk rest row lines after f s t header same cut = record {
  reads = t.1.represented text s;
  header = header;
  cut = subst (λ j. HasCut (items_of j (early_rows (text ++ t.1.taken))) f) (sym same) (subst (λ items. HasCut items f) (sym (next_items i lines after text chunk rest row s t)) cut);
}

pub come_row : {A : Type 0} (i : Interface) (text part rest left : List ℕ) (row : ReadRow) (lines after : Progress) (f next : RowCutter A) (out now out_after : List Piece)
    → (c : Come i text part lines f rest out now) → ReadsRow lines after rest left row → after.interface ≡ early_head ((text ++ c.read) ++ rest) → next.interface ≡ f.interface
    → HasCut (items_of f.interface (early_rows (text ++ c.read)) ++ item_read f.interface row ∷ []) next
    → HasAppended now out_after (given_in f.interface (text ++ c.read)) (given_of f.interface (items_of f.interface (early_rows (text ++ c.read)) ++ item_read f.interface row ∷ [])) → Come i text part after next left out out_after
come_row i text part rest left row lines after f next out now out_after c t kept same cut pieces =
    let header = header_stays lines after (text ++ c.read) rest f.interface c.cut.reads c.cut.header kept ∙ ap Some (sym same) in
    let more = subst (λ j. HasAppended now out_after (given_in j (text ++ c.read)) (given_of j (items_of j (early_rows (text ++ c.read)) ++ item_read j row ∷ []))) c.same pieces in
    let here = subst (λ items. HasAppended now out_after (given_in i (text ++ c.read)) (given_of i items)) (sym (next_items i lines after (text ++ c.read) rest left row c.cut.reads t)) more in
    record {
      read = c.read ++ t.1.taken;
      whole = c.whole ∙ ap (λ x. c.read ++ x) t.1.whole ∙ sym (append_assoc c.read t.1.taken left);
      cut = subst (λ x. IsCutTo x after next) (append_assoc text c.read t.1.taken) (cut_row f.interface (text ++ c.read) rest left row lines after next c.cut.reads t header same cut);
      same = same ∙ c.same;
      pieces = appended_next out now out_after (given_in i text) (given_in i (text ++ c.read)) (given_in i (text ++ (c.read ++ t.1.taken))) c.pieces
          (subst (λ x. HasAppended now out_after (given_in i (text ++ c.read)) (given_in i x)) (append_assoc text c.read t.1.taken) here);
    }

-- the rest of the part has no further row
pub come_end : {A : Type 0} (i : Interface) (text part rest : List ℕ) (lines after : Progress) (f : RowCutter A) (out out_after : List Piece)
    → (c : Come i text part lines f rest out out_after) → ReadsChunk lines after rest → after.interface ≡ early_head ((text ++ c.read) ++ rest) → IsCutTo (text ++ part) after f
come_end i text part rest lines after f out out_after c t kept =
    let all = come_text i text part lines f rest out out_after c in
    record {
      reads = subst (Represents after) all (t.represented (text ++ c.read) c.cut.reads);
      header = header_stays lines after (text ++ c.read) rest f.interface c.cut.reads c.cut.header kept;
      cut = subst (λ x. HasCut (items_of f.interface (early_rows x)) f) all (subst (λ rows. HasCut (items_of f.interface rows) f) (sym (t.rows (text ++ c.read) c.cut.reads)) c.cut.cut);
    }

pub come_pieces : {A : Type 0} (i : Interface) (text part rest : List ℕ) (lines after : Progress) (f : RowCutter A) (out out_after : List Piece)
    → (c : Come i text part lines f rest out out_after) → ReadsChunk lines after rest → HasAppended out out_after (given_in i text) (given_in i (text ++ part))
come_pieces i text part rest lines after f out out_after c t =
    subst (λ x. HasAppended out out_after (given_in i text) (given_in i x)) (come_text i text part lines f rest out out_after c)
    (subst (λ rows. HasAppended out out_after (given_in i text) (given_of i (items_of i rows))) (sym (t.rows (text ++ c.read) c.cut.reads)) c.pieces)
