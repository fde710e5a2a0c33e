-- A block that is read row by row.
use Rattle.std.proofs.Common.{◌≡◌, ◌∙◌, sym, ap, subst, refl, ℕ, false, not, List, [], ◌∷◌, ◌++◌, cond, append-nil, append_assoc, Result, Ok, Err, Some}
use Rattle.std.specs.Prelude.{IfOk}
use Rattle.std.specs.Result.{result_ok}
use Rattle.line_model.specs.declared.interface.Interface.{Interface}
use Rattle.line_model.specs.basics.Records.{Row, Item, ReadRow}
use Rattle.line_model.specs.channels.GapRestart.{GapInterfaceState}
use Rattle.line_model.specs.packets.Says.{item_read, items_of, read_row}
use Rattle.line_model.specs.pieces.Plan.{has_some}
use Rattle.line_model.specs.text.Text.{early_rows}
use Rattle.trace_text.specs.Blocks.{IsAtRows, IsBlock, IsSpanOf, first_number}
use Rattle.trace_text.specs.Progress.{Progress}
use Rattle.trace_text.specs.Represents.{Represents, ReadsChunk}
use Rattle.trace_text.specs.declared.lines.block.BlockSpan.{BlockSpan}
use Rattle.trace_text.proofs.Headings.{heading_alone}
use Rattle.restart_epochs.specs.BlockStates.{IsBlockCut, IsCutSoFar}
use Rattle.restart_epochs.specs.declared.block_cut.BlockCutter.{BlockCutter}
use Rattle.trace_reading.specs.TextBlocks.{AreRead, HasReadTo, IsReadAs}
use Rattle.trace_reading.specs.declared.text_block.BlockRows.{BlockRows}
use Rattle.trace_reading.specs.declared.text_block.RowsSoFar.{RowsSoFar}
use Rattle.trace_reading.specs.declared.text_block.Start.{Start}
use Rattle.live_report.proofs.ChunkLemmas.{ReadsRow}
use Rattle.line_model.proofs.Saying.{row_said}

-- ---- one more row

first_more : (rs : List Row) (row : Row) → cond (not (has_some rs)) row.number (first_number rs) ≡ first_number (rs ++ row ∷ [])
first_more [] row = refl
first_more (r ∷ rs) row = refl

some_with : (rs : List Row) (row : Row) → false ≡ not (has_some (rs ++ row ∷ []))
some_with [] row = refl
some_with (r ∷ rs) row = refl

pub row_added : {A : Type 0} (l : GapInterfaceState) (rs : List Row) (r : RowsSoFar A) (next : Row) (row : ReadRow) (first : ℕ) (cutter : BlockCutter A) (item : Item) → AreRead l rs r → row ≡ read_row next → first ≡ cond r.is_empty row.number r.first → item ≡ item_read r.interface row
    → IsCutSoFar l (items_of r.interface rs ++ item ∷ []) cutter → AreRead {A = A} l (rs ++ next ∷ []) (record { interface = r.interface; is_empty = false; first = first; cutter = cutter })
row_added l rs r next row first cutter item are row_is first_is item_is cut = record {
  empty = some_with rs next;
  first = first_is ∙ (λ k. cond (are.empty k) ((row_is k).number) (are.first k)) ∙ first_more rs next;
  cut = subst (λ items. IsCutSoFar l items cutter) (ap (λ t. items_of r.interface rs ++ t ∷ []) item_is ∙ row_said r.interface rs next row row_is) cut;
}

-- ---- the rows of some bytes

-- some of the bytes were read
pub record ReadSome {A : Type 0} (l : GapInterfaceState) (text bytes : List ℕ) (lines : Progress) (r : RowsSoFar A) (rest : List ℕ) : Type 0 where
  pub read : List ℕ
  pub whole : bytes ≡ read ++ rest
  pub to : HasReadTo l (text ++ read) lines r

pub read_none : {A : Type 0} (l : GapInterfaceState) (text bytes : List ℕ) (lines : Progress) (r : RowsSoFar A) → HasReadTo l text lines r → ReadSome l text bytes lines r bytes
read_none l text bytes lines r to = record { read = []; whole = refl; to = subst (λ x. HasReadTo l x lines r) (sym (append-nil text)) to }

pub row_read : {A : Type 0} (l : GapInterfaceState) (text bytes rest left : List ℕ) (row : ReadRow) (lines after : Progress) (r next : RowsSoFar A) → ReadSome l text bytes lines r rest → ReadsRow lines after rest left row → ((rs : List Row) (last : Row) → AreRead l rs r → row ≡ read_row last → AreRead l (rs ++ last ∷ []) next) → ReadSome l text bytes after next left
row_read l text bytes rest left row lines after r next s t add = record {
  read = s.read ++ t.1.taken;
  whole = s.whole ∙ ap (λ x. s.read ++ x) t.1.whole ∙ sym (append_assoc s.read t.1.taken left);
  to = subst (λ x. HasReadTo l x after next) (append_assoc text s.read t.1.taken) (record {
    reads = t.1.represented (text ++ s.read) s.to.reads;
    rows = subst (λ rs. AreRead l rs next) (sym (t.1.rows (text ++ s.read) s.to.reads)) (add (early_rows (text ++ s.read)) t.0 s.to.rows t.2);
  });
}

pub read_end : {A : Type 0} (l : GapInterfaceState) (text bytes rest : List ℕ) (lines after : Progress) (r : RowsSoFar A) → ReadSome l text bytes lines r rest → ReadsChunk lines after rest → HasReadTo l (text ++ bytes) after r
read_end l text bytes rest lines after r s t =
    let all : (text ++ s.read) ++ rest ≡ text ++ bytes = append_assoc text s.read rest ∙ ap (λ x. text ++ x) (sym s.whole) in
    record {
      reads = subst (Represents after) all (t.represented (text ++ s.read) s.to.reads);
      rows = subst (λ x. AreRead l (early_rows x) r) all (subst (λ rs. AreRead l rs r) (sym (t.rows (text ++ s.read) s.to.reads)) s.to.rows);
    }

-- ---- the block

-- what holds of the value of a result that is taken out
pub of_ok : {T E : Type 0} (r : Result T E) (P : T → Type 0) (x : T) → Some x ≡ result_ok r → IfOk r P → P x
of_ok (Ok y) P x e h =
    let same : y ≡ x = cc in
    subst P same h
of_ok (Err y) P x e h = absurd cc

pub read_heading : {A : Type 0} (l : GapInterfaceState) (i : Interface) (lines : Progress) (r : RowsSoFar A) → (at : IsAtRows i lines) → AreRead l [] r → HasReadTo l at.heading lines r
read_heading l i lines r at none = record { reads = at.represented; rows = subst (λ rs. AreRead l rs r) (sym (heading_alone i at.heading at.is)) none }

-- what the cutter cut is of the rows under the header of the block
pub cut_under : {A : Type 0} (l : GapInterfaceState) (i : Interface) (text : List ℕ) (lines : Progress) (r : RowsSoFar A) → r.interface ≡ i → HasReadTo l text lines r → IsCutSoFar l (items_of i (early_rows text)) r.cutter
cut_under l i text lines r same to = subst (λ j. IsCutSoFar l (items_of j (early_rows text)) r.cutter) same to.rows.cut

pub read_as : {A : Type 0} (start : Start) (heading bytes : List ℕ) (span : BlockSpan) (b : BlockRows A) → IsBlock start.interface bytes (early_rows (heading ++ bytes)) × IsSpanOf bytes (early_rows (heading ++ bytes)) span → b.span ≡ span
    → IsBlockCut start.machine (items_of start.interface (early_rows (heading ++ bytes))) b.cut → IsReadAs start bytes b
read_as start heading bytes span b ends span_is cut = record {
  rows = early_rows (heading ++ bytes);
  block = ends.0;
  span_is = subst (IsSpanOf bytes (early_rows (heading ++ bytes))) (sym span_is) ends.1;
  cut = cut;
}
