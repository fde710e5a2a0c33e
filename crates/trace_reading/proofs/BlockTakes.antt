-- A text whose cutter consumes the rows of a block.
use Rattle.std.proofs.Common.{◌≡◌, ◌∙◌, sym, ap, subst, ℕ, ◌+◌, List, ◌++◌, length, Option, Some, length-append}
use Rattle.std.specs.Prelude.{IfSome, MatchOption}
use Rattle.line_model.specs.basics.Records.{Row, Piece}
use Rattle.line_model.specs.packets.Says.{items_of}
use Rattle.line_model.specs.text.Text.{early_rows}
use Rattle.line_model.proofs.Saying.{items_more}
use Rattle.trace_text.specs.Blocks.{HasPassed, IsBlock, IsSpanOf}
use Rattle.trace_text.specs.FedBytes.{fed_length}
use Rattle.trace_text.specs.Progress.{Progress, bytes_fed}
use Rattle.trace_text.specs.Represents.{Represents}
use Rattle.restart_epochs.specs.Cutting.{HasAppended, given_of}
use Rattle.restart_epochs.specs.BlockStates.{IsBlockCut}
use Rattle.trace_reading.specs.declared.text_block.BlockRows.{BlockRows}
use Rattle.trace_reading.specs.declared.text_block.Start.{Start}
use Rattle.trace_reading.specs.declared.text_cutter.RowCutter.{RowCutter}
use Rattle.trace_reading.specs.declared.text_cutter.TextCutter.{TextCutter}
use Rattle.trace_reading.specs.TextBlocks.{BlockView, IsReadAs}
use Rattle.trace_reading.specs.TextCuts.{AreCut, HasCut, HasTaken, IsCutTo, given_in, known_pieces}
use Rattle.live_report.specs.Observing.{AreItems}
use Rattle.trace_text.proofs.RefusalLemmas.{head_represents}
use Rattle.live_report.proofs.ChunkLemmas.{early_trace}
use Rattle.trace_reading.proofs.Heads.{cut_of, known_under}
use Rattle.trace_reading.proofs.Firsts.{appended_as}

-- a row cutter, after rows that were read
pub record IsAt {A : Type 0} (start : Start) (f : RowCutter A) : Type 0 where
  pub interface : f.interface ≡ start.interface
  pub machine : f.cutter.level ≡ start.machine

pub at_start : {A : Type 0} (start : Start) (was : Option (RowCutter A)) (f : RowCutter A) → MatchOption was ⊥ (λ g. (g.interface ≡ start.interface) × (g.cutter.level ≡ start.machine)) → was ≡ Some f → IsAt start f
at_start start was f at is =
    let here = subst (λ o. MatchOption o ⊥ (λ g. (g.interface ≡ start.interface) × (g.cutter.level ≡ start.machine))) is at in
    record { interface = here.0; machine = here.1 }

-- the reader went past a block whose rows the row cutter of the text may be given
pub record Passes {A : Type 0} (text bytes : List ℕ) (lines after : Progress) (rows : BlockRows A) (f : RowCutter A) : Type 0 where
  pub rs : List Row
  pub reads : Represents lines text
  pub header : lines.interface ≡ Some f.interface
  pub passed : HasPassed lines after text bytes rs
  pub before : HasCut (items_of f.interface (early_rows text)) f
  pub trace : AreItems f.interface (items_of f.interface (early_rows text) ++ items_of f.interface rs)
  pub cut : IsBlockCut f.cutter.level (items_of f.interface rs) rows.cut

pub passes : {A : Type 0} (text bytes : List ℕ) (start : Start) (c : TextCutter A) (lines after : Progress) (rows : BlockRows A) (f : RowCutter A) → HasTaken text c → IsReadAs start bytes rows → lines ≡ c.lines → c.row_cutter ≡ Some f → IsAt start f
    → ((rs : List Row) → Represents lines text → lines.interface ≡ Some f.interface → IsBlock f.interface bytes rs → IsSpanOf bytes rs rows.span → HasPassed lines after text bytes rs) → Passes text bytes c.lines after rows f
passes text bytes start c lines after rows f t read is_lines is_cutter at pass =
    let cut : IsCutTo text c.lines f = cut_of c text f t is_cutter in
    let block : IsBlock f.interface bytes read.rows = subst (λ i. IsBlock i bytes read.rows) (sym at.interface) read.block in
    let there : HasPassed lines after text bytes read.rows = pass read.rows (subst (λ l. Represents l text) (sym is_lines) t.reads) (subst (λ l. l.interface ≡ Some f.interface) (sym is_lines) cut.header) block read.span_is in
    record {
      rs = read.rows;
      reads = t.reads;
      header = cut.header;
      passed = subst (λ l. HasPassed l after text bytes read.rows) is_lines there;
      before = cut.cut;
      trace = subst (AreItems f.interface) (ap (items_of f.interface) there.rows_are ∙ items_more f.interface (early_rows text) read.rows) (early_trace f.interface (text ++ bytes) there.represented.sound (sym (head_represents after (text ++ bytes) there.represented) ∙ there.interface ∙ ap (λ l. l.interface) is_lines ∙ cut.header));
      cut = subst (λ i. IsBlockCut f.cutter.level (items_of i read.rows) rows.cut) (sym at.interface)
          (subst (λ l. IsBlockCut l (items_of start.interface read.rows) rows.cut) (sym at.machine) read.cut);
    }

-- its rows were cut
pub block_taken : {A : Type 0} (text bytes : List ℕ) (lines after : Progress) (rows : BlockRows A) (f next : RowCutter A) (c : TextCutter A) → (p : Passes text bytes lines after rows f) → HasCut (items_of f.interface (early_rows text) ++ items_of f.interface p.rs) next → next.interface ≡ f.interface
    → c.lines ≡ after → c.row_cutter ≡ Some next → HasTaken (text ++ bytes) c
block_taken text bytes lines after rows f next c p cut kept is_lines is_cutter =
    let header : c.lines.interface ≡ Some next.interface = ap (λ l. l.interface) is_lines ∙ p.passed.interface ∙ p.header ∙ ap Some (sym kept) in
    let all : HasCut (items_of next.interface (early_rows (text ++ bytes))) next =
    subst (λ i. HasCut (items_of i (early_rows (text ++ bytes))) next) (sym kept) (subst (λ items. HasCut items next) (sym (ap (items_of f.interface) p.passed.rows_are ∙ items_more f.interface (early_rows text) p.rs)) cut) in
    record {
      reads = subst (λ l. Represents l (text ++ bytes)) (sym is_lines) p.passed.represented;
      cut = subst (AreCut (early_rows (text ++ bytes)) c.lines.interface) (sym is_cutter) (header, all);
    }

pub block_pieces : {A : Type 0} (text bytes : List ℕ) (lines after : Progress) (rows : BlockRows A) (f : RowCutter A) (out out_after : List Piece) → (p : Passes text bytes lines after rows f)
    → HasAppended out out_after (given_in f.interface text) (given_of f.interface (items_of f.interface (early_rows text) ++ items_of f.interface p.rs)) → HasAppended out out_after (known_pieces text) (known_pieces (text ++ bytes))
block_pieces text bytes lines after rows f out out_after p more =
    appended_as out out_after (known_pieces text) (known_pieces (text ++ bytes)) (given_in f.interface text) (given_of f.interface (items_of f.interface (early_rows text) ++ items_of f.interface p.rs))
    (known_under lines text f.interface p.reads p.header)
    (known_under after (text ++ bytes) f.interface p.passed.represented (p.passed.interface ∙ p.header) ∙ ap (given_of f.interface) (ap (items_of f.interface) p.passed.rows_are ∙ items_more f.interface (early_rows text) p.rs)) more

-- ---- a block that was read apart

pub read_apart : {A : Type 0} (rows : Option (BlockRows A)) (r : BlockRows A) (block now : BlockView) (start : Start) → IfSome rows (IsReadAs block.start block.bytes) → rows ≡ Some r → block ≡ now → start ≡ block.start → IsReadAs start now.bytes r
read_apart rows r block now start read some is at =
    let here : IsReadAs block.start block.bytes r = subst (λ o. IfSome o (IsReadAs block.start block.bytes)) some read in
    subst (λ s. IsReadAs s now.bytes r) (sym at) (subst (λ b. IsReadAs block.start b.bytes r) is here)

-- the trace text was read with more bytes: their count was fed too
pub more_fed : {A : Type 0} (c d : TextCutter A) (text bytes : List ℕ) → HasTaken text c → HasTaken (text ++ bytes) d → bytes_fed d.lines ≡ bytes_fed c.lines + length bytes
more_fed c d text bytes t u = fed_length d.lines (text ++ bytes) u.reads ∙ length-append text bytes ∙ ap (λ n. n + length bytes) (sym (fed_length c.lines text t.reads))
