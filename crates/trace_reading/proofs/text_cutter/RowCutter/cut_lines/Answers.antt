use Rattle.std.proofs.Common.{◌≡◌, ◌∙◌, ◌+◌, ◌++◌, refl, subst, length}
use Rattle.std.proofs.lemmas.Result.{IfOk-from_err}
use Rattle.line_model.specs.packets.Says.{items_of}
use Rattle.line_model.specs.text.Text.{early, early_rows}
use Rattle.trace_text.proofs.SourceLemmas.{passed_on}
use Rattle.trace_text.specs.Progress.{bytes_fed}
use Rattle.trace_text.specs.Represents.{IsFaultOf, ReadsChunk}
use Rattle.live_report.proofs.ChunkLemmas.{ReadsRow, header_stays, next_rows}
use Rattle.trace_reading.proofs.Cuts.{come_begun, come_end, come_pieces, come_row, come_text}
use Rattle.trace_reading.proofs.text_cutter.RowCutter.cut_lines.Goals as goal

pub loop-after-init : goal.loop-after-init
loop-after-init g c = record {
  size = refl;
  same = refl;
  come = λ text cut. come_begun text c.args.bytes.now c.args.lines.now c.args.self.now c.args.pieces.now.items cut;
}

pub cut-requires : goal.cut-requires
cut-requires g c =
    let text = c.requires.0 in
    let come = c.loop-after.invariant.come text c.requires.1 in
    let row : ReadsRow c.loop-after.lines c.next_row.new.self c.loop-after.rest.now c.in-Some.after.now c.next_row.new.row = rw c.in-Some.is at c.in_ok-after.ensures.ok in
    record {
      next = (
        items_of c.loop-after.self.interface (early_rows (text ++ come.read)),
        come.cut.cut,
        next_rows c.loop-after.self.interface c.loop-after.lines c.next_row.new.self (text ++ come.read) c.loop-after.rest.now c.in-Some.after.now c.next_row.new.row come.cut.reads row
            (header_stays c.loop-after.lines c.next_row.new.self (text ++ come.read) c.loop-after.rest.now c.loop-after.self.interface come.cut.reads come.cut.header (c.in_ok-after.ensures.header (text ++ come.read) come.cut.reads)),
      );
    }

pub loop-after-preserved : goal.loop-after-preserved
loop-after-preserved g c =
    let inv = c.loop-after.invariant in
    let row : ReadsRow c.loop-after.lines c.next_row.new.self c.loop-after.rest.now c.in-Some.after.now c.next_row.new.row = rw c.in-Some.is at c.in_ok-after.ensures.ok in
    let size : bytes_fed c.next_row.new.self + length c.in-Some.after.now ≡ bytes_fed c.loop-after.lines + length c.loop-after.rest.now = rw c.in-Some.is at c.in_ok-after.ensures.size in
    record {
      size = size ∙ inv.size;
      same = c.in_ok-cut.ensures.interface ∙ inv.same;
      come = λ text cut.
          let come = inv.come text cut in
          come_row c.args.self.now.interface text c.args.bytes.now c.loop-after.rest.now c.in-Some.after.now c.next_row.new.row c.loop-after.lines c.next_row.new.self c.loop-after.self c.cut.new.self
          c.args.pieces.now.items c.loop-after.pieces.items c.cut.new.pieces.items come row (c.in_ok-after.ensures.header (text ++ come.read) come.cut.reads) c.in_ok-cut.ensures.interface
          (c.in_ok-cut.ensures.cut (items_of c.loop-after.self.interface (early_rows (text ++ come.read))) come.cut.cut)
          (c.in_ok-cut.ensures.pieces (items_of c.loop-after.self.interface (early_rows (text ++ come.read))) come.cut.cut);
    }

pub returns-clause-cut : goal.returns-clause-cut
returns-clause-cut g c text cut =
    let come = c.loop-after.invariant.come text cut in
    let end : ReadsChunk c.loop-after.lines c.next_row.new.self c.loop-after.rest.now = rw c.in_default.is at c.in_ok-after.ensures.ok in
    come_end c.args.self.now.interface text c.args.bytes.now c.loop-after.rest.now c.loop-after.lines c.next_row.new.self c.loop-after.self c.args.pieces.now.items c.loop-after.pieces.items come end
    (c.in_ok-after.ensures.header (text ++ come.read) come.cut.reads)

pub returns-clause-pieces : goal.returns-clause-pieces
returns-clause-pieces g c text cut =
    let come = c.loop-after.invariant.come text cut in
    let end : ReadsChunk c.loop-after.lines c.next_row.new.self c.loop-after.rest.now = rw c.in_default.is at c.in_ok-after.ensures.ok in
    come_pieces c.args.self.now.interface text c.args.bytes.now c.loop-after.rest.now c.loop-after.lines c.next_row.new.self c.loop-after.self c.args.pieces.now.items c.loop-after.pieces.items come end

pub returns-in_err-after-clause-refused : goal.returns-in_err-after-clause-refused
returns-in_err-after-clause-refused g c text cut =
    let come = c.loop-after.invariant.come text cut in
    passed_on c.from_residual.result c.in_err-after.field-0.0 _ c.from_residual.ensures.1
    (subst (λ x. IsFaultOf (early x) c.in_err-after.field-0.0) (come_text c.args.self.now.interface text c.args.bytes.now c.loop-after.lines c.loop-after.self c.loop-after.rest.now c.args.pieces.now.items c.loop-after.pieces.items come)
    (c.in_err-after.ensures.refused (text ++ come.read) come.cut.reads))

pub returns-in_err-after-clause-cut : goal.returns-in_err-after-clause-cut
returns-in_err-after-clause-cut g c text cut = IfOk-from_err _ _ c.from_residual.ensures.0

pub returns-in_err-after-clause-pieces : goal.returns-in_err-after-clause-pieces
returns-in_err-after-clause-pieces g c text cut = IfOk-from_err _ _ c.from_residual.ensures.0

pub returns-in_err-after-clause-size : goal.returns-in_err-after-clause-size
returns-in_err-after-clause-size g c = IfOk-from_err _ _ c.from_residual.ensures.0

pub returns-in_err-after-clause-limit : goal.returns-in_err-after-clause-limit
returns-in_err-after-clause-limit g c = IfOk-from_err _ _ c.from_residual.ensures.0

pub returns-in_err-cut-clause-cut : goal.returns-in_err-cut-clause-cut
returns-in_err-cut-clause-cut g c text cut = IfOk-from_err _ _ c.from_residual-in_err-cut.ensures.0

pub returns-in_err-cut-clause-pieces : goal.returns-in_err-cut-clause-pieces
returns-in_err-cut-clause-pieces g c text cut = IfOk-from_err _ _ c.from_residual-in_err-cut.ensures.0

pub returns-in_err-cut-clause-size : goal.returns-in_err-cut-clause-size
returns-in_err-cut-clause-size g c = IfOk-from_err _ _ c.from_residual-in_err-cut.ensures.0

pub returns-in_err-cut-clause-limit : goal.returns-in_err-cut-clause-limit
returns-in_err-cut-clause-limit g c = IfOk-from_err _ _ c.from_residual-in_err-cut.ensures.0

pub returns-in_err-after-clause-kinds : goal.returns-in_err-after-clause-kinds
returns-in_err-after-clause-kinds g c = passed_on c.from_residual.result c.in_err-after.field-0.0 _ c.from_residual.ensures.1 c.in_err-after.ensures.kinds
