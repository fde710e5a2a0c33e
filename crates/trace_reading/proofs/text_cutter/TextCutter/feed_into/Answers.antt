use Rattle.std.proofs.Common.{◌≡◌, ◌∙◌, ◌+◌, ◌++◌, ◌∷◌, [], Some, ap, length, refl, subst, sym}
use Rattle.std.specs.Prelude.{IfErr}
use Rattle.std.proofs.lemmas.Result.{IfOk-from_err}
use Rattle.line_model.specs.text.Text.{early, early_rows}
use Rattle.line_model.specs.packets.Says.{item_read}
use Rattle.restart_epochs.specs.Cutting.{HasAppended, given_of}
use Rattle.trace_text.proofs.SourceLemmas.{passed_on}
use Rattle.trace_reading.proofs.Texts.{memory_fault}
use Rattle.trace_text.specs.Progress.{bytes_fed}
use Rattle.live_report.proofs.ChunkLemmas.{ReadsRow}
use Rattle.trace_text.specs.Represents.{IsFaultOf, ReadsChunk, Represents}
use Rattle.live_report.proofs.LiveLemmas.{chunk_text, first_rows}
use Rattle.trace_reading.specs.TextCuts.{HasCut, IsCutTo}
use Rattle.trace_reading.proofs.Heads.{no_rows_yet, none_cut, taken_of, cut_of, known_under}
use Rattle.trace_reading.proofs.Firsts.{first_cut, first_pieces, no_row_came, appended_as}
use Rattle.restart_epochs.proofs.Taken.{on_ok, on_ok_both}
use Rattle.trace_reading.proofs.text_cutter.TextCutter.feed_into.Goals as goal

-- ---- a row was read before

pub cut_lines-requires : goal.cut_lines-requires
cut_lines-requires g c = (c.requires.0, cut_of c.args.self.now c.requires.0 c.in-Some.row_cutter c.requires.1 c.in-Some.is)

pub returns-in-Some-clause-taken : goal.returns-in-Some-clause-taken
returns-in-Some-clause-taken g c text taken =
    on_ok c.cut_lines.result _ _ (c.cut_lines.ensures.cut text (cut_of c.args.self.now text c.in-Some.row_cutter taken c.in-Some.is))
    (λ cut. record { reads = cut.reads; cut = (cut.header, cut.cut) })

pub returns-in-Some-clause-pieces : goal.returns-in-Some-clause-pieces
returns-in-Some-clause-pieces g c text taken =
    let cut = cut_of c.args.self.now text c.in-Some.row_cutter taken c.in-Some.is in
    on_ok_both c.cut_lines.result _ _ _ (c.cut_lines.ensures.pieces text cut) (c.cut_lines.ensures.cut text cut)
    (λ more after. appended_as c.args.pieces.now.items c.cut_lines.new.pieces.items _ _ _ _
    (known_under c.args.self.now.lines text c.in-Some.row_cutter.interface cut.reads cut.header)
    (known_under c.cut_lines.new.lines (text ++ c.args.bytes.now) c.in-Some.row_cutter.interface after.reads (after.header ∙ ap Some c.cut_lines.ensures.interface)) more)

pub returns-in-Some-clause-refused : goal.returns-in-Some-clause-refused
returns-in-Some-clause-refused g c text taken = c.cut_lines.ensures.refused text (cut_of c.args.self.now text c.in-Some.row_cutter taken c.in-Some.is)

-- ---- none was

pub returns-in_default-2-clause-taken : goal.returns-in_default-2-clause-taken
returns-in_default-2-clause-taken g c text taken =
    let end : ReadsChunk c.args.self.now.lines c.next_row.new.self c.args.bytes.now = rw c.in_default-2.is at c.in_ok-rest.ensures.ok in
    let none = no_rows_yet c.args.self.now text taken c.in_default.is in
    record {
      reads = end.represented text taken.reads;
      cut = none_cut c.args.self.now.row_cutter c.next_row.new.self.interface (early_rows (text ++ c.args.bytes.now)) c.in_default.is (end.rows text taken.reads ∙ none);
    }

pub returns-in_default-2-clause-pieces : goal.returns-in_default-2-clause-pieces
returns-in_default-2-clause-pieces g c text taken =
    let end : ReadsChunk c.args.self.now.lines c.next_row.new.self c.args.bytes.now = rw c.in_default-2.is at c.in_ok-rest.ensures.ok in
    no_row_came c.args.self.now.lines c.next_row.new.self text c.args.bytes.now c.args.pieces.now.items taken.reads (no_rows_yet c.args.self.now text taken c.in_default.is) end

pub cut-requires : goal.cut-requires
cut-requires g c =
    let text = c.requires.0 in
    let none = no_rows_yet c.args.self.now text c.requires.1 c.in_default.is in
    let t : ReadsRow c.args.self.now.lines c.next_row.new.self c.args.bytes.now c.in-Some-2.rest.now c.next_row.new.row = rw c.in-Some-2.is at c.in_ok-rest.ensures.ok in
    record {
      next = (
        [],
        c.new-row_cutter.ensures.cut,
        first_rows c.new-row_cutter.result.interface c.args.self.now.lines c.next_row.new.self text c.args.bytes.now c.in-Some-2.rest.now c.next_row.new.row c.requires.1.reads none t
            (ap Some c.new-row_cutter.ensures.interface ∙ c.in-Some-interface.ensures.kept ∙ ap (λ v. v.lines.interface) c.self.view_is),
      );
    }

pub cut_lines-cut-requires : goal.cut_lines-cut-requires
cut_lines-cut-requires g c =
    let text = c.requires.0 in
    let t : ReadsRow c.args.self.now.lines c.next_row.new.self c.args.bytes.now c.in-Some-2.rest.now c.next_row.new.row = rw c.in-Some-2.is at c.in_ok-rest.ensures.ok in
    let begun = first_cut text c.args.bytes.now c.in-Some-2.rest.now c.next_row.new.row c.args.self.now.lines c.next_row.new.self c.in-Some-interface.interface c.cut.new.self c.requires.1.reads (no_rows_yet c.args.self.now text c.requires.1 c.in_default.is) t
    (c.in-Some-interface.ensures.kept ∙ ap (λ v. v.lines.interface) c.self.view_is) (c.in_ok-cut.ensures.interface ∙ c.new-row_cutter.ensures.interface) (subst (λ i. HasCut ([] ++ item_read i c.next_row.new.row ∷ []) c.cut.new.self) c.new-row_cutter.ensures.interface (c.in_ok-cut.ensures.cut [] c.new-row_cutter.ensures.cut)) in
    (text ++ t.1.taken, begun)

pub returns-clause-refused : goal.returns-clause-refused
returns-clause-refused g c text taken =
    let t : ReadsRow c.args.self.now.lines c.next_row.new.self c.args.bytes.now c.in-Some-2.rest.now c.next_row.new.row = rw c.in-Some-2.is at c.in_ok-rest.ensures.ok in
    let begun = first_cut text c.args.bytes.now c.in-Some-2.rest.now c.next_row.new.row c.args.self.now.lines c.next_row.new.self c.in-Some-interface.interface c.cut.new.self taken.reads (no_rows_yet c.args.self.now text taken c.in_default.is) t
    (c.in-Some-interface.ensures.kept ∙ ap (λ v. v.lines.interface) c.self.view_is) (c.in_ok-cut.ensures.interface ∙ c.new-row_cutter.ensures.interface) (subst (λ i. HasCut ([] ++ item_read i c.next_row.new.row ∷ []) c.cut.new.self) c.new-row_cutter.ensures.interface (c.in_ok-cut.ensures.cut [] c.new-row_cutter.ensures.cut)) in
    let all = chunk_text c.args.self.now.lines c.next_row.new.self text c.args.bytes.now c.in-Some-2.rest.now c.next_row.new.row t in
    subst (λ x. IfErr c.cut_lines-cut.result (IsFaultOf (early x))) all (c.cut_lines-cut.ensures.refused (text ++ t.1.taken) begun)

pub returns-clause-taken : goal.returns-clause-taken
returns-clause-taken g c text taken =
    let t : ReadsRow c.args.self.now.lines c.next_row.new.self c.args.bytes.now c.in-Some-2.rest.now c.next_row.new.row = rw c.in-Some-2.is at c.in_ok-rest.ensures.ok in
    let begun = first_cut text c.args.bytes.now c.in-Some-2.rest.now c.next_row.new.row c.args.self.now.lines c.next_row.new.self c.in-Some-interface.interface c.cut.new.self taken.reads (no_rows_yet c.args.self.now text taken c.in_default.is) t
    (c.in-Some-interface.ensures.kept ∙ ap (λ v. v.lines.interface) c.self.view_is) (c.in_ok-cut.ensures.interface ∙ c.new-row_cutter.ensures.interface) (subst (λ i. HasCut ([] ++ item_read i c.next_row.new.row ∷ []) c.cut.new.self) c.new-row_cutter.ensures.interface (c.in_ok-cut.ensures.cut [] c.new-row_cutter.ensures.cut)) in
    let all = chunk_text c.args.self.now.lines c.next_row.new.self text c.args.bytes.now c.in-Some-2.rest.now c.next_row.new.row t in
    on_ok c.cut_lines-cut.result _ _ (c.cut_lines-cut.ensures.cut (text ++ t.1.taken) begun)
    (λ cut. taken_of _ (text ++ c.args.bytes.now) c.cut_lines-cut.new.self (subst (λ x. IsCutTo x c.cut_lines-cut.new.lines c.cut_lines-cut.new.self) all cut) refl)

pub returns-clause-pieces : goal.returns-clause-pieces
returns-clause-pieces g c text taken =
    let t : ReadsRow c.args.self.now.lines c.next_row.new.self c.args.bytes.now c.in-Some-2.rest.now c.next_row.new.row = rw c.in-Some-2.is at c.in_ok-rest.ensures.ok in
    let begun = first_cut text c.args.bytes.now c.in-Some-2.rest.now c.next_row.new.row c.args.self.now.lines c.next_row.new.self c.in-Some-interface.interface c.cut.new.self taken.reads (no_rows_yet c.args.self.now text taken c.in_default.is) t
    (c.in-Some-interface.ensures.kept ∙ ap (λ v. v.lines.interface) c.self.view_is) (c.in_ok-cut.ensures.interface ∙ c.new-row_cutter.ensures.interface) (subst (λ i. HasCut ([] ++ item_read i c.next_row.new.row ∷ []) c.cut.new.self) c.new-row_cutter.ensures.interface (c.in_ok-cut.ensures.cut [] c.new-row_cutter.ensures.cut)) in
    let all = chunk_text c.args.self.now.lines c.next_row.new.self text c.args.bytes.now c.in-Some-2.rest.now c.next_row.new.row t in
    let i = c.cut.new.self.interface in
    on_ok_both c.cut_lines-cut.result _ _ _ (c.cut_lines-cut.ensures.pieces (text ++ t.1.taken) begun) (c.cut_lines-cut.ensures.cut (text ++ t.1.taken) begun)
    (λ more after. first_pieces i text c.args.bytes.now c.in-Some-2.rest.now c.next_row.new.row c.args.self.now.lines c.next_row.new.self c.cut_lines-cut.new.lines c.args.pieces.now.items c.cut.new.pieces.items c.cut_lines-cut.new.pieces.items taken.reads
    (no_rows_yet c.args.self.now text taken c.in_default.is) t
    (subst (λ j. HasAppended c.args.pieces.now.items c.cut.new.pieces.items (given_of j []) (given_of j ([] ++ item_read j c.next_row.new.row ∷ []))) (sym c.in_ok-cut.ensures.interface) (c.in_ok-cut.ensures.pieces [] c.new-row_cutter.ensures.cut))
    more (subst (Represents c.cut_lines-cut.new.lines) all after.reads) (after.header ∙ ap Some c.cut_lines-cut.ensures.interface))

pub returns-clause-size : goal.returns-clause-size
returns-clause-size g c =
    let size : bytes_fed c.next_row.new.self + length c.in-Some-2.rest.now ≡ bytes_fed c.args.self.now.lines + length c.args.bytes.now = rw c.in-Some-2.is at c.in_ok-rest.ensures.size in
    on_ok c.cut_lines-cut.result _ _ c.cut_lines-cut.ensures.size (λ s. s ∙ size)

pub returns-clause-limit : goal.returns-clause-limit
returns-clause-limit g c = c.cut_lines-cut.ensures.limit

pub returns-clause-kinds : goal.returns-clause-kinds
returns-clause-kinds g c = c.cut_lines-cut.ensures.kinds

pub returns-in_err-rest-clause-taken : goal.returns-in_err-rest-clause-taken
returns-in_err-rest-clause-taken g c text taken = IfOk-from_err _ _ c.from_residual.ensures.0

pub returns-in_err-rest-clause-pieces : goal.returns-in_err-rest-clause-pieces
returns-in_err-rest-clause-pieces g c text taken = IfOk-from_err _ _ c.from_residual.ensures.0

pub returns-in_err-rest-clause-size : goal.returns-in_err-rest-clause-size
returns-in_err-rest-clause-size g c = IfOk-from_err _ _ c.from_residual.ensures.0

pub returns-in_err-rest-clause-limit : goal.returns-in_err-rest-clause-limit
returns-in_err-rest-clause-limit g c = IfOk-from_err _ _ c.from_residual.ensures.0

pub returns-in_err-cut-clause-taken : goal.returns-in_err-cut-clause-taken
returns-in_err-cut-clause-taken g c text taken = IfOk-from_err _ _ c.from_residual-in_err-cut.ensures.0

pub returns-in_err-cut-clause-pieces : goal.returns-in_err-cut-clause-pieces
returns-in_err-cut-clause-pieces g c text taken = IfOk-from_err _ _ c.from_residual-in_err-cut.ensures.0

pub returns-in_err-cut-clause-size : goal.returns-in_err-cut-clause-size
returns-in_err-cut-clause-size g c = IfOk-from_err _ _ c.from_residual-in_err-cut.ensures.0

pub returns-in_err-cut-clause-limit : goal.returns-in_err-cut-clause-limit
returns-in_err-cut-clause-limit g c = IfOk-from_err _ _ c.from_residual-in_err-cut.ensures.0

pub returns-in_err-rest-clause-refused : goal.returns-in_err-rest-clause-refused
returns-in_err-rest-clause-refused g c text taken = passed_on c.from_residual.result c.in_err-rest.field-0.0 _ c.from_residual.ensures.1 (c.in_err-rest.ensures.refused text taken.reads)

pub returns-in_err-rest-clause-kinds : goal.returns-in_err-rest-clause-kinds
returns-in_err-rest-clause-kinds g c = passed_on c.from_residual.result c.in_err-rest.field-0.0 _ c.from_residual.ensures.1 c.in_err-rest.ensures.kinds

pub returns-in_err-cut-clause-refused : goal.returns-in_err-cut-clause-refused
returns-in_err-cut-clause-refused g c text taken = passed_on c.from_residual-in_err-cut.result c.in_err-cut.field-0.0 _ c.from_residual-in_err-cut.ensures.1 (memory_fault (early (text ++ c.args.bytes.now)) c.in_err-cut.field-0.0 c.in_err-cut.ensures.memory)
