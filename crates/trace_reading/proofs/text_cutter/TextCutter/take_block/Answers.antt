use Rattle.std.proofs.Common.{◌≡◌, ◌∙◌, ◌+◌, ◌++◌, ap, length, subst, sym}
use Rattle.std.specs.Prelude.{IfErr}
use Rattle.std.proofs.lemmas.Result.{IfOk-from_err}
use Rattle.line_model.specs.text.Text.{early}
use Rattle.trace_text.specs.Progress.{bytes_fed}
use Rattle.trace_text.specs.Represents.{IsFaultOf}
use Rattle.trace_text.proofs.SourceLemmas.{passed_on}
use Rattle.trace_reading.specs.TextCuts.{HasTaken, known_pieces}
use Rattle.trace_reading.proofs.BlockTakes.{more_fed, read_apart}
use Rattle.trace_reading.proofs.Rows.{all_appended}
use Rattle.trace_reading.proofs.Texts.{memory_fault}
use Rattle.trace_reading.proofs.text_cutter.TextCutter.take_block.Goals as goal
use Rattle.trace_reading.proofs.text_cutter.TextCutter.take_block.Goals.{in-Some+in_ok-take_rows+else-branch, in_default}

pub returns-then-branch-clause-taken : goal.returns-then-branch-clause-taken
returns-then-branch-clause-taken g c text taken =
    let read = read_apart c.read.inside.rows c.in-Some.rows c.read.inside.block c.args.read c.block.inside.start c.read.invariant.1 c.in-Some.is c.read.view_is (ap (λ b. b.start) c.block.view_is) in
    c.in_ok-take_rows.ensures.taken text taken c.args.read.bytes read c.if-branch.true

pub returns-then-branch-clause-pieces : goal.returns-then-branch-clause-pieces
returns-then-branch-clause-pieces g c text taken =
    let read = read_apart c.read.inside.rows c.in-Some.rows c.read.inside.block c.args.read c.block.inside.start c.read.invariant.1 c.in-Some.is c.read.view_is (ap (λ b. b.start) c.block.view_is) in
    all_appended c.new-pieces.result.items c.take_rows.new.pieces.items (known_pieces text) (known_pieces (text ++ c.args.read.bytes)) c.new-pieces.ensures.items (c.in_ok-take_rows.ensures.pieces text taken c.args.read.bytes read c.if-branch.true)

pub returns-then-branch-clause-size : goal.returns-then-branch-clause-size
returns-then-branch-clause-size g c =
    let read = read_apart c.read.inside.rows c.in-Some.rows c.read.inside.block c.args.read c.block.inside.start c.read.invariant.1 c.in-Some.is c.read.view_is (ap (λ b. b.start) c.block.view_is) in
    more_fed c.args.self.now c.take_rows.new.self c.requires.0 c.args.read.bytes c.requires.1 (c.in_ok-take_rows.ensures.taken c.requires.0 c.requires.1 c.args.read.bytes read c.if-branch.true)

pub feed-requires : goal.feed-requires
feed-requires g c =
    let same : c.match-rows.self ≡ c.args.self.now = elim c.match-rows.branch as (λ _. c.match-rows.self ≡ c.args.self.now) [ in-Some+in_ok-take_rows+else-branch w ↦ w.self-is ∙ (w.in_ok-take_rows.ensures.same w.if-branch.false).0 | in_default w ↦ w.self-is ] in
    (c.requires.0, subst (HasTaken c.requires.0) (sym same) c.requires.1)

pub returns-clause-taken : goal.returns-clause-taken
returns-clause-taken g c text taken =
    let same : c.match-rows.self ≡ c.args.self.now = elim c.match-rows.branch as (λ _. c.match-rows.self ≡ c.args.self.now) [ in-Some+in_ok-take_rows+else-branch w ↦ w.self-is ∙ (w.in_ok-take_rows.ensures.same w.if-branch.false).0 | in_default w ↦ w.self-is ] in
    let bytes : c.as_slice.result.now ≡ c.args.read.bytes = c.as_slice.ensures.value ∙ ap (λ b. b.bytes) c.block.view_is ∙ ap (λ b. b.bytes) c.read.view_is in
    subst (λ x. HasTaken (text ++ x) c.feed.new.self) bytes (c.in_ok-pieces.ensures.taken text (subst (HasTaken text) (sym same) taken))

pub returns-clause-size : goal.returns-clause-size
returns-clause-size g c =
    let same : c.match-rows.self ≡ c.args.self.now = elim c.match-rows.branch as (λ _. c.match-rows.self ≡ c.args.self.now) [ in-Some+in_ok-take_rows+else-branch w ↦ w.self-is ∙ (w.in_ok-take_rows.ensures.same w.if-branch.false).0 | in_default w ↦ w.self-is ] in
    let bytes : c.as_slice.result.now ≡ c.args.read.bytes = c.as_slice.ensures.value ∙ ap (λ b. b.bytes) c.block.view_is ∙ ap (λ b. b.bytes) c.read.view_is in
    c.in_ok-pieces.ensures.size ∙ ap (λ s. bytes_fed s.lines + length c.as_slice.result.now) same ∙ ap (λ x. bytes_fed c.args.self.now.lines + length x) bytes

pub returns-clause-pieces : goal.returns-clause-pieces
returns-clause-pieces g c text taken =
    let same : c.match-rows.self ≡ c.args.self.now = elim c.match-rows.branch as (λ _. c.match-rows.self ≡ c.args.self.now) [ in-Some+in_ok-take_rows+else-branch w ↦ w.self-is ∙ (w.in_ok-take_rows.ensures.same w.if-branch.false).0 | in_default w ↦ w.self-is ] in
    let bytes : c.as_slice.result.now ≡ c.args.read.bytes = c.as_slice.ensures.value ∙ ap (λ b. b.bytes) c.block.view_is ∙ ap (λ b. b.bytes) c.read.view_is in
    subst (λ x. known_pieces (text ++ x) ≡ known_pieces text ++ c.in_ok-pieces.pieces.items) bytes (c.in_ok-pieces.ensures.pieces text (subst (HasTaken text) (sym same) taken))

pub returns-in_err-pieces-clause-refused : goal.returns-in_err-pieces-clause-refused
returns-in_err-pieces-clause-refused g c text taken =
    let same : c.match-rows.self ≡ c.args.self.now = elim c.match-rows.branch as (λ _. c.match-rows.self ≡ c.args.self.now) [ in-Some+in_ok-take_rows+else-branch w ↦ w.self-is ∙ (w.in_ok-take_rows.ensures.same w.if-branch.false).0 | in_default w ↦ w.self-is ] in
    let bytes : c.as_slice.result.now ≡ c.args.read.bytes = c.as_slice.ensures.value ∙ ap (λ b. b.bytes) c.block.view_is ∙ ap (λ b. b.bytes) c.read.view_is in
    subst (λ x. IfErr c.from_residual-in_err-pieces.result (IsFaultOf (early (text ++ x)))) bytes
    (passed_on c.from_residual-in_err-pieces.result c.in_err-pieces.field-0.0 _ c.from_residual-in_err-pieces.ensures.1 (c.in_err-pieces.ensures.refused text (subst (HasTaken text) (sym same) taken)))

pub take_rows-requires : goal.take_rows-requires
take_rows-requires g c = (
  c.requires.0,
  c.args.read.bytes,
  c.requires.1,
  read_apart c.read.inside.rows c.in-Some.rows c.read.inside.block c.args.read c.block.inside.start c.read.invariant.1 c.in-Some.is c.read.view_is (ap (λ b. b.start) c.block.view_is),
)

pub returns-in_err-take_rows-clause-taken : goal.returns-in_err-take_rows-clause-taken
returns-in_err-take_rows-clause-taken g c text taken = IfOk-from_err _ _ c.from_residual.ensures.0

pub returns-in_err-take_rows-clause-pieces : goal.returns-in_err-take_rows-clause-pieces
returns-in_err-take_rows-clause-pieces g c text taken = IfOk-from_err _ _ c.from_residual.ensures.0

pub returns-in_err-take_rows-clause-refused : goal.returns-in_err-take_rows-clause-refused
returns-in_err-take_rows-clause-refused g c text taken =
    let fault = c.in_err-take_rows.field-0.0 in
    passed_on c.from_residual.result fault _ c.from_residual.ensures.1 (memory_fault (early (text ++ c.args.read.bytes)) fault c.in_err-take_rows.ensures.memory)

pub returns-in_err-take_rows-clause-size : goal.returns-in_err-take_rows-clause-size
returns-in_err-take_rows-clause-size g c = IfOk-from_err _ _ c.from_residual.ensures.0

pub returns-in_err-pieces-clause-taken : goal.returns-in_err-pieces-clause-taken
returns-in_err-pieces-clause-taken g c text taken = IfOk-from_err _ _ c.from_residual-in_err-pieces.ensures.0

pub returns-in_err-pieces-clause-pieces : goal.returns-in_err-pieces-clause-pieces
returns-in_err-pieces-clause-pieces g c text taken = IfOk-from_err _ _ c.from_residual-in_err-pieces.ensures.0

pub returns-in_err-pieces-clause-size : goal.returns-in_err-pieces-clause-size
returns-in_err-pieces-clause-size g c = IfOk-from_err _ _ c.from_residual-in_err-pieces.ensures.0

pub returns-in_err-pieces-clause-kinds : goal.returns-in_err-pieces-clause-kinds
returns-in_err-pieces-clause-kinds g c = passed_on c.from_residual-in_err-pieces.result c.in_err-pieces.field-0.0 _ c.from_residual-in_err-pieces.ensures.1 c.in_err-pieces.ensures.kinds
