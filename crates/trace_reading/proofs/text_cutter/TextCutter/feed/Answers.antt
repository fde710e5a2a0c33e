use Rattle.std.proofs.Common.{◌∙◌, ◌++◌, ap, sym}
use Rattle.std.proofs.lemmas.Result.{IfOk-from_err}
use Rattle.trace_text.proofs.SourceLemmas.{passed_on}
use Rattle.trace_reading.specs.TextCuts.{known_pieces}
use Rattle.trace_reading.proofs.text_cutter.TextCutter.feed.Goals as goal

pub feed_into-requires : goal.feed_into-requires
feed_into-requires g c = c.requires

pub returns-clause-taken : goal.returns-clause-taken
returns-clause-taken g c = c.in_ok-feed_into.ensures.taken

pub returns-clause-pieces : goal.returns-clause-pieces
returns-clause-pieces g c text taken =
    let more = c.in_ok-feed_into.ensures.pieces text taken in
    more.known_has ∙ ap (λ l. known_pieces text ++ l) (sym (more.out_has ∙ ap (λ l. l ++ more.more) c.new-pieces.ensures.items))

pub returns-in_err-feed_into-clause-taken : goal.returns-in_err-feed_into-clause-taken
returns-in_err-feed_into-clause-taken g c text taken = IfOk-from_err _ _ c.from_residual.ensures.0

pub returns-in_err-feed_into-clause-pieces : goal.returns-in_err-feed_into-clause-pieces
returns-in_err-feed_into-clause-pieces g c text taken = IfOk-from_err _ _ c.from_residual.ensures.0

pub returns-in_err-feed_into-clause-size : goal.returns-in_err-feed_into-clause-size
returns-in_err-feed_into-clause-size g c = IfOk-from_err _ _ c.from_residual.ensures.0

pub returns-in_err-feed_into-clause-limit : goal.returns-in_err-feed_into-clause-limit
returns-in_err-feed_into-clause-limit g c = IfOk-from_err _ _ c.from_residual.ensures.0

pub returns-in_err-feed_into-clause-refused : goal.returns-in_err-feed_into-clause-refused
returns-in_err-feed_into-clause-refused g c text taken = passed_on c.from_residual.result c.in_err-feed_into.field-0.0 _ c.from_residual.ensures.1 (c.in_err-feed_into.ensures.refused text taken)

pub returns-in_err-feed_into-clause-kinds : goal.returns-in_err-feed_into-clause-kinds
returns-in_err-feed_into-clause-kinds g c = passed_on c.from_residual.result c.in_err-feed_into.field-0.0 _ c.from_residual.ensures.1 c.in_err-feed_into.ensures.kinds

pub returns-clause-size : goal.returns-clause-size
returns-clause-size g c = c.in_ok-feed_into.ensures.size

pub returns-clause-limit : goal.returns-clause-limit
returns-clause-limit g c = c.in_ok-feed_into.ensures.limit
