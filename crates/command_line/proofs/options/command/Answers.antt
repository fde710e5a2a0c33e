use Rattle.std.proofs.Common.{◌∙◌, ap}
use Rattle.std.proofs.lemmas.Result.{IfOk-weaker}
use Rattle.command_line.specs.Options.{with_asking, with_capture, with_header, with_scanning, with_writing}
use Rattle.command_line.proofs.options.command.Goals as goal

pub returns : goal.returns
returns c =
    IfOk-weaker c.with_asking.result _ _ (λ shown added. added
    ∙ ap with_asking (c.in_ok-reading.ensures ∙ ap with_capture (c.in_ok-headed.ensures ∙ ap with_header (c.in_ok-writing.ensures ∙ ap with_writing (c.in_ok-scanning.ensures ∙ ap with_scanning c.plain.ensures))))) c.with_asking.ensures
