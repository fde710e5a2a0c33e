use Rattle.std.proofs.Common.{◌∙◌, ap₂, refl}
use Rattle.std.proofs.lemmas.Result.{IfOk-weaker}
use Rattle.clap.specs.Words.{with_rule}
use Rattle.command_line.proofs.options.with_scanning.Goals as goal

pub returns : goal.returns
returns c =
    IfOk-weaker c.arg-3.result _ _ (λ shown added. added.shape c.flag-2.ensures.local
    ∙ ap₂ with_rule (c.in_ok-arg-2.ensures.shape c.flag.ensures.local
    ∙ ap₂ with_rule (c.in_ok-arg.ensures.shape c.number.ensures.local ∙ ap₂ with_rule refl c.number.ensures.rule) c.flag.ensures.rule) c.flag-2.ensures.rule) c.arg-3.ensures
