use Rattle.std.proofs.Common.{◌∙◌, ap₂, refl}
use Rattle.std.proofs.lemmas.Result.{IfOk-weaker}
use Rattle.clap.specs.Words.{with_rule}
use Rattle.command_line.proofs.options.with_writing.Goals as goal

pub returns : goal.returns
returns c =
    IfOk-weaker c.arg-9.result _ _ (λ shown added. added.shape c.flag-7.ensures.local
    ∙ ap₂ with_rule (c.in_ok-arg-8.ensures.shape c.flag-6.ensures.local
    ∙ ap₂ with_rule (c.in_ok-arg-7.ensures.shape c.number-2.ensures.local
    ∙ ap₂ with_rule (c.in_ok-arg-6.ensures.shape c.number.ensures.local
    ∙ ap₂ with_rule (c.in_ok-arg-5.ensures.shape c.flag-5.ensures.local
    ∙ ap₂ with_rule (c.in_ok-arg-4.ensures.shape c.flag-4.ensures.local
    ∙ ap₂ with_rule (c.in_ok-arg-3.ensures.shape c.flag-3.ensures.local
    ∙ ap₂ with_rule (c.in_ok-arg-2.ensures.shape c.flag-2.ensures.local
    ∙ ap₂ with_rule (c.in_ok-arg.ensures.shape c.flag.ensures.local ∙ ap₂ with_rule refl c.flag.ensures.rule) c.flag-2.ensures.rule) c.flag-3.ensures.rule) c.flag-4.ensures.rule) c.flag-5.ensures.rule) c.number.ensures.rule) c.number-2.ensures.rule) c.flag-6.ensures.rule) c.flag-7.ensures.rule) c.arg-9.ensures
