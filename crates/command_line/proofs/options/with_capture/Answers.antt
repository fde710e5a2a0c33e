use Rattle.std.proofs.Common.{◌∙◌, ap₂, refl}
use Rattle.std.proofs.lemmas.Result.{IfOk-weaker}
use Rattle.clap.specs.Words.{with_rule}
use Rattle.command_line.proofs.options.with_capture.Goals as goal

pub returns : goal.returns
returns c =
    IfOk-weaker c.arg-7.result _ _ (λ shown added. added.shape c.text-4.ensures.local
    ∙ ap₂ with_rule (c.in_ok-arg-6.ensures.shape c.flag.ensures.local
    ∙ ap₂ with_rule (c.in_ok-arg-5.ensures.shape c.text-3.ensures.local
    ∙ ap₂ with_rule (c.in_ok-arg-4.ensures.shape c.number-2.ensures.local
    ∙ ap₂ with_rule (c.in_ok-arg-3.ensures.shape c.number.ensures.local
    ∙ ap₂ with_rule (c.in_ok-arg-2.ensures.shape c.text-2.ensures.local
    ∙ ap₂ with_rule (c.in_ok-arg.ensures.shape c.text.ensures.local ∙ ap₂ with_rule refl c.text.ensures.rule) c.text-2.ensures.rule) c.number.ensures.rule) c.number-2.ensures.rule) c.text-3.ensures.rule) c.flag.ensures.rule) c.text-4.ensures.rule) c.arg-7.ensures
