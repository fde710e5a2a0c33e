use Rattle.std.proofs.Common.{◌∙◌, ap₂, refl}
use Rattle.std.proofs.lemmas.Result.{IfOk-weaker}
use Rattle.clap.specs.Words.{with_rule}
use Rattle.command_line.proofs.options.with_asking.Goals as goal

pub returns : goal.returns
returns c =
    IfOk-weaker c.arg-5.result _ _ (λ shown added. added.shape c.further.ensures.local
    ∙ ap₂ with_rule (c.in_ok-arg-4.ensures.shape c.file.ensures.local
    ∙ ap₂ with_rule (c.in_ok-arg-3.ensures.shape c.explain.ensures.local
    ∙ ap₂ with_rule (c.in_ok-arg-2.ensures.shape c.flag-2.ensures.local
    ∙ ap₂ with_rule (c.in_ok-arg.ensures.shape c.flag.ensures.local ∙ ap₂ with_rule refl c.flag.ensures.rule) c.flag-2.ensures.rule) c.explain.ensures.rule) c.file.ensures.rule) c.further.ensures.rule) c.arg-5.ensures
