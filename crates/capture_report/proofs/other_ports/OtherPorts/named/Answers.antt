-- Each port is the first one of what is left.
use Rattle.std.proofs.Common.{◌∙◌, ap, sym, subst, [], ◌∷◌, ◌++◌, append_assoc}
use Rattle.std.proofs.lemmas.List.{append-nil}
use Rattle.capture_report.specs.OtherPorts.{AreNamed, IsFirstOf}
use Rattle.capture_report.proofs.OtherPortLemmas.{named_enough, named_more, named_none}
use Rattle.capture_report.proofs.other_ports.OtherPorts.named.Goals as goal

pub returns-in_default : goal.returns-in_default
returns-in_default c =
    subst (AreNamed c.args.most c.args.self) (append-nil c.loop.ports.items)
    (c.loop.invariant [] (named_none c.args.most c.loop.counter c.loop.self c.loop-test.true (subst (IsFirstOf c.loop.self) c.in_default.is c.in_ok-first.ensures)))

pub loop-preserved : goal.loop-preserved
loop-preserved c = λ next named.
    subst (AreNamed c.args.most c.args.self) (sym (append_assoc c.loop.ports.items (c.in-Some.first ∷ []) next) ∙ ap (λ ps. ps ++ next) (sym c.in_ok-push.ensures.items))
    (c.loop.invariant (c.in-Some.first ∷ next)
    (named_more c.args.most c.loop.counter c.loop.self c.leave_out.new.self c.in-Some.first next c.loop-test.true (subst (IsFirstOf c.loop.self) c.in-Some.is c.in_ok-first.ensures) c.leave_out.ensures named))

pub returns : goal.returns
returns c = subst (AreNamed c.args.most c.args.self) (append-nil c.loop.ports.items) (c.loop.invariant [] (named_enough c.args.most c.loop.counter c.loop.self c.loop-test.false))
