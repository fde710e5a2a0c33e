-- What is given is what is planned, and so it is apart.
use Rattle.std.proofs.Common.{◌≡◌, ◌∙◌, ◌+◌, ◌++◌, ap, append-nil, arith, drop, List, [], subst, sym}
use Rattle.std.proofs.lemmas.List.{drop_all, length-replicate}
use Rattle.xot_circuits.specs.Plans.{ArePlanned, AreWithin, new_channels, plan_of}
use Rattle.xot_circuits.specs.declared.channels.ChannelUse.TheVariants.{Unused}
use Rattle.xot_circuits.specs.declared.channels.Wanted.{Wanted}
use Rattle.xot_circuits.proofs.Apart.{apart}
use Rattle.xot_circuits.proofs.Found.{plan_planned, plan_within}
use Rattle.xot_circuits.proofs.channels.assign.Goals as goal

pub returns-clause-planned : goal.returns-clause-planned
returns-clause-planned c =
    let items = c.loop-circuit.all.items in
    let rest : drop c.loop-circuit.circuit-index c.args.circuits.now ≡ [] = drop_all c.loop-circuit.circuit-index c.args.circuits.now (omega (arith, c.loop-circuit-test.false)) in
    sym (append-nil items) ∙ (ap (λ (ws : List Wanted). items ++ plan_of c.loop-circuit.channels ws) (sym rest) ∙ c.loop-circuit.invariant.planned)

pub returns-clause-within : goal.returns-clause-within
returns-clause-within c =
    let i = c.args.interface in
    subst (AreWithin i) (sym (returns-clause-planned c)) (plan_within (new_channels i) c.args.circuits.now)

pub returns-clause-plan : goal.returns-clause-plan
returns-clause-plan c =
    let i = c.args.interface in
    subst (ArePlanned (new_channels i) c.args.circuits.now) (sym (returns-clause-planned c)) (plan_planned (new_channels i) c.args.circuits.now)

pub returns-clause-apart : goal.returns-clause-apart
returns-clause-apart c =
    let i = c.args.interface in
    λ ordered. apart (new_channels i) c.args.circuits.now c.loop-circuit.all.items (length-replicate (i.svc + 1) Unused) (returns-clause-plan c) ordered
