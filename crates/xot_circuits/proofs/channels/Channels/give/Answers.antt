-- A channel that is given is one of the interface's.
use Rattle.std.proofs.Common.{◌∙◌, ap, arith, sym}
use Rattle.xot_circuits.specs.Plans.{ChannelsView, found}
use Rattle.xot_circuits.proofs.Found.{given_there}
use Rattle.xot_circuits.proofs.channels.Channels.give.Goals as goal

pub index_mut-requires : goal.index_mut-requires
index_mut-requires c =
    let inside = c.self.inside in
    let view : ChannelsView = record { interface = inside.interface; uses = inside.uses.items } in
    let is = ap (λ (v : ChannelsView). found v c.args.wanted.now) (c.self.view_is ∙ c.find-given.ensures.same) in
    let there = given_there view c.args.wanted.now c.in-Some.given c.self.invariant.0 (is ∙ (sym c.find-given.ensures.found ∙ c.in-Some.is)) in
    omega (arith, c.from.ensures, there)
