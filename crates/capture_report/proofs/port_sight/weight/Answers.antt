-- Packet by packet.
use Rattle.std.proofs.Common.{◌≡◌, ◌∙◌, ap, sym, length, Some, None, ◌-◌, ◌+◌}
use Rattle.std.specs.Option.{option_map}
use Rattle.capture_report.specs.PortSights.{first_packet, packet_weight, weight_after, weight_from, weight_with}
use Rattle.capture_report.proofs.PortSightLemmas.{weight_ends, weight_goes_on, weight_none, with_none, with_some}
use Rattle.capture_report.proofs.port_sight.weight.Goals as goal

pub returns-then-is_empty : goal.returns-then-is_empty
returns-then-is_empty c = sym (weight_ends (length c.args.octets.now) c.loop.counter c.loop.found c.loop.rest.now c.loop-test.true c.if-is_empty.ensures) ∙ c.loop.invariant

pub returns-in_default : goal.returns-in_default
returns-in_default c =
    let on = weight_from (length c.args.octets.now - (c.loop.counter + 1)) in
    let none : first_packet c.loop.rest.now ≡ None = sym c.first_packet.ensures ∙ ap (option_map (λ p. (p.0.now, p.1.now))) c.in_default.is in
    sym (weight_goes_on (length c.args.octets.now) c.loop.counter c.loop.found c.loop.rest.now c.loop-test.true c.if-is_empty.ensures ∙ ap (weight_after on c.loop.found) none) ∙ c.loop.invariant

pub returns-then-more-eq0 : goal.returns-then-more-eq0
returns-then-more-eq0 c =
    let on = weight_from (length c.args.octets.now - (c.loop.counter + 1)) in
    let some : first_packet c.loop.rest.now ≡ Some (c.in-Some.packet.now, c.in-Some.after.now) = sym c.first_packet.ensures ∙ ap (option_map (λ p. (p.0.now, p.1.now))) c.in-Some.is in
    sym (weight_goes_on (length c.args.octets.now) c.loop.counter c.loop.found c.loop.rest.now c.loop-test.true c.if-is_empty.ensures ∙ ap (weight_after on c.loop.found) some
    ∙ with_none on c.loop.found (packet_weight c.in-Some.packet.now) c.in-Some.after.now (sym c.packet_weight-more.ensures ∙ c.if-more-eq0.true)) ∙ c.loop.invariant

pub loop-preserved : goal.loop-preserved
loop-preserved c =
    let on = weight_from (length c.args.octets.now - (c.loop.counter + 1)) in
    let some : first_packet c.loop.rest.now ≡ Some (c.in-Some.packet.now, c.in-Some.after.now) = sym c.first_packet.ensures ∙ ap (option_map (λ p. (p.0.now, p.1.now))) c.in-Some.is in
    sym (weight_goes_on (length c.args.octets.now) c.loop.counter c.loop.found c.loop.rest.now c.loop-test.true c.if-is_empty.ensures ∙ ap (weight_after on c.loop.found) some
    ∙ ap (λ m. weight_with on c.loop.found m c.in-Some.after.now) (sym c.packet_weight-more.ensures)
    ∙ with_some on c.loop.found c.packet_weight-more.result c.in-Some.after.now c.if-more-eq0.false
    ∙ ap (λ m. on m c.in-Some.after.now) (sym c.max-found.ensures)) ∙ c.loop.invariant

pub returns : goal.returns
returns c = weight_none (length c.args.octets.now) c.loop.counter c.loop.found c.loop.rest.now c.loop-test.false ∙ c.loop.invariant
