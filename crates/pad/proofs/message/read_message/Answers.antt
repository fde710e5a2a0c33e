use Rattle.std.proofs.Common.{◌∙◌, ap, ◌<◌, true, false, arith}
use Rattle.std.specs.Prelude.{slice_index}
use Rattle.line_model.specs.channels.Pad.{form_fault, is_badly_formed}
use Rattle.pad.proofs.MessageLemmas.{form_of, no_code, no_octets, number_of, whole_message}
use Rattle.pad.proofs.message.read_message.Goals as goal

pub returns-in_default-clause-fault : goal.returns-in_default-clause-fault
returns-in_default-clause-fault c = no_octets c.args.octets.now c.in_default.len_below

pub slice_bounds-pairs-count : goal.slice_bounds-pairs-count
slice_bounds-pairs-count c = c.in-len1-up.len_at_least

pub returns-in_default-code_of-clause-fault : goal.returns-in_default-code_of-clause-fault
returns-in_default-code_of-clause-fault c =
    let below : slice_index c.args.octets.now 0 < 256 = omega (arith, c.type_inv.octets 0) in
    no_code c.args.octets.now below c.in_default-code_of.ensures

pub returns-then-is_badly_formed-clause-fault : goal.returns-then-is_badly_formed-clause-fault
returns-then-is_badly_formed-clause-fault c =
    let xs = c.args.octets.now in
    let below : slice_index xs 0 < 256 = omega (arith, c.type_inv.octets 0) in
    let whole = whole_message xs c.in-Some.code c.in-len1-up.len_at_least (number_of (slice_index xs 0) c.in-Some.code below c.in-Some.ensures) in
    form_of xs c.in-Some.code true c.in-len1-up.len_at_least below c.in-Some.ensures (omega arith) (c.if-is_badly_formed.ensures ∙ ap is_badly_formed whole)

pub invariant_of-result : goal.invariant_of-result
invariant_of-result c =
    let xs = c.args.octets.now in
    let below : slice_index xs 0 < 256 = omega (arith, c.type_inv.octets 0) in
    let whole = whole_message xs c.in-Some.code c.in-len1-up.len_at_least (number_of (slice_index xs 0) c.in-Some.code below c.in-Some.ensures) in
    record {
      well_formed = ap form_fault whole
          ∙ form_of xs c.in-Some.code false c.in-len1-up.len_at_least below c.in-Some.ensures (omega arith) (c.if-is_badly_formed.ensures ∙ ap is_badly_formed whole);
    }

pub returns-clause-message : goal.returns-clause-message
returns-clause-message c =
    let xs = c.args.octets.now in
    let below : slice_index xs 0 < 256 = omega (arith, c.type_inv.octets 0) in
    whole_message xs c.in-Some.code c.in-len1-up.len_at_least (number_of (slice_index xs 0) c.in-Some.code below c.in-Some.ensures)

pub returns-clause-fault : goal.returns-clause-fault
returns-clause-fault c =
    let xs = c.args.octets.now in
    let below : slice_index xs 0 < 256 = omega (arith, c.type_inv.octets 0) in
    let whole = whole_message xs c.in-Some.code c.in-len1-up.len_at_least (number_of (slice_index xs 0) c.in-Some.code below c.in-Some.ensures) in
    form_of xs c.in-Some.code false c.in-len1-up.len_at_least below c.in-Some.ensures (omega arith) (c.if-is_badly_formed.ensures ∙ ap is_badly_formed whole)
