use Rattle.std.proofs.lemmas.Result.{IfOk-from_err}
use Rattle.std.proofs.Common.{◌≡◌, ◌∙◌, sym, ap, subst, ◌+◌, ℕ, List, drop, Some}
use Rattle.line_model.specs.packets.Facilities.{block_fault}
use Rattle.packet_decode.specs.CallFaults.{facility_field, tail_fault}
use Rattle.packet_decode.specs.Reading.{ReadsAs}
use Rattle.line_model.specs.basics.Octets.{octet}
use Rattle.packet_decode.proofs.BlockLemmas.{block_after, block_refused, fields_are, refused_with}
use Rattle.packet_decode.proofs.fields.block_fields.Goals as goal

pub returns-in_err-called-clause-fields : goal.returns-in_err-called-clause-fields
returns-in_err-called-clause-fields c = IfOk-from_err _ _ c.from_residual.ensures.0

pub returns-in_err-called-clause-usable : goal.returns-in_err-called-clause-usable
returns-in_err-called-clause-usable c = IfOk-from_err _ _ c.from_residual.ensures.0

pub returns-in_err-called-clause-fault : goal.returns-in_err-called-clause-fault
returns-in_err-called-clause-fault c =
    let i = c.args.interface.now in
    let xs = c.args.octets.now in
    refused_with c.from_residual.result c.in_err-called.field-0.0 _ (λ code. block_fault i c.args.fast_before xs ≡ Some code) c.from_residual.ensures.1
    (block_refused i c.args.fast_before xs c.in_err-called.field-0.0 c.in_err-called.ensures.fault)

pub returns-in_err-asked-clause-fields : goal.returns-in_err-asked-clause-fields
returns-in_err-asked-clause-fields c = IfOk-from_err _ _ c.from_residual-in_err-asked.ensures.0

pub returns-in_err-asked-clause-usable : goal.returns-in_err-asked-clause-usable
returns-in_err-asked-clause-usable c = IfOk-from_err _ _ c.from_residual-in_err-asked.ensures.0

pub returns-in_err-asked-clause-fault : goal.returns-in_err-asked-clause-fault
returns-in_err-asked-clause-fault c =
    let i = c.args.interface.now in
    let xs = c.args.octets.now in
    refused_with c.from_residual-in_err-asked.result c.in_err-asked.field-0.0 _ (λ code. block_fault i c.args.fast_before xs ≡ Some code) c.from_residual-in_err-asked.ensures.1
    (block_after i c.args.fast_before xs c.in_ok-called.ensures.fault
    ∙ ap (tail_fault i c.args.fast_before) (sym c.in_ok-called.ensures.addresses.after)
    ∙ c.in_err-asked.ensures.fault)

pub returns-clause-fault : goal.returns-clause-fault
returns-clause-fault c =
    let i = c.args.interface.now in
    block_after i c.args.fast_before c.args.octets.now c.in_ok-called.ensures.fault
    ∙ ap (tail_fault i c.args.fast_before) (sym c.in_ok-called.ensures.addresses.after)
    ∙ c.in_ok-asked.ensures.fault

pub returns-clause-fields : goal.returns-clause-fields
returns-clause-fields c =
    let own = c.in_ok-called.ensures.addresses in
    let read = c.in_ok-asked.ensures in
    let r = subst (λ (ys : List ℕ). ReadsAs c.args.interface.now (facility_field ys) c.in_ok-asked.field-0.asked) own.after read.reads in
    fields_are c.args.octets.now _ c.requires.read own.called own.calling (c.reverse.ensures ∙ sym r.reverse_charging) (c.fast.ensures ∙ sym r.fast)
    (c.sizes.ensures.sizes ∙ sym r.sizes) (sym r.windows) (read.user_data ∙ ap (λ (ys : List ℕ). drop (1 + octet 1 ys) ys) own.after)

pub returns-clause-usable : goal.returns-clause-usable
returns-clause-usable c = record {
  sizes = c.sizes.ensures.usable;
  windows = (c.in_ok-asked.ensures.in_range c.in_ok-asked.ensures.usable).windows;
}
