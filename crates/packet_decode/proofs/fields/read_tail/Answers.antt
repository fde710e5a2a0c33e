use Rattle.std.proofs.lemmas.Grind.{common_steps}
use Rattle.std.proofs.Common.{arith, ◌≡◌, subst, ◌<◌, ◌≤◌, ◌+◌, ℕ, List, length, drop}
use Rattle.std.specs.Prelude.{◌||◌}
use Rattle.line_model.specs.basics.Octets.{octet}
use Rattle.line_model.specs.packets.Facilities.{user_data_limit}
use Rattle.packet_decode.specs.Reading.{ReadsAs, charges_fast}
use Rattle.packet_decode.proofs.BlockLemmas.{tail_broken, tail_cut, tail_long, tail_none, tail_out}
use Rattle.packet_decode.proofs.fields.read_tail.Goals as goal

pub returns-in_default-clause-fault : goal.returns-in_default-clause-fault
returns-in_default-clause-fault c = tail_cut c.args.interface.now c.args.fast_before c.args.octets.now c.in_default.ensures

pub returns-in_default-facilities-clause-fault : goal.returns-in_default-facilities-clause-fault
returns-in_default-facilities-clause-fault c =
    tail_broken c.args.interface.now c.args.fast_before c.args.octets.now c.in-Some.ensures.0
    (rw c.in-Some.ensures.1 at c.in_default-facilities.ensures.reads)

pub returns-then-asked-clause-fault : goal.returns-then-asked-clause-fault
returns-then-asked-clause-fault c =
    tail_out c.args.interface.now c.args.fast_before c.args.octets.now c.in-Some-facilities.asked c.in-Some.ensures.0
    (subst (λ (xs : List ℕ). ReadsAs c.args.interface.now xs c.in-Some-facilities.asked) c.in-Some.ensures.1 c.in-Some-facilities.ensures.reads) c.if-asked.true

pub returns-then-user_data-user_data_limit-clause-fault : goal.returns-then-user_data-user_data_limit-clause-fault
returns-then-user_data-user_data_limit-clause-fault c =
    let xs = c.args.octets.now in
    let asked = c.in-Some-facilities.asked in
    let limit : c.user_data_limit.result ≡ user_data_limit (charges_fast asked || c.args.fast_before) = grind (arith, common_steps) in
    let long : user_data_limit (charges_fast asked || c.args.fast_before) < length (drop (1 + octet 1 xs) xs) =
    rw (← limit, ← c.in-Some.ensures.2) c.if-user_data-user_data_limit.true in
    tail_long c.args.interface.now c.args.fast_before xs asked c.in-Some.ensures.0
    (subst (λ (ys : List ℕ). ReadsAs c.args.interface.now ys asked) c.in-Some.ensures.1 c.in-Some-facilities.ensures.reads) c.if-asked.false long

pub returns-clause-reads : goal.returns-clause-reads
returns-clause-reads c =
    subst (λ (xs : List ℕ). ReadsAs c.args.interface.now xs c.in-Some-facilities.asked) c.in-Some.ensures.1 c.in-Some-facilities.ensures.reads

pub returns-clause-in_range : goal.returns-clause-in_range
returns-clause-in_range c = c.in-Some-facilities.ensures.in_range

pub returns-clause-usable : goal.returns-clause-usable
returns-clause-usable c = c.if-asked.false

pub returns-clause-user_data : goal.returns-clause-user_data
returns-clause-user_data c = c.in-Some.ensures.2

pub returns-clause-fault : goal.returns-clause-fault
returns-clause-fault c =
    let xs = c.args.octets.now in
    let asked = c.in-Some-facilities.asked in
    let limit : c.user_data_limit.result ≡ user_data_limit (charges_fast asked || c.args.fast_before) = grind (arith, common_steps) in
    let short : length (drop (1 + octet 1 xs) xs) ≤ user_data_limit (charges_fast asked || c.args.fast_before) =
    rw (← limit, ← c.in-Some.ensures.2) c.if-user_data-user_data_limit.false in
    tail_none c.args.interface.now c.args.fast_before xs asked c.in-Some.ensures.0
    (subst (λ (ys : List ℕ). ReadsAs c.args.interface.now ys asked) c.in-Some.ensures.1 c.in-Some-facilities.ensures.reads) c.if-asked.false short
