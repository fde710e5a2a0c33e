use Rattle.std.proofs.Common.{◌<◌, ◌==◌, sym, ◌∙◌, ap, subst}
use Rattle.channel_machine.proofs.PackedLemmas.{byte_below, byte_is, state_of_fields, owed_of_fields, call_of_fields, size_t_of_fields, size_n_of_fields, fields_fit}
use Rattle.channel_machine.proofs.packed.owner_bits_of.Goals as goal

pub returns-clause-state : goal.returns-clause-state
returns-clause-state c =
    state_of_fields c.args.state c.from.result c.call_bits.result c.logarithm-size_t.result c.logarithm-size_n.result c.requires.state

pub returns-clause-owed : goal.returns-clause-owed
returns-clause-owed c =
    let owed = subst (λ v. v < 2) (sym c.from.ensures) (byte_below c.args.owed) in
    owed_of_fields c.args.state c.from.result c.call_bits.result c.logarithm-size_t.result c.logarithm-size_n.result c.requires.state owed
    ∙ ap (λ v. v == 1) c.from.ensures ∙ byte_is c.args.owed

pub returns-clause-call : goal.returns-clause-call
returns-clause-call c =
    let owed = subst (λ v. v < 2) (sym c.from.ensures) (byte_below c.args.owed) in
    call_of_fields c.args.state c.from.result c.call_bits.result c.logarithm-size_t.result c.logarithm-size_n.result c.requires.state owed c.call_bits.ensures.below
    ∙ c.call_bits.ensures.call

pub returns-clause-size_t : goal.returns-clause-size_t
returns-clause-size_t c =
    let owed = subst (λ v. v < 2) (sym c.from.ensures) (byte_below c.args.owed) in
    size_t_of_fields c.args.state c.from.result c.call_bits.result c.logarithm-size_t.result c.logarithm-size_n.result c.requires.state owed c.call_bits.ensures.below
    c.logarithm-size_t.ensures.below
    ∙ c.logarithm-size_t.ensures.power

pub returns-clause-size_n : goal.returns-clause-size_n
returns-clause-size_n c =
    let owed = subst (λ v. v < 2) (sym c.from.ensures) (byte_below c.args.owed) in
    size_n_of_fields c.args.state c.from.result c.call_bits.result c.logarithm-size_t.result c.logarithm-size_n.result c.requires.state owed c.call_bits.ensures.below
    c.logarithm-size_t.ensures.below c.logarithm-size_n.ensures.below
    ∙ c.logarithm-size_n.ensures.power

pub returns-clause-fits : goal.returns-clause-fits
returns-clause-fits c =
    let owed = subst (λ v. v < 2) (sym c.from.ensures) (byte_below c.args.owed) in
    fields_fit c.args.state c.from.result c.call_bits.result c.logarithm-size_t.result c.logarithm-size_n.result c.requires.state owed c.call_bits.ensures.below
    c.logarithm-size_t.ensures.below c.logarithm-size_n.ensures.below
