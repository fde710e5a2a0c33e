use Rattle.std.proofs.Common.{◌≡◌, sym, ◌∙◌, ap, subst}
use Rattle.line_model.specs.channels.FlowControl.{no_counts}
use Rattle.data_transfer.specs.FlowResidues.{ResiduesRepresent}
use Rattle.channel_machine.specs.Terms.{AreUsable}
use Rattle.channel_run.specs.StatusWord.{state_in, owed_in}
use Rattle.channel_machine.specs.PackedStatus.{call_in, values_in}
use Rattle.channel_machine.proofs.PackedLemmas.{values_new}
use Rattle.channel_machine.proofs.packed.PackedStatusStatusStore.entered.Goals as goal

pub invariant_of-result : goal.invariant_of-result
invariant_of-result c =
    let values : values_in c.new.result ≡ c.args.terms.now.values =
    values_new c.new.result c.owner_bits_of-owner_bits.result c.new-flow.result c.args.terms.now.values c.new.ensures.owner_bits c.new.ensures.flow c.new-flow.ensures.windows
    c.owner_bits_of-owner_bits.ensures.size_t c.owner_bits_of-owner_bits.ensures.size_n in
    record { usable = subst (λ v. AreUsable c.args.terms.now.interface.modulus v) (sym values) c.args.terms.now.usable }

pub returns : goal.returns
returns c =
    let values : values_in c.new.result ≡ c.args.terms.now.values =
    values_new c.new.result c.owner_bits_of-owner_bits.result c.new-flow.result c.args.terms.now.values c.new.ensures.owner_bits c.new.ensures.flow c.new-flow.ensures.windows
    c.owner_bits_of-owner_bits.ensures.size_t c.owner_bits_of-owner_bits.ensures.size_n in
    let call = ap (λ a. call_in a) c.new.ensures.owner_bits ∙ c.owner_bits_of-owner_bits.ensures.call in
    record {
      state = ap (λ a. state_in a) c.new.ensures.owner_bits ∙ c.owner_bits_of-owner_bits.ensures.state ∙ c.state_bits.ensures.state;
      owed = ap (λ a. owed_in a) c.new.ensures.owner_bits ∙ c.owner_bits_of-owner_bits.ensures.owed;
      terms = λ j. record { interface = c.args.terms.now.interface; call = call j; values = values j };
      modulus = ap (λ f. f.modulus) c.new.ensures.flow ∙ c.new-flow.ensures.modulus;
      windows = ap (λ f. f.windows) c.new.ensures.flow ∙ c.new-flow.ensures.windows;
      nothing_sent = subst (λ f. ResiduesRepresent f no_counts) (sym c.new.ensures.flow) c.new-flow.ensures.represented;
    }
