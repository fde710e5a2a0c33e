use Rattle.std.proofs.Common.{◌≡◌, sym, ◌∙◌, ap, None, Some}
use Rattle.line_model.specs.channels.Channels.{PadMessage}
use Rattle.line_model.specs.declared.state.Side.TheVariants.{T, N}
use Rattle.line_model.specs.packets.Formats.{or_other}
use Rattle.pad.specs.Effects.{own_fault}
use Rattle.pad.specs.MessageEvents.{pad_message}
use Rattle.channel_machine.proofs.Faults.{both}
use Rattle.channel_machine.proofs.messages.BothSettings.apply.Goals as goal

pub returns-in-Some-clause-fault : goal.returns-in-Some-clause-fault
returns-in-Some-clause-fault c ts s =
    let v = c.args.message.now in
    let m : PadMessage = pad_message c.args.from v in
    let t : Some c.in-Some.fault ≡ own_fault T ts m = sym c.in-Some.is ∙ c.apply-of_t.ensures.fault ts s.of_t ∙ ap (λ p. own_fault p ts m) s.pad_t in
    let n : c.apply-of_n.result ≡ own_fault N ts m = c.apply-of_n.ensures.fault ts s.of_n ∙ ap (λ p. own_fault p ts m) s.pad_n in
    (λ j. or_other (t j) (n j)) ∙ both ts c.args.from v.code v.pairs.now v.well_formed

pub returns-in-None-clause-fault : goal.returns-in-None-clause-fault
returns-in-None-clause-fault c ts s =
    let v = c.args.message.now in
    let m : PadMessage = pad_message c.args.from v in
    let t : None ≡ own_fault T ts m = sym c.in-None.is ∙ c.apply-of_t.ensures.fault ts s.of_t ∙ ap (λ p. own_fault p ts m) s.pad_t in
    let n : c.apply-of_n.result ≡ own_fault N ts m = c.apply-of_n.ensures.fault ts s.of_n ∙ ap (λ p. own_fault p ts m) s.pad_n in
    (λ j. or_other (t j) (n j)) ∙ both ts c.args.from v.code v.pairs.now v.well_formed

pub returns-in-Some-clause-represented : goal.returns-in-Some-clause-represented
returns-in-Some-clause-represented c ts s = record {
  pad_t = c.apply-of_t.ensures.pad ∙ s.pad_t;
  pad_n = c.apply-of_n.ensures.pad ∙ s.pad_n;
  of_t = c.apply-of_t.ensures.represented ts s.of_t;
  of_n = c.apply-of_n.ensures.represented ts s.of_n;
}

pub returns-in-None-clause-represented : goal.returns-in-None-clause-represented
returns-in-None-clause-represented c ts s = record {
  pad_t = c.apply-of_t.ensures.pad ∙ s.pad_t;
  pad_n = c.apply-of_n.ensures.pad ∙ s.pad_n;
  of_t = c.apply-of_t.ensures.represented ts s.of_t;
  of_n = c.apply-of_n.ensures.represented ts s.of_n;
}
