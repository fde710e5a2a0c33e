use Rattle.std.proofs.Common.{refl, sym, ◌∙◌, ap, true, false}
use Rattle.pad.specs.Concerns.{concern_of}
use Rattle.pad.proofs.Applied.{free_fault, is_free, indicating, indicating_fault, setting, set_faulted, reading, nothing, unasked}
use Rattle.pad.proofs.Walked.{indicated_all}
use Rattle.pad.proofs.settings.Settings.apply.Goals as goal

pub returns-in-Nothing-clause-represented : goal.returns-in-Nothing-clause-represented
returns-in-Nothing-clause-represented c ts h =
    nothing c.args.self.now ts c.args.from c.args.message.now.code c.args.message.now.pairs.now h
    (ap (λ b. concern_of b c.args.message.now.code) (sym c.is_own.ensures) ∙ sym c.in-Nothing.ensures)

pub returns-in-Reads-clause-represented : goal.returns-in-Reads-clause-represented
returns-in-Reads-clause-represented c ts h =
    reading c.args.self.now _ ts c.args.from c.args.message.now.code c.args.message.now.pairs.now h c.args.message.now.well_formed
    (ap (λ b. concern_of b c.args.message.now.code) (sym c.is_own.ensures) ∙ sym c.in-Reads.ensures) refl refl (λ ws e. e)

pub returns-in-Sets-clause-represented : goal.returns-in-Sets-clause-represented
returns-in-Sets-clause-represented c ts h =
    setting c.args.self.now _ ts c.args.from c.args.message.now.code c.args.message.now.pairs.now h c.args.message.now.well_formed
    (ap (λ b. concern_of b c.args.message.now.code) (sym c.is_own.ensures) ∙ sym c.in-Sets.ensures) c.set.ensures.pad c.set.ensures.asked c.set.ensures.has_entries

pub returns-in-Sets-clause-fault : goal.returns-in-Sets-clause-fault
returns-in-Sets-clause-fault c ts h =
    c.set.ensures.fault ∙ set_faulted c.args.self.now ts c.args.from c.args.message.now.code c.args.message.now.pairs.now c.args.message.now.well_formed
    (ap (λ b. concern_of b c.args.message.now.code) (sym c.is_own.ensures) ∙ sym c.in-Sets.ensures)

pub returns-else-not-self-clause-represented : goal.returns-else-not-self-clause-represented
returns-else-not-self-clause-represented c ts h =
    indicating c.args.self.now _ ts c.args.from c.args.message.now.code c.args.message.now.pairs.now h c.args.message.now.well_formed
    (ap (λ b. concern_of b c.args.message.now.code) (sym c.is_own.ensures) ∙ sym c.in-Indicates.ensures) c.if-not-self.false c.indicate.ensures.pad c.indicate.ensures.asked
    (indicated_all c.args.self.now c.indicate.new.self c.args.message.now.pairs.now c.new.result c.new.ensures c.indicate.ensures.has_entries)

pub returns-in-Nothing-clause-fault : goal.returns-in-Nothing-clause-fault
returns-in-Nothing-clause-fault c ts h =
    free_fault c.args.self.now ts c.args.from c.args.message.now.code c.args.message.now.pairs.now (ap is_free (ap (λ b. concern_of b c.args.message.now.code) (sym c.is_own.ensures) ∙ sym c.in-Nothing.ensures))

pub returns-in-Reads-clause-fault : goal.returns-in-Reads-clause-fault
returns-in-Reads-clause-fault c ts h =
    free_fault c.args.self.now ts c.args.from c.args.message.now.code c.args.message.now.pairs.now (ap is_free (ap (λ b. concern_of b c.args.message.now.code) (sym c.is_own.ensures) ∙ sym c.in-Reads.ensures))

pub returns-then-not-self-clause-represented : goal.returns-then-not-self-clause-represented
returns-then-not-self-clause-represented c ts h =
    unasked c.args.self.now ts c.args.from c.args.message.now.code c.args.message.now.pairs.now h c.args.message.now.well_formed
    (ap (λ b. concern_of b c.args.message.now.code) (sym c.is_own.ensures) ∙ sym c.in-Indicates.ensures) c.if-not-self.true

pub returns-then-not-self-clause-fault : goal.returns-then-not-self-clause-fault
returns-then-not-self-clause-fault c ts h =
    indicating_fault c.args.self.now ts c.args.from c.args.message.now.code c.args.message.now.pairs.now false h c.args.message.now.well_formed
    (ap (λ b. concern_of b c.args.message.now.code) (sym c.is_own.ensures) ∙ sym c.in-Indicates.ensures) c.if-not-self.true

pub returns-else-not-self-clause-fault : goal.returns-else-not-self-clause-fault
returns-else-not-self-clause-fault c ts h =
    indicating_fault c.args.self.now ts c.args.from c.args.message.now.code c.args.message.now.pairs.now true h c.args.message.now.well_formed
    (ap (λ b. concern_of b c.args.message.now.code) (sym c.is_own.ensures) ∙ sym c.in-Indicates.ensures) c.if-not-self.false
