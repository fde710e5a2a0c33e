use Rattle.std.proofs.Common.{◌∙◌, ap, arith, subst}
use Rattle.std.specs.Prelude.{min}
use Rattle.std.proofs.Math.Nat.{min-eq_left}
use Rattle.line_model.specs.channels.Channels.{of_side}
use Rattle.line_model.specs.channels.FlowControl.{count_data}
use Rattle.data_transfer.specs.FlowResidues.{Answers}
use Rattle.data_transfer.proofs.flow.Flow.data.Goals as goal

pub returns-clause-counts : goal.returns-clause-counts
returns-clause-counts c cs s =
    let window = ap (λ d. d.window) c.direction.ensures.value in
    subst (λ w. Answers c.data_within.result c.args.self.now c.data_within.new.self (count_data c.args.self.now.modulus w cs c.args.side c.args.send c.args.receive))
    (ap (λ w. min w (of_side c.args.side c.args.self.now.windows)) window ∙ min-eq_left (omega arith)) (c.data_within.ensures.counts cs s)
