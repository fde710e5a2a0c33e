use Rattle.std.proofs.Common.{◌≡◌, subst, sym}
use Rattle.std.specs.Prelude.{IfSome}
use Rattle.line_model.specs.packets.Says.{items_of}
use Rattle.trace_reading.specs.TextCuts.{AreCut, HasCut}
use Rattle.trace_reading.proofs.text_cutter.row_cutter_of.Goals as goal

pub returns-in-Some-clause-cut : goal.returns-in-Some-clause-cut
returns-in-Some-clause-cut g c rows head cut same =
    let here = subst (AreCut rows head) c.in-Some.is cut in
    let header = subst (λ o. IfSome o (λ i. i ≡ c.args.interface.now)) here.0 same in
    subst (λ i. HasCut (items_of i rows) c.in-Some.row_cutter) header here.1

pub returns-in-Some-clause-interface : goal.returns-in-Some-clause-interface
returns-in-Some-clause-interface g c rows head cut same = subst (λ o. IfSome o (λ i. i ≡ c.args.interface.now)) (subst (AreCut rows head) c.in-Some.is cut).0 same

pub returns-in-None-clause-cut : goal.returns-in-None-clause-cut
returns-in-None-clause-cut g c rows head cut same = subst (λ rs. HasCut (items_of c.args.interface.now rs) c.new.result) (sym (subst (AreCut rows head) c.in-None.is cut)) c.new.ensures.cut
