use Rattle.std.proofs.Common.{◌∙◌, [], ◌∷◌, ap}
use Rattle.std.proofs.lemmas.Result.{on_ok_weaker}
use Rattle.report_merge.specs.Gathered.{Gathered, joined, gathered}
use Rattle.report_merge.proofs.GatheredLemmas.{gathered_more}
use Rattle.report_merge.proofs.parts.Parts.add.Goals as goal

pub returns-clause-added : goal.returns-clause-added
returns-clause-added g c ps is = on_ok_weaker c.append.result
    (λ all. all ∙ (ap (joined c.args.self.now) c.of.ensures ∙ (ap (λ (h : Gathered). joined h (gathered (c.args.report ∷ []))) is ∙ gathered_more ps (c.args.report ∷ []))))
    c.append.ensures

pub returns-clause-pieces : goal.returns-clause-pieces
returns-clause-pieces g c = on_ok_weaker c.append.result
    (λ all. ap (λ (p : Gathered). p.pieces) (all ∙ ap (joined c.args.self.now) c.of.ensures))
    c.append.ensures
