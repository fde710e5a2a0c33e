use Rattle.descriptions.specs.Follows.{KeepsOrigins}
use Rattle.descriptions.proofs.ChoiceLemmas.{rows_begun}
use Rattle.descriptions.proofs.row_objects.RowObjectsPrinterLive.begin.Goals as goal

pub returns-clause-printed : goal.returns-clause-printed
returns-clause-printed g c = (c.new-self.ensures.chosen, rows_begun (λ i rs. KeepsOrigins i rs c.new.result.origins) c.new.ensures.origins)
