use Rattle.descriptions.proofs.CallSumLemmas.{table_begun}
use Rattle.descriptions.proofs.call_table.CallTablePrinterLive.begin.Goals as goal

pub returns-clause-printed : goal.returns-clause-printed
returns-clause-printed g c = (c.new-self.ensures.chosen, table_begun _ c.new.ensures.origins c.new-2.ensures c.new-3.ensures, c.new.ensures.circuits)
