use Rattle.call_accounts.proofs.PlaceLemmas.{none_added}
use Rattle.call_accounts.proofs.call.Places.new.Goals as goal

pub returns : goal.returns
returns g c = none_added _ _ c.new.result c.new-2.result c.new.ensures c.new-2.ensures.empty
