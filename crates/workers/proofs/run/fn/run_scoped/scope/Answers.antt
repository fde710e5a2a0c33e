use Rattle.workers.proofs.run.fn.run_scoped.scope.Goals as goal

pub returns : goal.returns
returns g c = (c.run.ensures.ran, c.run.ensures.refused)
