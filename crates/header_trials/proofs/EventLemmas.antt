-- Whether events have a finding.
use Rattle.std.proofs.Common.{◌≡◌, refl, List, [], ◌∷◌}
use Rattle.line_model.specs.declared.event.Event.{Event}
use Rattle.line_model.specs.declared.event.What.{What}
use Rattle.line_model.specs.declared.event.What.TheVariants.{Found}
use Rattle.line_model.specs.observer.Report.{findings_of}
use Rattle.line_model.specs.pieces.Plan.{has_some}
use Rattle.live_report.specs.Uncounted.{has_finding}

pub finds : (es : List Event) → has_finding es ≡ has_some (findings_of es)
finds [] = refl
finds (e ∷ es) = at e.what (finds es)
  where
    at : (w : What) → has_finding es ≡ has_some (findings_of es) → has_finding (record e { what = w } ∷ es) ≡ has_some (findings_of (record e { what = w } ∷ es))
    at (Found x s c) h = refl
    at _ h = h
