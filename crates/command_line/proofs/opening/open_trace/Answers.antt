use Rattle.std.proofs.Common.{◌∙◌, ap}
use Rattle.std.specs.Prelude.{not}
use Rattle.std.specs.Option.{option_map}
use Rattle.command_line.specs.Faults.{open_status}
use Rattle.command_line.proofs.opening.open_trace.Goals as goal

pub returns-in-Err-clause-said : goal.returns-in-Err-clause-said
returns-in-Err-clause-said g c = (
  record { named = c.in-Some.name.now; is = ap (λ o. option_map (λ name. name.now) o) c.in-Some.is; refusal = c.in-Err.refusal; said = c.refuse_trace.ensures.said },
  c.refuse_trace.ensures.status ∙ ap (λ b. open_status (not b) c.in-Err.refusal.reason) c.is_plain-has_options.ensures,
)
