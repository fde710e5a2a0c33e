-- Which reasons mean that packets may be missing.
use Rattle.std.specs.Prelude.{Bool, true, false}
use Rattle.capture_model.specs.declared.reason.Reason.{Reason}
use Rattle.capture_model.specs.declared.reason.Reason.TheVariants as reasons

-- whether packets may be missing for a reason: not where the frame has none, was left out by a choice, or came again
abbrev pub is_damage : Reason → Bool
is_damage (reasons.OtherBlock _) = false
is_damage (reasons.OtherInterface _) = false
is_damage reasons.OtherProtocol = false
is_damage reasons.OtherCarrier = false
is_damage reasons.LinkFrame = false
is_damage reasons.RepeatedFrame = false
is_damage reasons.UntakenFrame = false
is_damage (reasons.DeviceWord _) = false
is_damage _ = true
