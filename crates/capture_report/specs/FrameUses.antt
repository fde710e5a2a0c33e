-- What becomes of a frame of a capture: it is read, or one reason why it is left out.
use Rattle.std.specs.Prelude.{◌==◌, ◌&&◌, not, if◌then◌else◌}
use Rattle.capture_model.specs.declared.reason.Reason.{Reason}
use Rattle.capture_model.specs.declared.reason.Reason.TheVariants as reason
use Rattle.capture_rows.specs.Givens as given
use Rattle.capture_rows.specs.Givens.{Given}
use Rattle.ip_segments.specs.Segments.{Segment}
use Rattle.ip_segments.specs.declared.carriers.CarrierFault.{CarrierFault}
use Rattle.ip_segments.specs.declared.carriers.CarrierFault.TheVariants as carrier
use Rattle.ip_segments.specs.declared.fragments.FragmentFault.{FragmentFault}
use Rattle.ip_segments.specs.declared.fragments.FragmentFault.TheVariants as fragment
use Rattle.capture_report.specs.declared.reasons.FrameUse.{FrameUse}
use Rattle.capture_report.specs.declared.reasons.FrameUse.TheVariants as becomes

-- ---- of a line

-- that of a frame which is left out. The last ones are of packets of which gaps are in the place, and of no frame
abbrev pub use_of_reason : Reason → FrameUse
use_of_reason (reason.UnknownLink n) = becomes.UnknownLink
use_of_reason (reason.OtherInterface n) = becomes.OtherInterface
use_of_reason reason.OtherProtocol = becomes.OtherProtocol
use_of_reason reason.OtherCarrier = becomes.OtherCarrier
use_of_reason reason.BadHeader = becomes.BadHeader
use_of_reason (reason.OtherAddress n) = becomes.BadHeader
use_of_reason reason.BadCheckSequence = becomes.BadCheck
use_of_reason reason.LinkFrame = becomes.LinkFrame
use_of_reason (reason.DeviceWord n) = becomes.DeviceWord
use_of_reason reason.RepeatedFrame = becomes.Repeated
use_of_reason reason.UntakenFrame = becomes.Held
use_of_reason r = becomes.InGap

abbrev pub use_of_given : Given → FrameUse
use_of_given (given.Packet s octets) = becomes.Read
use_of_given (given.Gap c r) = becomes.InGap
use_of_given (given.Held s octets cut) = becomes.Held
use_of_given (given.OfLink k) = becomes.LinkFrame
use_of_given (given.LeftOut r) = use_of_reason r

-- ---- of XOT

-- one without a datagram
abbrev pub use_of_carrier : CarrierFault → FrameUse
use_of_carrier carrier.Cut = becomes.BadHeader
use_of_carrier carrier.OtherProtocol = becomes.OtherProtocol
use_of_carrier carrier.TooDeep = becomes.OtherProtocol

-- one whose fragment is left out
abbrev pub use_of_fragment : FragmentFault → FrameUse
use_of_fragment fragment.OtherProtocol = becomes.OtherProtocol
use_of_fragment fragment.Cut = becomes.GivenUp 1
use_of_fragment fragment.Long = becomes.GivenUp 1

-- one with a segment of XOT; a FIN has a sequence number, as an octet has
abbrev pub use_of_segment : Segment → FrameUse
use_of_segment s = if s.payload.length == 0 && not s.is_fin then becomes.NoOctets else becomes.Read
