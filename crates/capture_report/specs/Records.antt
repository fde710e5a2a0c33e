-- What a capture has, in its order.
use Rattle.std.specs.Option.{option_map}
use Rattle.capture_files.specs.Records.{Record}
use Rattle.capture_model.specs.Frames.{frame_view}
use Rattle.capture_report.specs.declared.frames.Record as declared
pub use Rattle.capture_files.specs.Records.{Follows, Record}

abbrev pub record_view : declared.Record → Record
record_view r = record { dropped = r.dropped; frame = option_map frame_view r.frame }
