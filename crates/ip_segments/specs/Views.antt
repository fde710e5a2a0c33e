-- What contracts see of datagrams and segments.
use Rattle.capture_model.specs.Views.{payload_view}
use Rattle.ip_segments.specs.Datagrams as datagrams
use Rattle.ip_segments.specs.Segments as segments
use Rattle.ip_segments.specs.declared.datagram.Datagram.{Datagram}
use Rattle.ip_segments.specs.declared.segment.Segment.{Segment}
use Rattle.ip_segments.specs.declared.version_6.Upper.{Upper}

abbrev pub datagram_view : Datagram → datagrams.Datagram
datagram_view d = record { protocol = d.protocol; source = d.source.now; target = d.target.now; fragment = d.fragment; payload = payload_view d.payload }

abbrev pub upper_view : Upper → datagrams.Upper
upper_view u = record { protocol = u.protocol; fragment = u.fragment; payload = payload_view u.payload }

abbrev pub segment_view : Segment → segments.Segment
segment_view s = record {
  source = s.source;
  target = s.target;
  sequence = s.sequence;
  acknowledged = s.acknowledged;
  is_syn = s.is_syn;
  is_fin = s.is_fin;
  is_reset = s.is_reset;
  payload = payload_view s.payload;
}
