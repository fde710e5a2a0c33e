-- What is given of how captures are read.
use Rattle.std.specs.Prelude.{ℕ, ◌==◌, ◌&&◌, ◌||◌, Bool, true, false, not, Option, None, Some, is_none, is_some}
use Rattle.std.specs.Option.{option_or}
use Rattle.capture_model.specs.declared.kind.LinkKind.{LinkKind}
use Rattle.capture_rows.specs.declared.choices.Choices.{Choices}
use Rattle.capture_rows.specs.declared.station.StationBy.TheVariants.{Either}
use Rattle.line_model.specs.declared.state.Side.TheVariants.{T}
use Rattle.capture_report.specs.declared.options.CaptureOptions.{CaptureOptions}
use Rattle.capture_report.specs.declared.options.GivenHeader.{GivenHeader}
use Rattle.capture_report.specs.declared.row_source.RowSource.{RowSource}
use Rattle.capture_report.specs.declared.row_source.RowSource.TheVariants.{Xot}

abbrev pub none_given : GivenHeader
none_given = record { modulus = None; window = None; size = None; pvc = None; incoming = None; two_way = None; svc = None; outgoing = None; join = None }

-- the last channel, by either name
abbrev pub last_given : GivenHeader → Option ℕ
last_given g = option_or g.svc g.outgoing

-- whether the last channels of kinds of calls are given
abbrev pub has_ranges : GivenHeader → Bool
has_ranges g = is_some g.incoming || (is_some g.two_way || is_some g.outgoing)

-- nothing of a header is to be estimated
abbrev pub is_whole : GivenHeader → Bool
is_whole g = is_some g.modulus && (is_some g.window && (is_some g.size && (is_some g.pvc && is_some (last_given g))))

-- nothing of it is given
abbrev pub is_unnamed : GivenHeader → Bool
is_unnamed g = is_none g.modulus && (is_none g.window && (is_none g.size && (is_none g.pvc && (is_none g.incoming && (is_none g.two_way && (is_none g.svc && (is_none g.outgoing && is_none g.join)))))))

-- what holds where nothing is given
abbrev pub plain_choices : Choices
plain_choices = record { unknown = None; carrier = None; interface = None; station_by = Either; host = T }

-- the port of XOT (RFC 1613)
abbrev pub xot_port : ℕ
xot_port = 1998

abbrev pub plain : CaptureOptions
plain = record { header = none_given; choices = plain_choices; modulus = None; is_swapped = false; dte = None; source = None; port = xot_port }

abbrev pub with_unknown : LinkKind → CaptureOptions → CaptureOptions
with_unknown k o = record o { choices = record o.choices { unknown = Some k } }

abbrev pub is_plain : CaptureOptions → Bool
is_plain o = is_unnamed o.header && (is_none o.choices.unknown && (is_none o.choices.carrier && (is_none o.choices.interface && (is_none o.modulus && (not o.is_swapped && (is_none o.dte && (is_none o.source && o.port == xot_port)))))))

abbrev pub is_xot : Option RowSource → Bool
is_xot (Some Xot) = true
is_xot _ = false

-- a capture in a pipe is read as its frames come
abbrev pub reads_once : CaptureOptions → Bool
reads_once o = is_whole o.header && not (is_xot o.source)
