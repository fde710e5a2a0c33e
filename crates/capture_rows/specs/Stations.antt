-- The station that sent a frame.
use Rattle.std.specs.Prelude.{ℕ, List, [], ◌∷◌, Option, Some, None}
use Rattle.std.specs.Int.{w64, from_be_bytes}
use Rattle.std.specs.Option.{option_or}
use Rattle.capture_model.specs.declared.frame.Direction.{Direction}
use Rattle.capture_model.specs.declared.frame.Direction.TheVariants as direction
use Rattle.capture_model.specs.HeaderViews.{LinkHeader}
use Rattle.capture_rows.specs.declared.station.StationBy.{StationBy}
use Rattle.capture_rows.specs.declared.station.StationBy.TheVariants as by

-- the recording host, and the other one; no link address is as high
abbrev pub of_direction : Direction → Option ℕ
of_direction direction.Unknown = None
of_direction direction.Received = Some 0xFFFFFFFFFFFFFFFE
of_direction direction.Sent = Some 0xFFFFFFFFFFFFFFFF

-- a link address of six or eight octets
abbrev pub of_address : List ℕ → Option ℕ
of_address (a ∷ b ∷ c ∷ d ∷ e ∷ f ∷ []) = Some (from_be_bytes w64 (0 ∷ 0 ∷ a ∷ b ∷ c ∷ d ∷ e ∷ f ∷ []))
of_address (a ∷ b ∷ c ∷ d ∷ e ∷ f ∷ g ∷ h ∷ []) = Some (from_be_bytes w64 (a ∷ b ∷ c ∷ d ∷ e ∷ f ∷ g ∷ h ∷ []))
of_address xs = None

-- the station of a frame with a link header
abbrev pub station_of : StationBy → LinkHeader → Option ℕ
station_of by.Either h = option_or (of_direction h.direction) (of_address h.source)
station_of by.Direction h = of_direction h.direction
station_of by.LinkAddress h = of_address h.source
