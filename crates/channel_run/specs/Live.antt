-- A channel that reads its rows as they come.
use Rattle.std.specs.Prelude.{◌≡◌, ℕ, ◌++◌, List, [], ◌∷◌, None}
use Rattle.line_model.specs.declared.interface.Interface.{Interface}
use Rattle.line_model.specs.basics.Records.{Item, Piece}
use Rattle.line_model.specs.basics.Bounds.{IsPiece}
use Rattle.line_model.specs.channels.Gaps.{GapChannel, fresh_at}
use Rattle.line_model.specs.observer.Observer.{row_step}
use Rattle.line_model.specs.pieces.Plans.{piece_events}
use Rattle.channel_run.specs.Tally.{Counts}
use Rattle.channel_run.specs.declared.live.LiveChannel.{LiveChannel}

-- a channel after some rows
abbrev pub channel_after : Interface → (channel : ℕ) → GapChannel → List Item → GapChannel
channel_after i k g [] = g
channel_after i k g (x ∷ xs) = channel_after i k (row_step i k g x).after xs

-- the channel of a piece after its rows
abbrev pub channel_so_far : Piece → GapChannel
channel_so_far p = channel_after p.interface p.channel (fresh_at p.interface p.start p.epoch p.channel) p.items

-- a piece as it is so far, with no end
abbrev pub so_far : Piece → Piece
so_far p = record p { end = None }

-- a piece with one more row
abbrev pub with_item : Piece → Item → Piece
with_item p item = record p { items = p.items ++ item ∷ [] }

-- a live channel represents a piece as it is so far; the id of the piece and its end do not matter
pub record Represents {A C : Type 0} (interface_of : C → Interface) (number_of : C → ℕ) (represents : C → GapChannel → Type 0) (live : LiveChannel A C) (p : Piece) : Type 0 where
  pub small : IsPiece p.interface p.channel p.items
  pub interface : interface_of live.machine ≡ p.interface
  pub number : number_of live.machine ≡ p.channel
  pub channel : live.channel ≡ p.channel
  pub epoch : live.epoch ≡ p.epoch
  pub machine : represents live.machine (channel_so_far p)
  pub counted : Counts live.tally p.epoch p.channel (piece_events (so_far p))
