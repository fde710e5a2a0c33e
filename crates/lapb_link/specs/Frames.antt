-- I frames of one direction: those that are held, and the last one of each number.
use Rattle.std.specs.Prelude.{ℕ, ◌==◌, ◌&&◌, ◌||◌, nat_le, nat_lt, min, Bool, true, false, not, List, [], ◌∷◌, length, take, replicate, slice_index_or, if◌then◌else◌}
use Rattle.std.specs.List.{list_any}
use Rattle.std.specs.Str.{bytes_eq}
use Rattle.lapb_link.specs.Numbers.{after, ahead}
use Rattle.lapb_link.specs.declared.modulus.Modulus.{Modulus}
use Rattle.lapb_link.specs.declared.frames.Reading.{Reading}
use Rattle.lapb_link.specs.declared.frames.Place.{Place}
use Rattle.lapb_link.specs.declared.frames.Information.{Information}
use Rattle.lapb_link.specs.declared.frames.HeldFrame.{HeldFrame}
use Rattle.lapb_link.specs.declared.frames.RecentFrame.{RecentFrame}

-- an I frame
pub record IFrame : Type 0 where
  pub send : ℕ
  pub place : Place
  pub octets : List ℕ
  pub is_cut : Bool

abbrev pub i_frame : Information → IFrame
i_frame f = record { send = f.send; place = f.place; octets = f.octets.now; is_cut = f.is_cut }

-- an I frame as it is held, and as the last one with its number
abbrev pub held_of : Reading → (after_reject : Bool) → IFrame → HeldFrame
held_of g after_reject f = record { side = g.side; send = f.send; place = f.place; octets = f.octets; is_cut = f.is_cut; last_gap = g.last_gap; after_reject = after_reject }

abbrev pub recent_of : IFrame → RecentFrame
recent_of f = record { is_there = true; is_cut = f.is_cut; octets = f.octets }

abbrev pub no_frame : RecentFrame
no_frame = record { is_there = false; is_cut = false; octets = [] }

abbrev pub no_frames : List RecentFrame
no_frames = replicate 128 no_frame

-- whether a number is held
abbrev pub is_held : ℕ → List HeldFrame → Bool
is_held n hs = list_any (λ h. h.send == n) hs

-- a held frame was refused where its number comes again with its packet, and where it came after a reject of the frame that comes
abbrev pub is_kept : (send : ℕ) → (again rejected : Bool) → HeldFrame → Bool
is_kept send again rejected h = not ((again && h.send == send) || (rejected && h.after_reject))

-- the first number from one on that is not held
abbrev pub run_from : Modulus → ℕ → List HeldFrame → ℕ
run_from m n [] = n
run_from m n (h ∷ hs) = run_from m (if h.send == n then after m n 1 else n) hs

-- a held frame among others, in the order of the numbers from the next one on
abbrev pub placed : Modulus → (next : ℕ) → HeldFrame → List HeldFrame → List HeldFrame
placed m next f [] = f ∷ []
placed m next f (h ∷ hs) = if nat_le (ahead m next h.send) (ahead m next f.send) then h ∷ placed m next f hs else f ∷ h ∷ hs

-- a frame comes late where one with a later number is held
abbrev pub is_late : Modulus → (next send : ℕ) → List HeldFrame → Bool
is_late m next send hs = list_any (λ h. nat_lt (ahead m next send) (ahead m next h.send)) hs

-- whether two packets are the same, as far as both were recorded
abbrev pub is_same : (cut : Bool) → (xs ys : List ℕ) → Bool
is_same true xs ys = bytes_eq (take (min (length xs) (length ys)) xs) (take (min (length xs) (length ys)) ys)
is_same false xs ys = bytes_eq xs ys

-- whether a frame has the packet of the last one with its number
abbrev pub is_repeat_of : (set_up : Bool) → IFrame → RecentFrame → Bool
is_repeat_of set_up f r = if r.is_there then is_same (r.is_cut || f.is_cut) r.octets f.octets else not set_up

abbrev pub is_repeated : (set_up : Bool) → IFrame → List RecentFrame → Bool
is_repeated set_up f rs = is_repeat_of set_up f (slice_index_or rs f.send no_frame)
