-- What the frames of a link give has their octets and places.
use Rattle.std.proofs.Common.{ℕ, zero, suc, ◌%◌, ◌<◌, ◌&&◌, Bool, true, false, List, [], ◌∷◌, ◌++◌, Option, None, Some, drop, take, arith}
use Rattle.std.specs.Prelude.{is_some, slice_index, ◌==◌, if◌then◌else◌}
use Rattle.std.specs.List.{list_any}
use Rattle.hex.specs.Hex.{IsBytes}
use Rattle.line_model.specs.channels.Channels.{other}
use Rattle.line_model.specs.declared.state.Side.{Side}
use Rattle.line_model.specs.declared.state.Side.TheVariants.{T, N}
use Rattle.lapb_link.specs.Controls.{command_side, control_of, is_command, is_set_up, modulus_after, second_octet, unnumbered_of}
use Rattle.lapb_link.specs.Ends.{known, sender_from}
use Rattle.lapb_link.specs.Frames.{IFrame}
use Rattle.lapb_link.specs.Links.{LinkFrame, Read, Packet, Held, OfLink, LeftOut, What, addressed, by_control, controlled, held_since, identified, information_read, informed_on, is_accepted, is_gap, is_link_holding, link_set_up, linked, marked, read, reading_of, receiver_of, set_up_shown, supervised_on, supervisor, supervisory_by, supervisory_read, unnumbered_by, unnumbered_read, what_of, with_receiver}
use Rattle.lapb_link.specs.Receiving.{forgotten, gap_if, held_shown}
use Rattle.lapb_link.specs.declared.control.Control.{Control}
use Rattle.lapb_link.specs.declared.control.Control.TheVariants as control
use Rattle.lapb_link.specs.declared.control.Supervisory.TheVariants.{Rr}
use Rattle.lapb_link.specs.declared.control.SupervisoryField.{SupervisoryField}
use Rattle.lapb_link.specs.declared.control.Unnumbered.{Unnumbered}
use Rattle.lapb_link.specs.declared.ends.Sender.{Sender}
use Rattle.lapb_link.specs.declared.frames.Place.{Place}
use Rattle.lapb_link.specs.declared.link.Link.{Link}
use Rattle.lapb_link.specs.declared.modulus.Modulus.{Modulus}
use Rattle.lapb_link.specs.declared.modulus.Modulus.TheVariants.{Basic, Extended}
use Rattle.lapb_link.specs.declared.receiver.Fate.{Fate}
use Rattle.lapb_link.specs.declared.receiver.Fate.TheVariants as fate
use Rattle.lapb_link.specs.declared.receiver.Receiver.{Receiver}
use Rattle.lapb_link.specs.declared.receiver.Shown.{Shown}
use Rattle.capture_report.specs.TraceRows.{IsPlace}
use Rattle.capture_report.proofs.HeldLemmas.{AreHeld, AreShown, IsIFrame, both_shown, gap_shown, held_are_shown, informed_read, supervised_step}

abbrev pub HoldsFrames : Link → Type 0
HoldsFrames l = AreHeld l.of_t.held × AreHeld l.of_n.held

abbrev pub IsWhat : What → Type 0
IsWhat (Packet octets) = IsBytes octets
IsWhat (Held octets) = IsBytes octets
IsWhat (OfLink k) = Unit {0}
IsWhat (LeftOut r) = Unit {0}

pub record IsLinkRead (r : Read) : Type 0 where
  pub after : HoldsFrames r.after
  pub shown : AreShown r.shown
  pub what : IsWhat r.taken.what

link_if : (b : Bool) (l m : Link) → HoldsFrames l → HoldsFrames m → HoldsFrames (if b then l else m)
link_if true l m h k = h
link_if false l m h k = k

held_by : (s : Side) (l : Link) → HoldsFrames l → AreHeld (receiver_of s l).held
held_by T l h = h.0
held_by N l h = h.1

with_held : (s : Side) (r : Receiver) (l : Link) → HoldsFrames l → AreHeld r.held → HoldsFrames (with_receiver s r l)
with_held T r l h k = (k, h.1)
with_held N r l h k = (h.0, k)

marked_holds : (frame : ℕ) (xs : List Shown) (l : Link) → HoldsFrames l → HoldsFrames (marked frame xs l)
marked_holds frame xs l h = link_if (list_any is_gap xs) (record l { last_gap = frame }) l h h

identified_holds : (source : Option ℕ) (a : Side) (l : Link) → HoldsFrames l → HoldsFrames (identified source a l).after
unfolding identified
identified_holds source a l h =
    let s = sender_from source a l.ends in
    let m : Link = record l { ends = s.after } in
    link_if s.sender.is_news (with_receiver s.sender.side (forgotten (receiver_of s.sender.side m)) m) m (with_held s.sender.side (forgotten (receiver_of s.sender.side m)) m h tt) h

-- ---- the kinds of frames

supervised_holds : (s : Side) (p : Place) (c : SupervisoryField) (proves : Bool) (l : Link) → IsPlace p → HoldsFrames l
    → HoldsFrames (linked s p (supervised_on s p c proves l) l) × AreShown (supervised_on s p c proves l).shown
supervised_holds s p c proves l place h =
    let a = supervised_on s p c proves l in
    let step = supervised_step (reading_of s p l) c proves (receiver_of s l) place (held_by s l h) in
    (marked_holds p.frame a.shown (with_receiver s a.after l) (with_held s a.after l h step.held), step.shown)

what_is : (f : Fate) (octets : List ℕ) → IsBytes octets → IsWhat (what_of f octets)
what_is fate.Accepted octets h = h
what_is fate.Held octets h = h
what_is fate.Repeated octets h = tt

information_is : (s : Sender) (receive : ℕ) (f : IFrame) (l : Link) → IsIFrame f → HoldsFrames l → IsLinkRead (information_read s receive f l)
unfolding information_read
information_is s receive f l new h =
    let field : SupervisoryField = record { kind = Rr; receive = receive; last = false } in
    let a = supervised_on (other s.side) f.place field true l in
    let m = linked (other s.side) f.place a l in
    let b = informed_on s.side f.place f m in
    let first = supervised_holds (other s.side) f.place field true l new.place h in
    let step = informed_read (reading_of s.side f.place m) f (receiver_of s.side m) new.place new (held_by s.side m first.0) in
    let after = marked_holds f.place.frame b.shown (with_receiver s.side b.after m) (with_held s.side b.after m first.0 step.held) in
    let last = marked f.place.frame b.shown (with_receiver s.side b.after m) in
    record {
      after = link_if (f.is_cut && is_accepted b.fate) (record last { last_gap = f.place.frame }) last after after;
      shown = both_shown a.shown b.shown first.1 step.shown;
      what = what_is b.fate f.octets new.octets;
    }

supervisory_is : (f : LinkFrame) (s : Side) (c : SupervisoryField) (l : Link) → IsPlace f.place → HoldsFrames l → IsLinkRead (supervisory_read f s c l)
unfolding supervisory_read
supervisory_is f s c l place h = at (supervisor c.last s (known f.source l.ends))
  where
    at : (o : Option Side) → IsLinkRead (supervisory_by f c o l)
    at None = record { after = h; shown = tt; what = tt }
    at (Some d) = let a = supervised_holds (other d) f.place c (is_some (known f.source l.ends)) l place h in record { after = a.0; shown = a.1; what = tt }

unnumbered_is : (f : LinkFrame) (s : Side) (k : Unnumbered) (l : Link) → IsPlace f.place → HoldsFrames l → IsLinkRead (unnumbered_read f s k l)
unfolding unnumbered_read
unnumbered_is f s k l place h =
    let i = identified f.source (if is_command k then s else other s) l in
    at i.sender (record i.after { modulus = if i.after.learns then modulus_after k i.after.modulus else i.after.modulus }) (identified_holds f.source (if is_command k then s else other s) l h)
  where
    shown_if : (b : Bool) (m : Link) → AreShown (if b then set_up_shown f.place m else [])
    shown_if true m =
        both_shown (held_shown m.of_t) (held_shown m.of_n ++ gap_if (is_link_holding m) (held_since m) f.place) (held_are_shown m.of_t)
        (both_shown (held_shown m.of_n) (gap_if (is_link_holding m) (held_since m) f.place) (held_are_shown m.of_n) (gap_shown (is_link_holding m) (held_since m) f.place place))
    shown_if false m = tt

    at : (sender : Sender) (m : Link) → HoldsFrames m → IsLinkRead (unnumbered_by sender f.place k m)
    at sender m own = record { after = link_if (is_set_up k) (link_set_up f.place m) m (tt, tt) own; shown = shown_if (is_set_up k) m; what = tt }

-- ---- octets of octets

pub bytes_cons : (x : ℕ) (xs : List ℕ) → x < 256 → IsBytes xs → IsBytes (x ∷ xs)
bytes_cons x xs h k zero = h
bytes_cons x xs h k (suc i) = k i

pub bytes_drop : (n : ℕ) (xs : List ℕ) → IsBytes xs → IsBytes (drop n xs)
bytes_drop zero xs h = h
bytes_drop (suc n) [] h = h
bytes_drop (suc n) (x ∷ xs) h = bytes_drop n xs (λ k. h (suc k))

pub bytes_take : (n : ℕ) (xs : List ℕ) → IsBytes xs → IsBytes (take n xs)
bytes_take zero xs h = λ k. omega arith
bytes_take (suc n) [] h = h
bytes_take (suc n) (x ∷ xs) h = bytes_cons x (take n xs) (h 0) (bytes_take n xs (λ k. h (suc k)))

-- ---- a frame

by_control_is : (f : LinkFrame) (s : Side) (packet : List ℕ) (l : Link) (c : Control) → IsPlace f.place → IsBytes packet → HoldsFrames l → IsLinkRead (by_control f s packet l c)
by_control_is f s packet l (control.Information send receive) place bytes h =
    let i = identified f.source s l in
    information_is i.sender receive (record { send = send; place = f.place; octets = packet; is_cut = f.is_cut }) i.after (record { place = place; octets = bytes }) (identified_holds f.source s l h)
by_control_is f s packet l (control.Supervisory c) place bytes h = supervisory_is f s c l place h
by_control_is f s packet l (control.Unnumbered None) place bytes h = record { after = h; shown = tt; what = tt }
by_control_is f s packet l (control.Unnumbered (Some k)) place bytes h = unnumbered_is f s k l place h

abbrev PacketIsBytes : Option (Control × List ℕ) → Type 0
PacketIsBytes None = Unit {0}
PacketIsBytes (Some c) = IsBytes c.1

second_bytes : (c : ℕ) (xs : List ℕ) → IsBytes xs → PacketIsBytes (second_octet c xs)
second_bytes c [] h = tt
second_bytes c (d ∷ xs) h = λ k. h (suc k)

control_bytes : (m : Modulus) (xs : List ℕ) → IsBytes xs → PacketIsBytes (control_of m xs)
control_bytes Basic [] h = tt
control_bytes Basic (a ∷ []) h = tt
control_bytes Basic (a ∷ c ∷ rest) h = λ k. h (suc (suc k))
control_bytes Extended [] h = tt
control_bytes Extended (a ∷ []) h = tt
control_bytes Extended (a ∷ c ∷ rest) h = at (c % 4 == 3)
  where
    at : (b : Bool) → PacketIsBytes (if b then Some (control.Unnumbered (unnumbered_of c), rest) else second_octet c rest)
    at true = λ k. h (suc (suc k))
    at false = second_bytes c rest (λ k. h (suc (suc k)))

pub link_frame_is : (f : LinkFrame) (l : Link) → IsPlace f.place → IsBytes f.octets → HoldsFrames l → IsLinkRead (read f l)
link_frame_is f l place bytes h = at (control_of l.modulus f.octets) (control_bytes l.modulus f.octets bytes)
  where
    by_side : (c : Control × List ℕ) (a : ℕ) (s : Option Side) → IsBytes c.1 → IsLinkRead (addressed f c a s l)
    by_side c a None k = record { after = h; shown = tt; what = tt }
    by_side c a (Some s) k = by_control_is f s c.1 l c.0 place k h

    at : (o : Option (Control × List ℕ)) → PacketIsBytes o → IsLinkRead (controlled f o l)
    at None k = record { after = h; shown = tt; what = tt }
    at (Some c) k = by_side c (slice_index f.octets 0) (command_side (slice_index f.octets 0)) k
