-- The records of a pcapng file are in the ranges of their types.
use Rattle.std.proofs.Common.{◌≡◌, sym, subst, refl, ℕ, zero, suc, ◌+◌, ◌-◌, ◌*◌, ◌/◌, ◌^◌, ◌<◌, ◌≤◌, ◌⊎◌, inl, inr, ℤ, pos, ◌+ℤ◌, ◌*ℤ◌, Bool, true, false, List, [], ◌∷◌, ◌++◌, length, max, min, Option, None, Some, IfSome, arith, cond, drop, ltb, nat_eq, nat_le, nat_lt}
use Rattle.std.specs.Prelude.{◌||◌, if◌then◌else◌, option_map, slice_get}
use Rattle.std.specs.Int.{w64, cast_signed}
use Rattle.std.specs.Int.RustNames.{unsigned_abs}
use Rattle.std.specs.List.{AllByRecursion}
use Rattle.std.proofs.Math.IntN.{negsuc, sub_ℕ}
use Rattle.std.proofs.Math.Nat.{div-le_self}
use Rattle.std.proofs.lemmas.Bool.{ltb-true}
use Rattle.std.proofs.lemmas.Int.{ints, unsigned_abs-mul}
use Rattle.std.proofs.Math.Seq.{drop-append_seam, take-append_seam}
use Rattle.hex.specs.Hex.{IsBytes}
use Rattle.capture_model.specs.Frames.{Frame}
use Rattle.capture_files.specs.BlockFrames.{body_of, frame_length, options_behind, placed_in, time_of}
use Rattle.capture_files.specs.BlockSteps.{first_snap}
use Rattle.capture_files.specs.Blocks.{block_length, is_numbered}
use Rattle.capture_files.specs.Interfaces.{interface_in}
use Rattle.capture_files.specs.Numbers.{next_number, number, short_number}
use Rattle.capture_files.specs.Options.{count_of, drop_count, last_value, options_in}
use Rattle.capture_files.specs.PcapngFiles.{AreBlocks, block_records, pcapng_records}
use Rattle.capture_files.specs.PcapngRecords.{Reading, Section, begin_read, begun, content_read, dropped_so_far, frame_given, frame_here, frame_in, frame_of, frame_read, interface_read, is_order, missing, no_section, ordered, other_read, passed, placed_drops, stamp_in, statistics_of, statistics_read}
use Rattle.capture_files.specs.declared.entry.Dropped.{Dropped}
use Rattle.capture_files.specs.declared.interface.Interface.{Interface}
use Rattle.capture_files.specs.declared.packet_block.Placed.{Placed}
use Rattle.capture_files.proofs.PcapngLaw.{blocks_law}
use Rattle.capture_report.specs.Laws.{IsRecord}
use Rattle.capture_report.specs.Records.{Record}
use Rattle.capture_report.specs.TraceRows.{IsPlace}
use Rattle.capture_report.proofs.LinkLemmas.{bytes_drop, bytes_take}

-- ---- numbers and times

pub number_small : (is_big : Bool) (xs : List ℕ) → IsBytes xs → number is_big xs < 2 ^ 32
unfolding number
number_small true xs h = let t = bytes_take 4 xs h in omega (arith, t 0, t 1, t 2, t 3)
number_small false xs h = let t = bytes_take 4 xs h in omega (arith, t 0, t 1, t 2, t 3)

-- an offset is one of 64 bits
offset_small : (n : ℕ) → unsigned_abs (cast_signed w64 n) ≤ 2 ^ 63
offset_small n = grind (arith, ints)

difference_small : (m n : ℕ) → unsigned_abs (sub_ℕ m n) ≤ m + n
difference_small m n = by_order (ltb m n) refl
  where
    by_order : (b : Bool) → ltb m n ≡ b → unsigned_abs (cond b (negsuc (n - suc m)) (pos (m - n))) ≤ m + n
    by_order true less = omega (arith, ltb-true m n less)
    by_order false le = omega arith

sum_small : (z : ℤ) (m : ℕ) → unsigned_abs (z +ℤ pos m) ≤ unsigned_abs z + m
sum_small (pos a) m = omega arith
sum_small (negsuc a) m = omega (arith, difference_small m (suc a))

time_small : (i : Interface) (stamp : ℕ) → unsigned_abs i.offset ≤ 2 ^ 63 → stamp < 2 ^ 64 → unsigned_abs (time_of i stamp).count < 2 ^ 128
time_small i stamp h k =
    let share : stamp * 1000000000 / max i.units 1 ≤ stamp * 1000000000 = div-le_self (stamp * 1000000000) (max i.units 1) in
    let sum = sum_small (i.offset *ℤ pos 1000000000) (stamp * 1000000000 / max i.units 1) in
    let product : unsigned_abs (i.offset *ℤ pos 1000000000) ≡ unsigned_abs i.offset * 1000000000 = unsigned_abs-mul i.offset (pos 1000000000) in
    omega (arith, h, k, share, sum, product)

stamp_small : (big : Bool) (body : List ℕ) → IsBytes body → stamp_in big body < 2 ^ 64
stamp_small big body h =
    let high = number_small big (drop 12 body) (bytes_drop 12 body h) in
    let low = number_small big (drop 16 body) (bytes_drop 16 body h) in
    omega (arith, high, low)

-- ---- what a block gives

-- the number of the last frame and the offsets of the interfaces are in their ranges
record IsKnown (s : Section) : Type 0 where
  last : s.last < 2 ^ 64
  interfaces : (k : ℕ) (i : Interface) → slice_get s.interfaces k ≡ Some i → unsigned_abs i.offset ≤ 2 ^ 63

record IsStep (t : Reading) : Type 0 where
  gives : IsRecord t.gives
  after : IsKnown t.after

passed_is : (s : Section) → IsKnown s → IsStep (passed s)
passed_is s known = record { gives = (tt, tt); after = known }

missing_is : (d : Dropped) → IsPlace (record { frame = d.number; time = d.time }) → IfSome (missing d) (λ d. IsPlace (record { frame = d.number; time = d.time }))
missing_is d place = by_count (nat_eq d.count 0)
  where
    by_count : (b : Bool) → IfSome (if b then None else Some d) (λ d. IsPlace (record { frame = d.number; time = d.time }))
    by_count true = tt
    by_count false = place

begin_is : (s : Section) (body : List ℕ) (t : Reading) → IsKnown s → begin_read s body ≡ Some t → IsStep t
begin_is s body t known = by_order (is_order (number true (drop 8 body)))
  where
    by_order : (b : Bool) → (if b then Some (passed (begun s)) else None) ≡ Some t → IsStep t
    by_order true is =
        let same : passed (begun s) ≡ t = cc is in
        subst IsStep same (passed_is (begun s) (record { last = known.last; interfaces = λ k i none. cc none }))
    by_order false is = cc is

-- one of several interfaces and another one
one_of : (xs : List Interface) (x i : Interface) (k : ℕ) → slice_get (xs ++ x ∷ []) k ≡ Some i → (slice_get xs k ≡ Some i) ⊎ (x ≡ i)
one_of [] x i zero is = inr (cc is)
one_of [] x i (suc k) is = cc is
one_of (y ∷ ys) x i zero is = inl is
one_of (y ∷ ys) x i (suc k) is = one_of ys x i k is

interface_is : (s : Section) (body : List ℕ) (t : Reading) → IsKnown s → interface_read s body ≡ Some t → IsStep t
interface_is s body t known = by_room (nat_lt (length body) 16 || nat_eq (length s.interfaces) 65536)
  where
    more : Section
    more = record s { interfaces = s.interfaces ++ interface_in s.is_big body ∷ []; dropped = s.dropped ++ 0 ∷ [] }

    offsets : (k : ℕ) (i : Interface) → slice_get (s.interfaces ++ interface_in s.is_big body ∷ []) k ≡ Some i → unsigned_abs i.offset ≤ 2 ^ 63
    offsets k i is = elim (one_of s.interfaces (interface_in s.is_big body) i k is) [
      | inl before ↦ known.interfaces k i before
      | inr new ↦ subst (λ i. unsigned_abs i.offset ≤ 2 ^ 63) new (offset_small (count_of s.is_big (last_value 14 (options_in s.is_big (drop 16 body)))))
    ]

    by_room : (b : Bool) → (if b then None else Some (passed more)) ≡ Some t → IsStep t
    by_room true is = cc is
    by_room false is =
        let same : passed more ≡ t = cc is in
        subst IsStep same (passed_is more (record { last = known.last; interfaces = offsets }))

-- the timestamp of a frame
stamp_is : (big : Bool) (kind snap : ℕ) (body : List ℕ) (p : Placed) → IsBytes body → placed_in big kind snap body ≡ Some p → IfSome p.stamp (λ n. n < 2 ^ 64)
stamp_is big kind snap body p h = by_kind (nat_eq kind 3) (nat_lt (length body) 12) (nat_lt (length body) 28)
  where
    by_kind : (a b c : Bool) → (if a then (if b then None else Some (record {
      which = 0;
      from = 12;
      kept = if nat_eq snap 0 then number big (drop 8 body) else min (number big (drop 8 body)) snap;
      length = number big (drop 8 body);
      stamp = None;
    })) else (if c then None else Some (record {
      which = if nat_eq kind 2 then short_number big (drop 8 body) else number big (drop 8 body);
      from = 28;
      kept = number big (drop 20 body);
      length = number big (drop 24 body);
      stamp = Some (stamp_in big body);
    }))) ≡ Some p → IfSome p.stamp (λ n. n < 2 ^ 64)
    by_kind true true c is = cc is
    by_kind true false c is =
        let none : None ≡ p.stamp = cc is in
        subst (λ o. IfSome o (λ n. n < 2 ^ 64)) none tt
    by_kind false b true is = cc is
    by_kind false b false is =
        let some : Some (stamp_in big body) ≡ p.stamp = cc is in
        subst (λ o. IfSome o (λ n. n < 2 ^ 64)) some (stamp_small big body h)

time_is : (i : Interface) (stamp : Option ℕ) → unsigned_abs i.offset ≤ 2 ^ 63 → IfSome stamp (λ n. n < 2 ^ 64) → IfSome (option_map (time_of i) stamp) (λ t. unsigned_abs t.count < 2 ^ 128)
time_is i None h k = tt
time_is i (Some n) h k = time_small i n h k

frame_is : (s : Section) (kind : ℕ) (body : List ℕ) (t : Reading) → IsBytes body → IsKnown s → frame_read s kind body ≡ Some t → IsStep t
frame_is s kind body t h known = by_place (placed_in s.is_big kind (first_snap s.interfaces) body) refl
  where
    given_is : (p : Placed) (i : Interface) → unsigned_abs i.offset ≤ 2 ^ 63 → IfSome p.stamp (λ n. n < 2 ^ 64) → IsStep (frame_given s kind body p i)
    given_is p i offset stamp =
        let place : IsPlace (record { frame = next_number s.last; time = option_map (time_of i) p.stamp }) = record { frame = omega arith; time = time_is i p.stamp offset stamp } in
        let count = placed_drops s.is_big kind body (drop_count s.is_big (options_behind s.is_big p body)) in
        let f : Frame = frame_here s p i body in
        record {
          gives = (
            missing_is (record { count = count; number = f.number; time = f.time; interface = f.interface }) place,
            record { place = place; octets = bytes_take (frame_length p i) _ (bytes_take p.kept _ (bytes_drop p.from body h)) },
          );
          after = record { last = omega arith; interfaces = known.interfaces };
        }

    by_octets : (p : Placed) (i : Interface) (b : Bool) → IsStep (frame_given s kind body p i) → (if b then Some (frame_given s kind body p i) else None) ≡ Some t → IsStep t
    by_octets p i true step is =
        let same : frame_given s kind body p i ≡ t = cc is in
        subst IsStep same step
    by_octets p i false step is = cc is

    by_interface : (p : Placed) (o : Option Interface) → IfSome p.stamp (λ n. n < 2 ^ 64) → slice_get s.interfaces p.which ≡ o → frame_of s kind body p o ≡ Some t → IsStep t
    by_interface p None stamp found is = cc is
    by_interface p (Some i) stamp found is = by_octets p i (nat_le p.kept (length body - p.from)) (given_is p i (known.interfaces p.which i found) stamp) is

    by_place : (o : Option Placed) → placed_in s.is_big kind (first_snap s.interfaces) body ≡ o → frame_in s kind body o ≡ Some t → IsStep t
    by_place None found is = cc is
    by_place (Some p) found is = by_interface p (slice_get s.interfaces p.which) (stamp_is s.is_big kind (first_snap s.interfaces) body p h found) refl is

statistics_is : (s : Section) (body : List ℕ) → IsBytes body → IsKnown s → IsStep (statistics_read s body)
statistics_is s body h known = by_size (nat_lt (length body) 20)
  where
    which : ℕ
    which = number s.is_big (drop 8 body)

    so_far : ℕ
    so_far = dropped_so_far s.is_big (options_in s.is_big (drop 20 body))

    by_interface : (o : Option Interface) (before : Option ℕ) → slice_get s.interfaces which ≡ o → IsStep (statistics_of s which body o before)
    by_interface None before found = passed_is s known
    by_interface (Some i) None found = passed_is s known
    by_interface (Some i) (Some before) found = record {
      gives = (missing_is (record { count = so_far - before; number = s.last; time = Some (time_of i (stamp_in s.is_big body)); interface = min (s.first + which) (2 ^ 32 - 1) }) (record { frame = known.last; time = time_small i (stamp_in s.is_big body) (known.interfaces which i found) (stamp_small s.is_big body h) }), tt);
      after = record { last = known.last; interfaces = known.interfaces };
    }

    by_size : (b : Bool) → IsStep (if b then passed s else statistics_of s which body (slice_get s.interfaces which) (slice_get s.dropped which))
    by_size true = passed_is s known
    by_size false = by_interface (slice_get s.interfaces which) (slice_get s.dropped which) refl

other_is : (s : Section) (kind : ℕ) (body : List ℕ) → IsBytes body → IsKnown s → IsStep (other_read s kind body)
other_is s kind body h known = by_kind (nat_eq kind 5) (is_numbered kind)
  where
    by_kind : (a b : Bool) → IsStep (if a then statistics_read s body else passed (if b then record s { last = next_number s.last } else s))
    by_kind true b = statistics_is s body h known
    by_kind false true = passed_is (record s { last = next_number s.last }) (record { last = omega arith; interfaces = known.interfaces })
    by_kind false false = passed_is s known

content_is : (s : Section) (kind : ℕ) (body : List ℕ) (t : Reading) → IsBytes body → IsKnown s → content_read s kind body ≡ Some t → IsStep t
content_is s kind body t h known = by_kind (nat_eq kind 168627466) (nat_eq kind 1) (nat_eq kind 2 || nat_eq kind 3 || nat_eq kind 6)
  where
    by_kind : (a b c : Bool) → (if a then begin_read s body else (if b then interface_read s body else (if c then frame_read s kind body else Some (other_read s kind body)))) ≡ Some t → IsStep t
    by_kind true b c is = begin_is s body t known is
    by_kind false true c is = interface_is s body t known is
    by_kind false false true is = frame_is s kind body t h known is
    by_kind false false false is =
        let same : other_read s kind body ≡ t = cc is in
        subst IsStep same (other_is s kind body h known)

blocks_are : (s : Section) (octets : List ℕ) (records : List Record) → IsBytes octets → IsKnown s → AreBlocks s octets records → AllByRecursion IsRecord records
blocks_are s octets [] h known a = tt
blocks_are s octets (r ∷ rs) h known a =
    let both : IsBytes (a.0 ++ a.1) = subst IsBytes a.3 h in
    let one : IsBytes a.0 = subst IsBytes (take-append_seam a.0 a.1) (bytes_take (length a.0) (a.0 ++ a.1) both) in
    let rest : IsBytes a.1 = subst IsBytes (drop-append_seam a.0 a.1) (bytes_drop (length a.0) (a.0 ++ a.1) both) in
    let here = ordered s a.0 in
    let step = content_is here (number here.is_big a.0) (body_of here.is_big a.0) a.2 (bytes_take (block_length here.is_big a.0 - 4) a.0 one) (record { last = known.last; interfaces = known.interfaces }) a.5 in
    (subst IsRecord (sym a.6) step.gives, blocks_are a.2.after a.1 rs rest step.after a.7)

pub pcapng_are : (octets : List ℕ) (records : List Record) → IsBytes octets → pcapng_records 0 octets ≡ Some records → AllByRecursion IsRecord records
pcapng_are octets records h = by_magic (nat_eq (number true octets) 168627466)
  where
    by_magic : (b : Bool) → (if b then block_records (no_section 0) octets else None) ≡ Some records → AllByRecursion IsRecord records
    by_magic true is = blocks_are (no_section 0) octets records h (record { last = omega arith; interfaces = λ k i none. cc none }) ((blocks_law (no_section 0) octets records).0 is)
    by_magic false is = cc is
