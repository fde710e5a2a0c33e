-- Several captures that are opened as one.
use Rattle.std.specs.Prelude.{◌≡◌, ℕ, ◌==◌, ◌&&◌, ◌<◌, nat_lt, not, Bool, true, List, [], ◌∷◌, ◌++◌, Option, None, Some, drop, flat_map, length, option_map, if◌then◌else◌}
use Rattle.std.specs.Fmt.{option_append}
use Rattle.std.specs.Io.Chain.{chain_remaining}
use Rattle.std.specs.Io.Cursor.{cursor_remaining}
use Rattle.std.specs.Io.KnownBytes.{Consumes, IsAtEnd}
use Rattle.std.specs.Option.{option_and_then}
use Rattle.streams.specs.Shown.{shown}
use Rattle.capture_files.specs.Numbers.{number}
use Rattle.capture_report.specs.Recordings.{begins_as_capture}
use Rattle.capture_report.specs.declared.joined_file.HeadedFile.{HeadedFile}
use Rattle.capture_report.specs.declared.joined_file.JoinedFile.{JoinedFile}
use Rattle.capture_report.specs.declared.joined_file.JoinedPart.{JoinedPart}
use Rattle.capture_report.specs.declared.joined_files.Misfit.{Misfit}
use Rattle.capture_report.specs.declared.joined_files.Misfit.TheVariants.{NoCapture, Format, Link}

-- a capture has the 24 octets of a pcap header at least; the first block of pcapng has more
abbrev pub has_header : (front : List ℕ) → Bool
has_header front = not (nat_lt (length front) 24) && begins_as_capture front

abbrev pub is_pcapng : (front : List ℕ) → Bool
is_pcapng front = number true front == 168627466

-- the link type of a pcap file, in the byte order of the file
abbrev pub link_in : (front : List ℕ) → ℕ
link_in front = number true (drop 20 front)

-- why a file does not follow a capture: pcap files have one form and one link type; their lengths of records may differ
abbrev pub misfit_of : (first front : List ℕ) → Option Misfit
misfit_of first front =
    if not (has_header front) then Some NoCapture
    else if not (number true front == number true first) then Some Format
    else if not (is_pcapng front) && not (link_in front == link_in first) then Some Link
    else None

-- how many octets of a file that follows are left out: the header of a pcap file; the sections of pcapng follow each other
abbrev pub left_out : (first : List ℕ) → ℕ
left_out first = if is_pcapng first then 0 else 24

-- several captures as one
abbrev pub joined : (first : List ℕ) → (further : List (List ℕ)) → List ℕ
joined first further = first ++ flat_map (drop (left_out first)) further

-- the octets of files, where each shows its own
abbrev pub all_named : (named : List ℕ → Option (List ℕ)) → (names : List (List ℕ)) → Option (List (List ℕ))
all_named named [] = Some []
all_named named (name ∷ names) = option_and_then (λ file. option_map (λ files. file ∷ files) (all_named named names)) (named name)

-- those of a file with the files that follow it
abbrev pub joined_named : (named : List ℕ → Option (List ℕ)) → (name : List ℕ) → (further : List (List ℕ)) → Option (List ℕ)
joined_named named name further = option_and_then (λ first. option_map (joined first) (all_named named further)) (named name)

-- those of the files that follow, without the first octets of each
abbrev pub without_headers : (skipped : ℕ) → (named : List ℕ → Option (List ℕ)) → (further : List (List ℕ)) → Option (List ℕ)
without_headers skipped named further = option_map (flat_map (drop skipped)) (all_named named further)

-- the first octets of a file were read: 24, or all where it has fewer
pub record IsHeaded {F : Type 0} (left : F → Option (List ℕ)) (bytes : Option (List ℕ)) (h : HeadedFile F) : Type 0 where
  pub first : left h.first.value ≡ bytes
  pub consumed : Consumes bytes (left h.rest) h.front.items
  pub whole : length h.front.items < 24 → IsAtEnd (left h.rest)

-- what is left of a part, where its file showed its octets as it was opened
abbrev pub part_left : {F : Type 0} → (F → Option (List ℕ)) → JoinedPart F → Option (List ℕ)
part_left left p = shown (left p.first.value) (chain_remaining (cursor_remaining (λ v. Some v.items)) left p.octets)

-- what is left of parts
abbrev pub parts_left : {F : Type 0} → (F → Option (List ℕ)) → List (JoinedPart F) → Option (List ℕ)
parts_left left [] = Some []
parts_left left (p ∷ ps) = option_append (part_left left p) (parts_left left ps)

-- what is left of files that follow each other
abbrev pub joined_left : {F : Type 0} → (F → Option (List ℕ)) → JoinedFile F → Option (List ℕ)
joined_left left f = parts_left left (drop f.ended f.parts.items)
