-- A row's line: `number side hex`, or a gap's `number ? channel` or `number ? *` (profile).
use Rattle.std.specs.Prelude.{ℕ, Bool, true, false, ◌==◌, ◌&&◌, nat_le, nat_lt, not, List, [], ◌∷◌, length, Option, Some, None, codes, if◌then◌else◌, is_none}
use Rattle.std.specs.Option.{option_and_then, option_map}
use Rattle.std.specs.Result.{result_ok}
use Rattle.std.specs.Str.{bytes_eq}
use Rattle.hex.specs.Hex.{decode_of}
use Rattle.line_model.specs.text.Header.{words_of, number_of}
use Rattle.line_model.specs.declared.interface.Interface.{Interface}
use Rattle.line_model.specs.declared.state.Side.{Side}
use Rattle.line_model.specs.declared.state.Side.TheVariants.{T, N}
use Rattle.line_model.specs.declared.fault.Kind.{Kind}
use Rattle.line_model.specs.declared.fault.Kind.TheVariants.{LineForm, Number, Side as SideKind, Hex}
use Rattle.line_model.specs.basics.Records.{Row}

-- three words that aren't empty
pub record RowWords : Type 0 where
  pub number : List ℕ
  pub side : List ℕ
  pub hex : List ℕ

-- whether none of three words is empty
abbrev pub is_row_words : List ℕ → List ℕ → List ℕ → Bool
is_row_words number side hex = not (length number == 0) && (not (length side == 0) && not (length hex == 0))

-- three words, none of them empty
abbrev pub row_words_in : List (List ℕ) → Option RowWords
row_words_in (number ∷ side ∷ hex ∷ []) = if is_row_words number side hex then Some (record { number = number; side = side; hex = hex }) else None
row_words_in _ = None

-- the three words of a row's line
unfoldable pub row_words : List ℕ → Option RowWords
row_words line = row_words_in (words_of line)

-- numbers rise from row to row, and 0 is none
abbrev pub rising_number : ℕ → List ℕ → Option ℕ
rising_number last word = option_and_then (λ n. if nat_lt last n then Some n else None) (number_of word)

-- the side that a word names
abbrev pub side_of : List ℕ → Option Side
side_of word = if bytes_eq word (codes "T") then Some T else if bytes_eq word (codes "N") then Some N else None

-- `-` for no octets, otherwise two digits for each of at most 4200
unfoldable pub octets_of : List ℕ → Option (List ℕ)
octets_of word =
    if bytes_eq word (codes "-") then Some []
    else option_and_then (λ octets. if nat_le (length octets) 4200 then Some octets else None) (result_ok (decode_of word))

-- whether the second word of a row says that it is a gap
abbrev pub is_gap_word : List ℕ → Bool
is_gap_word word = bytes_eq word (codes "?")

-- the channel that the third word of a gap row names, or all
abbrev pub gap_in : List ℕ → Option (Option ℕ)
gap_in word = if bytes_eq word (codes "*") then Some None else option_map (λ n. Some n) (number_of word)

-- whether a gap is one of all channels, or of one that an interface with `svc` channels has
abbrev pub is_within : (svc : ℕ) → Option ℕ → Bool
is_within svc None = true
is_within svc (Some n) = nat_le 1 n && nat_le n svc

-- the same, where the interface has the channel
abbrev pub gap_within : (svc : ℕ) → List ℕ → Option (Option ℕ)
gap_within svc word = option_and_then (λ gap. if is_within svc gap then Some gap else None) (gap_in word)

-- the first rule that the words of a packet break after its number
abbrev pub packet_kind : RowWords → Option Kind
packet_kind words =
    if is_none (side_of words.side) then Some SideKind
    else if is_none (octets_of words.hex) then Some Hex
    else None

-- the rule that the words of a gap break after its number
abbrev pub gap_kind : (svc : ℕ) → RowWords → Option Kind
gap_kind svc words = if is_none (gap_within svc words.hex) then Some Hex else None

-- the same of each row: gaps are rows only where the interface says so
abbrev pub kind_behind : Interface → RowWords → Option Kind
kind_behind i words = elim (i.gaps && is_gap_word words.side) [ true ↦ gap_kind i.svc words | false ↦ packet_kind words ]

-- the first rule that the words break, after a row with the number `last`, or 0
abbrev pub words_kind : Interface → ℕ → RowWords → Option Kind
words_kind i last words = if is_none (rising_number last words.number) then Some Number else kind_behind i words

-- the first rule that a row's line breaks, after a row with the number `last`, or 0
unfoldable pub row_kind : Interface → ℕ → List ℕ → Option Kind
row_kind i last line = elim (row_words line) [ None ↦ Some LineForm | Some words ↦ words_kind i last words ]

-- the row of a packet with a number
abbrev pub packet_row : RowWords → (number : ℕ) → Option Row
packet_row words number =
    option_and_then (λ side. option_map (λ octets. record { number = number; side = side; octets = octets; gap = None }) (octets_of words.hex)) (side_of words.side)

-- the row of a gap with a number
abbrev pub gap_row : RowWords → (number : ℕ) → Option Row
gap_row words number = option_map (λ gap. record { number = number; side = T; octets = []; gap = Some gap }) (gap_in words.hex)

-- the row of a number
abbrev pub row_numbered : RowWords → (number : ℕ) → Option Row
row_numbered words number = elim (is_gap_word words.side) [ true ↦ gap_row words number | false ↦ packet_row words number ]

-- the row that a line without a fault writes
unfoldable pub row_of : List ℕ → Option Row
row_of line = option_and_then (λ words. option_and_then (row_numbered words) (number_of words.number)) (row_words line)
