-- A trace text: its lines, its header, its rows, and its first faulty line.
use Rattle.std.specs.Prelude.{ℕ, ◌+◌, ◌-◌, ◌^◌, Bool, true, false, ◌==◌, ◌&&◌, nat_le, nat_lt, not, List, [], ◌∷◌, ◌++◌, length, Option, Some, None, filter, take, drop, if◌then◌else◌, is_none}
use Rattle.std.specs.List.{filter_map}
use Rattle.std.specs.Option.{option_or, option_and_then, option_map}
use Rattle.line_model.specs.text.Header.{header_numbers, interface_of, number_of}
use Rattle.line_model.specs.text.RowLine.{row_kind, row_of, row_words}
use Rattle.line_model.specs.declared.interface.Interface.{Interface}
use Rattle.line_model.specs.declared.fault.Kind.{Kind}
use Rattle.line_model.specs.declared.fault.Kind.TheVariants.{HeaderMissing, HeaderForm, HeaderRange, LineLong, TextLarge}
use Rattle.line_model.specs.basics.Records.{Row}

-- a line, without its LF
abbrev pub Line : Type 0
Line = List ℕ

-- whether a byte ends a line
abbrev pub is_lf : ℕ → Bool
is_lf b = b == 10

-- b is put before the first of the lines, or before what comes after them all
abbrev pub onto_first_line : ℕ → List Line → List Line
onto_first_line b [] = []
onto_first_line b (l ∷ ls) = (b ∷ l) ∷ ls

-- the lines that an LF ends, without it
abbrev pub ended_lines : List ℕ → List Line
ended_lines [] = []
ended_lines (b ∷ bs) = if is_lf b then [] ∷ ended_lines bs else onto_first_line b (ended_lines bs)

-- b is put before what comes after the last LF, where no LF follows it
abbrev pub onto_begun : ℕ → List Line → Line → Line
onto_begun b [] begun = b ∷ begun
onto_begun b (l ∷ ls) begun = begun

-- what comes after the last LF
abbrev pub begun_line : List ℕ → Line
begun_line [] = []
begun_line (b ∷ bs) = if is_lf b then begun_line bs else onto_begun b (ended_lines bs) (begun_line bs)

-- an empty last part is not a line
abbrev pub line_or_none : Line → List Line
line_or_none [] = []
line_or_none (b ∷ bs) = (b ∷ bs) ∷ []

-- the lines of an input
abbrev pub lines_of : List ℕ → List Line
lines_of text = ended_lines text ++ line_or_none (begun_line text)

-- a line that begins with `#` is a comment
abbrev pub is_comment : Line → Bool
is_comment [] = false
is_comment (b ∷ bs) = b == 35

-- the header, and then the rows
abbrev pub content_of : List Line → List Line
content_of ls = filter (λ l. not (is_comment l)) ls

-- the interface that the first of some lines sets up
abbrev pub head_in : List Line → Option Interface
head_in [] = None
head_in (header ∷ rows) = interface_of header

-- the interface that the header among some lines sets up
unfoldable pub head_of : List Line → Option Interface
head_of ls = head_in (content_of ls)

-- the rows that some lines write
unfoldable pub rows_in : List Line → List Row
rows_in ls = filter_map row_of (drop 1 (content_of ls))

-- the number that a row's line begins with
abbrev pub row_number : Line → Option ℕ
row_number line = option_and_then (λ words. number_of words.number) (row_words line)

-- the last of some numbers, or another one
abbrev pub last_or : ℕ → List ℕ → ℕ
last_or d [] = d
last_or d (n ∷ ns) = last_or n ns

-- the number of the last row, or 0
unfoldable pub last_number : List Line → ℕ
last_number ls = last_or 0 (filter_map row_number (drop 1 (content_of ls)))

-- how many bytes an input may have (profile)
abbrev pub text_limit : ℕ
text_limit = 2 ^ 30

-- how many bytes a line may have (profile)
abbrev pub line_limit : ℕ
line_limit = 8500

-- the bytes of lines that an LF ends
abbrev pub size_of : List Line → ℕ
size_of [] = 0
size_of (l ∷ ls) = length l + 1 + size_of ls

-- a line of `len` bytes that is too long, or holds byte 2^30 + 1 of the input; `lf` is 1 where an LF ends it
unfoldable pub size_kind : ℕ → ℕ → ℕ → Option Kind
size_kind start lf len =
    if nat_lt line_limit len && nat_le (start + (line_limit + 1)) text_limit then Some LineLong
    else if nat_lt text_limit (start + len + lf) then Some TextLarge
    else None

-- the rule that a header line breaks
unfoldable pub header_kind : Line → Option Kind
header_kind line =
    if is_none (header_numbers line) then Some HeaderForm
    else if is_none (interface_of line) then Some HeaderRange
    else None

-- the rule that the contents of a line break, after the header of an interface or before any header
unfoldable pub contents_kind : Option Interface → ℕ → Line → Option Kind
contents_kind head last line =
    if is_comment line then None
    else elim head [ None ↦ header_kind line | Some i ↦ row_kind i last line ]

-- whether the list has a line
abbrev pub is_some_line : List Line → Bool
is_some_line [] = false
is_some_line (l ∷ ls) = true

-- whether a line that is not a comment, and so the header, is among these
unfoldable pub has_header : List Line → Bool
has_header ls = is_some_line (content_of ls)

-- the rule on its contents that a line breaks after these lines
abbrev pub form_kind : List Line → Line → Option Kind
form_kind before line = contents_kind (head_of before) (last_number before) line

-- the rule that a line breaks after these lines
abbrev pub line_kind : List Line → ℕ → Line → Option Kind
line_kind before lf line = option_or (size_kind (size_of before) lf (length line)) (form_kind before line)

-- the place of the first faulty line of those that an LF ends, after the lines `before`
abbrev pub first_fault : List Line → List Line → Option (ℕ × Kind)
first_fault before [] = None
first_fault before (line ∷ ls) = elim (line_kind before 1 line) [
  | Some kind ↦ Some (length before + 1, kind)
  | None ↦ first_fault (before ++ line ∷ []) ls
]

-- the rule that the last line breaks, if no LF ends it
abbrev pub begun_kind : List Line → Line → Option Kind
begun_kind ended [] = None
begun_kind ended (b ∷ bs) = line_kind ended 0 (b ∷ bs)

-- the fault of the line begun after these lines, if the input ends here
abbrev pub end_kind : List Line → Line → Option (ℕ × Kind)
end_kind ended begun =
    option_or (option_map (λ kind. (length ended + 1, kind)) (begun_kind ended begun))
    (elim (content_of (ended ++ line_or_none begun)) [ [] ↦ Some (length (ended ++ line_or_none begun) + 1, HeaderMissing) | l ∷ ls ↦ None ])

-- the line and the rule of the first faulty line, if the input ends here
unfoldable pub fault : List ℕ → Option (ℕ × Kind)
fault text = option_or (first_fault [] (ended_lines text)) (end_kind (ended_lines text) (begun_line text))

-- the same among lines that are faulty whatever follows in the input
unfoldable pub early : List ℕ → Option (ℕ × Kind)
early text =
    option_or (first_fault [] (ended_lines text))
    (option_map (λ kind. (length (ended_lines text) + 1, kind)) (size_kind (size_of (ended_lines text)) 0 (length (begun_line text))))

-- the lines before the first faulty one
abbrev pub good_lines : Option (ℕ × Kind) → List Line → List Line
good_lines None ls = ls
good_lines (Some at) ls = take (at.0 - 1) ls

-- the interface of an input
unfoldable pub head : List ℕ → Option Interface
head text = head_of (good_lines (fault text) (lines_of text))

-- the rows of an input before its first faulty line
unfoldable pub rows : List ℕ → List Row
rows text = rows_in (good_lines (fault text) (lines_of text))

-- the interface that the header sets up, once an LF has ended its line
unfoldable pub early_head : List ℕ → Option Interface
early_head text = head_of (good_lines (early text) (ended_lines text))

-- the rows of the lines that an LF ends, before the first faulty one
unfoldable pub early_rows : List ℕ → List Row
early_rows text = rows_in (good_lines (early text) (ended_lines text))
