-- A reader of lines that goes past a block.
use Rattle.std.proofs.Common.{◌≡◌, ◌∙◌, sym, ap, subst, refl, ℕ, ◌+◌, ◌-◌, ◌<◌, ◌≤◌, ◌⊎◌, inl, inr, true, List, [], ◌∷◌, ◌++◌, length, map, Some, None, arith, length-append, ◌&&◌}
use Rattle.std.specs.Prelude.{nat_le, ◌==◌, is_none, is_some}
use Rattle.std.specs.Option.{option_or}
use Rattle.std.proofs.lemmas.Bool.{eqb-true, leb-true}
use Rattle.line_model.specs.basics.Records.{Row}
use Rattle.line_model.specs.declared.interface.Interface.{Interface}
use Rattle.line_model.specs.text.Text.{Line, begun_line, early, early_rows, ended_lines, first_fault, has_header, head_of, is_comment, last_number, last_or, rows_in, size_of}
use Rattle.line_model.proofs.LineLemmas.{size_kind-zero}
use Rattle.line_model.proofs.TextLemmas.{first_fault-append, size_kind-none, size_of-append, size_of-ended}
use Rattle.trace_text.specs.Blocks.{HasPassed, IsBlock, IsHeading, IsSpanOf, first_number, is_between_lines, last_of, may_follow, may_pass}
use Rattle.trace_text.specs.Progress.{Progress}
use Rattle.trace_text.specs.Represents.{Represents}
use Rattle.trace_text.specs.declared.lines.block.BlockSpan.{BlockSpan}
use Rattle.trace_text.proofs.BlockLemmas.{AreRows, Follows, WritesRow, are_rows, follows, rebased, seam, second_none}
use Rattle.trace_text.proofs.FeedLemmas.{early-none, no_fault, rows-sound, size-sound}
use Rattle.trace_text.proofs.Headings.{heading_head, heading_last, heading_rows}
use Rattle.trace_text.proofs.NumberLemmas.{both}
use Rattle.trace_text.proofs.StepLemmas.{no_bytes}

-- the lines of a block that was read after a heading
record IsRead (i : Interface) (heading block : List ℕ) (rows : List Row) : Type 0 where
  are : AreRows i 0 (ended_lines block) rows
  rows_are : early_rows (heading ++ block) ≡ rows
  last : last_number (ended_lines (heading ++ block)) ≡ last_of rows

is_read : (i : Interface) (heading block : List ℕ) → IsHeading i heading → early (heading ++ block) ≡ None → IsRead i heading block (early_rows (heading ++ block))
is_read i heading block is sound =
    let hs = ended_lines heading in
    let bs = ended_lines block in
    let lines = (seam heading block is.whole).lines in
    let all : first_fault [] (ended_lines heading ++ ended_lines block) ≡ None = ap (first_fault []) (sym lines) ∙ no_fault (heading ++ block) sound in
    let later : first_fault (ended_lines heading) (ended_lines block) ≡ None = second_none (first_fault [] (ended_lines heading)) (first_fault (ended_lines heading) (ended_lines block)) (sym (first_fault-append [] (ended_lines heading) (ended_lines block)) ∙ all) in
    let head = heading_head i heading is in
    let room = (size_kind-none (size_of (ended_lines (heading ++ block))) 0 (length (begun_line (heading ++ block))) (size-sound (heading ++ block) sound)).1 in
    let found : (rows : List Row) × AreRows i (last_number (ended_lines heading)) (ended_lines block) rows = are_rows i (ended_lines heading) (ended_lines block) head later in
    let f : Follows (ended_lines heading) (ended_lines block) found.0 = follows i (ended_lines heading) (ended_lines block) found.0 head (omega (arith, room, ap size_of lines, size_of-append (ended_lines heading) (ended_lines block))) found.1 in
    let rows : early_rows (heading ++ block) ≡ found.0 = rows-sound (heading ++ block) sound ∙ ap rows_in lines ∙ f.rows_are ∙ ap (λ rs. rs ++ found.0) (heading_rows i heading is) in
    let last : last_number (ended_lines (heading ++ block)) ≡ last_of found.0 = ap last_number lines ∙ f.last ∙ ap (λ n. last_or n (map (λ (r : Row). r.number) found.0)) (heading_last i heading is) in
    record {
      are = subst (λ rs. AreRows i 0 (ended_lines block) rs) (sym rows) (subst (λ n. AreRows i n (ended_lines block) found.0) (heading_last i heading is) found.1);
      rows_are = refl;
      last = last ∙ ap last_of (sym rows);
    }

-- what was read after a heading is a block
pub ends_block : (i : Interface) (heading block : List ℕ) (reader : Progress) (span : BlockSpan) → IsHeading i heading → Represents reader (heading ++ block) → length reader.begun ≡ 0 → span.first ≡ first_number (early_rows (heading ++ block))
    → span.last ≡ reader.last → span.lines ≡ reader.ended - 2 → span.bytes ≡ reader.start - 200 → IsBlock i block (early_rows (heading ++ block)) × IsSpanOf block (early_rows (heading ++ block)) span
ends_block i heading block reader span is s none first last lines bytes =
    let at = seam heading block is.whole in
    let whole : begun_line block ≡ [] = sym at.begun ∙ sym s.begun ∙ no_bytes reader.begun none in
    let read = is_read i heading block is s.sound in (
      record { heading = heading; is = is; whole = whole; sound = s.sound; rows_are = refl },
      record {
        first = first;
        last = last ∙ s.last ∙ read.last;
        lines = omega (arith, lines, s.ended, ap (λ (ls : List (List ℕ)). length ls) at.lines, length-append (ended_lines heading) (ended_lines block), is.lines);
        bytes = omega (arith, bytes, s.start, size_of-ended (heading ++ block), ap (λ (l : List ℕ). length l) at.begun, ap (λ (l : List ℕ). length l) whole, length-append heading block, is.bytes);
      },
    )

-- the number of the last row after a block
abbrev last_after : ℕ → List Row → ℕ
last_after last rows = last_or last (map (λ r. r.number) rows)

-- the reader goes past a block
passes : (i : Interface) (text block : List ℕ) (rows : List Row) (reader after : Progress) (span : BlockSpan) → may_pass reader span ≡ true → Represents reader text → reader.interface ≡ Some i → IsBlock i block rows → IsSpanOf block rows span
    → after ≡ record { ended = reader.ended + span.lines; start = reader.start + span.bytes; interface = reader.interface; last = last_after reader.last rows; begun = reader.begun; refused = reader.refused } → HasPassed reader after text block rows
passes i text block rows reader after span may s headed is of e =
    let parts = both (is_between_lines reader) (may_follow reader.last span.first && (nat_le span.lines span.bytes && nat_le (reader.start + span.bytes) 1073741824)) may in
    let between = both (is_some reader.interface) ((length reader.begun == 0) && is_none reader.refused) parts.0 in
    let none : reader.begun ≡ [] = no_bytes reader.begun (eqb-true (length reader.begun) 0 (both (length reader.begun == 0) (is_none reader.refused) between.1).0) in
    let fits = both (may_follow reader.last span.first) (nat_le span.lines span.bytes && nat_le (reader.start + span.bytes) 1073741824) parts.1 in
    let room : reader.start + span.bytes ≤ 1073741824 = leb-true (reader.start + span.bytes) 1073741824 (both (nat_le span.lines span.bytes) (nat_le (reader.start + span.bytes) 1073741824) fits.1).1 in
    let at = seam text block (sym s.begun ∙ none) in
    let read = is_read i is.heading block is.is is.sound in
    let bytes : size_of (ended_lines block) ≡ length block = omega (arith, size_of-ended block, ap (λ (l : List ℕ). length l) is.whole) in
    let all : size_of (ended_lines text) + size_of (ended_lines block) ≤ 1073741824 = omega (arith, bytes, room, s.start, of.bytes) in
    let header : has_header (ended_lines text) ≡ true = sym s.header ∙ between.0 in
    let head : head_of (ended_lines text) ≡ Some i = sym s.interface ∙ headed in
    let are : AreRows i 0 (ended_lines block) rows = subst (λ rs. AreRows i 0 (ended_lines block) rs) is.rows_are read.are in
    let follow : may_follow (last_number (ended_lines text)) (first_number rows) ≡ true = subst (λ n. may_follow n (first_number rows) ≡ true) s.last (subst (λ n. may_follow reader.last n ≡ true) of.first fits.0) in
    let f : Follows (ended_lines text) (ended_lines block) rows = follows i (ended_lines text) (ended_lines block) rows head all (rebased i 0 (last_number (ended_lines text)) (ended_lines block) rows follow are) in
    let sound : early (text ++ block) ≡ None = early-none (text ++ block)
    (ap (first_fault []) at.lines ∙ first_fault-append [] (ended_lines text) (ended_lines block) ∙ ap (λ o. option_or o (first_fault (ended_lines text) (ended_lines block))) (no_fault text s.sound) ∙ f.sound)
    (rw (at.begun, is.whole) (size_kind-zero (size_of (ended_lines (text ++ block))) (omega (arith, all, ap size_of at.lines, size_of-append (ended_lines text) (ended_lines block))))) in
    let represented : Represents (record { ended = reader.ended + span.lines; start = reader.start + span.bytes; interface = reader.interface; last = last_after reader.last rows; begun = reader.begun; refused = reader.refused }) (text ++ block) = record {
      ended = omega (arith, s.ended, of.lines, ap (λ (ls : List (List ℕ)). length ls) at.lines, length-append (ended_lines text) (ended_lines block));
      start = omega (arith, s.start, of.bytes, bytes, ap size_of at.lines, size_of-append (ended_lines text) (ended_lines block));
      interface = s.interface ∙ sym f.head ∙ ap head_of (sym at.lines);
      header = s.header ∙ header ∙ sym f.header ∙ ap has_header (sym at.lines);
      last = ap (λ n. last_after n rows) s.last ∙ sym f.last ∙ ap last_number (sym at.lines);
      begun = none ∙ sym (at.begun ∙ is.whole);
      sound = sound;
      running = s.running;
    } in
    record {
      represented = rw e represented;
      interface = ap (λ (p : Progress). p.interface) e;
      rows_are = rows-sound (text ++ block) sound ∙ ap rows_in at.lines ∙ f.rows_are ∙ ap (λ rs. rs ++ rows) (sym (rows-sound text s.sound));
    }

last_first : (rows : List Row) (a b : ℕ) → (first_number rows ≡ 0 → ⊥) → last_after a rows ≡ last_after b rows
last_first [] a b h = absurd (h refl)
last_first (row ∷ rows) a b h = refl

-- a block with rows
pub passes_rows : (i : Interface) (text block : List ℕ) (rows : List Row) (reader after : Progress) (span : BlockSpan) → may_pass reader span ≡ true → Represents reader text → reader.interface ≡ Some i → IsBlock i block rows → IsSpanOf block rows span → (span.first ≡ 0 → ⊥)
    → after ≡ record { ended = reader.ended + span.lines; start = reader.start + span.bytes; interface = reader.interface; last = span.last; begun = reader.begun; refused = reader.refused } → HasPassed reader after text block rows
passes_rows i text block rows reader after span may s headed is of some e =
    let last : span.last ≡ last_after reader.last rows = of.last ∙ last_first rows 0 reader.last (λ none. some (of.first ∙ none)) in
    let next : ℕ → Progress = λ n. record { ended = reader.ended + span.lines; start = reader.start + span.bytes; interface = reader.interface; last = n; begun = reader.begun; refused = reader.refused } in
    passes i text block rows reader after span may s headed is of (e ∙ ap next last)

are_none : (i : Interface) (ls : List Line) (rows : List Row) → AreRows i 0 ls rows → first_number rows ≡ 0 → rows ≡ []
are_none i [] rows h none = h
are_none i (l ∷ ls) rows h none = by (λ k. are_none i ls rows k none) h.1
  where
    by : (AreRows i 0 ls rows → rows ≡ []) → ((is_comment l ≡ true) × AreRows i 0 ls rows) ⊎ ((row : Row) × (rest : List Row) × WritesRow i l row × (0 < row.number) × (rows ≡ row ∷ rest) × AreRows i row.number ls rest) → rows ≡ []
    by later (inl c) = later c.1
    by later (inr r) = let above = r.3 in absurd (omega (arith, above, ap first_number r.4, none))

-- a block without
pub passes_none : (i : Interface) (text block : List ℕ) (rows : List Row) (reader after : Progress) (span : BlockSpan) → may_pass reader span ≡ true → Represents reader text → reader.interface ≡ Some i → IsBlock i block rows → IsSpanOf block rows span → span.first ≡ 0
    → after ≡ record { ended = reader.ended + span.lines; start = reader.start + span.bytes; interface = reader.interface; last = reader.last; begun = reader.begun; refused = reader.refused } → HasPassed reader after text block rows
passes_none i text block rows reader after span may s headed is of none e =
    let read = is_read i is.heading block is.is is.sound in
    let no_rows : rows ≡ [] = are_none i (ended_lines block) rows (subst (λ rs. AreRows i 0 (ended_lines block) rs) is.rows_are read.are) (sym of.first ∙ none) in
    let next : ℕ → Progress = λ n. record { ended = reader.ended + span.lines; start = reader.start + span.bytes; interface = reader.interface; last = n; begun = reader.begun; refused = reader.refused } in
    passes i text block rows reader after span may s headed is of (e ∙ ap (λ rs. next (last_after reader.last rs)) (sym no_rows))
