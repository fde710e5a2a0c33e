-- An annotation says the same as its text.
use Rattle.std.proofs.Common.{◌≡◌, ◌∙◌, sym, ap, subst, refl, ℕ, ◌+◌, ◌≤◌, true, List, [], ◌∷◌, ◌++◌, length, Option, Some, None, drop, arith, append_assoc, append-nil}
use Rattle.std.specs.List.{AllByRecursion, filter_map}
use Rattle.std.specs.Option.{option_or}
use Rattle.std.proofs.lemmas.Bool.Decides.{nat_tests}
use Rattle.line_model.specs.observer.Report.{report}
use Rattle.line_model.specs.text.Text.{Line, begun_kind, begun_line, content_of, contents_kind, end_kind, ended_lines, fault, first_fault, form_kind, head, head_in, head_of, is_comment, is_some_line, last_number, last_or, line_kind, line_or_none, lines_of, row_number, rows, rows_in, size_kind, size_of}
use Rattle.line_model.specs.text.RowLine.{row_of}
use Rattle.line_model.specs.traces.Traces.{text}
use Rattle.line_model.specs.declared.fault.Kind.{Kind}
use Rattle.line_model.specs.declared.fault.Kind.TheVariants.{HeaderMissing}
use Rattle.line_model.proofs.TextLemmas.{size_kind-none, size_of-append}
use Rattle.annotated_trace.specs.Annotation.{Annotated, AreComments, all_lines, bare_lines}
use Rattle.annotated_trace.specs.Laws.{ReportLaw, SaysTheSame}
use Rattle.annotated_trace.proofs.LinesOfText.{AreLines, are_lines, begun_text, both_lines, ended_text, size_of_text, text_append}
use Rattle.line_model.proofs.FinalFaults.{both_none}
use Rattle.trace_text.proofs.FeedLemmas.{map_none}
use Rattle.trace_text.proofs.EndLemmas.{rows-all, head-sound, some_content as none_missing}
use Rattle.trace_text.proofs.RefusalLemmas.{content_of-append}
use Rattle.line_model.specs.packets.Says.{items_of}

-- ---- lines of which none is too long, and none breaks a rule on its contents

abbrev pub AreSound : (before ls : List Line) → Type 0
AreSound before [] = Unit {0}
AreSound before (l ∷ ls) = (form_kind before l ≡ None) × (length l ≤ 8500) × AreSound (before ++ l ∷ []) ls

-- what a line may say depends on the contents before it
same_form : (a b : List Line) (l : Line) → content_of a ≡ content_of b → form_kind a l ≡ form_kind b l
unfolding head_of last_number
same_form a b l h = ap (λ c. contents_kind (head_in c) (last_or 0 (filter_map row_number (drop 1 c))) l) h

comment_form : (before : List Line) (l : Line) → is_comment l ≡ true → form_kind before l ≡ None
unfolding contents_kind
comment_form before l h = rw h refl

sound_lines : (before ls : List Line) → first_fault before ls ≡ None → AreSound before ls
sound_lines before [] h = tt
sound_lines before (l ∷ ls) h = here (line_kind before 1 l) refl h (sound_lines (before ++ l ∷ []) ls)
  where
    here : (o : Option Kind) → line_kind before 1 l ≡ o → (elim o as (λ _. Option (ℕ × Kind)) [ Some kind ↦ Some (length before + 1, kind) | None ↦ first_fault (before ++ l ∷ []) ls ]) ≡ None
        → (first_fault (before ++ l ∷ []) ls ≡ None → AreSound (before ++ l ∷ []) ls) → AreSound before (l ∷ ls)
    here (Some kind) e k later = absurd (cc)
    here None e k later =
        let parts = both_none _ _ e in
        (parts.1, (size_kind-none (size_of before) 1 (length l) parts.0).0, later k)

sound_last : (before : List Line) (l : Line) → begun_kind before l ≡ None → AreSound before (line_or_none l)
sound_last before [] h = tt
sound_last before (b ∷ bs) h =
    let parts = both_none _ _ h in
    (parts.1, (size_kind-none (size_of before) 0 (length (b ∷ bs)) parts.0).0, tt)

sound_behind : (before xs ys : List Line) → AreSound before xs → AreSound (before ++ xs) ys → AreSound before (xs ++ ys)
sound_behind before [] ys h k = subst (λ b. AreSound b ys) (append-nil before) k
sound_behind before (x ∷ xs) ys h k =
    (h.0, h.1, sound_behind (before ++ x ∷ []) xs ys h.2 (subst (λ b. AreSound b ys) (sym (append_assoc before (x ∷ []) xs)) k))

some_content : (ls : List Line) (n : ℕ) → (elim ls as (λ _. Option (ℕ × Kind)) [ [] ↦ Some (n, HeaderMissing) | m ∷ ms ↦ None ]) ≡ None → is_some_line ls ≡ true
some_content [] n h = cc
some_content (l ∷ ls) n h = refl

-- what a text without a fault has
pub record IsSoundText (source : List ℕ) : Type 0 where
  pub lines : AreSound [] (lines_of source)
  pub headed : is_some_line (content_of (lines_of source)) ≡ true

pub sound_text : (source : List ℕ) → fault source ≡ None → IsSoundText source
unfolding fault
sound_text source h =
    let es = ended_lines source in
    let b = begun_line source in
    let p = both_none (first_fault [] es) (end_kind es b) h in
    let q = both_none _ _ p.1 in
    record {
      lines = sound_behind [] es (line_or_none b) (sound_lines [] es p.0) (sound_last es b (map_none (λ kind. (length es + 1, kind)) (begun_kind es b) q.0));
      headed = some_content (content_of (lines_of source)) (length (lines_of source) + 1) q.1;
    }

fits : (start len : ℕ) → len ≤ 8500 → start + len + 1 ≤ 1073741824 → size_kind start 1 len ≡ None
unfolding size_kind
fits start len h k = grind (arith, nat_tests)

-- the converse: sound lines that fit into a text have no fault
no_first_fault : (before ls : List Line) → AreSound before ls → size_of before + size_of ls ≤ 1073741824 → first_fault before ls ≡ None
no_first_fault before [] h few = refl
no_first_fault before (l ∷ ls) h few =
    let small : size_kind (size_of before) 1 (length l) ≡ None = fits (size_of before) (length l) h.1 (omega (arith, few)) in
    let here : line_kind before 1 l ≡ None = ap (λ o. option_or o (form_kind before l)) small ∙ h.0 in
    ap (λ (o : Option Kind). elim o as (λ _. Option (ℕ × Kind)) [ Some kind ↦ Some (length before + 1, kind) | None ↦ first_fault (before ++ l ∷ []) ls ]) here
    ∙ no_first_fault (before ++ l ∷ []) ls h.2 (omega (arith, few, size_of-append before (l ∷ [])))

text_sound : (ls : List Line) → AreLines ls → AreSound [] ls → length (text ls) ≤ 1073741824 → is_some_line (content_of ls) ≡ true → fault (text ls) ≡ None
unfolding fault
text_sound ls one sound few headed =
    let ended = ended_text ls one in
    let begun = begun_text ls one in
    let none : first_fault [] ls ≡ None = no_first_fault [] ls sound (omega (arith, few, size_of_text ls)) in
    let missing : end_kind ls [] ≡ None = none_missing (content_of (ls ++ [])) (length (ls ++ []) + 1) (ap (λ xs. is_some_line (content_of xs)) (append-nil ls) ∙ headed) in
    ap (λ es. option_or (first_fault [] es) (end_kind es (begun_line (text ls)))) ended ∙ ap (λ b. option_or (first_fault [] ls) (end_kind ls b)) begun
    ∙ ap (λ o. option_or o (end_kind ls [])) none ∙ missing

-- ---- comments

pub comments_are_lines : (cs : List Line) → AreComments cs → AreLines cs
comments_are_lines [] h = tt
comments_are_lines (c ∷ cs) h = (h.0.one, comments_are_lines cs h.1)

pub content_of_comments : (cs : List Line) → AreComments cs → content_of cs ≡ []
content_of_comments [] h = refl
content_of_comments (c ∷ cs) h = rw h.0.begins (content_of_comments cs h.1)

sound_comments : (before cs : List Line) → AreComments cs → AreSound before cs
sound_comments before [] h = tt
sound_comments before (c ∷ cs) h = (comment_form before c h.0.begins, h.0.short, sound_comments (before ++ c ∷ []) cs h.1)

-- ---- annotated lines

abbrev pub HaveComments : List Annotated → Type 0
HaveComments annotated = AllByRecursion (λ a. AreComments a.comments) annotated

pub all_are_lines : (annotated : List Annotated) → AreLines (bare_lines annotated) → HaveComments annotated → AreLines (all_lines annotated)
all_are_lines [] h k = tt
all_are_lines (a ∷ annotated) h k = (h.0, both_lines a.comments (all_lines annotated) (comments_are_lines a.comments k.0) (all_are_lines annotated h.1 k.1))

pub same_content : (annotated : List Annotated) → HaveComments annotated → content_of (all_lines annotated) ≡ content_of (bare_lines annotated)
same_content [] h = refl
same_content (a ∷ annotated) h =
    let behind : content_of (a.comments ++ all_lines annotated) ≡ content_of (bare_lines annotated) =
    content_of-append a.comments (all_lines annotated) ∙ ap (λ xs. xs ++ content_of (all_lines annotated)) (content_of_comments a.comments h.0) ∙ same_content annotated h.1 in
    content_of-append (a.line ∷ []) (a.comments ++ all_lines annotated) ∙ ap (λ xs. content_of (a.line ∷ []) ++ xs) behind ∙ sym (content_of-append (a.line ∷ []) (bare_lines annotated))

sound_annotated : (before shown : List Line) (annotated : List Annotated) → content_of shown ≡ content_of before → HaveComments annotated → AreSound before (bare_lines annotated) → AreSound shown (all_lines annotated)
sound_annotated before shown [] e h s = tt
sound_annotated before shown (a ∷ annotated) e h s =
    let next = shown ++ a.line ∷ [] in
    let same : content_of next ≡ content_of (before ++ a.line ∷ []) =
    content_of-append shown (a.line ∷ []) ∙ ap (λ xs. xs ++ content_of (a.line ∷ [])) e ∙ sym (content_of-append before (a.line ∷ [])) in
    let behind : content_of (next ++ a.comments) ≡ content_of (before ++ a.line ∷ []) =
    content_of-append next a.comments ∙ ap (λ xs. content_of next ++ xs) (content_of_comments a.comments h.0) ∙ append-nil (content_of next) ∙ same in (
      same_form shown before a.line e ∙ s.0,
      s.1,
      sound_behind next a.comments (all_lines annotated) (sound_comments next a.comments h.0) (sound_annotated (before ++ a.line ∷ []) (next ++ a.comments) annotated behind h.1 s.2),
    )

-- ---- an annotation

-- what is known of the lines of an annotation of a text
pub record AreLinesOf (source bytes : List ℕ) (ls : List Line) : Type 0 where
  pub written : bytes ≡ text ls
  pub one : AreLines ls
  pub content : content_of ls ≡ content_of (lines_of source)
  pub sound : AreSound [] (lines_of source) → AreSound [] ls

pub annotation_lines : (source bytes front : List ℕ) (annotated : List Annotated) (closing : List Line) → bare_lines annotated ≡ lines_of source → front ≡ text (all_lines annotated) → HaveComments annotated → bytes ≡ front ++ text closing → AreComments closing
    → AreLinesOf source bytes (all_lines annotated ++ closing)
annotation_lines source bytes front annotated closing bare written comments whole last = record {
  written = whole ∙ ap (λ xs. xs ++ text closing) written ∙ sym (text_append (all_lines annotated) closing);
  one = both_lines (all_lines annotated) closing (all_are_lines annotated (subst AreLines (sym bare) (are_lines source)) comments) (comments_are_lines closing last);
  content = content_of-append (all_lines annotated) closing ∙ ap (λ xs. content_of (all_lines annotated) ++ xs) (content_of_comments closing last) ∙ append-nil (content_of (all_lines annotated))
      ∙ same_content annotated comments ∙ ap content_of bare;
  sound = λ s. sound_behind [] (all_lines annotated) closing (sound_annotated [] [] annotated refl comments (subst (AreSound []) (sym bare) s)) (sound_comments (all_lines annotated) closing last);
}

pub lines_are : (source bytes : List ℕ) (ls : List Line) → AreLinesOf source bytes ls → lines_of bytes ≡ ls
lines_are source bytes ls h =
    let ended = ended_text ls h.one in
    let begun = begun_text ls h.one in
    ap lines_of h.written ∙ ap (λ es. es ++ line_or_none (begun_line (text ls))) ended ∙ ap (λ b. ls ++ line_or_none b) begun ∙ append-nil ls

same_head : (a b : List Line) → content_of a ≡ content_of b → head_of a ≡ head_of b
unfolding head_of
same_head a b h = ap head_in h

same_rows_in : (a b : List Line) → content_of a ≡ content_of b → rows_in a ≡ rows_in b
unfolding rows_in
same_rows_in a b h = ap (λ c. filter_map row_of (drop 1 c)) h

says_the_same : (source bytes : List ℕ) (ls : List Line) → fault source ≡ None → AreLinesOf source bytes ls → length bytes ≤ 1073741824 → SaysTheSame source bytes
says_the_same source bytes ls sound h few =
    let given = sound_text source sound in
    let still : fault bytes ≡ None = ap fault h.written ∙ text_sound ls h.one (h.sound given.lines) (subst (λ (xs : List ℕ). length xs ≤ 1073741824) h.written few) (ap is_some_line h.content ∙ given.headed) in
    let content : content_of (lines_of bytes) ≡ content_of (lines_of source) = ap content_of (lines_are source bytes ls h) ∙ h.content in
    let header : head bytes ≡ head source = head-sound bytes still ∙ same_head (lines_of bytes) (lines_of source) content ∙ sym (head-sound source sound) in
    let same : rows bytes ≡ rows source = rows-all bytes still ∙ same_rows_in (lines_of bytes) (lines_of source) content ∙ sym (rows-all source sound) in
    record {
      sound = still;
      header = header;
      same_rows = same;
      report = ap (λ o. elim o as (λ _. List ℕ) [ None ↦ [] | Some i ↦ report i (items_of i (rows bytes)) ]) header ∙ ap (λ rs. elim (head source) as (λ _. List ℕ) [ None ↦ [] | Some i ↦ report i (items_of i rs) ]) same;
    }

pub reported : ReportLaw
reported choice source bytes sound a few =
    let l = a.lines in
    says_the_same source bytes (all_lines l.annotated ++ a.closing) sound (annotation_lines source bytes a.front l.annotated a.closing l.bare l.written l.comments a.whole a.comments) few
