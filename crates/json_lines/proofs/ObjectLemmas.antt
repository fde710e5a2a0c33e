-- The object of a line that is known by its words.
use Rattle.std.proofs.Common.{◌≡◌, ℕ, ◌<◌, Bool, true, false, List, [], ◌∷◌, ◌++◌, length, refl, sym, ap, subst, ◌∙◌, arith, append_assoc, length-append, cond, ◌||◌}
use Rattle.std.proofs.lemmas.Grind.{flat_map-append}
use Rattle.std.proofs.lemmas.Bool.Decides.{nat_tests}
use Rattle.std.specs.Prelude.{nat_le, ◌==◌}
use Rattle.std.specs.List.{AllByRecursion, flat_map, list_any}
use Rattle.line_model.specs.text.Header.{words_of}
use Rattle.line_model.specs.observer.Report.{line}
use Rattle.line_model.specs.text.Text.{Line, begun_line, ended_lines, is_lf, onto_first_line}
use Rattle.line_model.proofs.TextLemmas.{begun-more, ended-lf, ended-more}
use Rattle.trace_text.specs.Cuts.{Lacks}
use Rattle.json_lines.specs.Cuts.{IsLine, IsPlain}
use Rattle.json_lines.specs.Json.{json_line, json_text, line_room, object_of}
use Rattle.trace_text.proofs.CutLemmas.{words-found, words-none}
use Rattle.json_lines.proofs.JsonLemmas.{json_lf}
use Rattle.std.proofs.lemmas.Bool.{or_parts}

-- words with spaces between them
abbrev joined : List ℕ → List (List ℕ) → List ℕ
joined word [] = word
joined word (next ∷ words) = word ++ 32 ∷ joined next words

line_joined : (word : List ℕ) (words : List (List ℕ)) → line (word ∷ words) ≡ joined word words ++ 10 ∷ []
line_joined word [] = refl
line_joined word (next ∷ words) = ap (λ l. word ++ 32 ∷ l) (line_joined next words) ∙ sym (append_assoc word (32 ∷ joined next words) (10 ∷ []))

words_joined : (word : List ℕ) (words : List (List ℕ)) → AllByRecursion IsPlain (word ∷ words) → words_of (joined word words) ≡ word ∷ words
words_joined word [] h = words-none 32 word h.0.0
words_joined word (next ∷ words) h = words-found 32 word (joined next words) h.0.0 ∙ ap (λ l. word ∷ l) (words_joined next words h.1)

lacks_both : (xs ys : List ℕ) → Lacks 10 xs → Lacks 10 ys → Lacks 10 (xs ++ ys)
lacks_both [] ys h k = k
lacks_both (x ∷ xs) ys h k =
    let parts = or_parts (x == 10) (list_any (λ b. b == 10) xs) h in
    ap (λ v. v || list_any (λ b. b == 10) (xs ++ ys)) parts.0 ∙ lacks_both xs ys parts.1 k

joined_lacks : (word : List ℕ) (words : List (List ℕ)) → AllByRecursion IsPlain (word ∷ words) → Lacks 10 (joined word words)
joined_lacks word [] h = h.0.1
joined_lacks word (next ∷ words) h = lacks_both word (32 ∷ joined next words) h.0.1 (joined_lacks next words h.1)

in_room : (text : List ℕ) (words : List (List ℕ)) → length text < line_room → words_of text ≡ words → json_line text ≡ object_of words
in_room text words short is =
    let fits : nat_le line_room (length text) ≡ false = grind (arith, nat_tests, short) in
    ap (λ v. object_of (cond v [] (words_of text))) fits ∙ ap object_of is

-- the line of some words has their object
pub line_object : (words : List (List ℕ)) → IsLine words → json_text (line words) ≡ object_of words
line_object [] h = absurd h
line_object (word ∷ words) h =
    let text = joined word words in
    let lacks = joined_lacks word words h.0 in
    let none : json_text text ≡ [] = ap (flat_map json_line) (ended-more [] text lacks) in
    let begun : begun_line text ≡ text = begun-more [] text lacks in
    let size : length text < line_room = omega (arith, h.1, ap (λ (l : List ℕ). length l) (line_joined word words), length-append text (10 ∷ [])) in
    ap json_text (line_joined word words) ∙ json_lf text ∙ ap (λ l. l ++ json_line (begun_line text)) none ∙ ap json_line begun ∙ in_room text (word ∷ words) size (words_joined word words h.0)

onto_apart : (v : Bool) (x : ℕ) (ls : List Line) (l : Line) (ms : List Line) → cond v ([] ∷ ((ls ++ l ∷ []) ++ ms)) (onto_first_line x ((ls ++ l ∷ []) ++ ms)) ≡ cond v ([] ∷ (ls ++ l ∷ [])) (onto_first_line x (ls ++ l ∷ [])) ++ ms
onto_apart true x ls l ms = refl
onto_apart false x [] l ms = refl
onto_apart false x (m ∷ ls) l ms = refl

ended_apart : (text more : List ℕ) → ended_lines (text ++ 10 ∷ more) ≡ ended_lines (text ++ 10 ∷ []) ++ ended_lines more
ended_apart [] more = refl
ended_apart (x ∷ text) more =
    ap (λ ls. cond (is_lf x) ([] ∷ ls) (onto_first_line x ls)) (ended_apart text more ∙ ap (λ ls. ls ++ ended_lines more) (ended-lf text))
    ∙ onto_apart (is_lf x) x (ended_lines text) (begun_line text) (ended_lines more)
    ∙ ap (λ ls. cond (is_lf x) ([] ∷ ls) (onto_first_line x ls) ++ ended_lines more) (sym (ended-lf text))

-- the objects of what comes after a line feed come after those of what comes before it
pub objects_apart : (text more : List ℕ) → json_text (text ++ 10 ∷ more) ≡ json_text (text ++ 10 ∷ []) ++ json_text more
objects_apart text more = ap (flat_map json_line) (ended_apart text more) ∙ flat_map-append json_line (ended_lines (text ++ 10 ∷ [])) (ended_lines more)

-- lines that are known by their words, one after the other
pub lines_objects : (lines : List (List (List ℕ))) → AllByRecursion IsLine lines → json_text (flat_map line lines) ≡ flat_map object_of lines
lines_objects [] h = refl
lines_objects ([] ∷ lines) h = absurd (h.0)
lines_objects ((word ∷ words) ∷ lines) h =
    let rest : List ℕ = flat_map line lines in
    let text : List ℕ = joined word words in
    ap (λ l. json_text (l ++ rest)) (line_joined word words) ∙ ap json_text (append_assoc text (10 ∷ []) rest) ∙ objects_apart text rest
    ∙ ap (λ l. json_text l ++ json_text rest) (sym (line_joined word words))
    ∙ ap (λ o. o ++ json_text rest) (line_object (word ∷ words) h.0)
    ∙ ap (λ o. object_of (word ∷ words) ++ o) (lines_objects lines h.1)

-- they have room for their words
pub lines_short : (lines : List (List (List ℕ))) → AllByRecursion IsLine lines → AllByRecursion (λ l. length l < line_room) (ended_lines (flat_map line lines))
lines_short [] h = tt
lines_short ([] ∷ lines) h = absurd (h.0)
lines_short ((word ∷ words) ∷ lines) h =
    let rest : List ℕ = flat_map line lines in
    let text : List ℕ = joined word words in
    let lacks = joined_lacks word words h.0.0 in
    let size : length text < line_room = omega (arith, h.0.1, ap (λ (l : List ℕ). length l) (line_joined word words), length-append text (10 ∷ [])) in
    let own : ended_lines (text ++ 10 ∷ []) ≡ text ∷ [] = ended-lf text ∙ (λ t. ended-more [] text lacks t ++ begun-more [] text lacks t ∷ []) in
    let all : ended_lines (line (word ∷ words) ++ rest) ≡ text ∷ ended_lines rest =
    ap (λ l. ended_lines (l ++ rest)) (line_joined word words) ∙ ap ended_lines (append_assoc text (10 ∷ []) rest) ∙ ended_apart text rest ∙ ap (λ ls. ls ++ ended_lines rest) own in
    subst (λ ls. AllByRecursion (λ (l : Line). length l < line_room) ls) (sym all) (size, lines_short lines h.1)
