-- Lines that are cut, and texts that go on.
use Rattle.std.proofs.Common.{◌≡◌, ℕ, ◌<◌, Bool, true, false, List, [], ◌∷◌, ◌++◌, length, take, refl, sym, ap, ◌∙◌, arith, append_assoc, append-nil, cond}
use Rattle.std.proofs.lemmas.Grind.{common_steps, flat_map-append}
use Rattle.std.proofs.lemmas.Bool.{eqb-true}
use Rattle.std.proofs.lemmas.Bool.Decides.{nat_tests}
use Rattle.std.specs.Prelude.{nat_le}
use Rattle.std.specs.List.{flat_map}
use Rattle.line_model.specs.text.Text.{begun_line, ended_lines, is_lf}
use Rattle.line_model.specs.text.Header.{words_of}
use Rattle.line_model.proofs.TextLemmas.{ended-lf, ended-more}
use Rattle.json_lines.specs.Json.{json_line, json_text, line_room, object_of}

-- a byte goes onto a line that was not cut
pub cut_more : (n : ℕ) (line : List ℕ) (b : ℕ) → length (take n line) < n → take n line ++ b ∷ [] ≡ take n (line ++ b ∷ [])
cut_more n line b h = grind (arith, common_steps)

-- a line that was cut stays so
pub cut_full : (n : ℕ) (line : List ℕ) (b : ℕ) → length (take n line) ≡ n → take n line ≡ take n (line ++ b ∷ [])
cut_full n line b h = grind (arith, common_steps)

cut_words : (n : ℕ) (line : List ℕ) (v : Bool) → nat_le n (length line) ≡ v → cond (nat_le n (length (take n line))) [] (words_of (take n line)) ≡ cond v [] (words_of line)
cut_words n line true is =
    let long : nat_le n (length (take n line)) ≡ true = grind (arith, common_steps, nat_tests) in
    rw long refl
cut_words n line false is =
    let whole : take n line ≡ line = grind (arith, common_steps, nat_tests) in
    rw (whole, is) refl

-- a line that is cut where it is too long has the object of the line
pub json_line_cut : (line : List ℕ) → json_line (take line_room line) ≡ json_line line
json_line_cut line = ap object_of (cut_words line_room line (nat_le line_room (length line)) refl)

-- a line feed ends a line, whose object comes after the others
pub json_lf : (text : List ℕ) → json_text (text ++ 10 ∷ []) ≡ json_text text ++ json_line (begun_line text)
json_lf text =
    ap (flat_map json_line) (ended-lf text) ∙ flat_map-append json_line (ended_lines text) (begun_line text ∷ [])
    ∙ ap (λ l. json_text text ++ l) (append-nil (json_line (begun_line text)))

one_more : (v : Bool) (b : ℕ) → v ≡ is_lf b → (text : List ℕ) → (later : List (List ℕ)) × (ended_lines (text ++ b ∷ []) ≡ ended_lines text ++ later)
one_more true b e text = (begun_line text ∷ [], ap (λ x. ended_lines (text ++ x ∷ [])) (eqb-true b 10 (sym e)) ∙ ended-lf text)
one_more false b e text = ([], ended-more text (b ∷ []) (rw (← e) refl) ∙ sym (append-nil (ended_lines text)))

-- the lines of a text come first among those of a text that goes on from it
more_lines : (text more : List ℕ) → (later : List (List ℕ)) × (ended_lines (text ++ more) ≡ ended_lines text ++ later)
more_lines text [] = ([], ap ended_lines (append-nil text) ∙ sym (append-nil (ended_lines text)))
more_lines text (b ∷ more) =
    let first = one_more (is_lf b) b refl text in
    let then = more_lines (text ++ b ∷ []) more in
    (first.0 ++ then.0, ap ended_lines (sym (append_assoc text (b ∷ []) more)) ∙ then.1 ∙ ap (λ ls. ls ++ then.0) first.1 ∙ append_assoc (ended_lines text) first.0 then.0)

-- the objects of a text come first among those of a text that goes on from it
pub json_first : (text more : List ℕ) → (rest : List ℕ) × (json_text (text ++ more) ≡ json_text text ++ rest)
json_first text more =
    let later = more_lines text more in
    (flat_map json_line later.0, ap (flat_map json_line) later.1 ∙ flat_map-append json_line (ended_lines text) later.0)

-- a byte that is no line feed
pub is_other : (b : ℕ) → (b ≡ 10 → ⊥) → is_lf b ≡ false
is_other b h = grind (arith, nat_tests, h)

-- what a sink took of the objects of a first part of a text, it took of those of the text
pub part_of_text : (text first last front rest : List ℕ) → text ≡ first ++ last → json_text first ≡ front ++ rest → (more : List ℕ) × (json_text text ≡ front ++ more)
part_of_text text first last front rest e h =
    let later = json_first first last in
    (rest ++ later.0, ap json_text e ∙ later.1 ∙ ap (λ l. l ++ later.0) h ∙ append_assoc front rest later.0)
