-- Words of comments, and the lines that they make.
use Rattle.std.proofs.Common.{◌≡◌, ◌∙◌, sym, ap, subst, refl, ℕ, ◌+◌, ◌-◌, ◌≤◌, Bool, true, false, List, [], ◌∷◌, ◌++◌, length, take, cond, ◌||◌, min, Result, Ok, Err, OnOk, arith, append_assoc, append-nil, length-append}
use Rattle.std.specs.Prelude.{◌==◌, is_ok}
use Rattle.std.specs.List.{list_any}
use Rattle.std.proofs.lemmas.List.{length-map, length-take, map-append, take_min, take-map}
use Rattle.std.proofs.lemmas.List.Folds.{list_any-append}
use Rattle.std.proofs.Math.Seq.{take-append-add}
use Rattle.std.proofs.lemmas.Bool.{eqb-true}
use Rattle.line_model.specs.text.Text.{Line, begun_line, ended_lines, is_lf, onto_begun, onto_first_line}
use Rattle.line_model.specs.traces.Traces.{text}
use Rattle.line_model.proofs.TextLemmas.{begun-lf, begun-more, ended-lf, ended-more}
use Rattle.annotated_trace.proofs.LinesOfText.{text_append}
use Rattle.annotated_trace.specs.Annotation.{AreComments, IsComment, IsOneLine, marks_in}
use Rattle.annotated_trace.specs.Wording.{AreNoteBytes, AreNotes, BeginsWith, IsNote, IsSaid, IsWords, Remarks, ended_notes, note_line, note_or_none, notes_of, plain, plain_byte, with_words}

-- ---- plain bytes

plain_bit : (v : Bool) (b : ℕ) → v ≡ is_lf b → is_lf (cond v 32 b) ≡ false
plain_bit true b e = refl
plain_bit false b e = sym e

pub plain_one : (bytes : List ℕ) → IsOneLine (plain bytes)
plain_one [] = refl
plain_one (b ∷ bytes) = ap (λ v. v || list_any is_lf (plain bytes)) (plain_bit (is_lf b) b refl) ∙ plain_one bytes

same_byte : (v r : Bool) (b : ℕ) (xs ys : List ℕ) → (v || r) ≡ false → (r ≡ false → xs ≡ ys) → cond v 32 b ∷ xs ≡ b ∷ ys
same_byte true r b xs ys h k = cc
same_byte false r b xs ys h k = ap (λ zs. b ∷ zs) (k h)

pub plain_same : (bytes : List ℕ) → IsOneLine bytes → plain bytes ≡ bytes
plain_same [] h = refl
plain_same (b ∷ bytes) h = same_byte (is_lf b) (list_any is_lf bytes) b (plain bytes) bytes h (plain_same bytes)

pub plain_length : (bytes : List ℕ) → length (plain bytes) ≡ length bytes
plain_length bytes = length-map bytes plain_byte

-- what was appended and what is left are all that has to be
pub plain_step : (out front back rest whole : List ℕ) → out ++ plain rest ≡ whole → rest ≡ front ++ 10 ∷ back → IsOneLine front → ((out ++ front) ++ 32 ∷ []) ++ plain back ≡ whole
plain_step out front back rest whole h e one =
    append_assoc (out ++ front) (32 ∷ []) (plain back) ∙ append_assoc out front (32 ∷ plain back)
    ∙ ap (λ xs. out ++ xs) (ap (λ xs. xs ++ 32 ∷ plain back) (sym (plain_same front one)) ∙ sym (map-append plain_byte front (10 ∷ back)) ∙ ap plain (sym e)) ∙ h

pub plain_end : (out rest whole : List ℕ) → out ++ plain rest ≡ whole → IsOneLine rest → out ++ rest ≡ whole
plain_end out rest whole h one = ap (λ xs. out ++ xs) (sym (plain_same rest one)) ∙ h

-- the last of them
pub appended_ok : {T E : Type 0} → (r : Result T E) (now out rest whole : List ℕ) → now ≡ cond (is_ok r) (out ++ rest) out → out ++ plain rest ≡ whole → IsOneLine rest → OnOk r (now ≡ whole)
appended_ok (Ok x) now out rest whole e h one = e ∙ plain_end out rest whole h one
appended_ok (Err x) now out rest whole e h one = tt

-- ---- bytes after others

pub none_added : (before : List ℕ) → BeginsWith before before
none_added before = ([], sym (append-nil before))

pub kept_after : (before mid now more : List ℕ) → mid ≡ before ++ more → BeginsWith mid now → BeginsWith before now
kept_after before mid now more e h = (more ++ h.0, h.1 ∙ ap (λ xs. xs ++ h.0) e ∙ append_assoc before more h.0)

pub more_added : (before bytes more now : List ℕ) → BeginsWith before bytes → now ≡ bytes ++ more → BeginsWith before now
more_added before bytes more now h e = (h.0 ++ more, e ∙ ap (λ xs. xs ++ more) h.1 ∙ append_assoc before h.0 more)

-- where bytes may have been appended
pub may_be_added : (v : Bool) (before bytes more now : List ℕ) → BeginsWith before bytes → now ≡ cond v (bytes ++ more) bytes → BeginsWith before now
may_be_added true before bytes more now h e = more_added before bytes more now h e
may_be_added false before bytes more now h e = (h.0, e ∙ h.1)

-- ---- words

pub both_one : (xs ys : List ℕ) → IsOneLine xs → IsOneLine ys → IsOneLine (xs ++ ys)
both_one xs ys h k = list_any-append is_lf xs ys ∙ ap (λ v. v || list_any is_lf ys) h ∙ k

pub plain_words : (bytes : List ℕ) → length bytes ≤ 8000 → IsWords (plain bytes)
plain_words bytes h = record { one = plain_one bytes; short = omega (arith, h, plain_length bytes) }

-- all that there was room for
pub words_said : (said words : List ℕ) → IsWords said → said ++ plain (take (8000 - length said) words) ≡ with_words said words
words_said said words h =
    let room : 8000 ≡ length said + (8000 - length said) = omega (arith, h.short) in
    ap (λ xs. said ++ xs) (sym (take-map plain_byte (8000 - length said) words)) ∙ sym (take-append-add said (plain words) (8000 - length said)) ∙ ap (λ n. take n (said ++ plain words)) (sym room)

pub added_all : (said words now : List ℕ) (n k : ℕ) → IsWords said → n ≡ length said → k ≡ min (8000 - n) (length words) → now ≡ said ++ plain (take k words) → now ≡ with_words said words
added_all said words now n k h en ek e =
    e ∙ ap (λ m. said ++ plain (take m words)) ek ∙ ap (λ xs. said ++ plain xs) (take_min (8000 - n) words) ∙ ap (λ m. said ++ plain (take (8000 - m) words)) en ∙ words_said said words h

-- as they were said
pub few_said : (bytes words now : List ℕ) (n k : ℕ) → length bytes ≤ 8000 → n ≡ length bytes → k ≡ min (8000 - n) (length words) → now ≡ bytes ++ take k words → length now ≤ 8000
few_said bytes words now n k h en ek e = omega (arith, h, en, ek, ap (λ (xs : List ℕ). length xs) e, length-append bytes (take k words), length-take k words)

pub all_said : (bytes words now : List ℕ) (n k : ℕ) → length bytes ≤ 8000 → n ≡ length bytes → k ≡ min (8000 - n) (length words) → now ≡ bytes ++ take k words → plain now ≡ with_words (plain bytes) words
all_said bytes words now n k h en ek e = added_all (plain bytes) words (plain now) n k (plain_words bytes h) (en ∙ sym (plain_length bytes)) ek (ap plain e ∙ map-append plain_byte bytes (take k words))

-- ---- lines

pub line_added : (bytes l : List ℕ) → begun_line bytes ≡ [] → IsOneLine l → ended_lines (bytes ++ text (l ∷ [])) ≡ ended_lines bytes ++ l ∷ []
line_added bytes l none one =
    ap ended_lines (sym (append_assoc bytes l (10 ∷ []))) ∙ ended-lf (bytes ++ l) ∙ ap (λ ls. ls ++ begun_line (bytes ++ l) ∷ []) (ended-more bytes l one)
    ∙ ap (λ m. ended_lines bytes ++ m ∷ []) (begun-more bytes l one ∙ ap (λ b. b ++ l) none)

pub none_begun : (bytes l : List ℕ) → begun_line (bytes ++ text (l ∷ [])) ≡ []
none_begun bytes l = ap begun_line (sym (append_assoc bytes l (10 ∷ []))) ∙ begun-lf (bytes ++ l)

text_onto : (v : Bool) (b : ℕ) (ls : List Line) (begun rest : List ℕ) → v ≡ (b == 10) → text ls ++ begun ≡ rest → text (cond v ([] ∷ ls) (onto_first_line b ls)) ++ cond v begun (onto_begun b ls begun) ≡ b ∷ rest
text_onto true b ls begun rest e h = ap (λ xs. 10 ∷ xs) h ∙ ap (λ c. c ∷ rest) (sym (eqb-true b 10 (sym e)))
text_onto false b [] begun rest e h = ap (λ xs. b ∷ xs) h
text_onto false b (l ∷ ls) begun rest e h = ap (λ xs. b ∷ xs) h

pub text_of_ended : (bytes : List ℕ) → text (ended_lines bytes) ++ begun_line bytes ≡ bytes
text_of_ended [] = refl
text_of_ended (b ∷ bytes) = text_onto (is_lf b) b (ended_lines bytes) (begun_line bytes) bytes refl (text_of_ended bytes)

pub whole_text : (bytes : List ℕ) → begun_line bytes ≡ [] → text (ended_lines bytes) ≡ bytes
whole_text bytes none = sym (append-nil (text (ended_lines bytes))) ∙ ap (λ xs. text (ended_lines bytes) ++ xs) (sym none) ∙ text_of_ended bytes

-- ---- notes

pub note_put : (out words a b now : List ℕ) → a ≡ out ++ (35 ∷ 32 ∷ []) → b ≡ a ++ words → now ≡ b ++ 10 ∷ [] → now ≡ out ++ text (note_line words ∷ [])
note_put out words a b now ea eb e = e ∙ ap (λ xs. xs ++ 10 ∷ []) (eb ∙ ap (λ xs. xs ++ words) ea) ∙ regroup out words
  where
    regroup : (out words : List ℕ) → ((out ++ (35 ∷ 32 ∷ [])) ++ words) ++ 10 ∷ [] ≡ out ++ ((35 ∷ 32 ∷ words) ++ 10 ∷ [])
    regroup out words = simp append_assoc

note_one : (words : List ℕ) → IsWords words → IsOneLine (note_line words)
note_one words h = h.one

pub both_notes : (xs ys : List Line) → AreNotes xs → AreNotes ys → AreNotes (xs ++ ys)
both_notes [] ys h k = k
both_notes (x ∷ xs) ys h k = (h.0, both_notes xs ys h.1 k)

pub is_note : (words : List ℕ) → IsWords words → AreNotes (note_line words ∷ [])
is_note words h = (record { words = words; are_words = h; line_is = refl }, tt)

pub note_added : (bytes words : List ℕ) → AreNoteBytes bytes → IsWords words → AreNoteBytes (bytes ++ text (note_line words ∷ []))
note_added bytes words h w = record {
  notes = subst AreNotes (sym (line_added bytes (note_line words) h.whole (note_one words w))) (both_notes (ended_lines bytes) (note_line words ∷ []) h.notes (is_note words w));
  whole = none_begun bytes (note_line words);
}

pub note_ended : (bytes words : List ℕ) → AreNoteBytes bytes → IsWords words → ended_lines (bytes ++ text (note_line words ∷ [])) ≡ ended_lines bytes ++ note_line words ∷ []
note_ended bytes words h w = line_added bytes (note_line words) h.whole (note_one words w)

pub last_note : (words : List ℕ) → IsWords words → AreNotes (note_or_none words)
last_note [] h = tt
last_note (b ∷ words) h = is_note (b ∷ words) h

pub all_notes : (notes : Remarks) → AreNotes notes.lines → IsWords notes.line → AreNotes (notes_of notes)
all_notes notes h w = both_notes notes.lines (note_or_none notes.line) h (last_note notes.line w)

pub note_there : (words : List ℕ) → (length words == 0) ≡ false → note_or_none words ≡ note_line words ∷ []
note_there [] h = cc
note_there (b ∷ words) h = refl

pub note_missing : (words : List ℕ) → (length words == 0) ≡ true → note_or_none words ≡ []
note_missing [] h = refl
note_missing (b ∷ words) h = absurd (omega (arith, eqb-true (length (b ∷ words)) 0 h))

-- a note is a comment, and no mark
note_comment : (l : Line) → IsNote l → IsComment l
note_comment l h = subst IsComment (sym h.line_is) (record { begins = refl; one = h.are_words.one; short = omega (arith, h.are_words.short) })

pub notes_are_comments : (ls : List Line) → AreNotes ls → AreComments ls
notes_are_comments [] h = tt
notes_are_comments (l ∷ ls) h = (note_comment l h.0, notes_are_comments ls h.1)

pub notes_mark_nothing : (ls : List Line) → AreNotes ls → marks_in ls ≡ []
notes_mark_nothing [] h = refl
notes_mark_nothing (l ∷ ls) h = subst (λ m. marks_in (m ∷ ls) ≡ []) (sym h.0.line_is) (notes_mark_nothing ls h.1)

-- ---- the steps of notes

-- the notes of these bytes and words
abbrev pub remarks : (bytes words : List ℕ) → Remarks
remarks bytes words = record { lines = ended_lines bytes; line = words }

pub noted : (v : Remarks) (out bytes words now : List ℕ) (last : List Line) → remarks bytes words ≡ v → AreNoteBytes bytes → note_or_none words ≡ last → now ≡ (out ++ bytes) ++ text last → now ≡ out ++ text (notes_of v)
noted v out bytes words now last e h more k =
    k ∙ append_assoc out bytes (text last) ∙ ap (λ xs. out ++ xs) (ap (λ xs. xs ++ text last) (sym (whole_text bytes h.whole)) ∙ sym (text_append (ended_lines bytes) last)
    ∙ ap (λ ls. text (ended_lines bytes ++ ls)) (sym more) ∙ ap (λ x. text (notes_of x)) e)

pub next_bytes : (bytes words line now : List ℕ) → now ≡ bytes ++ text (note_line words ∷ []) → words ≡ line → AreNoteBytes bytes → IsWords line → AreNoteBytes now
next_bytes bytes words line now e same h w = subst AreNoteBytes (sym (e ∙ ap (λ x. bytes ++ text (note_line x ∷ [])) same)) (note_added bytes line h w)

pub next_notes : (v : Remarks) (bytes words line now cleared : List ℕ) → remarks bytes line ≡ v → now ≡ bytes ++ text (note_line words ∷ []) → words ≡ line → AreNoteBytes bytes → IsWords line → cleared ≡ [] → remarks now cleared ≡ ended_notes v
next_notes v bytes words line now cleared is e same h w none =
    ap (remarks now) none ∙ ap (λ x. remarks x []) (e ∙ ap (λ x. bytes ++ text (note_line x ∷ [])) same) ∙ ap (λ ls. record_of ls []) (note_ended bytes line h w) ∙ ap ended_notes is
  where
    record_of : List Line → List ℕ → Remarks
    record_of ls words = record { lines = ls; line = words }

-- once a line has ended there is one
pub ended_is_said : (notes : Remarks) → IsSaid (ended_notes notes)
ended_is_said notes = omega (arith, length-append (notes.lines ++ note_line notes.line ∷ []) [], length-append notes.lines (note_line notes.line ∷ []))
