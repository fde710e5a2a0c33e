-- What a page has written to its sink.
use Rattle.std.proofs.Common.{◌≡◌, ◌∙◌, sym, ap, subst, refl, ℕ, zero, suc, ◌+◌, ◌-◌, ◌/◌, ◌%◌, ◌<◌, ◌≤◌, false, List, [], ◌∷◌, ◌++◌, length, take, cond, min, Option, arith, append_assoc, append-nil, length-append}
use Rattle.std.specs.Prelude.{◌==◌, slice_index}
use Rattle.std.proofs.lemmas.Bool.Decides.{nat_tests}
use Rattle.std.proofs.lemmas.List.{length-map, length-take, map-append, take_all}
use Rattle.hex.specs.Hex.{encode_upper, encode_with, upper_digits}
use Rattle.line_model.specs.traces.Traces.{text}
use Rattle.line_model.specs.basics.Written.{Puts, Writes}
use Rattle.line_model.specs.declared.write_buffer.WriteBuffer.{WriteBuffer}
use Rattle.annotated_trace.specs.Pages.{HasNoted}
use Rattle.annotated_trace.specs.Wording.{IsWords, Remarks, begun_note, ended_notes, feed_of, hash_of, note_line, note_or_none, notes_of, plain, plain_byte, with_words}
use Rattle.annotated_trace.proofs.LinesOfText.{text_append}
use Rattle.annotated_trace.proofs.WordingLemmas.{added_all, both_notes, both_one, is_note, plain_one}

-- ---- words that are put

pub plain_more : (text done front : List ℕ) → ((text ++ done) ++ front) ++ 32 ∷ [] ≡ text ++ ((done ++ front) ++ 32 ∷ [])
plain_more text done front = simp append_assoc

-- ---- nothing was said

pub nothing_noted : (start taken : Option (List ℕ) × ℕ) (buffer : WriteBuffer) → Writes start taken buffer [] → HasNoted start taken buffer 0 (record { lines = []; line = [] })
nothing_noted start taken buffer w = record { lines = tt; words = record { one = refl; short = omega arith }; said_is = refl; writes = w }

-- ---- words after others

some_said : (b : ℕ) (line : List ℕ) → (length (b ∷ line) == 0) ≡ false
some_said b line = grind (arith, nat_tests)

no_hash : (b : ℕ) (line : List ℕ) → hash_of (length (b ∷ line)) ≡ []
no_hash b line = ap (λ v. cond v (35 ∷ 32 ∷ []) []) (some_said b line)

begun_line_is : (line : List ℕ) → begun_note line ++ hash_of (length line) ≡ note_line line
begun_line_is [] = refl
begun_line_is (b ∷ line) = ap (λ xs. note_line (b ∷ line) ++ xs) (no_hash b line) ∙ append-nil (note_line (b ∷ line))

begun_more : (line words : List ℕ) → 0 < length words → (begun_note line ++ hash_of (length line)) ++ words ≡ begun_note (line ++ words)
begun_more [] [] h = absurd (omega (arith, h))
begun_more [] (b ∷ words) h = refl
begun_more (b ∷ line) words h = ap (λ xs. xs ++ words) (begun_line_is (b ∷ line))

ended_is : (line : List ℕ) → begun_note line ++ feed_of (length line) ≡ text (note_or_none line)
ended_is [] = refl
ended_is (b ∷ line) = ap (λ v. note_line (b ∷ line) ++ cond v [] (10 ∷ [])) (some_said b line)

pub words_noted : (start t0 t1 t2 : Option (List ℕ) × ℕ) (c0 c1 c2 : WriteBuffer) (said k : ℕ) (notes : Remarks) (words : List ℕ) → HasNoted start t0 c0 said notes → k ≡ min (8000 - said) (length words) → 0 < length (take k words)
    → Puts t0 t1 c0 c1 (hash_of said) → Puts t1 t2 c1 c2 (plain (take k words)) → HasNoted start t2 c2 (said + length (take k words)) (record { lines = notes.lines; line = with_words notes.line words })
words_noted start t0 t1 t2 c0 c1 c2 said k notes words h ek some hash put =
    let line = notes.line in
    let front = take k words in
    let all : line ++ plain front ≡ with_words line words = added_all line words (line ++ plain front) said k h.words h.said_is ek refl in
    let size : length (line ++ plain front) ≡ said + length front = omega (arith, length-append line (plain front), length-map front plain_byte, h.said_is) in
    let few : length (line ++ plain front) ≤ 8000 = omega (arith, size, length-take k words, ek, h.said_is, h.words.short) in
    let there : 0 < length (plain front) = omega (arith, some, length-map front plain_byte) in
    let written : ((text notes.lines ++ begun_note line) ++ hash_of said) ++ plain front ≡ text notes.lines ++ begun_note (with_words line words) =
    ap (λ n. ((text notes.lines ++ begun_note line) ++ hash_of n) ++ plain front) h.said_is ∙ regroup (text notes.lines) (begun_note line) (hash_of (length line)) (plain front)
    ∙ ap (λ xs. text notes.lines ++ xs) (begun_more line (plain front) there ∙ ap begun_note all) in
    record {
      lines = h.lines;
      words = subst IsWords all (record { one = both_one line (plain front) h.words.one (plain_one front); short = few });
      said_is = sym size ∙ ap (λ (xs : List ℕ). length xs) all;
      writes = subst (Writes start t2 c2) written (put start _ (hash start _ h.writes));
    }
  where
    regroup : (a b c d : List ℕ) → ((a ++ b) ++ c) ++ d ≡ a ++ ((b ++ c) ++ d)
    regroup a b c d = simp append_assoc

-- there was no room for them, or there were none
pub none_noted : (start taken : Option (List ℕ) × ℕ) (buffer : WriteBuffer) (said k : ℕ) (notes : Remarks) (words : List ℕ) → HasNoted start taken buffer said notes → k ≡ min (8000 - said) (length words) → length (take k words) ≡ 0
    → HasNoted start taken buffer said (record { lines = notes.lines; line = with_words notes.line words })
none_noted start taken buffer said k notes words h ek none =
    let all : notes.line ≡ with_words notes.line words =
    sym (append-nil notes.line) ∙ ap (λ xs. notes.line ++ plain xs) (sym (none_of (take k words) none)) ∙ added_all notes.line words (notes.line ++ plain (take k words)) said k h.words h.said_is ek refl in
    subst (λ xs. HasNoted start taken buffer said (record { lines = notes.lines; line = xs })) all h
  where
    none_of : (xs : List ℕ) → length xs ≡ 0 → xs ≡ []
    none_of [] e = refl
    none_of (x ∷ xs) e = absurd (omega (arith, e))

-- the last line ends
pub next_noted : (start t0 t1 t2 : Option (List ℕ) × ℕ) (c0 c1 c2 : WriteBuffer) (said : ℕ) (notes : Remarks) → HasNoted start t0 c0 said notes → Puts t0 t1 c0 c1 (hash_of said) → Puts t1 t2 c1 c2 (10 ∷ []) → HasNoted start t2 c2 0 (ended_notes notes)
next_noted start t0 t1 t2 c0 c1 c2 said notes h hash feed =
    let line = notes.line in
    let written : ((text notes.lines ++ begun_note line) ++ hash_of said) ++ 10 ∷ [] ≡ text (notes.lines ++ note_line line ∷ []) ++ [] =
    ap (λ n. ((text notes.lines ++ begun_note line) ++ hash_of n) ++ 10 ∷ []) h.said_is ∙ regroup (text notes.lines) (begun_note line) (hash_of (length line)) (10 ∷ [])
    ∙ ap (λ xs. text notes.lines ++ (xs ++ 10 ∷ [])) (begun_line_is line) ∙ sym (text_append notes.lines (note_line line ∷ [])) ∙ sym (append-nil (text (notes.lines ++ note_line line ∷ []))) in
    record {
      lines = both_notes notes.lines (note_line line ∷ []) h.lines (is_note line h.words);
      words = record { one = refl; short = omega arith };
      said_is = refl;
      writes = subst (Writes start t2 c2) written (feed start _ (hash start _ h.writes));
    }
  where
    regroup : (a b c d : List ℕ) → ((a ++ b) ++ c) ++ d ≡ a ++ ((b ++ c) ++ d)
    regroup a b c d = simp append_assoc

-- all that was said is on its way
pub all_noted : (start t0 t1 : Option (List ℕ) × ℕ) (c0 c1 : WriteBuffer) (said : ℕ) (notes : Remarks) → HasNoted start t0 c0 said notes → Puts t0 t1 c0 c1 (feed_of said) → Writes start t1 c1 (text (notes_of notes))
all_noted start t0 t1 c0 c1 said notes h feed =
    let line = notes.line in
    let written : (text notes.lines ++ begun_note line) ++ feed_of said ≡ text (notes.lines ++ note_or_none line) =
    ap (λ n. (text notes.lines ++ begun_note line) ++ feed_of n) h.said_is ∙ append_assoc (text notes.lines) (begun_note line) (feed_of (length line))
    ∙ ap (λ xs. text notes.lines ++ xs) (ended_is line) ∙ sym (text_append notes.lines (note_or_none line)) in
    subst (Writes start t1 c1) written (feed start _ h.writes)

pub some_there : (n : ℕ) → (n == 0) ≡ false → 0 < n
some_there n h = grind (arith, nat_tests)

-- ---- octets, one after the other

take_twice : (n : ℕ) (xs ys : List ℕ) → take n (take n xs ++ ys) ≡ take n (xs ++ ys)
take_twice zero xs ys = refl
take_twice (suc n) [] ys = refl
take_twice (suc n) (x ∷ xs) ys = ap (λ (zs : List ℕ). x ∷ zs) (take_twice n xs ys)

words_twice : (line a b : List ℕ) → with_words (with_words line a) b ≡ with_words line (a ++ b)
words_twice line a b =
    take_twice 8000 (line ++ plain a) (plain b) ∙ ap (take 8000) (append_assoc line (plain a) (plain b) ∙ ap (λ xs. line ++ xs) (sym (map-append plain_byte a b)))

encode_append : (a b : List ℕ) → encode_upper (a ++ b) ≡ encode_upper a ++ encode_upper b
unfolding encode_with
encode_append [] b = refl
encode_append (x ∷ a) b = ap (λ xs. slice_index upper_digits (x / 16) ∷ slice_index upper_digits (x % 16) ∷ xs) (encode_append a b)

no_octets : (line : List ℕ) → IsWords line → line ≡ with_words line (encode_upper [])
unfolding encode_with
no_octets line h = sym (ap (take 8000) (append-nil line) ∙ take_all 8000 line h.short)

-- no octets, and one more
pub none_added : (start taken : Option (List ℕ) × ℕ) (buffer : WriteBuffer) (said : ℕ) (notes : Remarks) → HasNoted start taken buffer said notes → HasNoted start taken buffer said (record { lines = notes.lines; line = with_words notes.line (encode_upper []) })
none_added start taken buffer said notes h = subst (λ xs. HasNoted start taken buffer said (record { lines = notes.lines; line = xs })) (no_octets notes.line h.words) h

pub one_added : (start taken : Option (List ℕ) × ℕ) (buffer : WriteBuffer) (said : ℕ) (notes : Remarks) (first all : List ℕ) (octet : ℕ) → all ≡ first ++ octet ∷ []
    → HasNoted start taken buffer said (record { lines = notes.lines; line = with_words (with_words notes.line (encode_upper first)) (encode_upper (octet ∷ [])) })
    → HasNoted start taken buffer said (record { lines = notes.lines; line = with_words notes.line (encode_upper all) })
one_added start taken buffer said notes first all octet e h =
    subst (λ xs. HasNoted start taken buffer said (record { lines = notes.lines; line = xs }))
    (words_twice notes.line (encode_upper first) (encode_upper (octet ∷ [])) ∙ ap (with_words notes.line) (sym (encode_append first (octet ∷ [])) ∙ ap encode_upper (sym e))) h
