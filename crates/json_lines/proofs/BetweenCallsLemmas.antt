-- What stands between calls, and what is on the way inside one.
use Rattle.std.proofs.Common.{◌≡◌, ℕ, ◌<◌, Bool, true, false, List, [], ◌∷◌, ◌++◌, length, take, drop, refl, sym, ap, ◌∙◌, subst, arith, append-nil, Option, None, Some}
use Rattle.std.proofs.lemmas.Grind.{common_steps}
use Rattle.std.proofs.lemmas.List.{take-append-drop}
use Rattle.std.specs.List.{flat_map, list_any}
use Rattle.line_model.specs.basics.Device.{with_more}
use Rattle.line_model.specs.text.Text.{begun_line, is_lf}
use Rattle.line_model.proofs.TextLemmas.{begun-lf, ended-more, begun-more}
use Rattle.json_lines.specs.Json.{json_line, json_text, line_room}
use Rattle.json_lines.specs.BetweenCalls.{Goes, IsFirstPart, IsBetweenCalls, since}
use Rattle.line_model.specs.basics.Written.{Writes, Puts}
use Rattle.json_lines.specs.declared.lines.JsonLines.{JsonLines}
use Rattle.json_lines.proofs.JsonLemmas.{json_lf, json_line_cut}
use Rattle.line_model.proofs.DeviceLemmas.{with_more-nil}

-- ---- first parts

pub first_part : (before taken : Option (List ℕ)) (sent left text : List ℕ) → taken ≡ with_more before sent → sent ++ left ≡ text → IsFirstPart before taken text
first_part None taken sent left text took whole = (took, refl)
first_part (Some front) taken sent left text took whole =
    let behind : drop (length front) (front ++ sent) ≡ sent = grind (arith, common_steps) in
    let first : take (length sent) (sent ++ left) ≡ sent = grind (arith, common_steps) in
    subst (λ t. IsFirstPart (Some front) t text) (sym took)
    (ap (λ s. Some (front ++ s)) (sym behind), ap (λ s. take (length s) text) behind ∙ ap (take (length sent)) (sym whole) ∙ first ∙ sym behind)

pub two_parts : (before taken : Option (List ℕ)) (text : List ℕ) → IsFirstPart before taken text → (front : List ℕ) × (rest : List ℕ) × (text ≡ front ++ rest) × (taken ≡ with_more before front)
two_parts before taken text h =
    let n = length (since before taken) in
    (since before taken, drop n text, sym (take-append-drop n text) ∙ ap (λ front. front ++ drop n text) h.1, h.0)

pub parts_of : (before taken : Option (List ℕ)) (given text : List ℕ) → ◌≡◌ {A = Option (List ℕ)} (Some given) (Some text) → IsFirstPart before taken (json_text given)
    → (front : List ℕ) × (rest : List ℕ) × (json_text text ≡ front ++ rest) × (taken ≡ with_more before front)
parts_of before taken given text is h =
    let same : given ≡ text = cc in
    two_parts before taken (json_text text) (subst (λ t. IsFirstPart before taken (json_text t)) same h)

-- ---- between calls and inside them

writes_by : (before taken : Option (List ℕ) × ℕ) (l : JsonLines) (failed : Bool) → l.buffer.failed ≡ failed → IsBetweenCalls before taken l → Writes before taken l.buffer (json_text l.given.bytes)
writes_by before taken l false is s = record {
  sent = json_text l.given.bytes;
  left = [];
  took = s.2 is;
  whole = append-nil (json_text l.given.bytes);
  held = λ e. sym s.1;
  rising = s.4;
  cause = λ e. s.5 e;
}
writes_by before taken l true is s =
    let parts = two_parts before.0 taken.0 (json_text l.given.bytes) s.3 in
    record {
      sent = parts.0;
      left = parts.1;
      took = parts.3;
      whole = sym parts.2;
      held = λ e. absurd (cc);
      rising = s.4;
      cause = λ e. s.5 e;
    }

pub goes_of : (before taken : Option (List ℕ) × ℕ) (l : JsonLines) → IsBetweenCalls before taken l → Goes before taken l
goes_of before taken l s = record { writes = writes_by before taken l l.buffer.failed refl s; line = s.0 }

pub represents_of : (before taken : Option (List ℕ) × ℕ) (l : JsonLines) → Goes before taken l → l.buffer.bytes.items ≡ [] → (0 < length l.refused.bytes → l.buffer.failed ≡ true) → IsBetweenCalls before taken l
represents_of before taken l g empty refused =
    let w = g.writes in
    let all : l.buffer.failed ≡ false → taken.0 ≡ with_more before.0 (json_text l.given.bytes) = λ fine.
    w.took ∙ ap (with_more before.0) (sym (append-nil w.sent) ∙ ap (λ left. w.sent ++ left) (sym (w.held fine ∙ empty)) ∙ w.whole) in
    (g.line, empty, all, first_part before.0 taken.0 w.sent w.left (json_text l.given.bytes) w.took w.whole, w.rising, w.cause, refused)

-- nothing was taken yet
pub represents_new : (taken : Option (List ℕ) × ℕ) (l : JsonLines) → l.line.items ≡ [] → l.buffer.bytes.items ≡ [] → l.buffer.failed ≡ false → l.given.bytes ≡ [] → l.refused.bytes ≡ [] → IsBetweenCalls taken taken l
represents_new taken l line empty fine given refused =
    let text : json_text l.given.bytes ≡ [] = ap json_text given in
    let none : (o : Option (List ℕ)) → o ≡ with_more o [] = λ o. sym (with_more-nil o) in (
      line ∙ ap (λ t. take line_room (begun_line t)) (sym given),
      empty,
      λ e. none taken.0 ∙ ap (with_more taken.0) (sym text),
      first_part taken.0 taken.0 [] [] (json_text l.given.bytes) (none taken.0) (sym text),
      omega arith,
      λ e. absurd (let off = fine in cc),
      λ some. absurd (let e : length l.refused.bytes ≡ 0 = ap length refused in omega (arith, e, some)),
    )

-- a sink that has not failed has refused nothing
pub nothing_refused : (before taken : Option (List ℕ) × ℕ) (l : JsonLines) → IsBetweenCalls before taken l → l.buffer.failed ≡ false → 0 < length l.refused.bytes → (failed : Bool) → failed ≡ true
nothing_refused before taken l s fine some any = absurd (let failed = s.6 some in cc)

-- ---- a byte more

-- a line has ended: its object was put, and the next line is held, which is empty
pub ends_line : (before taken after : Option (List ℕ) × ℕ) (l m : JsonLines) → Goes before taken l → m.given.bytes ≡ l.given.bytes ++ 10 ∷ [] → m.line.items ≡ [] → Puts taken after l.buffer m.buffer (json_line l.line.items) → Goes before after m
ends_line before taken after l m g given empty puts =
    let text : json_text l.given.bytes ++ json_line l.line.items ≡ json_text m.given.bytes =
    ap (λ line. json_text l.given.bytes ++ json_line line) g.line
    ∙ ap (λ object. json_text l.given.bytes ++ object) (json_line_cut (begun_line l.given.bytes))
    ∙ sym (json_lf l.given.bytes) ∙ ap json_text (sym given) in
    record {
      writes = subst (Writes before after m.buffer) text (puts before (json_text l.given.bytes) g.writes);
      line = empty ∙ ap (take line_room) (sym (ap begun_line given ∙ begun-lf l.given.bytes));
    }

-- a byte of a line: what was put stays, and the line goes on as far as there is room
pub goes_on : (before taken : Option (List ℕ) × ℕ) (l m : JsonLines) (b : ℕ) → Goes before taken l → is_lf b ≡ false → m.given.bytes ≡ l.given.bytes ++ b ∷ [] → m.buffer ≡ l.buffer
    → m.line.items ≡ take line_room (begun_line l.given.bytes ++ b ∷ []) → Goes before taken m
goes_on before taken l m b g other given same line =
    let lacks : list_any is_lf (b ∷ []) ≡ false = rw other refl in
    let text : json_text l.given.bytes ≡ json_text m.given.bytes = ap (flat_map json_line) (sym (ended-more l.given.bytes (b ∷ []) lacks)) ∙ ap json_text (sym given) in
    record {
      writes = subst (λ c. Writes before taken c (json_text m.given.bytes)) (sym same) (subst (Writes before taken l.buffer) text g.writes);
      line = line ∙ ap (take line_room) (sym (ap begun_line given ∙ begun-more l.given.bytes (b ∷ []) lacks));
    }
