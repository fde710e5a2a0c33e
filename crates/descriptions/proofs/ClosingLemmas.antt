-- The objects after those of the report are put one after the other.
use Rattle.std.proofs.Common.{◌≡◌, subst, refl, ℕ, suc, zero, ◌+◌, List, [], ◌∷◌, ◌++◌, Option, Result, Ok, Err, OnOk, OnErr, append_assoc, arith}
use Rattle.std.specs.Prelude.{codes}
use Rattle.line_model.specs.basics.Device.{with_more}
use Rattle.line_model.specs.basics.Written.{HasFront}
use Rattle.json_lines.specs.Json.{beginning, object}
use Rattle.annotated_trace.specs.Printed.{HasTaken, HasTakenFirst}
use Rattle.descriptions.specs.Closing.{AreCallFacts, AreClosingObjects, AreObjects, AreUncounted, IsObjectLine}
use Rattle.descriptions.specs.Members.{IsFurther, IsOfCall, NoMember, call_member}
use Rattle.descriptions.specs.Writing.{Adds, These}
use Rattle.descriptions.proofs.MemberLemmas.{both_put}

-- ---- a line

whole_line : (title : List ℕ) (form : List ℕ → Type 0) (x y z : List ℕ) → These (beginning title) x → form y → These (125 ∷ 10 ∷ []) z → IsObjectLine title form ((x ++ y) ++ z)
whole_line title form x y z e m f = (y, (λ t. (e t ++ y) ++ f t), m)

pub line_put : {O : Type 0} {has : O → List ℕ → Type 0} {a b c d : O} (title : List ℕ) (form : List ℕ → Type 0) → Adds has (These (beginning title)) a b → Adds has form b c → Adds has (These (125 ∷ 10 ∷ [])) c d → Adds has (IsObjectLine title form) a d
line_put {O} {has} {a} {b} {c} {d} title form first members later = record {
  bytes = (first.bytes ++ members.bytes) ++ later.bytes;
  put = λ w h. subst (has d) (append_assoc w (first.bytes ++ members.bytes) later.bytes) (later.put (w ++ (first.bytes ++ members.bytes)) (subst (has c) (append_assoc w first.bytes members.bytes) (members.put (w ++ first.bytes) (first.put w h))));
  formed = whole_line title form first.bytes members.bytes later.bytes first.formed members.formed later.formed;
}

-- ---- lines

one_more_line : (title : List ℕ) (form : ℕ → List ℕ → Type 0) (n : ℕ) (x y : List ℕ) → AreObjects title form n x → IsObjectLine title (form n) y → AreObjects title form (n + 1) (x ++ y)
one_more_line title form n x y all line = let e : suc n ≡ n + 1 = omega arith in subst (λ m. AreObjects title form m (x ++ y)) e (x, y, refl, all, line)

pub facts_then : {O : Type 0} {has : O → List ℕ → Type 0} {a b c : O} (n : ℕ) → Adds has (AreCallFacts n) a b → Adds has (IsObjectLine (codes "call_facts") (IsOfCall (n + 1))) b c → Adds has (AreCallFacts (n + 1)) a c
facts_then {has = has} {b = b} {c = c} n first later =
    let e : n + 1 ≡ suc n = omega arith in
    both_put (one_more_line (codes "call_facts") (λ m. IsOfCall (suc m)) n) first (subst (λ m. Adds has (IsObjectLine (codes "call_facts") (IsOfCall m)) b c) e later)

pub uncounted_then : {O : Type 0} {has : O → List ℕ → Type 0} {a b c : O} → Adds has AreUncounted a b → Adds has (IsObjectLine (codes "not_counted") IsFurther) b c → Adds has AreUncounted a c
uncounted_then first later = both_put (λ x y h line. (h.0 + 1, one_more_line (codes "not_counted") (λ n. IsFurther) h.0 x y h.1 line)) first later

pub closing_put : {O : Type 0} {has : O → List ℕ → Type 0} {a b c : O} (n : ℕ) → Adds has AreUncounted a b → Adds has (AreCallFacts n) b c → Adds has (AreClosingObjects n) a c
closing_put n first later = both_put (λ x y h k. (x, y, refl, h, k)) first later

-- `n` lines, each an object of a call alone
bare_objects : (n : ℕ) → (bytes : List ℕ) × AreCallFacts n bytes
bare_objects zero = ([], refl)
bare_objects (suc n) =
    let h = bare_objects n in
    let own : List ℕ = object (codes "call_facts") (call_member (suc n) ++ []) in
    (h.0 ++ own, (h.0, own, refl, h.1, (call_member (suc n) ++ [], refl, ([], refl, NoMember))))

pub some_closing : (n : ℕ) → (bytes : List ℕ) × AreClosingObjects n bytes
some_closing n = let h = bare_objects n in (h.0, ([], h.0, refl, (zero, refl), h.1))

-- ---- what a sink accepted of them

pub taken_all : {T E : Type 0} (r : Result T E) (form : List ℕ → Type 0) (bytes : List ℕ) (before after : Option (List ℕ)) → form bytes → OnOk r (after ≡ with_more before bytes) → OnOk r (HasTaken form before after)
taken_all (Ok x) form bytes before after f t = record { bytes = bytes; taken = t; formed = f }
taken_all (Err e) form bytes before after f t = tt

pub taken_first : {T E : Type 0} (r : Result T E) (form : List ℕ → Type 0) (bytes : List ℕ) (before after : Option (List ℕ)) → form bytes → OnErr r (HasFront before after bytes) → OnErr r (HasTakenFirst form before after)
taken_first (Ok x) form bytes before after f t = tt
taken_first (Err e) form bytes before after f t = record { bytes = bytes; front = t.0; left = t.1; whole = t.2; taken = t.3; formed = f }
