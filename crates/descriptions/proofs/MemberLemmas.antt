-- Members are put one after the other.
use Rattle.std.proofs.Common.{◌≡◌, ◌∙◌, sym, ap, subst, refl, ℕ, ◌==◌, ◌&&◌, ◌||◌, Bool, true, false, not, List, [], ◌∷◌, ◌++◌, append_assoc, append-nil, arith}
use Rattle.std.specs.Str.{bytes_eq}
use Rattle.std.proofs.lemmas.Slice.Eq.{bytes_eq-Decides}
use Rattle.json_lines.specs.Json.{quoted}
use Rattle.descriptions.specs.Members.{AreElements, Array, Element, False, IsFurther, IsMembers, IsText, IsValue, Member, NoElement, NoMember, Object, Text, True, is_among, is_plain, is_text, member, promised}
use Rattle.descriptions.specs.RowObjects.{flag_word}
use Rattle.descriptions.specs.Writing.{Adds, IsBeginning, IsFirst, IsOpenArray, IsOpenObject, These, beginning_of, comma_after, is_beginning, is_first, name_in}

-- ---- bytes of one form and then of another

pub both_put : {O : Type 0} {has : O → List ℕ → Type 0} {P Q R : List ℕ → Type 0} {a b c : O} → ((x y : List ℕ) → P x → Q y → R (x ++ y)) → Adds has P a b → Adds has Q b c → Adds has R a c
both_put {O} {has} {P} {Q} {R} {a} {b} {c} join first later = record {
  bytes = first.bytes ++ later.bytes;
  put = λ text h. subst (has c) (append_assoc text first.bytes later.bytes) (later.put (text ++ first.bytes) (first.put text h));
  formed = join first.bytes later.bytes first.formed later.formed;
}

pub as_form : {O : Type 0} {has : O → List ℕ → Type 0} {P : List ℕ → Type 0} {x : List ℕ} {a b : O} → P x → Adds has (These x) a b → Adds has P a b
as_form {O} {has} {P} {x} p put = record { bytes = put.bytes; put = put.put; formed = subst P (sym put.formed) p }

pub nothing_put : {O : Type 0} {has : O → List ℕ → Type 0} {P : List ℕ → Type 0} {a : O} → P [] → Adds has P a a
nothing_put {O} {has} {P} {a} p = record { bytes = []; put = λ text h. subst (has a) (sym (append-nil text)) h; formed = p }

-- ---- members

pub more : {names : List (List ℕ)} (x y : List ℕ) → IsMembers names x → IsMembers names y → IsMembers names (x ++ y)
more _ y NoMember h = h
more _ y (Member name value rest new text is ms) h = subst (IsMembers _) (sym (append_assoc (member name value) rest y)) (Member name value (rest ++ y) new text is (more rest y ms h))

pub further_then : {O : Type 0} {has : O → List ℕ → Type 0} {a b c : O} → Adds has IsFurther a b → Adds has IsFurther b c → Adds has IsFurther a c
further_then first later = both_put more first later

pub one_member : {names : List (List ℕ)} (x y : List ℕ) → IsBeginning names x → IsValue y → IsMembers names (x ++ y)
one_member x y b v = subst (IsMembers _) (same b.name ∙ ap (λ xs. xs ++ y) (sym b.is)) (Member b.name y [] b.other b.text v NoMember)
  where
    same : (name : List ℕ) → member name y ++ [] ≡ beginning_of name ++ y
    same name = append-nil (member name y) ∙ ap (λ xs. 44 ∷ xs) (sym (append_assoc (quoted name) (58 ∷ []) y))

pub member_put : {O : Type 0} {has : O → List ℕ → Type 0} {a b c : O} → Adds has (IsBeginning promised) a b → Adds has IsValue b c → Adds has IsFurther a c
member_put first later = both_put one_member first later

pub flag_value : (b : Bool) → IsValue (flag_word b)
flag_value true = True
flag_value false = False

pub no_member : {O : Type 0} {has : O → List ℕ → Type 0} {a : O} → Adds has IsFurther a a
no_member = nothing_put NoMember

-- members with any name
pub any_name : {names : List (List ℕ)} (x : List ℕ) → IsMembers names x → IsMembers [] x
any_name _ NoMember = NoMember
any_name _ (Member name value rest new text is ms) = Member name value rest refl text is (any_name rest ms)

-- ---- their beginnings

both_left : (a b : Bool) → (a && b) ≡ true → a ≡ true
both_left true b h = refl
both_left false b h = cc

both_right : (a b : Bool) → (a && b) ≡ true → b ≡ true
both_right true b h = h
both_right false b h = cc

not_set : (b : Bool) → not b ≡ true → b ≡ false
not_set true h = cc
not_set false h = refl

pub begins : (names : List (List ℕ)) (bytes : List ℕ) → is_beginning names bytes ≡ true → IsBeginning names bytes
begins names bytes h =
    let name : List ℕ = name_in bytes in
    let rest = both_right (bytes_eq bytes (beginning_of name)) (is_text false name && not (is_among names name)) h in
    record {
      name = name;
      is = (bytes_eq-Decides bytes (beginning_of name)).0 (both_left (bytes_eq bytes (beginning_of name)) (is_text false name && not (is_among names name)) h);
      text = both_left (is_text false name) (not (is_among names name)) rest;
      other = not_set (is_among names name) (both_right (is_text false name) (not (is_among names name)) rest);
    }

pub begins_object : (bytes : List ℕ) → is_first bytes ≡ true → IsFirst bytes
begins_object [] h = cc
begins_object (b ∷ rest) h = record {
  rest = rest;
  is = ap (λ x. x ∷ rest) (eq_of (b == 123) refl (both_left (b == 123) (is_beginning [] (44 ∷ rest)) h));
  begins = begins [] (44 ∷ rest) (both_right (b == 123) (is_beginning [] (44 ∷ rest)) h);
}
  where
    eq_of : (v : Bool) → (b == 123) ≡ v → v ≡ true → b ≡ 123
    eq_of v e t = grind arith

-- ---- objects

first_member : (x y : List ℕ) → IsFirst x → IsValue y → IsOpenObject (x ++ y)
first_member x y f v = record { rest = f.rest ++ y; is = ap (λ xs. xs ++ y) f.is; members = one_member (44 ∷ f.rest) y f.begins v }

pub first_put : {O : Type 0} {has : O → List ℕ → Type 0} {a b c : O} → Adds has IsFirst a b → Adds has IsValue b c → Adds has IsOpenObject a c
first_put first later = both_put first_member first later

next_members : (x y : List ℕ) → IsOpenObject x → IsMembers [] y → IsOpenObject (x ++ y)
next_members x y o h = record { rest = o.rest ++ y; is = ap (λ xs. xs ++ y) o.is; members = more (44 ∷ o.rest) y o.members h }

pub object_then : {O : Type 0} {has : O → List ℕ → Type 0} {a b c : O} → Adds has IsOpenObject a b → Adds has (IsMembers []) b c → Adds has IsOpenObject a c
object_then first later = both_put next_members first later

pub object_more : {O : Type 0} {has : O → List ℕ → Type 0} {a b c : O} → Adds has IsOpenObject a b → Adds has IsFurther b c → Adds has IsOpenObject a c
object_more first later = both_put (λ x y o h. next_members x y o (any_name y h)) first later

last_bracket : (x y : List ℕ) → IsOpenObject x → These (125 ∷ []) y → IsValue (x ++ y)
last_bracket x y o e = subst IsValue (λ t. sym o.is t ++ sym e t) (Object (44 ∷ o.rest) o.members)

pub object_end : {O : Type 0} {has : O → List ℕ → Type 0} {a b c : O} → Adds has IsOpenObject a b → Adds has (These (125 ∷ [])) b c → Adds has IsValue a c
object_end first later = both_put last_bracket first later

-- ---- arrays

one_more : (x y : List ℕ) → AreElements x → IsValue y → AreElements (x ++ 44 ∷ y)
one_more _ y NoElement v = subst AreElements (ap (λ xs. 44 ∷ xs) (append-nil y)) (Element y [] v NoElement)
one_more _ y (Element value rest is es) v = subst AreElements (sym (append_assoc (44 ∷ value) rest (44 ∷ y))) (Element value (rest ++ 44 ∷ y) is (one_more rest y es v))

one_element : (x y z : List ℕ) (empty : Bool) → IsOpenArray empty x → These (comma_after empty) y → IsValue z → IsOpenArray false ((x ++ y) ++ z)
one_element x y z true e f v = (z, (λ t. (e t ++ f t) ++ z), subst AreElements (ap (λ xs. 44 ∷ xs) (append-nil z)) (Element z [] v NoElement))
one_element x y z false o f v =
    (o.0 ++ 44 ∷ z, (λ t. (o.1 t ++ f t) ++ z) ∙ ap (λ xs. 91 ∷ xs) (append_assoc o.0 (44 ∷ []) z), one_more (44 ∷ o.0) z o.2 v)

pub element_put : {O : Type 0} {has : O → List ℕ → Type 0} {a b c d : O} (empty : Bool) → Adds has (IsOpenArray empty) a b → Adds has (These (comma_after empty)) b c → Adds has IsValue c d → Adds has (IsOpenArray false) a d
element_put {O} {has} {a} {b} {c} {d} empty first comma later = record {
  bytes = (first.bytes ++ comma.bytes) ++ later.bytes;
  put = λ text h. subst (has d) (append_assoc text (first.bytes ++ comma.bytes) later.bytes) (later.put (text ++ (first.bytes ++ comma.bytes)) (subst (has c) (append_assoc text first.bytes comma.bytes) (comma.put (text ++ first.bytes) (first.put text h))));
  formed = one_element first.bytes comma.bytes later.bytes empty first.formed comma.formed later.formed;
}

last_square : (empty : Bool) (x y : List ℕ) → IsOpenArray empty x → These (93 ∷ []) y → IsValue (x ++ y)
last_square true x y e f = subst IsValue (λ t. sym e t ++ sym f t) (Array [] NoElement)
last_square false x y o e = subst IsValue (λ t. sym o.1 t ++ sym e t) (Array (44 ∷ o.0) o.2)

pub array_end : {O : Type 0} {has : O → List ℕ → Type 0} {a b c : O} (empty : Bool) → Adds has (IsOpenArray empty) a b → Adds has (These (93 ∷ [])) b c → Adds has IsValue a c
array_end empty first later = both_put (last_square empty) first later

-- ---- texts

either : (v p a b c d : Bool) → (a ≡ true → c ≡ true) → (b ≡ true → d ≡ true) → ((v && a) || (p && b)) ≡ true → ((v && c) || (p && d)) ≡ true
either true p true b c d f g h = ap (λ z. z || (p && d)) (f refl)
either true true false true true d f g h = refl
either true true false true false d f g h = g refl
either true true false false c d f g h = cc
either true false false b c d f g h = cc
either false true a b c d f g h = g h
either false false a b c d f g h = cc

pub more_text : (escaped : Bool) (x y : List ℕ) → is_text escaped x ≡ true → is_text false y ≡ true → is_text escaped (x ++ y) ≡ true
more_text false [] y h k = k
more_text true [] y h k = cc
more_text false (b ∷ x) y h k =
    either (b == 92) (is_plain b) (is_text true x) (is_text false x) (is_text true (x ++ y)) (is_text false (x ++ y)) (λ t. more_text true x y t k) (λ t. more_text false x y t k) h
more_text true (b ∷ x) y h k =
    let quote : Bool = (b == 34) || (b == 92) in
    (λ t. both_left quote (is_text false x) h t && more_text false x y (both_right quote (is_text false x) h) k t)

pub text_then : {O : Type 0} {has : O → List ℕ → Type 0} {a b c : O} → Adds has IsText a b → Adds has IsText b c → Adds has IsText a c
text_then first later = both_put (λ x y h k. more_text false x y h k) first later

between : (x y z : List ℕ) → These (34 ∷ []) x → IsText y → These (34 ∷ []) z → IsValue ((x ++ y) ++ z)
between x y z e t f = subst IsValue (λ s. (sym e s ++ y) ++ sym f s) (Text y t)

pub text_put : {O : Type 0} {has : O → List ℕ → Type 0} {a b c d : O} → Adds has (These (34 ∷ [])) a b → Adds has IsText b c → Adds has (These (34 ∷ [])) c d → Adds has IsValue a d
text_put {O} {has} {a} {b} {c} {d} first text later = record {
  bytes = (first.bytes ++ text.bytes) ++ later.bytes;
  put = λ w h. subst (has d) (append_assoc w (first.bytes ++ text.bytes) later.bytes) (later.put (w ++ (first.bytes ++ text.bytes)) (subst (has c) (append_assoc w first.bytes text.bytes) (text.put (w ++ first.bytes) (first.put w h))));
  formed = between first.bytes text.bytes later.bytes first.formed text.formed later.formed;
}

-- a byte that needs no escape
pub plain_byte : (b : ℕ) → is_plain b ≡ true → IsText (b ∷ [])
plain_byte b h = grind (arith, h)

pub two_plain : (a b : ℕ) → is_plain a ≡ true → is_plain b ≡ true → IsText (a ∷ b ∷ [])
two_plain a b h k = more_text false (a ∷ []) (b ∷ []) (plain_byte a h) (plain_byte b k)

pub not_clear : (b : Bool) → not b ≡ false → b ≡ true
not_clear true h = refl
not_clear false h = cc
