-- The members of a row of the common case.
use Rattle.std.proofs.Common.{◌≡◌, ◌∙◌, sym, ap, subst, refl, ℕ, Bool, true, false, List, [], ◌∷◌, ◌++◌, append_assoc, append-nil}
use Rattle.std.specs.Prelude.{codes, decimal}
use Rattle.json_lines.specs.Json.{quoted}
use Rattle.descriptions.specs.Members.{Array, False, IsFurther, IsText, IsValue, Member, NoElement, NoMember, Null, Number, Text, True, is_among, member, promised}
use Rattle.descriptions.specs.Writing.{beginning_of}
use Rattle.descriptions.proofs.MemberLemmas.{one_member}

number_then : (name : List ℕ) (n : ℕ) (rest : List ℕ) → is_among promised name ≡ false → IsText name → IsFurther rest → IsFurther (beginning_of name ++ (decimal n ++ rest))
number_then name n rest other text h = subst IsFurther (same name) (Member name (decimal n) rest other text (Number n) h)
  where
    same : (name : List ℕ) → member name (decimal n) ++ rest ≡ beginning_of name ++ (decimal n ++ rest)
    same name = ap (λ xs. 44 ∷ xs) (append_assoc (quoted name) (58 ∷ decimal n) rest ∙ sym (append_assoc (quoted name) (58 ∷ []) (decimal n ++ rest)))

-- up to its digits
quiet_members : (type digits rest : List ℕ) → IsText type → IsText digits → IsFurther rest
    → IsFurther (codes ",\"begins\":false,\"up\":false,\"ends\":[],\"not_counted\":null,\"time\":null,\"type\":" ++ (quoted type ++ (codes ",\"hex\":\"" ++ (digits ++ 34 ∷ rest))))
quiet_members type digits rest is text more =
    let front = codes ",\"begins\":false,\"up\":false,\"ends\":[],\"not_counted\":null,\"time\":null,\"type\":" in
    subst (λ xs. IsFurther (front ++ (quoted type ++ (codes ",\"hex\":\"" ++ xs)))) (append_assoc digits (34 ∷ []) rest)
    (Member (codes "begins") (codes "false") _ refl refl False
    (Member (codes "up") (codes "false") _ refl refl False
    (Member (codes "ends") (codes "[]") _ refl refl (Array [] NoElement)
    (Member (codes "not_counted") (codes "null") _ refl refl Null
    (Member (codes "time") (codes "null") _ refl refl Null
    (Member (codes "type") (quoted type) _ refl refl (Text type is)
    (Member (codes "hex") (quoted digits) rest refl refl (Text digits text) more)))))))

pub data_members : (digits bits octets : List ℕ) (send receive : ℕ) → IsText digits → IsFurther (bits ++ octets)
    → IsFurther (codes ",\"begins\":false,\"up\":false,\"ends\":[],\"not_counted\":null,\"time\":null,\"type\":\"data\",\"hex\":\"" ++ (digits ++ (codes "\",\"send\":" ++ (decimal send ++ (codes ",\"receive\":" ++ (decimal receive ++ (bits ++ octets)))))))
data_members digits bits octets send receive text more =
    quiet_members (codes "data") digits _ refl text
    (number_then (codes "send") send _ refl refl (number_then (codes "receive") receive (bits ++ octets) refl refl more))

pub ready_members : (digits : List ℕ) (receive : ℕ) → IsText digits
    → IsFurther (codes ",\"begins\":false,\"up\":false,\"ends\":[],\"not_counted\":null,\"time\":null,\"type\":\"rr\",\"hex\":\"" ++ (digits ++ (codes "\",\"receive\":" ++ decimal receive)))
ready_members digits receive text =
    quiet_members (codes "rr") digits (codes ",\"receive\":" ++ decimal receive) refl text (number_last (codes "receive") receive refl refl)
  where
    number_last : (name : List ℕ) (n : ℕ) → is_among promised name ≡ false → IsText name → IsFurther (beginning_of name ++ decimal n)
    number_last name n other text = subst (λ xs. IsFurther (beginning_of name ++ xs)) (append-nil (decimal n)) (number_then name n [] other text NoMember)

value_then : (name value : List ℕ) → is_among promised name ≡ false → IsText name → IsValue value → IsFurther (beginning_of name ++ value)
value_then name value other text v = one_member (beginning_of name) value (record { name = name; is = refl; text = text; other = other }) v

pub octets_member : (value : List ℕ) → IsValue value → IsFurther (codes ",\"octets\":" ++ value)
octets_member value v = value_then (codes "octets") value refl refl v

abbrev pub bits : (more delivery : Bool) → List ℕ
bits false false = codes ",\"more\":false,\"qualified\":false,\"delivery\":false,\"octets\":"
bits false true = codes ",\"more\":false,\"qualified\":false,\"delivery\":true,\"octets\":"
bits true false = codes ",\"more\":true,\"qualified\":false,\"delivery\":false,\"octets\":"
bits true true = codes ",\"more\":true,\"qualified\":false,\"delivery\":true,\"octets\":"

-- its bits, and a value after them
pub bits_then : (value : List ℕ) → IsValue value → (more delivery : Bool) → IsFurther (bits more delivery ++ value)
bits_then value v false false = Member (codes "more") (codes "false") _ refl refl False (Member (codes "qualified") (codes "false") _ refl refl False (Member (codes "delivery") (codes "false") _ refl refl False (octets_member value v)))
bits_then value v false true = Member (codes "more") (codes "false") _ refl refl False (Member (codes "qualified") (codes "false") _ refl refl False (Member (codes "delivery") (codes "true") _ refl refl True (octets_member value v)))
bits_then value v true false = Member (codes "more") (codes "true") _ refl refl True (Member (codes "qualified") (codes "false") _ refl refl False (Member (codes "delivery") (codes "false") _ refl refl False (octets_member value v)))
bits_then value v true true = Member (codes "more") (codes "true") _ refl refl True (Member (codes "qualified") (codes "false") _ refl refl False (Member (codes "delivery") (codes "true") _ refl refl True (octets_member value v)))
