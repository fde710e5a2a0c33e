-- What comes after the promised members of a row's object.
use Rattle.std.proofs.Common.{◌≡◌, ◌∙◌, ap, sym, subst, refl, ℕ, List, [], ◌∷◌, ◌++◌, Option, None, Some, append_assoc}
use Rattle.line_model.specs.declared.finding.Finding.{Finding}
use Rattle.descriptions.specs.Members.{IsFurther, IsFurtherWith, IsOfCall, IsOfRow, NoMember, call_member, circuit_member}
use Rattle.descriptions.specs.RowObjects.{IsRest}
use Rattle.descriptions.specs.Writing.{Adds, These}
use Rattle.descriptions.proofs.MemberLemmas.{both_put}

-- a form that is another one's
pub same_form : {O : Type 0} {has : O → List ℕ → Type 0} {P Q : List ℕ → Type 0} {a b : O} → ((x : List ℕ) → P x → Q x) → Adds has P a b → Adds has Q a b
same_form f put = record { bytes = put.bytes; put = put.put; formed = f put.bytes put.formed }

-- a call, and members after it
of_call : (call : ℕ) (x y : List ℕ) → These (call_member call) x → IsFurther y → IsOfCall call (x ++ y)
of_call call x y e h = (y, ap (λ xs. xs ++ y) e, h)

pub call_put : {O : Type 0} {has : O → List ℕ → Type 0} {a b c : O} (call : ℕ) → Adds has (These (call_member call)) a b → Adds has IsFurther b c → Adds has (IsOfCall call) a c
call_put call first later = both_put (of_call call) first later

-- a circuit among further members
with_circuit : (circuit : Option ℕ) (x y z : List ℕ) → IsFurther x → These (circuit_member circuit) y → IsFurther z → IsFurtherWith circuit (x ++ (y ++ z))
with_circuit circuit x y z h e k = (x, z, ap (λ ys. x ++ (ys ++ z)) e, h, k)

pub circuit_put : {O : Type 0} {has : O → List ℕ → Type 0} {a b c d : O} (circuit : Option ℕ) → Adds has IsFurther a b → Adds has (These (circuit_member circuit)) b c → Adds has IsFurther c d → Adds has (IsFurtherWith circuit) a d
circuit_put circuit first own later =
    both_put {Q = λ bytes. (y : List ℕ) × (z : List ℕ) × (bytes ≡ y ++ z) × These (circuit_member circuit) y × IsFurther z} (λ x w h k. subst (IsFurtherWith circuit) (ap (λ ws. x ++ ws) (sym k.2)) (with_circuit circuit x k.0 k.1 h k.3 k.4))
    first (both_put (λ y z e k. (y, z, refl, e, k)) own later)

-- the call of a row, and members after it
pub row_put : {O : Type 0} {has : O → List ℕ → Type 0} {a b c : O} (circuit : Option ℕ) (call : ℕ) → Adds has (These (call_member call)) a b → Adds has (IsFurtherWith circuit) b c → Adds has (IsOfRow circuit call) a c
row_put circuit call first later = both_put (λ x y e h. (y, ap (λ xs. xs ++ y) e, h)) first later

-- members without a circuit
pub no_circuit : (call : ℕ) (x : List ℕ) → IsOfCall call x → IsOfRow None call x
no_circuit call x h = (h.0, h.1, ([], h.0, refl, NoMember, h.2))

pub no_finding_put : {O : Type 0} {has : O → List ℕ → Type 0} {a b : O} (found : Option Finding) (circuit : Option ℕ) (call : ℕ) → found ≡ None → Adds has (IsOfRow circuit call) a b → Adds has (IsRest None found circuit call) a b
no_finding_put found circuit call none put = same_form (λ x h. subst (λ f. IsRest None f circuit call x) (sym none) h) put

pub finding_put : {O : Type 0} {has : O → List ℕ → Type 0} {a b c d : O} (found : Option Finding) (circuit : Option ℕ) (call : ℕ) (f : Finding) → found ≡ Some f → Adds has IsFurther a b → Adds has (These (125 ∷ [])) b c → Adds has (IsOfRow circuit call) c d → Adds has (IsRest None found circuit call) a d
finding_put found circuit call f some own bracket further =
    both_put (λ x y h k. subst (λ o. IsRest None o circuit call (x ++ y)) (sym some) (h.0, y, (λ t. h.1 t ++ y) ∙ append_assoc h.0 (125 ∷ []) y, h.2, k))
    (both_put {R = λ xs. (own : List ℕ) × (xs ≡ own ++ 125 ∷ []) × IsFurther own} (λ x y h e. (x, (λ t. x ++ e t), h)) own bracket) further

pub gap_put : {O : Type 0} {has : O → List ℕ → Type 0} {a b : O} (gap : Option (Option ℕ)) (channel : Option ℕ) (found : Option Finding) (circuit : Option ℕ) (call : ℕ) → gap ≡ Some channel → Adds has (IsFurtherWith circuit) a b → Adds has (IsRest gap found circuit call) a b
gap_put gap channel found circuit call some put = same_form (λ x h. subst (λ g. IsRest g found circuit call x) (sym some) h) put

pub packet_put : {O : Type 0} {has : O → List ℕ → Type 0} {a b : O} (gap : Option (Option ℕ)) (found : Option Finding) (circuit : Option ℕ) (call : ℕ) → gap ≡ None → Adds has (IsRest None found circuit call) a b → Adds has (IsRest gap found circuit call) a b
packet_put gap found circuit call none put = same_form (λ x h. subst (λ g. IsRest g found circuit call x) (sym none) h) put
