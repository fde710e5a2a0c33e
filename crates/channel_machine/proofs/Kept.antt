-- A message by its first 1,025 octets.
use Rattle.std.proofs.Common.{◌≡◌, ◌≤◌, ◌<◌, ℕ, Bool, true, false, refl, arith, sym, ◌∙◌, ap, inl, inr, List, [], ◌∷◌, length, take, Option, Some, None, nat_lt}
use Rattle.std.specs.Prelude.{◌==◌, ◌||◌, ◌&&◌, not, min, map, filter}
use Rattle.std.proofs.lemmas.List.{length-take, take_all}
use Rattle.std.proofs.lemmas.Bool.{cases_lt}
use Rattle.line_model.specs.declared.state.Side.{Side}
use Rattle.line_model.specs.declared.finding.Xcode.{Xcode}
use Rattle.line_model.specs.declared.finding.Xcode.TheVariants.{X1, X2, X3, X4, XL}
use Rattle.line_model.specs.basics.Octets.{bits}
use Rattle.line_model.specs.channels.Channels.{PadMessage, other}
use Rattle.line_model.specs.channels.Pad.{form_fault, events_of_set, asked, is_unknown_message, is_too_long, is_badly_formed, settings_of, settings_after, message_fault, is_indication, is_set, was_asked, is_refusable, standard_pairs, is_parameter}
use Rattle.pad.specs.Codes.{octets_of}
use Rattle.pad.specs.declared.message.MessageCode.{MessageCode}
use Rattle.pad.specs.declared.message.MessageCode.TheVariants.{Indication, Set, SetAndRead}
use Rattle.pad.specs.Effects.{all_indicated}
use Rattle.pad.specs.MessageEvents.{set_events, set_events_by}
use Rattle.std.specs.List.{list_any}
use Rattle.pad.specs.Pairs.{pairs_before}
use Rattle.pad.proofs.Applied.{one_octet}

-- the fault of a message that is too long, by its first octet
long_fault : (x : ℕ) (xs : List ℕ) → nat_lt 1024 (length (x ∷ xs)) ≡ true → (length (x ∷ xs) == 0) ≡ false →
    form_fault (x ∷ xs) ≡ elim (not (bits 8 5 x == 0) || nat_lt 8 (bits 4 1 x)) [ true ↦ Some X1 | false ↦ Some XL ]
long_fault x xs long some =
    ap (λ b. elim (b || not (bits 8 5 x == 0) || nat_lt 8 (bits 4 1 x)) [
      | true ↦ Some X1
      | false ↦ elim (nat_lt 1024 (length (x ∷ xs))) [ true ↦ Some XL | false ↦ elim (is_badly_formed (x ∷ xs)) [ true ↦ Some X2 | false ↦ None ] ]
    ]) some
    ∙ ap (λ b. elim (not (bits 8 5 x == 0) || nat_lt 8 (bits 4 1 x)) [
      | true ↦ Some X1
      | false ↦ elim b [ true ↦ Some XL | false ↦ elim (is_badly_formed (x ∷ xs)) [ true ↦ Some X2 | false ↦ None ] ]
    ]) long

is_long : (n : ℕ) → 1024 < n → nat_lt 1024 n ≡ true
is_long n h = grind (arith, h)

is_some : (n : ℕ) → 1024 < n → (n == 0) ≡ false
is_some n h = grind (arith, h)

-- the octets that are kept have the fault of all
pub kept_fault : (m : List ℕ) → form_fault (take 1025 m) ≡ form_fault m
kept_fault [] = refl
kept_fault (x ∷ xs) = elim (cases_lt 1025 (length (x ∷ xs))) [
  | inl long ↦
      let n : length (x ∷ take 1024 xs) ≡ min 1025 (length (x ∷ xs)) = length-take 1025 (x ∷ xs) in
      let a : 1024 < length (x ∷ take 1024 xs) = omega (arith, n, long) in
      let b : 1024 < length (x ∷ xs) = omega (arith, long) in
      long_fault x (take 1024 xs) (is_long (length (x ∷ take 1024 xs)) a) (is_some (length (x ∷ take 1024 xs)) a)
      ∙ sym (long_fault x xs (is_long (length (x ∷ xs)) b) (is_some (length (x ∷ xs)) b))
  | inr short ↦ ap (λ l. form_fault l) (take_all 1025 (x ∷ xs) short)
]

-- a message without fault is kept whole
pub kept_whole : (m ys : List ℕ) → ys ≡ take 1025 m → length ys ≤ 1024 → ys ≡ m
kept_whole m ys is short =
    let n : length ys ≡ min 1025 (length m) = ap (λ l. length l) is ∙ length-take 1025 m in
    let whole : length m ≤ 1025 = omega (arith, n, short) in
    is ∙ take_all 1025 m whole

-- what the settings of a code are
pub settings_indicated : (x : Side) (c : MessageCode) (ps : List ℕ) → c ≡ Indication → settings_of x (octets_of c ps) ≡ all_indicated x ps
settings_indicated x c ps e = ap (λ d. settings_of x (octets_of d ps)) e

set_by : (b : Bool) (x : Side) (c : MessageCode) (ps : List ℕ) → is_indication (octets_of c ps) ≡ false → b ≡ (length ps == 0) →
    events_of_set b x (octets_of c ps) ≡ set_events (other x) ps
set_by true x c ps f e = ap (λ b. set_events_by b (other x) ps) e
set_by false x c ps f e =
    ap (λ b. map (asked (other x)) (filter (λ q. is_parameter q.reference) (pairs_before b ps))) f ∙ ap (λ b. set_events_by b (other x) ps) e

pub settings_set : (x : Side) (c : MessageCode) (ps : List ℕ) → c ≡ Set → settings_of x (octets_of c ps) ≡ set_events (other x) ps
settings_set x c ps e = ap (λ d. settings_of x (octets_of d ps)) e ∙ set_by (length (2 ∷ ps) == 1) x Set ps refl (one_octet 2 ps)

pub settings_set_and_read : (x : Side) (c : MessageCode) (ps : List ℕ) → c ≡ SetAndRead → settings_of x (octets_of c ps) ≡ set_events (other x) ps
settings_set_and_read x c ps e = ap (λ d. settings_of x (octets_of d ps)) e ∙ set_by (length (6 ∷ ps) == 1) x SetAndRead ps refl (one_octet 6 ps)

-- a message with a fault of its own
pub own_message_fault : (x : Side) (ts : List PadMessage) (m : List ℕ) (f : Xcode) → form_fault m ≡ Some f → message_fault x ts m ≡ Some f
own_message_fault x ts m f e =
    ap (λ o. elim o [
      | Some g ↦ Some g
      | None ↦ elim (is_indication m && not (was_asked x ts)) [
        | true ↦ Some X4
        | false ↦ elim (is_set m && list_any is_refusable (standard_pairs m)) [ true ↦ Some X3 | false ↦ None ]
      ]
    ]) e

-- such a fault changes no setting
no_settings : (a b c : Bool) (f : Xcode) (x : Side) (m : List ℕ) →
    elim a [ true ↦ Some X1 | false ↦ elim b [ true ↦ Some XL | false ↦ elim c [ true ↦ Some X2 | false ↦ None ] ] ] ≡ Some f →
    settings_after (Some f) x m ≡ []
no_settings true b c f x m e = ap (λ o. settings_after o x m) (sym e)
no_settings false true c f x m e = ap (λ o. settings_after o x m) (sym e)
no_settings false false true f x m e = ap (λ o. settings_after o x m) (sym e)
no_settings false false false f x m e = cc

pub faulted_settings : (x : Side) (ts : List PadMessage) (m : List ℕ) (f : Xcode) → form_fault m ≡ Some f → settings_after (message_fault x ts m) x m ≡ []
faulted_settings x ts m f e =
    ap (λ o. settings_after o x m) (own_message_fault x ts m f e) ∙ no_settings (is_unknown_message m) (is_too_long m) (is_badly_formed m) f x m e

-- a message without fault is not long
not_long : (a b c : Bool) → ◌≡◌ {A = Option Xcode} (elim a [ true ↦ Some X1 | false ↦ elim b [ true ↦ Some XL | false ↦ elim c [ true ↦ Some X2 | false ↦ None ] ] ]) None → b ≡ false
not_long true b c e = cc
not_long false true c e = cc
not_long false false c e = refl

at_most : (n : ℕ) → nat_lt 1024 n ≡ false → n ≤ 1024
at_most n h = grind (arith, h)

pub unfaulted_short : (m : List ℕ) → form_fault m ≡ None → length m ≤ 1024
unfaulted_short m e = at_most (length m) (not_long (is_unknown_message m) (is_too_long m) (is_badly_formed m) e)
