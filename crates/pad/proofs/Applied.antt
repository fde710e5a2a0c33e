-- What one message more does.
use Rattle.std.proofs.Common.{◌≡◌, ◌+◌, ℕ, Bool, true, false, cond, refl, arith, sym, ◌∙◌, ap, subst, inl, inr, ◌⊎◌, List, [], ◌∷◌, ◌++◌, length, Option, Some, None, append_assoc, append-nil}
use Rattle.std.specs.Prelude.{◌==◌, ◌&&◌, ◌||◌, not, map, filter, is_none}
use Rattle.std.specs.List.{list_any}
use Rattle.std.proofs.lemmas.List.{reverse-append, reverse-reverse}
use Rattle.line_model.specs.declared.state.Side.{Side}
use Rattle.line_model.specs.declared.state.Side.TheVariants.{T, N}
use Rattle.line_model.specs.declared.finding.Xcode.{Xcode}
use Rattle.line_model.specs.declared.finding.Xcode.TheVariants.{X1, X2, X3, X4, XL}
use Rattle.line_model.specs.declared.event.What.{What}
use Rattle.line_model.specs.declared.event.What.TheVariants.{Setting, Initial}
use Rattle.line_model.specs.declared.event.Entry.{Entry}
use Rattle.line_model.specs.declared.event.Entry.TheVariants.{Unknown, Asked, Said, Refused}
use Rattle.line_model.specs.channels.Channels.{PadMessage, other}
use Rattle.line_model.specs.channels.FlowControl.{is_side}
use Rattle.line_model.specs.basics.Octets.{bits}
use Rattle.line_model.specs.channels.Pad.{Pair, form_fault, was_asked, is_request, is_indication, is_set, message_fault, settings_after, settings_of, events_of_set, indicated, indicated_by, asked, is_refusable, is_parameter, standard_pairs}
use Rattle.pad.specs.Pairs.{pairs_before}
use Rattle.pad.specs.Effects.{said, entry_at, events_of, events_back, all_indicated, own_fault}
use Rattle.pad.specs.MessageEvents.{set_fault, set_events, set_events_by}
use Rattle.pad.specs.Represents.{Represents, HasEntries}
use Rattle.pad.specs.declared.settings.Settings.{Settings}
use Rattle.pad.specs.declared.message.MessageCode.{MessageCode}
use Rattle.pad.specs.declared.message.MessageCode.TheVariants.{Indication, InvitationToClear, Set, Break, Read, Error, SetAndRead, Reselection, ReselectionWithAddress}
use Rattle.pad.specs.Codes.{octets_of}
use Rattle.pad.specs.Concerns.{concern_of}
use Rattle.pad.specs.declared.concern.Concern.{Concern}
use Rattle.pad.specs.declared.concern.Concern.TheVariants.{Indicates, Sets, Reads, Nothing}

-- the sides
pub side_is : (p x : Side) → is_side p x ≡ true → x ≡ p
side_is T T h = refl
side_is N N h = refl
side_is T N h = cc
side_is N T h = cc

-- the events of one message more
pub events_more : (ts : List PadMessage) (t : PadMessage) →
    events_of (ts ++ t ∷ []) ≡ events_of ts ++ settings_after (message_fault t.from ts t.message) t.from t.message
events_more ts t =
    ap (λ l. events_back l) (reverse-append ts (t ∷ []))
    ∙ ap (λ l. events_of ts ++ settings_after (message_fault t.from l t.message) t.from t.message) (reverse-reverse ts)

-- whether a message asks a PAD anything
abbrev asks : Side → PadMessage → Bool
asks pad t = is_side (other pad) t.from && is_request t.message && is_none (form_fault t.message)

asked_more : (pad : Side) (ts : List PadMessage) (t : PadMessage) → was_asked pad (ts ++ t ∷ []) ≡ (was_asked pad ts || asks pad t)
asked_more pad [] t = last (asks pad t)
  where
    last : (b : Bool) → (b || false) ≡ b
    last true = refl
    last false = refl
asked_more pad (u ∷ ts) t = ap (λ b. asks pad u || b) (asked_more pad ts t) ∙ grouped (asks pad u) (was_asked pad ts) (asks pad t)
  where
    grouped : (a b c : Bool) → (a || (b || c)) ≡ ((a || b) || c)
    grouped true b c = refl
    grouped false b c = refl

-- settings with one message more
pub represents_more : (s new : Settings) (ts : List PadMessage) (t : PadMessage) → Represents s ts → new.pad ≡ s.pad → new.asked ≡ (s.asked || asks s.pad t) →
    ((ws : List What) → HasEntries s ws → HasEntries new (ws ++ settings_after (message_fault t.from ts t.message) t.from t.message)) →
    Represents new (ts ++ t ∷ [])
represents_more s new ts t represented pad_is asked_is has_entries = record {
  asked = asked_is ∙ ap (λ b. b || asks s.pad t) represented.asked ∙ sym (asked_more s.pad ts t) ∙ ap (λ p. was_asked p (ts ++ t ∷ [])) (sym pad_is);
  entries = λ k below. has_entries (events_of ts) represented.entries k below ∙ ap (λ l. entry_at new.pad (k + 1) l) (sym (events_more ts t));
}

-- contents that speak of one PAD alone
abbrev AllOn : Side → List What → Type 0
AllOn p [] = Unit {0}
AllOn p (w ∷ ws) = ((q : Side) (n : ℕ) → is_side p q ≡ false → said q n w ≡ None) × AllOn p ws

on_setting : (p : Side) (m : ℕ) (e : Entry) (q : Side) (n : ℕ) → is_side p q ≡ false → said q n (Setting p m e) ≡ None
on_setting p m e q n h = ap (λ b. cond (b && m == n) (Some e) None) h

on_initial : (p q : Side) (n : ℕ) → is_side p q ≡ false → said q n (Initial p) ≡ None
on_initial p q n h = ap (λ b. cond b (Some Unknown) None) h

indicated_on : (p : Side) (ps : List Pair) → AllOn p (map (indicated p) (filter (λ q. is_parameter (bits 7 1 q.reference)) ps))
indicated_on p [] = tt
indicated_on p (r ∷ ps) = by (is_parameter (bits 7 1 r.reference)) (indicated_on p ps)
  where
    one : (b : Bool) (q : Side) (n : ℕ) → is_side p q ≡ false → said q n (indicated_by b p r) ≡ None
    one true q n h = on_setting p (bits 7 1 r.reference) (Refused r.value) q n h
    one false q n h = on_setting p r.reference (Said r.value) q n h

    by : (b : Bool) → AllOn p (map (indicated p) (filter (λ q. is_parameter (bits 7 1 q.reference)) ps)) → AllOn p (map (indicated p) (cond b (r ∷ filter (λ q. is_parameter (bits 7 1 q.reference)) ps) (filter (λ q. is_parameter (bits 7 1 q.reference)) ps)))
    by true rest = (one (bits 8 8 r.reference == 1), rest)
    by false rest = rest

set_on : (p : Side) (ps : List Pair) → AllOn p (map (asked p) (filter (λ q. is_parameter q.reference) ps))
set_on p [] = tt
set_on p (r ∷ ps) = by (is_parameter r.reference) (set_on p ps)
  where
    by : (b : Bool) → AllOn p (map (asked p) (filter (λ q. is_parameter q.reference) ps)) →
        AllOn p (map (asked p) (cond b (r ∷ filter (λ q. is_parameter q.reference) ps) (filter (λ q. is_parameter q.reference) ps)))
    by true rest = (on_setting p r.reference (Asked r.value), rest)
    by false rest = rest

-- contents of another PAD leave the entries
entry_unsaid : (pad : Side) (n : ℕ) (ws : List What) (w : What) → said pad n w ≡ None → entry_at pad n (ws ++ w ∷ []) ≡ entry_at pad n ws
entry_unsaid pad n ws w h = grind (arith, reverse-append, h)

entry_apart : (p q : Side) (n : ℕ) (ws vs : List What) → is_side p q ≡ false → AllOn p vs → entry_at q n (ws ++ vs) ≡ entry_at q n ws
entry_apart p q n ws [] apart on = ap (λ l. entry_at q n l) (append-nil ws)
entry_apart p q n ws (w ∷ vs) apart on =
    ap (λ l. entry_at q n l) (sym (append_assoc ws (w ∷ []) vs)) ∙ entry_apart p q n (ws ++ w ∷ []) vs apart on.1
    ∙ entry_unsaid q n ws w (on.0 q n apart)

entries_apart : (s : Settings) (p : Side) (ws vs : List What) → is_side p s.pad ≡ false → AllOn p vs → HasEntries s ws → HasEntries s (ws ++ vs)
entries_apart s p ws vs apart on has_entries = λ k below. has_entries k below ∙ sym (entry_apart p s.pad (k + 1) ws vs apart on)

-- what settings there are after a fault
after_on : (f : Option Xcode) (p x : Side) (m : List ℕ) → AllOn p (settings_of x m) → AllOn p (settings_after f x m)
after_on None p x m on = on
after_on (Some X1) p x m on = tt
after_on (Some X2) p x m on = tt
after_on (Some X3) p x m on = on
after_on (Some X4) p x m on = tt
after_on (Some XL) p x m on = tt

sets_on : (b : Bool) (x : Side) (m : List ℕ) → AllOn (other x) (events_of_set b x m)
sets_on true x m = (on_initial (other x), tt)
sets_on false x m = set_on (other x) (standard_pairs m)

apart_other : (p : Side) → is_side (other p) p ≡ false
apart_other T = refl
apart_other N = refl

apart_swap : (p x : Side) → is_side p x ≡ false → is_side x p ≡ false
apart_swap T T h = cc
apart_swap N N h = cc
apart_swap T N h = refl
apart_swap N T h = refl

other_swap : (p x : Side) → is_side p x ≡ true → (is_side (other x) p ≡ false) × (is_side (other p) x ≡ false)
other_swap T T h = (refl, refl)
other_swap N N h = (refl, refl)
other_swap T N h = cc
other_swap N T h = cc

not_asked : (a c : Bool) → (a && false && c) ≡ false
not_asked true c = refl
not_asked false c = refl

or_false : (b c : Bool) → c ≡ false → b ≡ (b || c)
or_false true c h = refl
or_false false c h = sym h

-- a message that is nothing to a PAD
abbrev IsKept : Settings → List PadMessage → Side → MessageCode → List ℕ → Type 0
IsKept s ts x c ps = Represents s (ts ++ record { from = x; message = octets_of c ps } ∷ [])

unasking : (s : Settings) (ts : List PadMessage) (x : Side) (c : MessageCode) (ps : List ℕ) (p : Side) → Represents s ts → is_request (octets_of c ps) ≡ false →
    is_side p s.pad ≡ false → AllOn p (settings_of x (octets_of c ps)) → IsKept s ts x c ps
unasking s ts x c ps p represented none apart on =
    let t : PadMessage = record { from = x; message = octets_of c ps } in
    represents_more s s ts t represented refl
    (or_false s.asked (asks s.pad t) (ap (λ b. is_side (other s.pad) x && b && is_none (form_fault (octets_of c ps))) none ∙ not_asked (is_side (other s.pad) x) (is_none (form_fault (octets_of c ps)))))
    (λ ws. entries_apart s p ws (settings_after (message_fault x ts (octets_of c ps)) x (octets_of c ps)) apart (after_on (message_fault x ts (octets_of c ps)) p x (octets_of c ps) on))

own_request : (s : Settings) (ts : List PadMessage) (x : Side) (c : MessageCode) (ps : List ℕ) → Represents s ts → is_side s.pad x ≡ true →
    AllOn (other x) (settings_of x (octets_of c ps)) → IsKept s ts x c ps
own_request s ts x c ps represented own on =
    let t : PadMessage = record { from = x; message = octets_of c ps } in
    represents_more s s ts t represented refl
    (or_false s.asked (asks s.pad t) (ap (λ b. b && is_request (octets_of c ps) && is_none (form_fault (octets_of c ps))) (other_swap s.pad x own).1))
    (λ ws. entries_apart s (other x) ws (settings_after (message_fault x ts (octets_of c ps)) x (octets_of c ps)) (other_swap s.pad x own).0 (after_on (message_fault x ts (octets_of c ps)) (other x) x (octets_of c ps) on))

pub nothing : (s : Settings) (ts : List PadMessage) (x : Side) (c : MessageCode) (ps : List ℕ) → Represents s ts → concern_of (is_side s.pad x) c ≡ Nothing →
    IsKept s ts x c ps
nothing s ts x c ps represented h = by (is_side s.pad x) refl c h
  where
    by : (b : Bool) → is_side s.pad x ≡ b → (c : MessageCode) → concern_of b c ≡ Nothing → IsKept s ts x c ps
    by true e Indication h = cc
    by true e Set h = own_request s ts x Set ps represented e (sets_on (length (2 ∷ ps) == 1) x (2 ∷ ps))
    by true e SetAndRead h = own_request s ts x SetAndRead ps represented e (sets_on (length (6 ∷ ps) == 1) x (6 ∷ ps))
    by true e Read h = own_request s ts x Read ps represented e tt
    by false e Indication h = unasking s ts x Indication ps x represented refl (apart_swap s.pad x e) (indicated_on x (pairs_before true ps))
    by false e Set h = cc
    by false e SetAndRead h = cc
    by false e Read h = cc
    by b e InvitationToClear h = unasking s ts x InvitationToClear ps (other s.pad) represented refl (apart_other s.pad) tt
    by b e Break h = unasking s ts x Break ps (other s.pad) represented refl (apart_other s.pad) tt
    by b e Error h = unasking s ts x Error ps (other s.pad) represented refl (apart_other s.pad) tt
    by b e Reselection h = unasking s ts x Reselection ps (other s.pad) represented refl (apart_other s.pad) tt
    by b e ReselectionWithAddress h = unasking s ts x ReselectionWithAddress ps (other s.pad) represented refl (apart_other s.pad) tt

-- the fault of a well formed indication, and of a set
indication_fault : (x : Side) (ts : List PadMessage) (ps : List ℕ) (a : Bool) → form_fault (0 ∷ ps) ≡ None → was_asked x ts ≡ a →
    message_fault x ts (0 ∷ ps) ≡ cond a None (Some X4)
indication_fault x ts ps a wf asked =
    ap (λ o. elim o [ Some f ↦ Some f | None ↦ elim (not (was_asked x ts)) [ true ↦ Some X4 | false ↦ None ] ]) wf
    ∙ ap (λ b. elim (not b) [ true ↦ Some X4 | false ↦ None ]) asked ∙ by a
  where
    by : (a : Bool) → elim (not a) [ true ↦ Some X4 | false ↦ None ] ≡ cond a None (Some X4)
    by true = refl
    by false = refl

set_message_fault : (x : Side) (ts : List PadMessage) (c : MessageCode) (ps : List ℕ) → is_set (octets_of c ps) ≡ true → is_indication (octets_of c ps) ≡ false →
    form_fault (octets_of c ps) ≡ None → message_fault x ts (octets_of c ps) ≡ set_fault ps
set_message_fault x ts c ps set not_indication wf =
    let m : List ℕ = octets_of c ps in
    ap (λ o. elim o [
      | Some f ↦ Some f
      | None ↦ elim (is_indication m && not (was_asked x ts)) [
        | true ↦ Some X4
        | false ↦ elim (is_set m && list_any is_refusable (standard_pairs m)) [ true ↦ Some X3 | false ↦ None ]
      ]
    ]) wf
    ∙ ap (λ b. elim (b && not (was_asked x ts)) [
      | true ↦ Some X4
      | false ↦ elim (is_set m && list_any is_refusable (standard_pairs m)) [ true ↦ Some X3 | false ↦ None ]
    ]) not_indication
    ∙ ap (λ b. elim (b && list_any is_refusable (standard_pairs m)) [ true ↦ Some X3 | false ↦ None ]) set
    ∙ ap (λ b. elim (list_any is_refusable (pairs_before b ps)) [ true ↦ Some X3 | false ↦ None ]) not_indication

after_set_fault : (b : Bool) (x : Side) (m : List ℕ) → settings_after (elim b [ true ↦ Some X3 | false ↦ None ]) x m ≡ settings_of x m
after_set_fault true x m = refl
after_set_fault false x m = refl

pub one_octet : (c : ℕ) (ps : List ℕ) → (length (c ∷ ps) == 1) ≡ (length ps == 0)
one_octet c [] = refl
one_octet c (p ∷ ps) = grind arith

after_none : (f : Option Xcode) (x : Side) (m : List ℕ) → settings_of x m ≡ [] → settings_after f x m ≡ []
after_none None x m e = e
after_none (Some X1) x m e = refl
after_none (Some X2) x m e = refl
after_none (Some X3) x m e = e
after_none (Some X4) x m e = refl
after_none (Some XL) x m e = refl

other_is : (p x : Side) → is_side p x ≡ false → (other x ≡ p) × (is_side (other p) x ≡ true)
other_is T T h = cc
other_is N N h = cc
other_is T N h = (refl, refl)
other_is N T h = (refl, refl)

-- contents at the end, changed to equal ones
along : (s new : Settings) (us vs : List What) → us ≡ vs → ((ws : List What) → HasEntries s ws → HasEntries new (ws ++ us)) →
    (ws : List What) → HasEntries s ws → HasEntries new (ws ++ vs)
along s new us vs e has_entries = λ ws h k below. has_entries ws h k below ∙ ap (λ l. entry_at new.pad (k + 1) (ws ++ l)) e

-- which messages they are
indicates_is : (b : Bool) (c : MessageCode) → concern_of b c ≡ Indicates → (b ≡ true) × (c ≡ Indication)
indicates_is true Indication h = (refl, refl)
indicates_is true InvitationToClear h = cc
indicates_is true Set h = cc
indicates_is true Break h = cc
indicates_is true Read h = cc
indicates_is true Error h = cc
indicates_is true SetAndRead h = cc
indicates_is true Reselection h = cc
indicates_is true ReselectionWithAddress h = cc
indicates_is false Indication h = cc
indicates_is false InvitationToClear h = cc
indicates_is false Set h = cc
indicates_is false Break h = cc
indicates_is false Read h = cc
indicates_is false Error h = cc
indicates_is false SetAndRead h = cc
indicates_is false Reselection h = cc
indicates_is false ReselectionWithAddress h = cc

sets_is : (b : Bool) (c : MessageCode) → concern_of b c ≡ Sets → (b ≡ false) × ((c ≡ Set) ⊎ (c ≡ SetAndRead))
sets_is true Indication h = cc
sets_is true InvitationToClear h = cc
sets_is true Set h = cc
sets_is true Break h = cc
sets_is true Read h = cc
sets_is true Error h = cc
sets_is true SetAndRead h = cc
sets_is true Reselection h = cc
sets_is true ReselectionWithAddress h = cc
sets_is false Indication h = cc
sets_is false InvitationToClear h = cc
sets_is false Set h = (refl, inl refl)
sets_is false Break h = cc
sets_is false Read h = cc
sets_is false Error h = cc
sets_is false SetAndRead h = (refl, inr refl)
sets_is false Reselection h = cc
sets_is false ReselectionWithAddress h = cc

reads_is : (b : Bool) (c : MessageCode) → concern_of b c ≡ Reads → (b ≡ false) × (c ≡ Read)
reads_is true Indication h = cc
reads_is true InvitationToClear h = cc
reads_is true Set h = cc
reads_is true Break h = cc
reads_is true Read h = cc
reads_is true Error h = cc
reads_is true SetAndRead h = cc
reads_is true Reselection h = cc
reads_is true ReselectionWithAddress h = cc
reads_is false Indication h = cc
reads_is false InvitationToClear h = cc
reads_is false Set h = cc
reads_is false Break h = cc
reads_is false Read h = (refl, refl)
reads_is false Error h = cc
reads_is false SetAndRead h = cc
reads_is false Reselection h = cc
reads_is false ReselectionWithAddress h = cc

-- a message of the PAD itself
pub indicating : (s new : Settings) (ts : List PadMessage) (x : Side) (c : MessageCode) (ps : List ℕ) → Represents s ts → form_fault (octets_of c ps) ≡ None →
    concern_of (is_side s.pad x) c ≡ Indicates → s.asked ≡ true → new.pad ≡ s.pad → new.asked ≡ s.asked →
    ((ws : List What) → HasEntries s ws → HasEntries new (ws ++ all_indicated s.pad ps)) → Represents new (ts ++ record { from = x; message = octets_of c ps } ∷ [])
indicating s new ts x c ps represented wf h asked pad_is asked_is has_entries =
    let k = indicates_is (is_side s.pad x) c h in
    subst (λ d. form_fault (octets_of d ps) ≡ None → Represents new (ts ++ record { from = x; message = octets_of d ps } ∷ [])) (sym k.1) (at k.0) wf
  where
    at : is_side s.pad x ≡ true → form_fault (0 ∷ ps) ≡ None → Represents new (ts ++ record { from = x; message = 0 ∷ ps } ∷ [])
    at e wf =
        let x_is : x ≡ s.pad = side_is s.pad x e in
        let fault : message_fault x ts (0 ∷ ps) ≡ None =
        indication_fault x ts ps true wf (ap (λ y. was_asked y ts) x_is ∙ sym represented.asked ∙ asked) in
        represents_more s new ts (record { from = x; message = 0 ∷ ps }) represented pad_is
        (asked_is ∙ or_false s.asked (is_side (other s.pad) x && false && is_none (form_fault (0 ∷ ps))) (not_asked (is_side (other s.pad) x) (is_none (form_fault (0 ∷ ps)))))
        (along s new (all_indicated s.pad ps) (settings_after (message_fault x ts (0 ∷ ps)) x (0 ∷ ps))
        (ap (λ p. all_indicated p ps) (sym x_is) ∙ ap (λ f. settings_after f x (0 ∷ ps)) (sym fault)) has_entries)

pub unasked : (s : Settings) (ts : List PadMessage) (x : Side) (c : MessageCode) (ps : List ℕ) → Represents s ts → form_fault (octets_of c ps) ≡ None →
    concern_of (is_side s.pad x) c ≡ Indicates → s.asked ≡ false → IsKept s ts x c ps
unasked s ts x c ps represented wf h asked =
    let k = indicates_is (is_side s.pad x) c h in
    subst (λ d. form_fault (octets_of d ps) ≡ None → IsKept s ts x d ps) (sym k.1) (at k.0) wf
  where
    at : is_side s.pad x ≡ true → form_fault (0 ∷ ps) ≡ None → IsKept s ts x Indication ps
    at e wf =
        let x_is : x ≡ s.pad = side_is s.pad x e in
        let fault : message_fault x ts (0 ∷ ps) ≡ Some X4 =
        indication_fault x ts ps false wf (ap (λ y. was_asked y ts) x_is ∙ sym represented.asked ∙ asked) in
        represents_more s s ts (record { from = x; message = 0 ∷ ps }) represented refl
        (or_false s.asked (is_side (other s.pad) x && false && is_none (form_fault (0 ∷ ps))) (not_asked (is_side (other s.pad) x) (is_none (form_fault (0 ∷ ps)))))
        (along s s [] (settings_after (message_fault x ts (0 ∷ ps)) x (0 ∷ ps)) (ap (λ f. settings_after f x (0 ∷ ps)) (sym fault))
        (λ ws h k below. h k below ∙ ap (λ l. entry_at s.pad (k + 1) l) (sym (append-nil ws))))

-- a message whose fault the settings of a PAD do not decide
abbrev pub is_free : Concern → Bool
is_free Indicates = false
is_free Sets = false
is_free Reads = true
is_free Nothing = true

side_swap : (p x : Side) → is_side (other p) x ≡ not (is_side p x)
side_swap T T = refl
side_swap T N = refl
side_swap N T = refl
side_swap N N = refl

no_concern : (own : Bool) (c : MessageCode) (ps : List ℕ) → is_free (concern_of own c) ≡ true →
    ((own && is_indication (octets_of c ps)) || (not own && is_set (octets_of c ps))) ≡ false
no_concern true Indication ps h = cc
no_concern true InvitationToClear ps h = refl
no_concern true Set ps h = refl
no_concern true Break ps h = refl
no_concern true Read ps h = refl
no_concern true Error ps h = refl
no_concern true SetAndRead ps h = refl
no_concern true Reselection ps h = refl
no_concern true ReselectionWithAddress ps h = refl
no_concern false Indication ps h = refl
no_concern false InvitationToClear ps h = refl
no_concern false Set ps h = cc
no_concern false Break ps h = refl
no_concern false Read ps h = refl
no_concern false Error ps h = refl
no_concern false SetAndRead ps h = cc
no_concern false Reselection ps h = refl
no_concern false ReselectionWithAddress ps h = refl

pub free_fault : (s : Settings) (ts : List PadMessage) (x : Side) (c : MessageCode) (ps : List ℕ) → is_free (concern_of (is_side s.pad x) c) ≡ true →
    None ≡ own_fault s.pad ts (record { from = x; message = octets_of c ps })
free_fault s ts x c ps h =
    let m : List ℕ = octets_of c ps in
    sym (ap (λ b. elim ((is_side s.pad x && is_indication m) || (b && is_set m)) [ true ↦ message_fault x ts m | false ↦ None ]) (side_swap s.pad x)
    ∙ ap (λ b. elim b [ true ↦ message_fault x ts m | false ↦ None ]) (no_concern (is_side s.pad x) c ps h))

-- the fault of an indication of the PAD
pub indicating_fault : (s : Settings) (ts : List PadMessage) (x : Side) (c : MessageCode) (ps : List ℕ) (asked : Bool) → Represents s ts → form_fault (octets_of c ps) ≡ None →
    concern_of (is_side s.pad x) c ≡ Indicates → s.asked ≡ asked → cond asked None (Some X4) ≡ own_fault s.pad ts (record { from = x; message = octets_of c ps })
indicating_fault s ts x c ps asked represented wf h is_asked =
    let k = indicates_is (is_side s.pad x) c h in
    subst (λ d. form_fault (octets_of d ps) ≡ None → cond asked None (Some X4) ≡ own_fault s.pad ts (record { from = x; message = octets_of d ps })) (sym k.1) (at k.0) wf
  where
    at : is_side s.pad x ≡ true → form_fault (0 ∷ ps) ≡ None → cond asked None (Some X4) ≡ own_fault s.pad ts (record { from = x; message = 0 ∷ ps })
    at e wf =
        sym (ap (λ b. elim ((b && true) || (is_side (other s.pad) x && false)) [ true ↦ message_fault x ts (0 ∷ ps) | false ↦ None ]) e
        ∙ indication_fault x ts ps asked wf (ap (λ y. was_asked y ts) (side_is s.pad x e) ∙ sym represented.asked ∙ is_asked))

-- a set for the PAD
set_for : (s new : Settings) (ts : List PadMessage) (x : Side) (c : MessageCode) (ps : List ℕ) → Represents s ts → form_fault (octets_of c ps) ≡ None →
    is_side s.pad x ≡ false → is_set (octets_of c ps) ≡ true → is_indication (octets_of c ps) ≡ false → is_request (octets_of c ps) ≡ true →
    settings_of x (octets_of c ps) ≡ set_events (other x) ps → new.pad ≡ s.pad → new.asked ≡ true →
    ((ws : List What) → HasEntries s ws → HasEntries new (ws ++ set_events s.pad ps)) → Represents new (ts ++ record { from = x; message = octets_of c ps } ∷ [])
set_for s new ts x c ps represented wf apart set not_indication request events pad_is asked_is has_entries =
    let m : List ℕ = octets_of c ps in
    let asking : asks s.pad (record { from = x; message = m }) ≡ true =
    ap (λ b. b && is_request m && is_none (form_fault m)) (other_is s.pad x apart).1 ∙ ap (λ b. b && is_none (form_fault m)) request ∙ ap (λ o. is_none o) wf in
    represents_more s new ts (record { from = x; message = m }) represented pad_is
    (asked_is ∙ sym (ap (λ b. s.asked || b) asking ∙ or_true s.asked))
    (along s new (set_events s.pad ps) (settings_after (message_fault x ts m) x m)
    (ap (λ p. set_events p ps) (sym (other_is s.pad x apart).0) ∙ sym events ∙ sym (after_set_fault (list_any is_refusable (pairs_before false ps)) x m)
    ∙ ap (λ f. settings_after f x m) (sym (set_message_fault x ts c ps set not_indication wf))) has_entries)
  where
    or_true : (b : Bool) → (b || true) ≡ true
    or_true true = refl
    or_true false = refl

pub setting : (s new : Settings) (ts : List PadMessage) (x : Side) (c : MessageCode) (ps : List ℕ) → Represents s ts → form_fault (octets_of c ps) ≡ None →
    concern_of (is_side s.pad x) c ≡ Sets → new.pad ≡ s.pad → new.asked ≡ true →
    ((ws : List What) → HasEntries s ws → HasEntries new (ws ++ set_events s.pad ps)) → Represents new (ts ++ record { from = x; message = octets_of c ps } ∷ [])
setting s new ts x c ps represented wf h pad_is asked_is has_entries =
    let k = sets_is (is_side s.pad x) c h in
    let P : MessageCode → Type 0 = λ d. form_fault (octets_of d ps) ≡ None → Represents new (ts ++ record { from = x; message = octets_of d ps } ∷ []) in
    elim k.1 [
      | inl e ↦ subst P (sym e) (λ w. set_for s new ts x Set ps represented w k.0 refl refl refl (events Set refl (length (2 ∷ ps) == 1) (one_octet 2 ps)) pad_is asked_is has_entries) wf
      | inr e ↦ subst P (sym e) (λ w. set_for s new ts x SetAndRead ps represented w k.0 refl refl refl (events SetAndRead refl (length (6 ∷ ps) == 1) (one_octet 6 ps)) pad_is asked_is has_entries) wf
    ]
  where
    events : (c : MessageCode) → is_indication (octets_of c ps) ≡ false → (b : Bool) → b ≡ (length ps == 0) →
        events_of_set b x (octets_of c ps) ≡ set_events (other x) ps
    events c f true e = ap (λ b. set_events_by b (other x) ps) e
    events c f false e =
        ap (λ b. map (asked (other x)) (filter (λ q. is_parameter q.reference) (pairs_before b ps))) f
        ∙ ap (λ b. set_events_by b (other x) ps) e

pub set_faulted : (s : Settings) (ts : List PadMessage) (x : Side) (c : MessageCode) (ps : List ℕ) → form_fault (octets_of c ps) ≡ None →
    concern_of (is_side s.pad x) c ≡ Sets → set_fault ps ≡ own_fault s.pad ts (record { from = x; message = octets_of c ps })
set_faulted s ts x c ps wf h =
    let k = sets_is (is_side s.pad x) c h in
    let P : MessageCode → Type 0 = λ d. form_fault (octets_of d ps) ≡ None → set_fault ps ≡ own_fault s.pad ts (record { from = x; message = octets_of d ps }) in
    elim k.1 [ inl e ↦ subst P (sym e) (for Set k.0 refl refl) wf | inr e ↦ subst P (sym e) (for SetAndRead k.0 refl refl) wf ]
  where
    for : (c : MessageCode) → is_side s.pad x ≡ false → is_set (octets_of c ps) ≡ true → is_indication (octets_of c ps) ≡ false → form_fault (octets_of c ps) ≡ None →
        set_fault ps ≡ own_fault s.pad ts (record { from = x; message = octets_of c ps })
    for c e set not_indication wf =
        let m : List ℕ = octets_of c ps in
        sym (ap (λ b. elim ((b && is_indication m) || (is_side (other s.pad) x && is_set m)) [ true ↦ message_fault x ts m | false ↦ None ]) e
        ∙ ap (λ b. elim (b && is_set m) [ true ↦ message_fault x ts m | false ↦ None ]) (other_is s.pad x e).1
        ∙ ap (λ b. elim b [ true ↦ message_fault x ts m | false ↦ None ]) set
        ∙ set_message_fault x ts c ps set not_indication wf)

-- a read for the PAD
pub reading : (s new : Settings) (ts : List PadMessage) (x : Side) (c : MessageCode) (ps : List ℕ) → Represents s ts → form_fault (octets_of c ps) ≡ None →
    concern_of (is_side s.pad x) c ≡ Reads → new.pad ≡ s.pad → new.asked ≡ true → ((ws : List What) → HasEntries s ws → HasEntries new ws) →
    Represents new (ts ++ record { from = x; message = octets_of c ps } ∷ [])
reading s new ts x c ps represented wf h pad_is asked_is has_entries =
    let k = reads_is (is_side s.pad x) c h in
    subst (λ d. form_fault (octets_of d ps) ≡ None → Represents new (ts ++ record { from = x; message = octets_of d ps } ∷ [])) (sym k.1) (at k.0) wf
  where
    or_true : (b : Bool) → (b || true) ≡ true
    or_true true = refl
    or_true false = refl

    at : is_side s.pad x ≡ false → form_fault (4 ∷ ps) ≡ None → Represents new (ts ++ record { from = x; message = 4 ∷ ps } ∷ [])
    at e wf =
        let asking : asks s.pad (record { from = x; message = 4 ∷ ps }) ≡ true =
        ap (λ b. b && true && is_none (form_fault (4 ∷ ps))) (other_is s.pad x e).1 ∙ ap (λ o. is_none o) wf in
        represents_more s new ts (record { from = x; message = 4 ∷ ps }) represented pad_is
        (asked_is ∙ sym (ap (λ b. s.asked || b) asking ∙ or_true s.asked))
        (along s new [] (settings_after (message_fault x ts (4 ∷ ps)) x (4 ∷ ps)) (sym (after_none (message_fault x ts (4 ∷ ps)) x (4 ∷ ps) refl))
        (λ ws h k below. has_entries ws h k below ∙ ap (λ l. entry_at new.pad (k + 1) l) (sym (append-nil ws))))

-- a message with a fault of its own is nothing to a PAD
pub faulty : (s : Settings) (ts : List PadMessage) (x : Side) (m : List ℕ) → Represents s ts → is_none (form_fault m) ≡ false →
    settings_after (message_fault x ts m) x m ≡ [] → Represents s (ts ++ record { from = x; message = m } ∷ [])
faulty s ts x m represented faulted none =
    represents_more s s ts (record { from = x; message = m }) represented refl
    (or_false s.asked (is_side (other s.pad) x && is_request m && is_none (form_fault m))
    (ap (λ b. is_side (other s.pad) x && is_request m && b) faulted ∙ last (is_side (other s.pad) x) (is_request m)))
    (along s s [] (settings_after (message_fault x ts m) x m) (sym none) (λ ws h k below. h k below ∙ ap (λ l. entry_at s.pad (k + 1) l) (sym (append-nil ws))))
  where
    last : (a b : Bool) → (a && b && false) ≡ false
    last true true = refl
    last true false = refl
    last false b = refl
