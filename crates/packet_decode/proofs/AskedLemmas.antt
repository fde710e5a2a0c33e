-- What facilities ask, from one to the next.
use Rattle.std.proofs.Common.{◌≡◌, ◌≤◌, ℕ, suc, Bool, true, false, cond, refl, arith, sym, ◌∙◌, ap, subst, inl, inr, List, [], ◌∷◌, ◌++◌, length, drop, take, reverse, Option, Some, None, nat_lt}
use Rattle.std.specs.Prelude.{option_map, not, ◌==◌, ◌||◌, ◌&&◌, nat_le, find}
use Rattle.std.specs.Option.{option_or}
use Rattle.std.specs.List.{list_any}
use Rattle.std.proofs.lemmas.List.{length-drop, reverse-append}
use Rattle.std.proofs.lemmas.List.Sums.{take_while-cons}
use Rattle.std.proofs.lemmas.List.Folds.{find-append}
use Rattle.std.proofs.lemmas.Bool.{le-ltb}
use Rattle.std.proofs.lemmas.Bool.Decides.{eqb_tells}
use Rattle.line_model.specs.declared.interface.Interface.{Interface}
use Rattle.line_model.specs.packets.Facilities.{Facility, facilities_of, parameters_from, octets_after, last_parameters, is_out_of_range}
use Rattle.line_model.specs.basics.Octets.{octet}
use Rattle.packet_decode.proofs.FacilityLemmas.{facilities_of-bound}
use Rattle.packet_decode.specs.declared.facility.Asked.{Asked}
use Rattle.packet_decode.specs.Asked.{asked_in, asked_of, before_marker, with_facility, nothing_asked, two_octets, is_bad_size, is_bad_window}
use mathlib.Core.Bool.{or-false}

-- what a facility of a code asks, with what those after it ask
abbrev pub joined : Interface → (code : ℕ) → (rest : List ℕ) → Asked → Asked
joined i code rest a = elim (code == 0) [
  | true ↦ nothing_asked
  | false ↦ elim (code == 1) [
    | true ↦ record a { charging = option_or a.charging (Some (octet 1 rest)) }
    | false ↦ elim (code == 0x42) [
      | true ↦ record a {
        sizes = option_or a.sizes (Some (octet 1 rest, octet 2 rest));
        out_of_range = is_bad_size (octet 1 rest) || is_bad_size (octet 2 rest) || a.out_of_range;
      }
      | false ↦ elim (code == 0x43) [
        | true ↦ record a {
          windows = option_or a.windows (Some (octet 1 rest, octet 2 rest));
          out_of_range = is_bad_window i (octet 1 rest) || is_bad_window i (octet 2 rest) || a.out_of_range;
        }
        | false ↦ a
      ]
    ]
  ]
]

-- a map over the first of two that is there
mapped : {A B : Type 0} (h : A → B) (o : Option A) (b : Bool) (x : A) →
    option_map h (option_or o (cond b (Some x) None)) ≡ option_or (option_map h o) (cond b (Some (h x)) None)
mapped h None true x = refl
mapped h None false x = refl
mapped h (Some y) b x = refl

or_none : {A : Type 0} (o : Option A) → option_or o None ≡ o
or_none None = refl
or_none (Some x) = refl

-- the last parameters of a code, with one facility more at the front
pub last_parameters-cons : (k : ℕ) (f : Facility) (fs : List Facility) →
    last_parameters k (f ∷ fs) ≡ option_or (last_parameters k fs) (cond (f.code == k) (Some f.parameters) None)
last_parameters-cons k f fs =
    let rev : reverse (f ∷ fs) ≡ reverse fs ++ f ∷ [] = reverse-append (f ∷ []) fs in
    ap (λ l. option_map (λ g. g.parameters) (find (λ g. g.code == k) l)) rev
    ∙ ap (λ o. option_map (λ g. g.parameters) o) (find-append (λ g. g.code == k) (reverse fs) (f ∷ []))
    ∙ mapped (λ g. g.parameters) (find (λ g. g.code == k) (reverse fs)) (f.code == k) f

-- two tests of a list of two, and a third
two_sizes : (a b c : Bool) → (((a || (b || false)) || false) || c) ≡ (a || b || c)
two_sizes true b c = refl
two_sizes false true c = refl
two_sizes false false c = refl

two_windows : (a b c : Bool) → ((a || (b || false)) || c) ≡ (a || b || c)
two_windows true b c = refl
two_windows false true c = refl
two_windows false false c = refl

-- what a facility asks, before others
asked_cons : (i : Interface) (f : Facility) (fs : List Facility) → asked_of i (f ∷ fs) ≡ record {
  charging = option_or (asked_of i fs).charging (cond (f.code == 1) (Some (octet 1 f.parameters)) None);
  sizes = option_or (asked_of i fs).sizes (cond (f.code == 0x42) (Some (two_octets f.parameters)) None);
  windows = option_or (asked_of i fs).windows (cond (f.code == 0x43) (Some (two_octets f.parameters)) None);
  out_of_range = is_out_of_range i f || (asked_of i fs).out_of_range;
}
asked_cons i f fs =
    let charged : option_map (octet 1) (last_parameters 1 (f ∷ fs)) ≡ option_or (option_map (octet 1) (last_parameters 1 fs)) (cond (f.code == 1) (Some (octet 1 f.parameters)) None) =
    ap (option_map (octet 1)) (last_parameters-cons 1 f fs) ∙ mapped (octet 1) (last_parameters 1 fs) (f.code == 1) f.parameters in
    let sized : option_map two_octets (last_parameters 0x42 (f ∷ fs)) ≡ option_or (option_map two_octets (last_parameters 0x42 fs)) (cond (f.code == 0x42) (Some (two_octets f.parameters)) None) =
    ap (option_map two_octets) (last_parameters-cons 0x42 f fs) ∙ mapped two_octets (last_parameters 0x42 fs) (f.code == 0x42) f.parameters in
    let framed : option_map two_octets (last_parameters 0x43 (f ∷ fs)) ≡ option_or (option_map two_octets (last_parameters 0x43 fs)) (cond (f.code == 0x43) (Some (two_octets f.parameters)) None) =
    ap (option_map two_octets) (last_parameters-cons 0x43 f fs) ∙ mapped two_octets (last_parameters 0x43 fs) (f.code == 0x43) f.parameters in
    λ k. record { charging = charged k; sizes = sized k; windows = framed k; out_of_range = is_out_of_range i f || list_any (is_out_of_range i) fs }

-- the facility that a code and the octets after it are
abbrev pub facility_at : ℕ → List ℕ → Facility
facility_at code rest = record { code = code; parameters = take (parameters_from code rest).0 (drop (parameters_from code rest).1 rest) }

-- the same of a facility that was read from octets, by its code
abbrev pub IsJoined : Interface → List ℕ → List Facility → ℕ → Type 0
IsJoined i rest fs code =
    octets_after code rest ≤ length rest → asked_of i (before_marker (facility_at code rest ∷ fs)) ≡ joined i code rest (asked_of i (before_marker fs))

joined_marker : (i : Interface) (rest : List ℕ) (fs : List Facility) → IsJoined i rest fs 0
joined_marker i rest fs fits =
    ap (asked_of i) (take_while-cons (λ g. not (g.code == 0)) (facility_at 0 rest) fs)

joined_charging : (i : Interface) (rest : List ℕ) (fs : List Facility) → IsJoined i rest fs 1
joined_charging i [] fs fits = absurd (omega arith)
joined_charging i (r ∷ rs) fs fits =
    let a : Asked = asked_of i (before_marker fs) in
    ap (asked_of i) (take_while-cons (λ g. not (g.code == 0)) (facility_at 1 (r ∷ rs)) fs)
    ∙ asked_cons i (facility_at 1 (r ∷ rs)) (before_marker fs)
    ∙ (λ k. record a { charging = option_or a.charging (Some r); sizes = or_none a.sizes k; windows = or_none a.windows k })

joined_sizes : (i : Interface) (rest : List ℕ) (fs : List Facility) → IsJoined i rest fs 0x42
joined_sizes i [] fs fits = absurd (omega arith)
joined_sizes i (q ∷ []) fs fits = absurd (omega arith)
joined_sizes i (q ∷ r ∷ rs) fs fits =
    let a : Asked = asked_of i (before_marker fs) in
    ap (asked_of i) (take_while-cons (λ g. not (g.code == 0)) (facility_at 0x42 (q ∷ r ∷ rs)) fs)
    ∙ asked_cons i (facility_at 0x42 (q ∷ r ∷ rs)) (before_marker fs)
    ∙ (λ k. record {
      charging = or_none a.charging k;
      sizes = option_or a.sizes (Some (q, r));
      windows = or_none a.windows k;
      out_of_range = two_sizes (is_bad_size q) (is_bad_size r) a.out_of_range k;
    })

joined_windows : (i : Interface) (rest : List ℕ) (fs : List Facility) → IsJoined i rest fs 0x43
joined_windows i [] fs fits = absurd (omega arith)
joined_windows i (q ∷ []) fs fits = absurd (omega arith)
joined_windows i (q ∷ r ∷ rs) fs fits =
    let a : Asked = asked_of i (before_marker fs) in
    ap (asked_of i) (take_while-cons (λ g. not (g.code == 0)) (facility_at 0x43 (q ∷ r ∷ rs)) fs)
    ∙ asked_cons i (facility_at 0x43 (q ∷ r ∷ rs)) (before_marker fs)
    ∙ (λ k. record {
      charging = or_none a.charging k;
      sizes = or_none a.sizes k;
      windows = option_or a.windows (Some (q, r));
      out_of_range = two_windows (is_bad_window i q) (is_bad_window i r) a.out_of_range k;
    })

-- a code that is not read
joined_other : (i : Interface) (rest : List ℕ) (fs : List Facility) (code : ℕ) → (code == 0) ≡ false → (code == 1) ≡ false →
    (code == 0x42) ≡ false → (code == 0x43) ≡ false → IsJoined i rest fs code
joined_other i rest fs code zero_not one_not sizes_not windows_not fits =
    let a : Asked = asked_of i (before_marker fs) in
    let f : Facility = facility_at code rest in
    let kept : before_marker (f ∷ fs) ≡ f ∷ before_marker fs =
    take_while-cons (λ g. not (g.code == 0)) f fs ∙ ap (λ b. cond (not b) (f ∷ before_marker fs) []) zero_not in
    let bad_size : Bool = list_any (λ n. nat_lt n 4 || nat_lt 12 n) f.parameters in
    let bad_window : Bool = list_any (λ n. n == 0 || nat_le i.modulus n) f.parameters in
    let charged : option_or a.charging (cond (code == 1) (Some (octet 1 f.parameters)) None) ≡ a.charging =
    ap (λ b. option_or a.charging (cond b (Some (octet 1 f.parameters)) None)) one_not ∙ or_none a.charging in
    let sized : option_or a.sizes (cond (code == 0x42) (Some (two_octets f.parameters)) None) ≡ a.sizes =
    ap (λ b. option_or a.sizes (cond b (Some (two_octets f.parameters)) None)) sizes_not ∙ or_none a.sizes in
    let framed : option_or a.windows (cond (code == 0x43) (Some (two_octets f.parameters)) None) ≡ a.windows =
    ap (λ b. option_or a.windows (cond b (Some (two_octets f.parameters)) None)) windows_not ∙ or_none a.windows in
    let in_range : (((code == 0x42 && bad_size) || (code == 0x43 && bad_window)) || a.out_of_range) ≡ a.out_of_range =
    ap (λ b. (b && bad_size || (code == 0x43 && bad_window)) || a.out_of_range) sizes_not ∙ ap (λ b. (b && bad_window) || a.out_of_range) windows_not in
    ap (asked_of i) kept ∙ asked_cons i f (before_marker fs)
    ∙ (λ k. record { charging = charged k; sizes = sized k; windows = framed k; out_of_range = in_range k })
    ∙ simp (zero_not, one_not, sizes_not, windows_not, joined) refl

-- what a facility asks, with those after it
pub asked_joined : (i : Interface) (rest : List ℕ) (fs : List Facility) (code : ℕ) → IsJoined i rest fs code
asked_joined i rest fs code =
    elim (eqb_tells code 0) [
      | inl e ↦ subst (IsJoined i rest fs) (sym e.1) (joined_marker i rest fs)
      | inr e ↦ elim (eqb_tells code 1) [
        | inl f ↦ subst (IsJoined i rest fs) (sym f.1) (joined_charging i rest fs)
        | inr f ↦ elim (eqb_tells code 0x42) [
          | inl g ↦ subst (IsJoined i rest fs) (sym g.1) (joined_sizes i rest fs)
          | inr g ↦ elim (eqb_tells code 0x43) [
            | inl h ↦ subst (IsJoined i rest fs) (sym h.1) (joined_windows i rest fs)
            | inr h ↦ joined_other i rest fs code e.0 f.0 g.0 h.0
          ]
        ]
      ]
    ]

joined_option : (i : Interface) (rest : List ℕ) (code : ℕ) (o : Option (List Facility)) → octets_after code rest ≤ length rest →
    option_map (λ fs. asked_of i (before_marker fs)) (option_map (λ fs. facility_at code rest ∷ fs) o)
    ≡ option_map (joined i code rest) (option_map (λ fs. asked_of i (before_marker fs)) o)
joined_option i rest code None fits = refl
joined_option i rest code (Some fs) fits = ap Some (asked_joined i rest fs code fits)

-- a facility and those after it
asked_first : (i : Interface) (code : ℕ) (ys : List ℕ) → octets_after code ys ≤ length ys →
    asked_in i (code ∷ ys) ≡ option_map (joined i code ys) (asked_in i (drop (octets_after code ys) ys))
asked_first i code ys fits =
    let n : ℕ = octets_after code ys in
    let enough : nat_lt (length ys) n ≡ false = le-ltb (length ys) n fits in
    let bound : facilities_of (length (code ∷ ys)) (code ∷ ys) ≡ facilities_of (suc (length ys)) (code ∷ ys) =
    facilities_of-bound (length (code ∷ ys)) (suc (length ys)) (code ∷ ys) (omega arith) (omega arith) in
    let same : facilities_of (length ys) (drop n ys) ≡ facilities_of (length (drop n ys)) (drop n ys) =
    facilities_of-bound (length ys) (length (drop n ys)) (drop n ys) (omega (arith, length-drop n ys)) (omega arith) in
    let h : Option (List Facility) → Option Asked = option_map (λ fs. asked_of i (before_marker fs)) in
    let first : facilities_of (suc (length ys)) (code ∷ ys) ≡ option_map (λ fs. facility_at code ys ∷ fs) (facilities_of (length ys) (drop n ys)) =
    ap (λ b. elim b [ true ↦ None | false ↦ option_map (λ fs. facility_at code ys ∷ fs) (facilities_of (length ys) (drop n ys)) ]) enough in
    ap h bound ∙ ap h first ∙ joined_option i ys code (facilities_of (length ys) (drop n ys)) fits
    ∙ ap (λ o. option_map (joined i code ys) (h o)) same

pub asked_step : (i : Interface) (xs rest more : List ℕ) (n : ℕ) → 1 ≤ length xs → rest ≡ drop 1 xs →
    n ≡ octets_after (octet 1 xs) rest → n ≤ length rest → more ≡ drop n rest →
    asked_in i xs ≡ option_map (joined i (octet 1 xs) rest) (asked_in i more)
asked_step i [] rest more n l rest_is n_is fits more_is = absurd (omega arith)
asked_step i (code ∷ ys) rest more n l rest_is n_is fits more_is =
    let whole : octets_after code ys ≤ length ys = subst (λ zs. octets_after code zs ≤ length zs) rest_is (rw (← n_is) fits) in
    asked_first i code ys whole ∙ rw (more_is, n_is, rest_is) refl

-- what is asked by facilities that were read and by those after them; after a marker those after them are not read
abbrev pub together : (is_marked : Bool) → (read later : Asked) → Asked
together true a l = a
together false a l = record {
  charging = option_or l.charging a.charging;
  sizes = option_or l.sizes a.sizes;
  windows = option_or l.windows a.windows;
  out_of_range = a.out_of_range || l.out_of_range;
}

or_some : {A : Type 0} (o p : Option A) (x : A) → option_or (option_or o (Some x)) p ≡ option_or o (Some x)
or_some None p x = refl
or_some (Some y) p x = refl

or_grouped : (a b c d : Bool) → (a || (b || c || d)) ≡ ((a || b || c) || d)
or_grouped true b c d = refl
or_grouped false b c d = refl

together_nothing : (m : Bool) (a : Asked) → together m a nothing_asked ≡ a
together_nothing true a = refl
together_nothing false a = λ k. record a { out_of_range = or-false a.out_of_range k }

-- one facility more is read
abbrev IsTogether : Interface → List ℕ → Asked → Asked → ℕ → Type 0
IsTogether i rest a l code = together false a (joined i code rest l) ≡ together false (with_facility i code rest a) l

together_other : (i : Interface) (rest : List ℕ) (a l : Asked) (code : ℕ) → (code == 0) ≡ false → (code == 1) ≡ false →
    (code == 0x42) ≡ false → (code == 0x43) ≡ false → IsTogether i rest a l code
together_other i rest a l code zero_not one_not sizes_not windows_not = simp (zero_not, one_not, sizes_not, windows_not, joined, with_facility) refl

together_with : (i : Interface) (rest : List ℕ) (a l : Asked) (code : ℕ) → (code == 0) ≡ false → IsTogether i rest a l code
together_with i rest a l code zero_not =
    elim (eqb_tells code 1) [
      | inl f ↦ subst (IsTogether i rest a l) (sym f.1)
          (λ k. record (together false a l) { charging = or_some l.charging a.charging (octet 1 rest) k })
      | inr f ↦ elim (eqb_tells code 0x42) [
        | inl g ↦ subst (IsTogether i rest a l) (sym g.1)
            (λ k. record (together false a l) {
              sizes = or_some l.sizes a.sizes (octet 1 rest, octet 2 rest) k;
              out_of_range = or_grouped a.out_of_range (is_bad_size (octet 1 rest)) (is_bad_size (octet 2 rest)) l.out_of_range k;
            })
        | inr g ↦ elim (eqb_tells code 0x43) [
          | inl h ↦ subst (IsTogether i rest a l) (sym h.1)
              (λ k. record (together false a l) {
                windows = or_some l.windows a.windows (octet 1 rest, octet 2 rest) k;
                out_of_range = or_grouped a.out_of_range (is_bad_window i (octet 1 rest)) (is_bad_window i (octet 2 rest)) l.out_of_range k;
              })
          | inr h ↦ together_other i rest a l code zero_not f.0 g.0 h.0
        ]
      ]
    ]

-- one facility more is walked over: read, or not read after a marker
walked : (i : Interface) (code : ℕ) (rest : List ℕ) (m b : Bool) (a l : Asked) → (code == 0) ≡ b →
    together m a (joined i code rest l) ≡ together (m || b) (cond (m || b) a (with_facility i code rest a)) l
walked i code rest true b a l e = refl
walked i code rest false true a l e =
    simp (e, joined) (together_nothing false a)
walked i code rest false false a l e = together_with i rest a l code e

walked_option : (i : Interface) (code : ℕ) (rest : List ℕ) (m b : Bool) (a : Asked) (o : Option Asked) → (code == 0) ≡ b →
    option_map (together m a) (option_map (joined i code rest) o)
    ≡ option_map (together (m || b) (cond (m || b) a (with_facility i code rest a))) o
walked_option i code rest m b a None e = refl
walked_option i code rest m b a (Some l) e = ap Some (walked i code rest m b a l e)

pub walked_step : (i : Interface) (total : Option Asked) (left rest more : List ℕ) (n : ℕ) (m m' : Bool) (a a' : Asked) →
    total ≡ option_map (together m a) (asked_in i left) →
    1 ≤ length left → rest ≡ drop 1 left → n ≡ octets_after (octet 1 left) rest → n ≤ length rest → more ≡ drop n rest →
    m' ≡ (m || (octet 1 left == 0)) → a' ≡ cond m' a (with_facility i (octet 1 left) rest a) →
    total ≡ option_map (together m' a') (asked_in i more)
walked_step i total left rest more n m m' a a' h l rest_is n_is fits more_is m_is a_is =
    h ∙ ap (option_map (together m a)) (asked_step i left rest more n l rest_is n_is fits more_is)
    ∙ walked_option i (octet 1 left) rest m (octet 1 left == 0) a (asked_in i more) refl
    ∙ rw (a_is, m_is) refl
