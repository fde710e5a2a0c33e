-- One packet more.
use Rattle.std.proofs.Common.{◌≡◌, ℕ, zero, suc, Bool, true, false, refl, arith, sym, ◌∙◌, ap, subst, List, [], ◌∷◌, ◌++◌, length, take, append-nil, append_assoc}
use Rattle.std.specs.Prelude.{◌-◌, ◌&&◌, Option, Some, None}
use Rattle.std.specs.List.{list_all}
use Rattle.line_model.specs.declared.state.Side.{Side}
use Rattle.line_model.specs.channels.Channels.{AcceptedData}
use Rattle.line_model.specs.channels.Sequences.{sequence_octets, eq_bool, is_alike}
use Rattle.data_transfer.specs.Assembly.{Holds, AllHaveQ, kept_octets, is_like, unqualified, with_more}
use Rattle.data_transfer.specs.Sequences.{SequenceView}

-- the front of two lists
take_append : (n : ℕ) (xs ys : List ℕ) → take n (xs ++ ys) ≡ take n xs ++ take (n - length (take n xs)) ys
take_append zero [] ys = refl
take_append (suc n) [] ys = let e : suc n ≡ suc n - 0 = omega arith in ap (λ k. take k ys) e
take_append zero (x ∷ xs) ys = refl
take_append (suc n) (x ∷ xs) ys =
    let e : suc n - length (x ∷ take n xs) ≡ n - length (take n xs) = omega arith in
    ap (λ l. x ∷ l) (take_append n xs ys) ∙ ap (λ k. x ∷ take n xs ++ take k ys) (sym e)

sequence_octets_more : (gs : List AcceptedData) (h : AcceptedData) → sequence_octets (gs ++ h ∷ []) ≡ sequence_octets gs ++ h.octets
sequence_octets_more [] h = append-nil h.octets
sequence_octets_more (g ∷ gs) h = ap (λ l. g.octets ++ l) (sequence_octets_more gs h) ∙ sym (append_assoc g.octets (sequence_octets gs) h.octets)

-- what is kept with one packet more, from what was kept
kept_more : (gs : List AcceptedData) (h : AcceptedData) (old : List ℕ) → old ≡ kept_octets gs → with_more old h.octets ≡ kept_octets (gs ++ h ∷ [])
kept_more gs h old e =
    sym (ap (λ l. take 1025 l) (sequence_octets_more gs h) ∙ take_append 1025 (sequence_octets gs) h.octets
    ∙ ap (λ l. l ++ take (1025 - length l) h.octets) (sym e))

list_all_more : (p : AcceptedData → Bool) (gs : List AcceptedData) (h : AcceptedData) → list_all p (gs ++ h ∷ []) ≡ (list_all p gs && p h)
list_all_more p [] h = last (p h)
  where
    last : (b : Bool) → (b && true) ≡ b
    last true = refl
    last false = refl
list_all_more p (g ∷ gs) h = ap (λ b. p g && b) (list_all_more p gs h) ∙ grouped (p g) (list_all p gs) (p h)
  where
    grouped : (a b c : Bool) → (a && (b && c)) ≡ ((a && b) && c)
    grouped true b c = refl
    grouped false b c = refl

-- the Q bit of packets with one more, like them
qualified_more : (o : Option Bool) (gs : List AcceptedData) (h : AcceptedData) → AllHaveQ o gs → is_like o h.qualified ≡ true →
    AllHaveQ (Some h.qualified) (gs ++ h ∷ [])
qualified_more None gs h all like = λ r.
    list_all_more (λ g. eq_bool g.qualified r) gs h ∙ ap (λ l. list_all (λ g. eq_bool g.qualified r) l && eq_bool h.qualified r) all
qualified_more (Some q) gs h all like = λ r.
    list_all_more (λ g. eq_bool g.qualified r) gs h ∙ ap (λ b. b && eq_bool h.qualified r) (all r) ∙ same q h.qualified r like
  where
    same : (q p r : Bool) → eq_bool q p ≡ true → (eq_bool q r && eq_bool p r) ≡ eq_bool p r
    same true true true e = refl
    same true true false e = refl
    same true false r e = cc
    same false true r e = cc
    same false false true e = refl
    same false false false e = refl

pub alike_is : (o : Option Bool) (gs : List AcceptedData) (h : AcceptedData) → AllHaveQ o gs → is_alike h gs ≡ is_like o h.qualified
alike_is None gs h e = ap (λ l. is_alike h l) e
alike_is (Some q) gs h all = all h.qualified

pub holds_more : (old new : SequenceView) (gs : List AcceptedData) (h : AcceptedData) → Holds old gs → is_like old.qualified h.qualified ≡ true →
    new.qualified ≡ Some h.qualified → new.octets ≡ with_more old.octets h.octets → Holds new (gs ++ h ∷ [])
holds_more old new gs h holds like q_is octets_is = record {
  octets = octets_is ∙ kept_more gs h old.octets holds.octets;
  qualified = subst (λ o. AllHaveQ o (gs ++ h ∷ [])) (sym q_is) (qualified_more old.qualified gs h holds.qualified like);
}

pub octets_more : (old : SequenceView) (gs : List AcceptedData) (h : AcceptedData) → Holds old gs → with_more old.octets h.octets ≡ kept_octets (gs ++ h ∷ [])
octets_more old gs h holds = kept_more gs h old.octets holds.octets

-- a packet with Q 0 more, which is known by its length
pub unqualified_holds_more : (old new : SequenceView) (gs : List AcceptedData) (x : Side) (m d : Bool) (n : ℕ) → Holds old gs → is_like old.qualified false ≡ true →
    new.qualified ≡ Some false → new.octets ≡ old.octets → Holds new (gs ++ unqualified x m d n ∷ [])
unqualified_holds_more old new gs x m d n holds like q_is octets_is =
    holds_more old new gs (unqualified x m d n) holds like q_is (octets_is ∙ sym (no_more old.octets))
  where
    taken : (n : ℕ) (ys : List ℕ) → ys ≡ [] → take n ys ≡ []
    taken zero ys e = at ys e
      where
        at : (ys : List ℕ) → ys ≡ [] → take 0 ys ≡ []
        at [] e = refl
        at (y ∷ ys) e = cc
    taken (suc n) ys e = ap (λ l. take (suc n) l) e

    no_more : (xs : List ℕ) → with_more xs [] ≡ xs
    no_more xs = ap (λ l. xs ++ l) (taken (1025 - length xs) [] refl) ∙ append-nil xs
