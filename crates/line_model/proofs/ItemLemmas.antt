-- Rows in two lists: what is appended to both comes after the others.
use Rattle.std.proofs.Common.{◌≡◌, ◌∙◌, ap, ap₂, refl, sym, ℕ, suc, ◌+◌, ◌-◌, ◌≤◌, List, [], ◌∷◌, ◌++◌, length, length-drop, take, drop, arith}
use Rattle.std.proofs.Math.Seq.{take-add, take-length}
use Rattle.std.proofs.lemmas.List.{take-append-le, drop-append-le, drop-drop, length-take-le}
use Rattle.std.proofs.lemmas.List.Sums.{sum_by-append, sum_by-cons}
use Rattle.line_model.specs.basics.Records.{Item}
use Rattle.line_model.specs.basics.Items.{items_of, octets_of}
use Rattle.line_model.specs.declared.items.Head.{Head}

-- what the row of a head says, with these octets
abbrev pub item_of : Head → List ℕ → Item
item_of h octets = record { number = h.number; side = h.side; packet = h.packet; length = h.length; octets = octets }

-- how many octets are kept of the row of a head
abbrev pub kept : Head → ℕ
kept h = h.kept

-- a list of as many octets as nothing is empty
none_left : (os more : List ℕ) → 0 ≡ length os → os ++ more ≡ more
none_left [] more e = refl
none_left (o ∷ os) more e = absurd (omega (arith, e))

-- what is left behind the first row is as long as the other rows
behind_first : (h : Head) (hs : List Head) (os : List ℕ) → octets_of (h ∷ hs) ≡ length os → octets_of hs ≡ length (drop (kept h) os)
behind_first h hs os e =
    let first : octets_of (h ∷ hs) ≡ kept h + octets_of hs = sum_by-cons kept h hs in
    omega (arith, e, first, length-drop (kept h) os)

-- the rows of two lists of heads, each with its octets, one after the other
pub items-append : (hs gs : List Head) (os ps : List ℕ) → octets_of hs ≡ length os → items_of (hs ++ gs) (os ++ ps) ≡ items_of hs os ++ items_of gs ps
items-append [] gs os ps e = ap (items_of gs) (none_left os ps e)
items-append (h ∷ hs) gs os ps e =
    let first : octets_of (h ∷ hs) ≡ kept h + octets_of hs = sum_by-cons kept h hs in
    let few : kept h ≤ length os = omega (arith, e, first) in
    ap₂ (λ l rest. item_of h l ∷ rest) (take-append-le (kept h) os ps few)
    (ap (items_of (hs ++ gs)) (drop-append-le (kept h) os ps few) ∙ items-append hs gs (drop (kept h) os) ps (behind_first h hs os e))

-- a head and its octets that are appended are a row after the others
pub items-push : (hs : List Head) (os : List ℕ) (h : Head) (more : List ℕ) → octets_of hs ≡ length os → kept h ≡ length more → items_of (hs ++ h ∷ []) (os ++ more) ≡ items_of hs os ++ item_of h more ∷ []
items-push hs os h more e len =
    items-append hs (h ∷ []) os more e
    ∙ ap (λ n. items_of hs os ++ item_of h (take n more) ∷ []) len ∙ ap (λ l. items_of hs os ++ item_of h l ∷ []) (take-length more)

-- there is a row for each head
pub items-length : (hs : List Head) (os : List ℕ) → length (items_of hs os) ≡ length hs
items-length [] os = refl
items-length (h ∷ hs) os = ap suc (items-length hs (drop (kept h) os))

-- some rows of a list are as many as heads of it were chosen
pub place-length : (hs : List Head) (os : List ℕ) (first count : ℕ) → first + count ≤ length hs → length (items_of (take count (drop first hs)) os) ≡ count
place-length hs os first count inside =
    let room : count ≤ length (drop first hs) = omega (arith, inside, length-drop first hs) in
    items-length (take count (drop first hs)) os ∙ length-take-le count (drop first hs) room

-- of what is at a place, the first n and the others
pub taken_on : {X : Type 0} (n count place : ℕ) (xs : List X) → n ≤ count → take count (drop place xs) ≡ take n (drop place xs) ++ take (count - n) (drop (place + n) xs)
taken_on n count place xs few =
    let sum : count ≡ n + (count - n) = omega (arith, few) in
    ap (λ i. take i (drop place xs)) sum ∙ take-add n (count - n) (drop place xs) ∙ ap (λ l. take n (drop place xs) ++ take (count - n) l) (drop-drop n place xs)

-- some rows of a list, of which the first n keep k octets
module _ (hs : List Head) (os : List ℕ) (first count octet all n k : ℕ) (few : n ≤ count) (whole : octets_of (take count (drop first hs)) ≡ all) (part : k ≡ octets_of (take n (drop first hs))) (inside : octet + all ≤ length os) where
  sum : all ≡ k + octets_of (take (count - n) (drop (first + n) hs))
  sum =
      let both = ap octets_of (taken_on n count first hs few) ∙ sum_by-append kept (take n (drop first hs)) (take (count - n) (drop (first + n) hs)) in
      omega (arith, both, whole, part)

  -- they are no more than all
  pub first_kept-le : k ≤ all
  first_kept-le = omega (arith, sum)

  -- the others keep the other octets
  pub others_kept : octets_of (take (count - n) (drop (first + n) hs)) ≡ all - k
  others_kept = omega (arith, sum)

  -- the first n, and then the others
  pub items-split : items_of (take count (drop first hs)) (take all (drop octet os))
      ≡ items_of (take n (drop first hs)) (take k (drop octet os)) ++ items_of (take (count - n) (drop (first + n) hs)) (take (all - k) (drop (octet + k) os))
  items-split =
      let room : k ≤ length (drop octet os) = omega (arith, inside, first_kept-le, length-drop octet os) in
      ap₂ items_of (taken_on n count first hs few) (taken_on k all octet os first_kept-le)
      ∙ items-append (take n (drop first hs)) (take (count - n) (drop (first + n) hs)) (take k (drop octet os)) (take (all - k) (drop (octet + k) os)) (sym part ∙ sym (length-take-le k (drop octet os) room))
