-- The rows of each channel are removed from a table, as parts.
use Rattle.std.proofs.Common.{◌≡◌, ◌≢◌, ◌∙◌, sym, ap, subst, refl, ℕ, ◌==◌, Bool, true, false, cond, List, [], ◌∷◌, ◌++◌, append_assoc, append-nil}
use Rattle.std.specs.List.{AllByRecursion}
use Rattle.std.proofs.lemmas.Bool.{eqb-true, eqb-false}
use Rattle.line_model.specs.basics.Records.{Item}
use Rattle.restart_epochs.specs.OpenRows.{OpenRows, rows_of, HasNoOthers, IsTakenOut}
use Rattle.restart_epochs.specs.BlockCuts.{ChannelRows, parts_of, rows_on}

-- where no channel is listed, none has rows
pub none_listed : (o : OpenRows) → HasNoOthers o → o.channels ≡ [] → (k : ℕ) → rows_of o k ≡ []
none_listed o others none k = others k (subst (AllByRecursion (λ j. j ≢ k)) (sym none) tt)

rows_on-append : (k : ℕ) (ps qs : List ChannelRows) → rows_on k (ps ++ qs) ≡ rows_on k ps ++ rows_on k qs
rows_on-append k [] qs = refl
rows_on-append k (p ∷ ps) qs = at (p.channel == k) (rows_on-append k ps qs)
  where
    at : (b : Bool) → rows_on k (ps ++ qs) ≡ rows_on k ps ++ rows_on k qs
        → cond b (p.items ++ rows_on k (ps ++ qs)) (rows_on k (ps ++ qs)) ≡ cond b (p.items ++ rows_on k ps) (rows_on k ps) ++ rows_on k qs
    at true more = ap (λ l. p.items ++ l) more ∙ sym (append_assoc p.items (rows_on k ps) (rows_on k qs))
    at false more = more

-- some channels were removed, with their rows
abbrev pub AreTakenOut : OpenRows → OpenRows → List ChannelRows → Type 0
AreTakenOut before now parts = (k : ℕ) → rows_on k parts ++ rows_of now k ≡ rows_of before k

pub taken_with : (k channel : ℕ) (rows : List Item) (before now after : OpenRows) (so_far : List ChannelRows) → IsTakenOut channel rows now after
    → rows_on k so_far ++ rows_of now k ≡ rows_of before k
    → rows_on k (so_far ++ record { channel = channel; items = rows } ∷ []) ++ rows_of after k ≡ rows_of before k
taken_with k channel rows before now after so_far t was =
    ap (λ l. l ++ rows_of after k) (rows_on-append k so_far (record { channel = channel; items = rows } ∷ []))
    ∙ append_assoc (rows_on k so_far) (cond (channel == k) (rows ++ []) []) (rows_of after k)
    ∙ ap (λ l. rows_on k so_far ++ l) (at (channel == k) refl) ∙ was
  where
    at : (b : Bool) → (channel == k) ≡ b → cond b (rows ++ []) [] ++ rows_of after k ≡ rows_of now k
    at true e =
        let same = eqb-true channel k e in
        ap (λ l. l ++ rows_of after k) (append-nil rows ∙ t.items)
        ∙ ap (λ j. rows_of now channel ++ rows_of after j) (sym same) ∙ ap (λ l. rows_of now channel ++ l) t.emptied
        ∙ append-nil (rows_of now channel) ∙ ap (rows_of now) same
    at false e = t.others k (λ same. eqb-false channel k e (sym same))

pub all_taken : (before now : OpenRows) (parts : List ChannelRows) → AreTakenOut before now parts → HasNoOthers now → now.channels ≡ [] → (k : ℕ) → rows_on k parts ≡ rows_of before k
all_taken before now parts taken others none k =
    sym (append-nil (rows_on k parts)) ∙ ap (λ rows. rows_on k parts ++ rows) (sym (none_listed now others none k)) ∙ taken k

-- the first part of those that are left
pub part_with : (rows : ℕ → List Item) (channel : ℕ) (items : List Item) (so_far : List ChannelRows) (now after : List ℕ) → now ≡ channel ∷ after → items ≡ rows channel
    → (so_far ++ record { channel = channel; items = items } ∷ []) ++ parts_of rows after ≡ so_far ++ parts_of rows now
part_with rows channel items so_far now after is own =
    append_assoc so_far (record { channel = channel; items = items } ∷ []) (parts_of rows after)
    ∙ ap (λ l. so_far ++ record { channel = channel; items = l } ∷ parts_of rows after) own ∙ ap (λ ks. so_far ++ parts_of rows ks) (sym is)
