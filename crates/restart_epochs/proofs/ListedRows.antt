-- The channels that are not listed, after one row more and after a channel was removed, and the first one that is removed.
use Rattle.std.proofs.Common.{◌≡◌, ◌≢◌, ◌∙◌, sym, ap, subst, refl, ℕ, ◌<◌, Bool, true, false, eqb, List, [], ◌∷◌, suc, length, get_or, arith, Option}
use Rattle.std.specs.declared.cmp.Ordering.{Ordering}
use Rattle.std.specs.declared.cmp.Ordering.TheVariants.{Less, Equal, Greater}
use Rattle.std.specs.BTreeSet.{insert_key}
use Rattle.std.specs.Cmp.{ranks}
use Rattle.std.specs.List.{AllByRecursion}
use Rattle.std.specs.Ordering.{MatchOrdering, match_ordering, nat_cmp}
use Rattle.std.proofs.lemmas.Bool.{eqb-true, eqb-false}
use Rattle.line_model.specs.basics.Records.{Item}
use Rattle.restart_epochs.specs.ChannelTables.{HasPopped}
use Rattle.restart_epochs.specs.OpenRows.{OpenRows, rows_in, rows_of, with_channel, HasMore, HasNoOthers, IsTakenOut}

pub all_but : (P : ℕ → Type 0) (ks : List ℕ) (k : ℕ) → AllByRecursion P (insert_key nat_cmp ks k) → P k × AllByRecursion P ks
all_but P [] k all = all
all_but P (j ∷ ks) k all = at (nat_cmp k j) (ranks k j) (all_but P ks k) all
  where
    at : (o : Ordering) → MatchOrdering o (k < j) (k ≡ j) (j < k) → (AllByRecursion P (insert_key nat_cmp ks k) → P k × AllByRecursion P ks)
        → AllByRecursion P (match_ordering o (k ∷ j ∷ ks) (j ∷ ks) (j ∷ insert_key nat_cmp ks k)) → P k × AllByRecursion P (j ∷ ks)
    at Less is more h = h
    at Equal is more h = (subst P (sym is) h.0, h)
    at Greater is more h = let rest = more h.1 in (rest.0, (h.0, rest.1))

pub others_more : (gap channel : ℕ) (item : Item) (before after : OpenRows) → HasMore gap channel item before after → HasNoOthers before → HasNoOthers after
others_more gap channel item before after more none k all = at (rows_of before channel) refl (subst (AllByRecursion (λ j. j ≢ k)) more.channels all)
  where
    at : (was : List Item) → rows_of before channel ≡ was → AllByRecursion (λ j. j ≢ k) (with_channel was channel before.channels) → rows_of after k ≡ []
    at [] is left =
        let not = all_but (λ j. j ≢ k) before.channels channel left in
        more.others k (λ e. not.0 (sym e)) ∙ none k not.1
    at (x ∷ was) is left = more.others k (λ e. cc (is, e, none k left)) ∙ none k left

pub others_taken : (channel : ℕ) (taken : List Item) (before after : OpenRows) → IsTakenOut channel taken before after → HasNoOthers before → HasNoOthers after
others_taken channel taken before after t none k all = at (eqb k channel) refl
  where
    at : (b : Bool) → eqb k channel ≡ b → rows_of after k ≡ []
    at true e = ap (rows_of after) (eqb-true k channel e) ∙ t.emptied
    at false e =
        let ne = eqb-false k channel e in
        t.others k ne ∙ none k (subst (AllByRecursion (λ j. j ≢ k)) (sym t.channels) ((λ e'. ne (sym e')), all))

-- no later channel is the first one
pub others_above : (channel : ℕ) (later : List ℕ) → ((k d : ℕ) → k < length later → nat_cmp channel (get_or later k d) ≡ Less) → AllByRecursion (λ j. j ≢ channel) later
others_above channel [] above = tt
others_above channel (j ∷ later) above =
    let less : channel < j = subst (λ o. MatchOrdering o (channel < j) (channel ≡ j) (j < channel)) (above 0 0 (omega arith)) (ranks channel j) in
    ((λ e. omega (arith, less, e)), others_above channel later (λ k d inside. above (suc k) d (omega (arith, inside))))

-- the value of the first channel that is removed is its rows
pub rows_popped : (channel : ℕ) (taken : Option (List Item)) (before after : OpenRows) → HasPopped channel taken before after → IsTakenOut channel (rows_in taken) before after
rows_popped channel taken before after p = record {
  channels = p.channels;
  once = p.once;
  items = ap rows_in p.value;
  emptied = ap rows_in p.emptied;
  others = λ k other. ap rows_in (p.others k other);
}
