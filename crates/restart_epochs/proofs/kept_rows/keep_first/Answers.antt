use Rattle.std.proofs.Common.{rules, ◌≡◌, ◌∙◌, ap, sym, subst, refl, ℕ, ◌==◌, true, false, true≢false, List, [], ◌∷◌, length}
use Rattle.std.proofs.lemmas.Bool.{eqb-true}
use Rattle.std.proofs.lemmas.List.{nil_from_length}
use Rattle.std.specs.BTreeSet.{insert_key}
use Rattle.std.specs.Ordering.{nat_cmp}
use Rattle.line_model.specs.basics.Records.{Item}
use Rattle.restart_epochs.specs.OpenRows.{rows_in, rows_of}
use Rattle.restart_epochs.specs.BlockCuts.{HasFirst, with_rows}
use Rattle.restart_epochs.proofs.kept_rows.keep_first.Goals as goal

-- a channel that had no row is listed with its first ones
listed_first : (rows : List Item) (k : ℕ) (ks : List ℕ) → (length rows == 0) ≡ false → with_rows rows [] k ks ≡ insert_key nat_cmp ks k
listed_first [] k ks some = absurd (true≢false some)
listed_first (item ∷ items) k ks some = refl

pub returns-then-is_empty-clause-ok : goal.returns-then-is_empty-clause-ok
returns-then-is_empty-clause-ok g c =
    let table = c.args.table.now in
    let empty : (length c.args.rows == 0) ≡ true = search rules in
    let none : c.args.rows ≡ [] = nil_from_length c.args.rows (eqb-true (length c.args.rows) 0 empty) in
    subst (λ rows. HasFirst c.args.channel rows table table) (sym none)
    (record { rows = c.requires.none; others = λ k other. refl; channels = refl })

pub returns-clause-ok : goal.returns-clause-ok
returns-clause-ok g c =
    let channel = c.args.channel in
    let table = c.args.table.now in
    let rows = c.args.rows in
    let some : (length rows == 0) ≡ false = search rules in
    let put : rows_of c.put.new.self channel ≡ rows = search rules in
    let listed : c.put.new.self.channels ≡ insert_key nat_cmp table.channels channel = search rules in
    record {
      rows = put;
      others = λ k other. ap rows_in (c.put.ensures.others k other ∙ c.in_ok-list.ensures.ok.values k);
      channels = listed ∙ sym (listed_first rows channel table.channels some);
    }
