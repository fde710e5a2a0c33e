-- Rows that are written one after the other.
use Rattle.std.specs.Prelude.{◌≡◌, List, [], ◌∷◌, ◌++◌, refl}
use Rattle.std.proofs.Common.{sym, ◌∙◌, append_assoc}
use Rattle.capture_report.specs.Contents.{Row}
use Rattle.capture_report.specs.Texts.{Page, row_printed, rows_printed, with_row, with_rows}

pub with_rows_append : (page : Page) (xs ys : List Row) → with_rows page (xs ++ ys) ≡ with_rows (with_rows page xs) ys
with_rows_append page [] ys = refl
with_rows_append page (x ∷ xs) ys = with_rows_append (with_row page x) xs ys

-- the text of later rows goes on behind that of earlier ones
pub printed_on : (page : Page) (xs ys : List Row)
    → page.text ++ rows_printed page.printer (xs ++ ys) ≡ (with_rows page xs).text ++ rows_printed (with_rows page xs).printer ys
printed_on page [] ys = refl
printed_on page (x ∷ xs) ys =
    let p = with_row page x in
    sym (append_assoc page.text (row_printed page.printer x) (rows_printed p.printer (xs ++ ys))) ∙ printed_on p xs ys
