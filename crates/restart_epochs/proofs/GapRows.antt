-- Rows of a channel, and the gaps of all channels among them.
use Rattle.std.proofs.Common.{◌≡◌, ◌∙◌, sym, ap, subst, refl, ℕ, zero, suc, ◌+◌, ◌<◌, ◌≤◌, ◌==◌, ◌⊎◌, inl, inr, nat_lt, Bool, true, false, true≢false, not, ◌&&◌, cond, Option, Some, None, List, [], ◌∷◌, ◌++◌, map, length, arith, append-nil, append_assoc, length-append, lt-ltb, le-ltb, ltb-true, ltb-false}
use Rattle.std.specs.Prelude.{All, IfSome}
use Rattle.std.proofs.lemmas.Bool.{ne_eqb}
use Rattle.std.proofs.lemmas.List.{map-append}
use Rattle.std.proofs.lemmas.List.Elements.{All-append}
use Rattle.std.proofs.lemmas.List.Sums.{sum_by_push}
use Rattle.line_model.specs.declared.interface.Interface.{Interface}
use Rattle.line_model.specs.declared.state.Side.TheVariants.{T}
use Rattle.line_model.specs.basics.Bounds.{IsGapRow, IsItem, IsSaid, all_octets}
use Rattle.line_model.specs.basics.Records.{Item}
use Rattle.line_model.specs.channels.GapRestart.{is_gap_of_all, is_of_all}
use Rattle.line_model.specs.packets.Classes.{class_of, packet_of}
use Rattle.line_model.specs.packets.Says.{gap_item, gap_items, gap_of, packet_or_gap, said_octets}
use Rattle.line_model.specs.pieces.Plan.{has_some}
use Rattle.line_model.specs.pieces.Plans.{begins_with_gap, single_gaps}
use Rattle.line_model.specs.text.Text.{last_or}
use Rattle.line_model.proofs.LineLemmas.{last_or-add}
use Rattle.line_model.proofs.PacketClass.{no_gap_with}
use Rattle.restart_epochs.specs.BlockCuts.{gap_joined}
use Rattle.restart_epochs.specs.Cutting.{taken_rows}
use Rattle.restart_epochs.specs.OpenRows.{begins_with_row, gap_after, last_number, with_gap, with_part}

-- ---- the number of the last row

abbrev numbers : List Item → List ℕ
numbers rows = map (λ (r : Item). r.number) rows

pub last_pushed : (rows : List Item) (item : Item) → last_number (rows ++ item ∷ []) ≡ item.number
last_pushed rows item = ap (last_or 0) (map-append (λ (r : Item). r.number) rows (item ∷ [])) ∙ last_or-add 0 item.number (numbers rows)

later_from : (d : ℕ) (rows : List Item) (r : Item) (rs : List Item) → last_or d (numbers (rows ++ r ∷ rs)) ≡ last_or 0 (numbers (r ∷ rs))
later_from d [] r rs = refl
later_from d (x ∷ rows) r rs = later_from x.number rows r rs

pub last_later : (rows : List Item) (r : Item) (rs : List Item) → last_number (rows ++ r ∷ rs) ≡ last_number (r ∷ rs)
last_later rows r rs = later_from 0 rows r rs

-- of rows and later ones
pub both_last : (rows later : List Item) → cond (length later == 0) (last_number rows) (last_number later) ≡ last_number (rows ++ later)
both_last rows [] = ap last_number (sym (append-nil rows))
both_last rows (r ∷ rs) = ap (λ b. cond b (last_number rows) (last_number (r ∷ rs))) (ne_eqb (length (r ∷ rs)) 0 (λ e. omega (arith, e))) ∙ sym (last_later rows r rs)

-- ---- the last gap of all channels after some rows

abbrev gap_if : (later : Bool) → ℕ → Option ℕ
gap_if b gap = elim b [ true ↦ Some gap | false ↦ None ]

none_after : (gap number : ℕ) → gap ≤ number → gap_after gap number ≡ None
none_after gap number le = ap (λ b. gap_if b gap) (le-ltb number gap le)

one_after : (gap number : ℕ) → number < gap → gap_after gap number ≡ Some gap
one_after gap number lt = ap (λ b. gap_if b gap) (lt-ltb number gap lt)

pub no_gap : (gap : ℕ) (rows : List Item) → gap ≤ last_number rows → with_gap gap rows ≡ rows
no_gap gap rows le = ap (λ o. rows ++ gap_items o) (none_after gap (last_number rows) le) ∙ append-nil rows

pub one_gap : (gap : ℕ) (rows : List Item) → last_number rows < gap → with_gap gap rows ≡ rows ++ gap_item gap ∷ []
one_gap gap rows lt = ap (λ o. rows ++ gap_items o) (one_after gap (last_number rows) lt)

-- the gap comes after the rows, or not
pub before_or_after : (gap : ℕ) (rows : List Item) → (gap ≤ last_number rows) ⊎ (last_number rows < gap)
before_or_after gap rows = at (nat_lt (last_number rows) gap) refl
  where
    at : (b : Bool) → nat_lt (last_number rows) gap ≡ b → (gap ≤ last_number rows) ⊎ (last_number rows < gap)
    at true e = inr (ltb-true (last_number rows) gap e)
    at false e = inl (ltb-false (last_number rows) gap e)

-- after a row that came after it there is no gap
pub gap_pushed : (gap : ℕ) (rows : List Item) (item : Item) → gap ≤ item.number → with_gap gap (rows ++ item ∷ []) ≡ rows ++ item ∷ []
gap_pushed gap rows item le = let last = last_pushed rows item in no_gap gap (rows ++ item ∷ []) (omega (arith, le, last))

-- ---- rows and later ones

abbrev front_if : (row : Bool) → ℕ → List Item → List Item
front_if true gap rows = with_gap gap rows
front_if false gap rows = rows

part_front : (gap : ℕ) (rows later : List Item) → with_part gap rows later ≡ front_if (begins_with_row later) gap rows ++ later
part_front gap rows later = at (begins_with_row later)
  where
    at : (b : Bool) → (let l : List Item = elim b [ true ↦ with_gap gap rows ++ later | false ↦ rows ++ later ] in l) ≡ front_if b gap rows ++ later
    at true = refl
    at false = refl

pub part_none : (gap : ℕ) (rows : List Item) → with_part gap rows [] ≡ rows
part_none gap rows = append-nil rows

-- where there was no gap
pub part_bare : (later : List Item) → with_part 0 [] later ≡ later
part_bare later = at (begins_with_row later)
  where
    at : (b : Bool) → (let l : List Item = elim b [ true ↦ with_gap 0 [] ++ later | false ↦ [] ++ later ] in l) ≡ later
    at true = refl
    at false = refl

pub joined_later : (gap later : ℕ) → 0 < later → gap_joined gap later ≡ later
joined_later gap later lt = ap (λ b. cond b gap later) (ne_eqb later 0 (λ none. omega (arith, lt, none)))

-- the last gap after rows that come after others
later_gap : (g h last number : ℕ) → g ≤ last → (h ≡ 0) ⊎ (last < h) → last < number → gap_after (gap_joined g h) number ≡ gap_after h number
later_gap g h last number le (inl none) lt =
    ap (λ k. gap_after (gap_joined g k) number) none ∙ none_after g number (omega (arith, le, lt)) ∙ sym (none_after h number (omega (arith, none, lt)))
later_gap g h last number le (inr above) lt = ap (λ k. gap_after k number) (joined_later g h (omega (arith, above)))

-- one row more after later ones
pub part_more : (g h last : ℕ) (rows later : List Item) (item : Item) → is_gap_of_all item ≡ false → last_number rows ≤ last → g ≤ last → (h ≡ 0) ⊎ (last < h) → (later ≡ []) ⊎ (last < last_number later)
    → with_part g rows (with_gap h later ++ item ∷ []) ≡ with_gap (gap_joined g h) (with_part g rows later) ++ item ∷ []
part_more g h last rows [] item own up le (inl none) behind =
    ap (λ k. with_part g rows (with_gap k [] ++ item ∷ [])) none
    ∙ part_front g rows (item ∷ []) ∙ ap (λ b. front_if (not b) g rows ++ item ∷ []) own
    ∙ ap (λ l. with_gap g l ++ item ∷ []) (sym (part_none g rows)) ∙ ap (λ k. with_gap (gap_joined g k) (with_part g rows []) ++ item ∷ []) (sym none)
part_more g h last rows [] item own up le (inr above) behind =
    ap (λ l. with_part g rows (l ++ item ∷ [])) (one_gap h [] (omega (arith, above)))
    ∙ sym (append_assoc rows (gap_item h ∷ []) (item ∷ []))
    ∙ ap (λ l. l ++ item ∷ []) (sym (one_gap h rows (omega (arith, up, above))))
    ∙ ap (λ l. with_gap h l ++ item ∷ []) (sym (part_none g rows))
    ∙ ap (λ k. with_gap k (with_part g rows []) ++ item ∷ []) (sym (joined_later g h (omega (arith, above))))
part_more g h last rows (b ∷ bs) item own up le above (inl none) = absurd (true≢false (ap has_some none))
part_more g h last rows (b ∷ bs) item own up le above (inr behind) =
    let later : List Item = b ∷ bs in
    let front : List Item = front_if (begins_with_row later) g rows in
    let gap : List Item = gap_items (gap_after h (last_number later)) in
    part_front g rows (with_gap h later ++ item ∷ [])
    ∙ sym (append_assoc front (later ++ gap) (item ∷ [])) ∙ ap (λ l. l ++ item ∷ []) (sym (append_assoc front later gap))
    ∙ ap (λ o. ((front ++ later) ++ gap_items o) ++ item ∷ []) (sym (later_gap g h last (last_number later) le above behind) ∙ ap (gap_after (gap_joined g h)) (sym (last_later front b bs)))
    ∙ ap (λ l. with_gap (gap_joined g h) l ++ item ∷ []) (sym (part_front g rows later))

some_append : (xs ys : List Item) → has_some ys ≡ true → has_some (xs ++ ys) ≡ true
some_append [] ys h = h
some_append (x ∷ xs) ys h = refl

-- whether there are some
pub part_some : (gap : ℕ) (rows later : List Item) → has_some (with_part gap rows later) ≡ has_some (rows ++ later)
part_some gap rows [] = refl
part_some gap rows (b ∷ bs) =
    ap has_some (part_front gap rows (b ∷ bs)) ∙ some_append (front_if (begins_with_row (b ∷ bs)) gap rows) (b ∷ bs) refl ∙ sym (some_append rows (b ∷ bs) refl)

-- ---- one row more among single gaps

abbrev kept : (left_out : Bool) → Item → List Item → List Item
kept b x xs = elim b [ true ↦ xs | false ↦ x ∷ xs ]

kept_more : (b c : Bool) (x r : Item) (xs ys : List Item) → b ≡ c → xs ≡ ys ++ r ∷ [] → kept b x xs ≡ kept c x ys ++ r ∷ []
kept_more b c x r xs ys same e = (λ j. kept (same j) x (e j)) ∙ at c
  where
    at : (d : Bool) → kept d x (ys ++ r ∷ []) ≡ kept d x ys ++ r ∷ []
    at true = refl
    at false = refl

not_not : (b : Bool) → b ≡ not (not b)
not_not true = refl
not_not false = refl

-- a row that is no gap of all channels
pub single_on : (rs : List Item) (r : Item) → is_gap_of_all r ≡ false → single_gaps (rs ++ r ∷ []) ≡ single_gaps rs ++ r ∷ []
single_on [] r own = ap (λ b. kept (b && false) r []) own
single_on (x ∷ rs) r own = kept_more _ _ x r _ _ (ap (λ b. is_gap_of_all x && b) (next rs)) (single_on rs r own)
  where
    next : (ys : List Item) → begins_with_gap (ys ++ r ∷ []) ≡ begins_with_gap ys
    next [] = own
    next (y ∷ ys) = refl

pub taken_on : (rs : List Item) (r : Item) → is_gap_of_all r ≡ false → taken_rows (rs ++ r ∷ []) ≡ single_gaps rs ++ r ∷ []
taken_on [] r own = ap (λ b. kept (b && true) r []) own
taken_on (x ∷ rs) r own = kept_more _ _ x r _ _ (ap (λ b. is_gap_of_all x && b) (next rs)) (taken_on rs r own)
  where
    next : (ys : List Item) → not (begins_with_row (ys ++ r ∷ [])) ≡ begins_with_gap ys
    next [] = ap (λ b. not (not b)) own
    next (y ∷ ys) = sym (not_not (is_gap_of_all y))

-- a gap of all channels
pub single_gap : (rs : List Item) (r : Item) → is_gap_of_all r ≡ true → single_gaps (rs ++ r ∷ []) ≡ taken_rows rs ++ r ∷ []
single_gap [] r gap = ap (λ b. kept (b && false) r []) gap
single_gap (x ∷ rs) r gap = kept_more _ _ x r _ _ (ap (λ b. is_gap_of_all x && b) (next rs)) (single_gap rs r gap)
  where
    next : (ys : List Item) → begins_with_gap (ys ++ r ∷ []) ≡ not (begins_with_row ys)
    next [] = gap
    next (y ∷ ys) = not_not (is_gap_of_all y)

pub taken_gap : (rs : List Item) (r : Item) → is_gap_of_all r ≡ true → taken_rows (rs ++ r ∷ []) ≡ taken_rows rs
taken_gap [] r gap = ap (λ b. kept (b && true) r []) gap
taken_gap (x ∷ rs) r gap = λ j. kept (is_gap_of_all x && not (next rs j)) x (taken_gap rs r gap j)
  where
    next : (ys : List Item) → begins_with_row (ys ++ r ∷ []) ≡ begins_with_row ys
    next [] = ap not gap
    next (y ∷ ys) = refl

pub taken_first : (x : Item) (rs : List Item) → is_gap_of_all x ≡ false → has_some (taken_rows (x ∷ rs)) ≡ true
taken_first x rs own = ap (λ b. has_some (kept (b && not (begins_with_row rs)) x (taken_rows rs))) own

-- a gap of all channels makes no difference to whether rows are read
pub taken_some : (x : Item) (rs : List Item) → is_gap_of_all x ≡ true → has_some (taken_rows (x ∷ rs)) ≡ has_some (taken_rows rs)
taken_some x [] gap = ap (λ b. has_some (kept (b && true) x [])) gap
taken_some x (y ∷ rs) gap = ap (λ b. has_some (kept (b && not (not (is_gap_of_all y))) x (taken_rows (y ∷ rs)))) gap ∙ at (is_gap_of_all y)
  where
    at : (b : Bool) → has_some (kept (not (not b)) x (kept (b && not (begins_with_row rs)) y (taken_rows rs))) ≡ has_some (kept (b && not (begins_with_row rs)) y (taken_rows rs))
    at true = refl
    at false = refl

-- ---- what a gap of all channels says

pub said_gap : (i : Interface) (r : Item) → IsSaid i r → is_gap_of_all r ≡ true → (i.gaps ≡ true) × (r ≡ gap_item r.number)
said_gap i r said h = at said.row.gap refl said.lawful
  where
    number : r.number ≡ said.row.number
    number = ap (λ (q : Item). q.number) said.says

    is : is_of_all (gap_of (packet_or_gap said.row.gap (packet_of i said.row.octets))) ≡ true
    is = ap is_gap_of_all (sym said.says) ∙ h

    at : (g : Option (Option ℕ)) → said.row.gap ≡ g → IfSome g (IsGapRow i said.row) → (i.gaps ≡ true) × (r ≡ gap_item r.number)
    at None e law = absurd (true≢false (sym is ∙ ap (λ o. is_of_all (gap_of (packet_or_gap o (packet_of i said.row.octets)))) e ∙ ap is_of_all (no_gap_with i said.row.octets (class_of i said.row.octets))))
    at (Some (Some c)) e law = absurd (true≢false (sym is ∙ ap (λ o. is_of_all (gap_of (packet_or_gap o (packet_of i said.row.octets)))) e))
    at (Some None) e law = (
      law.recorded,
      said.says
          ∙ (λ j. record { number = said.row.number; side = law.side j; packet = packet_or_gap (e j) (packet_of i said.row.octets); length = length (law.octets j); octets = said_octets (law.octets j) })
          ∙ ap gap_item (sym number),
    )

gap_said : (i : Interface) (n : ℕ) → i.gaps ≡ true → IsSaid i (gap_item n)
gap_said i n recorded = record {
  row = record { number = n; side = T; octets = []; gap = Some None };
  lawful = record { recorded = recorded; within = tt; side = refl; octets = refl };
  says = refl;
}

pub gap_is_item : (i : Interface) (k n : ℕ) → i.gaps ≡ true → IsItem i k (gap_item n)
gap_is_item i k n recorded = record { said = gap_said i n recorded; channel = inr refl }

-- ---- rows with a gap are few

pub gap_octets : (gap : ℕ) (rows : List Item) → all_octets (with_gap gap rows) ≡ all_octets rows
gap_octets gap rows = at (gap_after gap (last_number rows))
  where
    at : (o : Option ℕ) → all_octets (rows ++ gap_items o) ≡ all_octets rows
    at None = ap all_octets (append-nil rows)
    at (Some n) = let sum = sum_by_push (λ (x : Item). x.length) rows (gap_item n) in omega (arith, sum)

pub gap_length : (gap : ℕ) (rows : List Item) → length (with_gap gap rows) ≤ length rows + 1
gap_length gap rows = at (gap_after gap (last_number rows))
  where
    at : (o : Option ℕ) → length (rows ++ gap_items o) ≤ length rows + 1
    at None = omega (arith, length-append rows [])
    at (Some n) = omega (arith, length-append rows (gap_item n ∷ []))

alone : (P : Item → Type 0) (item : Item) → P item → All P (item ∷ [])
alone P item h zero d lt = h
alone P item h (suc n) d lt = absurd (omega (arith, lt))

pub all_more : (P : Item → Type 0) (rows : List Item) (item : Item) → All P rows → P item → All P (rows ++ item ∷ [])
all_more P rows item all one = All-append P rows (item ∷ []) all (alone P item one)

-- each is one of its channel, where gaps are rows if there is one
pub gap_items_of : (i : Interface) (k gap : ℕ) (rows : List Item) → (gap ≡ 0) ⊎ (i.gaps ≡ true) → All (IsItem i k) rows → All (IsItem i k) (with_gap gap rows)
gap_items_of i k gap rows recorded all = at (before_or_after gap rows) recorded
  where
    at : (gap ≤ last_number rows) ⊎ (last_number rows < gap) → (gap ≡ 0) ⊎ (i.gaps ≡ true) → All (IsItem i k) (with_gap gap rows)
    at (inl le) h = subst (All (IsItem i k)) (sym (no_gap gap rows le)) all
    at (inr lt) (inl none) = absurd (omega (arith, lt, none))
    at (inr lt) (inr are) = subst (All (IsItem i k)) (sym (one_gap gap rows lt)) (all_more (IsItem i k) rows (gap_item gap) all (gap_is_item i k gap are))
