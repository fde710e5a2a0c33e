-- The circuits that lines name, line by line.
use Rattle.std.proofs.Common.{◌≡◌, ◌∙◌, sym, ap, subst, refl, ℕ, Bool, true, false, not, ◌&&◌, cond, List, [], ◌∷◌, ◌++◌, Option, Some, None, Result, Ok, Err, OnOk}
use Rattle.std.specs.Option.{option_or}
use Rattle.line_model.specs.basics.Records.{Row}
use Rattle.line_model.specs.declared.state.Side.{Side}
use Rattle.line_model.specs.text.RowLine.{row_of}
use Rattle.line_model.specs.text.Text.{Line, has_header, is_comment}
use Rattle.line_model.specs.text.Header.{words_of}
use Rattle.annotated_trace.specs.Rows.{row_written}
use Rattle.descriptions.specs.Circuits.{AddsHosts, Circuit, KeepsHosts, address_in, circuit_after, circuit_of, kept_host, named_host}
use Rattle.descriptions.specs.declared.circuits.Circuits.{Circuits}

either_of : {X : Type 0} (a b c : Option X) → option_or a (option_or b c) ≡ option_or (option_or a b) c
either_of None b c = refl
either_of (Some x) b c = refl

or_none : {X : Type 0} (a : Option X) → option_or a None ≡ a
or_none None = refl
or_none (Some x) = refl

-- one line more
pub hosts_more : (ls : List Line) (l : Line) (n : ℕ) (side : Side) → named_host (ls ++ l ∷ []) n side ≡ option_or (named_host ls n side) (address_in n side (circuit_of l))
hosts_more [] l n side = or_none (address_in n side (circuit_of l))
hosts_more (m ∷ ls) l n side =
    ap (λ o. option_or (address_in n side (circuit_of m)) o) (hosts_more ls l n side) ∙ either_of (address_in n side (circuit_of m)) (named_host ls n side) (address_in n side (circuit_of l))

pub hosts_kept : {T E A : Type 0} (result : Result T E) (ls : List Line) (l : Line) (before after : Circuits A) → KeepsHosts ls before → OnOk result (AddsHosts (circuit_of l) before after) → OnOk result (KeepsHosts (ls ++ l ∷ []) after)
hosts_kept (Ok x) ls l before after kept adds = λ n side. adds n side ∙ ap (λ o. option_or o (address_in n side (circuit_of l))) (kept n side) ∙ sym (hosts_more ls l n side)
hosts_kept (Err x) ls l before after kept adds = tt

-- the line of a row names none
row_names_none : (ls : List Line) (l : Line) (r : Row) → row_written ls l ≡ Some r → circuit_of l ≡ None
row_names_none ls l r h = by (is_comment l) (has_header ls) refl h
  where
    by : (c b : Bool) → is_comment l ≡ c → cond (b && not (is_comment l)) (row_of l) None ≡ Some r → circuit_of l ≡ None
    by false b is e = ap (λ c. cond c (circuit_after (words_of l)) None) is
    by true true is e = absurd (let bad : None ≡ Some r = sym (ap (λ c. cond (not c) (row_of l) None) is) ∙ e in cc)
    by true false is e = absurd (let bad : None ≡ Some r = e in cc)

pub hosts_same : {A : Type 0} (ls : List Line) (l : Line) (r : Row) (before after : Circuits A) → row_written ls l ≡ Some r → after ≡ before → KeepsHosts ls before → KeepsHosts (ls ++ l ∷ []) after
hosts_same ls l r before after is same kept n side =
    ap (λ c. kept_host c n side) same ∙ kept n side ∙ sym (or_none (named_host ls n side)) ∙ ap (λ o. option_or (named_host ls n side) (address_in n side o)) (sym (row_names_none ls l r is)) ∙ sym (hosts_more ls l n side)
