-- `into_loose` makes the loose box of the pointer.
use Rattle.std.proofs.Common.{◌≡◌, List, [], ◌∷◌, ◌++◌, ◌∙◌, Option, Some, None, refl, ap, sym, subst}
use mir.Syntax.{Fn}
use mir.Val.{Val, vptr}
use base.Logic.{SProp, ent, emp, id⊢, fst∗, never}
use prog.Wp.{WpFn}
use types.Kit.{‵, raw, ◌⊛◌, ◌$◌, ◌∵◌, !, qed, by, move, keep, split, fsplit3, fjoin, suffices, use0, use1, rewrite}
use types.Run.{stop, fld, of_opd, no_more, and_then, returns, enter}
use types.ByLocal.{alloc_all, pass_all, free_all, look_at, get, get_in, sets}
use types.Part.{agg, sub, whole}
use contract.Monad.{fact, fact_i}
use contract.Running.{tables}
use denote.Exit.{yes}
use denote.RattleType.{owns}
use denote.RawPtr.{Ptr, block_ptr, null_ptr, ptr_val, in_a_block}
use denote.Memory.{lone}
use mir.Raw.{raw as bare}
use types.Logic.{sem}
use Rattle.x25scan_c.specs.declared.scanning.Scanning.{Scanning}
use Rattle.std.specs.Box.Ownership.{box_owns}
use denote.Signature.{types_at, plain}
use denote.Steps.{nothing, heard}
use denote.Triple.Entry.{alive}
use denote.Triple.Walked.{Stays, stay_dropped, walk_of, Goes-dropped}
use Rattle.core.proofs.alloc.Calls.{Goes-blank, handle_tells}
use Rattle.std.proofs.raw_atomic.Walks.{proved_at, leaves}
use Rattle.std_heap.specs.contracts.Global.{the_row as Z}
use Rattle.std_heap.specs.contracts.GlobalAllocator.TheImpl.{ghosts as g}
use Rattle.std_heap.proofs.Global.TheLaws.{the_row_laws as LZ}
use Rattle.x25scan_c.specs.contracts.scanning.Scanning.{the_row as R}
use Rattle.x25scan_c.proofs.LooseValues.{both, al, loose_good, loose_in}
use Rattle.x25scan_c.specs.Owning.{loose_owns}
use Rattle.x25scan_c.specs.Owning.{chunk}
use Rattle.x25scan_c.proofs.HandleValues.{H-row, held_box, held_value, word, handle_out}
use Rattle.x25scan_c.specs.contracts.handle.Handle.into_loose.{ended, clauses}
use Rattle.x25scan_c.specs.contracts.handle.Handle.into_loose.Key.{name as #self}
use Rattle.x25scan_c.proofs.handle.Handle.into_loose.Statement.{statement}
use Rattle.x25scan_c.proofs.handle.Handle.into_loose.Code as code

pub into_loose_spec : {M : Type 1} → statement M
into_loose_spec 𝓤 𝓛 𝓜 𝓡 wired =
    let H = 𝓛.H in let 𝓣 = tables 𝓤 H 𝓜 𝓡 𝓡.env in let c = clauses 𝓛 𝓜.mem 𝓡.returns in let fn : Fn = code.function in
    let hs : Stays ended.signature.params ended.kept = (stay_dropped (plain (λ _. H-row)) yes, (stay_dropped (plain (λ _. Z)) yes, tt)) in
    proved_at 𝓛 ended hs c 𝓜 𝓡 (Goes-blank 𝓛 0 (plain (λ _. H-row)) yes (λ κs x f. tt), (Goes-dropped 𝓛 0 (plain (λ _. Z)) yes (λ κs x w. refl), tt)) #self fn (code.unfolded 𝓤 H 𝓜 𝓡 wired) (λ z are.
    let Post : Val → SProp 𝓤 = (walk_of 𝓛 ended hs c).post z in let Run : List Val → SProp 𝓤 = λ ws. WpFn 𝓤 H 𝓣.C 𝓣.Λ fn ws Post in
    let d = z.0.3.0 in let a = z.0.3.1.0 in
    qed 𝓛 ((raw (alive 𝓛 ended.signature z.0.0 z.0.1) ⊛ ‵ (owns (types_at ended.signature.params z.0.0) z.0.3 z.0.4)) ∷ raw (fact 𝓤 (¬ (d.value ≡ None))) ∷ []) ∵
    move ! (1 ∷ []) $ heard ! (¬ (d.value ≡ None)) (λ some. let held = held_value d.value some in let x : Scanning = held.0 in let has : d.value ≡ Some x = held.1 in split ! $ move ! (1 ∷ []) $ fsplit3 ! $
    handle_out ! d z.0.4.0 (λ ws. rewrite ! 0 (λ (v : Option Scanning). ‵ (loose_owns chunk R d.at v)) has refl $
    use1 𝓛 (‵ (box_owns chunk R d.at x)) (held_box 𝓛 d.at x) $
    in_a_block ! d.at (λ p. box_owns chunk R p x) (fst∗ 𝓤 (never 𝓤) (sem 𝓛 (chunk (bare (lone R.mir)) null_ptr))) (λ b o e.
    -- [the box; the allocator; nothing; the tokens]
    move ! (1 ∷ []) $ handle_tells (al R Z LZ g) ! a z.0.4.1.0 (λ h ea fits. move ! (1 ∷ []) $
    let args : List Val = word (vptr b o) ∷ h ∷ [] in
    let first : z.0.4.0 ≡ word (vptr b o) ∷ [] = ws ∙ ap (λ (p : Ptr). word (ptr_val p) ∷ []) e in
    suffices ! (Run args) (subst (λ (us : List Val × List Val). ent 𝓤 (Run args) (Run (us.0 ++ (us.1 ++ [])))) (λ i. (sym first i, sym ea i)) (id⊢ 𝓤 (Run args))) $
    enter ! 𝓣.C 𝓣.Λ fn args Post $ alloc_all ! (λ l. pass_all ! refl ((tt, (tt, tt)), (fits, tt)) $
    sets ! (of_opd ! (get_in ! (fld ! refl (stop !)) (sub ! 0 refl (whole !)))) refl (tt, tt) $
    sets ! (of_opd ! (get ! refl)) refl (tt, tt) $
    sets ! (agg ! (and_then ! (get ! refl) (and_then ! (get ! refl) (no_more !)))) refl (loose_good R Z LZ g b o h fits) $
    returns ! (look_at ! 0 refl) $ free_all ! refl $
    loose_in R Z LZ g ! b o h a x $
    use0 𝓛 (raw (fact 𝓤 (Some x ≡ d.value))) (fact_i 𝓤 (Some x ≡ d.value) (emp 𝓤) (sym has)) $ nothing ! $ nothing ! $ fjoin ! $ nothing ! $ fjoin ! $
    keep ! (4 ∷ 0 ∷ 2 ∷ 1 ∷ []) $ by ! (leaves 𝓛 ended hs c z (both (vptr b o) h) (record { at = block_ptr b o; alloc = a; value = x }) (tt, (tt, tt)) (tt, (tt, tt)))))))))
