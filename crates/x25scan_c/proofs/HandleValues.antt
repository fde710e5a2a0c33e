-- The machine values of a `Handle`. Assumes `Logic`.
use Rattle.std.proofs.Common.{◌≡◌, List, [], ◌∷◌, ◌++◌, ◌∙◌, refl, Option, Some, None}
use seplogic.Ra.Ura.{Ura}
use mir.Val.{Val, vstruct, vcons, vnil, of_list}
use base.Logic.{ent, id⊢}
use base.Fml.{ftrue}
use types.Logic.{Logic, sem}
use Rattle.std.specs.Box.Ownership.{box_owns}
use types.Kit.{Item, Goal, Seq, Step, step, ‵, ◌$◌, drop, fsplit, fpick, fjoin, fpack, feq_i, feq_l}
use denote.RattleType.{RattleType, Valss}
use denote.Builtin.{RawPtr}
use denote.RawPtr.{Ptr, ptr_val}
use denote.Steps.{nothing}
use denote.Struct.Struct.{within}
use denote.Struct.Owning.{shape}
use Rattle.x25scan_c.specs.Owning.{loose_owns}
use Rattle.x25scan_c.specs.Owning.{chunk}
use Rattle.x25scan_c.specs.declared.scanning.Scanning.{Scanning}
use Rattle.x25scan_c.specs.contracts.scanning.Scanning.{the_row as Scanning-row}
use Rattle.x25scan_c.specs.contracts.handle.Handle as handle

abbrev pub H-row : RattleType
H-row = handle.the_row

pub held_value : {A : Type 0} (v : Option A) → ¬ (v ≡ None) → (x : A) × (v ≡ Some x)
held_value (Some x) some = (x, refl)
held_value None some = absurd (some refl)

abbrev pub word : Val → Val
word v = vstruct (vcons v vnil)

module _ {M : Type 1} {𝓤 : Ura M} {𝓛 : Logic 𝓤} {K : Type 0} {Γ : List (Item 𝓤)} {G : Goal 𝓤 𝓛.H} where
  pub handle_in : K → (p : Ptr) (x : Option Scanning)
      → Step K 𝓛 (‵ (H-row.own_val (record { at = p; value = x }) (word (ptr_val p) ∷ [])) ∷ Γ) G (‵ (loose_owns chunk Scanning-row p x) ∷ Γ) G
  handle_in t p x = step (λ s. let v : Val = word (ptr_val p) in
      nothing t $ feq_i t (List Val) (ptr_val p ∷ []) (ptr_val p ∷ []) refl $ fjoin t $ feq_i t (List Val) (v ∷ []) (v ∷ []) refl $ fjoin t $
      fpack t (Valss (RawPtr ∷ [])) (within (shape handle.the_type) (p, tt) (v ∷ [])) (ptr_val p ∷ [], tt) $ fjoin t $ s)

  pub handle_out : K → (d : H-row.Denot) (vs : List Val)
      → (vs ≡ word (ptr_val d.at) ∷ [] → Seq K 𝓛 (‵ (loose_owns chunk Scanning-row d.at d.value) ∷ Γ) G) → Seq K 𝓛 (‵ (H-row.own_val d vs) ∷ Γ) G
  handle_out t d vs k =
      fsplit t $ fpick t (λ vss. fsplit t $ feq_l t (λ ev. fsplit t $ feq_l t (λ ep. drop t $ k (ev ∙ (λ j. vstruct (of_list (ep j ++ [])) ∷ [])))))

module _ {M : Type 1} {𝓤 : Ura M} (𝓛 : Logic 𝓤) where
  -- what a box owns is what a handle with its value does
  pub box_held : (p : Ptr) (x : Scanning) → ent 𝓤 (sem 𝓛 (box_owns chunk Scanning-row p x)) (sem 𝓛 (loose_owns chunk Scanning-row p (Some x)))
  unfolding loose_owns
  box_held p x = id⊢ 𝓤 _

  pub held_box : (p : Ptr) (x : Scanning) → ent 𝓤 (sem 𝓛 (loose_owns chunk Scanning-row p (Some x))) (sem 𝓛 (box_owns chunk Scanning-row p x))
  unfolding loose_owns
  held_box p x = id⊢ 𝓤 _

  pub none_held : (p : Ptr) → ent 𝓤 (sem 𝓛 ftrue) (sem 𝓛 (loose_owns chunk Scanning-row p None))
  unfolding loose_owns
  none_held p = id⊢ 𝓤 _
