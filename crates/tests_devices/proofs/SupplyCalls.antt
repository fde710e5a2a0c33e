-- `refuses` and `count_back` at a call: what each is handed, and what a caller has of it. Assumes `Logic`.
use Rattle.std.proofs.Common.{◌≡◌, ℕ, Bool, List, [], ◌∷◌, refl, ap}
use seplogic.Ra.Ura.{Ura}
use mir.Val.{Val, vunit, vbool, vptr}
use base.Logic.{SProp, ent, sep, ex, guard, id⊢}
use base.Fml.{Lft, Share, ftrue, fsep, flft}
use prog.Memory.{Memory}
use prog.Routine.{Routine}
use types.Logic.{Logic, sem}
use contract.Monad.{Fun}
use types.Kit.{‵, raw, ◌⊛◌, some, later, ◌$◌, ◌∵◌, !, qed, move, keep, use1, split, join, pick, fjoin, feq_i, feq_l, check, show, await, updating, now as at_once, done}
use denote.RattleType.{RattleType}
use denote.Memory.{hidden_shr}
use denote.Builtin.{bool, unit}
use denote.Steps.{nothing, only}
use denote.Triple.Statement.{Contract}
use denote.Triple.Spec.{triple_of}
use Rattle.tests_devices.specs.contracts.scarce.Supply as SU
use Rattle.tests_devices.specs.contracts.scarce.refuses as RE
use Rattle.tests_devices.specs.contracts.scarce.count_back as CB

abbrev pub Supply : RattleType
Supply = SU.the_row

module _ {M : Type 1} {𝓤 : Ura M} (𝓛 : Logic 𝓤) (at_mem : Memory → SProp 𝓤) (run : Routine → Fun 𝓤) where
  abbrev pub Refuses : Contract 𝓤
  Refuses = triple_of 𝓛 RE.signature (RE.spec 𝓛 at_mem run)

  abbrev pub CountBack : Contract 𝓤
  CountBack = triple_of 𝓛 CB.signature (CB.spec 𝓛 at_mem run)

  abbrev pub at_refuses : Lft → Share → ℕ × ℕ → Supply.Denot → Refuses.Ghost
  at_refuses κ q p s = (((κ, tt), (q, tt), tt, (record { ref_ptr = p; now = s }, tt), (vptr p.0 p.1 ∷ [], tt)), tt)

  abbrev pub at_count : Lft → Share → ℕ × ℕ → Supply.Denot → CountBack.Ghost
  at_count κ q p s = (((κ, tt), (q, tt), tt, (record { ref_ptr = p; now = s }, tt), (vptr p.0 p.1 ∷ [], tt)), tt)

module _ {M : Type 1} {𝓤 : Ura M} (𝓛 : Logic 𝓤) (at_mem : Memory → SProp 𝓤) (run : Routine → Fun 𝓤) (κ : Lft) (q : Share) (p : ℕ × ℕ) (s : Supply.Denot) where
  open 𝓛 use {H, A}

  pub Refuses-goes : ent 𝓤 (sep 𝓤 (sem 𝓛 (hidden_shr Supply κ s p.0 p.1)) (A.lft κ q)) ((Refuses 𝓛 at_mem run).pre (at_refuses 𝓛 at_mem run κ q p s))
  Refuses-goes =
      qed 𝓛 (‵ (hidden_shr Supply κ s p.0 p.1) ∷ ‵ (flft κ q) ∷ []) ∵ feq_i ! (List Val) (vptr p.0 p.1 ∷ []) (vptr p.0 p.1 ∷ []) refl $ fjoin ! $
      nothing ! $ move ! (1 ∷ []) $ fjoin ! $ nothing ! $ move ! (2 ∷ []) $ join ! $ join ! $ nothing ! $ move ! (1 ∷ []) $ done !

  pub Refuses-gives : (v : Val) → ent 𝓤 ((Refuses 𝓛 at_mem run).post (at_refuses 𝓛 at_mem run κ q p s) v) (H.⇛ (ex 𝓤 (λ (y : Bool). guard 𝓤 (v ≡ vbool y) (A.lft κ q))))
  Refuses-gives v =
      qed 𝓛 (raw ((Refuses 𝓛 at_mem run).post (at_refuses 𝓛 at_mem run κ q p s) v) ∷ []) ∵ updating ! $
      use1 𝓛 (later (some (λ (y : Bool). ((‵ (flft κ q) ⊛ ‵ ftrue) ⊛ ‵ (bool.own_val y (v ∷ []))) ⊛ some (λ (ws : Unit {0} × Unit {0}). ‵ (fsep ftrue ftrue) ⊛ ‵ ftrue)))) (id⊢ 𝓤 _) $ await ! tt $ pick ! (λ y.
      split ! $ split ! $ move ! (1 ∷ []) $ feq_l ! (λ e. split ! $ at_once ! $ show ! (λ (z : Bool). guard 𝓤 (v ≡ vbool z) (A.lft κ q)) y $ check ! (ap only e) $ keep ! (0 ∷ []) $ done !))

  pub CountBack-goes : ent 𝓤 (sep 𝓤 (sem 𝓛 (hidden_shr Supply κ s p.0 p.1)) (A.lft κ q)) ((CountBack 𝓛 at_mem run).pre (at_count 𝓛 at_mem run κ q p s))
  CountBack-goes =
      qed 𝓛 (‵ (hidden_shr Supply κ s p.0 p.1) ∷ ‵ (flft κ q) ∷ []) ∵ feq_i ! (List Val) (vptr p.0 p.1 ∷ []) (vptr p.0 p.1 ∷ []) refl $ fjoin ! $
      nothing ! $ move ! (1 ∷ []) $ fjoin ! $ nothing ! $ move ! (2 ∷ []) $ join ! $ join ! $ nothing ! $ move ! (1 ∷ []) $ done !

  pub CountBack-gives : (v : Val) → ent 𝓤 ((CountBack 𝓛 at_mem run).post (at_count 𝓛 at_mem run κ q p s) v) (H.⇛ (guard 𝓤 (v ≡ vunit) (A.lft κ q)))
  CountBack-gives v =
      qed 𝓛 (raw ((CountBack 𝓛 at_mem run).post (at_count 𝓛 at_mem run κ q p s) v) ∷ []) ∵ updating ! $
      use1 𝓛 (later (some (λ (r : Unit {0}). ((‵ (flft κ q) ⊛ ‵ ftrue) ⊛ ‵ (unit.own_val r (v ∷ []))) ⊛ some (λ (ws : Unit {0} × Unit {0}). ‵ (fsep ftrue ftrue) ⊛ ‵ ftrue)))) (id⊢ 𝓤 _) $ await ! tt $ pick ! (λ r.
      split ! $ split ! $ move ! (1 ∷ []) $ feq_l ! (λ e. split ! $ at_once ! $ check ! (ap only e) $ keep ! (0 ∷ []) $ done !))
