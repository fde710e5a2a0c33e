-- The fault of a message, by the settings of both PADs.
use Rattle.std.proofs.Common.{◌≡◌, ℕ, true, false, refl, sym, ◌∙◌, ap, List, Option, Some, None}
use Rattle.std.specs.Prelude.{◌&&◌, not}
use Rattle.std.specs.List.{list_any}
use Rattle.line_model.specs.declared.state.Side.{Side}
use Rattle.line_model.specs.declared.state.Side.TheVariants.{T, N}
use Rattle.line_model.specs.declared.finding.Xcode.{Xcode}
use Rattle.line_model.specs.declared.finding.Xcode.TheVariants.{X3, X4}
use Rattle.line_model.specs.channels.Channels.{PadMessage}
use Rattle.line_model.specs.packets.Formats.{or_other}
use Rattle.line_model.specs.channels.Pad.{form_fault, was_asked, is_indication, is_set, message_fault, is_refusable, standard_pairs}
use Rattle.pad.specs.Codes.{octets_of}
use Rattle.pad.specs.declared.message.MessageCode.{MessageCode}
use Rattle.pad.specs.declared.message.MessageCode.TheVariants.{Indication, InvitationToClear, Set, Break, Read, Error, SetAndRead, Reselection, ReselectionWithAddress}
use Rattle.pad.specs.Effects.{own_fault}

-- a message that is neither an indication nor a set has none
no_fault : (x : Side) (ts : List PadMessage) (c : MessageCode) (ps : List ℕ) → form_fault (octets_of c ps) ≡ None → is_indication (octets_of c ps) ≡ false →
    is_set (octets_of c ps) ≡ false → None ≡ message_fault x ts (octets_of c ps)
no_fault x ts c ps wf not_indication not_set =
    let m : List ℕ = octets_of c ps in
    sym (ap (λ o. elim o [
      | Some f ↦ Some f
      | None ↦ elim (is_indication m && not (was_asked x ts)) [
        | true ↦ Some X4
        | false ↦ elim (is_set m && list_any is_refusable (standard_pairs m)) [ true ↦ Some X3 | false ↦ None ]
      ]
    ]) wf
    ∙ ap (λ b. elim (b && not (was_asked x ts)) [
      | true ↦ Some X4
      | false ↦ elim (is_set m && list_any is_refusable (standard_pairs m)) [ true ↦ Some X3 | false ↦ None ]
    ]) not_indication
    ∙ ap (λ b. elim (b && list_any is_refusable (standard_pairs m)) [ true ↦ Some X3 | false ↦ None ]) not_set)

or_none : (o : Option Xcode) → or_other o None ≡ o
or_none None = refl
or_none (Some f) = refl

pub both : (ts : List PadMessage) (x : Side) (c : MessageCode) (ps : List ℕ) → form_fault (octets_of c ps) ≡ None →
    or_other (own_fault T ts (record { from = x; message = octets_of c ps })) (own_fault N ts (record { from = x; message = octets_of c ps }))
    ≡ message_fault x ts (octets_of c ps)
both ts T Indication ps wf = or_none (message_fault T ts (octets_of Indication ps))
both ts T InvitationToClear ps wf = no_fault T ts InvitationToClear ps wf refl refl
both ts T Set ps wf = refl
both ts T Break ps wf = no_fault T ts Break ps wf refl refl
both ts T Read ps wf = no_fault T ts Read ps wf refl refl
both ts T Error ps wf = no_fault T ts Error ps wf refl refl
both ts T SetAndRead ps wf = refl
both ts T Reselection ps wf = no_fault T ts Reselection ps wf refl refl
both ts T ReselectionWithAddress ps wf = no_fault T ts ReselectionWithAddress ps wf refl refl
both ts N Indication ps wf = refl
both ts N InvitationToClear ps wf = no_fault N ts InvitationToClear ps wf refl refl
both ts N Set ps wf = or_none (message_fault N ts (octets_of Set ps))
both ts N Break ps wf = no_fault N ts Break ps wf refl refl
both ts N Read ps wf = no_fault N ts Read ps wf refl refl
both ts N Error ps wf = no_fault N ts Error ps wf refl refl
both ts N SetAndRead ps wf = or_none (message_fault N ts (octets_of SetAndRead ps))
both ts N Reselection ps wf = no_fault N ts Reselection ps wf refl refl
both ts N ReselectionWithAddress ps wf = no_fault N ts ReselectionWithAddress ps wf refl refl
