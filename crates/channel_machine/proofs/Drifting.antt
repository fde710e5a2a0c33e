-- Calls after which another may be hidden.
use Rattle.std.proofs.Common.{◌≡◌, ℕ, Bool, true, false, refl, sym, ◌∙◌, Some}
use Rattle.std.specs.Prelude.{◌-◌}
use Rattle.line_model.specs.declared.interface.Interface.{Interface}
use Rattle.line_model.specs.declared.state.Side.{Side}
use Rattle.line_model.specs.declared.state.Side.TheVariants.{T, N}
use Rattle.line_model.specs.channels.Channels.{Channel}
use Rattle.line_model.specs.packets.Formats.{for_side, is_out}
use Rattle.line_model.specs.channels.Gaps.{largest_terms}
use Rattle.channel_machine.specs.Largest.{largest_values}
use Rattle.channel_machine.specs.TermsRepresent.{Agreed, TermsRepresent, values_in_force}

-- the same value for both sides
same_for : (out : Bool) (x : Side) (n : ℕ) → n ≡ for_side out x (n, n)
same_for true T n = refl
same_for true N n = refl
same_for false T n = refl
same_for false N n = refl

largest_in_force : (i : Interface) (c : Channel) → largest_values i ≡ values_in_force i (record c { accepting = Some (largest_terms i) })
largest_in_force i c = λ k. record {
  size_t = same_for (is_out c) T 4096 k;
  size_n = same_for (is_out c) N 4096 k;
  window_t = same_for (is_out c) T (i.modulus - 1) k;
  window_n = same_for (is_out c) N (i.modulus - 1) k;
}

pub largest_represents : (old new : Agreed) (c : Channel) → TermsRepresent old c → new.interface ≡ old.interface → new.call ≡ old.call →
    new.values ≡ largest_values old.interface → TermsRepresent new (record c { accepting = Some (largest_terms old.interface) })
largest_represents old new c s interface call values = record {
  call = call ∙ s.call;
  values = values ∙ largest_in_force old.interface c ∙ (λ k. values_in_force (sym interface k) (record c { accepting = Some (largest_terms old.interface) }));
}
