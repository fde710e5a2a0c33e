-- The values in force of terms, and those of a channel.
use Rattle.std.proofs.Common.{◌≡◌, ℕ, Bool, true, false, true≢false, refl, sym, ◌∙◌, ap, List, Option, Some, None}
use Rattle.std.specs.Prelude.{◌==◌, is_some, option_map}
use Rattle.std.specs.Option.{option_map_or}
use Rattle.line_model.specs.packets.Facilities.{CallFields, fields_of}
use Rattle.line_model.specs.basics.Octets.{octet}
use Rattle.line_model.specs.declared.interface.Interface.{Interface}
use Rattle.line_model.specs.declared.state.Side.{Side}
use Rattle.line_model.specs.declared.state.Side.TheVariants.{T, N}
use Rattle.line_model.specs.channels.Channels.{Channel, Opening}
use Rattle.line_model.specs.packets.Formats.{was_fast, is_pad_call, size_in_force, or_other, for_side}
use Rattle.channel_machine.specs.TermsRepresent.{Agreed, TermsRepresent, is_fast, is_pad, opened_of, size_of, values_of, with_asked, values_in_force, is_out_of}

fast_by : (o : Option Opening) → option_map_or (λ v. v.fast) (option_map opened_of o) false ≡ option_map_or (λ f. f.fast) (option_map (λ v. fields_of v.packet) o) false
fast_by None = refl
fast_by (Some o) = refl

pad_by : (o : Option Opening) → option_map_or (λ v. v.pad_call) (option_map opened_of o) false ≡ option_map_or (λ f. octet 1 f.data_of_user == 1) (option_map (λ v. fields_of v.packet) o) false
pad_by None = refl
pad_by (Some o) = refl

out_by : (o : Option Opening) → option_map_or (λ v. v.out) (option_map opened_of o) false ≡ option_map_or (λ v. v.out) o false
out_by None = refl
out_by (Some o) = refl

pub fast_represents : (t : Agreed) (c : Channel) → TermsRepresent t c → is_fast t.call ≡ was_fast c
fast_represents t c s = ap (λ o. option_map_or (λ v. v.fast) o false) s.call ∙ fast_by c.opening

pub pad_represents : (t : Agreed) (c : Channel) → TermsRepresent t c → is_pad t.call ≡ is_pad_call c
pad_represents t c s = ap (λ o. option_map_or (λ v. v.pad_call) o false) s.call ∙ pad_by c.opening

pub size_represents : (t : Agreed) (c : Channel) (x : Side) → TermsRepresent t c → size_of t.values x ≡ size_in_force t.interface c x
size_represents t c T s = ap (λ v. v.size_t) s.values
size_represents t c N s = ap (λ v. v.size_n) s.values

-- a value that the accepting packet asks, or otherwise that of the opening packet
asked_over : {A : Type 0} (f : A → ℕ) (a o : Option A) (n : ℕ) → option_map_or f a (option_map_or f o n) ≡ option_map_or f (or_other a o) n
asked_over f None o n = refl
asked_over f (Some v) o n = refl

-- the terms of a call that was opened and not answered
pub opened_represents : (t : Agreed) (i : Interface) (c : Channel) (out : Bool) (xs : List ℕ) (sizes windows : Option (ℕ × ℕ)) →
    c.opening ≡ Some (record { out = out; packet = xs }) → c.accepting ≡ None → t.interface ≡ i → sizes ≡ (fields_of xs).sizes → windows ≡ (fields_of xs).windows →
    t.call ≡ Some (opened_of (record { out = out; packet = xs })) → t.values ≡ with_asked out sizes windows (values_of i) → TermsRepresent t c
opened_represents t i c out xs sizes windows opening accepting interface sizes_are windows_are call values =
    let first : values_in_force i (record c { opening = Some (record { out = out; packet = xs }); accepting = None }) ≡ values_in_force t.interface c =
    λ j. values_in_force (sym interface j) (record c { opening = sym opening j; accepting = sym accepting j }) in
    record {
      call = call ∙ ap (λ o. option_map opened_of o) (sym opening);
      values = values ∙ (λ j. with_asked out (sizes_are j) (windows_are j) (values_of i)) ∙ first;
    }

-- the terms of a call that came up
accepted_by : (i : Interface) (c : Channel) (o : Opening) (xs : List ℕ) →
    with_asked o.out (fields_of xs).sizes (fields_of xs).windows (values_in_force i (record c { opening = Some o; accepting = None }))
    ≡ values_in_force i (record c { opening = Some o; accepting = Some xs })
accepted_by i c o xs =
    let a : CallFields = fields_of xs in
    let b : CallFields = fields_of o.packet in
    λ j. record {
      size_t = asked_over (for_side o.out T) a.sizes b.sizes i.size j;
      size_n = asked_over (for_side o.out N) a.sizes b.sizes i.size j;
      window_t = asked_over (for_side o.out T) a.windows b.windows i.window j;
      window_n = asked_over (for_side o.out N) a.windows b.windows i.window j;
    }

values_accepted : (i : Interface) (c : Channel) (o : Option Opening) (xs : List ℕ) → is_some o ≡ true →
    with_asked (option_map_or (λ v. v.out) o false) (fields_of xs).sizes (fields_of xs).windows (values_in_force i (record c { opening = o; accepting = None }))
    ≡ values_in_force i (record c { opening = o; accepting = Some xs })
values_accepted i c None xs e = absurd (true≢false (sym e))
values_accepted i c (Some o) xs e = accepted_by i c o xs

pub accepted_represents : (old new : Agreed) (c : Channel) (xs : List ℕ) (sizes windows : Option (ℕ × ℕ)) →
    TermsRepresent old c → is_some c.opening ≡ true → c.accepting ≡ None → new.interface ≡ old.interface → new.call ≡ old.call →
    sizes ≡ (fields_of xs).sizes → windows ≡ (fields_of xs).windows → new.values ≡ with_asked (is_out_of old.call) sizes windows old.values →
    TermsRepresent new (record c { accepting = Some xs })
accepted_represents old new c xs sizes windows s is_open unanswered interface call sizes_are windows_are values =
    let out : is_out_of old.call ≡ option_map_or (λ v. v.out) c.opening false = ap (λ o. option_map_or (λ v. v.out) o false) s.call ∙ out_by c.opening in
    record {
      call = call ∙ s.call;
      values = values
          ∙ (λ j. with_asked (out j) (sizes_are j) (windows_are j) (s.values j))
          ∙ (λ j. with_asked (option_map_or (λ v. v.out) c.opening false) (fields_of xs).sizes (fields_of xs).windows (values_in_force old.interface (record c { accepting = unanswered j })))
          ∙ values_accepted old.interface c c.opening xs is_open
          ∙ (λ j. values_in_force (sym interface j) (record c { accepting = Some xs }));
    }

-- the terms of a channel without a call
pub bare_represents : (t : Agreed) (c : Channel) → c.opening ≡ None → c.accepting ≡ None → t.call ≡ None → t.values ≡ values_of t.interface → TermsRepresent t c
bare_represents t c opening accepting call values =
    record {
      call = call ∙ ap (λ o. option_map opened_of o) (sym opening);
      values = values ∙ (λ j. values_in_force t.interface (record c { opening = sym opening j; accepting = sym accepting j }));
    }
