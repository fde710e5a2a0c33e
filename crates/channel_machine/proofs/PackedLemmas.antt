-- The fields of a status in a word.
use Rattle.std.proofs.Common.{◌≡◌, ◌<◌, ◌+◌, ◌*◌, ◌/◌, ◌%◌, ◌^◌, ◌==◌, ℕ, Bool, true, false, refl, sym, ◌∙◌, ap, arith}
use mir.Val.{bool_byte}
use Rattle.data_transfer.specs.FlowResidues.{FlowResidues}
use Rattle.line_model.specs.declared.interface.Interface.{Interface}
use Rattle.data_transfer.specs.Packed.{Packed}
use Rattle.channel_machine.specs.declared.terms.Values.{Values}
use Rattle.channel_machine.specs.Status.{Status, view_of}
use Rattle.std.specs.Prelude.{◌&&◌, cond, Some, None}
use Rattle.channel_run.specs.StatusWord.{state_by, state_in, owed_in, pad_call_in, fast_in, view_in}
use Rattle.channel_machine.specs.declared.terms.Opened.{Opened}
use Rattle.channel_machine.specs.TermsRepresent.{is_fast, is_pad}
use Rattle.channel_machine.specs.PackedStatus.{settled, call_by, call_in, values_in, status_in}

-- five fields, one above the other: the states, whether an indication is owed, the call, and the logarithms of both sizes
abbrev pub owner_bits_of : (s o c t n : ℕ) → ℕ
owner_bits_of s o c t n = s + o * 32 + c * 64 + t * 1024 + n * 16384

-- a bit
pub byte_below : (b : Bool) → bool_byte b < 2
byte_below true = omega arith
byte_below false = omega arith

pub byte_is : (b : Bool) → (bool_byte b == 1) ≡ b
byte_is true = refl
byte_is false = refl

setup_is : (s o c t n : ℕ) → owner_bits_of s o c t n % 8 ≡ s % 8
setup_is s o c t n = omega arith

transfer_is : (s o c t n : ℕ) → s < 32 → owner_bits_of s o c t n / 8 % 4 ≡ s / 8 % 4
transfer_is s o c t n hs = omega (arith, hs)

owed_is : (s o c t n : ℕ) → s < 32 → o < 2 → owner_bits_of s o c t n / 32 % 2 ≡ o
owed_is s o c t n hs ho = omega (arith, hs, ho)

call_is : (s o c t n : ℕ) → s < 32 → o < 2 → c < 16 → owner_bits_of s o c t n / 64 % 16 ≡ c
call_is s o c t n hs ho hc = omega (arith, hs, ho, hc)

size_t_is : (s o c t n : ℕ) → s < 32 → o < 2 → c < 16 → t < 16 → owner_bits_of s o c t n / 1024 % 16 ≡ t
size_t_is s o c t n hs ho hc ht = omega (arith, hs, ho, hc, ht)

size_n_is : (s o c t n : ℕ) → s < 32 → o < 2 → c < 16 → t < 16 → n < 16 → owner_bits_of s o c t n / 16384 % 16 ≡ n
size_n_is s o c t n hs ho hc ht hn = omega (arith, hs, ho, hc, ht, hn)

pub state_of_fields : (s o c t n : ℕ) → s < 32 → state_in (owner_bits_of s o c t n) ≡ state_by (s % 8) (s / 8 % 4)
state_of_fields s o c t n hs = λ j. state_by (setup_is s o c t n j) (transfer_is s o c t n hs j)

pub owed_of_fields : (s o c t n : ℕ) → s < 32 → o < 2 → owed_in (owner_bits_of s o c t n) ≡ (o == 1)
owed_of_fields s o c t n hs ho = ap (λ v. v == 1) (owed_is s o c t n hs ho)

pub call_of_fields : (s o c t n : ℕ) → s < 32 → o < 2 → c < 16 → call_in (owner_bits_of s o c t n) ≡ call_by c
call_of_fields s o c t n hs ho hc = ap (λ v. call_by v) (call_is s o c t n hs ho hc)

pub size_t_of_fields : (s o c t n : ℕ) → s < 32 → o < 2 → c < 16 → t < 16 → 2 ^ (owner_bits_of s o c t n / 1024 % 16) ≡ 2 ^ t
size_t_of_fields s o c t n hs ho hc ht = ap (λ v. 2 ^ v) (size_t_is s o c t n hs ho hc ht)

pub size_n_of_fields : (s o c t n : ℕ) → s < 32 → o < 2 → c < 16 → t < 16 → n < 16 → 2 ^ (owner_bits_of s o c t n / 16384 % 16) ≡ 2 ^ n
size_n_of_fields s o c t n hs ho hc ht hn = ap (λ v. 2 ^ v) (size_n_is s o c t n hs ho hc ht hn)

pub fields_fit : (s o c t n : ℕ) → s < 32 → o < 2 → c < 16 → t < 16 → n < 16 → owner_bits_of s o c t n < 2 ^ 19
fields_fit s o c t n hs ho hc ht hn = omega (arith, hs, ho, hc, ht, hn)

-- the values of a word that was made of them
pub values_new : (w : Packed) (a : ℕ) (f : FlowResidues) (v : Values) → w.owner_bits ≡ a → w.flow ≡ f →
    f.windows ≡ record { of_t = v.window_t; of_n = v.window_n } → 2 ^ (a / 1024 % 16) ≡ v.size_t → 2 ^ (a / 16384 % 16) ≡ v.size_n → values_in w ≡ v
values_new w a f v owner_bits flow windows size_t size_n =
    (λ j. values_in (record { flow = flow j; owner_bits = owner_bits j }))
    ∙ (λ j. record { size_t = size_t j; size_n = size_n j; window_t = (windows j).of_t; window_n = (windows j).of_n })

-- the same with nothing owed
settled_setup : (a : ℕ) → settled a % 8 ≡ a % 8
settled_setup a = omega arith

settled_transfer : (a : ℕ) → settled a / 8 % 4 ≡ a / 8 % 4
settled_transfer a = omega arith

settled_owed : (a : ℕ) → settled a / 32 % 2 ≡ 0
settled_owed a = omega arith

settled_call : (a : ℕ) → settled a / 64 % 16 ≡ a / 64 % 16
settled_call a = omega arith

settled_size_t : (a : ℕ) → settled a / 1024 % 16 ≡ a / 1024 % 16
settled_size_t a = omega arith

settled_size_n : (a : ℕ) → settled a / 16384 % 16 ≡ a / 16384 % 16
settled_size_n a = omega arith

pub settled_status : (i : Interface) (old new : Packed) → new.owner_bits ≡ settled old.owner_bits → new.flow ≡ old.flow →
    status_in i new ≡ record (status_in i old) { owed = false }
settled_status i old new owner_bits flow =
    (λ j. status_in i (record { flow = flow j; owner_bits = owner_bits j }))
    ∙ (λ j. record {
      state = state_by (settled_setup old.owner_bits j) (settled_transfer old.owner_bits j);
      owed = settled_owed old.owner_bits j == 1;
      terms = record {
        interface = i;
        call = call_by (settled_call old.owner_bits j);
        values = record {
          size_t = 2 ^ settled_size_t old.owner_bits j;
          size_n = 2 ^ settled_size_n old.owner_bits j;
          window_t = old.flow.windows.of_t;
          window_n = old.flow.windows.of_n;
        };
      };
      flow = old.flow;
    })

-- the bits of a call, one by one
open_bit : (a : ℕ) → a / 64 % 16 / 8 ≡ a / 2 ^ 9 % 2
open_bit a = omega arith

pad_bit : (a : ℕ) → a / 64 % 16 % 2 ≡ a / 2 ^ 6 % 2
pad_bit a = omega arith

fast_bit : (a : ℕ) → a / 64 % 16 / 2 % 2 ≡ a / 2 ^ 7 % 2
fast_bit a = omega arith

pad_if : (b : Bool) (o : Opened) → is_pad (cond b (Some o) None) ≡ (b && o.pad_call)
pad_if true o = refl
pad_if false o = refl

fast_if : (b : Bool) (o : Opened) → is_fast (cond b (Some o) None) ≡ (b && o.fast)
fast_if true o = refl
fast_if false o = refl

abbrev opened_by : ℕ → Opened
opened_by n = record { out = n / 4 % 2 == 1; fast = n / 2 % 2 == 1; pad_call = n % 2 == 1 }

pub pad_of_call : (a : ℕ) → is_pad (call_in a) ≡ pad_call_in a
pad_of_call a = pad_if (a / 64 % 16 / 8 == 1) (opened_by (a / 64 % 16)) ∙ (λ j. (open_bit a j == 1) && (pad_bit a j == 1))

pub fast_of_call : (a : ℕ) → is_fast (call_in a) ≡ fast_in a
fast_of_call a = fast_if (a / 64 % 16 / 8 == 1) (opened_by (a / 64 % 16)) ∙ (λ j. (open_bit a j == 1) && (fast_bit a j == 1))

-- what is known of a channel by its word
pub view_of_word : (i : Interface) (w : Packed) → record (view_in w) { adrift = false } ≡ view_of (status_in i w)
view_of_word i w = λ j. record {
  state = state_in w.owner_bits;
  adrift = false;
  owed = owed_in w.owner_bits;
  pad_call = sym (pad_of_call w.owner_bits) j;
  fast = sym (fast_of_call w.owner_bits) j;
  size_t = 2 ^ (w.owner_bits / 1024 % 16);
  size_n = 2 ^ (w.owner_bits / 16384 % 16);
  flow = w.flow;
}

-- and by one that was made of a status
pub view_new : (w : Packed) (a : ℕ) (s : Status) → w.owner_bits ≡ a → w.flow ≡ s.flow → state_in a ≡ s.state → owed_in a ≡ s.owed → call_in a ≡ s.terms.call
    → 2 ^ (a / 1024 % 16) ≡ s.terms.values.size_t → 2 ^ (a / 16384 % 16) ≡ s.terms.values.size_n → record (view_in w) { adrift = false } ≡ view_of s
view_new w a s owner_bits flow state owed call size_t size_n =
    (λ j. record (view_in (record { flow = flow j; owner_bits = owner_bits j })) { adrift = false })
    ∙ (λ j. record {
      state = state j;
      adrift = false;
      owed = owed j;
      pad_call = (sym (pad_of_call a) ∙ ap (λ o. is_pad o) call) j;
      fast = (sym (fast_of_call a) ∙ ap (λ o. is_fast o) call) j;
      size_t = size_t j;
      size_n = size_n j;
      flow = s.flow;
    })
