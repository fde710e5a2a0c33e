-- Two interfaces whose parameters are the same.
use Rattle.std.proofs.Common.{◌≡◌, ◌∙◌, sym, ap, refl, Bool, true, false, ◌&&◌, ◌==◌, Some}
use Rattle.std.proofs.lemmas.Bool.{eqb-true}
use mathlib.Core.Bool.{beq}
use Rattle.line_model.specs.declared.interface.Interface.{Interface}
use Rattle.line_model.specs.text.Header.{interface_with}
use Rattle.trace_text.proofs.HeaderLemmas.{numbers_of, own_numbers}
use Rattle.trace_text.proofs.NumberLemmas.{both}

beq_true : (a b : Bool) → beq a b ≡ true → a ≡ b
beq_true true true h = refl
beq_true true false h = cc
beq_true false true h = cc
beq_true false false h = refl

some_interface : (a b : Interface) → Some a ≡ Some b → a ≡ b
some_interface a b h = cc

by_numbers : (a b : Interface) → numbers_of a ≡ numbers_of b → a ≡ b
by_numbers a b same = some_interface a b (sym (own_numbers a) ∙ ap interface_with same ∙ own_numbers b)

pub same_interface : (a b : Interface)
    → ((a.modulus == b.modulus) && ((a.window == b.window) && ((a.size == b.size) && ((a.pvc == b.pvc) && ((a.incoming == b.incoming) && ((a.two_way == b.two_way) && ((a.svc == b.svc) && (beq a.join b.join && beq a.gaps b.gaps)))))))) ≡ true → a ≡ b
same_interface a b h =
    let modulus = both (a.modulus == b.modulus) ((a.window == b.window) && ((a.size == b.size) && ((a.pvc == b.pvc) && ((a.incoming == b.incoming) && ((a.two_way == b.two_way) && ((a.svc == b.svc) && (beq a.join b.join && beq a.gaps b.gaps))))))) h in
    let window = both (a.window == b.window) ((a.size == b.size) && ((a.pvc == b.pvc) && ((a.incoming == b.incoming) && ((a.two_way == b.two_way) && ((a.svc == b.svc) && (beq a.join b.join && beq a.gaps b.gaps)))))) modulus.1 in
    let size = both (a.size == b.size) ((a.pvc == b.pvc) && ((a.incoming == b.incoming) && ((a.two_way == b.two_way) && ((a.svc == b.svc) && (beq a.join b.join && beq a.gaps b.gaps))))) window.1 in
    let pvc = both (a.pvc == b.pvc) ((a.incoming == b.incoming) && ((a.two_way == b.two_way) && ((a.svc == b.svc) && (beq a.join b.join && beq a.gaps b.gaps)))) size.1 in
    let incoming = both (a.incoming == b.incoming) ((a.two_way == b.two_way) && ((a.svc == b.svc) && (beq a.join b.join && beq a.gaps b.gaps))) pvc.1 in
    let two_way = both (a.two_way == b.two_way) ((a.svc == b.svc) && (beq a.join b.join && beq a.gaps b.gaps)) incoming.1 in
    let svc = both (a.svc == b.svc) (beq a.join b.join && beq a.gaps b.gaps) two_way.1 in
    let joins = both (beq a.join b.join) (beq a.gaps b.gaps) svc.1 in
    by_numbers a b (λ k. record {
      modulus = eqb-true a.modulus b.modulus modulus.0 k;
      window = eqb-true a.window b.window window.0 k;
      size = eqb-true a.size b.size size.0 k;
      pvc = eqb-true a.pvc b.pvc pvc.0 k;
      incoming = eqb-true a.incoming b.incoming incoming.0 k;
      two_way = eqb-true a.two_way b.two_way two_way.0 k;
      svc = eqb-true a.svc b.svc svc.0 k;
      join = beq_true a.join b.join joins.0 k;
      gaps = beq_true a.gaps b.gaps joins.1 k;
    })
