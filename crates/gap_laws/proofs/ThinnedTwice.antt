-- Thinning twice is thinning.
use Rattle.std.proofs.Common.{◌≡◌, inl, inr, ℕ, refl, sym, ◌∙◌, ap, subst, List, [], ◌∷◌, ◌++◌, Option, Some, None, append_assoc}
use Rattle.std.specs.List.{AllByRecursion}
use Rattle.line_model.specs.declared.packet.Packet.{Packet}
use Rattle.line_model.specs.declared.packet.Packet as packet
use Rattle.line_model.specs.declared.packet.PacketKind as kind
use Rattle.line_model.specs.basics.Records.{Item}
use Rattle.line_model.specs.packets.Says.{gap_of}
use Rattle.gap_laws.specs.Thinned.{Covers, IsThinned, ThinsAgain, own_channel}

-- a gap for a row and some others is one for the others
covers_rest : (p : Option (Option ℕ)) (r : Item) (run : List Item) → Covers p (r ∷ run) → Covers p run
covers_rest None r run c = c
covers_rest (Some None) r run c = tt
covers_rest (Some (Some k)) r run c = c.1

-- and for that row and others
covers_first : (p : Option (Option ℕ)) (r : Item) (run front : List Item) → Covers p (r ∷ run) → Covers p front → Covers p (r ∷ front)
covers_first None r run front c d = c
covers_first (Some None) r run front c d = tt
covers_first (Some (Some k)) r run front c d = (c.0, d)

covers_both : (p : Option (Option ℕ)) (us vs : List Item) → Covers p us → Covers p vs → Covers p (us ++ vs)
covers_both None us vs c d = c
covers_both (Some None) us vs c d = tt
covers_both (Some (Some k)) [] vs c d = d
covers_both (Some (Some k)) (u ∷ us) vs c d = (c.0, covers_both (Some (Some k)) us vs c.1 d)

-- a gap for another gap is one for its rows
covers_gone : (p : Option (Option ℕ)) (r : Item) (run gone : List Item) → Covers p (r ∷ run) → Covers (gap_of r.packet) gone → Covers p gone
covers_gone None r run gone c d = absurd c
covers_gone (Some None) r run gone c d = tt
covers_gone (Some (Some k)) r run gone c d = at r.packet c.0 d
  where
    none_some : None ≡ Some k → ⊥
    none_some e = cc

    at : (q : Packet) → own_channel q ≡ Some k → Covers (gap_of q) gone → AllByRecursion (λ r. own_channel r.packet ≡ Some k) gone
    at (packet.TheVariants.Channel c kind.TheVariants.Gap) e d = subst (λ o. AllByRecursion (λ r. own_channel r.packet ≡ o) gone) e d
    at packet.TheVariants.GapOfAll e d = absurd (none_some e)
    at q e d = absurd d

-- the rows of the whole recording that are behind a run of the thinned one
record Behind (p : Option (Option ℕ)) (xs rest : List Item) : Type 0 where
  front : List Item
  back : List Item
  parts : xs ≡ front ++ back
  covers : Covers p front
  thinned : IsThinned back rest

behind : (p : Option (Option ℕ)) (run rest xs : List Item) → Covers p run → IsThinned xs (run ++ rest) → Behind p xs rest
behind p [] rest xs c t = record { front = []; back = xs; parts = refl; covers = c; thinned = t }
behind p (r ∷ run) rest xs c (inl (more, same, thin)) =
    let b = behind p run rest more (covers_rest p r run c) thin in
    record { front = r ∷ b.front; back = b.back; parts = same ∙ ap (λ l. r ∷ l) b.parts; covers = covers_first p r run b.front c b.covers; thinned = b.thinned }
behind p (r ∷ run) rest xs c (inr (gone, more, same, covers, thin)) =
    let b = behind p run rest more (covers_rest p r run c) thin in
    record {
      front = gone ++ b.front;
      back = b.back;
      parts = same ∙ ap (λ l. gone ++ l) b.parts ∙ sym (append_assoc gone b.front b.back);
      covers = covers_both p gone b.front (covers_gone p r run gone c covers) b.covers;
      thinned = b.thinned;
    }

pub thins_again : ThinsAgain
thins_again xs ys [] t u = subst (λ l. IsThinned xs l) u t
thins_again xs ys (z ∷ zs) t (inl (rest, same, thin)) = at (λ more first. thins_again more rest zs first thin) (subst (λ l. IsThinned xs l) same t)
  where
    at : ((more : List Item) → IsThinned more rest → IsThinned more zs) → IsThinned xs (z ∷ rest) → IsThinned xs (z ∷ zs)
    at again (inl (more, s, first)) = inl (more, s, again more first)
    at again (inr (run, more, s, covers, first)) = inr (run, more, s, covers, again more first)
thins_again xs ys (z ∷ zs) t (inr (run, rest, same, covers, thin)) =
    let b = behind (gap_of z.packet) run rest xs covers (subst (λ l. IsThinned xs l) same t) in
    inr (b.front, b.back, b.parts, b.covers, thins_again b.back rest zs b.thinned thin)
