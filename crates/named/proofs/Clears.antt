-- What the steps that take names off words write.
use Prim.Native.Nat.{ℕ, ◌+◌, ◌<◌}
use Rattle.std.proofs.Common.{◌≡◌, sym, ap, ◌∙◌, arith, List, [], ◌∷◌, ◌++◌, map, length, take, set, get_or}
use Rattle.std.proofs.lemmas.List.{map_more, length-take-le, length-map}
use Rattle.words.specs.Place.{written_at}
use Rattle.words.proofs.Lists.{written_snoc}
use Rattle.editions.specs.Edition.{unnamed}
use Rattle.editions.specs.declared.Edition.{Edition}

-- one word more
pub unnamed_turn : (e : Edition) (old out ws : List ℕ) (i v : ℕ) → out ≡ written_at old 0 (map (unnamed e) (take i ws)) → i < length old → i < length ws →
    v ≡ unnamed e (get_or ws i 0) → set out i v ≡ written_at old 0 (map (unnamed e) (take (i + 1) ws))
unnamed_turn e old out ws i v p l h f =
    written_snoc old out 0 (map (unnamed e) (take i ws)) i v p (omega (arith, length-map (take i ws) (unnamed e), length-take-le i ws)) l
    ∙ ap (λ x. written_at old 0 (map (unnamed e) (take i ws) ++ x ∷ [])) f ∙ ap (written_at old 0) (sym (map_more (unnamed e) ws i 0 h))
