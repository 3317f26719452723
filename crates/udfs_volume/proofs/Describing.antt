-- Each map beside the descriptor of its partition, one after the other.
use Rattle.std.proofs.Common.{◌≡◌, refl, ◌∙◌, ap, List, [], ◌∷◌, ◌++◌, append_assoc, Option, Some, None}
use Rattle.udfs_volume.specs.Sequence.{Descriptor}
use Rattle.udfs_volume.specs.Layout.{NumberedMap, Described, partition, described, before_described}

abbrev pub with_front : List Described → Option (List Described) → Option (List Described)
with_front front None = None
with_front front (Some rest) = Some (front ++ rest)

pub front-none : (o : Option (List Described)) → with_front [] o ≡ o
front-none None = refl
front-none (Some xs) = refl

front-step : (m : NumberedMap) (d : Descriptor) (front : List Described) (o : Option (List Described)) → with_front (front ++ (m.0, d) ∷ []) o ≡ with_front front (before_described m.0 (Some d) o)
front-step m d front None = refl
front-step m d front (Some rest) = ap Some (append_assoc front ((m.0, d) ∷ []) rest)

pub described-step : (ds : List Descriptor) (m : NumberedMap) (ms : List NumberedMap) (d : Descriptor) (front : List Described) (x : Option (List Described)) → Some d ≡ partition m.1 ds
    → with_front front (described ds (m ∷ ms)) ≡ x → with_front (front ++ (m.0, d) ∷ []) (described ds ms) ≡ x
described-step ds m ms d front x e h = front-step m d front (described ds ms) ∙ ap (λ o. with_front front (before_described m.0 o (described ds ms))) e ∙ h

pub described-none : (ds : List Descriptor) (m : NumberedMap) (ms : List NumberedMap) (front : List Described) (x : Option (List Described)) → None ≡ partition m.1 ds
    → with_front front (described ds (m ∷ ms)) ≡ x → None ≡ x
described-none ds m ms front x e h = ap (λ o. with_front front (before_described m.0 o (described ds ms))) e ∙ h
