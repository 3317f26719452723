-- Where the root is asked for, all nodes are.
use Rattle.std.proofs.Common.{◌≡◌, true, false, List, [], ◌∷◌, ap, codes, refl}
use Rattle.std.specs.List.{list_all}
use Rattle.udfs_walk.specs.NodeFields.{NodeFields}
use Rattle.udfs_walk.specs.Unsettled.{is_whole}
use Rattle.udfs_salvage.specs.Reports.{all_whole}
use Rattle.udfs_salvage.specs.Choosing.{RootAsksForAll, chosen, is_node}

chosen_all : (nodes : List NodeFields) → chosen (codes "/" ∷ []) nodes ≡ nodes
chosen_all [] = refl
chosen_all (n ∷ nodes) = ap (λ l. n ∷ l) (chosen_all nodes)

-- the root is a node, so there is one
some_whole : (nodes : List NodeFields) → list_all (is_node nodes) (codes "/" ∷ []) ≡ true → list_all (λ (n : NodeFields). is_whole n.standing) nodes ≡ all_whole nodes
some_whole [] named = let bad : false ≡ true = named in cc
some_whole (n ∷ nodes) named = refl

pub root_asks_for_all : RootAsksForAll
root_asks_for_all nodes = (chosen_all nodes, some_whole nodes)
