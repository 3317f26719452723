use Rattle.std.proofs.Common.{◌∙◌, [], ◌∷◌, ap, map}
use Rattle.std.proofs.lemmas.List.{map-append}
use Rattle.std.specs.declared.alloc.Global.{Global}
use Rattle.std.specs.declared.vec.Vec.{Vec}
use Rattle.udfs_walk.specs.NodeFields.{NodeFields}
use Rattle.udfs_walk.proofs.forests.put.Goals as goal

pub returns : goal.returns
returns c = ap (map (λ (tree : Vec NodeFields Global). tree.items)) c.in_ok-push.ensures.items ∙ map-append (λ (tree : Vec NodeFields Global). tree.items) c.args.trees.now.items (c.args.tree ∷ [])
