use Rattle.std.proofs.Common.{Bor, ℕ, List, map, subst}
use Rattle.udfs_walk.specs.NodeFields.{NodeFields}
use Rattle.udfs_salvage.specs.Found.{volume_now}
use Rattle.udfs_salvage.specs.InLine.{IsFirstOf}
use Rattle.udfs_salvage.proofs.InLineLists.{first_listed}
use Rattle.udfs_salvage.proofs.in_line.first_nowhere.Goals as goal

pub returns : goal.returns
returns g c =
    let words : List (List ℕ) = map (λ (w : Bor (List ℕ)). w.now) c.args.only.now in
    let l = c.args.listing.now in
    first_listed (g.B.BlockStore.states l.table.now) (volume_now l.volume) words l.nodes.items c.in_ok-first.first
    (subst (λ (ns : List NodeFields). IsFirstOf words ns c.in_ok-first.first) c.deref.ensures.value c.in_ok-first.ensures)
