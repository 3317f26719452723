use Rattle.std.proofs.Common.{◌≡◌, ◌∙◌, sym, ap, subst, map, min, ◌+◌, ◌-◌, ◌*◌, ◌/◌, ◌%◌, arith}
use Rattle.std.specs.List.{range_with_len}
use Rattle.udfs_space.specs.Places.{block_at}
use Rattle.udfs_space.specs.Views.{view_by}
use Rattle.udfs_file.specs.Bodies.{recorded_cell}
use Rattle.udfs_file.specs.Portions.{AreUnread, IsUnreadAt}
use Rattle.udfs_file.proofs.PortionCells.{unread_cells}
use Rattle.udfs_file.proofs.store_portions.unread_bytes.Goals as goal

pub returns-clause-cells : goal.returns-clause-cells
returns-clause-cells g c told = let v = view_by g.B.BlockStore.states c.args.view in
    subst (λ k. AreUnread c.args.n k (map (recorded_cell v c.args.run.address.reference c.args.run.address.block) (range_with_len c.args.at c.min-count.result)))
    (let z : c.unread_run-behind.result + 1 ≡ c.args.n + c.unread_run-behind.result + 1 - c.args.n = omega arith in z)
    (subst (λ k. AreUnread c.args.n (c.unread_run-behind.result + 1) (map (recorded_cell v c.args.run.address.reference c.args.run.address.block) (range_with_len c.args.at k))) (sym (c.min-count.ensures ∙ ap (λ m. min c.args.left (2048 * (m + 1) - c.args.at % 2048)) c.from.ensures))
    (unread_cells v c.args.run.address.reference c.args.run.address.block c.args.at c.args.left c.args.n c.unread_run-behind.result c.requires.some c.unread_run-behind.ensures.most (c.requires.unread told)
    (λ j d. subst (λ b. IsUnreadAt (block_at v c.args.run.address.reference b) (c.args.n + 1 + j))
    (let z : c.args.run.address.block + (c.args.at / 2048 + 1) + j ≡ c.args.run.address.block + c.args.at / 2048 + 1 + j = omega arith in z) (c.unread_run-behind.ensures.unread told j d))))
