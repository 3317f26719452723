use Rattle.std.proofs.Common.{◌≡◌, ◌+◌, ◌-◌, subst, arith, ⊎_elim}
use Rattle.std.proofs.lemmas.Bool.{cases_lt}
use Rattle.udfs_space.specs.Places.{block_at}
use Rattle.udfs_space.specs.Views.{view_by}
use Rattle.udfs_file.specs.Portions.{IsUnreadAt}
use Rattle.udfs_file.proofs.store_portions.unread_run.Goals as goal

pub blocks-2-preserved : goal.blocks-2-preserved
blocks-2-preserved g c = record {
  most = omega (arith, c.min-count.ensures, c.blocks-2-test.true);
  unread = λ told j d. ⊎_elim
      (λ near. c.blocks-2.invariant.unread told j near)
      (λ far.
      subst (λ b. IsUnreadAt (block_at (view_by g.B.BlockStore.states c.args.view) c.args.address.reference b) (c.args.n + j)) (let z : c.args.address.block + (c.args.behind + c.blocks-2.count) + (j - c.blocks-2.count) ≡ c.args.address.block + c.args.behind + j = omega (arith, far) in z)
      (subst (λ n. IsUnreadAt (block_at (view_by g.B.BlockStore.states c.args.view) c.args.address.reference (c.args.address.block + (c.args.behind + c.blocks-2.count) + (j - c.blocks-2.count))) n) (let z : c.args.n + c.blocks-2.count + (j - c.blocks-2.count) ≡ c.args.n + j = omega (arith, far) in z)
      (c.unread_step-step.ensures told (j - c.blocks-2.count) (omega (arith, far, d, c.min-count.ensures)))))
      (cases_lt j c.blocks-2.count);
}
