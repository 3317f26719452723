-- Nothing is known of the blocks so far.
use Rattle.std.proofs.Common.{◌≡◌, ◌<◌, ℕ}
use Rattle.udfs_index.specs.Copying.{AreAllTold}
use Rattle.udfs_index.specs.Index.{contents_of}
use Rattle.udfs_index.specs.Stores.{states_of}
use Rattle.udfs_lattice.specs.declared.facts.Fact.TheVariants.{Unknown}
use Rattle.udfs_remarks.specs.IndexBlocks.{bounded}
use Rattle.udfs_remarks.proofs.index_blocks.IndexBlocks.least_behind.Given as goal

abbrev pub invariant-loop-block : goal.invariant-loop-block
invariant-loop-block g l = record {
  behind : l.last < l.block;
  none : AreAllTold g.S.Stored.content → (n : ℕ) → l.last < n → n < l.block → bounded (states_of (contents_of g.S.Stored.content l.self.index.now.inputs.items) l.self.index.now.places.packets.items) n ≡ Unknown;
}
