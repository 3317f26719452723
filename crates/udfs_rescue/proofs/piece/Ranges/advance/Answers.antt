use Rattle.udfs_rescue.proofs.Giving.{without_front, advanced}
use Rattle.udfs_rescue.proofs.piece.Ranges.advance.Goals as goal

pub returns-else-front-index : goal.returns-else-front-index
returns-else-front-index c =
    without_front c.args.self.now _ c.requires.later c.requires.first c.args.front c.requires.are c.requires.start c.requires.some c.requires.end
    (advanced c.self.inside.ranges.items c.self.inside.index c.args.front.end c.index_mut.result.now c.requires.first c.args.self.now c.requires.later c.self.view_is c.requires.are c.index_mut.ensures.value)
