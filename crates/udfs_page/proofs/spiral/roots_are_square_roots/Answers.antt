use Rattle.udfs_page.proofs.Roots.{root_is_root}
use Rattle.udfs_page.proofs.spiral.roots_are_square_roots.Goals as goal

pub returns : goal.returns
returns c = root_is_root
