use Rattle.std.proofs.Common.{◌≡◌, ℕ, ◌+◌, ◌-◌, take, drop, ap, arith}
use Rattle.udfs_index.proofs.window.Window.block.Goals as goal

pub returns-clause-bytes : goal.returns-clause-bytes
returns-clause-bytes c = let z : c.args.at + 2048 - c.args.at ≡ 2048 = omega arith in ap (λ (k : ℕ). take k (drop c.args.at c.args.self.now.bytes)) z
