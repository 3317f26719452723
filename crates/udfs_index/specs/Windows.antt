-- Bytes of an input that were read at once, from which blocks are copied.
use Rattle.std.specs.Prelude.{ℕ, ◌≤◌, List, take, Option}
use Rattle.udfs_index.specs.declared.window.Window.{Window}
use Rattle.udfs_index.specs.Index.{IsFrontAt}

-- where the bytes of all inputs are known, the first `len` bytes of the window are those from its place on
pub record IsRead (contents : List (Option (List ℕ))) (window : Window) : Type 0 where
  pub fits : window.len ≤ 65536
  pub front : IsFrontAt contents window.place (take window.len window.bytes)
