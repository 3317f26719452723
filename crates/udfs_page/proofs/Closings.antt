-- The ends of folders, one by one.
use Rattle.std.proofs.Common.{◌≡◌, ℕ, ◌+◌, List, ◌++◌, sym, append-nil}
use Rattle.std.specs.Prelude.{codes}
use Rattle.udfs_page.specs.Markups.{markup}
use Rattle.udfs_page.specs.Holes.{closings}
use Rattle.udfs_page.proofs.Texts.{range_text_more}

-- one more folder ends
pub closings_more : (n : ℕ) (old middle new : List ℕ) → middle ≡ old ++ closings n → new ≡ middle ++ markup (codes "</details>\n") → new ≡ old ++ closings (n + 1)
unfolding closings
closings_more n old middle new e h = range_text_more (λ (i : ℕ). markup (codes "</details>\n")) n old middle new e h

-- none ends
pub closings_none : (old : List ℕ) → old ≡ old ++ closings 0
unfolding closings
closings_none old = sym (append-nil old)
