-- Texts that are written in part where memory runs out. Every crate that appends to a text uses these two definitions.
use Rattle.std.specs.Prelude.{◌≡◌, ℕ, List, ◌++◌}

-- new is old followed by a beginning of the whole: what an error leaves
pub record AppendsPart (old new whole : List ℕ) : Type 0 where
  pub part : List ℕ
  pub more : List ℕ
  pub is_part : part ++ more ≡ whole
  pub appended : new ≡ old ++ part

-- new is old followed by what is written so far, and the rest is still to be written: the state of a writer before it is done
pub record IsPartWritten (old new whole rest : List ℕ) : Type 0 where
  pub done : List ℕ
  pub so_far : new ≡ old ++ done
  pub left : done ++ rest ≡ whole
