-- What is reported of a node.
use Rattle.std.specs.Prelude.{ℕ, Bool, List, Option}
use Rattle.udfs_tag.specs.declared.layouts.LongAd.{LongAd}
use Rattle.udfs_osta.specs.declared.stamps.Stamp.{Stamp}
use Rattle.udfs_file.specs.declared.faults.Kind.{Kind}
use Rattle.udfs_walk.specs.declared.standings.Standing.{Standing}

-- a path is a list of names, and a name is its units
pub record NodeFields : Type 0 where
  pub path : List (List ℕ)
  pub icb : LongAd
  pub kind : Kind
  pub size : Option ℕ
  pub stamp : Option Stamp
  pub hidden : Bool
  pub standing : Standing
