-- Names that are found, beside a set of what tells them apart.
--     AreKeysOf keys names        the set has the keys of these names
use Rattle.std.specs.Prelude.{◌≡◌, ℕ, Bool, List}
use Rattle.std.specs.BTreeSet.{BTreeSet, contains}
use Rattle.std.specs.Cmp.Lexicographic.{slice_cmp}
use Rattle.std.specs.List.{list_any}
use Rattle.std.specs.Ordering.{is_eq, nat_cmp, ordering_then}
use Rattle.std.specs.declared.alloc.Global.{Global}
use Rattle.std.specs.declared.cmp.Ordering.{Ordering}
use Rattle.std.specs.declared.vec.Vec.{Vec}
use Rattle.udfs_tag.specs.Fields.{number_of}
use Rattle.udfs_lost.specs.Folders.{icb_of_entry}
use Rattle.udfs_lost.specs.FoundNames.{Found}

-- the number of an entry, and the units of a name
abbrev pub Key : Type 0
Key = ℕ × Vec ℕ Global

-- keys are in the order of the numbers, and then of the units
abbrev pub key_cmp : Key → Key → Ordering
key_cmp a b = ordering_then (nat_cmp a.0 b.0) (slice_cmp nat_cmp a.1.items b.1.items)

-- a name has this key
abbrev pub has_key : Key → Found → Bool
has_key k f = is_eq (ordering_then (nat_cmp (number_of (icb_of_entry f.lost)) k.0) (slice_cmp nat_cmp f.name k.1.items))

-- a set has the keys of these names
abbrev pub AreKeysOf : BTreeSet Key → List Found → Type 0
AreKeysOf keys names = (k : Key) → contains key_cmp keys k ≡ list_any (has_key k) names
