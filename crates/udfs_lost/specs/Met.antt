-- Information control blocks that a search has met.
--     AgreeOn numbers order            the set has the numbers of those in the list
--     with_icb order icb               the list with one more, unless it is there
--     AreMetWith old icbs new          all of these were met, after those before
--     IsClosed view met                whatever one of them names is among them
--     IsExplored view old icb new      all that names lead to from one more are among them
use Rattle.std.specs.Prelude.{◌≡◌, ℕ, Bool, true, List, [], ◌∷◌, ◌++◌, cond, nat_lt, Contains}
use Rattle.std.specs.BTreeSet.{BTreeSet, contains}
use Rattle.std.specs.List.{list_any, list_all}
use Rattle.std.specs.Ordering.{nat_cmp}
use Rattle.udfs_tag.specs.Fields.{number_of}
use Rattle.udfs_space.specs.Places.{View}
use Rattle.udfs_walk.specs.Targets.{Icb, is_icb}
use Rattle.udfs_lost.specs.Naming.{LeadsTo, names_at}

-- a logical block has 32 bits
abbrev pub is_near : Icb → Bool
is_near icb = nat_lt icb.block 4294967296

-- a set of numbers is that of the information control blocks in the list
abbrev pub AgreeOn : BTreeSet ℕ → List Icb → Type 0
AgreeOn numbers order = (list_all is_near order ≡ true)
    × ((icb : Icb) → is_near icb ≡ true → contains nat_cmp numbers (number_of icb) ≡ list_any (is_icb icb) order)

-- the list with one more behind the others, unless it is there
abbrev pub with_icb : List Icb → Icb → List Icb
with_icb order icb = cond (list_any (is_icb icb) order) order (order ++ icb ∷ [])

-- all of these were met, and those that are new are behind the others
pub record AreMetWith (old icbs new : List Icb) : Type 0 where
  pub more : List Icb
  pub is : new ≡ old ++ more
  pub among : (x : Icb) → Contains more x → Contains icbs x
  pub has : (x : Icb) → Contains icbs x → Contains new x

-- whatever one of them names is among them
abbrev pub IsClosed : View → List Icb → Type 0
IsClosed view met = (f g : Icb) → Contains met f → Contains (names_at view f) g → Contains met g

-- one was met, and all that names lead to from it: those that are new are behind the others
pub record IsExplored (view : View) (old : List Icb) (icb : Icb) (new : List Icb) : Type 0 where
  pub rest : List Icb
  pub is : new ≡ old ++ rest
  pub leads : (x : Icb) → Contains rest x → LeadsTo view icb x
  pub has : Contains new icb
  pub closed : IsClosed view new
