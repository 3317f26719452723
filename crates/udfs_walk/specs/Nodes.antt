-- What is reported of the end of a route.
--     node view w                          the node
use Rattle.std.specs.Prelude.{[], ◌∷◌, cond, Some, None}
use Rattle.udfs_volume.specs.declared.profiles.Profile.{Profile}
use Rattle.udfs_space.specs.Places.{View}
use Rattle.udfs_file.specs.Entries.{EntryFields}
use Rattle.udfs_file.specs.Bodies.{body}
use Rattle.udfs_file.specs.declared.faults.Kind.TheVariants.{Unread}
use Rattle.udfs_walk.specs.Kinds.{kind_by}
use Rattle.udfs_walk.specs.NodeFields.{NodeFields}
use Rattle.udfs_walk.specs.Standings.{body_standing}
use Rattle.udfs_walk.specs.Targets.{Target, bad, unread, entry, target}
use Rattle.udfs_walk.specs.Routes.{Walked, is_loop, is_deep}
use Rattle.udfs_walk.specs.declared.standings.Standing.{Standing}
use Rattle.udfs_walk.specs.declared.standings.Standing.TheVariants.{Torn, Loop, Fault}

-- a node whose entry is read, of the kind that these rules say
abbrev pub told : Profile → Walked → EntryFields → Standing → NodeFields
told profile w e standing = record {
  path = w.path;
  icb = w.address;
  kind = kind_by profile e.kind;
  size = Some e.size;
  stamp = Some e.stamp;
  hidden = w.hidden;
  standing = standing;
}

-- a node whose entry is not read
abbrev pub untold : Walked → Standing → NodeFields
untold w standing = record {
  path = w.path;
  icb = w.address;
  kind = Unread;
  size = None;
  stamp = None;
  hidden = w.hidden;
  standing = standing;
}

-- a loop, or what the body says
abbrev pub entry_standing : View → Walked → EntryFields → Standing
entry_standing view w e = cond (is_loop w) Loop
    (body_standing view.profile e.kind (is_deep w) (body view w.address.reference w.address.block e))

-- the first that holds: a bad address, an ICB that is not known, a fault of the entry, a loop, a fault of the body
-- or of what a directory lists, missing cells; else it is whole
abbrev pub node_at : View → Walked → Target → NodeFields
node_at view w (bad f) = untold w (Fault f)
node_at view w (unread n) = untold w (Torn (record { missing = n ∷ []; holes = [] }))
node_at view w (entry e) = told view.profile w e (entry_standing view w e)

-- the node that a walk has come to
unfoldable pub node : View → Walked → NodeFields
node view w = node_at view w (target view w.address)
