-- What a node tells of the cells that are written.
use Rattle.std.proofs.Common.{◌≡◌, refl, sym, ◌∙◌, ap, subst, ℕ, List, get_or, Option, Some, None, true, false, Bool}
use Rattle.std.specs.Prelude.{◌↔◌, ⊤, slice_get, IsErrOf, MatchOption, Result, Ok, Err}
use Rattle.std.proofs.lemmas.Option.{get_or_from_slice_get}
use Rattle.udfs_volume.specs.declared.profiles.Profile.{Profile}
use Rattle.udfs_lattice.specs.Volumes.{Blocks}
use Rattle.udfs_tag.specs.declared.layouts.LongAd.{LongAd}
use Rattle.udfs_volume.specs.Answers.{found}
use Rattle.udfs_space.specs.Places.{view}
use Rattle.udfs_file.specs.declared.cells.Cell.{Cell}
use Rattle.udfs_walk.specs.Laws.{HasBody}
use Rattle.udfs_walk.specs.NodeBodies.{HasCells}
use Rattle.udfs_walk.specs.NodeFields.{NodeFields}
use Rattle.udfs_walk.specs.Routes.{Walked}
use Rattle.udfs_walk.specs.declared.standings.Standing.{Standing}
use Rattle.udfs_walk.specs.declared.standings.Standing.TheVariants.{Whole, Torn, Loop, Fault}
use Rattle.udfs_walk.proofs.PublicLaws.{node_has_cells}
use Rattle.udfs_walk.specs.Cells.{HasCellsAt}
use Rattle.udfs_salvage.specs.Found.{Found}
use Rattle.udfs_salvage.specs.WalkedNodes.{AreNodesFrom}
use Rattle.udfs_salvage.specs.Reports.{Report, IsReportBy, ReportsBy, ReportsNodes}
use Rattle.udfs_salvage.specs.Extraction.{Extracts, HasCellsInBy, is_offered}
use Rattle.udfs_salvage.specs.StoreExtraction.{StoreExtracts}
use Rattle.udfs_salvage.specs.declared.extraction.StoreExtractError.{StoreExtractError}
use Rattle.udfs_salvage.specs.declared.extraction.StoreExtractError.TheVariants.{Extract, Unread}
use Rattle.udfs_salvage.specs.declared.extraction.Fill.{Fill}
use Rattle.udfs_salvage.specs.declared.extraction.ExtractError.{ExtractError}
use Rattle.udfs_salvage.specs.declared.extraction.ExtractError.TheVariants.{NotWhole, Write, OutOfMemory}
use Rattle.udfs_reading.specs.Device.{Stream}

-- what is to be written has a body
offered_body : (s : Standing) (size : Option ℕ) (fill : Fill) → is_offered s size fill ≡ true → HasBody s size
offered_body Whole size fill o = tt
offered_body (Torn torn) None fill o = absurd (let z : ⊥ = cc in z)
offered_body (Torn torn) (Some size) fill o = tt
offered_body Loop size fill o = absurd (let z : ⊥ = cc in z)
offered_body (Fault f) size fill o = absurd (let z : ⊥ = cc in z)

-- the cells of a node that is to be written, at the end of its route and at its address
pub report_cells : (P : Profile) (blocks : Blocks) (last i : ℕ) (r : Report) (f : Found) (n : NodeFields) (fill : Fill) → IsReportBy P blocks last r → r.volume ≡ found f
    → slice_get r.nodes i ≡ Some n → is_offered n.standing n.size fill ≡ true → (cs : List Cell) × HasCellsInBy P blocks last i cs × HasCells (view blocks f.space) n.icb cs
report_cells P blocks last i r f n fill is opens at offered = (
  there.3.0,
  record {
    opened = f;
    opens = sym is.volume_is ∙ opens;
    has_cells = record { walks = listed.nodes_are.walks; walk = listed.nodes_are.walk; end = there.0; at = there.1; has_cells = there.3.1 };
  },
  subst (λ a. HasCells (view blocks f.space) a there.3.0) (sym there.2) there.3.1,
)
  where
    listed : ReportsNodes blocks f r
    listed = subst (λ o. ReportsBy blocks o r) opens is.by_volume

    there : (end : Walked) × (slice_get listed.nodes_are.walks i ≡ Some end) × (n.icb ≡ end.address) × ((cs : List Cell) × HasCells (view blocks f.space) end.address cs)
    there = node_has_cells (view blocks f.space) f.root r.nodes listed.nodes_are i n at (offered_body n.standing n.size fill offered)

-- the cells of a node that was found from any root
pub walked_cells : (blocks : Blocks) (f : Found) (root : LongAd) (r : Report) (i : ℕ) (n : NodeFields) (fill : Fill) → AreNodesFrom blocks f root r → slice_get r.nodes i ≡ Some n → is_offered n.standing n.size fill ≡ true
    → (cs : List Cell) × HasCellsAt (view blocks f.space) root i cs × HasCells (view blocks f.space) n.icb cs
walked_cells blocks f root r i n fill is at offered = (
  there.3.0,
  record { walks = is.nodes_are.walks; walk = is.nodes_are.walk; end = there.0; at = there.1; has_cells = there.3.1 },
  subst (λ a. HasCells (view blocks f.space) a there.3.0) (sym there.2) there.3.1,
)
  where
    there : (end : Walked) × (slice_get is.nodes_are.walks i ≡ Some end) × (n.icb ≡ end.address) × ((cs : List Cell) × HasCells (view blocks f.space) end.address cs)
    there = node_has_cells (view blocks f.space) root r.nodes is.nodes_are i n at (offered_body n.standing n.size fill offered)

none_some : {A : Type 0} (x : A) (o : Option A) → o ≡ None → o ≡ Some x → ⊥
none_some x o e h = let z : ⊥ = cc in z

-- bytes that were given are not refused
pub not_refused : {X : Type 0} (a b : Stream) (bytes : List ℕ) (r : Result X ExtractError) → Extracts a b bytes r → IsErrOf r NotWhole → ⊥
not_refused a b bytes (Ok x) h e = absurd (let z : ⊥ = cc in z)
not_refused a b bytes (Err NotWhole) h e = h
not_refused a b bytes (Err Write) h e = absurd (let z : ⊥ = cc in z)
not_refused a b bytes (Err OutOfMemory) h e = absurd (let z : ⊥ = cc in z)

-- the same of a store's
pub store_not_refused : {X : Type 0} (a b : Stream) (bytes : List ℕ) (r : Result X StoreExtractError) → StoreExtracts a b bytes r → IsErrOf r (Extract NotWhole) → ⊥
store_not_refused a b bytes (Ok x) h e = absurd (let z : ⊥ = cc in z)
store_not_refused a b bytes (Err (Extract NotWhole)) h e = h
store_not_refused a b bytes (Err (Extract Write)) h e = absurd (let z : ⊥ = cc in z)
store_not_refused a b bytes (Err (Extract OutOfMemory)) h e = absurd (let z : ⊥ = cc in z)
store_not_refused a b bytes (Err Unread) h e = absurd (let z : ⊥ = cc in z)

-- the error of a store's node and that of a table's, which is the same
pub error_up : (f : StoreExtractError) (e x : ExtractError) → f ≡ Extract e → IsErrOf {T = ⊤} (Err e) x → IsErrOf {T = ⊤} (Err f) (Extract x)
error_up f e x is h = let same : e ≡ x = cc in ap Err (is ∙ ap Extract same)

pub error_down : (f : StoreExtractError) (e x : ExtractError) → f ≡ Extract e → IsErrOf {T = ⊤} (Err f) (Extract x) → IsErrOf {T = ⊤} (Err e) x
error_down f e x is h = let stored : f ≡ Extract x = cc in let both : Extract e ≡ Extract x = sym is ∙ stored in let same : e ≡ x = cc in ap Err same

pub errors_same : (P : Type 0) (f : StoreExtractError) (e x : ExtractError) → f ≡ Extract e → (IsErrOf {T = ⊤} (Err f) (Extract x) ↔ P) → (IsErrOf {T = ⊤} (Err e) x ↔ P)
errors_same P f e x is h = (λ told. h.0 (error_up f e x is told), λ p. error_down f e x is (h.1 p))

-- neither failed
pub errors_none : (P : Type 0) (one other : ⊤) (x : ExtractError) → (IsErrOf {T = ⊤} {E = StoreExtractError} (Ok one) (Extract x) ↔ P) → (IsErrOf {T = ⊤} {E = ExtractError} (Ok other) x ↔ P)
errors_none P one other x h = (λ told. absurd (let z : ⊥ = cc in z), λ p. let bad = h.1 p in absurd (let z : ⊥ = cc in z))

-- what holds where there is none
pub if_none : {A P : Type 0} (Q : A → Type 0) (o : Option A) → o ≡ None → MatchOption o P Q → P
if_none Q None e h = h
if_none Q (Some x) e h = absurd (none_some x (Some x) e refl)

-- the element that was taken is the one at its index
pub same_node : (ns : List NodeFields) (i : ℕ) (n m : NodeFields) → slice_get ns i ≡ Some n → m ≡ get_or ns i m → m ≡ n
same_node ns i n m at is = is ∙ get_or_from_slice_get ns i n m at

pub true_false : (b : Bool) → b ≡ true → b ≡ false → ⊥
true_false b e h = let z : ⊥ = cc in z
