use Rattle.std.proofs.Common.{rules, ◌≡◌, ◌≢◌, ◌++◌, ℕ, List, false, codes}
use Rattle.udfs_salvage.specs.Choosing.{goes_on}
use Rattle.udfs_extraction.proofs.ManifestLemmas.{beside}
use Rattle.udfs_extraction.proofs.manifest_place.is_beside.Goals as goal

pub returns-clause-beside : goal.returns-clause-beside
returns-clause-beside c so =
    let is : c.as_str.result.now ≡ c.args.place.now ++ codes ".unfinished" = search rules in
    let other : c.args.folder.now ≢ c.args.place.now = search rules in
    let off : goes_on c.args.folder.now c.args.place.now ≡ false = search rules in
    let own_off : goes_on c.args.folder.now c.as_str.result.now ≡ false = search rules in
    let apart : (m : List ℕ) → c.args.folder.now ≢ c.as_str.result.now ++ m = search rules in
    beside c.args.folder.now c.args.place.now c.as_str.result.now is other off own_off apart
