use Rattle.std.proofs.Common.{◌∙◌, ap, List, ℕ, map, subst}
use Rattle.std.specs.String.{string_bytes}
use Rattle.udfs_words.specs.Requests.{texts}
use Rattle.udfs_salvage.specs.InLine.{IsFirstOf}
use Rattle.udfs_salvage.specs.Listings.{listing_by}
use Rattle.udfs_reports.proofs.PathLemmas.{is_some_nowhere}
use Rattle.udfs_reports.proofs.paths.is_any_nowhere.Goals as goal

pub returns : goal.returns
returns g c =
    let nodes = (listing_by g.B.BlockStore.states c.args.listing.now).nodes in
    let words = map string_bytes c.args.paths.now in
    c.is_some.ensures ∙ is_some_nowhere words nodes c.in_ok-first.first
    (subst (λ (ws : List (List ℕ)). IsFirstOf ws nodes c.in_ok-first.first) (ap texts c.deref.ensures.value ∙ c.in_ok-words.ensures) c.in_ok-first.ensures)
