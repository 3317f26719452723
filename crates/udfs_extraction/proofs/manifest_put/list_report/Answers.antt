use Rattle.std.proofs.Common.{inr, string_bytes}
use Rattle.udfs_extraction.proofs.ManifestLemmas.{listed, some_place, spares_listed, spares_unlisted, unlisted}
use Rattle.udfs_extraction.proofs.NoNode.{unput_at}
use Rattle.udfs_extraction.proofs.StopLemmas.{refused_is, unlisted_by}
use Rattle.udfs_extraction.proofs.manifest_put.list_report.Goals as goal

pub returns-in-Err-clause-spares : goal.returns-in-Err-clause-spares
returns-in-Err-clause-spares g c = spares_unlisted _ _ _ _ _ c.make_nodes.ensures.spares

pub returns-in-Err-clause-why : goal.returns-in-Err-clause-why
returns-in-Err-clause-why g c known = unlisted_by _ _ _ _ _ _ _ _ _ c.in-Err.stop c.make_nodes.ensures.spares (c.in-Err.ensures.why known)

pub returns-in-Ok-add_manifest-clause-made : goal.returns-in-Ok-add_manifest-clause-made
returns-in-Ok-add_manifest-clause-made g c known = (
  c.make_nodes.new.files,
  listed _ _ _ _ _ _ _ _ _ _ _ _ c.is_some-digest.result (some_place string_bytes c.args.place.now _ c.is_some-digest.ensures) (c.in-Ok.ensures.put known) c.in-Ok-add_manifest.ensures.put c.make_nodes.ensures.elsewhere,
)

pub returns-in-Ok-add_manifest-clause-spares : goal.returns-in-Ok-add_manifest-clause-spares
returns-in-Ok-add_manifest-clause-spares g c =
    spares_listed _ _ _ _ _ _ _ _ _ _ _ _ c.is_some-digest.result (some_place string_bytes c.args.place.now _ c.is_some-digest.ensures) (λ told. c.in-Ok.ensures.put (c.requires told)) c.add_manifest.ensures.may c.make_nodes.ensures.spares

pub returns-clause-spares : goal.returns-clause-spares
returns-clause-spares g c =
    spares_listed _ _ _ _ _ _ _ _ _ _ _ _ c.is_some-digest.result (some_place string_bytes c.args.place.now _ c.is_some-digest.ensures) (λ told. c.in-Ok.ensures.put (c.requires told)) c.add_manifest.ensures.may c.make_nodes.ensures.spares

pub returns-clause-why : goal.returns-clause-why
returns-clause-why g c known = inr (unlisted _ _ _ _ _ _ _ _ _ _ _ _ c.is_some-digest.result _ (c.in-Ok.ensures.put known) c.in-Err-add_manifest.ensures.why)

pub returns-clause-no_node : goal.returns-clause-no_node
returns-clause-no_node g c i is = absurd (unput_at _ _ _ _ i (refused_is _ _ is) c.in-Err-add_manifest.ensures.why)
