use Rattle.udfs_overview.specs.Guarantees.{unlawful_text}
use Rattle.udfs_overview.proofs.Chains.{four_appended}
use Rattle.udfs_overview.proofs.guarantees.push_unlawful.Goals as goal

pub returns : goal.returns
unfolding unlawful_text
returns c =
    four_appended c.push_why_place.result _ _ _ _ _ _ _ _ _ c.in_ok-push_str.ensures.bytes c.in_ok-push_why_words.ensures c.in_ok-push_str-2.ensures.bytes c.push_why_place.ensures
