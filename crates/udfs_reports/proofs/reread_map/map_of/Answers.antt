use Rattle.udfs_salvage.specs.Listings.{listing_by}
use Rattle.udfs_common.proofs.PutsLemmas.{says_more, says_no_more, unbegun_as}
use Rattle.udfs_reports.proofs.RereadingLemmas.{domain_of, from_range, in_range}
use Rattle.udfs_reports.proofs.TellingLemmas.{unput}
use Rattle.std.proofs.Common.{inl, refl}
use Rattle.udfs_reports.proofs.reread_map.map_of.Goals as goal

pub returns-in-Ok-Err-clause-puts : goal.returns-in-Ok-Err-clause-puts
returns-in-Ok-Err-clause-puts g c = unbegun_as _ _ _ _ _ g.met.F.Files.only_now

pub returns-in-Err-OutOfMemory-clause-puts : goal.returns-in-Err-OutOfMemory-clause-puts
returns-in-Err-OutOfMemory-clause-puts g c = unbegun_as _ _ _ _ _ g.met.F.Files.only_now

pub returns-in-Err-put_domain-clause-puts : goal.returns-in-Err-put_domain-clause-puts
returns-in-Err-put_domain-clause-puts g c =
    let is = c.in-Ok-Ok.field-0-is in
    let listed = rw is at c.in-Ok-Ok.ensures.listing in
    let of = rw is at c.in-Ok-Ok.ensures.of in
    let asked = c.in-Ok.ensures in
    says_no_more _ _ _ (λ said bytes is told t holds. (_, domain_of _ _ _ (listing_by g.B.BlockStore.states c.in-Ok-Ok.listing) _ _ _ _ _ (listed told t holds) (asked.wanted told) (asked.known told t (rw of holds)) (asked.blocks told t (rw of holds)) is.0 refl, is.1)) c.in-Err-put_domain.ensures.puts

pub returns-clause-puts : goal.returns-clause-puts
returns-clause-puts g c =
    let is = c.in-Ok-Ok.field-0-is in
    let listed = rw is at c.in-Ok-Ok.ensures.listing in
    let of = rw is at c.in-Ok-Ok.ensures.of in
    let asked = c.in-Ok.ensures in
    says_more _ _ _ (λ said bytes is told t holds. (_, domain_of _ _ _ (listing_by g.B.BlockStore.states c.in-Ok-Ok.listing) _ _ _ _ _ (listed told t holds) (asked.wanted told) (asked.known told t (rw of holds)) (asked.blocks told t (rw of holds)) is.0 c.all_whole.ensures, is.1)) c.in-Ok-put_domain.ensures.puts

pub returns-in-Ok-Err-clause-why : goal.returns-in-Ok-Err-clause-why
returns-in-Ok-Err-clause-why g c told t holds = inl (refl, (rw c.in-Ok-Err.field-0-is at c.in-Ok-Err.ensures.refused) told t holds)

pub returns-in-Err-OutOfMemory-clause-why : goal.returns-in-Err-OutOfMemory-clause-why
returns-in-Err-OutOfMemory-clause-why g c told t holds = inl (refl, inl (inl refl))

pub returns-in-Err-put_domain-clause-why : goal.returns-in-Err-put_domain-clause-why
returns-in-Err-put_domain-clause-why g c told t holds =
    let is = c.in-Ok-Ok.field-0-is in
    let listed = rw is at c.in-Ok-Ok.ensures.listing in
    let of = rw is at c.in-Ok-Ok.ensures.of in
    let asked = c.in-Ok.ensures in
    unput _ _ _ _ _ _ _ _ _ _ (domain_of _ _ _ (listing_by g.B.BlockStore.states c.in-Ok-Ok.listing) _ _ _ _ _ (listed told t holds) (asked.wanted told) (asked.known told t (rw of holds)) (asked.blocks told t (rw of holds)) refl refl) c.in-Err-put_domain.ensures.why

pub asked_in-requires-clause-from : goal.asked_in-requires-clause-from
asked_in-requires-clause-from g c = from_range c.args.last (rw c.in-Ok-Ok.field-0-is at c.in-Ok-Ok.ensures.range)

pub asked_in-requires-clause-to : goal.asked_in-requires-clause-to
asked_in-requires-clause-to g c = in_range c.args.last (rw c.in-Ok-Ok.field-0-is at c.in-Ok-Ok.ensures.range)

pub asked_in-requires-clause-rising : goal.asked_in-requires-clause-rising
asked_in-requires-clause-rising g c = rw c.in-Ok-Ok.field-0-is at c.in-Ok-Ok.ensures.rising

pub put_domain-requires-clause-in_range : goal.put_domain-requires-clause-in_range
put_domain-requires-clause-in_range g c = in_range c.args.last (rw c.in-Ok-Ok.field-0-is at c.in-Ok-Ok.ensures.range)
