use Rattle.std.proofs.Common.{◌∙◌, inl, refl}
use Rattle.udfs_salvage.specs.Listings.{listing_by}
use Rattle.udfs_reports.proofs.RereadingLemmas.{begun_of, told_of}
use Rattle.udfs_reports.proofs.reread.tell_numbers.Goals as goal

pub returns-in-Ok-Err-clause-refused : goal.returns-in-Ok-Err-clause-refused
returns-in-Ok-Err-clause-refused g c told t holds = inl (refl, (rw c.in-Ok-Err.field-0-is at c.in-Ok-Err.ensures.refused) told t holds)

pub returns-in-Err-OutOfMemory-clause-refused : goal.returns-in-Err-OutOfMemory-clause-refused
returns-in-Err-OutOfMemory-clause-refused g c told t holds = inl (refl, inl (inl refl))

pub returns-in-Ok-write_numbers-clause-printed : goal.returns-in-Ok-write_numbers-clause-printed
returns-in-Ok-write_numbers-clause-printed g c told t holds =
    told_of _ _ _ _ (listing_by g.B.BlockStore.states c.in-Ok-Ok.listing) _ _ _ _ ((rw c.in-Ok-Ok.field-0-is at c.in-Ok-Ok.ensures.listing) told t holds) (c.deref.ensures.value ∙ c.in-Ok.ensures.value told) c.in-Ok-write_numbers.ensures c.all_whole.ensures

pub returns-clause-refused : goal.returns-clause-refused
returns-clause-refused g c told t holds =
    begun_of _ _ _ _ (listing_by g.B.BlockStore.states c.in-Ok-Ok.listing) _ _ _ ((rw c.in-Ok-Ok.field-0-is at c.in-Ok-Ok.ensures.listing) told t holds) (c.deref.ensures.value ∙ c.in-Ok.ensures.value told) c.in-Err-write_numbers.ensures
