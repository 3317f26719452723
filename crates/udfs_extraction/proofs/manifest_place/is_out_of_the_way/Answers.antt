use Rattle.udfs_extraction.proofs.manifest_place.is_out_of_the_way.Goals as goal

pub returns-in-Ok-clause-beside : goal.returns-in-Ok-clause-beside
returns-in-Ok-clause-beside g c = c.in-Ok-true.ensures.beside c.in-Ok-true.field-0-test
