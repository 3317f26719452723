use Rattle.udfs_extraction.proofs.manifest_put.add_manifest.Goals as goal

pub returns-in-Ok-clause-put : goal.returns-in-Ok-clause-put
returns-in-Ok-clause-put g c = rw c.in-Some.is (rw c.in-Some-noted.is (rw (← c.as_str.ensures.value) (rw (← c.as_slice.ensures.value)
    (λ told. record { kept = c.in-Ok.ensures.kept told; crash = (c.put_manifest.ensures.may told).crash; elsewhere = (c.put_manifest.ensures.may told).elsewhere }))))
