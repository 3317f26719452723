-- A tag is valid exactly if it is one by the table.
use Rattle.std.proofs.Common.{◌≡◌, refl, sym, ◌∙◌, ap, subst, inl, inr, ◌⊎◌, ℕ, ◌+◌, ◌%◌, ◌≤◌, true, List, length, take, sum, arith, eqb-true}
use Rattle.std.specs.Prelude.{Result, Ok, Err, is_ok}
use Rattle.std.proofs.lemmas.Bool.{eq-eqb}
use Rattle.udfs_tag.specs.Crc.{message, IsRemainder}
use Rattle.udfs_tag.specs.Fields.{part, uint16_at}
use Rattle.udfs_tag.specs.Tags.{HasTagFault, IsAccepted, checksum_of, covered, covered_len, has_identifier, tag_of, identifier}
use Rattle.udfs_tag.specs.declared.tags.Tag.{Tag}
use Rattle.udfs_tag.specs.declared.tags.TagFault.{TagFault}
use Rattle.udfs_tag.specs.declared.tags.TagFault.TheVariants.{Checksum, Version, CrcLength, Crc, Location}
use Rattle.udfs_tag.proofs.FaultLemmas.{Judges, judges}
use Rattle.udfs_lawfulness.specs.EcmaLaws.{SoundTagLaw, TagLaw}
use Rattle.udfs_lawfulness.specs.LawfulTables.{row, Holds}
use Rattle.udfs_lawfulness.specs.Tags.{IsChecksum, IsTagged}
use Rattle.udfs_lawfulness.proofs.Reading.{bytes_below, field_fits, field_is, field_of, holds_is, holds_of, holds_by, byte_is, byte_by}

sums : (bytes : List ℕ) (c : ℕ) → IsChecksum bytes c → c ≡ checksum_of bytes
sums bytes c h = h.is ∙ ap (λ x. (sum x + sum h.back) % 256) (sym (field_is bytes 0 4 h.front h.front_is)) ∙ ap (λ x. (sum (take 4 bytes) + sum x) % 256) (sym (field_is bytes 5 11 h.back h.back_is))

summed : (bytes : List ℕ) → 16 ≤ length bytes → IsChecksum bytes (checksum_of bytes)
summed bytes l = record { front = part bytes 0 4; front_is = field_of bytes 0 4 (omega arith); back = part bytes 5 11; back_is = field_of bytes 5 11 (omega arith); is = refl }

-- ---- an accepted tag is one by the table
tagged : (bytes : List ℕ) (place : ℕ) (tag : Tag) → IsAccepted bytes place tag → IsTagged bytes tag.identifier place
tagged bytes place tag h = record {
  identifier = holds_by bytes 0 2 tag.identifier (omega (arith, l)) (sym h.identified);
  version = version h.version;
  checksum = checksum_of bytes;
  checksum_is = byte_by bytes 4 (checksum_of bytes) (omega (arith, l)) h.checksum;
  summed = summed bytes l;
  crc_length = covered_len bytes;
  crc_length_is = holds_of bytes 10 2 (omega (arith, l));
  covered = covered bytes;
  covered_is = field_of bytes 16 (covered_len bytes) h.crc_length;
  crc = uint16_at bytes 8;
  crc_is = holds_of bytes 8 2 (omega (arith, l));
  remainder = h.crc;
  location = holds_by bytes 12 4 place (omega (arith, l)) h.location;
}
  where
    l : 16 ≤ length bytes
    l = omega (arith, h.crc_length)

    version : (uint16_at bytes 2 ≡ 2) ⊎ (uint16_at bytes 2 ≡ 3) → Holds bytes (row 2 2) 2 ⊎ Holds bytes (row 2 2) 3
    version (inl e) = inl (holds_by bytes 2 2 2 (omega (arith, l)) e)
    version (inr e) = inr (holds_by bytes 2 2 3 (omega (arith, l)) e)

-- ---- and one by the table has no fault
module _ (bytes : List ℕ) (place id : ℕ) (h : IsTagged bytes id place) where
  len_is : covered_len bytes ≡ h.crc_length
  len_is = holds_is bytes 10 2 h.crc_length h.crc_length_is

  covered_are : covered bytes ≡ h.covered
  covered_are = ap (part bytes 16) len_is ∙ field_is bytes 16 h.crc_length h.covered h.covered_is

  no_fault : (f : TagFault) → ¬ HasTagFault f bytes place
  no_fault Checksum bad = bad (byte_is bytes 4 h.checksum h.checksum_is ∙ sums bytes h.checksum h.summed)
  no_fault Version bad = of h.version
    where
      of : Holds bytes (row 2 2) 2 ⊎ Holds bytes (row 2 2) 3 → ⊥
      of (inl v) = bad.0 (holds_is bytes 2 2 2 v)
      of (inr v) = bad.1 (holds_is bytes 2 2 3 v)
  no_fault CrcLength bad = let l : 16 + h.crc_length ≤ length bytes = field_fits bytes 16 h.crc_length h.covered h.covered_is in
      let z : ⊥ = omega (arith, l, len_is, bad) in z
  no_fault Crc bad = bad (subst (λ c. IsRemainder (message (covered bytes)) c) (sym (holds_is bytes 8 2 h.crc h.crc_is)) (subst (λ xs. IsRemainder (message xs) h.crc) (sym covered_are) h.remainder))
  no_fault Location bad = bad (holds_is bytes 12 4 place h.location)

  valid_by : (r : Result Tag TagFault) → Judges bytes place r → has_identifier r id ≡ true
  valid_by (Ok tag) a = eq-eqb tag.identifier id (a.identified ∙ holds_is bytes 0 2 id h.identifier)
  valid_by (Err f) a = absurd (no_fault f a.0)

tagged_by : (bytes : List ℕ) (place id : ℕ) (r : Result Tag TagFault) → Judges bytes place r → has_identifier r id ≡ true → IsTagged bytes id place
tagged_by bytes place id (Ok tag) a e = subst (λ n. IsTagged bytes n place) (eqb-true tag.identifier id e) (tagged bytes place tag a)
tagged_by bytes place id (Err f) a e = absurd (let z : ⊥ = cc in z)

pub tag_law : TagLaw
tag_law bytes b place id = (
  λ e. tagged_by bytes place id (tag_of bytes place) (judges bytes place (bytes_below bytes b)) e,
  λ h. valid_by bytes place id h (tag_of bytes place) (judges bytes place (bytes_below bytes b)),
)

-- ---- whatever the identifier
sound_by : (bytes : List ℕ) (place id : ℕ) (r : Result Tag TagFault) → Judges bytes place r → is_ok r ≡ true → identifier bytes ≡ id → IsTagged bytes id place
sound_by bytes place id (Ok tag) a e q = subst (λ n. IsTagged bytes n place) (a.identified ∙ q) (tagged bytes place tag a)
sound_by bytes place id (Err f) a e q = absurd (let z : ⊥ = cc in z)

is_ok_by : (r : Result Tag TagFault) (id : ℕ) → has_identifier r id ≡ true → is_ok r ≡ true
is_ok_by (Ok tag) id e = refl
is_ok_by (Err f) id e = absurd (let z : ⊥ = cc in z)

pub sound_tag_law : SoundTagLaw
sound_tag_law bytes b place id = (
  λ h. sound_by bytes place id (tag_of bytes place) (judges bytes place (bytes_below bytes b)) h.0 h.1,
  λ h. (is_ok_by (tag_of bytes place) id (valid_by bytes place id h (tag_of bytes place) (judges bytes place (bytes_below bytes b))), holds_is bytes 0 2 id h.identifier),
)
