-- The spellings at values from outside, put together by hand from X.690 and the module of RFC 4998, and the values of documents.
use Rattle.std.proofs.Common.{◌≡◌, ℕ, ◌*◌, ◌^◌, List, [], ◌∷◌, ◌++◌, Some, None, refl}
use Rattle.hash_kit.specs.declared.algorithm.HashAlg.TheVariants.{Sha256, Sha512}
use Rattle.hash_kit.specs.Digest.{digest_of}
use Rattle.der_values.specs.Value.{value, length_octets}
use Rattle.evidence_syntax.specs.Checks.{most_stamps}
use Rattle.evidence_syntax.specs.Stamps.{Stamp}
use Rattle.evidence_syntax.specs.Record.{longest_record}
use Rattle.evidence_syntax.specs.Text.{list_text, stamp_text, sequence_spelling, record_spelling}
use Rattle.evidence_syntax.specs.DocumentValue.{document_value}

-- a list of the values 01 and 0203
list_spelled : list_text ((1 ∷ []) ∷ (2 ∷ 3 ∷ []) ∷ []) ≡ 0x30 ∷ 0x07 ∷ 0x04 ∷ 0x01 ∷ 0x01 ∷ 0x04 ∷ 0x02 ∷ 0x02 ∷ 0x03 ∷ []
unfolding value length_octets
list_spelled = refl

-- an archive time-stamp by 2.999 (88 37), with one list of the value 01, and an empty SEQUENCE as its time-stamp
stamp_spelled : stamp_text (record { algorithm = Some (record { oid = 0x88 ∷ 0x37 ∷ []; params = None }); attributes = None; lists = Some (((1 ∷ []) ∷ []) ∷ []); token = 0x30 ∷ 0x00 ∷ [] })
    ≡ 0x30 ∷ 0x0f ∷ 0xa0 ∷ 0x04 ∷ 0x06 ∷ 0x02 ∷ 0x88 ∷ 0x37 ∷ 0xa2 ∷ 0x05 ∷ 0x30 ∷ 0x03 ∷ 0x04 ∷ 0x01 ∷ 0x01 ∷ 0x30 ∷ 0x00 ∷ []
unfolding value length_octets
stamp_spelled = refl

-- the least record: one archive time-stamp, which is an empty SEQUENCE
record_spelled : record_spelling (record { algorithms = []; crypto = None; encryption = None; chains = (record { algorithm = None; attributes = None; lists = None; token = 0x30 ∷ 0x00 ∷ [] } ∷ []) ∷ [] })
    ≡ 0x30 ∷ 0x0d ∷ 0x02 ∷ 0x01 ∷ 0x01 ∷ 0x30 ∷ 0x00 ∷ 0x30 ∷ 0x06 ∷ 0x30 ∷ 0x04 ∷ 0x30 ∷ 0x02 ∷ 0x30 ∷ 0x00 ∷ []
unfolding value length_octets
record_spelled = refl

-- the value of a document in the first chain, and in a later one
first_value : (d : List ℕ) → document_value Sha256 [] d ≡ digest_of Sha256 d
first_value d = refl

later_value : (chain : List Stamp) (d : List ℕ)
    → document_value Sha512 (chain ∷ []) d ≡ digest_of Sha512 (digest_of Sha512 d ++ digest_of Sha512 (sequence_spelling (chain ∷ [])))
later_value chain d = refl

-- a record has 16 MiB at most, and 200 archive time-stamps
record_limit : longest_record ≡ 16 * 2 ^ 20
record_limit = refl

stamps_limit : most_stamps ≡ 2 * 100
stamps_limit = refl
