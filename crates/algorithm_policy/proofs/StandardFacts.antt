-- Values that the format's rules give, so that a wrong definition does not check.
use Rattle.std.proofs.Common.{◌≡◌, ℕ, List, [], ◌∷◌, ◌++◌, map, replicate, true, false, Some, None, refl}
use Rattle.std.specs.Prelude.{codes}
use Rattle.hash_kit.specs.declared.algorithm.HashAlg.TheVariants.{Sha512}
use Rattle.der_values.specs.Value.{extra}
use Rattle.der_values.specs.Next.{next_of, value_at, length_at, long_length_at}
use Rattle.hex.specs.Hex.{decode_pairs, encode_with, encode_lower}
use Rattle.algorithm_policy.specs.declared.fault.PolicyKind.TheVariants.{Header, Form, Name, Hex, Sid, Key, Date, Order}
use Rattle.algorithm_policy.specs.Words.{is_name, is_hex, is_sid, is_key, is_time, bytes_of}
use Rattle.algorithm_policy.specs.Content.{is_below}
use Rattle.algorithm_policy.specs.Text.{ended, header, hash_line}
use Rattle.algorithm_policy.specs.Fault.{fault_in, fault_of_lines, first_fault}

text : List (List ℕ) → List ℕ
text lines = ended (header ∷ lines)

-- the first line
headers : map first_fault (codes "" ∷ codes "x" ∷ codes "evidence policy 1" ∷ ended (header ∷ []) ∷ ended (codes "evidence policy 2" ∷ []) ∷ [])
    ≡ Some (1, Header) ∷ Some (1, Header) ∷ Some (1, Header) ∷ None ∷ Some (1, Header) ∷ []
unfolding fault_in fault_of_lines
headers = refl

-- forms, ends and places of the lines of hash algorithms
hash_lines : map (λ lines. first_fault (text lines))
    ((codes "hash sha256 20300101000000Z" ∷ codes "hash sha512 20300101000000Z" ∷ [])
    ∷ (codes "hash md5 20300101000000Z" ∷ [])
    ∷ (codes "hash  sha256 20300101000000Z" ∷ [])
    ∷ (codes "hash sha256 20300101000000Z " ∷ [])
    ∷ (codes "hash sha256 2030" ∷ [])
    ∷ (codes "hash sha256 " ∷ [])
    ∷ (codes "hash sha384 20300101000000Z" ∷ codes "hash sha256 20300101000000Z" ∷ [])
    ∷ (codes "hash sha384 20300101000000Z" ∷ codes "hash sha384 20300101000000Z" ∷ [])
    ∷ (codes "" ∷ [])
    ∷ [])
    ≡ None ∷ Some (2, Form) ∷ Some (2, Form) ∷ Some (2, Form) ∷ Some (2, Date) ∷ Some (2, Date) ∷ Some (3, Order) ∷ Some (3, Order) ∷ Some (2, Form) ∷ []
unfolding text fault_in fault_of_lines is_time
hash_lines = refl

not_ended : first_fault (ended (header ∷ []) ++ codes "hash sha256 20300101000000Z") ≡ Some (2, Form)
unfolding fault_in fault_of_lines
not_ended = refl

-- the first kind of a line of an authority, and no other
authorities : map (λ line. first_fault (text (line ∷ [])))
    (codes "authority  80 00 00 x"
    ∷ codes "authority A 80 00 00 x"
    ∷ codes "authority a 8F 00 00 x"
    ∷ codes "authority a 800 00 00 x"
    ∷ codes "authority a 80 00 00 x"
    ∷ codes "authority a 8001aa00 00 00 x"
    ∷ codes "authority a 8001aa 00 00 x"
    ∷ codes "authority a 8001aa 00 00"
    ∷ [])
    ≡ Some (2, Name) ∷ Some (2, Name) ∷ Some (2, Hex) ∷ Some (2, Hex) ∷ Some (2, Sid) ∷ Some (2, Sid) ∷ Some (2, Key) ∷ Some (2, Form) ∷ []
unfolding text fault_in fault_of_lines is_sid is_key bytes_of decode_pairs next_of value_at length_at long_length_at
authorities = refl

-- an issuerAndSerialNumber or a subjectKeyIdentifier, and no other tag
identifiers : map is_sid
    ((48 ∷ 3 ∷ 2 ∷ 1 ∷ 255 ∷ []) ∷ (128 ∷ 1 ∷ 170 ∷ []) ∷ (128 ∷ 0 ∷ []) ∷ (4 ∷ 1 ∷ 170 ∷ []) ∷ (160 ∷ 0 ∷ []) ∷ (128 ∷ 2 ∷ 170 ∷ []) ∷ (128 ∷ 129 ∷ 1 ∷ 170 ∷ []) ∷ [] ∷ [])
    ≡ true ∷ true ∷ true ∷ false ∷ false ∷ false ∷ false ∷ false ∷ []
unfolding is_sid next_of value_at length_at long_length_at extra
identifiers = refl

names : map is_name (codes "a" ∷ codes "0-z" ∷ replicate 32 97 ∷ replicate 33 97 ∷ codes "" ∷ codes "A" ∷ codes "a.b" ∷ [])
    ≡ true ∷ true ∷ true ∷ false ∷ false ∷ false ∷ false ∷ []
names = refl

-- a prefix comes first, and a hyphen before digits before letters
orders : (is_below (codes "a") (codes "ab") ≡ true) × (is_below (codes "a-") (codes "a0") ≡ true) × (is_below (codes "9") (codes "a") ≡ true) × (is_below (codes "a") (codes "a") ≡ false)
orders = (refl, refl, refl, refl)

hexadecimal : (map is_hex (codes "00ff" ∷ codes "" ∷ codes "0" ∷ codes "0F" ∷ codes "0g" ∷ []) ≡ true ∷ true ∷ false ∷ false ∷ false ∷ []) × (encode_lower (0 ∷ 171 ∷ 255 ∷ []) ≡ codes "00abff")
unfolding encode_with
hexadecimal = (refl, refl)

spelled : hash_line Sha512 (codes "20600101000000Z") ≡ codes "hash sha512 20600101000000Z"
spelled = refl
