-- The definitions at values from outside: DER (X.690), and the bytes of a rejection as RFC 3161 has them.
use Rattle.std.proofs.Common.{◌≡◌, [], ◌∷◌, refl}
use Rattle.der_values.specs.Value.{value, length_octets}
use Rattle.trial_authority.specs.Reply.{positive, rejection}

-- 1, 127, 128, 201 and 1,024 as INTEGER
one_octet : positive 1 ≡ 0x01 ∷ []
one_octet = refl

greatest_octet : positive 127 ≡ 0x7f ∷ []
greatest_octet = refl

first_of_two : positive 128 ≡ 0x00 ∷ 0x80 ∷ []
first_of_two = refl

zero_in_front : positive 201 ≡ 0x00 ∷ 0xc9 ∷ []
zero_in_front = refl

last_serial : positive 1024 ≡ 0x04 ∷ 0x00 ∷ []
last_serial = refl

-- SEQUENCE { SEQUENCE { INTEGER 2 } }
rejected : rejection ≡ 0x30 ∷ 0x05 ∷ 0x30 ∷ 0x03 ∷ 0x02 ∷ 0x01 ∷ 0x02 ∷ []
unfolding value length_octets
rejected = refl
