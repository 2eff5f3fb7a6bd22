use Rattle.std.proofs.Common.{[], ◌∷◌, refl, arith}
use Rattle.der_values.specs.Value.{value, length_octets}
use Rattle.tst_info.proofs.tests.a_response_is_written_with_its_status_and_its_token.Goals as goal

pub write_response-requires-clause-short : goal.write_response-requires-clause-short
unfolding value length_octets
write_response-requires-clause-short g c = omega arith

pub write_response-requires-2-clause-token : goal.write_response-requires-2-clause-token
unfolding value length_octets
write_response-requires-2-clause-token g c = record { content = 7 ∷ []; spells = record { low_tag = λ e. omega arith; short = omega arith; is = refl } }

pub write_response-requires-2-clause-short : goal.write_response-requires-2-clause-short
unfolding value length_octets
write_response-requires-2-clause-short g c = omega arith
