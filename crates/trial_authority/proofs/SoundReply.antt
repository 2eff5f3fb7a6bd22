-- A reply that grants is sound under each policy that trusts the key.
use Rattle.std.proofs.Common.{◌≡◌, ℕ, ◌+◌, ◌<◌, ◌≤◌, Bool, true, false, List, length, Some, None, refl, sym, ap, subst, arith}
use Rattle.std.specs.Prelude.{if◌then◌else◌}
use Rattle.civil_moment.specs.declared.moment.Moment.{Moment}
use Rattle.hash_kit.specs.declared.algorithm.HashAlg.{HashAlg}
use Rattle.hash_kit.specs.Algorithm.{algorithm_of}
use Rattle.der_values.specs.Value.{value}
use Rattle.der_values.specs.Algorithm.{Name, are_none_or_null}
use Rattle.lms_verify.specs.Hss.{Verifies}
use Rattle.lms_sign.proofs.Levels.{signs}
use Rattle.tst_info.specs.Request.{ToStamp}
use Rattle.tst_info.specs.Response.{ReadsResponse, response_text}
use Rattle.tst_info.proofs.InfoReadable.{tst_read_again}
use Rattle.tst_info.proofs.ResponseReadable.{response_answered}
use Rattle.cms_signed.specs.Signed.{as_set}
use Rattle.cms_signed.specs.Text.{attributes_text, written}
use Rattle.cms_signed.proofs.TokenWritten.{is_read_again}
use Rattle.algorithm_policy.specs.Content.{Content}
use Rattle.cms_signed.specs.Names.{known_hash}
use Rattle.trial_authority.specs.Key.{trial_key, public_of, leaves, Trusts}
use Rattle.trial_authority.specs.Reply.{Asks, positive, info_of, to_sign_of, signature_of, token_of, Grants, IsSoundReply}
use Rattle.trial_authority.proofs.Lengths.{known_key, length-certificate, positive_length}
use Rattle.trial_authority.proofs.Spelled.{positive_is, info_spelled, info_length, has_text, is_token, token_short, response_short}

-- a known hash is known without its parameters
known_alone : (name : Name) (alg : HashAlg) → known_hash name ≡ Some alg → algorithm_of name.oid ≡ Some alg
known_alone name alg is = by_params (are_none_or_null name.params) is where
  by_params : (b : Bool) → (if b then algorithm_of name.oid else None) ≡ Some alg → algorithm_of name.oid ≡ Some alg
  by_params true e = e
  by_params false e = absurd cc

-- what is signed are the attributes as a SET OF
set_is : (attributes : List ℕ) → as_set (value 0xa0 attributes) ≡ value 0x31 attributes
unfolding value
set_is attributes = refl

verifies : (seed : List ℕ) (index : ℕ) (info key : List ℕ) → index < leaves → key ≡ public_of seed → Verifies key (as_set (value 0xa0 (attributes_text (to_sign_of seed info)))) (signature_of seed index info)
verifies seed index info key inside is =
    let attributes = attributes_text (to_sign_of seed info) in
    rw (is, set_is attributes) (signs (trial_key seed) index (value 0x31 attributes) (known_key seed) inside)

pub sound_reply : (policy : Content) (seed : List ℕ) (index : ℕ) (now : Moment) (request : List ℕ) (asked : ToStamp) (alg : HashAlg) (reply : List ℕ) → index < leaves
    → Asks request asked alg → Grants seed index now asked reply → Trusts policy seed → IsSoundReply policy seed now asked alg reply
sound_reply policy seed index now request asked alg reply inside asks grants trusts =
    let info = grants.info in
    let few : length info ≤ 8192 = omega (arith, info_length request asked alg index now info asks grants.says) in
    let spelled = info_spelled request asked alg (positive (index + 1)) now asks (positive_length (index + 1)) (positive_is (index + 1) (omega arith)) in
    let token = token_of seed index info in
    let answered : ReadsResponse (response_text 0 (Some token)) token = response_answered 0 (Some token) (omega arith) (is_token seed index info few) (omega (arith, response_short 0 (Some token) 13488 (token_short seed index info few))) in
    record {
      token = token;
      read = subst (λ (bytes : List ℕ). ReadsResponse bytes token) (sym grants.is) answered;
      sound = record {
        signed = written (to_sign_of seed info) (signature_of seed index info);
        info = info_of asked index now;
        read = record {
          is_signed = record {
            short = omega (arith, token_short seed index info few);
            reads = is_read_again (to_sign_of seed info) (signature_of seed index info) (has_text seed index info few) (omega (arith, length-certificate seed));
          };
          content = tst_read_again info (info_of asked index now) spelled grants.says;
        };
        trusted = record {
          hash = known_alone asked.hash alg asks.known;
          signer = trusts.signer;
          found = trusts.found;
          by = record { certificate = ap Some (sym trusts.certificate); digest = refl; signature = verifies seed index info trusts.signer.key inside trusts.key };
        };
        says = refl;
      };
    }
