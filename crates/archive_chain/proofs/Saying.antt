-- What the tokens say, after each kind of entry.
use Rattle.std.proofs.Common.{◌≡◌, ℕ, List, [], ◌∷◌, ◌++◌, Option, Some, None, sym, ap, subst, ◌∙◌}
use Rattle.std.specs.List.{AllByRecursion}
use Rattle.lms_verify.specs.Hss.{Verifies}
use Rattle.cms_signed.specs.Signed.{as_set}
use Rattle.algorithm_policy.specs.declared.signer.Signer.{Signer}
use Rattle.algorithm_policy.specs.Content.{Content, IsKept, signer_of}
use Rattle.token_check.specs.Sound.{Stamp as Says, Sound}
use Rattle.archive_chain.specs.declared.time_stamp.TimeStamp.{TimeStamp}
use Rattle.archive_chain.specs.InsideTable.{Stamps}
use Rattle.archive_chain.specs.InsideSaid.{IsSaidOf}
use Rattle.archive_chain.proofs.Growing.{all_append, all_weaker}

pub said_more : (policy : Content) (stamps after : Stamps) (t : Option TimeStamp) → after ≡ stamps ++ t ∷ [] → AllByRecursion (IsSaidOf policy) stamps → IsSaidOf policy t → AllByRecursion (IsSaidOf policy) after
said_more policy stamps after t is all one = subst (AllByRecursion (IsSaidOf policy)) (sym is) (all_append (IsSaidOf policy) stamps (t ∷ []) all (one, tt))

-- ---- another policy

-- each signer that the old policy knows, the new one knows with the same key and certificate
abbrev pub Trusts : Content → Content → Type 0
Trusts old new = (sid : List ℕ) (signer : Signer) → signer_of old sid ≡ Some signer → (other : Signer) × (signer_of new sid ≡ Some other) × IsKept signer other

pub sound_kept : (old new : Content) → Trusts old new → (token : List ℕ) (says : Says) → Sound old token says → Sound new token says
sound_kept old new trusts token says sound =
    let by = sound.trusted.by in
    let other = trusts sound.signed.sid sound.trusted.signer sound.trusted.found in
    let kept : IsKept sound.trusted.signer other.0 = other.2 in record {
      signed = sound.signed;
      info = sound.info;
      read = sound.read;
      trusted = record {
        hash = sound.trusted.hash;
        signer = other.0;
        found = other.1;
        by = record {
          certificate = by.certificate ∙ ap (λ (c : List ℕ). Some c) (sym kept.cert);
          digest = by.digest;
          signature = subst (λ (k : List ℕ). Verifies k (as_set sound.signed.attrs) sound.signed.signature) (sym kept.key) by.signature;
        };
      };
      says = sound.says;
    }

said_kept : (old new : Content) → Trusts old new → (t : Option TimeStamp) → IsSaidOf old t → IsSaidOf new t
said_kept old new trusts None said = tt
said_kept old new trusts (Some t) said = record {
  says = said.says;
  sound = sound_kept old new trusts t.token said.says said.sound;
  hash_is = said.hash_is;
  time_is = said.time_is;
  sid_is = said.sid_is;
}

pub all_kept : (old new : Content) (stamps : Stamps) → Trusts old new → AllByRecursion (IsSaidOf old) stamps → AllByRecursion (IsSaidOf new) stamps
all_kept old new stamps trusts all = all_weaker (IsSaidOf old) (IsSaidOf new) stamps (said_kept old new trusts) all
