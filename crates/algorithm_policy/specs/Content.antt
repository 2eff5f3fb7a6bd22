-- What a policy says: until when each hash algorithm and each authority is good.
use Rattle.std.specs.Prelude.{◌≡◌, ℕ, ◌≤◌, Bool, true, not, ◌&&◌, IsTrue, List, [], ◌∷◌, length, find, Option, None, unwrap_or, pos}
use Rattle.std.proofs.Common.{lit<}
use Rattle.std.specs.List.{list_all, list_any, AllByRecursion}
use Rattle.std.specs.Ordering.{is_lt, is_le}
use Rattle.std.specs.Str.{bytes_eq}
use Rattle.civil_moment.specs.declared.moment.Moment.{Moment}
use Rattle.civil_moment.specs.Moment.{moment_order}
use Rattle.hash_kit.specs.Algorithm.{algorithms}
use Rattle.hash_kit.specs.Node.{bytes_cmp}
use Rattle.hash_kit.specs.declared.algorithm.HashAlg.{HashAlg}
use Rattle.hash_kit.specs.declared.algorithm.HashAlg.TheVariants.{Sha256, Sha384, Sha512}
use Rattle.hex.specs.Hex.{IsBytes}
use Rattle.algorithm_policy.specs.declared.signer.Signer.{Signer}
use Rattle.algorithm_policy.specs.Words.{is_name, is_sid, is_key, is_cert}

-- the ends of the hash algorithms that it names, and the authorities in their order
pub record Content : Type 0 where
  pub sha256 : Option Moment
  pub sha384 : Option Moment
  pub sha512 : Option Moment
  pub signers : List Signer

-- ---- which are policies

-- each part of an authority is of its shape
pub record IsSigner (signer : Signer) : Type 0 where
  pub name : IsTrue (is_name signer.name)
  pub sid : IsTrue (is_sid signer.sid)
  pub key : IsTrue (is_key signer.key)
  pub cert : IsTrue (is_cert signer.cert)
  pub sid_bytes : IsBytes signer.sid
  pub key_bytes : IsBytes signer.key
  pub cert_bytes : IsBytes signer.cert

-- each item and each later one pass the test
abbrev pub all_pairs : {A : Type 0} → (A → A → Bool) → List A → Bool
all_pairs test [] = true
all_pairs test (item ∷ rest) = list_all (test item) rest && all_pairs test rest

-- the first name is below the second, as byte strings
abbrev pub is_below : List ℕ → List ℕ → Bool
is_below a b = is_lt (bytes_cmp a b)

-- at most 64 authorities, strictly ascending by name, of which no two have one identifier
pub record IsPolicy (policy : Content) : Type 0 where
  pub signers : AllByRecursion IsSigner policy.signers
  pub ascending : IsTrue (all_pairs (λ a b. is_below a.name b.name) policy.signers)
  pub distinct : IsTrue (all_pairs (λ a b. not (bytes_eq a.sid b.sid)) policy.signers)
  pub few : length policy.signers ≤ 64

-- it names nothing
abbrev pub empty : Content
empty = record { sha256 = None; sha384 = None; sha512 = None; signers = [] }

-- ---- hash algorithms

-- the end of an algorithm that it names
abbrev pub named_end : Content → HashAlg → Option Moment
named_end policy Sha256 = policy.sha256
named_end policy Sha384 = policy.sha384
named_end policy Sha512 = policy.sha512

-- the begin of 1970
abbrev pub epoch : Moment
epoch = record { seconds = pos 0; nanos = 0; from_1970 = record { le = tt }; until_9999 = record { le = tt }; below_second = lit< tt }

-- the end of an algorithm, which is the begin of 1970 for one that it doesn't name
abbrev pub hash_end : Content → HashAlg → Moment
hash_end policy alg = unwrap_or (named_end policy alg) epoch

-- no algorithm ends later
abbrev pub ends_last : Content → HashAlg → Bool
ends_last policy alg = list_all (λ other. is_le (moment_order (hash_end policy other) (hash_end policy alg))) algorithms

-- the first of those that end last
abbrev pub target : Content → HashAlg
target policy = unwrap_or (find (ends_last policy) algorithms) Sha256

-- ---- authorities

-- the authority of this identifier
abbrev pub signer_of : Content → List ℕ → Option Signer
signer_of policy sid = find (λ signer. bytes_eq signer.sid sid) policy.signers

-- the same name, identifier, key and certificate
abbrev pub is_same : Signer → Signer → Bool
is_same a b = bytes_eq a.name b.name && bytes_eq a.sid b.sid && bytes_eq a.key b.key && bytes_eq a.cert b.cert

-- the first authority of the old policy that the new one lacks, or has with another identifier, key or certificate
abbrev pub first_dropped : Content → Content → Option Signer
first_dropped old new = find (λ signer. not (list_any (is_same signer) new.signers)) old.signers

-- the same name, identifier, key and certificate, whatever the ends
pub record IsKept (old new : Signer) : Type 0 where
  pub name : new.name ≡ old.name
  pub sid : new.sid ≡ old.sid
  pub key : new.key ≡ old.key
  pub cert : new.cert ≡ old.cert
