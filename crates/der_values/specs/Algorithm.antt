-- AlgorithmIdentifier (RFC 5280, 4.1.1.2): SEQUENCE { algorithm OBJECT IDENTIFIER, parameters ANY OPTIONAL }
use Rattle.std.specs.Prelude.{ℕ, Bool, true, false, List, [], ◌∷◌, ◌++◌, Option, Some, None, IfSome, Ok}
use Rattle.std.specs.Option.{option_map}
use Rattle.std.specs.Str.{bytes_eq}
use Rattle.der_values.specs.declared.fault.DerFault.{DerFault}
use Rattle.der_values.specs.declared.algorithm.AlgName.{AlgName}
use Rattle.der_values.specs.Input.{Input}
use Rattle.der_values.specs.Value.{value, bytes_or_none}
use Rattle.der_values.specs.Typed.{IsOid, IsOneValue}
use Rattle.der_values.specs.Shape.{any_tag, tagged, unchecked, is_oid, Shape, nothing_more, unread, required, optional, Checks}
use Rattle.der_values.specs.Reading.{Reading, read}
use Rattle.der_values.specs.Grammar.{Means}

-- no checks of one's own
pub data NoChecks : Type 0 where

-- no checks of one's own, and no state
abbrev pub plain : Checks NoChecks (Unit {0}) DerFault
plain = record { der = λ e. e; at_value = λ c σ v. Ok σ; at_point = λ c σ input. Ok σ; holds = λ c σ. false }

-- what stands in the SEQUENCE
abbrev pub algorithm_shape : {C : Type 0} → Shape C
algorithm_shape =
    required (tagged 0x06) is_oid unread (
    optional any_tag unchecked unread
    nothing_more)

-- the name of an algorithm, its parameters being all of their value's bytes
pub record Name : Type 0 where
  pub oid : List ℕ
  pub params : Option (List ℕ)

-- what a reading of it gives: the identifier, and the tag and contents of the parameters
abbrev pub AlgorithmParts : Type 0
AlgorithmParts = List ℕ × (Option (ℕ × List ℕ) × Unit {0})

-- the name that these parts say
abbrev pub name_of : AlgorithmParts → Name
name_of p = record { oid = p.0; params = option_map (λ (v : ℕ × List ℕ). value v.0 v.1) p.1.0 }

-- what an AlgName says
abbrev pub name_seen : AlgName → Name
name_seen a = record { oid = a.oid.now; params = option_map (λ b. b.now) a.params }

-- what the contents of a SEQUENCE are read as
unfoldable pub algorithm_of : Input → Reading AlgorithmParts (Unit {0}) DerFault
algorithm_of input = read plain algorithm_shape tt input

-- The contents of a SEQUENCE are those of an AlgorithmIdentifier, and they say this name.
abbrev pub IsAlgorithm : Input → Name → Type 0
IsAlgorithm input name = Means plain algorithm_shape tt (λ p σ. name_of p) input name

-- ---- as it is written

-- a name that has a spelling: its parameters are one value
pub record IsName (name : Name) : Type 0 where
  pub oid : IsOid name.oid
  pub params : IfSome name.params IsOneValue

-- the contents of an AlgorithmIdentifier (RFC 5280, 4.1.1.2)
abbrev pub name_contents : Name → List ℕ
name_contents name = value 0x06 name.oid ++ bytes_or_none name.params

-- parameters that are absent, or NULL in its two bytes (RFC 5754, 2)
abbrev pub are_none_or_null : Option (List ℕ) → Bool
are_none_or_null None = true
are_none_or_null (Some params) = bytes_eq params (0x05 ∷ 0x00 ∷ [])
