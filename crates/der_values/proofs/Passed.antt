-- Parts whose contents are not read, and names of algorithms, under any checks.
use Rattle.std.proofs.Common.{◌≡◌, ℕ, List, Option, Some, None, Result, Ok, Err, refl, arith}
use Rattle.der_values.specs.declared.fault.DerFault.{DerFault}
use Rattle.std.specs.Option.{option_map}
use Rattle.der_values.specs.Input.{Input, Item}
use Rattle.der_values.specs.Value.{value}
use Rattle.der_values.specs.Steps.{◌>>=◌}
use Rattle.der_values.specs.Shape.{Tags, any_tag, Checks, Check, unchecked, part}
use Rattle.der_values.specs.Reading.{at_header, at_end, check_optional, body, body_optional, read}
use Rattle.der_values.specs.Algorithm.{algorithm_shape, algorithm_of}

abbrev pub whole_contents : {S F : Type 0} → S → Input → Result (List ℕ × S) F
whole_contents σ input = Ok (input.left, σ)

pub optional_passed : {C S F : Type 0} (k : Checks C S F) (tags : Tags) (σ : S) (o : Option Item) →
    body_optional (body k tags unchecked whole_contents) σ o ≡ Ok (option_map (λ (v : Item). part tags v.tag v.content) o, σ)
optional_passed k tags σ None = refl
optional_passed k tags σ (Some v) = refl

pub passed_whole : (o : Option Item) → option_map (λ (v : ℕ × List ℕ). value v.0 v.1) (option_map (λ (v : Item). part any_tag v.tag v.content) o) ≡ option_map (λ (v : Item). value v.tag v.content) o
passed_whole None = refl
passed_whole (Some v) = refl

abbrev with_state : {A S F : Type 0} → A → S → Result (A × S) F
with_state a σ = Ok (a, σ)

joined : {A B S F : Type 0} (r : Result S F) (t : S → Result S F) (a : A) (f : A → B) → ((r >>= λ σ1. t σ1 >>= with_state a) >>= λ (x : A × S). with_state (f x.0) x.1) ≡ ((r >>= t) >>= with_state (f a))
joined {A} {B} {S} {F} (Ok σ) t a f = second (t σ) where
  second : (r : Result S F) → ((r >>= with_state a) >>= λ (x : A × S). with_state (f x.0) x.1) ≡ (r >>= with_state (f a))
  second (Ok τ) = refl
  second (Err e) = refl
joined (Err e) t a f = refl

-- an optional value whose contents are not read, and its check
pub optional_checked : {C S F : Type 0} (k : Checks C S F) (tags : Tags) (c : Check C) (σ : S) (o : Option Item) →
    body_optional (body k tags c whole_contents) σ o ≡ (check_optional k c σ o >>= λ σ1. Ok (option_map (λ (v : Item). part tags v.tag v.content) o, σ1))
optional_checked k tags c σ None = refl
optional_checked k tags c σ (Some v) = joined (at_header k c σ v) (λ σ1. at_end k c σ1 v) (part tags v.tag v.content) Some

-- An AlgorithmIdentifier is read alike under all checks.
abbrev pub under : {A S F : Type 0} → (DerFault → F) → S → Result (A × Unit {0}) DerFault → Result (A × S) F
under der σ (Ok x) = Ok (x.0, σ)
under der σ (Err e) = Err (der e)

pub algorithm_alike : {C S F : Type 0} (k : Checks C S F) (σ : S) (input : Input) → read k algorithm_shape σ input ≡ under k.der σ (algorithm_of input)
unfolding read algorithm_of
algorithm_alike k σ input = grind arith
