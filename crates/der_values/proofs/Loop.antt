-- A loop that reads values up to the end: what it has read so far, and how that goes on.
use Rattle.std.proofs.Common.{◌≡◌, ℕ, zero, suc, ◌<◌, ◌≤◌, true, false, List, [], ◌∷◌, ◌++◌, length, map, Ok, Err, refl, sym, ap, ◌∙◌, append_assoc, arith}
use Rattle.std.proofs.lemmas.List.{append-nil, map-append}
use Rattle.der_values.specs.declared.fault.DerFault.{DerFault}
use Rattle.der_values.specs.Input.{Input, Item}
use Rattle.der_values.specs.Steps.{◌>>=◌, lift}
use Rattle.der_values.specs.Next.{is_empty}
use Rattle.der_values.specs.Shape.{Tags}
use Rattle.der_values.specs.Reading.{header, Reading, Found, read_each}

abbrev pub before : {P S F : Type 0} → List P → Reading (List P) S F → Reading (List P) S F
before front (Ok y) = Ok (front ++ y.0, y.1)
before front (Err e) = Err e

-- What was read and what is still to be read is all that is read; vs is what f names of the parts so far.
pub record ReadSoFar {P V S F : Type 0} (der : DerFault → F) (tags : Tags) (each : S → Item → Reading P S F) (total : Reading (List P) S F) (f : P → V) (vs : List V) (σ : S) (input : Input) : Type 0 where
  pub fuel : ℕ
  pub enough : length input.left ≤ fuel
  pub front : List P
  pub is : before front (read_each der tags each fuel σ input) ≡ total
  pub named : map f front ≡ vs

module _ {P V S F : Type 0} (der : DerFault → F) (tags : Tags) (each : S → Item → Reading P S F) (total : Reading (List P) S F) (f : P → V) where
  pub none_read : (σ : S) (input : Input) → read_each der tags each (length input.left) σ input ≡ total → ReadSoFar der tags each total f [] σ input
  none_read σ input e = record { fuel = length input.left; enough = omega arith; front = []; is = none (read_each der tags each (length input.left) σ input) ∙ e; named = refl } where
    none : (r : Reading (List P) S F) → before [] r ≡ r
    none (Ok y) = refl
    none (Err e) = refl

  pub all_read : (vs : List V) (σ : S) (input : Input) → is_empty input.left ≡ true → ReadSoFar der tags each total f vs σ input → Found {V = List V × S} (λ ps τ. (map f ps, τ)) (vs, σ) total
  all_read vs σ input e so_far = record { parts = so_far.front; state = σ; is = sym so_far.is ∙ done so_far.fuel; named = ap (λ (l : List V). (l, σ)) so_far.named } where
    done : (n : ℕ) → before so_far.front (read_each der tags each n σ input) ≡ Ok (so_far.front, σ)
    done zero = ap (λ (l : List P). Ok (l, σ)) (append-nil so_far.front)
    done (suc n) = rw e (ap (λ (l : List P). Ok (l, σ)) (append-nil so_far.front))

  -- one step of what is still to be read
  abbrev one_step : ℕ → S → Input → Reading (List P) S F
  one_step n σ input = lift der (header tags input) >>= λ v. each σ v.0 >>= λ x. read_each der tags each n x.1 v.1 >>= λ y. Ok (x.0 ∷ y.0, y.1)

  stepped : (n : ℕ) (σ : S) (input : Input) → is_empty input.left ≡ false → length input.left ≤ n → (m : ℕ) × (n ≡ suc m) × (read_each der tags each n σ input ≡ one_step m σ input)
  stepped zero σ input e le = absurd (filled input.left e le) where
    filled : (bytes : List ℕ) → is_empty bytes ≡ false → length bytes ≤ 0 → ⊥
    filled [] e le = cc
    filled (b ∷ bs) e le = omega arith
  stepped (suc n) σ input e le = (n, refl, rw e refl)

  pub header_fails : (vs : List V) (σ : S) (input : Input) (e : DerFault) → is_empty input.left ≡ false → ReadSoFar der tags each total f vs σ input → header tags input ≡ Err e → total ≡ Err (der e)
  header_fails vs σ input e some so_far h =
      let s = stepped so_far.fuel σ input some so_far.enough in
      sym so_far.is ∙ ap (before so_far.front) s.2 ∙ rw h refl

  pub value_fails : (vs : List V) (σ : S) (input : Input) (v : Item) (after : Input) (e : F) → is_empty input.left ≡ false → ReadSoFar der tags each total f vs σ input → header tags input ≡ Ok (v, after) → each σ v ≡ Err e → total ≡ Err e
  value_fails vs σ input v after e some so_far h r =
      let s = stepped so_far.fuel σ input some so_far.enough in
      sym so_far.is ∙ ap (before so_far.front) s.2 ∙ rw (h, r) refl

  pub one_more : (vs : List V) (σ : S) (input : Input) (v : Item) (after : Input) (p : P) (τ : S) → is_empty input.left ≡ false → length after.left < length input.left → ReadSoFar der tags each total f vs σ input → header tags input ≡ Ok (v, after) → each σ v ≡ Ok (p, τ) → ReadSoFar der tags each total f (vs ++ f p ∷ []) τ after
  one_more vs σ input v after p τ some less so_far h r =
      let s = stepped so_far.fuel σ input some so_far.enough in
      record {
        fuel = s.0;
        enough = omega (arith, s.1, so_far.enough);
        front = so_far.front ++ p ∷ [];
        is = regroup so_far.front p (read_each der tags each s.0 τ after) ∙ sym (ap (before so_far.front) s.2 ∙ rw (h, r) refl) ∙ so_far.is;
        named = map-append f so_far.front (p ∷ []) ∙ ap (λ (l : List V). l ++ f p ∷ []) so_far.named;
      }
    where
      regroup : (front : List P) (q : P) (r : Reading (List P) S F) → before (front ++ q ∷ []) r ≡ before front (r >>= λ y. Ok (q ∷ y.0, y.1))
      regroup front q (Ok y) = ap (λ (l : List P). Ok (l, y.1)) (simp append_assoc)
      regroup front q (Err e) = refl
