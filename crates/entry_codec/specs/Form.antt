-- What may stand in bytes, one byte after another, and a reading of it from the left.
use Rattle.std.specs.Prelude.{ℕ, zero, suc, ◌+◌, Bool, true, List, [], ◌∷◌, Option, Some, None, Result, Ok, Err, if◌then◌else◌}
use Rattle.der_values.specs.Next.{is_empty}

-- A form stands for a value, or asks for a byte that passes a test and says what may stand behind it.
pub data Form (A : Type 0) : Type 0 where
  whole : A → Form A
  byte : (ℕ → Bool) → (ℕ → Form A) → Form A

-- one form, and another behind it that depends on its value
unfoldable pub followed : {A B : Type 0} → Form A → (A → Form B) → Form B
followed (whole a) next = next a
followed (byte passes rest) next = byte passes (λ b. followed (rest b) next)

-- so many bytes
unfoldable pub some_bytes : ℕ → Form (List ℕ)
some_bytes zero = whole []
some_bytes (suc n) = byte (λ b. true) (λ b. followed (some_bytes n) (λ bytes. whole (b ∷ bytes)))

-- So many items. Each depends on how many follow it and on a number, and the next number on it.
unfoldable pub repeated : {A : Type 0} → (ℕ → ℕ → Form A) → (ℕ → A → ℕ) → ℕ → ℕ → Form (List A)
repeated item next zero state = whole []
repeated item next (suc n) state = followed (item n state) (λ x. followed (repeated item next n (next state x)) (λ xs. whole (x ∷ xs)))

-- ---- a reading

-- the bytes that are left, and the place of the first of them
pub record Unread : Type 0 where
  pub place : ℕ
  pub bytes : List ℕ

-- the value and what is left behind it, or the place of the first byte that fits no more
abbrev pub Reading : Type 0 → Type 0
Reading A = Result (A × Unread) ℕ

-- a reading of the form from this place on
unfoldable pub reads : {A : Type 0} → Form A → ℕ → List ℕ → Reading A
reads (whole a) place bytes = Ok (a, record { place = place; bytes = bytes })
reads (byte passes rest) place [] = Err place
reads (byte passes rest) place (b ∷ bytes) = if passes b then reads (rest b) (place + 1) bytes else Err place

-- the first fault where nothing may stand behind the form
abbrev pub nothing_more : Unread → Option ℕ
nothing_more unread = if is_empty unread.bytes then None else Some unread.place

-- the fault of a reading of all bytes
abbrev pub fault_of : {A : Type 0} → Reading A → Option ℕ
fault_of (Ok x) = nothing_more x.1
fault_of (Err place) = Some place
