-- Numbers of four bytes at a place.
use Rattle.std.proofs.Common.{◌≡◌, ℕ, ◌+◌, List, [], ◌∷◌, get_or, drop, ap, ◌∙◌, arith}
use Rattle.std.specs.Int.{w32, from_be_bytes}
use Rattle.std.proofs.lemmas.List.{get_or-drop}
use Rattle.hash_kit.specs.HssKey.{u32_at}

four : (bytes : List ℕ) (a b c d : ℕ) → get_or bytes 0 0 ≡ a → get_or bytes 1 0 ≡ b → get_or bytes 2 0 ≡ c → get_or bytes 3 0 ≡ d → from_be_bytes w32 (a ∷ b ∷ c ∷ d ∷ []) ≡ from_be_bytes w32 bytes
four bytes a b c d p q r s = cc

pub read_at : (place : ℕ) (bytes : List ℕ) → from_be_bytes w32 (get_or bytes place 0 ∷ get_or bytes (place + 1) 0 ∷ get_or bytes (place + 2) 0 ∷ get_or bytes (place + 3) 0 ∷ []) ≡ u32_at place bytes
read_at place bytes =
    let here : place + 0 ≡ place = omega arith in
    four (drop place bytes) _ _ _ _ (get_or-drop place bytes 0 0 ∙ ap (λ k. get_or bytes k 0) here) (get_or-drop place bytes 1 0) (get_or-drop place bytes 2 0) (get_or-drop place bytes 3 0)
