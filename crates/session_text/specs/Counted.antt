-- Counted bytes: a word, their number, a line feed, the bytes, a line feed.
use Rattle.std.specs.Prelude.{ℕ, ◌+◌, ◌==◌, nat_lt, List, [], ◌∷◌, ◌++◌, length, take, drop, decimal, Ok, if◌then◌else◌}
use Rattle.der_values.specs.Steps.{◌>>=◌}
use Rattle.session_text.specs.declared.shape.ShapeKind.TheVariants.{Cut, Mark}
use Rattle.session_text.specs.Unread.{Unread, Reading, shape_fault}
use Rattle.session_text.specs.Words.{keyword_at, number_at}

-- the line feed behind counted bytes
unfoldable pub mark_on : ℕ → List ℕ → Reading (Unit {0})
mark_on place [] = shape_fault place Cut
mark_on place (byte ∷ bytes) = if byte == 10 then Ok (tt, record { place = place + 1; bytes = bytes }) else shape_fault place Mark

-- so many bytes, and the line feed behind them
unfoldable pub bytes_at : ℕ → Unread → Reading (List ℕ)
bytes_at count unread =
    if nat_lt (length unread.bytes) count then shape_fault (unread.place + length unread.bytes) Cut
    else mark_on (unread.place + count) (drop count unread.bytes) >>= λ u. Ok (take count unread.bytes, u.1)

-- a word, a number that is at most this one, and so many bytes
unfoldable pub counted_at : List ℕ → ℕ → Unread → Reading (List ℕ)
counted_at name most unread =
    keyword_at name 32 unread >>= λ u. number_at most 10 u.1 >>= λ n. bytes_at n.0 n.1

-- their one spelling
abbrev pub counted_text : List ℕ → List ℕ → List ℕ
counted_text name bytes = name ++ (32 ∷ (decimal (length bytes) ++ (10 ∷ (bytes ++ (10 ∷ [])))))
