-- The words of an input: each ends at a space, at a line feed or at the end, and is judged before what stands behind it.
use Rattle.std.specs.Prelude.{ℕ, ◌+◌, ◌-◌, ◌*◌, Bool, false, not, ◌&&◌, ◌||◌, ◌==◌, nat_le, nat_lt, List, [], ◌∷◌, length, take, drop, Option, Some, None, Result, Ok, if◌then◌else◌}
use Rattle.std.specs.List.{list_all, position_or_len}
use Rattle.std.specs.Char.{is_ascii_digit}
use Rattle.std.specs.Str.{bytes_eq}
use Rattle.der_values.specs.Steps.{◌>>=◌}
use Rattle.der_values.specs.Next.{is_empty}
use Rattle.civil_moment.specs.declared.fault.TimeFault.{TimeFault}
use Rattle.civil_moment.specs.Fault.{first_fault}
use Rattle.session_text.specs.declared.shape.ShapeFault.{ShapeFault}
use Rattle.session_text.specs.declared.shape.ShapeKind.TheVariants.{Word, Number, Limit, Moment, Cut}
use Rattle.session_text.specs.Unread.{Unread, Reading, shape_fault}

-- ---- words and what parts them

abbrev pub ends_word : ℕ → Bool
ends_word byte = byte == 32 || byte == 10

abbrev pub word_length : List ℕ → ℕ
word_length bytes = position_or_len ends_word bytes

-- the word that stands here
unfoldable pub word_at : Unread → Reading (List ℕ)
word_at unread =
    if is_empty unread.bytes then shape_fault unread.place Cut
    else Ok (take (word_length unread.bytes) unread.bytes, record { place = unread.place + word_length unread.bytes; bytes = drop (word_length unread.bytes) unread.bytes })

-- this space or line feed
unfoldable pub separator_on : ℕ → ℕ → List ℕ → Reading (Unit {0})
separator_on separator place [] = shape_fault place Cut
separator_on separator place (byte ∷ bytes) = if byte == separator then Ok (tt, record { place = place + 1; bytes = bytes }) else shape_fault place Word

-- this space or line feed stands next
abbrev pub separator_at : ℕ → Unread → Reading (Unit {0})
separator_at separator unread = separator_on separator unread.place unread.bytes

-- this word, and the separator behind it
unfoldable pub keyword_at : List ℕ → ℕ → Unread → Reading (Unit {0})
keyword_at name separator unread =
    word_at unread >>= λ w. if bytes_eq w.0 name then separator_at separator w.1 else shape_fault unread.place Word

-- ---- numbers

-- more than one digit, and the first is 0
abbrev pub leads_with_zero : List ℕ → Bool
leads_with_zero [] = false
leads_with_zero (digit ∷ []) = false
leads_with_zero (digit ∷ other ∷ rest) = digit == 48

-- one to twenty decimal digits without a sign or a leading zero
abbrev pub is_number : List ℕ → Bool
is_number word = list_all is_ascii_digit word && not (is_empty word) && nat_le (length word) 20 && not (leads_with_zero word)

-- a number that goes on with these digits
abbrev pub number_on : ℕ → List ℕ → ℕ
number_on number [] = number
number_on number (digit ∷ rest) = number_on (number * 10 + (digit - 48)) rest

-- the number that digits say
abbrev pub number_of : List ℕ → ℕ
number_of word = number_on 0 word

-- a word as a number that is at most this one
unfoldable pub number_in : ℕ → ℕ → List ℕ → Result ℕ ShapeFault
number_in place most word =
    if not (is_number word) then shape_fault place Number
    else if nat_lt most (number_of word) then shape_fault place Limit
    else Ok (number_of word)

-- a word that is a number of at most this one, and its separator
unfoldable pub number_at : ℕ → ℕ → Unread → Reading ℕ
number_at most separator unread =
    word_at unread >>= λ w. number_in unread.place most w.0 >>= λ n. separator_at separator w.1 >>= λ u. Ok (n, u.1)

-- ---- moments

-- a word as a time, by its fault
unfoldable pub time_in : ℕ → List ℕ → Option TimeFault → Result (List ℕ) ShapeFault
time_in place word None = Ok word
time_in place word (Some fault) = shape_fault place Moment

-- a generalized time (X.690, 11.7), as its text
unfoldable pub time_at : ℕ → Unread → Reading (List ℕ)
time_at separator unread =
    word_at unread >>= λ w. time_in unread.place w.0 (first_fault w.0) >>= λ t. separator_at separator w.1 >>= λ u. Ok (t, u.1)
