-- A part of what is written is no longer than the whole.
use Rattle.std.proofs.Common.{ℕ, ◌<◌, ◌≤◌, List, ◌++◌, length, arith}
use Rattle.std.proofs.lemmas.List.{length-append}
use Rattle.der_values.specs.Value.{value, length_octets}

pub content_shorter : (tag : ℕ) (content : List ℕ) → length content ≤ length (value tag content)
unfolding value
content_shorter tag content = omega (arith, length-append (length_octets (length content)) content)

pub inner_shorter : (tag : ℕ) (content : List ℕ) (most : ℕ) → length (value tag content) < most → length content < most
inner_shorter tag content most short = omega (arith, content_shorter tag content, short)

pub front_shorter : (xs ys : List ℕ) (most : ℕ) → length (xs ++ ys) < most → length xs < most
front_shorter xs ys most short = omega (arith, length-append xs ys, short)

pub back_shorter : (xs ys : List ℕ) (most : ℕ) → length (xs ++ ys) < most → length ys < most
back_shorter xs ys most short = omega (arith, length-append xs ys, short)

-- the contents of the first and of the last value
pub first_shorter : (tag : ℕ) (content rest : List ℕ) (most : ℕ) → length (value tag content ++ rest) < most → length content < most
first_shorter tag content rest most short = omega (arith, length-append (value tag content) rest, content_shorter tag content, short)

pub second_shorter : (before : List ℕ) (tag : ℕ) (content : List ℕ) (most : ℕ) → length (before ++ value tag content) < most → length content < most
second_shorter before tag content most short = omega (arith, length-append before (value tag content), content_shorter tag content, short)
