-- What numbers and characters say.
use Rattle.std.specs.Prelude.{ℕ, ◌+◌, ◌-◌, ◌*◌, Bool, true, cond, not, ◌&&◌, List, [], ◌∷◌, length, take, Some, None, Option, ◌==◌, nat_le, nat_lt, slice_index}
use Rattle.std.specs.Char.{to_ascii_lowercase}

-- ---- digits

-- `b` is a digit of this base
abbrev pub digit_in : ℕ → ℕ → Bool
digit_in base b = nat_le 48 b && nat_lt b (48 + base)

-- what a digit says
abbrev pub digit_value_of : ℕ → ℕ → Option ℕ
digit_value_of base b = cond (digit_in base b) (Some (b - 48)) None

abbrev pub all_digits : ℕ → List ℕ → Bool
all_digits base [] = true
all_digits base (b ∷ bs) = digit_in base b && all_digits base bs

-- the number that the digits say, the highest first, behind those that say n
abbrev pub positional : ℕ → ℕ → List ℕ → ℕ
positional base n [] = n
positional base n (b ∷ bs) = positional base (n * base + (b - 48)) bs

-- the same, if there is a digit, nothing but digits, and the number is not above the limit
unfoldable pub digits_value_of : ℕ → ℕ → List ℕ → Option ℕ
digits_value_of base limit bs =
    cond (nat_lt 0 (length bs) && (all_digits base bs && nat_le (positional base 0 bs) limit)) (Some (positional base 0 bs)) None

-- ---- numbers and characters

abbrev pub largest_number : ℕ
largest_number = 2147483647

abbrev pub largest_character : ℕ
largest_character = 127

-- all but the last byte
abbrev pub front : List ℕ → List ℕ
front bs = take (length bs - 1) bs

-- the last byte, in small letters
abbrev pub last_letter : List ℕ → ℕ
last_letter bs = to_ascii_lowercase (slice_index bs (length bs - 1))

-- decimal digits, or octal digits and B
abbrev pub number_value_of : List ℕ → Option ℕ
number_value_of bs = cond (last_letter bs == 98) (digits_value_of 8 largest_number (front bs)) (digits_value_of 10 largest_number bs)

-- octal digits and C
abbrev pub ordinal_value_of : List ℕ → Option ℕ
ordinal_value_of bs = cond (last_letter bs == 99) (digits_value_of 8 largest_character (front bs)) None

-- from the blank to the tilde
abbrev pub printable : ℕ → Bool
printable b = nat_le 32 b && nat_le b 126

-- three bytes, the outer ones quotes, the inner one none
abbrev pub plainly_quoted : List ℕ → Bool
plainly_quoted bs =
    (length bs == 3) && (slice_index bs 0 == 34 && (slice_index bs 2 == 34 && (printable (slice_index bs 1) && not (slice_index bs 1 == 34))))

-- the quote itself is written twice between quotes
abbrev pub quoted_quote : List ℕ → Bool
quoted_quote bs =
    (length bs == 4) && (slice_index bs 0 == 34 && (slice_index bs 1 == 34 && (slice_index bs 2 == 34 && slice_index bs 3 == 34)))

abbrev pub quoted_value_of : List ℕ → Option ℕ
quoted_value_of bs = cond (plainly_quoted bs) (Some (slice_index bs 1)) (cond (quoted_quote bs) (Some 34) None)

-- a character by its octal number, or in quotes
abbrev pub character_value_of : List ℕ → Option ℕ
character_value_of bs = cond (slice_index bs 0 == 34) (quoted_value_of bs) (ordinal_value_of bs)
