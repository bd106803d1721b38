-- The types of a resolved program. An array, a record or an enumeration is known by the number of its writing: two types are the same
-- if they come from one writing.
use Rattle.std.specs.Prelude.{ℕ, ◌+◌, ◌*◌, suc, Bool, true, ◌&&◌, ◌≡◌, ◌⊎◌, ℤ, pos, nat_abs, ◌-ℤ◌, leb}
use Rattle.std.specs.Int.Signed.{le_z}
use Rattle.integer.specs.Integers.{greatest}

-- the simple types; an enumeration has its writing and its last value
pub data Simple : Type 0 where
  integer boolean char : Simple
  enumeration : (writing last : ℕ) → Simple

-- where an array or a record type is written: the number of the writing, and the module in whose text it stands
pub record Writing : Type 0 where
  pub number : ℕ
  pub inside : ℕ

mutual
  pub data Shape : Type 0 where
    simple : Simple → Shape
    array : Writing → (low high : ℤ) → Shape → Shape
    record_of : Writing → Fields → Shape

  -- the fields of a record, in text order
  pub data Fields : Type 0 where
    no_field : Fields
    field_and : Shape → Fields → Fields

-- how many cells a variable of this type has: one for each simple part
abbrev mutual
  pub size : Shape → ℕ
  size (simple t) = 1
  size (array w low high s) = suc (nat_abs (high -ℤ low)) * size s
  size (record_of w fs) = sizes fs

  pub sizes : Fields → ℕ
  sizes no_field = 0
  sizes (field_and s fs) = size s + sizes fs

-- in every array the low bound is not above the high one
abbrev mutual
  pub sane : Shape → Bool
  sane (simple t) = true
  sane (array w low high s) = le_z low high && sane s
  sane (record_of w fs) = sane_fields fs

  pub sane_fields : Fields → Bool
  sane_fields no_field = true
  sane_fields (field_and s fs) = sane s && sane_fields fs

-- from the low bound to the high one
abbrev pub within : ℤ → ℤ → ℤ → Bool
within low high v = le_z low v && le_z v high

-- the values of a simple type
abbrev pub fits : Simple → ℤ → Bool
fits integer v = leb (nat_abs v) greatest
fits boolean v = within (pos 0) (pos 1) v
fits char v = within (pos 0) (pos 127) v
fits (enumeration writing last) v = within (pos 0) (pos last) v

-- the first cell of the element with the index v, in an array that begins at `base`
abbrev pub element_cell : ℕ → ℤ → Shape → ℤ → ℕ
element_cell base low s v = base + nat_abs (v -ℤ low) * size s

-- the record has a field of this type at this offset
abbrev pub Field : Fields → ℕ → Shape → Type 0
Field no_field o s = ⊥
Field (field_and u fs) o s = ((o ≡ 0) × (u ≡ s)) ⊎ ((p : ℕ) × (o ≡ size u + p) × Field fs p s)
