-- What is printed of a strip: a line for each cell.
use Rattle.std.specs.Prelude.{ℕ, ◌+◌, ◌*◌, cond, List, [], ◌∷◌, Some, None, Option, nat_lt, slice_index}
use Rattle.strip.specs.Bytes.{cell_of, strip_count}
use Rattle.weighings.specs.declared.Line.{Line}

-- cell n with its own four bytes and the number that they are
abbrev pub line_at : List ℕ → ℕ → Option Line
line_at bs n =
    cond (nat_lt n (strip_count bs))
    (Some (record { cell = n; bytes = slice_index bs (4 * n) ∷ slice_index bs (4 * n + 1) ∷ slice_index bs (4 * n + 2) ∷ slice_index bs (4 * n + 3) ∷ []; number = cell_of bs n }))
    None
