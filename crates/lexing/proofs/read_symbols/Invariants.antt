use Rattle.std.proofs.Common.{◌≡◌, ◌-◌, ◌≤◌, map, length, vec_items}
use Rattle.symbol.specs.Symbols.{placed_of}
use Rattle.scanner.specs.States.{text_of, place_in}
use Rattle.lexing.specs.Reading.{symbols_of}
use Rattle.lexing.proofs.Whole.{rest, onto}
use Rattle.lexing.proofs.read_symbols.Given as goal

-- what was read, with what is left, gives the whole
abbrev pub invariant-loop-fault : goal.invariant-loop-fault
invariant-loop-fault l =
    (text_of l.scanner ≡ l.text)
    × (place_in l.scanner ≤ length l.text)
    × (length l.text ≤ 16384)
    × (onto (map placed_of (vec_items l.list)) (rest l.text (place_in l.scanner)) ≡ symbols_of l.text)

abbrev pub decreases-loop-fault : goal.decreases-loop-fault
decreases-loop-fault l = length l.text - place_in l.scanner
