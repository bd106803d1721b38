-- The worked examples compute. Assumes nothing.
use Rattle.std.proofs.Common.{refl}
use Rattle.symbol.specs.Values.{digits_value_of}
use Rattle.scanner.specs.Gaps.{gap}
use Rattle.scanner.specs.Fronts.{begins}
use Rattle.scanner.specs.Scan.{scan}
use Rattle.lexing.specs.Reading.{read_from}
use Rattle.lexing.specs.Examples.{Examples}

pub worked : Examples
unfolding digits_value_of gap begins scan read_from
worked =
    record {
      octal = refl;
      zeros = refl;
      largest = refl;
      beyond = refl;
      largest_octal = refl;
      nine = refl;
      ordinal = refl;
      in_quotes = refl;
      the_quote = refl;
      last_character = refl;
      no_character = refl;
      inner = refl;
      unended = refl;
      not_ended = refl;
      words = refl;
      stuck = refl;
    }
