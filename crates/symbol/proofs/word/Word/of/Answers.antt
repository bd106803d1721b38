use Rattle.std.proofs.Common.{◌≡◌, sym, ◌∙◌, rules, tests}
use Rattle.std.proofs.lemmas.Iterator.{YieldsList-from_slice}
use Rattle.std.proofs.lemmas.Iterator.Adapters.{option_map_id}
use Rattle.std.proofs.lemmas.Iterator.Consumers.{YieldsList-from_copied}
use Rattle.std.proofs.lemmas.Iterator.Search.{find_from_yields_List}
use Rattle.symbol.specs.Words.{same_name, word_spelling, words, reserved}
use Rattle.symbol.proofs.Reserved.{reserves}
use Rattle.symbol.proofs.word.Word.of.Goals as goal

pub returns : goal.returns
returns c =
    let n = c.args.name.now in
    let is : c.find.result ≡ reserved n =
    sym (option_map_id c.find.result)
    ∙ find_from_yields_List (λ w. same_name n (word_spelling w)) _ _ _ c.find.ensures.ran (YieldsList-from_copied (YieldsList-from_slice words (cc))) (λ x b q k. search (rules, tests)) in
    record { value = is; law = reserves n _ is }
