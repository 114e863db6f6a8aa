-- The byte string's fields are the definition's words.
use borrow.Author.Rules.{rules}
use Rattle.model.specs.Word.{operation_of}
use Rattle.tokens.proofs.words.operation_in.Goals as goal

pub place_in-requires : goal.place_in-requires
unfolding operation_of
place_in-requires c = search rules

pub returns : goal.returns
unfolding operation_of
returns c = search rules
