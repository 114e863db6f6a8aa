-- A place among the names.
use borrow.Author.Rules.{rules}
use Rattle.model.specs.Word.{scheme_of}
use Rattle.tokens.proofs.words.scheme_in.Goals as goal

pub place_in-requires : goal.place_in-requires
unfolding scheme_of
place_in-requires c = search rules

pub returns : goal.returns
unfolding scheme_of
returns c = search rules
