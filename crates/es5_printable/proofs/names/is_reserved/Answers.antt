use Rattle.std.proofs.Common.{◌∙◌, sym}
use Rattle.es5_ast.specs.Lexical.{reserved_words}
use Rattle.es5_printable.proofs.Reserved.{not_reserved}
use Rattle.es5_printable.proofs.names.is_reserved.Goals as goal

pub returns-then-are_small : goal.returns-then-are_small
unfolding reserved_words
returns-then-are_small c = c.is_one_of.ensures

pub returns-else-are_small : goal.returns-else-are_small
returns-else-are_small c =
    c.if-are_small.false ∙ sym (not_reserved c.args.name.now (sym c.are_small.ensures ∙ c.if-are_small.false))
