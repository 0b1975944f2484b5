use Rattle.std.proofs.Common.{◌∙◌, rules, tests}
use Rattle.std.proofs.lemmas.Iterator.{YieldsList-from_slice}
use Rattle.std.proofs.lemmas.Iterator.Search.{all_from_yields_List}
use Rattle.es6_ast.specs.Tokens.{is_identifier}
use Rattle.es6_read_modules.proofs.Names.{are_own_is}
use Rattle.es6_read_modules.proofs.export.are_own.Goals as goal

pub returns : goal.returns
returns c = all_from_yields_List (λ name. is_identifier name.local.name) _ _ c.all.result c.all.ensures.ran (YieldsList-from_slice c.args.names.now cc) (λ x b q k. search (rules, tests)) ∙ are_own_is c.args.names.now
