use Rattle.std.proofs.Common.{◌≡◌, true, sym, subst, take}
use Rattle.std.specs.List.{list_all}
use Rattle.es5_ast.specs.Lexical.{is_identifier_part}
use Rattle.es5_tokens.proofs.Prefixes.{run_passes}
use Rattle.es5_tokens.proofs.element.word_element.Goals as goal

pub name_of-requires : goal.name_of-requires
name_of-requires c = subst (λ n. list_all is_identifier_part (take n c.args.rest.now) ≡ true) (sym c.identifier_run-length.ensures.value) (run_passes is_identifier_part c.args.rest.now)
