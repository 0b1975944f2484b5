use Rattle.std.proofs.Common.{rules}
use Rattle.es6_cursor.proofs.Rules.{groups}
use Rattle.es6_read_modules.proofs.Names.{export_names_is}
use Rattle.es6_read_modules.proofs.export.export_names.Goals as goal

pub returns-in_err-enter : goal.returns-in_err-enter
returns-in_err-enter g c = search (rules, groups, export_names_is)

pub returns-in_err-names : goal.returns-in_err-names
returns-in_err-names g c = search (rules, groups, export_names_is)

pub returns : goal.returns
returns g c = search (rules, groups, export_names_is)
