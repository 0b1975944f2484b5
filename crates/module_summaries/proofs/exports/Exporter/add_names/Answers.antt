use Rattle.std.proofs.Common.{◌≡◌, ◌++◌, Option, sym, subst}
use Rattle.es6_ast.specs.declared.module.Specifier.{Specifier}
use Rattle.module_summaries.specs.Parts.{listed_exports}
use Rattle.module_summaries.proofs.exports.Exporter.add_names.Goals as goal

pub returns-in_ok-add_local-in-None : goal.returns-in_ok-add_local-in-None
returns-in_ok-add_local-in-None c = λ known knows.
    let P : Option Specifier → Type 0 = λ from. c.add_local.new.all ≡ c.args.all.now ++ listed_exports known c.args.self.now from c.args.names.now in
    subst P (sym c.in-None.is) (c.in_ok-add_local-in-None.ensures known knows)
