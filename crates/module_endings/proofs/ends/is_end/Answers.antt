use Rattle.std.proofs.Common.{refl, sym, subst}
use Rattle.es6_ast.specs.declared.graph.EndOf.{EndOf}
use Rattle.es6_ast.specs.declared.graph.EndOf.TheVariants.{Local, Host}
use Rattle.module_endings.specs.declared.place.Home.{Home}
use Rattle.module_endings.specs.Ends.{IsEndingFrom}
use Rattle.module_endings.proofs.ends.is_end.Goals as goal

pub returns-in-Some : goal.returns-in-Some
returns-in-Some c =
    let P : Home → Type 0 = λ home. (x : EndOf) × IsEndingFrom c.args.hosts.now home c.args.place.now.name x in
    subst P (sym c.in-OfHosts.is) (Host c.in-Some.field-0, (c.in-Some.field-0, c.in-Some.ensures, refl))

pub returns-in-Binding : goal.returns-in-Binding
returns-in-Binding c =
    let P : Home → Type 0 = λ home. (x : EndOf) × IsEndingFrom c.args.hosts.now home c.args.place.now.name x in
    subst P (sym c.in-Binding.is) (Local c.in-Binding.field-0 c.args.place.now.name, refl)
