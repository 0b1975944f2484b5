-- A directive as the program has it, and as the definition of early errors has it.
use Rattle.early_names.specs.declared.directives.Directive.{Directive}
use Rattle.early_names.specs.declared.directives.Directive.TheVariants as code
use Rattle.es6_static_semantics.specs.Early as early

abbrev pub directive_of : Directive → early.Directive
directive_of code.NoDirective = early.NoDirective
directive_of code.OtherDirective = early.OtherDirective
directive_of (code.StrictDirective at) = early.StrictDirective at
