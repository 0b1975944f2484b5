-- What `export default` doesn't declare.
use Rattle.std.proofs.Common.{◌≡◌, ℕ, [], refl}
use Rattle.es6_ast.specs.declared.module.DefaultExport.{DefaultExport}
use Rattle.es6_ast.specs.declared.module.DefaultExport.TheVariants.{DefaultClass, DefaultFunction, DefaultValue}
use Rattle.module_lowering.specs.Modules.{default_listed}

pub no_variables : (at : ℕ) (x : DefaultExport) → (default_listed at x).variables ≡ []
no_variables at (DefaultFunction f) = refl
no_variables at (DefaultClass c) = refl
no_variables at (DefaultValue x) = refl
