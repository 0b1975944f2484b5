-- Catch parameters.
use Rattle.std.specs.Prelude.{ℕ, List, ◌++◌}
use Rattle.core_ast.specs.declared.parts.Var.{Var}
use Rattle.core_ast.specs.declared.tree.CoreStat.{CoreStat}
use Rattle.core_ast.specs.Made.{variable}
use Rattle.module_lowering.specs.declared.context.Role.TheVariants.{Initializes}
use Rattle.module_lowering.specs.Lowering.{Lowering, asks, pure, within, ◌>>=◌}
use Rattle.module_lowering.specs.Names.{places, scoped_names}
use Rattle.module_lowering.specs.Nodes.{Patterned}
use Rattle.lower_flow.specs.declared.handlers.Parameter.{Parameter}

-- a parameter takes what is thrown, where the names at these places may be uninitialized
abbrev pub in_heads : List ℕ → Patterned → Var → Lowering (List CoreStat)
in_heads ps p thrown = within (λ c. record c { heads = ps ++ c.heads }) (p.bound Initializes (variable thrown))

abbrev pub parameter_made : Patterned → Var → Lowering Parameter
parameter_made p thrown = do
  names ← asks (scoped_names (places p.names))
  bound ← in_heads (places p.names) p thrown
  pure (record { names = names; bound = bound })
