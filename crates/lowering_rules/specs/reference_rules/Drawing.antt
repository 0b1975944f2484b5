-- What is made with new temporaries, and the names behind it.
use Rattle.std.specs.Prelude.{◌≡◌, Result, IfOk}
use Rattle.core_ast.specs.declared.parts.Var.{Var}
use Rattle.core_ast.specs.Names.{next}
use Rattle.lowering_rules.specs.declared.naming.Names.{Names}
use Rattle.lowering_rules.specs.Naming.{Drawn, with_temporary}

abbrev pub drawn : {A : Type 0} → A → Names → Drawn A
drawn x n = record { value = x; names = n }

-- of one temporary
abbrev pub with_one : {A : Type 0} → (Var → A) → Names → Drawn A
with_one f n = drawn (f (next n.fresh)) (with_temporary n)

abbrev pub made_of : {A B : Type 0} → (A → B) → Drawn A → Drawn B
made_of f d = drawn (f d.value) d.names

-- where memory is there, this is made, and these are the names behind it
abbrev pub Makes : {A E : Type 0} → Result A E → Names → Drawn A → Type 0
Makes result n d = IfOk result (λ x. drawn x n ≡ d)
