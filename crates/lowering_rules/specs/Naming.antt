-- Temporaries: new names, which the function at hand has as locals.
use Rattle.std.specs.Prelude.{[], ◌∷◌, ◌++◌, None}
use Rattle.core_ast.specs.Names.{next, with_hint}
use Rattle.lowering_rules.specs.declared.naming.Iteration.{Iteration}
use Rattle.lowering_rules.specs.declared.naming.Names.{Names}

abbrev pub with_temporary : Names → Names
with_temporary n = record { fresh = with_hint None n.fresh; locals = n.locals ++ next n.fresh ∷ [] }

-- a name that is no local: the parameter of a handler
abbrev pub with_raw : Names → Names
with_raw n = record n { fresh = with_hint None n.fresh }

pub record Drawn (A : Type 0) : Type 0 where
  pub value : A
  pub names : Names

abbrev pub drawn_iteration : Names → Drawn Iteration
drawn_iteration n =
    let n1 = with_temporary n in
    let n2 = with_temporary n1 in
    let n3 = with_temporary n2 in
    let n4 = with_temporary n3 in
    record {
      value = record {
        iterator = next n.fresh;
        is_open = next n1.fresh;
        result = next n2.fresh;
        value = next n3.fresh;
        thrown = next n4.fresh;
      };
      names = with_raw n4;
    }
