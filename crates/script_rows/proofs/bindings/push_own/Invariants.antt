use Rattle.std.proofs.Common.{◌≡◌, ◌++◌, drop, map}
use Rattle.es_value.specs.declared.value.Value.TheVariants as value
use Rattle.script_core.specs.Meaning.{user_binding}
use Rattle.script_rows.proofs.bindings.push_own.Given as goal

abbrev pub invariant-loop-name : goal.invariant-loop-name
invariant-loop-name l =
    l.bindings ++ map (λ n. user_binding n.var value.Undefined n.mutable) (drop l.name-index l.names)
    ≡ l.initial.bindings ++ map (λ n. user_binding n.var value.Undefined n.mutable) l.names
