use Rattle.std.proofs.Common.{ℕ, List, ap, ◌∙◌}
use Rattle.core_ast.specs.declared.parts.Var.{Var}
use Rattle.script_lowering.specs.Reading.{place_in, with_name}
use Rattle.script_lowering.proofs.Keys.{names_of, names_with, place_at}
use Rattle.script_lowering.proofs.names.ScriptNames.named.Goals as goal

pub returns-clause-var : goal.returns-clause-var
returns-clause-var c =
    let made : ℕ → Var = λ n. record { 0 = n } in
    ap made
    (c.in_ok-place.ensures ∙ c.in_ok-added.ensures.index ∙ place_at c.self.inside.names.keys c.args.name
    ∙ ap (λ (ns : List (List ℕ)). place_in ns c.args.name.now) c.self.view_is)

pub returns-clause-names : goal.returns-clause-names
returns-clause-names c =
    ap names_of c.in_ok-added.ensures.keys
    ∙ names_with c.self.inside.names.keys c.args.name
    ∙ ap (λ (ns : List (List ℕ)). with_name c.args.name.now ns) c.self.view_is
