-- What the passes leave is left of the core that the graph is lowered to, in the order of its evaluation.
use Rattle.std.proofs.Common.{◌≡◌, List, ℕ, ap, subst, ◌∙◌}
use Rattle.std.specs.Prelude.{Result, IfOk}
use Rattle.core_ast.specs.declared.whole.Core.{Core}
use Rattle.es6_ast.specs.declared.graph.Graph.{Graph}
use Rattle.module_lowering.specs.declared.meaning.NamespaceEntries.{NamespaceEntries}
use Rattle.module_lowering.specs.Modules.{lowered}
use Rattle.pipeline.specs.Compiled.{order_of}
use Rattle.scope_analysis.specs.declared.scopes.Scopes.{Scopes}
use Rattle.split_emit.specs.Split.{core_of, passed}
use Rattle.split_emit.proofs.cores.core_of.Goals as goal

in_order
    : {E : Type 0} (g : Graph) (s : Scopes) (es : List NamespaceEntries) (order : List ℕ) (core : Core) (r : Result Core E)
    → order ≡ order_of g
    → core ≡ lowered g s es order
    → IfOk r (λ k. k ≡ passed core)
    → IfOk r (λ k. k ≡ core_of g s es)
in_order g s es order core r o c made =
    subst (λ (x : Core). IfOk r (λ k. k ≡ passed x)) (c ∙ ap (λ (n : List ℕ). lowered g s es n) o) made

pub returns : goal.returns
returns c =
    in_order c.args.graph.now c.args.scopes.now c.args.namespaces.now c.in_ok-order.order c.in_ok-core.core c.flat.result
    c.in_ok-order.ensures c.in_ok-core.ensures c.flat.ensures
