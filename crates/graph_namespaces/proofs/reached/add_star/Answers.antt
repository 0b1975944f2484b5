use Rattle.std.proofs.Common.{[], ◌∷◌, sym, subst}
use Rattle.graph_namespaces.specs.Asked.{KeepsKeys}
use Rattle.graph_namespaces.proofs.Asking.{star-added}
use Rattle.graph_namespaces.proofs.reached.add_star.Goals as goal

pub returns-in_ok-insert-in-Module : goal.returns-in_ok-insert-in-Module
returns-in_ok-insert-in-Module c =
    subst (λ h. KeepsKeys (h ∷ []) c.args.reached.now.keys c.insert.new.self.keys) (sym c.in-Module.is)
    (star-added c.args.reached.now.keys c.insert.new.self.keys _ c.in_ok-insert-in-Module.ensures.keys)
