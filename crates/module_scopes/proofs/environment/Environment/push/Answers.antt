use Rattle.std.proofs.Common.{◌≡◌, Some, cond, reverse, rules, ap, sym, subst, ◌∙◌}
use Rattle.std.specs.Str.{bytes_eq}
use Rattle.std.proofs.lemmas.List.Elements.{same_from_all_zip}
use Rattle.module_scopes.specs.Lookup.{AgreeWith, innermost_of}
use Rattle.module_scopes.proofs.Stacks.{pushed}
use Rattle.module_scopes.proofs.environment.Environment.push.Goals as goal

pub invariant_of-self-in_default : goal.invariant_of-self-in_default
invariant_of-self-in_default c =
    let old = innermost_of c.self.inside.innermost in
    let new = innermost_of c.set_innermost.new.innermost in
    let same : c.in_ok-key.key.items ≡ c.args.binding.name.items = search (rules, same_from_all_zip) in
    let outer : c.innermost_of-outer.result ≡ old c.args.binding.name.items = c.innermost_of-outer.ensures ∙ ap old (c.as_slice.ensures.value ∙ same) in
    subst (λ stack. AgreeWith new (reverse stack)) (sym c.in_ok-push.ensures.items)
    (pushed old new c.self.inside.stack.items _ c.self.invariant outer (λ name. c.in_default.ensures.ok name ∙ ap (λ key. cond (bytes_eq key name) (Some c.args.binding.is_host) (old name)) same))
