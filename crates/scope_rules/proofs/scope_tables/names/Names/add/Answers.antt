use Rattle.std.proofs.Common.{◌≡◌, ℕ, ◌&&◌, nat_eq, None, Some, List, cond, length, rules, ap, sym, subst, ◌∙◌}
use Rattle.std.specs.Str.{bytes_eq}
use Rattle.scope_rules.specs.declared.scope_tables.binding.Binding.{Binding}
use Rattle.scope_rules.specs.scope_tables.Numbered.{Numbered, number_in}
use Rattle.scope_rules.specs.scope_tables.Scoping.{number_of}
use Rattle.scope_rules.proofs.scope_tables.Numbering.{numbered-push}
use Rattle.scope_rules.proofs.scope_tables.names.Names.add.Goals as goal

pub invariant_of-self-in_default : goal.invariant_of-self-in_default
invariant_of-self-in_default c =
    let old = number_in c.self.inside.numbers in
    let new = number_in c.put.new.numbers in
    let scope : ℕ = c.args.binding.scope in
    let count : c.len-number.result ≡ length c.self.inside.bindings.items = search rules in
    let absent : number_of scope c.args.binding.name c.self.inside.bindings.items ≡ None = ap (λ (bs : List Binding). number_of scope c.args.binding.name bs) c.self.view_is ∙ c.requires.absent in
    subst (λ bs. Numbered new bs) (sym c.in_ok-push.ensures.items)
    (numbered-push old new c.self.inside.bindings.items c.args.binding c.self.invariant absent (λ s n. c.in_default.ensures.ok s n
    ∙ ap (λ (name : List ℕ). cond (nat_eq scope s && bytes_eq name n) (Some c.len-number.result) (old s n)) c.requires.name
    ∙ ap (λ (k : ℕ). cond (nat_eq scope s && bytes_eq c.args.binding.name n) (Some k) (old s n)) count))
