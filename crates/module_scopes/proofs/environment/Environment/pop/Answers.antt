use Rattle.module_scopes.specs.Lookup.{innermost_of}
use Rattle.module_scopes.proofs.Stacks.{found_on_top, holds_unless, popped}
use Rattle.module_scopes.proofs.environment.Environment.pop.Goals as goal

pub invariant_of-self-2 : goal.invariant_of-self-2
invariant_of-self-2 c =
    let old = innermost_of c.self.inside.innermost in
    let new = innermost_of c.set_innermost.new.innermost in
    let stack = c.self.inside.stack.items in
    let rest = c.pop.new.self.items in
    let top = c.in-Some.declared in
    let found = found_on_top old stack rest top c.self.invariant c.in-Some.ensures.items in
    popped old new stack rest top c.self.invariant c.in-Some.ensures.items
    (holds_unless c.set_innermost.result _ _ top.is_host c.set_innermost.ensures.ok c.set_innermost.ensures.absent found)
