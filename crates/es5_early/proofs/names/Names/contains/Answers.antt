use Rattle.std.proofs.Common.{nat_lt, ap, sym, ◌∙◌}
use Rattle.std.specs.Str.{bytes_eq}
use Rattle.es5_ast.specs.Lexical.{is_one_of}
use Rattle.es5_early.specs.Counts.{is_name}
use Rattle.es5_early.proofs.Stacks.{count_by-any, list_any-view}
use Rattle.es5_early.proofs.names.Names.contains.Goals as goal

pub returns : goal.returns
returns c =
    let name = c.args.name.now in
    let stack = c.self.inside.stack.items in
    ap (nat_lt 0) (c.count_of.ensures ∙ c.self.invariant name) ∙ count_by-any (is_name name) stack
    ∙ sym (list_any-view (bytes_eq name) (λ v. v.items) stack) ∙ ap (is_one_of name) c.self.view_is
