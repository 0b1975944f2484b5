use Rattle.std.proofs.Common.{◌≡◌, List, ◌++◌, ap, append_assoc, rules, sym, ◌∙◌}
use Rattle.std.proofs.lemmas.Result.{on_ok_weaker}
use Rattle.es6_ast.specs.declared.tree.Argument.TheFolds.{the_lemmas}
use Rattle.es6_ast.specs.declared.tree.Argument.TheOpen as layer
use Rattle.es6_ast.specs.declared.tree.Identifier.{Identifier}
use Rattle.es6_ast.specs.declared.tree.Statement.{out-Statement}
use Rattle.declared_names.specs.Tried.{Layer, vars_in}
use Rattle.declared_names.proofs.var_names.+vars.Goals as goal

three_lists : (old one two three a b c : List Identifier) → one ≡ old ++ a → two ≡ one ++ b → three ≡ two ++ c → three ≡ old ++ ((a ++ b) ++ c)
three_lists old one two three a b c p q s =
    s ∙ ap (λ (xs : List Identifier). xs ++ c) (q ∙ ap (λ (xs : List Identifier). xs ++ b) p ∙ append_assoc old a b) ∙ append_assoc old (a ++ b) c

pub add_tried-returns-in_ok-add_catch-in-Try : goal.add_tried-returns-in_ok-add_catch-in-Try
add_tried-returns-in_ok-add_catch-in-Try t c =
    let old : List Identifier = c.args.names.now.items in
    let is : out-Statement c.args.statement.now ≡ layer.Try c.in-Try.span c.in-Try.block c.in-Try.catch c.in-Try.finally = search (rules, the_lemmas) in
    on_ok_weaker c.add_finally.result
    (λ e. three_lists old c.add_block.new.names.items c.add_catch.new.names.items c.add_finally.new.names.items _ _ _ c.in_ok-add_block-in-Try.ensures c.in_ok-add_catch-in-Try.ensures e ∙ ap (λ (l : Layer). old ++ vars_in l) (sym is))
    c.add_finally.ensures
