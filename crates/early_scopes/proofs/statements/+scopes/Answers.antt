use Rattle.std.proofs.Common.{◌≡◌, List, ◌++◌, ap, append_assoc, rules, sym, ◌∙◌}
use Rattle.std.proofs.lemmas.Result.{on_ok_weaker}
use Rattle.es6_ast.specs.declared.tree.Argument.TheFolds.{the_lemmas}
use Rattle.es6_ast.specs.declared.tree.Argument.TheOpen as layer
use Rattle.es6_ast.specs.declared.tree.Identifier.{Identifier}
use Rattle.es6_ast.specs.declared.tree.Statement.{out-Statement}
use Rattle.early_scopes.specs.Tried.{Layer, vars_in}
use Rattle.early_scopes.proofs.statements.+scopes.Goals as goal

three_lists : (old one two three a b c : List Identifier) → one ≡ old ++ a → two ≡ one ++ b → three ≡ two ++ c → three ≡ old ++ ((a ++ b) ++ c)
three_lists old one two three a b c p q s =
    s ∙ ap (λ (xs : List Identifier). xs ++ c) (q ∙ ap (λ (xs : List Identifier). xs ++ b) p ∙ append_assoc old a b) ∙ append_assoc old (a ++ b) c

pub tried-returns-in_ok-optional_catch-in-Try-clause-vars : goal.tried-returns-in_ok-optional_catch-in-Try-clause-vars
tried-returns-in_ok-optional_catch-in-Try-clause-vars t c =
    let old : List Identifier = c.args.vars.now in
    let is : out-Statement c.args.statement.now ≡ layer.Try c.in-Try.span c.in-Try.block c.in-Try.catch c.in-Try.finally = search (rules, the_lemmas) in
    on_ok_weaker c.finally.result
    (λ e. three_lists old c.block.new.vars c.optional_catch.new.vars c.finally.new.vars _ _ _ c.in_ok-block-in-Try.ensures.vars c.in_ok-optional_catch-in-Try.ensures.vars e ∙ ap (λ (l : Layer). old ++ vars_in l) (sym is))
    c.finally.ensures.vars
