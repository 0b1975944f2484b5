use Rattle.std.proofs.Common.{◌≡◌, [], ◌∷◌, sym, ap, subst, ◌∙◌}
use Rattle.es6_ast.specs.declared.tree.Argument.TheOpen as layer
use Rattle.es6_ast.specs.declared.tree.Expression.TheVariants as expr
use Rattle.es6_ast.specs.declared.tree.Parameter.TheVariants.{SingleParameter}
use Rattle.es6_ast.specs.Grammar.{name_alone}
use Rattle.es6_reading.specs.Refine.{parameters_in, parts_of, refine_parameters}
use Rattle.es6_trees.specs.Built.{AreParametersOf, Becomes}
use Rattle.es6_trees.proofs.ParameterLists.{cover_is, group_is, one_name_is}
use Rattle.es6_trees.proofs.Putting.{still_ok}
use Rattle.es6_trees.proofs.parameters.built_parameters.Goals as goal

pub returns-in-Name : goal.returns-in-Name
returns-in-Name c =
    still_ok c.one_name.result (λ es. es ≡ SingleParameter (name_alone (record { span = c.in-Name.span; name = c.in-Name.name })) ∷ []) (λ es. Becomes (refine_parameters c.args.depth c.args.expression) es) c.one_name.ensures
    (λ es e. subst (λ ds. Becomes (refine_parameters c.args.depth c.args.expression) ds) (sym e) (one_name_is c.args.depth c.in-Name.is))

pub returns-in-Group : goal.returns-in-Group
returns-in-Group c =
    still_ok c.held_parameters.result (λ es. AreParametersOf c.args.depth (parts_of c.into_inner.result) es) (λ es. Becomes (refine_parameters c.args.depth c.args.expression) es) c.held_parameters.ensures
    (λ es h. group_is c.args.depth c.into_inner.result (c.in-Group.is ∙ ap (λ x. expr.Group c.in-Group.span x) (sym c.into_inner.ensures)) h)

pub returns-in-Cover : goal.returns-in-Cover
returns-in-Cover c =
    still_ok c.cover_parameters.result (λ es. Becomes (parameters_in c.args.depth (layer.Cover c.in-Cover.span c.in-Cover.held c.in-Cover.rest)) es) (λ es. Becomes (refine_parameters c.args.depth c.args.expression) es) c.cover_parameters.ensures
    (λ es h. cover_is c.args.depth c.in-Cover.held c.in-Cover.rest c.in-Cover.is h)
