-- Templates, lists of arguments and arrays with spread parts, and tagged templates (ECMA-262, 6th edition, 12.2 and 12.3).
use Rattle.std.specs.Prelude.{ℕ, List, [], ◌∷◌, map, Option, None, Some}
use Rattle.std.specs.List.{flat_map}
use Rattle.es_outside.specs.declared.events.Site.{Site}
use Rattle.core_ast.specs.declared.parts.Binary.TheVariants.{Add}
use Rattle.core_ast.specs.declared.parts.Constant.TheVariants.{Text}
use Rattle.core_ast.specs.declared.parts.CoreHead.{CoreHead}
use Rattle.core_ast.specs.declared.parts.CoreHead.TheVariants as head
use Rattle.core_ast.specs.declared.parts.CoreOp.TheVariants as op
use Rattle.core_ast.specs.declared.parts.Primitive.TheVariants.{Construct, SpreadList, TemplateObject}
use Rattle.core_ast.specs.declared.tree.CoreExpr.{CoreExpr}
use Rattle.core_ast.specs.declared.tree.CoreLink.{CoreLink}
use Rattle.core_ast.specs.declared.tree.CoreLink.TheVariants as link
use Rattle.core_ast.specs.Made.{act, acting, expression, linked}
use Rattle.lowering_rules.specs.declared.expressions.ListPart.{ListPart}
use Rattle.lowering_rules.specs.declared.expressions.ListPart.TheVariants.{Missing, Single, Spread}
use Rattle.lowering_rules.specs.declared.expressions.TemplatePart.{TemplatePart}
use Rattle.lowering_rules.specs.Making.{number, text, through_with, to_text}

-- ---- templates (12.2.9.5): a value becomes a text as soon as it is evaluated

abbrev pub template_links : TemplatePart → List CoreLink
template_links p = acting (op.Operator Add) (to_text p.value) ∷ acting (op.Operator Add) (text p.text) ∷ []

abbrev pub template : List ℕ → List TemplatePart → CoreExpr
template first parts = expression None (head.Constant (Text first)) (flat_map template_links parts)

-- ---- lists of arguments (12.3.6.1) and arrays (12.2.5.2): from left to right, an iterable when it is reached

unfoldable pub list_link : ListPart → CoreLink
list_link (Single x) = acting op.Element x
list_link (Spread x) = link.Strict (op.Primitive SpreadList) (x ∷ number 1 ∷ []) None
list_link Missing = act op.Hole

abbrev pub list_of : CoreHead → List ListPart → CoreExpr
list_of h parts = expression None h (map list_link parts)

abbrev pub array : List ListPart → CoreExpr
array parts = list_of head.ArrayList parts

abbrev pub arguments : List ListPart → CoreExpr
arguments parts = list_of head.ArgumentList parts

-- ---- calls (12.3.4.1): the function, with its receiver where it has one, is evaluated before the arguments

unfoldable pub call : CoreExpr → Option CoreExpr → List CoreExpr → Option Site → CoreExpr
call callee None parts site = linked callee (link.Strict op.Call parts site)
call callee (Some receiver) parts site = linked callee (link.Strict op.CallWith (receiver ∷ parts) site)

unfoldable pub spread_call : CoreExpr → Option CoreExpr → List ListPart → Option Site → CoreExpr
spread_call callee None parts site = linked callee (link.Strict op.CallList (arguments parts ∷ []) site)
spread_call callee (Some receiver) parts site =
    linked callee (link.Strict op.CallListWith (receiver ∷ arguments parts ∷ []) site)

-- `new` (12.3.3.1)
abbrev pub construction : CoreExpr → List ListPart → CoreExpr
construction callee parts = through_with callee Construct (arguments parts)

-- ---- tagged templates (12.3.7.1): the tag, the template object (12.2.9.3), the values, and then the call

abbrev pub text_element : List ℕ → CoreLink
text_element units = acting op.Element (text units)

abbrev pub texts : List (List ℕ) → CoreExpr
texts units = expression None head.ArgumentList (map text_element units)

abbrev pub template_object : List (List ℕ) → List (List ℕ) → CoreExpr
template_object cooked raw = through_with (texts cooked) TemplateObject (texts raw)

abbrev pub tagged : CoreExpr → Option CoreExpr → CoreExpr → List CoreExpr → Option Site → CoreExpr
tagged callee receiver object values site = call callee receiver (object ∷ values) site
