-- The trees of what is written have no early error, and nothing in them is outside the profile.
use Rattle.std.proofs.Common.{◌≡◌, ℕ, Bool, false, List, [], ◌∷◌, ◌++◌, Some, None, map, sym, ap, ◌∙◌}
use Rattle.std.specs.Prelude.{codes}
use Rattle.std.specs.Str.{bytes_eq}
use Rattle.es_text.specs.declared.Span.{Span}
use Rattle.es5_ast.specs.declared.operators.BinaryOperator5.{BinaryOperator5}
use Rattle.es5_ast.specs.declared.operators.Literal5.{Literal5}
use Rattle.es5_ast.specs.declared.tree.Identifier5.{Identifier5}
use Rattle.es5_ast.specs.declared.tree.Element5.TheOpen as layer
use Rattle.es5_ast.specs.declared.tree.Expr5.{Expr5, fold-Expr5, fold-roll-Expr5}
use Rattle.es5_ast.specs.declared.tree.Expr5.TheVariants as expr
use Rattle.es5_ast.specs.declared.tree.Link5.{Link5, fold-Link5, fold-roll-Link5}
use Rattle.es5_ast.specs.declared.tree.Link5.TheVariants as link
use Rattle.es5_ast.specs.declared.tree.Stat5.{Stat5, fold-roll-Stat5}
use Rattle.es5_ast.specs.declared.tree.Stat5.TheVariants as stat
use Rattle.es5_ast.specs.declared.tree.Declared5.{Declared5, roll-Declared5, fold-Declared5, fold-roll-Declared5}
use Rattle.es5_ast.specs.declared.tree.Operand5.{Operand5, roll-Operand5, fold-Operand5, fold-roll-Operand5}
use Rattle.es5_ast.specs.Early.{F, V, Round5, of_function, Found5, Held5, Whole5, Inside, Around, joined, when, is_restricted, element_step, expr_step, for_first_step, link_step, property_step, stat_step, block_step, case_step, catch_step, condition_step, declared_step, function_step, operand_step, stat_pairs, script_pairs}

abbrev expr_found : Expr5 → Found5
expr_found = fold-Expr5 Inside Found5 Around (Bool × Inside) Held5 Around Around Around Around Around Inside Whole5 Inside element_step expr_step for_first_step link_step property_step stat_step block_step case_step catch_step condition_step declared_step function_step operand_step

abbrev link_found : Link5 → Bool × Inside
link_found = fold-Link5 Inside Found5 Around (Bool × Inside) Held5 Around Around Around Around Around Inside Whole5 Inside element_step expr_step for_first_step link_step property_step stat_step block_step case_step catch_step condition_step declared_step function_step operand_step

abbrev declared_found : Declared5 → Inside
declared_found = fold-Declared5 Inside Found5 Around (Bool × Inside) Held5 Around Around Around Around Around Inside Whole5 Inside element_step expr_step for_first_step link_step property_step stat_step block_step case_step catch_step condition_step declared_step function_step operand_step

abbrev operand_found : Operand5 → Inside
operand_found = fold-Operand5 Inside Found5 Around (Bool × Inside) Held5 Around Around Around Around Around Inside Whole5 Inside element_step expr_step for_first_step link_step property_step stat_step block_step case_step catch_step condition_step declared_step function_step operand_step

-- what each node gives, by what its children give
found-Name : (span : Span) (name : List ℕ) → expr_found (expr.Name span name) ≡ expr_step (layer.Name span name)
found-Name span name = ap expr_found (sym (expr.rolls-Name span name)) ∙ fold-roll-Expr5 Inside Found5 Around (Bool × Inside) Held5 Around Around Around Around Around Inside Whole5 Inside element_step expr_step for_first_step link_step property_step stat_step block_step case_step catch_step condition_step declared_step function_step operand_step (layer.Name span name)

found-Literal : (span : Span) (value : Literal5) → expr_found (expr.Literal span value) ≡ expr_step (layer.Literal span value)
found-Literal span value = ap expr_found (sym (expr.rolls-Literal span value)) ∙ fold-roll-Expr5 Inside Found5 Around (Bool × Inside) Held5 Around Around Around Around Around Inside Whole5 Inside element_step expr_step for_first_step link_step property_step stat_step block_step case_step catch_step condition_step declared_step function_step operand_step (layer.Literal span value)

found-Chain : (span : Span) (head : Expr5) (links : List Link5) → expr_found (expr.Chain span head links) ≡ expr_step (layer.Chain span (expr_found head) (map link_found links))
found-Chain span head links = ap expr_found (sym (expr.rolls-Chain span head links)) ∙ fold-roll-Expr5 Inside Found5 Around (Bool × Inside) Held5 Around Around Around Around Around Inside Whole5 Inside element_step expr_step for_first_step link_step property_step stat_step block_step case_step catch_step condition_step declared_step function_step operand_step (layer.Chain span head links)

found-Binary : (span : Span) (first : Expr5) (operands : List Operand5) → expr_found (expr.Binary span first operands) ≡ expr_step (layer.Binary span (expr_found first) (map operand_found operands))
found-Binary span first operands = ap expr_found (sym (expr.rolls-Binary span first operands)) ∙ fold-roll-Expr5 Inside Found5 Around (Bool × Inside) Held5 Around Around Around Around Around Inside Whole5 Inside element_step expr_step for_first_step link_step property_step stat_step block_step case_step catch_step condition_step declared_step function_step operand_step (layer.Binary span first operands)

found-Call : (span : Span) (arguments : List Expr5) → link_found (link.Call span arguments None) ≡ link_step (layer.Call span (map expr_found arguments) None)
found-Call span arguments = ap link_found (sym (link.rolls-Call span arguments None)) ∙ fold-roll-Link5 Inside Found5 Around (Bool × Inside) Held5 Around Around Around Around Around Inside Whole5 Inside element_step expr_step for_first_step link_step property_step stat_step block_step case_step catch_step condition_step declared_step function_step operand_step (layer.Call span arguments None)

found-operand : (operator : BinaryOperator5) (value : Expr5) → operand_found (roll-Operand5 (record { operator = operator; value = value })) ≡ operand_step (record { operator = operator; value = expr_found value })
found-operand operator value = fold-roll-Operand5 Inside Found5 Around (Bool × Inside) Held5 Around Around Around Around Around Inside Whole5 Inside element_step expr_step for_first_step link_step property_step stat_step block_step case_step catch_step condition_step declared_step function_step operand_step (record { operator = operator; value = value })

found-declared : (span : Span) (name : Identifier5) (init : Expr5) → declared_found (roll-Declared5 (record { span = span; name = name; init = Some init })) ≡ declared_step (record { span = span; name = name; init = Some (expr_found init) })
found-declared span name init = fold-roll-Declared5 Inside Found5 Around (Bool × Inside) Held5 Around Around Around Around Around Inside Whole5 Inside element_step expr_step for_first_step link_step property_step stat_step block_step case_step catch_step condition_step declared_step function_step operand_step (record { span = span; name = name; init = Some init })

pairs-Var : (span : Span) (declared : List Declared5) → stat_pairs (stat.Var span declared) ≡ stat_step (layer.Var span (map declared_found declared))
pairs-Var span declared = ap stat_pairs (sym (stat.rolls-Var span declared)) ∙ fold-roll-Stat5 Inside Found5 Around (Bool × Inside) Held5 Around Around Around Around Around Inside Whole5 Inside element_step expr_step for_first_step link_step property_step stat_step block_step case_step catch_step condition_step declared_step function_step operand_step (layer.Var span declared)

pairs-Expression : (span : Span) (x : Expr5) → stat_pairs (stat.Expression span x) ≡ stat_step (layer.Expression span (expr_found x))
pairs-Expression span x = ap stat_pairs (sym (stat.rolls-Expression span x)) ∙ fold-roll-Stat5 Inside Found5 Around (Bool × Inside) Held5 Around Around Around Around Around Inside Whole5 Inside element_step expr_step for_first_step link_step property_step stat_step block_step case_step catch_step condition_step declared_step function_step operand_step (layer.Expression span x)

-- no pair is in the expression, the operands, the arguments, the statement
abbrev pub IsClean : Expr5 → Type 0
IsClean x = (inside : Bool) → (expr_found x).pairs inside ≡ []

abbrev pub AreCleanOperands : List Operand5 → Type 0
AreCleanOperands os = (inside : Bool) → joined (λ (o : Inside). o inside) (map operand_found os) ≡ []

abbrev pub AreCleanArguments : List Expr5 → Type 0
AreCleanArguments xs = (inside : Bool) → joined (λ (x : Found5). x.pairs inside) (map expr_found xs) ≡ []

abbrev pub IsCleanStat : Stat5 → Type 0
IsCleanStat s = (r : Round5) → stat_pairs s r ≡ []

pub clean_name : (span : Span) (name : List ℕ) → bytes_eq name (codes "eval") ≡ false → IsClean (expr.Name span name)
clean_name span name e inside = ap (λ (f : Found5). f.pairs inside) (found-Name span name) ∙ ap (λ b. when b (V 7) span.begin) e

pub clean_literal : (span : Span) (value : Literal5) → IsClean (expr.Literal span value)
clean_literal span value inside = ap (λ (f : Found5). f.pairs inside) (found-Literal span value)

pub clean_operand : (operator : BinaryOperator5) (x : Expr5) (os : List Operand5) → IsClean x → AreCleanOperands os → AreCleanOperands (roll-Operand5 (record { operator = operator; value = x }) ∷ os)
clean_operand operator x os c cs inside =
    ap (λ (o : Inside). o inside ++ joined (λ (p : Inside). p inside) (map operand_found os)) (found-operand operator x)
    ∙ ap (λ ps. ps ++ joined (λ (p : Inside). p inside) (map operand_found os)) (c inside) ∙ cs inside

pub clean_binary : (span : Span) (x : Expr5) (os : List Operand5) → IsClean x → AreCleanOperands os → IsClean (expr.Binary span x os)
clean_binary span x os c cs inside =
    ap (λ (f : Found5). f.pairs inside) (found-Binary span x os)
    ∙ ap (λ ps. ps ++ joined (λ (p : Inside). p inside) (map operand_found os)) (c inside) ∙ cs inside

pub clean_argument : (x : Expr5) (xs : List Expr5) → IsClean x → AreCleanArguments xs → AreCleanArguments (x ∷ xs)
clean_argument x xs c cs inside = ap (λ ps. ps ++ joined (λ (f : Found5). f.pairs inside) (map expr_found xs)) (c inside) ∙ cs inside

pub clean_call : (span after : Span) (head : Expr5) (xs : List Expr5) → IsClean head → AreCleanArguments xs → IsClean (expr.Chain span head (link.Call after xs None ∷ []))
clean_call span after head xs c cs inside =
    ap (λ (f : Found5). f.pairs inside) (found-Chain span head (link.Call after xs None ∷ []))
    ∙ ap (λ ps. ps ++ joined (λ (l : Bool × Inside). l.1 inside) (map link_found (link.Call after xs None ∷ []))) (c inside)
    ∙ ap (λ (l : Bool × Inside). l.1 inside ++ []) (found-Call after xs)
    ∙ ap (λ ps. ps ++ []) (cs inside)

pub clean_var : (span inner : Span) (name : Identifier5) (x : Expr5) → is_restricted name.name ≡ false → IsClean x → IsCleanStat (stat.Var span (roll-Declared5 (record { span = inner; name = name; init = Some x }) ∷ []))
clean_var span inner name x e c r =
    ap (λ (f : Around). f r) (pairs-Var span (roll-Declared5 (record { span = inner; name = name; init = Some x }) ∷ []))
    ∙ ap (λ (d : Inside). d r.inside ++ []) (found-declared inner name x)
    ∙ ap (λ b. (when b (F 2) name.span.begin ++ (expr_found x).pairs r.inside) ++ []) e
    ∙ ap (λ ps. ps ++ []) (c r.inside)

pub clean_expression : (span : Span) (x : Expr5) → IsClean x → IsCleanStat (stat.Expression span x)
clean_expression span x c r = ap (λ (f : Around). f r) (pairs-Expression span x) ∙ c r.inside

pub clean_stats : (s : Stat5) (ss : List Stat5) → IsCleanStat s → script_pairs ss ≡ [] → script_pairs (s ∷ ss) ≡ []
clean_stats s ss c cs = ap (λ ps. ps ++ script_pairs ss) (c (of_function false)) ∙ cs
