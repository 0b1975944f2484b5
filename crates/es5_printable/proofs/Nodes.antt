-- Each node that fits is made of pieces, by what is shown of its parts.
use Rattle.std.proofs.Common.{◌≡◌, ℕ, suc, ◌+◌, ◌≤◌, ◌<◌, Bool, true, false, ◌&&◌, not, nat_le, ◌==◌, List, [], ◌∷◌, length, map, Option, Some, None, refl, sym, subst, arith, length-append}
use Rattle.std.specs.Prelude.{codes, is_some}
use Rattle.std.specs.List.{list_all}
use Rattle.std.proofs.lemmas.Bool.{false≢true, and_parts, leb-true, eqb-true}
use Rattle.es_text.specs.declared.Span.{Span}
use Rattle.es5_ast.specs.declared.operators.UpdateOperator5.{UpdateOperator5}
use Rattle.es5_ast.specs.declared.tree.Identifier5.{Identifier5}
use Rattle.es5_ast.specs.declared.tree.Element5.{roll-Element5}
use Rattle.es5_ast.specs.declared.tree.Element5.TheVariants as element
use Rattle.es5_ast.specs.declared.tree.Expr5.{roll-Expr5}
use Rattle.es5_ast.specs.declared.tree.Expr5.TheVariants as expr
use Rattle.es5_ast.specs.declared.tree.ForFirst5.{roll-ForFirst5}
use Rattle.es5_ast.specs.declared.tree.ForFirst5.TheVariants as for_first
use Rattle.es5_ast.specs.declared.tree.Link5.{Link5, roll-Link5, out-roll-Link5}
use Rattle.es5_ast.specs.declared.tree.Link5.TheVariants as link
use Rattle.es5_ast.specs.declared.tree.Property5.{roll-Property5}
use Rattle.es5_ast.specs.declared.tree.Property5.TheVariants as property
use Rattle.es5_ast.specs.declared.tree.Block5.{roll-Block5}
use Rattle.es5_ast.specs.declared.tree.Case5.{roll-Case5}
use Rattle.es5_ast.specs.declared.tree.Catch5.{roll-Catch5}
use Rattle.es5_ast.specs.declared.tree.Condition5.{roll-Condition5}
use Rattle.es5_ast.specs.declared.tree.Declared5.{roll-Declared5}
use Rattle.es5_ast.specs.declared.tree.Function5.{Function5, roll-Function5}
use Rattle.es5_ast.specs.declared.tree.Operand5.{roll-Operand5}
use Rattle.es5_ast.specs.declared.tree.Element5.TheOpen as layer
use Rattle.es5_ast.specs.declared.tree.Element5.TheOpen.{Element5-F, Expr5-F, ForFirst5-F, Link5-F, Property5-F, Stat5-F, Block5-F, Case5-F, Catch5-F, Condition5-F, Declared5-F, Function5-F, Operand5-F}
use Rattle.es5_ast.specs.Lexical.{Word}
use Rattle.es5_ast.specs.Grammar as g
use Rattle.es5_ast.specs.Grammar.{Aside, AreElements, AreLinks, IsExpr, IsNode, IsFunction, IsAccessor, AreCases, AreOperands, IsStat, is_before, update_kind, unary_kind, assign_kind, binary_kind, binary_level, literal_kind, key_kind, some_site, level_sequence, level_assignment}
use Rattle.es5_printer.specs.Pieces.{Piece, Lexeme, word, mark}
use Rattle.es5_printer.proofs.Tokens.{sign, unary_spelled, update_spelled, binary_spelled, assign_spelled}
use Rattle.es5_printable.specs.Printable.{is_name, names_fit, label_fits, is_key, exprs_fit, parts_fit, sites_in, links_fit, operands_fit, stats_fit, expr_fit, link_fit, stat_fit, block_fit, function_fit, operand_fit, element_step, expr_step, for_first_step, link_step, property_step, block_step, case_step, catch_step, condition_step, declared_step, function_step, operand_step}
use Rattle.es5_printable.proofs.Shapes.{toks, Made, MadeAfter, NodeMade, LinksMade, IsNamed, ElementOf, ForFirstOf, PropertyOf, BlockOf, CaseOf, CatchOf, ConditionOf, DeclaredOf, FunctionOf, OperandOf, OfExpr, OfLink, OfStat, OfOperand, placed, literal_known, key_known, key_made, identifier_made}
use Rattle.es5_printable.proofs.Layers.{With, Open, Shown, bare_element, fit_element, bare_expr, fit_expr, bare_for_first, fit_for_first, bare_link, fit_link, bare_property, fit_property, bare_block, fit_block, bare_case, fit_case, bare_catch, fit_catch, bare_condition, fit_condition, bare_declared, fit_declared, bare_function, fit_function, bare_operand, fit_operand}
use Rattle.es5_printable.proofs.Lists as l
use Rattle.es5_printable.proofs.Lists.{nodes, named, not_true}

pub element_made : (y : Shown Element5-F) → ElementOf (element_step (fit_element (bare_element y))) (roll-Element5 (bare_element y))
element_made layer.Hole h xs rest m =
    let (ps, d, s) = m in
    (mark (codes ",") ps, λ spots. subst (λ z. AreElements Aside (toks spots (mark (codes ",") ps)) (z ∷ xs) (toks spots rest)) (sym element.rolls-Hole) (g.hole refl (d spots)), λ q. (sign.comma, s q))
element_made (layer.Element x) h xs rest m =
    let (ps, d, s) = m in
    let (qs, e, t) = placed (x.1 h) (mark (codes ",") ps) in
    (qs, λ spots. subst (λ z. AreElements Aside (toks spots qs) (z ∷ xs) (toks spots rest)) (sym (element.rolls-Element x.0)) (g.next_element (e spots false level_assignment) refl (d spots)), λ q. t (sign.comma, s q))

update_made : (span : Span) (operator : UpdateOperator5) (x : With OfExpr) → (expr_fit x.0).fits ≡ true → (b : Bool) → is_before operator ≡ b → NodeMade (roll-Expr5 (layer.Update span operator x.0))
update_made span operator x h true e rest =
    let (ps, d, s) = placed (x.1 h) rest in
    (Lexeme (update_kind operator) ∷ ps, λ spots. (g.level_unary, g.update_before span operator x.0 (expr.rolls-Update span operator x.0) tt e refl (d spots false g.level_unary)), λ q. (update_spelled operator, s q))
update_made span operator x h false e rest =
    let (ps, d, s) = placed (x.1 h) (Lexeme (update_kind operator) ∷ rest) in
    (ps, λ spots. (g.level_postfix, g.update_after span operator x.0 (expr.rolls-Update span operator x.0) tt e (d spots false g.level_left_hand_side) refl refl), λ q. s (update_spelled operator, q))

chain_made : (span : Span) (x : With OfExpr) (ls : List (With OfLink)) → (expr_fit x.0).fits ≡ true → links_fit (map link_fit (nodes ls)) ≡ true → NodeMade (roll-Expr5 (layer.Chain span x.0 (nodes ls)))
chain_made span x [] h k rest = absurd (false≢true k)
chain_made span x (y ∷ ls) h k rest =
    let fits = list_all (λ k. k.fits) (map link_fit (nodes (y ∷ ls))) in
    let count = sites_in (map link_fit (nodes (y ∷ ls))) in
    let p = and_parts fits (nat_le count 1) k in
    let (qs, e, t) = l.links_made (y ∷ ls) p.0 rest in
    let (ps, d, s) = placed (x.1 h) qs in
    let few = subst (λ n. n ≤ 1) (sym (l.sites_counted (y ∷ ls))) (leb-true count 1 p.1) in
    (ps, λ spots. (g.chain_level (e spots).0, g.chain (e spots).0 span x.0 y.0 (nodes ls) (expr.rolls-Chain span x.0 (nodes (y ∷ ls))) tt few (d spots false g.level_primary) (e spots).1), λ q. s (t q))

binary_made : (span : Span) (x : With OfExpr) (os : List (With OfOperand)) → (expr_fit x.0).fits ≡ true → operands_fit (map operand_fit (nodes os)) ≡ true → NodeMade (roll-Expr5 (layer.Binary span x.0 (nodes os)))
binary_made span x [] h k rest = absurd (false≢true k)
binary_made span x (o ∷ os) h k rest =
    let level = (operand_fit o.0).level in
    let (qs, e, t) = l.operands_made level (o ∷ os) k rest in
    let (ps, d, s) = placed (x.1 h) qs in
    (ps, λ spots. (level, g.binary_chain level span x.0 o.0 (nodes os) (expr.rolls-Binary span x.0 (nodes (o ∷ os))) tt (d spots false (level + 1)) (e spots)), λ q. s (t q))

sequence_made : (span : Span) (x : With OfExpr) (xs : List (With OfExpr)) → (expr_fit x.0).fits ≡ true → parts_fit (map expr_fit (nodes xs)) ≡ true → NodeMade (roll-Expr5 (layer.Sequence span x.0 (nodes xs)))
sequence_made span x [] h k rest = absurd (false≢true k)
sequence_made span x (y ∷ xs) h k rest =
    let (qs, e, t) = l.parts_made (y ∷ xs) k rest in
    let (ps, d, s) = placed (x.1 h) qs in
    (ps, λ spots. (g.level_sequence, g.sequence span x.0 y.0 (nodes xs) (expr.rolls-Sequence span x.0 (nodes (y ∷ xs))) tt (d spots false level_assignment) (e spots)), λ q. s (t q))

pub node_made : (y : Shown Expr5-F) → (expr_step (fit_expr (bare_expr y))).fits ≡ true → NodeMade (roll-Expr5 (bare_expr y))
node_made (layer.This span) h rest = (word (codes "this") rest, λ spots. (g.level_primary, g.this span (expr.rolls-This span) tt refl), λ q. (refl, q))
node_made (layer.Name span name) h rest =
    let p = named name h in
    (word name rest, λ spots. (g.level_primary, g.identifier span name (expr.rolls-Name span name) tt refl p.1), λ q. (p.0, q))
node_made (layer.Literal span value) h rest = (Lexeme (literal_kind value) ∷ rest, λ spots. (g.level_primary, g.literal span value (expr.rolls-Literal span value) tt refl), λ q. (literal_known value h, q))
node_made (layer.ArrayList span xs) h rest =
    let (ps, d, s) = l.elements_made xs h rest in
    (mark (codes "[") ps, λ spots. (g.level_primary, g.array span (nodes xs) (expr.rolls-ArrayList span (nodes xs)) tt refl (d spots)), λ q. (sign.left_bracket, s q))
node_made (layer.ObjectList span xs) h rest =
    let (ps, d, s) = l.properties_made xs h rest in
    (mark (codes "{") ps, λ spots. (g.level_primary, g.object span (nodes xs) (expr.rolls-ObjectList span (nodes xs)) tt refl (d spots)), λ q. (sign.left_brace, s q))
node_made (layer.Function f) h rest =
    let (ps, d, s) = f.1.made h rest in
    (word (codes "function") ps, λ spots. (g.level_primary, g.function f.0 (expr.rolls-Function f.0) (d spots)), λ q. (refl, s q))
node_made (layer.Chain span x ls) h rest = let p = and_parts (expr_fit x.0).fits (links_fit (map link_fit (nodes ls))) h in chain_made span x ls p.0 p.1 rest
node_made (layer.New span x xs) h rest =
    let p = and_parts (expr_fit x.0).fits (exprs_fit (map expr_fit (nodes xs))) h in
    let (qs, e, t) = l.arguments_made xs p.1 rest in
    let (ps, d, s) = placed (x.1 p.0) (mark (codes "(") qs) in
    (word (codes "new") ps, λ spots. (g.level_primary, g.new_call span x.0 (nodes xs) (expr.rolls-New span x.0 (nodes xs)) tt refl (d spots false g.level_member) refl (e spots)), λ q. (refl, s (sign.left_paren, t q)))
node_made (layer.Update span operator x) h rest = update_made span operator x h (is_before operator) refl rest
node_made (layer.Unary span operator x) h rest =
    let (ps, d, s) = placed (x.1 h) rest in
    (Lexeme (unary_kind operator) ∷ ps, λ spots. (g.level_unary, g.unary span operator x.0 (expr.rolls-Unary span operator x.0) tt refl (d spots false g.level_unary)), λ q. (unary_spelled operator, s q))
node_made (layer.Binary span x os) h rest = let p = and_parts (expr_fit x.0).fits (operands_fit (map operand_fit (nodes os))) h in binary_made span x os p.0 p.1 rest
node_made (layer.Conditional span x y z) h rest =
    let p = and_parts ((expr_fit x.0).fits && (expr_fit y.0).fits) (expr_fit z.0).fits h in
    let r = and_parts (expr_fit x.0).fits (expr_fit y.0).fits p.0 in
    let (ps, d, s) = placed (z.1 p.1) rest in
    let (qs, e, t) = placed (y.1 r.1) (mark (codes ":") ps) in
    let (ns, f, u) = placed (x.1 r.0) (mark (codes "?") qs) in
    (ns, λ spots. (g.level_conditional, g.conditional span x.0 y.0 z.0 (expr.rolls-Conditional span x.0 y.0 z.0) tt (f spots false (g.level_conditional + 1)) refl (e spots false level_assignment) refl (d spots false level_assignment)), λ q. u (sign.question, t (sign.colon, s q)))
node_made (layer.Assign span operator x y) h rest =
    let p = and_parts (expr_fit x.0).fits (expr_fit y.0).fits h in
    let (ps, d, s) = placed (y.1 p.1) rest in
    let (qs, e, t) = placed (x.1 p.0) (Lexeme (assign_kind operator) ∷ ps) in
    (qs, λ spots. (g.level_assignment, g.assignment span operator x.0 y.0 (expr.rolls-Assign span operator x.0 y.0) tt (e spots false g.level_left_hand_side) refl (d spots false level_assignment)), λ q. t (assign_spelled operator, s q))
node_made (layer.Sequence span x xs) h rest = let p = and_parts (expr_fit x.0).fits (parts_fit (map expr_fit (nodes xs))) h in sequence_made span x xs p.0 p.1 rest

pub for_first_made : (y : Shown ForFirst5-F) → ForFirstOf (for_first_step (fit_for_first (bare_for_first y))) (roll-ForFirst5 (bare_for_first y))
for_first_made layer.NoFirst h rest = (mark (codes ";") rest, λ spots. subst (λ z. g.IsForFirst Aside (toks spots (mark (codes ";") rest)) z (toks spots rest)) (sym for_first.rolls-NoFirst) (g.nothing_first refl), λ q. (sign.semicolon, q))
for_first_made (layer.FirstVar ds) h rest =
    let (ps, d, s) = l.declared_made ds h (mark (codes ";") rest) in
    (word (codes "var") ps, λ spots. g.var_first (nodes ds) (for_first.rolls-FirstVar (nodes ds)) refl (d spots true) refl, λ q. (refl, s (sign.semicolon, q)))
for_first_made (layer.FirstExpression x) h rest =
    let (ps, d, s) = placed (x.1 h) (mark (codes ";") rest) in
    (ps, λ spots. g.expression_first x.0 (for_first.rolls-FirstExpression x.0) (d spots true level_sequence) refl, λ q. s (sign.semicolon, q))

pub link_made : (y : Shown Link5-F) → (link_step (fit_link (bare_link y))).fits ≡ true → (links : List Link5) (rest : List Piece) → LinksMade links rest → LinksMade (roll-Link5 (bare_link y) ∷ links) rest
link_made (layer.Member span name) h links rest m =
    let (ps, d, s) = m in
    (mark (codes ".") (word name ps), λ spots. ((d spots).0, g.member_link span name (link.rolls-Member span name) tt refl refl (d spots).1), λ q. (sign.point, (h, s q)))
link_made (layer.Index span x) h links rest m =
    let (ps, d, s) = m in
    let (qs, e, t) = placed (x.1 h) (mark (codes "]") ps) in
    (mark (codes "[") qs, λ spots. ((d spots).0, g.index_link span x.0 (link.rolls-Index span x.0) tt refl (e spots false level_sequence) refl (d spots).1), λ q. (sign.left_bracket, t (sign.right_bracket, s q)))
link_made (layer.Call span xs site) h links rest m =
    let (ps, d, s) = m in
    let (qs, e, t) = l.arguments_made xs h ps in
    (mark (codes "(") qs, λ spots. (true, g.call_link span (nodes xs) site (link.rolls-Call span (nodes xs) site) tt refl (e spots) (d spots).1), λ q. (sign.left_paren, t (s q)))

pub link_counted : (y : Open Link5-F) (links : List Link5) → length (g.link_sites (roll-Link5 y ∷ links)) ≡ (link_step (fit_link y)).sites + length (g.link_sites links)
link_counted (layer.Member span name) links = rw (out-roll-Link5 (layer.Member span name)) (omega arith)
link_counted (layer.Index span x) links = rw (out-roll-Link5 (layer.Index span x)) (omega arith)
link_counted (layer.Call span xs site) links = rw (out-roll-Link5 (layer.Call span xs site)) (length-append (some_site site) (g.link_sites links))

pub property_made : (y : Shown Property5-F) → PropertyOf (property_step (fit_property (bare_property y))) (roll-Property5 (bare_property y))
property_made (layer.Plain span k x) h rest =
    let p = and_parts (is_key k.key) (expr_fit x.0).fits h in
    let (ps, d, s) = placed (x.1 p.1) rest in
    (Lexeme (key_kind k.key) ∷ mark (codes ":") ps, λ spots. g.plain span k x.0 (property.rolls-Plain span k x.0) tt (key_made spots k (mark (codes ":") ps)) refl (d spots false level_assignment), λ q. (key_known k.key p.0, (sign.colon, s q)))
property_made (layer.Getter span k f) h rest =
    let n = function_fit f.0 in
    let p = and_parts (is_key k.key && n.fits && not n.is_named) (n.parameters == 0) h in
    let q = and_parts (is_key k.key && n.fits) (not n.is_named) p.0 in
    let r = and_parts (is_key k.key) n.fits q.0 in
    let (ps, d, s) = f.1.getter r.1 (not_true n.is_named q.1) (eqb-true n.parameters 0 p.1) rest in
    (word (codes "get") (Lexeme (key_kind k.key) ∷ ps), λ spots. g.getter span k f.0 (property.rolls-Getter span k f.0) tt refl (key_made spots k ps) (d spots), λ z. (refl, (key_known k.key r.0, s z)))
property_made (layer.Setter span k f) h rest =
    let n = function_fit f.0 in
    let p = and_parts (is_key k.key && n.fits && not n.is_named) (n.parameters == 1) h in
    let q = and_parts (is_key k.key && n.fits) (not n.is_named) p.0 in
    let r = and_parts (is_key k.key) n.fits q.0 in
    let (ps, d, s) = f.1.setter r.1 (not_true n.is_named q.1) (eqb-true n.parameters 1 p.1) rest in
    (word (codes "set") (Lexeme (key_kind k.key) ∷ ps), λ spots. g.setter span k f.0 (property.rolls-Setter span k f.0) tt refl (key_made spots k ps) (d spots), λ z. (refl, (key_known k.key r.0, s z)))

pub block_made : (y : Shown Block5-F) → BlockOf (block_step (fit_block (bare_block y))) (roll-Block5 (bare_block y))
block_made y inside h rest =
    let (ps, no_else, d, s) = l.stats_made inside false y.statements h rest in
    (ps, λ spots. g.braces y.span (nodes y.statements) refl tt refl (d spots), s)

pub catch_made : (y : Shown Catch5-F) → CatchOf (catch_step (fit_catch (bare_catch y))) (roll-Catch5 (bare_catch y))
catch_made y inside h rest =
    let p = and_parts (is_name y.parameter.name) (block_fit y.body.0 inside) h in
    let n = named y.parameter.name p.0 in
    let (ps, d, s) = y.body.1 inside p.1 rest in
    let after = mark (codes ")") (mark (codes "{") ps) in
    (word (codes "catch") (mark (codes "(") (word y.parameter.name after)), λ spots. g.handler y.span y.parameter y.body.0 refl tt refl refl (identifier_made spots y.parameter after n.1) refl (d spots), λ q. (refl, (sign.left_paren, (n.0, (sign.right_paren, (sign.left_brace, s q))))))

pub condition_made : (y : Shown Condition5-F) → ConditionOf (condition_step (fit_condition (bare_condition y))) (roll-Condition5 (bare_condition y))
condition_made y inside h rest no_else =
    let p = and_parts (expr_fit y.test.0).fits ((stat_fit y.body.0).fits inside false) h in
    let m = y.body.1 inside false p.1 rest no_else in
    let (ps, d, s) = placed (y.test.1 p.0) (mark (codes ")") m.pieces) in
    (mark (codes "(") ps, λ spots. g.condition y.span y.test.0 y.body.0 refl tt refl refl (d spots false level_sequence) refl (m.derived spots), λ q. (sign.left_paren, s (sign.right_paren, m.spelled q)))

pub declared_by : (span : Span) (name : Identifier5) (init : Option (With OfExpr)) → DeclaredOf (declared_step (fit_declared (bare_declared (record { span = span; name = name; init = init })))) (roll-Declared5 (bare_declared (record { span = span; name = name; init = init })))
declared_by span name None h rest =
    let n = named name.name (and_parts (is_name name.name) true h).0 in
    (word name.name rest, λ spots no_in. g.uninitialized span name refl tt (identifier_made spots name rest n.1), λ q. (n.0, q))
declared_by span name (Some x) h rest =
    let p = and_parts (is_name name.name) (expr_fit x.0).fits h in
    let n = named name.name p.0 in
    let (ps, d, s) = placed (x.1 p.1) rest in
    (word name.name (mark (codes "=") ps), λ spots no_in. g.initialized span name x.0 refl tt (identifier_made spots name (mark (codes "=") ps) n.1) refl (d spots no_in level_assignment), λ q. (n.0, (sign.equals, s q)))

pub case_by : (span : Span) (test : Option (With OfExpr)) (body : List (With OfStat)) → CaseOf (case_step (fit_case (bare_case (record { span = span; test = test; body = body })))) (roll-Case5 (bare_case (record { span = span; test = test; body = body })))
case_by span None body inside may h e cs rest m =
    let (ps, no_else, d, s) = m in
    let (qs, no_else', f, t) = l.in_case_made inside body h ps no_else in
    let ns = word (codes "default") (mark (codes ":") qs) in
    let whole = roll-Case5 (record { span = span; test = None; body = nodes body }) in
    (ns, λ spots. refl, λ spots. subst (λ b. AreCases Aside inside b (toks spots ns) (whole ∷ cs) (toks spots rest)) (sym e) (g.default_clause span (nodes body) refl tt refl refl (f spots) (d spots)), λ q. (refl, (sign.colon, t (s q))))
case_by span (Some x) body inside may h e cs rest m =
    let (ps, no_else, d, s) = m in
    let p = and_parts (expr_fit x.0).fits (stats_fit inside false (map stat_fit (nodes body))) h in
    let (qs, no_else', f, t) = l.in_case_made inside body p.1 ps no_else in
    let (ns, w, u) = placed (x.1 p.0) (mark (codes ":") qs) in
    (word (codes "case") ns, λ spots. refl, λ spots. g.case_clause span x.0 (nodes body) refl tt refl (w spots false level_sequence) refl (f spots) (d spots), λ q. (refl, u (sign.colon, t (s q))))

pub operand_made : (y : Shown Operand5-F) → OperandOf (operand_step (fit_operand (bare_operand y))) (roll-Operand5 (bare_operand y))
operand_made y h level e os rest m =
    let (ps, d, s) = m in
    let (qs, f, t) = placed (y.value.1 h) ps in
    (Lexeme (binary_kind y.operator) ∷ qs, λ spots. g.next_operand y.operator y.value.0 refl e refl refl (f spots false (level + 1)) (d spots), λ q. (binary_spelled y.operator, t (s q)))

abbrev function_layer : Span → Option Identifier5 → List Identifier5 → List (With OfStat) → Shown Function5-F
function_layer span name parameters body = record { span = span; name = name; parameters = parameters; body = body }

abbrev function_of : Span → Option Identifier5 → List Identifier5 → List (With OfStat) → Function5
function_of span name parameters body = roll-Function5 (bare_function (function_layer span name parameters body))

abbrev FunctionFits : Option Identifier5 → List Identifier5 → List (With OfStat) → Type 0
FunctionFits name parameters body = (label_fits name && names_fit parameters && stats_fit true true (map stat_fit (nodes body))) ≡ true

function_made : (span : Span) (name : Option Identifier5) (parameters : List Identifier5) (body : List (With OfStat)) → FunctionFits name parameters body → (rest : List Piece)
    → MadeAfter (Word (codes "function")) (λ ts us. IsFunction Aside ts (function_of span name parameters body) us) rest
function_made span None parameters body h rest =
    let p = and_parts (names_fit parameters) (stats_fit true true (map stat_fit (nodes body))) h in
    let (ps, no_else, d, s) = l.stats_made true true body p.1 rest in
    let (qs, e, t) = l.parameters_made parameters p.0 (mark (codes "{") ps) in
    (mark (codes "(") qs, λ spots. g.anonymous span parameters (nodes body) refl tt refl refl (e spots) refl (d spots), λ q. (sign.left_paren, t (sign.left_brace, s q)))
function_made span (Some x) parameters body h rest =
    let p = and_parts (is_name x.name && names_fit parameters) (stats_fit true true (map stat_fit (nodes body))) h in
    let r = and_parts (is_name x.name) (names_fit parameters) p.0 in
    let n = named x.name r.0 in
    let (ps, no_else, d, s) = l.stats_made true true body p.1 rest in
    let (qs, e, t) = l.parameters_made parameters r.1 (mark (codes "{") ps) in
    (word x.name (mark (codes "(") qs), λ spots. g.named span x parameters (nodes body) refl tt refl (identifier_made spots x (mark (codes "(") qs) n.1) refl (e spots) refl (d spots), λ q. (n.0, (sign.left_paren, t (sign.left_brace, s q))))

differ : (n m : ℕ) → n ≡ m → m < n → ⊥
differ n m e h = omega arith

getter_made : (span : Span) (name : Option Identifier5) (parameters : List Identifier5) (body : List (With OfStat)) → FunctionFits name parameters body → is_some name ≡ false → length parameters ≡ 0 → (rest : List Piece)
    → Made (λ ts us. IsAccessor Aside false ts (function_of span name parameters body) us) rest
getter_made span (Some x) parameters body h n e rest = absurd (false≢true (sym n))
getter_made span None (p ∷ parameters) body h n e rest = absurd (differ (suc (length parameters)) 0 e (omega arith))
getter_made span None [] body h n e rest =
    let (ps, no_else, d, s) = l.stats_made true true body h rest in
    (mark (codes "(") (mark (codes ")") (mark (codes "{") ps)), λ spots. g.no_value span (nodes body) refl tt refl refl refl (d spots), λ q. (sign.left_paren, (sign.right_paren, (sign.left_brace, s q))))

setter_made : (span : Span) (name : Option Identifier5) (parameters : List Identifier5) (body : List (With OfStat)) → FunctionFits name parameters body → is_some name ≡ false → length parameters ≡ 1 → (rest : List Piece)
    → Made (λ ts us. IsAccessor Aside true ts (function_of span name parameters body) us) rest
setter_made span (Some x) parameters body h n e rest = absurd (false≢true (sym n))
setter_made span None [] body h n e rest = absurd (differ 1 0 (sym e) (omega arith))
setter_made span None (p ∷ r ∷ parameters) body h n e rest = absurd (differ (suc (suc (length parameters))) 1 e (omega arith))
setter_made span None (x ∷ []) body h n e rest =
    let p = and_parts (is_name x.name && true) (stats_fit true true (map stat_fit (nodes body))) h in
    let k = named x.name (and_parts (is_name x.name) true p.0).0 in
    let (ps, no_else, d, s) = l.stats_made true true body p.1 rest in
    let after = mark (codes ")") (mark (codes "{") ps) in
    (mark (codes "(") (word x.name after), λ spots. g.one_value span x (nodes body) refl tt refl (identifier_made spots x after k.1) refl refl (d spots), λ q. (sign.left_paren, (k.0, (sign.right_paren, (sign.left_brace, s q)))))

named_by : (span : Span) (name : Option Identifier5) (parameters : List Identifier5) (body : List (With OfStat)) → is_some name ≡ true → IsNamed (function_of span name parameters body)
named_by span None parameters body h = absurd (false≢true h)
named_by span (Some x) parameters body h = record { span = span; name = x; parameters = parameters; body = nodes body; is = refl }

pub function_by : (span : Span) (name : Option Identifier5) (parameters : List Identifier5) (body : List (With OfStat)) → FunctionOf (function_step (fit_function (bare_function (function_layer span name parameters body)))) (function_of span name parameters body)
function_by span name parameters body = record {
  made = function_made span name parameters body;
  named = named_by span name parameters body;
  getter = getter_made span name parameters body;
  setter = setter_made span name parameters body;
}
