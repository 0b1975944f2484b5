-- The pieces carry the sites of the tree's calls, in text order: by induction over a derivation of the tree.
use Rattle.std.proofs.Common.{◌≡◌, ℕ, ◌+◌, Bool, true, false, List, [], ◌∷◌, map, Option, Some, None, refl, sym, ap, subst, ◌∙◌}
use Rattle.std.specs.Prelude.{codes}
use Rattle.std.specs.Option.{option_map}
use Rattle.es_outside.specs.declared.events.Site.{Site}
use Rattle.es5_ast.specs.declared.operators.UpdateOperator5.{UpdateOperator5}
use Rattle.es5_ast.specs.declared.tree.Identifier5.{Identifier5}
use Rattle.es5_ast.specs.declared.tree.Stat5.{Stat5}
use Rattle.es5_ast.specs.declared.tree.Declared5.{Declared5}
use Rattle.es5_ast.specs.declared.tree.Block5.{Block5}
use Rattle.es5_ast.specs.declared.tree.Condition5.{Condition5}
use Rattle.es5_ast.specs.declared.tree.ForFirst5.{ForFirst5}
use Rattle.es5_ast.specs.declared.tree.Case5.{Case5}
use Rattle.es5_ast.specs.declared.tree.Catch5.{Catch5}
use Rattle.es5_ast.specs.declared.tree.Function5.{Function5, roll-Function5}
use Rattle.es5_ast.specs.declared.tree.Expr5.{Expr5}
use Rattle.es5_ast.specs.declared.tree.Element5.{Element5}
use Rattle.es5_ast.specs.declared.tree.Element5.TheVariants as element
use Rattle.es5_ast.specs.declared.tree.Property5.{Property5}
use Rattle.es5_ast.specs.declared.tree.Link5.{Link5}
use Rattle.es5_ast.specs.declared.tree.Operand5.{Operand5}
use Rattle.es5_ast.specs.Lexical.{Token5}
use Rattle.es5_ast.specs.Grammar as g
use Rattle.es5_ast.specs.Grammar.{Aside, update_kind, is_before, some_site, IsExpr, IsNode, IsNewCallee, AreElements, AreProperties, IsProperty, IsAccessor, AreLinks, AreArguments, AreOperands, AreParts, IsFunction, AreStats, IsStat, IsBlock, AreDeclared, IsDeclared, IsIf, IsCondition, IsForFirst, IsOptional, IsClosed, IsReturned, AreCases, AreInCase, IsCatch, IsProgram}
use Rattle.es5_printer.specs.Pieces.{Piece, Lexeme, Begins, LineEnd, Write, Shown, ShownLink, ShownOperand, ShownFunction, mark, all, separated, grouped, whole, placed, is_bare, in_place, maybe, name_of, function_of, elements_of, sites_of, begins_of, links_of, operands_of, level_of, arguments_of, parenthesized_arguments, parts_of, parameters_of, parenthesized_parameters, declared_of, update_of, end_of, more_of, otherwise_of, returned_of, body_of, begins_call, opens, element_shown, shown, for_first_shown, link_shown, property_shown, stat_shown, block_shown, case_shown, catch_shown, condition_shown, declared_shown, function_shown, operand_shown}
use Rattle.es5_printer.proofs.Shown as s
use Rattle.es5_printer.specs.Sites.{Sites, LinkSites, every, any, own_site, own_sites, inner_sites, element_sites, expr_sites, for_first_sites, link_sites as sites_of_link, property_sites, stat_sites, block_sites, case_sites, catch_sites, condition_sites, declared_sites, function_sites, operand_sites}
use Rattle.es5_printer.proofs.SitesShown as z
use Rattle.es5_printer.proofs.Tokens.{Spots}
use Rattle.es5_printer.proofs.Placing.{token_calls}

-- the sites of the pieces
abbrev pub piece_sites : List Piece → List Site
piece_sites [] = []
piece_sites (Lexeme kind ∷ ps) = piece_sites ps
piece_sites (Begins site ∷ ps) = site ∷ piece_sites ps
piece_sites (LineEnd ∷ ps) = piece_sites ps

abbrev Gives : Write → Sites → Type 0
Gives w f = (rest : List Piece) → piece_sites (w rest) ≡ f (piece_sites rest)

abbrev GivesExpr : Shown → Sites → Type 0
GivesExpr w f = (no_in : Bool) (least : ℕ) → Gives (in_place w no_in least) f

abbrev GivesNode : Shown → Sites → Type 0
GivesNode w f = (no_in : Bool) → Gives (w.node no_in) f

placed_gives : (w : Shown) (f : Sites) → GivesNode w f → (b no_in : Bool) → Gives (placed b w no_in) f
placed_gives w f h true no_in rest = h no_in rest
placed_gives w f h false no_in rest = h false (mark (codes ")") rest)

from_node : (w : Shown) (f : Sites) → GivesNode w f → GivesExpr w f
from_node w f h no_in least rest = placed_gives w f h (is_bare w no_in least) no_in rest

at_node : {x n : Expr5} {w : Shown} {f : Sites} → x ≡ n → shown n ≡ w → expr_sites n ≡ f → GivesNode w f → GivesNode (shown x) (expr_sites x)
at_node {x = x} {w = w} e a b p = subst (λ v. GivesNode v (expr_sites x)) (sym (ap shown e ∙ a)) (subst (GivesNode w) (sym (ap expr_sites e ∙ b)) p)

grouped_gives : (w : Shown) (f : Sites) → GivesExpr w f → (b : Bool) → Gives (grouped b (whole w)) f
grouped_gives w f h true rest = h false g.level_sequence (mark (codes ")") rest)
grouped_gives w f h false rest = h false g.level_sequence rest

name_gives : (x : Option Identifier5) (rest : List Piece) → piece_sites (name_of x rest) ≡ piece_sites rest
name_gives None rest = refl
name_gives (Some x) rest = refl

parameters_give : (again : Bool) (xs : List Identifier5) (rest : List Piece) → piece_sites (parameters_of again xs rest) ≡ piece_sites rest
parameters_give again [] rest = refl
parameters_give true (x ∷ xs) rest = parameters_give true xs rest
parameters_give false (x ∷ xs) rest = parameters_give true xs rest

elements_again : (es : List (Option Shown)) (rest : List Piece) → piece_sites (elements_of true es rest) ≡ piece_sites (elements_of false es rest)
elements_again [] rest = refl
elements_again (e ∷ es) rest = refl

properties_again : (ps : List Write) (rest : List Piece) → piece_sites (separated true ps rest) ≡ piece_sites (separated false ps rest)
properties_again [] rest = refl
properties_again (p ∷ ps) rest = refl

site_gives : (site : Option Site) (rest : List Piece) → piece_sites (sites_of (some_site site) rest) ≡ own_site site (piece_sites rest)
site_gives None rest = refl
site_gives (Some site) rest = refl

abbrev GivesOwn : ShownLink → LinkSites → Type 0
GivesOwn w f = (rest : List Piece) → piece_sites (sites_of w.sites rest) ≡ own_site f.own (piece_sites rest)

at_own : {x n : Link5} {w : ShownLink} {f : LinkSites} → x ≡ n → link_shown n ≡ w → sites_of_link n ≡ f → GivesOwn w f → GivesOwn (link_shown x) (sites_of_link x)
at_own {x = x} {w = w} e a b p = subst (λ v. GivesOwn v (sites_of_link x)) (sym (ap link_shown e ∙ a)) (subst (GivesOwn w) (sym (ap sites_of_link e ∙ b)) p)

owns_give : {calls : Bool} {ts : List Token5} {xs : List Link5} {us : List Token5} → AreLinks Aside calls ts xs us → Gives (begins_of (map link_shown xs)) (own_sites (map sites_of_link xs))
owns_give g.no_link = λ rest. refl
owns_give (g.member_link {l = l} {links = links} span name e sp md w ds) = λ rest. at_own e (s.link_shown-Member span name) (z.link_sites-Member span name) (λ r. refl) (begins_of (map link_shown links) rest) ∙ ap (own_site (sites_of_link l).own) (owns_give ds rest)
owns_give (g.index_link {l = l} {links = links} span index e sp mo dx mc ds) = λ rest. at_own e (s.link_shown-Index span index) (z.link_sites-Index span index) (λ r. refl) (begins_of (map link_shown links) rest) ∙ ap (own_site (sites_of_link l).own) (owns_give ds rest)
owns_give (g.call_link {l = l} {links = links} span arguments site e sp mo da ds) = λ rest. at_own e (s.link_shown-Call span arguments site) (z.link_sites-Call span arguments site) (site_gives site) (begins_of (map link_shown links) rest) ∙ ap (own_site (sites_of_link l).own) (owns_give ds rest)

abbrev GivesLink : ShownLink → LinkSites → Type 0
GivesLink w f = Gives w.link f.inner

at_link : {x n : Link5} {w : ShownLink} {f : LinkSites} → x ≡ n → link_shown n ≡ w → sites_of_link n ≡ f → GivesLink w f → GivesLink (link_shown x) (sites_of_link x)
at_link {x = x} {w = w} e a b p = subst (λ v. GivesLink v (sites_of_link x)) (sym (ap link_shown e ∙ a)) (subst (GivesLink w) (sym (ap sites_of_link e ∙ b)) p)

abbrev GivesFunction : ShownFunction → Sites → Type 0
GivesFunction w f = Gives w.after f

at_function : {x n : Function5} {w : ShownFunction} {f : Sites} → x ≡ n → function_shown n ≡ w → function_sites n ≡ f → GivesFunction w f → GivesFunction (function_shown x) (function_sites x)
at_function {x = x} {w = w} e a b p = subst (λ v. GivesFunction v (function_sites x)) (sym (ap function_shown e ∙ a)) (subst (GivesFunction w) (sym (ap function_sites e ∙ b)) p)

abbrev GivesOperand : ShownOperand → Sites → Type 0
GivesOperand w f = GivesExpr w.value f

at_operand : {x n : Operand5} {w : ShownOperand} {f : Sites} → x ≡ n → operand_shown n ≡ w → operand_sites n ≡ f → GivesOperand w f → GivesOperand (operand_shown x) (operand_sites x)
at_operand {x = x} {w = w} e a b p = subst (λ v. GivesOperand v (operand_sites x)) (sym (ap operand_shown e ∙ a)) (subst (GivesOperand w) (sym (ap operand_sites e ∙ b)) p)

abbrev GivesDeclared : (Bool → Write) → Sites → Type 0
GivesDeclared w f = (no_in : Bool) → Gives (w no_in) f

at_declared : {x n : Declared5} {w : Bool → Write} {f : Sites} → x ≡ n → declared_shown n ≡ w → declared_sites n ≡ f → GivesDeclared w f → GivesDeclared (declared_shown x) (declared_sites x)
at_declared {x = x} {w = w} e a b p = subst (λ v. GivesDeclared v (declared_sites x)) (sym (ap declared_shown e ∙ a)) (subst (GivesDeclared w) (sym (ap declared_sites e ∙ b)) p)

at_property : {x n : Property5} {w : Write} {f : Sites} → x ≡ n → property_shown n ≡ w → property_sites n ≡ f → Gives w f → Gives (property_shown x) (property_sites x)
at_property {x = x} {w = w} e a b p = subst (λ v. Gives v (property_sites x)) (sym (ap property_shown e ∙ a)) (subst (Gives w) (sym (ap property_sites e ∙ b)) p)

at_stat : {x n : Stat5} {w : Write} {f : Sites} → x ≡ n → stat_shown n ≡ w → stat_sites n ≡ f → Gives w f → Gives (stat_shown x) (stat_sites x)
at_stat {x = x} {w = w} e a b p = subst (λ v. Gives v (stat_sites x)) (sym (ap stat_shown e ∙ a)) (subst (Gives w) (sym (ap stat_sites e ∙ b)) p)

at_block : {x n : Block5} {w : Write} {f : Sites} → x ≡ n → block_shown n ≡ w → block_sites n ≡ f → Gives w f → Gives (block_shown x) (block_sites x)
at_block {x = x} {w = w} e a b p = subst (λ v. Gives v (block_sites x)) (sym (ap block_shown e ∙ a)) (subst (Gives w) (sym (ap block_sites e ∙ b)) p)

at_case : {x n : Case5} {w : Write} {f : Sites} → x ≡ n → case_shown n ≡ w → case_sites n ≡ f → Gives w f → Gives (case_shown x) (case_sites x)
at_case {x = x} {w = w} e a b p = subst (λ v. Gives v (case_sites x)) (sym (ap case_shown e ∙ a)) (subst (Gives w) (sym (ap case_sites e ∙ b)) p)

at_catch : {x n : Catch5} {w : Write} {f : Sites} → x ≡ n → catch_shown n ≡ w → catch_sites n ≡ f → Gives w f → Gives (catch_shown x) (catch_sites x)
at_catch {x = x} {w = w} e a b p = subst (λ v. Gives v (catch_sites x)) (sym (ap catch_shown e ∙ a)) (subst (Gives w) (sym (ap catch_sites e ∙ b)) p)

at_condition : {x n : Condition5} {w : Write} {f : Sites} → x ≡ n → condition_shown n ≡ w → condition_sites n ≡ f → Gives w f → Gives (condition_shown x) (condition_sites x)
at_condition {x = x} {w = w} e a b p = subst (λ v. Gives v (condition_sites x)) (sym (ap condition_shown e ∙ a)) (subst (Gives w) (sym (ap condition_sites e ∙ b)) p)

at_for_first : {x n : ForFirst5} {w : Write} {f : Sites} → x ≡ n → for_first_shown n ≡ w → for_first_sites n ≡ f → Gives w f → Gives (for_first_shown x) (for_first_sites x)
at_for_first {x = x} {w = w} e a b p = subst (λ v. Gives v (for_first_sites x)) (sym (ap for_first_shown e ∙ a)) (subst (Gives w) (sym (ap for_first_sites e ∙ b)) p)

update_gives : (b : Bool) (op : UpdateOperator5) (w : Shown) (f : Sites) → GivesExpr w f → Gives (update_of b op w) f
update_gives true op w f h rest = h false g.level_unary rest
update_gives false op w f h rest = h false g.level_left_hand_side (Lexeme (update_kind op) ∷ rest)

abbrev GivesIf : Condition5 → List Condition5 → Option Stat5 → Type 0
GivesIf c more otherwise = (rest : List Piece) → piece_sites (condition_shown c (more_of (map condition_shown more) (otherwise_of (option_map stat_shown otherwise) rest))) ≡ condition_sites c (every (map condition_sites more) (any (option_map stat_sites otherwise) (piece_sites rest)))

function_gives : (x : Function5) → GivesFunction (function_shown x) (function_sites x) → Gives (function_of (function_shown x)) (function_sites x)
function_gives x h rest = name_gives (function_shown x).name ((function_shown x).after rest) ∙ h rest

after_gives : (f : Sites) (parameters : List Identifier5) (ws : List Write) → Gives (all ws) f → Gives (λ rest. parenthesized_parameters parameters (body_of ws rest)) f
after_gives f parameters ws h rest = parameters_give false parameters (mark (codes ")") (body_of ws rest)) ∙ h (mark (codes "}") rest)

hole_gives : (xs : List Element5) (rest : List Piece) → piece_sites (elements_of false (map element_shown xs) rest) ≡ every (map element_sites xs) (piece_sites rest) → piece_sites (elements_of false (map element_shown (element.Hole ∷ xs)) rest) ≡ every (map element_sites (element.Hole ∷ xs)) (piece_sites rest)
hole_gives xs rest h =
    subst (λ w. piece_sites (elements_of false (w ∷ map element_shown xs) rest) ≡ every (map element_sites (element.Hole ∷ xs)) (piece_sites rest)) (sym s.element_shown-Hole)
    (subst (λ f. piece_sites (elements_of false (map element_shown xs) rest) ≡ f (every (map element_sites xs) (piece_sites rest))) (sym z.element_sites-Hole) h)

element_gives : (x : Expr5) (xs : List Element5) (rest : List Piece) → GivesExpr (shown x) (expr_sites x) → piece_sites (elements_of false (map element_shown xs) rest) ≡ every (map element_sites xs) (piece_sites rest) → piece_sites (elements_of false (map element_shown (element.Element x ∷ xs)) rest) ≡ every (map element_sites (element.Element x ∷ xs)) (piece_sites rest)
element_gives x xs rest h hs =
    subst (λ w. piece_sites (elements_of false (w ∷ map element_shown xs) rest) ≡ every (map element_sites (element.Element x ∷ xs)) (piece_sites rest)) (sym (s.element_shown-Element x))
    (subst (λ f. piece_sites (in_place (shown x) false g.level_assignment (elements_of true (map element_shown xs) rest)) ≡ f (every (map element_sites xs) (piece_sites rest))) (sym (z.element_sites-Element x))
    (h false g.level_assignment (elements_of true (map element_shown xs) rest) ∙ ap (expr_sites x) (elements_again (map element_shown xs) rest ∙ hs)))

mutual
  expr_gives : {no_in : Bool} {least : ℕ} {ts : List Token5} {x : Expr5} {us : List Token5} → IsExpr Aside no_in least ts x us → GivesExpr (shown x) (expr_sites x)
  expr_gives (g.bare level {x = x} le d) = from_node (shown x) (expr_sites x) (node_gives d)
  expr_gives (g.group mo d mc) = expr_gives d

  node_gives : {no_in : Bool} {level : ℕ} {ts : List Token5} {x : Expr5} {us : List Token5} → IsNode Aside no_in level ts x us → GivesNode (shown x) (expr_sites x)
  node_gives (g.this span e sp w) = at_node e (s.shown-This span) (z.expr_sites-This span) (λ no_in rest. refl)
  node_gives (g.identifier span name e sp w free) = at_node e (s.shown-Name span name) (z.expr_sites-Name span name) (λ no_in rest. refl)
  node_gives (g.literal span value e sp k) = at_node e (s.shown-Literal span value) (z.expr_sites-Literal span value) (λ no_in rest. refl)
  node_gives (g.array span elements e sp m ds) = at_node e (s.shown-ArrayList span elements) (z.expr_sites-ArrayList span elements) (λ no_in rest. elements_give ds (mark (codes "]") rest))
  node_gives (g.object span properties e sp m ds) = at_node e (s.shown-ObjectList span properties) (z.expr_sites-ObjectList span properties) (λ no_in rest. properties_give ds (mark (codes "}") rest))
  node_gives (g.function f e d) = at_node e (s.shown-Function f) (z.expr_sites-Function f) (λ no_in rest. function_gives f (functions_give d) rest)
  node_gives (g.chain calls span head l links e sp ss dh dl) = at_node e (s.shown-Chain span head (l ∷ links)) (z.expr_sites-Chain span head (l ∷ links)) (λ no_in rest. owns_give dl (in_place (shown head) false g.level_primary (links_of (map link_shown (l ∷ links)) rest)) ∙ ap (own_sites (map sites_of_link (l ∷ links))) (expr_gives dh false g.level_primary (links_of (map link_shown (l ∷ links)) rest) ∙ ap (expr_sites head) (links_give dl rest)))
  node_gives (g.new_call span callee arguments e sp w dc m da) = at_node e (s.shown-New span callee arguments) (z.expr_sites-New span callee arguments) (λ no_in rest. expr_gives dc false g.level_member (parenthesized_arguments (map shown arguments) rest) ∙ ap (expr_sites callee) (arguments_give da (mark (codes ")") rest)))
  node_gives (g.new_bare span callee e sp w dc) = at_node e (s.shown-New span callee []) (z.expr_sites-New span callee []) (λ no_in rest. new_callee_gives dc false g.level_member (parenthesized_arguments [] rest))
  node_gives (g.update_after span operator target e sp b dt k l) = at_node e (s.shown-Update span operator target) (z.expr_sites-Update span operator target) (λ no_in. update_gives (is_before operator) operator (shown target) (expr_sites target) (expr_gives dt))
  node_gives (g.update_before span operator target e sp b k dt) = at_node e (s.shown-Update span operator target) (z.expr_sites-Update span operator target) (λ no_in. update_gives (is_before operator) operator (shown target) (expr_sites target) (expr_gives dt))
  node_gives (g.unary span operator operand e sp k d) = at_node e (s.shown-Unary span operator operand) (z.expr_sites-Unary span operator operand) (λ no_in rest. expr_gives d false g.level_unary rest)
  node_gives (g.binary_chain level span first o operands e sp df ds) = at_node e (s.shown-Binary span first (o ∷ operands)) (z.expr_sites-Binary span first (o ∷ operands)) (λ no_in rest. expr_gives df no_in (level_of (map operand_shown (o ∷ operands)) + 1) (operands_of no_in (level_of (map operand_shown (o ∷ operands))) (map operand_shown (o ∷ operands)) rest) ∙ ap (expr_sites first) (operands_give ds no_in (level_of (map operand_shown (o ∷ operands))) rest))
  node_gives (g.conditional span test yes_ no_ e sp dt mq dy mc dn) = at_node e (s.shown-Conditional span test yes_ no_) (z.expr_sites-Conditional span test yes_ no_) (λ no_in rest. expr_gives dt no_in _ _ ∙ ap (expr_sites test) (expr_gives dy false _ _ ∙ ap (expr_sites yes_) (expr_gives dn no_in _ rest)))
  node_gives (g.assignment span operator target value e sp dt k dv) = at_node e (s.shown-Assign span operator target value) (z.expr_sites-Assign span operator target value) (λ no_in rest. expr_gives dt false _ _ ∙ ap (expr_sites target) (expr_gives dv no_in _ rest))
  node_gives (g.sequence span first y parts e sp df dp) = at_node e (s.shown-Sequence span first (y ∷ parts)) (z.expr_sites-Sequence span first (y ∷ parts)) (λ no_in rest. expr_gives df no_in _ _ ∙ ap (expr_sites first) (parts_give dp no_in rest))

  new_callee_gives : {ts : List Token5} {x : Expr5} {us : List Token5} → IsNewCallee Aside ts x us → GivesExpr (shown x) (expr_sites x)
  new_callee_gives (g.another_new {x = x} d) = from_node (shown x) (expr_sites x) (node_gives d)
  new_callee_gives (g.member d) = expr_gives d

  elements_give : {ts : List Token5} {xs : List Element5} {us : List Token5} → AreElements Aside ts xs us → Gives (elements_of false (map element_shown xs)) (every (map element_sites xs))
  elements_give (g.no_element m) = λ rest. refl
  elements_give (g.hole {xs = xs} m ds) = λ rest. hole_gives xs rest (elements_give ds rest)
  elements_give (g.last_element {x = x} d m) = λ rest. element_gives x [] rest (expr_gives d) refl
  elements_give (g.next_element {x = x} {xs = xs} d m ds) = λ rest. element_gives x xs rest (expr_gives d) (elements_give ds rest)

  properties_give : {ts : List Token5} {xs : List Property5} {us : List Token5} → AreProperties Aside ts xs us → Gives (separated false (map property_shown xs)) (every (map property_sites xs))
  properties_give (g.no_property m) = λ rest. refl
  properties_give (g.last_property d m) = λ rest. property_gives d rest
  properties_give (g.next_property {x = x} {xs = xs} d m ds) = λ rest. property_gives d _ ∙ ap (property_sites x) (properties_again (map property_shown xs) rest ∙ properties_give ds rest)

  property_gives : {ts : List Token5} {x : Property5} {us : List Token5} → IsProperty Aside ts x us → Gives (property_shown x) (property_sites x)
  property_gives (g.plain span k value e sp dk m dx) = at_property e (s.property_shown-Plain span k value) (z.property_sites-Plain span k value) (λ rest. expr_gives dx false g.level_assignment rest)
  property_gives (g.getter span k f e sp w dk da) = at_property e (s.property_shown-Getter span k f) (z.property_sites-Getter span k f) (λ rest. accessor_gives da rest)
  property_gives (g.setter span k f e sp w dk da) = at_property e (s.property_shown-Setter span k f) (z.property_sites-Setter span k f) (λ rest. accessor_gives da rest)

  accessor_gives : {setter : Bool} {ts : List Token5} {x : Function5} {us : List Token5} → IsAccessor Aside setter ts x us → GivesFunction (function_shown x) (function_sites x)
  accessor_gives (g.no_value span body e sp mo mc mb d) = at_function e (s.function_shown-roll span None [] body) (z.function_sites-roll span None [] body) (after_gives (every (map stat_sites body)) [] (map stat_shown body) (stats_give d))
  accessor_gives (g.one_value span p body e sp mo di mc mb d) = at_function e (s.function_shown-roll span None (p ∷ []) body) (z.function_sites-roll span None (p ∷ []) body) (after_gives (every (map stat_sites body)) (p ∷ []) (map stat_shown body) (stats_give d))

  links_give : {calls : Bool} {ts : List Token5} {xs : List Link5} {us : List Token5} → AreLinks Aside calls ts xs us → Gives (links_of (map link_shown xs)) (inner_sites (map sites_of_link xs))
  links_give g.no_link = λ rest. refl
  links_give (g.member_link {l = l} span name e sp md w ds) = λ rest. at_link e (s.link_shown-Member span name) (z.link_sites-Member span name) (λ r. refl) _ ∙ ap (sites_of_link l).inner (links_give ds rest)
  links_give (g.index_link {l = l} span index e sp mo dx mc ds) = λ rest. at_link e (s.link_shown-Index span index) (z.link_sites-Index span index) (λ r. expr_gives dx false g.level_sequence (mark (codes "]") r)) _ ∙ ap (sites_of_link l).inner (links_give ds rest)
  links_give (g.call_link {l = l} span arguments site e sp mo da ds) = λ rest. at_link e (s.link_shown-Call span arguments site) (z.link_sites-Call span arguments site) (λ r. arguments_give da (mark (codes ")") r)) _ ∙ ap (sites_of_link l).inner (links_give ds rest)

  arguments_give : {ts : List Token5} {xs : List Expr5} {us : List Token5} → AreArguments Aside ts xs us → Gives (arguments_of false (map shown xs)) (every (map expr_sites xs))
  arguments_give (g.no_argument m) = λ rest. refl
  arguments_give (g.last_argument d m) = λ rest. expr_gives d false g.level_assignment rest
  arguments_give (g.next_argument {x = x} d m ds) = λ rest. expr_gives d false g.level_assignment _ ∙ ap (expr_sites x) (arguments_give ds rest)

  operands_give : {no_in : Bool} {level : ℕ} {ts : List Token5} {xs : List Operand5} {us : List Token5} → AreOperands Aside no_in level ts xs us → (no_in' : Bool) (level' : ℕ) → Gives (operands_of no_in' level' (map operand_shown xs)) (every (map operand_sites xs))
  operands_give g.no_operand = λ no_in level rest. refl
  operands_give (g.next_operand {o = o} operator value e bl ni k dx ds) = λ no_in level rest. at_operand e (s.operand_shown-roll operator value) (z.operand_sites-roll operator value) (expr_gives dx) no_in (level + 1) _ ∙ ap (operand_sites o) (operands_give ds no_in level rest)

  parts_give : {no_in : Bool} {ts : List Token5} {xs : List Expr5} {us : List Token5} → AreParts Aside no_in ts xs us → (no_in' : Bool) → Gives (parts_of no_in' (map shown xs)) (every (map expr_sites xs))
  parts_give g.no_part = λ no_in rest. refl
  parts_give (g.next_part {x = x} m d ds) = λ no_in rest. expr_gives d no_in g.level_assignment _ ∙ ap (expr_sites x) (parts_give ds no_in rest)

  functions_give : {ts : List Token5} {x : Function5} {us : List Token5} → IsFunction Aside ts x us → GivesFunction (function_shown x) (function_sites x)
  functions_give (g.anonymous span parameters body e sp w mo dp mb d) = at_function e (s.function_shown-roll span None parameters body) (z.function_sites-roll span None parameters body) (after_gives (every (map stat_sites body)) parameters (map stat_shown body) (stats_give d))
  functions_give (g.named span name parameters body e sp w di mo dp mb d) = at_function e (s.function_shown-roll span (Some name) parameters body) (z.function_sites-roll span (Some name) parameters body) (after_gives (every (map stat_sites body)) parameters (map stat_shown body) (stats_give d))

  stats_give : {inside top : Bool} {ts : List Token5} {xs : List Stat5} {us : List Token5} → AreStats Aside inside top ts xs us → Gives (all (map stat_shown xs)) (every (map stat_sites xs))
  stats_give (g.no_stat m) = λ rest. refl
  stats_give (g.next_stat {s = x} d ds) = λ rest. stat_gives d _ ∙ ap (stat_sites x) (stats_give ds rest)

  pub stat_gives : {inside top : Bool} {ts : List Token5} {x : Stat5} {us : List Token5} → IsStat Aside inside top ts x us → Gives (stat_shown x) (stat_sites x)
  stat_gives (g.block b e d) = at_stat e (s.stat_shown-Block b) (z.stat_sites-Block b) (λ rest. block_gives d (LineEnd ∷ rest))
  stat_gives (g.var span declared e sp w d en) = at_stat e (s.stat_shown-Var span declared) (z.stat_sites-Var span declared) (λ rest. declared_list_gives d (end_of rest))
  stat_gives (g.empty span e sp m) = at_stat e (s.stat_shown-Empty span) (z.stat_sites-Empty span) (λ rest. refl)
  stat_gives (g.expression span x e sp nb nf d en) = at_stat e (s.stat_shown-Expression span x) (z.stat_sites-Expression span x) (λ rest. grouped_gives (shown x) (expr_sites x) (expr_gives d) (opens (whole (shown x) (end_of rest))) (end_of rest))
  stat_gives (g.if span first more otherwise e sp d) = at_stat e (s.stat_shown-If span first more otherwise) (z.stat_sites-If span first more otherwise) (if_gives d)
  stat_gives (g.do_while span body test e sp w ds ww mo dx mc en) = at_stat e (s.stat_shown-DoWhile span body test) (z.stat_sites-DoWhile span body test) (λ rest. stat_gives ds _ ∙ ap (stat_sites body) (expr_gives dx false g.level_sequence _))
  stat_gives (g.while span test body e sp w mo dx mc ds) = at_stat e (s.stat_shown-While span test body) (z.stat_sites-While span test body) (λ rest. expr_gives dx false g.level_sequence _ ∙ ap (expr_sites test) (stat_gives ds rest))
  stat_gives (g.for span first test update body e sp w mo df dt m dc ds) = at_stat e (s.stat_shown-For span first test update body) (z.stat_sites-For span first test update body) (λ rest. for_first_gives df _ ∙ ap (for_first_sites first) (optional_gives dt _ ∙ ap (any (option_map expr_sites test)) (closed_gives dc _ ∙ ap (any (option_map expr_sites update)) (stat_gives ds rest))))
  stat_gives (g.continue span label e sp w d en) = at_stat e (s.stat_shown-Continue span label) (z.stat_sites-Continue span label) (λ rest. name_gives label (end_of rest))
  stat_gives (g.break span label e sp w d en) = at_stat e (s.stat_shown-Break span label) (z.stat_sites-Break span label) (λ rest. name_gives label (end_of rest))
  stat_gives (g.return span value e sp w d en) = at_stat e (s.stat_shown-Return span value) (z.stat_sites-Return span value) (λ rest. returned_gives d (end_of rest))
  stat_gives (g.switch span subject cases e sp w mo dx mc mb dc) = at_stat e (s.stat_shown-Switch span subject cases) (z.stat_sites-Switch span subject cases) (λ rest. expr_gives dx false g.level_sequence _ ∙ ap (expr_sites subject) (cases_give dc _))
  stat_gives (g.labelled span label body e sp di m ds) = at_stat e (s.stat_shown-Labelled span label body) (z.stat_sites-Labelled span label body) (λ rest. stat_gives ds rest)
  stat_gives (g.throw span value e sp w l d en) = at_stat e (s.stat_shown-Throw span value) (z.stat_sites-Throw span value) (λ rest. grouped_gives (shown value) (expr_sites value) (expr_gives d) (begins_call (whole (shown value) (end_of rest))) (end_of rest))
  stat_gives (g.try_catch span b handler e sp w db dh) = at_stat e (s.stat_shown-Try span b (Some handler) None) (z.stat_sites-Try span b (Some handler) None) (λ rest. block_gives db _ ∙ ap (block_sites b) (catch_gives dh (LineEnd ∷ rest)))
  stat_gives (g.try_finally span b last e sp w db wf dl) = at_stat e (s.stat_shown-Try span b None (Some last)) (z.stat_sites-Try span b None (Some last)) (λ rest. block_gives db _ ∙ ap (block_sites b) (block_gives dl (LineEnd ∷ rest)))
  stat_gives (g.try_both span b last handler e sp w db dh wf dl) = at_stat e (s.stat_shown-Try span b (Some handler) (Some last)) (z.stat_sites-Try span b (Some handler) (Some last)) (λ rest. block_gives db _ ∙ ap (block_sites b) (catch_gives dh _ ∙ ap (catch_sites handler) (block_gives dl (LineEnd ∷ rest))))
  stat_gives (g.debugger span e sp w en) = at_stat e (s.stat_shown-Debugger span) (z.stat_sites-Debugger span) (λ rest. refl)
  stat_gives (g.declaration span name parameters body e d) = at_stat e (s.stat_shown-FunctionDeclaration (roll-Function5 (record { span = span; name = Some name; parameters = parameters; body = body }))) (z.stat_sites-FunctionDeclaration (roll-Function5 (record { span = span; name = Some name; parameters = parameters; body = body }))) (λ rest. function_gives (roll-Function5 (record { span = span; name = Some name; parameters = parameters; body = body })) (functions_give d) (LineEnd ∷ rest))

  block_gives : {inside : Bool} {ts : List Token5} {x : Block5} {us : List Token5} → IsBlock Aside inside ts x us → Gives (block_shown x) (block_sites x)
  block_gives (g.braces span body e sp m d) = at_block e (s.block_shown-roll span body) (z.block_sites-roll span body) (λ rest. stats_give d (mark (codes "}") rest))

  declared_list_gives : {no_in : Bool} {ts : List Token5} {xs : List Declared5} {us : List Token5} → AreDeclared Aside no_in ts xs us → Gives (declared_of no_in false (map declared_shown xs)) (every (map declared_sites xs))
  declared_list_gives (g.last_declared {no_in = no_in} d) = λ rest. declared_gives d no_in rest
  declared_list_gives (g.next_declared {no_in = no_in} {d = x} d m ds) = λ rest. declared_gives d no_in _ ∙ ap (declared_sites x) (declared_list_gives ds rest)

  declared_gives : {no_in : Bool} {ts : List Token5} {x : Declared5} {us : List Token5} → IsDeclared Aside no_in ts x us → GivesDeclared (declared_shown x) (declared_sites x)
  declared_gives (g.uninitialized span name e sp di) = at_declared e (s.declared_shown-roll span name None) (z.declared_sites-roll span name None) (λ no_in rest. refl)
  declared_gives (g.initialized span name init e sp di m d) = at_declared e (s.declared_shown-roll span name (Some init)) (z.declared_sites-roll span name (Some init)) (λ no_in rest. expr_gives d no_in g.level_assignment rest)

  if_gives : {inside : Bool} {ts : List Token5} {c : Condition5} {more : List Condition5} {otherwise : Option Stat5} {us : List Token5} → IsIf Aside inside ts c more otherwise us → GivesIf c more otherwise
  if_gives (g.no_else d b) = λ rest. condition_gives d rest
  if_gives (g.last_else {c = c} d w b ds) = λ rest. condition_gives d _ ∙ ap (condition_sites c) (stat_gives ds rest)
  if_gives (g.else_if {c = c} d w di) = λ rest. condition_gives d _ ∙ ap (condition_sites c) (if_gives di rest)

  condition_gives : {inside : Bool} {ts : List Token5} {x : Condition5} {us : List Token5} → IsCondition Aside inside ts x us → Gives (condition_shown x) (condition_sites x)
  condition_gives (g.condition span test body e sp w mo dx mc ds) = at_condition e (s.condition_shown-roll span test body) (z.condition_sites-roll span test body) (λ rest. expr_gives dx false g.level_sequence _ ∙ ap (expr_sites test) (stat_gives ds rest))

  for_first_gives : {ts : List Token5} {x : ForFirst5} {us : List Token5} → IsForFirst Aside ts x us → Gives (for_first_shown x) (for_first_sites x)
  for_first_gives (g.nothing_first m) = at_for_first refl s.for_first_shown-NoFirst z.for_first_sites-NoFirst (λ rest. refl)
  for_first_gives (g.var_first declared e w d m) = at_for_first e (s.for_first_shown-FirstVar declared) (z.for_first_sites-FirstVar declared) (λ rest. declared_list_gives d (mark (codes ";") rest))
  for_first_gives (g.expression_first x e d m) = at_for_first e (s.for_first_shown-FirstExpression x) (z.for_first_sites-FirstExpression x) (λ rest. expr_gives d true g.level_sequence (mark (codes ";") rest))

  optional_gives : {ts : List Token5} {x : Option Expr5} {us : List Token5} → IsOptional Aside ts x us → Gives (maybe (option_map shown x)) (any (option_map expr_sites x))
  optional_gives g.absent = λ rest. refl
  optional_gives (g.present d) = λ rest. expr_gives d false g.level_sequence rest

  closed_gives : {ts : List Token5} {x : Option Expr5} {us : List Token5} → IsClosed Aside ts x us → Gives (maybe (option_map shown x)) (any (option_map expr_sites x))
  closed_gives (g.closed d m) = optional_gives d

  returned_gives : {ts : List Token5} {x : Option Expr5} {us : List Token5} → IsReturned Aside ts x us → Gives (returned_of (option_map shown x)) (any (option_map expr_sites x))
  returned_gives g.no_value_returned = λ rest. refl
  returned_gives (g.value_returned {x = x} l d) = λ rest. grouped_gives (shown x) (expr_sites x) (expr_gives d) (begins_call (whole (shown x) rest)) rest

  cases_give : {inside may : Bool} {ts : List Token5} {xs : List Case5} {us : List Token5} → AreCases Aside inside may ts xs us → Gives (all (map case_shown xs)) (every (map case_sites xs))
  cases_give (g.no_case m) = λ rest. refl
  cases_give (g.case_clause {c = c} span test body e sp w dx m db ds) = λ rest. at_case e (s.case_shown-roll span (Some test) body) (z.case_sites-roll span (Some test) body) (λ r. expr_gives dx false g.level_sequence _ ∙ ap (expr_sites test) (in_case_gives db r)) _ ∙ ap (case_sites c) (cases_give ds rest)
  cases_give (g.default_clause {c = c} span body e sp w m db ds) = λ rest. at_case e (s.case_shown-roll span None body) (z.case_sites-roll span None body) (λ r. in_case_gives db r) _ ∙ ap (case_sites c) (cases_give ds rest)

  in_case_gives : {inside : Bool} {ts : List Token5} {xs : List Stat5} {us : List Token5} → AreInCase Aside inside ts xs us → Gives (all (map stat_shown xs)) (every (map stat_sites xs))
  in_case_gives g.no_more_in_case = λ rest. refl
  in_case_gives (g.next_in_case {s = x} d ds) = λ rest. stat_gives d _ ∙ ap (stat_sites x) (in_case_gives ds rest)

  catch_gives : {inside : Bool} {ts : List Token5} {x : Catch5} {us : List Token5} → IsCatch Aside inside ts x us → Gives (catch_shown x) (catch_sites x)
  catch_gives (g.handler span parameter body e sp w mo di mc db) = at_catch e (s.catch_shown-roll span parameter body) (z.catch_sites-roll span parameter body) (λ rest. block_gives db rest)

-- the sites of what is written for a script's statements
pub program_gives : {ts : List Token5} {xs : List Stat5} → IsProgram Aside ts xs → piece_sites (all (map stat_shown xs) []) ≡ every (map stat_sites xs) []
program_gives g.no_more = refl
program_gives (g.one_more {s = x} d ds) = stat_gives d _ ∙ ap (stat_sites x) (program_gives ds)

pub call_sites : (spots : Spots) (ps : List Piece) → map (λ c. c.1) (token_calls spots ps) ≡ piece_sites ps
call_sites spots [] = refl
call_sites spots (Lexeme kind ∷ ps) = call_sites spots ps
call_sites spots (Begins site ∷ ps) = ap (λ sites. site ∷ sites) (call_sites spots ps)
call_sites spots (LineEnd ∷ ps) = call_sites spots ps
