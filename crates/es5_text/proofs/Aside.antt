-- A text that is spelled by a tree with its spans is spelled by it with the spans and sites left open. Each derivation is
-- the same one, with nothing asked of spans, and at most one site of a chain since there is none.
use Rattle.std.proofs.Common.{◌≡◌, ℕ, ◌≤◌, Bool, List, [], ◌∷◌, length, Option, subst, sym, arith}
use Rattle.es5_ast.specs.declared.tree.Identifier5.{Identifier5}
use Rattle.es5_ast.specs.declared.tree.PlacedKey5.{PlacedKey5}
use Rattle.es5_ast.specs.declared.tree.Stat5.{Stat5}
use Rattle.es5_ast.specs.declared.tree.Declared5.{Declared5}
use Rattle.es5_ast.specs.declared.tree.Block5.{Block5}
use Rattle.es5_ast.specs.declared.tree.Condition5.{Condition5}
use Rattle.es5_ast.specs.declared.tree.ForFirst5.{ForFirst5}
use Rattle.es5_ast.specs.declared.tree.Case5.{Case5}
use Rattle.es5_ast.specs.declared.tree.Catch5.{Catch5}
use Rattle.es5_ast.specs.declared.tree.Function5.{Function5}
use Rattle.es5_ast.specs.declared.tree.Expr5.{Expr5}
use Rattle.es5_ast.specs.declared.tree.Element5.{Element5}
use Rattle.es5_ast.specs.declared.tree.Property5.{Property5}
use Rattle.es5_ast.specs.declared.tree.Link5.{Link5}
use Rattle.es5_ast.specs.declared.tree.Operand5.{Operand5}
use Rattle.es5_ast.specs.declared.tree.Script.{Script}
use Rattle.es5_ast.specs.Lexical.{Token5}
use Rattle.es5_ast.specs.Grammar as g
use Rattle.es5_ast.specs.Grammar.{Exact, Aside, link_sites, IsIdentifier, IsKey, AreArguments, AreCases, AreDeclared, AreElements, AreInCase, AreLinks, AreOperands, AreParameters, AreParts, AreProperties, AreStats, IsAccessor, IsBlock, IsCatch, IsClosed, IsCondition, IsDeclared, IsExpr, IsForFirst, IsFunction, IsIf, IsLabel, IsNewCallee, IsNode, IsOptional, IsProgram, IsProperty, IsReturned, IsStat}
use Rattle.es5_ast.specs.Script.{Spells5, SpellsAside}

one_site : (links : List Link5) → link_sites links ≡ [] → length (link_sites links) ≤ 1
one_site links h = subst (λ sites. length sites ≤ 1) (sym h) (omega arith)

identifier-aside : {ts : List Token5} {x : Identifier5} {us : List Token5} → IsIdentifier Exact ts x us → IsIdentifier Aside ts x us
identifier-aside d = record { token = d.token; first = d.first; word = d.word; free = d.free; spans = tt }

key-aside : {ts : List Token5} {x : PlacedKey5} {us : List Token5} → IsKey Exact ts x us → IsKey Aside ts x us
key-aside d = record { token = d.token; first = d.first; kind = d.kind; spans = tt }

parameters-aside : {ts : List Token5} {xs : List Identifier5} {us : List Token5} → AreParameters Exact ts xs us → AreParameters Aside ts xs us
parameters-aside (g.no_parameter a) = g.no_parameter a
parameters-aside (g.last_parameter a b) = g.last_parameter (identifier-aside a) b
parameters-aside (g.next_parameter a b c) = g.next_parameter (identifier-aside a) b (parameters-aside c)

label-aside : {ts : List Token5} {x : Option Identifier5} {us : List Token5} → IsLabel Exact ts x us → IsLabel Aside ts x us
label-aside g.no_label = g.no_label
label-aside (g.label a b) = g.label a (identifier-aside b)

mutual
  expr-aside : {no_in : Bool} {level : ℕ} {ts : List Token5} {x : Expr5} {us : List Token5} → IsExpr Exact no_in level ts x us → IsExpr Aside no_in level ts x us
  expr-aside (g.bare level' a b) = g.bare level' a (node-aside b)
  expr-aside (g.group a b c) = g.group a (expr-aside b) c

  node-aside : {no_in : Bool} {level : ℕ} {ts : List Token5} {x : Expr5} {us : List Token5} → IsNode Exact no_in level ts x us → IsNode Aside no_in level ts x us
  node-aside (g.this span' a _ b) = g.this span' a tt b
  node-aside (g.identifier span' name' a _ b c) = g.identifier span' name' a tt b c
  node-aside (g.literal span' value' a _ b) = g.literal span' value' a tt b
  node-aside (g.array span' elements' a _ b c) = g.array span' elements' a tt b (elements-aside c)
  node-aside (g.object span' properties' a _ b c) = g.object span' properties' a tt b (properties-aside c)
  node-aside (g.function f' a b) = g.function f' a (function-aside b)
  node-aside (g.chain calls' span' head' l' links' a _ b c d) = g.chain calls' span' head' l' links' a tt (one_site (l' ∷ links') b) (expr-aside c) (links-aside d)
  node-aside (g.new_call span' callee' arguments' a _ b c d e) = g.new_call span' callee' arguments' a tt b (expr-aside c) d (arguments-aside e)
  node-aside (g.new_bare span' callee' a _ b c) = g.new_bare span' callee' a tt b (new_callee-aside c)
  node-aside (g.update_after span' operator' target' a _ b c d e) = g.update_after span' operator' target' a tt b (expr-aside c) d e
  node-aside (g.update_before span' operator' target' a _ b c d) = g.update_before span' operator' target' a tt b c (expr-aside d)
  node-aside (g.unary span' operator' operand' a _ b c) = g.unary span' operator' operand' a tt b (expr-aside c)
  node-aside (g.binary_chain level' span' first' o' rest' a _ b c) = g.binary_chain level' span' first' o' rest' a tt (expr-aside b) (operands-aside c)
  node-aside (g.conditional span' test' yes_' no_' a _ b c d e f) = g.conditional span' test' yes_' no_' a tt (expr-aside b) c (expr-aside d) e (expr-aside f)
  node-aside (g.assignment span' operator' target' value' a _ b c d) = g.assignment span' operator' target' value' a tt (expr-aside b) c (expr-aside d)
  node-aside (g.sequence span' first' y' rest' a _ b c) = g.sequence span' first' y' rest' a tt (expr-aside b) (parts-aside c)

  new_callee-aside : {ts : List Token5} {x : Expr5} {us : List Token5} → IsNewCallee Exact ts x us → IsNewCallee Aside ts x us
  new_callee-aside (g.another_new a) = g.another_new (node-aside a)
  new_callee-aside (g.member a) = g.member (expr-aside a)

  elements-aside : {ts : List Token5} {xs : List Element5} {us : List Token5} → AreElements Exact ts xs us → AreElements Aside ts xs us
  elements-aside (g.no_element a) = g.no_element a
  elements-aside (g.hole a b) = g.hole a (elements-aside b)
  elements-aside (g.last_element a b) = g.last_element (expr-aside a) b
  elements-aside (g.next_element a b c) = g.next_element (expr-aside a) b (elements-aside c)

  properties-aside : {ts : List Token5} {xs : List Property5} {us : List Token5} → AreProperties Exact ts xs us → AreProperties Aside ts xs us
  properties-aside (g.no_property a) = g.no_property a
  properties-aside (g.last_property a b) = g.last_property (property-aside a) b
  properties-aside (g.next_property a b c) = g.next_property (property-aside a) b (properties-aside c)

  property-aside : {ts : List Token5} {x : Property5} {us : List Token5} → IsProperty Exact ts x us → IsProperty Aside ts x us
  property-aside (g.plain span' k' value' a _ b c d) = g.plain span' k' value' a tt (key-aside b) c (expr-aside d)
  property-aside (g.getter span' k' f' a _ b c d) = g.getter span' k' f' a tt b (key-aside c) (accessor-aside d)
  property-aside (g.setter span' k' f' a _ b c d) = g.setter span' k' f' a tt b (key-aside c) (accessor-aside d)

  accessor-aside : {setter : Bool} {ts : List Token5} {x : Function5} {us : List Token5} → IsAccessor Exact setter ts x us → IsAccessor Aside setter ts x us
  accessor-aside (g.no_value span' body' a _ b c d e) = g.no_value span' body' a tt b c d (stats-aside e)
  accessor-aside (g.one_value span' p' body' a _ b c d e f) = g.one_value span' p' body' a tt b (identifier-aside c) d e (stats-aside f)

  links-aside : {calls : Bool} {ts : List Token5} {xs : List Link5} {us : List Token5} → AreLinks Exact calls ts xs us → AreLinks Aside calls ts xs us
  links-aside g.no_link = g.no_link
  links-aside (g.member_link span' name' a _ b c d) = g.member_link span' name' a tt b c (links-aside d)
  links-aside (g.index_link span' index' a _ b c d e) = g.index_link span' index' a tt b (expr-aside c) d (links-aside e)
  links-aside (g.call_link span' arguments' site' a _ b c d) = g.call_link span' arguments' site' a tt b (arguments-aside c) (links-aside d)

  arguments-aside : {ts : List Token5} {xs : List Expr5} {us : List Token5} → AreArguments Exact ts xs us → AreArguments Aside ts xs us
  arguments-aside (g.no_argument a) = g.no_argument a
  arguments-aside (g.last_argument a b) = g.last_argument (expr-aside a) b
  arguments-aside (g.next_argument a b c) = g.next_argument (expr-aside a) b (arguments-aside c)

  operands-aside : {no_in : Bool} {level : ℕ} {ts : List Token5} {xs : List Operand5} {us : List Token5} → AreOperands Exact no_in level ts xs us → AreOperands Aside no_in level ts xs us
  operands-aside g.no_operand = g.no_operand
  operands-aside (g.next_operand operator' value' a b c d e f) = g.next_operand operator' value' a b c d (expr-aside e) (operands-aside f)

  parts-aside : {no_in : Bool} {ts : List Token5} {xs : List Expr5} {us : List Token5} → AreParts Exact no_in ts xs us → AreParts Aside no_in ts xs us
  parts-aside g.no_part = g.no_part
  parts-aside (g.next_part a b c) = g.next_part a (expr-aside b) (parts-aside c)

  function-aside : {ts : List Token5} {x : Function5} {us : List Token5} → IsFunction Exact ts x us → IsFunction Aside ts x us
  function-aside (g.anonymous span' parameters' body' a _ b c d e f) = g.anonymous span' parameters' body' a tt b c (parameters-aside d) e (stats-aside f)
  function-aside (g.named span' name' parameters' body' a _ b c d e f h) = g.named span' name' parameters' body' a tt b (identifier-aside c) d (parameters-aside e) f (stats-aside h)

  stats-aside : {inside top : Bool} {ts : List Token5} {xs : List Stat5} {us : List Token5} → AreStats Exact inside top ts xs us → AreStats Aside inside top ts xs us
  stats-aside (g.no_stat a) = g.no_stat a
  stats-aside (g.next_stat a b) = g.next_stat (stat-aside a) (stats-aside b)

  stat-aside : {inside top : Bool} {ts : List Token5} {x : Stat5} {us : List Token5} → IsStat Exact inside top ts x us → IsStat Aside inside top ts x us
  stat-aside (g.block b' a b) = g.block b' a (block-aside b)
  stat-aside (g.var span' declared' a _ b c d) = g.var span' declared' a tt b (declared_list-aside c) d
  stat-aside (g.empty span' a _ b) = g.empty span' a tt b
  stat-aside (g.expression span' x' a _ b c d e) = g.expression span' x' a tt b c (expr-aside d) e
  stat-aside (g.if span' first' more' otherwise' a _ b) = g.if span' first' more' otherwise' a tt (if-aside b)
  stat-aside (g.do_while span' body' test' a _ b c d e f h i) = g.do_while span' body' test' a tt b (stat-aside c) d e (expr-aside f) h i
  stat-aside (g.while span' test' body' a _ b c d e f) = g.while span' test' body' a tt b c (expr-aside d) e (stat-aside f)
  stat-aside (g.for span' first' test' update' body' a _ b c d e f h i) = g.for span' first' test' update' body' a tt b c (for_first-aside d) (optional-aside e) f (closed-aside h) (stat-aside i)
  stat-aside (g.continue span' label' a _ b c d) = g.continue span' label' a tt b (label-aside c) d
  stat-aside (g.break span' label' a _ b c d) = g.break span' label' a tt b (label-aside c) d
  stat-aside (g.return span' value' a _ b c d) = g.return span' value' a tt b (returned-aside c) d
  stat-aside (g.switch span' subject' cases' a _ b c d e f h) = g.switch span' subject' cases' a tt b c (expr-aside d) e f (cases-aside h)
  stat-aside (g.labelled span' label' body' a _ b c d) = g.labelled span' label' body' a tt (identifier-aside b) c (stat-aside d)
  stat-aside (g.throw span' value' a _ b c d e) = g.throw span' value' a tt b c (expr-aside d) e
  stat-aside (g.try_catch span' b' handler' a _ b c d) = g.try_catch span' b' handler' a tt b (block-aside c) (catch-aside d)
  stat-aside (g.try_finally span' b' last' a _ b c d e) = g.try_finally span' b' last' a tt b (block-aside c) d (block-aside e)
  stat-aside (g.try_both span' b' last' handler' a _ b c d e f) = g.try_both span' b' last' handler' a tt b (block-aside c) (catch-aside d) e (block-aside f)
  stat-aside (g.debugger span' a _ b c) = g.debugger span' a tt b c
  stat-aside (g.declaration span' name' parameters' body' a b) = g.declaration span' name' parameters' body' a (function-aside b)

  block-aside : {inside : Bool} {ts : List Token5} {x : Block5} {us : List Token5} → IsBlock Exact inside ts x us → IsBlock Aside inside ts x us
  block-aside (g.braces span' body' a _ b c) = g.braces span' body' a tt b (stats-aside c)

  declared_list-aside : {no_in : Bool} {ts : List Token5} {xs : List Declared5} {us : List Token5} → AreDeclared Exact no_in ts xs us → AreDeclared Aside no_in ts xs us
  declared_list-aside (g.last_declared a) = g.last_declared (declared-aside a)
  declared_list-aside (g.next_declared a b c) = g.next_declared (declared-aside a) b (declared_list-aside c)

  declared-aside : {no_in : Bool} {ts : List Token5} {x : Declared5} {us : List Token5} → IsDeclared Exact no_in ts x us → IsDeclared Aside no_in ts x us
  declared-aside (g.uninitialized span' name' a _ b) = g.uninitialized span' name' a tt (identifier-aside b)
  declared-aside (g.initialized span' name' init' a _ b c d) = g.initialized span' name' init' a tt (identifier-aside b) c (expr-aside d)

  if-aside : {inside : Bool} {ts : List Token5} {x : Condition5} {xs : List Condition5} {last : Option Stat5} {us : List Token5} → IsIf Exact inside ts x xs last us → IsIf Aside inside ts x xs last us
  if-aside (g.no_else a b) = g.no_else (condition-aside a) b
  if-aside (g.last_else a b c d) = g.last_else (condition-aside a) b c (stat-aside d)
  if-aside (g.else_if a b c) = g.else_if (condition-aside a) b (if-aside c)

  condition-aside : {inside : Bool} {ts : List Token5} {x : Condition5} {us : List Token5} → IsCondition Exact inside ts x us → IsCondition Aside inside ts x us
  condition-aside (g.condition span' test' body' a _ b c d e f) = g.condition span' test' body' a tt b c (expr-aside d) e (stat-aside f)

  for_first-aside : {ts : List Token5} {x : ForFirst5} {us : List Token5} → IsForFirst Exact ts x us → IsForFirst Aside ts x us
  for_first-aside (g.nothing_first a) = g.nothing_first a
  for_first-aside (g.var_first declared' a b c d) = g.var_first declared' a b (declared_list-aside c) d
  for_first-aside (g.expression_first e' a b c) = g.expression_first e' a (expr-aside b) c

  optional-aside : {ts : List Token5} {x : Option Expr5} {us : List Token5} → IsOptional Exact ts x us → IsOptional Aside ts x us
  optional-aside g.absent = g.absent
  optional-aside (g.present a) = g.present (expr-aside a)

  closed-aside : {ts : List Token5} {x : Option Expr5} {us : List Token5} → IsClosed Exact ts x us → IsClosed Aside ts x us
  closed-aside (g.closed a b) = g.closed (optional-aside a) b

  returned-aside : {ts : List Token5} {x : Option Expr5} {us : List Token5} → IsReturned Exact ts x us → IsReturned Aside ts x us
  returned-aside g.no_value_returned = g.no_value_returned
  returned-aside (g.value_returned a b) = g.value_returned a (expr-aside b)

  cases-aside : {inside may : Bool} {ts : List Token5} {xs : List Case5} {us : List Token5} → AreCases Exact inside may ts xs us → AreCases Aside inside may ts xs us
  cases-aside (g.no_case a) = g.no_case a
  cases-aside (g.case_clause span' test' body' a _ b c d e f) = g.case_clause span' test' body' a tt b (expr-aside c) d (in_case-aside e) (cases-aside f)
  cases-aside (g.default_clause span' body' a _ b c d e) = g.default_clause span' body' a tt b c (in_case-aside d) (cases-aside e)

  in_case-aside : {inside : Bool} {ts : List Token5} {xs : List Stat5} {us : List Token5} → AreInCase Exact inside ts xs us → AreInCase Aside inside ts xs us
  in_case-aside g.no_more_in_case = g.no_more_in_case
  in_case-aside (g.next_in_case a b) = g.next_in_case (stat-aside a) (in_case-aside b)

  catch-aside : {inside : Bool} {ts : List Token5} {x : Catch5} {us : List Token5} → IsCatch Exact inside ts x us → IsCatch Aside inside ts x us
  catch-aside (g.handler span' parameter' body' a _ b c d e f) = g.handler span' parameter' body' a tt b c (identifier-aside d) e (block-aside f)

pub program-aside : {ts : List Token5} {xs : List Stat5} → IsProgram Exact ts xs → IsProgram Aside ts xs
program-aside g.no_more = g.no_more
program-aside (g.one_more a b) = g.one_more (stat-aside a) (program-aside b)

pub exact_is_aside : {bytes : List ℕ} {script : Script} → Spells5 bytes script → SpellsAside bytes script
exact_is_aside s = record {
  utf8 = s.utf8;
  tokens = s.tokens;
  lexed = s.lexed;
  filled = s.filled;
  fills = s.fills;
  strict = s.strict;
  parsed = program-aside s.parsed;
  spans = tt;
  legal = s.legal;
}
