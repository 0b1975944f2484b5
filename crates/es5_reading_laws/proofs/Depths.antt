-- Where at no token of a script more than so many constructs are open, no more are open at once in its derivation.
use Rattle.std.proofs.Common.{◌≡◌, ℕ, zero, suc, ◌+◌, ◌-◌, ◌≤◌, ◌<◌, Bool, false, List, [], ◌∷◌, ◌++◌, Option, Some, None, map, length, refl, sym, ap, subst, ◌∙◌, append_assoc, arith}
use Rattle.std.specs.Prelude.{codes, cond}
use Rattle.es_text.specs.declared.Span.{Span}
use Rattle.es5_ast.specs.declared.tree.Identifier5.{Identifier5}
use Rattle.es5_ast.specs.declared.tree.Element5.{Element5, roll-Element5}
use Rattle.es5_ast.specs.declared.tree.Element5.TheVariants as element
use Rattle.es5_ast.specs.declared.tree.Expr5.{Expr5, roll-Expr5}
use Rattle.es5_ast.specs.declared.tree.Expr5.TheVariants as expr
use Rattle.es5_ast.specs.declared.tree.ForFirst5.{ForFirst5, roll-ForFirst5}
use Rattle.es5_ast.specs.declared.tree.ForFirst5.TheVariants as for_first
use Rattle.es5_ast.specs.declared.tree.Link5.{Link5, roll-Link5}
use Rattle.es5_ast.specs.declared.tree.Link5.TheVariants as link
use Rattle.es5_ast.specs.declared.tree.Property5.{Property5, roll-Property5}
use Rattle.es5_ast.specs.declared.tree.Property5.TheVariants as property
use Rattle.es5_ast.specs.declared.tree.Stat5.{Stat5, roll-Stat5}
use Rattle.es5_ast.specs.declared.tree.Stat5.TheVariants as stat
use Rattle.es5_ast.specs.declared.tree.Block5.{Block5, roll-Block5}
use Rattle.es5_ast.specs.declared.tree.Case5.{Case5}
use Rattle.es5_ast.specs.declared.tree.Catch5.{Catch5}
use Rattle.es5_ast.specs.declared.tree.Condition5.{Condition5, roll-Condition5}
use Rattle.es5_ast.specs.declared.tree.Declared5.{Declared5}
use Rattle.es5_ast.specs.declared.tree.Function5.{Function5, roll-Function5}
use Rattle.es5_ast.specs.declared.tree.Operand5.{Operand5}
use Rattle.es5_ast.specs.declared.tree.Element5.TheOpen as layer
use Rattle.es5_ast.specs.declared.tree.Element5.TheOpen.{Element5-F, Expr5-F, ForFirst5-F, Link5-F, Property5-F, Stat5-F}
use Rattle.es5_ast.specs.Lexical.{Kind5, Token5}
use Rattle.es5_ast.specs.Grammar as g
use Rattle.es5_ast.specs.Grammar.{Exact, across, IsIdentifier, AreParameters, IsExpr, IsNode, IsNewCallee, AreElements, AreProperties, IsProperty, IsAccessor, AreLinks, AreArguments, AreOperands, AreParts, IsFunction, AreStats, IsStat, IsBlock, AreDeclared, IsDeclared, IsIf, IsCondition, IsForFirst, IsOptional, IsClosed, IsReturned, AreCases, AreInCase, IsCatch, IsProgram}
use Rattle.es5_ast.specs.Within.{Opens, ExprWithin, NodeWithin, NewCalleeWithin, ElementsWithin, PropertiesWithin, PropertyWithin, AccessorWithin, LinksWithin, ArgumentsWithin, OperandsWithin, PartsWithin, FunctionWithin, StatsWithin, StatWithin, BlockWithin, DeclaredListWithin, DeclaredWithin, IfWithin, ConditionWithin, ForFirstWithin, OptionalWithin, ClosedWithin, ReturnedWithin, CasesWithin, InCaseWithin, CatchWithin, ProgramWithin}
use Rattle.es5_ast.specs.Depth.{opens_group, closes_group, open_groups, is_open_at, Spanned, counted, maybe, joined, all_of, statement_spans, element_step, expr_step, for_first_step, link_step, property_step, stat_step}
use Rattle.es5_ast.specs.Dead.{AreInOrder}
use Rattle.es5_reading_laws.specs.Laws.{AreWithin}
use Rattle.es5_reading_laws.proofs.Layers.{Open, layer_element, layer_expr, layer_for_first, layer_link, layer_property, layer_stat, element_spans, expr_spans, for_first_spans, link_spans, property_spans, stat_spans, block_spans, case_spans, catch_spans, condition_spans, declared_spans, function_spans, operand_spans, element-roll, expr-roll, for_first-roll, link-roll, property-roll, stat-roll, block-roll, case-roll, catch-roll, condition-roll, declared-roll, function-roll, operand-roll}
use Rattle.es5_reading_laws.proofs.Segments.{groups, groups-append, Segment, Fewer, Less, shorter, closing-shorter, join, by_kind, close, ends_in, group, unary-closes, update-closes, assign-closes, binary-closes, identifierS, keyS, parametersC, labelS, exprS, nodeS, calleeS, elementsC, propertiesC, propertyS, linksS, argumentsC, operandsS, partsS, statsC, statS, blockS, declaredS, oneDeclaredS, ifS, conditionS, forFirstS, optionalS, closedC, returnedS, casesC, inCaseS, catchS}
use Rattle.es5_reading_laws.proofs.Opening.{open-at, tally, tally-is, tally-append, open-groups}

-- ## Lengths

same : {ts : List Token5} → Fewer ts ts
same {ts = ts} = record { most = by (length ts) }
  where
    by : (n : ℕ) → n ≤ n
    by n = omega arith

up : {t : Token5} {us ts : List Token5} → Fewer us ts → Fewer us (t ∷ ts)
up {us = us} {ts = ts} h = record { most = by (length us) (length ts) h.most }
  where
    by : (a b : ℕ) → a ≤ b → a ≤ suc b
    by a b h = omega arith

via : {us vs ts : List Token5} → Fewer us vs → Fewer vs ts → Fewer us ts
via {us = us} {vs = vs} {ts = ts} h k = record { most = by (length us) (length vs) (length ts) h.most k.most }
  where
    by : (a b c : ℕ) → a ≤ b → b ≤ c → a ≤ c
    by a b c h k = omega arith

less : {t : Token5} {us ts : List Token5} → Fewer us ts → Less us (t ∷ ts)
less {us = us} {ts = ts} h = record { most = by (length us) (length ts) h.most }
  where
    by : (a b : ℕ) → a ≤ b → a < suc b
    by a b h = omega arith

below-le : {us vs ts : List Token5} → Less us ts → Fewer vs us → Less vs ts
below-le {us = us} {vs = vs} {ts = ts} h k = record { most = by (length us) (length ts) (length vs) h.most k.most }
  where
    by : (a b c : ℕ) → a < b → c ≤ a → c < b
    by a b c h k = omega arith

lower : {t : Token5} {us ts : List Token5} → Fewer (t ∷ us) ts → Fewer us ts
lower {us = us} {ts = ts} h = record { most = by (length us) (length ts) h.most }
  where
    by : (a b : ℕ) → suc a ≤ b → a ≤ b
    by a b h = omega arith

lower-less : {t : Token5} {us ts : List Token5} → Less (t ∷ us) ts → Less us ts
lower-less {us = us} {ts = ts} h = record { most = by (length us) (length ts) h.most }
  where
    by : (a b : ℕ) → suc a < b → a < b
    by a b h = omega arith

-- behind what is taken and one token more
down : {ts us : List Token5} {t : Token5} → Segment ts (t ∷ us) → Fewer us ts
down s = lower (shorter s)

-- ## Spans within spans

record Sub (xs ys : List Span) : Type 0 where
  most : (p : Span → Bool) → tally p xs ≤ tally p ys

all_ : {xs : List Span} → Sub xs xs
all_ {xs = xs} = record { most = λ p. by (tally p xs) }
  where
    by : (n : ℕ) → n ≤ n
    by n = omega arith

left : {xs : List Span} (ys : List Span) → Sub xs (xs ++ ys)
left {xs = xs} ys = record { most = λ p. subst (λ n. tally p xs ≤ n) (sym (tally-append p xs ys)) (by (tally p xs) (tally p ys)) }
  where
    by : (a b : ℕ) → a ≤ a + b
    by a b = omega arith

right : {ys : List Span} (xs : List Span) → Sub ys (xs ++ ys)
right {ys = ys} xs = record { most = λ p. subst (λ n. tally p ys ≤ n) (sym (tally-append p xs ys)) (by (tally p xs) (tally p ys)) }
  where
    by : (a b : ℕ) → b ≤ a + b
    by a b = omega arith

within : {xs ys zs : List Span} → Sub xs ys → Sub ys zs → Sub xs zs
within {xs = xs} {ys = ys} {zs = zs} a b = record { most = λ p. by (tally p xs) (tally p ys) (tally p zs) (a.most p) (b.most p) }
  where
    by : (a b c : ℕ) → a ≤ b → b ≤ c → a ≤ c
    by a b c h k = omega arith

beside : {xs ys : List Span} (zs : List Span) → Sub xs ys → Sub (xs ++ zs) (ys ++ zs)
beside {xs = xs} {ys = ys} zs a = record { most = λ p. subst (λ n. n ≤ tally p (ys ++ zs)) (sym (tally-append p xs zs)) (subst (λ n. tally p xs + tally p zs ≤ n) (sym (tally-append p ys zs)) (by (tally p xs) (tally p ys) (tally p zs) (a.most p))) }
  where
    by : (a b c : ℕ) → a ≤ b → a + c ≤ b + c
    by a b c h = omega arith

same-as : {xs ys : List Span} → xs ≡ ys → Sub xs ys
same-as {xs = xs} e = subst (λ zs. Sub xs zs) e all_

-- the spans of a node are those of its layer
part : {xs : List Span} {x y : Spanned} → x ≡ y → Sub xs y.inner → Sub xs x.inner
part e s = within s (same-as (ap (λ z. z.inner) (sym e)))

of : {xs ys zs : List Span} → ys ≡ zs → Sub xs zs → Sub xs ys
of e s = within s (same-as (sym e))

-- ## What a node is gives what its layer gives

element-is : {x z : Element5} (y : Open Element5-F) → x ≡ z → roll-Element5 y ≡ z → element_spans x ≡ element_step (layer_element y)
element-is y e r = ap (λ u. element_spans u) (e ∙ sym r) ∙ element-roll y

expr-is : {x z : Expr5} (y : Open Expr5-F) → x ≡ z → roll-Expr5 y ≡ z → expr_spans x ≡ expr_step (layer_expr y)
expr-is y e r = ap (λ u. expr_spans u) (e ∙ sym r) ∙ expr-roll y

for-first-is : {x z : ForFirst5} (y : Open ForFirst5-F) → x ≡ z → roll-ForFirst5 y ≡ z → for_first_spans x ≡ for_first_step (layer_for_first y)
for-first-is y e r = ap (λ u. for_first_spans u) (e ∙ sym r) ∙ for_first-roll y

link-is : {x z : Link5} (y : Open Link5-F) → x ≡ z → roll-Link5 y ≡ z → link_spans x ≡ link_step (layer_link y)
link-is y e r = ap (λ u. link_spans u) (e ∙ sym r) ∙ link-roll y

property-is : {x z : Property5} (y : Open Property5-F) → x ≡ z → roll-Property5 y ≡ z → property_spans x ≡ property_step (layer_property y)
property-is y e r = ap (λ u. property_spans u) (e ∙ sym r) ∙ property-roll y

stat-is : {x z : Stat5} (y : Open Stat5-F) → x ≡ z → roll-Stat5 y ≡ z → stat_spans x ≡ stat_step (layer_stat y)
stat-is y e r = ap (λ u. stat_spans u) (e ∙ sym r) ∙ stat-roll y

block-is : {x : Block5} (span : Span) (body : List Stat5) → x ≡ roll-Block5 (record { span = span; statements = body }) → block_spans x ≡ record { span = span; inner = joined (λ s. s.inner) (map stat_spans body) }
block-is span body e = ap (λ u. block_spans u) e ∙ block-roll (record { span = span; statements = body })

function-is : {x : Function5} (span : Span) (n : Option Identifier5) (ps : List Identifier5) (ss : List Stat5) → x ≡ roll-Function5 (record { span = span; name = n; parameters = ps; body = ss }) → function_spans x ≡ record { span = span; inner = joined (λ s. s.inner) (map stat_spans ss) }
function-is span n ps ss e = ap (λ u. function_spans u) e ∙ function-roll (record { span = span; name = n; parameters = ps; body = ss })

condition-is : {x : Condition5} (span : Span) (test : Expr5) (body : Stat5) → x ≡ roll-Condition5 (record { span = span; test = test; body = body }) → condition_spans x ≡ (expr_spans test).inner ++ counted (stat_spans body)
condition-is span test body e = ap (λ u. condition_spans u) e ∙ condition-roll (record { span = span; test = test; body = body })

-- ## Each node takes a token

function-less : {ts us : List Token5} {x : Function5} → IsFunction Exact ts x us → Less us ts
function-less (g.anonymous span ps ss e s w p d b c) = less (up (via (closing-shorter (statsC c)) (lower (closing-shorter (parametersC d)))))
function-less (g.named span n ps ss e s w i p d b c) = less (via (closing-shorter (statsC c)) (via (lower (closing-shorter (parametersC d))) (down (identifierS i))))

block-less : {inside : Bool} {ts us : List Token5} {x : Block5} → IsBlock Exact inside ts x us → Less us ts
block-less (g.braces span body e s p d) = less (closing-shorter (statsC d))

mutual
  expr-less : {k : Bool} {least : ℕ} {ts us : List Token5} {x : Expr5} → IsExpr Exact k least ts x us → Less us ts
  expr-less (g.bare level h d) = node-less d
  expr-less (g.group p d q) = less (down (exprS d))

  node-less : {k : Bool} {level : ℕ} {ts us : List Token5} {x : Expr5} → IsNode Exact k level ts x us → Less us ts
  node-less (g.this span e s w) = less same
  node-less (g.identifier span name e s w f) = less same
  node-less (g.literal span value e s w) = less same
  node-less (g.array span xs e s p d) = less (closing-shorter (elementsC d))
  node-less (g.object span xs e s p d) = less (closing-shorter (propertiesC d))
  node-less (g.function f e d) = function-less d
  node-less (g.chain calls span x l ls e s q d ds) = below-le (expr-less d) (shorter (linksS ds))
  node-less (g.new_call span c xs e s w d p ds) = less (via (closing-shorter (argumentsC ds)) (down (exprS d)))
  node-less (g.new_bare span c e s w d) = less (shorter (calleeS d))
  node-less (g.update_after span op x e s h d t a) = lower-less (expr-less d)
  node-less (g.update_before span op x e s h t d) = less (shorter (exprS d))
  node-less (g.unary span op x e s t d) = less (shorter (exprS d))
  node-less (g.binary_chain level span x o os e s d ds) = below-le (expr-less d) (shorter (operandsS ds))
  node-less (g.conditional span x y z e s d p a q c) = below-le (expr-less d) (up (via (shorter (exprS c)) (down (exprS a))))
  node-less (g.assignment span op x y e s d t c) = below-le (expr-less d) (up (shorter (exprS c)))
  node-less (g.sequence span x y ys e s d ds) = below-le (expr-less d) (shorter (partsS ds))

condition-less : {inside : Bool} {ts us : List Token5} {x : Condition5} → IsCondition Exact inside ts x us → Less us ts
condition-less (g.condition span test body e s w p x q d) = less (up (via (shorter (statS d)) (down (exprS x))))

if-less : {inside : Bool} {ts us : List Token5} {c : Condition5} {more : List Condition5} {otherwise : Option Stat5} → IsIf Exact inside ts c more otherwise us → Less us ts
if-less (g.no_else d n) = condition-less d
if-less (g.last_else d w n b) = below-le (condition-less d) (up (shorter (statS b)))
if-less (g.else_if d w ds) = below-le (condition-less d) (up (shorter (ifS ds)))

stat-less : {inside top : Bool} {ts us : List Token5} {x : Stat5} → IsStat Exact inside top ts x us → Less us ts
stat-less (g.block b e d) = block-less d
stat-less (g.var span ds e s w d n) = less (down (declaredS d))
stat-less (g.empty span e s p) = less same
stat-less (g.expression span x e s nb nf d n) = lower-less (expr-less d)
stat-less (g.if span c more otherwise e s d) = if-less d
stat-less (g.do_while span body test e s w d ww p x q n) = less (via (lower (down (exprS x))) (lower (down (statS d))))
stat-less (g.while span test body e s w p x q d) = less (up (via (shorter (statS d)) (down (exprS x))))
stat-less (g.for span f x y body e s w p df dt m dc d) = less (up (via (shorter (statS d)) (via (closing-shorter (closedC dc)) (via (down (optionalS dt)) (shorter (forFirstS df))))))
stat-less (g.continue span label e s w d n) = less (down (labelS d))
stat-less (g.break span label e s w d n) = less (down (labelS d))
stat-less (g.return span x e s w d n) = less (down (returnedS d))
stat-less (g.switch span x cs e s w p d q b c) = less (up (via (closing-shorter (casesC c)) (lower (down (exprS d)))))
stat-less (g.labelled span label body e s i p d) = below-le (identifier-less i) (up (shorter (statS d)))
  where
    identifier-less : {ts us : List Token5} {x : Identifier5} → IsIdentifier Exact ts x us → Less us ts
    identifier-less {us = us} i = subst (λ z. Less us z) (sym i.first) (less same)
stat-less (g.throw span x e s w l d n) = less (down (exprS d))
stat-less (g.try_catch span b h e s w d c) = less (via (shorter (catchS c)) (shorter (blockS d)))
stat-less (g.try_finally span b l e s w d f c) = less (via (shorter (blockS c)) (down (blockS d)))
stat-less (g.try_both span b l h e s w d c f k) = less (via (shorter (blockS k)) (via (down (catchS c)) (shorter (blockS d))))
stat-less (g.debugger span e s w n) = less (up same)
stat-less (g.declaration span n ps ss e d) = function-less d

-- ## Spans of nodes

function-span : {ts us : List Token5} {x : Function5} → IsFunction Exact ts x us → (function_spans x).span ≡ across ts us
function-span (g.anonymous span ps ss e s w p d b c) = ap (λ u. u.span) (function-is span None ps ss e) ∙ s
function-span (g.named span n ps ss e s w i p d b c) = ap (λ u. u.span) (function-is span (Some n) ps ss e) ∙ s

block-span : {inside : Bool} {ts us : List Token5} {x : Block5} → IsBlock Exact inside ts x us → (block_spans x).span ≡ across ts us
block-span (g.braces span body e s p d) = ap (λ u. u.span) (block-is span body e) ∙ s

node-span : {k : Bool} {level : ℕ} {ts us : List Token5} {x : Expr5} → IsNode Exact k level ts x us → (expr_spans x).span ≡ across ts us
node-span (g.this span e s w) = ap (λ u. u.span) (expr-is (layer.This span) e (expr.rolls-This span)) ∙ s
node-span (g.identifier span name e s w f) = ap (λ u. u.span) (expr-is (layer.Name span name) e (expr.rolls-Name span name)) ∙ s
node-span (g.literal span value e s w) = ap (λ u. u.span) (expr-is (layer.Literal span value) e (expr.rolls-Literal span value)) ∙ s
node-span (g.array span xs e s p d) = ap (λ u. u.span) (expr-is (layer.ArrayList span xs) e (expr.rolls-ArrayList span xs)) ∙ s
node-span (g.object span xs e s p d) = ap (λ u. u.span) (expr-is (layer.ObjectList span xs) e (expr.rolls-ObjectList span xs)) ∙ s
node-span (g.function f e d) = ap (λ u. u.span) (expr-is (layer.Function f) e (expr.rolls-Function f)) ∙ function-span d
node-span (g.chain calls span x l ls e s q d ds) = ap (λ u. u.span) (expr-is (layer.Chain span x (l ∷ ls)) e (expr.rolls-Chain span x (l ∷ ls))) ∙ s
node-span (g.new_call span c xs e s w d p ds) = ap (λ u. u.span) (expr-is (layer.New span c xs) e (expr.rolls-New span c xs)) ∙ s
node-span (g.new_bare span c e s w d) = ap (λ u. u.span) (expr-is (layer.New span c []) e (expr.rolls-New span c [])) ∙ s
node-span (g.update_after span op x e s h d t a) = ap (λ u. u.span) (expr-is (layer.Update span op x) e (expr.rolls-Update span op x)) ∙ s
node-span (g.update_before span op x e s h t d) = ap (λ u. u.span) (expr-is (layer.Update span op x) e (expr.rolls-Update span op x)) ∙ s
node-span (g.unary span op x e s t d) = ap (λ u. u.span) (expr-is (layer.Unary span op x) e (expr.rolls-Unary span op x)) ∙ s
node-span (g.binary_chain level span x o os e s d ds) = ap (λ u. u.span) (expr-is (layer.Binary span x (o ∷ os)) e (expr.rolls-Binary span x (o ∷ os))) ∙ s
node-span (g.conditional span x y z e s d p a q c) = ap (λ u. u.span) (expr-is (layer.Conditional span x y z) e (expr.rolls-Conditional span x y z)) ∙ s
node-span (g.assignment span op x y e s d t c) = ap (λ u. u.span) (expr-is (layer.Assign span op x y) e (expr.rolls-Assign span op x y)) ∙ s
node-span (g.sequence span x y ys e s d ds) = ap (λ u. u.span) (expr-is (layer.Sequence span x (y ∷ ys)) e (expr.rolls-Sequence span x (y ∷ ys))) ∙ s

stat-span : {inside top : Bool} {ts us : List Token5} {x : Stat5} → IsStat Exact inside top ts x us → (stat_spans x).span ≡ across ts us
stat-span (g.block b e d) = ap (λ u. u.span) (stat-is (layer.Block b) e (stat.rolls-Block b)) ∙ block-span d
stat-span (g.var span ds e s w d n) = ap (λ u. u.span) (stat-is (layer.Var span ds) e (stat.rolls-Var span ds)) ∙ s
stat-span (g.empty span e s p) = ap (λ u. u.span) (stat-is (layer.Empty span) e (stat.rolls-Empty span)) ∙ s
stat-span (g.expression span x e s nb nf d n) = ap (λ u. u.span) (stat-is (layer.Expression span x) e (stat.rolls-Expression span x)) ∙ s
stat-span (g.if span c more None e s d) = ap (λ u. u.span) (stat-is (layer.If span c more None) e (stat.rolls-If span c more None)) ∙ s
stat-span (g.if span c more (Some o) e s d) = ap (λ u. u.span) (stat-is (layer.If span c more (Some o)) e (stat.rolls-If span c more (Some o))) ∙ s
stat-span (g.do_while span body test e s w d ww p x q n) = ap (λ u. u.span) (stat-is (layer.DoWhile span body test) e (stat.rolls-DoWhile span body test)) ∙ s
stat-span (g.while span test body e s w p x q d) = ap (λ u. u.span) (stat-is (layer.While span test body) e (stat.rolls-While span test body)) ∙ s
stat-span (g.for span f None None body e s w p df dt m dc d) = ap (λ u. u.span) (stat-is (layer.For span f None None body) e (stat.rolls-For span f None None body)) ∙ s
stat-span (g.for span f None (Some y) body e s w p df dt m dc d) = ap (λ u. u.span) (stat-is (layer.For span f None (Some y) body) e (stat.rolls-For span f None (Some y) body)) ∙ s
stat-span (g.for span f (Some x) None body e s w p df dt m dc d) = ap (λ u. u.span) (stat-is (layer.For span f (Some x) None body) e (stat.rolls-For span f (Some x) None body)) ∙ s
stat-span (g.for span f (Some x) (Some y) body e s w p df dt m dc d) = ap (λ u. u.span) (stat-is (layer.For span f (Some x) (Some y) body) e (stat.rolls-For span f (Some x) (Some y) body)) ∙ s
stat-span (g.continue span label e s w d n) = ap (λ u. u.span) (stat-is (layer.Continue span label) e (stat.rolls-Continue span label)) ∙ s
stat-span (g.break span label e s w d n) = ap (λ u. u.span) (stat-is (layer.Break span label) e (stat.rolls-Break span label)) ∙ s
stat-span (g.return span None e s w d n) = ap (λ u. u.span) (stat-is (layer.Return span None) e (stat.rolls-Return span None)) ∙ s
stat-span (g.return span (Some x) e s w d n) = ap (λ u. u.span) (stat-is (layer.Return span (Some x)) e (stat.rolls-Return span (Some x))) ∙ s
stat-span (g.switch span x cs e s w p d q b c) = ap (λ u. u.span) (stat-is (layer.Switch span x cs) e (stat.rolls-Switch span x cs)) ∙ s
stat-span (g.labelled span label body e s i p d) = ap (λ u. u.span) (stat-is (layer.Labelled span label body) e (stat.rolls-Labelled span label body)) ∙ s
stat-span (g.throw span x e s w l d n) = ap (λ u. u.span) (stat-is (layer.Throw span x) e (stat.rolls-Throw span x)) ∙ s
stat-span (g.try_catch span b h e s w d c) = ap (λ u. u.span) (stat-is (layer.Try span b (Some h) None) e (stat.rolls-Try span b (Some h) None)) ∙ s
stat-span (g.try_finally span b l e s w d f c) = ap (λ u. u.span) (stat-is (layer.Try span b None (Some l)) e (stat.rolls-Try span b None (Some l))) ∙ s
stat-span (g.try_both span b l h e s w d c f k) = ap (λ u. u.span) (stat-is (layer.Try span b (Some h) (Some l)) e (stat.rolls-Try span b (Some h) (Some l))) ∙ s
stat-span (g.debugger span e s w n) = ap (λ u. u.span) (stat-is (layer.Debugger span) e (stat.rolls-Debugger span)) ∙ s
stat-span (g.declaration span n ps ss e d) = ap (λ u. u.span) (stat-is (layer.FunctionDeclaration (roll-Function5 (record { span = span; name = Some n; parameters = ps; body = ss }))) e (stat.rolls-FunctionDeclaration (roll-Function5 (record { span = span; name = Some n; parameters = ps; body = ss })))) ∙ function-span d

abbrev stat_option : Option Stat5 → Option Spanned
stat_option None = None
stat_option (Some s) = Some (stat_spans s)

abbrev expr_option : Option Expr5 → Option Spanned
expr_option None = None
expr_option (Some x) = Some (expr_spans x)

-- ## Where a node begins, and how many constructs may be open in it

record At (all : List Token5) (most m : ℕ) (ts : List Token5) : Type 0 where
  before : List Token5
  is : all ≡ before ++ ts
  room : most ≤ m + groups 0 before

record Below (all : List Token5) (most : ℕ) (spans : List Span) (ts us : List Token5) : Type 0 where
  below : (q : List Token5) (t : Token5) (b : List Token5) → all ≡ q ++ t ∷ b → length b < length ts → length us ≤ length b → tally (λ s. is_open_at s [] (q ++ t ∷ [])) spans + (groups 0 q + opens_group t.kind) ≤ most

move : {all : List Token5} {most m : ℕ} {ts us : List Token5} → At all most m ts → Segment ts us → At all most m us
move {most = most} {m = m} {us = us} a s = record {
  before = a.before ++ s.tokens;
  is = a.is ∙ ap (λ z. a.before ++ z) s.is ∙ sym (append_assoc a.before s.tokens us);
  room = subst (λ n. most ≤ m + n) (sym (groups-append 0 a.before s.tokens)) (by most m (groups 0 a.before) (groups (groups 0 a.before) s.tokens) a.room (s.grows (groups 0 a.before)));
}
  where
    by : (k m a b : ℕ) → k ≤ m + a → a ≤ b → k ≤ m + b
    by k m a b h l = omega arith

narrow : {all : List Token5} {most : ℕ} {xs ys : List Span} {ts us vs ws : List Token5} → Below all most ys ts us → Sub xs ys → Fewer vs ts → Fewer us ws → Below all most xs vs ws
narrow {most = most} {xs = xs} {ys = ys} {ts = ts} {us = us} {vs = vs} {ws = ws} b s h k = record { below = λ q t c e i j. by (tally (λ z. is_open_at z [] (q ++ t ∷ [])) xs) (tally (λ z. is_open_at z [] (q ++ t ∷ [])) ys) (groups 0 q + opens_group t.kind) most (s.most (λ z. is_open_at z [] (q ++ t ∷ []))) (b.below q t c e (far (length c) (length vs) (length ts) i h.most) (near (length us) (length ws) (length c) k.most j)) }
  where
    by : (a b c k : ℕ) → a ≤ b → b + c ≤ k → a + c ≤ k
    by a b c k h l = omega arith

    far : (a b c : ℕ) → a < b → b ≤ c → a < c
    far a b c h k = omega arith

    near : (a b c : ℕ) → a ≤ b → b ≤ c → a ≤ c
    near a b c h k = omega arith

-- a group opens at a token of the region
opens-by : {all : List Token5} {most : ℕ} (m : ℕ) {X : ℕ → Type 0} {t : Token5} {k : Kind5} {ts vs ws : List Token5} {spans : List Span} → At all most m (t ∷ ts) → t.kind ≡ k → opens_group k ≡ 1 → closes_group k ≡ 0
    → Below all most spans vs ws → Less ts vs → Fewer ws ts → ((j : ℕ) → At all most j ts → X j) → Opens m X
opens-by {all = all} {most = most} m {X = X} {t = t} {ts = ts} {spans = spans} a e o c b h l f =
    by m a.room (b.below a.before t ts a.is h.most l.most)
  where
    opens : opens_group t.kind ≡ 1
    opens = ap opens_group e ∙ o

    closes : closes_group t.kind ≡ 0
    closes = ap closes_group e ∙ c

    none : (k n a b : ℕ) → k ≤ 0 + n → b ≡ 1 → a + (n + b) ≤ k → ⊥
    none k n a b h i j = omega arith

    fewer : (k j n a b : ℕ) → k ≤ suc j + n → a ≡ 1 → b ≡ 0 → k ≤ j + (n + a - b)
    fewer k j n a b h i l = omega arith

    by : (m : ℕ) → most ≤ m + groups 0 a.before → tally (λ z. is_open_at z [] (a.before ++ t ∷ [])) spans + (groups 0 a.before + opens_group t.kind) ≤ most → Opens m X
    by zero h i = absurd (none most (groups 0 a.before) (tally (λ z. is_open_at z [] (a.before ++ t ∷ [])) spans) (opens_group t.kind) h opens i)
    by (suc j) h i = f j (record {
      before = a.before ++ t ∷ [];
      is = a.is ∙ sym (append_assoc a.before (t ∷ []) ts);
      room = subst (λ n. most ≤ j + n) (sym (groups-append 0 a.before (t ∷ []))) (fewer most j (groups 0 a.before) (opens_group t.kind) (closes_group t.kind) h opens closes);
    })

record First (ts : List Token5) : Type 0 where
  token : Token5
  rest : List Token5
  is : ts ≡ token ∷ rest

first-of : (ts us : List Token5) → length us < length ts → First ts
first-of [] us h = absurd (none (length us) h)
  where
    none : (n : ℕ) → n < 0 → ⊥
    none n h = omega arith
first-of (t ∷ ts) us h = record { token = t; rest = ts; is = refl }

-- a construct that counts, from its first token to its last
counted-by : {all : List Token5} {most : ℕ} (m : ℕ) {X : ℕ → Type 0} {ts us : List Token5} → AreInOrder all → At all most m ts → (s : Spanned) → Below all most (counted s) ts us → s.span ≡ across ts us → Segment ts us → Less us ts
    → ((most' j : ℕ) → At all most' j ts → Below all most' s.inner ts us → X j) → Opens m X
counted-by {all = all} {most = most} m {X = X} {ts = ts} {us = us} o a s b e g' h f =
    let t = first-of ts us h.most in
    let i = a.is ∙ ap (λ z. a.before ++ z) t.is in
    by m most a.room b (tally (λ z. is_open_at z [] (a.before ++ t.token ∷ [])) s.inner) (opens_group t.token.kind) (counts a.before t.token t.rest i (near t) (under t) most b)
  where
    near : (t : First ts) → length t.rest < length ts
    near t = subst (λ z. length t.rest < length z) (sym t.is) (one-more (length t.rest))
      where
        one-more : (n : ℕ) → n < suc n
        one-more n = omega arith

    under : (t : First ts) → length us ≤ length t.rest
    under t = fits (length us) (length t.rest) (subst (λ z. length us < length z) t.is h.most)
      where
        fits : (a b : ℕ) → a < suc b → a ≤ b
        fits a b h = omega arith

    counts : (q : List Token5) (t : Token5) (c : List Token5) → all ≡ q ++ t ∷ c → length c < length ts → length us ≤ length c → (k : ℕ) → Below all k (counted s) ts us
        → 1 + tally (λ z. is_open_at z [] (q ++ t ∷ [])) s.inner + (groups 0 q + opens_group t.kind) ≤ k
    counts q t c j l n k b' = subst (λ x. cond x (1 + tally (λ z. is_open_at z [] (q ++ t ∷ [])) s.inner) (tally (λ z. is_open_at z [] (q ++ t ∷ [])) s.inner) + (groups 0 q + opens_group t.kind) ≤ k)
        (open-at all a.before ts us o a.is g' s.span e q t c j l n) (b'.below q t c j l n)

    none : (a b : ℕ) → 1 + a + b ≤ 0 → ⊥
    none a b h = omega arith

    nothing-left : (k n a c : ℕ) → suc k ≤ 0 + n → 1 + a + (n + c) ≤ suc k → ⊥
    nothing-left k n a c h l = omega arith

    fewer : (k j n : ℕ) → suc k ≤ suc j + n → k ≤ j + n
    fewer k j n h = omega arith

    one-less : (a b k : ℕ) → 1 + a + b ≤ suc k → a + b ≤ k
    one-less a b k h = omega arith

    by : (m k : ℕ) → k ≤ m + groups 0 a.before → Below all k (counted s) ts us → (x y : ℕ) → 1 + x + (groups 0 a.before + y) ≤ k → Opens m X
    by m zero r b' x y l = absurd (none x (groups 0 a.before + y) l)
    by zero (suc k) r b' x y l = absurd (nothing-left k (groups 0 a.before) x y r l)
    by (suc j) (suc k) r b' x y l = f k j (record { before = a.before; is = a.is; room = fewer k j (groups 0 a.before) r })
        (record { below = λ q t c i p n. one-less (tally (λ z. is_open_at z [] (q ++ t ∷ [])) s.inner) (groups 0 q + opens_group t.kind) k (counts q t c i p n (suc k) b') })

-- the parts of a for statement, by what holds of each
for-parts : {all : List Token5} {most : ℕ} (m : ℕ) {inside : Bool} {t open_ end : Token5} {ts us vs ws xs : List Token5} {f : ForFirst5} {x y : Option Expr5} {body : Stat5} {z : Spanned} {span : Span} → AreInOrder all → At all most m (t ∷ open_ ∷ ts)
    → Below all most z.inner (t ∷ open_ ∷ ts) xs → z ≡ record { span = span; inner = for_first_spans f ++ maybe (λ u. u.inner) (expr_option x) ++ maybe (λ u. u.inner) (expr_option y) ++ counted (stat_spans body) }
    → g.IsWord (codes "for") t → g.IsMark (codes "(") open_ → (df : IsForFirst Exact ts f us) (dt : IsOptional Exact us x (end ∷ vs)) → g.IsMark (codes ";") end → (dc : IsClosed Exact vs y ws) (d : IsStat Exact inside false ws body xs)
    → ((j : ℕ) → At all most j ts → Below all most (for_first_spans f) ts us → ForFirstWithin df j)
    → ((j : ℕ) → At all most j us → Below all most (maybe (λ u. u.inner) (expr_option x)) us (end ∷ vs) → OptionalWithin dt j)
    → ((j : ℕ) → At all most j vs → Below all most (maybe (λ u. u.inner) (expr_option y)) vs ws → ClosedWithin dc j)
    → ((n j : ℕ) → At all n j ws → Below all n (stat_spans body).inner ws xs → StatWithin d j)
    → Opens m (λ j. ForFirstWithin df j × OptionalWithin dt j × ClosedWithin dc j) × Opens m (λ j. StatWithin d j)
for-parts m {body = body} o a b i w p df dt n dc d first test update inner =
    let a' = move a (by_kind w refl) in
    let head = via (closing-shorter (closedC dc)) (via (down (optionalS dt)) (shorter (forFirstS df))) in (
      opens-by m a' p refl refl b (less (up same)) (via (shorter (statS d)) head) (λ j c. (
        first j c (narrow b (part i (within (left _) (within (left _) (left _)))) (up (up same)) (via (shorter (statS d)) (via (closing-shorter (closedC dc)) (down (optionalS dt))))),
        test j (move c (forFirstS df)) (narrow b (part i (within (right _) (within (left _) (left _)))) (up (up (shorter (forFirstS df)))) (up (via (shorter (statS d)) (closing-shorter (closedC dc))))),
        update j (move (move (move c (forFirstS df)) (optionalS dt)) (by_kind n refl)) (narrow b (part i (within (right _) (left _))) (up (up (via (down (optionalS dt)) (shorter (forFirstS df))))) (shorter (statS d))),
      )),
      counted-by m o (move a' (group p refl refl (ends_in (join (forFirstS df) (join (optionalS dt) (by_kind n refl))) (closedC dc)))) (stat_spans body) (narrow b (part i (right _)) (up (up head)) same) (stat-span d) (statS d) (stat-less d) inner,
    )

-- ## Each relation

module _ (all : List Token5) (o : AreInOrder all) where
  mutual
    exprW : {most : ℕ} (m : ℕ) {k : Bool} {least : ℕ} {ts us : List Token5} {x : Expr5} → At all most m ts → Below all most (expr_spans x).inner ts us → (d : IsExpr Exact k least ts x us) → ExprWithin d m
    exprW m a b (g.bare level h d) = nodeW m a b d
    exprW m a b (g.group p d q) = opens-by m a p refl refl b (less same) (down (exprS d)) (λ j c. exprW j c (narrow b all_ (up same) (up same)) d)

    exprC : {most : ℕ} (m : ℕ) {k : Bool} {least : ℕ} {ts us : List Token5} {x : Expr5} → At all most m ts → Below all most (counted (expr_spans x)) ts us → (d : IsExpr Exact k least ts x us) → Opens m (λ j. ExprWithin d j)
    exprC m {x = x} a b (g.bare level h d) = counted-by m o a (expr_spans x) b (node-span d) (nodeS d) (node-less d) (λ n j c e. nodeW j c e d)
    exprC m a b (g.group p d q) = opens-by m a p refl refl b (less same) (down (exprS d)) (λ j c. exprC j c (narrow b all_ (up same) (up same)) d)

    nodeW : {most : ℕ} (m : ℕ) {k : Bool} {level : ℕ} {ts us : List Token5} {x : Expr5} → At all most m ts → Below all most (expr_spans x).inner ts us → (d : IsNode Exact k level ts x us) → NodeWithin d m
    nodeW m a b (g.this span e s w) = tt
    nodeW m a b (g.identifier span name e s w f) = tt
    nodeW m a b (g.literal span value e s w) = tt
    nodeW m a b (g.array span xs e s p d) = let q = expr-is (layer.ArrayList span xs) e (expr.rolls-ArrayList span xs) in opens-by m a p refl refl b (less same) (closing-shorter (elementsC d)) (λ j c. elementsW j c (narrow b (part q all_) (up same) same) d)
    nodeW m a b (g.object span xs e s p d) = let q = expr-is (layer.ObjectList span xs) e (expr.rolls-ObjectList span xs) in opens-by m a p refl refl b (less same) (closing-shorter (propertiesC d)) (λ j c. propertiesW j c (narrow b (part q all_) (up same) same) d)
    nodeW m a b (g.function f e d) = let q = expr-is (layer.Function f) e (expr.rolls-Function f) in functionW m a (narrow b (part q all_) same same) d
    nodeW m a b (g.chain calls span x l ls e s s' d ds) = let q = expr-is (layer.Chain span x (l ∷ ls)) e (expr.rolls-Chain span x (l ∷ ls)) in
        (exprW m a (narrow b (part q (left _)) same (shorter (linksS ds))) d, linksW m (move a (exprS d)) (narrow b (part q (right _)) (shorter (exprS d)) same) ds)
    nodeW m a b (g.new_call span x xs e s w d p ds) = let q = expr-is (layer.New span x xs) e (expr.rolls-New span x xs) in let a' = move a (by_kind w refl) in (
      exprC m a' (narrow b (part q (left _)) (up same) (up (closing-shorter (argumentsC ds)))) d,
      opens-by m (move a' (exprS d)) p refl refl b (less (down (exprS d))) (closing-shorter (argumentsC ds)) (λ j c. argumentsW j c (narrow b (part q (right (counted (expr_spans x)))) (up (down (exprS d))) same) ds),
    )
    nodeW m a b (g.new_bare span x e s w d) = let q = expr-is (layer.New span x []) e (expr.rolls-New span x []) in calleeC m (move a (by_kind w refl)) (narrow b (part q (left _)) (up same) same) d
    nodeW m a b (g.update_after span op x e s h d t n) = let q = expr-is (layer.Update span op x) e (expr.rolls-Update span op x) in
        exprW m a (narrow b (part q (same-as (sym (ap (λ z. cond z (counted (expr_spans x)) (expr_spans x).inner) h)))) same (up same)) d
    nodeW m a b (g.update_before span op x e s h t d) = let q = expr-is (layer.Update span op x) e (expr.rolls-Update span op x) in
        exprC m (move a (by_kind t (update-closes op))) (narrow b (part q (same-as (sym (ap (λ z. cond z (counted (expr_spans x)) (expr_spans x).inner) h)))) (up same) same) d
    nodeW m a b (g.unary span op x e s t d) = let q = expr-is (layer.Unary span op x) e (expr.rolls-Unary span op x) in exprC m (move a (by_kind t (unary-closes op))) (narrow b (part q all_) (up same) same) d
    nodeW m a b (g.binary_chain level span x y ys e s d ds) = let q = expr-is (layer.Binary span x (y ∷ ys)) e (expr.rolls-Binary span x (y ∷ ys)) in
        (exprW m a (narrow b (part q (left _)) same (shorter (operandsS ds))) d, operandsW m (move a (exprS d)) (narrow b (part q (right _)) (shorter (exprS d)) same) ds)
    nodeW m a b (g.conditional span x y z e s d p ya r na) = let q = expr-is (layer.Conditional span x y z) e (expr.rolls-Conditional span x y z) in
        let a' = move (move a (exprS d)) (by_kind p refl) in (
          exprW m a (narrow b (part q (within (left _) (left _))) same (up (via (shorter (exprS na)) (down (exprS ya))))) d,
          exprC m a' (narrow b (part q (within (right _) (left _))) (down (exprS d)) (up (shorter (exprS na)))) ya,
          exprC m (move (move a' (exprS ya)) (by_kind r refl)) (narrow b (part q (right _)) (via (down (exprS ya)) (down (exprS d))) same) na,
        )
    nodeW m a b (g.assignment span op x y e s d t c) = let q = expr-is (layer.Assign span op x y) e (expr.rolls-Assign span op x y) in
        (exprW m a (narrow b (part q (left _)) same (up (shorter (exprS c)))) d, exprC m (move (move a (exprS d)) (by_kind t (assign-closes op))) (narrow b (part q (right _)) (down (exprS d)) same) c)
    nodeW m a b (g.sequence span x y ys e s d ds) = let q = expr-is (layer.Sequence span x (y ∷ ys)) e (expr.rolls-Sequence span x (y ∷ ys)) in
        (exprW m a (narrow b (part q (left _)) same (shorter (partsS ds))) d, partsW m (move a (exprS d)) (narrow b (part q (right _)) (shorter (exprS d)) same) ds)

    calleeC : {most : ℕ} (m : ℕ) {ts us : List Token5} {x : Expr5} → At all most m ts → Below all most (counted (expr_spans x)) ts us → (d : IsNewCallee Exact ts x us) → Opens m (λ j. NewCalleeWithin d j)
    calleeC m {x = x} a b (g.another_new d) = counted-by m o a (expr_spans x) b (node-span d) (nodeS d) (node-less d) (λ n j c e. nodeW j c e d)
    calleeC m a b (g.member d) = exprC m a b d

    elementsW : {most : ℕ} (m : ℕ) {ts us : List Token5} {xs : List Element5} → At all most m ts → Below all most (all_of (map element_spans xs)) ts us → (d : AreElements Exact ts xs us) → ElementsWithin d m
    elementsW m a b (g.no_element p) = tt
    elementsW m a b (g.hole p d) = elementsW m (move a (by_kind p refl)) (narrow b (right _) (up same) same) d
    elementsW m a b (g.last_element {x = x} d p) = exprW m a (narrow b (within (of (element-is (layer.Element x) refl (element.rolls-Element x)) all_) (left _)) same (up same)) d
    elementsW m a b (g.next_element {x = x} d p ds) = (
      exprW m a (narrow b (within (of (element-is (layer.Element x) refl (element.rolls-Element x)) all_) (left _)) same (up (closing-shorter (elementsC ds)))) d,
      elementsW m (move (move a (exprS d)) (by_kind p refl)) (narrow b (right _) (down (exprS d)) same) ds,
    )

    propertiesW : {most : ℕ} (m : ℕ) {ts us : List Token5} {xs : List Property5} → At all most m ts → Below all most (all_of (map property_spans xs)) ts us → (d : AreProperties Exact ts xs us) → PropertiesWithin d m
    propertiesW m a b (g.no_property p) = tt
    propertiesW m a b (g.last_property d p) = propertyW m a (narrow b (left _) same (up same)) d
    propertiesW m a b (g.next_property d p ds) =
        (propertyW m a (narrow b (left _) same (up (closing-shorter (propertiesC ds)))) d, propertiesW m (move (move a (propertyS d)) (by_kind p refl)) (narrow b (right _) (down (propertyS d)) same) ds)

    propertyW : {most : ℕ} (m : ℕ) {ts us : List Token5} {x : Property5} → At all most m ts → Below all most (property_spans x) ts us → (d : IsProperty Exact ts x us) → PropertyWithin d m
    propertyW m a b (g.plain span k x e s d p y) = exprW m (move (move a (keyS d)) (by_kind p refl)) (narrow b (of (property-is (layer.Plain span k x) e (property.rolls-Plain span k x)) all_) (down (keyS d)) same) y
    propertyW m a b (g.getter span k f e s w d c) = accessorW m (move (move a (by_kind w refl)) (keyS d)) (narrow b (of (property-is (layer.Getter span k f) e (property.rolls-Getter span k f)) all_) (up (shorter (keyS d))) same) c
    propertyW m a b (g.setter span k f e s w d c) = accessorW m (move (move a (by_kind w refl)) (keyS d)) (narrow b (of (property-is (layer.Setter span k f) e (property.rolls-Setter span k f)) all_) (up (shorter (keyS d))) same) c

    accessorW : {most : ℕ} (m : ℕ) {setter : Bool} {ts us : List Token5} {x : Function5} → At all most m ts → Below all most (function_spans x).inner ts us → (d : IsAccessor Exact setter ts x us) → AccessorWithin d m
    accessorW m a b (g.no_value span ss e s p q w d) =
        let i = function-is span None [] ss e in (
          opens-by m a p refl refl b (less same) (up (up (closing-shorter (statsC d)))) (λ j c. tt),
          opens-by m (move a (group p refl refl (close q refl))) w refl refl b (less (up (up same))) (closing-shorter (statsC d)) (λ j c. statsW j c (narrow b (part i all_) (up (up (up same))) same) d),
        )
    accessorW m a b (g.one_value span x ss e s p n q w d) =
        let i = function-is span None (x ∷ []) ss e in (
          opens-by m a p refl refl b (less same) (via (closing-shorter (statsC d)) (lower (down (identifierS n)))) (λ j c. tt),
          opens-by m (move a (group p refl refl (ends_in (identifierS n) (close q refl)))) w refl refl b (less (lower (down (identifierS n)))) (closing-shorter (statsC d)) (λ j c. statsW j c (narrow b (part i all_) (up (lower (down (identifierS n)))) same) d),
        )

    linksW : {most : ℕ} (m : ℕ) {calls : Bool} {ts us : List Token5} {xs : List Link5} → At all most m ts → Below all most (all_of (map link_spans xs)) ts us → (d : AreLinks Exact calls ts xs us) → LinksWithin d m
    linksW m a b g.no_link = tt
    linksW m a b (g.member_link span name e s p w d) = linksW m (move (move a (by_kind p refl)) (by_kind w refl)) (narrow b (right _) (up (up same)) same) d
    linksW m a b (g.index_link span x e s p n q d) =
        let i = link-is (layer.Index span x) e (link.rolls-Index span x) in (
          opens-by m a p refl refl b (less same) (via (shorter (linksS d)) (down (exprS n))) (λ j c. exprW j c (narrow b (within (of i all_) (left _)) (up same) (up (shorter (linksS d)))) n),
          linksW m (move a (group p refl refl (ends_in (exprS n) (close q refl)))) (narrow b (right _) (up (down (exprS n))) same) d,
        )
    linksW m a b (g.call_link span xs site e s p n d) =
        let i = link-is (layer.Call span xs site) e (link.rolls-Call span xs site) in (
          opens-by m a p refl refl b (less same) (via (shorter (linksS d)) (closing-shorter (argumentsC n))) (λ j c. argumentsW j c (narrow b (within (of i all_) (left _)) (up same) (shorter (linksS d))) n),
          linksW m (move a (group p refl refl (argumentsC n))) (narrow b (right _) (up (closing-shorter (argumentsC n))) same) d,
        )

    argumentsW : {most : ℕ} (m : ℕ) {ts us : List Token5} {xs : List Expr5} → At all most m ts → Below all most (joined (λ x. x.inner) (map expr_spans xs)) ts us → (d : AreArguments Exact ts xs us) → ArgumentsWithin d m
    argumentsW m a b (g.no_argument p) = tt
    argumentsW m a b (g.last_argument d p) = exprW m a (narrow b (left _) same (up same)) d
    argumentsW m a b (g.next_argument d p ds) =
        (exprW m a (narrow b (left _) same (up (closing-shorter (argumentsC ds)))) d, argumentsW m (move (move a (exprS d)) (by_kind p refl)) (narrow b (right _) (down (exprS d)) same) ds)

    operandsW : {most : ℕ} (m : ℕ) {k : Bool} {level : ℕ} {ts us : List Token5} {xs : List Operand5} → At all most m ts → Below all most (all_of (map operand_spans xs)) ts us → (d : AreOperands Exact k level ts xs us) → OperandsWithin d m
    operandsW m a b g.no_operand = tt
    operandsW m a b (g.next_operand op x e l k t d ds) =
        let i = ap (λ u. operand_spans u) e ∙ operand-roll (record { operator = op; value = x }) in
        let a' = move a (by_kind t (binary-closes op)) in
        (exprW m a' (narrow b (within (of i all_) (left _)) (up same) (shorter (operandsS ds))) d, operandsW m (move a' (exprS d)) (narrow b (right _) (up (shorter (exprS d))) same) ds)

    partsW : {most : ℕ} (m : ℕ) {k : Bool} {ts us : List Token5} {xs : List Expr5} → At all most m ts → Below all most (joined (λ x. x.inner) (map expr_spans xs)) ts us → (d : AreParts Exact k ts xs us) → PartsWithin d m
    partsW m a b g.no_part = tt
    partsW m a b (g.next_part p d ds) =
        let a' = move a (by_kind p refl) in
        (exprW m a' (narrow b (left _) (up same) (shorter (partsS ds))) d, partsW m (move a' (exprS d)) (narrow b (right _) (up (shorter (exprS d))) same) ds)

    functionW : {most : ℕ} (m : ℕ) {ts us : List Token5} {x : Function5} → At all most m ts → Below all most (function_spans x).inner ts us → (d : IsFunction Exact ts x us) → FunctionWithin d m
    functionW m a b (g.anonymous span ps ss e s w p d n c) =
        let i = function-is span None ps ss e in
        let a' = move a (by_kind w refl) in (
          opens-by m a' p refl refl b (less (up same)) (via (closing-shorter (statsC c)) (lower (closing-shorter (parametersC d)))) (λ j z. tt),
          opens-by m (move a' (group p refl refl (parametersC d))) n refl refl b (less (up (lower (closing-shorter (parametersC d))))) (closing-shorter (statsC c)) (λ j z. statsW j z (narrow b (part i all_) (up (up (lower (closing-shorter (parametersC d))))) same) c),
        )
    functionW m a b (g.named span n ps ss e s w q p d r c) =
        let i = function-is span (Some n) ps ss e in
        let a' = move (move a (by_kind w refl)) (identifierS q) in (
          opens-by m a' p refl refl b (less (down (identifierS q))) (via (closing-shorter (statsC c)) (lower (closing-shorter (parametersC d)))) (λ j z. tt),
          opens-by m (move a' (group p refl refl (parametersC d))) r refl refl b (less (via (lower (closing-shorter (parametersC d))) (down (identifierS q)))) (closing-shorter (statsC c))
              (λ j z. statsW j z (narrow b (part i all_) (up (via (lower (closing-shorter (parametersC d))) (down (identifierS q)))) same) c),
        )

    statsW : {most : ℕ} (m : ℕ) {inside top : Bool} {ts us : List Token5} {xs : List Stat5} → At all most m ts → Below all most (joined (λ s. s.inner) (map stat_spans xs)) ts us → (d : AreStats Exact inside top ts xs us) → StatsWithin d m
    statsW m a b (g.no_stat p) = tt
    statsW m a b (g.next_stat d ds) = (statW m a (narrow b (left _) same (closing-shorter (statsC ds))) d, statsW m (move a (statS d)) (narrow b (right _) (shorter (statS d)) same) ds)

    statW : {most : ℕ} (m : ℕ) {inside top : Bool} {ts us : List Token5} {x : Stat5} → At all most m ts → Below all most (stat_spans x).inner ts us → (d : IsStat Exact inside top ts x us) → StatWithin d m
    statW m a b (g.block n e d) = blockW m a (narrow b (part (stat-is (layer.Block n) e (stat.rolls-Block n)) all_) same same) d
    statW m a b (g.var span ds e s w d n) = declaredW m (move a (by_kind w refl)) (narrow b (part (stat-is (layer.Var span ds) e (stat.rolls-Var span ds)) all_) (up same) (up same)) d
    statW m a b (g.empty span e s p) = tt
    statW m a b (g.expression span x e s nb nf d n) = exprW m a (narrow b (part (stat-is (layer.Expression span x) e (stat.rolls-Expression span x)) all_) same (up same)) d
    statW m a b (g.if span c more None e s d) = ifW m a (narrow b (part (stat-is (layer.If span c more None) e (stat.rolls-If span c more None)) all_) same same) d
    statW m a b (g.if span c more (Some y) e s d) = ifW m a (narrow b (part (stat-is (layer.If span c more (Some y)) e (stat.rolls-If span c more (Some y))) all_) same same) d
    statW m a b (g.do_while span body test e s w d ww p x q n) =
        let i = stat-is (layer.DoWhile span body test) e (stat.rolls-DoWhile span body test) in
        let a' = move a (by_kind w refl) in (
          counted-by m o a' (stat_spans body) (narrow b (part i (left _)) (up same) (up (up (lower (down (exprS x)))))) (stat-span d) (statS d) (stat-less d) (λ n j c e. statW j c e d),
          opens-by m (move (move a' (statS d)) (by_kind ww refl)) p refl refl b (less (lower (down (statS d)))) (lower (down (exprS x))) (λ j c. exprW j c (narrow b (part i (right (counted (stat_spans body)))) (up (lower (down (statS d)))) (up (up same))) x),
        )
    statW m a b (g.while span test body e s w p x q d) =
        let i = stat-is (layer.While span test body) e (stat.rolls-While span test body) in
        let a' = move a (by_kind w refl) in (
          opens-by m a' p refl refl b (less (up same)) (via (shorter (statS d)) (down (exprS x))) (λ j c. exprW j c (narrow b (part i (left _)) (up (up same)) (up (shorter (statS d)))) x),
          counted-by m o (move a' (group p refl refl (ends_in (exprS x) (close q refl)))) (stat_spans body) (narrow b (part i (right _)) (up (up (down (exprS x)))) same) (stat-span d) (statS d) (stat-less d) (λ n j c e. statW j c e d),
        )
    statW m a b (g.for span f None None body e s w p df dt n dc d) = for-parts m o a b (stat-is (layer.For span f None None body) e (stat.rolls-For span f None None body)) w p df dt n dc d (λ j c e. forFirstW j c e df) (λ j c e. optionalW j c e dt) (λ j c e. closedW j c e dc) (λ n j c e. statW j c e d)
    statW m a b (g.for span f None (Some y) body e s w p df dt n dc d) = for-parts m o a b (stat-is (layer.For span f None (Some y) body) e (stat.rolls-For span f None (Some y) body)) w p df dt n dc d (λ j c e. forFirstW j c e df) (λ j c e. optionalW j c e dt) (λ j c e. closedW j c e dc) (λ n j c e. statW j c e d)
    statW m a b (g.for span f (Some x) None body e s w p df dt n dc d) = for-parts m o a b (stat-is (layer.For span f (Some x) None body) e (stat.rolls-For span f (Some x) None body)) w p df dt n dc d (λ j c e. forFirstW j c e df) (λ j c e. optionalW j c e dt) (λ j c e. closedW j c e dc) (λ n j c e. statW j c e d)
    statW m a b (g.for span f (Some x) (Some y) body e s w p df dt n dc d) = for-parts m o a b (stat-is (layer.For span f (Some x) (Some y) body) e (stat.rolls-For span f (Some x) (Some y) body)) w p df dt n dc d (λ j c e. forFirstW j c e df) (λ j c e. optionalW j c e dt) (λ j c e. closedW j c e dc) (λ n j c e. statW j c e d)
    statW m a b (g.continue span label e s w d n) = tt
    statW m a b (g.break span label e s w d n) = tt
    statW m a b (g.return span None e s w d n) = returnedW m (move a (by_kind w refl)) (narrow b (part (stat-is (layer.Return span None) e (stat.rolls-Return span None)) all_) (up same) (up same)) d
    statW m a b (g.return span (Some x) e s w d n) = returnedW m (move a (by_kind w refl)) (narrow b (part (stat-is (layer.Return span (Some x)) e (stat.rolls-Return span (Some x))) all_) (up same) (up same)) d
    statW m a b (g.switch span x cs e s w p d q r c) =
        let i = stat-is (layer.Switch span x cs) e (stat.rolls-Switch span x cs) in
        let a' = move a (by_kind w refl) in (
          opens-by m a' p refl refl b (less (up same)) (via (closing-shorter (casesC c)) (lower (down (exprS d)))) (λ j z. exprW j z (narrow b (part i (left _)) (up (up same)) (up (up (closing-shorter (casesC c))))) d),
          opens-by m (move a' (group p refl refl (ends_in (exprS d) (close q refl)))) r refl refl b (less (up (lower (down (exprS d))))) (closing-shorter (casesC c)) (λ j z. casesW j z (narrow b (part i (right _)) (up (up (lower (down (exprS d))))) same) c),
        )
    statW m a b (g.labelled span label body e s n p d) =
        let i = stat-is (layer.Labelled span label body) e (stat.rolls-Labelled span label body) in
        counted-by m o (move (move a (identifierS n)) (by_kind p refl)) (stat_spans body) (narrow b (part i all_) (down (identifierS n)) same) (stat-span d) (statS d) (stat-less d) (λ n j c e. statW j c e d)
    statW m a b (g.throw span x e s w l d n) = exprW m (move a (by_kind w refl)) (narrow b (part (stat-is (layer.Throw span x) e (stat.rolls-Throw span x)) all_) (up same) (up same)) d
    statW m a b (g.try_catch span n h e s w d c) =
        let i = stat-is (layer.Try span n (Some h) None) e (stat.rolls-Try span n (Some h) None) in
        let a' = move a (by_kind w refl) in
        (blockW m a' (narrow b (part i (within (left _) (left _))) (up same) (shorter (catchS c))) d, catchW m (move a' (blockS d)) (narrow b (part i (within (right _) (left _))) (up (shorter (blockS d))) same) c)
    statW m a b (g.try_finally span n l e s w d f c) =
        let i = stat-is (layer.Try span n None (Some l)) e (stat.rolls-Try span n None (Some l)) in
        let a' = move a (by_kind w refl) in
        (blockW m a' (narrow b (part i (within (left _) (left _))) (up same) (up (shorter (blockS c)))) d, blockW m (move (move a' (blockS d)) (by_kind f refl)) (narrow b (part i (right _)) (up (down (blockS d))) same) c)
    statW m a b (g.try_both span n l h e s w d c f k) =
        let i = stat-is (layer.Try span n (Some h) (Some l)) e (stat.rolls-Try span n (Some h) (Some l)) in
        let a' = move a (by_kind w refl) in
        let a'' = move a' (blockS d) in (
          blockW m a' (narrow b (part i (within (left _) (left _))) (up same) (via (up (shorter (blockS k))) (shorter (catchS c)))) d,
          catchW m a'' (narrow b (part i (within (right _) (left _))) (up (shorter (blockS d))) (up (shorter (blockS k)))) c,
          blockW m (move (move a'' (catchS c)) (by_kind f refl)) (narrow b (part i (right _)) (up (via (down (catchS c)) (shorter (blockS d)))) same) k,
        )
    statW m a b (g.debugger span e s w n) = tt
    statW m a b (g.declaration span n ps ss e d) =
        let f = roll-Function5 (record { span = span; name = Some n; parameters = ps; body = ss }) in
        functionW m a (narrow b (part (stat-is (layer.FunctionDeclaration f) e (stat.rolls-FunctionDeclaration f)) all_) same same) d

    blockW : {most : ℕ} (m : ℕ) {inside : Bool} {ts us : List Token5} {x : Block5} → At all most m ts → Below all most (block_spans x).inner ts us → (d : IsBlock Exact inside ts x us) → BlockWithin d m
    blockW m a b (g.braces span body e s p d) = opens-by m a p refl refl b (less same) (closing-shorter (statsC d)) (λ j c. statsW j c (narrow b (part (block-is span body e) all_) (up same) same) d)

    declaredW : {most : ℕ} (m : ℕ) {k : Bool} {ts us : List Token5} {xs : List Declared5} → At all most m ts → Below all most (all_of (map declared_spans xs)) ts us → (d : AreDeclared Exact k ts xs us) → DeclaredListWithin d m
    declaredW m a b (g.last_declared d) = oneDeclaredW m a (narrow b (left _) same same) d
    declaredW m a b (g.next_declared d p ds) =
        (oneDeclaredW m a (narrow b (left _) same (up (shorter (declaredS ds)))) d, declaredW m (move (move a (oneDeclaredS d)) (by_kind p refl)) (narrow b (right _) (down (oneDeclaredS d)) same) ds)

    oneDeclaredW : {most : ℕ} (m : ℕ) {k : Bool} {ts us : List Token5} {x : Declared5} → At all most m ts → Below all most (declared_spans x) ts us → (d : IsDeclared Exact k ts x us) → DeclaredWithin d m
    oneDeclaredW m a b (g.uninitialized span n e s i) = tt
    oneDeclaredW m a b (g.initialized span n x e s i p d) =
        let q = ap (λ u. declared_spans u) e ∙ declared-roll (record { span = span; name = n; init = Some x }) in
        exprC m (move (move a (identifierS i)) (by_kind p refl)) (narrow b (of q all_) (down (identifierS i)) same) d

    ifW : {most : ℕ} (m : ℕ) {inside : Bool} {ts us : List Token5} {c : Condition5} {more : List Condition5} {otherwise : Option Stat5} → At all most m ts
        → Below all most (condition_spans c ++ all_of (map condition_spans more) ++ maybe counted (stat_option otherwise)) ts us → (d : IsIf Exact inside ts c more otherwise us) → IfWithin d m
    ifW m a b (g.no_else d n) = conditionW m a (narrow b (within (left _) (left _)) same same) d
    ifW m a b (g.last_else {s = y} d w n r) =
        (conditionW m a (narrow b (within (left _) (left _)) same (up (shorter (statS r)))) d, counted-by m o (move (move a (conditionS d)) (by_kind w refl)) (stat_spans y) (narrow b (right _) (down (conditionS d)) same) (stat-span r) (statS r) (stat-less r) (λ n j c e. statW j c e r))
    ifW m a b (g.else_if {c = c} {d = c'} {more = more} {otherwise = otherwise} d w ds) = (
      conditionW m a (narrow b (within (left _) (left _)) same (up (shorter (ifS ds)))) d,
      ifW m (move (move a (conditionS d)) (by_kind w refl)) (narrow b (beside {xs = condition_spans c' ++ all_of (map condition_spans more)} (maybe counted (stat_option otherwise)) (right (condition_spans c))) (down (conditionS d)) same) ds,
    )

    conditionW : {most : ℕ} (m : ℕ) {inside : Bool} {ts us : List Token5} {x : Condition5} → At all most m ts → Below all most (condition_spans x) ts us → (d : IsCondition Exact inside ts x us) → ConditionWithin d m
    conditionW m a b (g.condition span test body e s w p x q d) =
        let i = condition-is span test body e in
        let a' = move a (by_kind w refl) in (
          opens-by m a' p refl refl b (less (up same)) (via (shorter (statS d)) (down (exprS x))) (λ j c. exprW j c (narrow b (of i (left _)) (up (up same)) (up (shorter (statS d)))) x),
          counted-by m o (move a' (group p refl refl (ends_in (exprS x) (close q refl)))) (stat_spans body) (narrow b (of i (right _)) (up (up (down (exprS x)))) same) (stat-span d) (statS d) (stat-less d) (λ n j c e. statW j c e d),
        )

    forFirstW : {most : ℕ} (m : ℕ) {ts us : List Token5} {x : ForFirst5} → At all most m ts → Below all most (for_first_spans x) ts us → (d : IsForFirst Exact ts x us) → ForFirstWithin d m
    forFirstW m a b (g.nothing_first p) = tt
    forFirstW m a b (g.var_first ds e w d p) = declaredW m (move a (by_kind w refl)) (narrow b (of (for-first-is (layer.FirstVar ds) e (for_first.rolls-FirstVar ds)) all_) (up same) (up same)) d
    forFirstW m a b (g.expression_first x e d p) = exprW m a (narrow b (of (for-first-is (layer.FirstExpression x) e (for_first.rolls-FirstExpression x)) all_) same (up same)) d

    optionalW : {most : ℕ} (m : ℕ) {ts us : List Token5} {x : Option Expr5} → At all most m ts → Below all most (maybe (λ z. z.inner) (expr_option x)) ts us → (d : IsOptional Exact ts x us) → OptionalWithin d m
    optionalW m a b g.absent = tt
    optionalW m a b (g.present d) = exprW m a b d

    closedW : {most : ℕ} (m : ℕ) {ts us : List Token5} {x : Option Expr5} → At all most m ts → Below all most (maybe (λ z. z.inner) (expr_option x)) ts us → (d : IsClosed Exact ts x us) → ClosedWithin d m
    closedW m a b (g.closed d p) = optionalW m a (narrow b all_ same (up same)) d

    returnedW : {most : ℕ} (m : ℕ) {ts us : List Token5} {x : Option Expr5} → At all most m ts → Below all most (maybe (λ z. z.inner) (expr_option x)) ts us → (d : IsReturned Exact ts x us) → ReturnedWithin d m
    returnedW m a b g.no_value_returned = tt
    returnedW m a b (g.value_returned l d) = exprW m a b d

    casesW : {most : ℕ} (m : ℕ) {inside may : Bool} {ts us : List Token5} {xs : List Case5} → At all most m ts → Below all most (all_of (map case_spans xs)) ts us → (d : AreCases Exact inside may ts xs us) → CasesWithin d m
    casesW m a b (g.no_case p) = tt
    casesW m a b (g.case_clause span x body e s w d p r c) =
        let i = ap (λ u. case_spans u) e ∙ case-roll (record { span = span; test = Some x; body = body }) in
        let a' = move a (by_kind w refl) in
        let a'' = move (move a' (exprS d)) (by_kind p refl) in (
          exprW m a' (narrow b (within (of i (left _)) (left _)) (up same) (up (via (closing-shorter (casesC c)) (shorter (inCaseS r))))) d,
          inCaseW m a'' (narrow b (within (of i (right _)) (left _)) (up (down (exprS d))) (closing-shorter (casesC c))) r,
          casesW m (move a'' (inCaseS r)) (narrow b (right _) (up (via (shorter (inCaseS r)) (down (exprS d)))) same) c,
        )
    casesW m a b (g.default_clause span body e s w p r c) =
        let i = ap (λ u. case_spans u) e ∙ case-roll (record { span = span; test = None; body = body }) in
        let a' = move (move a (by_kind w refl)) (by_kind p refl) in (
          inCaseW m a' (narrow b (within (of i all_) (left _)) (up (up same)) (closing-shorter (casesC c))) r,
          casesW m (move a' (inCaseS r)) (narrow b (right _) (up (up (shorter (inCaseS r)))) same) c,
        )

    inCaseW : {most : ℕ} (m : ℕ) {inside : Bool} {ts us : List Token5} {xs : List Stat5} → At all most m ts → Below all most (joined (λ s. s.inner) (map stat_spans xs)) ts us → (d : AreInCase Exact inside ts xs us) → InCaseWithin d m
    inCaseW m a b g.no_more_in_case = tt
    inCaseW m a b (g.next_in_case d ds) = (statW m a (narrow b (left _) same (shorter (inCaseS ds))) d, inCaseW m (move a (statS d)) (narrow b (right _) (shorter (statS d)) same) ds)

    catchW : {most : ℕ} (m : ℕ) {inside : Bool} {ts us : List Token5} {x : Catch5} → At all most m ts → Below all most (catch_spans x) ts us → (d : IsCatch Exact inside ts x us) → CatchWithin d m
    catchW m a b (g.handler span n c e s w p i q d) =
        let k = ap (λ u. catch_spans u) e ∙ catch-roll (record { span = span; parameter = n; body = c }) in
        let a' = move a (by_kind w refl) in (
          opens-by m a' p refl refl b (less (up same)) (via (shorter (blockS d)) (down (identifierS i))) (λ j z. tt),
          blockW m (move a' (group p refl refl (ends_in (identifierS i) (close q refl)))) (narrow b (of k all_) (up (up (down (identifierS i)))) same) d,
        )

  programW : {most : ℕ} (m : ℕ) {ts : List Token5} {xs : List Stat5} → At all most m ts → Below all most (joined statement_spans xs) ts [] → (d : IsProgram Exact ts xs) → ProgramWithin d m
  programW m a b g.no_more = tt
  programW m a b (g.one_more d ds) = (statW m a (narrow b (left _) same from-zero) d, programW m (move a (statS d)) (narrow b (right _) (shorter (statS d)) from-zero) ds)
    where
      from-zero : {ws : List Token5} → Fewer [] ws
      from-zero {ws = ws} = record { most = by (length ws) }
        where
          by : (n : ℕ) → 0 ≤ n
          by n = omega arith

pub within-depth : AreWithin
within-depth most tokens statements d o h = programW tokens o most (record { before = []; is = refl; room = same-room most }) (record { below = λ q t b e i j. at q t b e }) d
  where
    same-room : (n : ℕ) → n ≤ n + 0
    same-room n = omega arith

    by : (g' k c : ℕ) → g' + c ≤ k → c + g' ≤ k
    by g' k c h = omega arith

    at : (q : List Token5) (t : Token5) (b : List Token5) → tokens ≡ q ++ t ∷ b → tally (λ s. is_open_at s [] (q ++ t ∷ [])) (joined statement_spans statements) + (groups 0 q + opens_group t.kind) ≤ most
    at q t b e =
        let test : Span → Bool = λ s. is_open_at s [] (q ++ t ∷ []) in
        by (groups 0 q + opens_group t.kind) most (tally test (joined statement_spans statements))
        (subst (λ n. n + tally test (joined statement_spans statements) ≤ most) (open-groups 0 q t)
        (subst (λ n. open_groups 0 (q ++ t ∷ []) + n ≤ most) (sym (tally-is test (joined statement_spans statements))) (h (q ++ t ∷ []) b (e ∙ sym (append_assoc q (t ∷ []) b)))))
