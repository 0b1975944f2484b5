-- Which tokens a node takes of those that it begins, and that behind them no fewer groups are open than before.
use Rattle.std.proofs.Common.{◌≡◌, ℕ, zero, suc, ◌+◌, ◌-◌, ◌≤◌, ◌<◌, Bool, true, false, List, [], ◌∷◌, ◌++◌, Option, length, refl, sym, ap, subst, ◌∙◌, append_assoc, arith}
use Rattle.std.specs.Prelude.{codes, cond, ◌||◌}
use Rattle.std.proofs.lemmas.List.{length-append}
use Rattle.es5_ast.specs.declared.operators.UnaryOperator5.{UnaryOperator5}
use Rattle.es5_ast.specs.declared.operators.UnaryOperator5.TheVariants.{Delete, Void, Typeof, Plus, Minus, BitNot, Not}
use Rattle.es5_ast.specs.declared.operators.UpdateOperator5.{UpdateOperator5}
use Rattle.es5_ast.specs.declared.operators.UpdateOperator5.TheVariants.{IncrementBefore, DecrementBefore, IncrementAfter, DecrementAfter}
use Rattle.es5_ast.specs.declared.operators.BinaryOperator5.{BinaryOperator5}
use Rattle.es5_ast.specs.declared.operators.BinaryOperator5.TheVariants as binary
use Rattle.es5_ast.specs.declared.operators.AssignOperator5.{AssignOperator5}
use Rattle.es5_ast.specs.declared.operators.AssignOperator5.TheVariants as assign
use Rattle.es5_ast.specs.declared.operators.Literal5.{Literal5}
use Rattle.es5_ast.specs.declared.operators.Literal5.TheVariants as literals
use Rattle.es5_ast.specs.declared.operators.Key5.{Key5}
use Rattle.es5_ast.specs.declared.operators.Key5.TheVariants as keys
use Rattle.es5_ast.specs.declared.tree.Identifier5.{Identifier5}
use Rattle.es5_ast.specs.declared.tree.PlacedKey5.{PlacedKey5}
use Rattle.es5_ast.specs.declared.tree.Element5.{Element5}
use Rattle.es5_ast.specs.declared.tree.Expr5.{Expr5}
use Rattle.es5_ast.specs.declared.tree.ForFirst5.{ForFirst5}
use Rattle.es5_ast.specs.declared.tree.Link5.{Link5}
use Rattle.es5_ast.specs.declared.tree.Property5.{Property5}
use Rattle.es5_ast.specs.declared.tree.Stat5.{Stat5}
use Rattle.es5_ast.specs.declared.tree.Block5.{Block5}
use Rattle.es5_ast.specs.declared.tree.Case5.{Case5}
use Rattle.es5_ast.specs.declared.tree.Catch5.{Catch5}
use Rattle.es5_ast.specs.declared.tree.Condition5.{Condition5}
use Rattle.es5_ast.specs.declared.tree.Declared5.{Declared5}
use Rattle.es5_ast.specs.declared.tree.Function5.{Function5}
use Rattle.es5_ast.specs.declared.tree.Operand5.{Operand5}
use Rattle.es5_ast.specs.Lexical.{Kind5, Token5}
use Rattle.es5_ast.specs.Grammar as g
use Rattle.es5_ast.specs.Grammar.{Exact, is_mark, literal_kind, key_kind, unary_kind, update_kind, binary_kind, assign_kind, IsEnd, IsIdentifier, IsKey, AreParameters, IsExpr, IsNode, IsNewCallee, AreElements, AreProperties, IsProperty, IsAccessor, AreLinks, AreArguments, AreOperands, AreParts, IsFunction, AreStats, IsStat, IsBlock, AreDeclared, IsDeclared, IsIf, IsCondition, IsForFirst, IsOptional, IsClosed, IsLabel, IsReturned, AreCases, AreInCase, IsCatch}
use Rattle.es5_ast.specs.Depth.{opens_group, closes_group, groups_behind}
use Rattle.es5_reading.proofs.CompleteStatements.{end-false}

-- the groups that are open behind the tokens, where so many were before them
abbrev pub groups : ℕ → List Token5 → ℕ
groups o [] = o
groups o (t ∷ ts) = groups (groups_behind o t) ts

pub groups-append : (o : ℕ) (xs ys : List Token5) → groups o (xs ++ ys) ≡ groups (groups o xs) ys
groups-append o [] ys = refl
groups-append o (x ∷ xs) ys = groups-append (groups_behind o x) xs ys

pub record Segment (ts us : List Token5) : Type 0 where
  pub tokens : List Token5
  pub is : ts ≡ tokens ++ us
  pub grows : (o : ℕ) → o ≤ groups o tokens

-- tokens of which the last one closes the group that stands round them
pub record Closing (ts us : List Token5) : Type 0 where
  pub tokens : List Token5
  pub is : ts ≡ tokens ++ us
  pub grows : (o : ℕ) → o ≤ groups (suc o) tokens

-- no more tokens than others, and fewer
pub record Fewer (us ts : List Token5) : Type 0 where
  pub most : length us ≤ length ts

pub record Less (us ts : List Token5) : Type 0 where
  pub most : length us < length ts

pub shorter : {ts us : List Token5} → Segment ts us → Fewer us ts
shorter {ts = ts} {us = us} s = record { most = by (length s.tokens) (length us) (length ts) (ap length s.is ∙ length-append s.tokens us) }
  where
    by : (a b n : ℕ) → n ≡ a + b → b ≤ n
    by a b n e = omega arith

pub closing-shorter : {ts us : List Token5} → Closing ts us → Fewer us ts
closing-shorter {ts = ts} {us = us} s = record { most = by (length s.tokens) (length us) (length ts) (ap length s.is ∙ length-append s.tokens us) }
  where
    by : (a b n : ℕ) → n ≡ a + b → b ≤ n
    by a b n e = omega arith

pub nothing : {ts : List Token5} → Segment ts ts
nothing = record { tokens = []; is = refl; grows = λ o. omega arith }

pub join : {ts us vs : List Token5} → Segment ts us → Segment us vs → Segment ts vs
join {vs = vs} a b = record {
  tokens = a.tokens ++ b.tokens;
  is = a.is ∙ ap (λ z. a.tokens ++ z) b.is ∙ sym (append_assoc a.tokens b.tokens vs);
  grows = λ o. subst (λ n. o ≤ n) (sym (groups-append o a.tokens b.tokens)) (by o (groups o a.tokens) (groups (groups o a.tokens) b.tokens) (a.grows o) (b.grows (groups o a.tokens)));
}
  where
    by : (a b c : ℕ) → a ≤ b → b ≤ c → a ≤ c
    by a b c h k = omega arith

plain : (o a b : ℕ) → b ≡ 0 → o ≤ o + a - b
plain o a b h = omega arith

-- one token, which closes nothing
pub by_kind : {t : Token5} {ts : List Token5} {k : Kind5} → t.kind ≡ k → closes_group k ≡ 0 → Segment (t ∷ ts) ts
by_kind {t = t} e h = record { tokens = t ∷ []; is = refl; grows = λ o. plain o (opens_group t.kind) (closes_group t.kind) (ap closes_group e ∙ h) }

pub close : {t : Token5} {ts : List Token5} {k : Kind5} → t.kind ≡ k → closes_group k ≡ 1 → Closing (t ∷ ts) ts
close {t = t} e h = record { tokens = t ∷ []; is = refl; grows = λ o. by o (opens_group t.kind) (closes_group t.kind) (ap closes_group e ∙ h) }
  where
    by : (o a b : ℕ) → b ≡ 1 → o ≤ suc o + a - b
    by o a b h = omega arith

pub ends_in : {ts us vs : List Token5} → Segment ts us → Closing us vs → Closing ts vs
ends_in {vs = vs} a b = record {
  tokens = a.tokens ++ b.tokens;
  is = a.is ∙ ap (λ z. a.tokens ++ z) b.is ∙ sym (append_assoc a.tokens b.tokens vs);
  grows = λ o. subst (λ n. o ≤ n) (sym (groups-append (suc o) a.tokens b.tokens)) (more o (groups (suc o) a.tokens) (a.grows (suc o)));
}
  where
    more : (o n : ℕ) → suc o ≤ n → o ≤ groups n b.tokens
    more o zero h = absurd (none o h)
      where
        none : (o : ℕ) → suc o ≤ 0 → ⊥
        none o h = omega arith
    more o (suc n) h = by o n (groups (suc n) b.tokens) h (b.grows n)
      where
        by : (a b c : ℕ) → suc a ≤ suc b → b ≤ c → a ≤ c
        by a b c h k = omega arith

-- a group: the token that opens it, and what closes it
pub group : {t : Token5} {ts us : List Token5} {k : Kind5} → t.kind ≡ k → opens_group k ≡ 1 → closes_group k ≡ 0 → Closing ts us → Segment (t ∷ ts) us
group {t = t} e h c b = record {
  tokens = t ∷ b.tokens;
  is = ap (λ z. t ∷ z) b.is;
  grows = λ o. subst (λ n. o ≤ groups n b.tokens) (by o (opens_group t.kind) (closes_group t.kind) (ap opens_group e ∙ h) (ap closes_group e ∙ c)) (b.grows o);
}
  where
    by : (o a b : ℕ) → a ≡ 1 → b ≡ 0 → suc o ≡ o + a - b
    by o a b h k = omega arith

-- ## Kinds that close nothing

pub literal-closes : (value : Literal5) → closes_group (literal_kind value) ≡ 0
literal-closes literals.Null = refl
literal-closes (literals.Truth true) = refl
literal-closes (literals.Truth false) = refl
literal-closes (literals.Integer value) = refl
literal-closes (literals.Text units) = refl

key-closes : (key : Key5) → closes_group (key_kind key) ≡ 0
key-closes (keys.WordKey name) = refl
key-closes (keys.TextKey units) = refl
key-closes (keys.IntegerKey value) = refl

pub unary-closes : (op : UnaryOperator5) → closes_group (unary_kind op) ≡ 0
unary-closes Delete = refl
unary-closes Void = refl
unary-closes Typeof = refl
unary-closes Plus = refl
unary-closes Minus = refl
unary-closes BitNot = refl
unary-closes Not = refl

pub update-closes : (op : UpdateOperator5) → closes_group (update_kind op) ≡ 0
update-closes IncrementBefore = refl
update-closes DecrementBefore = refl
update-closes IncrementAfter = refl
update-closes DecrementAfter = refl

pub assign-closes : (op : AssignOperator5) → closes_group (assign_kind op) ≡ 0
assign-closes assign.Assign = refl
assign-closes assign.MultiplyAssign = refl
assign-closes assign.DivideAssign = refl
assign-closes assign.RemainderAssign = refl
assign-closes assign.AddAssign = refl
assign-closes assign.SubtractAssign = refl
assign-closes assign.ShiftLeftAssign = refl
assign-closes assign.ShiftRightAssign = refl
assign-closes assign.ShiftRightUnsignedAssign = refl
assign-closes assign.BitAndAssign = refl
assign-closes assign.BitXorAssign = refl
assign-closes assign.BitOrAssign = refl

pub binary-closes : (op : BinaryOperator5) → closes_group (binary_kind op) ≡ 0
binary-closes binary.Or = refl
binary-closes binary.And = refl
binary-closes binary.BitOr = refl
binary-closes binary.BitXor = refl
binary-closes binary.BitAnd = refl
binary-closes binary.Equal = refl
binary-closes binary.NotEqual = refl
binary-closes binary.Same = refl
binary-closes binary.NotSame = refl
binary-closes binary.Less = refl
binary-closes binary.Greater = refl
binary-closes binary.AtMost = refl
binary-closes binary.AtLeast = refl
binary-closes binary.InstanceOf = refl
binary-closes binary.In = refl
binary-closes binary.ShiftLeft = refl
binary-closes binary.ShiftRight = refl
binary-closes binary.ShiftRightUnsigned = refl
binary-closes binary.Add = refl
binary-closes binary.Subtract = refl
binary-closes binary.Multiply = refl
binary-closes binary.Divide = refl
binary-closes binary.Remainder = refl

-- an inserted or written semicolon
pub ending : {t : Token5} {ts : List Token5} → IsEnd t → Segment (t ∷ ts) ts
ending {t = t} h = by_kind refl (ap (λ b. cond b 1 0) (end-false (λ k. is_mark (codes ")") k || is_mark (codes "]") k || is_mark (codes "}") k) t.kind h refl refl))

-- ## Nodes

pub identifierS : {ts us : List Token5} {x : Identifier5} → IsIdentifier Exact ts x us → Segment ts us
identifierS {us = us} d = subst (λ z. Segment z us) (sym d.first) (by_kind d.word refl)

pub keyS : {ts us : List Token5} {x : PlacedKey5} → IsKey Exact ts x us → Segment ts us
keyS {us = us} {x = x} d = subst (λ z. Segment z us) (sym d.first) (by_kind d.kind (key-closes x.key))

pub parametersC : {ts us : List Token5} {xs : List Identifier5} → AreParameters Exact ts xs us → Closing ts us
parametersC (g.no_parameter p) = close p refl
parametersC (g.last_parameter d p) = ends_in (identifierS d) (close p refl)
parametersC (g.next_parameter d p ds) = ends_in (join (identifierS d) (by_kind p refl)) (parametersC ds)

pub labelS : {ts us : List Token5} {x : Option Identifier5} → IsLabel Exact ts x us → Segment ts us
labelS g.no_label = nothing
labelS (g.label l d) = identifierS d

mutual
  pub exprS : {k : Bool} {least : ℕ} {ts us : List Token5} {x : Expr5} → IsExpr Exact k least ts x us → Segment ts us
  exprS (g.bare level h d) = nodeS d
  exprS (g.group p d q) = group p refl refl (ends_in (exprS d) (close q refl))

  pub nodeS : {k : Bool} {level : ℕ} {ts us : List Token5} {x : Expr5} → IsNode Exact k level ts x us → Segment ts us
  nodeS (g.this span e s w) = by_kind w refl
  nodeS (g.identifier span name e s w f) = by_kind w refl
  nodeS (g.literal span value e s w) = by_kind w (literal-closes value)
  nodeS (g.array span xs e s p d) = group p refl refl (elementsC d)
  nodeS (g.object span xs e s p d) = group p refl refl (propertiesC d)
  nodeS (g.function f e d) = functionS d
  nodeS (g.chain calls span x l ls e s q d ds) = join (exprS d) (linksS ds)
  nodeS (g.new_call span c xs e s w d p ds) = join (by_kind w refl) (join (exprS d) (group p refl refl (argumentsC ds)))
  nodeS (g.new_bare span c e s w d) = join (by_kind w refl) (calleeS d)
  nodeS (g.update_after span op x e s h d t a) = join (exprS d) (by_kind t (update-closes op))
  nodeS (g.update_before span op x e s h t d) = join (by_kind t (update-closes op)) (exprS d)
  nodeS (g.unary span op x e s t d) = join (by_kind t (unary-closes op)) (exprS d)
  nodeS (g.binary_chain level span x o os e s d ds) = join (exprS d) (operandsS ds)
  nodeS (g.conditional span x y z e s d p a q c) = join (exprS d) (join (by_kind p refl) (join (exprS a) (join (by_kind q refl) (exprS c))))
  nodeS (g.assignment span op x y e s d t c) = join (exprS d) (join (by_kind t (assign-closes op)) (exprS c))
  nodeS (g.sequence span x y ys e s d ds) = join (exprS d) (partsS ds)

  pub calleeS : {ts us : List Token5} {x : Expr5} → IsNewCallee Exact ts x us → Segment ts us
  calleeS (g.another_new d) = nodeS d
  calleeS (g.member d) = exprS d

  pub elementsC : {ts us : List Token5} {xs : List Element5} → AreElements Exact ts xs us → Closing ts us
  elementsC (g.no_element p) = close p refl
  elementsC (g.hole p d) = ends_in (by_kind p refl) (elementsC d)
  elementsC (g.last_element d p) = ends_in (exprS d) (close p refl)
  elementsC (g.next_element d p ds) = ends_in (join (exprS d) (by_kind p refl)) (elementsC ds)

  pub propertiesC : {ts us : List Token5} {xs : List Property5} → AreProperties Exact ts xs us → Closing ts us
  propertiesC (g.no_property p) = close p refl
  propertiesC (g.last_property d p) = ends_in (propertyS d) (close p refl)
  propertiesC (g.next_property d p ds) = ends_in (join (propertyS d) (by_kind p refl)) (propertiesC ds)

  pub propertyS : {ts us : List Token5} {x : Property5} → IsProperty Exact ts x us → Segment ts us
  propertyS (g.plain span k x e s d p y) = join (keyS d) (join (by_kind p refl) (exprS y))
  propertyS (g.getter span k f e s w d a) = join (by_kind w refl) (join (keyS d) (accessorS a))
  propertyS (g.setter span k f e s w d a) = join (by_kind w refl) (join (keyS d) (accessorS a))

  pub accessorS : {setter : Bool} {ts us : List Token5} {x : Function5} → IsAccessor Exact setter ts x us → Segment ts us
  accessorS (g.no_value span ss e s p q w d) = join (group p refl refl (close q refl)) (group w refl refl (statsC d))
  accessorS (g.one_value span x ss e s p i q w d) = join (group p refl refl (ends_in (identifierS i) (close q refl))) (group w refl refl (statsC d))

  pub linksS : {calls : Bool} {ts us : List Token5} {xs : List Link5} → AreLinks Exact calls ts xs us → Segment ts us
  linksS g.no_link = nothing
  linksS (g.member_link span name e s p w d) = join (by_kind p refl) (join (by_kind w refl) (linksS d))
  linksS (g.index_link span x e s p a q d) = join (group p refl refl (ends_in (exprS a) (close q refl))) (linksS d)
  linksS (g.call_link span xs site e s p a d) = join (group p refl refl (argumentsC a)) (linksS d)

  pub argumentsC : {ts us : List Token5} {xs : List Expr5} → AreArguments Exact ts xs us → Closing ts us
  argumentsC (g.no_argument p) = close p refl
  argumentsC (g.last_argument d p) = ends_in (exprS d) (close p refl)
  argumentsC (g.next_argument d p ds) = ends_in (join (exprS d) (by_kind p refl)) (argumentsC ds)

  pub operandsS : {k : Bool} {level : ℕ} {ts us : List Token5} {xs : List Operand5} → AreOperands Exact k level ts xs us → Segment ts us
  operandsS g.no_operand = nothing
  operandsS (g.next_operand op x e l k t d ds) = join (by_kind t (binary-closes op)) (join (exprS d) (operandsS ds))

  pub partsS : {k : Bool} {ts us : List Token5} {xs : List Expr5} → AreParts Exact k ts xs us → Segment ts us
  partsS g.no_part = nothing
  partsS (g.next_part p d ds) = join (by_kind p refl) (join (exprS d) (partsS ds))

  pub functionS : {ts us : List Token5} {x : Function5} → IsFunction Exact ts x us → Segment ts us
  functionS (g.anonymous span ps ss e s w p d b c) = join (by_kind w refl) (join (group p refl refl (parametersC d)) (group b refl refl (statsC c)))
  functionS (g.named span n ps ss e s w i p d b c) = join (by_kind w refl) (join (identifierS i) (join (group p refl refl (parametersC d)) (group b refl refl (statsC c))))

  pub statsC : {inside top : Bool} {ts us : List Token5} {xs : List Stat5} → AreStats Exact inside top ts xs us → Closing ts us
  statsC (g.no_stat p) = close p refl
  statsC (g.next_stat d ds) = ends_in (statS d) (statsC ds)

  pub statS : {inside top : Bool} {ts us : List Token5} {x : Stat5} → IsStat Exact inside top ts x us → Segment ts us
  statS (g.block b e d) = blockS d
  statS (g.var span ds e s w d n) = join (by_kind w refl) (join (declaredS d) (ending n))
  statS (g.empty span e s p) = by_kind p refl
  statS (g.expression span x e s nb nf d n) = join (exprS d) (ending n)
  statS (g.if span c more otherwise e s d) = ifS d
  statS (g.do_while span body test e s w d ww p x q n) = join (by_kind w refl) (join (statS d) (join (by_kind ww refl) (join (group p refl refl (ends_in (exprS x) (close q refl))) (ending n))))
  statS (g.while span test body e s w p x q d) = join (by_kind w refl) (join (group p refl refl (ends_in (exprS x) (close q refl))) (statS d))
  statS (g.for span f x y body e s w p df dt m dc d) = join (by_kind w refl) (join (group p refl refl (ends_in (join (forFirstS df) (join (optionalS dt) (by_kind m refl))) (closedC dc))) (statS d))
  statS (g.continue span label e s w d n) = join (by_kind w refl) (join (labelS d) (ending n))
  statS (g.break span label e s w d n) = join (by_kind w refl) (join (labelS d) (ending n))
  statS (g.return span x e s w d n) = join (by_kind w refl) (join (returnedS d) (ending n))
  statS (g.switch span x cs e s w p d q b c) = join (by_kind w refl) (join (group p refl refl (ends_in (exprS d) (close q refl))) (group b refl refl (casesC c)))
  statS (g.labelled span label body e s i p d) = join (identifierS i) (join (by_kind p refl) (statS d))
  statS (g.throw span x e s w l d n) = join (by_kind w refl) (join (exprS d) (ending n))
  statS (g.try_catch span b h e s w d c) = join (by_kind w refl) (join (blockS d) (catchS c))
  statS (g.try_finally span b l e s w d f c) = join (by_kind w refl) (join (blockS d) (join (by_kind f refl) (blockS c)))
  statS (g.try_both span b l h e s w d c f k) = join (by_kind w refl) (join (blockS d) (join (catchS c) (join (by_kind f refl) (blockS k))))
  statS (g.debugger span e s w n) = join (by_kind w refl) (ending n)
  statS (g.declaration span n ps ss e d) = functionS d

  pub blockS : {inside : Bool} {ts us : List Token5} {x : Block5} → IsBlock Exact inside ts x us → Segment ts us
  blockS (g.braces span body e s p d) = group p refl refl (statsC d)

  pub declaredS : {k : Bool} {ts us : List Token5} {xs : List Declared5} → AreDeclared Exact k ts xs us → Segment ts us
  declaredS (g.last_declared d) = oneDeclaredS d
  declaredS (g.next_declared d p ds) = join (oneDeclaredS d) (join (by_kind p refl) (declaredS ds))

  pub oneDeclaredS : {k : Bool} {ts us : List Token5} {x : Declared5} → IsDeclared Exact k ts x us → Segment ts us
  oneDeclaredS (g.uninitialized span n e s i) = identifierS i
  oneDeclaredS (g.initialized span n x e s i p d) = join (identifierS i) (join (by_kind p refl) (exprS d))

  pub ifS : {inside : Bool} {ts us : List Token5} {c : Condition5} {more : List Condition5} {otherwise : Option Stat5} → IsIf Exact inside ts c more otherwise us → Segment ts us
  ifS (g.no_else d n) = conditionS d
  ifS (g.last_else d w n b) = join (conditionS d) (join (by_kind w refl) (statS b))
  ifS (g.else_if d w ds) = join (conditionS d) (join (by_kind w refl) (ifS ds))

  pub conditionS : {inside : Bool} {ts us : List Token5} {x : Condition5} → IsCondition Exact inside ts x us → Segment ts us
  conditionS (g.condition span test body e s w p x q d) = join (by_kind w refl) (join (group p refl refl (ends_in (exprS x) (close q refl))) (statS d))

  pub forFirstS : {ts us : List Token5} {x : ForFirst5} → IsForFirst Exact ts x us → Segment ts us
  forFirstS (g.nothing_first p) = by_kind p refl
  forFirstS (g.var_first ds e w d p) = join (by_kind w refl) (join (declaredS d) (by_kind p refl))
  forFirstS (g.expression_first x e d p) = join (exprS d) (by_kind p refl)

  pub optionalS : {ts us : List Token5} {x : Option Expr5} → IsOptional Exact ts x us → Segment ts us
  optionalS g.absent = nothing
  optionalS (g.present d) = exprS d

  pub closedC : {ts us : List Token5} {x : Option Expr5} → IsClosed Exact ts x us → Closing ts us
  closedC (g.closed d p) = ends_in (optionalS d) (close p refl)

  pub returnedS : {ts us : List Token5} {x : Option Expr5} → IsReturned Exact ts x us → Segment ts us
  returnedS g.no_value_returned = nothing
  returnedS (g.value_returned l d) = exprS d

  pub casesC : {inside may : Bool} {ts us : List Token5} {xs : List Case5} → AreCases Exact inside may ts xs us → Closing ts us
  casesC (g.no_case p) = close p refl
  casesC (g.case_clause span x body e s w d p b c) = ends_in (join (by_kind w refl) (join (exprS d) (join (by_kind p refl) (inCaseS b)))) (casesC c)
  casesC (g.default_clause span body e s w p b c) = ends_in (join (by_kind w refl) (join (by_kind p refl) (inCaseS b))) (casesC c)

  pub inCaseS : {inside : Bool} {ts us : List Token5} {xs : List Stat5} → AreInCase Exact inside ts xs us → Segment ts us
  inCaseS g.no_more_in_case = nothing
  inCaseS (g.next_in_case d ds) = join (statS d) (inCaseS ds)

  pub catchS : {inside : Bool} {ts us : List Token5} {x : Catch5} → IsCatch Exact inside ts x us → Segment ts us
  catchS (g.handler span n b e s w p i q d) = join (by_kind w refl) (join (group p refl refl (ends_in (identifierS i) (close q refl))) (blockS d))
