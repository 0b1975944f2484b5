-- What the grammar derives is read exactly so, if loops have turns enough and as many constructs may open as are in the
-- derivation. No semicolon is inserted.
use Rattle.std.proofs.Common.{◌≡◌, ℕ, ◌≤◌, Bool, true, false, List, [], ◌∷◌, Option, Some, None, refl, sym, ap, subst, ◌∙◌, arith}
use Rattle.std.specs.Prelude.{codes}
use Rattle.es_text.specs.declared.Span.{Span}
use Rattle.es_outside.specs.declared.events.Site.{Site}
use Rattle.es5_ast.specs.declared.tree.Identifier5.{Identifier5}
use Rattle.es5_ast.specs.declared.tree.Stat5.{Stat5}
use Rattle.es5_ast.specs.declared.tree.Declared5.{Declared5}
use Rattle.es5_ast.specs.declared.tree.Block5.{Block5}
use Rattle.es5_ast.specs.declared.tree.Condition5.{Condition5}
use Rattle.es5_ast.specs.declared.tree.ForFirst5.{ForFirst5}
use Rattle.es5_ast.specs.declared.tree.Case5.{Case5}
use Rattle.es5_ast.specs.declared.tree.Catch5.{Catch5}
use Rattle.es5_ast.specs.declared.tree.Function5 as f5
use Rattle.es5_ast.specs.declared.tree.Function5.{Function5}
use Rattle.es5_ast.specs.declared.tree.Expr5.{Expr5}
use Rattle.es5_ast.specs.declared.tree.Element5.{Element5}
use Rattle.es5_ast.specs.declared.tree.Property5.{Property5}
use Rattle.es5_ast.specs.declared.tree.Link5 as l5
use Rattle.es5_ast.specs.declared.tree.Link5.{Link5}
use Rattle.es5_ast.specs.declared.tree.Link5.TheVariants as link
use Rattle.es5_ast.specs.declared.tree.Operand5.{Operand5}
use denote.Hole.Carrier as carrier
use Rattle.es5_ast.specs.Lexical.{Token5}
use Rattle.es5_ast.specs.Grammar as g
use Rattle.es5_ast.specs.Grammar.{Exact, IsExpr, IsNode, IsNewCallee, AreElements, AreProperties, IsProperty, IsAccessor, AreLinks, AreArguments, AreOperands, AreParts, IsFunction, AreStats, IsStat, IsBlock, AreDeclared, IsDeclared, IsIf, IsCondition, IsForFirst, IsOptional, IsLabel, IsReturned, AreCases, AreInCase, IsCatch, IsProgram, IsIdentifier, IsEnd, is_mark, chain_level, link_sites}
use Rattle.es5_ast.specs.Within.{ExprWithin, NodeWithin, NewCalleeWithin, ElementsWithin, PropertiesWithin, PropertyWithin, AccessorWithin, LinksWithin, ArgumentsWithin, OperandsWithin, PartsWithin, FunctionWithin, StatsWithin, StatWithin, BlockWithin, DeclaredListWithin, DeclaredWithin, IfWithin, ConditionWithin, ForFirstWithin, OptionalWithin, ReturnedWithin, CasesWithin, InCaseWithin, CatchWithin, ProgramWithin}
use Rattle.es5_reading.specs.Parser.{next_is, next_mark}
use Rattle.es5_reading.specs.Statements.{ends_case}
use Rattle.es5_reading.proofs.Derived.{both_open}
use Rattle.es5_reading.proofs.Reading.{map-opens}
use Rattle.es5_reading.proofs.CompleteTokens.{Closes, closes-up, closes-brace, closes-comma}
use Rattle.es5_reading.proofs.CompleteLevels.{Claim, claim-down, level-thirteen}
use Rattle.es5_reading.proofs.CompleteParts.{is-mark-true, identifier-reads, function_of, ElementsRead, elements-none, elements-hole, elements-last, elements-next, ArgumentsRead, arguments-last, arguments-next, ArgumentsClaim, no_arguments_claim, arguments_claim, PropertiesRead, PropertyClaim, properties-none, properties-last, properties-next, StatsRead, rest-reads, FunctionClaim, anonymous_claim, named_claim, AccessorRead, no-value-reads, one-value-reads}
use Rattle.es5_reading.proofs.CompleteExpressions.{plain-claim, accessor-claim, this-claim, name-claim, literal-claim, array-claim, object-claim, group-claim, function-claim, new-call-claim, NewClaim, new-bare-claim, new-bare-new, member-new, LinksClaim, no-links, member-links, index-links, call-links, chain-claim, unary-claim, before-claim, after-claim, OperandsClaim, no-operands, operand-claim, operands-close, operands-level, binary-claim, conditional-claim, assignment-claim, PartsClaim, no_parts_claim, next-part-claim, sequence-claim}
use Rattle.es5_reading.proofs.CompleteStatements.{Quiet, StatClaim, quiet-kind, var-claim, do-claim, while-claim, for-claim, switch-claim, try-claim, continue-claim, break-claim, throw-claim, debugger-claim, return-claim, declaration-claim, BlockClaim, block-claim, block-stat, stats-none, stats-next, DeclaredClaim, uninitialized-claim, initialized-claim, DeclaredItems, item_last, item_next, var-reads, ConditionClaim, condition-claim, IfClaim, no-else, last-else, else-if, if-claim}
use Rattle.es5_reading.proofs.CompleteCompound.{do-reads, while-reads, FirstRead, first-nothing, first-var, first-expression, OptionalClaim, absent_claim, present_claim, for-reads, LabelRead, no-label-reads, label-reads, continue-reads, break-reads, ReturnedClaim, nothing_returned, value_returned_, return-reads, throw-reads, debugger-reads, InCaseRead, in-case-none, in-case-next, ends-quiet, CasesRead, cases-none, case-reads, default-reads, cases-begin, switch-reads, CatchClaim, catch-claim, try-catch-reads, try-finally-reads, try-both-reads, empty-claim, expression-claim, labelled-claim, ProgramRead, program-none, program-next}

le-trans : (a b c : ℕ) → a ≤ b → b ≤ c → a ≤ c
le-trans a b c h k = omega arith

-- a group is an expression of every level
claim-any : {n : ℕ} (k : Bool) (least : ℕ) {ts us : List Token5} {x : Expr5} → Claim n k 18 ts x us → Claim n k least ts x us
claim-any k least c = record {
  shape = c.shape;
  left = λ l. c.left (omega arith);
  first = c.first;
  operand = λ l. c.operand (omega arith);
  heads = λ l. c.heads (omega arith);
  chains = λ l. c.chains (omega arith);
  members = λ l. c.members (omega arith);
  levels = λ n v l d. c.levels n v (le-trans n 13 18 (level-thirteen v) (omega arith)) d;
}

not-fifteen : (n : ℕ) → n ≡ 15 → 16 ≤ n → ⊥
not-fifteen n e h = omega arith

low-fifteen : (n : ℕ) → n ≡ 15 → n ≤ 14 → ⊥
low-fifteen n e h = omega arith

chain-fifteen : (c : Bool) → chain_level c ≡ 15 → ⊥
chain-fifteen true e = omega arith
chain-fifteen false e = omega arith

twelve : (n : ℕ) → n ≤ 12 → n ≤ 14
twelve n h = omega arith

name_of : Function5 → Option Identifier5
name_of f = (f5.out-Function5 f).name

abbrev IsCons : {A : Type 0} → List A → Type 0
IsCons [] = ⊥
IsCons (x ∷ xs) = Unit {0}

no-paren : {ts us : List Token5} {x : Identifier5} → IsIdentifier Exact ts x us → next_is (next_mark (codes "(")) ts ≡ false
no-paren d = subst (λ vs. next_is (next_mark (codes "(")) vs ≡ false) (sym d.first) (subst (λ k. is_mark (codes "(") k ≡ false) (sym d.word) refl)

label-of : {ts vs : List Token5} {x : Option Identifier5} (e : Token5) (us : List Token5) → IsLabel Exact ts x vs → vs ≡ e ∷ us → IsEnd e → LabelRead ts x (e ∷ us)
label-of e us g.no_label q h = subst (λ zs. LabelRead zs None (e ∷ us)) (sym q) (no-label-reads e us h)
label-of {ts = ts} {x = x} e us (g.label a d) q h = subst (λ zs. LabelRead ts x zs) q (label-reads a d)

-- ## Links carry no sites

member-rest : (l : Link5) (span : Span) (name : List ℕ) (ls : List Link5) → l ≡ link.Member span name → link_sites (l ∷ ls) ≡ [] → link_sites ls ≡ []
unfolding l5.out-Link5 carrier.out
member-rest l span name ls e h = subst (λ m. link_sites (m ∷ ls) ≡ []) e h

index-rest : (l : Link5) (span : Span) (x : Expr5) (ls : List Link5) → l ≡ link.Index span x → link_sites (l ∷ ls) ≡ [] → link_sites ls ≡ []
unfolding l5.out-Link5 carrier.out
index-rest l span x ls e h = subst (λ m. link_sites (m ∷ ls) ≡ []) e h

call-rest : (l : Link5) (span : Span) (xs : List Expr5) (site : Option Site) (ls : List Link5) → l ≡ link.Call span xs site → link_sites (l ∷ ls) ≡ [] → (l ≡ link.Call span xs None) × (link_sites ls ≡ [])
unfolding l5.out-Link5 carrier.out
call-rest l span xs None ls e h = (e, subst (λ m. link_sites (m ∷ ls) ≡ []) e h)
call-rest l span xs (Some site) ls e h = absurd (nothing (subst (λ m. link_sites (m ∷ ls) ≡ []) e h))
  where
    nothing : {rest : List Site} → site ∷ rest ≡ [] → ⊥
    nothing q = cc

made-name : (x : Function5) (span : Span) (n : Option Identifier5) (ps : List Identifier5) (body : List Stat5) → x ≡ f5.roll-Function5 (record { span = span; name = n; parameters = ps; body = body }) → name_of x ≡ n
unfolding name_of
made-name x span n ps body e = ap (λ f. (f5.out-Function5 f).name) e ∙ ap (λ r. r.name) (f5.out-roll-Function5 (record { span = span; name = n; parameters = ps; body = body }))

declared-name : (span : Span) (x : Identifier5) (n : Option Identifier5) (ps : List Identifier5) (body : List Stat5) → name_of (f5.roll-Function5 (record { span = span; name = Some x; parameters = ps; body = body })) ≡ n → n ≡ Some x
declared-name span x n ps body e = sym e ∙ made-name _ span (Some x) ps body refl

mutual
  exprC : (n : ℕ) {k : Bool} {least : ℕ} {ts us : List Token5} {x : Expr5} (d : IsExpr Exact k least ts x us) → ExprWithin d n → Claim n k least ts x us
  exprC n (g.bare {no_in = k} {least = least} level h d) v = claim-down k least level h (nodeC n d v)
  exprC n (g.group {no_in = k} {least = least} p d q) v = claim-any k least (group-claim n k _ _ _ _ _ p (map-opens n (λ m u. exprC m d u) v) q)

  nodeC : (n : ℕ) {k : Bool} {level : ℕ} {ts us : List Token5} {x : Expr5} (d : IsNode Exact k level ts x us) → NodeWithin d n → Claim n k level ts x us
  nodeC n (g.this _ e s w) v = this-claim _ _ _ e s w
  nodeC n (g.identifier _ name e s w f) v = name-claim _ name _ _ e s w f
  nodeC n (g.literal _ value e s t) v = literal-claim _ value _ _ e s t
  nodeC n (g.array _ xs e s p d) v = array-claim n _ _ _ _ xs e s p (map-opens n (λ m u. elementsC m d u) v)
  nodeC n (g.object _ xs e s p d) v = object-claim n _ _ _ _ xs e s p (map-opens n (λ m u. propertiesC m d u) v)
  nodeC n (g.function _ e d) v = function-claim _ e (functionC n d v).2
  nodeC n (g.chain calls _ h l ls e s q d ds) v = chain-claim _ calls _ _ _ h l ls e s (exprC n d v.0) (linksC n ds v.1 q)
  nodeC n (g.new_call _ callee xs e s w d p ds) v = new-call-claim n _ _ _ _ _ _ callee xs e s w (both_open n _ _ (map-opens n (λ m u. exprC m d u) v.0) (map-opens n (λ m u. argumentsC m ds u) v.1)) p
  nodeC n (g.new_bare _ callee e s w d) v = new-bare-claim n _ _ _ _ callee e s w (map-opens n (λ m u. newCalleeC m d u) v)
  nodeC n (g.update_after _ op target e s b d t a) v = after-claim _ op _ _ _ target e s b (exprC n d v) t a
  nodeC n (g.update_before _ op target e s b t d) v = before-claim n _ op _ _ _ target e s b t (map-opens n (λ m u. exprC m d u) v)
  nodeC n (g.unary _ op operand e s t d) v = unary-claim n _ op _ _ _ operand e s t (map-opens n (λ m u. exprC m d u) v)
  nodeC n (g.binary_chain level _ first o os e s d ds) v = binary-claim _ level _ _ _ first o os e s (exprC n d v.0) (operands-close ds) (operandsC n ds v.1) (operands-level ds)
  nodeC n (g.conditional _ x y z e s d p a q b) v = conditional-claim n _ _ _ _ _ _ _ x y z e s (exprC n d v.0) p (both_open n _ _ (map-opens n (λ m u. exprC m a u) v.1) (map-opens n (λ m u. exprC m b u) v.2)) q
  nodeC n (g.assignment _ op target value e s d t b) v = assignment-claim n _ op _ _ _ _ target value e s (exprC n d v.0) t (map-opens n (λ m u. exprC m b u) v.1)
  nodeC n (g.sequence _ first y ys e s d (g.next_part p z ps)) v = sequence-claim _ _ _ _ _ _ first y ys e s (exprC n d v.0) p (exprC n z v.1.0) (λ c. partsC n ps v.1.1 c)

  newC : (n : ℕ) {k : Bool} {level : ℕ} {ts us : List Token5} {x : Expr5} (d : IsNode Exact k level ts x us) → NodeWithin d n → level ≡ 15 → NewClaim n ts x us
  newC n (g.this _ _ _ _) v e = absurd (not-fifteen 18 e (omega arith))
  newC n (g.identifier _ _ _ _ _ _) v e = absurd (not-fifteen 18 e (omega arith))
  newC n (g.literal _ _ _ _ _) v e = absurd (not-fifteen 18 e (omega arith))
  newC n (g.array _ _ _ _ _ _) v e = absurd (not-fifteen 18 e (omega arith))
  newC n (g.object _ _ _ _ _ _) v e = absurd (not-fifteen 18 e (omega arith))
  newC n (g.function _ _ _) v e = absurd (not-fifteen 18 e (omega arith))
  newC n (g.chain calls _ _ _ _ _ _ _ _ _) v e = absurd (chain-fifteen calls e)
  newC n (g.new_call _ _ _ _ _ _ _ _ _) v e = absurd (not-fifteen 18 e (omega arith))
  newC n (g.new_bare _ callee e' s w d) v e = new-bare-new n _ _ _ callee e' s w (map-opens n (λ m u. newCalleeC m d u) v)
  newC n (g.update_after _ _ _ _ _ _ _ _ _) v e = absurd (low-fifteen 14 e (omega arith))
  newC n (g.update_before _ _ _ _ _ _ _ _) v e = absurd (low-fifteen 13 e (omega arith))
  newC n (g.unary _ _ _ _ _ _ _) v e = absurd (low-fifteen 13 e (omega arith))
  newC n (g.binary_chain level _ _ _ _ _ _ _ os) v e = absurd (low-fifteen level e (twelve level (operands-level os).1))
  newC n (g.conditional _ _ _ _ _ _ _ _ _ _ _) v e = absurd (low-fifteen 2 e (omega arith))
  newC n (g.assignment _ _ _ _ _ _ _ _ _) v e = absurd (low-fifteen 1 e (omega arith))
  newC n (g.sequence _ _ _ _ _ _ _ _) v e = absurd (low-fifteen 0 e (omega arith))

  newCalleeC : (n : ℕ) {ts us : List Token5} {x : Expr5} (d : IsNewCallee Exact ts x us) → NewCalleeWithin d n → NewClaim n ts x us
  newCalleeC n (g.another_new d) v = newC n d v refl
  newCalleeC n (g.member d) v = member-new (exprC n d v)

  elementsC : (n : ℕ) {ts us : List Token5} {xs : List Element5} (d : AreElements Exact ts xs us) → ElementsWithin d n → ElementsRead n ts xs us
  elementsC n (g.no_element p) v = elements-none _ _ p
  elementsC n (g.hole p d) v = elements-hole _ _ _ p (elementsC n d v)
  elementsC n (g.last_element x p) v = elements-last _ _ _ (exprC n x v) p
  elementsC n (g.next_element x p d) v = elements-next _ _ _ _ (exprC n x v.0) p (elementsC n d v.1)

  propertiesC : (n : ℕ) {ts us : List Token5} {xs : List Property5} (d : AreProperties Exact ts xs us) → PropertiesWithin d n → PropertiesRead n ts xs us
  propertiesC n (g.no_property p) v = properties-none _ _ p
  propertiesC n (g.last_property {close = c} {us = us} x p) v = properties-last _ c us _ (propertyC n x v (closes-up false 0 1 (c ∷ us) (omega arith) (closes-brace false us c p))) p
  propertiesC n (g.next_property {comma = c} {us = us} x p d) v = properties-next _ c us _ _ (propertyC n x v.0 (closes-comma false us c p)) p (propertiesC n d v.1)

  propertyC : (n : ℕ) {ts us : List Token5} {x : Property5} (d : IsProperty Exact ts x us) → PropertyWithin d n → Closes false 1 us → PropertyClaim n ts x us
  propertyC n (g.plain _ k x e s d p y) v c = plain-claim _ _ _ _ k x e s d p (exprC n y v) c
  propertyC n (g.getter _ k f e s w d a) v c = accessor-claim false _ _ _ _ k f e s w d (accessorC n a v)
  propertyC n (g.setter _ k f e s w d a) v c = accessor-claim true _ _ _ _ k f e s w d (accessorC n a v)

  accessorC : (n : ℕ) {setter : Bool} {ts us : List Token5} {x : Function5} (d : IsAccessor Exact setter ts x us) → AccessorWithin d n → AccessorRead n setter ts x us
  accessorC n (g.no_value _ _ e s p q b d) v = no-value-reads _ _ _ _ _ p q b (map-opens n (λ m u. (statsC m d u).0) v.1) e s
  accessorC n (g.one_value _ x _ e s p i q b d) v = one-value-reads x _ _ _ _ _ _ p i q b (map-opens n (λ m u. (statsC m d u).0) v.1) e s

  linksC : (n : ℕ) {calls : Bool} {ts us : List Token5} {xs : List Link5} (d : AreLinks Exact calls ts xs us) → LinksWithin d n → link_sites xs ≡ [] → LinksClaim n calls ts xs us
  linksC n g.no_link v q = no-links _
  linksC n (g.member_link {l = l} {links = ls} span name e s p w d) v q = member-links _ name _ _ _ _ ls e s p w (linksC n d v (member-rest l span name ls e q))
  linksC n (g.index_link {l = l} {links = ls} span index e s p x c d) v q = index-links n _ _ _ _ _ _ index ls e s p (map-opens n (λ m u. exprC m x u) v.0) c (linksC n d v.1 (index-rest l span index ls e q))
  linksC n (g.call_link {calls = calls} {l = l} {links = ls} span xs site e s p x d) v q = let r = call-rest l span xs site ls e q in call-links n _ _ _ _ xs ls r.0 s p (map-opens n (λ m u. argumentsC m x u) v.0) calls (linksC n d v.1 r.1)

  argumentsC : (n : ℕ) {ts us : List Token5} {xs : List Expr5} (d : AreArguments Exact ts xs us) → ArgumentsWithin d n → ArgumentsClaim n ts xs us
  argumentsC n (g.no_argument p) v = no_arguments_claim p
  argumentsC n (g.last_argument x p) v = arguments_claim (exprC n x v).first (arguments-last _ _ _ (exprC n x v) p)
  argumentsC n (g.next_argument x p xs) v = arguments_claim (exprC n x v.0).first (arguments-next _ _ _ _ (exprC n x v.0) p (argumentsR n xs v.1 tt))

  argumentsR : (n : ℕ) {ts us : List Token5} {xs : List Expr5} (d : AreArguments Exact ts xs us) → ArgumentsWithin d n → IsCons xs → ArgumentsRead n ts xs us
  argumentsR n (g.no_argument p) v c = absurd c
  argumentsR n (g.last_argument x p) v c = arguments-last _ _ _ (exprC n x v) p
  argumentsR n (g.next_argument x p xs) v c = arguments-next _ _ _ _ (exprC n x v.0) p (argumentsR n xs v.1 tt)

  operandsC : (n : ℕ) {k : Bool} {level : ℕ} {ts us : List Token5} {xs : List Operand5} (d : AreOperands Exact k level ts xs us) → OperandsWithin d n → OperandsClaim n k level ts xs us
  operandsC n g.no_operand v = no-operands _ _ _
  operandsC n (g.next_operand {rest = os} op value e b i t x ds) v = operand-claim _ _ op _ _ _ _ value os e b i t (exprC n x v.0) (operands-close ds) (operandsC n ds v.1)

  partsC : (n : ℕ) {k : Bool} {ts us : List Token5} {xs : List Expr5} (d : AreParts Exact k ts xs us) → PartsWithin d n → Closes k 0 us → PartsClaim n k ts xs us
  partsC n g.no_part v c = no_parts_claim
  partsC n (g.next_part p x ps) v c = next-part-claim _ _ _ _ _ _ p (exprC n x v.0) c (partsC n ps v.1 c)

  functionC : (n : ℕ) {ts us : List Token5} {x : Function5} (d : IsFunction Exact ts x us) → FunctionWithin d n → (name : Option Identifier5) × (name_of x ≡ name) × FunctionClaim n ts name x us
  functionC n (g.anonymous {open_ = o} span ps body e s w p d b ss) v = (None, made-name _ span None ps body e, anonymous_claim w (is-mark-true (codes "(") o p) (e ∙ ap (λ z. function_of z None ps body) s) (rest-reads _ _ _ _ _ p d b (map-opens n (λ m u. (statsC m ss u).0) v.1)))
  functionC n (g.named span x xs body e s w d p ps b ss) v = (Some x, made-name _ span (Some x) xs body e, named_claim x w (identifier-reads d) (no-paren d) (e ∙ ap (λ z. function_of z (Some x) xs body) s) (rest-reads _ _ _ _ _ p ps b (map-opens n (λ m u. (statsC m ss u).0) v.1)))

  statsC : (n : ℕ) {inside top : Bool} {ts us : List Token5} {xs : List Stat5} (d : AreStats Exact inside top ts xs us) → StatsWithin d n → StatsRead n inside top ts xs us × Quiet ts
  statsC n (g.no_stat {close = c} {ts = ts} p) v = (stats-none _ _ c ts p, quiet-kind c ts _ p refl)
  statsC n (g.next_stat d ds) v = (stats-next _ _ _ _ _ (statC n d v.0) (statsC n ds v.1).1 (statsC n ds v.1).0, (statC n d v.0).quiet)

  statC : (n : ℕ) {inside top : Bool} {ts us : List Token5} {x : Stat5} (d : IsStat Exact inside top ts x us) → StatWithin d n → StatClaim n inside top ts x us
  statC n (g.block b e d) v = block-stat _ _ _ _ b e (blockC n d v)
  statC n (g.var _ ds e s w d h) v = var-claim _ _ _ _ _ w (λ q. var-reads _ _ _ _ ds e s (declaredsC n d v) h)
  statC n (g.empty _ e s p) v = empty-claim _ _ _ _ e s p
  statC n (g.expression _ x e s b f d h) v = expression-claim _ _ _ _ _ x e s b f (exprC n d v) h
  statC n (g.if _ c more last e s d) v = if-claim _ _ c more last e s (ifC n d v)
  statC n (g.do_while _ body test e s w d u p x q h) v = do-claim _ _ _ _ _ w (λ k. do-reads n _ _ _ _ _ _ _ _ _ body test e s (map-opens n (λ m o. statC m d o) v.0) u p (map-opens n (λ m o. exprC m x o) v.1) q h)
  statC n (g.while _ test body e s w p x q d) v = while-claim _ _ _ _ _ w (λ k. while-reads n _ _ _ _ _ _ _ test body e s p (map-opens n (λ m o. exprC m x o) v.0) q (map-opens n (λ m o. statC m d o) v.1) k)
  statC n (g.for _ first test update body e s w p f t q (g.closed u r) d) v = for-claim _ _ _ _ _ w (λ k. for-reads n _ _ _ _ _ _ _ _ _ _ first test update body e s p q r (map-opens n (λ m o. record { first_part = firstC m f o.0; test_part = optionalC m t o.1; update_part = optionalC m u o.2 }) v.0) (map-opens n (λ m o. statC m d o) v.1) k)
  statC n (g.continue {end = e} {us = us} _ l q s w d h) v = continue-claim _ _ _ _ _ w (λ k. continue-reads _ _ e us l q s (label-of e us d refl h) h)
  statC n (g.break {end = e} {us = us} _ l q s w d h) v = break-claim _ _ _ _ _ w (λ k. break-reads _ _ e us l q s (label-of e us d refl h) h)
  statC n (g.return _ x e s w d h) v = return-claim _ _ _ _ w (λ k. return-reads _ _ _ _ x e s (returnedC n d v) h)
  statC n (g.switch _ x cs e s w p d q b ds) v = switch-claim _ _ _ _ _ w (λ k. switch-reads n _ _ _ _ _ _ _ _ x cs e s p (map-opens n (λ m o. exprC m d o) v.0) q b (map-opens n (λ m o. casesC m ds o) v.1))
  statC n (g.labelled _ x body e s d p b) v = labelled-claim n _ _ _ _ _ _ x body e s d p (map-opens n (λ m o. statC m b o) v)
  statC n (g.throw _ x e s w a d h) v = throw-claim _ _ _ _ _ w (λ k. throw-reads _ _ _ _ x e s a (exprC n d v) h)
  statC n (g.try_catch _ b c e s w d h) v = try-claim _ _ _ _ _ w (λ k. try-catch-reads _ _ _ _ _ b c e s (blockC n d v.0) (catchC n h v.1) k)
  statC n (g.try_finally _ b last e s w d f h) v = try-claim _ _ _ _ _ w (λ k. try-finally-reads _ _ _ _ _ _ b last e s (blockC n d v.0) f (blockC n h v.1))
  statC n (g.try_both _ b last c e s w d h f i) v = try-claim _ _ _ _ _ w (λ k. try-both-reads _ _ _ _ _ _ _ b c last e s (blockC n d v.0) (catchC n h v.1) f (blockC n i v.2))
  statC n (g.debugger _ e s w h) v = debugger-claim _ _ _ _ _ w (λ k. debugger-reads _ _ _ e s h)
  statC n (g.declaration {inside = inside} {t = t} {ts = ts} {us = us} span x ps body e d) v = declaration-claim inside x (function_of span (Some x) ps body) e (subst (λ z. FunctionClaim n (t ∷ ts) z (function_of span (Some x) ps body) us) (declared-name span x (functionC n d v).0 ps body (functionC n d v).1) (functionC n d v).2)

  blockC : (n : ℕ) {inside : Bool} {ts us : List Token5} {x : Block5} (d : IsBlock Exact inside ts x us) → BlockWithin d n → BlockClaim n inside ts x us
  blockC n (g.braces _ xs e s p d) v = block-claim n _ _ _ _ xs e s p (map-opens n (λ m u. (statsC m d u).0) v)

  declaredsC : (n : ℕ) {k : Bool} {ts us : List Token5} {xs : List Declared5} (d : AreDeclared Exact k ts xs us) → DeclaredListWithin d n → DeclaredItems n k ts xs us
  declaredsC n (g.last_declared d) v = item_last (declaredC n d v)
  declaredsC n (g.next_declared d p ds) v = item_next (declaredC n d v.0) p (declaredsC n ds v.1)

  declaredC : (n : ℕ) {k : Bool} {ts us : List Token5} {x : Declared5} (d : IsDeclared Exact k ts x us) → DeclaredWithin d n → DeclaredClaim n k ts x us
  declaredC n (g.uninitialized _ x e s d) v = uninitialized-claim _ _ _ x e s d
  declaredC n (g.initialized _ x init e s d p y) v = initialized-claim n _ _ _ _ _ x init e s d p (map-opens n (λ m u. exprC m y u) v)

  ifC : (n : ℕ) {inside : Bool} {ts us : List Token5} {x : Condition5} {xs : List Condition5} {last : Option Stat5} (d : IsIf Exact inside ts x xs last us) → IfWithin d n → IfClaim n inside ts x xs last us
  ifC n (g.no_else c h) v = no-else _ _ _ (conditionC n c v) h
  ifC n (g.last_else c e h s) v = last-else n _ _ _ _ _ (conditionC n c v.0) e h (map-opens n (λ m u. statC m s u) v.1)
  ifC n (g.else_if c e d) v = else-if _ _ _ _ _ (conditionC n c v.0) e (ifC n d v.1)

  conditionC : (n : ℕ) {inside : Bool} {ts us : List Token5} {x : Condition5} (d : IsCondition Exact inside ts x us) → ConditionWithin d n → ConditionClaim n inside ts x us
  conditionC n (g.condition _ test body e s w p x q b) v = condition-claim n _ _ _ _ _ _ _ test body e s w p (map-opens n (λ m u. exprC m x u) v.0) q (map-opens n (λ m u. statC m b u) v.1)

  firstC : (n : ℕ) {ts us : List Token5} {x : ForFirst5} (d : IsForFirst Exact ts x us) → ForFirstWithin d n → FirstRead n ts x us
  firstC n (g.nothing_first p) v = first-nothing _ _ p
  firstC n (g.var_first ds e w d p) v = first-var _ _ _ _ ds e w (declaredsC n d v) p
  firstC n (g.expression_first x e d p) v = first-expression _ _ _ x e (exprC n d v) p

  optionalC : (n : ℕ) {ts us : List Token5} {x : Option Expr5} (d : IsOptional Exact ts x us) → OptionalWithin d n → OptionalClaim n ts x us
  optionalC n g.absent v = absent_claim
  optionalC n (g.present x) v = present_claim (exprC n x v)

  returnedC : (n : ℕ) {ts us : List Token5} {x : Option Expr5} (d : IsReturned Exact ts x us) → ReturnedWithin d n → ReturnedClaim n ts x us
  returnedC n g.no_value_returned v = nothing_returned
  returnedC n (g.value_returned a x) v = value_returned_ a (exprC n x v)

  casesC : (n : ℕ) {inside may : Bool} {ts us : List Token5} {xs : List Case5} (d : AreCases Exact inside may ts xs us) → CasesWithin d n → CasesRead n inside may ts xs us
  casesC n (g.no_case p) v = cases-none _ _ _ _ p
  casesC n (g.case_clause _ x ss e s w d p ds cs) v = case-reads _ _ _ _ _ _ _ _ x ss e s w (exprC n d v.0) p (inCaseC n ds v.1) (cases-begin cs) (casesC n cs v.2)
  casesC n (g.default_clause _ ss e s w p ds cs) v = default-reads _ _ _ _ _ _ ss e s w p (inCaseC n ds v.0) (cases-begin cs) (casesC n cs v.1)

  inCaseC : (n : ℕ) {inside : Bool} {ts us : List Token5} {xs : List Stat5} (d : AreInCase Exact inside ts xs us) → InCaseWithin d n → InCaseRead n inside ts xs us
  inCaseC n g.no_more_in_case v = in-case-none _ _
  inCaseC n (g.next_in_case d ds) v = in-case-next _ _ _ _ (statC n d v.0) (λ e. inCaseQ n ds v.1 e) (inCaseC n ds v.1)

  inCaseQ : (n : ℕ) {inside : Bool} {ts us : List Token5} {xs : List Stat5} (d : AreInCase Exact inside ts xs us) → InCaseWithin d n → next_is ends_case us ≡ true → Quiet ts
  inCaseQ n (g.no_more_in_case {ts = ts}) v e = ends-quiet ts e
  inCaseQ n (g.next_in_case d ds) v e = (statC n d v.0).quiet

  catchC : (n : ℕ) {inside : Bool} {ts us : List Token5} {x : Catch5} (d : IsCatch Exact inside ts x us) → CatchWithin d n → CatchClaim n inside ts x us
  catchC n (g.handler _ x b e s w p i q d) v = catch-claim n _ _ _ _ _ _ _ x b e s w p v.0 i q (blockC n d v.1)

program-quiet : (n : ℕ) {ts : List Token5} {xs : List Stat5} (d : IsProgram Exact ts xs) → ProgramWithin d n → Quiet ts
program-quiet n g.no_more v = tt
program-quiet n (g.one_more d ds) v = (statC n d v.0).quiet

-- a program is read to its end
pub completeness : (n : ℕ) {ts : List Token5} {xs : List Stat5} (d : IsProgram Exact ts xs) → ProgramWithin d n → ProgramRead n ts xs
completeness n g.no_more v = program-none
completeness n (g.one_more d ds) v = program-next _ _ (statC n d v.0) (program-quiet n ds v.1) (completeness n ds v.1)
