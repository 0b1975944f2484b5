-- What is claimed of each family of the grammar, and each production by what is claimed of its parts.
use Rattle.std.proofs.Common.{◌≡◌, ℕ, suc, ◌+◌, ◌≤◌, Bool, true, false, List, [], ◌∷◌, Some, None, refl, sym, ap, subst, ◌∙◌, arith}
use Rattle.std.proofs.lemmas.Bool.{false≢true}
use Rattle.std.specs.Prelude.{codes}
use Rattle.es6_lexer.specs.declared.token.Punctuator.TheVariants as marks
use Rattle.es6_ast.specs.declared.operators.AssignOperator.{AssignOperator}
use Rattle.es6_ast.specs.declared.operators.AssignOperator.TheVariants as assign
use Rattle.es6_ast.specs.declared.operators.UpdateOperator.{UpdateOperator}
use Rattle.es6_ast.specs.declared.operators.VariableKind.{VariableKind}
use Rattle.es6_ast.specs.declared.tree.Expression.{Expression}
use Rattle.es6_ast.specs.declared.tree.Expression.TheVariants as expr
use Rattle.es6_ast.specs.declared.tree.Statement.{Statement}
use Rattle.es6_ast.specs.declared.tree.Pattern.{Pattern}
use Rattle.es6_ast.specs.declared.tree.Pattern.TheVariants as pattern
use Rattle.es6_ast.specs.declared.tree.ArrayPart.{ArrayPart}
use Rattle.es6_ast.specs.declared.tree.ArrayPart.TheVariants.{SkippedPart, SinglePart, RestPart}
use Rattle.es6_ast.specs.declared.tree.ObjectPart.{ObjectPart}
use Rattle.es6_ast.specs.declared.tree.ObjectPart.TheVariants.{NamedPart, KeyedPart}
use Rattle.es6_ast.specs.declared.tree.Key.{Key}
use Rattle.es6_ast.specs.declared.tree.Block.{Block}
use Rattle.es6_ast.specs.declared.tree.Identifier.{Identifier}
use Rattle.es6_ast.specs.declared.tree.Element.{Element}
use Rattle.es6_ast.specs.declared.tree.Element.TheVariants.{Hole, Present}
use Rattle.es6_ast.specs.declared.tree.Argument.{Argument}
use Rattle.es6_ast.specs.declared.tree.Link.{Link}
use Rattle.es6_ast.specs.declared.tree.Operand.{Operand}
use Rattle.es6_ast.specs.declared.tree.Parameter.{Parameter}
use Rattle.es6_ast.specs.declared.tree.Parameter.TheVariants.{SingleParameter, RestParameter}
use Rattle.es6_ast.specs.declared.tree.Part.{Part}
use Rattle.es6_ast.specs.declared.tree.ForFirst.{ForFirst}
use Rattle.es6_ast.specs.declared.tree.ForFirst.TheVariants.{NoFirst}
use Rattle.es6_ast.specs.declared.tree.ForTarget.{ForTarget}
use Rattle.es6_ast.specs.declared.tree.ForTarget.TheVariants.{Declared, Assigned}
use Rattle.es_text.specs.declared.Span.{Span}
use Rattle.es6_ast.specs.declared.settings.Flags.{Flags}
use Rattle.es6_ast.specs.declared.settings.Stand.TheVariants.{Listed}
use Rattle.es6_ast.specs.Tokens.{Filled, Read, IsWord, IsMark, IsOnLine, across}
use Rattle.es6_ast.specs.Targets.{is_pattern}
use Rattle.es6_ast.specs.Grammar as g
use Rattle.es6_ast.specs.Grammar.{with_in, without_in, of_function, is_plain, is_before, update_kind, assign_kind, level_left_hand_side, chain_level, kind_word, name_target, name_alone, NotStar, IsName, IsTarget, IsExpression, IsNode, AreOperands}
use Rattle.es6_reading.specs.Parser.{next_is, mark}
use Rattle.es6_reading.specs.Refine.{Fits, made_part, target_before, refine_pattern}
use Rattle.es6_reading.specs.Statements.{OfHeader, ends_case}
use Rattle.es6_reading.specs.Modules.{readers}
use Rattle.es6_reading.proofs.Posts.{Misses}
use Rattle.es6_reading.proofs.Reading.{Eventually, deeper}
use Rattle.es6_reading.proofs.Exactly.{ReadsExactly}
use Rattle.es6_reading.proofs.Cover.{itself-sure, updated}
use Rattle.es6_reading.proofs.CompleteTokens.{level-low, level-high}
use Rattle.es6_reading.proofs.CompleteImports.{R, mark-no-mark}
use Rattle.es6_reading.proofs.CompleteClaims.{Claim, claim-down}
use Rattle.es6_reading.proofs.CompleteLists.{ArgumentClaim, ElementsRead, elements-none, elements-hole, elements-last, elements-comma, elements-next, MoreClaim, ArgumentsRead, arguments-none, arguments-some}
use Rattle.es6_reading.proofs.CompleteLevels.{no-before}
use Rattle.es6_reading.proofs.CompleteOperators.{after-claim, OperandsClaim, binary-claim}
use Rattle.es6_reading.proofs.CompleteChains.{LinksClaim, super-call-claim, super-call-heads, super-chain-claim, CalleeClaim, new-bare-claim, callee-new}
use Rattle.es6_reading.proofs.CompleteAssignments.{enough-turns, assignment-claim}
use Rattle.es6_reading.proofs.CompleteKeys.{KeyClaim}
use Rattle.es6_reading.proofs.CompleteParts.{PartsClaim, SplitClaim, split-alone, split-sequence}
use Rattle.es6_reading.proofs.CompleteStatements.{Quiet, StatementClaim, quiet-kind, BlockClaim, StatementsRead, statements-none, statements-next, BindingRead}
use Rattle.es6_reading.proofs.CompleteSwitches.{InCaseRead, in-case-none, in-case-next, ends-quiet}
use Rattle.es6_reading.proofs.CompleteFor.{FirstRead, first-nothing, HeaderRead, declared-header, assigned-header}
use Rattle.es6_reading.proofs.CompleteFunctions.{MoreParametersClaim, parameters-rest, parameters-last, parameters-next, ParametersRead, parameters-none, parameters-some}
use Rattle.es6_reading.proofs.CompleteBindings.{Like, TargetClaim, name-target, array-target, ArrayPartsRead, array-none, array-skipped, array-rest, array-last, array-next, PartClaim, part-alone, part-with-default}
use Rattle.es6_reading.proofs.CompleteParameters.{ObjectPartClaim, ObjectPartsRead, object-none, object-last, object-next, object-target, named-claim, named-default-claim, keyed-claim, parameter-claim}
use Rattle.es6_reading.proofs.CompletePatterns as p
use Rattle.es6_reading.proofs.CompletePatterns.{TargetRead, PartRead, PartsRead, RestRead, PropertyRead, ObjectRead}
use Rattle.es6_reading.proofs.CompleteArrows.{ListRead, empty_list, rest_alone, last-list, next-list}

-- ## Expressions

pub record NodeClaim (f : Flags) (level : ℕ) (ts us : List Filled) (x : Expression) : Type 0 where
  pub claim : Claim f level ts us x
  pub split : level ≡ 0 → SplitClaim f ts us x
  pub callee : level ≡ 16 → CalleeClaim f ts us x

no-zero : (level : ℕ) → 1 ≤ level → level ≡ 0 → ⊥
no-zero level l e = omega arith

high-sixteen : (level : ℕ) → 17 ≤ level → level ≡ 16 → ⊥
high-sixteen level l e = omega arith

low-sixteen : (level : ℕ) → level ≤ 15 → level ≡ 16 → ⊥
low-sixteen level l e = omega arith

pub high-node : (f : Flags) (level : ℕ) {ts us : List Filled} {x : Expression} → 17 ≤ level → Claim f level ts us x → NodeClaim f level ts us x
high-node f level l c = record { claim = c; split = λ e. absurd (no-zero level (omega arith) e); callee = λ e. absurd (high-sixteen level l e) }

pub low-node : (f : Flags) (level : ℕ) {ts us : List Filled} {x : Expression} → 1 ≤ level → level ≤ 15 → Claim f level ts us x → NodeClaim f level ts us x
low-node f level l h c = record { claim = c; split = λ e. absurd (no-zero level l e); callee = λ e. absurd (low-sixteen level h e) }

pub new-node : (f : Flags) {t : Filled} {ts us : List Filled} {callee x : Expression} → IsWord (codes "new") t → CalleeClaim f ts us callee → x ≡ expr.New (across (t ∷ ts) us) callee [] → NodeClaim f 16 (t ∷ ts) us x
new-node f w c e = record { claim = new-bare-claim f w c e; split = λ k. absurd (no-zero 16 (omega arith) k); callee = λ k. callee-new f w c e }

pub chain-node : (f : Flags) (calls : Bool) {ts us : List Filled} {x : Expression} → Claim f (chain_level calls) ts us x → NodeClaim f (chain_level calls) ts us x
chain-node f true c = high-node f 17 (omega arith) c
chain-node f false c = high-node f 18 (omega arith) c

pub sequence-node : (f : Flags) {ts us : List Filled} {first y x : Expression} {rest : List Expression} → PartsClaim f ts first (y ∷ rest) us → x ≡ expr.Sequence (across ts us) first (y ∷ rest) → NodeClaim f 0 ts us x
sequence-node f d e = let s = split-sequence f d e in record { claim = s.claim; split = λ k. s; callee = λ k. absurd (low-sixteen 0 (omega arith) k) }

pub record ExpressionClaim (f : Flags) (least : ℕ) (ts us : List Filled) (x : Expression) : Type 0 where
  pub claim : Claim f least ts us x
  pub split : SplitClaim f ts us x

pub lowest : (f : Flags) (least : ℕ) {ts us : List Filled} {x : Expression} → least ≤ 0 → NodeClaim f 0 ts us x → ExpressionClaim f least ts us x
lowest f least {ts = ts} {us = us} {x = x} h n = record { claim = claim-down f least 0 ts us x h n.claim; split = n.split refl }

pub higher : (f : Flags) (least level : ℕ) {ts us : List Filled} {x : Expression} → least ≤ suc level → IsNode f (suc level) ts x us → NodeClaim f (suc level) ts us x → ExpressionClaim f least ts us x
higher f least level {ts = ts} {us = us} {x = x} h d n = record { claim = claim-down f least (suc level) ts us x h n.claim; split = split-alone f (omega arith) d n.claim }

pub record SuperClaim (f : Flags) (ts us : List Filled) (x : Expression) : Type 0 where
  pub claim : Claim f 17 ts us x
  pub chain : (calls : Bool) (vs : List Filled) (l : Link) (ls : List Link) (y : Expression) → LinksClaim f calls us vs (l ∷ ls) → y ≡ expr.Chain (across ts vs) x (l ∷ ls) → Claim f 17 ts vs y

pub super-claim : (f : Flags) {t o : Filled} {ts us : List Filled} {as_ : List Argument} {x : Expression} → IsWord (codes "super") t → IsMark marks.LeftParenthesis o → ArgumentsRead f ts as_ us → x ≡ expr.SuperCall (across (t ∷ o ∷ ts) us) as_ → SuperClaim f (t ∷ o ∷ ts) us x
super-claim f w p d e = record { claim = super-call-claim f w p d e; chain = λ calls vs l ls y k q. super-chain-claim f calls w (super-call-heads f w p d e) k q }

pub operands-level : {f : Flags} {level : ℕ} {ts us : List Filled} {o : Operand} {os : List Operand} → AreOperands f level ts (o ∷ os) us → (3 ≤ level) × (level ≤ 12)
operands-level {level = level} (g.next_operand op value o rest l n h d e os) = (subst (λ m. 3 ≤ m) l (level-low op), subst (λ m. m ≤ 12) l (level-high op))

pub binary-node : (f : Flags) (level : ℕ) {ts us vs : List Filled} {first x : Expression} {o : Operand} {rest : List Operand} → (3 ≤ level) × (level ≤ 12) → Claim f (level + 1) ts us first → OperandsClaim f level us (o ∷ rest) vs → x ≡ expr.Binary (across ts vs) first (o ∷ rest) → NodeClaim f level ts vs x
binary-node f level l c os e = low-node f level (omega (arith, l.0)) (omega (arith, l.1)) (binary-claim f level l.0 l.1 c os e)

pub after-node : (f : Flags) {t : Filled} {ts us : List Filled} {target x : Expression} (op : UpdateOperator) → is_before op ≡ false → Claim f 16 ts (t ∷ us) target → t.kind ≡ Read (update_kind op) → IsOnLine t → x ≡ expr.Update (across ts us) op target → NodeClaim f 15 ts us x
after-node f {ts = ts} op b c h l e = low-node f 15 (omega arith) (omega arith) (after-claim f op b c h l (no-before ts (c.operand (omega arith))) e)

-- ## Lists of elements and arguments

abbrev pub IsMore : {A : Type 0} → List A → Type 0
IsMore [] = ⊥
IsMore (x ∷ xs) = Unit {0}

pub record ElementsClaim (f : Flags) (comma : Bool) (ts : List Filled) (es : List Element) (us : List Filled) : Type 0 where
  pub reads : ElementsRead f comma ts es us
  pub no_square : IsMore es → Misses (mark marks.RightBracket) ts

pub no-elements : (f : Flags) {c : Filled} {us : List Filled} → IsMark marks.RightBracket c → ElementsClaim f false (c ∷ us) [] us
no-elements f h = record { reads = elements-none f h; no_square = λ m. absurd m }

pub a-hole : (f : Flags) {comma : Bool} {c : Filled} {ts us : List Filled} {e : Element} {es : List Element} → IsMark marks.Comma c → e ≡ Hole → ElementsClaim f comma ts es us → ElementsClaim f comma (c ∷ ts) (e ∷ es) us
a-hole f {c = c} h k d = record { reads = elements-hole f h k d.reads; no_square = λ m. mark-no-mark marks.RightBracket marks.Comma c h refl }

pub last-element : (f : Flags) {c : Filled} {ts us : List Filled} {e : Element} {a : Argument} → ArgumentClaim f ts (c ∷ us) a → IsMark marks.RightBracket c → e ≡ Present a → ElementsClaim f false ts (e ∷ []) us
last-element f x h k = record { reads = elements-last f x h k; no_square = λ m. x.no_square }

pub comma-element : (f : Flags) {c m : Filled} {ts us : List Filled} {e : Element} {a : Argument} → ArgumentClaim f ts (m ∷ c ∷ us) a → IsMark marks.Comma m → IsMark marks.RightBracket c → e ≡ Present a → ElementsClaim f true ts (e ∷ []) us
comma-element f x h q k = record { reads = elements-comma f x h q k; no_square = λ m. x.no_square }

pub next-element : (f : Flags) {comma : Bool} {m : Filled} {ts us vs : List Filled} {e d : Element} {es : List Element} {a : Argument} → ArgumentClaim f ts (m ∷ us) a → IsMark marks.Comma m → e ≡ Present a → ElementsClaim f comma us (d ∷ es) vs → ElementsClaim f comma ts (e ∷ d ∷ es) vs
next-element f x h k d = record { reads = elements-next f x h k (d.no_square tt) d.reads; no_square = λ m. x.no_square }

pub record ArgumentsClaim (f : Flags) (ts : List Filled) (as_ : List Argument) (us : List Filled) : Type 0 where
  pub reads : ArgumentsRead f ts as_ us
  pub more : IsMore as_ → MoreClaim f ts as_ us

pub no-arguments : (f : Flags) {c : Filled} {us : List Filled} → IsMark marks.RightParenthesis c → ArgumentsClaim f (c ∷ us) [] us
no-arguments f h = record { reads = arguments-none f h; more = λ m. absurd m }

pub some-arguments : (f : Flags) {ts us : List Filled} {as_ : List Argument} → MoreClaim f ts as_ us → ArgumentsClaim f ts as_ us
some-arguments f d = record { reads = arguments-some f d; more = λ m. d }

-- ## What is assigned

pub record AssignedClaim (f : Flags) (op : AssignOperator) (ts us : List Filled) (y : Pattern) : Type 0 where
  pub value : Expression
  pub claim : Claim f 16 ts us value
  pub enough : ℕ
  pub becomes : (n : ℕ) → enough ≤ n → target_before n op value ≡ Fits y

pub pattern-assigned : (f : Flags) {ts us : List Filled} {y : Pattern} → TargetRead false f ts us y → AssignedClaim f assign.Assign ts us y
pattern-assigned f t = record { value = t.value; claim = t.claim; enough = (t.sure false p.freely).enough; becomes = p.assigned-before t }

pub itself-assigned : (f : Flags) {ts us : List Filled} {y : Expression} {x : Pattern} → IsExpression f level_left_hand_side ts y us → Claim f 16 ts us y → is_pattern y ≡ false → x ≡ pattern.Target y → AssignedClaim f assign.Assign ts us x
unfolding target_before refine_pattern
itself-assigned f {y = y} d c h e = let s = itself-sure d h in record { value = y; claim = c; enough = s.enough; becomes = λ n l. s.refined n l ∙ ap Fits (sym e) }

pub updated-assigned : (f : Flags) (op : AssignOperator) {ts us : List Filled} {y : Expression} {x : Pattern} → is_plain op ≡ false → Claim f 16 ts us y → x ≡ pattern.Target y → AssignedClaim f op ts us x
updated-assigned f op {y = y} h c e = record { value = y; claim = c; enough = 0; becomes = λ n l. updated op n y h ∙ ap Fits (sym e) }

pub assignment-node : (f : Flags) {t : Filled} {ts us vs : List Filled} {value x : Expression} {target : Pattern} (op : AssignOperator) → AssignedClaim f op ts (t ∷ us) target → t.kind ≡ Read (assign_kind op) → Claim f 1 us vs value → x ≡ expr.Assign (across ts vs) op target value → NodeClaim f 1 ts vs x
assignment-node f op a h v e = low-node f 1 (omega arith) (omega arith) (assignment-claim f op a.claim a.enough a.becomes h v e)

-- ## Patterns: as expressions that are refined to them, and where they bind

pub record TargetBoth (b : Bool) (f : Flags) (ts us : List Filled) (y : Pattern) : Type 0 where
  pub read : TargetRead b f ts us y
  pub bound : b ≡ true → TargetClaim f ts us y

pub bound-target : (f : Flags) {ts us : List Filled} {n : Identifier} {y : Pattern} → IsName ts n us → y ≡ name_target n → TargetBoth true f ts us y
bound-target f d e = record { read = p.name-target-read true f d e; bound = λ k. name-target f d e }

pub simple-target : (f : Flags) {ts us : List Filled} {y : Pattern} → TargetRead false f ts us y → TargetBoth false f ts us y
simple-target f t = record { read = t; bound = λ k. absurd (false≢true k) }

pub record ArrayBoth (b : Bool) (f : Flags) (ts : List Filled) (es : List ArrayPart) (us : List Filled) : Type 0 where
  pub read : PartsRead b f ts es us
  pub bound : b ≡ true → ArrayPartsRead (with_in f) ts es us

pub record ObjectBoth (b : Bool) (f : Flags) (ts : List Filled) (es : List ObjectPart) (us : List Filled) : Type 0 where
  pub read : ObjectRead b f ts us es
  pub bound : b ≡ true → ObjectPartsRead (with_in f) ts es us

pub array-both : (b : Bool) (f : Flags) {t : Filled} {ts us : List Filled} {es : List ArrayPart} {y : Pattern} → IsMark marks.LeftBracket t → ArrayBoth b f ts es us → y ≡ pattern.ArrayPattern (across (t ∷ ts) us) es → TargetBoth b f (t ∷ ts) us y
array-both b f h d e = record { read = p.array-target-read b f h d.read e; bound = λ k. array-target f h (d.bound k) e }

pub object-both : (b : Bool) (f : Flags) {t : Filled} {ts us : List Filled} {es : List ObjectPart} {y : Pattern} → IsMark marks.LeftBrace t → ObjectBoth b f ts es us → y ≡ pattern.ObjectPattern (across (t ∷ ts) us) es → TargetBoth b f (t ∷ ts) us y
object-both b f h d e = record { read = p.object-target-read b f h d.read e; bound = λ k. object-target f h (d.bound k) e }

-- ## Parts of patterns

pub record PartBoth (b : Bool) (f : Flags) (ts us : List Filled) (q : Part) : Type 0 where
  pub read : PartRead b f ts us q
  pub bound : b ≡ true → PartClaim (with_in f) ts us q

pub alone-both : (b : Bool) (f : Flags) {ts us : List Filled} {y : Pattern} {q : Part} → TargetBoth b (with_in f) ts us y → q ≡ made_part (across ts us) None y → PartBoth b f ts us q
alone-both b f t e = record { read = p.part-alone-read b f t.read e; bound = λ k. part-alone (with_in f) (t.bound k) e }

pub default-both : (b : Bool) (f : Flags) {equals : Filled} {ts us vs : List Filled} {y : Pattern} {value : Expression} {q : Part} → IsTarget (with_in f) b ts y (equals ∷ us) → TargetBoth b (with_in f) ts (equals ∷ us) y → IsMark marks.Assign equals → Claim (with_in f) 1 us vs value → q ≡ made_part (across ts vs) (Some value) y → PartBoth b f ts vs q
default-both b f d t h v e = record { read = p.part-with-default-read b f d t.read h v e; bound = λ k. part-with-default (with_in f) (t.bound k) h v e }

pub no-array-part : (b : Bool) (f : Flags) {c : Filled} {us : List Filled} → IsMark marks.RightBracket c → ArrayBoth b f (c ∷ us) [] us
no-array-part b f h = record { read = p.no_parts h; bound = λ k. array-none (with_in f) h }

pub skipped-part : (b : Bool) (f : Flags) {c : Filled} {ts us : List Filled} {e : ArrayPart} {es : List ArrayPart} → IsMark marks.Comma c → e ≡ SkippedPart → ArrayBoth b f ts es us → ArrayBoth b f (c ∷ ts) (e ∷ es) us
skipped-part b f h k d = record { read = p.skipped-read b f h k d.read; bound = λ m. array-skipped (with_in f) h k (d.bound m) }

pub last-array-part : (b : Bool) (f : Flags) {c : Filled} {ts us : List Filled} {q : Part} {e : ArrayPart} → PartBoth b f ts (c ∷ us) q → IsMark marks.RightBracket c → e ≡ SinglePart q → ArrayBoth b f ts (e ∷ []) us
last-array-part b f x h k = record { read = p.last-part-read b f x.read h k; bound = λ m. array-last (with_in f) (x.bound m) h k }

pub next-array-part : (b : Bool) (f : Flags) {c : Filled} {ts us vs : List Filled} {q : Part} {e : ArrayPart} {es : List ArrayPart} → PartBoth b f ts (c ∷ us) q → IsMark marks.Comma c → e ≡ SinglePart q → ArrayBoth b f us es vs → ArrayBoth b f ts (e ∷ es) vs
next-array-part b f x h k d = record { read = p.next-part-read b f x.read h k d.read; bound = λ m. array-next (with_in f) (x.bound m) h k (d.bound m) }

-- a rest that binds is a name
pub record RestBoth (b : Bool) (f : Flags) (ts us : List Filled) (y : Pattern) : Type 0 where
  pub read : RestRead b f ts us y
  pub bound : b ≡ true → (n : Identifier) × IsName ts n us × (y ≡ name_target n)

pub bound-rest : (f : Flags) {ts us : List Filled} {n : Identifier} {y : Pattern} → IsName ts n us → y ≡ name_target n → RestBoth true f ts us y
bound-rest f {n = n} d e = record { read = p.bound-rest-read true f d e; bound = λ k. (n, d, e) }

pub assigned-rest : (f : Flags) {ts us : List Filled} {y : Pattern} → TargetBoth false f ts us y → RestBoth false f ts us y
assigned-rest f t = record { read = p.assigned-rest-read f t.read; bound = λ k. absurd (false≢true k) }

pub rest-array-part : (b : Bool) (f : Flags) {t c : Filled} {ts us : List Filled} {y : Pattern} {e : ArrayPart} → IsMark marks.Ellipsis t → RestBoth b (with_in f) ts (c ∷ us) y → IsMark marks.RightBracket c → e ≡ RestPart (across (t ∷ ts) (c ∷ us)) y → ArrayBoth b f (t ∷ ts) (e ∷ []) us
rest-array-part b f h x q e = record { read = p.rest-part-read b f h x.read q e; bound = λ k. let n = x.bound k in array-rest (with_in f) h n.1 n.2 q e }

pub record PropertyBoth (b : Bool) (f : Flags) (ts us : List Filled) (e : ObjectPart) : Type 0 where
  pub read : PropertyRead b f ts us e
  pub bound : b ≡ true → ObjectPartClaim (with_in f) ts us e

pub named-both : (b : Bool) (f : Flags) {ts us : List Filled} {n : Identifier} {e : ObjectPart} → IsName ts n us → e ≡ NamedPart (name_alone n) → PropertyBoth b f ts us e
named-both b f d k = record { read = p.named-read b f d k; bound = λ m. named-claim (with_in f) d k }

pub named-default-both : (b : Bool) (f : Flags) {equals : Filled} {ts us vs : List Filled} {n : Identifier} {value : Expression} {e : ObjectPart} → IsName ts n (equals ∷ us) → IsMark marks.Assign equals → Claim (with_in f) 1 us vs value → e ≡ NamedPart (made_part (across ts vs) (Some value) (name_target n)) → PropertyBoth b f ts vs e
named-default-both b f d h v k = record { read = p.named-default-read b f d h v k; bound = λ m. named-default-claim (with_in f) d h v k }

pub keyed-both : (b : Bool) (f : Flags) {colon : Filled} {ts us vs : List Filled} {k : Key} {q : Part} {e : ObjectPart} → KeyClaim (with_in f) ts k (colon ∷ us) → IsMark marks.Colon colon → PartBoth b f us vs q → e ≡ KeyedPart (across ts vs) k q → PropertyBoth b f ts vs e
keyed-both b f d h x i = record { read = p.keyed-read b f d h x.read i; bound = λ m. keyed-claim (with_in f) d h (x.bound m) i }

pub no-object-part : (b : Bool) (f : Flags) {c : Filled} {us : List Filled} → IsMark marks.RightBrace c → ObjectBoth b f (c ∷ us) [] us
no-object-part b f h = record { read = p.no-properties-read b f h; bound = λ k. object-none (with_in f) h }

pub last-object-part : (b : Bool) (f : Flags) {c : Filled} {ts us : List Filled} {e : ObjectPart} → PropertyBoth b f ts (c ∷ us) e → IsMark marks.RightBrace c → ObjectBoth b f ts (e ∷ []) us
last-object-part b f x h = record { read = p.last-property-read b f x.read h; bound = λ k. object-last (with_in f) (x.bound k) h }

pub next-object-part : (b : Bool) (f : Flags) {c : Filled} {ts us vs : List Filled} {e : ObjectPart} {es : List ObjectPart} → PropertyBoth b f ts (c ∷ us) e → IsMark marks.Comma c → ObjectBoth b f us es vs → ObjectBoth b f ts (e ∷ es) vs
next-object-part b f x h d = record { read = p.next-property-read b f x.read h d.read; bound = λ k. object-next (with_in f) (x.bound k) h (d.bound k) }

-- ## Parameters: before an arrow, and of a function

pub record ParametersBoth (f : Flags) (ts : List Filled) (es : List Parameter) (us : List Filled) : Type 0 where
  pub list : ListRead f ts es us
  pub reads : ParametersRead (with_in f) ts es us
  pub more : IsMore es → MoreParametersClaim (with_in f) ts es us

pub no-parameter : (f : Flags) {c : Filled} {us : List Filled} → IsMark marks.RightParenthesis c → ParametersBoth f (c ∷ us) [] us
no-parameter f h = record { list = empty_list h; reads = parameters-none (with_in f) h; more = λ m. absurd m }

some-parameters : (f : Flags) {ts us : List Filled} {es : List Parameter} → ListRead f ts es us → MoreParametersClaim (with_in f) ts es us → ParametersBoth f ts es us
some-parameters f l m = record { list = l; reads = parameters-some (with_in f) m; more = λ k. m }

pub rest-parameter : (f : Flags) {t c : Filled} {ts us : List Filled} {n : Identifier} {e : Parameter} → IsMark marks.Ellipsis t → IsName ts n (c ∷ us) → IsMark marks.RightParenthesis c → e ≡ RestParameter (across (t ∷ ts) (c ∷ us)) (name_target n) → ParametersBoth f (t ∷ ts) (e ∷ []) us
rest-parameter f {n = n} h d q k = some-parameters f (rest_alone n h d q k) (parameters-rest (with_in f) h d q k)

pub last-parameter : (f : Flags) {c : Filled} {ts us : List Filled} {q : Part} {e : Parameter} → PartBoth true f ts (c ∷ us) q → IsMark marks.RightParenthesis c → e ≡ SingleParameter q → ParametersBoth f ts (e ∷ []) us
last-parameter f x h k = some-parameters f (last-list f x.read h k) (parameters-last (with_in f) (parameter-claim f (x.bound refl)) h k)

pub next-parameter : (f : Flags) {c : Filled} {ts us vs : List Filled} {q : Part} {e d : Parameter} {es : List Parameter} → PartBoth true f ts (c ∷ us) q → IsMark marks.Comma c → e ≡ SingleParameter q → ParametersBoth f us (d ∷ es) vs → ParametersBoth f ts (e ∷ d ∷ es) vs
next-parameter f x h k d = some-parameters f (next-list f x.read h k d.list) (parameters-next (with_in f) (parameter-claim f (x.bound refl)) h k (d.more tt))

-- a setter's parameter is no rest
pub no-rest : (e : Parameter) (q : Part) (span : Span) (y : Pattern) → e ≡ SingleParameter q → e ≡ RestParameter span y → ⊥
no-rest e q span y h k = absurd (cc)

-- ## Statements

pub record StatementsClaim (f : Flags) (ts : List Filled) (xs : List Statement) (us : List Filled) : Type 0 where
  pub reads : StatementsRead f ts xs us
  pub quiet : Quiet ts

pub no-statement : (f : Flags) {c : Filled} {us : List Filled} → IsMark marks.RightBrace c → StatementsClaim f (c ∷ us) [] us
no-statement f {c = c} {us = us} h = record { reads = statements-none f h; quiet = quiet-kind c us _ h refl }

pub next-statement : (f : Flags) {ts us vs : List Filled} {x : Statement} {xs : List Statement} → StatementClaim f Listed ts us x → StatementsClaim f us xs vs → StatementsClaim f ts (x ∷ xs) vs
next-statement f c d = record { reads = statements-next f c d.quiet d.reads; quiet = c.quiet }

pub record InCaseClaim (f : Flags) (ts : List Filled) (xs : List Statement) (us : List Filled) : Type 0 where
  pub reads : InCaseRead f ts xs us
  pub quiet : next_is ends_case us ≡ true → Quiet ts

pub no-more-in-case : (f : Flags) (us : List Filled) → InCaseClaim f us [] us
no-more-in-case f us = record { reads = in-case-none f us; quiet = λ e. ends-quiet us e }

pub next-in-case : (f : Flags) {ts us vs : List Filled} {x : Statement} {xs : List Statement} → StatementClaim f Listed ts us x → InCaseClaim f us xs vs → InCaseClaim f ts (x ∷ xs) vs
next-in-case f c d = record { reads = in-case-next f c d.quiet d.reads; quiet = λ e. c.quiet }

pub open-block : (f : Flags) {ts us : List Filled} {b : Block} → BlockClaim f ts us b → Eventually (λ n k r. ReadsExactly ((R k r).block f) b ts us)
unfolding readers
open-block f c = deeper c.reads (λ n k r y. y)

-- what is bound, where it is read with other flags for `in`
pub bound-read : (f h : Flags) {ts us : List Filled} {y : Pattern} → Like h f → TargetBoth true f ts us y → BindingRead h ts y us
bound-read f h l t = (t.bound refl).reads h l

-- ## The headers of `for`

pub no-first : (f : Flags) {e : Filled} {us : List Filled} {x : ForFirst} → IsMark marks.Semicolon e → x ≡ NoFirst → FirstRead f (e ∷ us) x us
no-first f {e = e} {us = us} h k = subst (λ z. FirstRead f (e ∷ us) z us) (sym k) (first-nothing f h)

-- what is assigned in turn, before `of`
pub record TurnClaim (f : Flags) (ts : List Filled) (target : ForTarget) (bs : List Filled) : Type 0 where
  pub reads : (u c : Filled) (us vs : List Filled) (subject : Expression) → bs ≡ u ∷ us → IsWord (codes "of") u → Claim (with_in f) 1 us (c ∷ vs) subject → IsMark marks.RightParenthesis c → HeaderRead f ts (OfHeader target subject) vs

pub declared-turn : (f : Flags) (kind : VariableKind) {t : Filled} {ts us : List Filled} {y : Pattern} {target : ForTarget} → IsWord (kind_word kind) t → TargetBoth true f ts us y → target ≡ Declared (across (t ∷ ts) us) kind y → TurnClaim f (t ∷ ts) target us
declared-turn f kind {t = t} {ts = ts} {y = y} w d e = record {
  reads = λ u c us vs subject b o a q. declared-header f kind w (subst (λ zs. BindingRead (without_in f) ts y zs) b (bound-read f (without_in f) refl d)) o a q (e ∙ ap (λ zs. Declared (across (t ∷ ts) zs) kind y) b);
}

pub assigned-turn : (f : Flags) {ts us : List Filled} {y : Pattern} {target : ForTarget} → AssignedClaim (without_in f) assign.Assign ts us y → target ≡ Assigned y → TurnClaim f ts target us
assigned-turn f {ts = ts} {y = y} d e = record {
  reads = λ u c us vs subject b o a q. assigned-header f (subst (λ zs. Claim (without_in f) 16 ts zs d.value) b d.claim) (enough-turns {P = λ n. target_before n assign.Assign d.value ≡ Fits y} d.enough d.becomes) o a q e;
}

pub in-turn : (f : Flags) {u c : Filled} {ts us vs : List Filled} {target : ForTarget} {subject : Expression} → TurnClaim f ts target (u ∷ us) → IsWord (codes "of") u → Claim (with_in f) 1 us (c ∷ vs) subject → IsMark marks.RightParenthesis c → HeaderRead f ts (OfHeader target subject) vs
in-turn f {u = u} {c = c} {us = us} {vs = vs} {subject = subject} d o a q = d.reads u c us vs subject refl o a q
