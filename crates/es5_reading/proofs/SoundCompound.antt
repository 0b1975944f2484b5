-- What the readers of loops, jumps, switches, tries and labels give is derived, and so is every statement.
use Rattle.std.proofs.Common.{◌≡◌, ℕ, zero, suc, Bool, true, false, ◌||◌, List, [], ◌∷◌, Option, Some, None, refl, sym, ap, subst}
use Rattle.std.specs.Prelude.{codes}
use Rattle.es5_ast.specs.declared.tree.Identifier5.{Identifier5}
use Rattle.es5_ast.specs.declared.tree.Stat5.{Stat5}
use Rattle.es5_ast.specs.declared.tree.Stat5.TheVariants as stat
use Rattle.es5_ast.specs.declared.tree.Declared5.{Declared5}
use Rattle.es5_ast.specs.declared.tree.Block5.{Block5}
use Rattle.es5_ast.specs.declared.tree.ForFirst5.{ForFirst5}
use Rattle.es5_ast.specs.declared.tree.ForFirst5.TheVariants as for_first
use Rattle.es5_ast.specs.declared.tree.Case5.{Case5, roll-Case5}
use Rattle.es5_ast.specs.declared.tree.Catch5.{Catch5, roll-Catch5}
use Rattle.es5_ast.specs.declared.tree.Function5.{Function5}
use Rattle.es5_ast.specs.declared.tree.Expr5.{Expr5}
use Rattle.es5_ast.specs.Lexical.{Token5}
use Rattle.es5_ast.specs.Grammar as g
use Rattle.es5_ast.specs.Grammar.{Mode5, Exact, IsExpr, IsStat, IsBlock, AreStats, AreDeclared, IsDeclared, IsIf, IsCondition, IsForFirst, IsOptional, IsClosed, IsLabel, IsReturned, AreCases, AreInCase, IsCatch, IsFunction, IsIdentifier, IsMark, IsWord, IsEnd, IsOnLine, is_mark, is_word, is_identifier, ends, begins, begin_of}
use Rattle.es5_ast.specs.Within.{Opens, ForFirstWithin, OptionalWithin, ReturnedWithin, CasesWithin, InCaseWithin, CatchWithin}
use Rattle.es5_reading.specs.Parser.{Input5, next_is, next_mark, Read5, Inner5}
use Rattle.es5_reading.specs.Expressions.{free_name}
use Rattle.es5_reading.specs.Statements.{do_statement, while_statement, after_first_declared, for_var, for_expression, for_first_part, optional, Header5, for_header, for_statement, label_if, label_at, optional_label, continue_statement, break_statement, goes_on, returned, return_statement, begins_line, throw_statement, in_case, case_clause, default_clause, cases, switch_statement, catch_parameter, handler, after_handler, only_finally, try_statement, debugger_statement, declaration, expression_end, labelled, label_of, label_or_end, expression_statement, plain_statement, jump_statement, compound_statement, block_statement, statement}
use Rattle.es5_reading.proofs.Posts.{Holds, took, fault, bind, weaken, choose-holds, if-holds}
use Rattle.es5_reading.proofs.Meanings.{free-name-means, or_false, not_true}
use Rattle.es5_reading.proofs.Spans.{Moves, Goes, stays, goes, goes-on, then-goes, ◌⟫◌, span-across}
use Rattle.es5_reading.proofs.Derived.{ReadIn, ReadOpen, both_open, Next, next, on-means, one, on-mark, take-mark, on-word, take-word, group-holds}
use Rattle.es5_reading.proofs.SoundParts.{StatOpen, DeclaredOpen, Sound, IdentifierIn, identifier-rule, sound-identifier, braced, parenthesized as in_parentheses, FunctionRest, rest_of, sound-rest-of-function}
use Rattle.es5_reading.proofs.SoundLevels.{sound-sequence}
use Rattle.es5_reading.proofs.SoundStatements.{StatIn, sound-semicolon, begins-mark, begins-word, BlockIn, sound-block, DeclaredListOpen, list_open, sound-open-list, sound-var, ParenOpen, paren, sound-paren, sound-if}

-- ## Loops

do-rule : (n : ℕ) {inside top : Bool} {s a b d e c : Input5} {body : Stat5} {x : Expr5} → Next (IsWord (codes "do")) s a → StatOpen n inside false a body b → Next (IsWord (codes "while")) b d → ParenOpen n d x e → Next IsEnd e c
    → StatIn n inside top s (stat.DoWhile (record { begin = begin_of s.tokens; end = c.last }) body x) c
do-rule n (next w) (m, d, v) (next u) (paren (next p) m' d' v' (next q)) (next e) =
    (one ⟫ m ⟫ one ⟫ one ⟫ m' ⟫ one ⟫ one, g.do_while _ _ _ refl (span-across (one {last = 0} ⟫ m ⟫ one ⟫ one ⟫ m' ⟫ one ⟫ one)) w d u p d' q e, (v, v'))

sound-do : (i : Inner5) (n : ℕ) (sound : Sound i n) (inside top : Bool) (s a : Input5) → Next (IsWord (codes "do")) s a → Holds (StatIn n inside top s) (do_statement i inside (begin_of s.tokens) a)
unfolding do_statement
sound-do i n sound inside top s a w = bind (sound.statement inside false a) λ body b d. bind (take-word _ b) λ t e u. bind (sound-paren i n sound e) λ x f p. bind (sound-semicolon i n sound f) λ v c h. took (do-rule n w d u p h)

while-rule : (n : ℕ) {inside top : Bool} {s a b c : Input5} {body : Stat5} {x : Expr5} → Next (IsWord (codes "while")) s a → ParenOpen n a x b → StatOpen n inside false b body c
    → StatIn n inside top s (stat.While (record { begin = begin_of s.tokens; end = c.last }) x body) c
while-rule n (next w) (paren (next p) m d v (next q)) (m', d', v') = (one ⟫ one ⟫ m ⟫ one ⟫ m', g.while _ _ _ refl (span-across (one {last = 0} ⟫ one ⟫ m ⟫ one ⟫ m')) w p d q d', (v, v'))

sound-while : (i : Inner5) (n : ℕ) (sound : Sound i n) (inside top : Bool) (s a : Input5) → Next (IsWord (codes "while")) s a → Holds (StatIn n inside top s) (while_statement i inside (begin_of s.tokens) a)
unfolding while_statement
sound-while i n sound inside top s a w = bind (sound-paren i n sound a) λ x b p. bind (sound.statement inside false b) λ body c d. took (while-rule n w p d)

abbrev FirstOpen : ℕ → Input5 → ForFirst5 → Input5 → Type 0
FirstOpen n s x c = Moves s c × (d : IsForFirst Exact s.tokens x c.tokens) × Opens n (ForFirstWithin d)

first-none : (n : ℕ) {s c : Input5} → Opens n (λ m. Unit {0}) → Next (IsMark (codes ";")) s c → FirstOpen n s for_first.NoFirst c
first-none n o (next e) = (one, g.nothing_first e, o)

first-var-one : (n : ℕ) {s a b c : Input5} {x : Declared5} → Next (IsWord (codes "var")) s a → DeclaredOpen n true a x b → Next (IsMark (codes ";")) b c → FirstOpen n s (for_first.FirstVar (x ∷ [])) c
first-var-one n (next v) (m, d, w) (next e) = (one ⟫ m ⟫ one, g.var_first _ refl v (g.last_declared d) e, w)

first-var-more : (n : ℕ) {s a b d e c : Input5} {x : Declared5} {xs : List Declared5} → Next (IsWord (codes "var")) s a → DeclaredOpen n true a x b → Next (IsMark (codes ",")) b d → DeclaredListOpen n true d xs e → Next (IsMark (codes ";")) e c → FirstOpen n s (for_first.FirstVar (x ∷ xs)) c
first-var-more n (next v) (m, d, w) (next k) (list_open m' ds ws) (next e) = (one ⟫ m ⟫ one ⟫ m' ⟫ one, g.var_first _ refl v (g.next_declared d k ds) e, both_open n _ _ w ws)

first-expression : (n : ℕ) {s a c : Input5} (x : Read5) → ReadOpen n true 0 s x a → Next (IsMark (codes ";")) a c → FirstOpen n s (for_first.FirstExpression x.value) c
first-expression n x r (next e) = (r.moves ⟫ one, g.expression_first x.value refl r.derived.0 e, r.derived.1)

sound-first : (i : Inner5) (n : ℕ) (sound : Sound i n) (open_ : Opens n (λ m. Unit {0})) (s : Input5) → Holds (FirstOpen n s) (for_first_part i s)
unfolding for_first_part for_var after_first_declared for_expression
sound-first i n sound open_ s = on-mark _ _ _ s (λ t c h. took (first-none n open_ h)) (λ m. on-word _ _ _ s
    (λ t a v. bind (sound.declared true a) λ x b d. if-holds _ _ _ b (λ h. fault) (λ h. on-mark _ _ _ b
    (λ t k c. bind (sound-open-list n true _ (λ y. sound.declared true y) i.fuel k) λ xs e ds. bind (take-mark _ e) λ u f q. took (first-var-more n v d c ds q))
    (λ m. bind (take-mark _ b) λ u f q. took (first-var-one n v d q))))
    (λ m. bind (sound.sequence true s) λ x a r. if-holds _ _ _ a (λ h. fault) (λ h. bind (take-mark _ a) λ u c q. took (first-expression n x r q))))

data OptionalOpen (n : ℕ) (p : List ℕ) : Input5 → Option Expr5 → Input5 → Type 0 where
  optional_of : {s a c : Input5} {x : Option Expr5} → Goes s a → (d : IsOptional Exact s.tokens x a.tokens) → Opens n (OptionalWithin d) → Next (IsMark p) a c → OptionalOpen n p s x c

sound-optional : (i : Inner5) (n : ℕ) (sound : Sound i n) (open_ : Opens n (λ m. Unit {0})) (p : List ℕ) (s : Input5) → Holds (OptionalOpen n p s) (optional i p s)
unfolding optional
sound-optional i n sound open_ p s = on-mark _ _ _ s (λ t c h. took (optional_of (stays s) g.absent open_ h))
    (λ m. bind (sound.sequence false s) λ x a r. bind (take-mark _ a) λ t c h. took (optional_of (goes r.moves) (g.present r.derived.0) r.derived.1 h))

data HeaderOpen (n : ℕ) : Input5 → Header5 → Input5 → Type 0 where
  header_of : {s a b c : Input5} {first : ForFirst5} {test update : Option Expr5} → FirstOpen n s first a → OptionalOpen n (codes ";") a test b → OptionalOpen n (codes ")") b update c → HeaderOpen n s (record { first = first; test = test; update = update }) c

sound-header : (i : Inner5) (n : ℕ) (sound : Sound i n) (open_ : Opens n (λ m. Unit {0})) (s : Input5) → Holds (HeaderOpen n s) (for_header i s)
unfolding for_header
sound-header i n sound open_ s = bind (sound-first i n sound open_ s) λ first a f. bind (sound-optional i n sound open_ (codes ";") a) λ test b t. bind (sound-optional i n sound open_ (codes ")") b) λ update c u. took (header_of f t u)

all-open : (n : ℕ) (P Q R : ℕ → Type 0) → Opens n P → Opens n Q → Opens n R → Opens n (λ m. P m × Q m × R m)
all-open zero P Q R p q r = p
all-open (suc n) P Q R p q r = (p, q, r)

data HeaderGroup (n : ℕ) : Input5 → Header5 → Input5 → Type 0 where
  header_group : {s a c : Input5} {h : Header5} → Next (IsMark (codes "(")) s a → HeaderOpen n a h c → HeaderGroup n s h c

for-rule : (n : ℕ) {inside top : Bool} {s a b c : Input5} {h : Header5} {body : Stat5} → Next (IsWord (codes "for")) s a → HeaderGroup n a h b → StatOpen n inside false b body c
    → StatIn n inside top s (stat.For (record { begin = begin_of s.tokens; end = c.last }) h.first h.test h.update body) c
for-rule n (next w) (header_group (next p) (header_of (mf, df, wf) (optional_of mt dt wt (next e)) (optional_of mu du wu (next q)))) (m, d, v) =
    let moves = then-goes (one {last = 0} ⟫ one ⟫ mf) mt ⟫ one in
    let all = then-goes moves mu ⟫ one ⟫ m in
    (then-goes (then-goes (one ⟫ one ⟫ mf) mt ⟫ one) mu ⟫ one ⟫ m, g.for _ _ _ _ _ refl (span-across all) w p df dt e (g.closed du q) d, (all-open n _ _ _ wf wt wu, v))

sound-for : (i : Inner5) (n : ℕ) (sound : Sound i n) (inside top : Bool) (s a : Input5) → Next (IsWord (codes "for")) s a → Holds (StatIn n inside top s) (for_statement i inside (begin_of s.tokens) a)
unfolding for_statement
sound-for i n sound inside top s a w =
    bind (group-holds {Q = HeaderGroup n a} i _ _ _ a (λ o b p. weaken (sound-header i n sound (sound.opens o) b) (λ h c d. header_group p d)) (λ m. fault)) λ h b d.
    bind (sound.statement inside false b) λ body c e. took (for-rule n w d e)

-- ## Jumps

abbrev IsLabelToken : List ℕ → Token5 → Type 0
IsLabelToken name t = (t.after_line ≡ false) × (IsWord name t × (is_identifier name ≡ true))

label-if-is : (b : Bool) (o : Option (List ℕ)) (name : List ℕ) → label_if b o ≡ Some name → (b ≡ false) × (o ≡ Some name)
label-if-is true o name h = absurd (cc)
label-if-is false o name h = (refl, h)

label-means : (name : List ℕ) (t : Token5) → label_at t ≡ Some name → IsLabelToken name t
label-means name t h = let e = label-if-is t.after_line (free_name t) name h in (e.0, free-name-means name t e.1)

data LabelIn : Input5 → Option Identifier5 → Input5 → Type 0 where
  label_in : {s c : Input5} {x : Option Identifier5} → Goes s c → IsLabel Exact s.tokens x c.tokens → LabelIn s x c

label-rule : {s c : Input5} {name : List ℕ} → Next (IsLabelToken name) s c → LabelIn s (Some (record { span = record { begin = begin_of s.tokens; end = c.last }; name = name })) c
label-rule (next {t = t} {ts = ts} {last = last} e) = label_in (goes one) (g.label e.0 (identifier-rule (next {t = t} {ts = ts} {last = last} e.1)))

sound-label : (s : Input5) → Holds (LabelIn s) (optional_label s)
unfolding optional_label
sound-label s = on-means label_at IsLabelToken label-means _ _ s (λ name c h. took (label-rule h)) (λ m. took (label_in (stays s) g.no_label))

continue-rule : (n : ℕ) {inside top : Bool} {s a b c : Input5} {x : Option Identifier5} → Next (IsWord (codes "continue")) s a → LabelIn a x b → Next IsEnd b c → StatIn n inside top s (stat.Continue (record { begin = begin_of s.tokens; end = c.last }) x) c
continue-rule n (next w) (label_in m d) (next e) = (then-goes one m ⟫ one, g.continue _ _ refl (span-across (then-goes (one {last = 0}) m ⟫ one)) w d e, tt)

break-rule : (n : ℕ) {inside top : Bool} {s a b c : Input5} {x : Option Identifier5} → Next (IsWord (codes "break")) s a → LabelIn a x b → Next IsEnd b c → StatIn n inside top s (stat.Break (record { begin = begin_of s.tokens; end = c.last }) x) c
break-rule n (next w) (label_in m d) (next e) = (then-goes one m ⟫ one, g.break _ _ refl (span-across (then-goes (one {last = 0}) m ⟫ one)) w d e, tt)

on-line : (ts : List Token5) → next_is goes_on ts ≡ true → IsOnLine ts
on-line [] h = tt
on-line (t ∷ ts) h = (or_false t.after_line (ends t.kind) (or_false (t.after_line || ends t.kind) (is_mark (codes "}") t.kind) (not_true ((t.after_line || ends t.kind) || is_mark (codes "}") t.kind) h)).0).0

same-line : (ts : List Token5) → next_is begins_line ts ≡ false → IsOnLine ts
same-line [] h = tt
same-line (t ∷ ts) h = h

data ReturnedIn (n : ℕ) : Input5 → Option Expr5 → Input5 → Type 0 where
  returned_in : {s c : Input5} {x : Option Expr5} → Goes s c → (d : IsReturned Exact s.tokens x c.tokens) → ReturnedWithin d n → ReturnedIn n s x c

sound-returned : (i : Inner5) (n : ℕ) (sound : Sound i n) (s : Input5) → Holds (ReturnedIn n s) (returned i s)
unfolding returned
sound-returned i n sound s = if-holds _ _ _ s
    (λ h. bind (sound-sequence i n sound false s) λ x c r. took (returned_in (goes r.moves) (g.value_returned (on-line s.tokens h) r.derived.0) r.derived.1))
    (λ h. took (returned_in (stays s) g.no_value_returned tt))

return-rule : (n : ℕ) {top : Bool} {s a b c : Input5} {x : Option Expr5} → Next (IsWord (codes "return")) s a → ReturnedIn n a x b → Next IsEnd b c → StatIn n true top s (stat.Return (record { begin = begin_of s.tokens; end = c.last }) x) c
return-rule n (next w) (returned_in m d v) (next e) = (then-goes one m ⟫ one, g.return _ _ refl (span-across (then-goes (one {last = 0}) m ⟫ one)) w d e, v)

sound-return : (i : Inner5) (n : ℕ) (sound : Sound i n) (top : Bool) (s a : Input5) → Next (IsWord (codes "return")) s a → Holds (StatIn n true top s) (return_statement i (begin_of s.tokens) a)
unfolding return_statement
sound-return i n sound top s a w = bind (sound-returned i n sound a) λ x b d. bind (sound-semicolon i n sound b) λ u c e. took (return-rule n w d e)

throw-rule : (n : ℕ) {inside top : Bool} {s a b c : Input5} (x : Read5) → Next (IsWord (codes "throw")) s a → next_is begins_line a.tokens ≡ false → ReadIn n false 0 a x b → Next IsEnd b c → StatIn n inside top s (stat.Throw (record { begin = begin_of s.tokens; end = c.last }) x.value) c
throw-rule n x (next {ts = ts} w) h r (next e) = (one ⟫ r.moves ⟫ one, g.throw _ _ refl (span-across (one {last = 0} ⟫ r.moves ⟫ one)) w (same-line ts h) r.derived.0 e, r.derived.1)

debugger-rule : (n : ℕ) {inside top : Bool} {s a c : Input5} → Next (IsWord (codes "debugger")) s a → Next IsEnd a c → StatIn n inside top s (stat.Debugger (record { begin = begin_of s.tokens; end = c.last })) c
debugger-rule n (next {t = t} w) (next {t = u} {ts = ts} e) = (one ⟫ one, g.debugger _ refl (span-across (one {t = t} {last = 0} ⟫ one {t = u} {ts = ts})) w e, tt)

-- ## Switch

data InCaseOpen (n : ℕ) (inside : Bool) : Input5 → List Stat5 → Input5 → Type 0 where
  in_case_of : {s c : Input5} {xs : List Stat5} → Goes s c → (d : AreInCase Exact inside s.tokens xs c.tokens) → Opens n (InCaseWithin d) → InCaseOpen n inside s xs c

in-case-next : (n : ℕ) {inside : Bool} {s a c : Input5} {x : Stat5} {xs : List Stat5} → StatOpen n inside false s x a → InCaseOpen n inside a xs c → InCaseOpen n inside s (x ∷ xs) c
in-case-next n (m, d, w) (in_case_of m' ds ws) = in_case_of (goes-on (goes m) m') (g.next_in_case d ds) (both_open n _ _ w ws)

sound-in-case : (i : Inner5) (n : ℕ) (sound : Sound i n) (open_ : Opens n (λ m. Unit {0})) (inside : Bool) (turns : ℕ) (s : Input5) → Holds (InCaseOpen n inside s) (in_case i inside turns s)
unfolding in_case
sound-in-case i n sound open_ inside zero s = fault
sound-in-case i n sound open_ inside (suc turns) s = if-holds _ _ _ s (λ h. took (in_case_of (stays s) g.no_more_in_case open_))
    (λ h. bind (sound.statement inside false s) λ x a d. bind (sound-in-case i n sound open_ inside turns a) λ xs c ds. took (in-case-next n d ds))

abbrev CasesOpen : ℕ → Bool → Bool → Input5 → List Case5 → Input5 → Type 0
CasesOpen n inside may s xs c = Moves s c × (d : AreCases Exact inside may s.tokens xs c.tokens) × Opens n (CasesWithin d)

cases-none : (n : ℕ) {inside may : Bool} {s c : Input5} → Opens n (λ m. Unit {0}) → Next (IsMark (codes "}")) s c → CasesOpen n inside may s [] c
cases-none n o (next e) = (one, g.no_case e, o)

-- a clause, which others may follow; the marks say whether a default clause may come then and may stand here
data ClauseOpen (n : ℕ) (inside then_ here : Bool) : Input5 → Case5 → Input5 → Type 0 where
  clause : {s c : Input5} {x : Case5} → ((xs : List Case5) (d : Input5) → CasesOpen n inside then_ c xs d → CasesOpen n inside here s (x ∷ xs) d) → ClauseOpen n inside then_ here s x c

clause-next : {n : ℕ} {inside then_ here : Bool} {s a c : Input5} {x : Case5} {xs : List Case5} → ClauseOpen n inside then_ here s x a → CasesOpen n inside then_ a xs c → CasesOpen n inside here s (x ∷ xs) c
clause-next (clause f) d = f _ _ d

case-rule : (n : ℕ) {inside may : Bool} {s a b d c : Input5} (x : Read5) {ss : List Stat5} → Next (IsWord (codes "case")) s a → ReadOpen n false 0 a x b → Next (IsMark (codes ":")) b d → InCaseOpen n inside d ss c
    → ClauseOpen n inside may may s (roll-Case5 (record { span = record { begin = begin_of s.tokens; end = c.last }; test = Some x.value; body = ss })) c
case-rule n x (next w) r (next e) (in_case_of m d v) = clause (λ xs f cs. (
  then-goes (one ⟫ r.moves ⟫ one) m ⟫ cs.0,
  g.case_clause _ x.value _ refl (span-across (then-goes (one {last = 0} ⟫ r.moves ⟫ one) m)) w r.derived.0 e d cs.1,
  all-open n _ _ _ r.derived.1 v cs.2,
))

default-rule : (n : ℕ) {inside : Bool} {s a b c : Input5} {ss : List Stat5} → Next (IsWord (codes "default")) s a → Next (IsMark (codes ":")) a b → InCaseOpen n inside b ss c
    → ClauseOpen n inside false true s (roll-Case5 (record { span = record { begin = begin_of s.tokens; end = c.last }; test = None; body = ss })) c
default-rule n (next w) (next e) (in_case_of m d v) = clause (λ xs f cs. (
  then-goes (one ⟫ one) m ⟫ cs.0,
  g.default_clause _ _ refl (span-across (then-goes (one {last = 0} ⟫ one) m)) w e d cs.1,
  both_open n _ _ v cs.2,
))

sound-cases : (i : Inner5) (n : ℕ) (sound : Sound i n) (open_ : Opens n (λ m. Unit {0})) (inside may : Bool) (turns : ℕ) (s : Input5) → Holds (CasesOpen n inside may s) (cases i inside may turns s)
unfolding cases case_clause default_clause
sound-cases i n sound open_ inside may zero s = fault
sound-cases i n sound open_ inside may (suc turns) s = on-mark _ _ _ s (λ t c h. took (cases-none n open_ h)) (λ m. on-word _ _ _ s
    (λ t a w. bind (case-of a w) λ x b d. bind (sound-cases i n sound open_ inside may turns b) λ xs c ds. took (clause-next d ds))
    (λ m. choose-holds _ _ may s
    (λ h. on-word _ _ _ s
    (λ t a w. bind (default-of a w) λ x b d. bind (sound-cases i n sound open_ inside false turns b) λ xs c ds. took (clause-next (subst (λ y. ClauseOpen n inside false y s x b) (sym h) d) ds))
    (λ m. fault))
    (λ h. fault)))
  where
    case-of : (a : Input5) → Next (IsWord (codes "case")) s a → Holds (ClauseOpen n inside may may s) (case_clause i inside (begin_of s.tokens) a)
    case-of a w = bind (sound.sequence false a) λ x b r. bind (take-mark _ b) λ t d e. bind (sound-in-case i n sound open_ inside i.fuel d) λ ss c v. took (case-rule n x w r e v)

    default-of : (a : Input5) → Next (IsWord (codes "default")) s a → Holds (ClauseOpen n inside false true s) (default_clause i inside (begin_of s.tokens) a)
    default-of a w = bind (take-mark _ a) λ t d e. bind (sound-in-case i n sound open_ inside i.fuel d) λ ss c v. took (default-rule n w e v)

data CasesGroup (n : ℕ) (inside : Bool) : Input5 → List Case5 → Input5 → Type 0 where
  cases_group : {s a c : Input5} {xs : List Case5} → Next (IsMark (codes "{")) s a → CasesOpen n inside true a xs c → CasesGroup n inside s xs c

switch-rule : (n : ℕ) {inside top : Bool} {s a b c : Input5} {x : Expr5} {xs : List Case5} → Next (IsWord (codes "switch")) s a → ParenOpen n a x b → CasesGroup n inside b xs c
    → StatIn n inside top s (stat.Switch (record { begin = begin_of s.tokens; end = c.last }) x xs) c
switch-rule n (next w) (paren (next p) m d v (next q)) (cases_group (next b) (m', d', v')) =
    (one ⟫ one ⟫ m ⟫ one ⟫ one ⟫ m', g.switch _ _ _ refl (span-across (one {last = 0} ⟫ one ⟫ m ⟫ one ⟫ one ⟫ m')) w p d q b d', (v, v'))

sound-switch : (i : Inner5) (n : ℕ) (sound : Sound i n) (inside top : Bool) (s a : Input5) → Next (IsWord (codes "switch")) s a → Holds (StatIn n inside top s) (switch_statement i inside (begin_of s.tokens) a)
unfolding switch_statement
sound-switch i n sound inside top s a w = bind (sound-paren i n sound a) λ x b p.
    bind (group-holds {Q = CasesGroup n inside b} i _ _ _ b (λ o d h. weaken (sound-cases i n sound (sound.opens o) inside true i.fuel d) (λ xs c cs. cases_group h cs)) (λ m. fault)) λ xs c cs. took (switch-rule n w p cs)

-- ## Try

data CatchGroup (n : ℕ) : Input5 → Identifier5 → Input5 → Type 0 where
  catch_group : {s a b c : Input5} {x : Identifier5} → Opens n (λ m. Unit {0}) → Next (IsMark (codes "(")) s a → IdentifierIn a x b → Next (IsMark (codes ")")) b c → CatchGroup n s x c

abbrev CatchIn : ℕ → Bool → Input5 → Catch5 → Input5 → Type 0
CatchIn n inside s x c = Moves s c × (d : IsCatch Exact inside s.tokens x c.tokens) × CatchWithin d n

catch-rule : (n : ℕ) {inside : Bool} {s a b c : Input5} {x : Identifier5} {body : Block5} → Next (IsWord (codes "catch")) s a → CatchGroup n a x b → BlockIn n inside b body c
    → CatchIn n inside s (roll-Catch5 (record { span = record { begin = begin_of s.tokens; end = c.last }; parameter = x; body = body })) c
catch-rule n (next w) (catch_group o (next p) (m, d) (next q)) (m', d', v) = (one ⟫ one ⟫ m ⟫ one ⟫ m', g.handler _ _ _ refl (span-across (one {last = 0} ⟫ one ⟫ m ⟫ one ⟫ m')) w p d q d', (o, v))

sound-catch : (i : Inner5) (n : ℕ) (sound : Sound i n) (inside : Bool) (s : Input5) → Holds (CatchIn n inside s) (handler i inside s)
unfolding handler catch_parameter
sound-catch i n sound inside s = bind (take-word _ s) λ t a w.
    bind (group-holds {Q = CatchGroup n a} i _ _ _ a (λ o b p. bind (sound-identifier b) λ x c d. bind (take-mark _ c) λ u e q. took (catch_group (sound.opens o) p d q)) (λ m. fault)) λ x b k.
    bind (sound-block i n sound inside b) λ body c d. took (catch-rule n w k d)

try-catch-rule : (n : ℕ) {inside top : Bool} {s a b c : Input5} {x : Block5} {h : Catch5} → Next (IsWord (codes "try")) s a → BlockIn n inside a x b → CatchIn n inside b h c → StatIn n inside top s (stat.Try (record { begin = begin_of s.tokens; end = c.last }) x (Some h) None) c
try-catch-rule n (next w) (m, d, v) (m', d', v') = (one ⟫ m ⟫ m', g.try_catch _ _ _ refl (span-across (one {last = 0} ⟫ m ⟫ m')) w d d', (v, v'))

try-finally-rule : (n : ℕ) {inside top : Bool} {s a b d c : Input5} {x y : Block5} → Next (IsWord (codes "try")) s a → BlockIn n inside a x b → Next (IsWord (codes "finally")) b d → BlockIn n inside d y c → StatIn n inside top s (stat.Try (record { begin = begin_of s.tokens; end = c.last }) x None (Some y)) c
try-finally-rule n (next w) (m, d, v) (next f) (m', d', v') = (one ⟫ m ⟫ one ⟫ m', g.try_finally _ _ _ refl (span-across (one {last = 0} ⟫ m ⟫ one ⟫ m')) w d f d', (v, v'))

try-both-rule : (n : ℕ) {inside top : Bool} {s a b e d c : Input5} {x y : Block5} {h : Catch5} → Next (IsWord (codes "try")) s a → BlockIn n inside a x b → CatchIn n inside b h e → Next (IsWord (codes "finally")) e d → BlockIn n inside d y c
    → StatIn n inside top s (stat.Try (record { begin = begin_of s.tokens; end = c.last }) x (Some h) (Some y)) c
try-both-rule n (next w) (m, d, v) (m', d', v') (next f) (m'', d'', v'') = (one ⟫ m ⟫ m' ⟫ one ⟫ m'', g.try_both _ _ _ _ refl (span-across (one {last = 0} ⟫ m ⟫ m' ⟫ one ⟫ m'')) w d d' f d'', (v, v', v''))

sound-try : (i : Inner5) (n : ℕ) (sound : Sound i n) (inside top : Bool) (s a : Input5) → Next (IsWord (codes "try")) s a → Holds (StatIn n inside top s) (try_statement i inside (begin_of s.tokens) a)
unfolding try_statement after_handler only_finally
sound-try i n sound inside top s a w = bind (sound-block i n sound inside a) λ x b d. if-holds _ _ _ b
    (λ h. bind (sound-catch i n sound inside b) λ k e c. on-word _ _ _ e
    (λ t f u. bind (sound-block i n sound inside f) λ y o z. took (try-both-rule n w d c u z))
    (λ m. took (try-catch-rule n w d c)))
    (λ h. bind (take-word _ b) λ t f u. bind (sound-block i n sound inside f) λ y o z. took (try-finally-rule n w d u z))

-- ## Functions, expressions, labels

declaration-rule : (n : ℕ) {inside : Bool} {s a b c : Input5} {x : Identifier5} {f : Function5} → Next (IsWord (codes "function")) s a → IdentifierIn a x b → FunctionRest n (begin_of s.tokens) (Some x) b f c → StatIn n inside true s (stat.FunctionDeclaration f) c
declaration-rule n (next w) (m0, d) (rest_of e (in_parentheses o (next p) m ps) (braced (next b) m' ss v)) =
    (one ⟫ m0 ⟫ one ⟫ m ⟫ one ⟫ m', g.declaration _ _ _ _ (ap (λ f. stat.FunctionDeclaration f) e) (g.named _ _ _ _ refl (span-across (one {last = 0} ⟫ m0 ⟫ one ⟫ m ⟫ one ⟫ m')) w d p ps b ss), (o, v))

sound-declaration : (i : Inner5) (n : ℕ) (sound : Sound i n) (inside : Bool) (s a : Input5) → Next (IsWord (codes "function")) s a → Holds (StatIn n inside true s) (declaration i (begin_of s.tokens) a)
unfolding declaration
sound-declaration i n sound inside s a w = bind (sound-identifier a) λ x b d. bind (sound-rest-of-function i n sound (begin_of s.tokens) (Some x) b) λ f c r. took (declaration-rule n w d r)

-- an expression statement begins with neither a brace nor `function`
abbrev BeginsExpression : Input5 → Type 0
BeginsExpression s = (begins (is_mark (codes "{")) s.tokens ≡ false) × (begins (is_word (codes "function")) s.tokens ≡ false)

expression-rule : (n : ℕ) {inside top : Bool} {s a c : Input5} (x : Read5) → BeginsExpression s → ReadIn n false 0 s x a → Next IsEnd a c → StatIn n inside top s (stat.Expression (record { begin = begin_of s.tokens; end = c.last }) x.value) c
expression-rule n x h r (next e) = (r.moves ⟫ one, g.expression _ x.value refl (span-across (r.moves ⟫ one)) h.0 h.1 r.derived.0 e, r.derived.1)

label-statement-rule : (n : ℕ) {inside top : Bool} {s a b c : Input5} {x : Identifier5} {body : Stat5} → Moves s a → IsIdentifier Exact s.tokens x a.tokens → Next (IsMark (codes ":")) a b → StatOpen n inside false b body c
    → StatIn n inside top s (stat.Labelled (record { begin = begin_of s.tokens; end = c.last }) x body) c
label-statement-rule n m x (next e) (m', d, w) = (m ⟫ one ⟫ m', g.labelled _ _ _ refl (span-across (m ⟫ one ⟫ m')) x e d, w)

sound-label-or-end : (i : Inner5) (n : ℕ) (sound : Sound i n) (inside top : Bool) (s a : Input5) (x : Read5) → BeginsExpression s → ReadIn n false 0 s x a → (o : Option Identifier5) → label_of x.shape x.value ≡ o
    → Holds (StatIn n inside top s) (label_or_end i inside (begin_of s.tokens) o x.value a)
unfolding expression_end labelled
sound-label-or-end i n sound inside top s a x h r (Some label) e = on-mark _ _ _ a
    (λ t b q. bind (sound.statement inside false b) λ body c d. took (label-statement-rule n r.moves (r.named label e) q d))
    (λ m. bind (sound-semicolon i n sound a) λ u c q. took (expression-rule n x h r q))
sound-label-or-end i n sound inside top s a x h r None e = bind (sound-semicolon i n sound a) λ u c q. took (expression-rule n x h r q)

sound-expression-statement : (i : Inner5) (n : ℕ) (sound : Sound i n) (inside top : Bool) (s : Input5) → BeginsExpression s → Holds (StatIn n inside top s) (expression_statement i inside (begin_of s.tokens) s)
unfolding expression_statement
sound-expression-statement i n sound inside top s h = bind (sound-sequence i n sound false s) λ x a r. sound-label-or-end i n sound inside top s a x h r (label_of x.shape x.value) refl

-- ## All together

sound-plain : (i : Inner5) (n : ℕ) (sound : Sound i n) (inside top : Bool) (s : Input5) → next_is (next_mark (codes "{")) s.tokens ≡ false → Holds (StatIn n inside top s) (plain_statement i inside top (begin_of s.tokens) s)
unfolding plain_statement
sound-plain i n sound inside top s brace = if-holds _ _ _ s
    (λ f. choose-holds _ _ top s
    (λ t. on-word _ _ _ s (λ u a w. subst (λ b. Holds (StatIn n inside b s) (declaration i (begin_of s.tokens) a)) (sym t) (sound-declaration i n sound inside s a w)) (λ m. fault))
    (λ t. fault))
    (λ f. if-holds _ _ _ s (λ w. fault) (λ w. sound-expression-statement i n sound inside top s (begins-mark (codes "{") s.tokens brace, begins-word (codes "function") s.tokens f)))

sound-jump : (i : Inner5) (n : ℕ) (sound : Sound i n) (inside top : Bool) (s : Input5) → next_is (next_mark (codes "{")) s.tokens ≡ false → Holds (StatIn n inside top s) (jump_statement i inside top (begin_of s.tokens) s)
unfolding jump_statement continue_statement break_statement throw_statement debugger_statement
sound-jump i n sound inside top s brace =
    on-word _ _ _ s (λ t a w. bind (sound-label a) λ x b d. bind (sound-semicolon i n sound b) λ u c e. took (continue-rule n w d e)) (λ m.
    on-word _ _ _ s (λ t a w. bind (sound-label a) λ x b d. bind (sound-semicolon i n sound b) λ u c e. took (break-rule n w d e)) (λ m.
    on-word _ _ _ s (λ t a w. if-holds _ _ _ a (λ h. fault) (λ h. bind (sound-sequence i n sound false a) λ x b r. bind (sound-semicolon i n sound b) λ u c e. took (throw-rule n x w h r e))) (λ m.
    on-word _ _ _ s (λ t a w. bind (sound-semicolon i n sound a) λ u c e. took (debugger-rule n w e)) (λ m.
    choose-holds _ _ inside s
    (λ h. on-word _ _ _ s (λ t a w. subst (λ y. Holds (StatIn n y top s) (return_statement i (begin_of s.tokens) a)) (sym h) (sound-return i n sound top s a w)) (λ m. sound-plain i n sound inside top s brace))
    (λ h. sound-plain i n sound inside top s brace)))))

sound-compound : (i : Inner5) (n : ℕ) (sound : Sound i n) (inside top : Bool) (s : Input5) → next_is (next_mark (codes "{")) s.tokens ≡ false → Holds (StatIn n inside top s) (compound_statement i inside top (begin_of s.tokens) s)
unfolding compound_statement
sound-compound i n sound inside top s brace =
    on-word _ _ _ s (λ t a w. sound-do i n sound inside top s a w) (λ m.
    on-word _ _ _ s (λ t a w. sound-while i n sound inside top s a w) (λ m.
    on-word _ _ _ s (λ t a w. sound-for i n sound inside top s a w) (λ m.
    on-word _ _ _ s (λ t a w. sound-switch i n sound inside top s a w) (λ m.
    on-word _ _ _ s (λ t a w. sound-try i n sound inside top s a w) (λ m. sound-jump i n sound inside top s brace)))))

empty-rule : (n : ℕ) {inside top : Bool} {s c : Input5} → Next (IsMark (codes ";")) s c → StatIn n inside top s (stat.Empty (record { begin = begin_of s.tokens; end = c.last })) c
empty-rule n (next {t = t} {ts = ts} e) = (one, g.empty _ refl (span-across (one {t = t} {ts = ts} {last = 0})) e, tt)

pub sound-statement : (i : Inner5) (n : ℕ) (sound : Sound i n) (inside top : Bool) (s : Input5) → Holds (StatIn n inside top s) (statement i inside top s)
unfolding statement block_statement
sound-statement i n sound inside top s = if-holds _ _ _ s
    (λ h. bind (sound-block i n sound inside s) λ b c d. took (d.0, g.block b refl d.1, d.2))
    (λ brace. if-holds _ _ _ s (λ h. sound-if i n sound inside top s)
    (λ h. on-mark _ _ _ s (λ t c e. took (empty-rule n e))
    (λ m. on-word _ _ _ s (λ t a w. sound-var i n sound inside top s a w) (λ m. sound-compound i n sound inside top s brace))))
