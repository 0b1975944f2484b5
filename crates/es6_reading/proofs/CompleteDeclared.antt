-- Functions and classes that are derived are read exactly so where they stand: as expressions, as declarations, under labels and
-- in default exports. Exports of declarations.
use Rattle.std.proofs.Common.{◌≡◌, true, false, List, ◌∷◌, refl, sym, ap, subst, ◌∙◌}
use Rattle.std.specs.Prelude.{codes}
use Rattle.es_text.specs.declared.Span.{Span}
use Rattle.es6_ast.specs.declared.operators.VariableKind.{VariableKind}
use Rattle.es6_ast.specs.declared.tree.Argument.TheOpen as layer
use Rattle.es6_ast.specs.declared.tree.Argument.TheOpen.{Statement-F}
use Rattle.es6_ast.specs.declared.tree.Class.{Class}
use Rattle.es6_ast.specs.declared.tree.Expression.{Expression}
use Rattle.es6_ast.specs.declared.tree.Expression.TheVariants as expr
use Rattle.es6_ast.specs.declared.tree.Function.{Function}
use Rattle.es6_ast.specs.declared.tree.Part.{Part}
use Rattle.es6_ast.specs.declared.tree.Statement.{Statement, out-Statement}
use Rattle.es6_ast.specs.declared.tree.Statement.TheVariants as stat
use Rattle.es6_ast.specs.declared.module.Item.{Item}
use Rattle.es6_ast.specs.declared.module.Item.TheVariants as item
use Rattle.es6_ast.specs.declared.module.DefaultExport.TheVariants.{DefaultFunction, DefaultClass, DefaultValue}
use Rattle.es6_ast.specs.declared.settings.Flags.{Flags}
use Rattle.es6_ast.specs.declared.settings.Stand.TheVariants.{Listed, Labelled}
use Rattle.es6_ast.specs.Tokens.{Filled, IsWord, across}
use Rattle.es6_ast.specs.Grammar as g
use Rattle.es6_ast.specs.Grammar.{IsEnd, of_module, NotStar, NotWord, IsStatement}
use Rattle.es6_ast.specs.Spans.{Open}
use Rattle.es6_reading.specs.Statements.{compound_statement, statement}
use Rattle.es6_reading.specs.Modules.{export_item, exported_declaration, export_declaration, is_end}
use Rattle.es6_reading.proofs.Reading.{Eventually, then_}
use Rattle.es6_reading.proofs.Exactly.{ReadsExactly, equal}
use Rattle.es6_reading.proofs.CompleteTokens.{at-kind}
use Rattle.es6_reading.proofs.CompleteImports.{R}
use Rattle.es6_reading.proofs.CompleteClaims.{Claim}
use Rattle.es6_reading.proofs.CompleteStatements.{quiet-kind, StatementClaim}
use Rattle.es6_reading.proofs.CompleteGroups.{function-claim, class-claim}
use Rattle.es6_reading.proofs.CompleteDeclarations.{DeclarationClaim, function_claim, class_claim, function-reads, class-reads, labelled-function-claim}
use Rattle.es6_reading.proofs.CompleteItems.{ItemClaim, export-claim, ExportedClaim, exported-declaration, export-declared, default-function, default-class, default-value}
use Rattle.es6_reading.proofs.CompleteFunctions.{FunctionClaim, function_read}
use Rattle.es6_reading.proofs.CompleteClasses.{ClassClaim, class_read}

-- ## Functions and classes

pub function-expression : (f : Flags) {ts us : List Filled} {h : Function} {x : Expression} → FunctionClaim true ts h us → x ≡ expr.Function h → Claim f 19 ts us x
function-expression f (function_read w d) e = function-claim f w d e

pub class-expression : (f : Flags) {ts us : List Filled} {c : Class} {x : Expression} → ClassClaim f true ts c us → x ≡ expr.Class c → Claim f 19 ts us x
class-expression f (class_read w d) e = class-claim f w d e

pub function-declared : (f : Flags) {ts us : List Filled} {h : Function} {x : Statement} → FunctionClaim false ts h us → x ≡ stat.FunctionDeclaration h → DeclarationClaim f ts x us
function-declared f (function_read w d) e = function_claim w (function-reads d e)

pub class-declared : (f : Flags) {ts us : List Filled} {c : Class} {x : Statement} → ClassClaim f false ts c us → x ≡ stat.ClassDeclaration c → DeclarationClaim f ts x us
class-declared f (class_read w d) e = class_claim w (class-reads f d e)

pub function-under-label : (f : Flags) {t : Filled} {ts us : List Filled} {h : Function} → FunctionClaim false (t ∷ ts) h us → NotStar ts → StatementClaim f Labelled (t ∷ ts) us (stat.FunctionDeclaration h)
function-under-label f (function_read w d) m = labelled-function-claim f w m d refl

-- ## Default exports (15.2.3)

pub default-function-item : {t d : Filled} {ts us : List Filled} {h : Function} {x : Item} → IsWord (codes "export") t → IsWord (codes "default") d → FunctionClaim true ts h us → x ≡ item.ExportDefault (across (t ∷ d ∷ ts) us) d.span (DefaultFunction h) → ItemClaim (t ∷ d ∷ ts) us x
default-function-item w v (function_read u a) e = export-claim w (default-function v u a e)

pub default-class-item : {t d : Filled} {ts us : List Filled} {c : Class} {x : Item} → IsWord (codes "export") t → IsWord (codes "default") d → ClassClaim of_module true ts c us → x ≡ item.ExportDefault (across (t ∷ d ∷ ts) us) d.span (DefaultClass c) → ItemClaim (t ∷ d ∷ ts) us x
default-class-item w v (class_read u a) e = export-claim w (default-class v u a e)

pub default-value-item : {t d e : Filled} {ts us : List Filled} {y : Expression} {x : Item} → IsWord (codes "export") t → IsWord (codes "default") d → NotWord (codes "function") ts → NotWord (codes "class") ts → Claim of_module 1 ts (e ∷ us) y → IsEnd e → x ≡ item.ExportDefault (across (t ∷ d ∷ ts) us) d.span (DefaultValue y) → ItemClaim (t ∷ d ∷ ts) us x
default-value-item w v a b c h q = export-claim w (default-value v a b c h q)

-- ## Exported declarations

pub declaration-item : {t : Filled} {ts us : List Filled} {s : Statement} {x : Item} → IsWord (codes "export") t → DeclarationClaim of_module ts s us → x ≡ item.ExportDeclaration (across (t ∷ ts) us) s → ItemClaim (t ∷ ts) us x
declaration-item w d e = export-claim w (export-declared (exported-declaration d) e)

-- A statement that is variables begins with `var`.

abbrev IsNoVariables : Open Statement-F → Type 0
IsNoVariables (layer.Variables span kind parts) = ⊥
IsNoVariables _ = Unit {0}

record VarFirst (ts : List Filled) : Type 0 where
  token : Filled
  after_var : List Filled
  all : ts ≡ token ∷ after_var
  var_word : IsWord (codes "var") token

other : {ts : List Filled} (span : Span) (kind : VariableKind) (parts : List Part) {x : Statement} → IsNoVariables (out-Statement x) → x ≡ stat.Variables span kind parts → VarFirst ts
other span kind parts h e = absurd (subst (λ l. IsNoVariables l) (ap (λ y. out-Statement y) e ∙ stat.outs-Variables span kind parts) h)

var-first : {f : Flags} {ts us : List Filled} (span : Span) (kind : VariableKind) (parts : List Part) {x : Statement} → IsStatement f ts x us → x ≡ stat.Variables span kind parts → VarFirst ts
var-first span kind parts (g.var {t = t} {ts = ts} ps x w d h e) k = record { token = t; after_var = ts; all = refl; var_word = w }
var-first span kind parts (g.block b x d e) k = other span kind parts (rw (e, stat.outs-Block) tt) k
var-first span kind parts (g.empty x p e) k = other span kind parts (rw (e, stat.outs-Empty) tt) k
var-first span kind parts (g.expression y x a b c d h e) k = other span kind parts (rw (e, stat.outs-Expression) tt) k
var-first span kind parts (g.if first more otherwise x d e) k = other span kind parts (rw (e, stat.outs-If) tt) k
var-first span kind parts (g.do_while body test x w s v p d q h e) k = other span kind parts (rw (e, stat.outs-DoWhile) tt) k
var-first span kind parts (g.while test body x w p d q s e) k = other span kind parts (rw (e, stat.outs-While) tt) k
var-first span kind parts (g.for first test update body x w p a b h c q s e) k = other span kind parts (rw (e, stat.outs-For) tt) k
var-first span kind parts (g.for_of target subject body x w p a v d q s e) k = other span kind parts (rw (e, stat.outs-ForOf) tt) k
var-first span kind parts (g.continue label x w d h e) k = other span kind parts (rw (e, stat.outs-Continue) tt) k
var-first span kind parts (g.break label x w d h e) k = other span kind parts (rw (e, stat.outs-Break) tt) k
var-first span kind parts (g.return_bare x r w h e) k = other span kind parts (rw (e, stat.outs-Return) tt) k
var-first span kind parts (g.return_value value x r w o d h e) k = other span kind parts (rw (e, stat.outs-Return) tt) k
var-first span kind parts (g.switch subject cases x w p d q b cs e) k = other span kind parts (rw (e, stat.outs-Switch) tt) k
var-first span kind parts (g.labelled label body x d p s e) k = other span kind parts (rw (e, stat.outs-Labelled) tt) k
var-first span kind parts (g.labelled_function label h x d p m s e) k = other span kind parts (rw (e, stat.outs-Labelled) tt) k
var-first span kind parts (g.throw value x w o d h e) k = other span kind parts (rw (e, stat.outs-Throw) tt) k
var-first span kind parts (g.try_catch b h x w d c e) k = other span kind parts (rw (e, stat.outs-Try) tt) k
var-first span kind parts (g.try_finally b last x w d v l e) k = other span kind parts (rw (e, stat.outs-Try) tt) k
var-first span kind parts (g.try_both b last h x w d c v l e) k = other span kind parts (rw (e, stat.outs-Try) tt) k
var-first span kind parts (g.debugger x w h e) k = other span kind parts (rw (e, stat.outs-Debugger) tt) k

-- they are read by the reader of statements, and so after `export`
exported-var : {t : Filled} {ts us : List Filled} {s : Statement} → IsWord (codes "var") t → Eventually (λ n k r. ReadsExactly (statement (R k r) of_module Listed) s (t ∷ ts) us) → ExportedClaim (t ∷ ts) us s
unfolding export_item exported_declaration statement compound_statement
exported-var {t = t} {ts = ts} w h = record {
  exported = λ i at last. at-kind (λ u. export_item i at (record { tokens = u ∷ ts; last = last }) ≡ export_declaration i at (record { tokens = u ∷ ts; last = last })) t _ w refl;
  reads = then_ h (λ n k r y last. equal (at-kind (λ u. exported_declaration (R k r) (record { tokens = u ∷ ts; last = last }) ≡ statement (R k r) of_module Listed (record { tokens = u ∷ ts; last = last })) t _ w refl) (y last));
}

exported-variables : {ts us : List Filled} {s : Statement} → VarFirst ts → Eventually (λ n k r. ReadsExactly (statement (R k r) of_module Listed) s ts us) → ExportedClaim ts us s
exported-variables {ts = ts} {us = us} {s = s} v h = subst (λ z. ExportedClaim z us s) (sym v.all) (exported-var v.var_word (subst (λ z. Eventually (λ n k r. ReadsExactly (statement (R k r) of_module Listed) s z us)) v.all h))

pub variables-item : {t : Filled} {ts us : List Filled} (span : Span) (kind : VariableKind) (parts : List Part) {x : Item} → IsWord (codes "export") t → IsStatement of_module ts (stat.Variables span kind parts) us → StatementClaim of_module Listed ts us (stat.Variables span kind parts)
    → x ≡ item.ExportDeclaration (across (t ∷ ts) us) (stat.Variables span kind parts) → ItemClaim (t ∷ ts) us x
variables-item {t = t} {ts = ts} span kind parts w d c e = record {
  no_end = at-kind (λ u. is_end u ≡ false) t _ w refl;
  quiet = quiet-kind t ts _ w refl;
  reads = λ q. (export-claim w (export-declared (exported-variables (var-first span kind parts d refl) (c.reads q)) e)).reads q;
}
