-- Items of modules that are derived are read exactly so, if their parts are, and so are modules.
use Rattle.std.proofs.Common.{◌≡◌, ℕ, true, false, ◌||◌, cond, List, [], ◌∷◌, Some, None, refl, sym, ap, subst, ◌∙◌, arith}
use Rattle.std.proofs.lemmas.Bool.{false≢true}
use Rattle.std.specs.Prelude.{codes}
use Rattle.es6_lexer.specs.declared.token.TokenKind.TheVariants as kinds
use Rattle.es6_lexer.specs.declared.token.Punctuator.TheVariants as marks
use Rattle.es6_ast.specs.declared.operators.VariableKind.TheVariants.{Var, Let, Const}
use Rattle.es6_ast.specs.declared.tree.Expression.{Expression}
use Rattle.es6_ast.specs.declared.tree.Function.{Function}
use Rattle.es6_ast.specs.declared.tree.Class.{Class}
use Rattle.es6_ast.specs.declared.tree.Statement.{Statement}
use Rattle.es6_ast.specs.declared.module.Module.{Module}
use Rattle.es6_ast.specs.declared.module.Item.{Item}
use Rattle.es6_ast.specs.declared.module.Item.TheVariants as item
use Rattle.es6_ast.specs.declared.module.DefaultExport.TheVariants.{DefaultFunction, DefaultClass, DefaultValue}
use Rattle.es6_ast.specs.declared.settings.Stand.TheVariants.{Listed}
use Rattle.es6_ast.specs.Tokens.{Filled, Read, IsWord, is_word, across}
use Rattle.es6_ast.specs.Grammar.{IsEnd, of_module, NotWord}
use Rattle.es6_reading.specs.Parser.{Input, Outcome, Took, Parser, returns, refused, after, next_is, if_next, mark, word, Inner}
use Rattle.es6_reading.specs.Statements.{variables_statement, function_declaration, class_declaration}
use Rattle.es6_reading.specs.Modules.{import_item, default_value, export_default, exported_declaration, export_declaration, export_item, statement_item, one_item, is_end, end_at, items, whole_module}
use Rattle.es6_reading.proofs.Posts.{Misses}
use Rattle.es6_reading.proofs.Meanings.{or_false}
use Rattle.es6_reading.proofs.Spans.{◌⟫◌, span-across}
use Rattle.es6_reading.proofs.Derived.{one}
use Rattle.es6_reading.proofs.Reading.{Eventually, then_, always, pair, turn, begin}
use Rattle.es6_reading.proofs.Exactly.{Exactly, ReadsExactly, Onward, onward, ReadsOnward, equal, done, and_then, and_on, later, hit, miss, take-is, if-no, onward-of, nothing-taken, word-hit, end-semicolon}
use Rattle.es6_reading.proofs.CompleteTokens.{at-kind, word-miss}
use Rattle.es6_reading.proofs.CompleteImports.{R, readers-fuel, word-no-mark, word-no-word, ItemRead}
use Rattle.es6_reading.proofs.CompleteLevels.{assignment_level}
use Rattle.es6_reading.proofs.CompleteClaims.{Claim}
use Rattle.es6_reading.proofs.CompleteStatements.{Quiet, quiet-kind, StatementClaim, begins_item, end-ends, AfterWord, told, misses-word}
use Rattle.es6_reading.proofs.CompleteSwitches.{if-is-yes}
use Rattle.es6_reading.proofs.CompleteDeclarations.{FunctionRead, ClassRead, DeclarationClaim, function_claim, class_claim, lexical_claim}

pub record ItemClaim (ts us : List Filled) (x : Item) : Type 0 where
  pub no_end : next_is is_end ts ≡ false
  pub quiet : Quiet ts
  pub reads : Quiet us → Eventually (λ n k r. ReadsExactly (one_item (R k r)) x ts us)

-- ## Statements

no-word-of-item : (ts : List Filled) → next_is begins_item ts ≡ false → Misses (word (codes "import")) ts × Misses (word (codes "export")) ts
no-word-of-item [] h = (tt, tt)
no-word-of-item (t ∷ ts) h =
    let k = (or_false (is_word (codes "import") t.kind || is_word (codes "export") t.kind) (is_end t) h).0 in
    (word-miss (codes "import") t (or_false (is_word (codes "import") t.kind) (is_word (codes "export") t.kind) k).0, word-miss (codes "export") t (or_false (is_word (codes "import") t.kind) (is_word (codes "export") t.kind) k).1)

no-end-of-item : (ts : List Filled) → next_is begins_item ts ≡ false → next_is is_end ts ≡ false
no-end-of-item [] h = refl
no-end-of-item (t ∷ ts) h = (or_false (is_word (codes "import") t.kind || is_word (codes "export") t.kind) (is_end t) h).1

pub statement-claim : {ts us : List Filled} {s : Statement} {x : Item} → StatementClaim of_module Listed ts us s → x ≡ item.Statement s → ItemClaim ts us x
unfolding one_item statement_item
statement-claim {ts = ts} c e = record {
  no_end = no-end-of-item ts c.no_item;
  quiet = c.quiet;
  reads = λ q. then_ (c.reads q) (λ n k r y last. miss (word (codes "import")) _ _ ts last (no-word-of-item ts c.no_item).0 (miss (word (codes "export")) _ _ ts last (no-word-of-item ts c.no_item).1
      (and_then _ (y last) (λ end mv. done (sym e) mv))));
}

-- ## Imports and exports (15.2.2, 15.2.3)

pub import-claim : {t : Filled} {ts us : List Filled} {x : Item} → IsWord (codes "import") t → ItemRead import_item t ts x us → ItemClaim (t ∷ ts) us x
unfolding one_item
import-claim {t = t} {ts = ts} w h = record {
  no_end = at-kind (λ u. is_end u ≡ false) t _ w refl;
  quiet = quiet-kind t ts _ w refl;
  reads = λ q. then_ h (λ n k r y last. hit (word (codes "import")) _ _ t t ts last (word-hit (codes "import") t w) (y last));
}

pub export-claim : {t : Filled} {ts us : List Filled} {x : Item} → IsWord (codes "export") t → ItemRead export_item t ts x us → ItemClaim (t ∷ ts) us x
unfolding one_item
export-claim {t = t} {ts = ts} w h = record {
  no_end = at-kind (λ u. is_end u ≡ false) t _ w refl;
  quiet = quiet-kind t ts _ w refl;
  reads = λ q. then_ h (λ n k r y last. miss (word (codes "import")) _ _ (t ∷ ts) last (word-no-word (codes "import") (codes "export") t w refl) (hit (word (codes "export")) _ _ t t ts last (word-hit (codes "export") t w) (y last)));
}

pub record ExportedClaim (ts us : List Filled) (s : Statement) : Type 0 where
  pub exported : (i : Inner) (at last : ℕ) → export_item i at (record { tokens = ts; last = last }) ≡ export_declaration i at (record { tokens = ts; last = last })
  pub reads : Eventually (λ n k r. ReadsExactly (exported_declaration (R k r)) s ts us)

exported-word : (p : Inner → ℕ → Parser Statement) (v : List ℕ) {t : Filled} {ts us : List Filled} {s : Statement} → IsWord v t → ((i : Inner) (at last : ℕ) → export_item i at (record { tokens = told v t ∷ ts; last = last }) ≡ export_declaration i at (record { tokens = told v t ∷ ts; last = last }))
    → ((i : Inner) (last : ℕ) → exported_declaration i (record { tokens = told v t ∷ ts; last = last }) ≡ p i t.span.begin (record { tokens = ts; last = t.span.end })) → AfterWord p t ts s us → ExportedClaim (t ∷ ts) us s
exported-word p v {t = t} {ts = ts} w h e a = record {
  exported = λ i at last. at-kind (λ u. export_item i at (record { tokens = u ∷ ts; last = last }) ≡ export_declaration i at (record { tokens = u ∷ ts; last = last })) t _ w (h i at last);
  reads = then_ a (λ n k r y last. equal (at-kind (λ u. exported_declaration (R k r) (record { tokens = u ∷ ts; last = last }) ≡ p (R k r) u.span.begin (record { tokens = ts; last = u.span.end })) t _ w (e (R k r) last)) (y last));
}

pub exported-variables : {t : Filled} {ts us : List Filled} {s : Statement} → IsWord (codes "var") t → AfterWord (λ i at. variables_statement i of_module at Var) t ts s us → ExportedClaim (t ∷ ts) us s
unfolding export_item exported_declaration
exported-variables w a = exported-word (λ i at. variables_statement i of_module at Var) (codes "var") w (λ i at last. refl) (λ i last. refl) a

pub exported-declaration : {ts us : List Filled} {s : Statement} → DeclarationClaim of_module ts s us → ExportedClaim ts us s
unfolding export_item exported_declaration
exported-declaration (function_claim w a) = exported-word (λ i at. function_declaration i at) (codes "function") w (λ i at last. refl) (λ i last. refl) a
exported-declaration (class_claim w a) = exported-word (λ i at. class_declaration i of_module at) (codes "class") w (λ i at last. refl) (λ i last. refl) a
exported-declaration (lexical_claim Var h w a) = absurd (false≢true h)
exported-declaration (lexical_claim Let h w a) = exported-word (λ i at. variables_statement i of_module at Let) (codes "let") w (λ i at last. refl) (λ i last. refl) a
exported-declaration (lexical_claim Const h w a) = exported-word (λ i at. variables_statement i of_module at Const) (codes "const") w (λ i at last. refl) (λ i last. refl) a

pub export-declared : {t : Filled} {ts us : List Filled} {s : Statement} {x : Item} → ExportedClaim ts us s → x ≡ item.ExportDeclaration (across (t ∷ ts) us) s → ItemRead export_item t ts x us
unfolding export_declaration
export-declared {t = t} {s = s} c e = then_ c.reads (λ n k r y last. equal (c.exported (R k r) t.span.begin t.span.end) (and_then _ (later one (y t.span.end)) (λ end mv. done (ap (λ v. item.ExportDeclaration v s) (span-across mv) ∙ sym e) mv)))

-- ## Default exports

to-default : {x : Item} {s : Input} {us : List Filled} (i : Inner) (at : ℕ) (d : Filled) (ts : List Filled) (last : ℕ) → IsWord (codes "default") d → Exactly x s us (export_default i at d.span (record { tokens = ts; last = d.span.end })) → Exactly x s us (export_item i at (record { tokens = d ∷ ts; last = last }))
unfolding export_item
to-default i at d ts last w y = miss (mark marks.Star) _ _ (d ∷ ts) last (word-no-mark marks.Star (codes "default") d w) (hit (word (codes "default")) _ _ d d ts last (word-hit (codes "default") d w) y)

pub default-function : {t d u : Filled} {ts us : List Filled} {h : Function} {x : Item} → IsWord (codes "default") d → IsWord (codes "function") u → FunctionRead true u ts h us → x ≡ item.ExportDefault (across (t ∷ d ∷ u ∷ ts) us) d.span (DefaultFunction h) → ItemRead export_item t (d ∷ u ∷ ts) x us
unfolding export_default
default-function {t = t} {d = d} {u = u} {ts = ts} {h = h} w v a e = then_ a (λ n k r y last. to-default (R k r) t.span.begin d (u ∷ ts) t.span.end w (hit (word (codes "function")) _ _ u u ts d.span.end (word-hit (codes "function") u v)
    (and_then _ (later (one ⟫ one) (y d.span.end)) (λ end mv. done (ap (λ b. item.ExportDefault b d.span (DefaultFunction h)) (span-across mv) ∙ sym e) mv))))

pub default-class : {t d u : Filled} {ts us : List Filled} {c : Class} {x : Item} → IsWord (codes "default") d → IsWord (codes "class") u → ClassRead of_module true u ts c us → x ≡ item.ExportDefault (across (t ∷ d ∷ u ∷ ts) us) d.span (DefaultClass c) → ItemRead export_item t (d ∷ u ∷ ts) x us
unfolding export_default
default-class {t = t} {d = d} {u = u} {ts = ts} {c = c} w v a e = then_ a (λ n k r y last. to-default (R k r) t.span.begin d (u ∷ ts) t.span.end w (miss (word (codes "function")) _ _ (u ∷ ts) d.span.end (word-no-word (codes "function") (codes "class") u v refl)
    (hit (word (codes "class")) _ _ u u ts d.span.end (word-hit (codes "class") u v) (and_then _ (later (one ⟫ one) (y d.span.end)) (λ end mv. done (ap (λ b. item.ExportDefault b d.span (DefaultClass c)) (span-across mv) ∙ sym e) mv)))))

pub default-value : {t d e : Filled} {ts us : List Filled} {y : Expression} {x : Item} → IsWord (codes "default") d → NotWord (codes "function") ts → NotWord (codes "class") ts → Claim of_module 1 ts (e ∷ us) y → IsEnd e → x ≡ item.ExportDefault (across (t ∷ d ∷ ts) us) d.span (DefaultValue y) → ItemRead export_item t (d ∷ ts) x us
unfolding export_default default_value
default-value {t = t} {d = d} {e = e} {ts = ts} {us = us} {y = y} w a b c h q = then_ (c.levels 1 assignment_level (omega arith) (end-ends of_module us e h).closes (end-ends of_module us e h).yields) (λ n k r z last. to-default (R k r) t.span.begin d ts t.span.end w
    (miss (word (codes "function")) _ _ ts d.span.end (misses-word (codes "function") ts a) (miss (word (codes "class")) _ _ ts d.span.end (misses-word (codes "class") ts b)
    (and_then _ (later (one ⟫ one) (z d.span.end)) (λ end mv. end-semicolon (R k r) _ e us end h (done (ap (λ v. item.ExportDefault v d.span (DefaultValue y)) (span-across (mv ⟫ one)) ∙ sym q) (mv ⟫ one)))))))

-- ## Modules (15.2.1)

abbrev pub ItemsRead : List Filled → List Item → List Filled → Type 0
ItemsRead ts xs us = Eventually (λ n k r. ReadsOnward (items (R k r) n) xs ts us)

pub items-none : {e : Filled} → e.kind ≡ Read kinds.End → ItemsRead (e ∷ []) [] (e ∷ [])
unfolding items
items-none {e = e} h = turn (always {P = λ n k r. Unit {0}} (λ n k r. tt)) (λ n k r _ last. nothing-taken (if-is-yes is_end _ _ (e ∷ []) last (at-kind (λ u. is_end u ≡ true) e _ h refl)))

pub items-next : {ts us vs : List Filled} {x : Item} {xs : List Item} → ItemClaim ts us x → Quiet us → ItemsRead us xs vs → ItemsRead ts (x ∷ xs) vs
unfolding items
items-next {ts = ts} c q h = turn (pair (c.reads q) h) (λ n k r y last. onward-of (if-no is_end _ _ ts last c.no_end (and_then _ (y.0 last) (λ end mv. and_on _ mv (y.1 end) (λ end' mv'. done refl mv')))))

pub items-then : {m : Module} {xs : List Item} {c : Input} {us : List Filled} {o : Outcome (List Item)} (q : List Item → Parser Module) → Onward xs c us o → ((end : ℕ) → (rest : Input) × (q xs (record { tokens = us; last = end }) ≡ Took m rest)) → (rest : Input) × (after o q ≡ Took m rest)
items-then q (onward g) f = f _

abbrev pub ModuleRead : List Filled → Module → Type 0
ModuleRead ts m = Eventually (λ n k r. (last : ℕ) → (rest : Input) × (whole_module (R k r) (record { tokens = ts; last = last }) ≡ Took m rest))

abbrev to_module : List Item → Filled → Parser Module
to_module xs end = if_next (λ t. true) refused (returns (record { span = record { begin = 0; end = end.span.end }; items = xs }))

end-hits : (e : Filled) → e.kind ≡ Read kinds.End → end_at e ≡ Some e
end-hits e h = ap (λ b. cond b (Some e) None) (at-kind (λ u. is_end u ≡ true) e _ h refl)

pub module-read : {e : Filled} {ts : List Filled} {xs : List Item} {m : Module} → ItemsRead ts xs (e ∷ []) → e.kind ≡ Read kinds.End → m ≡ record { span = record { begin = 0; end = e.span.end }; items = xs } → ModuleRead ts m
unfolding whole_module
module-read {e = e} {ts = ts} {xs = xs} {m = m} d h q = begin d (λ n k r y last. items-then _ (subst (λ j. ReadsOnward (items (R k r) j) xs ts (e ∷ [])) (sym (readers-fuel k r)) y last)
    (λ end. (record { tokens = []; last = e.span.end }, ap (λ o. after o (to_module xs)) (take-is end_at e e [] end (end-hits e h)) ∙ ap (λ z. Took z (record { tokens = []; last = e.span.end })) (sym q))))
