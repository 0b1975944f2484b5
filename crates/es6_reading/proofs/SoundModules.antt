-- What the readers of exports give is derived, and so is every module, if the readers of what its constructs hold are sound.
use Rattle.std.proofs.Common.{◌≡◌, ℕ, zero, suc, Bool, true, false, cond, List, [], ◌∷◌, Some, None, refl, sym, ap, ◌∙◌}
use Rattle.std.proofs.lemmas.Bool.{true≢false}
use Rattle.std.specs.Prelude.{codes}
use Rattle.es_text.specs.declared.Span.{Span}
use Rattle.es6_lexer.specs.declared.token.TokenKind.TheVariants as kinds
use Rattle.es6_lexer.specs.declared.token.Punctuator.TheVariants as marks
use Rattle.es6_ast.specs.declared.operators.VariableKind.TheVariants.{Var}
use Rattle.es6_ast.specs.declared.tree.Identifier.{Identifier}
use Rattle.es6_ast.specs.declared.tree.Statement.{Statement}
use Rattle.es6_ast.specs.declared.tree.Statement.TheVariants as stat
use Rattle.es6_ast.specs.declared.tree.Part.{Part}
use Rattle.es6_ast.specs.declared.tree.Function.{Function}
use Rattle.es6_ast.specs.declared.tree.Class.{Class}
use Rattle.es6_ast.specs.declared.module.Module.{Module}
use Rattle.es6_ast.specs.declared.module.Item.{Item}
use Rattle.es6_ast.specs.declared.module.Item.TheVariants as item
use Rattle.es6_ast.specs.declared.module.Specifier.{Specifier}
use Rattle.es6_ast.specs.declared.module.ExportName.{ExportName}
use Rattle.es6_ast.specs.declared.module.DefaultExport.TheVariants.{DefaultFunction, DefaultClass, DefaultValue}
use Rattle.es6_ast.specs.declared.settings.Stand.TheVariants.{Listed}
use Rattle.es6_ast.specs.Tokens.{Filling, Read, Filled, IsWord, IsMark, is_identifier, begin_of, across}
use Rattle.es6_ast.specs.Grammar as g
use Rattle.es6_ast.specs.Grammar.{level_assignment, of_module, NotWord, IsEnd, IsAnyName, IsStatement, IsDeclaration}
use Rattle.es6_ast.specs.Modules as m
use Rattle.es6_ast.specs.Modules.{IsExported, IsExport, AreExports, IsItem, AreItems, IsModule}
use Rattle.es6_reading.specs.Parser.{Input, next_is, word, Reading, Inner, group}
use Rattle.es6_reading.specs.Modules.{export_of, one_export, exports, are_own, own_names, export_names, export_all, default_value, export_default, exported_declaration, export_declaration, export_item, statement_item, one_item, is_end_kind, is_end, end_at, items, whole_module}
use Rattle.es6_reading.proofs.Posts.{Holds, took, fault, bind, weaken, choose-holds, if-holds, refused-holds}
use Rattle.es6_reading.proofs.Meanings.{and_true, word-means, some_same}
use Rattle.es6_reading.proofs.Spans.{Moves, ◌⟫◌, span-across}
use Rattle.es6_reading.proofs.Derived.{ReadWhole, StatementIn, Sound, Next, next, on-means, take-means, one, on-mark, take-mark, on-word, group-holds}
use Rattle.es6_reading.proofs.SoundPatterns.{AnyNameIn, sound-any-name}
use Rattle.es6_reading.proofs.SoundFunctions.{FunctionIn, sound-function, ClassIn, sound-class}
use Rattle.es6_reading.proofs.SoundLevels.{sound-assignment}
use Rattle.es6_reading.proofs.SoundStatements.{sound-semicolon, misses-word, DeclaresIn, declares, sound-declares, var-rule}
use Rattle.es6_reading.proofs.SoundDeclarations.{declaration-holds, sound-statement}
use Rattle.es6_reading.proofs.SoundImports.{free-of, FromIn, sound-from, ItemIn, sound-import-item}

-- ## Names

abbrev ExportIn : Input → ExportName → Input → Type 0
ExportIn s x c = Moves s c × IsExport true s.tokens x c.tokens

any-span : {ts us : List Filled} {n : Identifier} → IsAnyName ts n us → across ts us ≡ n.span
any-span (g.any_name {t = t} {ts = ts} word w e) = sym (span-across (one {t = t} {ts = ts} {last = 0})) ∙ sym (ap (λ k. k.span) e)

plain-rule : {s c : Input} {n : Identifier} → AnyNameIn s n c → ExportIn s (export_of n n (record { begin = begin_of s.tokens; end = c.last })) c
plain-rule {n = n} (m', d) = (m', m.plain_export n _ (m.others_name n d) (ap (export_of n n) (span-across m' ∙ any-span d)))

renamed-rule : {s a b c : Input} {n k : Identifier} → AnyNameIn s n a → Next (IsWord (codes "as")) a b → AnyNameIn b k c → ExportIn s (export_of n k (record { begin = begin_of s.tokens; end = c.last })) c
renamed-rule {n = n} {k = k} (m', d) (next w) (m'', e) = (m' ⟫ one ⟫ m'', m.renamed_export n k _ (m.others_name n d) w e (ap (export_of n k) (span-across (m' ⟫ one ⟫ m''))))

sound-export : (s : Input) → Holds (ExportIn s) (one_export s)
unfolding one_export
sound-export s = bind (sound-any-name s) λ n a d. on-word _ _ _ a
    (λ t b w. bind (sound-any-name b) λ k c e. took (renamed-rule d w e))
    (λ k. took (plain-rule d))

abbrev ExportsIn : Input → List ExportName → Input → Type 0
ExportsIn s xs c = Moves s c × AreExports true s.tokens xs c.tokens

exports-none : {s c : Input} → Next (IsMark marks.RightBrace) s c → ExportsIn s [] c
exports-none (next e) = (one, m.no_export e)

exports-last : {s a c : Input} {x : ExportName} → ExportIn s x a → Next (IsMark marks.RightBrace) a c → ExportsIn s (x ∷ []) c
exports-last (m', d) (next e) = (m' ⟫ one, m.last_export _ d e)

exports-next : {s a b c : Input} {x : ExportName} {xs : List ExportName} → ExportIn s x a → Next (IsMark marks.Comma) a b → ExportsIn b xs c → ExportsIn s (x ∷ xs) c
exports-next (m', d) (next e) (m'', ds) = (m' ⟫ one ⟫ m'', m.next_export _ _ d e ds)

sound-exports : (turns : ℕ) (s : Input) → Holds (ExportsIn s) (exports turns s)
unfolding exports
sound-exports zero s = fault
sound-exports (suc turns) s = on-mark _ _ _ s (λ t c h. took (exports-none h)) (λ k. bind (sound-export s) λ x a d. on-mark _ _ _ a
    (λ t b h. bind (sound-exports turns b) λ xs c ds. took (exports-next d h ds))
    (λ k. bind (take-mark _ a) λ t c h. took (exports-last d h)))

-- names that are not reserved may be the module's own
own-name : {ts us : List Filled} {n : Identifier} → IsExported true ts n us → is_identifier n.name ≡ true → IsExported false ts n us
own-name (m.others_name n d) h = m.own_name n (free-of d h)

own-export : {ts us : List Filled} {x : ExportName} → IsExport true ts x us → is_identifier x.local.name ≡ true → IsExport false ts x us
own-export (m.plain_export n x d e) h = m.plain_export n x (own-name d (ap is_identifier (sym (ap (λ y. y.local.name) e)) ∙ h)) e
own-export (m.renamed_export n k x d w d' e) h = m.renamed_export n k x (own-name d (ap is_identifier (sym (ap (λ y. y.local.name) e)) ∙ h)) w d' e

own-exports : {ts us : List Filled} {xs : List ExportName} → AreExports true ts xs us → are_own xs ≡ true → AreExports false ts xs us
own-exports (m.no_export e) h = m.no_export e
own-exports (m.last_export n d e) h = m.last_export n (own-export d (and_true (is_identifier n.local.name) true h).0) e
own-exports (m.next_export n ns d e ds) h =
    let k = and_true (is_identifier n.local.name) (are_own ns) h in
    m.next_export n ns (own-export d k.0) e (own-exports ds k.1)

-- ## Exports

-- names in braces
data ListedIn : Input → List ExportName → Input → Type 0 where
  listed_in : {s a c : Input} {xs : List ExportName} → Next (IsMark marks.LeftBrace) s a → Moves a c → AreExports true a.tokens xs c.tokens → ListedIn s xs c

sound-listed : (i : Inner) (s : Input) → Holds (ListedIn s) (group i marks.LeftBrace (exports i.fuel) s)
sound-listed i s = group-holds i _ _ _ s (λ a p. weaken (sound-exports i.fuel a) (λ xs c d. listed_in p d.0 d.1)) (λ k. refused-holds s)

export-from-rule : {s a b c : Input} {xs : List ExportName} {x : Specifier} → Next (IsWord (codes "export")) s a → ListedIn a xs b → FromIn b x c → ItemIn s (item.ExportNames (record { begin = begin_of s.tokens; end = c.last }) xs (Some x)) c
export-from-rule {xs = xs} {x = x} (next w) (listed_in (next p) m' ds) (m'', e) = (one ⟫ one ⟫ m' ⟫ m'', m.export_from xs x _ w p ds e (ap (λ span. item.ExportNames span xs (Some x)) (span-across (one {last = 0} ⟫ one ⟫ m' ⟫ m''))))

own-names-rule : {s a b c : Input} {xs : List ExportName} → Next (IsWord (codes "export")) s a → ListedIn a xs b → are_own xs ≡ true → Next IsEnd b c → ItemIn s (item.ExportNames (record { begin = begin_of s.tokens; end = c.last }) xs None) c
own-names-rule {xs = xs} (next w) (listed_in (next p) m' ds) h (next e) = (one ⟫ one ⟫ m' ⟫ one, m.export_names xs _ w p (own-exports ds h) e (ap (λ span. item.ExportNames span xs None) (span-across (one {last = 0} ⟫ one ⟫ m' ⟫ one))))

sound-own-names : (i : Inner) (sound : Sound i) (xs : List ExportName) (s a b : Input) → Next (IsWord (codes "export")) s a → ListedIn a xs b → Holds (ItemIn s) (own_names i (begin_of s.tokens) xs b)
unfolding own_names
sound-own-names i sound xs s a b w d = choose-holds _ _ (are_own xs) b (λ h. bind (sound-semicolon i sound b) λ u c e. took (own-names-rule w d h e)) (λ h. refused-holds b)

sound-export-names : (i : Inner) (sound : Sound i) (s a : Input) → Next (IsWord (codes "export")) s a → Holds (ItemIn s) (export_names i (begin_of s.tokens) a)
unfolding export_names
sound-export-names i sound s a w = bind (sound-listed i a) λ xs b d. if-holds _ _ _ b
    (λ h. bind (sound-from i sound b) λ x c e. took (export-from-rule w d e))
    (λ h. sound-own-names i sound xs s a b w d)

export-all-rule : {s a b c : Input} {x : Specifier} → Next (IsWord (codes "export")) s a → Next (IsMark marks.Star) a b → FromIn b x c → ItemIn s (item.ExportAll (record { begin = begin_of s.tokens; end = c.last }) x) c
export-all-rule {x = x} (next w) (next p) (m', d) = (one ⟫ one ⟫ m', m.export_all x _ w p d (ap (λ span. item.ExportAll span x) (span-across (one {last = 0} ⟫ one ⟫ m'))))

sound-export-all : (i : Inner) (sound : Sound i) (s a b : Input) → Next (IsWord (codes "export")) s a → Next (IsMark marks.Star) a b → Holds (ItemIn s) (export_all i (begin_of s.tokens) b)
unfolding export_all
sound-export-all i sound s a b w p = bind (sound-from i sound b) λ x c e. took (export-all-rule w p e)

-- the token that is the word, and `default` with its span
abbrev IsDefault : Span → Filled → Type 0
IsDefault span t = IsWord (codes "default") t × (t.span ≡ span)

default-function-rule : {span : Span} {s a b c : Input} {k : Function} → Next (IsWord (codes "export")) s a → Next (IsDefault span) a b → FunctionIn true b k c
    → ItemIn s (item.ExportDefault (record { begin = begin_of s.tokens; end = c.last }) span (DefaultFunction k)) c
default-function-rule {span = span} {s = s} {c = c} {k = k} (next w) (next p) (m', d) =
    (one ⟫ one ⟫ m', m.default_function k _ w p.0 d (ap (λ z. item.ExportDefault z span (DefaultFunction k)) (span-across (one {last = 0} ⟫ one ⟫ m')) ∙ ap (λ z. item.ExportDefault (across s.tokens c.tokens) z (DefaultFunction k)) (sym p.1)))

default-class-rule : {span : Span} {s a b c : Input} {k : Class} → Next (IsWord (codes "export")) s a → Next (IsDefault span) a b → ClassIn of_module true b k c
    → ItemIn s (item.ExportDefault (record { begin = begin_of s.tokens; end = c.last }) span (DefaultClass k)) c
default-class-rule {span = span} {s = s} {c = c} {k = k} (next w) (next p) (m', d) =
    (one ⟫ one ⟫ m', m.default_class k _ w p.0 d (ap (λ z. item.ExportDefault z span (DefaultClass k)) (span-across (one {last = 0} ⟫ one ⟫ m')) ∙ ap (λ z. item.ExportDefault (across s.tokens c.tokens) z (DefaultClass k)) (sym p.1)))

default-value-rule : {span : Span} {s a b d c : Input} (x : Reading) → Next (IsWord (codes "export")) s a → Next (IsDefault span) a b → NotWord (codes "function") b.tokens → NotWord (codes "class") b.tokens → ReadWhole of_module level_assignment b x d → Next IsEnd d c
    → ItemIn s (item.ExportDefault (record { begin = begin_of s.tokens; end = c.last }) span (DefaultValue x.value)) c
default-value-rule {span = span} {s = s} {c = c} x (next w) (next p) h k r (next e) =
    (one ⟫ one ⟫ r.moves ⟫ one, m.default_value x.value _ w p.0 h k r.derived e (ap (λ z. item.ExportDefault z span (DefaultValue x.value)) (span-across (one {last = 0} ⟫ one ⟫ r.moves ⟫ one)) ∙ ap (λ z. item.ExportDefault (across s.tokens c.tokens) z (DefaultValue x.value)) (sym p.1)))

sound-default-value : (i : Inner) (sound : Sound i) (span : Span) (s a b : Input) → Next (IsWord (codes "export")) s a → Next (IsDefault span) a b → NotWord (codes "function") b.tokens → NotWord (codes "class") b.tokens → Holds (ItemIn s) (default_value i (begin_of s.tokens) span b)
unfolding default_value
sound-default-value i sound span s a b w p h k = bind (sound-assignment i sound of_module b) λ x d r. bind (sound-semicolon i sound d) λ u c e. took (default-value-rule x w p h k r e)

sound-export-default : (i : Inner) (sound : Sound i) (span : Span) (s a b : Input) → Next (IsWord (codes "export")) s a → Next (IsDefault span) a b → Holds (ItemIn s) (export_default i (begin_of s.tokens) span b)
unfolding export_default
sound-export-default i sound span s a b w p =
    on-word _ _ _ b (λ t d u. bind (sound-function i sound true b d u) λ k c e. took (default-function-rule w p e)) (λ h.
    on-word _ _ _ b (λ t d u. bind (sound-class i sound of_module true b d u) λ k c e. took (default-class-rule w p e)) (λ k.
    sound-default-value i sound span s a b w p (misses-word (codes "function") b.tokens h) (misses-word (codes "class") b.tokens k)))

-- what is declared and exported
data ExportedIn : Input → Statement → Input → Type 0 where
  variables_of : {s c : Input} (span : Span) (qs : List Part) → Moves s c → IsStatement of_module s.tokens (stat.Variables span Var qs) c.tokens → ExportedIn s (stat.Variables span Var qs) c
  declaration_of : {s c : Input} {x : Statement} → Moves s c → IsDeclaration of_module s.tokens x c.tokens → ExportedIn s x c

exported-variables : {s a c : Input} {x : Statement} → Next (IsWord (codes "var")) s a → DeclaresIn of_module Var s a x c → ExportedIn s x c
exported-variables w (declares ds e) = let d = var-rule of_module w (declares ds e) in variables_of _ _ d.0 d.1

sound-exported : (i : Inner) (sound : Sound i) (s : Input) → Holds (ExportedIn s) (exported_declaration i s)
unfolding exported_declaration
sound-exported i sound s = on-word _ _ _ s (λ t a w. weaken (sound-declares i sound of_module Var s a) (λ x c d. exported-variables w d))
    (λ k. declaration-holds i sound of_module _ s (λ x c d. declaration_of d.0 d.1) (refused-holds s))

export-declaration-rule : {s a c : Input} {x : Statement} → Next (IsWord (codes "export")) s a → ExportedIn a x c → ItemIn s (item.ExportDeclaration (record { begin = begin_of s.tokens; end = c.last }) x) c
export-declaration-rule (next w) (variables_of span qs m' d) = (one ⟫ m', m.export_variables span qs _ w d (ap (λ z. item.ExportDeclaration z (stat.Variables span Var qs)) (span-across (one {last = 0} ⟫ m'))))
export-declaration-rule {x = x} (next w) (declaration_of m' d) = (one ⟫ m', m.export_declaration x _ w d (ap (λ z. item.ExportDeclaration z x) (span-across (one {last = 0} ⟫ m'))))

sound-export-declaration : (i : Inner) (sound : Sound i) (s a : Input) → Next (IsWord (codes "export")) s a → Holds (ItemIn s) (export_declaration i (begin_of s.tokens) a)
unfolding export_declaration
sound-export-declaration i sound s a w = bind (sound-exported i sound a) λ x c d. took (export-declaration-rule w d)

default-means : (u t : Filled) → word (codes "default") t ≡ Some u → IsDefault u.span t
default-means u t h = let e = word-means (codes "default") t u h in (e.0, ap (λ k. k.span) e.1)

sound-export-item : (i : Inner) (sound : Sound i) (s a : Input) → Next (IsWord (codes "export")) s a → Holds (ItemIn s) (export_item i (begin_of s.tokens) a)
unfolding export_item
sound-export-item i sound s a w = on-mark _ _ _ a (λ t b p. sound-export-all i sound s a b w p) (λ k.
    on-means (word (codes "default")) (λ u t. IsDefault u.span t) default-means _ _ a (λ u b p. sound-export-default i sound u.span s a b w p) (λ k.
    if-holds _ _ _ a (λ h. sound-export-names i sound s a w) (λ h. sound-export-declaration i sound s a w)))

-- ## Modules

statement-item-rule : {s c : Input} {x : Statement} → StatementIn of_module Listed s x c → ItemIn s (item.Statement x) c
statement-item-rule (m', d) = (m', m.statement_item _ _ d refl)

sound-item : (i : Inner) (sound : Sound i) (s : Input) → Holds (ItemIn s) (one_item i s)
unfolding one_item statement_item
sound-item i sound s = on-word _ _ _ s (λ t a w. sound-import-item i sound s a w) (λ k. on-word _ _ _ s (λ t a w. sound-export-item i sound s a w)
    (λ k. bind (sound-statement i sound of_module Listed s) λ x c d. took (statement-item-rule d)))

data ItemsIn : Input → List Item → Input → Type 0 where
  items_in : {s c : Input} {xs : List Item} → AreItems s.tokens xs c.tokens → ItemsIn s xs c

items-next : {s a c : Input} {x : Item} {xs : List Item} → ItemIn s x a → ItemsIn a xs c → ItemsIn s (x ∷ xs) c
items-next (m', d) (items_in ds) = items_in (m.next_item _ _ d ds)

sound-items : (i : Inner) (sound : Sound i) (turns : ℕ) (s : Input) → Holds (ItemsIn s) (items i turns s)
unfolding items
sound-items i sound zero s = fault
sound-items i sound (suc turns) s = if-holds _ _ _ s (λ h. took (items_in m.no_item))
    (λ h. bind (sound-item i sound s) λ x a d. bind (sound-items i sound turns a) λ xs c ds. took (items-next d ds))

abbrev IsLast : Filled → Filled → Type 0
IsLast u t = (t.kind ≡ Read kinds.End) × (t ≡ u)

end-kind : (k : Filling) → is_end_kind k ≡ true → k ≡ Read kinds.End
end-kind (Read kinds.End) h = refl
end-kind k h = absurd (cc)

end-if : (b : Bool) (t u : Filled) → cond b (Some t) None ≡ Some u → (b ≡ true) × (t ≡ u)
end-if true t u h = (refl, some_same h)
end-if false t u h = absurd (cc)

end-means : (u t : Filled) → end_at t ≡ Some u → IsLast u t
end-means u t h = let e = end-if (is_end t) t u h in (end-kind t.kind e.0, e.1)

abbrev pub ModuleOf : Input → Module → Input → Type 0
ModuleOf s x c = (c.tokens ≡ []) × IsModule s.tokens x

-- the last token has been taken
last-rule : {s a : Input} {xs : List Item} {u : Filled} {ts : List Filled} {last : ℕ} → ItemsIn s xs a → Next (IsLast u) a (record { tokens = ts; last = last }) → next_is (λ t. true) ts ≡ false
    → ModuleOf s (record { span = record { begin = 0; end = u.span.end }; items = xs }) (record { tokens = ts; last = last })
last-rule {xs = xs} {ts = []} (items_in ds) (next e) h = (refl, m.module_ xs _ ds e.0 (ap (λ (t : Filled). record { span = record { begin = 0; end = t.span.end }; items = xs }) (sym e.1)))
last-rule {ts = t ∷ ts} d e h = absurd (true≢false h)

pub sound-module : (i : Inner) (sound : Sound i) (s : Input) → Holds (ModuleOf s) (whole_module i s)
unfolding whole_module
sound-module i sound s = bind (sound-items i sound i.fuel s) λ xs a d. bind (take-means end_at IsLast end-means a) λ u c e. if-holds _ _ _ c
    (λ h. refused-holds c)
    (λ h. took (last-rule d e h))
