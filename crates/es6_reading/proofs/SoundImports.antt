-- What the readers of imports give is derived.
use Rattle.std.proofs.Common.{◌≡◌, ℕ, zero, suc, true, List, [], ◌∷◌, Option, Some, None, refl, sym, ap, ◌∙◌}
use Rattle.std.specs.Prelude.{codes}
use Rattle.es6_lexer.specs.declared.token.TokenKind.TheVariants as kinds
use Rattle.es6_lexer.specs.declared.token.Punctuator.TheVariants as marks
use Rattle.es6_ast.specs.declared.tree.Identifier.{Identifier}
use Rattle.es6_ast.specs.declared.module.Item.{Item}
use Rattle.es6_ast.specs.declared.module.Item.TheVariants as item
use Rattle.es6_ast.specs.declared.module.Specifier.{Specifier}
use Rattle.es6_ast.specs.declared.module.ImportedNames.{ImportedNames}
use Rattle.es6_ast.specs.declared.module.ImportedNames.TheVariants.{NoNames, Namespace, Listed}
use Rattle.es6_ast.specs.declared.module.ImportName.{ImportName}
use Rattle.es6_ast.specs.Tokens.{Filled, IsWord, IsMark, is_identifier, begin_of}
use Rattle.es6_ast.specs.Grammar as g
use Rattle.es6_ast.specs.Grammar.{IsEnd, IsName, IsAnyName}
use Rattle.es6_ast.specs.Modules as m
use Rattle.es6_ast.specs.Modules.{IsSpecifier, IsFrom, IsImport, AreImports, AreNames, IsClause, IsItem}
use Rattle.es6_reading.specs.Parser.{Input, Inner}
use Rattle.es6_reading.specs.Words.{text_at}
use Rattle.es6_reading.specs.Modules.{specifier, from_clause, import_of, one_import, imports, namespace, imported_names, rest_of_import, default_import, import_alone, import_item}
use Rattle.es6_reading.proofs.Posts.{Holds, took, fault, bind, choose-holds, if-holds, refused-holds}
use Rattle.es6_reading.proofs.Meanings.{text-means}
use Rattle.es6_reading.proofs.Spans.{Moves, ◌⟫◌, span-across}
use Rattle.es6_reading.proofs.Derived.{NameIn, Sound, Next, next, take-means, one, IsKind, on-mark, take-mark, on-word, take-word, group-holds}
use Rattle.es6_reading.proofs.SoundPatterns.{sound-identifier, AnyNameIn, sound-any-name, name-span}
use Rattle.es6_reading.proofs.SoundStatements.{sound-semicolon}

-- ## The module that is named

abbrev pub SpecifierIn : Input → Specifier → Input → Type 0
SpecifierIn s x c = Moves s c × IsSpecifier s.tokens x c.tokens

specifier-rule : {s c : Input} {units : List ℕ} → Next (IsKind (kinds.Text units)) s c → SpecifierIn s (record { span = record { begin = begin_of s.tokens; end = c.last }; text = units }) c
specifier-rule {units = units} (next e) = (one, m.specifier units _ e refl)

sound-specifier : (s : Input) → Holds (SpecifierIn s) (specifier s)
unfolding specifier
sound-specifier s = bind (take-means text_at (λ units t. IsKind (kinds.Text units) t) text-means s) λ units c h. took (specifier-rule h)

abbrev pub FromIn : Input → Specifier → Input → Type 0
FromIn s x c = Moves s c × IsFrom s.tokens x c.tokens

from-rule : {s a b c : Input} {x : Specifier} → Next (IsWord (codes "from")) s a → SpecifierIn a x b → Next IsEnd b c → FromIn s x c
from-rule {x = x} (next w) (m', d) (next e) = (one ⟫ m' ⟫ one, m.from x w d e)

pub sound-from : (i : Inner) (sound : Sound i) (s : Input) → Holds (FromIn s) (from_clause i s)
unfolding from_clause
sound-from i sound s = bind (take-word _ s) λ t a w. bind (sound-specifier a) λ x b d. bind (sound-semicolon i sound b) λ u c e. took (from-rule w d e)

-- ## Names

-- a name that is not reserved
pub free-of : {ts us : List Filled} {n : Identifier} → IsAnyName ts n us → is_identifier n.name ≡ true → IsName ts n us
free-of (g.any_name word w e) h = g.name word w (ap is_identifier (sym (ap (λ k. k.name) e)) ∙ h) e

abbrev ImportIn : Input → ImportName → Input → Type 0
ImportIn s x c = Moves s c × IsImport s.tokens x c.tokens

plain-rule : {s c : Input} {n : Identifier} → AnyNameIn s n c → is_identifier n.name ≡ true → ImportIn s (import_of n n (record { begin = begin_of s.tokens; end = c.last })) c
plain-rule {n = n} (m', d) h = (m', m.plain_import n _ (free-of d h) (ap (import_of n n) (span-across m' ∙ name-span (free-of d h))))

renamed-rule : {s a b c : Input} {n k : Identifier} → AnyNameIn s n a → Next (IsWord (codes "as")) a b → NameIn b k c → ImportIn s (import_of n k (record { begin = begin_of s.tokens; end = c.last })) c
renamed-rule {n = n} {k = k} (m', d) (next w) (m'', e) = (m' ⟫ one ⟫ m'', m.renamed_import n k _ d w e (ap (import_of n k) (span-across (m' ⟫ one ⟫ m''))))

sound-import : (s : Input) → Holds (ImportIn s) (one_import s)
unfolding one_import
sound-import s = bind (sound-any-name s) λ n a d. on-word _ _ _ a
    (λ t b w. bind (sound-identifier b) λ k c e. took (renamed-rule d w e))
    (λ k. choose-holds _ _ (is_identifier n.name) a (λ h. took (plain-rule d h)) (λ h. refused-holds a))

abbrev ImportsIn : Input → List ImportName → Input → Type 0
ImportsIn s xs c = Moves s c × AreImports s.tokens xs c.tokens

imports-none : {s c : Input} → Next (IsMark marks.RightBrace) s c → ImportsIn s [] c
imports-none (next e) = (one, m.no_import e)

imports-last : {s a c : Input} {x : ImportName} → ImportIn s x a → Next (IsMark marks.RightBrace) a c → ImportsIn s (x ∷ []) c
imports-last (m', d) (next e) = (m' ⟫ one, m.last_import _ d e)

imports-next : {s a b c : Input} {x : ImportName} {xs : List ImportName} → ImportIn s x a → Next (IsMark marks.Comma) a b → ImportsIn b xs c → ImportsIn s (x ∷ xs) c
imports-next (m', d) (next e) (m'', ds) = (m' ⟫ one ⟫ m'', m.next_import _ _ d e ds)

sound-imports : (turns : ℕ) (s : Input) → Holds (ImportsIn s) (imports turns s)
unfolding imports
sound-imports zero s = fault
sound-imports (suc turns) s = on-mark _ _ _ s (λ t c h. took (imports-none h)) (λ k. bind (sound-import s) λ x a d. on-mark _ _ _ a
    (λ t b h. bind (sound-imports turns b) λ xs c ds. took (imports-next d h ds))
    (λ k. bind (take-mark _ a) λ t c h. took (imports-last d h)))

abbrev NamesIn : Input → ImportedNames → Input → Type 0
NamesIn s x c = Moves s c × AreNames s.tokens x c.tokens

namespace-rule : {s a b c : Input} {n : Identifier} → Next (IsMark marks.Star) s a → Next (IsWord (codes "as")) a b → NameIn b n c → NamesIn s (Namespace n) c
namespace-rule {n = n} (next p) (next w) (m', d) = (one ⟫ one ⟫ m', m.namespace n _ p w d refl)

listed-rule : {s a c : Input} {xs : List ImportName} → Next (IsMark marks.LeftBrace) s a → ImportsIn a xs c → NamesIn s (Listed xs) c
listed-rule {xs = xs} (next p) (m', d) = (one ⟫ m', m.listed xs _ p d refl)

sound-names : (i : Inner) (s : Input) → Holds (NamesIn s) (imported_names i s)
unfolding imported_names namespace
sound-names i s = on-mark _ _ _ s (λ t a p. bind (take-word _ a) λ u b w. bind (sound-identifier b) λ n c d. took (namespace-rule p w d))
    (λ k. group-holds i _ _ _ s (λ a p. bind (sound-imports i.fuel a) λ xs c d. took (listed-rule p d)) (λ k. refused-holds s))

-- ## Imports

abbrev pub ItemIn : Input → Item → Input → Type 0
ItemIn s x c = Moves s c × IsItem s.tokens x c.tokens

-- what stands between `import` and `from`
abbrev ClauseIn : Input → Option Identifier → ImportedNames → Input → Type 0
ClauseIn s n names c = Moves s c × IsClause s.tokens n names c.tokens

import-from-rule : {s a b c : Input} {n : Option Identifier} {names : ImportedNames} {x : Specifier} → Next (IsWord (codes "import")) s a → ClauseIn a n names b → FromIn b x c
    → ItemIn s (item.Import (record { begin = begin_of s.tokens; end = c.last }) n names x) c
import-from-rule {n = n} {names = names} {x = x} (next w) (m', d) (m'', e) = (one ⟫ m' ⟫ m'', m.import_from n names x _ w d e (ap (λ span. item.Import span n names x) (span-across (one {last = 0} ⟫ m' ⟫ m''))))

sound-rest-of-import : (i : Inner) (sound : Sound i) (n : Option Identifier) (names : ImportedNames) (s a b : Input) → Next (IsWord (codes "import")) s a → ClauseIn a n names b → Holds (ItemIn s) (rest_of_import i (begin_of s.tokens) n names b)
unfolding rest_of_import
sound-rest-of-import i sound n names s a b w d = bind (sound-from i sound b) λ x c e. took (import-from-rule w d e)

default-and-names : {s a b c : Input} {n : Identifier} {names : ImportedNames} → NameIn s n a → Next (IsMark marks.Comma) a b → NamesIn b names c → ClauseIn s (Some n) names c
default-and-names (m', d) (next e) (m'', ds) = (m' ⟫ one ⟫ m'', m.default_and_names _ _ d e ds)

sound-default-import : (i : Inner) (sound : Sound i) (s a : Input) → Next (IsWord (codes "import")) s a → Holds (ItemIn s) (default_import i (begin_of s.tokens) a)
unfolding default_import
sound-default-import i sound s a w = bind (sound-identifier a) λ n b d. on-mark _ _ _ b
    (λ t c h. bind (sound-names i c) λ names e ds. sound-rest-of-import i sound (Some n) names s a e w (default-and-names d h ds))
    (λ k. sound-rest-of-import i sound (Some n) NoNames s a b w (d.0, m.default_alone n d.1))

import-alone-rule : {s a b c : Input} {x : Specifier} → Next (IsWord (codes "import")) s a → SpecifierIn a x b → Next IsEnd b c → ItemIn s (item.Import (record { begin = begin_of s.tokens; end = c.last }) None NoNames x) c
import-alone-rule {x = x} (next w) (m', d) (next e) = (one ⟫ m' ⟫ one, m.import_alone x _ w d e (ap (λ span. item.Import span None NoNames x) (span-across (one {last = 0} ⟫ m' ⟫ one))))

sound-import-alone : (i : Inner) (sound : Sound i) (s a : Input) → Next (IsWord (codes "import")) s a → Holds (ItemIn s) (import_alone i (begin_of s.tokens) a)
unfolding import_alone
sound-import-alone i sound s a w = bind (sound-specifier a) λ x b d. bind (sound-semicolon i sound b) λ u c e. took (import-alone-rule w d e)

pub sound-import-item : (i : Inner) (sound : Sound i) (s a : Input) → Next (IsWord (codes "import")) s a → Holds (ItemIn s) (import_item i (begin_of s.tokens) a)
unfolding import_item
sound-import-item i sound s a w = if-holds _ _ _ a (λ h. sound-import-alone i sound s a w) (λ h. if-holds _ _ _ a
    (λ k. bind (sound-names i a) λ names b d. sound-rest-of-import i sound None names s a b w (d.0, m.names_alone names d.1))
    (λ k. sound-default-import i sound s a w))
