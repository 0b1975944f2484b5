-- Graphs that are loaded, and graphs that are linked.
use Rattle.std.specs.Prelude.{◌≡◌, ℕ, ◌+◌, ◌<◌, ◌≤◌, List, [], ◌∷◌, codes, length, map, take, Option, Some, None, All, AllPairs, sum_by}
use Rattle.std.specs.Str.{chars, IsUtf8}
use Rattle.es6_lexer.specs.declared.token.Token.{Token}
use Rattle.es6_lexer.specs.Lexes.{Lexes}
use Rattle.es6_ast.specs.declared.module.Module.{Module}
use Rattle.es6_ast.specs.declared.module.Item.{Item}
use Rattle.es6_ast.specs.declared.module.Item.TheVariants as item
use Rattle.es6_ast.specs.declared.module.Specifier.{Specifier}
use Rattle.es6_ast.specs.declared.graph.Graph.{Graph}
use Rattle.es6_ast.specs.declared.graph.LoadedModule.{LoadedModule}
use Rattle.es6_ast.specs.declared.graph.Request.{Request}
use Rattle.es6_ast.specs.Semicolons.{SpellsModule}
use Rattle.es6_ast.specs.Depth.{open_constructs}
use Rattle.es6_static_semantics.specs.Findings.{joined}
use Rattle.es6_static_semantics.specs.Early.{early_pairs}
use Rattle.es6_static_semantics.specs.Outside.{outside_pairs}
use Rattle.es6_static_semantics.specs.Endings.{wants, AllResolve}

-- the specifiers of a module, in text order (ModuleRequests, 15.2.1.10, of an import 15.2.2.5, of an export 15.2.3.10)
abbrev pub from_of : Option Specifier → List Specifier
from_of None = []
from_of (Some from) = from ∷ []

abbrev pub item_specifiers : Item → List Specifier
item_specifiers (item.Import span default_ names from) = from ∷ []
item_specifiers (item.ExportNames span names from) = from_of from
item_specifiers (item.ExportAll span from) = from ∷ []
item_specifiers _ = []

abbrev pub specifiers : Module → List Specifier
specifiers m = joined item_specifiers m.items

-- a request says where its specifier begins, and names a module of so many unless the specifier is the host's
abbrev pub IsRequest : ℕ → Request → Type 0
IsRequest count r = names r.module
  where
    names : Option ℕ → Type 0
    names None = r.specifier ≡ codes "host"
    names (Some i) = (i < count) × (r.specifier ≡ codes "host" → ⊥)

abbrev pub request_place : Request → ℕ × List ℕ
request_place r = (r.at, r.specifier)

abbrev pub specifier_place : Specifier → ℕ × List ℕ
specifier_place s = (s.span.begin, s.text)

pub record IsText (bytes : List ℕ) (m : LoadedModule) : Type 0 where
  pub within : length bytes ≤ 4194304
  pub utf8 : IsUtf8 bytes
  pub lines : m.lines ≡ chars bytes
  pub tokens : List Token
  pub lexed : Lexes (chars bytes) tokens
  pub spelled : SpellsModule tokens m.tree
  -- at each token at most 256 constructs are open
  pub shallow : (p : ℕ) → p < length tokens → open_constructs (take (p + 1) tokens) m.tree ≤ 256

-- a loaded module of a graph of so many, with its text
pub record IsLoadedModule (count : ℕ) (bytes : List ℕ) (m : LoadedModule) : Type 0 where
  pub text : IsText bytes m
  pub legal : early_pairs m.tree ≡ []
  pub inside : outside_pairs m.tree ≡ []
  pub specified : map request_place m.requests ≡ map specifier_place (specifiers m.tree)
  pub requested : All (IsRequest count) m.requests

pub data AreLoaded (count : ℕ) : List (List ℕ) → List LoadedModule → Type 0 where
  no_module : AreLoaded count [] []
  one_module : {bytes : List ℕ} {texts : List (List ℕ)} {m : LoadedModule} {ms : List LoadedModule} → IsLoadedModule count bytes m → AreLoaded count texts ms → AreLoaded count (bytes ∷ texts) (m ∷ ms)

-- what every loaded graph has, linked or not
pub record IsSound (g : Graph) : Type 0 where
  pub some : 1 ≤ length g.modules
  pub few : length g.modules ≤ 1024
  pub distinct : AllPairs (λ p q. p ≡ q → ⊥) (map (λ m. m.path) g.modules)
  pub texts : List (List ℕ)
  pub within : sum_by length texts ≤ 16777216
  pub loaded : AreLoaded (length g.modules) texts g.modules

pub record IsLoaded (g : Graph) : Type 0 where
  pub sound : IsSound g
  pub unlinked : All (λ m. m.endings ≡ []) g.modules

pub record IsLinked (g : Graph) (hosts : List (List ℕ)) : Type 0 where
  pub sound : IsSound g
  pub linked : All (λ m. AllResolve g hosts m (wants m.tree) m.endings) g.modules
