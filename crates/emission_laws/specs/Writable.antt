-- What a core asks of emission besides being lawful: that what it writes down can be written in a script.
use Rattle.std.specs.Prelude.{◌≡◌, ℕ, ◌+◌, Bool, true, false, ◌&&◌, ◌||◌, not, cond, nat_lt, length, List, [], ◌∷◌, ◌++◌, map, Option, None, Some, is_none, IsTrue}
use Rattle.std.specs.List.{list_all}
use Rattle.core_ast.specs.declared.parts.Label.{Label}
use Rattle.core_ast.specs.declared.parts.Constant.TheVariants.{Text}
use Rattle.core_ast.specs.declared.parts.Key.{Key}
use Rattle.core_ast.specs.declared.parts.Key.TheVariants as key
use Rattle.core_ast.specs.declared.parts.CoreHead.{CoreHead}
use Rattle.core_ast.specs.declared.parts.CoreHead.TheVariants as head
use Rattle.core_ast.specs.declared.parts.CoreOp.{CoreOp}
use Rattle.core_ast.specs.declared.parts.CoreOp.TheVariants as op
use Rattle.core_ast.specs.declared.tree.CoreStat.{CoreStat, fold-CoreStat}
use Rattle.core_ast.specs.declared.tree.CoreLink.TheOpen as layer
use Rattle.core_ast.specs.declared.tree.CoreLink.TheOpen.{CoreLink-F, CoreStat-F, CoreCase-F, CoreExpr-F}
use Rattle.core_ast.specs.declared.whole.Core.{Core}
use Rattle.core_ast.specs.declared.whole.CoreFunction.{CoreFunction}
use Rattle.core_ast.specs.declared.whole.CorePart.{CorePart}
use Rattle.core_ast.specs.Lawful.{all_differ, is_safe, numbers}
use Rattle.es5_ast.specs.Early.{key_text}
use Rattle.es5_ast.specs.Lexical.{is_identifier_name, is_one_of}
use Rattle.emission_rules.specs.Nodes.{is_ascii, key_name, word_units}

-- ---- texts are units of 16 bits (ECMA-262, 5.1 edition, 8.4), and a word in ASCII is an IdentifierName (7.6)

abbrev pub are_units : List ℕ → Bool
are_units units = list_all (λ u. nat_lt u 65536) units

abbrev pub key_fits : Key → Bool
key_fits (key.WordKey word) = cond (is_ascii word) (is_identifier_name word) (are_units (word_units word))
key_fits (key.TextKey units) = are_units units
key_fits (key.IntegerKey n) = true

abbrev pub head_fits : CoreHead → Bool
head_fits (head.Constant (Text units)) = are_units units
head_fits h = true

abbrev pub op_fits : CoreOp → Bool
op_fits (op.Member k) = key_fits k
op_fits (op.Define k) = key_fits k
op_fits (op.Getter k) = key_fits k
op_fits (op.Setter k) = key_fits k
op_fits o = true

-- ---- the properties that an expression defines have keys that differ (11.1.5)

abbrev pub defined : CoreOp → Option (List ℕ)
defined (op.Define k) = Some (key_text (key_name k))
defined o = None

abbrev pub is_new : List (List ℕ) → Option (List ℕ) → Bool
is_new keys None = true
is_new keys (Some k) = not (is_one_of k keys)

abbrev pub with_key : List (List ℕ) → Option (List ℕ) → List (List ℕ)
with_key keys None = keys
with_key keys (Some k) = k ∷ keys

-- ---- the walk

-- a link: the key of the property that it defines
pub record Piece : Type 0 where
  pub key : Option (List ℕ)
  pub fits : Bool

pub record Choice : Type 0 where
  pub is_default : Bool
  pub fits : Bool

abbrev pub Layer : (Type 0 → Type 0 → Type 0 → Type 0 → Type 0) → Type 0
Layer Of = Of Piece Bool Choice Bool

abbrev pub every : List Bool → Bool
every bs = list_all (λ b. b) bs

abbrev pub if_there : Option Bool → Bool
if_there None = true
if_there (Some b) = b

abbrev pub link_step : Layer CoreLink-F → Piece
link_step (layer.Strict o parts site) = record { key = defined o; fits = op_fits o && every parts }
link_step (layer.Lazy when taken other) = record { key = None; fits = taken && if_there other }
link_step (layer.Run body) = record { key = None; fits = every body }

abbrev pub links_fit : List (List ℕ) → List Piece → Bool
links_fit keys [] = true
links_fit keys (l ∷ ls) = l.fits && is_new keys l.key && links_fit (with_key keys l.key) ls

abbrev pub expr_step : Layer CoreExpr-F → Bool
expr_step x = head_fits x.head && links_fit [] x.links

abbrev pub case_step : Layer CoreCase-F → Choice
case_step x = record { is_default = is_none x.test; fits = if_there x.test && every x.body }

abbrev pub choices_fit : List Choice → Bool
choices_fit cs = list_all (λ c. c.fits) cs

-- 12.11: at most one case without a test; the mark says that one may still come
abbrev pub one_default : Bool → List Choice → Bool
one_default may [] = true
one_default may (c ∷ cs) = (not c.is_default || may) && one_default (not c.is_default && may) cs

-- labels are told apart by their numbers, of 64 bits
abbrev pub label_fits : Label → Bool
label_fits l = nat_lt l.0 18446744073709551616

abbrev pub stat_step : Layer CoreStat-F → Bool
stat_step (layer.Do x) = x
stat_step (layer.If cases) = choices_fit cases
stat_step (layer.Switch subject cases) = subject && choices_fit cases && one_default true cases
stat_step (layer.Loop labels test update body) =
    list_all label_fits labels && if_there test && if_there update && every body
stat_step (layer.Labelled label body) = label_fits label && every body
stat_step (layer.Jump goes_on label) = true
stat_step (layer.Return x) = x
stat_step (layer.Throw x) = x
stat_step (layer.TryCatch block parameter names handler) = every block && every handler
stat_step (layer.TryFinally block last) = every block && every last
stat_step (layer.Scoped names body) = every body
stat_step (layer.Yield value kind result) = value

abbrev pub stat_fits : CoreStat → Bool
stat_fits = fold-CoreStat Piece Bool Choice Bool link_step stat_step case_step expr_step

abbrev pub stats_fit : List CoreStat → Bool
stats_fit stats = every (map stat_fits stats)

-- ---- functions, whose parameters are numbered and whose cells are parameters, and parts

abbrev pub function_fits : CoreFunction → Bool
function_fits f =
    all_differ (numbers f.cells) && is_safe (length f.parameters)
    && stats_fit f.setup && stats_fit f.body && stats_fit f.step

abbrev pub part_fits : CorePart → Bool
part_fits p = stats_fit p.instantiate && stats_fit p.body

-- Texts are of 16 bits, keys in ASCII are names, an expression defines no key twice, a switch has at most one case without a
-- test, a function keeps no cell twice, labels and names are told apart by numbers of 64 bits, and parameters by safe ones.
abbrev pub IsWritableWith : ℕ → Core → Type 0
IsWritableWith hosts core =
    IsTrue (list_all function_fits core.functions)
    × IsTrue (list_all part_fits core.parts)
    × IsTrue (nat_lt (length core.fresh.hints + hosts) 18446744073709551616)
