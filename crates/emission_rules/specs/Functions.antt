-- Emission of functions, of modules, and of the whole core: a script is one function in strict code, which is handed the hosts.
use Rattle.std.specs.Prelude.{ℕ, ◌+◌, ◌||◌, ◌&&◌, Bool, true, false, cond, not, codes, length, take, drop, List, [], ◌∷◌, ◌++◌, map, Option, None, Some, is_some, slice_get}
use Rattle.std.specs.List.{flat_map}
use Rattle.core_ast.specs.declared.parts.Var.{Var}
use Rattle.core_ast.specs.declared.parts.ScopedName.{ScopedName}
use Rattle.core_ast.specs.declared.parts.Primitive.TheVariants.{ArgumentsPut, NewTarget, RestList}
use Rattle.core_ast.specs.declared.tree.CoreStat.{CoreStat}
use Rattle.core_ast.specs.declared.whole.Core.{Core}
use Rattle.core_ast.specs.declared.whole.CoreFunction.{CoreFunction}
use Rattle.core_ast.specs.declared.whole.CoreKind.{CoreKind}
use Rattle.core_ast.specs.declared.whole.CoreKind.TheVariants as kind
use Rattle.core_ast.specs.declared.whole.CorePart.{CorePart}
use Rattle.core_ast.specs.declared.whole.Resumption.{Resumption}
use Rattle.core_ast.specs.Lawful.{is_empty, is_generator}
use Rattle.es5_ast.specs.declared.operators.BinaryOperator5.TheVariants.{Same}
use Rattle.es5_ast.specs.declared.operators.Key5.TheVariants.{WordKey}
use Rattle.es5_ast.specs.declared.operators.UnaryOperator5.TheVariants.{Typeof}
use Rattle.es5_ast.specs.declared.tree.Declared5.{Declared5}
use Rattle.es5_ast.specs.declared.tree.Expr5.{Expr5}
use Rattle.es5_ast.specs.declared.tree.Expr5.TheVariants as expr
use Rattle.es5_ast.specs.declared.tree.Identifier5.{Identifier5}
use Rattle.es5_ast.specs.declared.tree.Property5.{Property5}
use Rattle.es5_ast.specs.declared.tree.Script.{Script}
use Rattle.es5_ast.specs.declared.tree.Stat5.{Stat5}
use Rattle.es5_ast.specs.declared.tree.Stat5.TheVariants as stat
use Rattle.emission_rules.specs.declared.scene.Closure.{Closure}
use Rattle.emission_rules.specs.declared.scene.Scene.{Scene}
use Rattle.emission_rules.specs.declared.scene.Uses.{Uses}
use Rattle.emission_rules.specs.Emission.{Goes, stats_emitted, then}
use Rattle.emission_rules.specs.Naming.{helped_names, hosts_from, names_from, sign, with_names}
use Rattle.emission_rules.specs.Nodes.{applied, called, declared, expression, function, identifier, index, integer, member, name, nothing, nowhere, operated, plain, text, this, variables}
use Rattle.emission_rules.specs.Primitives.{apply_name, arguments_name, call_name, callee_name, empty_name, frame_name, helper_name, passed_name, self_key, target_key}
use Rattle.emission_rules.specs.Scenes.{gives, name_of, no_uses, threaded}

-- ---- kinds

unfoldable pub is_arrow : CoreKind → Bool
is_arrow kind.Arrow = true
is_arrow k = false

unfoldable pub is_class : CoreKind → Bool
is_class (kind.Class derived) = true
is_class k = false

-- `this` is that of the frame: an arrow's is that of the function round it, a derived constructor's is there once it is made
unfoldable pub is_framed : CoreKind → Bool
is_framed kind.Arrow = true
is_framed (kind.Class derived) = derived
is_framed k = false

-- ---- names

abbrev pub identifiers : Scene → List Var → List Identifier5
identifiers s xs = map (λ x. identifier (name_of s x)) xs

abbrev pub names_only : Scene → List Var → List Declared5
names_only s xs = map (λ x. declared (name_of s x) None) xs

abbrev pub expressions : Scene → List Var → List Expr5
expressions s xs = map (λ x. name (name_of s x)) xs

-- ---- what a function declares: itself, its frame, the arguments that it was passed, its arguments object, parameters that its `length` doesn't count, and its locals

abbrev pub property : List ℕ → Expr5 → Property5
property k value = plain (WordKey k) value

-- new.target is asked for first, while the construction is under way
abbrev pub frame_properties : Bool → List Property5
frame_properties target = cond target
    (property self_key this ∷ property target_key (applied (helper_name NewTarget) (name callee_name ∷ [])) ∷ [])
    (property self_key this ∷ [])

abbrev pub frame_value : CoreKind → Uses → Option Expr5
frame_value k uses = cond (is_class k) None (Some (expr.ObjectList nowhere (frame_properties uses.target)))

abbrev pub frame_declared : CoreKind → Uses → List Declared5
frame_declared k uses = cond (uses.frame && not (is_arrow k)) (declared frame_name (frame_value k uses) ∷ []) []

-- whether a function is asked for itself
abbrev pub wants_own : CoreKind → Uses → Bool
wants_own k uses = (uses.own || (uses.target && not (is_class k))) && not (is_arrow k)

abbrev pub own_declared : Scene → Option Var → Bool → List Declared5
own_declared s None wanted = []
own_declared s (Some x) wanted = cond wanted (declared callee_name (Some (name (name_of s x))) ∷ []) []

abbrev pub own_identifier : Scene → Option Var → Bool → Option Identifier5
own_identifier s None wanted = cond wanted (Some (identifier callee_name)) None
own_identifier s (Some x) wanted = Some (identifier (name_of s x))

abbrev pub passed_declared : Scene → List Declared5
passed_declared s = cond (s.keeps && s.uses.passed)
    (declared passed_name (Some (applied (helper_name RestList) (name arguments_name ∷ integer 0 ∷ []))) ∷ []) []

abbrev pub arguments_declared : Scene → Option Var → List Declared5
arguments_declared s None = []
arguments_declared s (Some x) = declared (name_of s x) (Some (applied (helper_name ArgumentsPut) (name arguments_name ∷ []))) ∷ []

-- from this place on
abbrev pub late_parameters : Scene → ℕ → List Var → List Declared5
late_parameters s at [] = []
late_parameters s at (x ∷ xs) = declared (name_of s x) (Some (index (name arguments_name) (integer at))) ∷ late_parameters s (at + 1) xs

abbrev pub declarations : Scene → CoreFunction → List Declared5
declarations s f =
    own_declared s f.own (wants_own f.kind s.uses) ++ frame_declared f.kind s.uses ++ passed_declared s
    ++ arguments_declared s f.arguments ++ late_parameters s f.length (drop f.length f.parameters) ++ names_only s f.locals

-- ---- functions

-- the part of a scene that a function begins with
abbrev pub entered : Bool → Bool → Scene → Scene
entered framed keeps s = record s { step = None; uses = no_uses; framed = framed; keeps = keeps }

abbrev pub keeps_apart : CoreFunction → Bool
keeps_apart f = is_some f.arguments || is_some f.resumption

-- the step is a function in the generator's, with what it is resumed with as parameters
abbrev pub resumed : Scene → Resumption → List Identifier5
resumed s r = identifier (name_of s r.kind) ∷ identifier (name_of s r.value) ∷ []

abbrev pub stepped : Option Resumption → List CoreStat → Scene → Scene
stepped None step s = s
stepped (Some r) step s =
    let m = stats_emitted step [] (record s { framed = true }) in
    record m.scene { step = Some (function None (resumed m.scene r) m.value); framed = s.framed }

abbrev pub function_value : CoreFunction → List Stat5 → Scene → Expr5
function_value f body s = function
    (own_identifier s f.own (wants_own f.kind s.uses))
    (identifiers s (take f.length f.parameters))
    (variables (declarations s f) ++ body)

-- the closure keeps the cells that are there when it is made
abbrev pub keeping : Scene → List Var → Expr5 → Expr5
keeping s cells x = cond (is_empty cells) x
    (called (function None (identifiers s cells) (stat.Return nowhere (Some x) ∷ [])) (expressions s cells) None)

abbrev pub generator_name : List ℕ
generator_name = codes "generator_function"

abbrev pub as_generator : CoreKind → Expr5 → Expr5
as_generator k x = cond (is_generator k) (applied generator_name (x ∷ [])) x

-- an arrow asks the function round it, but for the arguments, which are its own
abbrev pub asked : CoreKind → Uses → Uses
asked k uses = cond (is_arrow k) (record uses { passed = false }) no_uses

abbrev pub closure : CoreFunction → List Stat5 → Scene → Closure
closure f body s = record {
  value = keeping s f.cells (as_generator f.kind (function_value f body s));
  uses = asked f.kind s.uses;
}

abbrev pub with_closure : Closure → Scene → Scene
with_closure c s = record s { functions = s.functions ++ Some c ∷ [] }

abbrev pub function_emitted : CoreFunction → Scene → Scene
function_emitted f s =
    let begun = stepped f.resumption f.step (entered (is_framed f.kind) (keeps_apart f) s) in
    let setup = stats_emitted f.setup [] begun in
    let body = stats_emitted f.body setup.value setup.scene in
    with_closure (closure f body.value body.scene) body.scene

abbrev pub functions_emitted : List CoreFunction → Scene → Scene
functions_emitted [] s = s
functions_emitted (f ∷ fs) s = functions_emitted fs (function_emitted f s)

-- ---- modules: what they begin with, and their bodies, are functions of their own that are called at once, since small engines bound the
-- jumps of a function

abbrev pub at_once : List Stat5 → Uses → Stat5
at_once body uses = expression (called (function None [] (variables (frame_declared kind.Plain uses) ++ body)) [] None)

-- nothing is written for no statements
abbrev pub module_emitted : List CoreStat → Goes (List Stat5)
module_emitted stats xs s = cond (is_empty stats) (gives xs s)
    (let m = stats_emitted stats [] (entered false false s) in gives (then xs (at_once m.value m.scene.uses)) m.scene)

abbrev pub instantiations : List CorePart → Goes (List Stat5)
instantiations parts xs s = threaded (map (λ p. module_emitted p.instantiate) parts) xs s

abbrev pub body_of : Option CorePart → List CoreStat
body_of None = []
body_of (Some p) = p.body

abbrev pub body_at : List CorePart → ℕ → List CoreStat
body_at parts n = body_of (slice_get parts n)

abbrev pub bodies : List CorePart → List ℕ → Goes (List Stat5)
bodies parts order xs s = threaded (map (λ n. module_emitted (body_at parts n)) order) xs s

-- ---- the script

abbrev pub scoped_names : Scene → List ScopedName → List Declared5
scoped_names s names = map (λ n. declared (name_of s n.var) None) names

abbrev pub function_method : List ℕ → Expr5
function_method k = member (member (name (codes "Object")) (codes "create")) k

-- the names of the script's own, and those of all modules
abbrev pub own_declarations : List Declared5
own_declarations =
    declared empty_name (Some (expr.ObjectList nowhere [])) ∷ declared call_name (Some (function_method call_name))
    ∷ declared apply_name (Some (function_method apply_name)) ∷ []

abbrev pub module_names : Scene → List CorePart → List Declared5
module_names s parts = flat_map (λ p. scoped_names s p.names) parts

-- An engine may lack a host that no module imports: `typeof` reads its name all the same (5.1 edition, 11.4.3).
abbrev pub is_missing : List ℕ → Expr5
is_missing host = operated (expr.Unary nowhere Typeof (name host)) Same (text (codes "undefined"))

abbrev pub handed_host : List ℕ → Expr5
handed_host host = expr.Conditional nowhere (is_missing host) nothing (name host)

abbrev pub handed : List (List ℕ) → List Expr5
handed hosts = map (λ h. handed_host h) hosts

abbrev pub script : List (List ℕ) → List (List ℕ) → List Stat5 → Script
script parameters hosts body = record {
  span = nowhere;
  statements = expression (text (codes "use strict"))
      ∷ expression (called (function None (map (λ n. identifier n) parameters) body) (handed hosts) None) ∷ [];
}

-- with the helpers' names and the hosts' no name of the core is called
abbrev pub scene_by : List (Option (List ℕ)) → List (List ℕ) → List Stat5 → Scene
scene_by hints hosts helpers =
    let helped = helped_names helpers in
    let taken = with_names [] helped in
    let between = sign (helped ++ hosts) in
    record {
      names = names_from between (with_names taken hosts) 0 hints;
      hosts = hosts_from between taken (length hints) hosts;
      functions = [];
      step = None;
      uses = no_uses;
      framed = false;
      keeps = false;
    }

abbrev pub emitted : Core → List (List ℕ) → List Stat5 → Script
emitted core hosts helpers =
    let s = functions_emitted core.functions (scene_by core.fresh.hints hosts helpers) in
    let begun = instantiations core.parts [] s in
    let run = bodies core.parts core.order begun.value begun.scene in
    script s.hosts hosts (variables (own_declarations ++ module_names s core.parts) ++ helpers ++ run.value)
