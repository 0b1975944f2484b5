-- When a core is lawful.
use Rattle.std.specs.Prelude.{ℕ, ◌+◌, Bool, true, false, not, ◌&&◌, nat_eq, nat_lt, nat_le, length, List, [], ◌∷◌, ◌++◌, map, Option, None, Some, is_none, IsTrue}
use Rattle.std.specs.List.{list_all, list_any, filter_map, flat_map}
use Rattle.es_outside.specs.declared.events.Site.{Site}
use Rattle.core_ast.specs.declared.whole.Core.{Core}
use Rattle.core_ast.specs.declared.whole.CoreFunction.{CoreFunction}
use Rattle.core_ast.specs.declared.whole.CoreKind.{CoreKind}
use Rattle.core_ast.specs.declared.whole.CoreKind.TheVariants.{Generator}
use Rattle.core_ast.specs.declared.whole.CorePart.{CorePart}
use Rattle.core_ast.specs.declared.whole.Resumption.{Resumption}
use Rattle.core_ast.specs.declared.parts.Var.{Var}
use Rattle.core_ast.specs.declared.parts.Label.{Label}
use Rattle.core_ast.specs.declared.parts.ScopedName.{ScopedName}
use Rattle.core_ast.specs.declared.parts.Constant.TheVariants.{Integer}
use Rattle.core_ast.specs.declared.parts.Key.{Key}
use Rattle.core_ast.specs.declared.parts.Key.TheVariants.{IntegerKey}
use Rattle.core_ast.specs.declared.parts.Primitive.{Primitive}
use Rattle.core_ast.specs.declared.parts.Primitive.TheVariants as primitive
use Rattle.core_ast.specs.declared.parts.CoreHead.{CoreHead}
use Rattle.core_ast.specs.declared.parts.CoreHead.TheVariants as head
use Rattle.core_ast.specs.declared.parts.CoreOp.{CoreOp}
use Rattle.core_ast.specs.declared.parts.CoreOp.TheVariants as op
use Rattle.core_ast.specs.declared.tree.CoreStat.{CoreStat, fold-CoreStat}
use Rattle.core_ast.specs.declared.tree.CoreLink.TheOpen as layer
use Rattle.core_ast.specs.declared.tree.CoreLink.TheOpen.{CoreLink-F, CoreStat-F, CoreCase-F, CoreExpr-F}
use Rattle.core_ast.specs.declared.gathering.Mentions.{Mentions}
use Rattle.core_ast.specs.Mentions.{function_mentions, part_mentions}

-- what is round a part: how many names are drawn, how many hosts there are, below which number a held function's is, the
-- labels of the statements round it in its function and those of loops among them, whether it may return, whether it may yield
pub record Round : Type 0 where
  pub names : ℕ
  pub hosts : ℕ
  pub functions : ℕ
  pub labels : List Label
  pub loops : List Label
  pub returns : Bool
  pub yields : Bool

-- ---- lists

abbrev pub has_number : ℕ → List ℕ → Bool
has_number n ms = list_any (nat_eq n) ms

abbrev pub has_label : Label → List Label → Bool
has_label l ls = list_any (λ m. nat_eq l.0 m.0) ls

abbrev pub all_differ : List ℕ → Bool
all_differ [] = true
all_differ (n ∷ ns) = not (has_number n ns) && all_differ ns

abbrev pub numbers : List Var → List ℕ
numbers xs = map (λ x. x.0) xs

abbrev pub scoped_numbers : List ScopedName → List ℕ
scoped_numbers names = map (λ n. n.var.0) names

abbrev pub number_of : Option Var → List ℕ
number_of None = []
number_of (Some x) = x.0 ∷ []

-- ---- numbers, and the operands of operations

abbrev pub is_safe : ℕ → Bool
is_safe n = nat_le n 9007199254740991

abbrev pub is_drawn : Round → Var → Bool
is_drawn round x = nat_lt x.0 round.names

abbrev pub key_lawful : Key → Bool
key_lawful (IntegerKey n) = is_safe n
key_lawful k = true

abbrev pub operands : Primitive → ℕ
operands primitive.CheckReady = 1
operands primitive.RefuseConst = 0
operands (primitive.CellMake x) = 1
operands primitive.ToText = 1
operands primitive.IterStart = 2
operands primitive.IterStep = 1
operands primitive.IterValue = 1
operands primitive.IterClose = 2
operands primitive.RestList = 1
operands primitive.SpreadList = 3
operands primitive.Construct = 2
operands primitive.NamespaceMake = 1
operands primitive.ClassMake = 3
operands primitive.ClassGuard = 0
operands primitive.NewTarget = 0
operands primitive.SuperConstruct = 1
operands primitive.ThisBind = 1
operands primitive.SuperGet = 2
operands primitive.MethodPut = 4
operands primitive.AccessorPut = 4
operands primitive.ArgumentsPut = 0
operands primitive.GeneratorMake = 0
operands primitive.GeneratorResume = 3
operands primitive.DelegateStep = 3
operands primitive.Power = 2
operands primitive.TemplateObject = 2
operands primitive.IncludesPut = 0

abbrev pub primitive_drawn : Round → Primitive → Bool
primitive_drawn round (primitive.CellMake x) = is_drawn round x
primitive_drawn round p = true

-- whether an operation may have so many parts
abbrev pub takes : CoreOp → ℕ → Bool
takes (op.Member k) n = nat_eq n 0
takes op.Index n = nat_eq n 1
takes op.Call n = true
takes op.CallList n = nat_eq n 1
takes op.CallWith n = nat_le 1 n
takes op.CallListWith n = nat_eq n 2
takes op.New n = true
takes op.NewList n = nat_eq n 1
takes op.Put n = nat_eq n 1
takes op.Delete n = nat_eq n 0
takes (op.Update b) n = nat_eq n 1
takes (op.Step u) n = nat_eq n 0
takes (op.Operator b) n = nat_eq n 1
takes (op.Unary u) n = nat_eq n 0
takes op.Then n = nat_eq n 1
takes (op.Set x) n = nat_eq n 0
takes (op.Init x) n = nat_eq n 0
takes (op.StepVariable u x) n = nat_eq n 0
takes op.Element n = nat_eq n 1
takes op.Hole n = nat_eq n 0
takes (op.Define k) n = nat_eq n 1
takes (op.Getter k) n = nat_eq n 1
takes (op.Setter k) n = nat_eq n 1
takes op.Content n = nat_eq n 0
takes op.SetContent n = nat_eq n 1
takes (op.Primitive p) n = nat_eq (operands p) (n + 1)
takes op.Yield n = nat_eq n 0
takes op.Delegate n = nat_eq n 0

-- ---- what the current value is, so far as an operation asks: a reference to a property, a name that is just read, a host

pub data Current : Type 0 where
  Plain : Current
  Property : Current
  Named : Current
  Hosted : Current

abbrev pub begins : CoreHead → Current
begins (head.Variable x) = Named
begins (head.Host h) = Hosted
begins h = Plain

abbrev pub gives : CoreOp → Current
gives (op.Member k) = Property
gives op.Index = Property
gives o = Plain

abbrev pub is_property : Current → Bool
is_property Property = true
is_property c = false

abbrev pub is_named : Current → Bool
is_named Named = true
is_named c = false

abbrev pub is_hosted : Current → Bool
is_hosted Hosted = true
is_hosted c = false

-- a host is called at once, a reference is written, deleted or changed, a cell is what a name holds
abbrev pub may_stand_behind : Current → CoreOp → Bool
may_stand_behind c op.Call = true
may_stand_behind c op.CallList = true
may_stand_behind c op.Put = is_property c
may_stand_behind c op.Delete = is_property c
may_stand_behind c (op.Update b) = is_property c
may_stand_behind c (op.Step u) = is_property c
may_stand_behind c op.Content = is_named c
may_stand_behind c op.SetContent = is_named c
may_stand_behind c o = not (is_hosted c)

-- ---- heads and operations; what stands in scripts alone isn't lawful

abbrev pub head_lawful : CoreHead → Round → Bool
head_lawful (head.Constant (Integer n)) round = is_safe n
head_lawful (head.Variable x) round = is_drawn round x
head_lawful (head.TypeOf x) round = false
head_lawful (head.Host h) round = nat_lt h round.hosts
head_lawful (head.Function f) round = nat_lt f.0 round.functions
head_lawful (head.Primitive p) round = nat_eq (operands p) 0
head_lawful (head.Copy xs) round = list_all (is_drawn round) xs
head_lawful h round = true

abbrev pub op_lawful : CoreOp → Round → Bool
op_lawful (op.Member k) round = key_lawful k
op_lawful (op.Define k) round = key_lawful k
op_lawful (op.Getter k) round = key_lawful k
op_lawful (op.Setter k) round = key_lawful k
op_lawful (op.Set x) round = is_drawn round x
op_lawful (op.Init x) round = is_drawn round x
op_lawful (op.StepVariable u x) round = false
op_lawful (op.Primitive p) round = primitive_drawn round p
op_lawful op.Yield round = round.yields
op_lawful op.Delegate round = round.yields
op_lawful o round = true

-- ---- the walk

abbrev pub Test : Type 0
Test = Round → Bool

-- a link: the operation and the site that end with it, where it is a strict one
pub record Joint : Type 0 where
  pub ends : Option CoreOp
  pub site : Option Site
  pub lawful : Test

abbrev pub Layer : (Type 0 → Type 0 → Type 0 → Type 0 → Type 0) → Type 0
Layer Of = Of Joint Test Test Test

abbrev pub all_lawful : List Test → Test
all_lawful tests round = list_all (λ t. t round) tests

abbrev pub if_there : Option Test → Test
if_there None round = true
if_there (Some t) round = t round

abbrev pub link_step : Layer CoreLink-F → Joint
link_step (layer.Strict o parts site) = record {
  ends = Some o;
  site = site;
  lawful = λ round. takes o (length parts) && op_lawful o round && all_lawful parts round;
}
link_step (layer.Lazy when taken other) = record {
  ends = None;
  site = None;
  lawful = λ round. taken round && if_there other round;
}
link_step (layer.Run body) = record { ends = None; site = None; lawful = λ round. all_lawful body round }

abbrev pub behind : Current → Option CoreOp → Bool
behind c None = not (is_hosted c)
behind c (Some o) = may_stand_behind c o

abbrev pub after : Option CoreOp → Current
after None = Plain
after (Some o) = gives o

abbrev pub links_lawful : Current → List Joint → Test
links_lawful c [] round = not (is_hosted c)
links_lawful c (l ∷ ls) round = behind c l.ends && l.lawful round && links_lawful (after l.ends) ls round

-- an expression has at most one site, on a link of its own
abbrev pub expr_step : Layer CoreExpr-F → Test
expr_step x round =
    is_none x.site && head_lawful x.head round && links_lawful (begins x.head) x.links round
    && nat_le (length (filter_map (λ l. l.site) x.links)) 1

abbrev pub case_step : Layer CoreCase-F → Test
case_step x round = if_there x.test round && all_lawful x.body round

-- a label that isn't that of a statement round it
abbrev pub is_new : Round → Label → Bool
is_new round l = not (has_label l round.labels)

abbrev pub under : Label → Round → Round
under l round = record round { labels = l ∷ round.labels }

abbrev pub in_loop : List Label → Round → Round
in_loop ls round = record round { labels = ls ++ round.labels; loops = ls ++ round.loops }

abbrev pub jump_lawful : Bool → Option Label → Round → Bool
jump_lawful goes_on None round = false
jump_lawful true (Some l) round = has_label l round.loops
jump_lawful false (Some l) round = has_label l round.labels

abbrev pub names_drawn : List ScopedName → Round → Bool
names_drawn names round = list_all (λ n. is_drawn round n.var) names

abbrev pub stat_step : Layer CoreStat-F → Test
stat_step (layer.Do x) round = x round
stat_step (layer.If cases) round = all_lawful cases round
stat_step (layer.Switch subject cases) round = subject round && all_lawful cases round
stat_step (layer.Loop labels test update body) round =
    let inside = in_loop labels round in
    list_all (is_new round) labels && all_differ (map (λ l. l.0) labels)
    && if_there test round && if_there update round && all_lawful body inside
stat_step (layer.Labelled label body) round = is_new round label && all_lawful body (under label round)
stat_step (layer.Jump goes_on label) round = jump_lawful goes_on label round
stat_step (layer.Return x) round = round.returns && x round
stat_step (layer.Throw x) round = x round
stat_step (layer.TryCatch block parameter names handler) round =
    all_lawful block round && is_drawn round parameter && names_drawn names round && all_lawful handler round
stat_step (layer.TryFinally block last) round = all_lawful block round && all_lawful last round
stat_step (layer.Scoped names body) round = names_drawn names round && all_lawful body round
stat_step (layer.Yield value kind result) round =
    round.yields && value round && is_drawn round result && list_all (λ n. nat_lt n round.names) (number_of kind)

abbrev pub stat_lawful : CoreStat → Test
stat_lawful = fold-CoreStat Joint Test Test Test link_step stat_step case_step expr_step

abbrev pub stats_lawful : List CoreStat → Test
stats_lawful stats round = all_lawful (map stat_lawful stats) round

-- ---- functions, parts and the core

abbrev pub is_empty : {A : Type 0} → List A → Bool
is_empty xs = nat_eq (length xs) 0

abbrev pub is_generator : CoreKind → Bool
is_generator Generator = true
is_generator k = false

-- round the statements of the function with this number; it holds functions of smaller numbers, and yields in its body alone
abbrev pub round_function : ℕ → ℕ → ℕ → Bool → Round
round_function names hosts number yields =
    record { names = names; hosts = hosts; functions = number; labels = []; loops = []; returns = true; yields = yields }

abbrev pub round_part : ℕ → ℕ → ℕ → Round
round_part names hosts functions =
    record { names = names; hosts = hosts; functions = functions; labels = []; loops = []; returns = false; yields = false }

abbrev pub resumed : Option Resumption → List ℕ
resumed None = []
resumed (Some r) = r.kind.0 ∷ r.value.0 ∷ []

-- the names that a function declares itself, outside its statements
abbrev pub own_names : CoreFunction → List ℕ
own_names f = number_of f.own ++ numbers f.parameters ++ number_of f.arguments ++ numbers f.locals ++ resumed f.resumption

abbrev pub function_lawful : ℕ → ℕ → ℕ → CoreFunction → Bool
function_lawful names hosts number f =
    list_all (λ n. nat_lt n names) (own_names f ++ numbers f.cells) && all_differ (numbers f.parameters)
    && is_empty f.declared
    && stats_lawful f.setup (round_function names hosts number false)
    && stats_lawful f.body (round_function names hosts number (is_generator f.kind))
    && stats_lawful f.step (round_function names hosts number false)

abbrev pub functions_lawful : ℕ → ℕ → ℕ → List CoreFunction → Bool
functions_lawful names hosts number [] = true
functions_lawful names hosts number (f ∷ fs) =
    function_lawful names hosts number f && functions_lawful names hosts (number + 1) fs

abbrev pub part_lawful : ℕ → ℕ → ℕ → CorePart → Bool
part_lawful names hosts functions p =
    names_drawn p.names (round_part names hosts functions)
    && stats_lawful p.instantiate (round_part names hosts functions)
    && stats_lawful p.body (round_part names hosts functions)

-- the names that statements declare
abbrev pub declared_in : Mentions → List ℕ
declared_in m = scoped_numbers m.scoped ++ numbers m.caught

abbrev pub held_in : Mentions → List ℕ
held_in m = map (λ f. f.0) m.functions

-- the names that a core declares; cells are those of another function
abbrev pub declarations : Core → List ℕ
declarations core =
    flat_map (λ f. own_names f ++ declared_in (function_mentions f)) core.functions
    ++ flat_map (λ p. scoped_numbers p.names ++ declared_in (part_mentions p)) core.parts

abbrev pub held : Core → List ℕ
held core =
    flat_map (λ f. held_in (function_mentions f)) core.functions ++ flat_map (λ p. held_in (part_mentions p)) core.parts

-- For so many hosts: names are drawn, operations have their parts, numbers are safe, each jump, return and yield has its
-- target, no label stands inside a statement of its own, no parameter stands twice, an expression has at most one site. A name
-- is declared once, a function is held once, by one of a larger number or a part.
abbrev pub IsLawfulFor : ℕ → Core → Type 0
IsLawfulFor hosts core =
    let names = length core.fresh.hints in
    let functions = length core.functions in
    IsTrue (functions_lawful names hosts 0 core.functions)
    × IsTrue (list_all (part_lawful names hosts functions) core.parts)
    × IsTrue (list_all (λ n. nat_lt n (length core.parts)) core.order)
    × IsTrue (all_differ (declarations core))
    × IsTrue (all_differ (held core))

-- where no hosts are handed in: for some number of them
abbrev pub IsLawful : Core → Type 0
IsLawful core = (hosts : ℕ) × IsLawfulFor hosts core
