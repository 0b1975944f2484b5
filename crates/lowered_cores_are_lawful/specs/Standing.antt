-- What stands round a node of a module's tree while it is lowered, and what its lowering makes there.
use Rattle.std.specs.Prelude.{ℕ, ◌<◌, ◌≤◌, Bool, true, nat_lt, length, List, [], ◌∷◌, Option, None, Some, IsTrue}
use Rattle.std.specs.List.{list_all}
use Rattle.core_ast.specs.declared.parts.Var.{Var}
use Rattle.core_ast.specs.Lawful.{Round, functions_lawful}
use Rattle.binding_tables.specs.declared.ids.BindingId.{BindingId}
use Rattle.scope_analysis.specs.Answers.{declared_ids, referred_ids}
use Rattle.module_lowering.specs.Bindings.{Bindings, id_var}
use Rattle.module_lowering.specs.Lowering.{Lowering}
use Rattle.module_lowering.specs.declared.context.Context.{Context}
use Rattle.module_lowering.specs.declared.context.Dead.{Dead}
use Rattle.module_lowering.specs.declared.context.ThisKind.{ThisKind}
use Rattle.module_lowering.specs.declared.context.ThisKind.TheVariants.{OfConstructor, OfFunction, OfGenerator, OfMethod, OfModule}
use Rattle.module_lowering.specs.declared.lowerer.Lowerer.{Lowerer}
use Rattle.module_lowering.specs.declared.meaning.Meaning.{Meaning}
use Rattle.module_lowering.specs.declared.meaning.Meaning.TheVariants.{Elsewhere, Itself, NamespaceOf, OfHost}

-- ---- names so far, and what bindings stand for among them

abbrev pub size : Lowerer → ℕ
size s = length s.names.fresh.hints

abbrev pub held : Lowerer → ℕ
held s = length s.functions

-- the round of what is made so far: the names and functions so far
abbrev pub here : Lowerer → Round → Round
here s r = record r { names = length s.names.fresh.hints; functions = length s.functions }

abbrev pub meaning_drawn : ℕ → ℕ → Meaning → Bool
meaning_drawn hosts names Itself = true
meaning_drawn hosts names (Elsewhere x) = nat_lt x.0 names
meaning_drawn hosts names (NamespaceOf x) = nat_lt x.0 names
meaning_drawn hosts names (OfHost h) = nat_lt h hosts

abbrev pub ids_drawn : Bindings → ℕ → List BindingId → Bool
ids_drawn b names ids = list_all (λ i. nat_lt (id_var b i).0 names) ids

-- what names declare and find are variables among so many names, and hosts are among so many
pub record BindingsAreDrawn (b : Bindings) (hosts names : ℕ) : Type 0 where
  pub some : 0 < names
  pub declared : (home at : ℕ) → IsTrue (ids_drawn b names (declared_ids b.scopes home at))
  pub referred : (home at : ℕ) → IsTrue (ids_drawn b names (referred_ids b.scopes home at))
  pub meanings : IsTrue (list_all (meaning_drawn hosts names) b.meanings)

-- ---- what stands round a node: variables of bindings, of `this` of a generator and of the heads of for-of are drawn, so are the
-- temporaries so far, and the functions so far are lawful

abbrev pub this_drawn : ℕ → ThisKind → Bool
this_drawn names OfModule = true
this_drawn names OfFunction = true
this_drawn names OfMethod = true
this_drawn names (OfConstructor derived) = true
this_drawn names (OfGenerator kept) = nat_lt kept.0 names

abbrev pub dead_drawn : ℕ → List Dead → Bool
dead_drawn names ds = list_all (λ (d : Dead). nat_lt d.stand_in.0 names) ds

abbrev pub vars_drawn : ℕ → List Var → Bool
vars_drawn names xs = list_all (λ (x : Var). nat_lt x.0 names) xs

pub record StandsFor (b : Bindings) (this_kind : ThisKind) (heads : List Dead) (hosts : ℕ) (s : Lowerer) : Type 0 where
  pub bindings : BindingsAreDrawn b hosts (size s)
  pub this : IsTrue (this_drawn (size s) this_kind)
  pub dead : IsTrue (dead_drawn (size s) heads)
  pub locals : IsTrue (vars_drawn (size s) s.names.locals)
  pub functions : IsTrue (functions_lawful (size s) hosts 0 s.functions)

abbrev pub Stands : Bindings → Context → ℕ → Lowerer → Type 0
Stands b c hosts s = StandsFor b c.this c.dead hosts s

-- ---- what is made: no name or function is taken back, what stands round it still does, and the value is as is said

pub record Made {A : Type 0} (Q : Round → A → Type 0) (b : Bindings) (c : Context) (r : Round) (s : Lowerer) (x : A × Lowerer) : Type 0 where
  pub names : size s ≤ size x.1
  pub functions : held s ≤ held x.1
  pub stands : Stands b c r.hosts x.1
  pub lawful : Q (here x.1 r) x.0

abbrev pub Makes : {A : Type 0} → (Round → A → Type 0) → Bindings → Context → Round → Lowering A → Type 0
Makes Q b c r a = (s : Lowerer) → Stands b c r.hosts s → Made Q b c r s (a b c s)

-- the same of what a function of a test says
abbrev pub Of : {A : Type 0} → (Round → A → Bool) → Round → A → Type 0
Of T r x = IsTrue (T r x)

abbrev pub AllOf : {A : Type 0} → (Round → A → Bool) → Round → List A → Type 0
AllOf T r xs = IsTrue (list_all (T r) xs)

abbrev pub IfOf : {A : Type 0} → (Round → A → Type 0) → Round → Option A → Type 0
IfOf Q r None = Unit {0}
IfOf Q r (Some x) = Q r x

-- each of a list, and one if it is there
abbrev pub Every : {A : Type 0} → (A → Type 0) → List A → Type 0
Every P [] = Unit {0}
Every P (x ∷ xs) = P x × Every P xs

abbrev pub IfThere : {A : Type 0} → (A → Type 0) → Option A → Type 0
IfThere P None = Unit {0}
IfThere P (Some x) = P x
