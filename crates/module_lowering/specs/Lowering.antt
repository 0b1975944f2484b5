-- What lowering a node is, and how such things follow one another.
--
-- The choices behind it. A variable of the core stands for each binding of the modules, in the order of modules and of bindings, and
-- then for the namespace object of each module; an import is the variable of the module that exports it. A check stands only where a
-- reference may find its binding without a value. A name is shared, so that it holds a cell, where a closure captures it and its
-- scope stands in a loop. Labels are numbers of places, so none is drawn. What a construct becomes is said in lowering_rules; here is
-- said from which nodes its parts come, in which order, and what its names stand for.
use Rattle.std.specs.Prelude.{◌≡◌, ⊤, Bool, true, false, List, [], ◌∷◌, ◌++◌, length, Option, Some, None, Result, Ok, Err}
use Rattle.core_ast.specs.declared.parts.FunctionId.{FunctionId}
use Rattle.core_ast.specs.declared.parts.Var.{Var}
use Rattle.core_ast.specs.declared.whole.CoreFunction.{CoreFunction}
use Rattle.core_ast.specs.Names.{next}
use Rattle.lowering_rules.specs.declared.naming.Names.{Names}
use Rattle.lowering_rules.specs.Naming.{Drawn, with_raw, with_temporary}
use Rattle.module_lowering.specs.declared.context.Context.{Context}
use Rattle.module_lowering.specs.declared.lowerer.Lowerer.{Lowerer}
use Rattle.module_lowering.specs.declared.lowerer.Seen.{Seen}
use Rattle.module_lowering.specs.Bindings.{Bindings}

infixl 1 ◌>>=◌
-- from what names stand for, what is round the node, and what is drawn so far, to what is made of it and what is drawn then
abbrev pub Lowering : Type 0 → Type 0
Lowering A = Bindings → Context → Lowerer → A × Lowerer

-- what code gives: exactly that, or nothing where memory is out
abbrev pub Lowers : {A E : Type 0} → A × Lowerer → Result A E → Lowerer → Type 0
Lowers outcome (Ok x) state = outcome ≡ (x, state)
Lowers outcome (Err e) state = ⊤

abbrev pub pure : {A : Type 0} → A → Lowering A
pure x bindings context state = (x, state)

abbrev pub ◌>>=◌ : {A B : Type 0} → Lowering A → (A → Lowering B) → Lowering B
◌>>=◌ a f bindings context state =
    let x = a bindings context state in
    f x.0 bindings context x.1

-- what names stand for there
abbrev pub asks : {A : Type 0} → (Bindings → Context → A) → Lowering A
asks f bindings context state = (f bindings context, state)

abbrev pub within : {A : Type 0} → (Context → Context) → Lowering A → Lowering A
within f a bindings context state = a bindings (f context) state

-- ---- lists and options

-- each, behind what is made already
abbrev pub each_onto : {A : Type 0} → List A → List (Lowering A) → Lowering (List A)
each_onto made [] bindings context state = (made, state)
each_onto made (a ∷ as_) bindings context state =
    let x = a bindings context state in
    each_onto (made ++ x.0 ∷ []) as_ bindings context x.1

abbrev pub each : {A : Type 0} → List (Lowering A) → Lowering (List A)
each as_ = each_onto [] as_

-- the same where each gives several
abbrev pub all_onto : {A : Type 0} → List A → List (Lowering (List A)) → Lowering (List A)
all_onto made [] bindings context state = (made, state)
all_onto made (a ∷ as_) bindings context state =
    let x = a bindings context state in
    all_onto (made ++ x.0) as_ bindings context x.1

abbrev pub all : {A : Type 0} → List (Lowering (List A)) → Lowering (List A)
all as_ = all_onto [] as_

-- the same by what is made of each part
abbrev pub each_by_onto : {A B : Type 0} → (B → Lowering A) → List A → List B → Lowering (List A)
each_by_onto f made [] bindings context state = (made, state)
each_by_onto f made (x ∷ xs) bindings context state =
    let y = f x bindings context state in
    each_by_onto f (made ++ y.0 ∷ []) xs bindings context y.1

abbrev pub each_by : {A B : Type 0} → (B → Lowering A) → List B → Lowering (List A)
each_by f xs = each_by_onto f [] xs

abbrev pub all_by_onto : {A B : Type 0} → (B → Lowering (List A)) → List A → List B → Lowering (List A)
all_by_onto f made [] bindings context state = (made, state)
all_by_onto f made (x ∷ xs) bindings context state =
    let y = f x bindings context state in
    all_by_onto f (made ++ y.0) xs bindings context y.1

abbrev pub all_by : {A B : Type 0} → (B → Lowering (List A)) → List B → Lowering (List A)
all_by f xs = all_by_onto f [] xs

-- each goes on with what the one before it made
abbrev pub along_by : {A B : Type 0} → (B → A → Lowering A) → List B → A → Lowering A
along_by f [] x bindings context state = (x, state)
along_by f (y ∷ ys) x bindings context state =
    let z = f y x bindings context state in
    along_by f ys z.0 bindings context z.1

abbrev pub along : {A : Type 0} → List (A → Lowering A) → A → Lowering A
along [] x bindings context state = (x, state)
along (f ∷ fs) x bindings context state =
    let y = f x bindings context state in
    along fs y.0 bindings context y.1

abbrev pub option : {A : Type 0} → Option (Lowering A) → Lowering (Option A)
option None bindings context state = (None, state)
option (Some a) bindings context state =
    let x = a bindings context state in
    (Some x.0, x.1)

abbrev pub choose : {A : Type 0} → Bool → Lowering A → Lowering A → Lowering A
choose true a b bindings context state = a bindings context state
choose false a b bindings context state = b bindings context state

-- ---- names and functions

-- with temporaries of the function at hand
abbrev pub drawing : {A : Type 0} → (Names → Drawn A) → Lowering A
drawing f bindings context state =
    let d = f state.names in
    (d.value, record state { names = d.names })

abbrev pub temporary : Lowering Var
temporary bindings context state = (next state.names.fresh, record state { names = with_temporary state.names })

-- a name that isn't a local
abbrev pub raw : Lowering Var
raw bindings context state = (next state.names.fresh, record state { names = with_raw state.names })

-- the function goes into the table, behind those that it holds
abbrev pub define : CoreFunction → Lowering FunctionId
define f bindings context state =
    (record { 0 = length state.functions }, record state { functions = state.functions ++ f ∷ [] })

-- ---- functions of their own

abbrev pub unseen : Seen
unseen = record { this = false; arguments = false }

-- what is made of a function's parts, its temporaries, and what was met in it
pub record Inside (A : Type 0) : Type 0 where
  pub value : A
  pub locals : List Var
  pub seen : Seen

-- the function round it goes on behind it with the temporaries that it had
abbrev pub left : {A : Type 0} → Lowerer → Seen → A × Lowerer → Inside A × Lowerer
left outer seen x = (
  record { value = x.0; locals = x.1.names.locals; seen = x.1.seen },
  record x.1 { names = record { fresh = x.1.names.fresh; locals = outer.names.locals }; seen = seen },
)

abbrev pub entered : Seen → Lowerer → Lowerer
entered seen outer =
    record outer { names = record { fresh = outer.names.fresh; locals = [] }; seen = seen }

abbrev pub inside : {A : Type 0} → Lowering A → Lowering (Inside A)
inside a bindings context state = left state state.seen (a bindings context (entered unseen state))

-- what an arrow meets is met in the function round it
abbrev pub inside_arrow : {A : Type 0} → Lowering A → Lowering (Inside A)
inside_arrow a bindings context state =
    let x = a bindings context (entered state.seen state) in
    left state x.1.seen x

abbrev pub sees_this : Lowerer → Lowerer
sees_this state = record state { seen = record { this = true; arguments = state.seen.arguments } }

abbrev pub sees_arguments : Lowerer → Lowerer
sees_arguments state = record state { seen = record { this = state.seen.this; arguments = true } }

-- where it holds, this is done to the state
abbrev pub marking : Bool → (Lowerer → Lowerer) → Lowerer → Lowerer
marking true f state = f state
marking false f state = state
