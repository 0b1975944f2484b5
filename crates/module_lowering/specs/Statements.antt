-- Statements and declarations (ECMA-262, 6th edition, 13).
use Rattle.std.specs.Prelude.{ℕ, Bool, true, false, cond, List, [], ◌∷◌, ◌++◌, map, Option, Some, None}
use Rattle.std.specs.Option.{option_map}
use Rattle.std.specs.Str.{bytes_eq}
use Rattle.es6_ast.specs.declared.operators.VariableKind.{VariableKind}
use Rattle.es6_ast.specs.declared.operators.VariableKind.TheVariants as variable_kind
use Rattle.es6_ast.specs.declared.tree.Identifier.{Identifier}
use Rattle.es6_ast.specs.declared.tree.Argument.TheOpen as layer
use Rattle.es6_ast.specs.declared.tree.Argument.TheOpen.{Block-F, Case-F, Catch-F, Condition-F, ForFirst-F, ForTarget-F, Statement-F}
use Rattle.es6_static_semantics.specs.Findings.{joined, maybe}
use Rattle.core_ast.specs.declared.parts.ScopedName.{ScopedName}
use Rattle.core_ast.specs.declared.parts.Var.{Var}
use Rattle.core_ast.specs.declared.tree.CoreCase.{CoreCase, roll-CoreCase}
use Rattle.core_ast.specs.declared.tree.CoreExpr.{CoreExpr}
use Rattle.core_ast.specs.declared.tree.CoreStat.{CoreStat}
use Rattle.core_ast.specs.declared.tree.CoreStat.TheVariants as stat
use Rattle.core_ast.specs.Made.{undefined, variable}
use Rattle.lowering_rules.specs.declared.statement_rules.statements.Handler.{Handler}
use Rattle.lowering_rules.specs.Iteration.{for_of}
use Rattle.lowering_rules.specs.Naming.{drawn_iteration}
use Rattle.lowering_rules.specs.statement_rules.Statements.{attempt, block, body_label, branch, class_declared, do_while, exit_label, for_loop, if_chain, jump, labelled, returned, switch, while_loop}
use Rattle.module_lowering.specs.declared.context.Context.{Context}
use Rattle.module_lowering.specs.declared.context.Dead.{Dead}
use Rattle.module_lowering.specs.declared.context.JumpForm.{JumpForm}
use Rattle.module_lowering.specs.declared.context.JumpForm.TheVariants.{Cases, Stays, Turns}
use Rattle.module_lowering.specs.declared.context.JumpTarget.{JumpTarget}
use Rattle.module_lowering.specs.declared.context.Role.{Role}
use Rattle.module_lowering.specs.declared.context.Role.TheVariants.{Assigns, Initializes, Sets}
use Rattle.module_lowering.specs.Expressions.{optional, valued}
use Rattle.module_lowering.specs.Functions.{all_hoisted}
use Rattle.module_lowering.specs.Lowering.{all_by, asks, drawing, each_by, option, pure, raw, temporary, within, Lowering, ◌>>=◌}
use Rattle.module_lowering.specs.Names.{declared_at, places, scoped_names}
use Rattle.module_lowering.specs.Nodes.{Cased, Caught, Classed, Conditioned, Exited, Expressed, ForBegun, ForTargeted, Functioned, Hoisted, Layer, Listed, Parted, Patterned, Stated, nothing}
use Rattle.module_lowering.specs.declared.context.FunctionForm.TheVariants.{PlainForm}

-- ---- lists of statements

abbrev pub listed : List Stated → Listed
listed ss = record {
  variables = joined (λ s. s.listed.variables) ss;
  lexicals = joined (λ s. s.listed.lexicals) ss;
  functions = joined (λ s. s.listed.functions) ss;
  statements = all_by (λ s. s.listed.statements) ss;
}

-- a statement in which no name is declared for what is round it, but by `var`
abbrev pub running : List Identifier → Lowering (List CoreStat) → Stated
running variables a = record { listed = record nothing { variables = variables; statements = a }; exit = None }

abbrev pub doing : Lowering (List CoreStat) → Stated
doing a = running [] a

abbrev pub one_of : {A : Type 0} → (A → CoreStat) → Lowering A → Lowering (List CoreStat)
one_of f a = do
  x ← a
  pure (f x ∷ [])

-- the names of a scope are those of its lexical declarations, functions included (13.2.5)
abbrev pub scope_places : Listed → List ℕ
scope_places l = l.lexicals ++ map (λ h. h.at) l.functions

-- 13.2.13
abbrev pub block_made : Listed → Lowering (List CoreStat)
block_made l = do
  names ← asks (scoped_names (scope_places l))
  functions ← all_hoisted l.functions
  body ← l.statements
  pure (block names functions body)

abbrev pub block_step : Layer Block-F → Listed
block_step x = listed x.statements

-- ---- declarations (13.3)

abbrev pub role_of : VariableKind → Role
role_of variable_kind.Var = Sets
role_of variable_kind.Let = Initializes
role_of variable_kind.Const = Initializes

-- without an initializer a lexical name is undefined, and `var` does nothing
abbrev pub undefined_bound : Patterned → Role → Lowering (List CoreStat)
undefined_bound p Sets = pure []
undefined_bound p role = p.bound role undefined

abbrev pub value_bound : Patterned → Role → Lowering CoreExpr → Lowering (List CoreStat)
value_bound p role a = do
  x ← a
  p.bound role x

abbrev pub declarator : Role → Patterned → Option (Lowering CoreExpr) → Lowering (List CoreStat)
declarator role p None = undefined_bound p role
declarator role p (Some a) = value_bound p role a

abbrev pub declarators : Role → List Parted → Lowering (List CoreStat)
declarators role ps = all_by (λ p. declarator role p.pattern p.default) ps

abbrev pub parts_names : List Parted → List Identifier
parts_names ps = joined (λ p. p.pattern.names) ps

-- the names that `var` declares, and the places of those that let and const do
abbrev pub variables_of : VariableKind → List Identifier → List Identifier
variables_of variable_kind.Var names = names
variables_of k names = []

abbrev pub lexicals_of : VariableKind → List Identifier → List ℕ
lexicals_of variable_kind.Var names = []
lexicals_of k names = places names

abbrev pub declaration : VariableKind → List Parted → Listed
declaration k ps = record {
  variables = variables_of k (parts_names ps);
  lexicals = lexicals_of k (parts_names ps);
  functions = [];
  statements = declarators (role_of k) ps;
}

-- a function is made where its scope begins, and its declaration does nothing (14.1.21)
abbrev pub function_named : Functioned → Option Identifier → List Hoisted
function_named f None = []
function_named f (Some x) = record { at = x.span.begin; made = f.lowered PlainForm } ∷ []

abbrev pub function_declared : Functioned → Listed
function_declared f = record nothing { functions = function_named f f.name }

-- the class, and then its outer name (14.5.15)
abbrev pub class_at : ℕ → Classed → Lowering (List CoreStat)
class_at at c = do
  made ← c.lowered
  x ← declared_at at
  pure (class_declared x made.class made.statements)

abbrev pub class_named : Classed → Option Identifier → Listed
class_named c None = nothing
class_named c (Some x) = record nothing { lexicals = x.span.begin ∷ []; statements = class_at x.span.begin c }

-- ---- jumps (13.8, 13.9): the innermost loop, or switch of a break, or the statement with the label

abbrev pub takes_jump : Bool → JumpForm → Bool
takes_jump goes_on (Turns tests_last) = true
takes_jump true Cases = false
takes_jump false Cases = true
takes_jump goes_on Stays = false

abbrev pub has_label : List ℕ → Option (List ℕ) → Bool
has_label name None = false
has_label name (Some label) = bytes_eq label name

abbrev pub is_target : Bool → Option (List ℕ) → JumpTarget → Bool
is_target goes_on None t = takes_jump goes_on t.form
is_target goes_on (Some name) t = has_label name t.label

-- a continue of a loop that has its test behind the body leaves the body alone
abbrev pub jump_to : Bool → ℕ → JumpForm → CoreStat
jump_to true at (Turns true) = jump false (body_label at)
jump_to goes_on at form = jump goes_on (exit_label at)

abbrev pub jumps : Bool → Option (List ℕ) → List JumpTarget → List CoreStat
jumps goes_on label [] = []
jumps goes_on label (t ∷ ts) =
    cond (is_target goes_on label t) (jump_to goes_on t.at t.form ∷ []) (jumps goes_on label ts)

abbrev pub jumping : Bool → Option Identifier → Stated
jumping goes_on label = doing (asks (λ b c. jumps goes_on (option_map (λ x. x.name) label) c.targets))

abbrev pub targeting : Option (List ℕ) → Exited → Context → Context
targeting label e c = record c { targets = record { label = label; at = e.at; form = e.form } ∷ c.targets }

abbrev pub with_target : {A : Type 0} → ℕ → JumpForm → Lowering A → Lowering A
with_target at form a = within (targeting None (record { at = at; form = form })) a

-- a label before a loop, or before further labels of one, is the loop's, and before another statement it is of that (13.13)
abbrev pub labelled_at : ℕ → Lowering (List CoreStat) → Lowering (List CoreStat)
labelled_at at a = do
  body ← a
  pure (labelled (exit_label at) body ∷ [])

abbrev pub with_label : ℕ → List ℕ → Listed → Option Exited → Stated
with_label at name l (Some e) =
    record { listed = record l { statements = within (targeting (Some name) e) l.statements }; exit = Some e }
with_label at name l None =
    let e : Exited = record { at = at; form = Stays } in
    record { listed = record l { statements = labelled_at at (within (targeting (Some name) e) l.statements) }; exit = Some e }

-- ---- loops (13.7)

abbrev pub loop : ℕ → Bool → List Identifier → Lowering (List CoreStat) → Stated
loop at tests_last variables a = record {
  listed = record nothing { variables = variables; statements = with_target at (Turns tests_last) a };
  exit = Some (record { at = at; form = Turns tests_last });
}

-- the statement under a loop, an if or a label is a scope of none (13.1)
abbrev pub under : Stated → Lowering (List CoreStat)
under s = s.listed.statements

abbrev pub while_lowered : ℕ → Expressed → Stated → Lowering (List CoreStat)
while_lowered at test body = do
  t ← valued test
  ss ← under body
  pure (while_loop (exit_label at) t ss ∷ [])

abbrev pub do_while_lowered : ℕ → Stated → Expressed → Lowering (List CoreStat)
do_while_lowered at body test = do
  ss ← under body
  t ← valued test
  pure (do_while (exit_label at) (body_label at) ss t ∷ [])

abbrev pub for_first_step : Layer ForFirst-F → ForBegun
for_first_step layer.NoFirst = record { variables = []; lexicals = []; statements = pure [] }
for_first_step (layer.FirstVariables span k ps) = record {
  variables = variables_of k (parts_names ps);
  lexicals = lexicals_of k (parts_names ps);
  statements = declarators (role_of k) ps;
}
for_first_step (layer.FirstExpression x) = record { variables = []; lexicals = []; statements = one_of stat.Do (valued x) }

abbrev pub for_lowered : ℕ → ForBegun → Option Expressed → Option Expressed → Stated → Lowering (List CoreStat)
for_lowered at first test update body = do
  names ← asks (scoped_names first.lexicals)
  begun ← first.statements
  t ← option (optional test)
  u ← option (optional update)
  ss ← under body
  pure (for_loop (record {
    names = names;
    first = begun;
    turns = record { label = exit_label at; test = t; update = u; body = ss };
  }))

abbrev pub for_target_step : Layer ForTarget-F → ForTargeted
for_target_step (layer.Declared span k p) = record {
  variables = variables_of k p.names;
  lexicals = lexicals_of k p.names;
  bound = λ v. p.bound (role_of k) (variable v);
}
for_target_step (layer.Assigned p) = record { variables = []; lexicals = []; bound = λ v. p.bound Assigns (variable v) }

-- in the subject other variables stand for the names of the head, which have no value there (13.7.5.12)
abbrev pub dead_name : ScopedName → Lowering Dead
dead_name n = do
  x ← raw
  pure (record { name = n.var; stand_in = x })

abbrev pub in_subject : List Dead → Context → Context
in_subject ds c = record c { dead = ds ++ c.dead }

abbrev pub standing_in : ScopedName → Var → ScopedName
standing_in n x = record { var = x; shared = n.shared; mutable = n.mutable }

abbrev pub stand_ins : List ScopedName → List Dead → List ScopedName
stand_ins [] ds = []
stand_ins (n ∷ ns) [] = []
stand_ins (n ∷ ns) (d ∷ ds) = standing_in n d.stand_in ∷ stand_ins ns ds

abbrev pub turn_lowered : ℕ → ForTargeted → Stated → Var → Lowering (List CoreStat)
turn_lowered at target body v = do
  bound ← target.bound v
  ss ← under body
  pure (bound ++ ss)

-- 13.7.5.11
abbrev pub for_of_lowered : ℕ → ForTargeted → Expressed → Stated → Lowering (List CoreStat)
for_of_lowered at target subject body = do
  i ← drawing drawn_iteration
  names ← asks (scoped_names target.lexicals)
  dead ← each_by dead_name names
  x ← within (in_subject dead) (valued subject)
  turn ← turn_lowered at target body i.value
  pure (for_of i (record {
    dead = stand_ins names dead;
    subject = x;
    labels = exit_label at ∷ [];
    names = names;
    turn = turn;
  }))

-- ---- if (13.6), switch (13.12) and try (13.15)

abbrev pub case_of : Lowering CoreExpr → Lowering (List CoreStat) → Lowering CoreCase
case_of test body = do
  t ← test
  ss ← body
  pure (branch t ss)

abbrev pub condition_step : Layer Condition-F → Conditioned
condition_step x = record { variables = x.body.listed.variables; lowered = case_of (valued x.test) (under x.body) }

abbrev pub if_lowered : Conditioned → List Conditioned → Option Stated → Lowering (List CoreStat)
if_lowered first more otherwise = do
  c ← first.lowered
  cs ← each_by (λ c. c.lowered) more
  other ← option (option_map under otherwise)
  pure (if_chain c cs other ∷ [])

abbrev pub if_variables : Conditioned → List Conditioned → Option Stated → List Identifier
if_variables first more otherwise =
    first.variables ++ joined (λ c. c.variables) more ++ maybe (λ s. s.listed.variables) otherwise

abbrev pub case_step : Layer Case-F → Cased
case_step x = record { test = optional x.test; body = listed x.body }

abbrev pub case_lowered : Cased → Lowering CoreCase
case_lowered c = do
  t ← option c.test
  ss ← c.body.statements
  pure (roll-CoreCase (record { test = t; body = ss }))

-- the clauses are one scope (13.12.11)
abbrev pub cases_scope : List Cased → List ℕ
cases_scope cs = joined (λ c. c.body.lexicals) cs ++ map (λ h. h.at) (cases_functions cs)
  where
    cases_functions : List Cased → List Hoisted
    cases_functions ds = joined (λ c. c.body.functions) ds

abbrev pub switch_lowered : ℕ → Expressed → List Cased → Lowering (List CoreStat)
switch_lowered at subject cs = do
  kept ← temporary
  x ← valued subject
  names ← asks (scoped_names (cases_scope cs))
  functions ← all_hoisted (joined (λ c. c.body.functions) cs)
  cases ← with_target at Cases (each_by case_lowered cs)
  pure (switch (record {
    label = exit_label at;
    kept = kept;
    subject = x;
    names = names;
    functions = functions;
    cases = cases;
  }))

abbrev pub catch_step : Layer Catch-F → Caught
catch_step x = record { parameter = x.parameter; block = x.body }

-- in its pattern the names of a catch parameter may be uninitialized (13.15.7)
abbrev pub in_catch : Patterned → Context → Context
in_catch p c = record c { heads = places p.names ++ c.heads }

abbrev pub handler : Caught → Lowering Handler
handler h = do
  thrown ← raw
  names ← asks (scoped_names (places h.parameter.names))
  bound ← within (in_catch h.parameter) (h.parameter.bound Initializes (variable thrown))
  ss ← block_made h.block
  pure (record { thrown = thrown; names = names; bound = bound; block = ss })

abbrev pub try_lowered : Listed → Option Caught → Option Listed → Lowering (List CoreStat)
try_lowered tried caught last = do
  ss ← block_made tried
  h ← option (option_map handler caught)
  l ← option (option_map block_made last)
  pure (attempt ss h l)

abbrev pub try_variables : Listed → Option Caught → Option Listed → List Identifier
try_variables tried caught last =
    tried.variables ++ maybe (λ h. h.block.variables) caught ++ maybe (λ l. l.variables) last

-- ---- return (13.10)

abbrev pub returning : Option Expressed → Lowering (List CoreStat)
returning x = do
  y ← option (optional x)
  pure (returned y ∷ [])

-- ---- statements

abbrev pub declaring : Listed → Stated
declaring l = record { listed = l; exit = None }

abbrev pub statement_step : Layer Statement-F → Stated
statement_step (layer.Block b) = running b.variables (block_made b)
statement_step (layer.Variables span k ps) = declaring (declaration k ps)
statement_step (layer.Empty span) = doing (pure [])
statement_step (layer.Expression span x) = doing (one_of stat.Do (valued x))
statement_step (layer.If span first more otherwise) =
    running (if_variables first more otherwise) (if_lowered first more otherwise)
statement_step (layer.DoWhile span body test) =
    loop span.begin true body.listed.variables (do_while_lowered span.begin body test)
statement_step (layer.While span test body) =
    loop span.begin false body.listed.variables (while_lowered span.begin test body)
statement_step (layer.For span first test update body) =
    loop span.begin false (first.variables ++ body.listed.variables) (for_lowered span.begin first test update body)
statement_step (layer.ForOf span target subject body) =
    loop span.begin false (target.variables ++ body.listed.variables) (for_of_lowered span.begin target subject body)
statement_step (layer.Continue span label) = jumping true label
statement_step (layer.Break span label) = jumping false label
statement_step (layer.Return span x) = doing (returning x)
statement_step (layer.Switch span subject cs) =
    running (joined (λ c. c.body.variables) cs) (switch_lowered span.begin subject cs)
statement_step (layer.Labelled span label body) = with_label span.begin label.name body.listed body.exit
statement_step (layer.Throw span x) = doing (one_of stat.Throw (valued x))
statement_step (layer.Try span tried caught last) = running (try_variables tried caught last) (try_lowered tried caught last)
statement_step (layer.Debugger span) = doing (pure [])
statement_step (layer.FunctionDeclaration f) = declaring (function_declared f)
statement_step (layer.ClassDeclaration c) = declaring (class_named c c.name)
