-- Small statements, bodies and modules, with what the definitions give of them.
use Rattle.std.proofs.Common.{◌≡◌, ℕ, List, [], ◌∷◌, true, false, None, Some, refl}
use Rattle.core_ast.specs.declared.parts.CoreHead.TheVariants as head
use Rattle.core_ast.specs.declared.parts.CoreOp.TheVariants as op
use Rattle.core_ast.specs.declared.parts.FunctionId.{FunctionId}
use Rattle.core_ast.specs.declared.parts.Label.{Label}
use Rattle.core_ast.specs.declared.parts.Primitive.TheVariants.{ClassMake, IncludesPut, NamespaceMake}
use Rattle.core_ast.specs.declared.parts.ScopedName.{ScopedName}
use Rattle.core_ast.specs.declared.parts.Unary.TheVariants.{Not}
use Rattle.core_ast.specs.declared.parts.Var.{Var}
use Rattle.core_ast.specs.declared.tree.CoreCase.{CoreCase, roll-CoreCase}
use Rattle.core_ast.specs.declared.tree.CoreExpr.{CoreExpr}
use Rattle.core_ast.specs.declared.tree.CoreLink.TheVariants as link
use Rattle.core_ast.specs.declared.tree.CoreStat.{CoreStat}
use Rattle.core_ast.specs.declared.tree.CoreStat.TheVariants as stat
use Rattle.core_ast.specs.declared.whole.CoreKind.TheVariants.{Generator, Plain}
use Rattle.core_ast.specs.Made.{act, acting, expression, linked, undefined, variable}
use Rattle.lowering_rules.specs.declared.classes.ClassNames.{ClassNames}
use Rattle.lowering_rules.specs.statement_rules.Bodies as bodies
use Rattle.lowering_rules.specs.Classes.{class_statements, closure, made, prototype}
use Rattle.lowering_rules.specs.Making.{flag, initialize, number, primitive, set, text, uninitialized}
use Rattle.lowering_rules.specs.statement_rules.Statements as statements

-- the name with this variable, as a let has it and as a const has it
abbrev changing : Var → ScopedName
changing x = record { var = x; shared = true; mutable = true }

abbrev constant : Var → ScopedName
constant x = record { var = x; shared = false; mutable = false }

-- for (let i = x; t; u) body: a copy of i before the first test and before each update
pub for_with_let : (i : Var) (l : Label) (x t u : CoreExpr) (body : CoreStat) →
    statements.for_loop (record {
      names = changing i ∷ [];
      first = statements.lexical i (Some x) ∷ [];
      turns = record { label = l; test = Some t; update = Some u; body = body ∷ [] };
    })
    ≡ stat.Scoped (changing i ∷ [])
    (initialize i x
    ∷ stat.Do (expression None (head.Copy (i ∷ [])) [])
    ∷ stat.Loop (l ∷ []) (Some t) (Some (expression None (head.Copy (i ∷ [])) (acting op.Then u ∷ []))) (body ∷ [])
    ∷ [])
    ∷ []
unfolding statements.lexical statements.followed
for_with_let i l x t u body = refl

-- for (const c = x; t;) body
pub for_with_const : (c : Var) (l : Label) (x t : CoreExpr) (body : CoreStat) →
    statements.for_loop (record {
      names = constant c ∷ [];
      first = statements.lexical c (Some x) ∷ [];
      turns = record { label = l; test = Some t; update = None; body = body ∷ [] };
    })
    ≡ stat.Scoped (constant c ∷ []) (initialize c x ∷ stat.Loop (l ∷ []) (Some t) None (body ∷ []) ∷ []) ∷ []
unfolding statements.lexical
for_with_const c l x t body = refl

-- for (;;) continue;
pub for_without_parts : (l : Label) →
    statements.for_loop (record {
      names = [];
      first = [];
      turns = record { label = l; test = None; update = None; body = statements.jump true l ∷ [] };
    })
    ≡ stat.Loop (l ∷ []) None None (stat.Jump true (Some l) ∷ []) ∷ []
for_without_parts l = refl

-- do { if (x) continue; body } while (t), which begins at the place 7
pub do_while_with_continue : (x t : CoreExpr) (body : CoreStat) →
    statements.do_while (statements.exit_label 7) (statements.body_label 7)
    (statements.if_chain (statements.branch x (statements.jump false (statements.body_label 7) ∷ [])) [] None ∷ body ∷ []) t
    ≡ stat.Loop (record { 0 = 14 } ∷ []) None None
    (stat.Labelled (record { 0 = 15 })
    (stat.If (roll-CoreCase (record { test = Some x; body = stat.Jump false (Some (record { 0 = 15 })) ∷ [] }) ∷ []) ∷ body ∷ [])
    ∷ stat.If (roll-CoreCase (record {
      test = Some (linked t (act (op.Unary Not)));
      body = stat.Jump false (Some (record { 0 = 14 })) ∷ [];
    })
    ∷ [])
    ∷ [])
unfolding statements.otherwise
do_while_with_continue x t body = refl

-- if (x) a else if (y) b else c
pub if_with_else : (x y : CoreExpr) (a b c : CoreStat) →
    statements.if_chain (statements.branch x (a ∷ [])) (statements.branch y (b ∷ []) ∷ []) (Some (c ∷ []))
    ≡ stat.If (roll-CoreCase (record { test = Some x; body = a ∷ [] })
    ∷ roll-CoreCase (record { test = Some y; body = b ∷ [] })
    ∷ roll-CoreCase (record { test = None; body = c ∷ [] })
    ∷ [])
unfolding statements.otherwise
if_with_else x y a b c = refl

-- switch (x) { case 1: let y = 2; function g() {} break; }
pub switch_with_names : (t y g : Var) (f : FunctionId) (l : Label) (x : CoreExpr) →
    statements.switch (record {
      label = l;
      kept = t;
      subject = x;
      names = changing y ∷ changing g ∷ [];
      functions = record { var = g; function = f } ∷ [];
      cases = roll-CoreCase (record {
        test = Some (number 1);
        body = statements.lexical y (Some (number 2)) ∷ statements.jump false l ∷ [];
      })
          ∷ [];
    })
    ≡ set t x
    ∷ stat.Labelled l
    (stat.Scoped (changing y ∷ changing g ∷ [])
    (initialize g (expression None (head.Function f) [])
    ∷ stat.Switch (variable t)
    (roll-CoreCase (record { test = Some (number 1); body = initialize y (number 2) ∷ stat.Jump false (Some l) ∷ [] }) ∷ [])
    ∷ [])
    ∷ [])
    ∷ []
unfolding statements.lexical
switch_with_names t y g f l x = refl

-- { a; function g() {} let b; }: the function is there before a
pub block_with_a_function : (g b : Var) (f : FunctionId) (a : CoreStat) →
    statements.block (changing g ∷ changing b ∷ []) (record { var = g; function = f } ∷ []) (a ∷ statements.lexical b None ∷ [])
    ≡ stat.Scoped (changing g ∷ changing b ∷ []) (initialize g (closure f) ∷ a ∷ initialize b undefined ∷ []) ∷ []
unfolding statements.lexical
block_with_a_function g b f a = refl

-- try { a } catch (e) { b } finally { c }
pub try_with_all_parts : (thrown e : Var) (a b c : CoreStat) →
    statements.attempt (a ∷ [])
    (Some (record {
      thrown = thrown;
      names = changing e ∷ [];
      bound = initialize e (variable thrown) ∷ [];
      block = b ∷ [];
    }))
    (Some (c ∷ []))
    ≡ stat.TryFinally
    (stat.TryCatch (a ∷ []) thrown (changing e ∷ []) (initialize e (variable thrown) ∷ b ∷ []) ∷ [])
    (c ∷ [])
    ∷ []
unfolding statements.caught statements.ended
try_with_all_parts thrown e a b c = refl

-- class C {}: the inner name, and then the outer one
pub class_with_both_names : (outer inner : Var) (c : ClassNames) (f : FunctionId) →
    statements.class_declared outer c.class (class_statements c (Some (constant inner)) None f [])
    ≡ stat.Scoped (constant inner ∷ [])
    (set c.class (linked (flag false) (link.Strict (op.Primitive ClassMake) (undefined ∷ closure f ∷ []) None))
    ∷ prototype c
    ∷ initialize inner (variable c.class)
    ∷ [])
    ∷ initialize outer (variable c.class)
    ∷ []
unfolding class_statements made
class_with_both_names outer inner c f = refl

-- function () { let x; var y; function h() {} body }, which uses the temporary t
pub body_with_names : (x y h t : Var) (f : FunctionId) (body : CoreStat) →
    bodies.with_body
    (record { variables = y ∷ h ∷ []; lexical = changing x ∷ []; functions = record { var = h; function = f } ∷ [] })
    (statements.lexical x None ∷ body ∷ [])
    (t ∷ [])
    (bodies.begun Plain (record { arguments = None; this = None; target = None }))
    ≡ record {
      kind = Plain;
      own = None;
      parameters = [];
      length = 0;
      arguments = None;
      cells = [];
      locals = y ∷ h ∷ x ∷ t ∷ [];
      declared = [];
      setup = uninitialized x ∷ initialize h (closure f) ∷ [];
      body = initialize x undefined ∷ body ∷ [];
      resumption = None;
      step = [];
    }
unfolding statements.lexical bodies.kept bodies.names_of
body_with_names x y h t f body = refl

-- function* () { .. this .. arguments .. }
pub generator_with_this : (this arguments : Var) →
    bodies.begun Generator (record { arguments = Some arguments; this = Some this; target = None })
    ≡ record {
      kind = Generator;
      own = None;
      parameters = [];
      length = 0;
      arguments = Some arguments;
      cells = [];
      locals = this ∷ [];
      declared = [];
      setup = initialize this (expression None head.This []) ∷ [];
      body = [];
      resumption = None;
      step = [];
    }
unfolding bodies.kept bodies.names_of
generator_with_this this arguments = refl

-- the expression function r() { .. }
pub function_with_a_name : (t r : Var) (f : FunctionId) →
    bodies.named_function t (constant r) f
    ≡ linked (linked undefined
    (link.Run (stat.Scoped (constant r ∷ []) (initialize r (closure f) ∷ set t (variable r) ∷ []) ∷ [])))
    (acting op.Then (variable t))
function_with_a_name t r f = refl

-- the module of the entry, which imports its own namespace: export let x; export function f() {}
pub module_with_a_namespace : (x f n t : Var) (function read_f read_x : FunctionId) (fs xs : List ℕ) (body : CoreStat) →
    bodies.part true
    (record {
      names = changing x ∷ changing f ∷ constant n ∷ [];
      lexical = changing x ∷ [];
      functions = record { var = f; function = function } ∷ [];
      namespaces = record {
        var = n;
        exports = record { name = fs; getter = read_f } ∷ record { name = xs; getter = read_x } ∷ [];
      }
          ∷ [];
    })
    (body ∷ [])
    (t ∷ [])
    ≡ record {
      names = changing x ∷ changing f ∷ constant n ∷ record { var = t; shared = false; mutable = true } ∷ [];
      instantiate = stat.Do (primitive IncludesPut)
          ∷ uninitialized x
          ∷ initialize f (closure function)
          ∷ set n (expression None head.ArgumentList
          (acting op.Element (text fs)
          ∷ acting op.Element (closure read_f)
          ∷ acting op.Element (text xs)
          ∷ acting op.Element (closure read_x)
          ∷ act (op.Primitive NamespaceMake)
          ∷ []))
          ∷ [];
      body = body ∷ [];
    }
module_with_a_namespace x f n t function read_f read_x fs xs body = refl
