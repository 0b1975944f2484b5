-- Functions, namespace objects and parts of modules are lawful.
use Rattle.std.specs.List.{flat_map, list_all}
use Rattle.std.proofs.Common.{◌≡◌, ℕ, ◌+◌, Bool, true, false, ◌&&◌, not, nat_lt, List, [], ◌∷◌, ◌++◌, map, Option, None, Some, refl, sym, ap, arith, subst, ◌∙◌}
use Rattle.core_ast.specs.declared.parts.CoreHead.TheVariants as head
use Rattle.core_ast.specs.declared.parts.CoreOp.TheVariants as op
use Rattle.core_ast.specs.declared.parts.Constant.TheVariants.{Undefined}
use Rattle.core_ast.specs.declared.parts.Primitive.TheVariants.{ClassGuard, IncludesPut, NamespaceMake, NewTarget}
use Rattle.core_ast.specs.declared.parts.ScopedName.{ScopedName}
use Rattle.core_ast.specs.declared.parts.Var.{Var}
use Rattle.core_ast.specs.declared.tree.CoreExpr.{CoreExpr}
use Rattle.core_ast.specs.declared.tree.CoreLink.TheOpen as layer
use Rattle.core_ast.specs.declared.tree.CoreLink.TheVariants as link
use Rattle.core_ast.specs.declared.tree.CoreStat.{CoreStat}
use Rattle.core_ast.specs.declared.tree.CoreStat.TheVariants as stat
use Rattle.core_ast.specs.declared.whole.CoreFunction.{CoreFunction}
use Rattle.core_ast.specs.Lawful as lawful
use Rattle.core_ast.specs.Lawful.{Round, all_differ, is_generator, number_of, numbers, own_names, resumed}
use Rattle.core_ast.specs.Made.{expression, linked, variable}
use Rattle.lawful_passes.proofs.Far.{Are, SoFar, do_is, done_is, joint, joined, linked_far, more_sites, return_is, rolled_is, site_count, variable_is}
use Rattle.lawful_passes.proofs.Kept.{all_both, all_left, all_right, numbers_more, vars_numbers}
use Rattle.lawful_passes.proofs.Spilling.{Sound}
use Rattle.lawful_passes.proofs.Stepping.{sound_whole}
use Rattle.lowering_laws.specs.Bodies.{BegunAreLawful, ConciseAreLawful, DeclaredAreLawful, DefaultConstructorsAreLawful, GettersAreLawful, InstantiationKeepsLaw, KindsKeepLaw, NamedFunctionsAreLawful, NamespacesAreLawful, ParametersKeepLaw, PartsAreLawful, RunAreLawful, StatementsKeepLaw, default_constructor, if_var, inner, namespace_lawful, outer}
use Rattle.lowering_laws.specs.Classes.{parameter_lawful}
use Rattle.lowering_laws.proofs.Classes.{closure_is, default_bodies_are_lawful, parameters_are_lawful, uninitialized_is}
use Rattle.lowering_laws.proofs.Expressions.{AllPlain, PlainLink, acted, all_more, list_is, plain_strict, plainly, text_is}
use Rattle.lowering_laws.proofs.Statements.{hoisted_are, initialize_is, set_is, stored_is, then_is}
use Rattle.lowering_rules.specs.Classes.{closure, constructor}
use Rattle.lowering_rules.specs.Functions.{arrow, parameters_bound, with_parameters}
use Rattle.lowering_rules.specs.Making.{primitive, stored, text, uninitialized}
use Rattle.lowering_rules.specs.declared.functions.Parameter.{Parameter}
use Rattle.lowering_rules.specs.declared.statement_rules.bodies.Export.{Export}
use Rattle.lowering_rules.specs.declared.statement_rules.bodies.Namespace.{Namespace}
use Rattle.lowering_rules.specs.statement_rules.Bodies as s
use Rattle.lowering_rules.specs.statement_rules.Statements.{hoisted}
use Rattle.pass_rules.proofs.pass_laws.Related.{of_stat, link_rolled}
use Rattle.pass_rules.proofs.pass_laws.Starts.{laws}
use Rattle.pass_rules.proofs.pass_laws.Within.{left, right, both, either}

-- ## What a lawful function is

abbrev Below : ℕ → List ℕ → Type 0
Below names is = list_all (λ i. nat_lt i names) is ≡ true

record Parted (names hosts number : ℕ) (f : CoreFunction) : Type 0 where
  own : Below names (number_of f.own)
  parameters : Below names (numbers f.parameters)
  arguments : Below names (number_of f.arguments)
  locals : Below names (numbers f.locals)
  resumed : Below names (resumed f.resumption)
  cells : Below names (numbers f.cells)
  differ : all_differ (numbers f.parameters) ≡ true
  declared : lawful.is_empty f.declared ≡ true
  setup : Are (outer names hosts number) f.setup
  body : Are (inner names hosts number f) f.body
  step : Are (outer names hosts number) f.step

all_six : (a b c d e f : Bool) → a ≡ true → b ≡ true → c ≡ true → d ≡ true → e ≡ true → f ≡ true → (a && b && c && d && e && f) ≡ true
all_six a b c d e f h i j k l m = both (both (both (both (both h i) j) k) l) m

of_six : (a b c d e f : Bool) → (a && b && c && d && e && f) ≡ true → (a ≡ true) × (b ≡ true) × (c ≡ true) × (d ≡ true) × (e ≡ true) × (f ≡ true)
of_six a b c d e f h =
    let five = left (a && b && c && d && e) f h in let four = left (a && b && c && d) e five in let three = left (a && b && c) d four in let two = left (a && b) c three in
    (left a b two, right a b two, right (a && b) c three, right (a && b && c) d four, right (a && b && c && d) e five, right (a && b && c && d && e) f h)

parted : (names hosts number : ℕ) (f : CoreFunction) → lawful.function_lawful names hosts number f ≡ true → Parted names hosts number f
parted names hosts number f h =
    let q = of_six (list_all (λ n. nat_lt n names) (own_names f ++ numbers f.cells)) (all_differ (numbers f.parameters)) (lawful.is_empty f.declared) (lawful.stats_lawful f.setup (outer names hosts number))
    (lawful.stats_lawful f.body (inner names hosts number f)) (lawful.stats_lawful f.step (outer names hosts number)) h in
    let a = number_of f.own in let b = numbers f.parameters in let c = number_of f.arguments in let d = numbers f.locals in let e = resumed f.resumption in
    let five = all_left names (own_names f) (numbers f.cells) q.0 in let four = all_left names (((a ++ b) ++ c) ++ d) e five in let three = all_left names ((a ++ b) ++ c) d four in let two = all_left names (a ++ b) c three in
    record {
      own = all_left names a b two;
      parameters = all_right names a b two;
      arguments = all_right names (a ++ b) c three;
      locals = all_right names ((a ++ b) ++ c) d four;
      resumed = all_right names (((a ++ b) ++ c) ++ d) e five;
      cells = all_right names (own_names f) (numbers f.cells) q.0;
      differ = q.1;
      declared = q.2;
      setup = q.3;
      body = q.4;
      step = q.5;
    }

whole : (names hosts number : ℕ) (f : CoreFunction) → Parted names hosts number f → lawful.function_lawful names hosts number f ≡ true
whole names hosts number f q =
    let a = number_of f.own in let b = numbers f.parameters in let c = number_of f.arguments in let d = numbers f.locals in let e = resumed f.resumption in
    all_six (list_all (λ n. nat_lt n names) (own_names f ++ numbers f.cells)) (all_differ (numbers f.parameters)) (lawful.is_empty f.declared) (lawful.stats_lawful f.setup (outer names hosts number))
    (lawful.stats_lawful f.body (inner names hosts number f)) (lawful.stats_lawful f.step (outer names hosts number))
    (all_both names (own_names f) (numbers f.cells) (all_both names (((a ++ b) ++ c) ++ d) e (all_both names ((a ++ b) ++ c) d (all_both names (a ++ b) c (all_both names a b q.own q.parameters) q.arguments) q.locals) q.resumed) q.cells)
    q.differ q.declared q.setup q.body q.step

locals_more : (names : ℕ) (xs ys : List Var) → Below names (numbers xs) → list_all (λ (x : Var). nat_lt x.0 names) ys ≡ true → Below names (numbers (xs ++ ys))
locals_more names xs ys h k = subst (Below names) (sym (numbers_more xs ys)) (all_both names (numbers xs) (numbers ys) h (vars_numbers names ys k))

-- ## Functions

kept_are : (r : Round) (x : Option Var) (value : CoreExpr) → if_var r x ≡ true → Sound r value → Are r (s.kept x value)
unfolding s.kept
kept_are r None value h k = refl
kept_are r (Some x) value h k = both (initialize_is r x value h k) refl

names_of_below : (r : Round) (x : Option Var) → if_var r x ≡ true → list_all (λ (y : Var). nat_lt y.0 r.names) (s.names_of x) ≡ true
unfolding s.names_of
names_of_below r None h = refl
names_of_below r (Some x) h = both h refl

argument_below : (r : Round) (x : Option Var) → if_var r x ≡ true → Below r.names (number_of x)
argument_below r None h = refl
argument_below r (Some x) h = both h refl

pub begun_are_lawful : BegunAreLawful
begun_are_lawful names hosts number kind q h k m =
    let r = outer names hosts number in
    whole names hosts number (s.begun kind q) (record {
      own = refl;
      parameters = refl;
      arguments = argument_below r q.arguments h;
      locals = locals_more names (s.names_of q.this) (s.names_of q.target) (vars_numbers names (s.names_of q.this) (names_of_below r q.this k)) (names_of_below r q.target m);
      resumed = refl;
      cells = refl;
      differ = refl;
      declared = refl;
      setup = joined r (s.kept q.this (expression None head.This [])) _ (kept_are r q.this _ k (list_is r head.This [] refl refl tt)) (kept_are r q.target _ m (list_is r (head.Primitive NewTarget) [] refl refl tt));
      body = refl;
      step = refl;
    })

formals_drawn : (r : Round) (ps : List Parameter) → list_all (parameter_lawful r) ps ≡ true → list_all (lawful.is_drawn r) (map (λ p. p.formal) ps) ≡ true
formals_drawn r [] h = refl
formals_drawn r (p ∷ ps) h = both (left _ _ (left _ _ (left (parameter_lawful r p) (list_all (parameter_lawful r) ps) h))) (formals_drawn r ps (right (parameter_lawful r p) (list_all (parameter_lawful r) ps) h))

pub parameters_keep_law : ParametersKeepLaw
parameters_keep_law names hosts number f ps rest scope h differ safe k m drawn begun =
    let q = parted names hosts number f h in let r = outer names hosts number in
    whole names hosts number (with_parameters ps rest scope f) (record {
      own = q.own;
      parameters = vars_numbers names (map (λ p. p.formal) ps) (formals_drawn r ps k);
      arguments = q.arguments;
      locals = locals_more names f.locals scope.names q.locals drawn;
      resumed = q.resumed;
      cells = q.cells;
      differ = differ;
      declared = q.declared;
      setup = joined r f.setup (parameters_bound ps rest scope) q.setup (parameters_are_lawful r ps rest scope safe k m drawn begun);
      body = q.body;
      step = q.step;
    })

lexical_drawn : (r : Round) (names : List ScopedName) → lawful.names_drawn names r ≡ true → list_all (lawful.is_drawn r) (map (λ n. n.var) names) ≡ true
lexical_drawn r [] h = refl
lexical_drawn r (n ∷ names) h = both (left _ _ h) (lexical_drawn r names (right _ _ h))

unready_are : (r : Round) (names : List ScopedName) → lawful.names_drawn names r ≡ true → Are r (map (λ n. uninitialized n.var) names)
unready_are r [] h = refl
unready_are r (n ∷ names) h = both (uninitialized_is r n.var (left _ _ h)) (unready_are r names (right _ _ h))

pub instantiation_keeps_law : InstantiationKeepsLaw
instantiation_keeps_law names hosts number f b h variables lexical functions =
    let q = parted names hosts number f h in let r = outer names hosts number in let unready = map (λ n. uninitialized n.var) b.lexical in
    whole names hosts number (s.instantiated b f) (record {
      own = q.own;
      parameters = q.parameters;
      arguments = q.arguments;
      locals = locals_more names (f.locals ++ b.variables) (map (λ n. n.var) b.lexical) (locals_more names f.locals b.variables q.locals variables) (lexical_drawn r b.lexical lexical);
      resumed = q.resumed;
      cells = q.cells;
      differ = q.differ;
      declared = q.declared;
      setup = joined r f.setup (unready ++ map hoisted b.functions) q.setup (joined r unready (map hoisted b.functions) (unready_are r b.lexical lexical) (hoisted_are r b.functions functions));
      body = q.body;
      step = q.step;
    })

pub statements_keep_law : StatementsKeepLaw
statements_keep_law names hosts number f stats temporaries h drawn k =
    let q = parted names hosts number f h in
    whole names hosts number (s.with_statements stats temporaries f) (record {
      own = q.own;
      parameters = q.parameters;
      arguments = q.arguments;
      locals = locals_more names f.locals temporaries q.locals drawn;
      resumed = q.resumed;
      cells = q.cells;
      differ = q.differ;
      declared = q.declared;
      setup = q.setup;
      body = joined (inner names hosts number f) f.body stats q.body k;
      step = q.step;
    })

not_generating : (b : Bool) → not b ≡ true → b ≡ false
not_generating false h = refl
not_generating true h = sym h

pub kinds_keep_law : KindsKeepLaw
kinds_keep_law names hosts number f derived g h =
    let q = parted names hosts number f h in let r = outer names hosts number in
    let plain = subst (λ b. Are (lawful.round_function names hosts number b) f.body) (not_generating (is_generator f.kind) g) q.body in (
      whole names hosts number (arrow f) (record {
        own = q.own;
        parameters = q.parameters;
        arguments = q.arguments;
        locals = q.locals;
        resumed = q.resumed;
        cells = q.cells;
        differ = q.differ;
        declared = q.declared;
        setup = q.setup;
        body = plain;
        step = q.step;
      }),
      whole names hosts number (constructor derived f) (record {
        own = q.own;
        parameters = q.parameters;
        arguments = q.arguments;
        locals = q.locals;
        resumed = q.resumed;
        cells = q.cells;
        differ = q.differ;
        declared = q.declared;
        setup = both (do_is r _ (list_is r (head.Primitive ClassGuard) [] refl refl tt)) q.setup;
        body = plain;
        step = q.step;
      }),
    )

pub default_constructors_are_lawful : DefaultConstructorsAreLawful
default_constructors_are_lawful names hosts number derived =
    let r = outer names hosts number in
    whole names hosts number (default_constructor derived) (record {
      own = refl;
      parameters = refl;
      arguments = refl;
      locals = refl;
      resumed = refl;
      cells = refl;
      differ = refl;
      declared = refl;
      setup = both (do_is r _ (list_is r (head.Primitive ClassGuard) [] refl refl tt)) refl;
      body = default_bodies_are_lawful r derived;
      step = refl;
    })

pub concise_are_lawful : ConciseAreLawful
concise_are_lawful r value h k = both (return_is r value h k) refl

pub getters_are_lawful : GettersAreLawful
getters_are_lawful names hosts number value h =
    let r = outer names hosts number in
    whole names hosts number (s.export_getter value) (record {
      own = refl;
      parameters = refl;
      arguments = refl;
      locals = refl;
      resumed = refl;
      cells = refl;
      differ = refl;
      declared = refl;
      setup = refl;
      body = both (return_is r value refl h) refl;
      step = refl;
    })

-- ## What statements make

run_joint : (ss : List CoreStat) → joint (link.Run ss) ≡ lawful.link_step (layer.Run (map (of_stat laws) ss))
run_joint ss = ap joint (sym (link.rolls-Run ss)) ∙ link_rolled laws (layer.Run ss)

run_plain : (r : Round) (ss : List CoreStat) → Are r ss → PlainLink r (link.Run ss)
run_plain r ss h =
    let j = run_joint ss in
    record { ends = ap (λ i. lawful.behind lawful.Plain i.ends) j; after = ap (λ i. lawful.after i.ends) j; site = ap (λ i. i.site) j; lawful = ap (λ i. i.lawful r) j ∙ h }

-- statements may run behind any value
ran : (r : Round) (ss : List CoreStat) (x : CoreExpr) → Are r ss → Sound r x → Sound r (linked x (link.Run ss))
ran r ss x h k =
    let w = sound_whole r x k in let j = run_joint ss in
    let far = linked_far r w.at 1 x (link.Run ss) w.far (ap (λ i. lawful.behind w.at i.ends) j ∙ plainly w.at w.plain) (ap (λ i. i.lawful r) j ∙ h) in
    done_is r lawful.Plain _ (more_sites r lawful.Plain (1 + 0) 1 _ (omega arith) (subst (λ i. SoFar r (lawful.after i.ends) (1 + site_count i.site) (linked x (link.Run ss))) j far)) refl

pub run_are_lawful : RunAreLawful
run_are_lawful r ss value kept h k = (
  list_is r (head.Constant Undefined) _ refl refl (run_plain r ss h, (plain_strict r op.Then (value ∷ []) refl refl refl refl (both k refl), tt)),
  λ d. then_is r _ (variable kept) (ran r ss (stored kept value) h (stored_is r kept value d k)) (variable_is r kept d),
)

pub declared_are_lawful : DeclaredAreLawful
declared_are_lawful r x class ss value d = (
  λ e h. joined r ss _ h (both (initialize_is r x (variable class) d (variable_is r class e)) refl),
  λ h. initialize_is r x value d h,
)

pub named_functions_are_lawful : NamedFunctionsAreLawful
named_functions_are_lawful r kept name g d e h =
    let body = s.own_body kept name.var g in
    list_is r (head.Constant Undefined) _ refl refl (
      run_plain r (s.own_scope kept name g ∷ []) (both (rolled_is r _ (layer.Scoped (name ∷ []) body) (stat.rolls-Scoped (name ∷ []) body) (both (both e refl)
          (both (initialize_is r name.var (closure g) e (closure_is r g h)) (both (set_is r kept (variable name.var) d (variable_is r name.var e)) refl)))) refl),
      (plain_strict r op.Then (variable kept ∷ []) refl refl refl refl (both (variable_is r kept d) refl), tt),
    )

exports_plain : (r : Round) (exports : List Export) → list_all (λ (e : Export). nat_lt e.getter.0 r.functions) exports ≡ true → AllPlain r (flat_map s.export_links exports)
exports_plain r [] h = tt
exports_plain r (e ∷ exports) h = all_more r (s.export_links e) (flat_map s.export_links exports)
    (plain_strict r op.Element (text e.name ∷ []) refl refl refl refl (both (text_is r e.name) refl), (plain_strict r op.Element (closure e.getter ∷ []) refl refl refl refl (both (closure_is r e.getter (left _ _ h)) refl), tt)) (exports_plain r exports (right _ _ h))

pub namespaces_are_lawful : NamespacesAreLawful
namespaces_are_lawful r n h = set_is r n.var _ (left _ _ h) (acted r (op.Primitive NamespaceMake) _ plainly refl refl refl (list_is r head.ArgumentList (flat_map s.export_links n.exports) refl refl (exports_plain r n.exports (right _ _ h))))

all_namespaces : (r : Round) (ns : List Namespace) → list_all (namespace_lawful r) ns ≡ true → Are r (map s.namespace_made ns)
all_namespaces r [] h = refl
all_namespaces r (n ∷ ns) h = both (namespaces_are_lawful r n (left (namespace_lawful r n) (list_all (namespace_lawful r) ns) h)) (all_namespaces r ns (right (namespace_lawful r n) (list_all (namespace_lawful r) ns) h))

temporaries_drawn : (r : Round) (names : List ScopedName) (xs : List Var) → lawful.names_drawn names r ≡ true → list_all (lawful.is_drawn r) xs ≡ true → lawful.names_drawn (names ++ map s.temporary xs) r ≡ true
temporaries_drawn r [] [] h k = refl
temporaries_drawn r [] (x ∷ xs) h k = both (left _ _ k) (temporaries_drawn r [] xs refl (right _ _ k))
temporaries_drawn r (n ∷ names) xs h k = both (left _ _ h) (temporaries_drawn r names xs (right _ _ h) k)

pub parts_are_lawful : PartsAreLawful
parts_are_lawful names hosts functions is_entry m stats temporaries a b d e h k =
    let r = lawful.round_part names hosts functions in let unready = map (λ n. uninitialized n.var) m.lexical in
    let begin = either (Are r) is_entry {x = stat.Do (primitive IncludesPut) ∷ []} {y = []} (both (do_is r _ (list_is r (head.Primitive IncludesPut) [] refl refl tt)) refl) refl in
    both (both (temporaries_drawn r m.names temporaries a k)
    (joined r (s.started is_entry ++ (unready ++ map hoisted m.functions)) (map s.namespace_made m.namespaces)
    (joined r (s.started is_entry) (unready ++ map hoisted m.functions) begin (joined r unready (map hoisted m.functions) (unready_are r m.lexical b) (hoisted_are r m.functions d))) (all_namespaces r m.namespaces e))) h
