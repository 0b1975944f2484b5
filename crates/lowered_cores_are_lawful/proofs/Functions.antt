-- Functions are lowered to lawful ones, where their parts are, and go into the table.
use Rattle.std.specs.List.{cons_option, filter, filter_map, list_all, list_any}
use Rattle.std.proofs.Common.{◌≡◌, ℕ, ◌+◌, ◌≤◌, ◌<◌, Bool, true, false, ◌&&◌, ◌||◌, not, nat_eq, nat_lt, length, length-append, List, [], ◌∷◌, ◌++◌, map, append_assoc, Option, None, Some, refl, sym, ap, arith, subst, ◌∙◌}
use Rattle.std.proofs.lemmas.Bool.{false≢true, le-leb, leb-true, ltb-true, eqb-true}
use Rattle.es6_ast.specs.declared.tree.Identifier.{Identifier}
use Rattle.core_ast.specs.declared.parts.Var.{Var}
use Rattle.core_ast.specs.declared.tree.CoreExpr.{CoreExpr}
use Rattle.core_ast.specs.declared.whole.CoreFunction.{CoreFunction}
use Rattle.core_ast.specs.declared.whole.CoreKind.{CoreKind}
use Rattle.core_ast.specs.declared.whole.CoreKind.TheVariants as kind
use Rattle.core_ast.specs.Lawful.{Round, all_differ, function_lawful, functions_lawful, has_number, is_drawn, is_generator, is_safe, names_drawn, numbers, round_function}
use Rattle.core_ast.specs.Made.{variable}
use Rattle.lawful_passes.proofs.Far.{variable_is}
use Rattle.lawful_passes.proofs.Labels.{absent_left, absent_right, differ_left, differ_right}
use Rattle.lowering_laws.specs.Bodies.{if_var}
use Rattle.lowering_laws.specs.Classes.{begun_lawful, parameter_lawful, rest_lawful}
use Rattle.lowering_laws.specs.InRound.{AreLawful, IsLawful, declared_lawful, if_lawful}
use Rattle.lowering_laws.proofs.Bodies.{begun_are_lawful, concise_are_lawful, instantiation_keeps_law, kinds_keep_law, parameters_keep_law, statements_keep_law}
use Rattle.lowering_rules.specs.declared.functions.BodyVar.{BodyVar}
use Rattle.lowering_rules.specs.declared.functions.Parameter.{Parameter}
use Rattle.lowering_rules.specs.declared.functions.RestParameter.{RestParameter}
use Rattle.lowering_rules.specs.declared.statement_rules.bodies.Receiver.{Receiver}
use Rattle.lowering_rules.specs.Functions.{arrow, with_parameters}
use Rattle.lowering_rules.specs.statement_rules.Bodies.{begun, instantiated}
use Rattle.module_lowering.specs.Bindings.{Bindings, declared_var, declares_first}
use Rattle.module_lowering.specs.Expressions.{valued}
use Rattle.module_lowering.specs.Functions as m
use Rattle.module_lowering.specs.Lowering.{along_by, entered, option, raw, temporary, unseen}
use Rattle.module_lowering.specs.Names.{body_var, body_var_of, is_declared_by, last_ones, parameter_named, places, vars_at}
use Rattle.module_lowering.specs.Nodes.{Form, Expressed, Hoisted, Listed, MemberForm, NameForm, Parametered, Parted, PartsForm, Patterned}
use Rattle.module_lowering.specs.declared.context.Context.{Context}
use Rattle.module_lowering.specs.declared.context.FunctionForm.{FunctionForm}
use Rattle.module_lowering.specs.declared.context.FunctionForm.TheVariants.{AccessorForm, ConstructorForm, MethodForm, PlainForm}
use Rattle.module_lowering.specs.declared.context.Role.TheVariants.{Initializes}
use Rattle.module_lowering.specs.declared.context.ThisKind.TheVariants.{OfGenerator}
use Rattle.module_lowering.specs.declared.lowerer.Lowerer.{Lowerer}
use Rattle.module_lowering.specs.declared.lowerer.Seen.{Seen}
use Rattle.pass_rules.proofs.pass_laws.Within.{left as first, right as second, both, either}
use Rattle.lowered_cores_are_lawful.specs.Conditions.{first_number, parameter_numbers}
use Rattle.lowered_cores_are_lawful.specs.Nodes.{FunctionPartsAre, HoistedIs, IdIs, PartedIs, PatternedIs, Reaches, VarIs}
use Rattle.lowered_cores_are_lawful.specs.Standing.{AllOf, BindingsAreDrawn, Every, IfOf, Made, Makes, Of, Stands, held, here, size, this_drawn, vars_drawn}
use Rattle.lowered_cores_are_lawful.proofs.Expressions.{valued_is}
use Rattle.lowered_cores_are_lawful.proofs.Making.{Grows, after, all_grow, declared_grow, dead_more, define_is, giving, if_grow, later, list_both, option_is, raw_is, stats_grow, stay, temporary_is, this_more, vars_grow, vars_more}
use Rattle.lowered_cores_are_lawful.proofs.Naming.{all_vars_drawn, declared_drawn, scopes_drawn}
use Rattle.lowered_cores_are_lawful.proofs.Statements.{all_hoisted_is, if_some}

-- ## Numbers that differ

no_number : (n i : ℕ) (ns : List ℕ) → (nat_eq n i) ≡ false → has_number n ns ≡ false → has_number n (i ∷ ns) ≡ false
no_number n i ns e h = ap (λ a. a || has_number n ns) e ∙ h

absent_more : (n m : ℕ) (ns : List ℕ) → has_number n ns ≡ false → nat_eq n m ≡ false → has_number n (ns ++ m ∷ []) ≡ false
absent_more n m [] h e = no_number n m [] e refl
absent_more n m (i ∷ ns) h e = or_none (nat_eq n i) (has_number n ns) (has_number n (ns ++ m ∷ [])) h (λ k. absent_more n m ns k e)
  where
    or_none : (a d f : Bool) → (a || d) ≡ false → (d ≡ false → f ≡ false) → (a || f) ≡ false
    or_none true d f k g = k
    or_none false d f k g = g k

unequal : (n m : ℕ) → n < m → nat_eq n m ≡ false
unequal n m l = decided (nat_eq n m) refl
  where
    decided : (i : Bool) → nat_eq n m ≡ i → nat_eq n m ≡ false
    decided true e = let f = eqb-true n m e in absurd (omega arith)
    decided false e = e

negated : (a : Bool) → not a ≡ true → a ≡ false
negated true h = sym h
negated false h = refl

differ_more : (m : ℕ) (ns : List ℕ) → all_differ ns ≡ true → list_all (λ n. nat_lt n m) ns ≡ true → all_differ (ns ++ m ∷ []) ≡ true
differ_more m [] h k = refl
differ_more m (n ∷ ns) h k = both (ap not (absent_more n m ns (negated _ (first _ _ h)) (unequal n m (ltb-true n m (first _ _ k))))) (differ_more m ns (second _ _ h) (second _ _ k))

-- ## Parameters so far, of which so many may come, with the variables of names that are left

abbrev formals : List Parameter → List ℕ
formals ps = numbers (map (λ p. p.formal) ps)

record ParametersAre (left_ : List ℕ) (most : ℕ) (r : Round) (ps : m.Parameters) : Type 0 where
  list : list_all (parameter_lawful r) ps.list ≡ true
  rest : rest_lawful r ps.rest ≡ true
  names : list_all (is_drawn r) ps.names ≡ true
  differ : all_differ (formals ps.list) ≡ true
  few : length ps.list ≤ most
  open_ : ps.direct ≡ true → all_differ (formals ps.list ++ left_) ≡ true

parameter_grows : Grows (Of parameter_lawful)
parameter_grows q n g p l k h = both (both (vars_grow q n g p.formal l k (first _ _ (first _ _ h))) (if_grow q n g p.default l k (second _ _ (first _ _ h)))) (stats_grow q n g p.bound l k (second _ _ h))

rest_grows : Grows (Of rest_lawful)
rest_grows q n g None l k h = refl
rest_grows q n g (Some p) l k h = both (vars_grow q n g p.list l k (first _ _ h)) (stats_grow q n g p.bound l k (second _ _ h))

drawn_grow : Grows (AllOf (λ r (x : Var). is_drawn r x))
drawn_grow = all_grow (λ r (x : Var). is_drawn r x) vars_grow

parameters_grow : (left_ : List ℕ) (most : ℕ) → Grows (ParametersAre left_ most)
parameters_grow left_ most q n g ps l k h = record { list = all_grow parameter_lawful parameter_grows q n g ps.list l k h.list; rest = rest_grows q n g ps.rest l k h.rest; names = drawn_grow q n g ps.names l k h.names; differ = h.differ; few = h.few; open_ = h.open_ }

formals_below : (r : Round) (ps : List Parameter) → list_all (parameter_lawful r) ps ≡ true → list_all (λ n. nat_lt n r.names) (formals ps) ≡ true
formals_below r [] h = refl
formals_below r (p ∷ ps) h = both (first _ _ (first _ _ (first (parameter_lawful r p) (list_all (parameter_lawful r) ps) h))) (formals_below r ps (second (parameter_lawful r p) (list_all (parameter_lawful r) ps) h))

formals_more : (ps : List Parameter) (p : Parameter) → formals (ps ++ p ∷ []) ≡ formals ps ++ p.formal.0 ∷ []
formals_more [] p = refl
formals_more (q ∷ ps) p = ap (λ ns. q.formal.0 ∷ ns) (formals_more ps p)

-- one more parameter: its variable is that of no other
with_one : (left_ rest_ : List ℕ) (most : ℕ) (r : Round) (ps : m.Parameters) (direct : Bool) (names : List Var) (p : Parameter) → ParametersAre left_ most r ps → parameter_lawful r p ≡ true → list_all (is_drawn r) names ≡ true → all_differ (formals ps.list ++ p.formal.0 ∷ []) ≡ true
    → (direct ≡ true → all_differ ((formals ps.list ++ p.formal.0 ∷ []) ++ rest_) ≡ true) → ParametersAre rest_ (most + 1) r (m.with_parameter ps direct names p)
with_one left_ rest_ most r ps direct names p h k n d o = record {
  list = list_both (parameter_lawful r) ps.list (p ∷ []) h.list (both k refl);
  rest = h.rest;
  names = list_both (is_drawn r) ps.names names h.names n;
  differ = ap all_differ (formals_more ps.list p) ∙ d;
  few = let a = length-append ps.list (p ∷ []) in let e = h.few in omega arith;
  open_ = λ e. ap (λ ns. all_differ (ns ++ rest_)) (formals_more ps.list p) ∙ o e;
}

-- no more parameter than before
as_before : (left_ rest_ : List ℕ) (most : ℕ) (r : Round) (ps : m.Parameters) (names : List Var) (p : Option RestParameter) (direct : Bool) → ParametersAre left_ most r ps → rest_lawful r p ≡ true → list_all (is_drawn r) names ≡ true → (direct ≡ true → all_differ (formals ps.list ++ rest_) ≡ true)
    → ParametersAre rest_ (most + 1) r (record { list = ps.list; rest = p; names = names; direct = direct })
as_before left_ rest_ most r ps names p direct h k n o = record { list = h.list; rest = k; names = n; differ = h.differ; few = let e = h.few in omega arith; open_ = o }

nothing_direct : {A : Type 0} → false ≡ true → A
nothing_direct e = absurd (false≢true e)

plain_by : (b : Bindings) (c : Context) (rest_ : List ℕ) (most : ℕ) (r : Round) (ps : m.Parameters) (names : List Identifier) → BindingsAreDrawn b r.hosts r.names → ps.direct ≡ true → ParametersAre (first_number b c names ++ rest_) most r ps
    → ParametersAre rest_ (most + 1) r (m.plain_parameter ps (vars_at (places names) b c))
plain_by b c rest_ most r ps [] k d h = as_before rest_ rest_ most r ps ps.names ps.rest ps.direct h h.rest h.names (λ e. h.open_ d)
plain_by b c rest_ most r ps (x ∷ names) k d h =
    let v = declared_var b c x.span.begin in
    let o = ap all_differ (append_assoc (formals ps.list) (v.0 ∷ []) rest_) ∙ h.open_ d in
    with_one (v.0 ∷ rest_) rest_ most r ps true [] (record { formal = v; default = None; bound = [] }) h (both (both (declared_drawn b c r.hosts r.names x.span.begin k) refl) refl) refl
    (differ_left (formals ps.list ++ v.0 ∷ []) rest_ o) (λ e. o)

bound_is : (b : Bindings) (c : Context) (r : Round) (p : Parted) (left_ rest_ : List ℕ) (most : ℕ) (ps : m.Parameters) → PartedIs b c r p → (s : Lowerer) → Stands b c r.hosts s → ParametersAre left_ most (here s r) ps → Made (ParametersAre rest_ (most + 1)) b c r s (m.bound_added p ps b c s)
bound_is b c r p left_ rest_ most ps d s k h =
    let Q = ParametersAre rest_ (most + 1) in let P = ParametersAre left_ most in let g = parameters_grow left_ most in
    let v = raw b c s in let p1 = raw_is b c r s k in
    let x = option p.default b c v.1 in let p2 = option_is IsLawful b c r p.default d.default v.1 p1.stands in
    let I : Round → Option CoreExpr → Type 0 = Of (λ q e. if_lawful e q) in
    let v2 = later VarIs (IfOf IsLawful) b c r v.1 v.0 x vars_grow p2 p1.lawful in
    let y = p.pattern.bound Initializes (variable v.0) b c x.1 in let p3 = d.pattern.bound Initializes (variable v.0) x.1 p2.stands (variable_is (here x.1 r) v.0 v2) in
    let xs = vars_at (places p.pattern.names) b c in let q = here y.1 r in
    let h3 = later P AreLawful b c r x.1 ps y g p3 (later P (IfOf IsLawful) b c r v.1 ps x g p2 (later P VarIs b c r s ps v g p1 h)) in
    let formal = later VarIs AreLawful b c r x.1 v.0 y vars_grow p3 v2 in
    let default = later I AreLawful b c r x.1 x.0 y if_grow p3 (if_some (here x.1 r) x.0 p2.lawful) in
    after VarIs Q b c r s v _ p1 (after (IfOf IsLawful) Q b c r v.1 x _ p2 (giving AreLawful Q b c r x.1 y (m.with_parameter ps false xs (record { formal = v.0; default = x.0; bound = y.0 })) p3
    (with_one left_ rest_ most q ps false xs (record { formal = v.0; default = x.0; bound = y.0 }) h3 (both (both formal default) p3.lawful) (all_vars_drawn b c r.hosts (places p.pattern.names) q p3.stands.bindings)
    (differ_more v.0.0 (formals ps.list) h.differ (formals_below (here s r) ps.list h.list)) nothing_direct)))

single_is : (b : Bindings) (c : Context) (r : Round) (p : Parted) (rest_ : List ℕ) (most : ℕ) (ps : m.Parameters) (plain : Bool) → (plain ≡ true → ps.direct ≡ true) → PartedIs b c r p → (s : Lowerer) → Stands b c r.hosts s → ParametersAre (first_number b c p.pattern.names ++ rest_) most (here s r) ps → Made (ParametersAre rest_ (most + 1)) b c r s (m.single_added p plain ps b c s)
single_is b c r p rest_ most ps true e d s k h = stay (ParametersAre rest_ (most + 1)) b c r s (m.plain_parameter ps (vars_at (places p.pattern.names) b c)) k (plain_by b c rest_ most (here s r) ps p.pattern.names k.bindings (e refl) h)
single_is b c r p rest_ most ps false e d s k h = bound_is b c r p (first_number b c p.pattern.names ++ rest_) rest_ most ps d s k h

rest_by : (b : Bindings) (c : Context) (rest_ : List ℕ) (most : ℕ) (r : Round) (ps : m.Parameters) (names : List Identifier) → BindingsAreDrawn b r.hosts r.names → ParametersAre (first_number b c names ++ rest_) most r ps → ParametersAre rest_ (most + 1) r (m.rest_named ps (vars_at (places names) b c))
rest_by b c rest_ most r ps [] k h = as_before rest_ rest_ most r ps ps.names ps.rest ps.direct h h.rest h.names h.open_
rest_by b c rest_ most r ps (x ∷ names) k h =
    let v = declared_var b c x.span.begin in let d = declared_drawn b c r.hosts r.names x.span.begin k in
    let xs = vars_at (places (x ∷ names)) b c in
    as_before (v.0 ∷ rest_) rest_ most r ps (ps.names ++ xs) (Some (record { list = v; bound = [] })) false h (both d refl) (list_both (is_drawn r) ps.names xs h.names (all_vars_drawn b c r.hosts (places (x ∷ names)) r k)) nothing_direct

absent_both : (n : ℕ) (xs ys : List ℕ) → has_number n xs ≡ false → has_number n ys ≡ false → has_number n (xs ++ ys) ≡ false
absent_both n [] ys h k = k
absent_both n (x ∷ xs) ys h k = by (nat_eq n x) (has_number n xs) h (λ e. absent_both n xs ys e k)
  where
    by : (a d : Bool) → (a || d) ≡ false → (d ≡ false → has_number n (xs ++ ys) ≡ false) → (a || has_number n (xs ++ ys)) ≡ false
    by true d e f = e
    by false d e f = f e

without : (xs ys zs : List ℕ) → all_differ (xs ++ (ys ++ zs)) ≡ true → all_differ (xs ++ zs) ≡ true
without [] ys zs h = differ_right ys zs h
without (x ∷ xs) ys zs h =
    let e = negated _ (first _ _ h) in
    both (ap not (absent_both x xs zs (absent_left x xs (ys ++ zs) e) (absent_right x ys zs (absent_right x xs (ys ++ zs) e)))) (without xs ys zs (second _ _ h))

rest_is : (b : Bindings) (c : Context) (r : Round) (p : Patterned) (rest_ : List ℕ) (most : ℕ) (ps : m.Parameters) (form : Form) → PatternedIs b c r p → (s : Lowerer) → Stands b c r.hosts s → ParametersAre (first_number b c p.names ++ rest_) most (here s r) ps → Made (ParametersAre rest_ (most + 1)) b c r s (m.rest_added p ps form b c s)
rest_is b c r p rest_ most ps (NameForm x) d s k h = stay (ParametersAre rest_ (most + 1)) b c r s (m.rest_named ps (vars_at (places p.names) b c)) k (rest_by b c rest_ most (here s r) ps p.names k.bindings h)
rest_is b c r p rest_ most ps (MemberForm reached) d s k h =
    let q = first_number b c p.names in
    stay (ParametersAre rest_ (most + 1)) b c r s ps k (as_before (q ++ rest_) rest_ most (here s r) ps ps.names ps.rest ps.direct h h.rest h.names (λ e. without (formals ps.list) q rest_ (h.open_ e)))
rest_is b c r p rest_ most ps PartsForm d s k h =
    let left_ = first_number b c p.names ++ rest_ in let Q = ParametersAre rest_ (most + 1) in let P = ParametersAre left_ most in let g = parameters_grow left_ most in
    let v = temporary b c s in let p1 = temporary_is b c r s k in
    let y = p.bound Initializes (variable v.0) b c v.1 in let p2 = d.bound Initializes (variable v.0) v.1 p1.stands (variable_is (here v.1 r) v.0 p1.lawful) in
    let xs = vars_at (places p.names) b c in let q = here y.1 r in
    let h2 = later P AreLawful b c r v.1 ps y g p2 (later P VarIs b c r s ps v g p1 h) in
    after VarIs Q b c r s v _ p1 (giving AreLawful Q b c r v.1 y (m.with_rest ps xs (record { list = v.0; bound = y.0 })) p2
    (as_before left_ rest_ most q ps (ps.names ++ xs) (Some (record { list = v.0; bound = y.0 })) false h2 (both (later VarIs AreLawful b c r v.1 v.0 y vars_grow p2 p1.lawful) p2.lawful)
    (list_both (is_drawn q) ps.names xs h2.names (all_vars_drawn b c r.hosts (places p.names) q p2.stands.bindings)) nothing_direct))

added_is : (b : Bindings) (c : Context) (r : Round) (part : Parted) (rest_ : List ℕ) (most : ℕ) (ps : m.Parameters) (is_rest : Bool) → PartedIs b c r part → (s : Lowerer) → Stands b c r.hosts s → ParametersAre (first_number b c part.pattern.names ++ rest_) most (here s r) ps
    → Made (ParametersAre rest_ (most + 1)) b c r s (m.parameter_added (record { part = part; is_rest = is_rest }) ps b c s)
added_is b c r part rest_ most ps true d s k h = rest_is b c r part.pattern rest_ most ps part.pattern.form d.pattern s k h
added_is b c r part rest_ most ps false d s k h = single_is b c r part rest_ most ps (ps.direct && m.is_plain part) (λ e. first _ _ e) d s k h

parameters_are : (b : Bindings) (c : Context) (r : Round) (xs : List Parametered) → Every (λ (p : Parametered). PartedIs b c r p.part) xs → (most : ℕ) (ps : m.Parameters) (s : Lowerer) → Stands b c r.hosts s → ParametersAre (parameter_numbers b c xs) most (here s r) ps
    → Made (ParametersAre [] (most + length xs)) b c r s (along_by m.parameter_added xs ps b c s)
parameters_are b c r [] d most ps s k h = stay (ParametersAre [] (most + 0)) b c r s ps k (record { list = h.list; rest = h.rest; names = h.names; differ = h.differ; few = let e = h.few in omega arith; open_ = h.open_ })
parameters_are b c r (x ∷ xs) d most ps s k h =
    let y = m.parameter_added x ps b c s in let q = added_is b c r x.part (parameter_numbers b c xs) most ps x.is_rest d.0 s k h in
    let e : (most + 1) + length xs ≡ most + length (x ∷ xs) = omega arith in
    subst (λ n. Made (ParametersAre [] n) b c r s (along_by m.parameter_added (x ∷ xs) ps b c s)) e
    (after (ParametersAre (parameter_numbers b c xs) (most + 1)) (ParametersAre [] ((most + 1) + length xs)) b c r s y _ q (parameters_are b c r xs d.1 (most + 1) y.0 y.1 q.stands q.lawful))

-- ## The parts of a function: in its parameters nothing yields

abbrev around_parameters : ℕ → Round
around_parameters hosts = round_function 0 hosts 0 false

abbrev around_body : ℕ → Bool → Round
around_body hosts yields = round_function 0 hosts 0 yields

record PartsAre (most hosts : ℕ) (yields : Bool) (q : Round) (p : m.FunctionParts) : Type 0 where
  list : list_all (parameter_lawful (round_function q.names hosts q.functions false)) p.parameters.list ≡ true
  rest : rest_lawful (round_function q.names hosts q.functions false) p.parameters.rest ≡ true
  scope : list_all (is_drawn (round_function q.names hosts q.functions false)) p.parameters.names ≡ true
  differ : all_differ (formals p.parameters.list) ≡ true
  few : length p.parameters.list ≤ most
  begun_ : list_all (begun_lawful (round_function q.names hosts q.functions false)) p.body_vars ≡ true
  variables : list_all (is_drawn (round_function q.names hosts q.functions false)) p.names.variables ≡ true
  lexical : names_drawn p.names.lexical (round_function q.names hosts q.functions false) ≡ true
  functions : list_all (declared_lawful (round_function q.names hosts q.functions false)) p.names.functions ≡ true
  statements : AreLawful (round_function q.names hosts q.functions yields) p.statements

every_last : (b : Bindings) (c : Context) (hs : List Hoisted) → Every (HoistedIs b c.home) hs → Every (HoistedIs b c.home) (last_ones b c hs)
every_last b c [] h = tt
every_last b c (x ∷ hs) h = either (Every (HoistedIs b c.home)) (list_any (is_declared_by b c x.at) hs) (every_last b c hs h.1) (h.0, every_last b c hs h.1)

body_var_drawn : (b : Bindings) (c : Context) (r : Round) (at : ℕ) (p : Option Identifier) (xs : List BodyVar) → BindingsAreDrawn b r.hosts r.names → list_all (begun_lawful r) xs ≡ true → list_all (begun_lawful r) (cons_option (body_var_of b c at p) xs) ≡ true
body_var_drawn b c r at None xs k h = h
body_var_drawn b c r at (Some p) xs k h = both (both (declared_drawn b c r.hosts r.names at k) (declared_drawn b c r.hosts r.names p.span.begin k)) h

body_vars_drawn : (b : Bindings) (c : Context) (r : Round) (ps vs : List Identifier) → BindingsAreDrawn b r.hosts r.names → list_all (begun_lawful r) (filter_map (body_var b c ps) vs) ≡ true
body_vars_drawn b c r ps [] k = refl
body_vars_drawn b c r ps (x ∷ vs) k = body_var_drawn b c r x.span.begin (parameter_named x.name ps) (filter_map (body_var b c ps) vs) k (body_vars_drawn b c r ps vs k)

parts_are : (b : Bindings) (c : Context) (hosts : ℕ) (yields : Bool) (xs : List Parametered) (body : Listed) → all_differ (parameter_numbers b c xs) ≡ true
    → Every (λ (p : Parametered). PartedIs b (m.in_parameters xs c) (around_parameters hosts) p.part) xs → Every (HoistedIs b c.home) body.functions → Makes AreLawful b c (around_body hosts yields) body.statements
    → Makes (PartsAre (length xs) hosts yields) b c (around_parameters hosts) (m.function_parts xs body)
parts_are b c hosts yields xs body differ d f st s k =
    let r = around_parameters hosts in let r2 = around_body hosts yields in let c1 = m.in_parameters xs c in let P = ParametersAre [] (0 + length xs) in
    let first_ : ParametersAre (parameter_numbers b c1 xs) 0 (here s r) m.no_parameters = record { list = refl; rest = refl; names = refl; differ = refl; few = omega arith; open_ = λ e. differ } in
    let x = along_by m.parameter_added xs m.no_parameters b c1 s in let p1 = parameters_are b c1 r xs d 0 m.no_parameters s k first_ in
    let hs = last_ones b c body.functions in
    let y = m.all_hoisted hs b c x.1 in let p2 = all_hoisted_is b c r hs (every_last b c body.functions f) x.1 p1.stands in
    let z = body.statements b c y.1 in let p3 = st y.1 p2.stands in
    let q = here z.1 r in
    let h2 = later P (AllOf declared_lawful) b c r x.1 x.0 y (parameters_grow [] (0 + length xs)) p2 p1.lawful in
    let h3 = parameters_grow [] (0 + length xs) (here y.1 r) (size z.1) (held z.1) x.0 p3.names p3.functions h2 in
    record {
      names = let a = p1.names in let e = p2.names in let g = p3.names in omega arith;
      functions = let a = p1.functions in let e = p2.functions in let g = p3.functions in omega arith;
      stands = p3.stands;
      lawful = record {
        list = h3.list;
        rest = h3.rest;
        scope = h3.names;
        differ = h3.differ;
        few = let e = h3.few in omega arith;
        begun_ = body_vars_drawn b c q (m.parameter_names xs) (filter (λ (v : Identifier). declares_first b c v.span.begin) body.variables) p3.stands.bindings;
        variables = all_vars_drawn b c hosts (filter (declares_first b c) (places body.variables ++ map (λ (h : Hoisted). h.at) body.functions)) q p3.stands.bindings;
        lexical = scopes_drawn b c hosts body.lexicals q p3.stands.bindings;
        functions = all_grow declared_lawful declared_grow (here y.1 r) (size z.1) (held z.1) y.0 p3.names p3.functions p2.lawful;
        statements = p3.lawful;
      };
    }

-- ## Functions

safe_less : (n k : ℕ) → n ≤ k → is_safe k ≡ true → is_safe n ≡ true
safe_less n k l h = let e = leb-true k 9007199254740991 h in le-leb n 9007199254740991 (omega arith)

assembled_is : (names hosts number most : ℕ) (yields : Bool) (p : m.FunctionParts) (locals : List Var) (k : CoreKind) (receiver : Receiver) → PartsAre most hosts yields (round_function names hosts number false) p → is_safe most ≡ true → vars_drawn names locals ≡ true → is_generator k ≡ yields
    → (let r = round_function names hosts number false in if_var r receiver.arguments ≡ true → if_var r receiver.this ≡ true → if_var r receiver.target ≡ true → function_lawful names hosts number (m.assembled p locals (begun k receiver)) ≡ true)
assembled_is names hosts number most yields p locals k receiver h safe drawn gen a d e =
    let f0 = begun k receiver in
    let f1 = with_parameters p.parameters.list p.parameters.rest (record { names = p.parameters.names; body = p.body_vars }) f0 in
    let f2 = instantiated p.names f1 in
    let l0 = begun_are_lawful names hosts number k receiver a d e in
    let l1 = parameters_keep_law names hosts number f0 p.parameters.list p.parameters.rest (record { names = p.parameters.names; body = p.body_vars }) l0 h.differ (safe_less _ most h.few safe) h.list h.rest h.scope h.begun_ in
    let l2 = instantiation_keeps_law names hosts number f1 p.names l1 h.variables h.lexical h.functions in
    statements_keep_law names hosts number f2 p.statements locals l2 drawn (subst (λ y. AreLawful (round_function names hosts number y) p.statements) (sym gen) h.statements)

if_seen_drawn : (r : Round) (seen : Bool) (x : Var) → is_drawn r x ≡ true → if_var r (m.if_seen seen x) ≡ true
if_seen_drawn r true x h = h
if_seen_drawn r false x h = refl

-- what is left of a function when the function round it goes on
pub goes_on : (b : Bindings) (c : Context) (hosts : ℕ) (s : Lowerer) (t : Lowerer) (seen : Seen) → Stands b c hosts s → size s ≤ size t → BindingsAreDrawn b hosts (size t) → (let u = record t { names = record { fresh = t.names.fresh; locals = s.names.locals }; seen = seen } in functions_lawful (size t) hosts 0 t.functions ≡ true → Stands b c hosts u)
goes_on b c hosts s t seen k l bindings functions = record {
  bindings = bindings;
  this = this_more (size s) (size t) c.this l k.this;
  dead = dead_more (size s) (size t) c.dead l k.dead;
  locals = vars_more (size s) (size t) s.names.locals l k.locals;
  functions = functions;
}

plain_this : (names : ℕ) (form : FunctionForm) → this_drawn names (m.this_kind form) ≡ true
plain_this names PlainForm = refl
plain_this names MethodForm = refl
plain_this names AccessorForm = refl
plain_this names (ConstructorForm derived) = refl

no_generator : (form : FunctionForm) → is_generator (m.kind_of form) ≡ false
no_generator PlainForm = refl
no_generator MethodForm = refl
no_generator AccessorForm = refl
no_generator (ConstructorForm derived) = refl

completed_is : (names hosts number : ℕ) (form : FunctionForm) (f : CoreFunction) → is_generator f.kind ≡ false → function_lawful names hosts number f ≡ true → function_lawful names hosts number (m.completed form f) ≡ true
completed_is names hosts number PlainForm f g h = h
completed_is names hosts number MethodForm f g h = h
completed_is names hosts number AccessorForm f g h = h
completed_is names hosts number (ConstructorForm derived) f g h = (kinds_keep_law names hosts number f derived (ap not g) h).1

pub function_made_is : (b : Bindings) (c : Context) (r : Round) (begin : ℕ) (xs : List Parametered) (body : Listed) (form : FunctionForm) → all_differ (parameter_numbers b c xs) ≡ true → is_safe (length xs) ≡ true
    → FunctionPartsAre b (m.in_function (m.this_kind form) c) r.hosts false xs body → Makes IdIs b c r (m.function_made begin xs body form)
function_made_is b c r begin xs body form differ safe d s k =
    let c1 = m.in_function (m.this_kind form) c in let q = around_parameters r.hosts in
    let s0 = entered unseen s in
    let k0 : Stands b c1 r.hosts s0 = record { bindings = k.bindings; this = plain_this (size s) form; dead = k.dead; locals = refl; functions = k.functions } in
    let y = m.function_parts xs body b c1 s0 in
    let p = parts_are b c1 r.hosts false xs body differ d.0 d.1.functions (d.1.statements tt) s0 k0 in
    let u = record y.1 { names = record { fresh = y.1.names.fresh; locals = s.names.locals }; seen = s.seen } in
    let k1 = goes_on b c r.hosts s y.1 s.seen k p.names p.stands.bindings p.stands.functions in
    let x = declared_var b c begin in let receiver = m.plain_receiver y.1.seen x in
    let f = m.assembled y.0 y.1.names.locals (begun (m.kind_of form) receiver) in
    let law = assembled_is (size u) r.hosts (held u) (length xs) false y.0 y.1.names.locals (m.kind_of form) receiver p.lawful safe p.stands.locals (no_generator form)
    (if_seen_drawn (round_function (size u) r.hosts (held u) false) y.1.seen.arguments x (declared_drawn b c r.hosts (size u) begin k1.bindings)) refl refl in
    let e = define_is b c r (m.completed form f) u k1 (completed_is (size u) r.hosts (held u) form f (no_generator form) law) in
    record {
      names = let i = p.names in let j = e.names in omega arith;
      functions = let i = p.functions in let j = e.functions in omega arith;
      stands = e.stands;
      lawful = e.lawful;
    }

pub generator_made_is : (b : Bindings) (c : Context) (r : Round) (begin : ℕ) (xs : List Parametered) (body : Listed) → all_differ (parameter_numbers b c xs) ≡ true → is_safe (length xs) ≡ true
    → ((this : Var) → FunctionPartsAre b (m.in_function (OfGenerator this) c) r.hosts true xs body) → Makes IdIs b c r (m.generator_made begin xs body)
generator_made_is b c r begin xs body differ safe d s k =
    let v = raw b c s in let p0 = raw_is b c r s k in let this = v.0 in
    let c1 = m.in_function (OfGenerator this) c in
    let s0 = entered unseen v.1 in
    let k0 : Stands b c1 r.hosts s0 = record { bindings = p0.stands.bindings; this = p0.lawful; dead = p0.stands.dead; locals = refl; functions = p0.stands.functions } in
    let y = m.function_parts xs body b c1 s0 in let w = d this in
    let p = parts_are b c1 r.hosts true xs body differ w.0 w.1.functions (w.1.statements tt) s0 k0 in
    let u = record y.1 { names = record { fresh = y.1.names.fresh; locals = v.1.names.locals }; seen = v.1.seen } in
    let k1 = goes_on b c r.hosts v.1 y.1 v.1.seen p0.stands p.names p.stands.bindings p.stands.functions in
    let x = declared_var b c begin in let receiver = m.generator_receiver y.1.seen x this in
    let f = m.assembled y.0 y.1.names.locals (begun kind.Generator receiver) in let q1 = round_function (size u) r.hosts (held u) false in
    let this1 = vars_grow (here v.1 r) (size u) (held u) this p.names p.functions p0.lawful in
    let law = assembled_is (size u) r.hosts (held u) (length xs) true y.0 y.1.names.locals kind.Generator receiver p.lawful safe p.stands.locals refl
    (if_seen_drawn q1 y.1.seen.arguments x (declared_drawn b c r.hosts (size u) begin k1.bindings)) (if_seen_drawn q1 y.1.seen.this this this1) refl in
    let e = define_is b c r f u k1 law in
    record {
      names = let g = p0.names in let i = p.names in let j = e.names in omega arith;
      functions = let g = p0.functions in let i = p.functions in let j = e.functions in omega arith;
      stands = e.stands;
      lawful = e.lawful;
    }

pub arrow_made_is : (b : Bindings) (c : Context) (r : Round) (xs : List Parametered) (body : Listed) → all_differ (parameter_numbers b c xs) ≡ true → is_safe (length xs) ≡ true → FunctionPartsAre b (m.in_arrow c) r.hosts false xs body → Makes IdIs b c r (m.arrow_made xs body)
arrow_made_is b c r xs body differ safe d s k =
    let c1 = m.in_arrow c in let s0 = entered s.seen s in
    let k0 : Stands b c1 r.hosts s0 = record { bindings = k.bindings; this = k.this; dead = k.dead; locals = refl; functions = k.functions } in
    let y = m.function_parts xs body b c1 s0 in
    let p = parts_are b c1 r.hosts false xs body differ d.0 d.1.functions (d.1.statements tt) s0 k0 in
    let u = record y.1 { names = record { fresh = y.1.names.fresh; locals = s.names.locals }; seen = y.1.seen } in
    let k1 = goes_on b c r.hosts s y.1 y.1.seen k p.names p.stands.bindings p.stands.functions in
    let f = m.assembled y.0 y.1.names.locals (begun kind.Arrow m.no_receiver) in
    let law = assembled_is (size u) r.hosts (held u) (length xs) false y.0 y.1.names.locals kind.Arrow m.no_receiver p.lawful safe p.stands.locals refl refl refl refl in
    let e = define_is b c r (arrow f) u k1 (kinds_keep_law (size u) r.hosts (held u) f false refl law).0 in
    record {
      names = let i = p.names in let j = e.names in omega arith;
      functions = let i = p.functions in let j = e.functions in omega arith;
      stands = e.stands;
      lawful = e.lawful;
    }

-- the value of an expression that is the whole body
pub value_returned_is : (b : Bindings) (c : Context) (r : Round) (x : Expressed) → r.returns ≡ true → Reaches b c r x → Makes AreLawful b c r (m.value_returned (valued x))
value_returned_is b c r x f h s k = let y = valued x b c s in let q = valued_is b c r x h s k in giving IsLawful AreLawful b c r s y _ q (concise_are_lawful (here y.1 r) y.0 f q.lawful)
