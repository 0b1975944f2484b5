-- Object literals, classes, `super` and the binding of parameters are lawful.
use Rattle.std.specs.List.{flat_map, list_all}
use Rattle.std.proofs.Common.{◌≡◌, ℕ, zero, suc, ◌+◌, ◌≤◌, Bool, true, false, nat_lt, length, drop, take, List, [], ◌∷◌, ◌++◌, map, Option, None, Some, refl, sym, ap, arith, subst}
use Rattle.core_ast.specs.declared.parts.CoreHead.TheVariants as head
use Rattle.core_ast.specs.declared.parts.CoreOp.TheVariants as op
use Rattle.core_ast.specs.declared.parts.FunctionId.{FunctionId}
use Rattle.core_ast.specs.declared.parts.Key.TheVariants.{WordKey}
use Rattle.core_ast.specs.declared.parts.Primitive.TheVariants.{AccessorPut, CheckReady, ClassMake, MethodPut, RestList, SuperConstruct, SuperGet, ThisBind}
use Rattle.core_ast.specs.declared.parts.Var.{Var}
use Rattle.core_ast.specs.declared.tree.CoreExpr.{CoreExpr, out-CoreExpr}
use Rattle.core_ast.specs.declared.tree.CoreLink.{CoreLink}
use Rattle.core_ast.specs.declared.tree.CoreLink.TheOpen as layer
use Rattle.core_ast.specs.declared.tree.CoreStat.TheVariants as stat
use Rattle.core_ast.specs.Lawful as lawful
use Rattle.core_ast.specs.Lawful.{Plain, Round, is_empty}
use Rattle.core_ast.specs.Made.{act, expression, linked, undefined, variable}
use Rattle.core_ast.specs.Names.{next}
use Rattle.lawful_passes.proofs.Far.{Are, Is, SoFar, act_far, do_is, done_is, joined, linked_far, more_sites, number_is, rolled_is, site_count, variable_is}
use Rattle.lawful_passes.proofs.Spilling.{Sound}
use Rattle.lawful_passes.proofs.Stepping.{sound_whole}
use Rattle.lowering_laws.specs.Classes.{ClassesAreLawful, DefaultBodiesAreLawful, ObjectsAreLawful, ParametersAreLawful, SuperIsLawful, ThisIsLawful, begun_lawful, class_key_lawful, class_member_lawful, object_key_lawful, object_member_lawful, parameter_lawful, rest_lawful}
use Rattle.lowering_laws.specs.InRound.{Drawn, IsLawfulIfThere, expr_lawful, part_lawful}
use Rattle.lowering_laws.specs.References.{MakesLawful, with_names}
use Rattle.lowering_laws.proofs.Expressions.{AllPlain, acted, all_more, behind, list_is, lists_are_lawful, plain_strict, plainly, text_is}
use Rattle.lowering_laws.proofs.Patterns.{defaulted_are, name_far, property_sound, to_text_is}
use Rattle.lowering_laws.proofs.References.{new_drawn, one_more, raise, size}
use Rattle.lowering_laws.proofs.Statements.{flag_is, initialize_is, set_is, then_is, undefined_is}
use Rattle.lowering_rules.specs.Classes as c
use Rattle.lowering_rules.specs.Functions as f
use Rattle.lowering_rules.specs.Making.{defaulted, flag, initialize, number, stored, through, uninitialized}
use Rattle.lowering_rules.specs.Naming.{with_temporary}
use Rattle.lowering_rules.specs.declared.classes.ClassKey.{ClassKey}
use Rattle.lowering_rules.specs.declared.classes.ClassKey.TheVariants.{ComputedName, TextName}
use Rattle.lowering_rules.specs.declared.classes.ClassMember.{ClassMember}
use Rattle.lowering_rules.specs.declared.classes.ClassNames.{ClassNames}
use Rattle.lowering_rules.specs.declared.classes.MemberKind.{MemberKind}
use Rattle.lowering_rules.specs.declared.classes.MemberKind.TheVariants.{Getter, Method, Setter}
use Rattle.lowering_rules.specs.declared.expressions.ListPart.{ListPart}
use Rattle.lowering_rules.specs.declared.expressions.ListPart.TheVariants.{Spread}
use Rattle.lowering_rules.specs.declared.functions.BodyVar.{BodyVar}
use Rattle.lowering_rules.specs.declared.functions.Parameter.{Parameter}
use Rattle.lowering_rules.specs.declared.functions.RestParameter.{RestParameter}
use Rattle.lowering_rules.specs.declared.naming.Names.{Names}
use Rattle.lowering_rules.specs.declared.reference_rules.objects.ObjectKey.{ObjectKey}
use Rattle.lowering_rules.specs.declared.reference_rules.objects.ObjectKey.TheVariants.{Evaluated, Written}
use Rattle.lowering_rules.specs.declared.reference_rules.objects.ObjectMember.{ObjectMember}
use Rattle.lowering_rules.specs.declared.reference_rules.objects.ObjectMember.TheVariants.{Defined, Valued}
use Rattle.lowering_rules.specs.reference_rules.Objects as o
use Rattle.pass_rules.proofs.pass_laws.Within.{left, right, both, either}

-- ## Functions that are held

pub closure_is : (r : Round) (g : FunctionId) → nat_lt g.0 r.functions ≡ true → Sound r (c.closure g)
closure_is r g h = list_is r (head.Function g) [] refl h tt

put_is : (r : Round) (kind : MemberKind) (key : CoreExpr) (g : FunctionId) (object : CoreExpr) → Sound r key → nat_lt g.0 r.functions ≡ true → Sound r object → Sound r (c.put kind key g object)
unfolding c.put
put_is r Method key g object h k m = behind r (op.Primitive MethodPut) (key ∷ c.closure g ∷ flag true ∷ []) object plainly refl refl refl (both h (both (closure_is r g k) (both (flag_is r true) refl))) m
put_is r Getter key g object h k m = behind r (op.Primitive AccessorPut) (key ∷ c.closure g ∷ flag false ∷ []) object plainly refl refl refl (both h (both (closure_is r g k) (both (flag_is r false) refl))) m
put_is r Setter key g object h k m = behind r (op.Primitive AccessorPut) (key ∷ c.closure g ∷ flag true ∷ []) object plainly refl refl refl (both h (both (closure_is r g k) (both (flag_is r true) refl))) m

-- ## Object literals

key_part_is : (r : Round) (key : ObjectKey) → object_key_lawful r key ≡ true → Sound r (o.key_part key)
unfolding o.key_part
key_part_is r (Written key units) h = text_is r units
key_part_is r (Evaluated x) h = to_text_is r x h

member_put_is : (r : Round) (object : CoreExpr) (m : ObjectMember) → Sound r object → object_member_lawful r m ≡ true → Sound r (o.member_put object m)
unfolding o.member_put
member_put_is r object (Valued key value) h k = behind r (op.Primitive MethodPut) (o.key_part key ∷ value ∷ flag false ∷ []) object plainly refl refl refl (both (key_part_is r key (left _ _ k)) (both (right _ _ k) (both (flag_is r false) refl))) h
member_put_is r object (Defined key kind g) h k = put_is r kind (o.key_part key) g object (key_part_is r key (left _ _ k)) (right _ _ k) h

defining_plain : (r : Round) (m : ObjectMember) → object_member_lawful r m ≡ true → AllPlain r (o.defining m)
unfolding o.defining
defining_plain r (Valued (Written key units) value) h = (plain_strict r (op.Define key) (value ∷ []) refl refl refl (left _ _ h) (both (right _ _ h) refl), tt)
defining_plain r (Valued (Evaluated x) value) h = tt
defining_plain r (Defined key kind g) h = tt

all_defining : (r : Round) (ms : List ObjectMember) → list_all (object_member_lawful r) ms ≡ true → AllPlain r (flat_map o.defining ms)
all_defining r [] h = tt
all_defining r (m ∷ ms) h = all_more r (o.defining m) (flat_map o.defining ms) (defining_plain r m (left _ _ h)) (all_defining r ms (right _ _ h))

literal_is : (r : Round) (ms : List ObjectMember) → list_all (object_member_lawful r) ms ≡ true → Sound r (o.literal ms)
literal_is r ms h = list_is r head.ObjectList (flat_map o.defining ms) refl refl (all_defining r ms h)

taken : (r : Round) (k : ℕ) (ms : List ObjectMember) → list_all (object_member_lawful r) ms ≡ true → list_all (object_member_lawful r) (take k ms) ≡ true
taken r zero ms h = refl
taken r (suc k) [] h = refl
taken r (suc k) (m ∷ ms) h = both (left _ _ h) (taken r k ms (right _ _ h))

dropped : (r : Round) (k : ℕ) (ms : List ObjectMember) → list_all (object_member_lawful r) ms ≡ true → list_all (object_member_lawful r) (drop k ms) ≡ true
dropped r zero ms h = h
dropped r (suc k) [] h = refl
dropped r (suc k) (m ∷ ms) h = dropped r k ms (right _ _ h)

-- links behind an expression that leaves a plain value
more_assoc : (xs : List CoreLink) (l : CoreLink) (ls : List CoreLink) → (xs ++ l ∷ []) ++ ls ≡ xs ++ l ∷ ls
more_assoc [] l ls = refl
more_assoc (x ∷ xs) l ls = ap (λ ks. x ∷ ks) (more_assoc xs l ls)

behind_far : (r : Round) (x : CoreExpr) (ls : List CoreLink) → SoFar r Plain 1 x → AllPlain r ls → SoFar r Plain 1 (o.behind x ls)
behind_far r x [] h k = subst (λ ks. SoFar r Plain 1 (expression (out-CoreExpr x).site (out-CoreExpr x).head ks)) (sym (with_nothing (out-CoreExpr x).links)) (record { site = h.site; head = h.head; links = h.links; ends = h.ends; sites = h.sites })
  where
    with_nothing : (xs : List CoreLink) → xs ++ [] ≡ xs
    with_nothing [] = refl
    with_nothing (x ∷ xs) = ap (λ ks. x ∷ ks) (with_nothing xs)
behind_far r x (l ∷ ls) h k =
    let a = linked_far r Plain 1 x l h k.0.ends k.0.lawful in
    let e = ap site_count k.0.site in
    let b = more_sites r _ _ 1 (linked x l) (let z : 1 + site_count None ≤ 1 = omega arith in subst (λ q. 1 + site_count q ≤ 1) (sym k.0.site) z) a in
    let d = behind_far r (linked x l) ls (subst (λ at. SoFar r at 1 (linked x l)) k.0.after b) k.1 in
    subst (λ ks. SoFar r Plain 1 (expression (out-CoreExpr x).site (out-CoreExpr x).head ks)) (more_assoc (out-CoreExpr x).links l ls) d

putting_plain : (r : Round) (t : Var) (ms : List ObjectMember) → Drawn r t → list_all (object_member_lawful r) ms ≡ true → AllPlain r (map (o.putting t) ms)
putting_plain r t [] d h = tt
putting_plain r t (m ∷ ms) d h = (plain_strict r op.Then (o.member_put (variable t) m ∷ []) refl refl refl refl (both (member_put_is r (variable t) m (variable_is r t d) (left _ _ h)) refl), putting_plain r t ms d (right _ _ h))

completed_is : (r : Round) (first : CoreExpr) (rest : List ObjectMember) (t : Var) → Sound r first → Drawn r t → list_all (object_member_lawful r) rest ≡ true → Sound r (o.completed first rest t)
completed_is r first rest t h d k =
    let w = sound_whole r first h in
    then_is r _ (variable t) (done_is r Plain _ (behind_far r (stored t first) (map (o.putting t) rest) (act_far r w.at 1 (op.Set t) first (plainly w.at w.plain) refl d w.far) (putting_plain r t rest d k)) refl) (variable_is r t d)

raise_key : (r : Round) (n m : Names) (key : ObjectKey) → size n ≤ size m → object_key_lawful (with_names n r) key ≡ true → object_key_lawful (with_names m r) key ≡ true
raise_key r n m (Written key units) l h = h
raise_key r n m (Evaluated x) l h = raise r n m x l h

raise_members : (r : Round) (n m : Names) (ms : List ObjectMember) → size n ≤ size m → list_all (object_member_lawful (with_names n r)) ms ≡ true → list_all (object_member_lawful (with_names m r)) ms ≡ true
raise_members r n m [] l h = refl
raise_members r n m (x ∷ ms) l h = both (raise_member x (left _ _ h)) (raise_members r n m ms l (right _ _ h))
  where
    raise_member : (x : ObjectMember) → object_member_lawful (with_names n r) x ≡ true → object_member_lawful (with_names m r) x ≡ true
    raise_member (Valued key value) h = both (raise_key r n m key l (left (object_key_lawful (with_names n r) key) (expr_lawful value (with_names n r)) h)) (raise r n m value l (right (object_key_lawful (with_names n r) key) (expr_lawful value (with_names n r)) h))
    raise_member (Defined key kind g) h = both (raise_key r n m key l (left (object_key_lawful (with_names n r) key) (nat_lt g.0 r.functions) h)) (right (object_key_lawful (with_names n r) key) (nat_lt g.0 r.functions) h)

pub objects_are_lawful : ObjectsAreLawful
objects_are_lawful r members n h =
    let k = o.front [] members in let first = o.literal (take k members) in let rest = drop k members in
    let m = with_temporary n in let l = one_more n in let before = with_names n r in let after = with_names m r in
    let f = literal_is before (take k members) (taken before k members h) in
    either (MakesLawful r) (is_empty rest) f
    (completed_is after first rest (next n.fresh) (raise r n m first (omega arith) f) (new_drawn r n m (omega arith)) (raise_members r n m rest (omega arith) (dropped before k members h)))

-- ## `this` and `super`

pub this_is_lawful : ThisIsLawful
this_is_lawful r derived = either (λ ls. Sound r (expression None head.This ls)) derived {x = act (op.Primitive CheckReady) ∷ []} {y = []}
    (acted r (op.Primitive CheckReady) (expression None head.This []) plainly refl refl refl (list_is r head.This [] refl refl tt)) (list_is r head.This [] refl refl tt)

super_call_is : (r : Round) (parts : List ListPart) → list_all (part_lawful r) parts ≡ true → Sound r (c.super_call parts)
super_call_is r parts h = acted r (op.Primitive ThisBind) _ plainly refl refl refl (acted r (op.Primitive SuperConstruct) _ plainly refl refl refl (lists_are_lawful r parts h).1)

pub super_is_lawful : SuperIsLawful
super_is_lawful r parts key derived = (λ h. super_call_is r parts h, λ h. behind r (op.Primitive SuperGet) (c.this derived ∷ []) key plainly refl refl refl (both (this_is_lawful r derived) refl) h)

-- ## Classes

rest_list_is : (r : Round) (n : ℕ) → lawful.is_safe n ≡ true → Sound r (through (number n) RestList)
rest_list_is r n h = acted r (op.Primitive RestList) (number n) plainly refl refl refl (number_is r n h)

pub default_bodies_are_lawful : DefaultBodiesAreLawful
default_bodies_are_lawful r derived = either (Are r) derived {x = stat.Do (c.super_call (Spread (through (number 0) RestList) ∷ [])) ∷ []} {y = []} (both (do_is r _ (super_call_is r (Spread (through (number 0) RestList) ∷ []) (both (rest_list_is r 0 refl) refl))) refl) refl

key_kept_are : (r : Round) (key : ClassKey) → class_key_lawful r key ≡ true → Are r (c.key_kept key)
unfolding c.key_kept
key_kept_are r (TextName units) h = refl
key_kept_are r (ComputedName kept key) h = both (set_is r kept _ (left _ _ h) (to_text_is r key (right _ _ h))) refl

key_of_is : (r : Round) (key : ClassKey) → class_key_lawful r key ≡ true → Sound r (c.key_of key)
unfolding c.key_of
key_of_is r (TextName units) h = text_is r units
key_of_is r (ComputedName kept key) h = variable_is r kept (left _ _ h)

home_drawn : (r : Round) (names : ClassNames) (is_static : Bool) → Drawn r names.class → Drawn r names.prototype → Drawn r (c.home names is_static)
home_drawn r names is_static d e = either (Drawn r) is_static {x = names.class} {y = names.prototype} d e

member_are : (r : Round) (names : ClassNames) (m : ClassMember) → Drawn r names.class → Drawn r names.prototype → class_member_lawful r m ≡ true → Are r (c.member names m)
member_are r names m d e h =
    let key = left (class_key_lawful r m.key) (nat_lt m.function.0 r.functions) h in let held = right (class_key_lawful r m.key) (nat_lt m.function.0 r.functions) h in
    joined r (c.key_kept m.key) _ (key_kept_are r m.key key) (both (do_is r _ (put_is r m.kind (c.key_of m.key) m.function (variable (c.home names m.is_static)) (key_of_is r m.key key) held (variable_is r (c.home names m.is_static) (home_drawn r names m.is_static d e)))) refl)

members_are : (r : Round) (names : ClassNames) (ms : List ClassMember) → Drawn r names.class → Drawn r names.prototype → list_all (class_member_lawful r) ms ≡ true → Are r (flat_map (c.member names) ms)
members_are r names [] d e h = refl
members_are r names (m ∷ ms) d e h = joined r (c.member names m) (flat_map (c.member names) ms) (member_are r names m d e (left _ _ h)) (members_are r names ms d e (right _ _ h))

made_is : (r : Round) (heritage : Option CoreExpr) (g : FunctionId) → IsLawfulIfThere r heritage → nat_lt g.0 r.functions ≡ true → Sound r (c.made heritage g)
unfolding c.made
made_is r None g h k = behind r (op.Primitive ClassMake) (undefined ∷ c.closure g ∷ []) (flag false) plainly refl refl refl (both (undefined_is r) (both (closure_is r g k) refl)) (flag_is r false)
made_is r (Some x) g h k = behind r (op.Primitive ClassMake) (x ∷ c.closure g ∷ []) (flag true) plainly refl refl refl (both h (both (closure_is r g k) refl)) (flag_is r true)

defined_are : (r : Round) (names : ClassNames) (heritage : Option CoreExpr) (g : FunctionId) (ms : List ClassMember) → Drawn r names.class → Drawn r names.prototype → IsLawfulIfThere r heritage → nat_lt g.0 r.functions ≡ true → list_all (class_member_lawful r) ms ≡ true → Are r (c.defined names heritage g ms)
defined_are r names heritage g ms d e h k m = both (set_is r names.class _ d (made_is r heritage g h k))
    (both (set_is r names.prototype _ e (property_sound r _ (name_far r (variable names.class) (WordKey c.prototype_name) (variable_is r names.class d) refl))) (members_are r names ms d e m))

pub classes_are_lawful : ClassesAreLawful
unfolding c.class_statements
classes_are_lawful r names None heritage g ms d e n h k m = defined_are r names heritage g ms d e h k m
classes_are_lawful r names (Some name) heritage g ms d e n h k m =
    let body = c.defined names heritage g ms ++ initialize name.var (variable names.class) ∷ [] in
    both (rolled_is r _ (layer.Scoped (name ∷ []) body) (stat.rolls-Scoped (name ∷ []) body) (both (both n refl)
    (joined r (c.defined names heritage g ms) _ (defined_are r names heritage g ms d e h k m) (both (initialize_is r name.var (variable names.class) n (variable_is r names.class d)) refl)))) refl

-- ## Parameters

pub uninitialized_is : (r : Round) (x : Var) → Drawn r x → Is r (uninitialized x)
uninitialized_is r x d = do_is r _ (list_is r head.Empty (act (op.Init x) ∷ []) refl refl (plain_strict r (op.Init x) [] refl refl refl d refl, tt))

pub uninitialized_are : (r : Round) (xs : List Var) → list_all (lawful.is_drawn r) xs ≡ true → Are r (map uninitialized xs)
uninitialized_are r [] h = refl
uninitialized_are r (x ∷ xs) h = both (uninitialized_is r x (left _ _ h)) (uninitialized_are r xs (right _ _ h))

bound_are : (r : Round) (ps : List Parameter) → list_all (parameter_lawful r) ps ≡ true → Are r (flat_map f.bound ps)
bound_are r [] h = refl
bound_are r (q ∷ ps) h =
    let k = left (parameter_lawful r q) (list_all (parameter_lawful r) ps) h in
    joined r (f.bound q) (flat_map f.bound ps) (joined r (defaulted q.formal q.default) q.bound (defaulted_are r q.formal q.default (left _ _ (left _ _ k)) (right _ _ (left _ _ k))) (right _ _ k)) (bound_are r ps (right _ _ h))

rest_are : (r : Round) (n : ℕ) (rest : Option RestParameter) → lawful.is_safe n ≡ true → rest_lawful r rest ≡ true → Are r (f.rest_bound n rest)
unfolding f.rest_bound
rest_are r n None s h = refl
rest_are r n (Some q) s h = both (initialize_is r q.list _ (left _ _ h) (rest_list_is r n s)) (right _ _ h)

begun_are : (r : Round) (bs : List BodyVar) → list_all (begun_lawful r) bs ≡ true → Are r (map f.begun bs)
begun_are r [] h = refl
begun_are r (b ∷ bs) h =
    let k = left (begun_lawful r b) (list_all (begun_lawful r) bs) h in
    both (initialize_is r b.var (variable b.parameter) (left _ _ k) (variable_is r b.parameter (right _ _ k))) (begun_are r bs (right _ _ h))

pub parameters_are_lawful : ParametersAreLawful
parameters_are_lawful r ps rest scope safe h k m n =
    let a = map uninitialized scope.names in let b = flat_map f.bound ps in let d = f.rest_bound (length ps) rest in
    joined r ((a ++ b) ++ d) (map f.begun scope.body) (joined r (a ++ b) d (joined r a b (uninitialized_are r scope.names m) (bound_are r ps h)) (rest_are r (length ps) rest safe k)) (begun_are r scope.body n)
